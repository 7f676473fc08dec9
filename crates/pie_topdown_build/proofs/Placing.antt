-- What a committed plan leaves, where of the pending names is known only whether they were there.
use Rattle.std.proofs.Common.{◌≡◌, ◌⊎◌, inl, inr, ℕ, Bool, true, false, cond, List, Vec, Global, refl, sym, ap, subst, ◌∙◌}
use Rattle.std.proofs.lemmas.Bool.{false≢true}
use Rattle.std.proofs.lemmas.Cmp.{nat_list_cmp_total}
use Rattle.std.specs.FinMap as fin
use Rattle.std.specs.Prelude.{◌||◌, Contains, Option, None, Some, Ok, is_some}
use Rattle.std.specs.Option.{option_map}
use Rattle.sha2.specs.Sha256.{sha256}
use Rattle.pie_base.specs.Path.{is_out, same_text}
use Rattle.pie_check_laws.proofs.Members.{from_map}
use Rattle.pie_commit.proofs.Standing.{same_path, same_itself}
use Rattle.pie_commit.specs.declared.plan.Pending.{Pending}
use Rattle.pie_commit.specs.declared.plan.Pending.TheVariants as ends
use Rattle.pie_commit.specs.declared.plan.Plan.{Plan}
use Rattle.pie_commit.specs.inner.Plans.{Gone, Meets, later, at, removed, written, pended, stored, changes}
use Rattle.pie_diff.specs.Hashes.{hash_in}
use Rattle.pie_files.specs.Directory.{Directory, file_at, with_file}
use Rattle.pie_graph.proofs.EdgeOrder.{text_tie}
use Rattle.pie_incremental.specs.declared.base.OwnFiles.{OwnFiles}
use Rattle.pie_incremental.specs.Kept.{is_builders}
use Rattle.pie_incremental.specs.Own.{bytes_at, open_path, store_path, pending_path, IsClosed}
use Rattle.pie_incremental.specs.inner.Built.{AreFilesOf, IsKnown}
use Rattle.pie_incremental.specs.inner.Changes.{bytes_of, Changes}
use Rattle.pie_incremental.specs.inner.Plans.{HasChanged, IsChangesPlan, Places}
use Rattle.pie_incremental.proofs.OwnPaths.{or_right, places}
use Rattle.pie_incremental.proofs.Placing.{places_by}
use Rattle.pie_left_laws.specs.Placed.{IsPlaced, StaysAs}
use Rattle.pie_record.specs.declared.task_record.TaskRecord.{TaskRecord}
use Rattle.pie_results.specs.inner.Files.{contents_in}
use Rattle.pie_topdown_build.specs.inner.Cleaned.{IsKnownOf}

-- ---- a directory whose pending names have these bytes, if there are any

abbrev with_names : Option (Vec ℕ Global) → Directory → Directory
with_names None d = d
with_names (Some v) d = with_file d pending_path v.items 0

other : (o : Option (Vec ℕ Global)) (d : Directory) (q : List ℕ) → same_text q pending_path ≡ false → file_at (with_names o d) q ≡ file_at d q
other None d q off = refl
other (Some v) d q off =
    fin.get-insert nat_list_cmp_total d pending_path (v.items, 0) q
    ∙ ap (λ t. cond t (Some (v.items, 0)) (file_at d q)) (text_tie q pending_path ∙ off)

bytes_other : (o : Option (Vec ℕ Global)) (d : Directory) (q : List ℕ) → same_text q pending_path ≡ false → bytes_at (with_names o d) q ≡ bytes_at d q
bytes_other o d q off = ap (option_map (λ (f : List ℕ × ℕ). f.0)) (other o d q off)

hash_other : (o : Option (Vec ℕ Global)) (d : Directory) (q : List ℕ) → same_text q pending_path ≡ false → hash_in (with_names o d) q ≡ hash_in d q
hash_other o d q off = ap (option_map (λ (f : List ℕ × ℕ). sha256 f.0)) (other o d q off)

none_there : (o : Option (List ℕ)) → false ≡ is_some o → o ≡ None
none_there None e = refl
none_there (Some b) e = absurd (false≢true e)

names_are : (o : Option (Vec ℕ Global)) (d : Directory) → is_some o ≡ is_some (bytes_at d pending_path) → bytes_at (with_names o d) pending_path ≡ bytes_of o
names_are None d same = none_there (bytes_at d pending_path) same
names_are (Some v) d same =
    ap (option_map (λ (f : List ℕ × ℕ). f.0))
    (fin.get-insert nat_list_cmp_total d pending_path (v.items, 0) pending_path
    ∙ ap (λ t. cond t (Some (v.items, 0)) (file_at d pending_path)) (text_tie pending_path pending_path ∙ same_itself pending_path))

-- a path under `out/` isn't that of the pending names
out_other : (q : List ℕ) → is_out q ≡ true → same_text q pending_path ≡ false
out_other q on = by (same_text q pending_path) refl
  where
    by : (t : Bool) → same_text q pending_path ≡ t → t ≡ false
    by true e = absurd (false≢true (sym (ap is_out (same_path q pending_path e)) ∙ on))
    by false e = refl

-- ---- what the plan makes of them

-- pending names that are there go
gone : (p : Plan) (own : OwnFiles) (held : List (List ℕ × List ℕ)) (rows : List TaskRecord) (contents : List (List ℕ × Vec ℕ Global)) (text : Vec ℕ Global)
    → IsChangesPlan own held rows contents text p → p.pending ≡ ends.Drop → changes p pending_path ≡ Gone
gone p own held rows contents text plan drop =
    let own_places = places p plan.places in
    let files = later (written p.writes.items pending_path) (removed p.removals.items pending_path) in
    ap (λ m. later (at m (stored p.store) pending_path) (later (at p.names_place (pended p.pending) pending_path) files)) own_places.store
    ∙ ap (λ m. later (at m (pended p.pending) pending_path) files) own_places.names
    ∙ ap (λ x. later (pended x) files) drop

module _ (own : OwnFiles) (held : List (List ℕ × List ℕ)) (rows : List TaskRecord) (contents : List (List ℕ × Vec ℕ Global)) (text : Vec ℕ Global)
    (p : Plan) (plan : IsChangesPlan own held rows contents text p) (d : Directory) (known : IsKnownOf own held d) (files : AreFilesOf rows contents) where
  abbrev mended : Directory
  mended = with_names own.pending d

  is_known : IsKnown own held mended
  is_known = record {
    closed = bytes_other own.pending d open_path refl ∙ known.stored.closed;
    store = bytes_other own.pending d store_path refl ∙ known.stored.text_is;
    pending = names_are own.pending d known.pending;
    files = λ q on. known.files q on ∙ sym (hash_other own.pending d q (out_other q on));
  }

  -- at the pending names the plan does the same whatever their bytes are
  names_met : (left : Directory) (o : Option (Vec ℕ Global)) (x : Pending) → own.pending ≡ o → p.pending ≡ x → Changes (bytes_of o) None x
      → Meets (changes p pending_path) (file_at d pending_path) (file_at left pending_path)
      → Meets (changes p pending_path) (file_at (with_names o d) pending_path) (file_at left pending_path)
  names_met left None x is end c m = m
  names_met left (Some v) ends.Keep is end c m = absurd (some_none v.items c)
    where
      some_none : (b : List ℕ) → Some b ≡ None → ⊥
      some_none b e = cc
  names_met left (Some v) (ends.Put b) is end c m = absurd (none_some b.items c.0)
    where
      none_some : (x : List ℕ) → None ≡ Some x → ⊥
      none_some x e = cc
  names_met left (Some v) ends.Drop is end c m =
      let w = gone p own held rows contents text plan end in
      subst (λ x. Meets x (file_at (with_names (Some v) d) pending_path) (file_at left pending_path)) (sym w)
      (subst (λ x. Meets x (file_at d pending_path) (file_at left pending_path)) w m)

  met : (left : Directory) (q : List ℕ) → Meets (changes p q) (file_at d q) (file_at left q) → Meets (changes p q) (file_at mended q) (file_at left q)
  met left q m = by (same_text q pending_path) refl
    where
      by : (t : Bool) → same_text q pending_path ≡ t → Meets (changes p q) (file_at mended q) (file_at left q)
      by true e =
          let is = same_path q pending_path e in
          subst (λ x. Meets (changes p x) (file_at mended x) (file_at left x)) (sym is)
          (names_met left own.pending p.pending refl refl plan.pending (subst (λ x. Meets (changes p x) (file_at d x) (file_at left x)) is m))
      by false e = subst (λ f. Meets (changes p q) f (file_at left q)) (sym (other own.pending d q e)) m

  mended_changed : (after : Option Directory) → HasChanged p d after → HasChanged p mended after
  mended_changed after h = record { left = h.left; told = h.told; closed = h.closed; changed = λ q off. met h.left q (h.changed q off) }

  abbrev with_bytes : List ℕ × Vec ℕ Global → List ℕ × List ℕ
  with_bytes f = (f.0, f.1.items)

  -- a file of the build lies under `out/`
  put_out : (path bytes : List ℕ) → Contains (contents_in contents) (path, bytes) → is_out path ≡ true
  put_out path bytes i =
      let m = from_map with_bytes contents (path, bytes) i in ap (λ (x : List ℕ × List ℕ). is_out x.0) (sym m.2) ∙ files.out m.0 m.1

  placed : (left : Directory) → IsPlaced rows (contents_in contents) text.items mended left → IsPlaced rows (contents_in contents) text.items d left
  placed left is = record {
    put = λ path bytes i. put path (put_out path bytes i) bytes (is.put path bytes i);
    same = λ q on wrote none. is.same q on wrote none ∙ other own.pending d q (out_other q on);
    gone = is.gone;
    rest = λ q off. is.rest q off
        ∙ other own.pending d q (or_right (same_text q open_path || same_text q store_path) (same_text q pending_path) (or_right (is_out q) (is_builders q) off));
    store = is.store;
    no_names = is.no_names;
    closed = is.closed;
  }
    where
      put : (path : List ℕ) → is_out path ≡ true → (bytes : List ℕ) → (bytes_at left path ≡ Some bytes) ⊎ StaysAs mended left path bytes
          → (bytes_at left path ≡ Some bytes) ⊎ StaysAs d left path bytes
      put path on bytes (inl is) = inl is
      put path on bytes (inr stays) =
          let off = out_other path on in inr (sym (hash_other own.pending d path off) ∙ stays.0, stays.1 ∙ other own.pending d path off)

  done : (after : Option Directory) → HasChanged p d after → Places p mended after
  done after h = places_by {A = Unit {0}} p (Some mended) after (Ok tt) (λ closed. mended_changed after h)

  pub puts : (after : Option Directory) → (IsClosed d → HasChanged p d after)
      → (left : Directory) × (after ≡ Some left) × IsPlaced rows (contents_in contents) text.items d left
  puts after changed =
      let made = done after (changed known.stored.closed) own held rows contents text plan is_known files in (made.0, made.1, placed made.0 made.2)
