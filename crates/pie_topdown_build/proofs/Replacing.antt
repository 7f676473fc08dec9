-- What a committed plan leaves of a build that had nothing to build from: it puts what was made into place, whatever was there.
use Rattle.std.proofs.Common.{◌≡◌, ◌⊎◌, inl, inr, ℕ, Bool, true, false, cond, not, List, [], ◌∷◌, length, Vec, Global, refl, sym, ap, subst, ◌∙◌}
use Rattle.std.proofs.lemmas.Bool.{false≢true}
use Rattle.std.proofs.lemmas.Map.Lookups.{exact_bytes}
use Rattle.std.specs.FinMap as fin
use Rattle.std.specs.Prelude.{◌&&◌, ◌||◌, Box, Contains, IfOk, IfSome, IsSome, OnOk, Option, None, Some, Result, Ok, Err, is_some}
use Rattle.std.specs.Cmp.Lexicographic.{slice_cmp}
use Rattle.std.specs.List.{filter, list_any}
use Rattle.std.specs.List.Sorted.{IsStrictlySortedBy}
use Rattle.std.specs.Option.{option_map}
use Rattle.std.specs.Ordering.{nat_cmp}
use Rattle.std.specs.declared.cmp.Ordering.TheVariants.{Equal}
use Rattle.sha2.specs.Sha256.{sha256}
use Rattle.pie_base.specs.Path.{is_out, same_text}
use Rattle.pie_build.proofs.InPlace.{is_any}
use Rattle.pie_check_laws.proofs.Members.{from_map, here, into_map, there}
use Rattle.pie_commit.proofs.Bringing.{get_with}
use Rattle.pie_commit.proofs.Standing.{same_path}
use Rattle.pie_commit.specs.Outcomes.{HasBrought}
use Rattle.pie_commit.specs.declared.plan.Plan.{Plan}
use Rattle.pie_commit.specs.inner.Plans.{Wanted, Same, Gone, Bytes, Meets, later, at, removed, written, pended, stored, stores_none, is_empty, is_none, keeps}
use Rattle.pie_commit.specs.inner.Plans.{changes, wanted_by}
use Rattle.pie_core_laws.specs.Update.{Update, present}
use Rattle.pie_diff.specs.Hashes.{files_paths, hash_in, is_hash, is_new}
use Rattle.pie_diff.specs.Removals.{written_by}
use Rattle.pie_files.specs.Directory.{Directory, file_at, with_file}
use Rattle.pie_files.specs.declared.files.FilesError.{FilesError}
use Rattle.pie_incremental.specs.declared.base.OwnFiles.{OwnFiles}
use Rattle.pie_incremental.specs.Own.{bytes_at, open_path, store_path, pending_path}
use Rattle.pie_incremental.specs.inner.Built.{AreFilesOf}
use Rattle.pie_incremental.specs.inner.Cleaned.{HasParts, IsPlanFor, TellsPlan}
use Rattle.pie_incremental.specs.inner.Plans.{HasChanged, IsChangesPlan}
use Rattle.pie_incremental.proofs.Commits.{changes_wanted}
use Rattle.pie_incremental.proofs.OwnPaths.{or_left, or_right, places}
use Rattle.pie_incremental.proofs.Putting.{all_has, in_files, none_of}
use Rattle.pie_left_laws.specs.Accepted.{live_now}
use Rattle.pie_left_laws.specs.Placed.{is_builders, IsPlaced, StaysAs}
use Rattle.pie_left_laws.specs.Reported.{IsStray}
use Rattle.pie_left_laws.proofs.Provides.{no_some, path_provided, provided_path}
use Rattle.pie_left_laws.proofs.Putting.{is_built}
use Rattle.pie_model.specs.Built.{provided_at}
use Rattle.pie_reach.specs.Plan.{path_cmp}
use Rattle.pie_record.specs.declared.task_record.TaskRecord.{TaskRecord}
use Rattle.pie_report.specs.declared.report.Report.{Report}
use Rattle.pie_results.specs.inner.Files.{contents_in, InPathOrder}
use Rattle.pie_store.specs.declared.image.StoreImage.{StoreImage}
use Rattle.pie_value.specs.declared.task.Task.{Task}
use Rattle.pie_value.specs.declared.value.Value.{Value}
use Rattle.pie_topdown_build.specs.inner.Anew.{IsKnownBeside, LeavesAnewOf}
use Rattle.pie_topdown_build.specs.inner.Cleaned.{IsExactBuild, IsKnownOf, PutsAnew}
use Rattle.pie_topdown_build.specs.inner.Filed.{ProvidesAll}
use Rattle.pie_topdown_build.proofs.Leaving.{files_of}
use Rattle.pie_topdown_build.proofs.Placing.{puts}
use Rattle.pie_topdown_build.proofs.Storing.{some_text, wanted}

abbrev Files : Type 0
Files = List (List ℕ × Vec ℕ Global)

-- ---- a plan that stores something

none_differs : {A : Type 0} (x : A) (o : Option A) → o ≡ Some x → stores_none o ≡ false
none_differs x None e = cc
none_differs x (Some y) e = refl

and_false : (a b c : Bool) → b ≡ false → (a && b && c) ≡ false
and_false true true c e = absurd (false≢true (sym e))
and_false true false c e = refl
and_false false b c e = refl

pub not_empty : (p : Plan) (text : Vec ℕ Global) → p.store ≡ Some text → is_empty p ≡ false
not_empty p text is =
    and_false (is_none p.removals.items && is_none p.writes.items) (stores_none p.store) (keeps p.pending) (none_differs text p.store is)

-- it leaves no marker, whether one stood or not
brought_changed : (p : Plan) (d : Directory) (after : Option Directory) (own : OwnFiles) (held : List (List ℕ × List ℕ)) (rows : List TaskRecord)
    (contents : Files) (text : Vec ℕ Global) → IsChangesPlan own held rows contents text p → HasBrought (wanted_by p) (Some d) after → HasChanged p d after
brought_changed p d after own held rows contents text plan brought =
    let its = places p plan.places in
    let gone : Meets Gone (file_at d open_path) (file_at brought.0 open_path) =
    subst (λ w. Meets w (file_at d open_path) (file_at brought.0 open_path)) (ap (λ m. later (at m Gone open_path) (changes p open_path)) its.marker)
    (brought.2 open_path) in
    record {
      left = brought.0;
      told = brought.1;
      closed = ap (option_map (λ f. f.0)) gone;
      changed = λ q off. subst (λ w. Meets w (file_at d q) (file_at brought.0 q)) (changes_wanted p plan.places q off) (brought.2 q);
    }

-- ---- what is written

-- a list of which all pass
all_pass : (test : List ℕ × Vec ℕ Global → Bool) (fs : Files) → ((f : List ℕ × Vec ℕ Global) → Contains fs f → test f ≡ true) → filter test fs ≡ fs
all_pass test [] all = refl
all_pass test (f ∷ fs) all =
    ap (λ t. cond t (f ∷ filter test fs) (filter test fs)) (all f (here f fs)) ∙ ap (λ gs. f ∷ gs) (all_pass test fs (λ g i. all g (there f g fs i)))

-- no bytes are wanted at a path that none of them has
written_none : (fs : Files) (q : List ℕ) → list_any (same_text q) (files_paths fs) ≡ false → written fs q ≡ Same
written_none [] q k = refl
written_none (f ∷ fs) q k =
    ap (λ x. later x (at f.0 (Bytes f.1.items) q)) (written_none fs q (or_right (same_text q f.0) (list_any (same_text q) (files_paths fs)) k))
    ∙ ap (λ t. later Same (cond t (Bytes f.1.items) Same)) (or_left (same_text q f.0) (list_any (same_text q) (files_paths fs)) k)

-- bytes are, at the path of one of them
written_some : (fs : Files) (q : List ℕ) → list_any (same_text q) (files_paths fs) ≡ true → (b : List ℕ) × (written fs q ≡ Bytes b)
written_some [] q e = absurd (false≢true e)
written_some (f ∷ fs) q e = by (λ h. written_some fs q h) (same_text q f.0) refl (list_any (same_text q) (files_paths fs)) refl e
  where
    put : Wanted
    put = at f.0 (Bytes f.1.items) q

    by : (list_any (same_text q) (files_paths fs) ≡ true → (b : List ℕ) × (written fs q ≡ Bytes b)) → (t : Bool) → same_text q f.0 ≡ t
        → (u : Bool) → list_any (same_text q) (files_paths fs) ≡ u → (t || u) ≡ true → (b : List ℕ) × (later (written fs q) put ≡ Bytes b)
    by more t g true h e = let m = more h in (m.0, ap (λ x. later x put) m.1)
    by more true g false h e = (
      f.1.items,
      ap (λ x. later x put) (written_none fs q h) ∙ ap (λ t. later Same (cond t (Bytes f.1.items) Same)) g,
    )
    by more false g false h e = absurd (false≢true e)

-- where bytes are wanted, it is no matter what was there
bytes_meet : (w : Wanted) (b : List ℕ) (x y z : Option (List ℕ × ℕ)) → w ≡ Bytes b → Meets w x z → Meets w y z
bytes_meet w b x y z is m = subst (λ v. Meets v y z) (sym is) (subst (λ v. Meets v x z) is m)

-- a path that passes one test and not another one
apart_by : (test : List ℕ → Bool) (q path : List ℕ) → test q ≡ true → test path ≡ false → same_text q path ≡ false
apart_by test q path on off = by (same_text q path) refl
  where
    by : (b : Bool) → same_text q path ≡ b → b ≡ false
    by true e = absurd (false≢true (sym off ∙ ap test (sym (same_path q path e)) ∙ on))
    by false e = refl

hash_bytes : (o : Option (List ℕ × ℕ)) → IsSome (option_map (λ (f : List ℕ × ℕ). sha256 f.0) o) → IsSome (option_map (λ (f : List ℕ × ℕ). f.0) o)
hash_bytes None h = cc
hash_bytes (Some f) h = refl

bytes_hash : (o : Option (List ℕ × ℕ)) → IsSome (option_map (λ (f : List ℕ × ℕ). f.0) o) → IsSome (option_map (λ (f : List ℕ × ℕ). sha256 f.0) o)
bytes_hash None h = cc
bytes_hash (Some f) h = refl

some_is : (o : Option (List ℕ)) (b : List ℕ) → o ≡ Some b → IsSome o
some_is None b e = no_some e
some_is (Some c) b e = refl

module _ (own : OwnFiles) (held : List (List ℕ × List ℕ)) (rows : List TaskRecord) (contents : Files) (text : Vec ℕ Global) (p : Plan)
    (plan : IsChangesPlan own held rows contents text p) (d : Directory) (known : IsKnownBeside own contents held d) (files : AreFilesOf rows contents)
    (some : text.items ≡ [] → ⊥) where
  -- one of the files has this path
  abbrev is_file : List ℕ → Bool
  is_file q = list_any (same_text q) (files_paths contents)

  file_out : (q : List ℕ) → is_file q ≡ true → is_out q ≡ true
  file_out q e = by (is_out q) refl
    where
      by : (b : Bool) → is_out q ≡ b → b ≡ true
      by true k = refl
      by false k =
          absurd (false≢true (sym (none_of q (files_paths contents) (λ i. let f = in_files q contents i in
          false≢true (sym k ∙ ap is_out (sym f.2) ∙ files.out f.0 f.1))) ∙ e))

  off_file : (q : List ℕ) → is_out q ≡ false → is_file q ≡ false
  off_file q off = by (is_file q) refl
    where
      by : (b : Bool) → is_file q ≡ b → b ≡ false
      by true e = absurd (false≢true (sym off ∙ file_out q e))
      by false e = refl

  -- ---- the directory without a marker and these files, and with a store of no bytes

  abbrev stays : List ℕ → Bool
  stays q = not (same_text q open_path) && not (is_file q)

  abbrev cleared : Directory
  cleared = with_file (fin.retain_keys d stays) store_path [] 0

  tied : (q x : List ℕ) → slice_cmp nat_cmp q x ≡ Equal → stays x ≡ stays q
  tied q x e = ap stays (sym (exact_bytes q x e))

  at_cleared : (q : List ℕ) → file_at cleared q ≡ cond (same_text q store_path) (Some ([], 0)) (cond (stays q) (file_at d q) None)
  at_cleared q =
      get_with (fin.retain_keys d stays) store_path [] 0 q
      ∙ ap (λ o. cond (same_text q store_path) (Some ([], 0)) o) (fin.get-retain_keys d stays q (λ x e. tied q x e))

  kept_there : (q : List ℕ) → same_text q store_path ≡ false → same_text q open_path ≡ false → is_file q ≡ false → file_at cleared q ≡ file_at d q
  kept_there q store open_is file =
      at_cleared q ∙ ap (λ b. cond b (Some ([], 0)) (cond (stays q) (file_at d q) None)) store
      ∙ ap (λ b. cond (not b && not (is_file q)) (file_at d q) None) open_is ∙ ap (λ b. cond (not b) (file_at d q) None) file

  none_there : (q : List ℕ) → is_file q ≡ true → file_at cleared q ≡ None
  none_there q e =
      at_cleared q ∙ ap (λ b. cond b (Some ([], 0)) (cond (stays q) (file_at d q) None)) (apart_by is_out q store_path (file_out q e) refl)
      ∙ ap (λ b. cond (not b && not (is_file q)) (file_at d q) None) (apart_by is_out q open_path (file_out q e) refl)
      ∙ ap (λ b. cond (not b) (file_at d q) None) e

  is_known : IsKnownOf own held cleared
  is_known = record {
    stored = record {
      closed = ap (option_map (λ (f : List ℕ × ℕ). f.0)) (at_cleared open_path);
      text_is = ap (option_map (λ (f : List ℕ × ℕ). f.0)) (at_cleared store_path) ∙ ap (λ (b : List ℕ). Some b) (sym known.store);
    };
    pending = known.pending
        ∙ ap (λ o. is_some (option_map (λ (f : List ℕ × ℕ). f.0) o)) (sym (kept_there pending_path refl refl (off_file pending_path refl)));
    files = λ q on. known.files q on ∙ by q on (is_file q) refl;
  }
    where
      by : (q : List ℕ) → is_out q ≡ true → (b : Bool) → is_file q ≡ b → cond b None (hash_in d q) ≡ hash_in cleared q
      by q on true e = ap (option_map (λ (f : List ℕ × ℕ). sha256 f.0)) (sym (none_there q e))
      by q on false e =
          ap (option_map (λ (f : List ℕ × ℕ). sha256 f.0))
          (sym (kept_there q (apart_by is_out q store_path on refl) (apart_by is_out q open_path on refl) e))

  -- ---- what the plan wants is there, whatever was there before

  store_written : changes p store_path ≡ Bytes text.items
  store_written = wanted own held rows contents text p plan ∙ ap stored (by (same_text own.store.items text.items) refl)
    where
      by : (b : Bool) → same_text own.store.items text.items ≡ b → cond b None (Some text) ≡ Some text
      by true e = absurd (some (sym (same_path own.store.items text.items e) ∙ known.store))
      by false e = refl

  pub stores : p.store ≡ Some text
  stores = plan.store ∙ by (same_text own.store.items text.items) refl
    where
      by : (b : Bool) → same_text own.store.items text.items ≡ b → cond b None (Some text) ≡ Some text
      by true e = absurd (some (sym (same_path own.store.items text.items e) ∙ known.store))
      by false e = refl

  all_new : (f : List ℕ × Vec ℕ Global) → Contains contents f → is_new held f ≡ true
  all_new f i =
      let at_path : is_file f.0 ≡ true = is_any f.0 (files_paths contents) (into_map (λ (x : List ℕ × Vec ℕ Global). x.0) contents f i) in
      ap (λ o. not (is_hash o (sha256 f.1.items))) (known.files f.0 (files.out f i) ∙ ap (λ b. cond b None (hash_in d f.0)) at_path)

  pub writes_all : p.writes.items ≡ contents
  writes_all = plan.writes ∙ all_pass (is_new held) contents all_new

  file_written : (q : List ℕ) → is_file q ≡ true → (b : List ℕ) × (changes p q ≡ Bytes b)
  file_written q e =
      let its = places p plan.places in
      let m = written_some contents q e in
      let out = removed p.removals.items q in (
        m.0,
        ap (λ b. later (cond b (stored p.store) Same) (later (at p.names_place (pended p.pending) q) (later (written p.writes.items q) out)))
            (ap (same_text q) its.store ∙ apart_by is_out q store_path (file_out q e) refl)
            ∙ ap (λ b. later Same (later (cond b (pended p.pending) Same) (later (written p.writes.items q) out)))
            (ap (same_text q) its.names ∙ apart_by is_out q pending_path (file_out q e) refl)
            ∙ ap (λ ws. later Same (later Same (later (written ws q) out))) writes_all ∙ ap (λ w. later Same (later Same (later w out))) m.1,
      )

  changed_so : (after : Option Directory) → HasChanged p d after → HasChanged p cleared after
  changed_so after h = record { left = h.left; told = h.told; closed = h.closed; changed = met }
    where
      met : (q : List ℕ) → same_text q open_path ≡ false → Meets (changes p q) (file_at cleared q) (file_at h.left q)
      met q off = by (same_text q store_path) refl (is_file q) refl
        where
          by : (s : Bool) → same_text q store_path ≡ s → (f : Bool) → is_file q ≡ f → Meets (changes p q) (file_at cleared q) (file_at h.left q)
          by true e f k =
              bytes_meet (changes p q) text.items (file_at d q) (file_at cleared q) (file_at h.left q)
              (ap (changes p) (same_path q store_path e) ∙ store_written) (h.changed q off)
          by false e true k =
              let m = file_written q k in bytes_meet (changes p q) m.0 (file_at d q) (file_at cleared q) (file_at h.left q) m.1 (h.changed q off)
          by false e false k = subst (λ x. Meets (changes p q) x (file_at h.left q)) (sym (kept_there q e off k)) (h.changed q off)

  -- ---- so what was made is put into place

  abbrev with_bytes : List ℕ × Vec ℕ Global → List ℕ × List ℕ
  with_bytes f = (f.0, f.1.items)

  path_in : (path bytes : List ℕ) → Contains (contents_in contents) (path, bytes) → is_file path ≡ true
  path_in path bytes i =
      let m = from_map with_bytes contents (path, bytes) i in
      is_any path (files_paths contents)
      (subst (λ x. Contains (files_paths contents) x) (ap (λ (x : List ℕ × List ℕ). x.0) m.2)
      (into_map (λ (x : List ℕ × Vec ℕ Global). x.0) contents m.0 m.1))

  pub in_contents : (path : List ℕ) → Contains (files_paths contents) path → (bytes : List ℕ) × Contains (contents_in contents) (path, bytes)
  in_contents path i =
      let f = in_files path contents i in
      (f.0.1.items, subst (λ (x : List ℕ). Contains (contents_in contents) (x, f.0.1.items)) f.2 (into_map with_bytes contents f.0 f.1))

  placed : (left : Directory) → IsPlaced rows (contents_in contents) text.items cleared left → IsPlaced rows (contents_in contents) text.items d left
  placed left is = record {
    put = λ path bytes i. inl (put path bytes i (is.put path bytes i));
    same = λ q on wrote none. is.same q on wrote none
        ∙ kept_there q (apart_by is_out q store_path on refl) (apart_by is_out q open_path on refl)
        (none_of q (files_paths contents) (λ i. let m = in_contents q i in none m.0 m.1));
    gone = is.gone;
    rest = λ q off. is.rest q off ∙ rest q (or_right (is_out q) (is_builders q) off) (or_left (is_out q) (is_builders q) off);
    store = is.store;
    no_names = is.no_names;
    closed = is.closed;
  }
    where
      put : (path bytes : List ℕ) → Contains (contents_in contents) (path, bytes) → (bytes_at left path ≡ Some bytes) ⊎ StaysAs cleared left path bytes
          → bytes_at left path ≡ Some bytes
      put path bytes i (inl e) = e
      put path bytes i (inr e) =
          no_some (sym (ap (option_map (λ (f : List ℕ × ℕ). sha256 f.0)) (none_there path (path_in path bytes i))) ∙ e.0)

      rest : (q : List ℕ) → is_builders q ≡ false → is_out q ≡ false → file_at cleared q ≡ file_at d q
      rest q own_off out_off =
          let o = same_text q open_path in
          let s = same_text q store_path in
          let n = same_text q pending_path in
          kept_there q (or_right o s (or_left (o || s) n own_off)) (or_left o s (or_left (o || s) n own_off)) (off_file q out_off)

  pub replaced_by : (after : Option Directory) → HasChanged p d after
      → (left : Directory) × (after ≡ Some left) × IsPlaced rows (contents_in contents) text.items d left
  replaced_by after changed =
      let m = puts own held rows contents text p plan cleared is_known files after (λ closed. changed_so after changed) in (m.0, m.1, placed m.0 m.2)

  pub replaced : (after : Option Directory) → HasBrought (wanted_by p) (Some d) after
      → (left : Directory) × (after ≡ Some left) × IsPlaced rows (contents_in contents) text.items d left
  replaced after brought = replaced_by after (brought_changed p d after own held rows contents text plan brought)

-- ---- what a build leaves that had nothing to build from

module _ (own : OwnFiles) (held : List (List ℕ × List ℕ)) (funcs : List (List ℕ × List ℕ)) (roots : List Task) (rows : List TaskRecord)
    (contents : Files) (outputs : List (Task × Value)) (s : StoreImage) (p : Plan) (r : Report) (order : InPathOrder contents)
    (parts : HasParts funcs roots rows s) (planned : IsPlanFor own held s contents p) (tells : TellsPlan p (length rows) outputs r) where
  pub plan_is : IsChangesPlan own held rows contents planned.text p
  plan_is = subst (λ (rs : List TaskRecord). IsChangesPlan own held rs contents planned.text p) parts.rows_are planned.plan

  module _ (u : Update) (after : Option Directory) (e : IsExactBuild u rows contents u.directory) (known : IsKnownBeside own contents held u.directory)
      (brought : HasBrought (wanted_by p) (Some u.directory) after) where
    files : AreFilesOf rows contents
    files = files_of own held funcs roots rows contents outputs s p r order parts planned tells u u.directory e

    put : (left : Directory) × (after ≡ Some left) × IsPlaced rows (contents_in contents) planned.text.items u.directory left
    put = replaced own held rows contents planned.text p plan_is u.directory known files (some_text s planned.text.items planned.says) after brought

    wrote_are : r.wrote.items ≡ files_paths contents
    wrote_are =
        tells.wrote
        ∙ ap files_paths (writes_all own held rows contents planned.text p plan_is u.directory known files (some_text s planned.text.items planned.says))

    given : (path : List ℕ) → Contains (files_paths contents) path → IsSome (provided_at (live_now u) path)
    given path i =
        let m = in_contents own held rows contents planned.text p plan_is u.directory known files (some_text s planned.text.items planned.says) path i in
        some_is (provided_at (live_now u) path) m.0 (e.made.only path m.0 m.1)

    -- what is removed was there, and isn't provided
    stray : (path : List ℕ) → Contains p.removals.items path → IsStray u path
    stray path i =
        let on : is_out path ≡ true = all_has is_out path p.removals.items plan_is.removals_out i in
        let only = plan_is.removals.only path i in
        record {
          out = on;
          there = by (list_any (same_text path) (files_paths contents)) (subst (λ o. IsSome o) (known.files path on) only.0);
          absent = absent only.1 (provided_at (live_now u) path) refl;
        }
      where
        by : (b : Bool) → IsSome (cond b None (hash_in u.directory path)) → IsSome (bytes_at u.directory path)
        by true h = absurd (false≢true h)
        by false h = hash_bytes (file_at u.directory path) h

        absent : (Contains (written_by rows) path → ⊥) → (o : Option (List ℕ)) → provided_at (live_now u) path ≡ o → provided_at (live_now u) path ≡ None
        absent none None q = q
        absent none (Some b) q = absurd (none (provided_path (present u) u.roots e.made.accepted rows e.made.rows path b q))

    gone : (path : List ℕ) → IsStray u path → Contains p.removals.items path
    gone path x =
        plan_is.removals.each path (subst (λ o. IsSome o) (sym (known.files path x.out)) (by (list_any (same_text path) (files_paths contents)) refl))
        (λ w. let m = path_provided (present u) u.roots e.made.accepted rows e.made.rows path w in no_some (sym x.absent ∙ m.1))
      where
        by : (b : Bool) → list_any (same_text path) (files_paths contents) ≡ b → IsSome (cond b None (hash_in u.directory path))
        by false k = bytes_hash (file_at u.directory path) x.there
        by true k =
            absurd (false≢true (sym (none_of path (files_paths contents) (λ i. false≢true (subst (λ o. IsSome o) x.absent (given path i)))) ∙ k))

    leaves_of : ProvidesAll u contents → LeavesAnewOf u funcs roots rows outputs u.directory r after
    leaves_of all = record {
      left = put.0;
      told = put.1;
      text = planned.text.items;
      built = is_built u rows (contents_in contents) e.separates e.met e.made planned.text.items put.0 put.2;
      store = record {
        image = s;
        text = planned.says;
        no_digest = parts.table;
        funcs = parts.funcs_are;
        roots = parts.roots_are;
        rows = parts.rows_are;
      };
      live = tells.live_is;
      wrote = λ path. (
        λ i. given path (subst (λ ps. Contains ps path) wrote_are i),
        λ some. subst (λ ps. Contains ps path) (sym wrote_are) (all path some),
      );
      removed = λ path. (
        λ i. stray path (subst (λ ps. Contains ps path) tells.removed i),
        λ x. subst (λ ps. Contains ps path) (sym tells.removed) (gone path x),
      );
      ordered = (
        subst (IsStrictlySortedBy path_cmp) (sym wrote_are) order.ascending,
        subst (IsStrictlySortedBy path_cmp) (sym tells.removed) plan_is.removals.ordered,
      );
      outputs_are = tells.outputs_are;
    }

  leaves : (d : Directory) (after : Option Directory) → (is_empty p ≡ false → HasBrought (wanted_by p) (Some d) after)
      → PutsAnew own held funcs roots rows contents outputs d r after
  leaves d after changed known u e all =
      let at_u : IsExactBuild u rows contents u.directory = subst (λ x. IsExactBuild u rows contents x) (sym e.directory) e in
      let known_u : IsKnownBeside own contents held u.directory = subst (λ x. IsKnownBeside own contents held x) (sym e.directory) known in
      let some = some_text s planned.text.items planned.says in
      let brought : HasBrought (wanted_by p) (Some d) after =
      changed (not_empty p planned.text (stores own held rows contents planned.text p plan_is u.directory known_u
      (files_of own held funcs roots rows contents outputs s p r order parts planned tells u u.directory at_u) some)) in
      subst (λ x. LeavesAnewOf u funcs roots rows outputs x r after) e.directory
      (leaves_of u after at_u known_u (subst (λ x. HasBrought (wanted_by p) (Some x) after) (sym e.directory) brought) all)

  pub leaves_anew : (before after : Option Directory) (b : Box Report Global) (result : Result (Box Report Global) FilesError) → b.value ≡ r
      → IfOk result (λ x. x ≡ b) → (is_empty p ≡ false → OnOk result (HasBrought (wanted_by p) before after))
      → IfSome before (λ d. IfOk result (λ x. PutsAnew own held funcs roots rows contents outputs d x.value after))
  leaves_anew None after b result is same changed = tt
  leaves_anew (Some d) after b (Ok x) is same changed =
      subst (λ (y : Report). PutsAnew own held funcs roots rows contents outputs d y after) (sym (ap (λ (z : Box Report Global). z.value) same ∙ is))
      (leaves d after changed)
  leaves_anew (Some d) after b (Err e) is same changed = tt
