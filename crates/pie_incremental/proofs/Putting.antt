-- What the plan of an accepted build leaves.
use Rattle.std.proofs.Common.{◌≡◌, ◌⊎◌, inl, inr, ℕ, zero, suc, Bool, true, false, cond, List, [], ◌∷◌, Vec, Global, Contains, refl, sym, ap, subst, ◌∙◌, arith}
use Rattle.std.specs.Prelude.{◌||◌, not, Option, None, Some, IsSome, IfSome, OnOk, Result, Ok, Err}
use Rattle.std.specs.List.{list_all, list_any, filter, AllByRecursion as ByRecursion}
use Rattle.std.specs.List.Sorted.{IsStrictlySortedBy}
use Rattle.std.specs.Option.{option_map}
use Rattle.std.specs.declared.cmp.Ordering.TheVariants.{Less}
use Rattle.std.specs.Ordering.{is_eq}
use Rattle.std.proofs.lemmas.Bool.{false≢true}
use Rattle.std.proofs.lemmas.Cmp.{nat_list_cmp_total, eq_by_cmp_equiv}
use Rattle.sha2.specs.Sha256.{sha256}
use Rattle.pie_base.specs.Path.{is_out, same_text}
use Rattle.pie_files.specs.declared.files.FilesError.{FilesError}
use Rattle.pie_files.specs.Directory.{Directory, file_at}
use Rattle.pie_commit.specs.declared.plan.Plan.{Plan}
use Rattle.pie_commit.specs.inner.Plans.{Wanted, Same, Gone, Bytes, Meets, later, at, removed, written, pended, stored, changes}
use Rattle.pie_commit.proofs.Standing.{same_path, same_itself}
use Rattle.pie_diff.specs.Hashes.{files_paths, hash_in, held_at, is_hash, is_new}
use Rattle.pie_diff.specs.Removals.{written_by}
use Rattle.pie_reach.specs.Plan.{path_cmp}
use Rattle.pie_record.specs.declared.task_record.TaskRecord.{TaskRecord}
use Rattle.pie_incremental.specs.declared.base.OwnFiles.{OwnFiles}
use Rattle.pie_incremental.specs.inner.Built.{AreFilesOf, IsKnown, IsPut}
use Rattle.pie_incremental.specs.Kept.{is_builders}
use Rattle.pie_incremental.specs.Own.{bytes_at, open_path, store_path, pending_path, IsClosed}
use Rattle.pie_incremental.specs.inner.Changes.{bytes_of}
use Rattle.pie_incremental.specs.inner.Plans.{store_change, HasChanged, IsChangesPlan, Puts}
use Rattle.pie_incremental.proofs.Commits.{met}
use Rattle.pie_incremental.proofs.OwnPaths.{and_left, and_right, or_left, or_right, places}

abbrev pub Files : Type 0
Files = List (List ℕ × Vec ℕ Global)

later_same : (w : Wanted) → later w Same ≡ w
later_same Same = refl
later_same Gone = refl
later_same (Bytes b) = refl

-- ---- paths in lists

any_of : (q : List ℕ) (paths : List (List ℕ)) → Contains paths q → list_any (same_text q) paths ≡ true
any_of q [] h = let l = h.1 in absurd (omega arith)
any_of q (path ∷ paths) (zero, l, e) =
    ap (λ (r : List ℕ). same_text q r || list_any (same_text q) paths) e ∙ ap (λ b. b || list_any (same_text q) paths) (same_itself q)
any_of q (path ∷ paths) (suc k, l, e) = or_true (same_text q path) (list_any (same_text q) paths) (any_of q paths (k, omega (arith, l), e))
  where
    or_true : (a b : Bool) → b ≡ true → (a || b) ≡ true
    or_true true b f = refl
    or_true false b f = f

of_any : (q : List ℕ) (paths : List (List ℕ)) → list_any (same_text q) paths ≡ true → Contains paths q
of_any q [] h = absurd (false≢true h)
of_any q (path ∷ paths) h = by (λ k. of_any q paths k) (same_text q path) refl
  where
    by : (list_any (same_text q) paths ≡ true → Contains paths q) → (b : Bool) → same_text q path ≡ b → Contains (path ∷ paths) q
    by more true e = (0, omega arith, sym (same_path q path e))
    by more false e = let c = more (sym (ap (λ b. b || list_any (same_text q) paths) e) ∙ h) in (suc c.0, omega (arith, c.1), c.2)

pub none_of : (q : List ℕ) (paths : List (List ℕ)) → (Contains paths q → ⊥) → list_any (same_text q) paths ≡ false
none_of q paths h = by (list_any (same_text q) paths) refl
  where
    by : (b : Bool) → list_any (same_text q) paths ≡ b → b ≡ false
    by true e = absurd (h (of_any q paths e))
    by false e = refl

-- ---- what is wanted of files that are written and removed

gone_later : (a b : Bool) → later (cond b Gone Same) (cond a Gone Same) ≡ cond (a || b) Gone Same
gone_later true true = refl
gone_later true false = refl
gone_later false true = refl
gone_later false false = refl

removed_is : (paths : List (List ℕ)) (q : List ℕ) → removed paths q ≡ cond (list_any (same_text q) paths) Gone Same
removed_is [] q = refl
removed_is (path ∷ paths) q =
    ap (λ x. later x (at path Gone q)) (removed_is paths q) ∙ gone_later (same_text q path) (list_any (same_text q) paths)

not_less : (a : List ℕ) → path_cmp a a ≡ Less → ⊥
not_less a less = false≢true (sym (ap is_eq less) ∙ (eq_by_cmp_equiv nat_list_cmp_total).refl a)

module _ (p : List ℕ × Vec ℕ Global → Bool) where
  -- a path that none of the files has
  written_none : (q : List ℕ) (files : Files) → list_any (same_text q) (files_paths files) ≡ false → written (filter p files) q ≡ Same
  written_none q [] h = refl
  written_none q (f ∷ files) h = by (written_none q files (or_right (same_text q f.0) (list_any (same_text q) (files_paths files)) h)) (p f)
    where
      by : written (filter p files) q ≡ Same → (b : Bool) → written (cond b (f ∷ filter p files) (filter p files)) q ≡ Same
      by rest true = ap (λ x. later x (at f.0 (Bytes f.1.items) q)) rest
          ∙ ap (λ b. later Same (cond b (Bytes f.1.items) Same)) (or_left (same_text q f.0) (list_any (same_text q) (files_paths files)) h)
      by rest false = rest

  less_before : (a b : List ℕ) → path_cmp a b ≡ Less → same_text a b ≡ false
  less_before a b less = by (same_text a b) refl
    where
      by : (t : Bool) → same_text a b ≡ t → t ≡ false
      by true e = absurd (not_less a (subst (λ x. path_cmp a x ≡ Less) (sym (same_path a b e)) less))
      by false e = refl

  less_after : (a b : List ℕ) → path_cmp a b ≡ Less → same_text b a ≡ false
  less_after a b less = by (same_text b a) refl
    where
      by : (t : Bool) → same_text b a ≡ t → t ≡ false
      by true e = absurd (not_less a (subst (λ x. path_cmp a x ≡ Less) (same_path b a e) less))
      by false e = refl

  above_none : (a : List ℕ) (files : Files) → ByRecursion (λ y. path_cmp a y ≡ Less) (files_paths files) → list_any (same_text a) (files_paths files) ≡ false
  above_none a [] h = refl
  above_none a (f ∷ files) h =
      ap (λ b. b || list_any (same_text a) (files_paths files)) (less_before a f.0 h.0) ∙ above_none a files h.1

  path_has : (P : List ℕ → Type 0) (files : Files) (f : List ℕ × Vec ℕ Global) → ByRecursion P (files_paths files) → Contains files f → P f.0
  path_has P [] f h c = let l = c.1 in absurd (omega arith)
  path_has P (g ∷ files) f h (zero, l, e) = subst (λ (x : List ℕ × Vec ℕ Global). P x.0) e h.0
  path_has P (g ∷ files) f h (suc k, l, e) = path_has P files f h.1 (k, omega (arith, l), e)

  -- a path of one of the files, where that passes
  written_of : (files : Files) → IsStrictlySortedBy path_cmp (files_paths files) → (f : List ℕ × Vec ℕ Global) → Contains files f
      → written (filter p files) f.0 ≡ cond (p f) (Bytes f.1.items) Same
  unfolding IsStrictlySortedBy
  written_of [] s f c = let l = c.1 in absurd (omega arith)
  written_of (w ∷ ws) s f (zero, l, e) =
      subst (λ (x : List ℕ × Vec ℕ Global). written (filter p (w ∷ ws)) x.0 ≡ cond (p x) (Bytes x.1.items) Same) e (by (p w))
    where
      none : written (filter p ws) w.0 ≡ Same
      none = written_none w.0 ws (above_none w.0 ws s.0)

      by : (b : Bool) → written (cond b (w ∷ filter p ws) (filter p ws)) w.0 ≡ cond b (Bytes w.1.items) Same
      by true = ap (λ x. later x (at w.0 (Bytes w.1.items) w.0)) none ∙ ap (λ b. later Same (cond b (Bytes w.1.items) Same)) (same_itself w.0)
      by false = none
  written_of (w ∷ ws) s f (suc k, l, e) = by (k, omega (arith, l), e) (written_of ws s.1 f (k, omega (arith, l), e)) (p w)
    where
      by : Contains ws f → written (filter p ws) f.0 ≡ cond (p f) (Bytes f.1.items) Same → (b : Bool) → written (cond b (w ∷ filter p ws) (filter p ws)) f.0 ≡ cond (p f) (Bytes f.1.items) Same
      by inside rest true = ap (λ b. later (written (filter p ws) f.0) (cond b (Bytes w.1.items) Same))
          (less_after w.0 f.0 (path_has (λ y. path_cmp w.0 y ≡ Less) ws f s.0 inside))
          ∙ later_same (written (filter p ws) f.0) ∙ rest
      by inside rest false = rest

-- ---- the parts of a plan

pub in_files : (q : List ℕ) (files : Files) → Contains (files_paths files) q → (f : List ℕ × Vec ℕ Global) × Contains files f × (f.0 ≡ q)
in_files q [] c = let l = c.1 in absurd (omega arith)
in_files q (f ∷ files) (zero, l, e) = (f, (0, omega arith, refl), e)
in_files q (f ∷ files) (suc k, l, e) =
    let r = in_files q files (k, omega (arith, l), e) in let c = r.1 in (r.0, (suc c.0, omega (arith, c.1), c.2), r.2)

pub all_has : (test : List ℕ → Bool) (q : List ℕ) (xs : List (List ℕ)) → list_all test xs ≡ true → Contains xs q → test q ≡ true
all_has test q [] h c = let l = c.1 in absurd (omega arith)
all_has test q (x ∷ xs) h (zero, l, e) = ap test (sym e) ∙ and_left (test x) (list_all test xs) h
all_has test q (x ∷ xs) h (suc k, l, e) = all_has test q xs (and_right (test x) (list_all test xs) h) (k, omega (arith, l), e)

hash_is : (o : Option (List ℕ)) (hash : List ℕ) → not (is_hash o hash) ≡ false → o ≡ Some hash
hash_is None hash e = absurd (false≢true (sym e))
hash_is (Some there) hash e = ap (λ h. Some h) (same_path there hash (twice (same_text there hash) e))
  where
    twice : (b : Bool) → not b ≡ false → b ≡ true
    twice true e = refl
    twice false e = absurd (false≢true (sym e))

no_file : (o : Option (List ℕ × ℕ)) → option_map (λ (f : List ℕ × ℕ). sha256 f.0) o ≡ None → o ≡ None
no_file None e = refl
no_file (Some f) e = cc

is_some_of : (o : Option (List ℕ)) (h : List ℕ) → o ≡ Some h → IsSome o
is_some_of None h e = cc
is_some_of (Some a) h e = refl

apart : (q path : List ℕ) → is_out q ≡ true → is_out path ≡ false → same_text q path ≡ false
apart q path on off = by (same_text q path) refl
  where
    by : (b : Bool) → same_text q path ≡ b → b ≡ false
    by true e = absurd (false≢true (sym off ∙ ap is_out (sym (same_path q path e)) ∙ on))
    by false e = refl

module _ (own : OwnFiles) (held : List (List ℕ × List ℕ)) (rows : List TaskRecord) (contents : Files) (text : Vec ℕ Global) (p : Plan)
    (plan : IsChangesPlan own held rows contents text p) (d left : Directory) (known : IsKnown own held d) (files : AreFilesOf rows contents)
    (changed : (q : List ℕ) → same_text q open_path ≡ false → Meets (changes p q) (file_at d q) (file_at left q)) where
  -- what is wanted of the files under `out/`
  abbrev files_wanted : List ℕ → Wanted
  files_wanted q = later (written p.writes.items q) (removed p.removals.items q)

  others_wanted : (q : List ℕ) → same_text q store_path ≡ false → same_text q pending_path ≡ false → changes p q ≡ files_wanted q
  others_wanted q off away =
      let at_own = places p plan.places in
      ap (λ b. later (cond b (stored p.store) Same) (later (at p.names_place (pended p.pending) q) (files_wanted q))) (ap (same_text q) at_own.store ∙ off)
      ∙ ap (λ b. later (cond b (pended p.pending) Same) (files_wanted q)) (ap (same_text q) at_own.names ∙ away)

  wanted_is : (q : List ℕ) → files_wanted q
      ≡ later (written (filter (is_new held) contents) q) (cond (list_any (same_text q) p.removals.items) Gone Same)
  wanted_is q =
      ap (λ ws. later (written ws q) (removed p.removals.items q)) plan.writes
      ∙ ap (λ x. later (written (filter (is_new held) contents) q) x) (removed_is p.removals.items q)

  -- a path under `out/` has what its writes and removals want, by what is known of them
  out_meets : (q : List ℕ) → is_out q ≡ true → (w : Wanted) (b : Bool) → written (filter (is_new held) contents) q ≡ w
      → list_any (same_text q) p.removals.items ≡ b → Meets (later w (cond b Gone Same)) (file_at d q) (file_at left q)
  out_meets q on w b is gone =
      subst (λ x. Meets x (file_at d q) (file_at left q))
      (others_wanted q (apart q store_path on refl) (apart q pending_path on refl) ∙ wanted_is q
      ∙ ap (λ x. later x (cond (list_any (same_text q) p.removals.items) Gone Same)) is ∙ ap (λ t. later w (cond t Gone Same)) gone)
      (changed q (apart q open_path on refl))

  stays : (q : List ℕ) → is_out q ≡ true → written (filter (is_new held) contents) q ≡ Same → Contains (written_by rows) q → file_at left q ≡ file_at d q
  stays q on none wrote = out_meets q on Same false none (none_of q p.removals.items (λ c. (plan.removals.only q c).1 wrote))

  new : (f : List ℕ × Vec ℕ Global) → Contains contents f → hash_in left f.0 ≡ Some (sha256 f.1.items)
  new f c = by (is_new held f) refl
    where
      on : is_out f.0 ≡ true
      on = files.out f c

      wants : written (filter (is_new held) contents) f.0 ≡ cond (is_new held f) (Bytes f.1.items) Same
      wants = written_of (is_new held) contents files.ordered f c

      by : (b : Bool) → is_new held f ≡ b → hash_in left f.0 ≡ Some (sha256 f.1.items)
      by true e =
          let m = out_meets f.0 on (Bytes f.1.items) (list_any (same_text f.0) p.removals.items) (wants ∙ ap (λ b. cond b (Bytes f.1.items) Same) e) refl in
          ap (option_map (λ x. sha256 x.0)) m.1
      by false e =
          ap (option_map (λ x. sha256 x.0)) (stays f.0 on (wants ∙ ap (λ b. cond b (Bytes f.1.items) Same) e) (files.written f c))
          ∙ sym (known.files f.0 on) ∙ hash_is (held_at held f.0) (sha256 f.1.items) e

  -- each of the files has its content, or stays where it has the hash
  pub put_at : (f : List ℕ × Vec ℕ Global) → Contains contents f
      → (bytes_at left f.0 ≡ Some f.1.items) ⊎ ((hash_in d f.0 ≡ Some (sha256 f.1.items)) × (file_at left f.0 ≡ file_at d f.0))
  put_at f c = by (is_new held f) refl
    where
      on : is_out f.0 ≡ true
      on = files.out f c

      wants : written (filter (is_new held) contents) f.0 ≡ cond (is_new held f) (Bytes f.1.items) Same
      wants = written_of (is_new held) contents files.ordered f c

      by : (b : Bool) → is_new held f ≡ b
          → (bytes_at left f.0 ≡ Some f.1.items) ⊎ ((hash_in d f.0 ≡ Some (sha256 f.1.items)) × (file_at left f.0 ≡ file_at d f.0))
      by true e =
          let m = out_meets f.0 on (Bytes f.1.items) (list_any (same_text f.0) p.removals.items) (wants ∙ ap (λ b. cond b (Bytes f.1.items) Same) e) refl in
          inl (ap (option_map (λ x. x.0)) m.1)
      by false e = inr (
        sym (known.files f.0 on) ∙ hash_is (held_at held f.0) (sha256 f.1.items) e,
        stays f.0 on (wants ∙ ap (λ b. cond b (Bytes f.1.items) Same) e) (files.written f c),
      )

  kept : (q : List ℕ) → is_out q ≡ true → (Contains (files_paths contents) q → ⊥) → Contains (written_by rows) q → file_at left q ≡ file_at d q
  kept q on none wrote = stays q on (written_none (is_new held) q contents (none_of q (files_paths contents) none)) wrote

  gone : (q : List ℕ) → is_out q ≡ true → (Contains (written_by rows) q → ⊥) → file_at left q ≡ None
  gone q on none = by (held_at held q) refl
    where
      not_written : written (filter (is_new held) contents) q ≡ Same
      not_written = written_none (is_new held) q contents (none_of q (files_paths contents)
          (λ c. let f = in_files q contents c in none (subst (λ x. Contains (written_by rows) x) f.2 (files.written f.0 f.1))))

      absent : file_at d q ≡ None → (b : Bool) → Meets (later Same (cond b Gone Same)) (file_at d q) (file_at left q) → file_at left q ≡ None
      absent is true m = m
      absent is false m = m ∙ is

      by : (o : Option (List ℕ)) → held_at held q ≡ o → file_at left q ≡ None
      by None e = absent (no_file (file_at d q) (sym (known.files q on) ∙ e)) (list_any (same_text q) p.removals.items)
          (out_meets q on Same (list_any (same_text q) p.removals.items) not_written refl)
      by (Some h) e = out_meets q on Same true not_written
          (any_of q p.removals.items (plan.removals.each q (is_some_of (held_at held q) h e) none))

  -- outside of `out/` no file is wanted
  files_none : (q : List ℕ) → is_out q ≡ false → files_wanted q ≡ Same
  files_none q off =
      wanted_is q
      ∙ ap (λ x. later x (cond (list_any (same_text q) p.removals.items) Gone Same)) (written_none (is_new held) q contents (none_of q (files_paths contents)
      (λ c. let f = in_files q contents c in false≢true (sym off ∙ ap is_out (sym f.2) ∙ files.out f.0 f.1))))
      ∙ ap (λ b. later Same (cond b Gone Same)) (none_of q p.removals.items (λ c. false≢true (sym off ∙ all_has is_out q p.removals.items plan.removals_out c)))

  rest : (q : List ℕ) → (is_out q || is_builders q) ≡ false → file_at left q ≡ file_at d q
  rest q off =
      let b = or_right (is_out q) (is_builders q) off in
      let o = same_text q open_path in
      let s = same_text q store_path in
      let n = same_text q pending_path in
      subst (λ x. Meets x (file_at d q) (file_at left q))
      (others_wanted q (or_right o s (or_left (o || s) n b)) (or_right (o || s) n b) ∙ files_none q (or_left (is_out q) (is_builders q) off))
      (changed q (or_left o s (or_left (o || s) n b)))

  store_wanted : changes p store_path ≡ stored (store_change own.store.items text)
  store_wanted =
      let at_own = places p plan.places in
      ap (λ m. later (at m (stored p.store) store_path) (later (at p.names_place (pended p.pending) store_path) (files_wanted store_path))) at_own.store
      ∙ ap (λ m. later (stored p.store) (later (at m (pended p.pending) store_path) (files_wanted store_path))) at_own.names
      ∙ ap (λ x. later (stored p.store) x) (files_none store_path refl) ∙ later_same (stored p.store) ∙ ap stored plan.store

  store_met : (b : Bool) → same_text own.store.items text.items ≡ b → Meets (stored (cond b None (Some text))) (file_at d store_path) (file_at left store_path)
      → bytes_at left store_path ≡ Some text.items
  store_met true e m = ap (option_map (λ f. f.0)) m ∙ known.store ∙ ap (λ (t : List ℕ). Some t) (same_path own.store.items text.items e)
  store_met false e m = ap (option_map (λ f. f.0)) m.1

  names_wanted : changes p pending_path ≡ later (pended p.pending) Same
  names_wanted =
      let at_own = places p plan.places in
      ap (λ m. later (at m (stored p.store) pending_path) (later (at p.names_place (pended p.pending) pending_path) (files_wanted pending_path))) at_own.store
      ∙ ap (λ m. later (at m (pended p.pending) pending_path) (files_wanted pending_path)) at_own.names
      ∙ ap (λ x. later (pended p.pending) x) (files_none pending_path refl)

  pub puts_of : (after : Option Directory) → after ≡ Some left → IsClosed left → IsPut rows contents text.items d after
  puts_of after told closed = record {
    left = left;
    told = told;
    new = new;
    kept = kept;
    gone = gone;
    rest = rest;
    store = store_met (same_text own.store.items text.items) refl
        (subst (λ x. Meets x (file_at d store_path) (file_at left store_path)) store_wanted (changed store_path refl));
    no_names = met (bytes_of own.pending) None p.pending (file_at d pending_path) (file_at left pending_path) plan.pending known.pending
        (subst (λ x. Meets x (file_at d pending_path) (file_at left pending_path)) names_wanted (changed pending_path refl));
    closed = closed;
  }

puts : (p : Plan) (d : Directory) (after : Option Directory) → (IsClosed d → HasChanged p d after) → Puts p d after
puts p d after done own held rows contents text plan known files =
    let h = done known.closed in puts_of own held rows contents text p plan d h.left known files h.changed after h.told h.closed

-- what a committed plan leaves of what is known
pub puts_by : {A : Type 0} (p : Plan) (before after : Option Directory) (result : Result A FilesError)
    → IfSome before (λ d. IsClosed d → OnOk result (HasChanged p d after)) → IfSome before (λ d. OnOk result (Puts p d after))
puts_by p None after result done = tt
puts_by p (Some d) after (Ok a) done = puts p d after done
puts_by p (Some d) after (Err e) done = tt
