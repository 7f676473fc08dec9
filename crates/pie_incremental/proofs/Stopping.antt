-- What a crash leaves of the commit of an accepted build.
use Rattle.std.proofs.Common.{◌≡◌, ◌⊎◌, ℕ, Bool, true, false, List, [], ◌∷◌, Vec, Global, refl, sym, ap, subst, ◌∙◌, inl, inr, ⊎_elim}
use Rattle.std.specs.Prelude.{◌||◌, Option, None, Some, Result, Ok, Err, IfSome, OnOk, OnErr}
use Rattle.std.specs.List.{list_all, list_any}
use Rattle.std.specs.Option.{option_map}
use Rattle.std.proofs.lemmas.Bool.{false≢true}
use Rattle.pie_base.specs.Path.{is_out, same_text}
use Rattle.pie_files.specs.declared.files.FilesError.{FilesError}
use Rattle.pie_files.specs.Directory.{Directory, file_at, without_file}
use Rattle.pie_files.specs.Images.{Only}
use Rattle.pie_commit.specs.declared.plan.Plan.{Plan}
use Rattle.pie_commit.specs.inner.Plans.{Meets, changes, is_empty, is_own, wanted_by}
use Rattle.pie_commit.specs.Outcomes.{AllDone, HasBrought, HasFile, IsAtRest, IsDone, IsOfThree, LeavesMarked, Underway}
use Rattle.pie_commit.proofs.Bringing.{get_without}
use Rattle.pie_commit.proofs.Standing.{removal_apart, same_path}
use Rattle.pie_record.specs.declared.task_record.TaskRecord.{TaskRecord}
use Rattle.pie_results.specs.inner.Files.{contents_in}
use Rattle.pie_left_laws.specs.Placed.{IsPlaced}
use Rattle.pie_incremental.specs.declared.base.OwnFiles.{OwnFiles}
use Rattle.pie_incremental.specs.Crashes.{IsBegun}
use Rattle.pie_incremental.specs.inner.Built.{AreFilesOf, IsKnown, IsOfBuild, IsPut}
use Rattle.pie_incremental.specs.Kept.{is_builders}
use Rattle.pie_incremental.specs.Own.{open_path, store_path, pending_path}
use Rattle.pie_incremental.specs.inner.Plans.{IsChangesPlan, Marks, MayPlace, MayPut}
use Rattle.pie_incremental.proofs.Commits.{changes_wanted}
use Rattle.pie_incremental.proofs.OwnPaths.{and_left, and_right, or_left, or_right, five_off, places}
use Rattle.pie_incremental.proofs.Placing.{is_placed}
use Rattle.pie_incremental.proofs.Putting.{all_has, none_of, puts_of}

none_written : (q : List ℕ) (writes : List (List ℕ × Vec ℕ Global)) → is_out q ≡ false → list_all (λ w. is_out w.0) writes ≡ true
    → list_any (λ w. same_text q w.0) writes ≡ false
none_written q [] off on = refl
none_written q (w ∷ ws) off on =
    ap (λ b. b || list_any (λ w. same_text q w.0) ws) (differs (same_text q w.0) refl)
    ∙ none_written q ws off (and_right (is_out w.0) (list_all (λ w. is_out w.0) ws) on)
  where
    differs : (b : Bool) → same_text q w.0 ≡ b → b ≡ false
    differs true e = absurd (false≢true (sym off ∙ ap is_out (same_path q w.0 e) ∙ and_left (is_out w.0) (list_all (λ w. is_out w.0) ws) on))
    differs false e = refl

module _ (own : OwnFiles) (held : List (List ℕ × List ℕ)) (rows : List TaskRecord) (contents : List (List ℕ × Vec ℕ Global)) (text : Vec ℕ Global) (p : Plan)
    (plan : IsChangesPlan own held rows contents text p) (d : Directory) (known : IsKnown own held d) (files : AreFilesOf rows contents) where
  -- a path that isn't under `out/` and isn't one of the builder's own isn't one of the plan's
  not_own : (q : List ℕ) → (is_out q || is_builders q) ≡ false → is_own p q ≡ false
  not_own q off =
      let out = or_left (is_out q) (is_builders q) off in
      let b = or_right (is_out q) (is_builders q) off in
      let o = same_text q open_path in
      let s = same_text q store_path in
      let n = same_text q pending_path in
      let at_own = places p plan.places in
      five_off (same_text q p.marker) (same_text q p.place) (same_text q p.names_place) (list_any (same_text q) p.removals.items)
      (list_any (λ w. same_text q w.0) p.writes.items)
      (ap (same_text q) at_own.marker ∙ or_left o s (or_left (o || s) n b))
      (ap (same_text q) at_own.store ∙ or_right o s (or_left (o || s) n b))
      (ap (same_text q) at_own.names ∙ or_right (o || s) n b)
      (none_of q p.removals.items (λ k. false≢true (sym out ∙ all_has is_out q p.removals.items plan.removals_out k)))
      (none_written q p.writes.items out plan.writes_out)

  begun : (c : Directory) → Underway p d c → IsBegun d c
  begun c way = record {
    marked = subst (HasFile c) (places p plan.places).marker way.marked;
    rest = λ q off. way.others q (not_own q off);
  }

  done : (c : Directory) → IsDone p d c → IsPut rows contents text.items d (Some (without_file c open_path))
  done c is = puts_of own held rows contents text p plan d (without_file c open_path) known files
      (λ q off. subst (λ o. Meets (changes p q) (file_at d q) o) (sym (removal_apart c open_path q off))
      (subst (λ w. Meets w (file_at d q) (file_at c q)) (changes_wanted p plan.places q off) (is q (ap (same_text q) (places p plan.places).marker ∙ off))))
      (Some (without_file c open_path)) refl (ap (option_map (λ f. f.0)) (get_without c open_path open_path))

  pub placed : (c : Directory) → IsDone p d c → IsPlaced rows (contents_in contents) text.items d (without_file c open_path)
  placed c is = is_placed own held rows contents text p plan d (without_file c open_path) known files
      (λ q off. subst (λ o. Meets (changes p q) (file_at d q) o) (sym (removal_apart c open_path q off))
      (subst (λ w. Meets w (file_at d q) (file_at c q)) (changes_wanted p plan.places q off) (is q (ap (same_text q) (places p plan.places).marker ∙ off))))
      (ap (option_map (λ f. f.0)) (get_without c open_path open_path))

  of_placed : (c : Directory) → IsOfThree p d c
      → IsBegun d c ⊎ ((c ≡ d) ⊎ IsPlaced rows (contents_in contents) text.items d (without_file c open_path))
  of_placed c three = ⊎_elim (λ way. inl (begun c way)) (λ rest. ⊎_elim (λ same. inr (inl same)) (λ is. inr (inr (placed c is))) rest) three

  of_build : (c : Directory) → IsOfThree p d c → IsOfBuild rows contents text.items d c
  of_build c three = ⊎_elim (λ way. inl (begun c way)) (λ rest. ⊎_elim (λ same. inr (inl same)) (λ is. inr (inr (done c is))) rest) three

  pub marked : (images : Directory → Type 0) → ((c : Directory) → images c → HasFile c p.marker ⊎ (c ≡ d))
      → (c : Directory) → images c → HasFile c open_path ⊎ (c ≡ d)
  marked images h c is = ⊎_elim (λ file. inl (subst (HasFile c) (places p plan.places).marker file)) (λ same. inr same) (h c is)

pub may_put : (p : Plan) (d c : Directory) → IsOfThree p d c → MayPut p d c
may_put p d c three own held rows contents text plan known files = of_build own held rows contents text p plan d known files c three

pub may_place : (p : Plan) (d c : Directory) → IsOfThree p d c → MayPlace p d c
may_place p d c three own held rows contents text plan known files = of_placed own held rows contents text p plan d known files c three

-- ---- every image at the end

all_marked : (p : Plan) (d : Directory) (images : Directory → Type 0) → LeavesMarked p d images → Marks p d images
all_marked p d images leaves own held rows contents text plan known files =
    ⊎_elim (λ each. inl (marked own held rows contents text p plan d known files images each))
    (λ all. inr (λ c is. done own held rows contents text p plan d known files c (all c is))) leaves

module _ {S : Type 0} (holds : S → Option Directory) (images : S → Directory → Type 0) (p : Plan) (old new : S) where
  all_done : (d : Directory) → HasBrought (wanted_by p) (Some d) (holds new) → IsAtRest (holds new) (images new) → AllDone p d (images new)
  all_done d brought rest c is q off =
      let same : Some rest.0 ≡ Some brought.0 = sym rest.1 ∙ brought.1 in
      let here : c ≡ brought.0 = rest.2 c is ∙ of_some rest.0 brought.0 same in
      subst (λ e. Meets (wanted_by p q) (file_at d q) (file_at e q)) (sym here) (brought.2 q)
    where
      of_some : (a b : Directory) → Some a ≡ Some b → a ≡ b
      of_some a b e = cc

  ends_ok : (d : Directory) → (is_empty p ≡ false → HasBrought (wanted_by p) (Some d) (holds new))
      → (is_empty p ≡ false → IsAtRest (holds new) (images new)) → (is_empty p ≡ true → new ≡ old) → Only d (images old) → LeavesMarked p d (images new)
  ends_ok d brought rest same only = by (is_empty p) refl
    where
      by : (b : Bool) → is_empty p ≡ b → LeavesMarked p d (images new)
      by true e = inl (λ c is. inr (only c (subst (λ s. images s c) (same e) is)))
      by false e = inr (all_done d (brought e) (rest e))

  ends : {A : Type 0} (o : Option Directory) (result : Result A FilesError) → (is_empty p ≡ false → OnOk result (HasBrought (wanted_by p) o (holds new)))
      → (is_empty p ≡ false → OnOk result (IfSome o (λ d. IsAtRest (holds new) (images new)))) → (is_empty p ≡ true → new ≡ old)
      → OnErr result (IfSome o (λ d. Only d (images old) → LeavesMarked p d (images new)))
      → IfSome o (λ d. Only d (images old) → Marks p d (images new))
  ends None result brought rest same failed = tt
  ends (Some d) (Ok a) brought rest same failed = λ only. all_marked p d (images new) (ends_ok d brought rest same only)
  ends (Some d) (Err e) brought rest same failed = λ only. all_marked p d (images new) (failed only)

  pub ends_marked : {A : Type 0} (result : Result A FilesError) → (is_empty p ≡ false → OnOk result (HasBrought (wanted_by p) (holds old) (holds new)))
      → (is_empty p ≡ false → OnOk result (IfSome (holds old) (λ d. IsAtRest (holds new) (images new)))) → (is_empty p ≡ true → new ≡ old)
      → OnErr result (IfSome (holds old) (λ d. Only d (images old) → LeavesMarked p d (images new)))
      → IfSome (holds old) (λ d. Only d (images old) → Marks p d (images new))
  ends_marked result brought rest same failed = ends (holds old) result brought rest same failed

  told : {A : Type 0} (o : Option Directory) (result : Result A FilesError) → (is_empty p ≡ false → OnOk result (HasBrought (wanted_by p) o (holds new)))
      → (is_empty p ≡ false → OnOk result (IfSome o (λ d. IsAtRest (holds new) (images new)))) → (is_empty p ≡ true → new ≡ old)
      → OnErr result (IfSome o (λ d. Only d (images old) → LeavesMarked p d (images new)))
      → IfSome o (λ d. Only d (images old) → LeavesMarked p d (images new))
  told None result brought rest same failed = tt
  told (Some d) (Ok a) brought rest same failed = λ only. ends_ok d brought rest same only
  told (Some d) (Err e) brought rest same failed = λ only. failed only

  -- the same of the plan itself
  pub ends_told : {A : Type 0} (result : Result A FilesError) → (is_empty p ≡ false → OnOk result (HasBrought (wanted_by p) (holds old) (holds new)))
      → (is_empty p ≡ false → OnOk result (IfSome (holds old) (λ d. IsAtRest (holds new) (images new)))) → (is_empty p ≡ true → new ≡ old)
      → OnErr result (IfSome (holds old) (λ d. Only d (images old) → LeavesMarked p d (images new)))
      → IfSome (holds old) (λ d. Only d (images old) → LeavesMarked p d (images new))
  ends_told result brought rest same failed = told (holds old) result brought rest same failed
