-- What a crash leaves of a build: of the calls before its commit, of the commit, and of both.
use Rattle.std.proofs.Common.{◌≡◌, ℕ, true, false, cond, List, map, Vec, Global, refl, sym, ap, subst, ◌∙◌, inl, inr, ⊎_elim}
use Rattle.std.specs.Prelude.{◌||◌, codes, Option, None, Some, Result, Ok, Err, IfSome, OnOk, OnErr}
use Rattle.pie_base.specs.Path.{is_out, same_text}
use Rattle.pie_commit.specs.declared.plan.Pending.{Pending}
use Rattle.pie_commit.specs.declared.plan.Plan.{Plan}
use Rattle.pie_commit.specs.Outcomes as commits
use Rattle.pie_files.specs.Reading.{Leaves, LeavesAsBefore}
use Rattle.pie_commit.specs.Outcomes.{HasBrought, HasFile, IsAtRest, LeavesFromRest, Underway}
use Rattle.pie_commit.specs.inner.Plans.{Same, Gone, Meets, Brings, later, at, removed, written, pended, stored, changes, wanted_by, is_empty}
use Rattle.pie_commit.proofs.Bringing.{get_without}
use Rattle.pie_files.proofs.Reading.{if_two, none_before}
use Rattle.pie_commit.proofs.Reading.{before_rest, then_rest, still_rest}
use Rattle.pie_files.proofs.Reading.{if_each, weaker}
use Rattle.pie_commit.proofs.Standing.{same_path}
use Rattle.pie_files.specs.declared.files.FilesError.{FilesError}
use Rattle.pie_files.specs.Directory.{Directory, file_at, without_file}
use Rattle.pie_files.specs.Images.{Only}
use Rattle.pie_report.specs.declared.report.Report.{Report}
use Rattle.pie_value.specs.declared.verdict.Verdict.TheVariants.{Accepted}
use Rattle.pie_build.specs.Crashes.{IsUnderWay, IsDone, IsOfThree, LeavesMarked, StaysAtRest, Withstands}
use Rattle.pie_build.specs.Left.{may_change, KeepsRest, Puts}
use Rattle.pie_build.specs.inner.Plans.{IsCommitted, IsPlanOf}
use Rattle.pie_build.proofs.InPlace.{Fits, has_store, in_place, none_wanted, wanted_marker}
use Rattle.pie_build.proofs.OwnPaths.{none_own, or_left, or_right, places}

-- ---- by what builds leave

abbrev Leaving : Type 1
Leaving = Directory → Report → Option Directory → Type 0

done_as : (P Q : Leaving) (d : Directory) → ((r : Report) (after : Option Directory) → P d r after → Q d r after) → (c : Directory) → IsDone P d c
    → IsDone Q d c
done_as P Q d f c done = record {
  report = done.report;
  accepted = done.accepted;
  left = f done.report (Some (without_file c (codes ".pie/open"))) done.left;
}

three_as : (P Q : Leaving) (d : Directory) → ((r : Report) (after : Option Directory) → P d r after → Q d r after) → (c : Directory) → IsOfThree P d c
    → IsOfThree Q d c
three_as P Q d f c three = ⊎_elim (λ way. inl way) (λ rest. ⊎_elim (λ is. inr (inl is)) (λ done. inr (inr (done_as P Q d f c done))) rest) three

marked_as : (P Q : Leaving) (d : Directory) → ((r : Report) (after : Option Directory) → P d r after → Q d r after) → (images : Directory → Type 0)
    → LeavesMarked P d images → LeavesMarked Q d images
marked_as P Q d f images marked = ⊎_elim (λ each. inl each) (λ all. inr (λ c is. done_as P Q d f c (all c is))) marked

module _ {S : Type 0} (holds : S → Option Directory) (moment : S → ℕ) (left_since : S → ℕ → Directory → Type 0) (images : S → Directory → Type 0) where
  -- where less is said of what builds leave
  pub withstands_as : (P Q : Leaving) (old new : S) → IfSome (holds old) (λ d. (r : Report) (after : Option Directory) → P d r after → Q d r after)
      → Withstands holds moment left_since images P old new → Withstands holds moment left_since images Q old new
  withstands_as P Q old new f h = record {
    crash = if_two
        (λ d. (r : Report) (after : Option Directory) → P d r after → Q d r after)
        (λ d. Only d (images old) → Leaves moment left_since images (IsOfThree P d) old new)
        (λ d. Only d (images old) → Leaves moment left_since images (IsOfThree Q d) old new) (holds old)
        (λ d g a only. weaker moment left_since images (IsOfThree P d) (IsOfThree Q d) old new (three_as P Q d g) (a only)) f h.crash;
    marked = if_two
        (λ d. (r : Report) (after : Option Directory) → P d r after → Q d r after)
        (λ d. Only d (images old) → LeavesMarked P d (images new))
        (λ d. Only d (images old) → LeavesMarked Q d (images new)) (holds old)
        (λ d g b only. marked_as P Q d g (images new) (b only)) f h.marked;
  }

  -- calls that change no file
  pub withstands_still : (P : Leaving) (old new : S) → LeavesAsBefore holds moment left_since images old new
      → Withstands holds moment left_since images P old new
  withstands_still P old new leaves = record {
    crash = before_rest holds moment left_since images (IsOfThree P) (λ d. inr (inl refl)) old new leaves;
    marked = if_each
        (λ d. Leaves moment left_since images (images old) old new)
        (λ d. Only d (images old) → LeavesMarked P d (images new)) (holds old)
        (λ d a only. inl (λ c is. inr (only c (a.now c is)))) leaves;
  }

  -- no call
  pub withstands_none : (P : Leaving) (old : S) → Withstands holds moment left_since images P old old
  withstands_none P old = withstands_still P old old (none_before holds moment left_since images old)

  -- calls that change no file before others
  pub withstands_then : (P : Leaving) (old mid new : S) → holds mid ≡ holds old → LeavesAsBefore holds moment left_since images old mid
      → Withstands holds moment left_since images P mid new → Withstands holds moment left_since images P old new
  withstands_then P old mid new same leaves h = record {
    crash = then_rest holds moment left_since images (IsOfThree P) (λ d. inr (inl refl)) old mid new same leaves h.crash;
    marked = still_rest holds moment left_since images (λ d. LeavesMarked P d (images new)) old mid same leaves h.marked;
  }

  -- calls that change no file leave nothing pending
  pub rests_still : (old new : S) → holds new ≡ holds old → LeavesAsBefore holds moment left_since images old new → StaysAtRest holds images old new
  rests_still old new same leaves = at_rest (holds old) same leaves
    where
      at_rest : (o : Option Directory) → holds new ≡ o → IfSome o (λ d. Leaves moment left_since images (images old) old new)
          → IfSome o (λ d. Only d (images old) → IsAtRest (holds new) (images new))
      at_rest None is a = tt
      at_rest (Some d) is a = λ only. (d, is, λ c h. only c (a.now c h))

  -- no call
  pub rests_none : (old : S) → StaysAtRest holds images old old
  rests_none old = rests_still old old refl (none_before holds moment left_since images old)

  pub rests_then : (old mid new : S) → holds mid ≡ holds old → LeavesAsBefore holds moment left_since images old mid
      → StaysAtRest holds images mid new → StaysAtRest holds images old new
  rests_then old mid new same leaves h = still_rest holds moment left_since images (λ d. IsAtRest (holds new) (images new)) old mid same leaves h

  pub rests_ok : {T E : Type 0} (old mid new : S) (result : Result T E) → holds mid ≡ holds old → LeavesAsBefore holds moment left_since images old mid
      → OnOk result (StaysAtRest holds images mid new) → OnOk result (StaysAtRest holds images old new)
  rests_ok old mid new (Ok value) same leaves h = rests_then old mid new same leaves h
  rests_ok old mid new (Err e) same leaves h = tt

-- ---- the commit of a build

abbrev directory_in : Directory → Option Directory → Directory
directory_in d None = d
directory_in d (Some e) = e

module _ (gone : List (List ℕ)) (contents : List (List ℕ × Vec ℕ Global)) (pending : Pending) (store : Vec ℕ Global) (p : Plan)
    (plan : IsPlanOf gone contents pending store p) where
  -- a path that no build may change is none that the plan wants changed
  wanted_rest : (q : List ℕ) → may_change q ≡ false → wanted_by p q ≡ Same
  wanted_rest q h =
      let own = places p plan.places in
      let o = same_text q (codes ".pie/open") in
      let s = same_text q (codes ".pie/store") in
      let n = same_text q (codes ".pie/pending") in
      let three = or_left (is_out q || o || s) n h in
      let two = or_left (is_out q || o) s three in
      let rest = later (written p.writes.items q) (removed p.removals.items q) in
      ap (λ b. later (cond b Gone Same) (changes p q)) (ap (same_text q) own.marker ∙ or_right (is_out q) o two)
      ∙ ap (λ b. later (cond b (stored p.store) Same) (later (at p.names_place (pended p.pending) q) rest))
      (ap (same_text q) own.store ∙ or_right (is_out q || o) s three)
      ∙ ap (λ b. later (cond b (pended p.pending) Same) rest) (ap (same_text q) own.names ∙ or_right (is_out q || o || s) n h)
      ∙ none_wanted gone contents pending store p plan q (or_left (is_out q) o two)

  way_of : (d c : Directory) → Underway p d c → IsUnderWay d c
  way_of d c way = record {
    marked = subst (HasFile c) (places p plan.places).marker way.marked;
    rest = λ q off. way.others q (none_own gone contents pending store p plan q off);
  }

  -- what has the plan done has it done without the marker
  brings_without : (d c : Directory) → commits.IsDone p d c → Brings (wanted_by p) d (without_file c (codes ".pie/open"))
  brings_without d c done q =
      let open_path = codes ".pie/open" in
      let e = without_file c open_path in
      elim (same_text q open_path) as (λ b. same_text q open_path ≡ b → Meets (wanted_by p q) (file_at d q) (file_at e q)) [
        | true ↦ λ is. subst (λ w. Meets w (file_at d q) (file_at e q))
            (sym (ap (wanted_by p) (same_path q open_path is) ∙ wanted_marker gone contents pending store p plan))
            (get_without c open_path q ∙ ap (λ b. cond b None (file_at c q)) is)
        | false ↦ λ is. subst (λ f. Meets (wanted_by p q) (file_at d q) f) (sym (get_without c open_path q ∙ ap (λ b. cond b None (file_at c q)) is))
            (done q (ap (same_text q) (places p plan.places).marker ∙ is))
      ] refl

  -- where the plan of a build is done, the build is
  done_of : (P : Leaving) (r : Report) (d : Directory) → ((after : Option Directory) → Puts contents store.items d r after → P d r after)
      → Fits d gone contents pending → r.verdict ≡ Accepted → r.wrote.items ≡ map (λ f. f.0) contents → r.removed.items ≡ gone
      → (c : Directory) → commits.IsDone p d c → IsDone P d c
  done_of P r d f fits v w g c done =
      let e = without_file c (codes ".pie/open") in
      let brings = brings_without d c done in
      let keeps : KeepsRest (Some d) (Some e) = record {
        kept = (e, refl, λ q off. subst (λ x. Meets x (file_at d q) (file_at e q)) (wanted_rest q off) (brings q));
      } in
      record {
        report = r;
        accepted = v;
        left = f (Some e) (v, e, refl, in_place d e (Some e) gone contents pending store p r fits plan refl brings keeps w g);
      }

  three_of : (P : Leaving) (r : Report) (d : Directory) → ((after : Option Directory) → Puts contents store.items d r after → P d r after)
      → Fits d gone contents pending → r.verdict ≡ Accepted → r.wrote.items ≡ map (λ f. f.0) contents → r.removed.items ≡ gone
      → (c : Directory) → commits.IsOfThree p d c → IsOfThree P d c
  three_of P r d f fits v w g c three =
      ⊎_elim (λ way. inl (way_of d c way)) (λ rest. ⊎_elim (λ is. inr (inl is)) (λ done. inr (inr (done_of P r d f fits v w g c done))) rest) three

  marked_of : (P : Leaving) (r : Report) (d : Directory) → ((after : Option Directory) → Puts contents store.items d r after → P d r after)
      → Fits d gone contents pending → r.verdict ≡ Accepted → r.wrote.items ≡ map (λ f. f.0) contents → r.removed.items ≡ gone
      → (images : Directory → Type 0) → commits.LeavesMarked p d images → LeavesMarked P d images
  marked_of P r d f fits v w g images marked =
      let at_marker : (c : Directory) → HasFile c p.marker → HasFile c (codes ".pie/open") =
      λ c there. subst (HasFile c) (places p plan.places).marker there in
      ⊎_elim (λ each. inl (λ c is. ⊎_elim (λ there. inl (at_marker c there)) (λ same. inr same) (each c is)))
      (λ all. inr (λ c is. done_of P r d f fits v w g c (all c is))) marked

  -- where nothing is pending after the plan was done, it is done in every image
  all_done : (held after : Option Directory) (images : Directory → Type 0) → HasBrought (wanted_by p) held after
      → IfSome held (λ d. IsAtRest after images) → IfSome held (λ d. commits.LeavesMarked p d images)
  all_done None after images brought rest = tt
  all_done (Some d) after images brought rest = inr (λ c is.
      let same : c ≡ brought.0 = rest.2 c is ∙ ap (directory_in d) (sym rest.1 ∙ brought.1) in
      subst (commits.IsDone p d) (sym same) (λ q off. brought.2 q))

  -- a commit of the plan of a build with this report
  pub withstands_commit : {S T : Type 0} (holds : S → Option Directory) (moment : S → ℕ) (left_since : S → ℕ → Directory → Type 0)
      (images : S → Directory → Type 0) (P : Leaving) (r : Report) (old new : S) (result : Result T FilesError)
      → ((d : Directory) (after : Option Directory) → Puts contents store.items d r after → P d r after)
      → IfSome (holds old) (λ d. Fits d gone contents pending) → r.verdict ≡ Accepted → r.wrote.items ≡ map (λ f. f.0) contents → r.removed.items ≡ gone
      → LeavesFromRest holds moment left_since images (commits.IsOfThree p) old new
      → OnErr result (IfSome (holds old) (λ d. Only d (images old) → commits.LeavesMarked p d (images new)))
      → (is_empty p ≡ false → OnOk result (IsCommitted holds images p old new))
      → Withstands holds moment left_since images P old new
  withstands_commit {T = T} holds moment left_since images P r old new result f fits v w g crash failed done = record {
    crash = if_two
        (λ d. Fits d gone contents pending)
        (λ d. Only d (images old) → Leaves moment left_since images (commits.IsOfThree p d) old new)
        (λ d. Only d (images old) → Leaves moment left_since images (IsOfThree P d) old new) (holds old)
        (λ d fit a only. weaker moment left_since images (commits.IsOfThree p d) (IsOfThree P d) old new (three_of P r d (f d) fit v w g) (a only))
        fits crash;
    marked = if_two
        (λ d. Fits d gone contents pending)
        (λ d. Only d (images old) → commits.LeavesMarked p d (images new))
        (λ d. Only d (images old) → LeavesMarked P d (images new)) (holds old)
        (λ d fit b only. marked_of P r d (f d) fit v w g (images new) (b only)) fits
        (either result failed (done (has_store gone contents pending store p plan)));
  }
    where
      either : (result : Result T FilesError) → OnErr result (IfSome (holds old) (λ d. Only d (images old) → commits.LeavesMarked p d (images new)))
          → OnOk result (IsCommitted holds images p old new) → IfSome (holds old) (λ d. Only d (images old) → commits.LeavesMarked p d (images new))
      either (Ok value) e is = if_each (λ d. commits.LeavesMarked p d (images new))
          (λ d. Only d (images old) → commits.LeavesMarked p d (images new)) (holds old) (λ d x only. x)
          (all_done (holds old) (holds new) (images new) is.brought is.rest)
      either (Err error) e is = e

  -- after a commit of it nothing is pending
  pub rests_commit : {S T : Type 0} (holds : S → Option Directory) (images : S → Directory → Type 0) (old new : S) (result : Result T FilesError)
      → (is_empty p ≡ false → OnOk result (IsCommitted holds images p old new)) → OnOk result (StaysAtRest holds images old new)
  rests_commit holds images old new (Ok value) done = if_each (λ d. IsAtRest (holds new) (images new))
      (λ d. Only d (images old) → IsAtRest (holds new) (images new)) (holds old) (λ d x only. x) (done (has_store gone contents pending store p plan)).rest
  rests_commit holds images old new (Err e) done = tt

  -- after a commit of it, what it wants is brought about
  pub brought_commit : {S T : Type 0} (holds : S → Option Directory) (images : S → Directory → Type 0) (old new : S) (result : Result T FilesError)
      → (is_empty p ≡ false → OnOk result (IsCommitted holds images p old new))
      → is_empty p ≡ false → OnOk result (HasBrought (wanted_by p) (holds old) (holds new))
  brought_commit holds images old new (Ok value) done some = (done some).brought
  brought_commit holds images old new (Err e) done some = tt
