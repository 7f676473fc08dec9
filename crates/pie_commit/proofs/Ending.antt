-- A commit from rest leaves one of three things at each moment.
use Rattle.std.proofs.Common.{◌≡◌, ◌⊎◌, ℕ, cond, [], sym, ap, ◌∙◌, subst, inl, inr, ⊎_elim}
use Rattle.std.specs.Prelude.{Option, None, Some, Result, Ok, Err, IfSome, OnErr}
use Rattle.pie_files.specs.declared.files.FilesError.{FilesError}
use Rattle.pie_files.specs.Directory.{Directory, file_at}
use Rattle.pie_files.specs.Images.{Only}
use Rattle.pie_commit.specs.declared.plan.Plan.{Plan}
use Rattle.pie_commit.specs.inner.Plans.{Same, Gone, Bytes, Meets, Brings, later, at, changes, wanted_by}
use Rattle.pie_files.specs.Reading.{Leaves}
use Rattle.pie_commit.specs.Outcomes.{HasFile, HasBrought, Underway, IsDone, AllDone, IsOfThree, IsEarly, IsEnding, IsAtRest, Stands}
use Rattle.pie_commit.specs.Outcomes.{LeavesMarked, LeavesFromRest, KeepsMarked}
use Rattle.pie_commit.proofs.Bringing.{later-same}
use Rattle.pie_files.proofs.Reading.{starts, in_turn, weaker, if_each}
use Rattle.pie_commit.proofs.Standing.{removal_apart, Told, both_each}

pub in_any_err : {T A : Type 0} (result : Result T FilesError) → A → OnErr result A
in_any_err (Ok value) a = tt
in_any_err (Err e) a = a

pub if_every : (A : Directory → Type 0) (o : Option Directory) → ((d : Directory) → A d) → IfSome o A
if_every A None f = tt
if_every A (Some d) f = f d

if_both : (A B : Directory → Type 0) (o : Option Directory) → IfSome o A → IfSome o B → IfSome o (λ d. A d × B d)
if_both A B None a b = tt
if_both A B (Some d) a b = (a, b)

three_early : (p : Plan) (d c : Directory) → IsEarly p d c → IsOfThree p d c
three_early p d c early = ⊎_elim (λ way. inl way) (λ is. inr (inl is)) early

marked_early : (p : Plan) (d c : Directory) → IsEarly p d c → HasFile c p.marker ⊎ (c ≡ d)
marked_early p d c early = ⊎_elim (λ way. inl way.marked) (λ is. inr is) early

-- with the marker, after all changes
done_by : (p : Plan) (d e : Directory) → Brings (λ q. later (changes p q) (at p.marker (Bytes []) q)) d e → IsDone p d e
done_by p d e brings q off =
    let changed : later (changes p q) (at p.marker (Bytes []) q) ≡ changes p q =
    ap (λ b. later (changes p q) (cond b (Bytes []) Same)) off ∙ later-same (changes p q) in
    let wanted : wanted_by p q ≡ changes p q = ap (λ b. later (cond b Gone Same) (changes p q)) off in
    subst (λ w. Meets w (file_at d q) (file_at e q)) (changed ∙ sym wanted) (brings q)

done_ending : (p : Plan) (d e c : Directory) → IsDone p d e → IsEnding p.marker e c → IsDone p d c
done_ending p d e c done ending =
    ⊎_elim (λ is. subst (IsDone p d) (sym is) done)
    (λ gone. subst (IsDone p d) (sym gone) (λ q off. subst (Meets (wanted_by p q) (file_at d q)) (sym (removal_apart e p.marker q off)) (done q off))) ending

abbrev from_some : Directory → Option Directory → Directory
from_some d None = d
from_some d (Some e) = e

module _ {S : Type 0} (holds : S → Option Directory) (moment : S → ℕ) (left_since : S → ℕ → Directory → Type 0) (images : S → Directory → Type 0) where
  pub begin_failed : (p : Plan) (old new : S) → LeavesFromRest holds moment left_since images (IsEarly p) old new
      → IfSome (holds old) (λ d. Only d (images old) → LeavesMarked p d (images new))
  begin_failed p old new early = if_each
      (λ d. Only d (images old) → Leaves moment left_since images (IsEarly p d) old new)
      (λ d. Only d (images old) → LeavesMarked p d (images new)) (holds old)
      (λ d leaves only. inl (λ c is. marked_early p d c ((leaves only).now c is))) early

  pub three_begun : (p : Plan) (old new : S) → LeavesFromRest holds moment left_since images (IsEarly p) old new
      → LeavesFromRest holds moment left_since images (IsOfThree p) old new
  three_begun p old new early = if_each
      (λ d. Only d (images old) → Leaves moment left_since images (IsEarly p d) old new)
      (λ d. Only d (images old) → Leaves moment left_since images (IsOfThree p d) old new) (holds old)
      (λ d leaves only. weaker moment left_since images (IsEarly p d) (IsOfThree p d) old new (three_early p d) (leaves only)) early

  pub change_failed : (p : Plan) (old mid new : S) → Told (holds old) (holds mid) → IfSome (holds old) (λ d. Stands p d (images mid))
      → KeepsMarked holds moment left_since images p mid new → IfSome (holds old) (λ d. Only d (images old) → LeavesMarked p d (images new))
  change_failed p old mid new told stands keeps = both_each
      (λ d. Stands p d (images mid)) ((d : Directory) → Stands p d (images mid) → Leaves moment left_since images (Underway p d) mid new)
      (λ d. Only d (images old) → LeavesMarked p d (images new)) (holds old) (holds mid) told
      (λ d standing keep only. inl (λ c is. inl ((keep d standing).now c is).marked)) stands keeps

  pub three_changed : (p : Plan) (old mid new : S) → Told (holds old) (holds mid) → LeavesFromRest holds moment left_since images (IsEarly p) old mid
      → IfSome (holds old) (λ d. Stands p d (images mid)) → KeepsMarked holds moment left_since images p mid new
      → LeavesFromRest holds moment left_since images (IsOfThree p) old new
  three_changed p old mid new told early stands keeps = both_each
      (λ d. (Only d (images old) → Leaves moment left_since images (IsEarly p d) old mid) × Stands p d (images mid))
      ((d : Directory) → Stands p d (images mid) → Leaves moment left_since images (Underway p d) mid new)
      (λ d. Only d (images old) → Leaves moment left_since images (IsOfThree p d) old new) (holds old) (holds mid) told
      (λ d so_far keep only. in_turn moment left_since images (IsOfThree p d) old mid new
      (weaker moment left_since images (IsEarly p d) (IsOfThree p d) old mid (three_early p d) (so_far.0 only))
      (weaker moment left_since images (Underway p d) (IsOfThree p d) mid new (λ c way. inl way) (keep d so_far.1)))
      (if_both (λ d. Only d (images old) → Leaves moment left_since images (IsEarly p d) old mid) (λ d. Stands p d (images mid)) (holds old) early
      stands) keeps

  ended : (p : Plan) (o m1 m2 : Option Directory) (old mid new : S) → Told o m1
      → HasBrought (λ q. later (changes p q) (at p.marker (Bytes []) q)) o m2
      → IfSome m1 (λ d. IsAtRest m2 (images mid))
      → IfSome m2 (λ e. Only e (images mid) → Leaves moment left_since images (IsEnding p.marker e) mid new)
      → IfSome o (λ d. Only d (images old) → Leaves moment left_since images (IsOfThree p d) old mid)
      → IfSome o (λ d. Only d (images old) → Leaves moment left_since images (IsOfThree p d) old new × AllDone p d (images new))
  ended p None m1 m2 old mid new told brought rest ending so_far = tt
  ended p (Some d) m1 m2 old mid new told brought rest ending so_far =
      let e : Directory = brought.0 in
      let at_rest : IsAtRest m2 (images mid) = subst (λ o. IfSome o (λ x. IsAtRest m2 (images mid))) told.1 rest in
      let same : at_rest.0 ≡ e = ap (from_some d) (sym at_rest.1 ∙ brought.1) in
      let only : Only e (images mid) = subst (λ x. Only x (images mid)) same at_rest.2 in
      let last : Leaves moment left_since images (IsEnding p.marker e) mid new =
      subst (λ o. IfSome o (λ x. Only x (images mid) → Leaves moment left_since images (IsEnding p.marker x) mid new)) brought.1 ending only in
      let done : (c : Directory) → IsEnding p.marker e c → IsDone p d c = λ c is. done_ending p d e c (done_by p d e brought.2) is in
      λ start. (
        in_turn moment left_since images (IsOfThree p d) old mid new (so_far start)
            (weaker moment left_since images (IsEnding p.marker e) (IsOfThree p d) mid new (λ c is. inr (inr (done c is))) last),
        λ c is. done c (last.now c is),
      )

  pub three_ended : (p : Plan) (old first mid new : S) → Told (holds old) (holds first)
      → HasBrought (λ q. later (changes p q) (at p.marker (Bytes []) q)) (holds old) (holds mid)
      → IfSome (holds first) (λ d. IsAtRest (holds mid) (images mid))
      → LeavesFromRest holds moment left_since images (IsEnding p.marker) mid new
      → LeavesFromRest holds moment left_since images (IsOfThree p) old mid
      → IfSome (holds old) (λ d. Only d (images old) → Leaves moment left_since images (IsOfThree p d) old new × AllDone p d (images new))
  three_ended p old first mid new told brought rest ending so_far = ended p (holds old) (holds first) (holds mid) old mid new told brought rest ending so_far

  pub crash_of : (p : Plan) (old new : S)
      → IfSome (holds old) (λ d. Only d (images old) → Leaves moment left_since images (IsOfThree p d) old new × AllDone p d (images new))
      → LeavesFromRest holds moment left_since images (IsOfThree p) old new
  crash_of p old new both = if_each
      (λ d. Only d (images old) → Leaves moment left_since images (IsOfThree p d) old new × AllDone p d (images new))
      (λ d. Only d (images old) → Leaves moment left_since images (IsOfThree p d) old new) (holds old) (λ d f only. (f only).0) both

  pub failed_of : (p : Plan) (old new : S)
      → IfSome (holds old) (λ d. Only d (images old) → Leaves moment left_since images (IsOfThree p d) old new × AllDone p d (images new))
      → IfSome (holds old) (λ d. Only d (images old) → LeavesMarked p d (images new))
  failed_of p old new both = if_each
      (λ d. Only d (images old) → Leaves moment left_since images (IsOfThree p d) old new × AllDone p d (images new))
      (λ d. Only d (images old) → LeavesMarked p d (images new)) (holds old) (λ d f only. inr (f only).1) both

  pub three_still : (p : Plan) (old : S) → LeavesFromRest holds moment left_since images (IsOfThree p) old old
  three_still p old = if_every (λ d. Only d (images old) → Leaves moment left_since images (IsOfThree p d) old old) (holds old)
      (λ d only. starts moment left_since images (IsOfThree p d) old (λ c is. inr (inl (only c is))))
