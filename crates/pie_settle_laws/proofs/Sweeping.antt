-- A finish leaves untouched what is settled, and what agrees where a sweep has told it apart.
use Rattle.std.proofs.Common.{ℕ, ◌≡◌, Bool, true, false, Option, Some, None, List, [], ◌∷◌, ◌⊎◌, inl, inr, sym, ◌∙◌, ap, subst, refl}
use Rattle.pie_model.specs.Paths.{Path, among}
use Rattle.pie_model.specs.Tasks.{Task}
use Rattle.pie_model.specs.Evaluation.{World, Project}
use Rattle.pie_model.specs.Records.{Record, Stamp, Query, Looked, Listed, Required, Observation, task_asked, needs_of}
use Rattle.pie_model.specs.StampNow.{Told, by_records, recorded_outcome, outcome_now, stamp_now, asked_before, StampsAgree, RecordAgrees}
use Rattle.pie_model.specs.inner.Present.{Reaches}
use Rattle.pie_model.specs.inner.Present.Way.{along}
use Rattle.pie_model.specs.inner.Consistent.{IsRecorded, IsSettled}
use Rattle.pie_model.specs.inner.Steps.{Each, StampStill, SameShape, ChangesAt, IsUntouched}
use Rattle.pie_model.proofs.Basics.{among_here, among_left, among_right}
use Rattle.pie_step_laws.proofs.Tables.{none_some}
use Rattle.pie_settle_laws.specs.Sweeps.{IsSwept}
use Rattle.pie_settle_laws.proofs.Settling.{closed_reach}

module _ (w : World) (now : Project) (R S : Task → Option Record) (told : List Task → Path → Told) (t : Task) (new : Record)
    (change : ChangesAt R S t new) where
  stamp_still : (own : List (Path × List ℕ)) (before : List Task) (q : Query) (s : Stamp)
      → (among t (task_asked q) ≡ true → recorded_outcome (R t) ≡ new.outcome)
      → stamp_now w now (by_records R told) own before q ≡ Some s → StampStill w S t q s
  stamp_still own before (Looked l p) s f k = tt
  stamp_still own before (Listed d) s f k = tt
  stamp_still own before (Required h u) s f k = λ e.
      ap (λ z. outcome_now w h (recorded_outcome z)) change.now
      ∙ ap (outcome_now w h) (sym (f (subst (λ z. among t (z ∷ []) ≡ true) (sym e) (among_here t []))))
      ∙ ap (λ z. outcome_now w h (recorded_outcome (R z))) (sym e)
      ∙ k

  stamps_still : (own : List (Path × List ℕ)) (before : List Task) (os : List Observation)
      → (among t (needs_of os) ≡ true → recorded_outcome (R t) ≡ new.outcome)
      → StampsAgree w now (by_records R told) own before os → Each (StampStill w S t) os
  stamps_still own before [] f a = tt
  stamps_still own before (o ∷ os) f a = (
    stamp_still own before o.query o.stamp (λ i. f (among_left t (task_asked o.query) (needs_of os) i)) a.0,
    stamps_still own (asked_before before o.query) os (λ i. f (among_right t (task_asked o.query) (needs_of os) i)) a.1,
  )

  module _ (busy : Task → Type 0) (z : Task) (r : Record) (is_busy : busy t) (is : R z ≡ Some r) where
    -- a settled record requires nothing that reaches the busy task
    settled_apart : IsSettled R busy z → IsUntouched w R S t new r
    settled_apart s = inl (λ u i q. s.free t (along is i q) is_busy)

    swept_apart : (swept : Bool) → IsSwept R t r swept → Each (StampStill w S t) r.observations → IsUntouched w R S t new r
    swept_apart false h still = inl (h.below refl)
    swept_apart true h still = inr (still, inr (h.elsewhere refl))

    pub untouched : (swept : Bool) → IsSettled R busy z ⊎ RecordAgrees w now (by_records R told) r
        → (among t (needs_of r.observations) ≡ true → recorded_outcome (R t) ≡ new.outcome)
        → ((before : Record) × (R t ≡ Some before) × SameShape before new) ⊎ IsSwept R t r swept → IsUntouched w R S t new r
    untouched swept (inl s) f h = settled_apart s
    untouched swept (inr a) f (inl shape) = inr (stamps_still r.writes [] r.observations f a, inl shape)
    untouched swept (inr a) f (inr h) = swept_apart swept h (stamps_still r.writes [] r.observations f a)

pub new_unreached : (R : Task → Option Record) (t z : Task) (r : Record)
    → ((t : Task) (r : Record) (u : Task) → R t ≡ Some r → among u (needs_of r.observations) ≡ true → IsRecorded R u)
    → R t ≡ None → R z ≡ Some r → (u : Task) → among u (needs_of r.observations) ≡ true → Reaches R u t → ⊥
new_unreached R t z r closed none is u i q = let k = closed_reach R closed q (closed z r u is i) in none_some (R t) k.kept none k.is
