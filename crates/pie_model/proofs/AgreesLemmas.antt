-- Stamps by right records are stamps by evaluation.
use Rattle.std.proofs.Common.{ℕ, ◌≡◌, true, Option, List, [], ◌∷◌, ◌⊎◌, inl, inr, sym, ◌∙◌, ap, refl}
use Rattle.pie_model.specs.Paths.{Path, Kind, Out, Kept, Source, kind_of, among}
use Rattle.pie_model.specs.Tasks.{Task, Look}
use Rattle.pie_model.specs.Seen.{first_write}
use Rattle.pie_model.specs.Evaluation.{World, Project}
use Rattle.pie_model.specs.Records.{Record, Observation, Query, Looked, Listed, Required, task_asked, needs_of}
use Rattle.pie_model.specs.StampNow.{Told, Teller, by_evaluation, by_records, recorded_outcome, told_stamp, own_told, look_now, outcome_now, stamp_now, StampsAgree}
use Rattle.pie_model.specs.StampNow.{asked_before}
use Rattle.pie_model.specs.inner.Present.{Reaches, WroteByRecords, IsTold}
use Rattle.pie_model.specs.inner.Consistent.{IsRecorded}
use Rattle.pie_model.proofs.Basics.{among_here, among_either, among_left, among_right}
use Rattle.pie_model.specs.inner.RecordLaws.{HasItsRecord}
use Rattle.pie_model.proofs.Views.{told_is_seen}

pub asked_either : (u : Task) (before : List Task) (q : Query) → among u (asked_before before q) ≡ true
    → (among u before ≡ true) ⊎ (among u (task_asked q) ≡ true)
asked_either u before (Looked l p) h = inl h
asked_either u before (Listed d) h = inl h
asked_either u before (Required r v) h = among_either u before (v ∷ []) h

-- two tellers by whom each query has one stamp, given what is known of the required tasks
module _ (w : World) (P : Project) (one two : Teller) (own : List (Path × List ℕ)) (K : Task → Type 0)
    (f : (before : List Task) (q : Query) → ((u : Task) → among u before ≡ true → K u) → ((u : Task) → among u (task_asked q) ≡ true → K u)
    → stamp_now w P one own before q ≡ stamp_now w P two own before q) where
  pub agrees_along : (os : List Observation) (before : List Task) → ((u : Task) → among u before ≡ true → K u)
      → ((u : Task) → among u (needs_of os) ≡ true → K u)
      → StampsAgree w P one own before os → StampsAgree w P two own before os
  agrees_along [] before b n h = tt
  agrees_along (o ∷ os) before b n h = (
    sym (f before o.query b (λ u i. n u (among_left u (task_asked o.query) (needs_of os) i))) ∙ h.0,
    agrees_along os (asked_before before o.query) more (λ u i. n u (among_right u (task_asked o.query) (needs_of os) i)) h.1,
  )
    where
      more : (u : Task) → among u (asked_before before o.query) ≡ true → K u
      more u i = by (asked_either u before o.query i)
        where
          by : (among u before ≡ true) ⊎ (among u (task_asked o.query) ≡ true) → K u
          by (inl j) = b u j
          by (inr j) = n u (among_left u (task_asked o.query) (needs_of os) j)

-- what is known of a required task: it has a record, and all that it reaches is right
pub record IsKnown (w : World) (P : Project) (R : Task → Option Record) (u : Task) : Type 0 where
  pub recorded : IsRecorded R u
  pub right : (x : Task) → Reaches R u x → HasItsRecord w P R x

module _ (w : World) (P Q : Project) (R : Task → Option Record) (told : List Task → Path → Told)
    (telling : (us : List Task) (p : Path) → ((u : Task) → among u us ≡ true → IsRecorded R u) → IsTold (WroteByRecords R us p) (told us p))
    (own : List (Path × List ℕ)) where
  look_same : (before : List Task) (l : Look) (p : Path) (k : Kind) → ((u : Task) → among u before ≡ true → IsKnown w P R u)
      → look_now w Q (by_records R told) own before l p k ≡ look_now w Q (by_evaluation w P) own before l p k
  look_same before l p Out b =
      ap (λ s. told_stamp l (own_told (first_write p own) s))
      (told_is_seen w P R before (λ u i. (b u i).right) p (told before p) (telling before p (λ u i. (b u i).recorded)))
  look_same before l p Kept b = refl
  look_same before l p Source b = refl

  pub stamp_same : (before : List Task) (q : Query) → ((u : Task) → among u before ≡ true → IsKnown w P R u)
      → ((u : Task) → among u (task_asked q) ≡ true → IsKnown w P R u)
      → stamp_now w Q (by_records R told) own before q ≡ stamp_now w Q (by_evaluation w P) own before q
  stamp_same before (Looked l p) b n = look_same before l p (kind_of p) b
  stamp_same before (Listed d) b n = refl
  stamp_same before (Required h u) b n =
      ap (λ o. outcome_now w h (recorded_outcome o)) ((n u (among_here u [])).right u Rattle.pie_model.specs.inner.Present.Way.here).is

  pub agrees_by_evaluation : (os : List Observation) (before : List Task) → ((u : Task) → among u before ≡ true → IsKnown w P R u)
      → ((u : Task) → among u (needs_of os) ≡ true → IsKnown w P R u)
      → StampsAgree w Q (by_records R told) own before os → StampsAgree w Q (by_evaluation w P) own before os
  agrees_by_evaluation = agrees_along w Q (by_records R told) (by_evaluation w P) own (IsKnown w P R) stamp_same

  pub agrees_by_records : (os : List Observation) (before : List Task) → ((u : Task) → among u before ≡ true → IsKnown w P R u)
      → ((u : Task) → among u (needs_of os) ≡ true → IsKnown w P R u)
      → StampsAgree w Q (by_evaluation w P) own before os → StampsAgree w Q (by_records R told) own before os
  agrees_by_records = agrees_along w Q (by_evaluation w P) (by_records R told) own (IsKnown w P R) (λ before q b n. sym (stamp_same before q b n))
