-- Reasons by records are reasons, and right records give none.
use Rattle.std.proofs.Common.{ℕ, ◌≡◌, true, false, Option, Some, List, [], ◌∷◌, ◌⊎◌, inl, inr, sym, ◌∙◌, subst, refl}
use Rattle.pie_model.specs.Paths.{Path, among}
use Rattle.pie_model.specs.Tasks.{Task}
use Rattle.pie_model.specs.Trees.{outcome_of, is_done}
use Rattle.pie_model.specs.Evaluation.{World, Project, evaluation}
use Rattle.pie_model.specs.Records.{Record, Query, Observation, record_of, needs_of, task_asked}
use Rattle.pie_model.specs.Built.{Directory}
use Rattle.pie_model.specs.StampNow.{Told, Teller, by_evaluation, by_records, stamp_now, asked_before, StampsAgree}
use Rattle.pie_model.specs.Separate.{NeverWritesWhatItSaw}
use Rattle.pie_model.specs.inner.CoreLaws.{TellsRight}
use Rattle.pie_model.specs.Reasons.{Differs, SameCode, RunReason}
use Rattle.pie_model.specs.Reasons.RunReason.{is_new, code, stamp, provided}
use Rattle.pie_model.proofs.Basics.{clash, among_left, among_right}
use Rattle.pie_model.proofs.LooksLemmas.{some_same}
use Rattle.pie_model.proofs.ItselfLemmas.{agrees_itself}
use Rattle.pie_model.proofs.AgreesLemmas.{IsKnown, asked_either, stamp_same}
use Rattle.pie_step_laws.proofs.Tables.{none_some}
use Rattle.pie_earlier_laws.specs.Left.{AreThere}
use Rattle.pie_earlier_laws.specs.Whys.{AllRequiredAreRight}
use Rattle.pie_earlier_laws.proofs.Leaving.{not_missing}

-- where two tellers give each query one stamp, what differs by the one differs by the other
module _ (w : World) (P : Project) (one two : Teller) (own : List (Path × List ℕ)) (K : Task → Type 0)
    (f : (before : List Task) (q : Query) → ((u : Task) → among u before ≡ true → K u) → ((u : Task) → among u (task_asked q) ≡ true → K u)
    → stamp_now w P one own before q ≡ stamp_now w P two own before q) where
  differs_along : (os : List Observation) (before : List Task) → ((u : Task) → among u before ≡ true → K u)
      → ((u : Task) → among u (needs_of os) ≡ true → K u) → Differs w P one own before os → Differs w P two own before os
  differs_along [] before b n d = d
  differs_along (o ∷ os) before b n (inl d) =
      inl (λ e. d (f before o.query b (λ u i. n u (among_left u (task_asked o.query) (needs_of os) i)) ∙ e))
  differs_along (o ∷ os) before b n (inr d) =
      inr (differs_along os (asked_before before o.query) more (λ u i. n u (among_right u (task_asked o.query) (needs_of os) i)) d)
    where
      more : (u : Task) → among u (asked_before before o.query) ≡ true → K u
      more u i = by (asked_either u before o.query i)
        where
          by : (among u before ≡ true) ⊎ (among u (task_asked o.query) ≡ true) → K u
          by (inl j) = b u j
          by (inr j) = n u (among_left u (task_asked o.query) (needs_of os) j)

pub differing_is_reason : (w : World) (now : Project) (directory : Directory) (R : Task → Option Record) (told : List Task → Path → Told) (r : Record)
    (kept digest : Option (List ℕ)) → TellsRight R told → AllRequiredAreRight w now R r
    → Differs w now (by_records R told) r.writes [] r.observations → RunReason w now directory (Some r) kept digest
differing_is_reason w now directory R told r kept digest tells right d =
    stamp r refl
    (differs_along w now (by_records R told) (by_evaluation w now) r.writes (IsKnown w now R) (stamp_same w now now R told tells r.writes)
    r.observations [] (λ u i. clash false i refl) (λ u i. let q = right u i in record { recorded = q.0; right = q.1 }) d)

-- what agrees does not differ
agrees_not : (w : World) (P : Project) (by : Teller) (own : List (Path × List ℕ)) (os : List Observation) (before : List Task)
    → StampsAgree w P by own before os → Differs w P by own before os → ⊥
agrees_not w P by own [] before h d = d
agrees_not w P by own (o ∷ os) before h (inl d) = d h.0
agrees_not w P by own (o ∷ os) before h (inr d) = agrees_not w P by own os (asked_before before o.query) h.1 d

pub no_reason : (w : World) (now : Project) (directory : Directory) (t : Task) (r : Record) (kept digest : Option (List ℕ))
    → NeverWritesWhatItSaw (now.next t) → r ≡ record_of w (evaluation w now t) → is_done (outcome_of (evaluation w now t)) ≡ true → SameCode kept digest
    → AreThere w directory r.writes → RunReason w now directory (Some r) kept digest → ⊥
no_reason w now directory t r kept digest manners e done same there (is_new h) = none_some (Some r) r h refl
no_reason w now directory t r kept digest manners e done same there (code f) = f same
no_reason w now directory t r kept digest manners e done same there (stamp s h d) =
    let k : record_of w (evaluation w now t) ≡ s = sym e ∙ some_same r s h in
    agrees_not w now (by_evaluation w now) s.writes s.observations []
    (subst (λ z. StampsAgree w now (by_evaluation w now) z.writes [] z.observations) k (agrees_itself w now t manners done)) d
no_reason w now directory t r kept digest manners e done same there (provided s h m) =
    not_missing w directory s.writes (subst (λ z. AreThere w directory z.writes) (some_same r s h) there) m
