-- At the beginning the old records are consistent, but for tasks whose function or source stamps changed.
use Rattle.std.proofs.Common.{ℕ, suc, ◌≤◌, ◌<◌, ◌≡◌, true, false, Option, Some, List, [], ◌∷◌, length, inr, sym, ◌∙◌, ap, subst, refl, arith}
use Rattle.pie_model.specs.Paths.{Path, Kind, Out, Kept, Source, kind_of, among}
use Rattle.pie_model.specs.Tasks.{Task, Look}
use Rattle.pie_model.specs.Trees.{Node, node, Trace, ends, looks, lists, writes, needs, outcome_of, is_plain, trace_of, levels, levels_below, required_by}
use Rattle.pie_model.specs.Evaluation.{World, Project, evaluation}
use Rattle.pie_model.specs.Records.{Record, Observation, Query, Looked, Listed, Required, needs_of, look_stamp}
use Rattle.pie_model.specs.StampNow.{Told, Teller, by_evaluation, look_now, stamp_now, StampsAgree, RecordAgrees, asked_before}
use Rattle.pie_model.specs.Separate.{NeverWritesWhatItSaw}
use Rattle.pie_model.specs.inner.Present.{Reaches, WroteByRecords, IsTold}
use Rattle.pie_model.specs.inner.Present.Way.{here, along}
use Rattle.pie_model.specs.inner.Consistent.{IsRecorded, IsConsistent}
use Rattle.pie_model.specs.inner.Still.{SourceStampStill, SourcesStill, WasDone}
use Rattle.pie_model.proofs.Basics.{clash}
use Rattle.pie_model.proofs.Kids.{Kids, required_kid, kids_both}
use Rattle.pie_model.proofs.Rooms.{IsOwn}
use Rattle.pie_model.proofs.SecondLaw.{done_plain}
use Rattle.pie_model.specs.inner.RecordLaws.{HasItsRecord}
use Rattle.pie_model.proofs.Ways.{needs_right, kids_own}
use Rattle.pie_model.proofs.AgreesLemmas.{IsKnown, agrees_by_records}
use Rattle.pie_model.proofs.ItselfLemmas.{agrees_itself}

module _ (w : World) (old now : Project) (by : Teller) (own : List (Path × List ℕ)) where
  look_moves : (before : List Task) (o : Observation) (l : Look) (p : Path) (k : Kind) → kind_of p ≡ k
      → (kind_of p ≡ Source → look_stamp w l p (Rattle.pie_model.specs.Seen.seen_file (now.file p)) ≡ o.stamp)
      → look_now w old by own before l p k ≡ Some o.stamp → look_now w now by own before l p k ≡ Some o.stamp
  look_moves before o l p Out e s h = h
  look_moves before o l p Kept e s h = h
  look_moves before o l p Source e s h = ap Some (s e)

  stamp_moves : (before : List Task) (o : Observation) (q : Query) → SourceStampStill w now q o.stamp
      → stamp_now w old by own before q ≡ Some o.stamp → stamp_now w now by own before q ≡ Some o.stamp
  stamp_moves before o (Looked l p) s h = look_moves before o l p (kind_of p) refl s h
  stamp_moves before o (Listed d) s h = s
  stamp_moves before o (Required r u) s h = h

  pub agrees_moves : (os : List Observation) (before : List Task) → SourcesStill w now os → StampsAgree w old by own before os
      → StampsAgree w now by own before os
  agrees_moves [] before s h = tt
  agrees_moves (o ∷ os) before s h = (stamp_moves before o o.query s.0 h.0, agrees_moves os (asked_before before o.query) s.1 h.1)

-- a required evaluation has fewer levels
kids_lower : (whole : ℕ) (k : Trace) → levels_below k ≤ whole → Kids (λ u n. levels n ≤ whole) k
kids_lower whole (ends e) h = tt
kids_lower whole (looks l p s k) h = kids_lower whole k h
kids_lower whole (lists d es k) h = kids_lower whole k h
kids_lower whole (writes p b k) h = kids_lower whole k h
kids_lower whole (needs r u n k) h = (omega arith, kids_lower whole k (omega arith))

levels-node : (n : Node) → levels n ≡ suc (levels_below (trace_of n))
levels-node (node t k) = refl

pub required_lower : (w : World) (P : Project) (t u : Task) → is_plain (outcome_of (evaluation w P t)) ≡ true
    → among u (required_by (trace_of (evaluation w P t))) ≡ true → levels (evaluation w P u) < levels (evaluation w P t)
required_lower w P t u h i =
    required_kid (λ v n. IsOwn w P v n × (levels n ≤ levels_below (trace_of (evaluation w P t)))) u (trace_of (evaluation w P t))
    (kids_both (IsOwn w P) (λ v n. levels n ≤ levels_below (trace_of (evaluation w P t))) (trace_of (evaluation w P t)) (kids_own w P t h)
    (kids_lower (levels_below (trace_of (evaluation w P t))) (trace_of (evaluation w P t)) (omega arith))) i
    (λ n q f. up _ _ _ (subst (λ z. levels z ≤ levels_below (trace_of (evaluation w P t))) q.0.0 q.1) (levels-node (evaluation w P t)))
  where
    up : (a b c : ℕ) → a ≤ b → c ≡ suc b → a < c
    up a b c q e = omega arith

module _ (w : World) (old now : Project) (Met : List ℕ → Type 0) (R : Task → Option Record) (told : List Task → Path → Told) (held : List Task)
    (polite : (t : Task) → NeverWritesWhatItSaw (old.next t))
    (was : (t : Task) (r : Record) → R t ≡ Some r → WasDone w old now Met t r)
    (closed : (t : Task) (r : Record) (u : Task) → R t ≡ Some r → among u (needs_of r.observations) ≡ true → IsRecorded R u) where
  old_right : (t : Task) → IsRecorded R t → HasItsRecord w old R t
  old_right t h = record {
    is = h.is ∙ ap Some (was t h.kept h.is).was;
    plain = done_plain _ (was t h.kept h.is).done;
  }

  old_recorded : {x t : Task} → Reaches R t x → IsRecorded R t → IsRecorded R x
  old_recorded here h = h
  old_recorded {x} {t} (along {b = u} {r = r} e i q) h = old_recorded q (closed t r u e i)

  old_known : (t : Task) → IsRecorded R t → IsKnown w old R t
  old_known t h = record { recorded = h; right = λ x q. old_right x (old_recorded q h) }

  pub begins_consistent : (busy : Task → Type 0) → length held ≤ w.most_tasks → ((t : Task) (r : Record) → R t ≡ Some r → among t held ≡ true)
      → ((us : List Task) (p : Path) → ((u : Task) → among u us ≡ true → IsRecorded R u) → IsTold (WroteByRecords R us p) (told us p))
      → ((t : Task) (r : Record) → R t ≡ Some r → (busy t → ⊥) → (old.next t ≡ now.next t) × SourcesStill w now r.observations)
      → IsConsistent w old now Met R told held (λ t. levels (evaluation w old t)) busy
  begins_consistent busy few counted telling still = record {
    few = few;
    counted = counted;
    closed = closed;
    lower = λ t r u e i.
        required_lower w old t u (done_plain _ (was t r e).done) (needs_right w old R t u r (old_right t (record { kept = r; is = e })) e i);
    plain = λ t r e. ap (λ z. is_plain z.outcome) (was t r e).was ∙ done_plain _ (was t r e).done;
    met = λ t r e. (was t r e).met_now;
    telling = telling;
    current = λ t r e b. inr (record {
      was = (was t r e).was;
      done = (was t r e).done;
      met = (was t r e).met_then;
      meaning = (still t r e b).0;
      agrees = agrees_by_records w old now R told telling r.writes r.observations [] (λ u i. clash false i refl)
          (λ u i. old_known u (closed t r u e i))
          (agrees_moves w old now (by_evaluation w old) r.writes r.observations [] (still t r e b).1
          (subst (RecordAgrees w old (by_evaluation w old)) (sym (was t r e).was) (agrees_itself w old t (polite t) (was t r e).done)));
    });
  }
