-- The records of an earlier accepted build begin consistent.
use Rattle.std.proofs.Common.{ℕ, ◌≤◌, ◌≡◌, true, false, Option, Some, List, [], ◌∷◌, map, length, ◌⊎◌, inl, inr, sym, subst, refl}
use Rattle.pie_model.specs.Paths.{Path, among}
use Rattle.pie_model.specs.Tasks.{Task}
use Rattle.pie_model.specs.Trees.{Node, trace_of, StandsIn}
use Rattle.pie_model.specs.Evaluation.{World, Project, evaluation}
use Rattle.pie_model.specs.Records.{Record}
use Rattle.pie_model.specs.Forest.{entered_tasks}
use Rattle.pie_model.specs.Verdict.{verdict}
use Rattle.pie_model.specs.declared.words.Verdict.TheVariants.{Accepted}
use Rattle.pie_model.specs.Built.{store_rows}
use Rattle.pie_model.specs.StampNow.{Told}
use Rattle.pie_model.specs.Separate.{AllMet}
use Rattle.pie_model.specs.Changes.{IsMet}
use Rattle.pie_model.specs.inner.Consistent.{IsConsistent}
use Rattle.pie_model.specs.inner.CoreLaws.{TellsRight}
use Rattle.pie_model.specs.inner.Still.{SourcesStill, WasDone}
use Rattle.pie_model.proofs.Basics.{clash, among_split}
use Rattle.pie_model.proofs.Ways.{stands_itself}
use Rattle.pie_model.proofs.BeginLemmas.{begins_consistent}
use Rattle.pie_earlier_laws.specs.Met.{StandsAmong}
use Rattle.pie_earlier_laws.specs.Rows.{record_among}
use Rattle.pie_earlier_laws.specs.Sources.{SourcesAgree, AreTested}
use Rattle.pie_earlier_laws.specs.Telling.{GoLower}
use Rattle.pie_earlier_laws.specs.Begins.{HasManners}
use Rattle.pie_earlier_laws.proofs.Meeting.{tried_met, old_met}
use Rattle.pie_earlier_laws.proofs.Accepting.{all_roots, live}
use Rattle.pie_earlier_laws.proofs.OldRows.{old_row, rows_closed}
use Rattle.pie_earlier_laws.proofs.Unnamed.{sources_still}

-- with other ranks
pub ranked_anew : (w : World) (old now : Project) (Met : List ℕ → Type 0) (R : Task → Option Record) (told : List Task → Path → Told) (held : List Task)
    (rank new_rank : Task → ℕ) (busy : Task → Type 0) → GoLower R new_rank → IsConsistent w old now Met R told held rank busy
    → IsConsistent w old now Met R told held new_rank busy
ranked_anew w old now Met R told held rank new_rank busy lower c = record {
  few = c.few;
  counted = c.counted;
  closed = c.closed;
  lower = lower;
  plain = c.plain;
  met = c.met;
  telling = c.telling;
  current = c.current;
}

among_trees : (w : World) (P : Project) (m : Node) (t : Task) (ts : List Task) → among t ts ≡ true → StandsIn m (evaluation w P t)
    → StandsAmong m (map (evaluation w P) ts)
among_trees w P m t [] i s = clash false i refl
among_trees w P m t (x ∷ xs) i s = go (among_split t x xs i) (λ j. among_trees w P m t xs j s)
  where
    go : (t ≡ x) ⊎ (among t xs ≡ true) → (among t xs ≡ true → StandsAmong m (map (evaluation w P) xs))
        → StandsIn m (evaluation w P x) ⊎ StandsAmong m (map (evaluation w P) xs)
    go (inl e) f = inl (subst (λ z. StandsIn m (evaluation w P z)) e s)
    go (inr j) f = inr (f j)

module _ (w : World) (old now : Project) (old_roots roots : List Task) (besides : List (List ℕ)) (manners : HasManners old)
    (accepted : verdict w old old_roots ≡ Accepted) where
  abbrev Met : List ℕ → Type 0
  Met = IsMet w old now old_roots roots besides

  -- what a live task observed and wrote then is met
  pub live_met : (t : Task) → among t (entered_tasks w old old_roots) ≡ true
      → AllMet w (IsMet w old now old_roots roots besides) (trace_of (evaluation w old t))
  live_met t i =
      let l = live w old old_roots accepted t i in
      old_met w old now old_roots roots besides (evaluation w old t)
      (subst (StandsAmong (evaluation w old t)) (sym (all_roots w old old_roots accepted))
      (among_trees w old (evaluation w old t) l.from old_roots l.listed l.stands))

  row_was_done : (t : Task) (r : Record) → record_among (store_rows w old old_roots) t ≡ Some r
      → WasDone w old now (IsMet w old now old_roots roots besides) t r
  row_was_done t r h =
      let q = old_row w old old_roots accepted t r h in record {
        was = q.was;
        done = q.done;
        met_then = live_met t q.live;
        met_now = tried_met w old now old_roots roots besides t (evaluation w now t) (inl q.live) (stands_itself (evaluation w now t));
      }

  module _ (changes : List Path) (agree : SourcesAgree old now changes) where
    abbrev rows : Task → Option Record
    rows = record_among (store_rows w old old_roots)

    rows_still : (t : Task) (r : Record) → record_among (store_rows w old old_roots) t ≡ Some r → AreTested w now changes r.observations
        → SourcesStill w now r.observations
    rows_still t r h tested =
        let q = old_row w old old_roots accepted t r h in
        subst (λ z. SourcesStill w now z.observations) (sym q.was)
        (sources_still w old now changes t (manners.writes t) (manners.lists t) q.done agree
        (subst (λ z. AreTested w now changes z.observations) q.was tested))

    rows_begin : (told : List Task → Path → Told) (held : List Task) (rank : Task → ℕ) (busy : Task → Type 0)
        → GoLower (record_among (store_rows w old old_roots)) rank → TellsRight (record_among (store_rows w old old_roots)) told
        → length held ≤ w.most_tasks
        → ((t : Task) (r : Record) → record_among (store_rows w old old_roots) t ≡ Some r → among t held ≡ true)
        → ((t : Task) (r : Record) → record_among (store_rows w old old_roots) t ≡ Some r → (busy t → ⊥)
        → (old.next t ≡ now.next t) × AreTested w now changes r.observations)
        → IsConsistent w old now (IsMet w old now old_roots roots besides) (record_among (store_rows w old old_roots)) told held rank busy
    rows_begin told held rank busy lower tells few counted idle =
        ranked_anew w old now (IsMet w old now old_roots roots besides) (record_among (store_rows w old old_roots)) told held _ rank busy lower
        (begins_consistent w old now (IsMet w old now old_roots roots besides) (record_among (store_rows w old old_roots)) told held manners.writes
        row_was_done (λ t r u h i. rows_closed w old old_roots accepted t r u h i) busy few counted tells
        (λ t r h b. let q = idle t r h b in (q.0, rows_still t r h q.1)))

    -- the same of any table with these records
    pub earlier_begin : (R : Task → Option Record) (told : List Task → Path → Told) (held : List Task) (rank : Task → ℕ) (busy : Task → Type 0)
        → ((t : Task) → R t ≡ record_among (store_rows w old old_roots) t) → GoLower R rank → TellsRight R told → length held ≤ w.most_tasks
        → ((t : Task) (r : Record) → R t ≡ Some r → among t held ≡ true)
        → ((t : Task) (r : Record) → R t ≡ Some r → (busy t → ⊥) → (old.next t ≡ now.next t) × AreTested w now changes r.observations)
        → IsConsistent w old now (IsMet w old now old_roots roots besides) R told held rank busy
    earlier_begin R told held rank busy same lower tells few counted idle =
        let e : record_among (store_rows w old old_roots) ≡ R = λ i t. sym (same t) i in
        subst (λ X. GoLower X rank → TellsRight X told → ((t : Task) (r : Record) → X t ≡ Some r → among t held ≡ true)
        → ((t : Task) (r : Record) → X t ≡ Some r → (busy t → ⊥) → (old.next t ≡ now.next t) × AreTested w now changes r.observations)
        → IsConsistent w old now (IsMet w old now old_roots roots besides) X told held rank busy) e
        (λ l t c i. rows_begin told held rank busy l t few c i) lower tells counted idle
