-- What each event of a task has, each thing that its evaluation did has too.
use Rattle.std.proofs.Common.{ℕ, zero, suc, ◌-◌, Bool, true, false, cond, Option, Some, None, List, [], ◌∷◌, length}
use Rattle.pie_model.specs.Paths.{Path, among}
use Rattle.pie_model.specs.Tasks.{Task}
use Rattle.pie_model.specs.declared.words.Answer.{Answer}
use Rattle.pie_model.specs.declared.words.Look.{Look}
use Rattle.pie_model.specs.declared.words.How.{How}
use Rattle.pie_model.specs.declared.words.Event.{Event}
use Rattle.pie_model.specs.declared.words.Event.TheVariants.{Done, Fail, LookAt, ListOf, Write, Require}
use Rattle.pie_model.specs.declared.words.Seen.{Seen}
use Rattle.pie_model.specs.declared.words.Seen.TheVariants.{Nothing, Holds, Clashing}
use Rattle.pie_model.specs.declared.words.Outcome.{Outcome}
use Rattle.pie_model.specs.declared.words.Outcome.TheVariants.{Ended, Failed, Cycled, Many}
use Rattle.pie_model.specs.Trees.{Node, Trace, ends, looks, lists, writes, needs, trace_of, outcome_of}
use Rattle.pie_model.specs.Seen.{visible_at}
use Rattle.pie_model.specs.Evaluation.{World, Project, Progress, start, listing, on_seen, on_listing, on_outcome, on_event, follow, round, evaluation_with}
use Rattle.pie_model.specs.Evaluation.{evaluation}

-- each event of a trace has this
abbrev pub EachEvent : (Event → Type 0) → Trace → Type 0
EachEvent Q (ends e) = Unit {0}
EachEvent Q (looks l p s k) = Q (LookAt l p) × EachEvent Q k
EachEvent Q (lists d es k) = Q (ListOf d) × EachEvent Q k
EachEvent Q (writes p b k) = Q (Write p b) × EachEvent Q k
EachEvent Q (needs h u n k) = Q (Require h u) × EachEvent Q k

module _ (w : World) (P : Project) (t : Task) (child : Task → Node) (Q : Event → Type 0) (each : (answers : List Answer) → Q (P.next t answers)) where
  module _ (go : Progress → Trace) (G : (g : Progress) → EachEvent Q (go g)) where
    seen_events : (l : Look) (p : Path) (g : Progress) (s : Seen) → Q (LookAt l p) → EachEvent Q (on_seen w t l p g go s)
    seen_events l p g Nothing q = (q, G _)
    seen_events l p g (Holds b m) q = (q, G _)
    seen_events l p g Clashing q = (q, tt)

    listing_events : (d : Path) (g : Progress) (es : Option (List Path)) → Q (ListOf d) → EachEvent Q (on_listing t d g go es)
    listing_events d g None q = (q, tt)
    listing_events d g (Some es) q = (q, G _)

    outcome_events : (h : How) (g : Progress) (n : Node) (e : Outcome) → EachEvent Q (on_outcome h g n go e)
    outcome_events h g n (Ended v) = G _
    outcome_events h g n (Failed x f) = tt
    outcome_events h g n (Cycled ts) = tt
    outcome_events h g n Many = tt

    on_events : (g : Progress) (e : Event) → Q e → EachEvent Q (on_event w P child t g go e)
    on_events g (Done v) q = tt
    on_events g (Fail f) q = tt
    on_events g (LookAt l p) q = seen_events l p g (visible_at P.file g.own g.kids p) q
    on_events g (ListOf d) q = listing_events d g (listing w P d) q
    on_events g (Write p b) q = (q, G _)
    on_events g (Require h u) q = (q, outcome_events h g (child u) (outcome_of (child u)))

  follow_events : (n : ℕ) (g : Progress) → EachEvent Q (follow w P child t n g)
  follow_events zero g = tt
  follow_events (suc n) g = on_events (follow w P child t n) (follow_events n) g (P.next t g.answers) (each g.answers)

events_with : (n : ℕ) (w : World) (P : Project) (above : List Task) (t : Task) (Q : Event → Type 0) → ((answers : List Answer) → Q (P.next t answers))
    → EachEvent Q (trace_of (evaluation_with n w P above t))
events_with zero w P above t Q each = tt
events_with (suc n) w P above t Q each = go (among t above)
  where
    go : (b : Bool) → EachEvent Q (cond b (ends (Cycled (round t above []))) (follow w P (evaluation_with n w P (t ∷ above)) t w.most_events start))
    go true = tt
    go false = follow_events w P t (evaluation_with n w P (t ∷ above)) Q each w.most_events start

-- the same of an evaluation
pub events_of : (w : World) (P : Project) (t : Task) (Q : Event → Type 0) → ((answers : List Answer) → Q (P.next t answers))
    → EachEvent Q (trace_of (evaluation w P t))
events_of w P t Q each = events_with (w.most_tasks - length {A = Task} []) w P [] t Q each
