-- A run that writes or observes stays at the front of its evaluation.
use Rattle.std.proofs.Common.{ℕ, suc, ◌≡◌, Option, List, [], ◌∷◌, ◌++◌, map, sym, ◌∙◌, ap, subst, refl}
use Rattle.pie_model.specs.Tasks.{Task}
use Rattle.pie_model.specs.declared.words.How.{How}
use Rattle.pie_model.specs.declared.words.Event.TheVariants.{Require}
use Rattle.pie_model.specs.Trees.{outcome_of}
use Rattle.pie_model.specs.Evaluation.{World, Project, required, output_answer, evaluation_with, evaluation}
use Rattle.pie_model.specs.Records.{Absent, Hash, Query, Looked, Listed, Required, Observation, Record, observed, needs_of, value_stamp, contents_stamp}
use Rattle.pie_model.specs.Running.{IsRunning}
use Rattle.pie_model.specs.inner.Consistent.{IsSettled}
use Rattle.pie_model.specs.inner.Stack.{Frame, tasks_of}
use Rattle.pie_model.proofs.RunningLemmas.{sees_nothing, sees_contents, lists_entries, writes_contents, is_answered}
use Rattle.pie_step_laws.specs.Frames.{has_written}
use Rattle.pie_step_laws.proofs.StepLemmas.{needs_of-append, needs_of-end, map_end}
use Rattle.pie_settle_laws.specs.Known.{IsKnown, AreCounted}
use Rattle.pie_settle_laws.specs.Going.{IsGoing, AreBusy}
use Rattle.pie_settle_laws.proofs.Goings.{absent_look, present_look, listing_made, write_made, is_told}
use Rattle.pie_topdown_laws.specs.Beside.{asking, Writes, Observes}
use Rattle.pie_topdown_laws.specs.Beside.Writes.{no_more, once_more}
use Rattle.pie_topdown_laws.specs.Beside.Observes.{nothing, contents, entries, output}

-- a query that asks for a task requires it
pub asks_for : (q : Query) (h : How) (u : Task) → asking q ≡ Require h u → q ≡ Required h u
asks_for (Looked l p) h u e = cc
asks_for (Listed d) h u e = cc
asks_for (Required k v) h u e = cc

-- ---- in the model

module _ (w : World) (P : Project) (room : ℕ) (above : List Task) where
  abbrev Runs : Frame → Type 0
  Runs f = IsRunning w P room above f.task f.left f.progress f.seen

  runs_with : (f : Frame) (n : ℕ) → f.left ≡ suc n → Runs f → IsRunning w P room above f.task (suc n) f.progress f.seen
  runs_with f n l r = subst (λ m. IsRunning w P room above f.task m f.progress f.seen) l r

  pub runs_writing : (to f : Frame) → Writes P to f → Runs f → Runs to
  runs_writing to f no_more r = r
  runs_writing to f (once_more n p b l h ws) r =
      runs_writing to (has_written f n p b) ws (writes_contents w P room above f.task n f.progress f.seen p b h (runs_with f n l r))

  pub runs_observing : (f to : Frame) → ((h : How) (u : Task) → P.next f.task f.progress.answers ≡ Require h u
      → evaluation_with room w P (f.task ∷ above) u ≡ evaluation w P u) → Observes w P f to → Runs f → Runs to
  runs_observing f to placed (nothing n l p k h v) r = sees_nothing w P room above f.task n f.progress f.seen l p h v (runs_with f n k r)
  runs_observing f to placed (contents n l p b m k h v) r = sees_contents w P room above f.task n f.progress f.seen l p b m h v (runs_with f n k r)
  runs_observing f to placed (entries n d es k h v) r = lists_entries w P room above f.task n f.progress f.seen d es h v (runs_with f n k r)
  runs_observing f to placed (output n h u v k q o) r =
      subst (λ x. IsRunning w P room above f.task n (required f.progress x (output_answer v h)) (f.seen ++ observed (Required h u) (value_stamp w v h) ∷ []))
      (placed h u q) (is_answered w P room above f.task n f.progress f.seen h u v q (ap outcome_of (placed h u q) ∙ o) (runs_with f n k r))

  -- what a frame required has its evaluation with nothing above
  abbrev Kids : Frame → Type 0
  Kids f = f.progress.kids ≡ map (evaluation w P) (needs_of f.seen)

  same_kids : (f : Frame) (o : Observation) → needs_of (f.seen ++ o ∷ []) ≡ needs_of f.seen → Kids f
      → f.progress.kids ≡ map (evaluation w P) (needs_of (f.seen ++ o ∷ []))
  same_kids f o e k = k ∙ ap (map (evaluation w P)) (sym e)

  pub kids_writing : (to f : Frame) → Writes P to f → Kids f → Kids to
  kids_writing to f no_more k = k
  kids_writing to f (once_more n p b l h ws) k = kids_writing to (has_written f n p b) ws k

  pub kids_observing : (f to : Frame) → Observes w P f to → Kids f → Kids to
  kids_observing f to (nothing n l p a h v) k = same_kids f _ (needs_of-end f.seen (Looked l p) Absent refl) k
  kids_observing f to (contents n l p b m a h v) k = same_kids f _ (needs_of-end f.seen (Looked l p) (contents_stamp w p b m l) refl) k
  kids_observing f to (entries n d es a h v) k = same_kids f _ (needs_of-end f.seen (Listed d) (Hash (w.hash (w.listing_bytes es))) refl) k
  kids_observing f to (output n h u v a q o) k =
      ap (λ z. z ++ evaluation w P u ∷ []) k
      ∙ sym (map_end (evaluation w P) (needs_of f.seen) u)
      ∙ ap (map (evaluation w P)) (sym (needs_of-append f.seen (observed (Required h u) (value_stamp w v h) ∷ [])))

-- ---- in a build

module _ (w : World) (P : Project) (R : Task → Option Record) (busy : Task → Type 0) (base : Task) (fs : List Frame) where
  abbrev Goes : Frame → Type 0
  Goes f = IsGoing w P R busy base fs f

  pub goes_writing : (to f : Frame) → Writes P to f → Goes f → Goes to
  goes_writing to f no_more g = g
  goes_writing to f (once_more n p b l h ws) g = goes_writing to (has_written f n p b) ws (write_made w P R busy base fs f g n p b l h)

  pub goes_observing : (held : List Task) → AreCounted w R held → (f to : Frame) → AreBusy busy held (tasks_of (f ∷ fs))
      → ((h : How) (u : Task) → P.next f.task f.progress.answers ≡ Require h u → IsKnown w P R u × IsSettled R busy u) → Observes w P f to → Goes f → Goes to
  goes_observing held C f to B known (nothing n l p k h v) g = absent_look w P R busy base fs f g n l p k h v
  goes_observing held C f to B known (contents n l p b m k h v) g = present_look w P R busy base fs f g n l p b m k h v
  goes_observing held C f to B known (entries n d es k h v) g = listing_made w P R busy base fs f g n d es k h v
  goes_observing held C f to B known (output n h u v k q o) g =
      let s : IsKnown w P R u × IsSettled R busy u = known h u q in is_told w P R busy base fs f g held C B u s.0 s.1 n h v k q o
