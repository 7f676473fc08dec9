-- Projects with the same sources have the same evaluations.
use Rattle.std.proofs.Common.{ℕ, zero, suc, ◌≡◌, ◌-◌, cond, List, [], ◌∷◌, map, length, refl, ap, ◌∙◌}
use Rattle.std.specs.Prelude.{leb}
use Rattle.pie_model.specs.declared.words.Kind.{Kind}
use Rattle.pie_model.specs.declared.words.Kind.TheVariants.{Out, Kept, Source}
use Rattle.pie_model.specs.declared.words.Event.{Event}
use Rattle.pie_model.specs.declared.words.Event.TheVariants.{Done, Fail, LookAt, ListOf, Write, Require}
use Rattle.pie_model.specs.declared.words.Outcome.TheVariants.{Cycled}
use Rattle.pie_model.specs.declared.words.Verdict.TheVariants.{Many}
use Rattle.pie_model.specs.Paths.{Path, kind_of, among}
use Rattle.pie_model.specs.Tasks.{Task}
use Rattle.pie_model.specs.Trees.{Node, node, Trace, ends, writes, needs, outcome_of, is_done}
use Rattle.pie_model.specs.Seen.{seen_file, visible_by, visible_at}
use Rattle.pie_model.specs.Evaluation.{World, Project, Progress, start, wrote, within_limit, listing, on_seen, on_listing, on_outcome, on_event, follow, round}
use Rattle.pie_model.specs.Evaluation.{evaluation_with, evaluation}
use Rattle.pie_model.specs.Forest.{only_if, forest, first_stop, live_evaluations}
use Rattle.pie_model.specs.Running.{entered_all}
use Rattle.pie_model.specs.Records.{record_of}
use Rattle.pie_model.specs.Built.{in_row_order}
use Rattle.pie_model.specs.Verdict.{by_stop, verdict}
use Rattle.pie_clean_laws.specs.inner.Sources.{HaveSameSources, BuildAlike}

module _ (w : World) (P Q : Project) (same : HaveSameSources P Q) where
  seen_same : (own : List (Path × List ℕ)) (kids : List Node) (p : Path) → visible_at P.file own kids p ≡ visible_at Q.file own kids p
  seen_same own kids p = by (kind_of p) refl
    where
      by : (k : Kind) → kind_of p ≡ k → visible_by P.file own kids p k ≡ visible_by Q.file own kids p k
      by Out e = refl
      by Kept e = refl
      by Source e = ap seen_file (same.files p e)

  listing_same : (d : Path) → kind_of d ≡ Source → listing w P d ≡ listing w Q d
  listing_same d e = ap (λ es. within_limit (leb (length (w.listing_bytes es)) w.most_bytes) es) (same.entries d e)

  event_same : (child other : Task → Node) → child ≡ other → (t : Task) (g : Progress) (go on : Progress → Trace) → go ≡ on → (v : Event)
      → ((d : Path) → v ≡ ListOf d → kind_of d ≡ Source) → on_event w P child t g go v ≡ on_event w Q other t g on v
  event_same child other c t g go on e (Done v) s = refl
  event_same child other c t g go on e (Fail k) s = refl
  event_same child other c t g go on e (LookAt l p) s = λ i. on_seen w t l p g (e i) (seen_same g.own g.kids p i)
  event_same child other c t g go on e (ListOf d) s = λ i. on_listing t d g (e i) (listing_same d (s d refl) i)
  event_same child other c t g go on e (Write p b) s = λ i. writes p b (e i (wrote g p b))
  event_same child other c t g go on e (Require h u) s = λ i. needs h u (c i u) (on_outcome h g (c i u) (e i) (outcome_of (c i u)))

  follow_same : (child other : Task → Node) → child ≡ other → (t : Task) (n : ℕ) (g : Progress) → follow w P child t n g ≡ follow w Q other t n g
  follow_same child other c t zero g = refl
  follow_same child other c t (suc n) g =
      event_same child other c t g (follow w P child t n) (follow w Q other t n) (λ i x. follow_same child other c t n x i) (P.next t g.answers)
      (same.lists t g.answers)
      ∙ ap (on_event w Q other t g (follow w Q other t n)) (same.next t g.answers)

  below_same : (n : ℕ) (above : List Task) (t : Task) → evaluation_with n w P above t ≡ evaluation_with n w Q above t
  below_same zero above t = refl
  below_same (suc n) above t = λ i. node t (cond (among t above) (ends (Cycled (round t above [])))
      (follow_same (evaluation_with n w P (t ∷ above)) (evaluation_with n w Q (t ∷ above)) (λ j u. below_same n (t ∷ above) u j) t w.most_events start i))

  pub evaluation_same : (t : Task) → evaluation w P t ≡ evaluation w Q t
  evaluation_same t = below_same (w.most_tasks - length {A = Task} []) [] t

  forest_same : (roots : List Task) → forest w P roots ≡ forest w Q roots
  forest_same [] = refl
  forest_same (r ∷ rs) = λ i. evaluation_same r i ∷ only_if (is_done (outcome_of (evaluation_same r i))) (forest_same rs i)

  live_same : (roots : List Task) → live_evaluations w P roots ≡ live_evaluations w Q roots
  live_same roots = λ i. map (λ t. evaluation_same t i) (entered_all (forest_same roots i) [])

  verdict_same : (roots : List Task) → verdict w P roots ≡ verdict w Q roots
  verdict_same roots = λ i. cond (leb (length (entered_all (forest_same roots i) [])) w.most_tasks)
      (by_stop (first_stop (forest_same roots i)) (live_same roots i)) Many

  pub build_alike : (roots : List Task) → BuildAlike w P Q roots
  build_alike roots = record {
    verdict = verdict_same roots;
    live = live_same roots;
    rows = λ i. map (record_of w) (in_row_order (live_same roots i));
  }
