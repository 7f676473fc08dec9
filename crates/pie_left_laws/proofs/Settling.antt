-- What has the records and the files of a clean build, but for those of tasks that didn't run, is an accepted build.
use Rattle.std.proofs.Common.{ℕ, ◌≡◌, Bool, true, false, cond, Some, List, [], ◌∷◌, map, ◌⊎◌, inl, inr, sym, ◌∙◌, ap, refl, bytes_eq}
use Rattle.std.specs.Prelude.{Contains}
use Rattle.pie_value.specs.declared.task.Task.{Task}
use Rattle.pie_value.specs.Canonical.{enc_task}
use Rattle.pie_tables.specs.declared.tables.Tables.{Tables}
use Rattle.pie_checks.specs.declared.built.Built.{Built}
use Rattle.pie_results.specs.inner.Files.{contents_in}
use Rattle.pie_walk.specs.States.{WalkState}
use Rattle.pie_walk.specs.Standing.{Stands}
use Rattle.pie_files.specs.Directory.{Directory}
use Rattle.pie_model.specs.Paths.{Path}
use Rattle.pie_model.specs.Seen.{first_write}
use Rattle.pie_model.specs.Evaluation.{World}
use Rattle.pie_model.specs.Forest.{live_evaluations}
use Rattle.pie_model.specs.Verdict.{verdict}
use Rattle.pie_model.specs.declared.words.Verdict.TheVariants.{Accepted}
use Rattle.pie_model.specs.Built.{bytes_at, store_rows, provided_at}
use Rattle.pie_model.proofs.Basics.{same_bytes}
use Rattle.pie_model_pipeline.specs.World.{world}
use Rattle.pie_earlier_laws.specs.Left.{IsThere, AreThere}
use Rattle.pie_earlier_laws.proofs.Pipelines.{kind_out, write_once}
use Rattle.pie_core_laws.specs.Update.{Update, present}
use Rattle.pie_core_laws.specs.Exact.{IsExact}
use Rattle.pie_core_laws.specs.Keeping.{Separates}
use Rattle.pie_core_laws.proofs.Seen.{files_written}
use Rattle.pie_result_laws.specs.Accepted.{IsKeptAt, HasClean, HasProvided}
use Rattle.pie_left_laws.specs.Accepted.{OutIsMet, KeptAreThere, IsAccepted}
use Rattle.pie_left_laws.proofs.Provides.{one_some, no_some, written_out}

-- a write among those that are there
there_at : (w : World) (d : Directory) (ws : List (Path × List ℕ)) (p : Path) (h : List ℕ) → AreThere w d ws → first_write p ws ≡ Some h → IsThere w d (p, h)
there_at w d [] p h a i = no_some i
there_at w d (x ∷ ws) p h a i = by (bytes_eq p x.0) refl i (there_at w d ws p h a.1)
  where
    by : (t : Bool) → bytes_eq p x.0 ≡ t → cond t (Some x.1) (first_write p ws) ≡ Some h → (first_write p ws ≡ Some h → IsThere w d (p, h)) → IsThere w d (p, h)
    by true q j f = (a.0.0, ap (bytes_at d) (same_bytes p x.0 q) ∙ a.0.1, a.0.2 ∙ one_some x.1 h j)
    by false q j f = f j

module _ (u : Update) (t : Tables) (s : WalkState) (e : IsExact u t.names t.records s) (w : Stands s) (apart : Separates u) (met : OutIsMet u)
    (there : KeptAreThere u t s) where
  -- the file of a task that didn't run is there
  kept_there : (p b : List ℕ) → IsKeptAt u t s p b → bytes_at u.directory p ≡ Some b
  kept_there p b k =
      let writes = there k.number k.rec k.settled k.rested k.kept in
      let f = there_at world u.directory k.rec.writes p k.hash writes k.first in
      let out = kind_out p (written_out world (present u) (enc_task k.rec.task) p b ((write_once u.functions u.directory).out (enc_task k.rec.task)) k.wrote) in
      let is = files_written u t.names t.records s e w apart k.number k.rec p f.0 k.hash k.settled k.kept writes k.first f.1 (met p f.0 out f.1) in
      f.1 ∙ ap Some (one_some f.0 b (sym is ∙ k.wrote))

  pub is_accepted : (roots : List Task) (b : Built) → map enc_task roots ≡ u.roots → verdict world (present u) u.roots ≡ Accepted → HasClean u roots b
      → HasProvided u t s roots b → IsAccepted u b.rows.items (contents_in b.files.items)
  is_accepted roots b same accepted c f = record {
    accepted = accepted;
    rows = c.rows ∙ ap (store_rows world (present u)) same;
    only = λ p c i. ap (λ rs. provided_at (live_evaluations world (present u) rs) p) (sym same) ∙ f.only p c i;
    each = λ p c i. by p c (f.each p c (ap (λ rs. provided_at (live_evaluations world (present u) rs) p) same ∙ i));
  }
    where
      by : (p c : List ℕ) → Contains (contents_in b.files.items) (p, c) ⊎ IsKeptAt u t s p c
          → Contains (contents_in b.files.items) (p, c) ⊎ (bytes_at u.directory p ≡ Some c)
      by p c (inl i) = inl i
      by p c (inr k) = inr (kept_there p c k)
