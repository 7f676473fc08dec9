-- Once the roots are settled, each task that a clean build enters is one of the language, with its value; so it is of a function of the pipeline.
use Rattle.std.proofs.Common.{◌≡◌, ◌⊎◌, inl, inr, ℕ, true, false, List, [], map, refl, subst}
use Rattle.std.specs.Prelude.{All}
use Rattle.pie_bottomup.specs.declared.state.Core.{Core}
use Rattle.pie_bottomup.specs.inner.Exact.{IsExactCore}
use Rattle.pie_bottomup.specs.inner.Going.{IsBuildNow}
use Rattle.pie_bottomup.specs.inner.States.{HasSettled}
use Rattle.pie_bottomup.proofs.Due.{IsUnder, entered_under}
use Rattle.pie_bottomup.proofs.ExactResults.{roots_settle}
use Rattle.pie_bottomup.proofs.Speaking.{spoken_record}
use Rattle.pie_core_laws.specs.Update.{Update, present}
use Rattle.pie_entering_laws.specs.Entering.{IsTaskOf, Enters}
use Rattle.pie_entering_laws.specs.inner.Laws.{IsRoot, IsSpoken}
use Rattle.pie_entering_laws.proofs.Entered.{entered_known}
use Rattle.pie_model.specs.Paths.{among}
use Rattle.pie_model.specs.Forest.{entered_tasks}
use Rattle.pie_model.proofs.Basics.{clash}
use Rattle.pie_model_pipeline.specs.World.{world}
use Rattle.pie_types.specs.inner.WholeRules.{IsTyped}
use Rattle.pie_value.specs.Canonical.{enc_task}
use Rattle.pie_value.specs.declared.task.Task.{Task}

module _ (u : Update) (c : Core) (over : HasSettled c) (now : IsBuildNow u c.plan) (e : IsExactCore u c) where
  under : (x : List ℕ) → among x (entered_tasks world (present u) u.roots) ≡ true
      → IsUnder u c.tables.names c.tables.records c.frames.walk e.are.tables over.rests.stands now.apart x
  under x h =
      by (entered_under u c.tables.names c.tables.records c.frames.walk e.are.tables over.rests.stands now.apart x c.plan.roots.items [] (roots_settle c u over e)
      (subst (λ (bs : List (List ℕ)). among x (entered_tasks world (present u) bs) ≡ true) now.roots h))
    where
      by : (among x [] ≡ true) ⊎ IsUnder u c.tables.names c.tables.records c.frames.walk e.are.tables over.rests.stands now.apart x
          → IsUnder u c.tables.names c.tables.records c.frames.walk e.are.tables over.rests.stands now.apart x
      by (inl none) = clash false none refl
      by (inr it) = it

  -- a task that a clean build enters is one of the language, with its value
  spoken : (x : List ℕ) → among x (entered_tasks world (present u) u.roots) ≡ true → IsSpoken u.functions u.directory x
  spoken x h = spoken_record u c over.site e x (under x h).its

  pub of_function : (roots : List Task) → map enc_task roots ≡ u.roots → IsTyped u.functions → All (IsRoot u.functions) roots → (x : List ℕ)
      → Enters u.functions u.directory roots x → IsTaskOf u.functions x
  of_function roots same types are x h =
      entered_known u.functions u.directory roots types are
      (λ y k. spoken y (subst (λ (bs : List (List ℕ)). among y (entered_tasks world (present u) bs) ≡ true) same k)) x h
