-- What a crash leaves of an accepted build that is put into place: from a store, or where there was none.
use Rattle.std.proofs.Common.{⊎_elim, ℕ, List, length, Vec, Global, Option, Some}
use Rattle.pie_commit.specs.Outcomes.{IsDone}
use Rattle.pie_commit.specs.declared.plan.Plan.{Plan}
use Rattle.pie_core_laws.specs.Update.{Update}
use Rattle.pie_files.specs.Directory.{Directory, without_file}
use Rattle.pie_incremental.specs.declared.base.OwnFiles.{OwnFiles}
use Rattle.pie_incremental.specs.Own.{open_path}
use Rattle.pie_incremental.specs.inner.Cleaned.{IsClean, HasParts, IsPlanFor, TellsPlan}
use Rattle.pie_incremental.specs.inner.Plans.{IsChangesPlan}
use Rattle.pie_record.specs.declared.task_record.TaskRecord.{TaskRecord}
use Rattle.pie_report.specs.declared.report.Report.{Report}
use Rattle.pie_results.specs.inner.Files.{InPathOrder}
use Rattle.pie_store.specs.declared.image.StoreImage.{StoreImage}
use Rattle.pie_value.specs.declared.task.Task.{Task}
use Rattle.pie_value.specs.declared.value.Value.{Value}
use Rattle.pie_topdown_build.specs.inner.Anew.{IsKnownBeside}
use Rattle.pie_topdown_build.specs.inner.Cleaned.{IsExactBuild}
use Rattle.pie_topdown_build.specs.inner.Crashes.{Endures, EndsPut}
use Rattle.pie_topdown_build.proofs.Crashing.{done_rest, endures_where}
use Rattle.pie_topdown_build.proofs.Leaving.{changed_of, done_clean, files_of, placed_clean}
use Rattle.pie_topdown_build.proofs.Replacing.{plan_is, replaced_by}
use Rattle.pie_topdown_build.proofs.Storing.{some_text}

module _ (own : OwnFiles) (held : List (List ℕ × List ℕ)) (funcs : List (List ℕ × List ℕ)) (roots : List Task) (rows : List TaskRecord)
    (contents : List (List ℕ × Vec ℕ Global)) (outputs : List (Task × Value)) (s : StoreImage) (p : Plan) (r : Report) (order : InPathOrder contents)
    (parts : HasParts funcs roots rows s) (planned : IsPlanFor own held s contents p) (tells : TellsPlan p (length rows) outputs r) where
  plan : IsChangesPlan own held rows contents planned.text p
  plan = plan_is own held funcs roots rows contents outputs s p r order parts planned tells

  -- where there was no store, whatever was there
  done_anew : (u : Update) (d c : Directory) → IsDone p d c → IsKnownBeside own contents held d → IsExactBuild u rows contents d
      → IsClean u funcs roots rows d (without_file c open_path)
  done_anew u d c done known e =
      placed_clean own held funcs roots rows contents outputs s p r order parts planned tells u d (without_file c open_path) e
      (replaced_by own held rows contents planned.text p plan d known (files_of own held funcs roots rows contents outputs s p r order parts planned tells u d e)
      (some_text s planned.text.items planned.says) (Some (without_file c open_path))
      (changed_of own held funcs roots rows contents outputs s p r order parts planned tells d c done))

  pub put_endures : {S : Type 0} (holds : S → Option Directory) (moment : S → ℕ) (left_since : S → ℕ → Directory → Type 0) (images : S → Directory → Type 0)
      (settled : Type 0) (old new : S) → Endures holds moment left_since images (IsDone p) settled old new
      → Endures holds moment left_since images (EndsPut own held funcs roots rows contents) settled old new
  put_endures holds moment left_since images settled old new h =
      endures_where holds moment left_since images (IsDone p) (EndsPut own held funcs roots rows contents) settled old new
      (λ d c told done. record {
        rest = done_rest p (record { places = plan.places; removals = plan.removals_out; writes = plan.writes_out }) d c done;
        clean = λ known u e. ⊎_elim
            (λ of. done_clean own held funcs roots rows contents outputs s p r order parts planned tells u d c done of e)
            (λ beside. done_anew u d c done beside e) known;
      }) h
