-- A settled task isn't busy, so what it wrote is there.
use Rattle.std.proofs.Common.{ℕ, ◌≡◌, false, Some}
use Rattle.std.specs.Prelude.{slice_index_or}
use Rattle.pie_record.specs.declared.task_record.TaskRecord.{TaskRecord}
use Rattle.pie_record.specs.inner.Records.{record_of as kept_of}
use Rattle.pie_tables.specs.declared.tables.Tables.{Tables}
use Rattle.pie_walk.specs.States.{WalkState}
use Rattle.pie_walk.specs.Standing.{Stands}
use Rattle.pie_model_pipeline.specs.World.{world}
use Rattle.pie_earlier_laws.specs.Left.{AreThere}
use Rattle.pie_core_laws.specs.Update.{Update}
use Rattle.pie_core_laws.specs.Exact.{is_busy}
use Rattle.pie_core_laws.proofs.Exactly.{settled_not_busy}
use Rattle.pie_left_laws.specs.Accepted.{KeptAreThere}
use Rattle.pie_left_laws.proofs.Putting.{is_false}

pub kept_are_there : (u : Update) (t : Tables) (s : WalkState) → Stands s
    → ((n : ℕ) (rec : TaskRecord) → is_busy s n ≡ false → slice_index_or t.ran.items n false ≡ false → kept_of t.records n ≡ Some rec
    → AreThere world u.directory rec.writes)
    → KeptAreThere u t s
kept_are_there u t s w idle n rec h rested k = idle n rec (is_false (is_busy s n) (λ b. settled_not_busy s w n h b)) rested k
