-- The store that a clean build leaves.
use Rattle.std.specs.Prelude.{◌≡◌, ℕ, ◌≤◌, List, length, None, All, Contains}
use Rattle.pie_value.specs.declared.task.Task.{Task}
use Rattle.pie_value.specs.Canonical.{IsEncodableTask}
use Rattle.pie_record.specs.declared.task_record.TaskRecord.{TaskRecord}
use Rattle.pie_record.specs.Canonical.{IsStorable}
use Rattle.pie_store.specs.declared.image.StoreImage.{StoreImage}
use Rattle.pie_store.specs.Canonical.{names_of, tasks_in, AreFuncs, AreInOrder}
use Rattle.pie_store.specs.Texts.{IsStoreText}

-- functions with their digests, roots and records that may stand together in a store, where the roots are few enough
pub record MayStand (table : List (List ℕ × List ℕ)) (tasks : List Task) (records : List TaskRecord) : Type 0 where
  pub funcs : AreFuncs table
  pub roots : All IsEncodableTask tasks
  pub few : length records ≤ 50000
  pub rows : All IsStorable records
  pub order : AreInOrder records
  pub known : All (λ (r : TaskRecord). Contains (names_of table) r.task.func) records
  pub closed : All (λ (t : Task). Contains (tasks_in records) t) tasks

-- a text is that of a store with a table of these functions, with these roots and these records
pub record IsStoreOf (table : List (List ℕ × List ℕ)) (tasks : List Task) (records : List TaskRecord) (bytes : List ℕ) : Type 0 where
  pub image : StoreImage
  pub text : IsStoreText image bytes
  pub no_digest : image.pipeline ≡ None
  pub funcs : image.funcs ≡ table
  pub roots : image.roots ≡ tasks
  pub rows : image.rows ≡ records
