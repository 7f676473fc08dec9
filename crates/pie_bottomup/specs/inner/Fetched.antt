-- Files of tasks that didn't run, which are staged where a task is about to look at them.
use Rattle.std.specs.Prelude.{◌≡◌, ℕ, true, List, drop, Option}
use Rattle.std.specs.List.{Contains}
use Rattle.pie_base.specs.Path.{is_out}
use Rattle.pie_files.specs.Directory.{Directory}
use Rattle.pie_graph.specs.Rows.{row_at}
use Rattle.pie_view.specs.Content.{content}
use Rattle.pie_walk.specs.Marks.{mark_of, IsSettled}
use Rattle.pie_walk.specs.Standing.{Stands}
use Rattle.pie_core_laws.specs.Update.{Update}
use Rattle.pie_core_laws.specs.Exact.{runs}
use Rattle.pie_bottomup.specs.declared.state.Core.{Core}
use Rattle.pie_bottomup.specs.inner.Exact.{IsSiteNow, IsExactCore, MayStage}
use Rattle.pie_bottomup.specs.inner.Sights.{IsStaged, SeenIsStaged}

-- the file of a settled task is staged beside the contents of the others
pub record StagesFile (held : Option Directory) (old : Core) (writer : ℕ) (path : List ℕ) (new : Core) : Type 0 where
  pub beside : (k : ℕ) (p : List ℕ) → (k ≡ writer → ⊥) → content new.stage k p ≡ content old.stage k p
  pub staged : (u : Update) → IsSiteNow u held → MayStage old writer path → IsExactCore u old → IsStaged new.stage writer path

-- what a task sees that is about to look is staged, and what tasks staged that run stays
pub record HasFetched (old : Core) (n from : ℕ) (path : List ℕ) (new : Core) : Type 0 where
  pub beside : (k : ℕ) → runs (mark_of old.frames.walk.marks k) ≡ true → (p : List ℕ) → content new.stage k p ≡ content old.stage k p
  pub seen : is_out path ≡ true → SeenIsStaged old.frames.walk.rows new.stage n from path

-- so it is where the task has required settled tasks
abbrev pub Fetches : Option Directory → Core → ℕ → ℕ → List ℕ → Core → Type 0
Fetches held old n from path new =
    (u : Update) → IsSiteNow u held → Stands old.frames.walk
    → ((k : ℕ) → Contains (drop from (row_at old.frames.walk.rows n).needs) k → IsSettled old.frames.walk.marks k) → IsExactCore u old
    → HasFetched old n from path new
