-- Which writes of what an evaluation makes have their files among those that it makes.
use Rattle.std.specs.Prelude.{◌≡◌, ℕ, List, [], Option, IsSome}
use Rattle.std.specs.List.{Contains}
use Rattle.std.specs.declared.alloc.Global.{Global}
use Rattle.std.proofs.Common.{Vec}
use Rattle.pie_checks.specs.declared.built.Built.{Built}
use Rattle.pie_core_laws.specs.Update.{Update}
use Rattle.pie_diff.specs.Hashes.{files_paths}
use Rattle.pie_files.specs.Directory.{Directory}
use Rattle.pie_incremental.specs.inner.Digested.{digested}
use Rattle.pie_left_laws.specs.Accepted.{live_now}
use Rattle.pie_model.specs.Built.{provided_at}
use Rattle.pie_project.specs.declared.project.Project.{Project}
use Rattle.pie_store.specs.declared.image.StoreImage.{StoreImage}
use Rattle.pie_store.specs.inner.Offers.{Offered}
use Rattle.pie_topdown.specs.inner.Filed.{HasFilesOf}
use Rattle.pie_topdown_result_laws.specs.Builds.{AreHonest, IsFromStore, IsNowHere}
use Rattle.pie_value.specs.declared.task.Task.{Task}
use Rattle.pie_value.specs.declared.verdict.Verdict.TheVariants.{Accepted}

-- of each update to this project in what the files hold, from this store with its digests, where honest records are offered, an accepted build has the files of
-- the writes of those records that aren't ones of the store, or whose tasks it started or reused
pub record FilesFrom (held : Option Directory) (p : Project) (s : StoreImage) (told : Directory → Task → List ℕ → List Offered)
    (before after reused : List Task) (b : Built) : Type 0 where
  pub each : (u : Update) → IsNowHere u held p.typed p.roots.items
      → IsFromStore u (digested u.directory p.digests.items s).funcs p.digests.items s.rows → AreHonest u p.digests.items told → b.verdict ≡ Accepted
      → HasFilesOf s.rows before after [] reused b

-- each path that a clean build provides has a file among these
abbrev pub ProvidesAll : Update → List (List ℕ × Vec ℕ Global) → Type 0
ProvidesAll u contents = (path : List ℕ) → IsSome (provided_at (live_now u) path) → Contains (files_paths contents) path
