-- Which tasks a build by what changed runs: each is reached from a root, and none that has a reason is left out.
use Rattle.std.specs.Prelude.{◌≡◌, ◌⊎◌, ℕ, true, List, [], ◌∷◌, map, All, Contains}
use Rattle.pie_build.specs.Left.{IsProjectOf}
use Rattle.pie_entering_laws.specs.Entering.{IsTaskOf, Enters}
use Rattle.pie_files.specs.Directory.{Directory}
use Rattle.pie_model.specs.Paths.{among}
use Rattle.pie_model.specs.Changes.{IsUnionEdge}
use Rattle.pie_model_pipeline.specs.World.{world, project}
use Rattle.pie_parser.specs.FunctionTrees.{FunctionTree}
use Rattle.pie_value.specs.Canonical.{enc_task}
use Rattle.pie_value.specs.declared.task.Task.{Task}
use Rattle.pie_incremental.specs.declared.base.Base.{Base}
use Rattle.pie_incremental.specs.Earlier.{Earlier}
use Rattle.pie_incremental.specs.Ran.{HasReason, earlier_rows, kept_digests, record_in}
use Rattle.pie_incremental.specs.Starts.{IsBase}

-- one task leads by these to another: each goes to the next
abbrev pub Leads : (Task → Task → Type 0) → Task → List Task → Task → Type 0
Leads goes t [] last = goes t last
Leads goes t (v ∷ tasks) last = goes t v × Leads goes v tasks last

-- a task requires another: by the record in the store of the earlier build, or where these functions evaluate it in the directory
abbrev pub HasUnionEdge : Earlier → Directory → List FunctionTree → Task → Task → Type 0
HasUnionEdge e d fs t v = IsUnionEdge world (project fs d) (record_in (earlier_rows e)) (enc_task t) (enc_task v)

-- a task is one of these roots, or tasks lead to it from one, of which each requires the next, then or now
pub record IsReached (e : Earlier) (d : Directory) (fs : List FunctionTree) (roots : List Task) (t : Task) : Type 0 where
  pub root : Task
  pub listed : among (enc_task root) (map enc_task roots) ≡ true
  pub leads : (root ≡ t) ⊎ ((between : List Task) × Leads (HasUnionEdge e d fs) root between t)

-- a task with these bytes is of one of these functions, with arguments that this takes; where it has a reason to run, it is among those that ran
pub record RanIfDue (e : Earlier) (d : Directory) (fs : List FunctionTree) (kept present : List (List ℕ × List ℕ)) (ran : List Task) (x : List ℕ) : Type 0 where
  pub of : IsTaskOf fs x
  pub due : HasReason e d fs kept present of.task → Contains ran of.task

-- a build that goes on from an earlier one, by what that left, ran tasks alone that are reached from a root; each task that a clean build enters is of one of
-- the functions, and ran if it has a reason to
pub record RanExactly (e : Earlier) (d : Directory) (ran : List Task) : Type 0 where
  pub funcs : List (List ℕ × List ℕ)
  pub roots : List Task
  pub found : IsProjectOf d funcs roots
  pub base : Base
  pub is : IsBase d base
  pub reached : All (IsReached e d found.functions roots) ran
  pub all : (x : List ℕ) → Enters found.functions d roots x → RanIfDue e d found.functions (kept_digests d funcs base.image) funcs ran x
