-- Which tasks a build by what changed runs, and why.
use Rattle.std.specs.Prelude.{◌≢◌, ◌==◌, ℕ, Bool, false, cond, bytes_eq, List, [], ◌∷◌, map, All, Option, None, Some}
use Rattle.std.specs.List.{AllPairs}
use lib.Pointwise.{pointwise}
use Rattle.sha2.specs.Sha256.{sha256}
use Rattle.pie_build.specs.Left.{IsProjectOf}
use Rattle.pie_files.specs.Directory.{Directory}
use Rattle.pie_model.specs.Built.{store_rows}
use Rattle.pie_model.specs.Records.{Record}
use Rattle.pie_model.specs.Reasons.{RunReason}
use Rattle.pie_model_pipeline.specs.World.{world, project}
use Rattle.pie_parser.specs.FunctionTrees.{FunctionTree}
use Rattle.pie_project.specs.Looking.{file_bytes, pipeline_path}
use Rattle.pie_store.specs.declared.image.StoreImage.{StoreImage}
use Rattle.pie_value.specs.Canonical.{enc_task}
use Rattle.pie_value.specs.declared.task.Task.{Task}
use Rattle.pie_incremental.specs.declared.base.Base.{Base}
use Rattle.pie_incremental.specs.Earlier.{Earlier}
use Rattle.pie_incremental.specs.Starts.{IsBase}

-- the record of a task among these, the first if there are more
abbrev pub record_in : List Record → List ℕ → Option Record
record_in [] task = None
record_in (r ∷ records) task = cond (bytes_eq task r.task) (Some r) (record_in records task)

-- the records in the store of an earlier build
abbrev pub earlier_rows : Earlier → List Record
earlier_rows e = store_rows world (project e.found.functions e.built) (map enc_task e.roots)

-- that of a task, if it has one
abbrev pub earlier_record : Earlier → Task → Option Record
earlier_record e t = record_in (earlier_rows e) (enc_task t)

-- the digest of a function among these, the first if there are more
abbrev pub digest_in : List (List ℕ × List ℕ) → List ℕ → Option (List ℕ)
digest_in [] name = None
digest_in (row ∷ rows) name = cond (bytes_eq name row.0) (Some row.1) (digest_in rows name)

-- there is a text, and this is its SHA-256
abbrev pub is_hash_of : Option (List ℕ) → List ℕ → Bool
is_hash_of None hash = false
is_hash_of (Some text) hash = pointwise ◌==◌ (sha256 text) hash

-- the digests that a store has or, of one of version 1, that its hash of a pipeline stands for: the present ones where that is the pipeline that is there
abbrev pub digests_by : Directory → List (List ℕ × List ℕ) → List (List ℕ × List ℕ) → Option (List ℕ) → List (List ℕ × List ℕ)
digests_by d present funcs None = funcs
digests_by d present funcs (Some hash) = cond (is_hash_of (file_bytes d pipeline_path) hash) present funcs

abbrev pub kept_digests : Directory → List (List ℕ × List ℕ) → StoreImage → List (List ℕ × List ℕ)
kept_digests d present s = digests_by d present s.funcs s.pipeline

-- a task has a reason to run: the earlier build has no record of it, its function hasn't one digest then and now, or something that its record observed, or
-- a file that it provided, isn't as it was
abbrev pub HasReason : Earlier → Directory → List FunctionTree → List (List ℕ × List ℕ) → List (List ℕ × List ℕ) → Task → Type 0
HasReason e d fs kept present t =
    RunReason world (project fs d) d (earlier_record e t) (digest_in kept t.func) (digest_in present t.func)

-- a build that goes on from an earlier one, by what that left, ran no task twice, and each for a reason
pub record RanFor (e : Earlier) (d : Directory) (ran : List Task) : Type 0 where
  pub funcs : List (List ℕ × List ℕ)
  pub roots : List Task
  pub found : IsProjectOf d funcs roots
  pub base : Base
  pub is : IsBase d base
  pub once : AllPairs (λ t u. t ≢ u) ran
  pub reasons : All (HasReason e d found.functions (kept_digests d funcs base.image) funcs) ran
