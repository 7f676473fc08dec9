-- An earlier accepted build, and what is there now: a pipeline, a directory, and the names of what changed.
use Rattle.std.specs.Prelude.{◌≡◌, ℕ, List, Option}
use Rattle.std.specs.List.{list_any}
use Rattle.pie_base.specs.Path.{is_below}
use Rattle.pie_parser.specs.FunctionTrees.{FunctionTree}
use Rattle.pie_files.specs.Directory.{Directory}
use Rattle.pie_named.specs.declared.named.Named.{Named}
use Rattle.pie_named.specs.inner.Names.{is_named, is_above}
use Rattle.pie_named.specs.inner.Known.{IsTrueOf}
use Rattle.pie_model.specs.Paths.{Path, among}
use Rattle.pie_model.specs.Evaluation.{Project}
use Rattle.pie_model.specs.Records.{Record}
use Rattle.pie_model.specs.Built.{store_rows}
use Rattle.pie_model.specs.Changes.{NamesAllChanges, IsMet}
use Rattle.pie_model_pipeline.specs.World.{world, project}
use Rattle.pie_earlier_laws.specs.Rows.{record_among}
use Rattle.pie_earlier_laws.specs.Left.{IsEarlierBuild}

-- the pipeline, the directory and the roots of an earlier build, and the directory that it left; then those of now,
-- the names of what changed in between, and what is met besides
pub record Update : Type 0 where
  pub old_functions : List FunctionTree
  pub built : Directory
  pub old_roots : List (List ℕ)
  pub left : Directory
  pub functions : List FunctionTree
  pub directory : Directory
  pub roots : List (List ℕ)
  pub names : List Path
  pub besides : List (List ℕ)

-- what the earlier build started from
abbrev pub earlier : Update → Project
earlier u = project u.old_functions u.built

-- what a build now starts from
abbrev pub present : Update → Project
present u = project u.functions u.directory

-- what is met
abbrev pub MetIn : Update → List ℕ → Type 0
MetIn u = IsMet world (earlier u) (present u) u.old_roots u.roots u.besides

-- the record of a task in the store of the earlier build
abbrev pub old_record : Update → List ℕ → Option Record
old_record u = record_among (store_rows world (earlier u) u.old_roots)

-- the earlier build was accepted and left that directory, and all that changed since then is named
pub record IsUpdate (u : Update) : Type 0 where
  pub build : IsEarlierBuild world (earlier u) u.old_roots u.left
  pub changes : NamesAllChanges u.left u.directory u.names

-- the names and the directories above them are those of the update, and what is known is true of the directory
pub record IsInformed (u : Update) (n : Named) : Type 0 where
  pub names : (p : Path) → is_named n p ≡ among p u.names
  pub above : (p : Path) → is_above n p ≡ list_any (is_below p) u.names
  pub known : IsTrueOf u.directory n
