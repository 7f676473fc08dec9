-- What a build by what changed leaves is what the next one begins from.
use Rattle.std.specs.Prelude.{◌≡◌, ℕ, true, false, List}
use Rattle.pie_base.specs.Path.{same_text}
use Rattle.pie_parser.specs.FunctionTrees.{FunctionTree}
use Rattle.pie_files.specs.Directory.{Directory, file_at}
use Rattle.pie_record.specs.declared.task_record.TaskRecord.{TaskRecord}
use Rattle.pie_model.specs.Paths.{Path, among}
use Rattle.pie_model.specs.Built.{open_path, pending_path}
use Rattle.pie_model.specs.Changes.{NamesAllChanges}
use Rattle.pie_earlier_laws.specs.Left.{AgreeButKept}
use Rattle.pie_core_laws.specs.Update.{Update, IsUpdate}
use Rattle.pie_core_laws.specs.Keeping.{Separates}
use Rattle.pie_left_laws.specs.Accepted.{OutIsMet, IsAccepted}
use Rattle.pie_left_laws.specs.Placed.{IsPlaced}

-- what a next build is of: functions, a directory and roots; the names of what changed since the last accepted build, and what is met besides
pub record Turn : Type 0 where
  pub functions : List FunctionTree
  pub directory : Directory
  pub roots : List (List ℕ)
  pub names : List Path
  pub besides : List (List ℕ)

-- the next build after an accepted one, which left this directory
abbrev pub after_accepted : Update → Directory → Turn → Update
after_accepted u left t = record {
  old_functions = u.functions;
  built = u.directory;
  old_roots = u.roots;
  left = left;
  functions = t.functions;
  directory = t.directory;
  roots = t.roots;
  names = t.names;
  besides = t.besides;
}

-- the next build after a refused one
abbrev pub after_refused : Update → Turn → Update
after_refused u t = record u {
  functions = t.functions;
  directory = t.directory;
  roots = t.roots;
  names = t.names;
  besides = t.besides;
}

-- an accepted build is the earlier build of the next one, whose names are those of what changed since
abbrev pub AcceptedBuildsGoOn : Type 0
AcceptedBuildsGoOn =
    (u : Update) (kept : List TaskRecord) (files : List (Path × List ℕ)) (text : List ℕ) (left : Directory) (t : Turn) → Separates u → OutIsMet u
    → IsAccepted u kept files → IsPlaced kept files text u.directory left → NamesAllChanges left t.directory t.names → IsUpdate (after_accepted u left t)

-- a refused build that changed kept files alone leaves the earlier one, where its names are kept beside those of what changed since
abbrev pub RefusedBuildsGoOn : Type 0
RefusedBuildsGoOn =
    (u : Update) (refused : Directory) (list : List Path) (t : Turn) → IsUpdate u → AgreeButKept u.directory refused
    → NamesAllChanges refused t.directory list → ((p : Path) → among p u.names ≡ true → among p t.names ≡ true)
    → ((p : Path) → among p list ≡ true → among p t.names ≡ true) → IsUpdate (after_refused u t)

-- so does one that changed the marker and the pending names alone
abbrev pub OwnFilesAreKept : Type 0
OwnFilesAreKept =
    (d e : Directory) → ((q : List ℕ) → same_text q open_path ≡ false → same_text q pending_path ≡ false → file_at e q ≡ file_at d q) → AgreeButKept d e
