-- What a round of a demo comes to, and the whole demo.
use Rattle.std.specs.Prelude.{◌≡◌, ◌↔◌, ℕ, suc, ◌+◌, Bool, true, false, List, [], ◌∷◌, ◌++◌, length, Some, Ok, IsTrue}
use Rattle.pie_build.specs.Left.{KeepsRest, Leaves}
use Rattle.pie_files.specs.Directory.{Directory}
use Rattle.pie_clean_laws.specs.Left.{IsAccepted, IsLeftOf}
use Rattle.pie_incremental.specs.Clean.{BuildsClean}
use Rattle.pie_incremental.specs.Earlier.{Earlier, GoesOnFrom}
use Rattle.pie_parser.specs.FunctionTrees.{FunctionTree}
use Rattle.pie_project.specs.Fronts.{ProjectSays}
use Rattle.pie_report.specs.declared.report.Report.{Report}
use Rattle.pie_clean_laws.specs.Basing.{IsApart, IsBasedOn}
use Rattle.pie_value.specs.declared.task.Task.{Task}
use Rattle.pie_incremental.specs.Own.{bytes_at}
use Rattle.pie_demo.specs.Sources.{changed_path, is_own, ChangesFile, HasFirst, HasSources}
use Rattle.pie_demo.specs.Copies.{HasPart}
use Rattle.pie_demo.specs.Going.{latest, AreApart, HasOwnAlone, IsEqualRound, Turn}
use Rattle.pie_demo.specs.declared.whole.Summary.{Summary}

-- a directory is the copy of another one: all files that it has, with their marks, but for those below `out` and `.pie`
abbrev pub IsCopy : Directory → Directory → Type 0
IsCopy d copy = HasPart d copy is_own

-- two directories have the same files with the same bytes
abbrev pub HaveSame : Directory → Directory → Type 0
HaveSame d e = (path : List ℕ) → bytes_at d path ≡ bytes_at e path

-- a project is built afresh: what that leaves, the tasks that it starts, and how many its roots reach
pub record BuildsAfresh (before after : Directory) (started : List Task) (live : ℕ) : Type 0 where
  pub front : List FunctionTree × List Task
  pub says : ProjectSays before (Ok front)
  pub report : Report
  pub leaves : Leaves before report (Some after)
  pub keeps : KeepsRest (Some before) (Some after)
  pub started_is : started ≡ report.ran.items
  pub live_is : live ≡ report.live

-- a project is built by these names: what that leaves, and the tasks that it starts
pub record BuildsByNames (names : List (List ℕ)) (before after : Directory) (started : List Task) : Type 0 where
  pub front : List FunctionTree × List Task
  pub says : ProjectSays before (Ok front)
  pub report : Report
  pub builds : BuildsClean names before report (Some after)
  pub keeps : KeepsRest (Some before) (Some after)
  pub started_is : started ≡ report.ran.items

-- a round builds its project by the name of the file that it changed, and a copy of it afresh, and answers whether both left the same
pub record BuildsRound (name : List ℕ) (changed after : Directory) (started cleaned : List Task) (live : ℕ) (same : Bool) : Type 0 where
  pub builds : BuildsByNames (name ∷ []) changed after started
  pub copy : Directory
  pub copied : IsCopy changed copy
  pub left : Directory
  pub afresh : BuildsAfresh copy left cleaned live
  pub told : IsTrue same ↔ HaveSame after left

-- a round changes its file, and then its project is built; where the directory before is based on an earlier build, and what both meet is separate, it goes on
-- from that by the name of its file, and where the model accepts it too, and below `.pie` there were the builder's own files alone, it answers yes
pub record IsRound (seed size k : ℕ) (before changed after : Directory) (started cleaned : List Task) (live : ℕ) (same : Bool) : Type 0 where
  pub changes : ChangesFile seed size k before changed
  pub builds : BuildsRound (changed_path seed size k) changed after started cleaned live same
  pub goes_on : (e : Earlier) → IsBasedOn e before → IsApart e changed → GoesOnFrom e (changed_path seed size k ∷ []) changed
  pub equal : (e : Earlier) → IsBasedOn e before → IsApart e changed → IsAccepted changed → HasOwnAlone before → IsEqualRound changed after same

-- the tasks of a round were added to those before
pub record DoesRound (seed size k : ℕ) (before after : Directory) (runs runs_after clean clean_after : List Task) (live : ℕ) (same : Bool) : Type 0 where
  pub changed : Directory
  pub started : List Task
  pub cleaned : List Task
  pub runs_gain : runs_after ≡ runs ++ started
  pub clean_gain : clean_after ≡ clean ++ cleaned
  pub round : IsRound seed size k before changed after started cleaned live same

-- one for yes, none for no
abbrev pub one_if : Bool → ℕ
one_if true = 1
one_if false = 0

-- so many rounds after a build, one after another: their builds, the newest first, what the last one left, all tasks that they started, how many were live in
-- the last one, and how many answered yes
pub data AreRounds (seed size : ℕ) (first : Turn) : ℕ → List Turn → Directory → List Task → List Task → ℕ → ℕ → Type 0 where
  no_round : AreRounds seed size first 0 [] first.left [] [] 0 0
  one_more : {k : ℕ} {turns : List Turn} {between changed after : Directory} {started cleaned more most : List Task} {live next : ℕ} {alike : ℕ} {same : Bool}
      → AreRounds seed size first k turns between started cleaned live alike → IsRound seed size (suc k) between changed after more most next same
      → AreRounds seed size first (suc k) (record { now = changed; left = after } ∷ turns) after (started ++ more) (cleaned ++ most) next (alike + one_if same)

-- all ten rounds answered yes, and the files are what the clean build of those that the last one built leaves, byte for byte
pub record IsEqualDemo (last : Turn) (after : Directory) (same : ℕ) : Type 0 where
  pub all : same ≡ 10
  pub left : IsLeftOf last.now after

-- a demo from no files: the first files, their build, and ten rounds, which the summary and the tasks tell; where the model accepts what each build found, and
-- what each and the one before it meet is separate, all rounds answered yes
pub record IsDemo (seed size : ℕ) (after : Directory) (runs runs_after clean clean_after : List Task) (summary : Summary) : Type 0 where
  pub first : Directory
  pub written : HasFirst seed size first
  pub built : Directory
  pub started : List Task
  pub live : ℕ
  pub builds : BuildsAfresh first built started live
  pub ran : List Task
  pub cleaned : List Task
  pub turns : List Turn
  pub rounds : AreRounds seed size (record { now = first; left = built }) 10 turns after ran cleaned summary.tasks summary.same
  pub runs_gain : runs_after ≡ runs ++ (started ++ ran)
  pub clean_gain : clean_after ≡ clean ++ cleaned
  pub counted : summary.ran ≡ length ran
  pub sources : HasSources seed size 10 after
  pub equal : AreApart (record { now = first; left = built }) turns → IsEqualDemo (latest (record { now = first; left = built }) turns) after summary.same
