-- The pipeline of an earlier accepted build, the directory that it left, and the directory now.
use Rattle.std.specs.Prelude.{ℕ, ◌≤◌, ◌≡◌, Bool, true, Option, Some, List, length, Contains}
use Rattle.pie_base.specs.Path.{is_out, is_source}
use Rattle.pie_parser.specs.FunctionTrees.{FunctionTree}
use Rattle.pie_files.specs.Directory.{Directory, file_at}
use Rattle.pie_model.specs.Paths.{Path, among}
use Rattle.pie_model.specs.Tasks.{Task}
use Rattle.pie_model.specs.Records.{Record}
use Rattle.pie_model.specs.Verdict.{verdict}
use Rattle.pie_model.specs.declared.words.Verdict.TheVariants.{Accepted}
use Rattle.pie_model.specs.Built.{bytes_at, store_rows}
use Rattle.pie_model.specs.StampNow.{Told}
use Rattle.pie_model.specs.Changes.{NamesAllChanges, IsMet}
use Rattle.pie_model.specs.inner.Consistent.{IsConsistent}
use Rattle.pie_model.specs.inner.CoreLaws.{TellsRight}
use Rattle.pie_model.specs.inner.RecordLaws.{Passes}
use Rattle.pie_model_pipeline.specs.World.{world, next, project}
use Rattle.pie_model_pipeline.specs.Clean.{AreProvided}
use Rattle.pie_earlier_laws.specs.Rows.{record_among}
use Rattle.pie_earlier_laws.specs.Sources.{SourcesAgree, AreTested}
use Rattle.pie_earlier_laws.specs.Telling.{GoLower}
use Rattle.pie_earlier_laws.specs.Left.{IsEarlierBuild, WriteOnce}
use Rattle.pie_earlier_laws.specs.Begins.{HasManners}

-- the tasks of every pipeline have manners, and write under `out` alone and no path twice
abbrev pub PipelinesHaveManners : Type 0
PipelinesHaveManners = (fs : List FunctionTree) (d : Directory) → HasManners (project fs d) × WriteOnce (project fs d)

-- an accepted build of a pipeline over a directory, which left the sources there and under `out` exactly the files of the live tasks,
-- is an earlier build to the next one
abbrev pub PipelinesLeaveEarlierBuilds : Type 0
PipelinesLeaveEarlierBuilds =
    (fs : List FunctionTree) (built left : Directory) (roots : List (List ℕ)) (files : List (List ℕ × List ℕ))
    → verdict world (project fs built) roots ≡ Accepted → ((p : Path) → is_source p ≡ true → file_at left p ≡ file_at built p)
    → ((p bytes : List ℕ) → is_out p ≡ true → (bytes_at left p ≡ Some bytes → Contains files (p, bytes))
    × (Contains files (p, bytes) → bytes_at left p ≡ Some bytes))
    → AreProvided fs built roots files → IsEarlierBuild world (project fs built) roots left

-- where the names of changes since then are all, the sources of the two projects agree outside the named paths
abbrev pub UnnamedSourcesAgree : Type 0
UnnamedSourcesAgree =
    (fs gs : List FunctionTree) (built left now : Directory) (roots : List (List ℕ)) (changes : List Path)
    → IsEarlierBuild world (project fs built) roots left → NamesAllChanges left now changes
    → SourcesAgree (project fs built) (project gs now) changes

-- so the records of an earlier build are consistent at the beginning of the next one, whatever ranks they have, where each task is busy whose function
-- means something else now or whose stamp of a named source differs
abbrev pub EarlierPipelinesBegin : Type 0
EarlierPipelinesBegin =
    (fs gs : List FunctionTree) (built left now : Directory) (old_roots roots : List Task) (besides : List (List ℕ)) (changes : List Path)
    (R : Task → Option Record) (told : List Task → Path → Told) (held : List Task) (rank : Task → ℕ) (busy : Task → Bool)
    → IsEarlierBuild world (project fs built) old_roots left → NamesAllChanges left now changes
    → ((t : Task) → R t ≡ record_among (store_rows world (project fs built) old_roots) t) → GoLower R rank → TellsRight R told
    → length held ≤ world.most_tasks → ((t : Task) (r : Record) → R t ≡ Some r → among t held ≡ true)
    → ((t : Task) (r : Record) → R t ≡ Some r → (Passes busy t → ⊥)
    → (next fs t ≡ next gs t) × AreTested world (project gs now) changes r.observations)
    → IsConsistent world (project fs built) (project gs now) (IsMet world (project fs built) (project gs now) old_roots roots besides) R told held rank
    (Passes busy)
