-- The records of an earlier accepted build are consistent at the beginning, where each task whose function or whose tested stamps differ is busy.
use Rattle.std.specs.Prelude.{ℕ, ◌≤◌, ◌≡◌, Bool, true, Option, Some, List, length}
use Rattle.pie_model.specs.Paths.{Path, among}
use Rattle.pie_model.specs.Tasks.{Task}
use Rattle.pie_model.specs.Evaluation.{World, Project}
use Rattle.pie_model.specs.Records.{Record}
use Rattle.pie_model.specs.Verdict.{verdict}
use Rattle.pie_model.specs.declared.words.Verdict.TheVariants.{Accepted}
use Rattle.pie_model.specs.Built.{store_rows}
use Rattle.pie_model.specs.StampNow.{Told}
use Rattle.pie_model.specs.Separate.{NeverWritesWhatItSaw}
use Rattle.pie_model.specs.Changes.{IsMet}
use Rattle.pie_model.specs.inner.Consistent.{IsConsistent}
use Rattle.pie_model.specs.inner.CoreLaws.{TellsRight}
use Rattle.pie_model.specs.inner.RecordLaws.{Passes}
use Rattle.pie_earlier_laws.specs.Rows.{record_among}
use Rattle.pie_earlier_laws.specs.Sources.{SourcesAgree, AreTested, ListsSources}
use Rattle.pie_earlier_laws.specs.Telling.{GoLower}

-- the tasks of a project never write what they saw, and list source directories alone
pub record HasManners (P : Project) : Type 0 where
  pub writes : (t : Task) → NeverWritesWhatItSaw (P.next t)
  pub lists : (t : Task) → ListsSources (P.next t)

-- each recorded task that is not busy means the same, and the stamps of its named sources are those that they would get now
abbrev pub IdleTasksAreTested : Project → World → Project → List Path → (Task → Option Record) → (Task → Bool) → Type 0
IdleTasksAreTested old w now changes R busy =
    (t : Task) (r : Record) → R t ≡ Some r → (Passes busy t → ⊥) → (old.next t ≡ now.next t) × AreTested w now changes r.observations

-- such records are consistent, whatever ranks they have
abbrev pub EarlierRecordsBegin : Type 0
EarlierRecordsBegin =
    (w : World) (old now : Project) (old_roots roots : List Task) (besides : List (List ℕ)) (changes : List Path) (R : Task → Option Record)
    (told : List Task → Path → Told) (held : List Task) (rank : Task → ℕ) (busy : Task → Bool)
    → HasManners old → verdict w old old_roots ≡ Accepted → ((t : Task) → R t ≡ record_among (store_rows w old old_roots) t)
    → SourcesAgree old now changes → GoLower R rank → TellsRight R told → length held ≤ w.most_tasks
    → ((t : Task) (r : Record) → R t ≡ Some r → among t held ≡ true) → IdleTasksAreTested old w now changes R busy
    → IsConsistent w old now (IsMet w old now old_roots roots besides) R told held rank (Passes busy)
