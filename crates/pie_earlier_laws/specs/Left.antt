-- What an earlier accepted build left of a directory, and what of it is there still.
use Rattle.std.specs.Prelude.{ℕ, ◌≡◌, true, Some, List, [], ◌∷◌, ◌++◌}
use Rattle.std.specs.FinMap as fin
use Rattle.pie_model.specs.Paths.{Path, among, kind_of}
use Rattle.pie_model.specs.declared.words.Kind.TheVariants.{Out, Source}
use Rattle.pie_model.specs.Tasks.{Task}
use Rattle.pie_model.specs.declared.words.Answer.{Answer}
use Rattle.pie_model.specs.declared.words.Event.{Event}
use Rattle.pie_model.specs.declared.words.Event.TheVariants.{Write}
use Rattle.pie_model.specs.Evaluation.{World, Project}
use Rattle.pie_model.specs.Records.{Record}
use Rattle.pie_model.specs.Forest.{live_evaluations}
use Rattle.pie_model.specs.Verdict.{verdict}
use Rattle.pie_model.specs.declared.words.Verdict.TheVariants.{Accepted}
use Rattle.pie_model.specs.Built.{Directory, bytes_at, provided_at, store_rows, IsBuilt}
use Rattle.pie_model.specs.Changes.{NamesAllChanges}
use Rattle.pie_model.specs.Reasons.{WriteIsMissing}
use Rattle.pie_manner_laws.specs.Writes.{NeverWritesTwice}
use Rattle.pie_earlier_laws.specs.Rows.{record_among}

-- the model accepts this project with these roots, and its build left this directory: the sources that it was built of, and under `out` exactly
-- what its live tasks provide
pub record IsEarlierBuild (w : World) (old : Project) (old_roots : List Task) (left : Directory) : Type 0 where
  pub accepted : verdict w old old_roots ≡ Accepted
  pub sources : (p : Path) → kind_of p ≡ Source → fin.get left p ≡ old.file p
  pub provided : (p : Path) → kind_of p ≡ Out → bytes_at left p ≡ provided_at (live_evaluations w old old_roots) p

-- ---- what tasks write

-- a task writes under `out` alone
abbrev pub WritesUnderOut : (List Answer → Event) → Type 0
WritesUnderOut next = (answers : List Answer) (p : Path) (b : List ℕ) → next answers ≡ Write p b → kind_of p ≡ Out

-- the tasks of a project write under `out` alone, and no path twice
pub record WriteOnce (P : Project) : Type 0 where
  pub once : (t : Task) → NeverWritesTwice (P.next t)
  pub out : (t : Task) → WritesUnderOut (P.next t)

-- ---- what is there still

-- what was written is there: a file at its path, with contents of its hash
abbrev pub IsThere : World → Directory → Path × List ℕ → Type 0
IsThere w now x = (b : List ℕ) × (bytes_at now x.0 ≡ Some b) × (w.hash b ≡ x.1)

-- all that was written is there
abbrev pub AreThere : World → Directory → List (Path × List ℕ) → Type 0
AreThere w now [] = Unit {0}
AreThere w now (x ∷ xs) = IsThere w now x × AreThere w now xs

-- what was written at named paths is there
abbrev pub NamedAreThere : World → Directory → List Path → List (Path × List ℕ) → Type 0
NamedAreThere w now changes [] = Unit {0}
NamedAreThere w now changes (x ∷ xs) = (among x.0 changes ≡ true → IsThere w now x) × NamedAreThere w now changes xs

-- where what an old record wrote at named paths is there, all that it wrote is
abbrev pub UnnamedWritesAreThere : Type 0
UnnamedWritesAreThere =
    (w : World) (old : Project) (old_roots : List Task) (left now : Directory) (changes : List Path) (t : Task) (r : Record)
    → WriteOnce old → IsEarlierBuild w old old_roots left → NamesAllChanges left now changes
    → record_among (store_rows w old old_roots) t ≡ Some r → NamedAreThere w now changes r.writes → AreThere w now r.writes

-- then none of its writes is missing
abbrev pub ThereIsNotMissing : Type 0
ThereIsNotMissing = (w : World) (now : Directory) (writes : List (Path × List ℕ)) → AreThere w now writes → WriteIsMissing w now writes → ⊥

-- ---- the base of the next build

-- what an accepted build leaves is an earlier build of its project to the next one
abbrev pub AcceptedBuildsAreEarlier : Type 0
AcceptedBuildsAreEarlier =
    (w : World) (P : Project) (roots : List Task) (text : List ℕ) (before left : Directory) → verdict w P roots ≡ Accepted
    → ((p : Path) → kind_of p ≡ Source → fin.get before p ≡ P.file p) → IsBuilt text before left (live_evaluations w P roots)
    → IsEarlierBuild w P roots left

-- two directories agree but for kept files: they have the same sources, and the same bytes under `out`
pub record AgreeButKept (before now : Directory) : Type 0 where
  pub sources : (p : Path) → kind_of p ≡ Source → fin.get before p ≡ fin.get now p
  pub provided : (p : Path) → kind_of p ≡ Out → bytes_at before p ≡ bytes_at now p

-- then no path needs be named, as after a build that changed kept files alone
abbrev pub AgreeingNeedNoNames : Type 0
AgreeingNeedNoNames = (before now : Directory) → AgreeButKept before now → NamesAllChanges before now []

-- names of changes one after the other name them together
abbrev pub NamesJoin : Type 0
NamesJoin =
    (before between now : Directory) (first second : List Path) → NamesAllChanges before between first → NamesAllChanges between now second
    → NamesAllChanges before now (first ++ second)

-- and more names name them too
abbrev pub MoreNamesServe : Type 0
MoreNamesServe =
    (before now : Directory) (few more : List Path) → ((p : Path) → among p few ≡ true → among p more ≡ true) → NamesAllChanges before now few
    → NamesAllChanges before now more
