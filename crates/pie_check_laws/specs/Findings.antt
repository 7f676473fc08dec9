-- The verdict of the last checks, said of who wrote a path and of who saw one absent: the first refusal that holds, at its least place.
use Rattle.std.specs.Prelude.{◌≡◌, ◌≢◌, ◌↔◌, ℕ, true, false, Some, None, List, [], ◌∷◌, ◌++◌, is_some}
use Rattle.std.specs.List.{Contains}
use Rattle.std.specs.Cmp.Lexicographic.{slice_cmp}
use Rattle.std.specs.Ordering.{nat_cmp, is_lt}
use Rattle.pie_model.specs.Paths.{Path, after_prefix}
use Rattle.pie_model.specs.Tasks.{Task}
use Rattle.pie_model.specs.declared.words.Finding.{Finding}
use Rattle.pie_model.specs.declared.words.Verdict.{Verdict}
use Rattle.pie_model.specs.declared.words.Verdict.TheVariants.{Accepted, Many, Fault, Cycle, Overlap, Nested, Hidden}
use Rattle.pie_model.specs.Verdict.{comes_before, least, checked}

-- one of these findings, before which none of them comes
pub record IsLeast (found : List Finding) (a : Finding) : Type 0 where
  pub among : Contains found a
  pub first : (b : Finding) → Contains found b → comes_before b a ≡ false

-- the finding that is told is the least one, and it is told wherever there is a least one
abbrev pub TheLeastIsFound : Type 0
TheLeastIsFound = (found : List Finding) (a : Finding) → (least found ≡ Some a) ↔ IsLeast found a

-- nothing is told where nothing was found, and only there
abbrev pub NothingIsFound : Type 0
NothingIsFound = (found : List Finding) → (least found ≡ None) ↔ ((a : Finding) → Contains found a → ⊥)

-- which paths belong to which tasks
abbrev pub Paths : Type 1
Paths = Path → Task → Type 0

-- the two tasks wrote the path, the lesser one first
abbrev pub BothWrote : Paths → Path → Task → Task → Type 0
BothWrote wrote p t u = wrote p t × wrote p u × (is_lt (slice_cmp nat_cmp t u) ≡ true)

-- some task wrote the path
abbrev pub IsWritten : Paths → Path → Type 0
IsWritten wrote p = (t : Task) × wrote p t

-- the first path and the second, which stands below it, were written; a third word is empty
abbrev pub StandBelow : Paths → Path → Path → Task → Type 0
StandBelow wrote p q none = IsWritten wrote p × IsWritten wrote q × (is_some (after_prefix (p ++ 47 ∷ []) q) ≡ true) × (none ≡ [])

-- the first task saw the path absent, and the second, another one, wrote it
abbrev pub SawAbsent : Paths → Paths → Path → Task → Task → Type 0
SawAbsent wrote missed p t u = missed p t × wrote p u × (t ≢ u)

-- what is said of a finding's three words
abbrev pub Places : Type 1
Places = Path → List ℕ → List ℕ → Type 0

-- there is no such place
abbrev pub NoPlace : Places → Type 0
NoPlace R = (p : Path) (t u : List ℕ) → R p t u → ⊥

-- these words are such a place, and no such place comes before them
pub record IsFirstPlace (R : Places) (p : Path) (t u : List ℕ) : Type 0 where
  pub holds : R p t u
  pub first : (a : Finding) → R a.path a.first a.second → comes_before a (record { path = p; first = t; second = u }) ≡ false

-- the first of the three refusals that holds, at its least place, or none where none of them holds
abbrev pub IsJudged : Paths → Paths → Verdict → Type 0
IsJudged wrote missed Accepted = NoPlace (BothWrote wrote) × NoPlace (StandBelow wrote) × NoPlace (SawAbsent wrote missed)
IsJudged wrote missed (Overlap p t u) = IsFirstPlace (BothWrote wrote) p t u
IsJudged wrote missed (Nested p q) = NoPlace (BothWrote wrote) × IsFirstPlace (StandBelow wrote) p q []
IsJudged wrote missed (Hidden p t u) = NoPlace (BothWrote wrote) × NoPlace (StandBelow wrote) × IsFirstPlace (SawAbsent wrote missed) p t u
IsJudged wrote missed Many = ⊥
IsJudged wrote missed (Fault t k) = ⊥
IsJudged wrote missed (Cycle ts) = ⊥

-- the paths and tasks of a list
abbrev pub listed : List (Path × Task) → Paths
listed entries p t = Contains entries (p, t)

-- what is first by the relations is the verdict of the model
abbrev pub TheFirstRefusalIsTheVerdict : Type 0
TheFirstRefusalIsTheVerdict =
    (written missed : List (Path × Task)) (v : Verdict) → IsJudged (listed written) (listed missed) v → checked written missed ≡ v
