-- What the lines of roots name.
use Rattle.std.specs.Prelude.{◌≡◌, ℕ, ◌+◌, ◌<◌, ◌≤◌, List, [], ◌∷◌, ◌++◌, length, Option, Some, None, Result, Ok, Err}
use Rattle.std.specs.Str.{IsUtf8}
use Rattle.pie_value.specs.declared.task.Task.{Task}
use Rattle.pie_roots.specs.declared.root.Root.TheVariants as roots
use Rattle.pie_roots.specs.declared.roots_fault.RootsFault.{RootsFault}
use Rattle.pie_roots.specs.declared.roots_fault.RootsFault.TheVariants.{TooLong, NotText, BadRoot, OutOfMemory}
use Rattle.pie_roots.specs.Lines.{texts}
use Rattle.pie_roots.specs.Roots.{IsBlank, Names, IsRoot}

-- what lines name: tasks in order, or the number of a line that names none
abbrev pub Named : Type 0
Named = Result (List Task) ℕ

-- a task before those that other lines name
abbrev pub before : Task → Named → Named
before t (Ok ts) = Ok (t ∷ ts)
before t (Err n) = Err n

-- lines, of which the first has this number, and what they name: each is blank or a task that has a number, up to the first that is neither
pub data NameAll (number : Task → Option ℕ) : ℕ → List (List ℕ) → Named → Type 0 where
  ended : {n : ℕ} → NameAll number n [] (Ok [])
  blank : {n : ℕ} {line : List ℕ} {lines : List (List ℕ)} {r : Named} → IsBlank line → NameAll number (n + 1) lines r → NameAll number n (line ∷ lines) r
  named : {n k : ℕ} {line : List ℕ} {lines : List (List ℕ)} {t : Task} {r : Named}
      → Names line t → number t ≡ Some k → NameAll number (n + 1) lines r → NameAll number n (line ∷ lines) (before t r)
  stranger : {n : ℕ} {line : List ℕ} {lines : List (List ℕ)} {t : Task} → Names line t → number t ≡ None → NameAll number n (line ∷ lines) (Err n)
  bad : {n : ℕ} {line : List ℕ} {lines : List (List ℕ)} → IsRoot line roots.Bad → NameAll number n (line ∷ lines) (Err n)

-- the most bytes of roots
abbrev pub most : ℕ
most = 1048576

-- what reading bytes as roots answers, where `number` gives the number of each task of the pipeline; out of memory says nothing
abbrev pub Reads : {A : Type 0} → (Task → Option ℕ) → (A → List Task) → Result A RootsFault → List ℕ → Type 0
Reads number view (Ok a) bytes = (length bytes ≤ most) × IsUtf8 bytes × NameAll number 1 (texts bytes) (Ok (view a))
Reads number view (Err TooLong) bytes = most < length bytes
Reads number view (Err NotText) bytes = (length bytes ≤ most) × ¬ (IsUtf8 bytes)
Reads number view (Err (BadRoot n)) bytes = (length bytes ≤ most) × IsUtf8 bytes × NameAll number 1 (texts bytes) (Err n)
Reads number view (Err OutOfMemory) bytes = Unit {0}

-- the lines name nothing but what was answered of them
abbrev pub ReadsOnly : {A : Type 0} → (Task → Option ℕ) → (A → List Task) → Result A RootsFault → List ℕ → Type 0
ReadsOnly number view (Ok a) bytes = (r : Named) → NameAll number 1 (texts bytes) r → r ≡ Ok (view a)
ReadsOnly number view (Err (BadRoot n)) bytes = (r : Named) → NameAll number 1 (texts bytes) r → r ≡ Err n
ReadsOnly number view (Err e) bytes = Unit {0}

-- what reading lines answers
abbrev pub ReadsText : {A : Type 0} → (Task → Option ℕ) → (A → List Task) → Result A RootsFault → List (List ℕ) → Type 0
ReadsText number view (Ok a) lines = NameAll number 1 lines (Ok (view a))
ReadsText number view (Err (BadRoot n)) lines = NameAll number 1 lines (Err n)
ReadsText number view (Err OutOfMemory) lines = Unit {0}
ReadsText number view (Err TooLong) lines = ⊥
ReadsText number view (Err NotText) lines = ⊥

-- these tasks before those that other lines name
abbrev pub behind : List Task → Named → Named
behind ts (Ok us) = Ok (ts ++ us)
behind ts (Err n) = Err n

-- what the lines from this one on name, told by those behind it, where the tasks so far are kept
abbrev pub Carries : (Task → Option ℕ) → List Task → List Task → List ℕ → ℕ → Type 0
Carries number old new line n = (lines : List (List ℕ)) (r : Named) → NameAll number (n + 1) lines r
    → (s : Named) × NameAll number n (line ∷ lines) s × (behind old s ≡ behind new r)

-- what taking the line with this number answers
abbrev pub Takes : {A : Type 0} → (Task → Option ℕ) → Result A RootsFault → List Task → List Task → List ℕ → ℕ → Type 0
Takes number (Ok a) old new line n = Carries number old new line n
Takes number (Err (BadRoot m)) old new line n = (m ≡ n) × ((lines : List (List ℕ)) → NameAll number n (line ∷ lines) (Err n))
Takes number (Err OutOfMemory) old new line n = Unit {0}
Takes number (Err TooLong) old new line n = ⊥
Takes number (Err NotText) old new line n = ⊥

-- what appending a task answers, where it stands on the line with this number
abbrev pub Adds : {A : Type 0} → (Task → Option ℕ) → Result A RootsFault → List Task → List Task → Task → ℕ → Type 0
Adds number (Ok a) old new t n = (k : ℕ) × (number t ≡ Some k) × (new ≡ old ++ t ∷ [])
Adds number (Err (BadRoot m)) old new t n = (m ≡ n) × (number t ≡ None)
Adds number (Err OutOfMemory) old new t n = Unit {0}
Adds number (Err TooLong) old new t n = ⊥
Adds number (Err NotText) old new t n = ⊥
