-- Where a list behind its number can't be read.
use Rattle.std.specs.Prelude.{◌≡◌, ◌≢◌, ◌⊎◌, ℕ, ◌+◌, ◌<◌, ◌^◌, List, [], ◌∷◌, ◌++◌, length}
use Rattle.std.specs.List.{flat_map}
use Rattle.pie_value.specs.Canonical.{be32}

-- the bytes begin with a number, and then with fewer things than it says, which may stand together
pub record Begins {A : Type 0} (bytes : A → List ℕ) (Good : List A → Type 0) (bs : List ℕ) (before : List A) (rest : List ℕ) : Type 0 where
  pub count : ℕ
  pub number : count < 2 ^ 32
  pub more : length before < count
  pub parts : bs ≡ be32 count ++ (flat_map bytes before ++ rest)
  pub good : Good before

-- no thing that fits stands in front
abbrev pub NoneInFront : {A : Type 0} → (A → List ℕ) → (A → Type 0) → List ℕ → Type 0
NoneInFront {A} bytes Fits bs = (x : A) (after : List ℕ) → Fits x → bs ≢ bytes x ++ after

-- behind so many bytes of a list the number or a thing can't be read
abbrev pub Unreadable : {A : Type 0} → (A → List ℕ) → (A → Type 0) → (List A → Type 0) → List ℕ → ℕ → Type 0
Unreadable {A} bytes Fits Good bs k =
    ((length bs < 4) × (k ≡ 0))
    ⊎ ((before : List A) × (rest : List ℕ) × Begins bytes Good bs before rest × NoneInFront bytes Fits rest × (k ≡ 4 + length (flat_map bytes before)))

-- behind so many bytes of a list a thing stands that may not follow those before it
abbrev pub Misplaced : {A : Type 0} → (A → List ℕ) → (A → Type 0) → (List A → Type 0) → List ℕ → ℕ → Type 0
Misplaced {A} bytes Fits Good bs k =
    (before : List A) × (x : A) × (after : List ℕ) × Begins bytes Good bs before (bytes x ++ after) × Fits x × (¬ (Good (before ++ x ∷ [])))
    × (k ≡ 4 + length (flat_map bytes before))
