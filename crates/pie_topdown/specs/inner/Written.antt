-- Whether what a record wrote is there, as the files are asked.
use Rattle.std.specs.Prelude.{◌≡◌, ◌⊎◌, ℕ, Bool, true, false, List, [], ◌∷◌, Option, Some}
use Rattle.pie_value.specs.declared.stamp.Stamp.TheVariants.{Hash}
use Rattle.pie_record.specs.declared.dep.DepKind.TheVariants.{ReadHash}
use Rattle.pie_files.specs.Directory.{Directory}
use Rattle.pie_named.specs.declared.named.Named.{Named}
use Rattle.pie_named.specs.inner.Stamped.{stamp_in, differs_from}
use Rattle.pie_named.specs.inner.Known.{IsTrueOf}

-- what was written is at its path in a directory
abbrev pub IsThereIn : Directory → List ℕ × List ℕ → Type 0
IsThereIn d w = differs_from (stamp_in d ReadHash w.0) (Hash w.1) ≡ false

-- one of these isn't
abbrev pub IsOneGone : Directory → List (List ℕ × List ℕ) → Type 0
IsOneGone d [] = ⊥
IsOneGone d (w ∷ ws) = (differs_from (stamp_in d ReadHash w.0) (Hash w.1) ≡ true) ⊎ IsOneGone d ws

-- over files that hold a directory of which what is known is true, the answer no tells that this is so there
abbrev pub FindsGone : Option Directory → Named → (Directory → Type 0) → Bool → Type 0
FindsGone held old P stands = (d : Directory) → held ≡ Some d → IsTrueOf d old → stands ≡ false → P d

-- what is known stays true of a directory, and where the answer is yes, this is so there
pub record IsFoundIn (d : Directory) (new : Named) (P : Directory → Type 0) (stands : Bool) : Type 0 where
  pub known : IsTrueOf d new
  pub there : stands ≡ true → P d

-- so it is over files that hold one, of which what was known is true
abbrev pub FindsThere : Option Directory → Named → Named → (Directory → Type 0) → Bool → Type 0
FindsThere held old new P stands = (d : Directory) → held ≡ Some d → IsTrueOf d old → IsFoundIn d new P stands
