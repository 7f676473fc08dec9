-- A task that looked is told what it sees, if the files hold a directory.
use Rattle.std.specs.Prelude.{◌≡◌, List, ℕ, Bool, Option, Some}
use Rattle.std.specs.Option.{option_map}
use Rattle.pie_files.specs.Directory.{Directory}
use Rattle.pie_record.specs.declared.dep.DepKind.TheVariants as kinds
use Rattle.pie_value.specs.declared.event.By.{By}
use Rattle.pie_running.specs.declared.frame.Waiting.{Waiting}
use Rattle.pie_running.specs.declared.frame.Told.{Told}
use Rattle.pie_running.specs.declared.looking.Sight.{Sight}
use Rattle.pie_running.specs.inner.Noted.{absent_dep}
use Rattle.pie_running.specs.inner.Sights.{Sighted, Sees, SeesDigest, SeesPresence, SightSays, listing_in}
use Rattle.pie_running.specs.inner.Told.{IsToldList, IsToldOrFails, IsToldReading, told_flag, told_hash}

-- whether a file is there
pub record IsToldPresence (d : Directory) (shown : Sighted → Type 0) (w : Waiting) (path : List ℕ) (t : Told) : Type 0 where
  pub presence : Option Bool
  pub sees : SeesPresence d path shown presence
  pub told : IsToldOrFails w (absent_dep kinds.Exists path) (option_map (told_flag path) presence) t

-- its bytes
pub record IsToldSight (d : Directory) (shown : Sighted → Type 0) (w : Waiting) (path : List ℕ) (by : By) (t : Told) : Type 0 where
  pub sight : Sight
  pub sees : SightSays by path sight (Sees d path shown)
  pub told : IsToldReading w by path sight t

-- their hash
pub record IsToldDigest (d : Directory) (shown : Sighted → Type 0) (w : Waiting) (path : List ℕ) (t : Told) : Type 0 where
  pub hash : Option (Option (List ℕ))
  pub sees : SeesDigest d path shown hash
  pub told : IsToldOrFails w (absent_dep kinds.Digest path) (option_map (told_hash path) hash) t

-- so it is of the directory that the files hold
abbrev pub TellsPresence : Option Directory → (Sighted → Type 0) → Waiting → List ℕ → Told → Type 0
TellsPresence held shown w path t = (d : Directory) → held ≡ Some d → IsToldPresence d shown w path t

abbrev pub TellsReading : Option Directory → (Sighted → Type 0) → Waiting → List ℕ → By → Told → Type 0
TellsReading held shown w path by t = (d : Directory) → held ≡ Some d → IsToldSight d shown w path by t

abbrev pub TellsDigest : Option Directory → (Sighted → Type 0) → Waiting → List ℕ → Told → Type 0
TellsDigest held shown w path t = (d : Directory) → held ≡ Some d → IsToldDigest d shown w path t

abbrev pub TellsEntries : Option Directory → Waiting → List ℕ → Told → Type 0
TellsEntries held w dir t = (d : Directory) → held ≡ Some d → IsToldList w dir (listing_in d dir) t
