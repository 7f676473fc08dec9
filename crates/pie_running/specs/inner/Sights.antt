-- What a task sees at a path, by the files and by what is shown under `out/`.
use Rattle.std.specs.Prelude.{◌≡◌, ◌<◌, ℕ, Bool, true, false, cond, List, length, Option, Some, None, is_some}
use Rattle.std.specs.Option.{option_map}
use Rattle.sha2.specs.Sha256.{sha256}
use Rattle.pie_base.specs.Path.{is_out, is_source}
use Rattle.pie_files.specs.Directory.{Directory, file_at, entries_of}
use Rattle.pie_files.specs.declared.files.Found.{Found}
use Rattle.pie_value.specs.declared.event.By.{By}
use Rattle.pie_value.specs.declared.stamp.Stamp.{Stamp}
use Rattle.pie_value.specs.declared.stamp.Stamp.TheVariants as stamps
use Rattle.pie_builder_laws.specs.Looks.{reading_stamp}
use Rattle.pie_running.specs.declared.looking.Sight.{Sight}
use Rattle.pie_running.specs.declared.looking.Sight.TheVariants.{File, Long, Clash as Clashes}
use Rattle.pie_running.specs.declared.looking.Provided.{Provided}
use Rattle.pie_running.specs.declared.looking.Provided.TheVariants.{Nothing, Content, Clash as Clashing}

-- what is seen: a file with its mark, or none; or nothing at all where two tasks wrote it
abbrev pub Sighted : Type 0
Sighted = Option (Option (List ℕ × ℕ))

-- a file as it was found, with its mark
abbrev pub found_in : Option Found → Option (List ℕ × ℕ)
found_in found = option_map (λ (f : Found). (f.bytes.items, f.mark)) found

-- the hash of what is seen
abbrev pub hash_in : Option (List ℕ × ℕ) → Option (List ℕ)
hash_in seen = option_map (λ (f : List ℕ × ℕ). sha256 f.0) seen

-- the most bytes that a value may hold
abbrev pub most_content : ℕ
most_content = 1048571

-- the stamp by the mark
abbrev pub mark_stamp : Option ℕ → Stamp
mark_stamp None = stamps.Absent
mark_stamp (Some mark) = stamps.Mark mark

-- a file that is too long to be read so has some bytes, which are too many, and this stamp
pub record IsLong (by : By) (path : List ℕ) (stamp : Stamp) (f : List ℕ × ℕ) : Type 0 where
  pub long : most_content < length f.0
  pub stamp_is : stamp ≡ reading_stamp by path (Some f)

-- this holds of what is seen by a task that reads so
abbrev pub SightSays : By → List ℕ → Sight → (Sighted → Type 0) → Type 0
SightSays by path (File found) P = P (Some (found_in found))
SightSays by path (Long stamp) P = (f : List ℕ × ℕ) × P (Some (Some f)) × IsLong by path stamp f
SightSays by path Clashes P = P None

abbrev pub provided_sight : Provided → Sighted
provided_sight Nothing = Some None
provided_sight (Content bytes) = Some (Some (bytes.now, 0))
provided_sight Clashing = None

-- a task sees this at a path: under `out/` what is shown there, at a source path the file, and else nothing
pub record Sees (d : Directory) (path : List ℕ) (shown : Sighted → Type 0) (sight : Sighted) : Type 0 where
  pub out : is_out path ≡ true → shown sight
  pub source : is_out path ≡ false → is_source path ≡ true → sight ≡ Some (file_at d path)
  pub kept : is_out path ≡ false → is_source path ≡ false → sight ≡ Some None

-- a task sees whether a file is there
pub record SeesPresence (d : Directory) (path : List ℕ) (shown : Sighted → Type 0) (presence : Option Bool) : Type 0 where
  pub sight : Sighted
  pub sees : Sees d path shown sight
  pub is : presence ≡ option_map is_some sight

-- a task sees the hash of what is there
pub record SeesDigest (d : Directory) (path : List ℕ) (shown : Sighted → Type 0) (hash : Option (Option (List ℕ))) : Type 0 where
  pub sight : Sighted
  pub sees : Sees d path shown sight
  pub is : hash ≡ option_map hash_in sight

-- so it is of the directory that the files hold
abbrev pub SeesHeldReading : Option Directory → By → List ℕ → (Sighted → Type 0) → Sight → Type 0
SeesHeldReading held by path shown sight = (d : Directory) → held ≡ Some d → SightSays by path sight (Sees d path shown)

-- so it is where a source was looked for in them
abbrev pub SeesHeldSource : Option Directory → By → List ℕ → Sight → Type 0
SeesHeldSource held by path sight = (d : Directory) → held ≡ Some d → SightSays by path sight (λ o. o ≡ Some (file_at d path))

-- the stamp of a long file is that of the file that is held
abbrev pub StampsHeld : Option Directory → By → List ℕ → Stamp → Type 0
StampsHeld held by path stamp = (d : Directory) → held ≡ Some d → stamp ≡ reading_stamp by path (file_at d path)

abbrev pub SeesHeldDigest : Option Directory → List ℕ → (Sighted → Type 0) → Option (Option (List ℕ)) → Type 0
SeesHeldDigest held path shown hash = (d : Directory) → held ≡ Some d → SeesDigest d path shown hash

abbrev pub SeesHeldPresence : Option Directory → List ℕ → (Sighted → Type 0) → Option Bool → Type 0
SeesHeldPresence held path shown presence = (d : Directory) → held ≡ Some d → SeesPresence d path shown presence

-- the entries of a source directory
abbrev pub listing_in : Directory → List ℕ → Option (List (List ℕ))
listing_in d dir = cond (is_source dir) (Some (entries_of d dir)) None
