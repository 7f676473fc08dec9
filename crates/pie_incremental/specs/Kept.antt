-- What a refused build leaves, which keeps its names for the next one.
use Rattle.std.specs.Prelude.{◌≡◌, ◌⊎◌, ◌||◌, ℕ, Bool, false, List, Option, Some, IfSome}
use Rattle.pie_base.specs.Path.{same_text}
use Rattle.pie_files.specs.Directory.{Directory, file_at}
use Rattle.pie_commit.specs.Outcomes.{HasFile}
use Rattle.pie_incremental.specs.Names.{kept_names}
use Rattle.pie_incremental.specs.Own.{bytes_at, open_path, store_path, pending_path, IsClosed}

-- a path of one of the builder's own files
abbrev pub is_builders : List ℕ → Bool
is_builders q = same_text q open_path || same_text q store_path || same_text q pending_path

-- each path but the builder's own has the file that it had
abbrev pub KeepsFiles : Directory → Directory → Type 0
KeepsFiles d e = (q : List ℕ) → is_builders q ≡ false → file_at e q ≡ file_at d q

-- the same where the directory is observable, which is told still
abbrev pub KeepsAllFiles : Option Directory → Option Directory → Type 0
KeepsAllFiles before after = IfSome before (λ d. (e : Directory) × (after ≡ Some e) × KeepsFiles d e)

-- each path but those of the marker and of the pending names has the file that it had
abbrev pub KeepsAllButNames : Directory → Directory → Type 0
KeepsAllButNames d e = (q : List ℕ) → same_text q open_path ≡ false → same_text q pending_path ≡ false → file_at e q ≡ file_at d q

-- the names are kept, and nothing else changed but perhaps the marker
pub record HasNames (kept : List (List ℕ)) (d e : Directory) : Type 0 where
  pub rest : KeepsAllButNames d e
  pub names : bytes_at e pending_path ≡ kept_names kept

-- the names are kept, no marker stands, and nothing else changed
pub record KeepsNames (kept : List (List ℕ)) (d : Directory) (after : Option Directory) : Type 0 where
  pub left : Directory
  pub told : after ≡ Some left
  pub has : HasNames kept d left
  pub closed : IsClosed left

-- the marker stands, and each path but the builder's own has the file that it had
abbrev pub IsUnderway : Directory → Directory → Type 0
IsUnderway d c = HasFile c open_path × KeepsFiles d c

-- what a crash leaves while names are kept in the place of a file with these bytes: it is under way, nothing changed yet, or it is done
abbrev pub IsOfNames : List (List ℕ) → Option (List ℕ) → Directory → Directory → Type 0
IsOfNames kept before d c = bytes_at d pending_path ≡ before → IsUnderway d c ⊎ ((c ≡ d) ⊎ HasNames kept d c)
