-- The builder's own files in a directory.
use Rattle.std.specs.Prelude.{◌≡◌, ℕ, List, codes, Option, None}
use Rattle.std.specs.Option.{option_map}
use Rattle.pie_files.specs.Directory.{Directory, file_at}

-- the bytes of the file at a path, if there is one
abbrev pub bytes_at : Directory → List ℕ → Option (List ℕ)
bytes_at d path = option_map (λ f. f.0) (file_at d path)

-- the marker of a commit that isn't finished, the store, and the pending names
abbrev pub open_path : List ℕ
open_path = codes ".pie/open"

abbrev pub store_path : List ℕ
store_path = codes ".pie/store"

abbrev pub pending_path : List ℕ
pending_path = codes ".pie/pending"

-- no marker stands
abbrev pub IsClosed : Directory → Type 0
IsClosed d = bytes_at d open_path ≡ None
