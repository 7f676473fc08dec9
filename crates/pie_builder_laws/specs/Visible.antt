-- What is visible at a path, by the kind of path that the language has.
use Rattle.std.specs.Prelude.{◌≡◌, ℕ, true, false, cond, List, Option, Some, None}
use Rattle.pie_base.specs.Path.{is_out, is_source}
use Rattle.pie_model.specs.declared.words.Kind.{Kind}
use Rattle.pie_model.specs.declared.words.Kind.TheVariants.{Out, Kept, Source}
use Rattle.pie_model.specs.Paths.{Path, kind_of}
use Rattle.pie_model.specs.Trees.{Node}
use Rattle.pie_model.specs.declared.words.Seen.TheVariants.{Nothing, Holds}
use Rattle.pie_model.specs.Seen.{first_write, provided, seen_file, visible_at}

-- the kind of a path
abbrev pub kind_in : Path → Kind
kind_in p = cond (is_out p) Out (cond (is_source p) Source Kept)

-- is that of the model
abbrev pub KindsAreTheModels : Type 0
KindsAreTheModels = (p : Path) → kind_of p ≡ kind_in p

-- at a source path the file is visible
abbrev pub SourcesAreFiles : Type 0
SourcesAreFiles =
    (file : Path → Option (List ℕ × ℕ)) (own : List (Path × List ℕ)) (kids : List Node) (p : Path) → is_source p ≡ true
    → visible_at file own kids p ≡ seen_file (file p)

-- at a reserved path nothing is
abbrev pub ReservedPathsAreEmpty : Type 0
ReservedPathsAreEmpty =
    (file : Path → Option (List ℕ × ℕ)) (own : List (Path × List ℕ)) (kids : List Node) (p : Path) → is_out p ≡ false → is_source p ≡ false
    → visible_at file own kids p ≡ Nothing

-- under `out/` a task sees its own first write
abbrev pub OwnWritesAreVisible : Type 0
OwnWritesAreVisible =
    (file : Path → Option (List ℕ × ℕ)) (own : List (Path × List ℕ)) (kids : List Node) (p : Path) (b : List ℕ) → is_out p ≡ true
    → first_write p own ≡ Some b → visible_at file own kids p ≡ Holds b 0

-- and where it wrote nothing, what the tasks that it required provide
abbrev pub OthersWritesAreVisible : Type 0
OthersWritesAreVisible =
    (file : Path → Option (List ℕ × ℕ)) (own : List (Path × List ℕ)) (kids : List Node) (p : Path) → is_out p ≡ true
    → first_write p own ≡ None → visible_at file own kids p ≡ provided kids p
