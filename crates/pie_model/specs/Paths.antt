-- Paths, their three kinds, and the entries of a directory.
use Rattle.std.specs.Prelude.{ℕ, Bool, true, false, cond, eqb, Option, Some, None, List, [], ◌∷◌, ◌++◌, codes, bytes_eq}
use Rattle.std.specs.List.{filter_map}
use Rattle.std.specs.Cmp.Lexicographic.{slice_cmp}
use Rattle.std.specs.Ordering.{nat_cmp, is_lt}
-- where a path stands: under `out`, with what the builder keeps for itself, or among the sources
pub use Rattle.pie_model.specs.declared.words.Kind.{Kind}
pub use Rattle.pie_model.specs.declared.words.Kind.TheVariants.{Out, Kept, Source}

-- a path is its bytes
abbrev pub Path : Type 0
Path = List ℕ

-- whether a byte string is one of these
abbrev pub among : List ℕ → List (List ℕ) → Bool
among x [] = false
among x (y ∷ ys) = cond (bytes_eq x y) true (among x ys)

-- a byte in front of the first segment
abbrev pub longer_first : ℕ → List (List ℕ) → List (List ℕ)
longer_first c [] = (c ∷ []) ∷ []
longer_first c (s ∷ rest) = (c ∷ s) ∷ rest

-- the segments of a path, which the byte `/` parts
abbrev pub segments : Path → List (List ℕ)
segments [] = [] ∷ []
segments (c ∷ p) = cond (eqb c 47) ([] ∷ segments p) (longer_first c (segments p))

-- below `out` with a second segment, and else the path `out` alone, which is kept
abbrev pub below_out : List (List ℕ) → Kind
below_out [] = Kept
below_out (s ∷ rest) = Out

-- the first segments of the paths that the builder keeps for itself
abbrev pub kept_names : List (List ℕ)
kept_names = codes ".pie" ∷ codes "pie.pipeline" ∷ codes "pie.roots" ∷ []

-- the kind of a path with these segments
abbrev pub kind_by : List (List ℕ) → Kind
kind_by [] = Source
kind_by (s ∷ rest) = cond (bytes_eq s (codes "out")) (below_out rest) (cond (among s kept_names) Kept Source)

-- the kind of a path, which its segments alone decide
unfoldable pub kind_of : Path → Kind
kind_of p = kind_by (segments p)

-- the bytes up to the first `/`
abbrev pub first_segment : List ℕ → List ℕ
first_segment [] = []
first_segment (c ∷ p) = cond (eqb c 47) [] (c ∷ first_segment p)

-- what is left of a byte string after one that it begins with
abbrev pub after_prefix : List ℕ → List ℕ → Option (List ℕ)
after_prefix [] rest = Some rest
after_prefix (x ∷ xs) [] = None
after_prefix (x ∷ xs) (y ∷ ys) = cond (eqb x y) (after_prefix xs ys) None

-- the entry of a directory that leads to what is left of a file's path
abbrev pub entry_with : Path → Option (List ℕ) → Option Path
entry_with d None = None
entry_with d (Some rest) = Some (d ++ 47 ∷ first_segment rest)

-- a byte string put into its place among ordered ones, where it is not there yet
abbrev pub put_in_order : List ℕ → List (List ℕ) → List (List ℕ)
put_in_order x [] = x ∷ []
put_in_order x (y ∷ ys) =
    cond (bytes_eq x y) (y ∷ ys) (cond (is_lt (slice_cmp nat_cmp x y)) (x ∷ y ∷ ys) (y ∷ put_in_order x ys))

-- these byte strings in their order, each once
abbrev pub in_order : List (List ℕ) → List (List ℕ)
in_order [] = []
in_order (x ∷ xs) = put_in_order x (in_order xs)

-- the entries of a directory among these files: the paths one segment below it that lead to a file, in order, each once
unfoldable pub entries_among : List Path → Path → List Path
entries_among files d = in_order (filter_map (λ p. entry_with d (after_prefix (d ++ 47 ∷ []) p)) files)
