-- How what is held changes.
use Rattle.std.specs.Prelude.{◌≡◌, ◌&&◌, ℕ, cond, List, map, Option, Some, None, IfSome, IsTrue}
use Rattle.std.specs.Ordering.{nat_cmp, is_eq}
use Rattle.std.specs.Cmp.Lexicographic.{slice_cmp}
use Rattle.std.specs.List.{list_any}
use Rattle.pie_base.specs.Path.{is_out, same_text}
use Rattle.pie_files.specs.Directory.{Directory}
use Rattle.pie_diff.specs.Hashes.{hash_in, held_at}
use Rattle.pie_diff.specs.Known.{only_out}

-- all that is held lies under `out/`
abbrev pub AreOut : List (List ℕ × List ℕ) → Type 0
AreOut held = (path : List ℕ) → IfSome (held_at held path) (λ _. IsTrue (is_out path))

-- the paths at which something is held
abbrev pub paths_in : List (List ℕ × List ℕ) → List (List ℕ)
paths_in held = map (λ (e : List ℕ × List ℕ). e.0) held

-- what is there already, else a hash
abbrev pub first : Option (List ℕ) → List ℕ → Option (List ℕ)
first None hash = Some hash
first (Some there) hash = Some there

-- this is held at a path now, and elsewhere what was
abbrev pub Sets : List (List ℕ × List ℕ) → List (List ℕ × List ℕ) → List ℕ → Option (List ℕ) → Type 0
Sets old new path there = (q : List ℕ) → held_at new q ≡ cond (is_eq (slice_cmp nat_cmp path q)) there (held_at old q)

-- the same where the path lies under `out/`; with another one all stays
abbrev pub SetsOut : List (List ℕ × List ℕ) → List (List ℕ × List ℕ) → List ℕ → Option (List ℕ) → Type 0
SetsOut old new path there = (q : List ℕ) → held_at new q ≡ cond (is_out path && is_eq (slice_cmp nat_cmp path q)) there (held_at old q)

-- what was there first, else what comes later
abbrev pub or_else : Option (List ℕ) → Option (List ℕ) → Option (List ℕ)
or_else None later = later
or_else (Some hash) later = Some hash

-- the first of these writes under `out/` are held where nothing was
abbrev pub Adds : List (List ℕ × List ℕ) → List (List ℕ × List ℕ) → List (List ℕ × List ℕ) → Type 0
Adds old new writes = (q : List ℕ) → held_at new q ≡ or_else (held_at old q) (only_out q (held_at writes q))

-- at each of these paths under `out/` is held what a directory has, and elsewhere what was
abbrev pub Looks : Directory → List (List ℕ × List ℕ) → List (List ℕ × List ℕ) → List (List ℕ) → Type 0
Looks d old new names = (q : List ℕ) → held_at new q ≡ cond (is_out q && list_any (same_text q) names) (hash_in d q) (held_at old q)

-- with those of the paths that are left, all of them are looked at
abbrev pub LooksAll : Directory → List (List ℕ × List ℕ) → List (List ℕ × List ℕ) → List (List ℕ) → List (List ℕ) → Type 0
LooksAll d old now names left = (q : List ℕ) → cond (is_out q && list_any (same_text q) left) (hash_in d q) (held_at now q)
    ≡ cond (is_out q && list_any (same_text q) names) (hash_in d q) (held_at old q)
