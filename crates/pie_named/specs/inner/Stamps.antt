-- Stamps by paths.
use Rattle.std.specs.Prelude.{◌≡◌, ℕ, cond, List, Option, Some}
use Rattle.std.specs.Ordering.{nat_cmp, is_eq}
use Rattle.std.specs.Cmp.Lexicographic.{slice_cmp}
use Rattle.std.specs.BTreeMap.{get}
use Rattle.pie_named.specs.declared.stamps.FileStamp.{FileStamp}
use Rattle.pie_named.specs.declared.stamps.Stamps.{Stamps}

-- the stamp at a path
abbrev pub stamp_at : Stamps → List ℕ → Option (Option FileStamp)
stamp_at s p = get (slice_cmp nat_cmp) s.stamps p

-- one path gets a stamp, and all others stay
abbrev pub Puts : Stamps → Stamps → List ℕ → Option FileStamp → Type 0
Puts old new path stamp = (p : List ℕ) → stamp_at new p ≡ cond (is_eq (slice_cmp nat_cmp path p)) (Some stamp) (stamp_at old p)
