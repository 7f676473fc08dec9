-- What opening leaves of the cache.
use Rattle.std.specs.Prelude.{◌≡◌, ℕ, not, Bool, true, false, ◌&&◌, cond, List, Option, None, Some, is_some}
use Rattle.pie_base.specs.Path.{same_text}
use Rattle.pie_files.specs.Directory.{Directory, file_at}
use Rattle.pie_cache.specs.inner.Places.{gate, is_in_cache}

-- a path in the cache
abbrev pub IsInside : List ℕ → Type 0
IsInside path = is_in_cache path ≡ true

-- a path that isn't the gate's
abbrev pub IsApart : List ℕ → Type 0
IsApart path = same_text gate path ≡ false

-- a path in the cache that isn't the gate
abbrev pub is_other : List ℕ → Bool
is_other path = is_in_cache path && not (same_text path gate)

-- the directory is told, and no file is in the cache
abbrev pub HasCleared : Option Directory → Type 0
HasCleared after = (e : Directory) × (after ≡ Some e) × ((q : List ℕ) → is_in_cache q ≡ true → file_at e q ≡ None)

-- where the gate stood no file is left in the cache, and else the directory is as it was
abbrev pub IsOpened : Directory → Option Directory → Type 0
IsOpened d after = cond (is_some (file_at d gate)) (HasCleared after) (after ≡ Some d)
