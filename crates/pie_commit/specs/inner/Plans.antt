-- What a plan is to make of each path, and which paths are its own.
use Rattle.std.specs.Prelude.{◌≡◌, ℕ, Bool, true, false, not, ◌&&◌, ◌||◌, cond, List, [], ◌∷◌, Option, None, Some, codes}
use Rattle.std.specs.List.{list_all, list_any}
use Rattle.pie_base.specs.Path.{is_out, same_text}
use Rattle.pie_commit.specs.declared.plan.Pending.{Pending}
use Rattle.pie_commit.specs.declared.plan.Pending.TheVariants.{Keep, Put, Drop}
use Rattle.pie_commit.specs.declared.plan.Plan.{Plan}
use Rattle.pie_files.specs.Directory.{Directory, file_at}
use Rattle.std.proofs.Common.{Vec, Global}

-- the plan's own paths are `.pie/open`, `.pie/store` and `.pie/pending`
abbrev pub has_own_places : Plan → Bool
has_own_places p = same_text p.marker (codes ".pie/open") && same_text p.place (codes ".pie/store") && same_text p.names_place (codes ".pie/pending")

-- a path that a plan may write: one under `out/`, or the manifest
abbrev pub may_be_written : List ℕ → Bool
may_be_written path = is_out path || same_text path (codes ".pie/manifest")

-- a plan that can be committed: its own paths stand where they should, it removes files under `out/`, and writes files there or the manifest
abbrev pub is_sound : Plan → Bool
is_sound p = has_own_places p && list_all is_out p.removals.items && list_all (λ w. may_be_written w.0) p.writes.items

-- a list without elements
abbrev pub is_none : {A : Type 0} → List A → Bool
is_none [] = true
is_none (x ∷ xs) = false

-- nothing is stored
abbrev pub stores_none : {A : Type 0} → Option A → Bool
stores_none None = true
stores_none (Some x) = false

-- the pending names stay
abbrev pub keeps : Pending → Bool
keeps Keep = true
keeps (Put bytes) = false
keeps Drop = false

-- there is nothing to do
abbrev pub is_empty : Plan → Bool
is_empty p = is_none p.removals.items && is_none p.writes.items && stores_none p.store && keeps p.pending

-- what is wanted at a path: what was there, no file, or these bytes with some mark
pub data Wanted : Type 0 where
  Same : Wanted
  Gone : Wanted
  Bytes : List ℕ → Wanted

-- a file, or none, is what was wanted in the place of another
abbrev pub Meets : Wanted → Option (List ℕ × ℕ) → Option (List ℕ × ℕ) → Type 0
Meets Same before after = after ≡ before
Meets Gone before after = after ≡ None
Meets (Bytes bytes) before after = (mark : ℕ) × (after ≡ Some (bytes, mark))

-- of two things that are wanted the later one counts
abbrev pub later : Wanted → Wanted → Wanted
later Same earlier = earlier
later Gone earlier = Gone
later (Bytes bytes) earlier = Bytes bytes

-- something wanted at one path
abbrev pub at : List ℕ → Wanted → List ℕ → Wanted
at path wanted q = cond (same_text q path) wanted Same

-- files removed
abbrev pub removed : List (List ℕ) → List ℕ → Wanted
removed [] q = Same
removed (path ∷ paths) q = later (removed paths q) (at path Gone q)

-- files written
abbrev pub written : List (List ℕ × Vec ℕ Global) → List ℕ → Wanted
written [] q = Same
written (w ∷ writes) q = later (written writes q) (at w.0 (Bytes w.1.items) q)

-- the pending names
abbrev pub pended : Pending → Wanted
pended Keep = Same
pended (Put bytes) = Bytes bytes.items
pended Drop = Gone

-- the store
abbrev pub stored : Option (Vec ℕ Global) → Wanted
stored None = Same
stored (Some bytes) = Bytes bytes.items

-- the changes of a plan: its removals, its writes, the pending names and the store
abbrev pub changes : Plan → List ℕ → Wanted
changes p q = later (at p.place (stored p.store) q) (later (at p.names_place (pended p.pending) q) (later (written p.writes.items q)
    (removed p.removals.items q)))

-- what a plan wants: its changes, and no marker
abbrev pub wanted_by : Plan → List ℕ → Wanted
wanted_by p q = later (at p.marker Gone q) (changes p q)

-- at each path a directory has what was wanted in the place of another
abbrev pub Brings : (List ℕ → Wanted) → Directory → Directory → Type 0
Brings wants before after = (q : List ℕ) → Meets (wants q) (file_at before q) (file_at after q)

-- the paths that a plan may change
abbrev pub is_own : Plan → List ℕ → Bool
is_own p q = same_text q p.marker || same_text q p.place || same_text q p.names_place || list_any (same_text q) p.removals.items
    || list_any (λ w. same_text q w.0) p.writes.items

-- a path that a plan may change, and not the marker
abbrev pub is_inner : Plan → List ℕ → Bool
is_inner p q = is_own p q && not (same_text p.marker q)
