-- Records whose requires have no cycle can be ranked.
use Rattle.std.specs.Prelude.{ℕ, zero, suc, max, ◌<◌, ◌≡◌, true, Option, Some, None, List, [], ◌∷◌, length}
use Rattle.pie_model.specs.Paths.{among}
use Rattle.pie_model.specs.Tasks.{Task}
use Rattle.pie_model.specs.Records.{Record, needs_of}
use Rattle.pie_model.specs.inner.Present.{Reaches}
use Rattle.pie_model.specs.inner.Consistent.{IsRecorded}

-- the tasks that a task requires by its record
abbrev pub required_in : Option Record → List Task
required_in None = []
required_in (Some r) = needs_of r.observations

-- one more than the greatest rank of these, or nothing
abbrev pub above_all : (Task → ℕ) → List Task → ℕ
above_all rank [] = 0
above_all rank (u ∷ us) = max (suc (rank u)) (above_all rank us)

-- the length of the longest way by requires, as far as so many steps show
abbrev pub rank_within : (Task → Option Record) → ℕ → Task → ℕ
rank_within R zero t = 0
rank_within R (suc n) t = above_all (rank_within R n) (required_in (R t))

-- no required task reaches its requirer
abbrev pub HasNoCycle : (Task → Option Record) → Type 0
HasNoCycle R = (t : Task) (r : Record) (u : Task) → R t ≡ Some r → among u (needs_of r.observations) ≡ true → Reaches R u t → ⊥

-- where requires have no cycle, are closed and have so few tasks, each require goes to a lower rank
abbrev pub RecordsHaveRanks : Type 0
RecordsHaveRanks =
    (R : Task → Option Record) (held : List Task) → HasNoCycle R → ((t : Task) (r : Record) → R t ≡ Some r → among t held ≡ true)
    → ((t : Task) (r : Record) (u : Task) → R t ≡ Some r → among u (needs_of r.observations) ≡ true → IsRecorded R u)
    → (t : Task) (r : Record) (u : Task) → R t ≡ Some r → among u (needs_of r.observations) ≡ true
    → rank_within R (length held) u < rank_within R (length held) t
