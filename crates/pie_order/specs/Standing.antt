-- Places that leave room before the first task and behind the last one.
use Rattle.std.specs.Prelude.{◌≡◌, ℕ, ◌+◌, ◌<◌, ◌≤◌, ◌^◌, List, length, slice_index}
use Rattle.pie_order.specs.declared.placed.Placed.{Placed}
use Rattle.pie_order.specs.Places.{AreApart}

-- so many tasks stand from a low place up to before a high one, and those that came later before them, at the places of their numbers
pub record AreStanding (settled low high : ℕ) (places : List ℕ) : Type 0 where
  pub few : length places ≤ 50000
  pub within : settled ≤ length places
  pub bottom : 50000 ≤ low
  pub ends : low ≤ high
  pub from : (n : ℕ) → n < settled → low ≤ slice_index places n
  pub under : (n : ℕ) → n < settled → slice_index places n < high
  pub later : (n : ℕ) → settled ≤ n → n < length places → slice_index places n ≡ n
  pub apart : AreApart places

-- the same of the places of the program
abbrev pub IsStanding : Placed → Type 0
IsStanding p = AreStanding p.settled p.low p.high p.places.items

-- no task waits for a place, and all would find room before the first one, and behind the last
abbrev pub HasRoom : Placed → Type 0
HasRoom p = (p.settled ≡ length p.places.items) × (100000 ≤ p.low) × (p.high + 50000 < 2 ^ 32)
