-- The numbers that a demo draws.
use Rattle.std.specs.Prelude.{ℕ, zero, suc, ◌+◌, ◌*◌, ◌/◌, ◌%◌, ◌^◌}

-- the state after a draw
abbrev pub next_state : ℕ → ℕ
next_state x = (x * 6364136223846793005 + 1442695040888963407) % 2 ^ 64

-- the state after so many draws
abbrev pub state_after : ℕ → ℕ → ℕ
state_after seed zero = seed
state_after seed (suc n) = next_state (state_after seed n)

-- the number that a draw gives in a state
abbrev pub drawn : ℕ → ℕ
drawn x = next_state x / 2 ^ 33

-- the number that a draw gives after so many others
abbrev pub draw_after : ℕ → ℕ → ℕ
draw_after seed n = drawn (state_after seed n)
