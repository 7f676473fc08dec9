-- What a build can still do: each call of a walk says by what it falls.
use Rattle.std.specs.Prelude.{◌≡◌, ℕ, ◌+◌, ◌-◌, ◌≤◌, List, ◌++◌, length}
use Rattle.pie_walk.specs.Marks.{unstarted}
use Rattle.pie_walk.specs.States.{WalkState, waiting}

-- how many tasks may yet be taken: those that may still get a number, and those that were neither taken nor settled
abbrev pub begins : WalkState → ℕ
begins s = 50000 - length s.rows + unstarted s.marks

-- some tasks are taken, and some that were taken are settled; the others wait on
pub record Counts (old new : WalkState) (more less : List ℕ) : Type 0 where
  pub begins : begins new + length more ≤ begins old
  pub waits : less ++ waiting new.stack ≡ more ++ waiting old.stack
