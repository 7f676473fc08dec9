-- The lemmas of one walk under one name.
use Rattle.pie_vm.proofs.Leading.{next_is, next_follows, waits_empty, next_stands, led_here, led_on, reached}
use Rattle.pie_code.proofs.Ending.{step_falls}

pub ruleset next_turn = (next_is, next_follows, waits_empty, next_stands)

pub ruleset steps_lead = (led_here, led_on, reached, step_falls)
