-- The lemmas of one function under one name.
use Rattle.pie_fresh.proofs.Stepping.{answered_steps, written_steps, stopped_steps}
use Rattle.pie_fresh.proofs.Growing.{enters_same, enters_named, enters_started, starts_same, starts_one, started_same}
use Rattle.pie_fresh.proofs.Entering.{begun_is}
use Rattle.pie_fresh.proofs.Roots.{entered_none}
use Rattle.pie_fresh.proofs.Rooting.{runs_first}
use Rattle.pie_fresh.proofs.Cleaning.{does_none}
use Rattle.pie_fresh.proofs.AskingSince.{run_asks_none, roots_ask_none}

pub ruleset treats = (answered_steps, written_steps, stopped_steps, started_same)

pub ruleset enters = (started_same, enters_named, enters_started, begun_is, starts_one)

pub ruleset runs = (enters_same, starts_same, runs_first, run_asks_none)

pub ruleset evaluates_all = (enters_same, starts_same, entered_none, does_none, roots_ask_none)
