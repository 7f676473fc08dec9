-- How a command that reads no input ends.
use Rattle.std.specs.Prelude.{◌≡◌, ◌≢◌, ℕ, true, List, Option}
use Rattle.pie_base.specs.declared.status.Status.{Status}
use Rattle.pie_base.specs.declared.status.Status.TheVariants as status
use Rattle.pie_files.specs.Faults.{Rose}
use Rattle.pie_cli.specs.Run.{files_fault_text, is_answer, Gains}

-- why it ended, as `Ends`, without the input
pub record EndsUnread (asked_before asked_after printed_before printed_after : ℕ) (held gained : Option (List ℕ)) (ended : Status) : Type 0 where
  pub files : ended ≡ status.Files → Rose asked_before asked_after × Gains held gained files_fault_text
  pub output : ended ≡ status.Output → Rose printed_before printed_after
  pub no_input : ended ≢ status.Input
  pub steady : is_answer ended ≡ true → (asked_after ≡ asked_before) × (printed_after ≡ printed_before)
  pub output_steady : ended ≡ status.Files → printed_after ≡ printed_before
