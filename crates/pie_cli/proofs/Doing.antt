-- What is said of a command, by the command that the words ask for.
use Rattle.std.proofs.Common.{◌≡◌, ℕ, List, Option, refl, inl, subst}
use Rattle.pie_auto.proofs.Finding.{outside_same}
use Rattle.pie_base.specs.declared.status.Status.{Status}
use Rattle.pie_base.specs.declared.status.Status.TheVariants as status
use Rattle.pie_build.proofs.Changing.{untouched}
use Rattle.pie_build.proofs.Crashing.{withstands_none}
use Rattle.pie_build.specs.Left.{Leaves}
use Rattle.pie_cached.proofs.Others.{others_same}
use Rattle.pie_cached.proofs.Stopping.{none_marked, none_stops}
use Rattle.pie_files.proofs.Reading.{none_before}
use Rattle.pie_files.specs.Directory.{Directory}
use Rattle.pie_files.specs.declared.files.Call.{Call}
use Rattle.pie_files.specs.Faults.{Rose}
use Rattle.pie_project.specs.Looking.{prefix_calls}
use Rattle.pie_topdown_build.proofs.Crashing.{endures_none}
use Rattle.pie_topdown_build.specs.Crashes.{HasEnded}
use Rattle.pie_words.specs.declared.command.Command.{Command}
use Rattle.pie_words.specs.declared.command.Command.TheVariants as commands
use Rattle.pie_cli.specs.Auto.{AutoSays}
use Rattle.pie_cli.specs.Build.{MakeSays}
use Rattle.pie_cli.specs.Cached.{CachedSays}
use Rattle.pie_cli.specs.Check.{IsCheckText}
use Rattle.pie_cli.specs.Does.{Does}
use Rattle.pie_cli.specs.Fresh.{IsFreshText}
use Rattle.pie_cli.specs.Scan.{ScanSays}
use Rattle.pie_cli.specs.Topdown.{TopdownSays}
use Rattle.pie_cli.proofs.Demos.{says_memory}
use Rattle.pie_cli.proofs.Gaining.{none_gained}
use Rattle.pie_cli.proofs.Listing.{runs_memory}
use Rattle.pie_cli.proofs.Making.{made_none}
use Rattle.pie_cli.proofs.Replaying.{runs_none}
use Rattle.pie_cli.proofs.Rest.{asks_none}
use Rattle.pie_cli.proofs.Statuses.{memory_is_no_answer}

module _ {S I : Type 0} (holds : S → Option Directory) (moment : S → ℕ) (left_since : S → ℕ → Directory → Type 0) (images : S → Directory → Type 0)
    (asked : S → Option (List Call)) (faults : S → ℕ) (left : I → Option (List ℕ)) (input_faults : I → ℕ) where
  -- what is said of a command is said of the same one
  pub does_as : (done command : Command) (old new : S) (input after : I) (held gained : Option (List ℕ)) (ended : Status) → done ≡ command
      → Does holds moment left_since images asked faults left input_faults done old new input after held gained ended
      → Does holds moment left_since images asked faults left input_faults command old new input after held gained ended
  does_as done command old new input after held gained ended is says =
      subst (λ one. Does holds moment left_since images asked faults left input_faults one old new input after held gained ended) is says

  -- out of memory before anything was asked of the files
  pub does_none : (command : Command) (old : S) (input : I) (held : Option (List ℕ))
      → Does holds moment left_since images asked faults left input_faults command old old input input held held status.Memory
  does_none commands.Check old input held = record {
    checked = λ a. absurd (memory_is_no_answer a);
    only = λ a. absurd (memory_is_no_answer a);
    printed = none_gained (holds old) IsCheckText (Rose (faults old) (faults old)) held status.Memory refl;
    same = refl;
    crash = none_before holds moment left_since images old;
    asks = asks_none prefix_calls (asked old);
  }
  does_none (commands.Fresh json) old input held = record {
    built = λ a. absurd (memory_is_no_answer a);
    only = λ a. absurd (memory_is_no_answer a);
    printed = none_gained (holds old) (λ d. IsFreshText d json (holds old)) (Rose (faults old) (faults old)) held status.Memory refl;
    changed = untouched (holds old) (holds old) refl;
    crash = withstands_none holds moment left_since images Leaves old;
    durable = λ a. absurd (memory_is_no_answer a);
    asks = λ a. absurd (memory_is_no_answer a);
  }
  does_none (commands.Build json) old input held = record {
    built = runs_memory (MakeSays json (asked old) (asked old)) holds faults left input_faults old input input held;
    crash = inl refl;
    marked = inl refl;
    durable = λ a. absurd (memory_is_no_answer a);
  }
  does_none (commands.Replay json) old input held = runs_none holds moment left_since images asked faults left input_faults json old input input held
  does_none commands.Scan old input held = record {
    scanned = runs_memory ScanSays holds faults left input_faults old input input held;
    same = refl;
    crash = none_before holds moment left_since images old;
  }
  does_none commands.Auto old input held = record {
    found = runs_memory AutoSays holds faults left input_faults old input input held;
    rest = outside_same (holds old) (holds old) refl;
  }
  does_none (commands.Topdown json) old input held =
      let none = endures_none holds moment left_since images HasEnded ⊥ old in
      record {
        built = made_none (TopdownSays json) holds faults old old held;
        crash = none.crash;
        marked = none.marked;
        durable = λ a. absurd (memory_is_no_answer a);
      }
  does_none commands.Cached old input held = record {
    said = made_none CachedSays holds faults old old held;
    rest = others_same (holds old) (holds old) refl;
    crash = none_stops holds moment left_since images old;
    marked = none_marked holds moment left_since images old;
    durable = λ a. absurd (memory_is_no_answer a);
  }
  does_none (commands.Demo seed size) old input held = record { says = says_memory seed size held; nothing_asked = refl }
