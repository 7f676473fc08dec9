-- What `demo` prints, and the status that it ends with.
use Rattle.std.specs.Prelude.{◌≡◌, ◌⊎◌, ◌≤◌, ℕ, true, List, [], ◌++◌, codes, Option}
use Rattle.std.specs.Fmt.{decimal}
use Rattle.pie_base.specs.declared.status.Status.{Status}
use Rattle.pie_base.specs.declared.status.Status.TheVariants as status
use Rattle.pie_demo.specs.declared.whole.Summary.{Summary}
use Rattle.pie_demo.specs.Rounds.{IsDemo}
use Rattle.pie_files.specs.Directory.{Directory}
use Rattle.pie_value.specs.declared.task.Task.{Task}
use Rattle.pie_cli.specs.Run.{is_answer, Gains, GainsPrefix}

-- what is printed of a summary: a word and a number on each line
abbrev pub summary_text : Summary → List ℕ
summary_text s = codes "tasks " ++ (decimal s.tasks ++ (codes "\nrounds " ++ (decimal s.rounds
    ++ (codes "\nran " ++ (decimal s.ran ++ (codes "\nsame " ++ (decimal s.same ++ codes "\n")))))))

-- a text is that of the summary of a demo from this seed, of so many files: it had ten rounds, of which ten at most were equal
pub record IsDemoText (seed size : ℕ) (text : List ℕ) : Type 0 where
  pub summary : Summary
  pub after : Directory
  pub runs : List Task
  pub clean : List Task
  pub demo : IsDemo seed size after [] runs [] clean summary
  pub rounds : summary.rounds ≡ 10
  pub same : summary.same ≤ 10
  pub told : text ≡ summary_text summary

-- what `demo` says, whatever it ended with: the text of a summary; a prefix of one, or nothing; and that only two other statuses come
pub record SaysDemo (seed size : ℕ) (held gained : Option (List ℕ)) (ended : Status) : Type 0 where
  pub shown : is_answer ended ≡ true → (ended ≡ status.Ok) × (text : List ℕ) × IsDemoText seed size text × Gains held gained text
  pub prefix : ((text : List ℕ) × IsDemoText seed size text × GainsPrefix held gained text) ⊎ (gained ≡ held)
  pub ends : (ended ≡ status.Ok) ⊎ ((ended ≡ status.Output) ⊎ (ended ≡ status.Memory))

-- and that nothing is asked of the files
pub record RunsDemo {S : Type 0} (seed size : ℕ) (old new : S) (held gained : Option (List ℕ)) (ended : Status) : Type 0 where
  pub says : SaysDemo seed size held gained ended
  pub nothing_asked : new ≡ old
