-- What a build makes.
use Rattle.std.specs.Prelude.{◌≡◌, ℕ, List, [], Option, Some, None}
use Rattle.std.specs.List.{All}
use Rattle.pie_value.specs.declared.task.Task.{Task}
use Rattle.pie_value.specs.declared.verdict.Refusal.{Refusal}
use Rattle.pie_value.specs.declared.verdict.Verdict.{Verdict}
use Rattle.pie_value.specs.declared.verdict.Verdict.TheVariants.{Accepted, Refused}
use Rattle.pie_graph.specs.Rows.{Row}
use Rattle.pie_reach.specs.inner.Reaches.{AreHeights}
use Rattle.pie_record.specs.Canonical.{IsStorable}
use Rattle.pie_tables.specs.declared.tables.Tables.{Tables}
use Rattle.pie_view.specs.Content.{Staged}
use Rattle.pie_checks.specs.Records.{Wrote, Missed}
use Rattle.pie_checks.specs.Refusals.{FindsFirst}
use Rattle.pie_checks.specs.declared.built.Built.{Built}
use Rattle.pie_results.specs.inner.Failures.{FailsFirst}
use Rattle.pie_results.specs.inner.Files.{InPathOrder, AreFiles, contents_in}
use Rattle.pie_results.specs.inner.Live.{AreLive}
use Rattle.pie_results.specs.inner.Ordered.{AreRecords}
use Rattle.pie_results.specs.inner.Outputs.{AreOutputs, IsDone}

-- all lists are empty
pub record MakesNothing (b : Built) : Type 0 where
  pub rows : b.rows.items ≡ []
  pub files : b.files.items ≡ []
  pub outputs : b.outputs.items ≡ []

-- where this verdict refuses, all lists are empty
abbrev pub NothingWhere : Verdict → Built → Type 0
NothingWhere Accepted b = Unit {0}
NothingWhere (Refused r) b = MakesNothing b

-- a build that is refused makes nothing
abbrev pub IsEmptyWhereRefused : Built → Type 0
IsEmptyWhereRefused b = NothingWhere b.verdict b

-- each record can be stored, and the files lie under `out/` in path order
pub record IsKept (b : Built) : Type 0 where
  pub rows : All IsStorable b.rows.items
  pub files : InPathOrder b.files.items

-- an accepted build has the records of the live tasks in order, the files that those wrote which ran, and the outputs of the roots if all are done
pub record Collects (t : Tables) (rows : List Row) (staged : Staged) (roots : List Task) (live : List ℕ) (b : Built) : Type 0 where
  pub accepts : b.verdict ≡ Accepted
  pub heights : List ℕ
  pub high : AreHeights rows heights
  pub kept : AreRecords t.names t.records heights live b.rows.items
  pub wrote : AreFiles t staged live (contents_in b.files.items)
  pub gave : All (IsDone t.names t.records) roots → AreOutputs t.names t.records roots b.outputs.items

-- the last checks refuse a build, or it is accepted
abbrev pub EndsAs : Option Refusal → Tables → List Row → Staged → List Task → List ℕ → Built → Type 0
EndsAs (Some refusal) t rows staged roots live b = b.verdict ≡ Refused refusal
EndsAs None t rows staged roots live b = Collects t rows staged roots live b

-- the last checks of the live tasks say how a build ends
pub record Checks (t : Tables) (rows : List Row) (staged : Staged) (roots : List Task) (b : Built) : Type 0 where
  pub live : List ℕ
  pub are : AreLive t.names roots rows live
  pub answer : Option Refusal
  pub found : FindsFirst (Wrote t.names t.records live) (Missed t.names t.records live) answer
  pub ends : EndsAs answer t rows staged roots live b

-- a root refuses a build, or its last checks say how it ends
abbrev pub GoesOn : Option Refusal → Tables → List Row → Staged → List Task → Built → Type 0
GoesOn (Some refusal) t rows staged roots b = b.verdict ≡ Refused refusal
GoesOn None t rows staged roots b = Checks t rows staged roots b

-- what a build makes of tables, rows and staged contents
pub record Makes (t : Tables) (rows : List Row) (staged : Staged) (roots : List Task) (b : Built) : Type 0 where
  pub why : Option Refusal
  pub first : FailsFirst t.names t.records roots why
  pub goes : GoesOn why t rows staged roots b
