-- The plain program's own values as rows and turns, and what its calls say of them.
use Rattle.std.specs.Prelude.{ℕ, ◌≡◌, ◌++◌, Option, Some, None, List}
use Rattle.pie_model.specs.Paths.{Path, kind_of}
use Rattle.pie_model.specs.Tasks.{Task}
use Rattle.pie_model.specs.Trees.{outcome_of}
use Rattle.pie_model.specs.Evaluation.{World, Project, start, follow, listing, evaluation_with}
use Rattle.pie_model.specs.Verdict.{absent_here}
use Rattle.pie_model.specs.declared.words.How.{How}
use Rattle.pie_model.specs.declared.words.Look.{Look}
use Rattle.pie_model.specs.declared.words.Outcome.{Outcome}
use Rattle.pie_model.specs.declared.words.Seen.{Seen}
use Rattle.pie_model.specs.declared.words.Seen.TheVariants.{Nothing}
use Rattle.pie_model_program.specs.declared.run.Run.{Run}
use Rattle.pie_model_program.specs.declared.run.Summary.{Summary}
use Rattle.pie_model_program.specs.Steps.{Row, Turn, Goes, Stops, IsEvaluated, IsWhole, by_listing, by_outcome, by_seen, step, with_kid}
use Rattle.pie_model_program.specs.Written.{seen_by, tagged}

-- how far a run has come
abbrev pub row_of : Run → Row
row_of r = record { answers = r.answers.items; own = r.own.items; absent = r.absent; below = r.below.items; entered = r.entered }

-- a turn: it stops where there is an outcome
abbrev pub turn_of : Option Outcome → Row → Turn
turn_of None r = Goes r
turn_of (Some e) r = Stops e r

-- a path was noted as absent, if it is under `out`
abbrev pub Misses : Path → Run → Run → Type 0
Misses p old new = row_of new ≡ record (row_of old) { absent = (row_of old).absent ++ absent_here p (kind_of p) Nothing }

-- a look that saw this
abbrev pub IsSight : World → Task → Look → Path → Seen → Run → Option Outcome → Run → Type 0
IsSight w t l p s old o new = turn_of o (row_of new) ≡ by_seen w t l p (row_of old) s

-- a look
abbrev pub IsLook : World → Project → Task → Look → Path → Run → Option Outcome → Run → Type 0
IsLook w P t l p old o new =
    IsSight w t l p (seen_by P.file (row_of old).own (row_of old).below p (kind_of p)) old o new

-- a listing
abbrev pub IsListing : World → Project → Task → Path → Run → Option Outcome → Run → Type 0
IsListing w P t d old o new = turn_of o (row_of new) ≡ by_listing t (row_of old) (listing w P d)

-- what a required task's evaluation adds
abbrev pub TakesKid : Task → Run → Run → Run → Type 0
TakesKid u kid old new =
    row_of new ≡ record (row_of old) { below = (row_of old).below ++ (tagged u (row_of kid).own ++ (row_of kid).below); entered = (row_of kid).entered }

-- a require, below these tasks
abbrev pub IsRequire : World → Project → ℕ → List Task → How → Task → Run → Option Outcome → Run → Type 0
IsRequire w P room below h u old o new =
    turn_of o (row_of new)
    ≡ by_outcome h (with_kid (row_of old) (evaluation_with room w P below u)) (outcome_of (evaluation_with room w P below u))

-- the next event of a task below these, itself included
abbrev pub IsStep : World → Project → ℕ → List Task → Task → Run → Option Outcome → Run → Type 0
IsStep w P room below t old o new = turn_of o (row_of new) ≡ step w P (evaluation_with room w P below) t (row_of old)

-- all events of a task below these, itself included, after these tasks were entered
abbrev pub IsTraceOf : World → Project → ℕ → List Task → Task → List Task → Summary → Type 0
IsTraceOf w P room below t entered s =
    IsWhole entered (follow w P (evaluation_with room w P below) t w.most_events start) s.outcome (row_of s.run)

-- the evaluation of a task below these, after these tasks were entered
abbrev pub IsEvaluationOf : World → Project → ℕ → List Task → Task → List Task → Summary → Type 0
IsEvaluationOf w P room above t entered s = IsEvaluated (evaluation_with room w P above t) entered s.outcome (row_of s.run)
