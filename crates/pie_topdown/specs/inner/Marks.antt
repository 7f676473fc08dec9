-- What a step marks: which tasks were started, and which were reused.
use Rattle.std.specs.Prelude.{◌≡◌, ◌⊎◌, ℕ, Bool, false, List, [], ◌∷◌, ◌++◌, Some, slice_get, slice_index_or}
use Rattle.pie_value.specs.declared.task.Task.{Task}
use Rattle.pie_graph.specs.Numbers.{numbers, IsMarked}
use Rattle.pie_topdown.specs.declared.builder.Builder.{Builder}
use Rattle.pie_topdown.specs.declared.hand.Hand.{Hand}
use Rattle.pie_topdown.specs.declared.hand.Hand.TheVariants as hands

-- whether the task with a number ran, or was reused
abbrev pub flag : Builder → ℕ → Bool
flag b n = slice_index_or b.ledger.tables.ran.items n false

-- no task was marked, and none counts as reused that didn't
pub record StaysMarked (old new : Builder) : Type 0 where
  pub flags : (n : ℕ) → flag new n ≡ flag old n
  pub reused : new.reused.items ≡ old.reused.items

-- one task was marked
pub record MarksOne (old : Builder) (n : ℕ) (new : Builder) : Type 0 where
  pub task : Task
  pub named : slice_get old.ledger.tables.names n ≡ Some task
  pub here : IsMarked new.ledger.tables.ran.items n
  pub others : (k : ℕ) → (k ≡ n → ⊥) → flag new k ≡ flag old k

-- it counts as reused
pub record ReusesOne (old : Builder) (n : ℕ) (new : Builder) : Type 0 where
  pub marks : MarksOne old n new
  pub numbers_are : numbers new.reused.items ≡ numbers old.reused.items ++ n ∷ []

-- it was started
pub record RunsOne (old : Builder) (n : ℕ) (new : Builder) (before after : List Task) : Type 0 where
  pub marks : MarksOne old n new
  pub added : after ≡ before ++ marks.task ∷ []
  pub reused : new.reused.items ≡ old.reused.items

-- a record that stands may be an offered one
abbrev pub KeepsMarks : Builder → ℕ → Builder → Type 0
KeepsMarks old n new = StaysMarked old new ⊎ ReusesOne old n new

-- at most this one was marked: it was reused, or started
abbrev pub Marks : Builder → ℕ → Builder → List Task → List Task → Type 0
Marks old n new before after = ((after ≡ before) × KeepsMarks old n new) ⊎ RunsOne old n new before after

-- so it is in a step, with the task in hand
abbrev pub MarksBy : Builder → Hand → Builder → List Task → List Task → Type 0
MarksBy old (hands.Enters n code) new before after = Marks old n.0 new before after
MarksBy old (hands.Checks c) new before after = Marks old c.value.no.0 new before after
MarksBy old (hands.Runs f) new before after = (after ≡ before) × StaysMarked old new
MarksBy old hands.Ended new before after = (after ≡ before) × StaysMarked old new
