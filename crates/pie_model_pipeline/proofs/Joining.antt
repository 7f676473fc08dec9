-- Tasks, values and answers of the language come back from their canonical bytes.
use Rattle.std.proofs.Common.{◌≡◌, List, [], ◌∷◌, map, Option, Some, None, Ok, Err, refl, sym, ap, ◌∙◌}
use Rattle.pie_value.specs.declared.event.Answer.{Answer}
use Rattle.pie_value.specs.declared.event.Answer.TheVariants as answers
use Rattle.pie_value.specs.declared.task.Task.{Task}
use Rattle.pie_value.specs.declared.value.Value.{Value}
use Rattle.pie_value.specs.declared.value.Value.TheVariants as values
use Rattle.pie_value.specs.Tree.{Tree, items_of, list_of}
use Rattle.pie_value.specs.Values.{tree_of}
use Rattle.pie_value.specs.Canonical.{enc, enc_task, IsCanonical, IsCanonicalTask}
use Rattle.pie_value.specs.Reading.{Parsed, task_prefix}
use Rattle.pie_value.proofs.Decoded.{whole_again, task_whole_again}
use Rattle.pie_parser.specs.FunctionTrees.{FunctionTree}
use Rattle.pie_model.specs.declared.words.Answer.{Answer as ModelAnswer}
use Rattle.pie_model_pipeline.specs.Words.{event_of}
use Rattle.pie_model_pipeline.specs.Answers.{value_from, value_or_unit, value_with, answer_of}
use Rattle.pie_model_pipeline.specs.World.{task_evaluates_to, next_if_read, next}
use Rattle.pie_model_pipeline.specs.inner.Laws.{told_of, IsGiven}

-- ---- tasks

pub means_itself : (fs : List FunctionTree) (t : Task) → IsCanonicalTask t (enc_task t) → (given : List ModelAnswer)
    → next fs (enc_task t) given ≡ event_of (task_evaluates_to fs t (map answer_of given))
unfolding next
means_itself fs t c given = ap (λ (p : Parsed Task). next_if_read fs p given) (task_whole_again t (enc_task t) c)

abbrev task_or : Task → Parsed Task → Task
task_or t (Ok p) = p.0
task_or t (Err e) = t

pub tasks_told : (t u : Task) → IsCanonicalTask t (enc_task t) → IsCanonicalTask u (enc_task u) → enc_task t ≡ enc_task u → t ≡ u
tasks_told t u c d e =
    ap (task_or t) (sym (task_whole_again t (enc_task t) c) ∙ ap task_prefix e ∙ task_whole_again u (enc_task u) d)

-- ---- values

items_again : (ts : List Tree) → list_of (items_of ts) ≡ ts
items_again [] = refl
items_again (t ∷ ts) = ap (λ (us : List Tree). t ∷ us) (items_again ts)

value_again : (v : Value) → value_from (tree_of v) ≡ v
value_again values.Unit = refl
value_again (values.Bool b) = refl
value_again (values.Int n) = refl
value_again (values.Text s) = refl
value_again (values.Path p) = refl
value_again (values.List ts) = ap values.List (items_again ts)
value_again (values.Tuple ts) = ap values.Tuple (items_again ts)
value_again values.Null = refl
value_again (values.Bytes bs) = refl

pub values_told : (v : Value) → IsCanonical (tree_of v) (enc (tree_of v)) → value_with (enc (tree_of v)) ≡ v
values_told v c = ap value_or_unit (whole_again (tree_of v) (enc (tree_of v)) c) ∙ value_again v

-- ---- answers

-- an answer for what the model has, if it has one
abbrev answer_or : Answer → Option ModelAnswer → Answer
answer_or a None = a
answer_or a (Some m) = answer_of m

told_again : (a : Answer) → IsGiven a → answer_or a (told_of a) ≡ a
told_again (answers.Flag b) g = refl
told_again (answers.Bytes found) g = refl
told_again (answers.Digest hash) g = refl
told_again (answers.Entries ts) g = ap answers.Entries g
told_again answers.Wrote g = refl
told_again (answers.Output v) g = ap answers.Output (values_told v g)
told_again answers.Ran g = refl
told_again answers.Clash g = refl

pub answers_back : (a : Answer) (m : ModelAnswer) → IsGiven a → told_of a ≡ Some m → answer_of m ≡ a
answers_back a m g e = ap (answer_or a) (sym e) ∙ told_again a g
