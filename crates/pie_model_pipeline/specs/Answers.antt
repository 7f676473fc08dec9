-- What a task of the model is answered, as the language has it.
use Rattle.std.specs.Prelude.{ℕ, List, map, Ok, Err}
use Rattle.pie_value.specs.declared.event.Answer.{Answer}
use Rattle.pie_value.specs.declared.event.Answer.TheVariants as answers
use Rattle.pie_value.specs.declared.value.Value.{Value}
use Rattle.pie_value.specs.declared.value.Value.TheVariants as values
use Rattle.pie_value.specs.Tree.{Tree, TUnit, TBool, TInt, TText, TPath, TList, TTuple, TNull, TBytes, list_of}
use Rattle.pie_value.specs.Reading.{Parsed, value_whole}
use Rattle.pie_model.specs.declared.words.Answer.{Answer as ModelAnswer}
use Rattle.pie_model.specs.declared.words.Answer.TheVariants as model

-- the value of a tree
abbrev pub value_from : Tree → Value
value_from TUnit = values.Unit
value_from (TBool b) = values.Bool b
value_from (TInt n) = values.Int n
value_from (TText s) = values.Text s
value_from (TPath p) = values.Path p
value_from (TList ts) = values.List (list_of ts)
value_from (TTuple ts) = values.Tuple (list_of ts)
value_from TNull = values.Null
value_from (TBytes bs) = values.Bytes bs

-- a value that was read; what can't be read is none, and unit stands for it
abbrev pub value_or_unit : Parsed Tree → Value
value_or_unit (Ok p) = value_from p.0
value_or_unit (Err e) = values.Unit

-- the value with these canonical bytes
abbrev pub value_with : List ℕ → Value
value_with bytes = value_or_unit (value_whole bytes)

-- an answer
abbrev pub answer_of : ModelAnswer → Answer
answer_of (model.Flag b) = answers.Flag b
answer_of (model.Contents found) = answers.Bytes found
answer_of (model.HashOf hash) = answers.Digest hash
answer_of (model.Entries ps) = answers.Entries (map TPath ps)
answer_of model.Wrote = answers.Wrote
answer_of (model.Output v) = answers.Output (value_with v)
answer_of model.Succeeded = answers.Ran
