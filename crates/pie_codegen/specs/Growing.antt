-- What the emitter does: code and texts grow at their ends, and the names in scope stay.
use Rattle.std.specs.Prelude.{◌≡◌, ℕ, ◌+◌, List, [], ◌∷◌, ◌++◌, true, false, pos}
use Rattle.pie_code.specs.declared.instr.Constant.TheVariants as constants
use Rattle.pie_code.specs.declared.instr.Instr.{Instr}
use Rattle.pie_code.specs.declared.instr.Instr.TheVariants.{Tick, Push, Store, Unary, Jump, JumpIfNot, ListPush, Require, Fail}
use Rattle.pie_operators.specs.declared.operator.Unary.TheVariants.{Not}
use Rattle.pie_value.specs.declared.event.How.{How}
use Rattle.pie_parser.specs.declared.tree.Name.{Name}
use Rattle.pie_parser.specs.Plain.{Tree, Trees, Steps, BlockTree, LastTree}
use Rattle.pie_codegen.specs.declared.spot.Spot.{Spot}
use Rattle.pie_codegen.specs.declared.emitter.Emitter.{Emitter}
use Rattle.pie_codegen.specs.Spots.{next, after, after_either, after_both, after_block}
use Rattle.pie_codegen.specs.Compiled.{Scope, each_code, code_of, either_code, both_code, steps_code, items_code, args_code, block_code, last_code}
use Rattle.pie_codegen.specs.Texts.{texts_of, steps_texts, trees_texts, block_texts, last_texts}

-- the code grows by these instructions, the texts by these, and the names in scope are the same
pub record Adds (old new : Emitter) (is : List Instr) (ts : List (List ℕ)) : Type 0 where
  pub code : new.code.items ≡ old.code.items ++ is
  pub texts : new.texts.items ≡ old.texts.items ++ ts
  pub names : new.names ≡ old.names

-- an expression is emitted
abbrev pub Emits : Emitter → Emitter → Tree → Spot → ℕ → Type 0
Emits old new e s m = Adds old new (code_of e s m old.names) (texts_of e)

-- a block is emitted
abbrev pub EmitsBlock : Emitter → Emitter → BlockTree → Spot → ℕ → Type 0
EmitsBlock old new b s m = Adds old new (block_code b s m old.names) (block_texts b)

-- what ends a block is emitted
abbrev pub EmitsLast : Emitter → Emitter → LastTree → Spot → ℕ → Type 0
EmitsLast old new l s m = Adds old new (last_code l s m old.names) (last_texts l)

-- items are emitted, each with the instruction that pushes it
abbrev pub EmitsItems : Emitter → Emitter → Instr → Trees → Spot → ℕ → Type 0
EmitsItems old new grow es s m = Adds old new (items_code grow es s m old.names) (trees_texts es)

-- arguments are emitted
abbrev pub EmitsArgs : Emitter → Emitter → Trees → Spot → ℕ → Type 0
EmitsArgs old new es s m = Adds old new (args_code es s m old.names) (trees_texts es)

-- operands are emitted, each with its operator
abbrev pub EmitsSteps : Emitter → Emitter → Steps → Spot → ℕ → Type 0
EmitsSteps old new ss s m = Adds old new (steps_code ss s m old.names) (steps_texts ss)

-- an operand of `||`, where the value true stands at this place
abbrev pub either_operand : Tree → ℕ → Spot → ℕ → Scope → List Instr
either_operand e found s m sc = Unary Not ∷ JumpIfNot found ∷ code_of e (next (next s)) m sc

-- an operand of `&&`, where the value false stands at this place
abbrev pub both_operand : Tree → ℕ → Spot → ℕ → Scope → List Instr
both_operand e found s m sc = JumpIfNot found ∷ code_of e (next s) m sc

-- operands of `||` are emitted, or of `&&`
abbrev pub EmitsEither : Emitter → Emitter → Steps → Spot → ℕ → ℕ → Type 0
EmitsEither old new ss s to m = Adds old new (either_code ss s to m old.names) (steps_texts ss)

abbrev pub EmitsBoth : Emitter → Emitter → Steps → Spot → ℕ → ℕ → Type 0
EmitsBoth old new ss s to m = Adds old new (both_code ss s to m old.names) (steps_texts ss)

-- the operands of `||` behind the first, and the value that stands where one of them is true
abbrev pub either_part : Steps → Spot → ℕ → Scope → List Instr
either_part ss s m sc = either_code ss s (after_either ss s).at m sc
    ++ (Jump ((after_either ss s).at + 1 + 1) ∷ Push (constants.Bool true) ∷ [])

-- the operands of `&&` behind the first, and the value that stands where one of them is false
abbrev pub both_part : Steps → Spot → ℕ → Scope → List Instr
both_part ss s m sc = both_code ss s (after_both ss s).at m sc
    ++ (Jump ((after_both ss s).at + 1 + 1) ∷ Push (constants.Bool false) ∷ [])

-- what fails with the text on the stack
abbrev pub failing_code : Spot → List Instr
failing_code s = Push (constants.Bool true) ∷ JumpIfNot (s.at + 1 + 1 + 1) ∷ Fail ∷ []

-- the code of `fail`
abbrev pub fail_code : Tree → Spot → ℕ → Scope → List Instr
fail_code e s m sc = Tick ∷ (code_of e (next s) m sc ++ failing_code (after e (next s)))

-- a requirement of the function whose name is the next text
abbrev pub required_code : Spot → ℕ → How → Instr
required_code s k how = Require (record { func = s.text; count = k; how = how })

-- what comes before the turns of a loop
abbrev pub loop_start : ℕ → List Instr
loop_start m = Store m ∷ Push (constants.Int (pos 0)) ∷ Store (m + 1) ∷ Push constants.EmptyList ∷ []

-- a turn of a loop from this spot on
abbrev pub loop_turn : Tree → Name → Spot → ℕ → Scope → List Instr
loop_turn e n s m sc = each_code m ((after e (next s)).at + 1 + 1)
    ∷ (code_of e (next s) (m + 3) ((n.text, m + 2) ∷ sc) ++ (ListPush ∷ Jump s.at ∷ []))

-- an expression is emitted where one more name is in scope
abbrev pub EmitsWith : Emitter → Emitter → Name → ℕ → Tree → Spot → ℕ → Type 0
EmitsWith old new n slot e s m = Adds old new (code_of e s m ((n.text, slot) ∷ old.names)) (texts_of e)

-- a test, and the block for true
abbrev pub tested_code : Tree → BlockTree → Spot → ℕ → Scope → List Instr
tested_code a b s m sc = Tick ∷ (code_of a (next s) m sc
    ++ (JumpIfNot ((after_block b (next (after a (next s)))).at + 1) ∷ block_code b (next (after a (next s))) m sc))

-- these are emitted
abbrev pub EmitsTested : Emitter → Emitter → Tree → BlockTree → Spot → ℕ → Type 0
EmitsTested old new a b s m = Adds old new (tested_code a b s m old.names) (texts_of a ++ block_texts b)
