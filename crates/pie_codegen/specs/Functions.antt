-- The code of a function, and what it means.
use Rattle.std.specs.Prelude.{◌≡◌, ℕ, ◌+◌, ◌≤◌, List, [], ◌∷◌, ◌++◌, length}
use Rattle.pie_value.specs.declared.event.Answer.{Answer}
use Rattle.pie_value.specs.Tree.{Tree as Val}
use Rattle.pie_code.specs.declared.instr.Instr.TheVariants.{Return}
use Rattle.pie_code.specs.declared.code.Code.{Code}
use Rattle.pie_code.specs.Coming.{CodeNext}
use Rattle.pie_parser.specs.declared.tree.Param.{Param}
use Rattle.pie_parser.specs.FunctionTrees.{FunctionTree}
use Rattle.pie_semantics.specs.Meaning.{next_of}
use Rattle.pie_codegen.specs.declared.spot.Spot.{Spot}
use Rattle.pie_codegen.specs.Rooms.{block_room}
use Rattle.pie_codegen.specs.Texts.{block_texts}
use Rattle.pie_codegen.specs.Compiled.{Scope, block_code}

-- parameters with their slots, from one on, before others: the last one is the newest
abbrev pub scope_onto : ℕ → List Param → Scope → Scope
scope_onto n [] sc = sc
scope_onto n (p ∷ ps) sc = scope_onto (n + 1) ps ((p.name.text, n) ∷ sc)

-- parameters with their slots
abbrev pub scope_of : List Param → Scope
scope_of ps = scope_onto 0 ps []

-- where the code of a function begins
abbrev pub origin : Spot
origin = record { at = 0; text = 0 }

-- this is the code of a function: its body's code, and a return
pub record IsCodeOf (f : FunctionTree) (code : Code) : Type 0 where
  pub params : code.params ≡ length f.params
  pub slots : code.slots ≡ length f.params + block_room f.body
  pub few : length f.params + block_room f.body ≤ 65535
  pub texts : code.texts.items ≡ block_texts f.body
  pub instrs : code.instrs.items ≡ block_code f.body origin (length f.params) (scope_of f.params) ++ Return ∷ []

-- the code means what the function means: with as many arguments as parameters, and whatever answers, both give the same
pub record Means (f : FunctionTree) (code : Code) : Type 0 where
  pub comes : (args : List Val) (answers : List Answer) → length args ≡ length f.params → CodeNext code args answers (next_of f args answers)
