-- Worked examples of the meaning.
use Rattle.std.proofs.Common.{◌≡◌, ℕ, Bool, true, false, ◌+◌, List, [], ◌∷◌, codes, Option, Some, None, refl, ℤ, pos, negsuc}
use Rattle.pie_base.specs.declared.fault.FaultKind.TheVariants.{Null as NullFault}
use Rattle.pie_value.specs.declared.event.Event.TheVariants.{Read as Reads}
use Rattle.pie_value.specs.declared.event.By.TheVariants.{Hash}
use Rattle.pie_value.specs.declared.event.Answer.{Answer}
use Rattle.pie_value.specs.declared.event.Answer.TheVariants.{Bytes}
use Rattle.pie_value.specs.Tree.{TInt, TText, TUnit, TBool, TList, Nil as NoVal, Cons as ConsVal}
use Rattle.pie_value.specs.Tree.{Tree as Val}
use Rattle.pie_operators.specs.Domain.{Outcome, done, fails, wants, State, at_start}
use Rattle.pie_parser.specs.declared.tree.Literal.TheVariants as literals
use Rattle.pie_parser.specs.declared.tree.Operator.TheVariants as operators
use Rattle.pie_parser.specs.declared.tree.CallKind.TheVariants as calls
use Rattle.pie_parser.specs.declared.tree.EffectKind.TheVariants as effects
use Rattle.pie_parser.specs.declared.tree.Name.{Name}
use Rattle.pie_parser.specs.declared.tree.Prefix.TheVariants as prefixes
use Rattle.pie_parser.specs.Plain.{Tree, TLiteral, TName, TChain, TPrefix, TCall, TEffect, TEach, TList as ListOf, TIf, Trees, Nil, Cons, Steps, NoStep, AStep}
use Rattle.pie_parser.specs.Plain.{BlockTree, TBlock, NoLine, NoLast, ALast, NoElse, AnElse}
use Rattle.pie_semantics.specs.Words.{Env}
use Rattle.pie_semantics.specs.Meaning.{value_of}

-- a name, a text and a number, wherever they stand
abbrev named : List ℕ → Name
named s = record { at = 0; end = 0; text = s }

abbrev text : List ℕ → Tree
text s = TLiteral 0 0 (literals.Text s)

abbrev int : ℕ → Tree
int n = TLiteral 0 0 (literals.Int (pos n))

-- `get(read(path("s")))`
abbrev reads : Tree
reads = TCall 0 0 calls.Plain (named (codes "get")) (Cons (TEffect 0 0 effects.Read (TEffect 0 0 effects.Path (text (codes "s")))) Nil)

-- it asks for the file
asks_for_file : (value_of reads [] (at_start [])).0 ≡ wants (Reads (codes "s") Hash)
asks_for_file = refl

-- where none is there, `get` fails
fails_without : value_of reads [] (at_start (Bytes None ∷ [])) ≡ (fails NullFault, record { answers = []; seen = codes "s" ∷ []; wrote = []; ticks = 4 })
fails_without = refl

-- `1 + 2 - 4`: one node of a chain and three of its operands
sums : value_of (TChain 0 0 (int 1) (AStep operators.Plus (int 2) (AStep operators.Minus (int 4) NoStep))) [] (at_start [])
    ≡ (done (TInt (negsuc 0)), record { answers = []; seen = []; wrote = []; ticks = 4 })
sums = refl

-- `false && x`: the name that isn't there isn't looked at
stops : value_of (TChain 0 0 (TLiteral 0 0 (literals.Bool false)) (AStep operators.And (TName 0 0 (codes "x")) NoStep)) [] (at_start [])
    ≡ (done (TBool false), record { answers = []; seen = []; wrote = []; ticks = 2 })
stops = refl

-- `[-x for x in [1, 2]]`: the comprehension, the list with two items, and two nodes for each
negates : value_of (TEach 0 0 (TPrefix 0 0 prefixes.Minus (TName 0 0 (codes "x"))) (named (codes "x")) (ListOf 0 0 (Cons (int 1) (Cons (int 2) Nil)))) []
    (at_start [])
    ≡ (done (TList (ConsVal (TInt (negsuc 0)) (ConsVal (TInt (negsuc 1)) NoVal))), record { answers = []; seen = []; wrote = []; ticks = 8 })
negates = refl

-- a condition without `else` that is false costs no tick more
no_else : value_of (TIf 0 0 (TLiteral 0 0 (literals.Bool false)) (TBlock 0 0 NoLine NoLast) NoElse) [] (at_start [])
    ≡ (done TUnit, record { answers = []; seen = []; wrote = []; ticks = 2 })
no_else = refl

-- `starts("ab", "a")`: the call and its two arguments, the first one first
abbrev starts : Tree
starts = TCall 0 0 calls.Plain (named (codes "starts")) (Cons (text (codes "ab")) (Cons (text (codes "a")) Nil))

starts_with : value_of starts [] (at_start [])
    ≡ (done (TBool true), record { answers = []; seen = []; wrote = []; ticks = 3 })
starts_with = refl

-- a block with a number alone
abbrev block : ℕ → BlockTree
block n = TBlock 0 0 NoLine (ALast (int n))

-- `if true {1} else {2}`
chooses : value_of (TIf 0 0 (TLiteral 0 0 (literals.Bool true)) (block 1) (AnElse (block 2))) [] (at_start [])
    ≡ (done (TInt (pos 1)), record { answers = []; seen = []; wrote = []; ticks = 3 })
chooses = refl
