-- Reading functions and whole pipelines.
use Rattle.std.specs.Prelude.{◌≡◌, ℕ, ◌-◌, Bool, true, false, cond, List, [], ◌∷◌, Result, Ok, Err}
use Rattle.pie_lexer.specs.declared.token.Token.{Token}
use Rattle.pie_parser.specs.declared.kind.Kind.{Kind}
use Rattle.pie_parser.specs.declared.kind.Kind.TheVariants as kinds
use Rattle.pie_parser.specs.declared.error.ParseFault.TheVariants as faults
use Rattle.pie_parser.specs.declared.error.ParseError.{ParseError}
use Rattle.pie_parser.specs.declared.error.ParseError.TheVariants.{Expected, TooDeep, OutOfMemory}
use Rattle.pie_parser.specs.declared.tree.Name.{Name}
use Rattle.pie_parser.specs.declared.tree.Param.{Param}
use Rattle.pie_parser.specs.declared.reader.Room.{Room}
use Rattle.pie_parser.specs.Kinds.{is}
use Rattle.pie_parser.specs.At.{At}
use Rattle.pie_parser.specs.Places.{Parsed, Got, Miss, Parser, then_on, next, start, start_of, passed, want, open_bracket, name}
use Rattle.pie_parser.specs.inner.Turns.{Turn, Stop, Part, all_behind}
use Rattle.pie_parser.specs.TypeReading.{written_type, inner_type}
use Rattle.pie_parser.specs.ExprReading.{block, around}
use Rattle.pie_parser.specs.FunctionTrees.{FunctionTree}

-- param = name ":" type
abbrev pub param : ℕ → Parser Param
param d s = then_on (name s) (λ n a. then_on (want kinds.Colon a) (λ _ b.
    then_on (written_type d (inner_type d) b) (λ t m. Got (record { at = n.at; end = m.past; name = n; kind = t }) m)))

-- "," param
abbrev pub another_param : ℕ → At → Turn Param
another_param d s = cond (is (next s) kinds.Comma) (Part (param d (passed s))) Stop

-- { "," param }, behind a first
abbrev pub more_params : ℕ → Param → Parser (List Param)
more_params d p s = all_behind (p ∷ []) (another_param d) s

-- [ param { "," param } ] ")"
abbrev pub params_in : ℕ → Parser (List Param)
params_in d s = cond (is (next s) kinds.CloseRound) (Got [] (passed s))
    (then_on (param d s) (λ p a. then_on (more_params d p a) (λ ps b. then_on (want kinds.CloseRound b) (λ _ m. Got ps m))))

-- "(" [ param { "," param } ] ")"
abbrev pub params : ℕ → Parser (List Param)
params d s = then_on (open_bracket kinds.OpenRound d s) (λ _ a. params_in (d - 1) a)

-- func = "func" name "(" [ param { "," param } ] ")" "->" type block
abbrev pub function : Room → Parser FunctionTree
function r s = then_on (want kinds.Func s) (λ _ a. then_on (name a) (λ n b. then_on (params r.brackets b) (λ ps c. then_on (want kinds.Arrow c) (λ _ d.
    then_on (written_type r.brackets (inner_type r.brackets) d) (λ t f. then_on (block (around r) f) (λ x m.
    Got (record { at = start s; end = m.past; name = n; params = ps; result = t; body = x }) m))))))

-- a function, unless the tokens end
abbrev pub another_function : Room → At → Turn FunctionTree
another_function r s = cond (is (next s) kinds.End) Stop (Part (function r s))

-- { func }
abbrev pub functions : Room → Parser (List FunctionTree)
functions r s = all_behind [] (another_function r) s

-- pipeline = { func }, and nothing behind it
abbrev pub pipeline : Room → Parser (List FunctionTree)
pipeline r s = then_on (functions r s) (λ fs m. cond (is (next m) kinds.End) (Got fs m) (Miss faults.Expected m))

-- what reading all tokens answers: 64 brackets and 100 conditions may be open
abbrev pub read_all : List Token → Parsed (List FunctionTree)
read_all ts = pipeline (record { brackets = 64; conditions = 100; in_read = false }) (record { past = 0; rest = ts; marked = false })

-- the end of the last token, or this number where there is none
abbrev pub last_end : ℕ → List Token → ℕ
last_end n [] = n
last_end n (t ∷ ts) = last_end t.end ts

-- where a place is: at its first token, or at the end of all tokens
abbrev pub offset : List Token → At → ℕ
offset ts m = start_of (last_end 0 ts) m.rest

-- the answer is what reading these tokens gives, unless out of memory
abbrev pub Reads : Result (List FunctionTree) ParseError → List Token → Type 0
Reads (Ok fs) ts = (m : At) × (read_all ts ≡ Got fs m)
Reads (Err (Expected i)) ts = (m : At) × (read_all ts ≡ Miss faults.Expected m) × (i ≡ offset ts m)
Reads (Err (TooDeep i)) ts = (m : At) × (read_all ts ≡ Miss faults.TooDeep m) × (i ≡ offset ts m)
Reads (Err OutOfMemory) ts = Unit {0}
