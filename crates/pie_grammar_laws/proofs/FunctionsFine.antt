-- Functions that were read are words of the grammar, and tokens that were read up to a refusal begin a pipeline.
use Rattle.std.proofs.Common.{◌≡◌, ◌⊎◌, inl, inr, ℕ, ◌-◌, Bool, true, false, cond, List, [], ◌∷◌, ◌++◌, refl, sym, subst, ap, ◌∙◌, append_assoc}
use Rattle.std.proofs.lemmas.List.{append-nil}
use Rattle.pie_lexer.specs.declared.token.Token.{Token}
use Rattle.pie_parser.specs.declared.kind.Kind.TheVariants as kinds
use Rattle.pie_parser.specs.declared.error.ParseFault.{ParseFault}
use Rattle.pie_parser.specs.declared.error.ParseFault.TheVariants.{TooDeep}
use Rattle.pie_parser.specs.declared.tree.Param.{Param}
use Rattle.pie_parser.specs.declared.reader.Room.{Room}
use Rattle.pie_parser.specs.Kinds.{is}
use Rattle.pie_parser.specs.At.{At}
use Rattle.pie_parser.specs.Places.{next}
use Rattle.pie_parser.specs.inner.Turns.{Stop, Part}
use Rattle.pie_parser.specs.FunctionTrees.{FunctionTree}
use Rattle.pie_parser.specs.FunctionReading as reads
use Rattle.pie_parser.specs.TypeGrammar.{Eats}
use Rattle.pie_parser.specs.FunctionGrammar as grammar
use Rattle.pie_parser.specs.FunctionGrammar.{IsParam, MoreParams, IsParams, IsFunction, Functions, IsPipeline}
use Rattle.pie_parser.proofs.Readings.{is_same}
use Rattle.pie_grammar_laws.specs.Refusals.{BeginsPipeline}
use Rattle.pie_grammar_laws.proofs.Tokens.{is_token}
use Rattle.pie_grammar_laws.proofs.Twins.{place}
use Rattle.pie_grammar_laws.proofs.Words.{Then, Word, Open, Fine, fine_then, fine_as, fine_last, fine_cond, fine_wrong, Nothing, fine_nothing, word_nothing}
use Rattle.pie_grammar_laws.proofs.Words.{word_then, word_as}
use Rattle.pie_grammar_laws.proofs.Samples.{fine_pass, fine_eat, want_fine, open_fine, word_eats, word_name, name_fine, a_func, a_open_round, a_close_round, a_colon}
use Rattle.pie_grammar_laws.proofs.Samples.{a_arrow}
use Rattle.pie_grammar_laws.proofs.Parts.{TurnFine, fine_stop, fine_part, turn_cond, all_fine}
use Rattle.pie_grammar_laws.proofs.TypesFine.{word_type, type_is_fine}
use Rattle.pie_grammar_laws.proofs.ExprWords.{word_block}
use Rattle.pie_grammar_laws.proofs.ExprFine.{block_is_fine}

abbrev ParamR : At → At → Type 0
ParamR s m = (p : Param) × IsParam s m p

abbrev MoreR : At → At → Type 0
MoreR s m = (ps : List Param) × MoreParams s m ps

abbrev ParamsR : At → At → Type 0
ParamsR s m = (ps : List Param) × IsParams s m ps

abbrev FunctionR : At → At → Type 0
FunctionR s m = (f : FunctionTree) × IsFunction s m f

abbrev pub FunctionsR : At → At → Type 0
FunctionsR s m = (fs : List FunctionTree) × Functions s m fs

no_params : (s m : At) → Nothing s m → MoreR s m
no_params s m e = ([], subst (λ m. MoreParams s m []) e grammar.no_more)

no_functions : (s m : At) → Nothing s m → FunctionsR s m
no_functions s m e = ([], subst (λ m. Functions s m []) e grammar.no_function)

word_more : Word MoreR
word_more = word_as word_nothing no_params

word_param : Word ParamR
word_param = word_as (word_then word_name (word_then (word_eats a_colon) word_type)) (λ s m h. (_, grammar.param h.1.1 h.2.1 h.2.2.1))

word_params : Word ParamsR
word_params = word_as (word_then (word_eats a_open_round) (word_eats a_close_round)) (λ s m h. ([], grammar.none h.1 h.2))

word_functions : Word FunctionsR
word_functions = word_as word_nothing no_functions

param_fine : (d : ℕ) (s : At) → s.marked ≡ false → Fine Param false ParamR s (reads.param d s)
param_fine d s u = fine_as (fine_then (name_fine u) (word_then (word_eats a_colon) word_type)
    (λ n a i. fine_then (want_fine a_colon (i refl)) word_type (λ _ b i. fine_last _ (type_is_fine d (i refl)))))
    (λ s m h. (_, grammar.param h.1.1 h.2.1 h.2.2.1))

more_fine : (d : ℕ) (p : Param) (s : At) → s.marked ≡ false → Fine (List Param) false MoreR s (reads.more_params d p s)
more_fine d p s u = all_fine false (Then (Eats kinds.Comma) ParamR) MoreR no_params (λ s m h. (_, grammar.one_more h.1.1 h.1.2.1 h.2.1)) word_more
    (reads.another_param d) another (p ∷ []) s (λ _. u)
  where
    another : (s : At) → (false ≡ false → s.marked ≡ false) → TurnFine Param false (Then (Eats kinds.Comma) ParamR) s (reads.another_param d s)
    another s u = turn_cond (is (next s) kinds.Comma) (λ h. let n = is_same (next s) kinds.Comma h in
        fine_pass (λ j. j ≡ kinds.Comma) (reads.param d) (ap is_token n) n word_param (param_fine d))

params_fine : (d : ℕ) (s : At) → s.marked ≡ false → Fine (List Param) false ParamsR s (reads.params d s)
params_fine d s u =
    let w2 = word_eats a_close_round in
    let w1 = word_then word_more w2 in
    fine_as (fine_then (open_fine d a_open_round refl u) (word_as w2 (λ s m h. inl h)) (λ _ a i. fine_cond (is (next a) kinds.CloseRound)
    (λ h. fine_as (fine_eat kinds.CloseRound (λ _. []) refl (is_same (next a) kinds.CloseRound h)) (λ s m h. inl h))
    (λ h. fine_as (fine_then (param_fine (d - 1) a (i refl)) w1
    (λ p b i. fine_then (more_fine (d - 1) p b (i refl)) w2 (λ ps c i. fine_last _ (want_fine a_close_round (i refl))))) (λ s m h. inr h))))
    (λ s m h. by_inside s m h.0 h.1 h.2)
  where
    by_inside : (s m a : At) → Eats kinds.OpenRound s a → (Eats kinds.CloseRound a m ⊎ Then ParamR (Then MoreR (Eats kinds.CloseRound)) a m) → ParamsR s m
    by_inside s m a q (inl p) = ([], grammar.none q p)
    by_inside s m a q (inr h) = (_, grammar.some q h.1.1 h.2.1.1 h.2.2)

function_fine : (r : Room) (s : At) → s.marked ≡ false → Fine FunctionTree false FunctionR s (reads.function r s)
function_fine r s u =
    let w3 = word_then word_type word_block in
    let w2 = word_then (word_eats a_arrow) w3 in
    let w1 = word_then word_params w2 in
    let w0 = word_then word_name w1 in
    fine_as (fine_then (want_fine a_func u) w0 (λ _ a i. fine_then (name_fine (i refl)) w1
    (λ n b i. fine_then (params_fine r.brackets b (i refl)) w2 (λ ps c i. fine_then (want_fine a_arrow (i refl)) w3 (λ _ d i.
    fine_then (type_is_fine r.brackets (i refl)) word_block (λ t f i. fine_last _ (block_is_fine r f (i refl))))))))
    (λ s m h. (_, grammar.function h.1 h.2.1.1 h.2.2.1.1 h.2.2.2.1 h.2.2.2.2.1.1 h.2.2.2.2.2.1))

functions_fine : (r : Room) (s : At) → s.marked ≡ false → Fine (List FunctionTree) false FunctionsR s (reads.functions r s)
functions_fine r s u = all_fine false FunctionR FunctionsR no_functions (λ s m h. (_, grammar.a_function h.1.1 h.2.1)) word_functions
    (reads.another_function r) another [] s (λ _. u)
  where
    another : (s : At) → (false ≡ false → s.marked ≡ false) → TurnFine FunctionTree false FunctionR s (reads.another_function r s)
    another s u = by_end (is (next s) kinds.End)
      where
        by_end : (b : Bool) → TurnFine FunctionTree false FunctionR s (cond b Stop (Part (reads.function r s)))
        by_end true = fine_stop
        by_end false = fine_part (reads.function r s) (function_fine r s (u refl))

-- all tokens that were read are a word of the grammar, or can be completed to one
pub pipeline_fine : (r : Room) (s : At) → s.marked ≡ false → Fine (List FunctionTree) false FunctionsR s (reads.pipeline r s)
pipeline_fine r s u = fine_as (fine_then (functions_fine r s u) word_nothing (λ fs m i. fine_cond (is (next m) kinds.End)
    (λ h. fine_nothing fs i) (λ h. fine_wrong word_nothing (i refl))))
    (λ s m h. (h.1.0, subst (λ z. Functions s z h.1.0) h.2 h.1.1))

-- what can be completed to a word begins a pipeline
pub begins_by : (f : ParseFault) (ts : List Token) (m : At) (x : Open f FunctionsR (place 0 ts false) m) → BeginsPipeline x.word
begins_by f ts m x =
    let i = x.reads 0 [] (λ e. absurd cc) in
    (x.more, i.1.0, (place i.0 [] false, subst (λ us. Functions (place 0 us false) (place i.0 [] false) i.1.0) (append-nil (x.word ++ x.more)) i.1.1, refl))

-- and so it does with the bracket that nests too deep
pub begins_with : (ts : List Token) (m : At) (x : Open TooDeep FunctionsR (place 0 ts false) m) → (y : Token) (us : List Token) → m.rest ≡ y ∷ us
    → BeginsPipeline (x.word ++ y ∷ [])
begins_with ts m x y us e =
    let i = x.reads 0 [] (λ e. absurd cc) in
    let z = x.stands refl in
    let same : z.0 ≡ y = first_same (sym z.3 ∙ e) in
    let all : (x.word ++ x.more) ++ [] ≡ (x.word ++ y ∷ []) ++ z.2 =
    append-nil (x.word ++ x.more) ∙ ap (λ vs. x.word ++ vs) z.4 ∙ ap (λ (t : Token). x.word ++ t ∷ z.2) same ∙ sym (append_assoc x.word (y ∷ []) z.2) in
    (z.2, i.1.0, (place i.0 [] false, subst (λ us. Functions (place 0 us false) (place i.0 [] false) i.1.0) all i.1.1, refl))
  where
    first_same : {a b : Token} {us vs : List Token} → a ∷ us ≡ b ∷ vs → a ≡ b
    first_same h = cc
