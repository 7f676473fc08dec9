-- A pipeline that is read is one of the grammar.
use Rattle.std.proofs.Common.{◌≡◌, ◌⊎◌, inl, inr, ℕ, ◌-◌, Bool, true, false, cond, List, [], ◌∷◌, ◌++◌, Result, Ok, Err, refl, sym, subst, ap, ◌∙◌}
use Rattle.pie_lexer.specs.declared.token.Token.{Token}
use Rattle.pie_parser.specs.declared.kind.Kind.{Kind}
use Rattle.pie_parser.specs.declared.kind.Kind.TheVariants as kinds
use Rattle.pie_parser.specs.declared.error.ParseFault.TheVariants.{Expected}
use Rattle.pie_parser.specs.declared.tree.Name.{Name}
use Rattle.pie_parser.specs.declared.tree.Param.{Param}
use Rattle.pie_parser.specs.declared.reader.Room.{Room}
use Rattle.pie_parser.specs.Kinds.{is}
use Rattle.pie_parser.specs.At.{At}
use Rattle.pie_parser.specs.Places.{Parsed, Got, Miss, then_on, next, start, passed, want, open_bracket, name}
use Rattle.pie_parser.specs.inner.Turns.{Turn, Stop, Part, all_behind}
use Rattle.pie_parser.specs.TypeReading.{written_type, inner_type}
use Rattle.pie_parser.specs.ExprReading.{block, around}
use Rattle.pie_parser.specs.FunctionTrees.{FunctionTree}
use Rattle.pie_parser.specs.FunctionReading as reads
use Rattle.pie_parser.specs.TypeGrammar.{Eats}
use Rattle.pie_parser.specs.FunctionGrammar as grammar
use Rattle.pie_parser.specs.FunctionGrammar.{IsParam, MoreParams, IsParams, IsFunction, Functions, IsPipeline}
use Rattle.pie_parser.proofs.Readings.{is_same, chosen, got_same, as_got, missed, bound, eaten, opened, part_same, stopped, folded_behind}
use Rattle.pie_parser.proofs.TypesSound.{type_is_written}
use Rattle.pie_parser.proofs.ExprSound.{block_is_written}

param_sound : (d : ℕ) (s m : At) (p : Param) → reads.param d s ≡ Got p m → IsParam s m p
param_sound d s m p h =
    let b = bound (name s) _ p m h in
    let c = bound (want kinds.Colon b.1) _ p m b.3 in
    let f = bound (written_type d (inner_type d) c.1) _ p m c.3 in
    as_got (IsParam s) f.3 (grammar.param b.2 (eaten kinds.Colon b.1 c.1 c.0 c.2) (type_is_written d c.1 f.1 f.0 f.2))

more_sound : (d : ℕ) (p : Param) (zs : List Param) (s m : At) → reads.more_params d p s ≡ Got zs m → (ys : List Param) × MoreParams s m ys × (zs ≡ p ∷ ys)
more_sound d p zs s m h = folded_behind (reads.another_param d) MoreParams (λ s. grammar.no_more) one (p ∷ []) zs s m h
  where
    one : (s a m : At) (x : Param) (ys : List Param) → reads.another_param d s ≡ Part (Got x a) → MoreParams a m ys → MoreParams s m (x ∷ ys)
    one s a m x ys q k = elim (chosen (is (next s) kinds.Comma) (Part (reads.param d (passed s))) Stop (Part (Got x a)) q) [
      | inl c ↦ grammar.one_more (is_same (next s) kinds.Comma c.0, refl) (param_sound d (passed s) a x (part_same c.1)) k
      | inr c ↦ stopped c.1
    ]

params_sound : (d : ℕ) (s m : At) (ps : List Param) → reads.params d s ≡ Got ps m → IsParams s m ps
params_sound d s m ps h =
    let b = bound (open_bracket kinds.OpenRound d s) _ ps m h in
    let q = opened kinds.OpenRound d s b.1 b.0 b.2 in
    elim (chosen (is (next b.1) kinds.CloseRound) (Got [] (passed b.1)) _ (Got ps m) b.3) [
      | inl c ↦ as_got (IsParams s) c.1 (grammar.none q (is_same (next b.1) kinds.CloseRound c.0, refl))
      | inr c ↦ some (d - 1) b.1 q c.1
    ]
  where
    some : (d : ℕ) (a : At) → Eats kinds.OpenRound s a
        → then_on (reads.param d a) (λ p b. then_on (reads.more_params d p b) (λ xs c. then_on (want kinds.CloseRound c) (λ _ k. Got xs k))) ≡ Got ps m
        → IsParams s m ps
    some d a q h =
        let b = bound (reads.param d a) _ ps m h in
        let c = bound (reads.more_params d b.0 b.1) _ ps m b.3 in
        let f = bound (want kinds.CloseRound c.1) _ ps m c.3 in
        let z = more_sound d b.0 c.0 b.1 c.1 c.2 in
        as_got (IsParams s) (ap (λ xs. Got xs f.1) (sym z.2) ∙ f.3) (grammar.some q (param_sound d a b.1 b.0 b.2) z.1 (eaten kinds.CloseRound c.1 f.1 f.0 f.2))

function_sound : (r : Room) (s m : At) (t : FunctionTree) → reads.function r s ≡ Got t m → IsFunction s m t
function_sound r s m t h =
    let b = bound (want kinds.Func s) _ t m h in
    let c = bound (name b.1) _ t m b.3 in
    let d = bound (reads.params r.brackets c.1) _ t m c.3 in
    let f = bound (want kinds.Arrow d.1) _ t m d.3 in
    let i = bound (written_type r.brackets (inner_type r.brackets) f.1) _ t m f.3 in
    let j = bound (block (around r) i.1) _ t m i.3 in
    as_got (IsFunction s) j.3 (grammar.function (eaten kinds.Func s b.1 b.0 b.2) c.2 (params_sound r.brackets c.1 d.1 d.0 d.2)
    (eaten kinds.Arrow d.1 f.1 f.0 f.2)
    (type_is_written r.brackets f.1 i.1 i.0 i.2) (block_is_written r i.1 j.1 j.0 j.2))

functions_sound : (r : Room) (s m : At) (fs : List FunctionTree) → reads.functions r s ≡ Got fs m → Functions s m fs
functions_sound r s m fs h =
    let z = folded_behind (reads.another_function r) Functions (λ s. grammar.no_function) one [] fs s m h in subst (Functions s m) (sym z.2) z.1
  where
    one : (s a m : At) (x : FunctionTree) (ys : List FunctionTree) → reads.another_function r s ≡ Part (Got x a) → Functions a m ys → Functions s m (x ∷ ys)
    one s a m x ys q k = elim (chosen (is (next s) kinds.End) Stop (Part (reads.function r s)) (Part (Got x a)) q) [
      | inl c ↦ stopped c.1
      | inr c ↦ grammar.a_function (function_sound r s a x (part_same c.1)) k
    ]

-- what reading all tokens gives is the pipeline that they are
pub pipeline_sound : (ts : List Token) (fs : List FunctionTree) (m : At) → reads.read_all ts ≡ Got fs m → IsPipeline ts fs
pipeline_sound ts fs m h =
    let r : Room = record { brackets = 64; conditions = 100; in_read = false } in
    let s : At = record { past = 0; rest = ts; marked = false } in
    let b = bound (reads.functions r s) (λ fs m. cond (is (next m) kinds.End) (Got fs m) (Miss Expected m)) fs m h in
    elim (chosen (is (next b.1) kinds.End) (Got b.0 b.1) (Miss Expected b.1) (Got fs m) b.3) [
      | inl c ↦ (let g = got_same c.1 in (
        m,
        subst (λ z. Functions s m z) g.0 (subst (λ z. Functions s z b.0) g.1 (functions_sound r s b.1 b.0 b.2)),
        subst (λ z. next z ≡ kinds.End) g.1 (is_same (next b.1) kinds.End c.0),
      ))
      | inr c ↦ missed c.1
    ]
