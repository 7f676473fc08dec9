-- In a pipeline `func` stands at the beginning of functions alone.
use Rattle.std.proofs.Common.{◌≡◌, ℕ, Bool, true, false, cond, List, [], ◌∷◌, ◌++◌, Option, Some, refl, sym, subst, ap, ◌∙◌}
use Rattle.std.proofs.lemmas.List.{append-nil}
use Rattle.pie_lexer.specs.declared.token.Token.{Token}
use Rattle.pie_lexer.specs.declared.token.TokenKind.{TokenKind}
use Rattle.pie_lexer.specs.declared.token.TokenKind.TheVariants as tokens
use Rattle.pie_parser.specs.declared.kind.Kind.{Kind}
use Rattle.pie_parser.specs.declared.kind.Kind.TheVariants as kinds
use Rattle.pie_parser.specs.declared.error.ParseFault.TheVariants.{Expected}
use Rattle.pie_parser.specs.declared.chain.Level.{Level}
use Rattle.pie_parser.specs.declared.chain.Level.TheVariants as levels
use Rattle.pie_parser.specs.declared.type_tree.PlainType.{PlainType}
use Rattle.pie_parser.specs.declared.tree.Name.{Name}
use Rattle.pie_parser.specs.declared.tree.Index.{Index}
use Rattle.pie_parser.specs.declared.tree.Step.{Step}
use Rattle.pie_parser.specs.declared.tree.Line.{Line}
use Rattle.pie_parser.specs.declared.tree.Param.{Param}
use Rattle.pie_parser.specs.declared.tree.Literal.{Literal}
use Rattle.pie_parser.specs.declared.tree.Operator.{Operator}
use Rattle.pie_parser.specs.declared.tree.Comparison.{Comparison}
use Rattle.pie_parser.specs.declared.tree.Prefix.{Prefix}
use Rattle.pie_parser.specs.declared.tree.CallKind.{CallKind}
use Rattle.pie_parser.specs.declared.tree.EffectKind.{EffectKind}
use Rattle.pie_parser.specs.Kinds.{kind_of_token}
use Rattle.pie_parser.specs.Tests.{operator_at, comparison_at, prefix_at, effect_at}
use Rattle.pie_parser.specs.PlainTypes.{TypeTree}
use Rattle.pie_parser.specs.Plain.{Tree, BlockTree}
use Rattle.pie_parser.specs.FunctionTrees.{FunctionTree}
use Rattle.pie_parser.specs.At.{At}
use Rattle.pie_parser.specs.Places.{Got, Miss, first_kind, next, passed, behind, name_in, name_by, index_in, index_by}
use Rattle.pie_parser.specs.ExprReading.{literal_by, literal_in}
use Rattle.pie_parser.specs.TypeReading.{plain_at}
use Rattle.pie_parser.specs.TypeGrammar as types
use Rattle.pie_parser.specs.TypeGrammar.{Eats, IsName, IsType, IsPlain, MoreTypes}
use Rattle.pie_parser.specs.Grammar as grammar
use Rattle.pie_parser.specs.Grammar.{IsIndex, Indices, ByOfRequire, ByOfRead, IsExpr, IsChain, IsOperand, Steps, IsComparison, IsPrefixed, IsProjected}
use Rattle.pie_parser.specs.Grammar.{IsPrimary, Arguments, More, IsBlock, Lines}
use Rattle.pie_parser.specs.FunctionGrammar as functions
use Rattle.pie_parser.specs.FunctionGrammar.{IsParam, MoreParams, IsParams, IsFunction, Functions, IsPipeline}
use Rattle.pie_digest.specs.Digests.{is_func, name_in as named, name_of, digests_of, function_names, row_names}

-- between the first list and the second, its end, stands no `func`
data Clear : List Token → List Token → Type 0 where
  here : {ts : List Token} → Clear ts ts
  over : {t : Token} {ts us : List Token} → is_func t.kind ≡ false → Clear ts us → Clear (t ∷ ts) us

thens : {ts us vs : List Token} → Clear ts us → Clear us vs → Clear ts vs
thens here d = d
thens (over e c) d = over e (thens c d)

-- the kinds of tokens inside functions
abbrev inside : Kind → Bool
inside kinds.Func = false
inside kinds.End = false
inside kinds.Marked = false
inside k = true

not_func : (k : TokenKind) → inside (kind_of_token k) ≡ true → is_func k ≡ false
not_func tokens.Func h = cc
not_func k h = refl

skip_in : (b : Bool) (s : At) (ts : List Token) → inside (cond b kinds.Marked (first_kind ts)) ≡ true → Clear ts (behind s ts).rest
skip_in true s ts h = absurd (let f : ⊥ = cc in f)
skip_in false s [] h = absurd (let f : ⊥ = cc in f)
skip_in false s (t ∷ ts) h = over (not_func t.kind h) here

skip : (s : At) → inside (next s) ≡ true → Clear s.rest (passed s).rest
skip s h = skip_in s.marked s s.rest h

eats : (k : Kind) (s m : At) → inside k ≡ true → Eats k s m → Clear s.rest m.rest
eats k s m i h = subst (λ (a : At). Clear s.rest a.rest) (sym h.1) (skip s (ap inside h.0 ∙ i))

-- ---- words

got_rest : {A : Type 0} (a b : A) (s m : At) → Got a s ≡ Got b m → s.rest ≡ m.rest
got_rest a b s m h = let e : s ≡ m = cc in ap (λ (p : At). p.rest) e

name_by_clear : (k : TokenKind) (s m : At) (t : Token) (ts : List Token) (n : Name) → name_by s t ts k ≡ Got n m → (is_func k ≡ false) × (ts ≡ m.rest)
name_by_clear (tokens.Name x) s m t ts n h = (
  refl,
  got_rest (record { at = t.at; end = t.end; text = x }) n (record { past = t.end; rest = ts; marked = s.marked }) m h,
)
name_by_clear k s m t ts n h = absurd (let f : ⊥ = cc in f)

name_in_clear : (b : Bool) (s m : At) (ts : List Token) (n : Name) → cond b (Miss Expected s) (name_in s ts) ≡ Got n m → Clear ts m.rest
name_in_clear true s m ts n h = absurd (let f : ⊥ = cc in f)
name_in_clear false s m [] n h = absurd (let f : ⊥ = cc in f)
name_in_clear false s m (t ∷ ts) n h =
    let p = name_by_clear t.kind s m t ts n h in subst (λ us. Clear (t ∷ ts) us) p.1 (over p.0 here)

name_clear : (s m : At) (n : Name) → IsName s m n → Clear s.rest m.rest
name_clear s m n h = name_in_clear s.marked s m s.rest n h

index_by_clear : (k : TokenKind) (s m : At) (t : Token) (ts : List Token) (n : Index) → index_by s t ts k ≡ Got n m → (is_func k ≡ false) × (ts ≡ m.rest)
index_by_clear (tokens.Int x) s m t ts n h = (
  refl,
  got_rest (record { at = t.at; end = t.end; number = x }) n (record { past = t.end; rest = ts; marked = s.marked }) m h,
)
index_by_clear k s m t ts n h = absurd (let f : ⊥ = cc in f)

index_in_clear : (b : Bool) (s m : At) (ts : List Token) (n : Index) → cond b (Miss Expected s) (index_in s ts) ≡ Got n m → Clear ts m.rest
index_in_clear true s m ts n h = absurd (let f : ⊥ = cc in f)
index_in_clear false s m [] n h = absurd (let f : ⊥ = cc in f)
index_in_clear false s m (t ∷ ts) n h =
    let p = index_by_clear t.kind s m t ts n h in subst (λ us. Clear (t ∷ ts) us) p.1 (over p.0 here)

literal_by_inside : (k : TokenKind) (s m : At) (l : Literal) → literal_by s k ≡ Got l m → inside (kind_of_token k) ≡ true
literal_by_inside (tokens.Int x) s m l h = refl
literal_by_inside (tokens.Text x) s m l h = refl
literal_by_inside tokens.True s m l h = refl
literal_by_inside tokens.False s m l h = refl
literal_by_inside tokens.UnitWord s m l h = refl
literal_by_inside k s m l h = absurd (let f : ⊥ = cc in f)

literal_in_clear : (b : Bool) (s m : At) (ts : List Token) (l : Literal) → cond b (Miss Expected s) (literal_in s ts) ≡ Got l m
    → inside (cond b kinds.Marked (first_kind ts)) ≡ true
literal_in_clear true s m ts l h = absurd (let f : ⊥ = cc in f)
literal_in_clear false s m [] l h = absurd (let f : ⊥ = cc in f)
literal_in_clear false s m (t ∷ ts) l h = literal_by_inside t.kind s m l h

keyword_inside : (k : Kind) (p : PlainType) → plain_at k ≡ Some p → inside k ≡ true
keyword_inside kinds.Func p h = absurd (let f : ⊥ = cc in f)
keyword_inside kinds.End p h = absurd (let f : ⊥ = cc in f)
keyword_inside kinds.Marked p h = absurd (let f : ⊥ = cc in f)
keyword_inside k p h = refl

effect_inside : (k : Kind) (p : EffectKind) → effect_at k ≡ Some p → inside k ≡ true
effect_inside kinds.Func p h = absurd (let f : ⊥ = cc in f)
effect_inside kinds.End p h = absurd (let f : ⊥ = cc in f)
effect_inside kinds.Marked p h = absurd (let f : ⊥ = cc in f)
effect_inside k p h = refl

prefix_inside : (k : Kind) (p : Prefix) → prefix_at k ≡ Some p → inside k ≡ true
prefix_inside kinds.Func p h = absurd (let f : ⊥ = cc in f)
prefix_inside kinds.End p h = absurd (let f : ⊥ = cc in f)
prefix_inside kinds.Marked p h = absurd (let f : ⊥ = cc in f)
prefix_inside k p h = refl

comparison_inside : (k : Kind) (p : Comparison) → comparison_at k ≡ Some p → inside k ≡ true
comparison_inside kinds.Func p h = absurd (let f : ⊥ = cc in f)
comparison_inside kinds.End p h = absurd (let f : ⊥ = cc in f)
comparison_inside kinds.Marked p h = absurd (let f : ⊥ = cc in f)
comparison_inside k p h = refl

operator_inside : (l : Level) (k : Kind) (p : Operator) → operator_at l k ≡ Some p → inside k ≡ true
operator_inside levels.Or kinds.Or p h = refl
operator_inside levels.Or k p h = absurd (let f : ⊥ = cc in f)
operator_inside levels.And kinds.And p h = refl
operator_inside levels.And k p h = absurd (let f : ⊥ = cc in f)
operator_inside levels.Sum kinds.Plus p h = refl
operator_inside levels.Sum kinds.Minus p h = refl
operator_inside levels.Sum k p h = absurd (let f : ⊥ = cc in f)
operator_inside levels.Product kinds.Star p h = refl
operator_inside levels.Product kinds.Slash p h = refl
operator_inside levels.Product kinds.Percent p h = refl
operator_inside levels.Product k p h = absurd (let f : ⊥ = cc in f)

-- ---- types

mutual
  type_clear : {s m : At} {t : TypeTree} → IsType s m t → Clear s.rest m.rest
  type_clear (types.plain x) = plain_clear x
  type_clear (types.nullable x e) = thens (plain_clear x) (eats _ _ _ refl e)

  plain_clear : {s m : At} {t : TypeTree} → IsPlain s m t → Clear s.rest m.rest
  plain_clear {s = s} (types.keyword {p = p} e q) = subst (λ (a : At). Clear s.rest a.rest) (sym q) (skip s (keyword_inside (next s) p e))
  plain_clear (types.named x) = name_clear _ _ _ x
  plain_clear (types.listed e x g) = thens (eats _ _ _ refl e) (thens (type_clear x) (eats _ _ _ refl g))
  plain_clear (types.tuple e x g y ys h) =
      thens (eats _ _ _ refl e) (thens (type_clear x) (thens (eats _ _ _ refl g) (thens (type_clear y) (thens (more_types_clear ys) (eats _ _ _ refl h)))))

  more_types_clear : {s m : At} {ts : List TypeTree} → MoreTypes s m ts → Clear s.rest m.rest
  more_types_clear types.no_more = here
  more_types_clear (types.one_more e x xs) = thens (eats _ _ _ refl e) (thens (type_clear x) (more_types_clear xs))

-- ---- expressions

indices_clear : {s m : At} {ns : List Index} → Indices s m ns → Clear s.rest m.rest
indices_clear grammar.no_index = here
indices_clear {m = m} (grammar.an_index {a = a} {b = b} {n = n} e x xs) =
    thens (eats _ _ _ refl e) (thens (index_in_clear a.marked a b a.rest n x) (indices_clear xs))

by_require_clear : {r : Bool} {s m : At} {k : CallKind} → ByOfRequire r s m k → Clear s.rest m.rest
by_require_clear (grammar.nothing f) = here
by_require_clear (grammar.by_hash e g) = thens (eats _ _ _ refl e) (eats _ _ _ refl g)
by_require_clear (grammar.passes_mark e g) = thens (eats _ _ _ refl e) (eats _ _ _ refl g)

by_read_clear : {s m : At} {k : EffectKind} → ByOfRead s m k → Clear s.rest m.rest
by_read_clear grammar.nothing = here
by_read_clear (grammar.by_hash e g) = thens (eats _ _ _ refl e) (eats _ _ _ refl g)
by_read_clear (grammar.by_mark e g) = thens (eats _ _ _ refl e) (eats _ _ _ refl g)
by_read_clear (grammar.marked e) = here

mutual
  expr_clear : {r : Bool} {s m : At} {t : Tree} → IsExpr r s m t → Clear s.rest m.rest
  expr_clear (grammar.expr x) = chain_clear x

  chain_clear : {l : Level} {r : Bool} {s m : At} {t : Tree} → IsChain l r s m t → Clear s.rest m.rest
  chain_clear (grammar.chained x xs q) = thens (operand_clear x) (steps_clear xs)

  operand_clear : {l : Level} {r : Bool} {s m : At} {t : Tree} → IsOperand l r s m t → Clear s.rest m.rest
  operand_clear (grammar.of_or x) = chain_clear x
  operand_clear (grammar.of_and x) = comparison_clear x
  operand_clear (grammar.of_sum x) = chain_clear x
  operand_clear (grammar.of_product x) = prefixed_clear x

  steps_clear : {l : Level} {r : Bool} {s m : At} {xs : List Step} → Steps l r s m xs → Clear s.rest m.rest
  steps_clear grammar.no_step = here
  steps_clear {l = l} {s = s} (grammar.a_step {o = o} e x xs) = thens (skip s (operator_inside l (next s) o e)) (thens (operand_clear x) (steps_clear xs))

  comparison_clear : {r : Bool} {s m : At} {t : Tree} → IsComparison r s m t → Clear s.rest m.rest
  comparison_clear (grammar.alone x) = chain_clear x
  comparison_clear (grammar.compared {a = a} {c = c} x e y) = thens (chain_clear x) (thens (skip a (comparison_inside (next a) c e)) (chain_clear y))

  prefixed_clear : {r : Bool} {s m : At} {t : Tree} → IsPrefixed r s m t → Clear s.rest m.rest
  prefixed_clear (grammar.plain x) = projected_clear x
  prefixed_clear {s = s} (grammar.prefixed {p = p} e x) = thens (skip s (prefix_inside (next s) p e)) (projected_clear x)

  projected_clear : {r : Bool} {s m : At} {t : Tree} → IsProjected r s m t → Clear s.rest m.rest
  projected_clear (grammar.projected x ns q) = thens (primary_clear x) (indices_clear ns)

  primary_clear : {r : Bool} {s m : At} {t : Tree} → IsPrimary r s m t → Clear s.rest m.rest
  primary_clear {s = s} (grammar.literal {l = l} e) = skip s (literal_in_clear s.marked s s s.rest l e)
  primary_clear (grammar.a_name x) = name_clear _ _ _ x
  primary_clear (grammar.call x xs) = thens (name_clear _ _ _ x) (arguments_clear xs)
  primary_clear (grammar.null e x) = thens (eats _ _ _ refl e) (plain_clear x)
  primary_clear (grammar.empty e x) = thens (eats _ _ _ refl e) (type_clear x)
  primary_clear (grammar.brackets e x g) = thens (eats _ _ _ refl e) (thens (expr_clear x) (eats _ _ _ refl g))
  primary_clear (grammar.tuple e x q xs g) = thens (eats _ _ _ refl e) (thens (expr_clear x) (thens (more_clear xs) (eats _ _ _ refl g)))
  primary_clear (grammar.list e x xs g) = thens (eats _ _ _ refl e) (thens (expr_clear x) (thens (more_clear xs) (eats _ _ _ refl g)))
  primary_clear (grammar.each e x g n h y i) =
      thens (eats _ _ _ refl e) (thens (expr_clear x) (thens (eats _ _ _ refl g)
      (thens (name_clear _ _ _ n) (thens (eats _ _ _ refl h) (thens (expr_clear y) (eats _ _ _ refl i))))))
  primary_clear (grammar.if_alone e x y) = thens (eats _ _ _ refl e) (thens (expr_clear x) (block_clear y))
  primary_clear (grammar.if_else e x y g z) = thens (eats _ _ _ refl e)
      (thens (expr_clear x) (thens (block_clear y) (thens (eats _ _ _ refl g) (block_clear z))))
  primary_clear {s = s} (grammar.effect {k = k} q e x g) =
      thens (skip s (effect_inside (next s) k q)) (thens (eats _ _ _ refl e) (thens (expr_clear x) (eats _ _ _ refl g)))
  primary_clear (grammar.read e g x b h) = thens (eats _ _ _ refl e)
      (thens (eats _ _ _ refl g) (thens (expr_clear x) (thens (by_read_clear b) (eats _ _ _ refl h))))
  primary_clear (grammar.write e g x h y i) =
      thens (eats _ _ _ refl e) (thens (eats _ _ _ refl g) (thens (expr_clear x) (thens (eats _ _ _ refl h) (thens (expr_clear y) (eats _ _ _ refl i)))))
  primary_clear (grammar.fail e x g y h) = thens (eats _ _ _ refl e)
      (thens (type_clear x) (thens (eats _ _ _ refl g) (thens (expr_clear y) (eats _ _ _ refl h))))
  primary_clear (grammar.require e n xs b) = thens (eats _ _ _ refl e) (thens (name_clear _ _ _ n) (thens (arguments_clear xs) (by_require_clear b)))
  primary_clear (grammar.run e n xs) = thens (eats _ _ _ refl e) (thens (name_clear _ _ _ n) (arguments_clear xs))

  arguments_clear : {s m : At} {ts : List Tree} → Arguments s m ts → Clear s.rest m.rest
  arguments_clear (grammar.none e g) = thens (eats _ _ _ refl e) (eats _ _ _ refl g)
  arguments_clear (grammar.some e x xs g) = thens (eats _ _ _ refl e) (thens (expr_clear x) (thens (more_clear xs) (eats _ _ _ refl g)))

  more_clear : {s m : At} {ts : List Tree} → More s m ts → Clear s.rest m.rest
  more_clear grammar.no_more = here
  more_clear (grammar.one_more e x xs) = thens (eats _ _ _ refl e) (thens (expr_clear x) (more_clear xs))

  block_clear : {s m : At} {x : BlockTree} → IsBlock s m x → Clear s.rest m.rest
  block_clear (grammar.block e xs g) = thens (eats _ _ _ refl e) (thens (lines_clear xs) (eats _ _ _ refl g))

  lines_clear : {s m : At} {ls : List Line} {u : Option Tree} → Lines s m ls u → Clear s.rest m.rest
  lines_clear grammar.no_line = here
  lines_clear (grammar.the_last x) = expr_clear x
  lines_clear (grammar.an_expr x e xs) = thens (expr_clear x) (thens (eats _ _ _ refl e) (lines_clear xs))
  lines_clear (grammar.a_val e n g x h xs) =
      thens (eats _ _ _ refl e) (thens (name_clear _ _ _ n) (thens (eats _ _ _ refl g) (thens (expr_clear x) (thens (eats _ _ _ refl h) (lines_clear xs)))))

-- ---- functions

param_clear : {s m : At} {p : Param} → IsParam s m p → Clear s.rest m.rest
param_clear (functions.param n e t) = thens (name_clear _ _ _ n) (thens (eats _ _ _ refl e) (type_clear t))

more_params_clear : {s m : At} {ps : List Param} → MoreParams s m ps → Clear s.rest m.rest
more_params_clear functions.no_more = here
more_params_clear (functions.one_more e p ps) = thens (eats _ _ _ refl e) (thens (param_clear p) (more_params_clear ps))

params_clear : {s m : At} {ps : List Param} → IsParams s m ps → Clear s.rest m.rest
params_clear (functions.none e g) = thens (eats _ _ _ refl e) (eats _ _ _ refl g)
params_clear (functions.some e p ps g) = thens (eats _ _ _ refl e) (thens (param_clear p) (thens (more_params_clear ps) (eats _ _ _ refl g)))

-- what is clear has no digests
none_clear : {ts us : List Token} (text : List ℕ) → Clear ts us → digests_of text ts ≡ digests_of text us
none_clear text here = refl
none_clear text (over {t = t} {ts = ts} e c) = none_here t ts e ∙ none_clear text c
  where
    none_here : (t : Token) (ts : List Token) → is_func t.kind ≡ false → digests_of text (t ∷ ts) ≡ digests_of text ts
    none_here t ts e = rw e refl

name_by_is : (k : TokenKind) (s m : At) (t : Token) (ts : List Token) (n : Name) → name_by s t ts k ≡ Got n m → named k ≡ n.text
name_by_is (tokens.Name x) s m t ts n h = cc
name_by_is k s m t ts n h = absurd (let f : ⊥ = cc in f)

name_in_is : (b : Bool) (s m : At) (ts : List Token) (n : Name) (g : Token) → cond b (Miss Expected s) (name_in s ts) ≡ Got n m → name_of (g ∷ ts) ≡ n.text
name_in_is true s m ts n g h = absurd (let f : ⊥ = cc in f)
name_in_is false s m [] n g h = absurd (let f : ⊥ = cc in f)
name_in_is false s m (t ∷ ts) n g h = name_by_is t.kind s m t ts n h

is_func_of : (k : TokenKind) → kind_of_token k ≡ kinds.Func → is_func k ≡ true
is_func_of tokens.Func h = refl
is_func_of k h = absurd (let f : ⊥ = cc in f)

-- a function begins here
begins_in : (text : List ℕ) (x : Bool) (s : At) (ts : List Token) (b : At) (n : Name) → cond x kinds.Marked (first_kind ts) ≡ kinds.Func
    → ((g : Token) → name_of (g ∷ (behind s ts).rest) ≡ n.text) → row_names (digests_of text ts) ≡ n.text ∷ row_names (digests_of text (behind s ts).rest)
begins_in text true s ts b n h k = absurd (let f : ⊥ = cc in f)
begins_in text false s [] b n h k = absurd (let f : ⊥ = cc in f)
begins_in text false s (t ∷ ts) b n h k = let e : is_func t.kind ≡ true = is_func_of t.kind h in rw e (ap (λ x. x ∷ row_names (digests_of text ts)) (k t))

begins : (text : List ℕ) (s a b : At) (n : Name) → Eats kinds.Func s a → IsName a b n
    → row_names (digests_of text s.rest) ≡ n.text ∷ row_names (digests_of text a.rest)
begins text s a b n e x =
    subst (λ (p : At). row_names (digests_of text s.rest) ≡ n.text ∷ row_names (digests_of text p.rest)) (sym e.1)
    (begins_in text s.marked s s.rest b n e.0 (λ g. ap (λ (p : At). name_of (g ∷ p.rest)) (sym e.1) ∙ name_in_is a.marked a b a.rest n g x))

named_here : (text : List ℕ) {s m : At} {f : FunctionTree} → IsFunction s m f
    → row_names (digests_of text s.rest) ≡ f.name.text ∷ row_names (digests_of text m.rest)
named_here text {s = s} (functions.function {a = a} {b = b} {n = n} e x ps g t y) =
    begins text s a b n e x
    ∙ ap (λ rows. n.text ∷ row_names rows)
    (none_clear text (thens (name_clear _ _ _ x) (thens (params_clear ps) (thens (eats _ _ _ refl g) (thens (type_clear t) (block_clear y))))))

all_named : (text : List ℕ) {s m : At} {fs : List FunctionTree} → Functions s m fs
    → row_names (digests_of text s.rest) ≡ function_names fs ++ row_names (digests_of text m.rest)
all_named text functions.no_function = refl
all_named text (functions.a_function {f = f} x xs) = named_here text x ∙ ap (λ ns. f.name.text ∷ ns) (all_named text xs)

at_end : (text : List ℕ) (b : Bool) (ts : List Token) → cond b kinds.Marked (first_kind ts) ≡ kinds.End → row_names (digests_of text ts) ≡ []
at_end text true ts h = absurd (let f : ⊥ = cc in f)
at_end text false [] h = refl
at_end text false (t ∷ ts) h = absurd (no_end t.kind h)
  where
    no_end : (k : TokenKind) → kind_of_token k ≡ kinds.End → ⊥
    no_end tokens.Func h = cc
    no_end k h = cc

-- the digests of a pipeline have the names of its functions
pub pipeline_names : (text : List ℕ) (ts : List Token) (fs : List FunctionTree) → IsPipeline ts fs → row_names (digests_of text ts) ≡ function_names fs
pipeline_names text ts fs h =
    let m = h.0 in
    all_named text h.1 ∙ ap (λ ns. function_names fs ++ ns) (at_end text m.marked m.rest h.2) ∙ append-nil (function_names fs)
