-- Forms of the tree from their parts.
use Rattle.std.proofs.Common.{◌≡◌, Bool, true, false, List, [], ◌∷◌, ◌++◌, reverse, refl, sym, ◌∙◌, subst, append_assoc}
use Rattle.std.specs.Prelude.{Option, Some}
use Rattle.std.proofs.lemmas.List.{reverse-append, append-nil}
use Rattle.pie_value.specs.Tree.{TBool, TText, Nil as NoVal, Cons as ConsVal, items_of}
use Rattle.pie_value.specs.Tree.{Tree as Val, Trees as Vals}
use Rattle.pie_value.specs.Types.{TyTree, BoolTy, IntTy, ListTy, TupleTy, parts_of}
use Rattle.pie_value.specs.HasType.{has_type, have_types, all_items}
use Rattle.pie_operators.specs.Operators.{binary_answer, list_with, tuple_with}
use Rattle.pie_operators.specs.Domain.{Act, give, then_do, by_answer}
use Rattle.pie_parser.specs.declared.chain.Level.{Level}
use Rattle.pie_parser.specs.declared.tree.Literal.{Literal}
use Rattle.pie_parser.specs.declared.tree.Literal.TheVariants as literals
use Rattle.pie_parser.specs.declared.tree.Index.{Index}
use Rattle.pie_parser.specs.declared.tree.Operator.{Operator}
use Rattle.pie_parser.specs.declared.tree.Operator.TheVariants as operators
use Rattle.pie_parser.specs.Plain.{Trees, Nil, Cons, Steps, NoStep, AStep}
use Rattle.pie_types.specs.Headings.{Heading}
use Rattle.pie_types.specs.Operators.{literal_type, is_plus, all_plus, is_addable, operands_type}
use Rattle.pie_types.specs.inner.Rules.{Leads, stays, goes, OperandsHave, in_sum, in_other}
use Rattle.pie_semantics.specs.Words.{Env, found, literal_value, branch, Logic, Neither, by_logic, logic_by, logic_of, infix_of, projected, over}
use Rattle.pie_semantics.specs.Meaning.{turns, value_of, either_value, both_value, steps_value, items_onto, values_of}
use Rattle.pie_type_laws.specs.Fitting.{IsOf}
use Rattle.pie_type_laws.proofs.Acts.{Sound, Good, give_sound, then_sound, answer_sound}
use Rattle.pie_type_laws.proofs.Inhabitants.{AllOf, EachOf, both, and_true, of_bool, of_list}
use Rattle.pie_type_laws.proofs.Operators.{made_good, sum_good, infix_good, list_good, tuple_good, item_good}

pub literal_good : (l : Literal) → Good (literal_type l) (literal_value l)
literal_good (literals.Int n) = refl
literal_good (literals.Text s) = made_good (literal_type (literals.Text s)) (TText s) refl
literal_good (literals.Bool b) = refl
literal_good literals.Unit = refl

pub found_sound : (hs : List Heading) (t : TyTree) (o : Option Val) (v : Val) → o ≡ Some v → IsOf t v → Sound hs (IsOf t) (found o)
found_sound hs t o v e h = subst (λ (o : Option Val). Sound hs (IsOf t) (found o)) (sym e) (give_sound hs (IsOf t) v h)

-- one of two by a truth value
pub branch_sound : (hs : List Heading) (t : TyTree) (v : Val) (x y : Act Val) → IsOf BoolTy v → Sound hs (IsOf t) x → Sound hs (IsOf t) y
    → Sound hs (IsOf t) (branch v x y)
branch_sound hs t v x y h p q = of_bool (λ v. Sound hs (IsOf t) (branch v x y)) (λ b. by b) v h
  where
    by : (b : Bool) → Sound hs (IsOf t) (branch (TBool b) x y)
    by true = p
    by false = q

-- the operands of a chain behind the first one
abbrev pub SoundSteps : List Heading → TyTree → Steps → Env → Type 0
SoundSteps hs t NoStep env = Unit {0}
SoundSteps hs t (AStep o e ss) env = Sound hs (IsOf t) (value_of e env) × SoundSteps hs t ss env

-- expressions of one type
abbrev pub SoundAll : List Heading → TyTree → Trees → Env → Type 0
SoundAll hs t Nil env = Unit {0}
SoundAll hs t (Cons e es) env = Sound hs (IsOf t) (value_of e env) × SoundAll hs t es env

-- expressions of these types
abbrev pub SoundEach : List Heading → Trees → List TyTree → Env → Type 0
SoundEach hs Nil [] env = Unit {0}
SoundEach hs (Cons e es) (t ∷ ts) env = Sound hs (IsOf t) (value_of e env) × SoundEach hs es ts env
SoundEach hs es ts env = ⊥

either_sound : (hs : List Heading) (ss : Steps) (env : Env) → SoundSteps hs BoolTy ss env → (v : Val) → IsOf BoolTy v
    → Sound hs (IsOf BoolTy) (either_value ss env v)
either_sound hs NoStep env s v h = give_sound hs (IsOf BoolTy) v h
either_sound hs (AStep o e ss) env s v h =
    branch_sound hs BoolTy v (give (TBool true)) (then_do (value_of e env) (either_value ss env)) h (give_sound hs (IsOf BoolTy) (TBool true) refl)
    (then_sound hs (IsOf BoolTy) (IsOf BoolTy) (value_of e env) (either_value ss env) s.0 (either_sound hs ss env s.1))

both_sound : (hs : List Heading) (ss : Steps) (env : Env) → SoundSteps hs BoolTy ss env → (v : Val) → IsOf BoolTy v
    → Sound hs (IsOf BoolTy) (both_value ss env v)
both_sound hs NoStep env s v h = give_sound hs (IsOf BoolTy) v h
both_sound hs (AStep o e ss) env s v h =
    branch_sound hs BoolTy v (then_do (value_of e env) (both_value ss env)) (give (TBool false)) h
    (then_sound hs (IsOf BoolTy) (IsOf BoolTy) (value_of e env) (both_value ss env) s.0 (both_sound hs ss env s.1))
    (give_sound hs (IsOf BoolTy) (TBool false) refl)

-- all operators of a chain take two operands of a type, and answer one of it
abbrev Infixes : TyTree → Steps → Type 0
Infixes t NoStep = Unit {0}
Infixes t (AStep o e ss) = ((v w : Val) → IsOf t v → IsOf t w → Good t (binary_answer (infix_of o) v w)) × Infixes t ss

infixes_sound : (hs : List Heading) (t : TyTree) (ss : Steps) (env : Env) → Infixes t ss → SoundSteps hs t ss env → (v : Val) → IsOf t v
    → Sound hs (IsOf t) (steps_value ss env v)
infixes_sound hs t NoStep env i s v h = give_sound hs (IsOf t) v h
infixes_sound hs t (AStep o e ss) env i s v h =
    then_sound hs (IsOf t) (IsOf t) (value_of e env) (λ w. then_do (by_answer (binary_answer (infix_of o) v w)) (steps_value ss env)) s.0
    (λ w g. then_sound hs (IsOf t) (IsOf t) (by_answer (binary_answer (infix_of o) v w)) (steps_value ss env)
    (answer_sound hs t (binary_answer (infix_of o) v w) (i.0 v w h g)) (infixes_sound hs t ss env i.1 s.1))

plus_good : (t : TyTree) → is_addable t ≡ true → (o : Operator) → is_plus o ≡ true → (v w : Val) → IsOf t v → IsOf t w → Good t (binary_answer (infix_of o) v w)
plus_good t a operators.Plus p = sum_good t a
plus_good t a o p = let f : ⊥ = cc in absurd f

plus_infixes : (t : TyTree) → is_addable t ≡ true → (ss : Steps) → all_plus ss ≡ true → Infixes t ss
plus_infixes t a NoStep h = tt
plus_infixes t a (AStep o e ss) h = let b = both (is_plus o) (all_plus ss) h in (plus_good t a o b.0, plus_infixes t a ss b.1)

plus_by : (o : Operator) → is_plus o ≡ true → logic_by o ≡ Neither
plus_by operators.Plus h = refl
plus_by o h = let f : ⊥ = cc in absurd f

plus_neither : (ss : Steps) → all_plus ss ≡ true → logic_of ss ≡ Neither
plus_neither NoStep h = refl
plus_neither (AStep o e ss) h = plus_by o (both (is_plus o) (all_plus ss) h).0

int_infixes : (ss : Steps) → Infixes IntTy ss
int_infixes NoStep = tt
int_infixes (AStep o e ss) = (infix_good o, int_infixes ss)

-- what goes on behind the first operand of a chain
abbrev pub goes_on : Steps → Env → Val → Act Val
goes_on ss env = by_logic (logic_of ss) (either_value ss env) (both_value ss env) (steps_value ss env)

other_sound : (hs : List Heading) (ss : Steps) (env : Env) → all_plus ss ≡ false → SoundSteps hs (operands_type ss) ss env
    → (v : Val) → IsOf (operands_type ss) v → Sound hs (IsOf (operands_type ss)) (goes_on ss env v)
other_sound hs NoStep env p s v h = let f : ⊥ = cc in absurd f
other_sound hs (AStep operators.Or e ss) env p s v h = either_sound hs (AStep operators.Or e ss) env s v h
other_sound hs (AStep operators.And e ss) env p s v h = both_sound hs (AStep operators.And e ss) env s v h
other_sound hs (AStep operators.Plus e ss) env p s v h = infixes_sound hs IntTy (AStep operators.Plus e ss) env (int_infixes (AStep operators.Plus e ss)) s v h
other_sound hs (AStep operators.Minus e ss) env p s v h = infixes_sound hs IntTy (AStep operators.Minus e ss) env
    (int_infixes (AStep operators.Minus e ss)) s v h
other_sound hs (AStep operators.Times e ss) env p s v h = infixes_sound hs IntTy (AStep operators.Times e ss) env
    (int_infixes (AStep operators.Times e ss)) s v h
other_sound hs (AStep operators.Divide e ss) env p s v h = infixes_sound hs IntTy (AStep operators.Divide e ss) env
    (int_infixes (AStep operators.Divide e ss)) s v h
other_sound hs (AStep operators.Remainder e ss) env p s v h = infixes_sound hs IntTy (AStep operators.Remainder e ss) env
    (int_infixes (AStep operators.Remainder e ss)) s v h

-- a chain behind its first operand
pub chain_sound : (hs : List Heading) (ss : Steps) (t : TyTree) (env : Env) → OperandsHave ss t → SoundSteps hs t ss env
    → (v : Val) → IsOf t v → Sound hs (IsOf t) (goes_on ss env v)
chain_sound hs _ _ env (in_sum {ss = ss} {t = t} p a) s v h =
    subst (λ (x : Logic). Sound hs (IsOf t) (by_logic {A = Val → Act Val} x (either_value ss env) (both_value ss env) (steps_value ss env) v))
    (sym (plus_neither ss p))
    (infixes_sound hs t ss env (plus_infixes t a ss p) s v h)
chain_sound hs _ _ env (in_other {ss = ss} p) s v h = other_sound hs ss env p s v h

-- projections
pub projected_sound : (hs : List Heading) (t : TyTree) (ns : List Index) (u : TyTree) → Leads t ns u → (v : Val) → IsOf t v
    → Sound hs (IsOf u) (projected ns v)
projected_sound hs _ _ _ (stays {t = t}) v h = give_sound hs (IsOf t) v h
projected_sound hs _ _ _ (goes {ts = ts} {t = t} {u = u} {n = n} {ns = ns} e more) v h =
    then_sound hs (IsOf t) (IsOf u) _ (projected ns) (answer_sound hs t _ (item_good n.number ts t v e h)) (projected_sound hs t ns u more)

-- the items of a list
pub all_sound : (hs : List Heading) (t : TyTree) (es : Trees) (env : Env) → SoundAll hs t es env → (all : Val) → IsOf (ListTy t) all
    → Sound hs (IsOf (ListTy t)) (items_onto list_with es env all)
all_sound hs t Nil env s all h = give_sound hs (IsOf (ListTy t)) all h
all_sound hs t (Cons e es) env s all h =
    then_sound hs (IsOf t) (IsOf (ListTy t)) (value_of e env) (λ v. then_do (by_answer (list_with all v)) (items_onto list_with es env)) s.0
    (λ v p. then_sound hs (IsOf (ListTy t)) (IsOf (ListTy t)) (by_answer (list_with all v)) (items_onto list_with es env)
    (answer_sound hs (ListTy t) (list_with all v) (list_good t all v h p)) (all_sound hs t es env s.1))

-- the items of a tuple
pub each_sound : (hs : List Heading) (us : List TyTree) (es : Trees) (ts : List TyTree) (env : Env) → SoundEach hs es ts env
    → (all : Val) → IsOf (TupleTy (parts_of us)) all → Sound hs (IsOf (TupleTy (parts_of (us ++ ts)))) (items_onto tuple_with es env all)
each_sound hs us Nil [] env s all h =
    subst (λ (ts : List TyTree). Sound hs (IsOf (TupleTy (parts_of ts))) (give all)) (sym (append-nil us)) (give_sound hs (IsOf (TupleTy (parts_of us))) all h)
each_sound hs us Nil (t ∷ ts) env s all h = absurd s
each_sound hs us (Cons e es) [] env s all h = absurd s
each_sound hs us (Cons e es) (t ∷ ts) env s all h =
    let more : List TyTree = us ++ t ∷ [] in
    let whole : List TyTree = us ++ t ∷ ts in
    then_sound hs (IsOf t) (IsOf (TupleTy (parts_of whole))) (value_of e env)
    (λ v. then_do (by_answer (tuple_with all v)) (items_onto tuple_with es env)) s.0
    (λ v p. then_sound hs (IsOf (TupleTy (parts_of more))) (IsOf (TupleTy (parts_of whole))) (by_answer (tuple_with all v)) (items_onto tuple_with es env)
    (answer_sound hs (TupleTy (parts_of more)) (tuple_with all v) (tuple_good us t all v h p))
    (λ w q. subst (λ (xs : List TyTree). Sound hs (IsOf (TupleTy (parts_of xs))) (items_onto tuple_with es env w)) (append_assoc us (t ∷ []) ts)
    (each_sound hs more es ts env s.1 w q)))

one_more : (ts : List TyTree) (t : TyTree) (vs : List Val) (v : Val) → EachOf (parts_of ts) (items_of vs) → IsOf t v
    → EachOf (parts_of (ts ++ t ∷ [])) (items_of (vs ++ v ∷ []))
one_more [] t [] v p q = and_true (has_type t v) true q refl
one_more [] t (w ∷ vs) v p q = let f : ⊥ = cc in absurd f
one_more (u ∷ ts) t [] v p q = let f : ⊥ = cc in absurd f
one_more (u ∷ ts) t (w ∷ vs) v p q =
    let h = both (has_type u w) (have_types (parts_of ts) (items_of vs)) p in
    and_true (has_type u w) (have_types (parts_of (ts ++ t ∷ [])) (items_of (vs ++ v ∷ []))) h.0 (one_more ts t vs v h.1 q)

-- arguments in order, from the last one first, have these types
abbrev pub Turned : List TyTree → List Val → Type 0
Turned ts vs = EachOf (parts_of ts) (items_of (reverse vs))

turned_more : (ts : List TyTree) (t : TyTree) (vs : List Val) (v : Val) → Turned ts vs → IsOf t v → Turned (ts ++ t ∷ []) (v ∷ vs)
turned_more ts t vs v p q =
    subst (λ (xs : List Val). EachOf (parts_of (ts ++ t ∷ [])) (items_of xs)) (sym (reverse-append (v ∷ []) vs)) (one_more ts t (reverse vs) v p q)

-- arguments
pub values_sound : (hs : List Heading) (us : List TyTree) (es : Trees) (ts : List TyTree) (env : Env) → SoundEach hs es ts env
    → (vs : List Val) → Turned us vs → Sound hs (Turned (us ++ ts)) (values_of es env vs)
values_sound hs us Nil [] env s vs h =
    subst (λ (ts : List TyTree). Sound hs (Turned ts) (give vs)) (sym (append-nil us)) (give_sound hs (Turned us) vs h)
values_sound hs us Nil (t ∷ ts) env s vs h = absurd s
values_sound hs us (Cons e es) [] env s vs h = absurd s
values_sound hs us (Cons e es) (t ∷ ts) env s vs h =
    then_sound hs (IsOf t) (Turned (us ++ t ∷ ts)) (value_of e env) (λ v. values_of es env (v ∷ vs)) s.0
    (λ v p. subst (λ (xs : List TyTree). Sound hs (Turned xs) (values_of es env (v ∷ vs))) (append_assoc us (t ∷ []) ts)
    (values_sound hs (us ++ t ∷ []) es ts env s.1 (v ∷ vs) (turned_more us t vs v h p)))

-- the turns of a comprehension
pub turns_sound : (hs : List Heading) (t u : TyTree) (f : Val → Act Val) → ((v : Val) → IsOf t v → Sound hs (IsOf u) (f v)) → (vs : Vals) → AllOf t vs
    → (all : Val) → IsOf (ListTy u) all → Sound hs (IsOf (ListTy u)) (turns f vs all)
turns_sound hs t u f s NoVal h all p = give_sound hs (IsOf (ListTy u)) all p
turns_sound hs t u f s (ConsVal v vs) h all p =
    let b = both (has_type t v) (all_items (has_type t) vs) h in
    then_sound hs (IsOf u) (IsOf (ListTy u)) (f v) (λ w. then_do (by_answer (list_with all w)) (turns f vs)) (s v b.0)
    (λ w q. then_sound hs (IsOf (ListTy u)) (IsOf (ListTy u)) (by_answer (list_with all w)) (turns f vs)
    (answer_sound hs (ListTy u) (list_with all w) (list_good u all w p q)) (turns_sound hs t u f s vs b.1))

pub over_sound : (hs : List Heading) (t u : TyTree) (v : Val) (go : Vals → Act Val) → IsOf (ListTy t) v
    → ((vs : Vals) → AllOf t vs → Sound hs (IsOf u) (go vs)) → Sound hs (IsOf u) (over v go)
over_sound hs t u v go h f = of_list t (λ v. Sound hs (IsOf u) (over v go)) f v h
