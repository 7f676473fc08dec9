-- Calls of built-in functions and of functions of the pipeline, on arguments that fit.
use Rattle.std.proofs.Common.{◌≡◌, ℕ, ◌+◌, Bool, true, false, cond, List, [], ◌∷◌, length, refl, ap, sym, ◌∙◌, subst, arith, rules}
use Rattle.std.specs.Prelude.{Option, Some, None, option_map, slice_get, bytes_eq, codes, suc, ◌==◌}
use Rattle.std.proofs.lemmas.Slice.Eq.{bytes_eq-Decides}
use Rattle.pie_value.specs.declared.builtin.Builtin.{Builtin}
use Rattle.pie_value.specs.declared.builtin.Builtin.TheVariants as builtins
use Rattle.pie_value.specs.declared.event.By.TheVariants.{Hash, Mark, Raw}
use Rattle.pie_value.specs.declared.event.How.TheVariants.{Whole, Hashed, Ran}
use Rattle.pie_value.specs.Tree.{Tree as Val, items_of}
use Rattle.pie_value.specs.Types.{TyTree, TextTy, PathTy, NullableTy, BytesTy, parts_of}
use Rattle.pie_value.specs.HasType.{has_type, have_types}
use Rattle.pie_value.specs.Builtins.{answer_of}
use Rattle.pie_signature.specs.Names.{builtin_of}
use Rattle.pie_signature.specs.Signatures.{arity_of}
use Rattle.pie_operators.specs.declared.asking.Observation.TheVariants as observations
use Rattle.pie_operators.specs.Domain.{by_answer, fault}
use Rattle.pie_base.specs.declared.fault.FaultKind.TheVariants.{Unknown}
use Rattle.pie_parser.specs.declared.tree.CallKind.{CallKind}
use Rattle.pie_parser.specs.declared.tree.CallKind.TheVariants as calls
use Rattle.pie_parser.specs.declared.tree.EffectKind.{EffectKind}
use Rattle.pie_parser.specs.declared.tree.EffectKind.TheVariants as effects
use Rattle.pie_types.specs.Scope.{Entry}
use Rattle.pie_types.specs.Headings.{Heading, function_in}
use Rattle.pie_types.specs.Operators.{same_type, effect_takes, effect_gives}
use Rattle.pie_types.specs.Calls.{Callee, ReadBytes, OfBuiltin, OfFunction, callee_of, taken, other_than, other_than_param, answer}
use Rattle.pie_types.specs.inner.Rules.{Fit, an_argument}
use Rattle.pie_types.specs.Whole.{types_in}
use Rattle.pie_types.proofs.SameType.{same_true}
use Rattle.pie_semantics.specs.Words.{called, called_plainly, callee_by, ABuiltin, effect_of}
use Rattle.pie_type_laws.specs.Fitting.{IsOf}
use Rattle.pie_type_laws.specs.NeverStuck.{Takes}
use Rattle.pie_type_laws.proofs.Acts.{Sound, answer_sound}
use Rattle.pie_type_laws.proofs.Inhabitants.{EachOf, both}
use Rattle.pie_type_laws.proofs.Asking.{observe_sound, require_sound}
use Rattle.pie_type_laws.proofs.Wishes.{meet}
use Rattle.pie_type_laws.proofs.BuiltinTypes.{text_good, path_good}
use Rattle.pie_type_laws.proofs.BuiltinCalls.{builtin_good}

-- as many values as types
each_length : (ts : List TyTree) (vs : List Val) → EachOf (parts_of ts) (items_of vs) → length vs ≡ length ts
each_length [] [] h = refl
each_length [] (v ∷ vs) h = let f : ⊥ = cc in absurd f
each_length (t ∷ ts) [] h = let f : ⊥ = cc in absurd f
each_length (t ∷ ts) (v ∷ vs) h =
    let e = each_length ts vs (both (has_type t v) (have_types (parts_of ts) (items_of vs)) h).1 in omega (arith, e)

same_number : (m n : ℕ) → m ≡ n → (m == n) ≡ true
same_number m n h = search (rules, h)

other_by : (w t : TyTree) (b : Bool) → same_type w t ≡ b → cond b None (Some w) ≡ None → w ≡ t
other_by w t true e h = same_true w t e
other_by w t false e h = let f : ⊥ = cc in absurd f

no_other : (w t : TyTree) → other_than w t ≡ None → w ≡ t
no_other w t h = other_by w t (same_type w t) refl h

later : (h : Heading) (n : ℕ) (e : Entry) (es : List Entry) → ((i : ℕ) → slice_get h.params (n + i) ≡ slice_get (e ∷ es) i)
    → (i : ℕ) → slice_get h.params (n + 1 + i) ≡ slice_get es i
later h n e es s i = let p : n + 1 + i ≡ n + suc i = omega arith in ap (λ (k : ℕ). slice_get h.params k) p ∙ s (suc i)

types_from : (h : Heading) (ts : List TyTree) (n : ℕ) (es : List Entry) → ((i : ℕ) → slice_get h.params (n + i) ≡ slice_get es i)
    → Fit (OfFunction h) n ts → length ts ≡ length es → ts ≡ types_in es
types_from h [] n [] s fit e = refl
types_from h [] n (x ∷ es) s fit e = let f : ⊥ = omega (arith, e) in absurd f
types_from h (t ∷ ts) n [] s fit e = let f : ⊥ = omega (arith, e) in absurd f
types_from h (t ∷ ts) n (x ∷ es) s (an_argument m more) e =
    let z : n + 0 ≡ n = omega arith in
    let one : x.ty ≡ t = no_other x.ty t
    (sym (ap (λ (o : Option Entry). other_than_param o t) (sym (ap (λ (k : ℕ). slice_get h.params k) z) ∙ s 0)) ∙ m) in
    let rest : ts ≡ types_in es = types_from h ts (n + 1) es (later h n x es s) more (omega (arith, e)) in
    λ i. sym one i ∷ rest i

-- arguments that fit have the types of the parameters
param_types : (h : Heading) (ts : List TyTree) → Fit (OfFunction h) 0 ts → length ts ≡ length h.params → ts ≡ types_in h.params
param_types h ts fit e = types_from h ts 0 h.params (λ i. let z : 0 + i ≡ i = omega arith in ap (λ (k : ℕ). slice_get h.params k) z) fit e

-- a call of a built-in function
builtin_sound : (hs : List Heading) (b : Builtin) (ts : List TyTree) (vs : List Val) → length ts ≡ arity_of b → Fit (OfBuiltin b) 0 ts
    → EachOf (parts_of ts) (items_of vs) → Sound hs (IsOf (answer calls.Plain (OfBuiltin b) ts)) (called_plainly (ABuiltin b) vs)
builtin_sound hs b ts vs e fit h =
    let same = same_number (length vs) (arity_of b) (each_length ts vs h ∙ e) in
    subst (λ (x : Bool). Sound hs (IsOf (answer calls.Plain (OfBuiltin b) ts)) (cond x (by_answer (answer_of b vs)) (fault Unknown))) (sym same)
    (answer_sound hs (answer calls.Plain (OfBuiltin b) ts) (answer_of b vs) (builtin_good b ts vs (meet b ts fit e) h))

-- a call of `read_bytes`
bytes_sound : (hs : List Heading) (ts : List TyTree) (vs : List Val) → length ts ≡ 1 → Fit ReadBytes 0 ts → EachOf (parts_of ts) (items_of vs)
    → Sound hs (IsOf (NullableTy BytesTy)) (called calls.Plain (codes "read_bytes") vs)
bytes_sound hs [] vs e fit h = let f : ⊥ = omega (arith, e) in absurd f
bytes_sound hs (t ∷ u ∷ ts) vs e fit h = let f : ⊥ = omega (arith, e) in absurd f
bytes_sound hs (t ∷ []) [] e fit h = let f : ⊥ = cc in absurd f
bytes_sound hs (t ∷ []) (v ∷ w ∷ vs) e fit h =
    let b = both (has_type t v) false h in let f : ⊥ = (let q : false ≡ true = b.1 in cc) in absurd f
bytes_sound hs (t ∷ []) (v ∷ []) e (an_argument m more) h =
    let same : PathTy ≡ t = no_other PathTy t m in
    observe_sound hs (observations.Read Raw) v (ap (λ (x : TyTree). has_type x v) same ∙ (both (has_type t v) true h).0)

builtin_by : (hs : List Heading) (n : List ℕ) (c : Callee) (ts : List TyTree) (vs : List Val) (o : Option Builtin) → option_map OfBuiltin o ≡ Some c
    → length ts ≡ taken c → Fit c 0 ts → EachOf (parts_of ts) (items_of vs) → Sound hs (IsOf (answer calls.Plain c ts)) (called_plainly (callee_by o n) vs)
builtin_by hs n c ts vs None k e fit h = let f : ⊥ = cc in absurd f
builtin_by hs n c ts vs (Some b) k e fit h =
    let same : OfBuiltin b ≡ c = cc in
    subst (λ (c : Callee). length ts ≡ taken c → Fit c 0 ts → Sound hs (IsOf (answer calls.Plain c ts)) (called_plainly (ABuiltin b) vs)) same
    (λ e fit. builtin_sound hs b ts vs e fit h) e fit

plain_by : (hs : List Heading) (n : List ℕ) (c : Callee) (ts : List TyTree) (vs : List Val) (b : Bool) → bytes_eq n (codes "read_bytes") ≡ b
    → cond b (Some ReadBytes) (option_map OfBuiltin (builtin_of n)) ≡ Some c
    → length ts ≡ taken c → Fit c 0 ts → EachOf (parts_of ts) (items_of vs) → Sound hs (IsOf (answer calls.Plain c ts)) (called calls.Plain n vs)
plain_by hs n c ts vs true i k e fit h =
    let same : ReadBytes ≡ c = cc in
    let name : n ≡ codes "read_bytes" = (bytes_eq-Decides n (codes "read_bytes")).0 i in
    subst (λ (c : Callee). length ts ≡ taken c → Fit c 0 ts → Sound hs (IsOf (answer calls.Plain c ts)) (called calls.Plain n vs)) same
    (λ e fit. subst (λ (m : List ℕ). Sound hs (IsOf (NullableTy BytesTy)) (called calls.Plain m vs)) (sym name) (bytes_sound hs ts vs e fit h)) e fit
plain_by hs n c ts vs false i k e fit h = builtin_by hs n c ts vs (builtin_of n) k e fit h

takes_all : (h : Heading) (ts : List TyTree) (vs : List Val) → length ts ≡ length h.params → Fit (OfFunction h) 0 ts
    → EachOf (parts_of ts) (items_of vs) → Takes h vs
takes_all h ts vs e fit p = subst (λ (us : List TyTree). EachOf (parts_of us) (items_of vs)) (param_types h ts fit e) p

-- a call of a function of the pipeline, whatever is said of the one that is found
found_by : (hs : List Heading) (n : List ℕ) (c : Callee) (o : Option Heading) → function_in n hs ≡ o → option_map OfFunction o ≡ Some c
    → (C : Callee → Type 0) → ((h : Heading) → function_in n hs ≡ Some h → C (OfFunction h)) → C c
found_by hs n c None s k C f = let x : ⊥ = cc in absurd x
found_by hs n c (Some h) s k C f = let same : OfFunction h ≡ c = cc in subst C same (f h s)

-- a call
pub call_sound : (hs : List Heading) (k : CallKind) (n : List ℕ) (c : Callee) (ts : List TyTree) (vs : List Val) → callee_of hs k n ≡ Some c
    → length ts ≡ taken c → Fit c 0 ts → EachOf (parts_of ts) (items_of vs) → Sound hs (IsOf (answer k c ts)) (called k n vs)
call_sound hs calls.Plain n c ts vs k e fit h = plain_by hs n c ts vs (bytes_eq n (codes "read_bytes")) refl k e fit h
call_sound hs calls.Require n c ts vs k e fit h = found_by hs n c (function_in n hs) refl k
    (λ c. length ts ≡ taken c → Fit c 0 ts → Sound hs (IsOf (answer calls.Require c ts)) (called calls.Require n vs))
    (λ g s e fit. require_sound hs Whole n g vs s (takes_all g ts vs e fit h)) e fit
call_sound hs calls.RequireByHash n c ts vs k e fit h = found_by hs n c (function_in n hs) refl k
    (λ c. length ts ≡ taken c → Fit c 0 ts → Sound hs (IsOf (answer calls.RequireByHash c ts)) (called calls.RequireByHash n vs))
    (λ g s e fit. require_sound hs Hashed n g vs s (takes_all g ts vs e fit h)) e fit
call_sound hs calls.Run n c ts vs k e fit h = found_by hs n c (function_in n hs) refl k
    (λ c. length ts ≡ taken c → Fit c 0 ts → Sound hs (IsOf (answer calls.Run c ts)) (called calls.Run n vs))
    (λ g s e fit. require_sound hs Ran n g vs s (takes_all g ts vs e fit h)) e fit

-- a keyword before one expression
pub effect_sound : (hs : List Heading) (k : EffectKind) (v : Val) → IsOf (effect_takes k) v → Sound hs (IsOf (effect_gives k)) (effect_of k v)
effect_sound hs effects.Path v h = answer_sound hs PathTy (answer_of builtins.Path (v ∷ [])) (text_good (λ _. PathTy) _ (λ _ s. path_good s) TextTy v refl h)
effect_sound hs effects.Exists v h = observe_sound hs observations.Exists v h
effect_sound hs effects.Digest v h = observe_sound hs observations.Digest v h
effect_sound hs effects.List v h = observe_sound hs observations.List v h
effect_sound hs effects.Read v h = observe_sound hs (observations.Read Hash) v h
effect_sound hs effects.ReadByHash v h = observe_sound hs (observations.Read Hash) v h
effect_sound hs effects.ReadByMark v h = observe_sound hs (observations.Read Mark) v h
