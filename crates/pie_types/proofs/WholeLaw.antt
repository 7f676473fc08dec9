-- A pipeline is accepted exactly where the rules type it.
use Rattle.std.proofs.Common.{◌≡◌, ℕ, Bool, true, false, ◌||◌, List, [], ◌∷◌, ◌++◌, ap, sym, refl, subst}
use Rattle.std.specs.Prelude.{Result, Ok, Err, IfOk}
use Rattle.std.specs.Option.{is_some}
use Rattle.pie_parser.specs.FunctionTrees.{FunctionTree}
use Rattle.pie_parser.specs.declared.tree.Param.{Param}
use Rattle.pie_types.specs.declared.error.TypeError.{TypeError}
use Rattle.pie_types.specs.declared.error.TypeError.TheVariants as errors
use Rattle.pie_types.specs.Faults.{then_on, TypingAgrees}
use Rattle.pie_types.specs.Written.{written}
use Rattle.pie_types.specs.Scope.{Entry, may_enter, with_name}
use Rattle.pie_types.specs.Headings.{Heading, is_builtin, function_in, may_be_named, with_param, params_from, signature_of, heading_of, headings_from}
use Rattle.pie_types.specs.Forms.{block_fitting}
use Rattle.pie_types.specs.Checking.{block_type}
use Rattle.pie_types.specs.Whole.{body_type, bodies, checked}
use Rattle.pie_types.specs.inner.WholeRules.{ParamsBring, no_param, a_param, Declares, AreDeclared, no_function, a_function, typed_function}
use Rattle.pie_types.specs.inner.WholeRules.{AreTyped, nothing, one_more, IsTyped, typed}
use Rattle.pie_types.specs.inner.Law.{NotRefused}
use Rattle.pie_types.proofs.Steps.{then_inv}
use Rattle.pie_types.proofs.Inversions.{ok_inj, cond_other, none_of, may_enter_sound, block_fitting_inv}
use Rattle.pie_types.proofs.WrittenLaw.{written_sound, written_complete}
use Rattle.pie_types.proofs.Sound.{block_sound}
use Rattle.pie_types.proofs.Complete.{may_enter_is, block_fitting_self, block_complete}

neither : (a b : Bool) → (a || b) ≡ false → (a ≡ false) × (b ≡ false)
neither false b h = (refl, h)
neither true b h = let f : ⊥ = cc in absurd f

params_sound : (es : List Entry) (ps : List Param) (fs : List Entry) → params_from es ps ≡ Ok fs → ParamsBring es ps fs
params_sound es [] fs h = subst (ParamsBring es []) (ok_inj es fs h) no_param
params_sound es (p ∷ ps) fs h =
    let a = then_inv (with_param es p) (λ es. params_from es ps) fs h in
    let b = then_inv (may_enter p.name es) (λ _. then_on (written p.kind) (λ t. Ok (with_name es p.name.text t))) a.0 a.1 in
    let c = then_inv (written p.kind) (λ t. Ok (with_name es p.name.text t)) a.0 b.2 in
    a_param (may_enter_sound p.name es b.0 b.1) (written_sound p.kind c.0 c.1)
    (subst (λ (gs : List Entry). ParamsBring gs ps fs) (sym (ok_inj (with_name es p.name.text c.0) a.0 c.2)) (params_sound a.0 ps fs a.2))

signature_sound : (f : FunctionTree) (h : Heading) → signature_of f ≡ Ok h → Declares f h
signature_sound f h e =
    let a = then_inv (params_from [] f.params) (λ ps. then_on (written f.result) (λ t. Ok (record { name = f.name.text; params = ps; result = t }))) h e in
    let b = then_inv (written f.result) (λ t. Ok (record { name = f.name.text; params = a.0; result = t })) h a.2 in
    subst (Declares f) (ok_inj (record { name = f.name.text; params = a.0; result = b.0 }) h b.2)
    (record { name = refl; params = params_sound [] f.params a.0 a.1; result = written_sound f.result b.0 b.1 })

headings_sound : (done : List Heading) (fs : List FunctionTree) (hs : List Heading) → headings_from done fs ≡ Ok hs → AreDeclared done fs hs
headings_sound done [] hs h = subst (AreDeclared done []) (ok_inj done hs h) no_function
headings_sound done (f ∷ fs) hs h =
    let a = then_inv (heading_of done f) (λ g. headings_from (done ++ g ∷ []) fs) hs h in
    let b = then_inv (may_be_named f.name done) (λ _. signature_of f) a.0 a.1 in
    let c = cond_other (is_builtin f.name.text || is_some (function_in f.name.text done)) _ _ b.0 b.1 in
    let d = neither (is_builtin f.name.text) (is_some (function_in f.name.text done)) c.0 in
    a_function d.0 (none_of (function_in f.name.text done) d.1) (signature_sound f a.0 b.2) (headings_sound (done ++ a.0 ∷ []) fs hs a.2)

bodies_sound : (hs : List Heading) (fs : List FunctionTree) (gs : List Heading) → bodies hs fs ≡ Ok gs → AreTyped hs fs
bodies_sound hs [] gs h = nothing
bodies_sound hs (f ∷ fs) gs h =
    let a = then_inv (body_type hs f) (λ _. bodies hs fs) gs h in
    let b = then_inv (signature_of f) (λ g. block_fitting g.result f.body (block_type hs g.params f.body)) a.0 a.1 in
    let c = block_fitting_inv b.0.result f.body (block_type hs b.0.params f.body) a.0 b.2 in
    one_more (typed_function (signature_sound f b.0 b.1) (block_sound hs b.0.params f.body b.0.result c.0)) (bodies_sound hs fs gs a.2)

pub checked_sound : (fs gs : List FunctionTree) → checked fs ≡ Ok gs → IsTyped fs
checked_sound fs gs h =
    let a = then_inv (headings_from [] fs) (λ hs. then_on (bodies hs fs) (λ _. Ok fs)) gs h in
    let b = then_inv (bodies a.0 fs) (λ _. Ok fs) gs a.2 in
    typed (headings_sound [] fs a.0 a.1) (bodies_sound a.0 fs b.0 b.1)

params_complete : (es : List Entry) (ps : List Param) (fs : List Entry) → ParamsBring es ps fs → params_from es ps ≡ Ok fs
params_complete _ _ _ no_param = refl
params_complete _ _ _ (a_param {es = es} {fs = fs} {p = p} {ps = ps} {t = t} f d more) =
    rw (may_enter_is p.name es f, written_complete p.kind t d) (params_complete (with_name es p.name.text t) ps fs more)

signature_complete : (f : FunctionTree) (h : Heading) → Declares f h → signature_of f ≡ Ok h
signature_complete f h d =
    rw (params_complete [] f.params h.params d.params, written_complete f.result h.result d.result)
    (ap (λ (n : List ℕ). Ok (record { name = n; params = h.params; result = h.result })) (sym d.name))

headings_complete : (done : List Heading) (fs : List FunctionTree) (hs : List Heading) → AreDeclared done fs hs → headings_from done fs ≡ Ok hs
headings_complete _ _ _ no_function = refl
headings_complete _ _ _ (a_function {hs = hs} {gs = gs} {f = f} {fs = fs} {h = h} b n d more) =
    rw (b, n, signature_complete f h d) (headings_complete (hs ++ h ∷ []) fs gs more)

bodies_complete : (hs : List Heading) (fs : List FunctionTree) → AreTyped hs fs → bodies hs fs ≡ Ok hs
bodies_complete _ _ (nothing) = refl
bodies_complete _ _ (one_more {hs = hs} {f = f} {fs = fs} (typed_function {h = h} d k) more) =
    rw (signature_complete f h d, block_fitting_self h.result f.body (block_type hs h.params f.body) (block_complete hs h.params f.body h.result k))
    (bodies_complete hs fs more)

pub checked_complete : (fs : List FunctionTree) → IsTyped fs → checked fs ≡ Ok fs
checked_complete _ (typed {fs = fs} {hs = hs} d t) = rw (headings_complete [] fs hs d, bodies_complete hs fs t) refl

-- what is accepted is typed
pub answer_typed : (result : Result (List FunctionTree) TypeError) (fs : List FunctionTree) → TypingAgrees (λ (gs : List FunctionTree). gs) result (checked fs)
    → IfOk result (λ gs. IsTyped gs)
answer_typed (Ok gs) fs h =
    let a = then_inv (headings_from [] fs) (λ hs. then_on (bodies hs fs) (λ _. Ok fs)) gs h in
    let b = then_inv (bodies a.0 fs) (λ _. Ok fs) gs a.2 in
    subst IsTyped (ok_inj fs gs b.2) (checked_sound fs gs h)
answer_typed (Err e) fs h = tt

-- what is typed isn't refused
pub answer_all : (result : Result (List FunctionTree) TypeError) (fs : List FunctionTree) → TypingAgrees (λ (gs : List FunctionTree). gs) result (checked fs)
    → IsTyped fs → NotRefused result
answer_all (Ok gs) fs h k = tt
answer_all (Err (errors.Fault f)) fs h k = let p = checked_complete fs k in let q : ⊥ = cc in q
answer_all (Err errors.OutOfMemory) fs h k = tt
