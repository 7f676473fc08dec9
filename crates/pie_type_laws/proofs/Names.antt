-- Names in scope are bound to values of their types.
use Rattle.std.proofs.Common.{◌≡◌, ℕ, Bool, true, false, cond, List, [], ◌∷◌, ◌++◌, refl, ap, sym, ◌∙◌, subst, append_assoc}
use Rattle.std.specs.Prelude.{Option, Some, None, bytes_eq}
use Rattle.std.proofs.lemmas.List.{append-nil}
use Rattle.std.proofs.lemmas.Slice.Eq.{bytes_eq-Decides}
use Rattle.pie_value.specs.Tree.{Tree as Val, items_of}
use Rattle.pie_value.specs.Types.{TyTree, parts_of}
use Rattle.pie_value.specs.HasType.{has_type, have_types}
use Rattle.pie_parser.specs.declared.tree.Param.{Param}
use Rattle.pie_types.specs.Scope.{Entry, type_in, with_name}
use Rattle.pie_types.specs.Whole.{types_in}
use Rattle.pie_types.specs.inner.Rules.{IsFresh, fresh}
use Rattle.pie_types.specs.inner.WholeRules.{ParamsBring, no_param, a_param}
use Rattle.pie_semantics.specs.Words.{Env, look_up}
use Rattle.pie_semantics.specs.Meaning.{bound}
use Rattle.pie_type_laws.specs.Fitting.{IsOf}
use Rattle.pie_type_laws.proofs.Inhabitants.{EachOf, both}

-- each name in scope is bound to a value of its type
abbrev pub Scoped : List Entry → Env → Type 0
Scoped sc env = (n : List ℕ) (t : TyTree) → type_in n sc ≡ Some t → (v : Val) × (look_up n env ≡ Some v) × IsOf t v

-- an entry of a name with a type
abbrev entry : List ℕ → TyTree → Entry
entry n t = record { name = n; ty = t }

abbrev first_of : Option TyTree → Option TyTree → Option TyTree
first_of (Some t) o = Some t
first_of None o = o

choose_first : (b : Bool) (t : TyTree) (x y : Option TyTree) → cond b (Some t) (first_of x y) ≡ first_of (cond b (Some t) x) y
choose_first true t x y = refl
choose_first false t x y = refl

more_in : (m n : List ℕ) (t : TyTree) (sc : List Entry) → type_in m (sc ++ entry n t ∷ []) ≡ first_of (type_in m sc) (cond (bytes_eq m n) (Some t) None)
more_in m n t [] = refl
more_in m n t (e ∷ sc) =
    ap (λ (o : Option TyTree). cond (bytes_eq m e.name) (Some e.ty) o) (more_in m n t sc)
    ∙ choose_first (bytes_eq m e.name) e.ty (type_in m sc) (cond (bytes_eq m n) (Some t) None)

first_or_none : (o : Option TyTree) (u : TyTree) → first_of o None ≡ Some u → o ≡ Some u
first_or_none (Some t) u h = h
first_or_none None u h = h

grows_by : (n : List ℕ) (t : TyTree) (sc : List Entry) (env : Env) (v : Val) → type_in n sc ≡ None → Scoped sc env → IsOf t v
    → (m : List ℕ) (u : TyTree) (b : Bool) → bytes_eq m n ≡ b → first_of (type_in m sc) (cond b (Some t) None) ≡ Some u
    → (w : Val) × (cond b (Some v) (look_up m env) ≡ Some w) × IsOf u w
grows_by n t sc env v gone ok h m u true e p =
    let same : m ≡ n = (bytes_eq-Decides m n).0 e in
    let none : type_in m sc ≡ None = ap (λ (x : List ℕ). type_in x sc) same ∙ gone in
    let q : Some t ≡ Some u = sym (ap (λ (o : Option TyTree). first_of o (Some t)) none) ∙ p in
    let r : t ≡ u = cc in
    (v, refl, subst (λ (x : TyTree). IsOf x v) r h)
grows_by n t sc env v gone ok h m u false e p = ok m u (first_or_none (type_in m sc) u p)

-- a new name
pub grows : (n : List ℕ) (t : TyTree) (sc : List Entry) (env : Env) (v : Val) → IsFresh n sc → Scoped sc env → IsOf t v
    → Scoped (with_name sc n t) ((n, v) ∷ env)
grows n t sc env v (fresh gone room) ok h m u e = grows_by n t sc env v gone ok h m u (bytes_eq m n) refl (sym (more_in m n t sc) ∙ e)

pub nothing_scoped : Scoped [] []
nothing_scoped n t e = let f : ⊥ = cc in absurd f

types_more : (sc : List Entry) (e : Entry) → types_in (sc ++ e ∷ []) ≡ types_in sc ++ e.ty ∷ []
types_more [] e = refl
types_more (x ∷ sc) e = ap (λ (ts : List TyTree). x.ty ∷ ts) (types_more sc e)

-- parameters with arguments of their types
pub params_scoped : (es : List Entry) (ps : List Param) (fs : List Entry) → ParamsBring es ps fs
    → (us : List TyTree) × (types_in fs ≡ types_in es ++ us)
    × ((env : Env) → Scoped es env → (args : List Val) → EachOf (parts_of us) (items_of args) → Scoped fs (bound ps args env))
params_scoped _ _ _ (no_param {es = es}) = ([], sym (append-nil (types_in es)), λ env ok args h. ok)
params_scoped _ _ _ (a_param {es = es} {fs = fs} {p = p} {ps = ps} {t = t} f d more) =
    let r = params_scoped (with_name es p.name.text t) ps fs more in
    (t ∷ r.0, r.1 ∙ ap (λ (ts : List TyTree). ts ++ r.0) (types_more es (entry p.name.text t)) ∙ append_assoc (types_in es) (t ∷ []) r.0, go r.0 r.2)
  where
    go : (us : List TyTree)
        → ((env : Env) → Scoped (with_name es p.name.text t) env → (args : List Val) → EachOf (parts_of us) (items_of args) → Scoped fs (bound ps args env))
        → (env : Env) → Scoped es env → (args : List Val) → EachOf (parts_of (t ∷ us)) (items_of args) → Scoped fs (bound (p ∷ ps) args env)
    go us next env ok [] h = let f : ⊥ = cc in absurd f
    go us next env ok (v ∷ args) h =
        let b = both (has_type t v) (have_types (parts_of us) (items_of args)) h in
        next ((p.name.text, v) ∷ env) (grows p.name.text t es env v f ok b.0) args b.1
