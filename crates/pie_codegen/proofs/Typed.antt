-- Typed trees are formed.
use Rattle.std.proofs.Common.{◌≡◌, ◌⊎◌, inl, inr, ℕ, zero, suc, ◌+◌, Bool, true, false, cond, ◌||◌, ◌==◌, List, [], ◌∷◌, ◌++◌, codes, Option, Some, None, refl}
use Rattle.std.proofs.Common.{sym, subst, ap, ◌∙◌, ℤ, pos, negsuc, rules}
use Rattle.std.specs.Prelude.{bytes_eq, option_map}
use lib.Pointwise.{pointwise}
use Rattle.pie_value.specs.Types.{TyTree, TyTrees}
use Rattle.pie_value.specs.declared.builtin.Builtin.{Builtin}
use Rattle.pie_signature.specs.Names.{builtin_of}
use Rattle.pie_parser.specs.declared.tree.Index.{Index}
use Rattle.pie_parser.specs.declared.tree.CallKind.{CallKind}
use Rattle.pie_parser.specs.declared.tree.CallKind.TheVariants as calls
use Rattle.pie_parser.specs.declared.tree.Param.{Param}
use Rattle.pie_parser.specs.FunctionTrees.{FunctionTree}
use Rattle.pie_parser.specs.Plain.{Tree, Trees, Steps, BlockTree, LineTrees, LastTree, NoLast, ALast, ElseTree}
use Rattle.pie_types.specs.Checking.{count}
use Rattle.pie_types.specs.Scope.{Entry, type_in, with_name}
use Rattle.pie_types.specs.Headings.{Heading}
use Rattle.pie_types.specs.Operators.{numbered}
use Rattle.pie_types.specs.Calls as types
use Rattle.pie_types.specs.inner.Rules.{Leads, HasType, StepsHave, AllHave, HaveTypes, BlockHas, LinesBring}
use Rattle.pie_types.specs.inner.Rules as rules_of
use Rattle.pie_types.specs.inner.WholeRules.{ParamsBring, Declares, IsTypedFunction}
use Rattle.pie_types.specs.inner.WholeRules as whole
use Rattle.pie_semantics.specs.Words.{Callee, ABuiltin, ReadBytes, NoCallee, callee_of, callee_arity, callee_by}
use Rattle.pie_codegen.specs.Formed.{is_bound, Counts, AllCount, IsThere, CallFits, Formed, StepsFormed, TreesFormed, BlockFormed, LinesFormed, LastFormed}
use Rattle.pie_codegen.specs.Formed.{ElseFormed}
use Rattle.pie_codegen.specs.Names.{names_onto, names_of}

-- each name with a type is among some
pub record Covers (ns : List (List ℕ)) (sc : List Entry) : Type 0 where
  pub bound : (n : List ℕ) (t : TyTree) → type_in n sc ≡ Some t → is_bound n ns ≡ true

bound_more : (n x : List ℕ) (ns : List (List ℕ)) → is_bound n ns ≡ true → is_bound n (x ∷ ns) ≡ true
bound_more n x ns h = by_test (pointwise ◌==◌ n x)
  where
    by_test : (b : Bool) → (b || is_bound n ns) ≡ true
    by_test true = refl
    by_test false = h

-- a name in scope is one that was there, or the one that came
was_there : (n x : List ℕ) (t u : TyTree) (sc : List Entry) → type_in n (with_name sc x u) ≡ Some t → (type_in n sc ≡ Some t) ⊎ (bytes_eq n x ≡ true)
was_there n x t u [] e = by_test (bytes_eq n x) e
  where
    by_test : (b : Bool) → cond b (Some u) None ≡ Some t → (◌≡◌ {A = Option TyTree} None (Some t)) ⊎ (b ≡ true)
    by_test true e = inr refl
    by_test false e = inl e
was_there n x t u (y ∷ sc) e = by_test (bytes_eq n y.name) e (was_there n x t u sc)
  where
    by_test : (b : Bool) → cond b (Some y.ty) (type_in n (with_name sc x u)) ≡ Some t
        → (type_in n (with_name sc x u) ≡ Some t → (type_in n sc ≡ Some t) ⊎ (bytes_eq n x ≡ true)) → (cond b (Some y.ty) (type_in n sc) ≡ Some t)
        ⊎ (bytes_eq n x ≡ true)
    by_test true e again = inl e
    by_test false e again = again e

-- one name more
grown : (ns : List (List ℕ)) (sc : List Entry) (x : List ℕ) (u : TyTree) → Covers ns sc → Covers (x ∷ ns) (with_name sc x u)
grown ns sc x u c = record { bound = λ n t e. by_case n t (was_there n x t u sc e) }
  where
    by_case : (n : List ℕ) (t : TyTree) → (type_in n sc ≡ Some t) ⊎ (bytes_eq n x ≡ true) → is_bound n (x ∷ ns) ≡ true
    by_case n t (inl h) = bound_more n x ns (c.bound n t h)
    by_case n t (inr h) = ap (λ b. b || is_bound n ns) h

counts : (ns : List Index) (t u : TyTree) → Leads t ns u → AllCount ns
counts [] t u rules_of.stays = tt
counts (n ∷ ns) t u (rules_of.goes {ts = ts} {t = v} e l) = (by_number n.number e, counts ns v u l)
  where
    by_number : (k : ℤ) → numbered k ts ≡ Some v → Counts k
    by_number (pos k) e = tt
    by_number (negsuc k) e = absurd cc

-- what a plain name calls
plain_fits : (n : List ℕ) (c : types.Callee) (k : ℕ) → types.plain_callee n ≡ Some c → k ≡ types.taken c → IsThere (callee_of n)
    × (k ≡ callee_arity (callee_of n))
plain_fits n c k e q = by_test (bytes_eq n (codes "read_bytes")) refl e
  where
    of_builtin : (o : Option Builtin) → builtin_of n ≡ o → option_map types.OfBuiltin o ≡ Some c → IsThere (callee_by o n) × (k ≡ callee_arity (callee_by o n))
    of_builtin (Some which) h e = let w : types.OfBuiltin which ≡ c = cc in (tt, q ∙ ap types.taken (sym w))
    of_builtin None h e = absurd cc

    reads : n ≡ codes "read_bytes" → types.ReadBytes ≡ c → IsThere (callee_of n) × (k ≡ callee_arity (callee_of n))
    reads h w = subst (λ x. IsThere (callee_of x) × (k ≡ callee_arity (callee_of x))) (sym h) (tt, q ∙ ap types.taken (sym w))

    by_test : (b : Bool) → bytes_eq n (codes "read_bytes") ≡ b → cond b (Some types.ReadBytes) (option_map types.OfBuiltin (builtin_of n)) ≡ Some c
        → IsThere (callee_of n) × (k ≡ callee_arity (callee_of n))
    by_test true h e = let w : types.ReadBytes ≡ c = cc in reads (search rules) w
    by_test false h e = of_builtin (builtin_of n) refl e

call_fits : (hs : List Heading) (k : CallKind) (n : List ℕ) (c : types.Callee) (i : ℕ) → types.callee_of hs k n ≡ Some c → i ≡ types.taken c → CallFits k n i
call_fits hs calls.Plain n c i e q = plain_fits n c i e q
call_fits hs calls.Require n c i e q = tt
call_fits hs calls.RequireByHash n c i e q = tt
call_fits hs calls.Run n c i e q = tt

mutual
  pub formed : (hs : List Heading) (sc : List Entry) (ns : List (List ℕ)) (e : Tree) (t : TyTree) → Covers ns sc → HasType hs sc e t → Formed ns e
  formed hs sc ns e t c rules_of.literal = tt
  formed hs sc ns e t c (rules_of.name {n = n} h) = c.bound n t h
  formed hs sc ns e t c (rules_of.null h) = tt
  formed hs sc ns e t c (rules_of.empty h) = tt
  formed hs sc ns e t c (rules_of.chain {a = a} {ss = ss} h o k) = (formed hs sc ns a t c h, steps_formed hs sc ns ss t c k)
  formed hs sc ns e t c (rules_of.compare {a = a} {b = b} {t = u} h l k) = (formed hs sc ns a u c h, formed hs sc ns b u c k)
  formed hs sc ns e t c (rules_of.prefix {a = a} h) = formed hs sc ns a _ c h
  formed hs sc ns e t c (rules_of.project {a = a} {ns = ks} {t = u} h l) = (formed hs sc ns a u c h, counts ks u t l)
  formed hs sc ns e t c (rules_of.tuple {es = es} {ts = ts} h) = trees_formed hs sc ns es ts c h
  formed hs sc ns e t c (rules_of.list {e = x} {es = es} {t = u} h k) = (formed hs sc ns x u c h, all_formed hs sc ns es u c k)
  formed hs sc ns e t c (rules_of.each {a = a} {b = b} {n = n} {t = v} {u = u} h f k) =
      (formed hs sc ns b _ c h, formed hs (with_name sc n.text v) (n.text ∷ ns) a u (grown ns sc n.text v c) k)
  formed hs sc ns e t c (rules_of.if_alone {a = a} {b = b} h k) = (formed hs sc ns a _ c h, block_formed hs sc ns b _ c k, tt)
  formed hs sc ns e t c (rules_of.if_else {a = a} {b = b} {o = o} h k l) =
      (formed hs sc ns a _ c h, block_formed hs sc ns b t c k, block_formed hs sc ns o t c l)
  formed hs sc ns e t c (rules_of.call {k = k} {n = n} {es = es} {c = x} {ts = ts} h q l f) =
      (trees_formed hs sc ns es ts c l, call_fits hs k n.text x (count es) h q)
  formed hs sc ns e t c (rules_of.effect {a = a} h) = formed hs sc ns a _ c h
  formed hs sc ns e t c (rules_of.write {a = a} {b = b} {t = u} h k l) = (formed hs sc ns a _ c h, formed hs sc ns b u c k)
  formed hs sc ns e t c (rules_of.fail {a = a} h k) = formed hs sc ns a _ c k

  steps_formed : (hs : List Heading) (sc : List Entry) (ns : List (List ℕ)) (ss : Steps) (t : TyTree) → Covers ns sc → StepsHave hs sc ss t → StepsFormed ns ss
  steps_formed hs sc ns ss t c rules_of.no_step = tt
  steps_formed hs sc ns ss t c (rules_of.a_step {e = e} {ss = more} h k) = (formed hs sc ns e t c h, steps_formed hs sc ns more t c k)

  all_formed : (hs : List Heading) (sc : List Entry) (ns : List (List ℕ)) (es : Trees) (t : TyTree) → Covers ns sc → AllHave hs sc es t → TreesFormed ns es
  all_formed hs sc ns es t c rules_of.no_item = tt
  all_formed hs sc ns es t c (rules_of.an_item {e = e} {es = more} h k) = (formed hs sc ns e t c h, all_formed hs sc ns more t c k)

  trees_formed : (hs : List Heading) (sc : List Entry) (ns : List (List ℕ)) (es : Trees) (ts : List TyTree) → Covers ns sc → HaveTypes hs sc es ts
      → TreesFormed ns es
  trees_formed hs sc ns es ts c rules_of.no_part = tt
  trees_formed hs sc ns es ts c (rules_of.a_part {e = e} {es = more} {t = t} {ts = us} h k) = (formed hs sc ns e t c h, trees_formed hs sc ns more us c k)

  pub block_formed : (hs : List Heading) (sc : List Entry) (ns : List (List ℕ)) (b : BlockTree) (t : TyTree) → Covers ns sc → BlockHas hs sc b t
      → BlockFormed ns b
  block_formed hs sc ns b t c (rules_of.no_last {inner = inner} {ls = ls} h) = lines_formed hs sc inner ns ls NoLast c h (λ ns' c'. tt)
  block_formed hs sc ns b t c (rules_of.a_last {inner = inner} {ls = ls} {e = e} h k) = lines_formed hs sc inner ns ls (ALast e) c h
      (λ ns' c'. formed hs inner ns' e t c' k)

  lines_formed : (hs : List Heading) (sc inner : List Entry) (ns : List (List ℕ)) (ls : LineTrees) (l : LastTree) → Covers ns sc → LinesBring hs sc ls inner
      → ((ns' : List (List ℕ)) → Covers ns' inner → LastFormed ns' l) → LinesFormed ns ls (λ x. LastFormed x l)
  lines_formed hs sc inner ns ls l c rules_of.no_line p = p ns c
  lines_formed hs sc inner ns ls l c (rules_of.a_val {n = n} {e = e} {ls = more} {t = t} h f k) p =
      (formed hs sc ns e t c h, lines_formed hs (with_name sc n.text t) inner (n.text ∷ ns) more l (grown ns sc n.text t c) k p)
  lines_formed hs sc inner ns ls l c (rules_of.an_expr {e = e} {ls = more} {t = t} h k) p = (formed hs sc ns e t c h, lines_formed hs sc inner ns more l c k p)

-- parameters are covered
params_cover : (es fs : List Entry) (ps : List Param) (ns : List (List ℕ)) → Covers ns es → ParamsBring es ps fs → Covers (names_onto ps ns) fs
params_cover es fs ps ns c whole.no_param = c
params_cover es fs ps ns c (whole.a_param {p = p} {ps = more} {t = t} f d k) =
    params_cover (with_name es p.name.text t) fs more (p.name.text ∷ ns) (grown ns es p.name.text t c) k

-- the body of a typed function is formed
pub function_formed : (hs : List Heading) (f : FunctionTree) → IsTypedFunction hs f → BlockFormed (names_of f.params) f.body
function_formed hs f (whole.typed_function {h = h} d b) =
    block_formed hs h.params (names_of f.params) f.body h.result (params_cover [] h.params f.params [] (record { bound = λ n t e. absurd cc }) d.params) b
