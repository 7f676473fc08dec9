-- One turn of each loop over parameters and functions.
use Rattle.std.proofs.Common.{◌≡◌, ℕ, ◌+◌, ◌<◌, List, [], ◌∷◌, ◌++◌, length, get_or, drop, take, ap, sym, subst, ◌∙◌, arith}
use Rattle.std.proofs.lemmas.List.{take_more, take_all}
use Rattle.pie_code.specs.declared.code.Code.{Code}
use Rattle.pie_parser.specs.declared.tree.Param.{Param}
use Rattle.pie_parser.specs.FunctionTrees.{FunctionTree}
use Rattle.pie_types.proofs.Left.{list_left}
use Rattle.pie_codegen.specs.Compiled.{Scope}
use Rattle.pie_codegen.specs.Functions.{scope_onto, IsCodeOf}
use Rattle.pie_codegen.specs.Pipelines.{AreCodesOf}

pub params_turn : (slot : ℕ) (ps : List Param) (i : ℕ) (p : Param) (sc : Scope) → i < length ps → p ≡ get_or ps i p
    → scope_onto slot (drop i ps) sc ≡ scope_onto (slot + 1) (drop (i + 1) ps) ((p.name.text, slot) ∷ sc)
params_turn slot ps i p sc h e = ap (λ rest. scope_onto slot rest sc) (list_left ps i p h e)

with_one : (fs : List FunctionTree) (cs : List Code) (f : FunctionTree) (c : Code) → AreCodesOf fs cs → IsCodeOf f c
    → AreCodesOf (fs ++ f ∷ []) (cs ++ c ∷ [])
with_one [] [] f c h k = (k, tt)
with_one (g ∷ fs) (d ∷ cs) f c h k = (h.0, with_one fs cs f c h.1 k)
with_one [] (d ∷ cs) f c h k = absurd h
with_one (g ∷ fs) [] f c h k = absurd h

pub one_more : (fs : List FunctionTree) (cs : List Code) (i : ℕ) (f : FunctionTree) (c : Code) → i < length fs → f ≡ get_or fs i f
    → AreCodesOf (take i fs) cs → IsCodeOf f c → AreCodesOf (take (i + 1) fs) (cs ++ c ∷ [])
one_more fs cs i f c h e so k =
    subst (λ xs. AreCodesOf xs (cs ++ c ∷ [])) (sym (take_more fs i f h ∙ ap (λ (x : FunctionTree). take i fs ++ x ∷ []) (sym e)))
    (with_one (take i fs) cs f c so k)

pub all_of_them : (fs : List FunctionTree) (cs : List Code) → AreCodesOf (take (length fs) fs) cs → AreCodesOf fs cs
all_of_them fs cs h = subst (λ xs. AreCodesOf xs cs) (take_all (length fs) fs (omega arith)) h
