-- No two functions of a typed pipeline have one name.
use Rattle.std.proofs.Common.{◌≡◌, ℕ, Bool, true, false, cond, List, [], ◌∷◌, ◌++◌, Contains, refl, subst, ◌∙◌}
use Rattle.std.specs.Prelude.{All, Some, None, bytes_eq}
use Rattle.std.specs.List.{AllByRecursion, IsDistinct}
use Rattle.std.proofs.lemmas.List.Elements.{All-nil, All-cons, All-contains, Contains-append_left, Contains-push}
use Rattle.std.proofs.lemmas.Cmp.{nat_list_eq_equiv}
use Rattle.pie_digest.specs.Digests.{function_names}
use Rattle.pie_parser.specs.FunctionTrees.{FunctionTree}
use Rattle.pie_types.specs.Headings.{Heading, function_in}
use Rattle.pie_types.specs.inner.WholeRules.{AreDeclared, no_function, a_function, IsTyped, typed}

-- no heading has a name that isn't found
other_names : (n : List ℕ) (hs : List Heading) → function_in n hs ≡ None → All (λ (h : Heading). bytes_eq n h.name ≡ false) hs
other_names n [] e = All-nil (λ (h : Heading). bytes_eq n h.name ≡ false)
other_names n (h ∷ hs) e = by (bytes_eq n h.name) refl (other_names n hs) e
  where
    by : (b : Bool) → bytes_eq n h.name ≡ b → (function_in n hs ≡ None → All (λ (g : Heading). bytes_eq n g.name ≡ false) hs)
        → cond b (Some h) (function_in n hs) ≡ None → All (λ (g : Heading). bytes_eq n g.name ≡ false) (h ∷ hs)
    by true same rest none = absurd (cc)
    by false other rest none = All-cons (λ (g : Heading). bytes_eq n g.name ≡ false) h hs other (rest none)

-- functions have other names than those that were declared before
apart : (hs gs : List Heading) (fs : List FunctionTree) → AreDeclared hs fs gs → (h : Heading) → Contains hs h
    → AllByRecursion (λ n. bytes_eq h.name n ≡ false) (function_names fs)
apart _ _ _ no_function h in_hs = tt
apart _ _ _ (a_function {hs = hs} {gs = gs} {f = f} {fs = fs} {h = g} b none d more) h in_hs = (
  nat_list_eq_equiv.symm h.name f.name.text ∙ All-contains (λ (k : Heading). bytes_eq f.name.text k.name ≡ false) hs h (other_names f.name.text hs none) in_hs,
  apart (hs ++ g ∷ []) gs fs more h (Contains-append_left hs (g ∷ []) h in_hs),
)

declared_once : (hs gs : List Heading) (fs : List FunctionTree) → AreDeclared hs fs gs → IsDistinct bytes_eq (function_names fs)
unfolding IsDistinct
declared_once _ _ _ no_function = tt
declared_once _ _ _ (a_function {hs = hs} {gs = gs} {f = f} {fs = fs} {h = h} b none d more) = (
  subst (λ (n : List ℕ). AllByRecursion (λ m. bytes_eq n m ≡ false) (function_names fs)) d.name (apart (hs ++ h ∷ []) gs fs more h (Contains-push hs h)),
  declared_once (hs ++ h ∷ []) gs fs more,
)

pub names_once : (fs : List FunctionTree) → IsTyped fs → IsDistinct bytes_eq (function_names fs)
names_once _ (typed {fs = fs} {hs = hs} declared are) = declared_once [] hs fs declared
