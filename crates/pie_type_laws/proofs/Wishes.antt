-- What an argument is whose type fits a wish of a built-in function.
use Rattle.std.proofs.Common.{◌≡◌, ℕ, ◌+◌, Bool, true, false, cond, ◌&&◌, not, List, [], ◌∷◌, length, refl, ap, sym, ◌∙◌, arith}
use Rattle.std.specs.Prelude.{ℤ, Option, Some, None, slice_get, suc}
use Rattle.pie_value.specs.declared.builtin.Builtin.{Builtin}
use Rattle.pie_value.specs.Tree.{Tree as Val, Trees as Vals, TInt, TText, TPath, TList, TBytes, items_of}
use Rattle.pie_value.specs.Types.{TyTree, IntTy, TextTy, PathTy, ListTy, NullableTy, BytesTy, parts_of}
use Rattle.pie_value.specs.HasType.{has_type}
use Rattle.pie_value.specs.BuiltinForms.{Answered, of_one, of_two, of_three}
use Rattle.pie_signature.specs.declared.wanted.Wanted.{Wanted}
use Rattle.pie_signature.specs.declared.wanted.Wanted.TheVariants as wants
use Rattle.pie_signature.specs.Wanted.{fits, named, is_nullable}
use Rattle.pie_signature.specs.Signatures.{wanted_of, arity_of, misfit_at}
use Rattle.pie_types.specs.Calls.{OfBuiltin, first}
use Rattle.pie_types.specs.inner.Rules.{Fit, an_argument}
use Rattle.pie_type_laws.specs.Fitting.{IsOf}
use Rattle.pie_type_laws.proofs.Acts.{Good}
use Rattle.pie_type_laws.proofs.Inhabitants.{AllOf, EachOf, both, of_int, of_text, of_path, of_bytes, of_list}

-- types fit wishes, one each
abbrev pub Meet : List Wanted → List TyTree → Type 0
Meet [] [] = Unit {0}
Meet (w ∷ ws) (t ∷ ts) = (fits w t ≡ true) × Meet ws ts
Meet ws ts = ⊥

fits_by : (w : Wanted) (t : TyTree) (b : Bool) → cond b None (Some (named w t)) ≡ None → b ≡ true
fits_by w t true h = refl
fits_by w t false h = let f : ⊥ = cc in absurd f

fits_if : (w : Wanted) (t : TyTree) → misfit_at (Some w) t ≡ None → fits w t ≡ true
fits_if w t h = fits_by w t (fits w t) h

later : (b : Builtin) (n : ℕ) (w : Wanted) (ws : List Wanted) → ((i : ℕ) → slice_get (wanted_of b) (n + i) ≡ slice_get (w ∷ ws) i)
    → (i : ℕ) → slice_get (wanted_of b) (n + 1 + i) ≡ slice_get ws i
later b n w ws h i = let e : n + 1 + i ≡ n + suc i = omega arith in ap (λ (k : ℕ). slice_get (wanted_of b) k) e ∙ h (suc i)

meet_from : (b : Builtin) (ts : List TyTree) (n : ℕ) (ws : List Wanted) → ((i : ℕ) → slice_get (wanted_of b) (n + i) ≡ slice_get ws i)
    → Fit (OfBuiltin b) n ts → length ts ≡ length ws → Meet ws ts
meet_from b [] n [] h fit e = tt
meet_from b [] n (w ∷ ws) h fit e = let f : ⊥ = omega (arith, e) in absurd f
meet_from b (t ∷ ts) n [] h fit e = let f : ⊥ = omega (arith, e) in absurd f
meet_from b (t ∷ ts) n (w ∷ ws) h (an_argument m more) e =
    let z : n + 0 ≡ n = omega arith in (
      fits_if w t (sym (ap (λ (o : Option Wanted). misfit_at o t) (sym (ap (λ (k : ℕ). slice_get (wanted_of b) k) z) ∙ h 0)) ∙ m),
      meet_from b ts (n + 1) ws (later b n w ws h) more (omega (arith, e)),
    )

-- arguments of a built-in function that fit
pub meet : (b : Builtin) (ts : List TyTree) → Fit (OfBuiltin b) 0 ts → length ts ≡ arity_of b → Meet (wanted_of b) ts
meet b ts fit e = meet_from b ts 0 (wanted_of b) (λ i. let z : 0 + i ≡ i = omega arith in ap (λ (k : ℕ). slice_get (wanted_of b) k) z) fit e

-- a function of one argument
pub one_good : (w : Wanted) (R : TyTree → TyTree) (answer : Val → Answered) → ((t : TyTree) (v : Val) → fits w t ≡ true → IsOf t v → Good (R t) (answer v))
    → (ts : List TyTree) (vs : List Val) → Meet (w ∷ []) ts → EachOf (parts_of ts) (items_of vs) → Good (R (first ts)) (of_one answer vs)
one_good w R answer h [] vs m e = absurd m
one_good w R answer h (t ∷ u ∷ ts) vs m e = absurd m.1
one_good w R answer h (t ∷ []) [] m e = let f : ⊥ = cc in absurd f
one_good w R answer h (t ∷ []) (v ∷ []) m e = h t v m.0 (both (has_type t v) true e).0
one_good w R answer h (t ∷ []) (v ∷ x ∷ vs) m e =
    let b = both (has_type t v) false e in let f : ⊥ = (let q : false ≡ true = b.1 in cc) in absurd f

-- a function of two arguments
pub two_good : (w x : Wanted) (R : TyTree → TyTree) (answer : Val → Val → Answered)
    → ((t u : TyTree) (v y : Val) → fits w t ≡ true → fits x u ≡ true → IsOf t v → IsOf u y → Good (R t) (answer v y))
    → (ts : List TyTree) (vs : List Val) → Meet (w ∷ x ∷ []) ts → EachOf (parts_of ts) (items_of vs) → Good (R (first ts)) (of_two answer vs)
two_good w x R answer h [] vs m e = absurd m
two_good w x R answer h (t ∷ []) vs m e = absurd m.1
two_good w x R answer h (t ∷ u ∷ p ∷ ts) vs m e = absurd m.1.1
two_good w x R answer h (t ∷ u ∷ []) [] m e = let f : ⊥ = cc in absurd f
two_good w x R answer h (t ∷ u ∷ []) (v ∷ []) m e =
    let b = both (has_type t v) false e in let f : ⊥ = (let q : false ≡ true = b.1 in cc) in absurd f
two_good w x R answer h (t ∷ u ∷ []) (v ∷ y ∷ []) m e =
    let b = both (has_type t v) (has_type u y && true) e in h t u v y m.0 m.1.0 b.0 (both (has_type u y) true b.1).0
two_good w x R answer h (t ∷ u ∷ []) (v ∷ y ∷ z ∷ vs) m e =
    let b = both (has_type t v) (has_type u y && false) e in
    let c = both (has_type u y) false b.1 in let f : ⊥ = (let q : false ≡ true = c.1 in cc) in absurd f

-- a function of three arguments
pub three_good : (w x q : Wanted) (R : TyTree → TyTree) (answer : Val → Val → Val → Answered)
    → ((t u p : TyTree) (v y z : Val) → fits w t ≡ true → fits x u ≡ true → fits q p ≡ true → IsOf t v → IsOf u y → IsOf p z → Good (R t) (answer v y z))
    → (ts : List TyTree) (vs : List Val) → Meet (w ∷ x ∷ q ∷ []) ts → EachOf (parts_of ts) (items_of vs) → Good (R (first ts)) (of_three answer vs)
three_good w x q R answer h [] vs m e = absurd m
three_good w x q R answer h (t ∷ []) vs m e = absurd m.1
three_good w x q R answer h (t ∷ u ∷ []) vs m e = absurd m.1.1
three_good w x q R answer h (t ∷ u ∷ p ∷ s ∷ ts) vs m e = absurd m.1.1.1
three_good w x q R answer h (t ∷ u ∷ p ∷ []) [] m e = let f : ⊥ = cc in absurd f
three_good w x q R answer h (t ∷ u ∷ p ∷ []) (v ∷ []) m e =
    let b = both (has_type t v) false e in let f : ⊥ = (let q : false ≡ true = b.1 in cc) in absurd f
three_good w x q R answer h (t ∷ u ∷ p ∷ []) (v ∷ y ∷ []) m e =
    let b = both (has_type t v) (has_type u y && false) e in
    let c = both (has_type u y) false b.1 in let f : ⊥ = (let q : false ≡ true = c.1 in cc) in absurd f
three_good w x q R answer h (t ∷ u ∷ p ∷ []) (v ∷ y ∷ z ∷ []) m e =
    let b = both (has_type t v) (has_type u y && (has_type p z && true)) e in
    let c = both (has_type u y) (has_type p z && true) b.1 in
    h t u p v y z m.0 m.1.0 m.1.1.0 b.0 c.0 (both (has_type p z) true c.1).0
three_good w x q R answer h (t ∷ u ∷ p ∷ []) (v ∷ y ∷ z ∷ a ∷ vs) m e =
    let b = both (has_type t v) (has_type u y && (has_type p z && false)) e in
    let c = both (has_type u y) (has_type p z && false) b.1 in
    let d = both (has_type p z) false c.1 in let f : ⊥ = (let q : false ≡ true = d.1 in cc) in absurd f

pub want_text : (C : Val → Type 0) → ((s : List ℕ) → C (TText s)) → (t : TyTree) (v : Val) → fits wants.Text t ≡ true → IsOf t v → C v
want_text C f TextTy v a h = of_text C f v h
want_text C f t v a h = let f : ⊥ = cc in absurd f

pub want_int : (C : Val → Type 0) → ((n : ℤ) → C (TInt n)) → (t : TyTree) (v : Val) → fits wants.Int t ≡ true → IsOf t v → C v
want_int C f IntTy v a h = of_int C f v h
want_int C f t v a h = let f : ⊥ = cc in absurd f

pub want_path : (C : Val → Type 0) → ((s : List ℕ) → C (TPath s)) → (t : TyTree) (v : Val) → fits wants.Path t ≡ true → IsOf t v → C v
want_path C f PathTy v a h = of_path C f v h
want_path C f t v a h = let f : ⊥ = cc in absurd f

pub want_bytes : (C : Val → Type 0) → ((s : List ℕ) → C (TBytes s)) → (t : TyTree) (v : Val) → fits wants.Bytes t ≡ true → IsOf t v → C v
want_bytes C f BytesTy v a h = of_bytes C f v h
want_bytes C f t v a h = let f : ⊥ = cc in absurd f

pub want_list : (C : TyTree → Val → Type 0) → ((u : TyTree) (vs : Vals) → AllOf u vs → C (ListTy u) (TList vs))
    → (t : TyTree) (v : Val) → fits wants.List t ≡ true → IsOf t v → C t v
want_list C f (ListTy u) v a h = of_list u (C (ListTy u)) (f u) v h
want_list C f t v a h = let f : ⊥ = cc in absurd f

items_texts : (C : Val → Type 0) → ((vs : Vals) → AllOf TextTy vs → C (TList vs)) → (u : TyTree) (v : Val) → fits wants.Texts (ListTy u) ≡ true
    → IsOf (ListTy u) v → C v
items_texts C f TextTy v a h = of_list TextTy C f v h
items_texts C f u v a h = let f : ⊥ = cc in absurd f

pub want_texts : (C : Val → Type 0) → ((vs : Vals) → AllOf TextTy vs → C (TList vs)) → (t : TyTree) (v : Val) → fits wants.Texts t ≡ true → IsOf t v → C v
want_texts C f (ListTy u) v a h = items_texts C f u v a h
want_texts C f t v a h = let f : ⊥ = cc in absurd f

items_lists : (C : TyTree → Val → Type 0) → ((u : TyTree) (vs : Vals) → AllOf (ListTy u) vs → C (ListTy (ListTy u)) (TList vs))
    → (u : TyTree) (v : Val) → fits wants.Lists (ListTy u) ≡ true → IsOf (ListTy u) v → C (ListTy u) v
items_lists C f (ListTy u) v a h = of_list (ListTy u) (C (ListTy (ListTy u))) (f u) v h
items_lists C f u v a h = let f : ⊥ = cc in absurd f

pub want_lists : (C : TyTree → Val → Type 0) → ((u : TyTree) (vs : Vals) → AllOf (ListTy u) vs → C (ListTy (ListTy u)) (TList vs))
    → (t : TyTree) (v : Val) → fits wants.Lists t ≡ true → IsOf t v → C t v
want_lists C f (ListTy u) v a h = items_lists C f u v a h
want_lists C f t v a h = let f : ⊥ = cc in absurd f

pub want_nullable : (C : TyTree → Val → Type 0) → ((u : TyTree) (v : Val) → IsOf (NullableTy u) v → C (NullableTy u) v)
    → (t : TyTree) (v : Val) → fits wants.Nullable t ≡ true → IsOf t v → C t v
want_nullable C f (NullableTy u) v a h = f u v h
want_nullable C f t v a h = let f : ⊥ = cc in absurd f

no_not : (b : Bool) → not b ≡ true → b ≡ false
no_not false h = refl
no_not true h = let f : ⊥ = cc in absurd f

pub not_nullable : (t : TyTree) → fits wants.Present t ≡ true → is_nullable t ≡ false
not_nullable t h = no_not (is_nullable t) h
