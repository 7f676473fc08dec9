-- What a value of a type is.
use Rattle.std.proofs.Common.{◌≡◌, ℕ, Bool, true, false, ◌&&◌, List, refl, ap, ◌∙◌}
use Rattle.std.specs.Prelude.{ℤ}
use Rattle.pie_value.specs.Tree.{Tree as Val, Trees as Vals, TUnit, TBool, TInt, TText, TPath, TList, TTuple, TNull, TBytes}
use Rattle.pie_value.specs.Types.{TyTree, TyTrees, UnitTy, BoolTy, IntTy, TextTy, PathTy, ListTy, TupleTy, NullableTy, BytesTy}
use Rattle.pie_value.specs.HasType.{has_type, have_types, all_items}
use Rattle.pie_signature.specs.Wanted.{is_nullable}
use Rattle.pie_type_laws.specs.Fitting.{IsOf}

-- all items have a type
abbrev pub AllOf : TyTree → Vals → Type 0
AllOf t vs = all_items (has_type t) vs ≡ true

-- items have these types, one each
abbrev pub EachOf : TyTrees → Vals → Type 0
EachOf ts vs = have_types ts vs ≡ true

pub both : (a b : Bool) → (a && b) ≡ true → (a ≡ true) × (b ≡ true)
both true b h = (refl, h)
both false b h = let f : ⊥ = cc in absurd f

pub and_true : (a b : Bool) → a ≡ true → b ≡ true → (a && b) ≡ true
and_true a b p q = ap (λ (x : Bool). x && b) p ∙ q

pub of_bool : (C : Val → Type 0) → ((b : Bool) → C (TBool b)) → (v : Val) → IsOf BoolTy v → C v
of_bool C f (TBool b) h = f b
of_bool C f v h = let f : ⊥ = cc in absurd f

pub of_int : (C : Val → Type 0) → ((n : ℤ) → C (TInt n)) → (v : Val) → IsOf IntTy v → C v
of_int C f (TInt n) h = f n
of_int C f v h = let f : ⊥ = cc in absurd f

pub of_text : (C : Val → Type 0) → ((s : List ℕ) → C (TText s)) → (v : Val) → IsOf TextTy v → C v
of_text C f (TText s) h = f s
of_text C f v h = let f : ⊥ = cc in absurd f

pub of_path : (C : Val → Type 0) → ((s : List ℕ) → C (TPath s)) → (v : Val) → IsOf PathTy v → C v
of_path C f (TPath s) h = f s
of_path C f v h = let f : ⊥ = cc in absurd f

pub of_bytes : (C : Val → Type 0) → ((s : List ℕ) → C (TBytes s)) → (v : Val) → IsOf BytesTy v → C v
of_bytes C f (TBytes s) h = f s
of_bytes C f v h = let f : ⊥ = cc in absurd f

pub of_list : (t : TyTree) (C : Val → Type 0) → ((vs : Vals) → AllOf t vs → C (TList vs)) → (v : Val) → IsOf (ListTy t) v → C v
of_list t C f (TList vs) h = f vs h
of_list t C f v h = let f : ⊥ = cc in absurd f

pub of_tuple : (ts : TyTrees) (C : Val → Type 0) → ((vs : Vals) → EachOf ts vs → C (TTuple vs)) → (v : Val) → IsOf (TupleTy ts) v → C v
of_tuple ts C f (TTuple vs) h = f vs h
of_tuple ts C f v h = let f : ⊥ = cc in absurd f

pub of_nullable : (t : TyTree) (C : Val → Type 0) → C TNull → ((v : Val) → IsOf t v → C v) → (v : Val) → IsOf (NullableTy t) v → C v
of_nullable t C n f TNull h = n
of_nullable t C n f TUnit h = f TUnit h
of_nullable t C n f (TBool b) h = f (TBool b) h
of_nullable t C n f (TInt m) h = f (TInt m) h
of_nullable t C n f (TText s) h = f (TText s) h
of_nullable t C n f (TPath s) h = f (TPath s) h
of_nullable t C n f (TList vs) h = f (TList vs) h
of_nullable t C n f (TTuple vs) h = f (TTuple vs) h
of_nullable t C n f (TBytes s) h = f (TBytes s) h

-- a value of a type is one of the type that can be null
pub nullable : (t : TyTree) (v : Val) → IsOf t v → IsOf (NullableTy t) v
nullable t TNull h = refl
nullable t TUnit h = h
nullable t (TBool b) h = h
nullable t (TInt m) h = h
nullable t (TText s) h = h
nullable t (TPath s) h = h
nullable t (TList vs) h = h
nullable t (TTuple vs) h = h
nullable t (TBytes s) h = h

-- null has a type that can be null alone
pub null_has : (t : TyTree) → is_nullable t ≡ false → IsOf t TNull → ⊥
null_has (NullableTy t) p h = cc
null_has UnitTy p h = cc
null_has BoolTy p h = cc
null_has IntTy p h = cc
null_has TextTy p h = cc
null_has PathTy p h = cc
null_has (ListTy t) p h = cc
null_has (TupleTy ts) p h = cc
null_has BytesTy p h = cc
