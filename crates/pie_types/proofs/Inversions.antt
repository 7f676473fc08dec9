-- What an answer says of the parts that it comes from.
use Rattle.std.proofs.Common.{◌≡◌, ℕ, Bool, true, false, cond, List, [], ◌∷◌, ap, sym, ◌∙◌, refl, subst, rules}
use Rattle.std.specs.Prelude.{◌<◌, nat_lt, length, Option, Some, None, Ok, Err, ◌==◌}
use Rattle.std.specs.Option.{is_some}
use Rattle.pie_value.specs.Types.{TyTree, TyTrees, UnitTy, BoolTy, IntTy, TextTy, PathTy, ListTy, TupleTy, NullableTy, BytesTy}
use Rattle.pie_parser.specs.Plain.{Tree, Steps, BlockTree}
use Rattle.pie_parser.specs.declared.tree.Index.{Index}
use Rattle.pie_parser.specs.declared.tree.Name.{Name}
use Rattle.pie_parser.specs.declared.tree.Comparison.{Comparison}
use Rattle.pie_types.specs.Faults.{TypingResult, Refused}
use Rattle.pie_types.specs.Scope.{Entry, type_in, may_enter, entered, with_name}
use Rattle.pie_types.specs.Spans.{at_of, end_of, answer_at, answer_end}
use Rattle.pie_types.specs.Operators.{same_type, where_fits, matched, passing, name_type, all_plus, is_addable, operands_type, first_operand, is_equality}
use Rattle.pie_types.specs.Operators.{is_ordered, left_operand, found_item, item_of, numbered, later_items, projected, items_type}
use Rattle.pie_types.specs.Forms.{fitting, block_fitting}
use Rattle.pie_types.specs.Calls.{Callee, known, taken, right_number, unless}
use Rattle.pie_types.specs.inner.Rules.{Leads, stays, goes, IsFresh, fresh, OperandsHave, in_sum, in_other, LeftHas, of_any, by_size}
use Rattle.pie_types.proofs.SameType.{same_true}
use Rattle.pie_types.proofs.Steps.{then_inv}

-- the answer that this is
abbrev pub answered : {A : Type 0} → A → TypingResult A
answered a = Ok a

pub ok_inj : {A : Type 0} (a b : A) → answered a ≡ Ok b → a ≡ b
ok_inj a b h = cc

-- an answer where a refusal is the other choice
pub cond_ok : {A : Type 0} (b : Bool) (o : TypingResult A) (e : Refused) (a : A) → cond b o (Err e) ≡ Ok a → (b ≡ true) × (o ≡ Ok a)
cond_ok true o e a h = (refl, h)
cond_ok false o e a h = let f : ⊥ = cc in absurd f

pub cond_other : {A : Type 0} (b : Bool) (o : TypingResult A) (e : Refused) (a : A) → cond b (Err e) o ≡ Ok a → (b ≡ false) × (o ≡ Ok a)
cond_other false o e a h = (refl, h)
cond_other true o e a h = let f : ⊥ = cc in absurd f

fits_inv : (b : Bool) (w : TyTree) (i j : ℕ) (t u : TyTree) → where_fits b w i j t ≡ Ok u → (b ≡ true) × (t ≡ u)
fits_inv true w i j t u h = (refl, ok_inj t u h)
fits_inv false w i j t u h = let f : ⊥ = cc in absurd f

pub matched_inv : (w : TyTree) (i j : ℕ) (t u : TyTree) → matched w i j t ≡ Ok u → (w ≡ t) × (t ≡ u)
matched_inv w i j t u h = let p = fits_inv (same_type w t) w i j t u h in (same_true w t p.0, p.1)

pub passing_inv : (test : TyTree → Bool) (w : TyTree) (i j : ℕ) (t u : TyTree) → passing test w i j t ≡ Ok u → (test t ≡ true) × (t ≡ u)
passing_inv test w i j t u h = fits_inv (test t) w i j t u h

pub fitting_inv : (w : TyTree) (e : Tree) (o : TypingResult TyTree) (u : TyTree) → fitting w e o ≡ Ok u → (o ≡ Ok w) × (w ≡ u)
fitting_inv w e o u h =
    let p = then_inv o (λ t. matched w (at_of e) (end_of e) t) u h in
    let q = matched_inv w (at_of e) (end_of e) p.0 u p.2 in
    (p.1 ∙ ap (λ (t : TyTree). Ok t) (sym q.0), q.0 ∙ q.1)

pub block_fitting_inv : (w : TyTree) (b : BlockTree) (o : TypingResult TyTree) (u : TyTree) → block_fitting w b o ≡ Ok u → (o ≡ Ok w) × (w ≡ u)
block_fitting_inv w b o u h =
    let p = then_inv o (λ t. matched w (answer_at b) (answer_end b) t) u h in
    let q = matched_inv w (answer_at b) (answer_end b) p.0 u p.2 in
    (p.1 ∙ ap (λ (t : TyTree). Ok t) (sym q.0), q.0 ∙ q.1)

pub name_inv : (i j : ℕ) (o : Option TyTree) (t : TyTree) → name_type i j o ≡ Ok t → o ≡ Some t
name_inv i j None t h = cc
name_inv i j (Some u) t h = cc

first_by : (b : Bool) (ss : Steps) (i j : ℕ) (t u : TyTree) → all_plus ss ≡ b
    → cond b (passing is_addable IntTy i j t) (matched (operands_type ss) i j t) ≡ Ok u → OperandsHave ss u × (t ≡ u)
first_by true ss i j t u e h =
    let p = passing_inv is_addable IntTy i j t u h in
    (in_sum e (ap is_addable (sym p.1) ∙ p.0), p.1)
first_by false ss i j t u e h =
    let p = matched_inv (operands_type ss) i j t u h in
    (subst (OperandsHave ss) (p.0 ∙ p.1) (in_other e), p.1)

pub first_inv : (ss : Steps) (i j : ℕ) (t u : TyTree) → first_operand ss i j t ≡ Ok u → OperandsHave ss u × (t ≡ u)
first_inv ss i j t u h = first_by (all_plus ss) ss i j t u refl h

left_by : (b : Bool) (c : Comparison) (i j : ℕ) (t u : TyTree) → is_equality c ≡ b → cond b (Ok t) (passing is_ordered IntTy i j t) ≡ Ok u
    → LeftHas c u × (t ≡ u)
left_by true c i j t u e h = (of_any e, ok_inj t u h)
left_by false c i j t u e h =
    let p = passing_inv is_ordered IntTy i j t u h in
    (by_size e (ap is_ordered (sym p.1) ∙ p.0), p.1)

pub left_inv : (c : Comparison) (i j : ℕ) (t u : TyTree) → left_operand c i j t ≡ Ok u → LeftHas c u × (t ≡ u)
left_inv c i j t u h = left_by (is_equality c) c i j t u refl h

found_inv : (n : Index) (o : Option TyTree) (u : TyTree) → found_item n o ≡ Ok u → o ≡ Some u
found_inv n None u h = cc
found_inv n (Some t) u h = cc

-- a type of which there are items is that of a tuple
pub item_inv : (i j : ℕ) (t : TyTree) (n : Index) (u : TyTree) → item_of i j t n ≡ Ok u → (ts : TyTrees) × (t ≡ TupleTy ts) × (numbered n.number ts ≡ Some u)
item_inv i j (TupleTy ts) n u h = (ts, refl, found_inv n (numbered n.number ts) u h)
item_inv i j UnitTy n u h = let f : ⊥ = cc in absurd f
item_inv i j BoolTy n u h = let f : ⊥ = cc in absurd f
item_inv i j IntTy n u h = let f : ⊥ = cc in absurd f
item_inv i j TextTy n u h = let f : ⊥ = cc in absurd f
item_inv i j PathTy n u h = let f : ⊥ = cc in absurd f
item_inv i j (ListTy t) n u h = let f : ⊥ = cc in absurd f
item_inv i j (NullableTy t) n u h = let f : ⊥ = cc in absurd f
item_inv i j BytesTy n u h = let f : ⊥ = cc in absurd f

pub later_sound : (t : TyTree) (ns : List Index) (u : TyTree) → later_items t ns ≡ Ok u → Leads t ns u
later_sound t [] u h = subst (Leads t []) (ok_inj t u h) stays
later_sound t (n ∷ ns) u h =
    let p = then_inv (item_of n.at n.end t n) (λ v. later_items v ns) u h in
    let q = item_inv n.at n.end t n p.0 p.1 in
    subst (λ (v : TyTree). Leads v (n ∷ ns) u) (sym q.1) (goes q.2 (later_sound p.0 ns u p.2))

pub projected_sound : (i j : ℕ) (t : TyTree) (ns : List Index) (u : TyTree) → projected i j t ns ≡ Ok u → Leads t ns u
projected_sound i j t [] u h = subst (Leads t []) (ok_inj t u h) stays
projected_sound i j t (n ∷ ns) u h =
    let p = then_inv (item_of i j t n) (λ v. later_items v ns) u h in
    let q = item_inv i j t n p.0 p.1 in
    subst (λ (v : TyTree). Leads v (n ∷ ns) u) (sym q.1) (goes q.2 (later_sound p.0 ns u p.2))

pub items_inv : (i j : ℕ) (t u : TyTree) → items_type i j t ≡ Ok u → t ≡ ListTy u
items_inv i j (ListTy t) u h = ap ListTy (ok_inj t u h)
items_inv i j UnitTy u h = cc
items_inv i j BoolTy u h = cc
items_inv i j IntTy u h = cc
items_inv i j TextTy u h = cc
items_inv i j PathTy u h = cc
items_inv i j (TupleTy ts) u h = cc
items_inv i j (NullableTy t) u h = cc
items_inv i j BytesTy u h = cc

pub none_of : {A : Type 0} (o : Option A) → is_some o ≡ false → o ≡ None
none_of None h = refl
none_of (Some a) h = cc

less : (m n : ℕ) → nat_lt m n ≡ true → m < n
less m n h = search (rules, h)

pub may_enter_sound : (n : Name) (sc es : List Entry) → may_enter n sc ≡ Ok es → IsFresh n.text sc
may_enter_sound n sc es h =
    let p = cond_other (is_some (type_in n.text sc)) _ _ es h in
    let q = cond_ok (nat_lt (length sc) 255) _ _ es p.1 in
    fresh (none_of (type_in n.text sc) p.0) (less (length sc) 255 q.0)

pub entered_sound : (n : Name) (t : TyTree) (sc inner : List Entry) → entered n t sc ≡ Ok inner → IsFresh n.text sc × (with_name sc n.text t ≡ inner)
entered_sound n t sc inner h =
    let p = then_inv (may_enter n sc) (λ _. Ok (with_name sc n.text t)) inner h in
    (may_enter_sound n sc p.0 p.1, ok_inj (with_name sc n.text t) inner p.2)

pub known_inv : (n : Name) (o : Option Callee) (c : Callee) → known n o ≡ Ok c → o ≡ Some c
known_inv n None c h = cc
known_inv n (Some d) c h = cc

equal : (m n : ℕ) → (m == n) ≡ true → m ≡ n
equal m n h = search (rules, h)

pub right_number_inv : (i j : ℕ) (c d : Callee) (n : ℕ) → right_number i j c n ≡ Ok d → n ≡ taken c
right_number_inv i j c d n h = let p = cond_ok (n == taken c) _ _ d h in equal n (taken c) p.0

pub unless_inv : (o : Option TyTree) (i j : ℕ) (t u : TyTree) → unless o i j t ≡ Ok u → o ≡ None
unless_inv None i j t u h = refl
unless_inv (Some w) i j t u h = cc
