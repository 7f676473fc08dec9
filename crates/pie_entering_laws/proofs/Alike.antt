-- Values and tasks with the same canonical bytes are of the same types, part by part.
use Rattle.std.proofs.Common.{◌≡◌, ℕ, ◌^◌, ◌<◌, Bool, true, false, ◌&&◌, List, [], ◌∷◌, ◌++◌, length, drop, refl, sym, ap, ◌∙◌}
use Rattle.std.proofs.Common.{append_assoc, append-nil, arith}
use Rattle.pie_value.specs.declared.task.Task.{Task}
use Rattle.pie_value.specs.Tree.{Tree, Trees, TUnit, TBool, TInt, TText, TPath, TList, TTuple, TNull, TBytes, Nil, Cons, items_of, count_of}
use Rattle.pie_value.specs.Types.{TyTree, TyTrees, UnitTy, BoolTy, IntTy, TextTy, PathTy, ListTy, TupleTy, NullableTy, BytesTy, NoTy, MoreTy}
use Rattle.pie_value.specs.HasType.{all_items, has_type, have_types}
use Rattle.pie_value.specs.Canonical.{be32, counted, enc, encs, enc_items, enc_task, HasShortParts, HaveShortParts, IsEncodableTask}
use Rattle.pie_value.specs.Reading.{number_of, counted_of}
use Rattle.pie_value.proofs.Elements.{count_of_items}
use Rattle.pie_value.proofs.Taking.{same_value, same_rest, number_again, counted_again}

abbrev mutual
  -- two values are of one kind, part by part
  pub Alike : Tree → Tree → Type 0
  Alike TUnit TUnit = Unit {0}
  Alike (TBool a) (TBool b) = Unit {0}
  Alike (TInt n) (TInt m) = Unit {0}
  Alike (TText s) (TText t) = Unit {0}
  Alike (TPath s) (TPath t) = Unit {0}
  Alike (TList ts) (TList us) = AllAlike ts us
  Alike (TTuple ts) (TTuple us) = AllAlike ts us
  Alike TNull TNull = Unit {0}
  Alike (TBytes s) (TBytes t) = Unit {0}
  Alike t u = true ≡ false

  -- as many items, one like the other
  pub AllAlike : Trees → Trees → Type 0
  AllAlike Nil Nil = Unit {0}
  AllAlike (Cons t ts) (Cons u us) = Alike t u × AllAlike ts us
  AllAlike ts us = true ≡ false

-- ---- types

both_true : (a b : Bool) → (a && b) ≡ true → (a ≡ true) × (b ≡ true)
both_true true true e = (refl, refl)
both_true true false e = absurd (cc)
both_true false b e = absurd (cc)

and_true : (a b : Bool) → a ≡ true → b ≡ true → (a && b) ≡ true
and_true true b e h = h
and_true false b e h = absurd (cc)

-- what passes a test goes to what is like it
abbrev Goes : (Tree → Bool) → Type 0
Goes test = (t u : Tree) → Alike t u → test t ≡ true → test u ≡ true

items_pass : (test : Tree → Bool) → Goes test → (ts us : Trees) → AllAlike ts us → all_items test ts ≡ true → all_items test us ≡ true
items_pass test goes Nil Nil k e = refl
items_pass test goes (Cons t ts) (Cons u us) k e =
    let h = both_true (test t) (all_items test ts) e in
    and_true (test u) (all_items test us) (goes t u k.0 h.0) (items_pass test goes ts us k.1 h.1)
items_pass test goes ts us k e = absurd (cc)

mutual
  -- what is like a value of a type has the type
  pub kind_stays : (a : TyTree) → Goes (has_type a)
  kind_stays UnitTy TUnit TUnit k e = refl
  kind_stays BoolTy (TBool b) (TBool c) k e = refl
  kind_stays IntTy (TInt n) (TInt m) k e = refl
  kind_stays TextTy (TText s) (TText t) k e = refl
  kind_stays PathTy (TPath s) (TPath t) k e = refl
  kind_stays BytesTy (TBytes s) (TBytes t) k e = refl
  kind_stays (ListTy a) (TList ts) (TList us) k e = items_pass (has_type a) (kind_stays a) ts us k e
  kind_stays (TupleTy as_types) (TTuple ts) (TTuple us) k e = kinds_stay as_types ts us k e
  kind_stays (NullableTy a) TNull TNull k e = refl
  kind_stays (NullableTy a) TUnit TUnit k e = kind_stays a TUnit TUnit k e
  kind_stays (NullableTy a) (TBool b) (TBool c) k e = kind_stays a (TBool b) (TBool c) k e
  kind_stays (NullableTy a) (TInt n) (TInt m) k e = kind_stays a (TInt n) (TInt m) k e
  kind_stays (NullableTy a) (TText s) (TText t) k e = kind_stays a (TText s) (TText t) k e
  kind_stays (NullableTy a) (TPath s) (TPath t) k e = kind_stays a (TPath s) (TPath t) k e
  kind_stays (NullableTy a) (TBytes s) (TBytes t) k e = kind_stays a (TBytes s) (TBytes t) k e
  kind_stays (NullableTy a) (TList ts) (TList us) k e = kind_stays a (TList ts) (TList us) k e
  kind_stays (NullableTy a) (TTuple ts) (TTuple us) k e = kind_stays a (TTuple ts) (TTuple us) k e
  kind_stays a t u k e = absurd (cc)

  -- so it is with as many types
  pub kinds_stay : (as_types : TyTrees) (ts us : Trees) → AllAlike ts us → have_types as_types ts ≡ true → have_types as_types us ≡ true
  kinds_stay NoTy Nil Nil k e = refl
  kinds_stay (MoreTy a rest) (Cons t ts) (Cons u us) k e =
      let h = both_true (has_type a t) (have_types rest ts) e in
      and_true (has_type a u) (have_types rest us) (kind_stays a t u k.0 h.0) (kinds_stay rest ts us k.1 h.1)
  kinds_stay as_types ts us k e = absurd (cc)

-- ---- canonical bytes

-- the first byte, and 0 without one
abbrev first_byte : List ℕ → ℕ
first_byte [] = 0
first_byte (b ∷ bs) = b

-- bytes behind their length, in front of others, are told from these
counted_same : (s t r q : List ℕ) → length s < 2 ^ 32 → length t < 2 ^ 32 → counted s ++ r ≡ counted t ++ q → (s ≡ t) × (r ≡ q)
counted_same s t r q h k e =
    let same = sym (counted_again s r h) ∙ ap counted_of e ∙ counted_again t q k in
    (same_value s t r q same, same_rest s t r q same)

-- a number in four bytes, in front of others
number_same : (n m : ℕ) (r q : List ℕ) → n < 2 ^ 32 → m < 2 ^ 32 → be32 n ++ r ≡ be32 m ++ q → (n ≡ m) × (r ≡ q)
number_same n m r q h k e =
    let same = sym (number_again n r h) ∙ ap number_of e ∙ number_again m q k in
    (same_value n m r q same, same_rest n m r q same)

-- items behind their number
front_same : (ts us : Trees) (r q : List ℕ) → count_of ts < 2 ^ 32 → count_of us < 2 ^ 32 → enc_items ts ++ r ≡ enc_items us ++ q
    → (count_of ts ≡ count_of us) × (encs ts ++ r ≡ encs us ++ q)
front_same ts us r q few fewer e =
    number_same (count_of ts) (count_of us) (encs ts ++ r) (encs us ++ q) few fewer
    (sym (append_assoc (be32 (count_of ts)) (encs ts) r) ∙ e ∙ append_assoc (be32 (count_of us)) (encs us) q)

mutual
  -- values with the same bytes in front of others are alike
  alike : (t u : Tree) (r q : List ℕ) → HasShortParts t → HasShortParts u → enc t ++ r ≡ enc u ++ q → Alike t u × (r ≡ q)
  alike TUnit TUnit r q h k e = (tt, ap (drop 1) e)
  alike (TBool a) (TBool b) r q h k e = (tt, ap (drop 2) e)
  alike (TInt n) (TInt m) r q h k e = (tt, ap (drop 9) e)
  alike (TText s) (TText t) r q h k e = (tt, (counted_same s t r q h k (ap (drop 1) e)).1)
  alike (TPath s) (TPath t) r q h k e = (tt, (counted_same s t r q h k (ap (drop 1) e)).1)
  alike (TBytes s) (TBytes t) r q h k e = (tt, (counted_same s t r q h k (ap (drop 1) e)).1)
  alike TNull TNull r q h k e = (tt, ap (drop 1) e)
  alike (TList ts) (TList us) r q h k e = let p = front_same ts us r q h.0 k.0 (ap (drop 1) e) in all_alike ts us r q h.1 k.1 p.0 p.1
  alike (TTuple ts) (TTuple us) r q h k e = let p = front_same ts us r q h.0 k.0 (ap (drop 1) e) in all_alike ts us r q h.1 k.1 p.0 p.1
  alike t u r q h k e = absurd (let f : first_byte (enc t ++ r) ≡ first_byte (enc u ++ q) = ap first_byte e in omega (arith, f))

  -- as many items
  all_alike : (ts us : Trees) (r q : List ℕ) → HaveShortParts ts → HaveShortParts us → count_of ts ≡ count_of us → encs ts ++ r ≡ encs us ++ q
      → AllAlike ts us × (r ≡ q)
  all_alike Nil Nil r q h k n e = (tt, e)
  all_alike Nil (Cons u us) r q h k n e = absurd (omega (arith, n))
  all_alike (Cons t ts) Nil r q h k n e = absurd (omega (arith, n))
  all_alike (Cons t ts) (Cons u us) r q h k n e =
      let one = alike t u (encs ts ++ r) (encs us ++ q) h.0 k.0 (sym (append_assoc (enc t) (encs ts) r) ∙ e ∙ append_assoc (enc u) (encs us) q) in
      let rest = all_alike ts us r q h.1 k.1 (omega (arith, n)) one.1 in
      ((one.0, rest.0), rest.1)

-- values with the same bytes are alike
pub values_alike : (t u : Tree) → HasShortParts t → HasShortParts u → enc t ≡ enc u → Alike t u
values_alike t u h k e = (alike t u [] [] h k (append-nil (enc t) ∙ e ∙ sym (append-nil (enc u)))).0

-- tasks with the same bytes are of one name, with arguments that are alike
pub tasks_alike : (t u : Task) → IsEncodableTask t → IsEncodableTask u → enc_task t ≡ enc_task u
    → (t.func ≡ u.func) × AllAlike (items_of t.args) (items_of u.args)
tasks_alike t u h k e =
    let name = counted_same t.func u.func (enc_items (items_of t.args)) (enc_items (items_of u.args)) h.short_name k.short_name e in
    let few : count_of (items_of t.args) < 2 ^ 32 = omega (arith, h.few, count_of_items t.args) in
    let fewer : count_of (items_of u.args) < 2 ^ 32 = omega (arith, k.few, count_of_items u.args) in
    let front = front_same (items_of t.args) (items_of u.args) [] [] few fewer
    (append-nil (enc_items (items_of t.args)) ∙ name.1 ∙ sym (append-nil (enc_items (items_of u.args)))) in
    (name.0, (all_alike (items_of t.args) (items_of u.args) [] [] h.short k.short front.0 front.1).0)
