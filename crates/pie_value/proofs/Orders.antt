-- How the order of canonical bytes comes from the order of their parts.
use Rattle.std.proofs.Common.{◌≡◌, ◌≢◌, ℕ, ◌+◌, ◌^◌, ◌<◌, ◌/◌, ◌%◌, List, [], ◌∷◌, ◌++◌, length, get_or, drop, refl, subst, ap}
use Rattle.std.proofs.Common.{sym, ◌∙◌, append_assoc, append-nil, arith}
use Rattle.std.specs.declared.cmp.Ordering.{Ordering}
use Rattle.std.specs.declared.cmp.Ordering.TheVariants.{Less, Equal, Greater}
use Rattle.std.specs.Ordering.{nat_cmp, ordering_then, MatchOrdering}
use Rattle.std.specs.Cmp.{nat_cmp_is}
use Rattle.std.proofs.lemmas.Cmp.{ranked}
use Rattle.std.proofs.Math.Seq.{drop-length}
use Rattle.pie_value.specs.declared.value.Value.{Value}
use Rattle.pie_value.specs.Values.{tree_of, trees_of}
use Rattle.pie_value.proofs.Elements.{trees_left, count_of_items}
use Rattle.pie_value.specs.declared.task.Task.{Task}
use Rattle.pie_value.specs.Tree.{Tree, Trees, TUnit, TBool, TInt, TText, TPath, TList, TTuple, TNull, TBytes, items_of, count_of}
use Rattle.pie_value.specs.Canonical.{be32, counted, enc, encs, enc_items, enc_task, HaveShortParts, IsEncodableTask}
use Rattle.pie_value.specs.Order.{byte_order, Decides, tag_number, contents, OrdersContents, Orders, OrdersItems}

then_then : (a b c : Ordering) → ordering_then (ordering_then a b) c ≡ ordering_then a (ordering_then b c)
then_then Less b c = refl
then_then Equal b c = refl
then_then Greater b c = refl

then_equal : (o : Ordering) → ordering_then o Equal ≡ o
then_equal Less = refl
then_equal Equal = refl
then_equal Greater = refl

-- lists of one length decide
pub same_length : (p q : List ℕ) (o : Ordering) → length p ≡ length q → o ≡ byte_order p q → Decides p q o
same_length [] [] o e h = record { holds = λ r s. ap (λ (x : Ordering). ordering_then x (byte_order r s)) (sym h) }
same_length (x ∷ xs) (y ∷ ys) o e h =
    let d = same_length xs ys (byte_order xs ys) (omega arith) refl in
    record {
      holds = λ r s.
          ap (λ (z : Ordering). ordering_then (nat_cmp x y) z) (d.holds r s)
          ∙ sym (then_then (nat_cmp x y) (byte_order xs ys) (byte_order r s))
          ∙ ap (λ (z : Ordering). ordering_then z (byte_order r s)) (sym h);
    }
same_length [] (y ∷ ys) o e h = absurd (omega arith)
same_length (x ∷ xs) [] o e h = absurd (omega arith)

-- what decides is the order
pub decided : (p q : List ℕ) (o : Ordering) → Decides p q o → o ≡ byte_order p q
decided p q o d =
    sym (then_equal o) ∙ sym (d.holds [] []) ∙ ap (λ (x : List ℕ). byte_order x (q ++ [])) (append-nil p) ∙ ap (λ (x : List ℕ). byte_order p x) (append-nil q)

-- the first parts are equal, so the second ones decide
pub second_decides : (p q p2 q2 : List ℕ) (o : Ordering) → Decides p q Equal → Decides p2 q2 o → Decides (p ++ p2) (q ++ q2) o
second_decides p q p2 q2 o d e = record {
  holds = λ r s.
      ap (λ (x : List ℕ). byte_order x ((q ++ q2) ++ s)) (append_assoc p p2 r)
      ∙ ap (λ (x : List ℕ). byte_order (p ++ (p2 ++ r)) x) (append_assoc q q2 s)
      ∙ d.holds (p2 ++ r) (q2 ++ s) ∙ e.holds r s;
}

then_kept : (o a b : Ordering) → o ≢ Equal → ordering_then o a ≡ ordering_then o b
then_kept Less a b h = refl
then_kept Equal a b h = absurd (h refl)
then_kept Greater a b h = refl

-- the first parts differ, and decide
pub first_decides : (p q p2 q2 : List ℕ) (o : Ordering) → Decides p q o → o ≢ Equal → Decides (p ++ p2) (q ++ q2) o
first_decides p q p2 q2 o d h = record {
  holds = λ r s.
      ap (λ (x : List ℕ). byte_order x ((q ++ q2) ++ s)) (append_assoc p p2 r)
      ∙ ap (λ (x : List ℕ). byte_order (p ++ (p2 ++ r)) x) (append_assoc q q2 s)
      ∙ d.holds (p2 ++ r) (q2 ++ s) ∙ then_kept o _ _ h;
}

-- ---- lengths

less : (x y : ℕ) → x < y → Less ≡ nat_cmp x y
less x y h = nat_cmp_is x y Less h

greater : (x y : ℕ) → y < x → Greater ≡ nat_cmp x y
greater x y h = nat_cmp_is x y Greater h

equal : (x y : ℕ) → x ≡ y → Equal ≡ nat_cmp x y
equal x y h = nat_cmp_is x y Equal h

-- the first byte decides, or what follows does
digit : (x y : ℕ) (xs ys : List ℕ) (o c : Ordering) → c ≡ nat_cmp x y → (x < y → o ≡ Less) → (y < x → o ≡ Greater) → (x ≡ y → o ≡ byte_order xs ys)
    → MatchOrdering c (x < y) (x ≡ y) (y < x) → o ≡ byte_order (x ∷ xs) (y ∷ ys)
digit x y xs ys o Less e l g q m = l m ∙ ap (λ (z : Ordering). ordering_then z (byte_order xs ys)) e
digit x y xs ys o Equal e l g q m = q m ∙ ap (λ (z : Ordering). ordering_then z (byte_order xs ys)) e
digit x y xs ys o Greater e l g q m = g m ∙ ap (λ (z : Ordering). ordering_then z (byte_order xs ys)) e

by_digit : (x y : ℕ) (xs ys : List ℕ) (o : Ordering) → (x < y → o ≡ Less) → (y < x → o ≡ Greater) → (x ≡ y → o ≡ byte_order xs ys)
    → o ≡ byte_order (x ∷ xs) (y ∷ ys)
by_digit x y xs ys o l g q = digit x y xs ys o (nat_cmp x y) refl l g q (ranked x y (nat_cmp x y) refl)

abbrev low_1 : ℕ → List ℕ
low_1 m = m % 256 ∷ []

abbrev low_2 : ℕ → List ℕ
low_2 m = m / 256 % 256 ∷ low_1 m

abbrev low_3 : ℕ → List ℕ
low_3 m = m / 65536 % 256 ∷ low_2 m

length_cmp : (m n : ℕ) → m < 2 ^ 32 → n < 2 ^ 32 → nat_cmp m n ≡ byte_order (be32 m) (be32 n)
unfolding be32
length_cmp m n h k =
    by_digit (m / 16777216 % 256) (n / 16777216 % 256) (low_3 m) (low_3 n) (nat_cmp m n)
    (λ l. sym (less m n (omega arith))) (λ g. sym (greater m n (omega arith))) (λ e1.
    by_digit (m / 65536 % 256) (n / 65536 % 256) (low_2 m) (low_2 n) (nat_cmp m n)
    (λ l. sym (less m n (omega arith))) (λ g. sym (greater m n (omega arith))) (λ e2.
    by_digit (m / 256 % 256) (n / 256 % 256) (low_1 m) (low_1 n) (nat_cmp m n)
    (λ l. sym (less m n (omega arith))) (λ g. sym (greater m n (omega arith))) (λ e3.
    by_digit (m % 256) (n % 256) [] [] (nat_cmp m n)
    (λ l. sym (less m n (omega arith))) (λ g. sym (greater m n (omega arith))) (λ e4.
    sym (equal m n (omega arith))))))

length_be32 : (m n : ℕ) → length (be32 m) ≡ length (be32 n)
unfolding be32
length_be32 m n = refl

pub lengths_decide : (m n : ℕ) (o : Ordering) → o ≡ nat_cmp m n → m < 2 ^ 32 → n < 2 ^ 32 → Decides (be32 m) (be32 n) o
lengths_decide m n o e h k = same_length (be32 m) (be32 n) o (length_be32 m n) (e ∙ length_cmp m n h k)

equal_is : (m n : ℕ) (o : Ordering) → o ≡ nat_cmp m n → o ≡ Equal → m ≡ n
equal_is m n o e h = ranked m n Equal (sym h ∙ e)

-- bytes behind their length: the lengths are equal, so the bytes decide
pub counted_second : (p q : List ℕ) (c o : Ordering) → c ≡ nat_cmp (length p) (length q) → c ≡ Equal → (length p ≡ length q → Decides p q o)
    → length p < 2 ^ 32 → length q < 2 ^ 32 → Decides (counted p) (counted q) o
counted_second p q c o e h d lp lq =
    second_decides (be32 (length p)) (be32 (length q)) p q o (lengths_decide (length p) (length q) Equal (sym h ∙ e) lp lq)
    (d (equal_is (length p) (length q) c e h))

-- bytes behind their length: the lengths decide
pub counted_first : (p q : List ℕ) (c : Ordering) → c ≡ nat_cmp (length p) (length q) → c ≢ Equal
    → length p < 2 ^ 32 → length q < 2 ^ 32 → Decides (counted p) (counted q) c
counted_first p q c e h lp lq =
    first_decides (be32 (length p)) (be32 (length q)) p q c (lengths_decide (length p) (length q) c e lp lq) h

-- items behind their number
pub items_second : (ts us : Trees) (c o : Ordering) → c ≡ nat_cmp (count_of ts) (count_of us) → c ≡ Equal → OrdersItems ts us o
    → count_of ts < 2 ^ 32 → count_of us < 2 ^ 32 → HaveShortParts ts → HaveShortParts us → Decides (enc_items ts) (enc_items us) o
items_second ts us c o e h d lt lu st su =
    second_decides (be32 (count_of ts)) (be32 (count_of us)) (encs ts) (encs us) o
    (lengths_decide (count_of ts) (count_of us) Equal (sym h ∙ e) lt lu) (d st su)

pub items_first : (ts us : Trees) (c : Ordering) → c ≡ nat_cmp (count_of ts) (count_of us) → c ≢ Equal
    → count_of ts < 2 ^ 32 → count_of us < 2 ^ 32 → Decides (enc_items ts) (enc_items us) c
items_first ts us c e h lt lu =
    first_decides (be32 (count_of ts)) (be32 (count_of us)) (encs ts) (encs us) c (lengths_decide (count_of ts) (count_of us) c e lt lu) h

-- ---- values

enc_is : (t : Tree) → enc t ≡ tag_number t ∷ contents t
enc_is TUnit = refl
enc_is (TBool b) = refl
enc_is (TInt n) = refl
enc_is (TText bs) = refl
enc_is (TPath bs) = refl
enc_is (TList ts) = refl
enc_is (TTuple ts) = refl
enc_is TNull = refl
enc_is (TBytes bs) = refl

tags_decide : (t u : Tree) (c : Ordering) → c ≡ nat_cmp (tag_number t) (tag_number u) → Decides (tag_number t ∷ []) (tag_number u ∷ []) c
tags_decide t u c e = same_length (tag_number t ∷ []) (tag_number u ∷ []) c refl (e ∙ sym (then_equal (nat_cmp (tag_number t) (tag_number u))))

-- of one kind: what they hold decides
pub kind_second : (t u : Tree) (c o : Ordering) → c ≡ nat_cmp (tag_number t) (tag_number u) → c ≡ Equal
    → (tag_number t ≡ tag_number u → OrdersContents t u o) → Orders t u o
kind_second t u c o e h d st su =
    rw (enc_is t, enc_is u)
    (second_decides (tag_number t ∷ []) (tag_number u ∷ []) (contents t) (contents u) o (tags_decide t u Equal (sym h ∙ e))
    (d (equal_is (tag_number t) (tag_number u) c e h) st su))

-- of two kinds: the tags decide
pub kind_first : (t u : Tree) (c : Ordering) → c ≡ nat_cmp (tag_number t) (tag_number u) → c ≢ Equal → Orders t u c
kind_first t u c e h st su =
    rw (enc_is t, enc_is u)
    (first_decides (tag_number t ∷ []) (tag_number u ∷ []) (contents t) (contents u) c (tags_decide t u c e) h)

-- ---- values one after another

-- the order of what is left decides
abbrev pub OrdersLeft : ℕ → List Value → List Value → Ordering → Type 0
OrdersLeft i a b o = OrdersItems (items_of (trees_of (drop i a))) (items_of (trees_of (drop i b))) o

pub left_second : (a b : List Value) (i : ℕ) (x y : Value) (o : Ordering) → i < length a → i < length b → x ≡ get_or a i x → y ≡ get_or b i y
    → Orders (tree_of x) (tree_of y) Equal → OrdersLeft (i + 1) a b o → OrdersLeft i a b o
left_second a b i x y o la lb ex ey d r =
    rw (trees_left a i x la ex, trees_left b i y lb ey) (λ s t. second_decides _ _ _ _ o (d s.0 t.0) (r s.1 t.1))

pub left_first : (a b : List Value) (i : ℕ) (x y : Value) (o : Ordering) → i < length a → i < length b → x ≡ get_or a i x → y ≡ get_or b i y
    → Orders (tree_of x) (tree_of y) o → o ≢ Equal → OrdersLeft i a b o
left_first a b i x y o la lb ex ey d h =
    rw (trees_left a i x la ex, trees_left b i y lb ey) (λ s t. first_decides _ _ _ _ o (d s.0 t.0) h)

pub none_left : (a b : List Value) (i : ℕ) → i ≡ length a → length a ≡ length b → OrdersLeft i a b Equal
none_left a b i e h =
    let p : drop i a ≡ [] = ap (λ (k : ℕ). drop k a) e ∙ drop-length a in
    let q : drop i b ≡ [] = ap (λ (k : ℕ). drop k b) (e ∙ h) ∙ drop-length b in
    rw (p, q) (λ s t. record { holds = λ r u. refl })

-- ---- tasks

pub task_second : (t u : Task) (c o : Ordering) → c ≡ Equal
    → (length t.func < 2 ^ 32 → length u.func < 2 ^ 32 → Decides (counted t.func) (counted u.func) c)
    → (count_of (items_of t.args) < 2 ^ 32 → count_of (items_of u.args) < 2 ^ 32 → HaveShortParts (items_of t.args) → HaveShortParts (items_of u.args)
    → Decides (enc_items (items_of t.args)) (enc_items (items_of u.args)) o)
    → IsEncodableTask t → IsEncodableTask u → o ≡ byte_order (enc_task t) (enc_task u)
task_second t u c o e d i p q =
    let d2 : Decides (counted t.func) (counted u.func) Equal = subst (Decides (counted t.func) (counted u.func)) e (d p.short_name q.short_name) in
    let i2 = i (omega (arith, p.few, count_of_items t.args)) (omega (arith, q.few, count_of_items u.args)) p.short q.short in
    decided (enc_task t) (enc_task u) o (second_decides _ _ _ _ o d2 i2)

pub task_first : (t u : Task) (c : Ordering) → c ≢ Equal
    → (length t.func < 2 ^ 32 → length u.func < 2 ^ 32 → Decides (counted t.func) (counted u.func) c)
    → IsEncodableTask t → IsEncodableTask u → c ≡ byte_order (enc_task t) (enc_task u)
task_first t u c h d p q =
    decided (enc_task t) (enc_task u) c
    (first_decides (counted t.func) (counted u.func) (enc_items (items_of t.args)) (enc_items (items_of u.args)) c (d p.short_name q.short_name) h)
