-- The size of a value is the number of its canonical bytes, and what is small has canonical bytes.
use Rattle.std.proofs.Common.{◌≡◌, ℕ, ◌+◌, ◌^◌, ◌<◌, ◌≤◌, Bool, true, false, ◌&&◌, List, [], ◌++◌, length, refl, arith}
use Rattle.std.specs.Prelude.{nat_le}
use Rattle.std.proofs.lemmas.Bool.{leb-true}
use Rattle.std.proofs.lemmas.List.{length-append}
use Rattle.pie_value.specs.declared.task.Task.{Task}
use Rattle.pie_value.specs.Tree.{Tree, Trees, TUnit, TBool, TInt, TText, TPath, TList, TTuple, TNull, TBytes, Nil, Cons, items_of, count_of}
use Rattle.pie_value.specs.Size.{size_of, sizes_of, depth_of, deepest_of}
use Rattle.pie_value.specs.Canonical.{be32, counted, enc, encs, enc_items, enc_task, HasShortParts, HaveShortParts, IsEncodable}
use Rattle.pie_value.specs.Canonical.{IsEncodableTask}
use Rattle.pie_value.specs.Limits.{task_size, is_small, is_small_task}
use Rattle.pie_value.proofs.Elements.{count_of_items}

length_be32 : (n : ℕ) → length (be32 n) ≡ 4
unfolding be32
length_be32 n = refl

length_counted : (bs : List ℕ) → length (counted bs) ≡ 4 + length bs
length_counted bs = omega (arith, length-append (be32 (length bs)) bs, length_be32 (length bs))

mutual
  pub length_enc : (t : Tree) → length (enc t) ≡ size_of t
  length_enc TUnit = refl
  length_enc (TBool b) = refl
  length_enc (TInt n) = refl
  length_enc (TText bs) = omega (arith, length_counted bs)
  length_enc (TPath bs) = omega (arith, length_counted bs)
  length_enc (TList ts) = omega (arith, length_items ts)
  length_enc (TTuple ts) = omega (arith, length_items ts)
  length_enc TNull = refl
  length_enc (TBytes bs) = omega (arith, length_counted bs)

  length_items : (ts : Trees) → length (enc_items ts) ≡ 4 + sizes_of ts
  length_items Nil = omega (arith, length-append (be32 0) [], length_be32 0)
  length_items (Cons t ts) =
      omega (
        arith,
        length-append (be32 (count_of ts + 1)) (enc t ++ encs ts),
        length_be32 (count_of ts + 1),
        length-append (enc t) (encs ts),
        length_enc t,
        length_items ts,
        length-append (be32 (count_of ts)) (encs ts),
        length_be32 (count_of ts),
      )

pub length_task : (t : Task) → length (enc_task t) ≡ task_size t
length_task t =
    omega (arith, length-append (counted t.func) (enc_items (items_of t.args)), length_counted t.func, length_items (items_of t.args))

size_pos : (t : Tree) → 1 ≤ size_of t
size_pos TUnit = omega arith
size_pos (TBool b) = omega arith
size_pos (TInt n) = omega arith
size_pos (TText bs) = omega arith
size_pos (TPath bs) = omega arith
size_pos (TList ts) = omega arith
size_pos (TTuple ts) = omega arith
size_pos TNull = omega arith
size_pos (TBytes bs) = omega arith

count_le_sizes : (ts : Trees) → count_of ts ≤ sizes_of ts
count_le_sizes Nil = omega arith
count_le_sizes (Cons t ts) = omega (arith, size_pos t, count_le_sizes ts)

mutual
  pub short_by_size : (t : Tree) → size_of t < 2 ^ 32 → HasShortParts t
  short_by_size TUnit h = tt
  short_by_size (TBool b) h = tt
  short_by_size (TInt n) h = tt
  short_by_size (TText bs) h = omega arith
  short_by_size (TPath bs) h = omega arith
  short_by_size (TList ts) h = (omega (arith, count_le_sizes ts), shorts_by_size ts (omega arith))
  short_by_size (TTuple ts) h = (omega (arith, count_le_sizes ts), shorts_by_size ts (omega arith))
  short_by_size TNull h = tt
  short_by_size (TBytes bs) h = omega arith

  pub shorts_by_size : (ts : Trees) → sizes_of ts < 2 ^ 32 → HaveShortParts ts
  shorts_by_size Nil h = tt
  shorts_by_size (Cons t ts) h = (short_by_size t (omega arith), shorts_by_size ts (omega arith))

both : (a b : Bool) → (a && b) ≡ true → (a ≡ true) × (b ≡ true)
both true true e = (refl, refl)
both true false e = absurd (cc)
both false b e = absurd (cc)

pub encodable_if_small : (t : Tree) → is_small t ≡ true → IsEncodable t
encodable_if_small t e =
    let h = both (nat_le (size_of t) 1048576) (nat_le (depth_of t) 64) e in
    let s : size_of t ≤ 1048576 = leb-true (size_of t) 1048576 h.0 in
    record { shallow = leb-true (depth_of t) 64 h.1; short = short_by_size t (omega arith) }

pub encodable_task_if_small : (t : Task) → is_small_task t ≡ true → IsEncodableTask t
encodable_task_if_small t e =
    let h = both (nat_le (task_size t) 1048576) (nat_le (deepest_of (items_of t.args)) 64) e in
    let s : task_size t ≤ 1048576 = leb-true (task_size t) 1048576 h.0 in
    record {
      short_name = omega arith;
      few = omega (arith, count_of_items t.args, count_le_sizes (items_of t.args));
      shallow = leb-true (deepest_of (items_of t.args)) 64 h.1;
      short = shorts_by_size (items_of t.args) (omega arith);
    }
