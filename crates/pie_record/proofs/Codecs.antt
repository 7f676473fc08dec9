-- The parts of a record: what is read is what was written, and what was written is read again.
use Rattle.std.proofs.Common.{◌≡◌, ℕ, ◌+◌, ◌-◌, ◌^◌, ◌<◌, true, not, ◌&&◌, cond, List, [], ◌∷◌, ◌++◌, length, drop, Ok, Err}
use Rattle.std.proofs.Common.{refl, sym, ap, subst, ◌∙◌, arith}
use Rattle.std.specs.Prelude.{IsTrue, nat_lt, ◌==◌}
use Rattle.std.specs.Int.{w64, from_be_bytes, to_be_bytes}
use Rattle.std.specs.Str.{is_utf8, IsUtf8}
use Rattle.std.specs.List.{list_all}
use Rattle.std.proofs.lemmas.Str.{IsUtf8-from_is_utf8, is_utf8-from_IsUtf8}
use Rattle.std.proofs.lemmas.List.{get_or-drop, take-append-drop}
use Rattle.std.proofs.lemmas.Nat.{be_bytes_8, from_be_bytes-to_be_bytes_8}
use Rattle.pie_base.specs.Path.{is_path, is_out, is_segment, segments}
use Rattle.pie_value.specs.declared.task.Task.{Task}
use Rattle.pie_value.specs.declared.value.Value.{Value}
use Rattle.pie_value.specs.Tree.{Tree}
use Rattle.pie_value.specs.Values.{tree_of}
use Rattle.pie_value.specs.Canonical.{be32, counted, enc, enc_task, IsEncodable, IsEncodableTask, HasTrueLeaves}
use Rattle.pie_value.specs.Reading.{byte_of, bytes_of, number_of, counted_of, is_path_text, value_within, value_prefix, task_prefix}
use Rattle.pie_value.proofs.Taking.{IsBytes, Takes, byte_takes, bytes_takes, bytes_again, number_takes, number_again, counted_takes, counted_again}
use Rattle.pie_value.proofs.ReadBack.{value_read}
use Rattle.pie_value.proofs.WriteBack.{value_again}
use Rattle.pie_value.proofs.Decoded.{task_counted, task_again, task_is_canonical}
use Rattle.pie_record.specs.declared.record_fault.RecordFault.TheVariants.{BadPath, BadValue}
use Rattle.pie_record.specs.inner.Parts.{value_of}
use Rattle.pie_record.specs.Canonical.{be64, IsTruePath, IsTrueTask}
use Rattle.pie_record.specs.Reading.{Parsed, then_on, told, byte_at, bytes_at, number_at, mark_at, counted_at, text_at, path_at, out_path_at, task_at, value_at}
use Rattle.pie_record.proofs.Values.{value_back, tree_back}
use Rattle.pie_record.proofs.Steps.{pair, same_value, same_rest, then_ok, told_ok, told_on, guard_ok, guard_on, both_true, both_on, Codec, last_ok}

pub byte_codec : Codec byte_at (λ b. b ∷ []) (λ b. Unit {0})
byte_codec = record {
  taken = λ bs b rest fits e. (byte_takes bs b rest fits (told_ok (byte_of bs) b rest e), tt);
  again = λ b rest fits. refl;
}

pub number_codec : Codec number_at be32 (λ n. n < 2 ^ 32)
number_codec = record {
  taken = λ bs n rest fits e. number_takes bs n rest fits (told_ok (number_of bs) n rest e);
  again = λ n rest lt. told_on (number_of (be32 n ++ rest)) n rest (number_again n rest lt);
}

pub bytes_codec : (n : ℕ) → Codec (bytes_at n) (λ x. x) (λ x. length x ≡ n)
bytes_codec n = record {
  taken = λ bs x rest fits e. let p = bytes_takes n bs x rest fits (told_ok (bytes_of n bs) x rest e) in (p.0, p.1);
  again = λ x rest len. subst (λ (k : ℕ). bytes_at k (x ++ rest) ≡ Ok (x, rest)) len (told_on (bytes_of (length x) (x ++ rest)) x rest (bytes_again x rest));
}

mark_taken : (bs : List ℕ) (n : ℕ) (rest : List ℕ) → IsBytes bs → mark_at bs ≡ Ok (n, rest) → Takes bs (be64 n) rest × (n < 2 ^ 64)
unfolding mark_at be64
mark_taken bs n rest fits e =
    let h = then_ok (bytes_at 8 bs) (λ ds after. pair (from_be_bytes w64 ds) after) n rest e in
    let p = bytes_takes 8 bs h.0 h.1 fits (told_ok (bytes_of 8 bs) h.0 h.1 h.2) in
    let v : from_be_bytes w64 h.0 ≡ n = same_value _ _ h.1 rest h.3 in
    let r : h.1 ≡ rest = same_rest (from_be_bytes w64 h.0) n _ _ h.3 in
    let b : to_be_bytes w64 n ≡ h.0 = be_bytes_8 h.0 n p.1 p.2 (sym v) in
    let below : from_be_bytes w64 h.0 < 2 ^ 64 = omega (arith, p.2 0, p.2 1, p.2 2, p.2 3, p.2 4, p.2 5, p.2 6, p.2 7) in (
      record {
        parts = p.0.parts ∙ ap (λ (x : List ℕ). x ++ h.1) (sym b) ∙ ap (λ (x : List ℕ). to_be_bytes w64 n ++ x) r;
        rest_fits = subst IsBytes r p.0.rest_fits;
      },
      subst (λ (x : ℕ). x < 2 ^ 64) v below,
    )

mark_again : (n : ℕ) (rest : List ℕ) → n < 2 ^ 64 → mark_at (be64 n ++ rest) ≡ Ok (n, rest)
unfolding mark_at be64
mark_again n rest lt =
    ap (λ (p : Parsed (List ℕ)). then_on p (λ ds after. pair (from_be_bytes w64 ds) after)) ((bytes_codec 8).again (to_be_bytes w64 n) rest refl)
    ∙ ap (λ (x : ℕ). pair x rest) (from_be_bytes-to_be_bytes_8 n lt)

pub mark_codec : Codec mark_at be64 (λ n. n < 2 ^ 64)
mark_codec = record { taken = mark_taken; again = mark_again }

-- ---- paths

-- a path is short
pub path_short : (p : List ℕ) → is_path p ≡ true → length p < 2 ^ 32
path_short p e =
    let h = both_true (not (length p == 0) && not (nat_lt 255 (length p))) (list_all is_segment (segments p)) e in
    let k = both_true (not (length p == 0)) (not (nat_lt 255 (length p))) h.0 in
    grind (arith, k.1)

path_taken : (bs p rest : List ℕ) → IsBytes bs → path_at bs ≡ Ok (p, rest) → Takes bs (counted p) rest × IsTruePath p
path_taken bs p rest fits e =
    let h = then_ok (counted_at bs) (λ x after. cond (is_path_text x) (Ok (x, after)) (Err BadPath)) p rest e in
    let g = guard_ok (is_path_text h.0) h.0 h.1 BadPath p rest h.3 in
    let q = counted_takes bs h.0 h.1 fits (told_ok (counted_of bs) h.0 h.1 h.2) in
    let both = both_true (is_utf8 h.0) (is_path h.0) g.0 in (
      subst (λ (x : List ℕ). Takes bs (counted x) rest) g.1 (subst (Takes bs (counted h.0)) g.2 q.0),
      subst IsTruePath g.1 (IsUtf8-from_is_utf8 h.0 both.0, both.1),
    )

path_again : (p rest : List ℕ) → IsTruePath p → path_at (counted p ++ rest) ≡ Ok (p, rest)
path_again p rest h =
    ap (λ (q : Parsed (List ℕ)). then_on q (λ x after. cond (is_path_text x) (pair x after) (Err BadPath)))
    (told_on (counted_of (counted p ++ rest)) p rest (counted_again p rest (path_short p h.1)))
    ∙ guard_on (is_path_text p) p rest BadPath (both_on (is_utf8 p) (is_path p) (is_utf8-from_IsUtf8 p h.0) h.1)

pub path_codec : Codec path_at counted IsTruePath
path_codec = record { taken = path_taken; again = path_again }

abbrev pub IsOutPath : List ℕ → Type 0
IsOutPath p = IsTruePath p × IsTrue (is_out p)

out_path_taken : (bs p rest : List ℕ) → IsBytes bs → out_path_at bs ≡ Ok (p, rest) → Takes bs (counted p) rest × IsOutPath p
out_path_taken bs p rest fits e =
    let h = then_ok (path_at bs) (λ x after. cond (is_out x) (Ok (x, after)) (Err BadPath)) p rest e in
    let g = guard_ok (is_out h.0) h.0 h.1 BadPath p rest h.3 in
    let q = path_taken bs h.0 h.1 fits h.2 in (
      subst (λ (x : List ℕ). Takes bs (counted x) rest) g.1 (subst (Takes bs (counted h.0)) g.2 q.0),
      subst IsOutPath g.1 (q.1, g.0),
    )

out_path_again : (p rest : List ℕ) → IsOutPath p → out_path_at (counted p ++ rest) ≡ Ok (p, rest)
out_path_again p rest h =
    ap (λ (q : Parsed (List ℕ)). then_on q (λ x after. cond (is_out x) (pair x after) (Err BadPath))) (path_again p rest h.0)
    ∙ guard_on (is_out p) p rest BadPath h.1

pub out_path_codec : Codec out_path_at counted IsOutPath
out_path_codec = record { taken = out_path_taken; again = out_path_again }

abbrev pub FitsText : List ℕ → Type 0
FitsText t = (length t < 2 ^ 32) × IsUtf8 t

text_taken : (bs t rest : List ℕ) → IsBytes bs → text_at bs ≡ Ok (t, rest) → Takes bs (counted t) rest × FitsText t
text_taken bs t rest fits e =
    let h = then_ok (counted_at bs) (λ x after. cond (is_utf8 x) (Ok (x, after)) (Err BadValue)) t rest e in
    let g = guard_ok (is_utf8 h.0) h.0 h.1 BadValue t rest h.3 in
    let q = counted_takes bs h.0 h.1 fits (told_ok (counted_of bs) h.0 h.1 h.2) in (
      subst (λ (x : List ℕ). Takes bs (counted x) rest) g.1 (subst (Takes bs (counted h.0)) g.2 q.0),
      subst FitsText g.1 (q.1, IsUtf8-from_is_utf8 h.0 g.0),
    )

text_again : (t rest : List ℕ) → FitsText t → text_at (counted t ++ rest) ≡ Ok (t, rest)
text_again t rest h =
    ap (λ (q : Parsed (List ℕ)). then_on q (λ x after. cond (is_utf8 x) (pair x after) (Err BadValue)))
    (told_on (counted_of (counted t ++ rest)) t rest (counted_again t rest h.0))
    ∙ guard_on (is_utf8 t) t rest BadValue (is_utf8-from_IsUtf8 t h.1)

pub text_codec : Codec text_at counted FitsText
text_codec = record { taken = text_taken; again = text_again }

-- ---- tasks and values

abbrev pub FitsTask : Task → Type 0
FitsTask t = IsEncodableTask t × IsTrueTask t

rest_bytes : (n : ℕ) (bs : List ℕ) → IsBytes bs → IsBytes (drop n bs)
rest_bytes n bs h i = rw get_or-drop (h (n + i))

task_taken : (bs : List ℕ) (t : Task) (rest : List ℕ) → IsBytes bs → task_at bs ≡ Ok (t, rest) → Takes bs (enc_task t) rest × FitsTask t
task_taken bs t rest fits e =
    let read = told_ok (task_prefix bs) t rest e in
    let n = length bs - length rest in
    let h = task_counted bs t rest n fits read refl in
    let c = task_is_canonical (Ok (t, n)) bs fits h in
    let left : drop n bs ≡ rest = same_rest t t (drop n bs) rest (sym (told_on (task_prefix bs) t (drop n bs) h.0) ∙ e) in (
      record {
        parts = sym (take-append-drop n bs) ∙ ap (λ (x : List ℕ). x ++ drop n bs) c.bytes ∙ ap (λ (x : List ℕ). enc_task t ++ x) left;
        rest_fits = subst IsBytes left (rest_bytes n bs fits);
      },
      (c.encodable, (c.name, c.leaves)),
    )

pub task_codec : Codec task_at enc_task FitsTask
task_codec = record {
  taken = task_taken;
  again = λ t rest h.
      told_on (task_prefix (enc_task t ++ rest)) t rest
      (task_again t (enc_task t) rest (record { encodable = h.0; name = h.1.0; leaves = h.1.1; bytes = refl }));
}

abbrev pub value_bytes : Value → List ℕ
value_bytes v = enc (tree_of v)

abbrev pub FitsValue : Value → Type 0
FitsValue v = IsEncodable (tree_of v) × HasTrueLeaves (tree_of v)

abbrev tree_at : List ℕ → Parsed Tree
tree_at bs = told (value_prefix bs)

abbrev FitsTree : Tree → Type 0
FitsTree t = IsEncodable t × HasTrueLeaves t

tree_taken : (bs : List ℕ) (t : Tree) (rest : List ℕ) → IsBytes bs → tree_at bs ≡ Ok (t, rest) → Takes bs (enc t) rest × FitsTree t
unfolding value_prefix
tree_taken bs t rest fits e =
    let r = value_read 64 bs t rest fits (told_ok (value_within 64 bs) t rest e) in
    (r.takes, (record { shallow = r.deep; short = r.short }, r.leaves))

tree_again : (t : Tree) (rest : List ℕ) → FitsTree t → tree_at (enc t ++ rest) ≡ Ok (t, rest)
unfolding value_prefix
tree_again t rest h = told_on (value_within 64 (enc t ++ rest)) t rest (value_again 64 t rest h.0.shallow h.0.short h.1)

tree_codec : Codec tree_at enc FitsTree
tree_codec = record { taken = tree_taken; again = tree_again }

value_taken : (bs : List ℕ) (v : Value) (rest : List ℕ) → IsBytes bs → value_at bs ≡ Ok (v, rest) → Takes bs (value_bytes v) rest × FitsValue v
value_taken bs v rest fits e =
    let h = last_ok tree_codec value_of bs v rest fits e in
    let t : h.0 ≡ tree_of v = sym (tree_back h.0) ∙ ap tree_of h.1 in
    (subst (λ (x : Tree). Takes bs (enc x) rest) t h.2, subst FitsTree t h.3)

pub value_codec : Codec value_at value_bytes FitsValue
value_codec = record {
  taken = value_taken;
  again = λ v rest h.
      ap (λ (p : Parsed Tree). then_on p (λ t after. pair (value_of t) after)) (tree_again (tree_of v) rest h)
      ∙ ap (λ (x : Value). pair x rest) (value_back v);
}
