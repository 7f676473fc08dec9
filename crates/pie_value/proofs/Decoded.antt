-- What the answers of the readers say of canonical bytes.
use Rattle.std.proofs.Common.{◌≡◌, ℕ, ◌-◌, ◌^◌, ◌<◌, ◌≤◌, List, [], ◌∷◌, ◌++◌, length, take, drop, Result, Ok, Err, IfOk, refl}
use Rattle.std.proofs.Common.{sym, ap, subst, ◌∙◌, append_assoc, append-nil, arith}
use Rattle.std.specs.Str.{is_utf8}
use Rattle.std.proofs.lemmas.Str.{IsUtf8-from_is_utf8, is_utf8-from_IsUtf8}
use Rattle.std.proofs.lemmas.List.{length-append, length-drop, take-append-drop}
use Rattle.std.proofs.Math.Seq.{take-append_seam, drop-append_seam}
use Rattle.pie_value.specs.declared.value.Value.{Value}
use Rattle.pie_value.specs.declared.task.Task.{Task}
use Rattle.pie_value.specs.declared.value_fault.ValueFault.{ValueFault}
use Rattle.pie_value.specs.declared.value_fault.ValueFault.TheVariants.{Short, BadTag, BadText, Rest, TooDeep, OutOfMemory}
use Rattle.pie_value.specs.Tree.{Tree, items_of, count_of}
use Rattle.pie_value.specs.Values.{tree_of}
use Rattle.pie_value.specs.Canonical.{counted, enc, enc_items, enc_task, IsCanonical, IsCanonicalTask}
use Rattle.pie_value.specs.Reading.{Parsed, then_on, tested_of, items_prefix, value_within, value_prefix, alone, value_whole, task_prefix}
use Rattle.pie_value.specs.inner.Agreement.{ValueAgrees, ValueAgreesOnPrefix, Refuses}
use Rattle.pie_value.proofs.Taking.{IsBytes, then_ok, same_value, same_rest, Takes, Takes-then, tested_takes, tested_again}
use Rattle.pie_value.proofs.ReadBack.{value_read, front_read}
use Rattle.pie_value.proofs.WriteBack.{value_again, prefix_again}
use Rattle.pie_value.proofs.Elements.{list_of_items, count_of_items}

-- ---- the bytes taken

pub left_after : (bs text rest : List ℕ) → Takes bs text rest → drop (length bs - length rest) bs ≡ rest
left_after bs text rest p =
    let n : length bs - length rest ≡ length text = omega (arith, ap length p.parts, length-append text rest) in
    ap (λ (k : ℕ). drop k bs) n ∙ ap (λ (x : List ℕ). drop (length text) x) p.parts ∙ drop-append_seam text rest

pub taken_before : (bs text rest : List ℕ) (n : ℕ) → Takes bs text rest → rest ≡ drop n bs → n ≤ length bs → take n bs ≡ text
taken_before bs text rest n p e le =
    let len : n ≡ length text = omega (arith, ap length e, length-drop n bs, ap length p.parts, length-append text rest) in
    ap (λ (k : ℕ). take k bs) len ∙ ap (λ (x : List ℕ). take (length text) x) p.parts ∙ take-append_seam text rest

abbrev made : Task × List ℕ → Parsed Task
made p = Ok p

-- ---- a value

prefix_canonical : (bs : List ℕ) (t : Tree) (rest : List ℕ) → IsBytes bs → value_prefix bs ≡ Ok (t, rest)
    → Takes bs (enc t) rest × ((text : List ℕ) → text ≡ enc t → IsCanonical t text)
unfolding value_prefix
prefix_canonical bs t rest fits e =
    let r = value_read 64 bs t rest fits e in
    (r.takes, λ text h. record { encodable = record { shallow = r.deep; short = r.short }; leaves = r.leaves; bytes = h })

prefix_again_of : (t : Tree) (text rest : List ℕ) → IsCanonical t text → value_prefix (text ++ rest) ≡ Ok (t, rest)
unfolding value_prefix
prefix_again_of t text rest h =
    ap (λ (x : List ℕ). value_within 64 (x ++ rest)) h.bytes ∙ value_again 64 t rest h.encodable.shallow h.encodable.short h.leaves

alone_ok : (t u : Tree) (left rest : List ℕ) → alone t left ≡ Ok (u, rest) → (t ≡ u) × (left ≡ []) × (rest ≡ [])
alone_ok t u [] rest e = (same_value t u [] rest e, refl, sym (same_rest t u [] rest e))
alone_ok t u (b ∷ bs) rest e = absurd (cc)

pub whole_again : (t : Tree) (bs : List ℕ) → IsCanonical t bs → value_whole bs ≡ Ok (t, [])
whole_again t bs h =
    ap (λ (x : List ℕ). then_on (value_prefix x) alone) (sym (append-nil bs))
    ∙ ap (λ (p : Parsed Tree). then_on p alone) (prefix_again_of t bs [] h)

pub decoded_canonical : (r : Result Value ValueFault) (bs : List ℕ) → IsBytes bs → ValueAgrees tree_of r [] (value_whole bs)
    → IfOk r (λ v. IsCanonical (tree_of v) bs)
decoded_canonical (Ok v) bs fits e =
    let h = then_ok (value_prefix bs) alone (tree_of v) [] e in
    let a = alone_ok h.0 (tree_of v) h.1 [] h.3 in
    let p = prefix_canonical bs h.0 h.1 fits h.2 in
    let text : bs ≡ enc h.0 = p.0.parts ∙ ap (λ (x : List ℕ). enc h.0 ++ x) a.1 ∙ append-nil (enc h.0) in
    subst (λ (t : Tree). IsCanonical t bs) a.0 (p.1 bs text)
decoded_canonical (Err e) bs fits h = tt

-- an answer that refuses is that of the definition
refusal_is : {A B : Type 0} (f : A → B) (r : Result A ValueFault) (rest : List ℕ) (p : Parsed B) (b : B × List ℕ)
    → ValueAgrees f r rest p → Refuses r → p ≡ Ok b → ⊥
refusal_is f (Ok a) rest p b h n e = n
refusal_is f (Err Short) rest p b h n e = absurd (cc)
refusal_is f (Err BadTag) rest p b h n e = absurd (cc)
refusal_is f (Err BadText) rest p b h n e = absurd (cc)
refusal_is f (Err Rest) rest p b h n e = absurd (cc)
refusal_is f (Err TooDeep) rest p b h n e = absurd (cc)
refusal_is f (Err OutOfMemory) rest p b h n e = n

pub decoded_refused : (r : Result Value ValueFault) (bs : List ℕ) → ValueAgrees tree_of r [] (value_whole bs) → Refuses r
    → (t : Tree) → ¬ (IsCanonical t bs)
decoded_refused r bs h n t c = refusal_is tree_of r [] (value_whole bs) (t, []) h n (whole_again t bs c)

-- ---- a value in front

-- the same, of an answer with the number of bytes
prefix_refusal_is : {A B : Type 0} (f : A → B) (r : Result (A × ℕ) ValueFault) (bs : List ℕ) (p : Parsed B) (b : B × List ℕ)
    → ValueAgreesOnPrefix f r bs p → Refuses r → p ≡ Ok b → ⊥
prefix_refusal_is f (Ok a) bs p b h n e = n
prefix_refusal_is f (Err Short) bs p b h n e = absurd (cc)
prefix_refusal_is f (Err BadTag) bs p b h n e = absurd (cc)
prefix_refusal_is f (Err BadText) bs p b h n e = absurd (cc)
prefix_refusal_is f (Err Rest) bs p b h n e = absurd (cc)
prefix_refusal_is f (Err TooDeep) bs p b h n e = absurd (cc)
prefix_refusal_is f (Err OutOfMemory) bs p b h n e = n

-- a reader of a prefix, by the bytes that are left
counted_off : {B : Type 0} (p : Parsed B) (b : B) (bs text rest : List ℕ) (n : ℕ) → Takes bs text rest → p ≡ Ok (b, rest)
    → n ≡ length bs - length rest → (p ≡ Ok (b, drop n bs)) × (n ≤ length bs)
counted_off p b bs text rest n t e h =
    let k : drop n bs ≡ rest = ap (λ (m : ℕ). drop m bs) h ∙ left_after bs text rest t in
    (e ∙ ap (λ (x : List ℕ). Ok (b, x)) (sym k), omega arith)

pub value_counted : (bs : List ℕ) (t : Tree) (rest : List ℕ) (n : ℕ) → IsBytes bs → value_prefix bs ≡ Ok (t, rest)
    → n ≡ length bs - length rest → (value_prefix bs ≡ Ok (t, drop n bs)) × (n ≤ length bs)
value_counted bs t rest n fits e h = counted_off (value_prefix bs) t bs (enc t) rest n (prefix_canonical bs t rest fits e).0 e h

pub prefix_is_canonical : (r : Result (Value × ℕ) ValueFault) (bs : List ℕ) → IsBytes bs → ValueAgreesOnPrefix tree_of r bs (value_prefix bs)
    → IfOk r (λ found. IsCanonical (tree_of found.0) (take found.1 bs))
prefix_is_canonical (Ok a) bs fits e =
    let p = prefix_canonical bs (tree_of a.0) (drop a.1 bs) fits e.0 in
    p.1 (take a.1 bs) (taken_before bs (enc (tree_of a.0)) (drop a.1 bs) a.1 p.0 refl e.1)
prefix_is_canonical (Err e) bs fits h = tt

pub prefix_is_refused : (r : Result (Value × ℕ) ValueFault) (bs : List ℕ) → ValueAgreesOnPrefix tree_of r bs (value_prefix bs) → Refuses r
    → (t : Tree) (n : ℕ) → ¬ (IsCanonical t (take n bs))
prefix_is_refused r bs h x t n c =
    prefix_refusal_is tree_of r bs (value_prefix bs) (t, drop n bs) h x
    (ap value_prefix (sym (take-append-drop n bs)) ∙ prefix_again_of t (take n bs) (drop n bs) c)

-- ---- a task in front

task_canonical : (bs : List ℕ) (t : Task) (rest : List ℕ) → IsBytes bs → task_prefix bs ≡ Ok (t, rest)
    → Takes bs (enc_task t) rest × ((text : List ℕ) → text ≡ enc_task t → IsCanonicalTask t text)
unfolding value_prefix
task_canonical bs t rest fits e =
    let h = then_ok (tested_of is_utf8 bs)
    (λ name after. then_on (items_prefix value_prefix after) (λ ts left. Ok (record { func = name; args = ts }, left))) t rest e in
    let p = tested_takes is_utf8 bs h.0 h.1 fits h.2 in
    let k = then_ok (items_prefix value_prefix h.1) (λ ts left. Ok (record { func = h.0; args = ts }, left)) t rest h.3 in
    let q = front_read 64 value_prefix (value_read 64) h.1 k.0 k.1 p.0.rest_fits k.2 in
    let u : Task = record { func = h.0; args = k.0 } in
    let v : u ≡ t = same_value u t k.1 rest k.3 in
    let taken : Takes bs (enc_task u) k.1 = Takes-then bs (counted h.0) h.1 (enc_items (items_of k.0)) k.1 p.0 q.takes in
    let few : length k.0 < 2 ^ 32 = omega (arith, q.few, count_of_items k.0) in (
      subst (λ (x : Task). Takes bs (enc_task x) rest) v (subst (λ (x : List ℕ). Takes bs (enc_task u) x) (same_rest u t k.1 rest k.3) taken),
      subst (λ (x : Task). (text : List ℕ) → text ≡ enc_task x → IsCanonicalTask x text) v
          (λ text m. record {
            encodable = record { short_name = p.1; few = few; shallow = q.deep; short = q.short };
            name = IsUtf8-from_is_utf8 h.0 p.2;
            leaves = q.leaves;
            bytes = m;
          }),
    )

pub task_counted : (bs : List ℕ) (t : Task) (rest : List ℕ) (n : ℕ) → IsBytes bs → task_prefix bs ≡ Ok (t, rest)
    → n ≡ length bs - length rest → (task_prefix bs ≡ Ok (t, drop n bs)) × (n ≤ length bs)
task_counted bs t rest n fits e h = counted_off (task_prefix bs) t bs (enc_task t) rest n (task_canonical bs t rest fits e).0 e h

pub task_again : (t : Task) (text rest : List ℕ) → IsCanonicalTask t text → task_prefix (text ++ rest) ≡ Ok (t, rest)
unfolding value_prefix
task_again t text rest c =
    let few : count_of (items_of t.args) < 2 ^ 32 = omega (arith, c.encodable.few, count_of_items t.args) in
    let args : items_prefix value_prefix (enc_items (items_of t.args) ++ rest) ≡ Ok (t.args, rest) =
    prefix_again 64 (items_of t.args) rest c.encodable.shallow few c.encodable.short c.leaves
    ∙ ap (λ (x : List Tree). Ok (x, rest)) (list_of_items t.args) in
    ap (λ (x : List ℕ). task_prefix (x ++ rest)) c.bytes
    ∙ ap task_prefix (append_assoc (counted t.func) (enc_items (items_of t.args)) rest)
    ∙ ap (λ (p : Parsed (List ℕ)). then_on p (λ name after. then_on (items_prefix value_prefix after) (λ ts left.
    made (record { func = name; args = ts }, left))))
    (tested_again is_utf8 t.func (enc_items (items_of t.args) ++ rest) c.encodable.short_name (is_utf8-from_IsUtf8 t.func c.name))
    ∙ ap (λ (p : Parsed (List Tree)). then_on p (λ ts left. made (record { func = t.func; args = ts }, left))) args

pub task_is_canonical : (r : Result (Task × ℕ) ValueFault) (bs : List ℕ) → IsBytes bs → ValueAgreesOnPrefix (λ t. t) r bs (task_prefix bs)
    → IfOk r (λ found. IsCanonicalTask found.0 (take found.1 bs))
task_is_canonical (Ok a) bs fits e =
    let p = task_canonical bs a.0 (drop a.1 bs) fits e.0 in
    p.1 (take a.1 bs) (taken_before bs (enc_task a.0) (drop a.1 bs) a.1 p.0 refl e.1)
task_is_canonical (Err e) bs fits h = tt

pub task_is_refused : (r : Result (Task × ℕ) ValueFault) (bs : List ℕ) → ValueAgreesOnPrefix (λ t. t) r bs (task_prefix bs) → Refuses r
    → (t : Task) (n : ℕ) → ¬ (IsCanonicalTask t (take n bs))
task_is_refused r bs h x t n c =
    prefix_refusal_is (λ (u : Task). u) r bs (task_prefix bs) (t, drop n bs) h x
    (ap task_prefix (sym (take-append-drop n bs)) ∙ task_again t (take n bs) (drop n bs) c)

pub task_whole_again : (t : Task) (bs : List ℕ) → IsCanonicalTask t bs → task_prefix bs ≡ Ok (t, [])
task_whole_again t bs c = ap task_prefix (sym (append-nil bs)) ∙ task_again t bs [] c
