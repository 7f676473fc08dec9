-- What is read from the bytes of a store is what these bytes are the text of.
use Rattle.std.proofs.Common.{◌≡◌, ℕ, suc, ◌-◌, ◌^◌, ◌<◌, ◌≤◌, Bool, true, false, cond, List, [], ◌∷◌, ◌++◌, length, get_or, take, drop, map}
use Rattle.std.proofs.Common.{Result, Ok, Err, IfOk, refl, sym, ap, subst, ◌∙◌, append-nil, arith, inl, inr}
use Rattle.std.specs.Prelude.{All, Contains, Option, Some, None, ◌==◌, ◌||◌, ◌⊎◌, nat_lt, slice_index}
use Rattle.std.specs.List.{AllPairs, flat_map}
use Rattle.std.specs.Str.{bytes_eq}
use Rattle.std.proofs.lemmas.Slice.Eq.{bytes_eq-Decides}
use Rattle.std.proofs.lemmas.Bool.{ltb-false, eqb-true, cases_lt}
use Rattle.std.proofs.lemmas.List.{take-append-drop, drop_more, length-map, get_or_append_left, get_or_past}
use Rattle.std.proofs.lemmas.List.Elements.{All-nil, All-cons, All-head, All-tail}
use Rattle.sha2.specs.Sha256.{sha256}
use Rattle.pie_value.specs.declared.task.Task.{Task}
use Rattle.pie_value.specs.Canonical.{be32, enc_task}
use Rattle.pie_value.proofs.Taking.{IsBytes}
use Rattle.pie_record.specs.declared.task_record.TaskRecord.{TaskRecord}
use Rattle.pie_record.specs.Canonical.{listed, enc_record}
use Rattle.pie_record.specs.Reading.{bytes_at}
use Rattle.pie_record.proofs.Codecs.{bytes_codec}
use Rattle.pie_store.specs.declared.image.StoreImage.{StoreImage}
use Rattle.pie_store.specs.declared.store_fault.StoreFault.{StoreFault}
use Rattle.pie_store.specs.declared.store_fault.StoreFault.TheVariants.{Short, Magic, Version, Digest}
use Rattle.pie_store.specs.Frame.{magic, sealed, versioned, framed}
use Rattle.pie_store.specs.Canonical.{enc_func, enc_head, enc_body, names_of, tasks_in, AreFuncs, AreInOrder}
use Rattle.pie_store.specs.Ranks.{knows, IsStored}
use Rattle.pie_store.specs.Texts.{IsFunc, IsRow, IsFormat, AreKnown, IsStore, IsStoreText}
use Rattle.pie_store.specs.inner.Agreement.{AgreesWhole}
use Rattle.pie_store.specs.inner.Reading.{part_at, list_at, next_func, next_root, next_row}
use Rattle.pie_store.specs.inner.Reading.{first_missing, closed, tasks_of, rows_of, then_image, image_of, tail_of, contents_1, contents_2, body_says, on_body}
use Rattle.pie_store.specs.inner.Reading.{store_says}
use Rattle.pie_store.proofs.Admitted.{AreKept, kept_none, kept_in_order}
use Rattle.pie_store.proofs.StoreParts.{FuncBefore, IsRankedRow, IsRoot, deps_stored, funcs_push}
use Rattle.pie_store.proofs.StoreParts.{funcs_taker, list_kept, list_taken, placed_ok, root_bytes, roots_found, roots_taker}
use Rattle.pie_store.proofs.StoreParts.{row_bytes, rows_push, rows_stored, rows_taker, table_of, then_image_ok}

-- ---- the tail

pub firsts_flat : {A B : Type 0} (f : A → List ℕ) (xs : List (A × B)) → flat_map (λ (p : A × B). f p.0) xs ≡ flat_map f (map (λ (p : A × B). p.0) xs)
firsts_flat f [] = refl
firsts_flat {A} {B} f (x ∷ xs) = ap (λ (t : List ℕ). f x.0 ++ t) (firsts_flat {A = A} {B = B} f xs)

pub firsts_listed : {A B : Type 0} (f : A → List ℕ) (xs : List (A × B)) → listed (λ (p : A × B). f p.0) xs ≡ listed f (map (λ (p : A × B). p.0) xs)
firsts_listed {A} {B} f xs =
    ap (λ (n : ℕ). be32 n ++ flat_map (λ (p : A × B). f p.0) xs) (sym (length-map xs (λ (p : A × B). p.0)))
    ∙ ap (λ (t : List ℕ). be32 (length (map (λ (p : A × B). p.0) xs)) ++ t) (firsts_flat f xs)

pub firsts_all : {A B : Type 0} (P : A → Type 0) (xs : List (A × B)) → All (λ (p : A × B). P p.0) xs → All P (map (λ (p : A × B). p.0) xs)
firsts_all P [] h = All-nil P
firsts_all {A} {B} P (x ∷ xs) h =
    All-cons P x.0 (map (λ (p : A × B). p.0) xs) (All-head (λ (p : A × B). P p.0) x xs h)
    (firsts_all {A = A} {B = B} P xs (All-tail (λ (p : A × B). P p.0) x xs h))

closed_ok : (o : Option ℕ) (rest : List ℕ) (s t : StoreImage) → closed o rest s ≡ Ok t → (rest ≡ []) × (s ≡ t) × (o ≡ None)
closed_ok (Some at) rest s t e = absurd (cc)
closed_ok None [] s t e = (refl, cc, refl)
closed_ok None (b ∷ rest) s t e = absurd (cc)

-- what stands after a head
record IsTail (known : List ℕ → Bool) (version : ℕ) (pipeline : Option (List ℕ)) (funcs : List (List ℕ × List ℕ)) (bs : List ℕ) (s : StoreImage) : Type 0 where
  version_is : s.version ≡ version
  pipeline_is : s.pipeline ≡ pipeline
  funcs_is : s.funcs ≡ funcs
  few_roots : length s.roots < 2 ^ 32
  roots : All IsStored s.roots
  few_rows : length s.rows < 2 ^ 32
  rows : All IsRow s.rows
  order : AreInOrder s.rows
  passed : All (λ (r : TaskRecord). known r.task.func ≡ true) s.rows
  found : All (λ (t : Task). Contains (tasks_in s.rows) t) s.roots
  bytes : bs ≡ listed enc_task s.roots ++ listed enc_record s.rows

tail_taken : (end : ℕ) (known : List ℕ → Bool) (version : ℕ) (pipeline : Option (List ℕ)) (funcs : List (List ℕ × List ℕ)) (bs : List ℕ) (s : StoreImage)
    → IsBytes bs → tail_of end known version pipeline funcs bs ≡ Ok s → IsTail known version pipeline funcs bs s
tail_taken end known version pipeline funcs bs s fits e =
    let h = then_image_ok (list_at end (next_root end) bs) (λ roots after.
    then_image (list_at end (next_row known end) after) (λ rows rest.
    closed (first_missing rows roots) rest (image_of version pipeline funcs roots rows))) s e in
    let p = list_taken end (next_root end) root_bytes IsRoot (roots_taker end) bs h.0 h.1 fits h.2 in
    let i = then_image_ok (list_at end (next_row known end) h.1)
    (λ rows rest. closed (first_missing rows h.0) rest (image_of version pipeline funcs h.0 rows)) s h.3 in
    let q = list_taken end (next_row known end) row_bytes IsRankedRow (rows_taker known end) h.1 i.0 i.1 p.takes.rest_fits i.2 in
    let k = list_kept end (next_row known end) (AreKept known) (rows_push known end) h.1 i.0 i.1 (kept_none known) i.2 in
    let c = closed_ok (first_missing i.0 h.0) i.1 (image_of version pipeline funcs h.0 i.0) s i.3 in
    let rows : All IsRow (rows_of i.0) = firsts_all {B = ℕ} IsRow i.0 q.fit in
    let stored = rows_stored (rows_of i.0) rows in
    let bytes : bs ≡ listed enc_task (tasks_of h.0) ++ listed enc_record (rows_of i.0) =
    p.takes.parts ∙ ap (λ (t : List ℕ). t ++ h.1) (firsts_listed {B = ℕ} enc_task h.0)
    ∙ ap (λ (t : List ℕ). listed enc_task (tasks_of h.0) ++ t)
    (q.takes.parts ∙ ap (λ (t : List ℕ). listed row_bytes i.0 ++ t) c.0 ∙ append-nil (listed row_bytes i.0) ∙ firsts_listed {B = ℕ} enc_record i.0) in
    subst (λ (t : StoreImage). IsTail known version pipeline funcs bs t) c.1 (record {
      version_is = refl;
      pipeline_is = refl;
      funcs_is = refl;
      few_roots = omega (arith, p.few, length-map h.0 (λ (r : Task × ℕ). r.0));
      roots = firsts_all {B = ℕ} IsStored h.0 p.fit;
      few_rows = omega (arith, q.few, length-map i.0 (λ (r : TaskRecord × ℕ). r.0));
      rows = rows;
      order = kept_in_order known i.0 k stored (λ j r lt. deps_stored (get_or (rows_of i.0) j r) (rows j r lt));
      passed = firsts_all {B = ℕ} (λ (r : TaskRecord). known r.task.func ≡ true) i.0 (λ j r lt. (k.admitted j r lt).func);
      found = firsts_all {B = ℕ} (λ (t : Task). Contains (tasks_in (rows_of i.0)) t) h.0 (roots_found i.0 h.0 stored p.fit c.2);
      bytes = bytes;
    })

-- ---- the whole

-- what stands after the version
record IsContents (version : ℕ) (bs : List ℕ) (s : StoreImage) : Type 0 where
  version_is : s.version ≡ version
  store : IsStore s
  bytes : bs ≡ enc_head s.pipeline s.funcs ++ (listed enc_task s.roots ++ listed enc_record s.rows)

head_of : (s : StoreImage) (pipeline : Option (List ℕ)) (funcs : List (List ℕ × List ℕ)) → s.pipeline ≡ pipeline → s.funcs ≡ funcs
    → enc_head pipeline funcs ≡ enc_head s.pipeline s.funcs
head_of s pipeline funcs e f =
    ap (λ (o : Option (List ℕ)). enc_head o funcs) (sym e) ∙ ap (λ (fs : List (List ℕ × List ℕ)). enc_head s.pipeline fs) (sym f)

-- a function that passed stands in the table
pub known_in_table : (funcs : List (List ℕ × List ℕ)) (name : List ℕ) → knows (Some funcs) name ≡ true → Contains (names_of funcs) name
known_in_table [] name e = absurd (cc)
known_in_table (f ∷ funcs) name e = by (bytes_eq name f.0) refl e (λ g. known_in_table funcs name g)
  where
    by : (b : Bool) → bytes_eq name f.0 ≡ b → (b || knows (Some funcs) name) ≡ true → (knows (Some funcs) name ≡ true → Contains (names_of funcs) name)
        → Contains (names_of (f ∷ funcs)) name
    by true t g more = (0, omega arith, sym ((bytes_eq-Decides name f.0).0 t))
    by false t g more = let m = more g in (suc m.0, omega (arith, m.1), m.2)

contents_2_taken : (end : ℕ) (bs : List ℕ) (s : StoreImage) → IsBytes bs → contents_2 end bs ≡ Ok s → IsContents 2 bs s
contents_2_taken end bs s fits e =
    let h = then_image_ok (list_at end (next_func end) bs) (λ funcs rest. tail_of end (knows (Some funcs)) 2 None funcs rest) s e in
    let p = list_taken end (next_func end) enc_func IsFunc (funcs_taker end) bs h.0 h.1 fits h.2 in
    let k = list_kept end (next_func end) (AllPairs FuncBefore) (funcs_push end) bs h.0 h.1 (λ i j d lt within. absurd (omega (arith, within))) h.2 in
    let t = tail_taken end (knows (Some h.0)) 2 None h.0 h.1 s p.takes.rest_fits h.3 in
    let known : All (λ (r : TaskRecord). Contains (names_of h.0) r.task.func) s.rows =
    λ i r lt. known_in_table h.0 (get_or s.rows i r).task.func (t.passed i r lt) in
    record {
      version_is = t.version_is;
      store = record {
        format = subst (λ (o : Option (List ℕ)). IsFormat s.version o s.funcs) (sym t.pipeline_is) t.version_is;
        funcs = subst (All IsFunc) (sym t.funcs_is) p.fit;
        table = subst AreFuncs (sym t.funcs_is) (table_of h.0 p.few p.fit k);
        few_roots = t.few_roots;
        roots = t.roots;
        few_rows = t.few_rows;
        rows = t.rows;
        order = t.order;
        known = subst (λ (o : Option (List ℕ)). AreKnown o s.funcs s.rows) (sym t.pipeline_is)
            (subst (λ (fs : List (List ℕ × List ℕ)). AreKnown None fs s.rows) (sym t.funcs_is) known);
        closed = t.found;
      };
      bytes =
          p.takes.parts ∙ ap (λ (x : List ℕ). listed enc_func h.0 ++ x) t.bytes
          ∙ ap (λ (x : List ℕ). x ++ (listed enc_task s.roots ++ listed enc_record s.rows)) (head_of s None h.0 t.pipeline_is t.funcs_is);
    }

no_funcs : AreFuncs []
no_funcs = record { few = omega arith; short = All-nil _; ascending = λ i j d lt within. absurd (omega (arith, within)) }

contents_1_taken : (end : ℕ) (bs : List ℕ) (s : StoreImage) → IsBytes bs → contents_1 end bs ≡ Ok s → IsContents 1 bs s
contents_1_taken end bs s fits e =
    let h = then_image_ok (part_at end (bytes_at 32) bs) (λ digest rest. tail_of end (knows None) 1 (Some digest) [] rest) s e in
    let p = (bytes_codec 32).taken bs h.0 h.1 fits (placed_ok (end - length bs) (bytes_at 32 bs) h.0 h.1 h.2) in
    let t = tail_taken end (knows None) 1 (Some h.0) [] h.1 s p.0.rest_fits h.3 in
    record {
      version_is = t.version_is;
      store = record {
        format = subst (λ (o : Option (List ℕ)). IsFormat s.version o s.funcs) (sym t.pipeline_is) (t.version_is, p.1, t.funcs_is);
        funcs = subst (All IsFunc) (sym t.funcs_is) (All-nil IsFunc);
        table = subst AreFuncs (sym t.funcs_is) no_funcs;
        few_roots = t.few_roots;
        roots = t.roots;
        few_rows = t.few_rows;
        rows = t.rows;
        order = t.order;
        known = subst (λ (o : Option (List ℕ)). AreKnown o s.funcs s.rows) (sym t.pipeline_is) (tt {0});
        closed = t.found;
      };
      bytes =
          p.0.parts ∙ ap (λ (x : List ℕ). h.0 ++ x) t.bytes
          ∙ ap (λ (x : List ℕ). x ++ (listed enc_task s.roots ++ listed enc_record s.rows)) (head_of s (Some h.0) [] t.pipeline_is t.funcs_is);
    }

-- what a frame stands around
pub record IsFrame (bs body : List ℕ) : Type 0 where
  pub version : ℕ
  pub inside : List ℕ
  pub body_is : body ≡ magic ++ (version ∷ inside)
  pub one_or_two : (version ≡ 1) ⊎ (version ≡ 2)
  pub long : ((version ≡ 1) × (77 ≤ length bs)) ⊎ ((version ≡ 2) × (49 ≤ length bs))
  pub bytes : bs ≡ body ++ sha256 body

pub cond_ok : (b : Bool) (r q : Result (List ℕ) StoreFault) (body : List ℕ) → cond b r q ≡ Ok body → ((b ≡ true) × (r ≡ Ok body))
    ⊎ ((b ≡ false) × (q ≡ Ok body))
cond_ok true r q body e = inl (refl, e)
cond_ok false r q body e = inr (refl, e)

sealed_ok : (bs body : List ℕ) → sealed bs ≡ Ok body → (body ≡ take (length bs - 32) bs) × (bs ≡ body ++ sha256 body)
sealed_ok bs body e = elim (cond_ok (bytes_eq (sha256 (take (length bs - 32) bs)) (drop (length bs - 32) bs)) (Ok (take (length bs - 32) bs))
    (Err Digest) body e) [
      | inl h ↦
          let front = take (length bs - 32) bs in
          let back = drop (length bs - 32) bs in
          let b : front ≡ body = cc (h.1) in
          let d : sha256 front ≡ back = (bytes_eq-Decides (sha256 front) back).0 h.0 in
          (sym b, sym (take-append-drop (length bs - 32) bs) ∙ ap (λ (t : List ℕ). front ++ t) (sym d) ∙ ap (λ (t : List ℕ). t ++ sha256 t) b)
      | inr h ↦ absurd (cc (h.1))
    ]

five : (bs : List ℕ) → 49 ≤ length bs → take 4 bs ≡ magic → bs ≡ magic ++ (slice_index bs 4 ∷ drop 5 bs)
five bs long e =
    sym (take-append-drop 4 bs) ∙ ap (λ (t : List ℕ). t ++ drop 4 bs) e ∙ ap (λ (t : List ℕ). magic ++ t) (drop_more bs 4 0 (omega (arith, long)))

cut : (n v : ℕ) (t : List ℕ) → 5 ≤ n → take n (magic ++ (v ∷ t)) ≡ magic ++ (v ∷ take (n - 5) t)
cut n v t le =
    let e : n ≡ suc (suc (suc (suc (suc (n - 5))))) = omega (arith, le) in
    ap (λ (k : ℕ). take k (magic ++ (v ∷ t))) e

pub frame_ok : (bs body : List ℕ) → framed bs ≡ Ok body → IsFrame bs body
frame_ok bs body e = elim (cond_ok (nat_lt (length bs) 49) (Err Short)
    (cond (bytes_eq (take 4 bs) magic) (versioned (slice_index bs 4) bs) (Err Magic)) body e) [
      | inl h ↦ absurd (cc (h.1))
      | inr h ↦ elim (cond_ok (bytes_eq (take 4 bs) magic) (versioned (slice_index bs 4) bs) (Err Magic) body h.1) [
        | inl m ↦ with_version (ltb-false (length bs) 49 h.0) ((bytes_eq-Decides (take 4 bs) magic).0 m.0) m.1
        | inr m ↦ absurd (cc (m.1))
      ]
    ]
  where
    made : (n : 49 ≤ length bs) → take 4 bs ≡ magic → ((slice_index bs 4 ≡ 1) × (77 ≤ length bs)) ⊎ ((slice_index bs 4 ≡ 2) × (49 ≤ length bs))
        → sealed bs ≡ Ok body → IsFrame bs body
    made n m v s =
        let k = sealed_ok bs body s in
        record {
          version = slice_index bs 4;
          inside = take (length bs - 32 - 5) (drop 5 bs);
          body_is =
              k.0 ∙ ap (λ (t : List ℕ). take (length bs - 32) t) (five bs n m) ∙ cut (length bs - 32) (slice_index bs 4) (drop 5 bs) (omega (arith, n));
          one_or_two = either v;
          long = v;
          bytes = k.1;
        }
      where
        either : ((slice_index bs 4 ≡ 1) × (77 ≤ length bs)) ⊎ ((slice_index bs 4 ≡ 2) × (49 ≤ length bs)) → (slice_index bs 4 ≡ 1) ⊎ (slice_index bs 4 ≡ 2)
        either (inl x) = inl x.0
        either (inr x) = inr x.0

    with_version : (n : 49 ≤ length bs) → take 4 bs ≡ magic → versioned (slice_index bs 4) bs ≡ Ok body → IsFrame bs body
    with_version n m e = elim (cond_ok (slice_index bs 4 == 1) (cond (nat_lt (length bs) 77) (Err Short) (sealed bs))
        (cond (slice_index bs 4 == 2) (sealed bs) (Err Version)) body e) [
          | inl v ↦ elim (cond_ok (nat_lt (length bs) 77) (Err Short) (sealed bs) body v.1) [
            | inl w ↦ absurd (cc (w.1))
            | inr w ↦ made n m (inl (eqb-true (slice_index bs 4) 1 v.0, ltb-false (length bs) 77 w.0)) w.1
          ]
          | inr v ↦ elim (cond_ok (slice_index bs 4 == 2) (sealed bs) (Err Version) body v.1) [
            | inl w ↦ made n m (inr (eqb-true (slice_index bs 4) 2 w.0, n)) w.1
            | inr w ↦ absurd (cc (w.1))
          ]
        ]

pub front_bytes : (xs ys : List ℕ) → IsBytes (xs ++ ys) → IsBytes xs
front_bytes xs ys h i = elim (cases_lt i (length xs)) [
  | inl lt ↦ subst (λ (b : ℕ). b < 256) (get_or_append_left xs ys 0 i lt) (h i)
  | inr le ↦ rw (get_or_past xs i 0 le) (omega arith)
]

body_taken : (v : ℕ) (t : List ℕ) (s : StoreImage) → IsBytes t → (v ≡ 1) ⊎ (v ≡ 2) → body_says (magic ++ (v ∷ t)) ≡ Ok s
    → IsContents v t s
body_taken v t s fits (inl one) e =
    subst (λ (k : ℕ). IsContents k t s) (sym one)
    (contents_1_taken (length (magic ++ (v ∷ t))) t s fits
    (sym (ap (λ (k : ℕ). cond (k == 1) (contents_1 (length (magic ++ (v ∷ t))) t) (contents_2 (length (magic ++ (v ∷ t))) t)) one) ∙ e))
body_taken v t s fits (inr two) e =
    subst (λ (k : ℕ). IsContents k t s) (sym two)
    (contents_2_taken (length (magic ++ (v ∷ t))) t s fits
    (sym (ap (λ (k : ℕ). cond (k == 1) (contents_1 (length (magic ++ (v ∷ t))) t) (contents_2 (length (magic ++ (v ∷ t))) t)) two) ∙ e))

on_body_ok : (r : Result (List ℕ) StoreFault) (s : StoreImage) → on_body r ≡ Ok s → (body : List ℕ) × (r ≡ Ok body) × (body_says body ≡ Ok s)
on_body_ok (Ok body) s e = (body, refl, e)
on_body_ok (Err d) s e = absurd (cc)

-- what is read is what the bytes are the text of
pub store_text : (bs : List ℕ) (s : StoreImage) → IsBytes bs → store_says bs ≡ Ok s → IsStoreText s bs
store_text bs s fits e =
    let h = on_body_ok (framed bs) s e in
    let f = frame_ok bs h.0 h.1 in
    let inside : IsBytes f.inside =
    λ i. subst IsBytes f.body_is (front_bytes h.0 (sha256 h.0) (subst IsBytes f.bytes fits)) (suc (suc (suc (suc (suc i))))) in
    let c = body_taken f.version f.inside s inside f.one_or_two (sym (ap body_says f.body_is) ∙ h.2) in
    let body : h.0 ≡ enc_body s =
    f.body_is ∙ ap (λ (v : ℕ). magic ++ (v ∷ f.inside)) (sym c.version_is) ∙ ap (λ (t : List ℕ). magic ++ (s.version ∷ t)) c.bytes in
    record {
      store = c.store;
      bytes = f.bytes ∙ ap (λ (t : List ℕ). t ++ sha256 t) body;
    }

pub decoded_text : (r : Result StoreImage StoreFault) (bs : List ℕ) → IsBytes bs → AgreesWhole r (store_says bs) → IfOk r (λ s. IsStoreText s bs)
decoded_text (Ok s) bs fits h = store_text bs s fits h
decoded_text (Err e) bs fits h = tt
