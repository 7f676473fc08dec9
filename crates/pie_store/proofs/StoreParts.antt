-- The parts of a store that are read are what these bytes are the text of.
use Rattle.std.proofs.Common.{◌≡◌, ℕ, zero, suc, ◌-◌, ◌^◌, ◌<◌, Bool, true, false, cond, List, [], ◌∷◌, ◌++◌, length, get_or}
use Rattle.std.proofs.Common.{Result, Ok, Err, refl, sym, ap, subst, ◌∙◌, append_assoc, append-nil, arith}
use Rattle.std.specs.Prelude.{All, Contains, Option, Some, None, is_some}
use Rattle.std.specs.List.{AllPairs, flat_map}
use Rattle.std.specs.Ordering.{nat_cmp}
use Rattle.std.specs.Cmp.Lexicographic.{slice_cmp}
use Rattle.std.proofs.lemmas.List.Elements.{All-nil, All-cons, All-head, All-tail}
use Rattle.pie_value.specs.declared.task.Task.{Task}
use Rattle.pie_value.specs.Canonical.{be32, counted, enc_task}
use Rattle.pie_value.proofs.Taking.{IsBytes, Takes, Takes-then}
use Rattle.pie_record.specs.declared.task_record.TaskRecord.{TaskRecord}
use Rattle.pie_record.specs.declared.dep.Dep.{Dep}
use Rattle.pie_record.specs.declared.dep.DepOn.{DepOn}
use Rattle.pie_record.specs.declared.dep.DepOn.TheVariants.{File, Called}
use Rattle.pie_record.specs.Canonical.{listed, enc_record, IsStorableOn, IsTrueOn}
use Rattle.pie_record.specs.Reading.{Parsed as Part, then_on as then_part, text_at, bytes_at, number_at, task_at, record_at}
use Rattle.pie_record.proofs.Steps.{then_ok as part_then, last_ok}
use Rattle.pie_record.proofs.Codecs.{number_codec, bytes_codec, text_codec, task_codec}
use Rattle.pie_record.proofs.RecordCodec.{record_codec}
use Rattle.pie_store.specs.declared.image.StoreImage.{StoreImage}
use Rattle.pie_store.specs.declared.store_fault.StoreFault.{StoreFault}
use Rattle.pie_store.specs.Canonical.{enc_func, tasks_in, AreFuncs}
use Rattle.pie_store.specs.Ranks.{Ranked, rank_in, height_after, IsStored, IsStoredOn}
use Rattle.pie_store.specs.Texts.{IsFunc, IsRow}
use Rattle.pie_store.specs.inner.Reading.{Parsed, then_on, placed, part_at, ordered, some_at, list_at, func_at, name_follows, name_last, next_func, next_root}
use Rattle.pie_store.specs.inner.Reading.{ranked_as, next_row}
use Rattle.pie_store.specs.inner.Reading.{first_missing, rows_of, then_image}
use Rattle.pie_store.proofs.Turns.{same_value, same_rest}
use Rattle.pie_store.proofs.Pairs.{pairs_push, last_is, Ahead, ahead_is, ahead_on, ahead_trans}
use Rattle.pie_store.proofs.Admitted.{AreKept, kept_push, rank_contains}

-- ---- steps

pub then_ok : {A B : Type 0} (p : Parsed A) (k : A → List ℕ → Parsed B) (b : B) (rest : List ℕ) → then_on p k ≡ Ok (b, rest)
    → (a : A) × (mid : List ℕ) × (p ≡ Ok (a, mid)) × (k a mid ≡ Ok (b, rest))
then_ok (Ok q) k b rest e = (q.0, q.1, refl, e)
then_ok (Err d) k b rest e = absurd (cc)

pub then_image_ok : {A : Type 0} (p : Parsed A) (k : A → List ℕ → Result StoreImage StoreFault) (s : StoreImage) → then_image p k ≡ Ok s
    → (a : A) × (mid : List ℕ) × (p ≡ Ok (a, mid)) × (k a mid ≡ Ok s)
then_image_ok (Ok q) k s e = (q.0, q.1, refl, e)
then_image_ok (Err d) k s e = absurd (cc)

pub placed_ok : {A : Type 0} (at : ℕ) (p : Part A) (a : A) (rest : List ℕ) → placed at p ≡ Ok (a, rest) → p ≡ Ok (a, rest)
placed_ok {A} at (Ok q) a rest e = λ i. Ok (same_value q.0 a q.1 rest e i, same_rest q.0 a q.1 rest e i)
placed_ok at (Err d) a rest e = absurd (cc)

pub ordered_ok : {A : Type 0} (at : ℕ) (good : Bool) (x : A) (mid : List ℕ) (a : A) (rest : List ℕ) → ordered at good x mid ≡ Ok (a, rest)
    → (x ≡ a) × (mid ≡ rest) × (good ≡ true)
ordered_ok at true x mid a rest e = (same_value x a mid rest e, same_rest x a mid rest e, refl)
ordered_ok at false x mid a rest e = absurd (cc)

-- ---- things one after another

-- a reader takes the bytes of a thing that fits
abbrev pub Taker : {A : Type 0} → (List A → List ℕ → Parsed A) → (A → List ℕ) → (A → Type 0) → Type 0
Taker {A} one bytes Fits = (xs : List A) (bs : List ℕ) (x : A) (rest : List ℕ) → IsBytes bs → one xs bs ≡ Ok (x, rest) → Takes bs (bytes x) rest × Fits x

pub record ReadsMore {A : Type 0} (bytes : A → List ℕ) (Fits : A → Type 0) (n : ℕ) (bs : List ℕ) (xs ys : List A) (rest : List ℕ) : Type 0 where
  pub more : List A
  pub is : ys ≡ xs ++ more
  pub count : length more ≡ n
  pub takes : Takes bs (flat_map bytes more) rest
  pub fit : All Fits more

pub some_taken : {A : Type 0} (one : List A → List ℕ → Parsed A) (bytes : A → List ℕ) (Fits : A → Type 0) → Taker one bytes Fits
    → (n : ℕ) (xs : List A) (bs : List ℕ) (ys : List A) (rest : List ℕ) → IsBytes bs → some_at one n xs bs ≡ Ok (ys, rest)
    → ReadsMore bytes Fits n bs xs ys rest
some_taken one bytes Fits taker zero xs bs ys rest fits e = record {
  more = [];
  is = sym (same_value xs ys bs rest e) ∙ sym (append-nil xs);
  count = refl;
  takes = record { parts = same_rest xs ys bs rest e; rest_fits = subst IsBytes (same_rest xs ys bs rest e) fits };
  fit = All-nil Fits;
}
some_taken one bytes Fits taker (suc n) xs bs ys rest fits e =
    let h = then_ok (one xs bs) (λ x after. some_at one n (xs ++ x ∷ []) after) ys rest e in
    let p = taker xs bs h.0 h.1 fits h.2 in
    let q = some_taken one bytes Fits taker n (xs ++ h.0 ∷ []) h.1 ys rest p.0.rest_fits h.3 in
    record {
      more = h.0 ∷ q.more;
      is = q.is ∙ append_assoc xs (h.0 ∷ []) q.more;
      count = omega (arith, q.count);
      takes = Takes-then bs (bytes h.0) h.1 (flat_map bytes q.more) rest p.0 q.takes;
      fit = All-cons Fits h.0 q.more p.1 q.fit;
    }

-- what holds of no things, and of one more where it holds of those before it
pub some_kept : {A : Type 0} (one : List A → List ℕ → Parsed A) (P : List A → Type 0)
    → ((xs : List A) (bs : List ℕ) (x : A) (rest : List ℕ) → P xs → one xs bs ≡ Ok (x, rest) → P (xs ++ x ∷ []))
    → (n : ℕ) (xs : List A) (bs : List ℕ) (ys : List A) (rest : List ℕ) → P xs → some_at one n xs bs ≡ Ok (ys, rest) → P ys
some_kept one P more zero xs bs ys rest h e = subst P (same_value xs ys bs rest e) h
some_kept one P more (suc n) xs bs ys rest h e =
    let q = then_ok (one xs bs) (λ x after. some_at one n (xs ++ x ∷ []) after) ys rest e in
    some_kept one P more n (xs ++ q.0 ∷ []) q.1 ys rest (more xs bs q.0 q.1 h q.2) q.3

pub list_kept : {A : Type 0} (end : ℕ) (one : List A → List ℕ → Parsed A) (P : List A → Type 0)
    → ((xs : List A) (bs : List ℕ) (x : A) (rest : List ℕ) → P xs → one xs bs ≡ Ok (x, rest) → P (xs ++ x ∷ []))
    → (bs : List ℕ) (ys : List A) (rest : List ℕ) → P [] → list_at end one bs ≡ Ok (ys, rest) → P ys
list_kept end one P more bs ys rest h e =
    let q = then_ok (part_at end number_at bs) (λ n after. some_at one n [] after) ys rest e in
    some_kept one P more q.0 [] q.1 ys rest h q.3

pub record ReadsList {A : Type 0} (bytes : A → List ℕ) (Fits : A → Type 0) (bs : List ℕ) (xs : List A) (rest : List ℕ) : Type 0 where
  pub takes : Takes bs (listed bytes xs) rest
  pub fit : All Fits xs
  pub few : length xs < 2 ^ 32

pub list_taken : {A : Type 0} (end : ℕ) (one : List A → List ℕ → Parsed A) (bytes : A → List ℕ) (Fits : A → Type 0) → Taker one bytes Fits
    → (bs : List ℕ) (xs : List A) (rest : List ℕ) → IsBytes bs → list_at end one bs ≡ Ok (xs, rest) → ReadsList bytes Fits bs xs rest
list_taken {A} end one bytes Fits taker bs xs rest fits e =
    let h = then_ok (part_at end number_at bs) (λ n after. some_at one n [] after) xs rest e in
    let p = number_codec.taken bs h.0 h.1 fits (placed_ok (end - length bs) (number_at bs) h.0 h.1 h.2) in
    let q = some_taken one bytes Fits taker h.0 [] h.1 xs rest p.0.rest_fits h.3 in
    let made : ReadsList bytes Fits bs q.more rest = record {
      takes = Takes-then bs (be32 (length q.more)) h.1 (flat_map bytes q.more) rest (subst (λ (n : ℕ). Takes bs (be32 n) h.1) (sym q.count) p.0) q.takes;
      fit = q.fit;
      few = omega (arith, q.count, p.1);
    } in
    subst (λ (ys : List A). ReadsList bytes Fits bs ys rest) (sym q.is) made

-- ---- functions, roots and records

pub func_taken : (bs : List ℕ) (f : List ℕ × List ℕ) (rest : List ℕ) → IsBytes bs → func_at bs ≡ Ok (f, rest) → Takes bs (enc_func f) rest × IsFunc f
unfolding func_at enc_func
func_taken bs f rest fits e =
    let h = part_then (text_at bs) (λ name after. then_part (bytes_at 32 after) (λ digest left. Ok ((name, digest), left))) f rest e in
    let p = text_codec.taken bs h.0 h.1 fits h.2 in
    let l = last_ok (bytes_codec 32) (λ (x : List ℕ). (h.0, x)) h.1 f rest p.0.rest_fits h.3 in
    subst (λ (x : List ℕ × List ℕ). Takes bs (counted x.0 ++ x.1) rest × IsFunc x) l.1
    (Takes-then bs (counted h.0) h.1 l.0 rest p.0 l.2, (p.1.0, p.1.1, l.3))

pub funcs_taker : (end : ℕ) → Taker (next_func end) enc_func IsFunc
unfolding next_func
funcs_taker end fs bs f rest fits e =
    let h = then_ok (part_at end func_at bs) (λ g left. ordered (end - length bs) (name_last fs g.0) g left) f rest e in
    let o = ordered_ok (end - length bs) (name_last fs h.0.0) h.0 h.1 f rest h.3 in
    let p = func_taken bs h.0 h.1 fits (placed_ok (end - length bs) (func_at bs) h.0 h.1 h.2) in
    subst (λ (g : List ℕ × List ℕ). Takes bs (enc_func g) rest × IsFunc g) o.0 (subst (Takes bs (enc_func h.0)) o.1 p.0, p.1)

abbrev pub FuncBefore : List ℕ × List ℕ → List ℕ × List ℕ → Type 0
FuncBefore f g = Ahead (length f.0) (length g.0) (slice_cmp nat_cmp f.0 g.0)

pub funcs_push : (end : ℕ) (fs : List (List ℕ × List ℕ)) (bs : List ℕ) (f : List ℕ × List ℕ) (rest : List ℕ) → AllPairs FuncBefore fs
    → next_func end fs bs ≡ Ok (f, rest) → AllPairs FuncBefore (fs ++ f ∷ [])
unfolding next_func
funcs_push end fs bs f rest h e =
    let q = then_ok (part_at end func_at bs) (λ g left. ordered (end - length bs) (name_last fs g.0) g left) f rest e in
    let o = ordered_ok (end - length bs) (name_last fs q.0.0) q.0 q.1 f rest q.3 in
    let last : name_last fs f.0 ≡ true = ap (λ (g : List ℕ × List ℕ). name_last fs g.0) (sym o.0) ∙ o.2 in
    pairs_push FuncBefore fs f (ahead_trans (λ (g : List ℕ × List ℕ). length g.0) (λ (g : List ℕ × List ℕ). g.0)) h
    (λ k d long.
    let g = get_or fs k d in
    ahead_is (length g.0) (length f.0) (slice_cmp nat_cmp g.0 f.0)
    (sym (ap (λ (x : Option (List ℕ × List ℕ)). name_follows x f.0) (last_is fs k d long)) ∙ last))

pub table_of : (fs : List (List ℕ × List ℕ)) → length fs < 2 ^ 32 → All IsFunc fs → AllPairs FuncBefore fs → AreFuncs fs
table_of fs few fit h = record {
  few = few;
  short = λ i d lt. (fit i d lt).0;
  ascending = λ i j d lt within.
      let f = get_or fs i d in
      let g = get_or fs j d in
      ahead_on (length f.0) (length g.0) (slice_cmp nat_cmp f.0 g.0) (h i j d lt within);
}

abbrev pub root_bytes : Task × ℕ → List ℕ
root_bytes r = enc_task r.0

abbrev pub IsRoot : Task × ℕ → Type 0
IsRoot r = IsStored r.0

pub roots_taker : (end : ℕ) → Taker (next_root end) root_bytes IsRoot
unfolding next_root
roots_taker end rs bs r rest fits e =
    let h = then_ok (part_at end task_at bs) (λ task left. Ok ((task, end - length bs), left)) r rest e in
    let p = task_codec.taken bs h.0 h.1 fits (placed_ok (end - length bs) (task_at bs) h.0 h.1 h.2) in
    let s : IsStored h.0 = record { encodable = p.1.0; name = p.1.1.0; leaves = p.1.1.1; bytes = refl } in
    subst (λ (x : Task × ℕ). Takes bs (root_bytes x) rest × IsRoot x) (same_value (h.0, end - length bs) r h.1 rest h.3)
    (subst (Takes bs (enc_task h.0)) (same_rest (h.0, end - length bs) r h.1 rest h.3) p.0, s)

abbrev pub row_bytes : TaskRecord × ℕ → List ℕ
row_bytes r = enc_record r.0

abbrev pub IsRankedRow : TaskRecord × ℕ → Type 0
IsRankedRow r = IsRow r.0

pub ranked_ok : (at : ℕ) (o : Option ℕ) (x : TaskRecord) (mid : List ℕ) (r : TaskRecord × ℕ) (rest : List ℕ) → ranked_as at o x mid ≡ Ok (r, rest)
    → (x ≡ r.0) × (mid ≡ rest) × (o ≡ Some r.1)
ranked_ok at None x mid r rest e = absurd (cc)
ranked_ok at (Some h) x mid r rest e =
    let p = same_value (x, h) r mid rest e in
    (ap (λ (q : TaskRecord × ℕ). q.0) p, same_rest (x, h) r mid rest e, ap (λ (q : TaskRecord × ℕ). Some q.1) p)

pub rows_taker : (known : List ℕ → Bool) (end : ℕ) → Taker (next_row known end) row_bytes IsRankedRow
unfolding next_row
rows_taker known end rows bs r rest fits e =
    let h = then_ok (part_at end record_at bs) (λ x left. ranked_as (end - length bs) (height_after known rows x) x left) r rest e in
    let o = ranked_ok (end - length bs) (height_after known rows h.0) h.0 h.1 r rest h.3 in
    let p = record_codec.taken bs h.0 h.1 fits (placed_ok (end - length bs) (record_at bs) h.0 h.1 h.2) in
    let s : IsRow h.0 = record { storable = p.1.0; parts = p.1.1; bytes = refl } in
    subst (λ (x : TaskRecord). Takes bs (enc_record x) rest × IsRow x) o.0 (subst (Takes bs (enc_record h.0)) o.1 p.0, s)

pub rows_push : (known : List ℕ → Bool) (end : ℕ) (rows : Ranked) (bs : List ℕ) (r : TaskRecord × ℕ) (rest : List ℕ) → AreKept known rows
    → next_row known end rows bs ≡ Ok (r, rest) → AreKept known (rows ++ r ∷ [])
unfolding next_row
rows_push known end rows bs r rest k e =
    let h = then_ok (part_at end record_at bs) (λ x left. ranked_as (end - length bs) (height_after known rows x) x left) r rest e in
    let o = ranked_ok (end - length bs) (height_after known rows h.0) h.0 h.1 r rest h.3 in
    kept_push known rows r k (ap (height_after known rows) (sym o.0) ∙ o.2)

-- the parts of a record have canonical bytes
pub row_stored : (r : TaskRecord) → IsRow r → IsStored r.task
row_stored r w = record { encodable = w.storable.task; name = w.parts.task.0; leaves = w.parts.task.1; bytes = refl }

pub deps_stored : (r : TaskRecord) → IsRow r → All (λ (d : Dep). IsStoredOn d.what) r.deps
deps_stored r w i d lt = by (get_or r.deps i d).what (w.storable.deps i d lt).what (w.parts.deps i d lt).0
  where
    by : (what : DepOn) → IsStorableOn what → IsTrueOn what → IsStoredOn what
    by (File path) s t = tt
    by (Called task) s t = record { encodable = s; name = t.0; leaves = t.1; bytes = refl }

pub rows_stored : (rows : List TaskRecord) → All IsRow rows → All IsStored (tasks_in rows)
rows_stored [] h = All-nil IsStored
rows_stored (r ∷ rows) h =
    All-cons IsStored r.task (tasks_in rows) (row_stored r (All-head IsRow r rows h)) (rows_stored rows (All-tail IsRow r rows h))

-- each root has a record
pub roots_found : (rows : Ranked) (roots : List (Task × ℕ)) → All IsStored (tasks_in (rows_of rows)) → All IsRoot roots
    → first_missing rows roots ≡ None → All (λ (r : Task × ℕ). Contains (tasks_in (rows_of rows)) r.0) roots
roots_found rows [] stored fit e = All-nil _
roots_found rows (r ∷ roots) stored fit e =
    by (rank_in rows r.0) refl e (λ f. roots_found rows roots stored (All-tail IsRoot r roots fit) f)
  where
    Has : Task × ℕ → Type 0
    Has x = Contains (tasks_in (rows_of rows)) x.0

    by : (o : Option ℕ) → rank_in rows r.0 ≡ o → cond (is_some o) (first_missing rows roots) (Some r.1) ≡ None
        → (first_missing rows roots ≡ None → All Has roots) → All Has (r ∷ roots)
    by None f g more = absurd (cc)
    by (Some h) f g more = All-cons Has r roots (rank_contains rows r.0 h stored (All-head IsRoot r roots fit) f) (more g)
