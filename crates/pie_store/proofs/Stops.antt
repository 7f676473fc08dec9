-- Where reading roots and records stops.
use Rattle.std.proofs.Common.{◌≡◌, ℕ, zero, suc, ◌+◌, ◌-◌, ◌<◌, ◌≤◌, Bool, true, List, [], ◌∷◌, ◌++◌, length, get_or, take}
use Rattle.std.proofs.Common.{Ok, Err, refl, sym, ap, subst, ◌∙◌, arith, inl, inr}
use Rattle.std.specs.Prelude.{All, Option, Some, None, ◌⊎◌}
use Rattle.std.specs.List.{flat_map}
use Rattle.std.proofs.lemmas.List.{length-map, get_or-map, get_or_append_left, get_or_push, length_push}
use Rattle.std.proofs.Math.Seq.{take-suc, take-length}
use Rattle.std.proofs.lemmas.List.Elements.{All-nil, All-push}
use Rattle.pie_value.specs.declared.task.Task.{Task}
use Rattle.pie_value.specs.Canonical.{be32, enc_task}
use Rattle.pie_value.proofs.Taking.{IsBytes}
use Rattle.pie_record.specs.declared.task_record.TaskRecord.{TaskRecord}
use Rattle.pie_record.specs.Canonical.{enc_record}
use Rattle.pie_record.specs.Reading.{task_at, record_at}
use Rattle.pie_record.proofs.Codecs.{task_codec}
use Rattle.pie_record.proofs.RecordCodec.{record_codec}
use Rattle.pie_store.specs.declared.store_fault.StoreFault.{StoreFault}
use Rattle.pie_store.specs.declared.store_fault.StoreFault.TheVariants.{Row, Order}
use Rattle.pie_store.specs.Ranks.{Ranked, height_after, IsStored}
use Rattle.pie_store.specs.Texts.{IsRow, AreKnown}
use Rattle.pie_store.specs.inner.Reading.{rows_of, tasks_of, part_at, list_at, next_root, ranked_as, next_row}
use Rattle.pie_store.specs.ListFaults.{NoneInFront, Unreadable}
use Rattle.pie_store.specs.Faults.{AreRows}
use Rattle.pie_store.proofs.Admitted.{Admits, admits_on, AreAdmitted, AreKept, kept_none, kept_in_order}
use Rattle.pie_store.proofs.StoreParts.{placed_ok, roots_taker, rows_taker, root_bytes, IsRoot, row_bytes, IsRankedRow}
use Rattle.pie_store.proofs.StoreParts.{rows_push, rows_stored, deps_stored}
use Rattle.pie_store.proofs.StoreTexts.{firsts_flat, firsts_all}
use Rattle.pie_store.proofs.ReadAgain.{ranked}
use Rattle.pie_store.proofs.RowsAgain.{order_admitted}
use Rattle.pie_store.proofs.Turns.{pair}
use Rattle.pie_store.proofs.Stopping.{then_err, Named, placed_err, none_in_front, Stops, Keeps, list_stop, stop_place, ListFault}
use Rattle.pie_store.proofs.Stopping.{short_fault}

-- ---- roots

root_fails : (end : ℕ) (xs : List (Task × ℕ)) (bs : List ℕ) (e : StoreFault) → Named e → next_root end xs bs ≡ Err e
    → (e ≡ Row (end - length bs)) × NoneInFront enc_task IsStored bs
unfolding next_root
root_fails end xs bs e n x = by (then_err (part_at end task_at bs) (λ t rest. Ok ((t, end - length bs), rest)) e x)
  where
    by : (part_at end task_at bs ≡ Err e) ⊎ ((t : Task) × (mid : List ℕ) × (part_at end task_at bs ≡ Ok (t, mid))
        × (pair {A = Task × ℕ} (t, end - length bs) mid ≡ Err e)) → (e ≡ Row (end - length bs)) × NoneInFront enc_task IsStored bs
    by (inl g) =
        let h = placed_err (end - length bs) (task_at bs) e n g in
        (h.0, none_in_front task_at enc_task IsStored (λ t after s. task_codec.again t after (s.encodable, (s.name, s.leaves))) bs h.1.0 h.1.1)
    by (inr h) = absurd (cc (h.3))

pub roots_fault : (end : ℕ) (bs : List ℕ) (e : StoreFault) → IsBytes bs → length bs ≤ end → Named e → list_at end (next_root end) bs ≡ Err e
    → (k : ℕ) × (e ≡ Row ((end - length bs) + k)) × Unreadable enc_task IsStored (All IsStored) bs k
roots_fault end bs e fits le n f =
    by (list_stop end (next_root end) root_bytes IsRoot (All IsRoot) (roots_taker end) (λ xs b x rest p fit g. All-push IsRoot xs x p fit) bs e fits
    (All-nil IsRoot) n f)
  where
    by : ((length bs < 4) × (e ≡ Row (end - length bs))) ⊎ Stops (next_root end) root_bytes (All IsRoot) bs e
        → (k : ℕ) × (e ≡ Row ((end - length bs) + k)) × Unreadable enc_task IsStored (All IsStored) bs k
    by (inl h) =
        let none : end - length bs ≡ (end - length bs) + 0 = omega arith in
        (0, h.1 ∙ ap (λ (k : ℕ). Row k) none, inl (h.0, refl))
    by (inr s) =
        let h = root_fails end s.before s.rest e n s.fails in
        let flat = firsts_flat {B = ℕ} enc_task s.before in (
          4 + length (flat_map root_bytes s.before),
          h.0 ∙ ap (λ (m : ℕ). Row m) (stop_place root_bytes end s.count s.before bs s.rest le s.parts),
          inr (
            tasks_of s.before,
            s.rest,
            record {
              count = s.count;
              number = s.number;
              more = omega (arith, s.more, length-map s.before (λ (r : Task × ℕ). r.0));
              parts = s.parts ∙ ap (λ (l : List ℕ). be32 s.count ++ (l ++ s.rest)) flat;
              good = firsts_all {B = ℕ} IsStored s.before s.kept;
            },
            h.1,
            ap (λ (l : List ℕ). 4 + length l) flat,
          ),
        )

-- ---- records

-- two lists of records with their heights, of the same records, have the same heights
pub same_prefix : (known : List ℕ → Bool) (a b : Ranked) → AreAdmitted known a → AreAdmitted known b
    → ((i : ℕ) (d : TaskRecord × ℕ) → i < length a → i < length b → (get_or a i d).0 ≡ (get_or b i d).0)
    → (n : ℕ) → n ≤ length a → n ≤ length b → take n a ≡ take n b
same_prefix known a b p q same zero la lb = refl
same_prefix known [] b p q same (suc n) la lb = absurd (omega (arith, la))
same_prefix known (r ∷ rows) b p q same (suc n) la lb =
    let a = r ∷ rows in
    let front = same_prefix known a b p q same n (omega (arith, la)) (omega (arith, lb)) in
    let x = get_or a n r in
    let y = get_or b n r in
    let first : x.0 ≡ y.0 = same n r (omega (arith, la)) (omega (arith, lb)) in
    let hx = admits_on known (take n a) x.0 x.1 (p n r (omega (arith, la))) in
    let hy = admits_on known (take n b) y.0 y.1 (q n r (omega (arith, lb))) in
    let second : x.1 ≡ y.1 =
    some_same x.1 y.1 (sym hx ∙ ap (λ (l : Ranked). height_after known l x.0) front ∙ ap (λ (t : TaskRecord). height_after known (take n b) t) first ∙ hy) in
    let whole : x ≡ y = λ i. (first i, second i) in
    take-suc a n r (omega (arith, la)) ∙ ap (λ (l : Ranked). l ++ x ∷ []) front ∙ ap (λ (z : TaskRecord × ℕ). take n b ++ z ∷ []) whole
    ∙ sym (take-suc b n r (omega (arith, lb)))
  where
    some_same : (h k : ℕ) → Some h ≡ Some k → h ≡ k
    some_same h k e = cc

-- which functions are known
pub record KnownIs (known : List ℕ → Bool) (pipeline : Option (List ℕ)) (funcs : List (List ℕ × List ℕ)) : Type 0 where
  pub passes : (rows : List TaskRecord) → All (λ (r : TaskRecord). known r.task.func ≡ true) rows → AreKnown pipeline funcs rows
  pub all_pass : (rows : List TaskRecord) → AreKnown pipeline funcs rows → All (λ (r : TaskRecord). known r.task.func ≡ true) rows

RowsKept : (List ℕ → Bool) → Ranked → Type 0
RowsKept known rows = All IsRankedRow rows × AreKept known rows

rows_keep : (known : List ℕ → Bool) (end : ℕ) → Keeps (next_row known end) IsRankedRow (RowsKept known)
unfolding RowsKept
rows_keep known end rows bs r rest p fit e = (All-push IsRankedRow rows r p.0 fit, rows_push known end rows bs r rest p.1 e)

pub good_rows : (known : List ℕ → Bool) (pipeline : Option (List ℕ)) (funcs : List (List ℕ × List ℕ)) (rows : Ranked) → KnownIs known pipeline funcs
    → All IsRankedRow rows → AreKept known rows → AreRows pipeline funcs (rows_of rows)
good_rows known pipeline funcs rows w fit k =
    let all : All IsRow (rows_of rows) = firsts_all {B = ℕ} IsRow rows fit in (
      all,
      kept_in_order known rows k (rows_stored (rows_of rows) all) (λ j r lt. deps_stored (get_or (rows_of rows) j r) (all j r lt)),
      w.passes (rows_of rows) (firsts_all {B = ℕ} (λ (r : TaskRecord). known r.task.func ≡ true) rows (λ j r lt. (k.admitted j r lt).func)),
    )

-- a record that isn't admitted may not follow
not_admitted : (known : List ℕ → Bool) (pipeline : Option (List ℕ)) (funcs : List (List ℕ × List ℕ)) (rows : Ranked) (x : TaskRecord)
    → KnownIs known pipeline funcs → AreKept known rows → height_after known rows x ≡ None → ¬ (AreRows pipeline funcs (rows_of rows ++ x ∷ []))
not_admitted known pipeline funcs rows x w k e good =
    let all = rows_of rows ++ x ∷ [] in
    let o = good.1 in
    let n = length rows in
    let func = w.all_pass all good.2 in
    let r = order_admitted known all o good.0 func in
    let whole = ranked o.height all in
    let long : length whole ≡ n + 1 =
    omega (
      arith,
      length-map {B = TaskRecord × ℕ} all (λ (z : TaskRecord). (z, o.height z.task)),
      length_push (rows_of rows) x,
      length-map rows (λ (z : TaskRecord × ℕ). z.0),
    ) in
    let firsts : (i : ℕ) (d : TaskRecord × ℕ) → i < length whole → i < n → (get_or whole i d).0 ≡ (get_or rows i d).0 =
    λ i d lw lr.
    ap (λ (z : TaskRecord × ℕ). z.0)
    (get_or-map (λ (z : TaskRecord). (z, o.height z.task)) all i d.0 d
    (omega (arith, lr, length_push (rows_of rows) x, length-map rows (λ (z : TaskRecord × ℕ). z.0))))
    ∙ get_or_append_left (rows_of rows) (x ∷ []) d.0 i (omega (arith, lr, length-map rows (λ (z : TaskRecord × ℕ). z.0)))
    ∙ get_or-map (λ (z : TaskRecord × ℕ). z.0) rows i d d.0 lr in
    let front : take n whole ≡ rows = same_prefix known whole rows r k.admitted firsts n (omega (arith, long)) (omega arith) ∙ take-length rows in
    let last : get_or whole n (x, 0) ≡ (x, o.height x.task) =
    get_or-map (λ (z : TaskRecord). (z, o.height z.task)) all n x (x, 0)
    (omega (arith, length_push (rows_of rows) x, length-map rows (λ (z : TaskRecord × ℕ). z.0)))
    ∙ ap (λ (z : TaskRecord). (z, o.height z.task)) (get_or_push (rows_of rows) x x n (length-map rows (λ (z : TaskRecord × ℕ). z.0))) in
    let a : Admits known rows x (o.height x.task) =
    subst (λ (z : TaskRecord × ℕ). Admits known rows z.0 z.1) last
    (subst (λ (l : Ranked). Admits known l (get_or whole n (x, 0)).0 (get_or whole n (x, 0)).1) front (r n (x, 0) (omega (arith, long)))) in
    absurd (cc (sym e ∙ admits_on known rows x (o.height x.task) a))

row_fails : (known : List ℕ → Bool) (end : ℕ) (rows : Ranked) (bs : List ℕ) (e : StoreFault) → Named e → next_row known end rows bs ≡ Err e
    → ((e ≡ Row (end - length bs)) × NoneInFront enc_record IsRow bs)
    ⊎ ((e ≡ Order (end - length bs)) × ((x : TaskRecord) × (after : List ℕ) × (part_at end record_at bs ≡ Ok (x, after)) × (height_after known rows x ≡ None)))
unfolding next_row
row_fails known end rows bs e n x =
    by (then_err (part_at end record_at bs) (λ r rest. ranked_as (end - length bs) (height_after known rows r) r rest) e x)
  where
    Answer : Type 0
    Answer = ((e ≡ Row (end - length bs)) × NoneInFront enc_record IsRow bs)
        ⊎ ((e ≡ Order (end - length bs)) × ((r : TaskRecord) × (after : List ℕ) × (part_at end record_at bs ≡ Ok (r, after))
        × (height_after known rows r ≡ None)))

    late : (o : Option ℕ) (r : TaskRecord) (mid : List ℕ) → part_at end record_at bs ≡ Ok (r, mid) → height_after known rows r ≡ o
        → ranked_as (end - length bs) o r mid ≡ Err e → Answer
    late (Some h) r mid f l y = absurd (cc)
    late None r mid f l y = inr (cc, (r, mid, f, l))

    by : (part_at end record_at bs ≡ Err e) ⊎ ((r : TaskRecord) × (mid : List ℕ) × (part_at end record_at bs ≡ Ok (r, mid))
        × (ranked_as (end - length bs) (height_after known rows r) r mid ≡ Err e)) → Answer
    by (inl g) =
        let h = placed_err (end - length bs) (record_at bs) e n g in
        inl (h.0, none_in_front record_at enc_record IsRow (λ r after w. record_codec.again r after (w.storable, w.parts)) bs h.1.0 h.1.1)
    by (inr h) = late (height_after known rows h.0) h.0 h.1 h.2 refl h.3

pub rows_fault : (known : List ℕ → Bool) (pipeline : Option (List ℕ)) (funcs : List (List ℕ × List ℕ)) (end : ℕ) (bs : List ℕ) (e : StoreFault)
    → KnownIs known pipeline funcs → IsBytes bs → length bs ≤ end → Named e → list_at end (next_row known end) bs ≡ Err e
    → ListFault enc_record IsRow (AreRows pipeline funcs) (end - length bs) bs e
unfolding RowsKept
rows_fault known pipeline funcs end bs e w fits le n f =
    by (list_stop end (next_row known end) row_bytes IsRankedRow (RowsKept known) (rows_taker known end) (rows_keep known end) bs e fits
    (All-nil IsRankedRow, kept_none known) n f)
  where
    by : ((length bs < 4) × (e ≡ Row (end - length bs))) ⊎ Stops (next_row known end) row_bytes (RowsKept known) bs e
        → ListFault enc_record IsRow (AreRows pipeline funcs) (end - length bs) bs e
    by (inl h) = short_fault enc_record IsRow (AreRows pipeline funcs) (end - length bs) bs e h
    by (inr s) =
        let k = 4 + length (flat_map row_bytes s.before) in
        let flat = firsts_flat {B = ℕ} enc_record s.before in
        let place = stop_place row_bytes end s.count s.before bs s.rest le s.parts in
        let fewer : length (rows_of s.before) < s.count = omega (arith, s.more, length-map s.before (λ (r : TaskRecord × ℕ). r.0)) in
        let parts : bs ≡ be32 s.count ++ (flat_map enc_record (rows_of s.before) ++ s.rest) =
        s.parts ∙ ap (λ (l : List ℕ). be32 s.count ++ (l ++ s.rest)) flat in
        let good = good_rows known pipeline funcs s.before w s.kept.0 s.kept.1 in
        elim (row_fails known end s.before s.rest e n s.fails) [
          | inl h ↦ inl (
            k,
            h.0 ∙ ap (λ (m : ℕ). Row m) place,
            inr (
              rows_of s.before,
              s.rest,
              record { count = s.count; number = s.number; more = fewer; parts = parts; good = good },
              h.1,
              ap (λ (l : List ℕ). 4 + length l) flat,
            ),
          )
          | inr h ↦
              let t = record_codec.taken s.rest h.1.0 h.1.1 s.fits (placed_ok (end - length s.rest) (record_at s.rest) h.1.0 h.1.1 h.1.2) in
              inr (
                k,
                h.0 ∙ ap (λ (m : ℕ). Order m) place,
                (
                  rows_of s.before,
                  h.1.0,
                  h.1.1,
                  record {
                    count = s.count;
                    number = s.number;
                    more = fewer;
                    parts = parts ∙ ap (λ (l : List ℕ). be32 s.count ++ (flat_map enc_record (rows_of s.before) ++ l)) t.0.parts;
                    good = good;
                  },
                  record { storable = t.1.0; parts = t.1.1; bytes = refl },
                  not_admitted known pipeline funcs s.before h.1.0 w s.kept.1 h.1.3,
                  ap (λ (l : List ℕ). 4 + length l) flat,
                ),
              )
        ]
