-- Bytes that have a fault in a list are refused with it: roots and records.
use Rattle.std.proofs.Common.{◌≡◌, ℕ, ◌+◌, ◌-◌, ◌<◌, ◌≤◌, Bool, true, List, [], ◌∷◌, ◌++◌, length}
use Rattle.std.proofs.Common.{Ok, Err, refl, sym, ap, subst, ◌∙◌, arith, inl, inr}
use Rattle.std.specs.Prelude.{All, Option, Some, None}
use Rattle.std.specs.List.{flat_map}
use Rattle.std.proofs.lemmas.List.{length-map, get_or-map, map-append}
use Rattle.std.proofs.lemmas.List.Elements.{All-nil, All-cons, All-head, All-tail, All-push}
use Rattle.pie_value.specs.declared.task.Task.{Task}
use Rattle.pie_value.specs.Canonical.{enc_task}
use Rattle.pie_value.proofs.Taking.{IsBytes, Takes}
use Rattle.pie_record.specs.declared.task_record.TaskRecord.{TaskRecord}
use Rattle.pie_record.specs.Canonical.{enc_record}
use Rattle.pie_record.specs.Reading.{task_at, record_at}
use Rattle.pie_record.proofs.Codecs.{task_codec}
use Rattle.pie_record.proofs.RecordCodec.{record_codec}
use Rattle.pie_store.specs.declared.store_fault.StoreFault.TheVariants.{Row, Order}
use Rattle.pie_store.specs.Canonical.{AreInOrder}
use Rattle.pie_store.specs.Ranks.{height_after, IsStored}
use Rattle.pie_store.specs.Texts.{IsRow}
use Rattle.pie_store.specs.inner.Reading.{Parsed, then_on, part_at, some_at, list_at, next_root, ranked_as, next_row}
use Rattle.pie_store.specs.inner.Reading.{rows_of}
use Rattle.pie_store.specs.ListFaults.{Unreadable, Misplaced}
use Rattle.pie_store.specs.Faults.{AreRows}
use Rattle.pie_store.proofs.Turns.{pair}
use Rattle.pie_store.proofs.Admitted.{AreKept, kept_push}
use Rattle.pie_store.proofs.StoreParts.{row_bytes, IsRankedRow}
use Rattle.pie_store.proofs.StoreTexts.{firsts_flat}
use Rattle.pie_store.proofs.ReadAgain.{part_again, some_again, roots_read, ranked, rows_ranked}
use Rattle.pie_store.proofs.RowsAgain.{order_admitted, rows_read}
use Rattle.pie_store.proofs.Stops.{KnownIs, good_rows}
use Rattle.pie_store.proofs.FaultLists.{Comes, comes_at, then_comes, part_err, list_err, begins_bytes, place_is, short_comes}

-- ---- roots

pub roots_unread : (end : ℕ) (bs : List ℕ) (k : ℕ) → IsBytes bs → length bs ≤ end → Unreadable enc_task IsStored (All IsStored) bs k
    → Comes (list_at end (next_root end) bs) (Row ((end - length bs) + k))
unfolding next_root
roots_unread end bs k fits le (inl h) = short_comes end (next_root end) bs k h
roots_unread end bs k fits le (inr h) =
    let before = h.0 in
    let rest = h.1 in
    let b = h.2 in
    let q = roots_read end before [] rest b.good in
    let fails : Comes (next_root end q.roots rest) (Row (end - length rest)) =
    then_comes (part_at end task_at rest) (λ t after. pair {A = Task × ℕ} (t, end - length rest) after) (Row (end - length rest))
    (part_err task_at enc_task IsStored root_taken end rest (begins_bytes enc_task (All IsStored) bs before rest b fits) h.3) in
    comes_at _ _ _ (ap (λ (m : ℕ). Row m) (place_is enc_task (All IsStored) end bs before rest k b le h.4))
    (list_err end (next_root end) enc_task (All IsStored) bs before rest q.roots (Row (end - length rest)) b q.read fails)
  where
    root_taken : (t : List ℕ) (a : Task) (left : List ℕ) → IsBytes t → task_at t ≡ Ok (a, left) → Takes t (enc_task a) left × IsStored a
    root_taken t a left f e =
        let p = task_codec.taken t a left f e in (p.0, record { encodable = p.1.0; name = p.1.1.0; leaves = p.1.1.1; bytes = refl })

-- ---- records

rows_begun : (known : List ℕ → Bool) (end : ℕ) (rows : List TaskRecord) (rest : List ℕ) (o : AreInOrder rows) → All IsRow rows
    → All (λ (r : TaskRecord). known r.task.func ≡ true) rows
    → some_at (next_row known end) (length rows) [] (flat_map enc_record rows ++ rest) ≡ Ok (ranked o.height rows, rest)
rows_begun known end rows rest o fit func =
    let all = ranked o.height rows in
    let many : length all ≡ length rows = length-map {B = TaskRecord × ℕ} rows (λ (r : TaskRecord). (r, o.height r.task)) in
    let bytes : flat_map row_bytes all ≡ flat_map enc_record rows = firsts_flat {B = ℕ} enc_record all ∙ ap (flat_map enc_record) (rows_ranked o.height rows) in
    ap (λ (n : ℕ). some_at (next_row known end) n [] (flat_map enc_record rows ++ rest)) (sym many)
    ∙ ap (λ (t : List ℕ). some_at (next_row known end) (length all) [] (t ++ rest)) (sym bytes)
    ∙ some_again (next_row known end) row_bytes all (rows_read known end rows o fit func) all [] rest refl

row_taken : (t : List ℕ) (a : TaskRecord) (left : List ℕ) → IsBytes t → record_at t ≡ Ok (a, left) → Takes t (enc_record a) left × IsRow a
row_taken t a left f e = let p = record_codec.taken t a left f e in (p.0, record { storable = p.1.0; parts = p.1.1; bytes = refl })

-- records in order are kept
order_kept : (known : List ℕ → Bool) (rows : List TaskRecord) (o : AreInOrder rows) → All IsRow rows
    → All (λ (r : TaskRecord). known r.task.func ≡ true) rows → AreKept known (ranked o.height rows)
order_kept known rows o fit func = record {
  admitted = order_admitted known rows o fit func;
  ascending = λ i j d lt in_list.
      let inside : j < length rows = omega (arith, in_list, length-map {B = TaskRecord × ℕ} rows (λ (r : TaskRecord). (r, o.height r.task))) in
      rw (
        get_or-map (λ (r : TaskRecord). (r, o.height r.task)) rows i d.0 d (omega (arith, lt, inside)),
        get_or-map (λ (r : TaskRecord). (r, o.height r.task)) rows j d.0 d inside,
      )
      (o.ascending i j d.0 lt inside);
}

ranked_rows : (height : Task → ℕ) (rows : List TaskRecord) → All IsRow rows → All IsRankedRow (ranked height rows)
ranked_rows height [] h = All-nil IsRankedRow
ranked_rows height (r ∷ rows) h =
    All-cons IsRankedRow (r, height r.task) (ranked height rows) (All-head IsRow r rows h) (ranked_rows height rows (All-tail IsRow r rows h))

pub rows_unread : (known : List ℕ → Bool) (pipeline : Option (List ℕ)) (funcs : List (List ℕ × List ℕ)) (end : ℕ) (bs : List ℕ) (k : ℕ)
    → KnownIs known pipeline funcs → IsBytes bs → length bs ≤ end → Unreadable enc_record IsRow (AreRows pipeline funcs) bs k
    → Comes (list_at end (next_row known end) bs) (Row ((end - length bs) + k))
unfolding next_row
rows_unread known pipeline funcs end bs k w fits le (inl h) = short_comes end (next_row known end) bs k h
rows_unread known pipeline funcs end bs k w fits le (inr h) =
    let before = h.0 in
    let rest = h.1 in
    let b = h.2 in
    let o = b.good.1 in
    let ys = ranked o.height before in
    let func = w.all_pass before b.good.2 in
    let fails : Comes (next_row known end ys rest) (Row (end - length rest)) =
    then_comes (part_at end record_at rest) (λ r after. ranked_as (end - length rest) (height_after known ys r) r after) (Row (end - length rest))
    (part_err record_at enc_record IsRow row_taken end rest (begins_bytes enc_record (AreRows pipeline funcs) bs before rest b fits) h.3) in
    comes_at _ _ _ (ap (λ (m : ℕ). Row m) (place_is enc_record (AreRows pipeline funcs) end bs before rest k b le h.4))
    (list_err end (next_row known end) enc_record (AreRows pipeline funcs) bs before rest ys (Row (end - length rest)) b
    (rows_begun known end before rest o b.good.0 func) fails)

pub rows_misplaced : (known : List ℕ → Bool) (pipeline : Option (List ℕ)) (funcs : List (List ℕ × List ℕ)) (end : ℕ) (bs : List ℕ) (k : ℕ)
    → KnownIs known pipeline funcs → length bs ≤ end → Misplaced enc_record IsRow (AreRows pipeline funcs) bs k
    → Comes (list_at end (next_row known end) bs) (Order ((end - length bs) + k))
unfolding next_row
rows_misplaced known pipeline funcs end bs k w le h =
    let before = h.0 in
    let x = h.1 in
    let after = h.2 in
    let b = h.3 in
    let o = b.good.1 in
    let ys = ranked o.height before in
    let func = w.all_pass before b.good.2 in
    let rest = enc_record x ++ after in
    let at = end - length rest in
    let fails : next_row known end ys rest ≡ Err (Order at) =
    ap (λ (p : Parsed TaskRecord). then_on p (λ r left. ranked_as at (height_after known ys r) r left))
    (part_again record_codec end x after (h.4.storable, h.4.parts))
    ∙ ap (λ (c : Option ℕ). ranked_as at c x after) (none_after (height_after known (ranked h.3.good.1.height h.0) h.1) refl) in
    comes_at _ _ _ (ap (λ (m : ℕ). Order m) (place_is enc_record (AreRows pipeline funcs) end bs before rest k b le h.6))
    (list_err end (next_row known end) enc_record (AreRows pipeline funcs) bs before rest ys (Order at) b
    (rows_begun known end before rest o b.good.0 func) (inl fails))
  where
    none_after : (c : Option ℕ) → height_after known (ranked h.3.good.1.height h.0) h.1 ≡ c → height_after known (ranked h.3.good.1.height h.0) h.1 ≡ None
    none_after None e = e
    none_after (Some n) e =
        let o = h.3.good.1 in
        let ys = ranked o.height h.0 in
        let all = ys ++ (h.1, n) ∷ [] in
        let kept = kept_push known ys (h.1, n) (order_kept known h.0 o h.3.good.0 (w.all_pass h.0 h.3.good.2)) e in
        let fit : All IsRankedRow all = All-push IsRankedRow ys (h.1, n) (ranked_rows o.height h.0 h.3.good.0) h.4 in
        let rows : rows_of all ≡ h.0 ++ h.1 ∷ [] =
        map-append (λ (r : TaskRecord × ℕ). r.0) ys ((h.1, n) ∷ []) ∙ ap (λ (l : List TaskRecord). l ++ h.1 ∷ []) (rows_ranked o.height h.0) in
        absurd (h.5 (subst (AreRows pipeline funcs) rows (good_rows known pipeline funcs all w fit kept)))
