-- Bytes that have a fault are refused with it: roots and records.
use Rattle.std.proofs.Common.{◌≡◌, ℕ, ◌+◌, ◌-◌, ◌^◌, ◌<◌, ◌≤◌, Bool, true, false, cond, List, [], ◌∷◌, ◌++◌, length}
use Rattle.std.proofs.Common.{Result, Ok, Err, refl, sym, ap, subst, ◌∙◌, arith, inl, inr}
use Rattle.std.specs.Prelude.{All, Contains, Option, Some, None, is_some}
use Rattle.std.specs.List.{flat_map}
use Rattle.std.proofs.lemmas.List.{length-append, length-map}
use Rattle.std.proofs.lemmas.List.Elements.{All-head, All-tail}
use Rattle.pie_value.specs.declared.task.Task.{Task}
use Rattle.pie_value.specs.Canonical.{enc_task}
use Rattle.pie_value.proofs.Taking.{IsBytes}
use Rattle.pie_record.specs.declared.task_record.TaskRecord.{TaskRecord}
use Rattle.pie_record.specs.Canonical.{listed, enc_record}
use Rattle.pie_store.specs.declared.image.StoreImage.{StoreImage}
use Rattle.pie_store.specs.declared.store_fault.StoreFault.{StoreFault}
use Rattle.pie_store.specs.declared.store_fault.StoreFault.TheVariants.{Row, Order, Rest as More}
use Rattle.pie_store.specs.Canonical.{tasks_in}
use Rattle.pie_store.specs.Ranks.{Ranked, rank_in, IsStored}
use Rattle.pie_store.specs.Texts.{IsRow}
use Rattle.pie_store.specs.inner.Reading.{Parsed, list_at, next_root, next_row, first_missing, closed, tasks_of, then_image, image_of, tail_of}
use Rattle.pie_store.specs.ListFaults.{Unreadable, Misplaced}
use Rattle.pie_store.specs.Faults.{AreRows, Head, Roots, Rows, roots_at, rows_at}
use Rattle.pie_store.proofs.Closing.{left_over as left_after}
use Rattle.pie_store.proofs.StoreParts.{row_bytes, rows_stored}
use Rattle.pie_store.proofs.StoreTexts.{firsts_listed}
use Rattle.pie_store.proofs.ReadAgain.{list_again, root_list_read, ranked, rows_ranked, rank_missing}
use Rattle.pie_store.proofs.RowsAgain.{rows_read, none_missing}
use Rattle.pie_store.proofs.Stops.{KnownIs}
use Rattle.pie_store.proofs.TailFaults.{root_place, front_all}
use Rattle.pie_store.proofs.FaultLists.{Comes, comes_by, comes_at, back_bytes}
use Rattle.pie_store.proofs.FaultAgain.{roots_unread, rows_unread, rows_misplaced}

-- ---- roots and records

pub then_image_comes : {A : Type 0} (p : Parsed A) (k : A → List ℕ → Result StoreImage StoreFault) (e : StoreFault) → Comes p e → Comes (then_image p k) e
then_image_comes {A} p k e (inl h) = inl (ap (λ (q : Parsed A). then_image q k) h)
then_image_comes {A} p k e (inr h) = inr (ap (λ (q : Parsed A). then_image q k) h)

pub record RootsDone (end : ℕ) (bs : List ℕ) (r : Roots bs) : Type 0 where
  pub roots : List (Task × ℕ)
  pub tasks_are : tasks_of roots ≡ r.roots
  pub read : list_at end (next_root end) bs ≡ Ok (roots, r.rest)

pub roots_done : (end : ℕ) (bs : List ℕ) (r : Roots bs) → RootsDone end bs r
roots_done end bs r =
    let q = root_list_read end r.roots r.rest r.stored r.few in
    record { roots = q.roots; tasks_are = q.tasks_are; read = ap (list_at end (next_root end)) r.parts ∙ q.read }

pub rows_done : (known : List ℕ → Bool) (pipeline : Option (List ℕ)) (funcs : List (List ℕ × List ℕ)) (end : ℕ) (bs : List ℕ) (w : Rows pipeline funcs bs)
    → KnownIs known pipeline funcs → list_at end (next_row known end) bs ≡ Ok (ranked w.good.1.height w.rows, w.rest)
rows_done known pipeline funcs end bs w k =
    let o = w.good.1 in
    let all = ranked o.height w.rows in
    let few : length all < 2 ^ 32 = omega (arith, w.few, length-map {B = TaskRecord × ℕ} w.rows (λ (r : TaskRecord). (r, o.height r.task))) in
    let bytes : listed enc_record w.rows ≡ listed row_bytes all =
    ap (λ (l : List TaskRecord). listed enc_record l) (sym (rows_ranked o.height w.rows)) ∙ sym (firsts_listed {B = ℕ} enc_record all) in
    ap (list_at end (next_row known end)) (w.parts ∙ ap (λ (t : List ℕ). t ++ w.rest) bytes)
    ∙ list_again end (next_row known end) row_bytes all w.rest (rows_read known end w.rows o w.good.0 (k.all_pass w.rows w.good.2)) few

abbrev pub after_rows : ℕ → Option (List ℕ) → List (List ℕ × List ℕ) → List (Task × ℕ) → Ranked → List ℕ → Result StoreImage StoreFault
after_rows v p f roots rows rest = closed (first_missing rows roots) rest (image_of v p f roots rows)

abbrev pub after_roots : ℕ → (List ℕ → Bool) → ℕ → Option (List ℕ) → List (List ℕ × List ℕ) → List (Task × ℕ) → List ℕ → Result StoreImage StoreFault
after_roots end known v p f roots mid = then_image (list_at end (next_row known end) mid) (after_rows v p f roots)

-- what is known of the place of the roots
pub record Placed {version : ℕ} {inside : List ℕ} (h : Head version inside) (end : ℕ) : Type 0 where
  pub fits : IsBytes h.rest
  pub within : length h.rest ≤ end
  pub at : end - length h.rest ≡ roots_at h

pub record RowsPlaced {version : ℕ} {inside : List ℕ} (h : Head version inside) (r : Roots h.rest) (end : ℕ) : Type 0 where
  pub fits : IsBytes r.rest
  pub within : length r.rest ≤ end
  pub at : end - length r.rest ≡ rows_at h r

pub rows_placed : {version : ℕ} {inside : List ℕ} (h : Head version inside) (r : Roots h.rest) (end : ℕ) → Placed h end → RowsPlaced h r end
rows_placed h r end p =
    let shorter : length h.rest ≡ length (listed enc_task r.roots) + length r.rest = ap length r.parts ∙ length-append (listed enc_task r.roots) r.rest in
    let le = p.within in
    let at = p.at in
    record {
      fits = back_bytes (listed enc_task r.roots) r.rest (subst IsBytes r.parts p.fits);
      within = omega (arith, shorter, le);
      at = omega (arith, shorter, le, at);
    }

-- the fault of a tail, whatever is said before it
abbrev pub TailComes : {version : ℕ} {inside : List ℕ} → Head version inside → ℕ → StoreFault → Type 0
TailComes h end e =
    (known : List ℕ → Bool) (v : ℕ) (p : Option (List ℕ)) (f : List (List ℕ × List ℕ)) → KnownIs known h.pipeline h.funcs
    → Comes (tail_of end known v p f h.rest) e

pub tail_root : (version : ℕ) (inside : List ℕ) (h : Head version inside) (end k : ℕ) → Placed h end → Unreadable enc_task IsStored (All IsStored) h.rest k
    → TailComes h end (Row (roots_at h + k))
tail_root version inside h end k pl u known v p f w =
    comes_at _ _ _ (ap (λ (m : ℕ). Row (m + k)) pl.at)
    (then_image_comes (list_at end (next_root end) h.rest) (after_roots end known v p f) (Row ((end - length h.rest) + k))
    (roots_unread end h.rest k pl.fits pl.within u))

pub tail_row : (version : ℕ) (inside : List ℕ) (h : Head version inside) (r : Roots h.rest) (end k : ℕ) → Placed h end
    → Unreadable enc_record IsRow (AreRows h.pipeline h.funcs) r.rest k → TailComes h end (Row (rows_at h r + k))
tail_row version inside h r end k pl u known v p f w =
    let q = roots_done end h.rest r in
    let pr = rows_placed h r end pl in
    comes_by _ (after_roots end known v p f q.roots r.rest) _ (ap (λ (x : Parsed (List (Task × ℕ))). then_image x (after_roots end known v p f)) q.read)
    (comes_at _ _ _ (ap (λ (m : ℕ). Row (m + k)) pr.at)
    (then_image_comes (list_at end (next_row known end) r.rest) (after_rows v p f q.roots) (Row ((end - length r.rest) + k))
    (rows_unread known h.pipeline h.funcs end r.rest k w pr.fits pr.within u)))

pub tail_misplaced : (version : ℕ) (inside : List ℕ) (h : Head version inside) (r : Roots h.rest) (end k : ℕ) → Placed h end
    → Misplaced enc_record IsRow (AreRows h.pipeline h.funcs) r.rest k → TailComes h end (Order (rows_at h r + k))
tail_misplaced version inside h r end k pl u known v p f w =
    let q = roots_done end h.rest r in
    let pr = rows_placed h r end pl in
    comes_by _ (after_roots end known v p f q.roots r.rest) _ (ap (λ (x : Parsed (List (Task × ℕ))). then_image x (after_roots end known v p f)) q.read)
    (comes_at _ _ _ (ap (λ (m : ℕ). Order (m + k)) pr.at)
    (then_image_comes (list_at end (next_row known end) r.rest) (after_rows v p f q.roots) (Order ((end - length r.rest) + k))
    (rows_misplaced known h.pipeline h.funcs end r.rest k w pr.within u)))

-- the tail once roots and records are read
pub tail_done : (version : ℕ) (inside : List ℕ) (h : Head version inside) (r : Roots h.rest) (w : Rows h.pipeline h.funcs r.rest) (end : ℕ)
    (known : List ℕ → Bool) (v : ℕ) (p : Option (List ℕ)) (f : List (List ℕ × List ℕ)) → KnownIs known h.pipeline h.funcs
    → tail_of end known v p f h.rest ≡ after_rows v p f (roots_done end h.rest r).roots (ranked w.good.1.height w.rows) w.rest
tail_done version inside h r w end known v p f k =
    let q = roots_done end h.rest r in
    ap (λ (x : Parsed (List (Task × ℕ))). then_image x (after_roots end known v p f)) q.read
    ∙ ap (λ (x : Parsed Ranked). then_image x (after_rows v p f q.roots)) (rows_done known h.pipeline h.funcs end r.rest w k)

pub record Split (roots : List (Task × ℕ)) (before : List Task) (root : Task) (after : List Task) : Type 0 where
  pub b : List (Task × ℕ)
  pub r : Task × ℕ
  pub a : List (Task × ℕ)
  pub parts : roots ≡ b ++ r ∷ a
  pub before_is : tasks_of b ≡ before
  pub root_is : r.0 ≡ root

pub split_roots : (roots : List (Task × ℕ)) (before : List Task) (root : Task) (after : List Task) → tasks_of roots ≡ before ++ root ∷ after
    → Split roots before root after
split_roots [] [] root after e = absurd (cc (e))
split_roots [] (t ∷ before) root after e = absurd (cc (e))
split_roots (x ∷ roots) [] root after e = record { b = []; r = x; a = roots; parts = refl; before_is = refl; root_is = cc }
split_roots (x ∷ roots) (t ∷ before) root after e =
    let q = split_roots roots before root after (cc) in
    let first : x.0 ≡ t = cc in
    record {
      b = x ∷ q.b;
      r = q.r;
      a = q.a;
      parts = ap (λ (l : List (Task × ℕ)). x ∷ l) q.parts;
      before_is = ap (λ (l : List Task). x.0 ∷ l) q.before_is ∙ ap (λ (y : Task). y ∷ before) first;
      root_is = q.root_is;
    }

pub first_is : (rows : Ranked) (b : List (Task × ℕ)) (r : Task × ℕ) (a : List (Task × ℕ)) → first_missing rows b ≡ None → rank_in rows r.0 ≡ None
    → first_missing rows (b ++ r ∷ a) ≡ Some r.1
first_is rows [] r a e f = ap (λ (o : Option ℕ). cond (is_some o) (first_missing rows a) (Some r.1)) f
first_is rows (x ∷ b) r a e f = by (is_some (rank_in rows x.0)) e (λ g. first_is rows b r a g f)
  where
    by : (c : Bool) → cond c (first_missing rows b) (Some x.1) ≡ None → (first_missing rows b ≡ None → first_missing rows (b ++ r ∷ a) ≡ Some r.1)
        → cond c (first_missing rows (b ++ r ∷ a)) (Some x.1) ≡ Some r.1
    by true g more = more g
    by false g more = absurd (cc (g))

pub tail_missing : (version : ℕ) (inside : List ℕ) (h : Head version inside) (r : Roots h.rest) (w : Rows h.pipeline h.funcs r.rest) (before : List Task)
    (root : Task)
    (after : List Task) (end : ℕ) → Placed h end → r.roots ≡ before ++ root ∷ after → All (λ (t : Task). Contains (tasks_in w.rows) t) before
    → ¬ (Contains (tasks_in w.rows) root) → TailComes h end (Order (roots_at h + (4 + length (flat_map enc_task before))))
tail_missing version inside h r w before root after end pl split found absent known v p f k =
    let q = roots_done end h.rest r in
    let rows = ranked w.good.1.height w.rows in
    let s = split_roots q.roots before root after (q.tasks_are ∙ split) in
    let stored = rows_stored w.rows w.good.0 in
    let named : All IsStored (before ++ root ∷ after) = subst (All IsStored) split r.stored in
    let fronts : All IsStored before = front_all IsStored before (root ∷ after) named in
    let own : IsStored root = All-head IsStored root after (behind before (root ∷ after) named) in
    let early : first_missing rows s.b ≡ None =
    none_missing w.good.1.height w.rows s.b stored (subst (All IsStored) (sym s.before_is) fronts)
    (subst (All (λ (t : Task). Contains (tasks_in w.rows) t)) (sym s.before_is) found) in
    let gone : rank_in rows s.r.0 ≡ None =
    ap (rank_in rows) s.root_is ∙ rank_missing w.good.1.height w.rows root stored own absent in
    let first : first_missing rows q.roots ≡ Some s.r.1 = ap (first_missing rows) s.parts ∙ first_is rows s.b s.r s.a early gone in
    let bytes : h.rest ≡ listed enc_task (tasks_of q.roots) ++ r.rest =
    r.parts ∙ ap (λ (l : List Task). listed enc_task l ++ r.rest) (sym q.tasks_are) in
    let place = root_place end h.rest q.roots r.rest s.b s.r s.a pl.within (subst (All IsStored) (sym q.tasks_are) r.stored)
    (subst (λ (l : List Task). length l < 2 ^ 32) (sym q.tasks_are) r.few) bytes q.read s.parts in
    let offset : s.r.1 ≡ roots_at h + (4 + length (flat_map enc_task before)) =
    place ∙ ap (λ (m : ℕ). m + (4 + length (flat_map enc_task (tasks_of s.b)))) pl.at
    ∙ ap (λ (l : List Task). roots_at h + (4 + length (flat_map enc_task l))) s.before_is in
    inl (tail_done version inside h r w end known v p f k
    ∙ ap (λ (o : Option ℕ). closed o w.rest (image_of v p f q.roots rows)) first ∙ ap (λ (m : ℕ). Err (Order m)) offset)
  where
    behind : (xs ys : List Task) → All IsStored (xs ++ ys) → All IsStored ys
    behind [] ys a = a
    behind (x ∷ xs) ys a = behind xs ys (All-tail IsStored x (xs ++ ys) a)

pub tail_left : (version : ℕ) (inside : List ℕ) (h : Head version inside) (r : Roots h.rest) (w : Rows h.pipeline h.funcs r.rest) (end : ℕ)
    → All (λ (t : Task). Contains (tasks_in w.rows) t) r.roots → 0 < length w.rest → TailComes h end More
tail_left version inside h r w end found lt known v p f k =
    let q = roots_done end h.rest r in
    let rows = ranked w.good.1.height w.rows in
    let none : first_missing rows q.roots ≡ None =
    none_missing w.good.1.height w.rows q.roots (rows_stored w.rows w.good.0) (subst (All IsStored) (sym q.tasks_are) r.stored)
    (subst (All (λ (t : Task). Contains (tasks_in w.rows) t)) (sym q.tasks_are) found) in
    inl (tail_done version inside h r w end known v p f k ∙ ap (λ (o : Option ℕ). closed o w.rest (image_of v p f q.roots rows)) none
    ∙ left_after w.rest (image_of v p f q.roots rows) lt)
