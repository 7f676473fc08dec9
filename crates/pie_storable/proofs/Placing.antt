-- What is kept by canonical bytes says what records with their heights do.
use Rattle.std.proofs.Common.{◌≡◌, ℕ, ◌+◌, ◌-◌, ◌<◌, Bool, true, false, cond, List, [], ◌∷◌, ◌++◌, length, get_or, drop, take, map, Vec, Global}
use Rattle.std.proofs.Common.{refl, sym, ap, subst, ◌∙◌}
use Rattle.std.specs.Prelude.{All, Option, Some, None, slice_get, is_some, ◌≤◌, ◌&&◌}
use Rattle.std.specs.Map.{lookup}
use Rattle.std.specs.Option.{option_map}
use Rattle.std.specs.Str.{bytes_eq}
use Rattle.std.proofs.lemmas.Slice.Eq.{bytes_eq-Decides}
use Rattle.std.proofs.lemmas.Option.{slice_get-map}
use Rattle.std.proofs.lemmas.List.{length-map, drop_more, take_more, take_all, map-append}
use Rattle.std.proofs.lemmas.List.Elements.{All-push}
use Rattle.pie_value.specs.declared.task.Task.{Task}
use Rattle.pie_value.specs.Canonical.{enc_task}
use Rattle.pie_record.specs.declared.dep.Dep.{Dep}
use Rattle.pie_record.specs.declared.task_record.TaskRecord.{TaskRecord}
use Rattle.pie_store.specs.Ranks.{Ranked, same_task, rank_in, on_some, above_one, above, follows, comes_last, height_after, IsStored}
use Rattle.pie_store.proofs.Admitted.{admits_on}
use Rattle.indexmap.specs.IndexMap.{insert_entry}
use Rattle.indexmap.proofs.CallerLemmas.{insert_entry-new}
use Rattle.pie_storable.specs.declared.heights.Heights.{Heights}
use Rattle.pie_storable.specs.inner.Heights.{Placed, AreHeights, heights_in, height_of, is_after, is_last, entry, placed, HasRank}

same_sym : (a b : List ℕ) → bytes_eq a b ≡ bytes_eq b a
same_sym a b = by (bytes_eq a b) (bytes_eq b a) refl refl
  where
    by : (x y : Bool) → bytes_eq a b ≡ x → bytes_eq b a ≡ y → bytes_eq a b ≡ bytes_eq b a
    by true true e f = e ∙ sym f
    by false false e f = e ∙ sym f
    by true false e f = let g : bytes_eq b a ≡ true = (bytes_eq-Decides b a).1 (sym ((bytes_eq-Decides a b).0 e)) in absurd (cc)
    by false true e f = let g : bytes_eq a b ≡ true = (bytes_eq-Decides a b).1 (sym ((bytes_eq-Decides b a).0 f)) in absurd (cc)

-- a look-up by bytes
pub looked_up : (es : List (Vec ℕ Global × ℕ)) (bytes : List ℕ)
    → lookup (λ (k : Vec ℕ Global). bytes_eq bytes k.items) es ≡ height_of (map entry es) bytes
looked_up [] bytes = refl
looked_up (e ∷ es) bytes =
    ap (λ (b : Bool). cond b (Some e.1) (lookup (λ (k : Vec ℕ Global). bytes_eq bytes k.items) es)) (same_sym bytes e.0.items)
    ∙ ap (λ (o : Option ℕ). cond (bytes_eq e.0.items bytes) (Some e.1) o) (looked_up es bytes)

rank_of : (rows : Ranked) (t : Task) → height_of (map placed rows) (enc_task t) ≡ rank_in rows t
rank_of [] t = refl
rank_of (r ∷ rows) t = ap (λ (o : Option ℕ). cond (same_task r.0.task t) (Some r.1) o) (rank_of rows t)

-- the height by bytes is the one among the records
pub ranked_as : (h : Heights) (rows : Ranked) (t : Task) (bytes : List ℕ) → AreHeights rows h → bytes ≡ enc_task t
    → height_of (heights_in h) bytes ≡ rank_in rows t
ranked_as h rows t bytes are e =
    ap (λ (b : List ℕ). height_of (heights_in h) b) e ∙ ap (λ (p : Placed). height_of p (enc_task t)) are ∙ rank_of rows t

after : (o : Option (TaskRecord × ℕ)) (t : Task) (n : ℕ) → is_after (option_map placed o) (enc_task t) n ≡ follows o t n
after None t n = refl
after (Some r) t n = refl

-- what comes last by bytes comes last among the records
pub last_as : (h : Heights) (rows : Ranked) (t : Task) (bytes : List ℕ) (n : ℕ) → AreHeights rows h → bytes ≡ enc_task t
    → is_last (heights_in h) bytes n ≡ comes_last rows t n
last_as h rows t bytes n are e =
    ap (λ (b : List ℕ). is_last (heights_in h) b n) e
    ∙ ap (λ (p : Placed). is_last p (enc_task t) n) are
    ∙ ap (λ (k : ℕ). is_after (slice_get (map placed rows) (k - 1)) (enc_task t) n) (length-map rows placed)
    ∙ ap (λ (o : Option (List ℕ × ℕ)). is_after o (enc_task t) n) (slice_get-map placed rows (length rows - 1))
    ∙ after (slice_get rows (length rows - 1)) t n

-- ---- what holds of each element so far

pub all_more : {X : Type 0} (P : X → Type 0) (xs : List X) (i : ℕ) (x : X) → i < length xs → x ≡ get_or xs i x → All P (take i xs) → P x
    → All P (take (i + 1) xs)
all_more P xs i x lt is h p = subst (All P) (sym (take_more xs i x lt)) (All-push P (take i xs) (get_or xs i x) h (subst P is p))

pub all_whole : {X : Type 0} (P : X → Type 0) (xs : List X) (i : ℕ) → length xs ≤ i → All P (take i xs) → All P xs
all_whole P xs i le h = subst (All P) (take_all i xs le) h

-- ---- the height above what was observed

pub above_goes_on : (rows : Ranked) (deps : List Dep) (i n m : ℕ) (d : Dep) → i < length deps → d ≡ get_or deps i d → Some m ≡ above_one rows d.what n
    → above rows (drop (i + 1) deps) m ≡ above rows (drop i deps) n
above_goes_on rows deps i n m d lt is e =
    ap (λ (o : Option ℕ). on_some o (above rows (drop (i + 1) deps))) e
    ∙ ap (λ (x : Dep). on_some (above_one rows x.what n) (above rows (drop (i + 1) deps))) is
    ∙ ap (λ (l : List Dep). above rows l n) (sym (drop_more deps i d lt))

-- one record more
pub heights_more : (old new : Heights) (rows : Ranked) (r : TaskRecord) (n : ℕ) (k : Vec ℕ Global) → AreHeights rows old → k.items ≡ enc_task r.task
    → new.by_bytes.entries ≡ old.by_bytes.entries ++ (k, n) ∷ [] → AreHeights (rows ++ (r, n) ∷ []) new
heights_more old new rows r n k are e more =
    ap (map entry) more
    ∙ map-append entry old.by_bytes.entries ((k, n) ∷ [])
    ∙ ap (λ (p : Placed). p ++ (k.items, n) ∷ []) are
    ∙ ap (λ (b : List ℕ). map placed rows ++ (b, n) ∷ []) e
    ∙ sym (map-append placed rows ((r, n) ∷ []))

pub inserted : (h : Heights) (k : Vec ℕ Global) (n : ℕ) → height_of (heights_in h) k.items ≡ None
    → insert_entry (λ (a b : Vec ℕ Global). bytes_eq a.items b.items) h.by_bytes.entries k n ≡ h.by_bytes.entries ++ (k, n) ∷ []
inserted h k n e = insert_entry-new (λ (a b : Vec ℕ Global). bytes_eq a.items b.items) h.by_bytes k n (looked_up h.by_bytes.entries k.items ∙ e)

-- ---- the height of a record that may stand after others

after_by : (known : List ℕ → Bool) (rows : Ranked) (r : TaskRecord) (o a : Option ℕ) → rank_in rows r.task ≡ o → above rows r.deps 0 ≡ a
    → height_after known rows r ≡ cond (is_some o) None (on_some a (λ n. cond (comes_last rows r.task n && known r.task.func) (Some n) None))
after_by known rows r o a e f =
    ap (λ (x : Option ℕ). cond (is_some x) None (on_some (above rows r.deps 0) (λ n. cond (comes_last rows r.task n && known r.task.func) (Some n) None))) e
    ∙ ap (λ (x : Option ℕ). cond (is_some o) None (on_some x (λ n. cond (comes_last rows r.task n && known r.task.func) (Some n) None))) f

-- a task that has a record
pub present : (known : List ℕ → Bool) (rows : Ranked) (r : TaskRecord) (o : Option ℕ) → o ≡ rank_in rows r.task → is_some o ≡ true
    → None ≡ height_after known rows r
present known rows r None e y = absurd (cc)
present known rows r (Some n) e y = sym (after_by known rows r (Some n) (above rows r.deps 0) (sym e) refl)

missing : (o : Option ℕ) → is_some o ≡ false → o ≡ None
missing None e = refl
missing (Some n) e = absurd (cc)

-- a record that comes too early, or whose function isn't known
pub barred : (known : List ℕ → Bool) (rows : Ranked) (r : TaskRecord) (o : Option ℕ) (n : ℕ) → o ≡ rank_in rows r.task → Some n ≡ above rows r.deps 0
    → (comes_last rows r.task n && known r.task.func) ≡ false → None ≡ height_after known rows r
barred known rows r None n e f g =
    sym (after_by known rows r None (Some n) (sym e) (sym f) ∙ ap (λ (b : Bool). cond b (Some n) None) g)
barred known rows r (Some k) n e f g = sym (after_by known rows r (Some k) (Some n) (sym e) (sym f))

pub passes : (known : List ℕ → Bool) (rows : Ranked) (r : TaskRecord) (o : Option ℕ) (n : ℕ) → o ≡ rank_in rows r.task → is_some o ≡ false
    → Some n ≡ above rows r.deps 0 → comes_last rows r.task n ≡ true → known r.task.func ≡ true → Some n ≡ height_after known rows r
passes known rows r o n e m f last func =
    sym (admits_on known rows r n (record { fresh = sym e ∙ missing o m; height = sym f; last = last; func = func }))

pub has_rank : (rows : Ranked) (t : Task) (o : Option ℕ) → o ≡ rank_in rows t → is_some o ≡ true → IsStored t → HasRank rows t
has_rank rows t None e y s = absurd (cc)
has_rank rows t (Some n) e y s = record { height = n; found = sym e; stored = s }
