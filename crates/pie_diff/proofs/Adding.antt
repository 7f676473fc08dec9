-- Writes of records, and named paths, one after another.
use Rattle.std.proofs.Common.{◌≡◌, ℕ, ◌+◌, ◌<◌, ◌++◌, Bool, true, false, cond, List, [], ◌∷◌, length, drop, get_or, Option, Some, None, refl, sym, ap, ◌∙◌}
use Rattle.std.specs.Prelude.{◌&&◌, ◌||◌, IfSome}
use Rattle.std.specs.List.{list_any}
use Rattle.std.specs.Ordering.{nat_cmp, is_eq}
use Rattle.std.specs.Cmp.Lexicographic.{slice_cmp}
use Rattle.std.proofs.lemmas.Cmp.{nat_list_cmp_total, eq_by_cmp_equiv}
use Rattle.std.proofs.lemmas.List.{drop_more}
use Rattle.std.proofs.lemmas.Map.Lookups.{exact_bytes}
use Rattle.std.proofs.lemmas.Map.Views.{tells_apart}
use Rattle.pie_base.specs.Path.{is_out, same_text}
use Rattle.pie_files.proofs.Reading.{if_two}
use Rattle.pie_files.specs.Directory.{Directory}
use Rattle.pie_graph.proofs.EdgeOrder.{text_tie}
use Rattle.pie_record.specs.declared.task_record.TaskRecord.{TaskRecord}
use Rattle.pie_diff.specs.Hashes.{held_at, hash_in}
use Rattle.pie_diff.specs.Known.{only_out, writes_of}
use Rattle.pie_diff.specs.inner.Held.{first, or_else, Adds, LooksAll, SetsOut}

abbrev Hashes : Type 0
Hashes = List (List ℕ × List ℕ)

swap : (a b : List ℕ) → is_eq (slice_cmp nat_cmp a b) ≡ is_eq (slice_cmp nat_cmp b a)
swap a b = (eq_by_cmp_equiv nat_list_cmp_total).symm a b

and_true : (t : Bool) → (t && true) ≡ t
and_true true = refl
and_true false = refl

and_false : (t : Bool) → (t && false) ≡ false
and_false true = refl
and_false false = refl

-- ---- a write

-- a hash comes where nothing is held
same_key : (held later : Option (List ℕ)) (t : Bool) (hash : List ℕ) → or_else (cond t (first held hash) held) (cond t later None) ≡ or_else held (cond t (Some hash) None)
same_key None later true hash = refl
same_key None later false hash = refl
same_key (Some h) later true hash = refl
same_key (Some h) later false hash = refl

write_more : (now new rest : Hashes) (w : List ℕ × List ℕ) → SetsOut now new w.0 (first (held_at now w.0) w.1) → (q : List ℕ)
    → or_else (held_at new q) (only_out q (held_at rest q)) ≡ or_else (held_at now q) (only_out q (held_at (w ∷ rest) q))
write_more now new rest w sets q = by (is_eq (slice_cmp nat_cmp w.0 q)) refl
  where
    by : (s : Bool) → is_eq (slice_cmp nat_cmp w.0 q) ≡ s
        → or_else (held_at new q) (only_out q (held_at rest q)) ≡ or_else (held_at now q) (only_out q (held_at (w ∷ rest) q))
    by true e =
        let key : w.0 ≡ q = tells_apart exact_bytes w.0 q e in
        let here : held_at new q ≡ cond (is_out q) (first (held_at now q) w.1) (held_at now q) =
        sets q ∙ ap (λ s. cond (is_out w.0 && s) (first (held_at now w.0) w.1) (held_at now q)) e
        ∙ ap (λ t. cond t (first (held_at now w.0) w.1) (held_at now q)) (and_true (is_out w.0))
        ∙ ap (λ (k : List ℕ). cond (is_out k) (first (held_at now k) w.1) (held_at now q)) key in
        ap (λ o. or_else o (only_out q (held_at rest q))) here ∙ same_key (held_at now q) (held_at rest q) (is_out q) w.1
        ∙ sym (ap (λ s. or_else (held_at now q) (only_out q (cond s (Some w.1) (held_at rest q)))) (swap q w.0 ∙ e))
    by false e =
        let here : held_at new q ≡ held_at now q =
        sets q ∙ ap (λ s. cond (is_out w.0 && s) (first (held_at now w.0) w.1) (held_at now q)) e
        ∙ ap (λ t. cond t (first (held_at now w.0) w.1) (held_at now q)) (and_false (is_out w.0)) in
        ap (λ o. or_else o (only_out q (held_at rest q))) here
        ∙ sym (ap (λ s. or_else (held_at now q) (only_out q (cond s (Some w.1) (held_at rest q)))) (swap q w.0 ∙ e))

pub write_step : (old now new writes : Hashes) (i : ℕ) (w : List ℕ × List ℕ) → i < length writes → w ≡ get_or writes i w
    → SetsOut now new w.0 (first (held_at now w.0) w.1)
    → ((q : List ℕ) → or_else (held_at now q) (only_out q (held_at (drop i writes) q)) ≡ or_else (held_at old q) (only_out q (held_at writes q)))
    → (q : List ℕ) → or_else (held_at new q) (only_out q (held_at (drop (i + 1) writes) q)) ≡ or_else (held_at old q) (only_out q (held_at writes q))
write_step old now new writes i w lt is sets before q =
    write_more now new (drop (i + 1) writes) w sets q
    ∙ ap (λ (ws : Hashes). or_else (held_at now q) (only_out q (held_at ws q)))
    (sym (drop_more writes i w lt ∙ ap (λ (x : List ℕ × List ℕ). x ∷ drop (i + 1) writes) (sym is)))
    ∙ before q

-- ---- the writes of a record

held_append : (xs ys : Hashes) (q : List ℕ) → held_at (xs ++ ys) q ≡ or_else (held_at xs q) (held_at ys q)
held_append [] ys q = refl
held_append (x ∷ xs) ys q = by (is_eq (slice_cmp nat_cmp q x.0)) (held_append xs ys q)
  where
    by : (s : Bool) → held_at (xs ++ ys) q ≡ or_else (held_at xs q) (held_at ys q)
        → cond s (Some x.1) (held_at (xs ++ ys) q) ≡ or_else (cond s (Some x.1) (held_at xs q)) (held_at ys q)
    by true rest = refl
    by false rest = rest

or_else_both : (held a b : Option (List ℕ)) (t : Bool) → or_else (or_else held (cond t a None)) (cond t b None) ≡ or_else held (cond t (or_else a b) None)
or_else_both None (Some a) b true = refl
or_else_both None None b true = refl
or_else_both None a b false = refl
or_else_both (Some h) a b t = refl

pub row_step : (old now new : Hashes) (rows : List TaskRecord) (i : ℕ) (row : TaskRecord) → i < length rows → row ≡ get_or rows i row → Adds now new row.writes
    → ((q : List ℕ) → or_else (held_at now q) (only_out q (held_at (writes_of (drop i rows)) q)) ≡ or_else (held_at old q) (only_out q (held_at (writes_of rows) q)))
    → (q : List ℕ) → or_else (held_at new q) (only_out q (held_at (writes_of (drop (i + 1) rows)) q)) ≡ or_else (held_at old q) (only_out q (held_at (writes_of rows) q))
row_step old now new rows i row lt is adds before q =
    let rest = writes_of (drop (i + 1) rows) in
    ap (λ o. or_else o (only_out q (held_at rest q))) (adds q)
    ∙ or_else_both (held_at now q) (held_at row.writes q) (held_at rest q) (is_out q)
    ∙ ap (λ o. or_else (held_at now q) (only_out q o)) (sym (held_append row.writes rest q))
    ∙ ap (λ (rs : List TaskRecord). or_else (held_at now q) (only_out q (held_at (writes_of rs) q)))
    (sym (drop_more rows i row lt ∙ ap (λ (r : TaskRecord). r ∷ drop (i + 1) rows) (sym is)))
    ∙ before q

-- ---- a named path

looked : (t rest : Bool) (here held : Option (List ℕ)) → cond (t && rest) here (cond t here held) ≡ cond (t && true) here held
looked true true here held = refl
looked true false here held = refl
looked false rest here held = refl

look_more : (d : Directory) (now new : Hashes) (rest : List (List ℕ)) (path : List ℕ) → SetsOut now new path (hash_in d path) → (q : List ℕ)
    → cond (is_out q && list_any (same_text q) rest) (hash_in d q) (held_at new q)
    ≡ cond (is_out q && list_any (same_text q) (path ∷ rest)) (hash_in d q) (held_at now q)
look_more d now new rest path sets q = by (is_eq (slice_cmp nat_cmp path q)) refl
  where
    any : Bool
    any = list_any (same_text q) rest

    by : (s : Bool) → is_eq (slice_cmp nat_cmp path q) ≡ s
        → cond (is_out q && list_any (same_text q) rest) (hash_in d q) (held_at new q)
        ≡ cond (is_out q && list_any (same_text q) (path ∷ rest)) (hash_in d q) (held_at now q)
    by true e =
        let key : path ≡ q = tells_apart exact_bytes path q e in
        let here : held_at new q ≡ cond (is_out q) (hash_in d q) (held_at now q) =
        sets q ∙ ap (λ s. cond (is_out path && s) (hash_in d path) (held_at now q)) e
        ∙ ap (λ t. cond t (hash_in d path) (held_at now q)) (and_true (is_out path))
        ∙ ap (λ (k : List ℕ). cond (is_out k) (hash_in d k) (held_at now q)) key in
        ap (λ o. cond (is_out q && any) (hash_in d q) o) here ∙ looked (is_out q) any (hash_in d q) (held_at now q)
        ∙ sym (ap (λ s. cond (is_out q && (s || any)) (hash_in d q) (held_at now q)) (sym (text_tie q path) ∙ swap q path ∙ e))
    by false e =
        let here : held_at new q ≡ held_at now q =
        sets q ∙ ap (λ s. cond (is_out path && s) (hash_in d path) (held_at now q)) e
        ∙ ap (λ t. cond t (hash_in d path) (held_at now q)) (and_false (is_out path)) in
        ap (λ o. cond (is_out q && any) (hash_in d q) o) here
        ∙ sym (ap (λ s. cond (is_out q && (s || any)) (hash_in d q) (held_at now q)) (sym (text_tie q path) ∙ swap q path ∙ e))

look_next : (d : Directory) (old now new : Hashes) (names : List (List ℕ)) (i : ℕ) (path : List ℕ) → i < length names → path ≡ get_or names i path
    → SetsOut now new path (hash_in d path) → LooksAll d old now names (drop i names) → LooksAll d old new names (drop (i + 1) names)
look_next d old now new names i path lt is sets before q =
    look_more d now new (drop (i + 1) names) path sets q
    ∙ ap (λ (ps : List (List ℕ)). cond (is_out q && list_any (same_text q) ps) (hash_in d q) (held_at now q))
    (sym (drop_more names i path lt ∙ ap (λ (p : List ℕ). p ∷ drop (i + 1) names) (sym is)))
    ∙ before q

pub look_step : (held : Option Directory) (old now new : Hashes) (names : List (List ℕ)) (i : ℕ) (path : List ℕ) → i < length names → path ≡ get_or names i path
    → IfSome held (λ d. SetsOut now new path (hash_in d path)) → IfSome held (λ d. LooksAll d old now names (drop i names))
    → IfSome held (λ d. LooksAll d old new names (drop (i + 1) names))
look_step held old now new names i path lt is =
    if_two (λ d. SetsOut now new path (hash_in d path)) (λ d. LooksAll d old now names (drop i names)) (λ d. LooksAll d old new names (drop (i + 1) names)) held
    (λ d sets before. look_next d old now new names i path lt is sets before)
