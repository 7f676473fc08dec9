-- Distinct paths in path order, and paths as lines.
use Rattle.std.proofs.Common.{◌≡◌, ◌≢◌, ℕ, zero, suc, ◌<◌, ◌≤◌, Bool, true, false, not, ◌&&◌, ◌||◌, cond, List, [], ◌∷◌, ◌++◌, length, get_or, refl, sym, ap}
use Rattle.std.proofs.Common.{subst, ◌∙◌, append_assoc, arith}
use Rattle.std.specs.Prelude.{All, Contains, IsTrue, ◌==◌}
use Rattle.std.specs.List.{AllPairs, fold, list_all, list_any, onto_first, slice_split}
use Rattle.std.specs.BTreeSet.{insert_key}
use Rattle.std.specs.declared.cmp.Ordering.{Ordering}
use Rattle.std.specs.declared.cmp.Ordering.TheVariants.{Less, Equal, Greater}
use Rattle.std.specs.Ordering.{is_lt, match_ordering, ordering_reverse}
use Rattle.std.proofs.lemmas.Cmp.{nat_list_cmp_total}
use Rattle.std.proofs.lemmas.Map.Lookups.{exact_bytes}
use Rattle.std.proofs.lemmas.Map.Views.{All-insert_key}
use Rattle.std.proofs.lemmas.List.{get_or_default}
use Rattle.std.proofs.lemmas.List.Kept.{AllPairs-cons}
use Rattle.std.proofs.lemmas.List.Elements.{All-nil, All-cons, All-head, All-tail}
use Rattle.std.proofs.lemmas.Str.{is_utf8-from_IsUtf8}
use Rattle.std.specs.Str.{IsUtf8, is_utf8}
use Rattle.pie_base.specs.Path.{is_slash, is_control, is_segment, is_path, segments, same_text}
use Rattle.std.specs.Prelude.{nat_lt, codes}
use Rattle.pie_record.proofs.Steps.{both_true, both_on}
use Rattle.pie_store.specs.Pending.{path_cmp, in_order, line, lines, AreAscending, AreInPathOrder, IsName, IsPending}
use Rattle.pie_store.proofs.PendingLemmas.{NoNewline}

-- ---- a path holds no newline

plain : List ℕ → Bool
plain s = not (list_any is_control s)

segment_plain : (s : List ℕ) → is_segment s ≡ true → plain s ≡ true
unfolding plain
segment_plain s e =
    (both_true (not (length s == 0) && not (same_text s (codes ".")) && not (same_text s (codes ".."))) (not (list_any is_control s)) e).1

segments_plain : (ss : List (List ℕ)) → list_all is_segment ss ≡ true → list_all plain ss ≡ true
segments_plain [] e = refl
segments_plain (s ∷ ss) e =
    let h = both_true (is_segment s) (list_all is_segment ss) e in
    both_on (plain s) (list_all plain ss) (segment_plain s h.0) (segments_plain ss h.1)

either_false : (a b : Bool) → not (a || b) ≡ true → (a ≡ false) × (not b ≡ true)
either_false true b e = absurd (cc)
either_false false b e = (refl, e)

first_plain : (b : ℕ) (parts : List (List ℕ)) → list_all plain (onto_first b parts) ≡ true → (is_control b ≡ false) × (list_all plain parts ≡ true)
unfolding plain
first_plain b [] e =
    let h = both_true (not (is_control b || false)) true e in
    let k = either_false (is_control b) false h.0 in (k.0, refl)
first_plain b (s ∷ ss) e =
    let h = both_true (not (is_control b || list_any is_control s)) (list_all plain ss) e in
    let k = either_false (is_control b) (list_any is_control s) h.0 in
    (k.0, both_on (plain s) (list_all plain ss) k.1 h.1)

no_newline : (b : ℕ) → is_control b ≡ false → b ≢ 10
no_newline b e same = let f : is_control 10 ≡ false = subst (λ (x : ℕ). is_control x ≡ false) same e in absurd (cc)

no_slash : (b : ℕ) → is_slash b ≡ true → b ≢ 10
no_slash b e same = let f : is_slash 10 ≡ true = subst (λ (x : ℕ). is_slash x ≡ true) same e in absurd (cc)

bytes_plain : (p : List ℕ) → list_all plain (slice_split is_slash p) ≡ true → NoNewline p
bytes_plain [] e = All-nil (λ b. b ≢ 10)
bytes_plain (b ∷ p) e = by (is_slash b) refl e (λ f. bytes_plain p f)
  where
    by : (c : Bool) → is_slash b ≡ c → list_all plain (cond c ([] ∷ slice_split is_slash p) (onto_first b (slice_split is_slash p))) ≡ true
        → (list_all plain (slice_split is_slash p) ≡ true → NoNewline p) → NoNewline (b ∷ p)
    by true s f more =
        let h = both_true (plain []) (list_all plain (slice_split is_slash p)) f in All-cons (λ x. x ≢ 10) b p (no_slash b s) (more h.1)
    by false s f more =
        let h = first_plain b (slice_split is_slash p) f in All-cons (λ x. x ≢ 10) b p (no_newline b h.0) (more h.1)

pub path_name : (p : List ℕ) → IsUtf8 p → IsTrue (is_path p) → IsName p
path_name p u e =
    let h = both_true (not (length p == 0) && not (nat_lt 255 (length p))) (list_all is_segment (segments p)) e in
    (both_on (is_utf8 p) (is_path p) (is_utf8-from_IsUtf8 p u) e, bytes_plain p (segments_plain (segments p) h.1))

-- ---- the order

abbrev Rising : List (List ℕ) → Type 0
Rising xs = AllPairs (λ (p q : List ℕ). path_cmp p q ≡ Less) xs

abbrev put_in : List (List ℕ) → List ℕ → List (List ℕ)
put_in = insert_key path_cmp

tail_rising : (x : List ℕ) (xs : List (List ℕ)) → Rising (x ∷ xs) → Rising xs
tail_rising x xs h i j d lt within = h (suc i) (suc j) d (omega (arith, lt)) (omega (arith, within))

head_below : (x : List ℕ) (xs : List (List ℕ)) → Rising (x ∷ xs) → All (λ (y : List ℕ). path_cmp x y ≡ Less) xs
head_below x xs h k d lt = h 0 (suc k) d (omega arith) (omega (arith, lt))

put_rising : (xs : List (List ℕ)) (k : List ℕ) → Rising xs → Rising (put_in xs k)
put_rising [] k h = λ i j d lt within. absurd (omega (arith, lt, within))
put_rising (x ∷ xs) k h = by (path_cmp k x) refl (put_rising xs k (tail_rising x xs h))
  where
    Below : List ℕ → List ℕ → Type 0
    Below p q = path_cmp p q ≡ Less

    by : (o : Ordering) → path_cmp k x ≡ o → Rising (put_in xs k) → Rising (match_ordering o (k ∷ x ∷ xs) (x ∷ xs) (x ∷ put_in xs k))
    by Less e more =
        AllPairs-cons (λ (p q : List ℕ). path_cmp p q ≡ Less) k (x ∷ xs)
        (All-cons (λ (y : List ℕ). path_cmp k y ≡ Less) x xs e
        (λ i d lt. nat_list_cmp_total.trans k x (get_or xs i d) e (head_below x xs h i d lt))) h
    by Equal e more = h
    by Greater e more =
        let under : path_cmp x k ≡ Less = nat_list_cmp_total.antisymm x k ∙ ap ordering_reverse e in
        AllPairs-cons (λ (p q : List ℕ). path_cmp p q ≡ Less) x (put_in xs k)
        (All-insert_key path_cmp k (λ (y : List ℕ). path_cmp x y ≡ Less) xs (head_below x xs h) under) more

put_has : (xs : List (List ℕ)) (k : List ℕ) → Contains (put_in xs k) k
put_has [] k = (0, omega arith, refl)
put_has (x ∷ xs) k = by (path_cmp k x) refl (put_has xs k)
  where
    by : (o : Ordering) → path_cmp k x ≡ o → Contains (put_in xs k) k → Contains (match_ordering o (k ∷ x ∷ xs) (x ∷ xs) (x ∷ put_in xs k)) k
    by Less e m = (0, omega arith, refl)
    by Equal e m = (0, omega arith, sym (exact_bytes k x e))
    by Greater e m = (suc m.0, omega (arith, m.1), m.2)

put_keeps : (xs : List (List ℕ)) (k p : List ℕ) → Contains xs p → Contains (put_in xs k) p
put_keeps [] k p c = absurd (omega (arith, c.1))
put_keeps (x ∷ xs) k p c = by (path_cmp k x) c (λ m. put_keeps xs k p m)
  where
    by : (o : Ordering) → Contains (x ∷ xs) p → (Contains xs p → Contains (put_in xs k) p)
        → Contains (match_ordering o (k ∷ x ∷ xs) (x ∷ xs) (x ∷ put_in xs k)) p
    by Less m more = (suc m.0, omega (arith, m.1), m.2)
    by Equal m more = m
    by Greater (zero, lt, is) more = (0, omega arith, is)
    by Greater (suc i, lt, is) more = let m = more (i, omega (arith, lt), is) in (suc m.0, omega (arith, m.1), m.2)

all_rising : (acc paths : List (List ℕ)) → Rising acc → Rising (fold put_in acc paths)
all_rising acc [] h = h
all_rising acc (p ∷ paths) h = all_rising (put_in acc p) paths (put_rising acc p h)

all_of : (P : List ℕ → Type 0) (acc paths : List (List ℕ)) → All P acc → All P paths → All P (fold put_in acc paths)
all_of P acc [] h a = h
all_of P acc (p ∷ paths) h a =
    all_of P (put_in acc p) paths (All-insert_key path_cmp p P acc h (All-head P p paths a)) (All-tail P p paths a)

all_kept : (acc paths : List (List ℕ)) (p : List ℕ) → Contains acc p → Contains (fold put_in acc paths) p
all_kept acc [] p c = c
all_kept acc (q ∷ paths) p c = all_kept (put_in acc q) paths p (put_keeps acc q p c)

all_put : (acc paths : List (List ℕ)) → All (λ (p : List ℕ). Contains (fold put_in acc paths) p) paths
all_put acc [] = All-nil _
all_put acc (q ∷ paths) =
    All-cons (λ (p : List ℕ). Contains (fold put_in (put_in acc q) paths) p) q paths (all_kept (put_in acc q) paths q (put_has acc q))
    (all_put (put_in acc q) paths)

ascends : (names : List (List ℕ)) → Rising names → AreAscending names
ascends names h k d lt = ap is_lt (h k (suc k) d (omega arith) lt)

pub in_path_order : (paths : List (List ℕ)) → AreInPathOrder (in_order paths) paths
in_path_order paths = record {
  ascending = ascends (in_order paths) (all_rising [] paths (λ i j d lt within. absurd (omega (arith, within))));
  named = all_of (λ (p : List ℕ). Contains paths p) [] paths (All-nil _) (λ i d lt. contained i d lt);
  all = all_put [] paths;
}
  where
    contained : (i : ℕ) (d : List ℕ) → i < length paths → Contains paths (get_or paths i d)
    contained i d lt = (i, lt, get_or_default paths i (get_or paths i d) d lt)

-- ---- the text

-- one line more is written, of the paths that are left
pub lines_left : (left rest : List (List ℕ)) (x : List ℕ) (a b c : List ℕ) → left ≡ x ∷ rest → b ≡ a ++ line x → a ++ lines left ≡ c
    → b ++ lines rest ≡ c
lines_left left rest x a b c e w inv =
    ap (λ (t : List ℕ). t ++ lines rest) w ∙ append_assoc a (line x) (lines rest) ∙ ap (λ (l : List (List ℕ)). a ++ lines l) (sym e) ∙ inv

pub names_left : (left rest all : List (List ℕ)) (x : List ℕ) → left ≡ x ∷ rest → IsName x → (All IsName left → All IsName all)
    → All IsName rest → All IsName all
names_left left rest all x e n h r = h (subst (All IsName) (sym e) (All-cons IsName x rest n r))

some_in_order : (paths : List (List ℕ)) → 0 < length paths → 0 < length (in_order paths)
some_in_order [] lt = absurd (omega (arith, lt))
some_in_order (p ∷ paths) lt =
    let c = All-head (λ (q : List ℕ). Contains (in_order (p ∷ paths)) q) p paths (all_put [] (p ∷ paths)) in omega (arith, c.1)

pub pending_is : (paths : List (List ℕ)) (bs : List ℕ) → All IsName (in_order paths) → bs ≡ lines (in_order paths) → 0 < length paths
    → length bs ≤ 16777216 → IsPending (in_order paths) bs
pending_is paths bs names e some few = record {
  some = some_in_order paths some;
  paths = names;
  ascending = (in_path_order paths).ascending;
  bytes = e;
  few = few;
}
