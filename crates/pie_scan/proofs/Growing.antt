-- What a loop has put so far, and what it has asked.
use Rattle.std.proofs.Common.{◌≡◌, ℕ, zero, suc, ◌+◌, ◌<◌, ◌≤◌, Bool, true, false, cond, List, [], ◌∷◌, ◌++◌, length, get_or, drop, refl, sym, ap, ◌∙◌, subst}
use Rattle.std.proofs.Common.{append_assoc, append-nil, arith, Err}
use Rattle.std.specs.Prelude.{◌||◌, Option, None, Some, IfSome, IsErrOf, map}
use Rattle.std.specs.Option.{option_to_list}
use Rattle.std.specs.List.{filter, filter_map, flat_map, cons_option}
use Rattle.std.proofs.lemmas.List.{drop_more}
use Rattle.std.specs.Ordering.{nat_cmp, eq_by_cmp}
use Rattle.std.specs.Cmp.Lexicographic.{slice_cmp}
use Rattle.pie_files.specs.declared.files.Call.{Call}
use Rattle.pie_files.specs.declared.files.FilesError.{FilesError}
use Rattle.pie_files.specs.declared.files.FilesError.TheVariants.{Failed}
use Rattle.pie_files.specs.Faults.{Rose}
use Rattle.pie_files.specs.Reading.{LeavesAsBefore, ReadsOnly}
use Rattle.pie_files.proofs.Reading.{both_before}
use Rattle.pie_files.specs.Directory.{Directory}
use Rattle.pie_files.specs.inner.Held.{is_among, Gains}
use Rattle.std.specs.List.Sorted.{IsStrictlySortedBy}
use Rattle.pie_files.specs.Directory.{in_path_order}
use Rattle.pie_files.proofs.OrderedPaths.{rising_in_order, same_in_order}
use Rattle.pie_scan.specs.Entries.{path_cmp}
use Rattle.pie_scan.specs.Scanned.{AsksAll}

-- a walk that puts so much for each element
abbrev pub Steps : {A B : Type 0} → (List A → List B) → (A → List B) → Type 0
Steps {A} F g = (x : A) (xs : List A) → F (x ∷ xs) ≡ g x ++ F xs

pub filter_step : {A : Type 0} (p : A → Bool) → Steps (filter p) (λ x. filter p (x ∷ []))
filter_step {A} p x xs = by (p x)
  where
    by : (b : Bool) → cond b (x ∷ filter p xs) (filter p xs) ≡ cond b (x ∷ []) [] ++ filter p xs
    by true = refl
    by false = refl

pub flat_step : {A B : Type 0} (f : A → List B) → Steps (flat_map f) f
flat_step f x xs = refl

pub map_step : {A B : Type 0} (f : A → B) → Steps (map f) (λ x. f x ∷ [])
map_step f x xs = refl

pub filter_map_step : {A B : Type 0} (f : A → Option B) → Steps (filter_map f) (λ x. option_to_list (f x))
filter_map_step {A} {B} f x xs = by (f x)
  where
    by : (o : Option B) → cons_option o (filter_map f xs) ≡ option_to_list o ++ filter_map f xs
    by None = refl
    by (Some y) = refl

-- one more
pub goes_on : {A B : Type 0} (F : List A → List B) (g : A → List B) → Steps F g → (xs : List A) (i : ℕ) (x : A) (a b c : List B) → i < length xs
    → x ≡ get_or xs i x → b ≡ a ++ g x → a ++ F (drop i xs) ≡ c → b ++ F (drop (i + 1) xs) ≡ c
goes_on {A} {B} F g steps xs i x a b c lt is put inv =
    let rest = F (drop (i + 1) xs) in
    let one : F (drop i xs) ≡ g x ++ rest =
    ap F (drop_more xs i x lt) ∙ steps (get_or xs i x) (drop (i + 1) xs) ∙ ap (λ (y : A). g y ++ rest) (sym is) in
    ap (λ (l : List B). l ++ rest) put ∙ append_assoc a (g x) rest ∙ ap (λ (l : List B). a ++ l) (sym one) ∙ inv

pub if_goes_on : {A B : Type 0} (o : Option Directory) (F : Directory → List A → List B) (g : Directory → A → List B) → ((d : Directory) → Steps (F d) (g d))
    → (xs : List A) (i : ℕ) (x : A) (a b : List B) (all : Directory → List B) → i < length xs → x ≡ get_or xs i x
    → IfSome o (λ d. b ≡ a ++ g d x) → IfSome o (λ d. a ++ F d (drop i xs) ≡ all d) → IfSome o (λ d. b ++ F d (drop (i + 1) xs) ≡ all d)
if_goes_on None F g steps xs i x a b all lt is put inv = tt
if_goes_on (Some d) F g steps xs i x a b all lt is put inv = goes_on (F d) (g d) (steps d) xs i x a b (all d) lt is put inv

none_of_none : {A : Type 0} (i : ℕ) → drop {A = A} i [] ≡ []
none_of_none zero = refl
none_of_none (suc i) = refl

pub none_left : {A : Type 0} (xs : List A) (i : ℕ) → length xs ≤ i → drop i xs ≡ []
none_left [] i le = none_of_none i
none_left (x ∷ xs) zero le = absurd (omega (arith, le))
none_left (x ∷ xs) (suc i) le = none_left xs i (omega (arith, le))

-- ---- what was asked

-- what was asked so far, with what is still to be asked, is all
abbrev pub AskedSo : {A : Type 0} → (List A → List Call) → List A → ℕ → Option (List Call) → Option (List Call) → Type 0
AskedSo F xs i before now = IfSome before (λ asked. (calls : List Call) × (now ≡ Some calls) × (calls ++ F (drop i xs) ≡ asked ++ F xs))

pub asks_on : {A : Type 0} (F : List A → List Call) (g : A → List Call) → Steps F g → (xs : List A) (i : ℕ) (x : A) (before now after : Option (List Call))
    → i < length xs → x ≡ get_or xs i x → AskedSo F xs i before now → AsksAll (g x) now after → AskedSo F xs (i + 1) before after
asks_on F g steps xs i x None now after lt is so asks = tt
asks_on F g steps xs i x (Some asked) now after lt is so asks =
    let calls = so.0 in
    let more : after ≡ Some (calls ++ g x) = subst (λ (o : Option (List Call)). IfSome o (λ a. after ≡ Some (a ++ g x))) so.1 asks in
    (calls ++ g x, more, goes_on F g steps xs i x calls (calls ++ g x) (asked ++ F xs) lt is refl so.2)

pub asks_end : {A : Type 0} (F : List A → List Call) → F [] ≡ [] → (xs : List A) (i : ℕ) (before now : Option (List Call)) → length xs ≤ i
    → AskedSo F xs i before now → AsksAll (F xs) before now
asks_end F none xs i None now le so = tt
asks_end F none xs i (Some asked) now le so =
    let all : so.0 ≡ asked ++ F xs =
    sym (append-nil so.0) ∙ ap (λ (l : List Call). so.0 ++ l) (sym (ap F (none_left xs i le) ∙ none)) ∙ so.2 in
    so.1 ∙ ap (λ (l : List Call). Some l) all

-- one after another
pub asks_then : (first second : List Call) (before mid after : Option (List Call)) → AsksAll first before mid → AsksAll second mid after
    → AsksAll (first ++ second) before after
asks_then first second None mid after a b = tt
asks_then first second (Some asked) mid after a b =
    subst (λ (o : Option (List Call)). IfSome o (λ l. after ≡ Some (l ++ second))) a b ∙ ap (λ (l : List Call). Some l) (append_assoc asked first second)

pub ruleset asking = (asks_then)

-- ---- sets

either : (k e r : Bool) → (((e || false) || k) || r) ≡ (k || (e || r))
either true true r = refl
either true false r = refl
either false true r = refl
either false false r = refl

-- a set that has one more
pub gains_on : (old new paths : List (List ℕ)) (i : ℕ) (path : List ℕ) → i < length paths → path ≡ get_or paths i path → Gains old (Some path) new
    → ((q : List ℕ) → (is_among q old || is_among q (drop i paths)) ≡ is_among q paths)
    → (q : List ℕ) → (is_among q new || is_among q (drop (i + 1) paths)) ≡ is_among q paths
gains_on old new paths i path lt is gains inv q =
    let rest = is_among q (drop (i + 1) paths) in
    let eq = eq_by_cmp (slice_cmp nat_cmp) q path in
    let one : is_among q (drop i paths) ≡ (eq || rest) =
    ap (is_among q) (drop_more paths i path lt) ∙ ap (λ (p : List ℕ). eq_by_cmp (slice_cmp nat_cmp) q p || rest) (sym is) in
    ap (λ (b : Bool). b || rest) (gains q) ∙ either (is_among q old) eq rest ∙ ap (λ (b : Bool). is_among q old || b) (sym one) ∙ inv q

-- paths in order that are those of a list are its paths in order
pub in_order_is : (sorted paths : List (List ℕ)) → IsStrictlySortedBy path_cmp sorted → ((q : List ℕ) → is_among q sorted ≡ is_among q paths)
    → sorted ≡ in_path_order paths
in_order_is sorted paths rising same = rising_in_order sorted rising ∙ same_in_order sorted paths same

pub gains_end : (keys paths : List (List ℕ)) (i : ℕ) → length paths ≤ i
    → ((q : List ℕ) → (is_among q keys || is_among q (drop i paths)) ≡ is_among q paths) → (q : List ℕ) → is_among q keys ≡ is_among q paths
gains_end keys paths i le inv q =
    sym (or_false (is_among q keys)) ∙ ap (λ (l : List (List ℕ)). is_among q keys || is_among q l) (sym (none_left paths i le)) ∙ inv q
  where
    or_false : (b : Bool) → (b || false) ≡ b
    or_false true = refl
    or_false false = refl

-- ---- calls that only read, and then one that fails

err_is : {U : Type 0} (e d : FilesError) → IsErrOf {T = U} (Err e) d → e ≡ d
err_is e d h = cc

pub reads_fail : {S T U : Type 0} (holds : S → Option Directory) (moment : S → ℕ) (left_since : S → ℕ → Directory → Type 0)
    (images : S → Directory → Type 0) (faults : S → ℕ) (old mid new : S) (e : FilesError) → holds mid ≡ holds old → faults mid ≡ faults old
    → LeavesAsBefore holds moment left_since images old mid → ReadsOnly {T = T} holds moment left_since images faults mid new (Err e)
    → ReadsOnly {T = U} holds moment left_since images faults old new (Err e)
reads_fail holds moment left_since images faults old mid new e same steady crash reads = record {
  same = reads.same ∙ same;
  crash = both_before holds moment left_since images old mid new same crash reads.crash;
  counted = record {
    later = omega (arith, steady, reads.counted.later);
    steady = tt;
    cause = λ h. subst (λ (n : ℕ). Rose n (faults new)) steady (reads.counted.cause (ap (λ (x : FilesError). Err x) (err_is e Failed h)));
  };
}
