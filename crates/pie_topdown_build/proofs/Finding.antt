-- What is looked up for the records of a build: which tasks ran, and the bytes at paths.
use Rattle.std.proofs.Common.{◌≡◌, ℕ, zero, suc, ◌+◌, ◌<◌, ◌≤◌, Bool, true, false, cond, List, [], ◌∷◌, ◌++◌, length, get_or}
use Rattle.std.proofs.Common.{map, take, Vec, Global, refl, sym, ap, ◌∙◌, arith}
use Rattle.std.specs.Prelude.{◌||◌, Option, None, Some, String, slice_get}
use Rattle.std.specs.BTreeMap.{BTreeMap, get, get_by_text}
use Rattle.std.specs.BTreeSet.{insert_key}
use Rattle.std.specs.Cmp.Lexicographic.{slice_cmp}
use Rattle.std.specs.List.{fold, filter_map, list_any}
use Rattle.std.specs.Option.{option_and_then, option_map, option_or}
use Rattle.std.specs.Ordering.{nat_cmp, eq_by_cmp, is_eq, match_ordering}
use Rattle.std.specs.declared.cmp.Ordering.{Ordering}
use Rattle.std.specs.declared.cmp.Ordering.TheVariants.{Less, Equal, Greater}
use Rattle.std.proofs.lemmas.List.{take_all, take_more}
use Rattle.std.proofs.lemmas.Map.Lookups.{exact_bytes}
use Rattle.pie_base.specs.Path.{same_text}
use Rattle.pie_cache.proofs.Kept.{tied}
use Rattle.pie_cache.specs.inner.Keeping.{is_at}
use Rattle.pie_files.specs.inner.Held.{is_among}
use Rattle.pie_old.specs.inner.Code.{digest_in}
use Rattle.pie_record.specs.declared.task_record.TaskRecord.{TaskRecord}
use Rattle.pie_results.specs.inner.Files.{contents_in}
use Rattle.pie_store.specs.Pending.{in_order}
use Rattle.pie_value.specs.Canonical.{enc_task}
use Rattle.pie_value.specs.Order.{byte_order}
use Rattle.pie_value.specs.declared.task.Task.{Task}
use Rattle.pie_topdown_build.specs.inner.News.{bytes_by, bytes_in, keys_in, news_in, told_where}

-- ---- which tasks ran

-- a key of a set goes to where it goes by its bytes
pub key_there : (ks : List (Vec ℕ Global)) (k : Vec ℕ Global)
    → keys_in (insert_key (λ (a b : Vec ℕ Global). byte_order a.items b.items) ks k) ≡ insert_key byte_order (keys_in ks) k.items
key_there [] k = refl
key_there (x ∷ ks) k = by (byte_order k.items x.items) (key_there ks k)
  where
    by : (o : Ordering) → keys_in (insert_key (λ (a b : Vec ℕ Global). byte_order a.items b.items) ks k) ≡ insert_key byte_order (keys_in ks) k.items
        → keys_in (match_ordering o (k ∷ x ∷ ks) (x ∷ ks) (x ∷ insert_key (λ (a b : Vec ℕ Global). byte_order a.items b.items) ks k))
        ≡ match_ordering o (k.items ∷ x.items ∷ keys_in ks) (x.items ∷ keys_in ks) (x.items ∷ insert_key byte_order (keys_in ks) k.items)
    by Less more = refl
    by Equal more = refl
    by Greater more = ap (λ (bs : List (List ℕ)). x.items ∷ bs) more

twice : (a b : Bool) → (a || b) ≡ (a || (a || b))
twice true b = refl
twice false b = refl

swapped : (a b c : Bool) → (b || (a || c)) ≡ (a || (b || c))
swapped true true c = refl
swapped true false c = refl
swapped false true c = refl
swapped false false c = refl

-- whether a path is another one, as far as the order tells
abbrev is : List ℕ → List ℕ → Bool
is q k = eq_by_cmp (slice_cmp nat_cmp) q k

among_one : (q : List ℕ) (ks : List (List ℕ)) (k : List ℕ) → is_among q (insert_key byte_order ks k) ≡ (is q k || is_among q ks)
among_one q [] k = refl
among_one q (x ∷ ks) k = by (byte_order k x) refl (among_one q ks k)
  where
    by : (o : Ordering) → byte_order k x ≡ o → is_among q (insert_key byte_order ks k) ≡ (is q k || is_among q ks)
        → is_among q (match_ordering o (k ∷ x ∷ ks) (x ∷ ks) (x ∷ insert_key byte_order ks k)) ≡ (is q k || (is q x || is_among q ks))
    by Less e more = refl
    by Equal e more =
        twice (is q x) (is_among q ks) ∙ ap (λ (y : List ℕ). is q y || (is q x || is_among q ks)) (sym (exact_bytes k x e))
    by Greater e more = ap (λ (b : Bool). is q x || b) more ∙ swapped (is q k) (is q x) (is_among q ks)

among_put : (q : List ℕ) (ks bs : List (List ℕ)) → is_among q (fold (insert_key byte_order) ks bs) ≡ (is_among q bs || is_among q ks)
among_put q ks [] = refl
among_put q ks (b ∷ bs) =
    among_put q (insert_key byte_order ks b) bs ∙ ap (λ (c : Bool). is_among q bs || c) (among_one q ks b)
    ∙ swapped (is q b) (is_among q bs) (is_among q ks) ∙ joined (is q b) (is_among q bs) (is_among q ks)
  where
    joined : (a b c : Bool) → (a || (b || c)) ≡ ((a || b) || c)
    joined true b c = refl
    joined false b c = refl

-- what is in order is what was put into order
pub among_order : (q : List ℕ) (bs : List (List ℕ)) → is_among q (in_order bs) ≡ is_among q bs
among_order q bs = among_put q [] bs ∙ or_false (is_among q bs)
  where
    or_false : (b : Bool) → (b || false) ≡ b
    or_false true = refl
    or_false false = refl

-- ---- the bytes at paths

-- files with their bytes, as the program has them
abbrev pub Files : Type 0
Files = List (List ℕ × Vec ℕ Global)

last_put : (files : List (List ℕ × List ℕ)) (f : List ℕ × List ℕ) (q : List ℕ)
    → bytes_in (files ++ f ∷ []) q ≡ cond (same_text q f.0) (Some f.1) (bytes_in files q)
last_put [] f q = refl
last_put (g ∷ files) f q =
    ap (λ (o : Option (List ℕ)). option_or o (cond (same_text q g.0) (Some g.1) None)) (last_put files f q)
    ∙ by (same_text q f.0) (bytes_in files q) (cond (same_text q g.0) (Some g.1) None)
  where
    by : (t : Bool) (o p : Option (List ℕ)) → option_or (cond t (Some f.1) o) p ≡ cond t (Some f.1) (option_or o p)
    by true o p = refl
    by false o p = refl

contents_push : (files : Files) (f : List ℕ × Vec ℕ Global) → contents_in (files ++ f ∷ []) ≡ contents_in files ++ (f.0, f.1.items) ∷ []
contents_push [] f = refl
contents_push (g ∷ files) f = ap (λ (fs : List (List ℕ × List ℕ)). (g.0, g.1.items) ∷ fs) (contents_push files f)

there : (files : Files) (i : ℕ) (f : List ℕ × Vec ℕ Global) → i < length files → slice_get files i ≡ Some (get_or files i f)
there [] i f lt = absurd (omega (arith, lt))
there (g ∷ files) zero f lt = refl
there (g ∷ files) (suc i) f lt = there files i f (omega (arith, lt))

-- no place is held at first
pub none_placed : (files : Files) (m : BTreeMap (List ℕ) ℕ) → m.entries ≡ [] → (q : List ℕ) → bytes_by files m q ≡ bytes_in (contents_in (take 0 files)) q
none_placed files m none q = cc

-- one file more has its place
pub placed_more : (files : Files) (i : ℕ) (f : List ℕ × Vec ℕ Global) (m n : BTreeMap (List ℕ) ℕ) (path : List ℕ) → i < length files
    → path ≡ (get_or files i f).0
    → ((q : List ℕ) → get (slice_cmp nat_cmp) n q ≡ cond (is_at path q) (Some i) (get (slice_cmp nat_cmp) m q))
    → ((q : List ℕ) → bytes_by files m q ≡ bytes_in (contents_in (take i files)) q)
    → (q : List ℕ) → bytes_by files n q ≡ bytes_in (contents_in (take (i + 1) files)) q
placed_more files i f m n path lt here puts before q =
    by (same_text q path) (tied path q)
    ∙ ap (λ (p : List ℕ). cond (same_text q p) (Some (get_or files i f).1.items) (bytes_in (contents_in (take i files)) q)) here
    ∙ sym (last_put (contents_in (take i files)) ((get_or files i f).0, (get_or files i f).1.items) q)
    ∙ ap (λ (fs : List (List ℕ × List ℕ)). bytes_in fs q) (sym (contents_push (take i files) (get_or files i f)))
    ∙ ap (λ (fs : Files). bytes_in (contents_in fs) q) (sym (take_more files i f lt))
  where
    in_place : Option ℕ → Option (List ℕ)
    in_place o = option_and_then (λ (j : ℕ). option_map (λ (g : List ℕ × Vec ℕ Global). g.1.items) (slice_get files j)) o

    by : (t : Bool) → is_at path q ≡ t → bytes_by files n q ≡ cond t (Some (get_or files i f).1.items) (bytes_in (contents_in (take i files)) q)
    by true e =
        ap in_place (puts q ∙ ap (λ (t : Bool). cond t (Some i) (get (slice_cmp nat_cmp) m q)) e)
        ∙ ap (option_map (λ (g : List ℕ × Vec ℕ Global). g.1.items)) (there files i f lt)
    by false e = ap in_place (puts q ∙ ap (λ (t : Bool). cond t (Some i) (get (slice_cmp nat_cmp) m q)) e) ∙ before q

pub all_placed : (files : Files) (i : ℕ) (m : BTreeMap (List ℕ) ℕ) → length files ≤ i
    → ((q : List ℕ) → bytes_by files m q ≡ bytes_in (contents_in (take i files)) q) → (q : List ℕ) → bytes_by files m q ≡ bytes_in (contents_in files) q
all_placed files i m past so_far q = so_far q ∙ ap (λ (fs : Files). bytes_in (contents_in fs) q) (take_all i files past)

-- ---- a query of a set

among_keys : (b : List ℕ) (ks : List (Vec ℕ Global)) → list_any (λ (k : Vec ℕ Global). is_eq (slice_cmp nat_cmp b k.items)) ks ≡ is_among b (keys_in ks)
among_keys b [] = refl
among_keys b (k ∷ ks) = ap (λ (c : Bool). is b k.items || c) (among_keys b ks)

-- what a set of the program answers for bytes
pub asked : (b bytes : List ℕ) (ks : List (Vec ℕ Global)) (r : Bool) → b ≡ bytes
    → r ≡ list_any (λ (k : Vec ℕ Global). is_eq (slice_cmp nat_cmp b k.items)) ks → is_among bytes (keys_in ks) ≡ r
asked b bytes ks r is_b answers = ap (λ (x : List ℕ). is_among x (keys_in ks)) (sym is_b) ∙ sym (among_keys b ks) ∙ sym answers

-- ---- what is told by what is looked up

same_functions : {A B : Type 0} (f g : A → B) → ((a : A) → f a ≡ g a) → f ≡ g
same_functions f g h = λ i a. h a i

-- what is told by what was looked up is what the build tells
pub told_so : {Z : Type 0} (funcs : List (List ℕ × List ℕ)) (rows : List TaskRecord) (files : Files) (ran : List Task) (keys : List (Vec ℕ Global))
    (digests : BTreeMap (String Z) (List ℕ)) (places : BTreeMap (List ℕ) ℕ) → keys_in keys ≡ in_order (map enc_task ran)
    → ((q : List ℕ) → get_by_text digests q ≡ digest_in funcs q) → ((q : List ℕ) → bytes_by files places q ≡ bytes_in (contents_in files) q)
    → filter_map (told_where (λ bytes. is_among bytes (keys_in keys)) (get_by_text digests) (bytes_by files places)) rows
    ≡ news_in funcs rows (contents_in files) ran
told_so funcs rows files ran keys digests places ran_are digest_is bytes_are =
    let has : (λ (q : List ℕ). is_among q (keys_in keys)) ≡ (λ (q : List ℕ). is_among q (map enc_task ran)) =
    same_functions (λ (q : List ℕ). is_among q (keys_in keys)) (λ (q : List ℕ). is_among q (map enc_task ran))
    (λ q. ap (is_among q) ran_are ∙ among_order q (map enc_task ran)) in
    let digest : get_by_text digests ≡ digest_in funcs = same_functions (get_by_text digests) (digest_in funcs) digest_is in
    let at : bytes_by files places ≡ bytes_in (contents_in files) = same_functions (bytes_by files places) (bytes_in (contents_in files)) bytes_are in
    ap (λ (h : List ℕ → Bool). filter_map (told_where h (get_by_text digests) (bytes_by files places)) rows) has
    ∙ ap (λ (d : List ℕ → Option (List ℕ)). filter_map (told_where (λ q. is_among q (map enc_task ran)) d (bytes_by files places)) rows) digest
    ∙ ap (λ (a : List ℕ → Option (List ℕ)). filter_map (told_where (λ q. is_among q (map enc_task ran)) (digest_in funcs) a) rows) at
