-- Entries of sources joined with those under `out/`: their order, and the entry of each path.
use Rattle.std.proofs.Common.{◌≡◌, ℕ, ◌==◌, Bool, true, false, cond, List, [], ◌∷◌, ◌++◌, refl, sym, ap, subst, ◌∙◌, eqb}
use Rattle.std.specs.Prelude.{◌&&◌, ◌||◌, Option, Some, None, IfSome, All, is_some}
use Rattle.std.specs.Option.{option_map}
use Rattle.std.specs.List.{filter, AllByRecursion}
use Rattle.std.specs.List.Sorted.{IsStrictlySortedBy}
use Rattle.std.specs.Ordering.{nat_cmp, ordering_index, ordering_reverse, ordering_then}
use Rattle.std.specs.Cmp.Lexicographic.{slice_cmp, nat_list_cmp_total}
use Rattle.std.specs.declared.cmp.Ordering.{Ordering}
use Rattle.std.specs.declared.cmp.Ordering.TheVariants.{Less, Equal, Greater}
use Rattle.std.proofs.lemmas.Bool.{false≢true}
use Rattle.std.proofs.lemmas.Bool.Decides.{Decides-eqb}
use Rattle.std.proofs.lemmas.Map.Lookups.{exact_unsigned, exact_bytes}
use Rattle.std.proofs.lemmas.List.Elements.{All-append, All-filter}
use Rattle.pie_base.specs.Path.{is_below, is_out, is_slash, is_source, rest_below, same_text}
use Rattle.pie_files.specs.Directory.{Directory, file_at}
use Rattle.pie_scan.proofs.Merging.{AllAbove}
use Rattle.pie_scan.proofs.Naming.{before_trans, same_is}
use Rattle.pie_scan.specs.declared.entry.Entry.{Entry}
use Rattle.pie_scan.specs.Entries.{path_cmp, paths_in, AreInOrder, entry_at}
use Rattle.pie_scan.specs.Scanned.{AreScanned, entry_in, entry_of, is_scanned, is_within, out_dir}
use Rattle.pie_scan.specs.Texts.{HasMark}
use Rattle.pie_listing.specs.inner.Sources.{AreSources, joined, out_start, place_of, stands}

-- ---- where paths stand

same_number : (a b : ℕ) → (a == b) ≡ true → a ≡ b
same_number a b e = (Decides-eqb a b).0 e

number_same : (a b : ℕ) → a ≡ b → (a == b) ≡ true
number_same a b e = (Decides-eqb a b).1 e

-- a path that isn't below a directory stands to all that are as it does to the directory with a slash
below_alike : (dir q p : List ℕ) → is_below dir p ≡ true → is_below dir q ≡ false → path_cmp q p ≡ path_cmp q (dir ++ 47 ∷ [])
below_alike [] q [] e f = absurd (false≢true e)
below_alike [] [] (b ∷ p) e f = refl
below_alike [] (c ∷ q) (b ∷ p) e f = by_slash (is_slash b) refl e
  where
    by_number : (o : Ordering) → nat_cmp c 47 ≡ o → ordering_then o (slice_cmp nat_cmp q p) ≡ ordering_then o (slice_cmp nat_cmp q [])
    by_number Less g = refl
    by_number Equal g =
        let slash : is_slash c ≡ true = number_same c 47 (exact_unsigned c 47 g) in
        absurd (false≢true (sym f ∙ ap (λ (t : Bool). is_some (cond t (Some q) None)) slash))
    by_number Greater g = refl

    by_slash : (t : Bool) → is_slash b ≡ t → is_some (cond t (Some p) None) ≡ true → path_cmp (c ∷ q) (b ∷ p) ≡ path_cmp (c ∷ q) (47 ∷ [])
    by_slash true g h =
        ap (λ (n : ℕ). ordering_then (nat_cmp c n) (slice_cmp nat_cmp q p)) (same_number b 47 g) ∙ by_number (nat_cmp c 47) refl
    by_slash false g h = absurd (false≢true h)
below_alike (d ∷ dir) q [] e f = absurd (false≢true e)
below_alike (d ∷ dir) [] (b ∷ p) e f = refl
below_alike (d ∷ dir) (c ∷ q) (b ∷ p) e f = by_first (below_alike dir q p) (d == b) refl e
  where
    Rest : Type 0
    Rest = is_below dir p ≡ true → is_below dir q ≡ false → path_cmp q p ≡ path_cmp q (dir ++ 47 ∷ [])

    by_number : Rest → (o : Ordering) → nat_cmp c d ≡ o → is_below dir p ≡ true
        → ordering_then o (slice_cmp nat_cmp q p) ≡ ordering_then o (slice_cmp nat_cmp q (dir ++ 47 ∷ []))
    by_number rest Less g h = refl
    by_number rest Equal g h =
        let first : (d == c) ≡ true = number_same d c (sym (exact_unsigned c d g)) in
        rest h (sym (ap (λ (t : Bool). is_some (cond t (rest_below dir q) None)) first) ∙ f)
    by_number rest Greater g h = refl

    by_first : Rest → (t : Bool) → (d == b) ≡ t → is_some (cond t (rest_below dir p) None) ≡ true
        → path_cmp (c ∷ q) (b ∷ p) ≡ path_cmp (c ∷ q) ((d ∷ dir) ++ 47 ∷ [])
    by_first rest true g h =
        ap (λ (n : ℕ). ordering_then (nat_cmp c n) (slice_cmp nat_cmp q p)) (sym (same_number d b g)) ∙ by_number rest (nat_cmp c d) refl h
    by_first rest false g h = absurd (false≢true h)

-- ---- the three parts

-- what a place tells of a path
abbrev Tells : Ordering → List ℕ → Type 0
Tells Less q = (is_out q ≡ false) × (path_cmp q out_start ≡ Less)
Tells Equal q = is_out q ≡ true
Tells Greater q = (is_out q ≡ false) × (path_cmp q out_start ≡ Greater)

told : (q : List ℕ) (place : Ordering) → place_of q ≡ place → Tells place q
told q place e = by (is_out q) refl place e
  where
    by : (b : Bool) → is_out q ≡ b → (o : Ordering) → cond b Equal (path_cmp q out_start) ≡ o → Tells o q
    by true f Less g = absurd (cc)
    by true f Equal g = f
    by true f Greater g = absurd (cc)
    by false f Less g = (f, g)
    by false f Equal g = ap is_out (exact_bytes q out_start g)
    by false f Greater g = (f, g)

same_place : (a b : Ordering) → (ordering_index a == ordering_index b) ≡ true → a ≡ b
same_place Less Less e = refl
same_place Equal Equal e = refl
same_place Greater Greater e = refl
same_place Less Equal e = absurd (cc)
same_place Less Greater e = absurd (cc)
same_place Equal Less e = absurd (cc)
same_place Equal Greater e = absurd (cc)
same_place Greater Less e = absurd (cc)
same_place Greater Equal e = absurd (cc)

abbrev AllTell : Ordering → List Entry → Type 0
AllTell place es = AllByRecursion (λ (e : Entry). Tells place e.path) es

part_tells : (place : Ordering) (es : List Entry) → AllTell place (filter (stands place) es)
part_tells place [] = tt
part_tells place (e ∷ es) = by (part_tells place es) (stands place e) refl
  where
    by : AllTell place (filter (stands place) es) → (b : Bool) → stands place e ≡ b
        → AllTell place (cond b (e ∷ filter (stands place) es) (filter (stands place) es))
    by rest true f = (told e.path place (same_place (place_of e.path) place f), rest)
    by rest false f = rest

above_part : (p : List ℕ) (test : Entry → Bool) (es : List Entry) → AllAbove p (paths_in es) → AllAbove p (paths_in (filter test es))
above_part p test [] h = tt
above_part p test (e ∷ es) h = by (above_part p test es h.1) (test e)
  where
    by : AllAbove p (paths_in (filter test es)) → (b : Bool) → AllAbove p (paths_in (cond b (e ∷ filter test es) (filter test es)))
    by rest true = (h.0, rest)
    by rest false = rest

part_in_order : (test : Entry → Bool) (es : List Entry) → AreInOrder es → AreInOrder (filter test es)
unfolding IsStrictlySortedBy
part_in_order test [] h = tt
part_in_order test (e ∷ es) h = by (part_in_order test es h.1) (test e)
  where
    by : AreInOrder (filter test es) → (b : Bool) → AreInOrder (cond b (e ∷ filter test es) (filter test es))
    by rest true = (above_part e.path test es h.0, rest)
    by rest false = rest

above_more : (p : List ℕ) (xs ys : List Entry) → AllAbove p (paths_in xs) → AllAbove p (paths_in ys) → AllAbove p (paths_in (xs ++ ys))
above_more p [] ys h k = k
above_more p (x ∷ xs) ys h k = (h.0, above_more p xs ys h.1 k)

-- entries in order, with others above all of them
in_order_more : (xs ys : List Entry) → AreInOrder xs → AreInOrder ys → AllByRecursion (λ (e : Entry). AllAbove e.path (paths_in ys)) xs → AreInOrder (xs ++ ys)
unfolding IsStrictlySortedBy
in_order_more [] ys h k above = k
in_order_more (x ∷ xs) ys h k above = (above_more x.path xs ys h.0 above.0, in_order_more xs ys h.1 k above.1)

-- each entry of one part comes before each of a later one
abbrev IsLater : Ordering → Ordering → Type 0
IsLater a b = (p q : List ℕ) → Tells a p → Tells b q → path_cmp p q ≡ Less

out_above : IsLater Less Equal
out_above p q h k = below_alike out_dir p q k h.0 ∙ h.1

turned : (a b : List ℕ) → path_cmp b a ≡ Greater → path_cmp a b ≡ Less
turned a b e = nat_list_cmp_total.antisymm a b ∙ ap ordering_reverse e

rest_above_out : IsLater Equal Greater
rest_above_out p q h k = turned p q (below_alike out_dir q p h k.0 ∙ k.1)

rest_above : IsLater Less Greater
rest_above p q h k = before_trans p out_start q h.1 (turned out_start q k.1)

all_above : (a b : Ordering) → IsLater a b → (p : List ℕ) → Tells a p → (ys : List Entry) → AllTell b ys → AllAbove p (paths_in ys)
all_above a b later p h [] k = tt
all_above a b later p h (y ∷ ys) k = (later p y.path h k.0, all_above a b later p h ys k.1)

each_above : (a b : Ordering) → IsLater a b → (xs ys : List Entry) → AllTell a xs → AllTell b ys → AllByRecursion (λ (e : Entry). AllAbove e.path (paths_in ys)) xs
each_above a b later [] ys h k = tt
each_above a b later (x ∷ xs) ys h k = (all_above a b later x.path h.0 ys k, each_above a b later xs ys h.1 k)

both_above : (xs ys zs : List Entry) → AllByRecursion (λ (e : Entry). AllAbove e.path (paths_in ys)) xs
    → AllByRecursion (λ (e : Entry). AllAbove e.path (paths_in zs)) xs → AllByRecursion (λ (e : Entry). AllAbove e.path (paths_in (ys ++ zs))) xs
both_above [] ys zs h k = tt
both_above (x ∷ xs) ys zs h k = (above_more x.path ys zs h.0 k.0, both_above xs ys zs h.1 k.1)

pub joined_in_order : (seen out : List Entry) → AreInOrder seen → AreInOrder out → AreInOrder (joined seen out)
joined_in_order seen out h k =
    let before = filter (stands Less) seen in
    let among = filter (stands Equal) out in
    let behind = filter (stands Greater) seen in
    let low = part_tells Less seen in
    let mid = part_tells Equal out in
    let high = part_tells Greater seen in
    in_order_more before (among ++ behind) (part_in_order (stands Less) seen h)
    (in_order_more among behind (part_in_order (stands Equal) out k) (part_in_order (stands Greater) seen h)
    (each_above Equal Greater rest_above_out among behind mid high))
    (both_above before among behind (each_above Less Equal out_above before among low mid) (each_above Less Greater rest_above before behind low high))

pub joined_marked : (seen out : List Entry) → All HasMark seen → All HasMark out → All HasMark (joined seen out)
joined_marked seen out h k =
    All-append HasMark (filter (stands Less) seen) (filter (stands Equal) out ++ filter (stands Greater) seen) (All-filter (stands Less) HasMark seen h)
    (All-append HasMark (filter (stands Equal) out) (filter (stands Greater) seen) (All-filter (stands Equal) HasMark out k)
    (All-filter (stands Greater) HasMark seen h))

-- ---- the entry of a path

abbrev either : Option Entry → Option Entry → Option Entry
either None b = b
either (Some e) b = Some e

entry_of_both : (xs ys : List Entry) (q : List ℕ) → entry_at (xs ++ ys) q ≡ either (entry_at xs q) (entry_at ys q)
entry_of_both [] ys q = refl
entry_of_both (x ∷ xs) ys q = by (entry_of_both xs ys q) (same_text x.path q)
  where
    by : entry_at (xs ++ ys) q ≡ either (entry_at xs q) (entry_at ys q) → (b : Bool)
        → cond b (Some x) (entry_at (xs ++ ys) q) ≡ either (cond b (Some x) (entry_at xs q)) (entry_at ys q)
    by rest true = refl
    by rest false = rest

-- a path stands at a place
abbrev here : Ordering → List ℕ → Bool
here place q = ordering_index (place_of q) == ordering_index place

entry_of_part : (place : Ordering) (es : List Entry) (q : List ℕ) → entry_at (filter (stands place) es) q ≡ cond (here place q) (entry_at es q) None
entry_of_part place [] q = by (here place q) None
  where
    by : (b : Bool) (o : Option Entry) → o ≡ cond b o o
    by true o = refl
    by false o = refl
entry_of_part place (e ∷ es) q = by (entry_of_part place es q) (stands place e) refl (same_text e.path q) refl
  where
    by : entry_at (filter (stands place) es) q ≡ cond (here place q) (entry_at es q) None → (s : Bool) → stands place e ≡ s
        → (t : Bool) → same_text e.path q ≡ t → entry_at (cond s (e ∷ filter (stands place) es) (filter (stands place) es)) q ≡ cond (here place q) (cond t (Some e) (entry_at es q)) None
    by rest true f true g =
        let at : here place q ≡ true = sym (ap (here place) (same_is e.path q g)) ∙ f in
        ap (λ (b : Bool). cond b (Some e) (entry_at (filter (stands place) es) q)) g ∙ sym (ap (λ (b : Bool). cond b (Some e) None) at)
    by rest true f false g = ap (λ (b : Bool). cond b (Some e) (entry_at (filter (stands place) es) q)) g ∙ rest
    by rest false f true g =
        let at : here place q ≡ false = sym (ap (here place) (same_is e.path q g)) ∙ f in
        rest ∙ ap (λ (b : Bool). cond b (entry_at es q) None) at ∙ sym (ap (λ (b : Bool). cond b (Some e) None) at)
    by rest false f false g = rest

entry_of_three : (seen out : List Entry) (q : List ℕ)
    → entry_at (joined seen out) q
    ≡ either (cond (here Less q) (entry_at seen q) None) (either (cond (here Equal q) (entry_at out q) None) (cond (here Greater q) (entry_at seen q) None))
entry_of_three seen out q =
    let before = filter (stands Less) seen in
    let among = filter (stands Equal) out in
    let behind = filter (stands Greater) seen in
    entry_of_both before (among ++ behind) q
    ∙ ap (λ (o : Option Entry). either (entry_at before q) o) (entry_of_both among behind q)
    ∙ ap (λ (o : Option Entry). either o (either (entry_at among q) (entry_at behind q))) (entry_of_part Less seen q)
    ∙ ap (λ (o : Option Entry). either (cond (here Less q) (entry_at seen q) None) (either o (entry_at behind q))) (entry_of_part Equal out q)
    ∙ ap (λ (o : Option Entry). either (cond (here Less q) (entry_at seen q) None) (either (cond (here Equal q) (entry_at out q) None) o))
    (entry_of_part Greater seen q)

or_none : (o : Option Entry) → either o None ≡ o
or_none None = refl
or_none (Some e) = refl

-- of which the place of the path decides
by_place : (seen out : List Entry) (q : List ℕ) (place : Ordering) → place_of q ≡ place
    → entry_at (joined seen out) q ≡ cond (ordering_index place == 1) (entry_at out q) (entry_at seen q)
by_place seen out q place e = entry_of_three seen out q ∙ subst Three (sym e) (of place refl)
  where
    Three : Ordering → Type 0
    Three o =
        either (cond (ordering_index o == 0) (entry_at seen q) None)
        (either (cond (ordering_index o == 1) (entry_at out q) None) (cond (ordering_index o == 2) (entry_at seen q) None))
        ≡ cond (ordering_index place == 1) (entry_at out q) (entry_at seen q)

    of : (o : Ordering) → place ≡ o → Three o
    of Less f = or_none (entry_at seen q) ∙ ap (λ (p : Ordering). cond (ordering_index p == 1) (entry_at out q) (entry_at seen q)) (sym f)
    of Equal f = or_none (entry_at out q) ∙ ap (λ (p : Ordering). cond (ordering_index p == 1) (entry_at out q) (entry_at seen q)) (sym f)
    of Greater f = ap (λ (p : Ordering). cond (ordering_index p == 1) (entry_at out q) (entry_at seen q)) (sym f)

-- ---- the scanned files

module _ (d : Directory) (tops : List (List ℕ)) (seen out : List Entry) (sources : AreSources d tops seen) (now : AreScanned d [] out) where
  of_out : (q : List ℕ) → is_out q ≡ true → entry_at (joined seen out) q ≡ cond (is_scanned tops q) (entry_in d q) None
  of_out q on =
      by_place seen out q Equal (ap (λ (b : Bool). cond b Equal (path_cmp q out_start)) on)
      ∙ now.each q
      ∙ ap (λ (b : Bool). cond (b || (is_source q && is_within [] q)) (entry_in d q) None) on
      ∙ sym (ap (λ (b : Bool). cond (b || (is_source q && is_within tops q)) (entry_in d q) None) on)

  of_source : (q : List ℕ) → is_out q ≡ false → entry_at (joined seen out) q ≡ cond (is_scanned tops q) (entry_in d q) None
  of_source q off = by (place_of q) refl ∙ sources.each q off
    where
      by : (place : Ordering) → place_of q ≡ place → entry_at (joined seen out) q ≡ entry_at seen q
      by Less e = by_place seen out q Less e
      by Equal e = absurd (false≢true (sym off ∙ told q Equal e))
      by Greater e = by_place seen out q Greater e

  joined_scanned : AreInOrder seen → AreScanned d tops (joined seen out)
  joined_scanned h = record { ordered = joined_in_order seen out h now.ordered; each = λ q. by q (is_out q) refl }
    where
      by : (q : List ℕ) (b : Bool) → is_out q ≡ b → entry_at (joined seen out) q ≡ cond (is_scanned tops q) (entry_in d q) None
      by q true e = of_out q e
      by q false e = of_source q e

pub scanned_as : (o : Option Directory) (xs ys : List Entry) → ys ≡ xs → IfSome o (λ d. AreScanned d [] xs) → IfSome o (λ d. AreScanned d [] ys)
scanned_as o xs ys same h = subst (λ zs. IfSome o (λ d. AreScanned d [] zs)) (sym same) h

pub scanned_if : (o : Option Directory) (seen out entries : List Entry) → entries ≡ joined seen out → AreInOrder seen
    → IfSome o (λ d. AreScanned d [] out) → IfSome o (λ d. (tops : List (List ℕ)) → AreSources d tops seen → AreScanned d tops entries)
scanned_if None seen out entries is h now = tt
scanned_if (Some d) seen out entries is h now = λ tops sources. subst (AreScanned d tops) (sym is) (joined_scanned d tops seen out sources now h)

-- sources that were scanned are those of each directory that has the same ones
pub still_sources : (d e : Directory) (tops : List (List ℕ)) (entries : List Entry) → ((q : List ℕ) → is_source q ≡ true → file_at e q ≡ file_at d q)
    → AreScanned d tops entries → AreSources e tops entries
still_sources d e tops entries still are = record { each = λ q off. are.each q ∙ by q off (is_source q) refl }
  where
    by : (q : List ℕ) → is_out q ≡ false → (b : Bool) → is_source q ≡ b
        → cond (is_scanned tops q) (entry_in d q) None ≡ cond (is_scanned tops q) (entry_in e q) None
    by q off true on = ap (λ (f : Option (List ℕ × ℕ)). cond (is_scanned tops q) (option_map (entry_of q) f) None) (sym (still q on))
    by q off false no_source =
        let none : is_scanned tops q ≡ false =
        ap (λ (b : Bool). b || (is_source q && is_within tops q)) off ∙ ap (λ (b : Bool). b && is_within tops q) no_source in
        ap (λ (b : Bool). cond b (entry_in d q) None) none ∙ sym (ap (λ (b : Bool). cond b (entry_in e q) None) none)
