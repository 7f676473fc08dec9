-- What keeping makes of files, one offer after another.
use Rattle.std.proofs.Common.{◌≡◌, ℕ, ◌<◌, ◌≤◌, Bool, true, false, cond, List, [], ◌∷◌, ◌++◌, length, refl, sym, ap, ◌∙◌, subst, arith, Vec, Global}
use Rattle.std.specs.Prelude.{All, map, take, Option, None, Some, IfSome, Box, nat_lt}
use Rattle.std.specs.Option.{option_map}
use Rattle.std.specs.Ordering.{nat_cmp, match_ordering}
use Rattle.std.specs.declared.cmp.Ordering.{Ordering}
use Rattle.std.specs.declared.cmp.Ordering.TheVariants.{Less, Equal, Greater}
use Rattle.std.specs.Cmp.Lexicographic.{slice_cmp, texts_ties}
use Rattle.std.specs.BTreeMap.{BTreeMap, get, insert_entry}
use Rattle.std.specs.BTreeMap as map
use Rattle.std.specs.Map.{lookup}
use Rattle.std.proofs.lemmas.Bool.{false≢true, le-ltb}
use Rattle.std.proofs.lemmas.List.{take-map}
use Rattle.std.proofs.lemmas.List.Elements.{All-nil, All-cons, All-head, All-tail, All-take}
use Rattle.pie_base.specs.Path.{same_text}
use Rattle.pie_commit.specs.inner.Plans.{Wanted, Same, Gone, Bytes, Meets, later, at, written}
use Rattle.pie_commit.specs.Outcomes.{HasBrought}
use Rattle.pie_commit.proofs.Bringing.{later-same, at_same}
use Rattle.pie_commit.proofs.Standing.{same_itself, same_path}
use Rattle.pie_files.specs.Directory.{Directory, file_at}
use Rattle.pie_store.specs.declared.offers.Offer.{Offer}
use Rattle.pie_store.specs.inner.Offers.{Offered, offered}
use Rattle.pie_cache.specs.inner.Contents.{IsKeptOffer, IsNewsIn}
use Rattle.pie_cache.specs.inner.Keeping.{or_else, is_at, last_for, fitting, kept, HasKept, held_for}
use Rattle.pie_cache.specs.inner.Places.{gate}

abbrev Draft : Type 0
Draft = List ℕ × Vec ℕ Global

abbrev Latest : Type 0
Latest = BTreeMap (List ℕ) (Box Offer Global)

abbrev at_key : Latest → List ℕ → Option (Box Offer Global)
at_key m q = get (slice_cmp nat_cmp) m q

abbrev told : Option (Box Offer Global) → Option Offered
told = option_map (λ (b : Box Offer Global). offered b.value)

-- ---- a key of the map and a path

turned : (a b : List ℕ) → same_text a b ≡ same_text b a
turned a b = by (same_text a b) refl (same_text b a) refl
  where
    by : (x : Bool) → same_text a b ≡ x → (y : Bool) → same_text b a ≡ y → same_text a b ≡ same_text b a
    by true e true f = e ∙ sym f
    by false e false f = e ∙ sym f
    by true e false f = absurd (false≢true (sym f ∙ subst (λ c. same_text c a ≡ true) (same_path a b e) (same_itself a)))
    by false e true f = absurd (false≢true (sym e ∙ subst (λ c. same_text c b ≡ true) (same_path b a f) (same_itself b)))

pub tied : (path q : List ℕ) → is_at path q ≡ same_text q path
tied path q = sym (texts_ties path q) ∙ turned path q

-- ---- the last offer of each path

or_assoc : (a b c : Option Offered) → or_else (or_else a b) c ≡ or_else a (or_else b c)
or_assoc None b c = refl
or_assoc (Some o) b c = refl

or_none : (a : Option Offered) → or_else a None ≡ a
or_none None = refl
or_none (Some o) = refl

-- no offer is held at first
pub latest_none : (all : List (List ℕ × Offer)) (m : Latest) → m.entries ≡ [] → (q : List ℕ) → or_else (last_for all q) (held_for m q) ≡ last_for all q
latest_none all m none q =
    ap (λ (es : List (List ℕ × Box Offer Global)). or_else (last_for all q) (told (lookup (map.is_at (slice_cmp nat_cmp q)) es))) none ∙ or_none (last_for all q)

-- one more
pub latest_more : (all left rest : List (List ℕ × Offer)) (m n : Latest) (path : List ℕ) (offer : Offer) (b : Box Offer Global) → left ≡ (path, offer) ∷ rest
    → b.value ≡ offer → ((q : List ℕ) → at_key n q ≡ cond (is_at path q) (Some b) (at_key m q))
    → ((q : List ℕ) → or_else (last_for left q) (held_for m q) ≡ last_for all q) → (q : List ℕ) → or_else (last_for rest q) (held_for n q) ≡ last_for all q
latest_more all left rest m n path offer b next same puts before q =
    ap (or_else (last_for rest q)) (put (same_text q path) (tied path q))
    ∙ sym (or_assoc (last_for rest q) (cond (same_text q path) (Some (offered offer)) None) (held_for m q))
    ∙ ap (λ (l : List (List ℕ × Offer)). or_else (last_for l q) (held_for m q)) (sym next) ∙ before q
  where
    put : (t : Bool) → is_at path q ≡ t → held_for n q ≡ or_else (cond t (Some (offered offer)) None) (held_for m q)
    put true e = ap told (puts q ∙ ap (λ (t : Bool). cond t (Some b) (at_key m q)) e) ∙ ap (λ (o : Offer). Some (offered o)) same
    put false e = ap told (puts q ∙ ap (λ (t : Bool). cond t (Some b) (at_key m q)) e)

pub latest_all : (all left : List (List ℕ × Offer)) (m : Latest) → left ≡ [] → ((q : List ℕ) → or_else (last_for left q) (held_for m q) ≡ last_for all q)
    → (q : List ℕ) → held_for m q ≡ last_for all q
latest_all all left m none so_far q = ap (λ (l : List (List ℕ × Offer)). or_else (last_for l q) (held_for m q)) (sym none) ∙ so_far q

-- what is put into the map can be kept
pub news_put : (es : List (List ℕ × Box Offer Global)) (k : List ℕ) (v : Box Offer Global) → IsNewsIn (k, v) → All IsNewsIn es
    → All IsNewsIn (insert_entry (slice_cmp nat_cmp) es k v)
news_put [] k v news all = All-cons IsNewsIn (k, v) [] news (All-nil IsNewsIn)
news_put (e ∷ es) k v news all = by (news_put es k v news (All-tail IsNewsIn e es all)) (slice_cmp nat_cmp k e.0)
  where
    by : All IsNewsIn (insert_entry (slice_cmp nat_cmp) es k v) → (o : Ordering) → All IsNewsIn (match_ordering o ((k, v) ∷ e ∷ es) ((e.0, v) ∷ es) (e ∷ insert_entry (slice_cmp nat_cmp) es k v))
    by rest Less = All-cons IsNewsIn (k, v) (e ∷ es) news all
    by rest Equal = All-cons IsNewsIn (e.0, v) es (record { place = (All-head IsNewsIn e es all).place; kept = news.kept }) (All-tail IsNewsIn e es all)
    by rest Greater = All-cons IsNewsIn e (insert_entry (slice_cmp nat_cmp) es k v) (All-head IsNewsIn e es all) rest

-- ---- texts

-- the entries of a file with one more in front
pub in_front : (o : Offer) (earlier entries : List Offer) → entries ≡ o ∷ take 3 earlier → map offered entries ≡ offered o ∷ take 3 (map offered earlier)
in_front o earlier entries is = ap (map offered) is ∙ ap (λ (l : List Offered). offered o ∷ l) (sym (take-map offered 3 earlier))

pub front_kept : (o : Offer) (earlier entries : List Offer) → entries ≡ o ∷ take 3 earlier → IsKeptOffer o → All IsKeptOffer earlier → All IsKeptOffer entries
front_kept o earlier entries is first rest =
    subst (All IsKeptOffer) (sym is) (All-cons IsKeptOffer o (take 3 earlier) first (All-take IsKeptOffer 3 earlier rest))

-- ---- drafts

later_assoc : (a b c : Wanted) → later (later a b) c ≡ later a (later b c)
later_assoc Same b c = refl
later_assoc Gone b c = refl
later_assoc (Bytes bytes) b c = refl

-- a draft at the end
written_push : (drafts : List Draft) (path : List ℕ) (text : Vec ℕ Global) (q : List ℕ)
    → written (drafts ++ (path, text) ∷ []) q ≡ later (at path (Bytes text.items) q) (written drafts q)
written_push [] path text q = sym (later-same (at path (Bytes text.items) q))
written_push (d ∷ drafts) path text q =
    ap (λ w. later w (at d.0 (Bytes d.1.items) q)) (written_push drafts path text q)
    ∙ later_assoc (at path (Bytes text.items) q) (written drafts q) (at d.0 (Bytes d.1.items) q)

-- a text that isn't too long is a draft
pub added_draft : (before after : List Draft) (path : List ℕ) (text : Vec ℕ Global) → length text.items ≤ 16777216 → after ≡ before ++ (path, text) ∷ []
    → (q : List ℕ) → written after q ≡ later (at path (fitting text.items) q) (written before q)
added_draft before after path text fits is q =
    ap (λ (l : List Draft). written l q) is ∙ written_push before path text q
    ∙ ap (λ (t : Bool). later (at path (cond t Same (Bytes text.items)) q) (written before q)) (sym (le-ltb 16777216 (length text.items) fits))

pub added_none : (before : List Draft) (path text : List ℕ) → nat_lt 16777216 (length text) ≡ true
    → (q : List ℕ) → written before q ≡ later (at path (fitting text) q) (written before q)
added_none before path text long q =
    sym (ap (λ (t : Bool). later (at path (cond t Same (Bytes text)) q) (written before q)) long ∙ ap (λ w. later w (written before q)) (at_same path q))

-- one offer of the map more
module _ (f : List ℕ → Option (List ℕ × ℕ)) (m n : Latest) (path : List ℕ) (b : Box Offer Global) (before after : List Draft) (target : List ℕ → Wanted)
    (has : at_key m path ≡ Some b) (out : (q : List ℕ) → at_key n q ≡ cond (is_at path q) None (at_key m q))
    (added : (q : List ℕ) → written after q ≡ later (at path (kept (Some (offered b.value)) (f path)) q) (written before q)) where
  pub made_more : ((q : List ℕ) → later (kept (held_for m q) (f q)) (written before q) ≡ target q)
      → (q : List ℕ) → later (kept (held_for n q) (f q)) (written after q) ≡ target q
  made_more so_far q = by (same_text q path) refl
    where
      wanted : Wanted
      wanted = kept (Some (offered b.value)) (f path)

      held : (t : Bool) → same_text q path ≡ t → held_for n q ≡ told (cond t None (at_key m q))
      held t e = ap told (out q ∙ ap (λ (t : Bool). cond t None (at_key m q)) (tied path q ∙ e))

      by : (t : Bool) → same_text q path ≡ t → later (kept (held_for n q) (f q)) (written after q) ≡ target q
      by true e =
          ap (λ (o : Option Offered). later (kept o (f q)) (written after q)) (held true e)
          ∙ added q ∙ ap (λ (t : Bool). later (cond t wanted Same) (written before q)) e
          ∙ ap (λ (o : Option (Box Offer Global)). later (kept (told o) (f path)) (written before q)) (sym has)
          ∙ ap (λ (p : List ℕ). later (kept (held_for m p) (f p)) (written before q)) (sym (same_path q path e))
          ∙ so_far q
      by false e =
          ap (λ (o : Option Offered). later (kept o (f q)) (written after q)) (held false e)
          ∙ ap (λ (w : Wanted). later (kept (held_for m q) (f q)) w) (added q ∙ ap (λ (t : Bool). later (cond t wanted Same) (written before q)) e)
          ∙ so_far q

-- none is left
pub made_all : (f : List ℕ → Option (List ℕ × ℕ)) (m : Latest) (drafts : List Draft) (target : List ℕ → Wanted) → m.entries ≡ []
    → ((q : List ℕ) → later (kept (held_for m q) (f q)) (written drafts q) ≡ target q) → (q : List ℕ) → written drafts q ≡ target q
made_all f m drafts target none so_far q =
    ap (λ (es : List (List ℕ × Box Offer Global)). later (kept (told (lookup (map.is_at (slice_cmp nat_cmp q)) es)) (f q)) (written drafts q)) (sym none)
    ∙ so_far q

-- ---- the whole

marker_gone : (b : Bool) (changed : Wanted) → later (cond b Gone Same) (later changed (cond b (Bytes []) Same)) ≡ later (cond b Gone Same) changed
marker_gone true changed = refl
marker_gone false changed = later-same changed

-- a gate that was set before all goes after all
pub gate_gone : (drafts : List Draft) (q : List ℕ)
    → later (at gate Gone q) (later (written drafts q) (at gate (Bytes []) q)) ≡ later (at gate Gone q) (written drafts q)
gate_gone drafts q = marker_gone (same_text q gate) (written drafts q)

pub has_kept : (fresh : List (List ℕ × Offer)) (drafts : List Draft) (before after : Option Directory)
    → IfSome before (λ d. (q : List ℕ) → written drafts q ≡ kept (last_for fresh q) (file_at d q))
    → HasBrought (λ q. later (at gate Gone q) (written drafts q)) before after → HasKept fresh before after
has_kept fresh drafts None after made done = tt
has_kept fresh drafts (Some d) after made done =
    (done.0, done.1, λ q. subst (λ w. Meets (later (at gate Gone q) w) (file_at d q) (file_at done.0 q)) (made q) (done.2 q))

pub no_more : {A : Type 0} (xs : List A) → length xs ≡ 0 → xs ≡ []
no_more [] e = refl
no_more (x ∷ xs) e = absurd (omega arith)

pub emptied : {A : Type 0} (xs : List A) → (0 < length xs → ⊥) → xs ≡ []
emptied [] none = refl
emptied (x ∷ xs) none = absurd (none (omega arith))

-- at first all is left
pub all_so_far : (o : Option Directory) (target : Directory → List ℕ → Wanted) → IfSome o (λ d. (q : List ℕ) → target d q ≡ target d q)
all_so_far None target = tt
all_so_far (Some d) target = λ q. refl
