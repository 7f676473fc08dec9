-- What a look or a listing is stamped with now, and that equal stamps come of equal answers.
use Rattle.std.proofs.Common.{ℕ, zero, suc, leb, ◌≡◌, Bool, true, false, cond, Option, Some, None, option_map, List, [], ◌∷◌, ◌++◌, length, sym, ◌∙◌, ap, ap₂}
use Rattle.std.proofs.Common.{subst, refl, bytes_eq, append_assoc, append-nil}
use Rattle.pie_model.specs.Paths.{Path, Kind, Out, Kept, Source, kind_of, among}
use Rattle.pie_model.specs.Tasks.{Task, Value, Look, Exists, ByHash, ByMark, Digest, How, Whole, Hashed, Ran, Answer, HashOf, Output, Event, Done, Fail, LookAt}
use Rattle.pie_model.specs.Tasks.{ListOf, Write, Require}
use Rattle.pie_model.specs.Trees.{Node, Trace, Seen, Nothing, Holds, Clashing, Outcome, Ended, Failed, Cycled, Many, outcome_of, writes_of}
use Rattle.pie_model.specs.Seen.{first_write, provided, seen_file, own_first, visible_by, visible_at}
use Rattle.pie_model.specs.Evaluation.{World, Project, Progress, wrote, absent_answer, present_answer, output_answer, within_limit, listing, on_seen}
use Rattle.pie_model.specs.Evaluation.{on_listing, on_outcome, on_event, follow}
use Rattle.pie_model.specs.Records.{Stamp, Absent, Hash, Mark, WholeValue, mark_stamp, contents_stamp, look_stamp, value_stamp, hashed}
use Rattle.pie_model.specs.StampNow.{told_of, Teller, hash_stamp, told_stamp, own_told, look_now}
use Rattle.pie_model.specs.Separate.{StampsSeparate, ListingsDiffer, MetSeen, looked_paths, path_looked, NeverWritesWhatItSaw}
use Rattle.pie_model.proofs.Basics.{among_left, among_right, among_here, same_bytes}

-- ---- first writes

pub first_write_prefix : (p : Path) (xs ys : List (Path × List ℕ)) → first_write p ys ≡ None → first_write p (xs ++ ys) ≡ first_write p xs
first_write_prefix p [] ys h = h
first_write_prefix p (x ∷ xs) ys h = ap (λ o. cond (bytes_eq p x.0) (Some x.1) o) (first_write_prefix p xs ys h)

pub first_write-hashed : (w : World) (p : Path) (xs : List (Path × List ℕ)) → first_write p (hashed w xs) ≡ option_map w.hash (first_write p xs)
first_write-hashed w p [] = refl
first_write-hashed w p (x ∷ xs) = go (bytes_eq p x.0) (first_write-hashed w p xs)
  where
    go : (b : Bool) → first_write p (hashed w xs) ≡ option_map w.hash (first_write p xs)
        → cond b (Some (w.hash x.1)) (first_write p (hashed w xs)) ≡ option_map w.hash (cond b (Some x.1) (first_write p xs))
    go true r = refl
    go false r = r

pub hashed-append : (w : World) (xs ys : List (Path × List ℕ)) → hashed w (xs ++ ys) ≡ hashed w xs ++ hashed w ys
hashed-append w [] ys = refl
hashed-append w (x ∷ xs) ys = ap (λ z. (x.0, w.hash x.1) ∷ z) (hashed-append w xs ys)

-- ---- the paths that were looked at

pub looked_more : (next : List Answer → Event) (fed rest : List Answer) (a : Answer)
    → looked_paths next fed (rest ++ a ∷ []) ≡ looked_paths next fed rest ++ path_looked (next (fed ++ rest))
looked_more next fed [] a = append-nil (path_looked (next fed)) ∙ ap (λ z. path_looked (next z)) (sym (append-nil fed))
looked_more next fed (x ∷ rest) a =
    ap (λ z. path_looked (next fed) ++ z)
    (looked_more next (fed ++ x ∷ []) rest a ∙ ap (λ z. looked_paths next (fed ++ x ∷ []) rest ++ path_looked (next z))
    (append_assoc fed (x ∷ []) rest))
    ∙ sym (append_assoc (path_looked (next fed)) (looked_paths next (fed ++ x ∷ []) rest) (path_looked (next (fed ++ x ∷ rest))))

pub looked_keeps : (next : List Answer → Event) (p : Path) (answers : List Answer) (a : Answer) → among p (looked_paths next [] answers) ≡ true
    → among p (looked_paths next [] (answers ++ a ∷ [])) ≡ true
looked_keeps next p answers a h =
    subst (λ z. among p z ≡ true) (sym (looked_more next [] answers a)) (among_left p (looked_paths next [] answers) (path_looked (next answers)) h)

pub looked_now : (next : List Answer → Event) (l : Look) (p : Path) (answers : List Answer) (a : Answer) → next answers ≡ LookAt l p
    → among p (looked_paths next [] (answers ++ a ∷ [])) ≡ true
looked_now next l p answers a h =
    subst (λ z. among p z ≡ true) (sym (looked_more next [] answers a))
    (among_right p (looked_paths next [] answers) (path_looked (next answers))
    (subst (λ e. among p (path_looked e) ≡ true) (sym h) (among_here p [])))

-- a path that was looked at is not written later
module _ (w : World) (P : Project) (child : Task → Node) (t : Task) (polite : NeverWritesWhatItSaw (P.next t)) (p : Path) where
  abbrev Looked : Progress → Type 0
  Looked g = among p (looked_paths (P.next t) [] g.answers) ≡ true

  module _ (go : Progress → Trace) (G : (g : Progress) → Looked g → first_write p (writes_of (go g)) ≡ None) where
    seen_unwritten : (l : Look) (q : Path) (g : Progress) (s : Seen) → Looked g → first_write p (writes_of (on_seen w t l q g go s)) ≡ None
    seen_unwritten l q g Nothing h = G _ (looked_keeps (P.next t) p g.answers (absent_answer l) h)
    seen_unwritten l q g (Holds b m) h = G _ (looked_keeps (P.next t) p g.answers (present_answer w b l) h)
    seen_unwritten l q g Clashing h = refl

    listing_unwritten : (d : Path) (g : Progress) (es : Option (List Path)) → Looked g → first_write p (writes_of (on_listing t d g go es)) ≡ None
    listing_unwritten d g None h = refl
    listing_unwritten d g (Some es) h = G _ (looked_keeps (P.next t) p g.answers _ h)

    outcome_unwritten : (r : How) (g : Progress) (n : Node) (e : Outcome) → Looked g → first_write p (writes_of (on_outcome r g n go e)) ≡ None
    outcome_unwritten r g n (Ended v) h = G _ (looked_keeps (P.next t) p g.answers (output_answer v r) h)
    outcome_unwritten r g n (Failed x f) h = refl
    outcome_unwritten r g n (Cycled ts) h = refl
    outcome_unwritten r g n Many h = refl

    write_unwritten : (g : Progress) (q : Path) (b : List ℕ) → P.next t g.answers ≡ Write q b → Looked g
        → first_write p ((q, b) ∷ writes_of (go (wrote g q b))) ≡ None
    write_unwritten g q b e h = by (bytes_eq p q) refl
      where
        rest : first_write p (writes_of (go (wrote g q b))) ≡ None
        rest = G _ (looked_keeps (P.next t) p g.answers _ h)

        by : (x : Bool) → bytes_eq p q ≡ x → cond x (Some b) (first_write p (writes_of (go (wrote g q b)))) ≡ None
        by true i = absurd (polite g.answers p b (e ∙ ap (λ z. Write z b) (sym (same_bytes p q i))) h)
        by false i = rest

    event_unwritten : (g : Progress) (e : Event) → P.next t g.answers ≡ e → Looked g → first_write p (writes_of (on_event w P child t g go e)) ≡ None
    event_unwritten g (Done v) i h = refl
    event_unwritten g (Fail f) i h = refl
    event_unwritten g (LookAt l q) i h = seen_unwritten l q g (visible_at P.file g.own g.kids q) h
    event_unwritten g (ListOf d) i h = listing_unwritten d g (listing w P d) h
    event_unwritten g (Write q b) i h = write_unwritten g q b i h
    event_unwritten g (Require r u) i h = outcome_unwritten r g (child u) (outcome_of (child u)) h

  pub unwritten_later : (n : ℕ) (g : Progress) → Looked g → first_write p (writes_of (follow w P child t n g)) ≡ None
  unwritten_later zero g h = refl
  unwritten_later (suc n) g h = event_unwritten (follow w P child t n) (unwritten_later n) g (P.next t g.answers) refl h

-- ---- the stamp of a look now

-- the stamp of what is seen; a clash has none
abbrev pub seen_stamp : World → Look → Path → Seen → Option Stamp
seen_stamp w l p Nothing = Some Absent
seen_stamp w l p (Holds b m) = Some (contents_stamp w p b m l)
seen_stamp w l p Clashing = None

pub hash_contents : (w : World) (p : Path) (b : List ℕ) (m : ℕ) (l : Look) → kind_of p ≡ Out → hash_stamp (w.hash b) l ≡ contents_stamp w p b m l
hash_contents w p b m Exists h = refl
hash_contents w p b m ByHash h = refl
hash_contents w p b m ByMark h = ap (λ k. mark_stamp w k b m) (sym h)
hash_contents w p b m Digest h = refl

told_seen : (w : World) (l : Look) (p : Path) (s : Seen) → kind_of p ≡ Out → told_stamp l (told_of w s) ≡ seen_stamp w l p s
told_seen w l p Nothing h = refl
told_seen w l p (Holds b m) h = ap Some (hash_contents w p b m l h)
told_seen w l p Clashing h = refl

own_seen : (w : World) (l : Look) (p : Path) (o : Option (List ℕ)) (s : Seen) → kind_of p ≡ Out
    → told_stamp l (own_told (option_map w.hash o) (told_of w s)) ≡ seen_stamp w l p (own_first o s)
own_seen w l p None s h = told_seen w l p s h
own_seen w l p (Some b) s h = ap Some (hash_contents w p b 0 l h)

file_seen : (w : World) (l : Look) (p : Path) (f : Option (List ℕ × ℕ)) → Some (look_stamp w l p (seen_file f)) ≡ seen_stamp w l p (seen_file f)
file_seen w l p None = refl
file_seen w l p (Some f) = refl

pub look_now_is : (w : World) (P : Project) (by : Teller) (own_all own : List (Path × List ℕ)) (before : List Task)
    (kids : List Node) (l : Look) (p : Path) (k : Kind) → kind_of p ≡ k → first_write p own_all ≡ option_map w.hash (first_write p own)
    → by.told before p ≡ told_of w (provided kids p)
    → look_now w P by own_all before l p k ≡ seen_stamp w l p (visible_by P.file own kids p k)
look_now_is w P by own_all own before kids l p Out h e f =
    ap₂ (λ o s. told_stamp l (own_told o s)) e f ∙ own_seen w l p (first_write p own) (provided kids p) h
look_now_is w P by own_all own before kids l p Kept h e f = refl
look_now_is w P by own_all own before kids l p Source h e f = file_seen w l p (P.file p)

-- ---- equal stamps, equal answers

never_absent : {A : Type 0} (w : World) (p : Path) (b : List ℕ) (m : ℕ) (l : Look) → contents_stamp w p b m l ≡ Absent → A
never_absent w p b m Exists h = cc
never_absent w p b m ByHash h = cc
never_absent {A} w p b m ByMark h = by (kind_of p) h
  where
    by : (k : Kind) → mark_stamp w k b m ≡ Absent → A
    by Out e = cc
    by Kept e = cc
    by Source e = cc
never_absent w p b m Digest h = cc

pub some_same : {A : Type 0} (x y : A) → Some x ≡ Some y → x ≡ y
some_same x y h = cc

hash_same : (a b : List ℕ) → Hash a ≡ Hash b → a ≡ b
hash_same a b h = cc

mark_same : (a b : ℕ) → Mark a ≡ Mark b → a ≡ b
mark_same a b h = cc

whole_same : (a b : List ℕ) → WholeValue a ≡ WholeValue b → a ≡ b
whole_same a b h = cc

holds_bytes : (a b : List ℕ) (m n : ℕ) → Holds a m ≡ Holds b n → a ≡ b
holds_bytes a b m n h = cc

holds_mark : (a b : List ℕ) (m n : ℕ) → Holds a m ≡ Holds b n → m ≡ n
holds_mark a b m n h = cc

pub file_of_seen : (f : Option (List ℕ × ℕ)) (b : List ℕ) (m : ℕ) → seen_file f ≡ Holds b m → f ≡ Some (b, m)
file_of_seen None b m h = cc
file_of_seen (Some x) b m h = let p : x.0 ≡ b = holds_bytes x.0 b x.1 m h in let q : x.1 ≡ m = holds_mark x.0 b x.1 m h in λ i. Some (p i, q i)

module _ (w : World) (old now : Project) (Met : List ℕ → Type 0) (sep : StampsSeparate w old now Met) (p : Path) where
  -- two looks at one path whose contents have one stamp answer alike
  contents_alike : (b b0 : List ℕ) (m m0 : ℕ) (l : Look) → MetSeen Met l (Holds b m) → MetSeen Met l (Holds b0 m0)
      → (kind_of p ≡ Source → now.file p ≡ Some (b, m)) → (kind_of p ≡ Source → old.file p ≡ Some (b0, m0))
      → contents_stamp w p b m l ≡ contents_stamp w p b0 m0 l → present_answer w b l ≡ present_answer w b0 l
  contents_alike b b0 m m0 Exists h h0 f f0 e = refl
  contents_alike b b0 m m0 ByHash h h0 f f0 e = ap (λ x. present_answer w x ByHash) (sep.hashes b b0 h h0 (hash_same _ _ e))
  contents_alike b b0 m m0 ByMark h h0 f f0 e = ap (λ x. present_answer w x ByMark) (by (kind_of p) refl e)
    where
      by : (k : Kind) → kind_of p ≡ k → mark_stamp w k b m ≡ mark_stamp w k b0 m0 → b ≡ b0
      by Out i q = sep.hashes b b0 h h0 (hash_same _ _ q)
      by Kept i q = sep.hashes b b0 h h0 (hash_same _ _ q)
      by Source i q = sym (sep.marks p b0 b m0 i (f0 i) (subst (λ x. now.file p ≡ Some (b, x)) (mark_same _ _ q) (f i)))
  contents_alike b b0 m m0 Digest h h0 f f0 e = ap (λ x. HashOf (Some x)) (hash_same _ _ e)

  -- what a look answers, where it is no clash
  abbrev pub seen_answer : Look → Seen → Answer
  seen_answer l Nothing = absent_answer l
  seen_answer l (Holds b m) = present_answer w b l
  seen_answer l Clashing = absent_answer l

  pub looks_alike : (l : Look) (s s0 : Seen) → MetSeen Met l s → MetSeen Met l s0
      → (kind_of p ≡ Source → seen_file (now.file p) ≡ s) → (kind_of p ≡ Source → seen_file (old.file p) ≡ s0)
      → seen_stamp w l p s ≡ seen_stamp w l p s0 → seen_answer l s ≡ seen_answer l s0
  looks_alike l Nothing Nothing h h0 f f0 e = refl
  looks_alike l Nothing (Holds b m) h h0 f f0 e = never_absent w p b m l (sym (some_same _ _ e))
  looks_alike l Nothing Clashing h h0 f f0 e = cc
  looks_alike l (Holds b m) Nothing h h0 f f0 e = never_absent w p b m l (some_same _ _ e)
  looks_alike l (Holds b m) (Holds b0 m0) h h0 f f0 e =
      contents_alike b b0 m m0 l h h0 (λ i. file_of_seen (now.file p) b m (f i)) (λ i. file_of_seen (old.file p) b0 m0 (f0 i)) (some_same _ _ e)
  looks_alike l (Holds b m) Clashing h h0 f f0 e = cc
  looks_alike l Clashing Nothing h h0 f f0 e = cc
  looks_alike l Clashing (Holds b m) h h0 f f0 e = cc
  looks_alike l Clashing Clashing h h0 f f0 e = refl

-- a listing is the entries, and keeps the limit
within_is : (b : Bool) (es es0 : List Path) → within_limit b es ≡ Some es0 → (es ≡ es0) × (b ≡ true)
within_is true es es0 h = (some_same _ _ h, refl)
within_is false es es0 h = cc

pub listing_is : (w : World) (P : Project) (d : Path) (es : List Path) → listing w P d ≡ Some es
    → (P.entries d ≡ es) × (leb (length (w.listing_bytes es)) w.most_bytes ≡ true)
listing_is w P d es h =
    let r : (P.entries d ≡ es) × (leb (length (w.listing_bytes (P.entries d))) w.most_bytes ≡ true) =
    within_is (leb (length (w.listing_bytes (P.entries d))) w.most_bytes) (P.entries d) es h in
    (r.0, subst (λ x. leb (length (w.listing_bytes x)) w.most_bytes ≡ true) r.0 r.1)

-- two listings with one stamp are equal
pub listings_alike : (w : World) (old now : Project) (Met : List ℕ → Type 0) → StampsSeparate w old now Met → ListingsDiffer w
    → (d : Path) (es es0 : List Path)
    → listing w now d ≡ Some es → listing w old d ≡ Some es0 → Met (w.listing_bytes es) → Met (w.listing_bytes es0)
    → Hash (w.hash (w.listing_bytes es)) ≡ Hash (w.hash (w.listing_bytes es0)) → es ≡ es0
listings_alike w old now Met sep differ d es es0 h h0 m m0 e =
    differ es es0 (listing_is w now d es h).1 (listing_is w old d es0 h0).1 (sep.hashes _ _ m m0 (hash_same _ _ e))

-- two outputs with one stamp are answered alike
pub outputs_alike : (w : World) (old now : Project) (Met : List ℕ → Type 0) → StampsSeparate w old now Met → (v v0 : Value) (h : How) → Met v → Met v0
    → value_stamp w v h ≡ value_stamp w v0 h → output_answer v h ≡ output_answer v0 h
outputs_alike w old now Met sep v v0 Whole m m0 e = ap Output (whole_same v v0 e)
outputs_alike w old now Met sep v v0 Hashed m m0 e = ap Output (sep.hashes v v0 m m0 (hash_same _ _ e))
outputs_alike w old now Met sep v v0 Ran m m0 e = refl
