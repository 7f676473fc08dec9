-- Where a directory has the files of a demo, what is copied is all but what builds keep, and what is compared is all.
use Rattle.std.proofs.Common.{◌≡◌, ◌==◌, ℕ, zero, suc, ◌+◌, ◌%◌, ◌-◌, Bool, true, false, cond, not}
use Rattle.std.proofs.Common.{List, [], ◌∷◌, codes, Option, None, Some, refl, sym, ap, ◌∙◌}
use Rattle.std.specs.Prelude.{◌&&◌, ◌||◌, is_some}
use Rattle.std.specs.Option.{option_map}
use Rattle.std.proofs.lemmas.Bool.{false≢true, and_parts, eqb-true}
use Rattle.pie_base.specs.Path.{same_text, is_below, rest_below}
use Rattle.pie_build.specs.Left.{KeepsRest, may_change}
use Rattle.pie_files.specs.Directory.{Directory, file_at}
use Rattle.pie_demo.specs.Draws.{draw_after}
use Rattle.pie_incremental.specs.Own.{bytes_at}
use Rattle.pie_demo.specs.Sources.{item_path, first_text, item_at, roots_text, pipeline_text}
use Rattle.pie_demo.specs.Sources.{changed_text, or_nothing, source_after, is_own, HasSources}
use Rattle.pie_demo.specs.Copies.{is_copied, is_compared, HasPart, AreSameAt}
use Rattle.pie_demo.specs.Rounds.{IsCopy, HaveSame}
use Rattle.pie_demo.proofs.Setting.{same_path}
use Rattle.pie_demo.proofs.Building.{some_is}

-- ---- tests of paths

not_so : (b : Bool) → not b ≡ true → b ≡ false
not_so true h = sym h
not_so false h = refl

so_not : (b : Bool) → b ≡ false → not b ≡ true
so_not b h = ap not h

pub neither : (a b : Bool) → (a || b) ≡ false → (a ≡ false) × (b ≡ false)
neither true b h = absurd (false≢true (sym h))
neither false b h = (refl, h)

pub both_off : (a b : Bool) → a ≡ false → b ≡ false → (a || b) ≡ false
both_off a b h k = ap (λ x. x || b) h ∙ k

-- a path for which a test fails is none for which it holds
pub apart : (test : List ℕ → Bool) (q path : List ℕ) → test q ≡ false → test path ≡ true → same_text q path ≡ false
apart test q path off on = by (same_text q path) refl
  where
    by : (b : Bool) → same_text q path ≡ b → b ≡ false
    by true e = absurd (false≢true (sym off ∙ ap test (same_path q path e) ∙ on))
    by false e = refl

own_parts : (q : List ℕ) → is_own q ≡ true → (is_below (codes "out") q ≡ false) × (is_below (codes ".pie") q ≡ false)
own_parts q own =
    let parts = and_parts (not (is_below (codes "out") q)) (not (is_below (codes ".pie") q)) own in
    (not_so _ parts.0, not_so _ parts.1)

-- no build changes such a path
own_stays : (q : List ℕ) → is_own q ≡ true → may_change q ≡ false
own_stays q own =
    let parts = own_parts q own in
    both_off _ _ (both_off _ _ (both_off _ _ parts.0 (apart (is_below (codes ".pie")) q (codes ".pie/open") parts.1 refl))
    (apart (is_below (codes ".pie")) q (codes ".pie/store") parts.1 refl)) (apart (is_below (codes ".pie")) q (codes ".pie/pending") parts.1 refl)

-- a path below a directory begins with the first byte of its name
begins_with : (b : ℕ) (dir q : List ℕ) → is_below (b ∷ dir) q ≡ true → (rest : List ℕ) × (q ≡ b ∷ rest)
begins_with b dir [] h = absurd (false≢true h)
begins_with b dir (x ∷ q) h = by (b == x) refl
  where
    by : (t : Bool) → (b == x) ≡ t → (rest : List ℕ) × (x ∷ q ≡ b ∷ rest)
    by true e = (q, ap (λ y. y ∷ q) (sym (eqb-true b x e)))
    by false e = absurd (false≢true (sym (ap (λ t. is_some (cond t (rest_below dir q) None)) e) ∙ h))

below_own : (q : List ℕ) → is_below (codes "src") q ≡ true → is_own q ≡ true
below_own q h =
    let begins = begins_with 115 (114 ∷ 99 ∷ []) q h in
    ap is_own begins.1

copied_own : (q : List ℕ) → is_copied q ≡ true → is_own q ≡ true
copied_own q h = by (is_below (codes "src") q) (same_text q (codes "pie.roots")) (same_text q (codes "pie.pipeline")) refl refl refl h
  where
    by : (s r p : Bool) → is_below (codes "src") q ≡ s → same_text q (codes "pie.roots") ≡ r → same_text q (codes "pie.pipeline") ≡ p
        → (s || (r || p)) ≡ true → is_own q ≡ true
    by true r p is_s is_r is_p on = below_own q is_s
    by false true p is_s is_r is_p on = ap is_own (same_path q (codes "pie.roots") is_r)
    by false false true is_s is_r is_p on = ap is_own (same_path q (codes "pie.pipeline") is_p)
    by false false false is_s is_r is_p on = absurd (false≢true on)

-- ---- a path that isn't copied has no file of a demo

not_item : (q : List ℕ) (i : ℕ) → is_below (codes "src") q ≡ false → same_text q (item_path i) ≡ false
not_item q i off = apart (is_below (codes "src")) q (item_path i) off refl

no_item : (seed size : ℕ) (q : List ℕ) → is_below (codes "src") q ≡ false → item_at seed size q ≡ None
no_item seed zero q off = refl
no_item seed (suc i) q off = ap (λ b. cond b (Some (first_text seed i)) (item_at seed i q)) (not_item q i off) ∙ no_item seed i q off

not_copied : (q : List ℕ) → is_copied q ≡ false
    → (is_below (codes "src") q ≡ false) × (same_text q (codes "pie.roots") ≡ false) × (same_text q (codes "pie.pipeline") ≡ false)
not_copied q off =
    let one = neither _ _ off in
    let two = neither _ _ one.1 in
    (one.0, two.0, two.1)

pub none_other : (seed size k : ℕ) (q : List ℕ) → is_copied q ≡ false → source_after seed size k q ≡ None
none_other seed size zero q off =
    let parts = not_copied q off in
    ap (λ b. cond b (Some roots_text) (cond (same_text q (codes "pie.pipeline")) (Some pipeline_text) (item_at seed size q))) parts.1
    ∙ ap (λ b. cond b (Some pipeline_text) (item_at seed size q)) parts.2
    ∙ no_item seed size q parts.0
none_other seed size (suc k) q off =
    ap (λ b. cond b (Some (changed_text (suc k) (or_nothing (source_after seed size k q)))) (source_after seed size k q))
    (not_item q (draw_after seed (size + (suc k - 1)) % size) (not_copied q off).0)
    ∙ none_other seed size k q off

-- a path below `.pie` isn't copied
pub below_not_copied : (q : List ℕ) → is_below (codes ".pie") q ≡ true → is_copied q ≡ false
below_not_copied q below = by (is_copied q) refl
  where
    by : (b : Bool) → is_copied q ≡ b → b ≡ false
    by true copied = absurd (false≢true (sym (own_parts q (copied_own q copied)).1 ∙ below))
    by false copied = refl

-- ---- what builds keep

pub keeps_file : (d e : Directory) → KeepsRest (Some d) (Some e) → (q : List ℕ) → may_change q ≡ false → file_at e q ≡ file_at d q
keeps_file d e keeps q rests = ap (λ (x : Directory). file_at x q) (some_is e keeps.kept.0 keeps.kept.1) ∙ keeps.kept.2 q rests

bytes_of : Option (List ℕ × ℕ) → Option (List ℕ)
bytes_of = option_map (λ (f : List ℕ × ℕ). f.0)

pub keeps_bytes : (d e : Directory) → KeepsRest (Some d) (Some e) → (q : List ℕ) → is_own q ≡ true → bytes_at e q ≡ bytes_at d q
unfolding bytes_of
keeps_bytes d e keeps q own = ap bytes_of (keeps_file d e keeps q (own_stays q own))

pub sources_kept : (seed size k : ℕ) (d e : Directory) → KeepsRest (Some d) (Some e) → HasSources seed size k d → HasSources seed size k e
sources_kept seed size k d e keeps has q own = keeps_bytes d e keeps q own ∙ has q own

-- the copy of what a build left is that of what it was handed
pub copy_whole : (seed size k : ℕ) (d e copy : Directory) → HasSources seed size k d → KeepsRest (Some d) (Some e) → HasPart e copy is_copied
    → IsCopy d copy
copy_whole seed size k d e copy has keeps part q = part q ∙ by (is_own q) (is_copied q) refl refl
  where
    nothing : (file : Option (List ℕ × ℕ)) → option_map (λ f. f.0) file ≡ None → file ≡ None
    nothing None e = refl
    nothing (Some f) e = cc

    by : (o c : Bool) → is_own q ≡ o → is_copied q ≡ c → cond c (file_at e q) None ≡ cond o (file_at d q) None
    by true true own copied = keeps_file d e keeps q (own_stays q own)
    by true false own copied = sym (nothing (file_at d q) (has q own ∙ none_other seed size k q copied))
    by false true own copied = absurd (false≢true (sym own ∙ copied_own q copied))
    by false false own copied = refl

not_compared : (q : List ℕ) → is_compared q ≡ false → (is_own q ≡ true) × (is_copied q ≡ false)
not_compared q off =
    let p = same_text q (codes "pie.pipeline") in
    let r = same_text q (codes "pie.roots") in
    let s = is_below (codes "src") q in
    let o = is_below (codes "out") q in
    let w = is_below (codes ".pie") q in
    let one = neither p (r || (s || (o || w))) off in
    let two = neither r (s || (o || w)) one.1 in
    let three = neither s (o || w) two.1 in
    let four = neither o w three.1 in
    (ap (λ b. not b && not w) four.0 ∙ ap not four.1, both_off s (r || p) three.0 (both_off r p two.0 one.0))

-- what is the same where it is compared is the same everywhere
pub same_whole : (seed size k : ℕ) (e copy left : Directory) → HasSources seed size k e → HasPart e copy is_copied → KeepsRest (Some copy) (Some left)
    → AreSameAt is_compared e left → HaveSame e left
unfolding bytes_of
same_whole seed size k e copy left has part keeps same q = by (is_compared q) refl
  where
    by : (b : Bool) → is_compared q ≡ b → bytes_at e q ≡ bytes_at left q
    by true on = same q on
    by false off =
        let parts = not_compared q off in
        has q parts.0 ∙ none_other seed size k q parts.1
        ∙ sym (keeps_bytes copy left keeps q parts.0 ∙ ap bytes_of (part q) ∙ ap (λ b. bytes_of (cond b (file_at e q) None)) parts.1)
