-- The kinds of paths of the language and of the model, and what is visible at each.
use Rattle.std.proofs.Common.{◌≡◌, ℕ, suc, ◌==◌, Bool, true, false, cond, not, ◌&&◌, ◌||◌, Option, Some, None, List, [], ◌∷◌, ◌++◌, bytes_eq, refl}
use Rattle.std.proofs.Common.{sym, ap, subst, ◌∙◌, arith}
use Rattle.std.specs.Prelude.{◌+◌, codes, take}
use Rattle.std.specs.List.{position_or_len}
use Rattle.std.proofs.lemmas.Bool.Decides.{Decides-eqb}
use Rattle.pie_base.specs.Path.{is_slash, is_out, is_kept, is_source, first_segment, same_text}
use Rattle.pie_model.specs.declared.words.Kind.{Kind}
use Rattle.pie_model.specs.declared.words.Kind.TheVariants.{Out, Kept, Source}
use Rattle.pie_model.specs.Paths.{Path, kind_of, kind_by, segments, longer_first, below_out, kept_names, among}
use Rattle.pie_model.specs.Trees.{Node}
use Rattle.pie_model.specs.declared.words.Seen.TheVariants.{Nothing, Holds}
use Rattle.pie_model.specs.Seen.{first_write, own_first, provided, seen_file, visible_by, visible_at}
use Rattle.pie_model.proofs.Basics.{same_bytes, clash}
use Rattle.pie_check_laws.proofs.PathKinds.{is_kind_out, kind_is}
use Rattle.pie_builder_laws.specs.Visible.{kind_in}

-- ---- the segments of a path, and the path again

-- the first segment
abbrev head_of : List (List ℕ) → List ℕ
head_of [] = []
head_of (s ∷ rest) = s

-- the segments after the first, each behind a slash
abbrev behind : List (List ℕ) → List ℕ
behind [] = []
behind (s ∷ rest) = 47 ∷ (s ++ behind rest)

-- the segments with a slash between each two
abbrev joined : List (List ℕ) → List ℕ
joined [] = []
joined (s ∷ rest) = s ++ behind rest

-- there is one
abbrev IsSome : List (List ℕ) → Type 0
IsSome [] = ⊥
IsSome (s ∷ rest) = Unit {0}

longer_some : (b : ℕ) (ss : List (List ℕ)) → IsSome (longer_first b ss)
longer_some b [] = tt
longer_some b (s ∷ rest) = tt

segments_some : (p : Path) → IsSome (segments p)
segments_some [] = tt
segments_some (b ∷ p) = by (b == 47)
  where
    by : (t : Bool) → IsSome (cond t ([] ∷ segments p) (longer_first b (segments p)))
    by true = tt
    by false = longer_some b (segments p)

longer_joined : (b : ℕ) (ss : List (List ℕ)) → IsSome ss → joined (longer_first b ss) ≡ b ∷ joined ss
longer_joined b [] h = absurd h
longer_joined b (s ∷ rest) h = refl

behind_joined : (ss : List (List ℕ)) → IsSome ss → behind ss ≡ 47 ∷ joined ss
behind_joined [] h = absurd h
behind_joined (s ∷ rest) h = refl

pub joined_again : (p : Path) → joined (segments p) ≡ p
joined_again [] = refl
joined_again (b ∷ p) = by (b == 47) refl (joined_again p)
  where
    by : (t : Bool) → (b == 47) ≡ t → joined (segments p) ≡ p → joined (cond t ([] ∷ segments p) (longer_first b (segments p))) ≡ b ∷ p
    by true e r = behind_joined (segments p) (segments_some p) ∙ ap (λ q. 47 ∷ q) r ∙ ap (λ (z : ℕ). z ∷ p) (sym ((Decides-eqb b 47).0 e))
    by false e r = longer_joined b (segments p) (segments_some p) ∙ ap (λ (q : List ℕ). b ∷ q) r

longer_head : (b : ℕ) (ss : List (List ℕ)) → head_of (longer_first b ss) ≡ b ∷ head_of ss
longer_head b [] = refl
longer_head b (s ∷ rest) = refl

first_is : (p : Path) → head_of (segments p) ≡ first_segment p
first_is [] = refl
first_is (b ∷ p) = by (b == 47) (first_is p)
  where
    one_more : (n : ℕ) → take (1 + n) (b ∷ p) ≡ b ∷ take n p
    one_more n = let e : 1 + n ≡ suc n = omega arith in ap (λ k. take k (b ∷ p)) e

    by : (t : Bool) → head_of (segments p) ≡ first_segment p
        → head_of (cond t ([] ∷ segments p) (longer_first b (segments p))) ≡ take (cond (not t) (1 + position_or_len is_slash p) 0) (b ∷ p)
    by true r = refl
    by false r = longer_head b (segments p) ∙ ap (λ (q : List ℕ). b ∷ q) r ∙ sym (one_more (position_or_len is_slash p))

-- ---- kinds

out_only : (k : Kind) → is_kind_out k ≡ true → k ≡ Out
out_only Out h = refl
out_only Kept h = cc
out_only Source h = cc

-- whether a first segment is one that the builder keeps for itself
abbrev is_kept_name : List ℕ → Bool
is_kept_name s = same_text s (codes ".pie") || (same_text s (codes "pie.pipeline") || same_text s (codes "pie.roots"))

kept_name : (s : List ℕ) → among s kept_names ≡ is_kept_name s
kept_name s = by (bytes_eq s (codes ".pie")) (bytes_eq s (codes "pie.pipeline")) (bytes_eq s (codes "pie.roots"))
  where
    by : (a b c : Bool) → cond a true (cond b true (cond c true false)) ≡ (a || (b || c))
    by true b c = refl
    by false true c = refl
    by false false true = refl
    by false false false = refl

-- where a path is not under `out`, its kind by its segments
kept_by : (p : Path) (ss : List (List ℕ)) → IsSome ss → joined ss ≡ p → head_of ss ≡ first_segment p → is_kind_out (kind_by ss) ≡ false
    → kind_by ss ≡ cond (same_text p (codes "out") || is_kept_name (head_of ss)) Kept Source
kept_by p [] h j i o = absurd h
kept_by p (s ∷ rest) h j i o = by (bytes_eq s (codes "out")) refl rest refl o
  where
    with_out : (a b : Bool) → a ≡ true → Kept ≡ cond (a || b) Kept Source
    with_out true b e = refl
    with_out false b e = cc

    without : (a b : Bool) → a ≡ false → cond b Kept Source ≡ cond (a || b) Kept Source
    without true b e = cc
    without false b e = refl

    whole : s ≡ codes "out" → rest ≡ [] → same_text p (codes "out") ≡ true
    whole e f = subst (λ q. same_text q (codes "out") ≡ true) (sym (ap (λ z. z ++ behind rest) e ∙ ap (λ r. codes "out" ++ behind r) f) ∙ j) refl

    other : bytes_eq s (codes "out") ≡ false → same_text p (codes "out") ≡ false
    other e = again (same_text p (codes "out")) refl
      where
        again : (t : Bool) → same_text p (codes "out") ≡ t → t ≡ false
        again true f =
            clash (bytes_eq s (codes "out"))
            (subst (λ z. bytes_eq z (codes "out") ≡ true) (sym (i ∙ ap first_segment (same_bytes p (codes "out") f))) refl) e
        again false f = refl

    by : (t : Bool) → bytes_eq s (codes "out") ≡ t → (r : List (List ℕ)) → rest ≡ r
        → is_kind_out (cond t (below_out r) (cond (among s kept_names) Kept Source)) ≡ false
        → cond t (below_out r) (cond (among s kept_names) Kept Source) ≡ cond (same_text p (codes "out") || is_kept_name s) Kept Source
    by true e [] f k = with_out (same_text p (codes "out")) (is_kept_name s) (whole (same_bytes s (codes "out") e) f)
    by true e (x ∷ r) f k = cc
    by false e r f k = ap (λ b. cond b Kept Source) (kept_name s) ∙ without (same_text p (codes "out")) (is_kept_name s) (other e)

pub kinds_same : (p : Path) → kind_of p ≡ kind_in p
unfolding kind_of
kinds_same p = by (is_out p) refl
  where
    either : (a b c d : Bool) → cond (a || (b || (c || d))) Kept Source ≡ cond (not false && not (a || b || (c || d))) Source Kept
    either true b c d = refl
    either false true c d = refl
    either false false true d = refl
    either false false false true = refl
    either false false false false = refl

    by : (t : Bool) → is_out p ≡ t → kind_by (segments p) ≡ kind_in p
    by true e = out_only (kind_by (segments p)) (kind_is p ∙ e) ∙ ap (λ b. cond b Out (cond (is_source p) Source Kept)) (sym e)
    by false e =
        kept_by p (segments p) (segments_some p) (joined_again p) (first_is p) (kind_is p ∙ e)
        ∙ ap (λ z. cond (same_text p (codes "out") || is_kept_name z) Kept Source) (first_is p)
        ∙ either (same_text p (codes "out")) (same_text (first_segment p) (codes ".pie")) (same_text (first_segment p) (codes "pie.pipeline"))
        (same_text (first_segment p) (codes "pie.roots"))
        ∙ ap (λ b. cond b Out (cond (not b && not (is_kept p)) Source Kept)) (sym e)

-- ---- what is visible

module _ (file : Path → Option (List ℕ × ℕ)) (own : List (Path × List ℕ)) (kids : List Node) (p : Path) where
  by_kind : (k : Kind) → kind_in p ≡ k → visible_at file own kids p ≡ visible_by file own kids p k
  by_kind k e = ap (visible_by file own kids p) (kinds_same p ∙ e)

  is_kind : (a b : Bool) → is_out p ≡ a → is_source p ≡ b → kind_in p ≡ cond a Out (cond b Source Kept)
  is_kind a b e f = ap (λ z. cond z Out (cond (is_source p) Source Kept)) e ∙ ap (λ z. cond a Out (cond z Source Kept)) f

  not_out : is_source p ≡ true → is_out p ≡ false
  not_out h = by (is_out p) refl
    where
      by : (t : Bool) → is_out p ≡ t → t ≡ false
      by true e = clash (is_source p) h (ap (λ b. not b && not (is_kept p)) e)
      by false e = refl

  pub source_is_file : is_source p ≡ true → visible_at file own kids p ≡ seen_file (file p)
  source_is_file h = by_kind Source (is_kind false true (not_out h) h)

  pub kept_is_empty : is_out p ≡ false → is_source p ≡ false → visible_at file own kids p ≡ Nothing
  kept_is_empty h k = by_kind Kept (is_kind false false h k)

  out_is : is_out p ≡ true → visible_at file own kids p ≡ own_first (first_write p own) (provided kids p)
  out_is h = by_kind Out (ap (λ z. cond z Out (cond (is_source p) Source Kept)) h)

  pub own_is_visible : (b : List ℕ) → is_out p ≡ true → first_write p own ≡ Some b → visible_at file own kids p ≡ Holds b 0
  own_is_visible b h e = out_is h ∙ ap (λ o. own_first o (provided kids p)) e

  pub others_are_visible : is_out p ≡ true → first_write p own ≡ None → visible_at file own kids p ≡ provided kids p
  others_are_visible h e = out_is h ∙ ap (λ o. own_first o (provided kids p)) e
