-- Pairs that go into a set, or out of it, one after another.
use Rattle.std.proofs.Common.{◌≡◌, ◌&&◌, ◌||◌, ℕ, ◌+◌, ◌<◌, Bool, true, false, cond, not, List, ◌∷◌, length, get_or, drop, refl, sym, ap, ◌∙◌, eqb}
use Rattle.std.specs.Ordering.{is_eq}
use Rattle.std.specs.List.{list_any}
use Rattle.std.proofs.lemmas.List.{drop_more}
use Rattle.pie_base.specs.Path.{same_text}
use Rattle.pie_union.specs.inner.Writers.{pair_cmp, wrote}
use Rattle.pie_union.proofs.Members.{eqb_swap}
use Rattle.pie_union.proofs.PairOrder.{same_pair, pair_swap, pair_tie}

-- whether a pair stands in a list
abbrev pub listed : List ℕ × ℕ → List (List ℕ × ℕ) → Bool
listed pair pairs = list_any (λ p. is_eq (pair_cmp pair p)) pairs

added_one : (same held rest : Bool) → (cond same true held || rest) ≡ (held || (same || rest))
added_one true true rest = refl
added_one true false rest = refl
added_one false held rest = refl

pub add_step : (q k : List ℕ × ℕ) (keys rest : List (List ℕ × ℕ)) (held now all : Bool) → keys ≡ k ∷ rest → now ≡ cond (is_eq (pair_cmp k q)) true held
    → (held || listed q keys) ≡ all → (now || listed q rest) ≡ all
add_step q k keys rest held now all split e inv =
    ap (λ b. b || listed q rest) (e ∙ ap (λ b. cond b true held) (pair_swap k q)) ∙ added_one (is_eq (pair_cmp q k)) held (listed q rest)
    ∙ ap (λ (ks : List (List ℕ × ℕ)). held || listed q ks) (sym split) ∙ inv

pub still_held : (same held now : Bool) → now ≡ cond same true held → held ≡ true → now ≡ true
still_held true held now e h = e
still_held false held now e h = e ∙ h

pruned_same : (h s r : Bool) → ((h && not (true && not s)) && not (r && not s)) ≡ (h && not ((true || r) && not s))
pruned_same true true true = refl
pruned_same true true false = refl
pruned_same true false true = refl
pruned_same true false false = refl
pruned_same false s r = refl

pruned : (same h s k r : Bool) → (same ≡ true → k ≡ s) → ((h && not (same && not k)) && not (r && not s)) ≡ (h && not ((same || r) && not s))
pruned true h s k r e = ap (λ b. (h && not (true && not b)) && not (r && not s)) (e refl) ∙ pruned_same h s r
pruned false true s k r e = refl
pruned false false s k r e = refl

pub remove_step : (stays : List ℕ × ℕ → Bool) (q k : List ℕ × ℕ) (keys rest : List (List ℕ × ℕ)) (held now all : Bool) → keys ≡ k ∷ rest
    → now ≡ (held && not (is_eq (pair_cmp k q) && not (stays k))) → (held && not (listed q keys && not (stays q))) ≡ all
    → (now && not (listed q rest && not (stays q))) ≡ all
remove_step stays q k keys rest held now all split e inv =
    ap (λ b. b && not (listed q rest && not (stays q))) (e ∙ ap (λ b. held && not (b && not (stays k))) (pair_swap k q))
    ∙ pruned (is_eq (pair_cmp q k)) held (stays q) (stays k) (listed q rest) (λ h. ap stays (sym (same_pair q k h)))
    ∙ ap (λ (ks : List (List ℕ × ℕ)). held && not (listed q ks && not (stays q))) (sym split) ∙ inv

written_more : (s n held w : Bool) → (cond (s && n) true held || (n && w)) ≡ (held || (n && (s || w)))
written_more true true true w = refl
written_more true true false w = refl
written_more true false held w = refl
written_more false true held w = refl
written_more false false held w = refl

-- one more path of a task is in the set: what it holds with the rest is as before
pub write_step : (paths : List (List ℕ)) (i : ℕ) (path : List ℕ) (n : ℕ) (pair : List ℕ × ℕ) (held now all : Bool)
    → i < length paths → path ≡ get_or paths i path → now ≡ cond (is_eq (pair_cmp (path, n) pair)) true held → (held || (eqb pair.1 n && wrote (drop i paths) pair.0)) ≡ all
    → (now || (eqb pair.1 n && wrote (drop (i + 1) paths) pair.0)) ≡ all
write_step paths i path n pair held now all l is e inv =
    let rest = wrote (drop (i + 1) paths) pair.0 in
    let split : wrote (drop i paths) pair.0 ≡ (same_text path pair.0 || rest) =
    ap (λ (ps : List (List ℕ)). wrote ps pair.0) (drop_more paths i path l ∙ ap (λ (p : List ℕ). p ∷ drop (i + 1) paths) (sym is)) in
    ap (λ b. b || (eqb pair.1 n && rest)) (e ∙ ap (λ b. cond b true held) (pair_tie path n pair ∙ ap (λ b. same_text path pair.0 && b) (eqb_swap n pair.1)))
    ∙ written_more (same_text path pair.0) (eqb pair.1 n) held rest ∙ ap (λ b. held || (eqb pair.1 n && b)) (sym split) ∙ inv
