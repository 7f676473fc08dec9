-- The contents of writes are staged one after another, from the last on.
use Rattle.std.proofs.Common.{◌≡◌, ℕ, ◌+◌, ◌≤◌, ◌&&◌, Bool, true, false, cond, List, [], ◌∷◌, ◌++◌, Option, Some, Vec, length, map, drop, refl, sym, ap, subst, ◌∙◌, arith, bytes_eq, append_assoc, append-nil}
use Rattle.std.specs.declared.alloc.Global.{Global}
use Rattle.std.specs.Prelude.{slice_get}
use Rattle.std.specs.Option.{option_or}
use Rattle.std.specs.Ordering.{nat_cmp, is_eq}
use Rattle.std.specs.Cmp.Lexicographic.{slice_cmp}
use Rattle.std.proofs.lemmas.List.{length-append}
use Rattle.std.proofs.lemmas.Map.Text.{is_eq-slice_cmp}
use Rattle.pie_view.specs.Content.{Staged, content, is_pair, Puts}
use Rattle.pie_running.proofs.Firsts.{same_number}
use Rattle.pie_model.specs.Seen.{first_write}
use Rattle.pie_model.proofs.Basics.{same_bytes, bytes_same}
use Rattle.pie_topdown_laws.proofs.Comparing.{drop_at, drop_past}
use Rattle.pie_topdown.specs.inner.Offering.{with_contents, StagesAll}
use Rattle.pie_topdown.proofs.Fetched.{puts_beside}

-- the bytes of contents
abbrev pub bytes_in : List (Vec ℕ Global) → List (List ℕ)
bytes_in contents = map (λ (v : Vec ℕ Global). v.items) contents

-- the contents from some place on are staged, and these are still to be
pub record AreStagedFrom (old now : Staged) (n : ℕ) (writes : List (List ℕ × List ℕ)) (all left : List (Vec ℕ Global)) : Type 0 where
  pub taken : List (Vec ℕ Global)
  pub parts : all ≡ left ++ taken
  pub staged : StagesAll old now n (drop (length left) writes) (bytes_in taken)

none_with : (writes : List (List ℕ × List ℕ)) → with_contents writes [] ≡ []
none_with [] = refl
none_with (w ∷ ws) = refl

-- at first none is
pub staged_first : (old : Staged) (n : ℕ) (writes : List (List ℕ × List ℕ)) (all : List (Vec ℕ Global)) → AreStagedFrom old old n writes all all
staged_first old n writes all = record {
  taken = [];
  parts = sym (append-nil all);
  staged = record {
    here = λ p. sym (ap (λ ws. option_or (first_write p ws) (content old n p)) (none_with (drop (length all) writes)));
    beside = λ k apart p. refl;
  };
}

-- at last all are
pub staged_last : (old now : Staged) (n : ℕ) (writes : List (List ℕ × List ℕ)) (all left : List (Vec ℕ Global)) → length left ≡ 0
    → AreStagedFrom old now n writes all left → StagesAll old now n writes (bytes_in all)
staged_last old now n writes all [] none h =
    subst (λ cs. StagesAll old now n writes (bytes_in cs)) (sym h.parts) h.staged
staged_last old now n writes all (v ∷ vs) none h = absurd (omega (arith, none))

-- what was put of the task itself
put_own : (old later : Staged) (n : ℕ) (path bytes p : List ℕ) → Puts old later n path bytes
    → content later n p ≡ cond (bytes_eq p path) (Some bytes) (content old n p)
put_own old later n path bytes p puts = puts n p ∙ ap (λ b. cond b (Some bytes) (content old n p)) pair
  where
    turned : (b c : Bool) → bytes_eq path p ≡ b → bytes_eq p path ≡ c → b ≡ c
    turned true true e f = refl
    turned true false e f = absurd (let no : false ≡ true = sym f ∙ ap (bytes_eq p) (same_bytes path p e) ∙ bytes_same p in cc)
    turned false true e f = absurd (let no : false ≡ true = sym e ∙ ap (bytes_eq path) (same_bytes p path f) ∙ bytes_same path in cc)
    turned false false e f = refl

    pair : is_pair n path n p ≡ bytes_eq p path
    pair =
        ap (λ b. b && is_eq (slice_cmp nat_cmp path p)) (same_number n) ∙ is_eq-slice_cmp path p
        ∙ turned (bytes_eq path p) (bytes_eq p path) refl refl

either_way : (b : Bool) (x : List ℕ) (o q : Option (List ℕ)) → cond b (Some x) (option_or o q) ≡ option_or (cond b (Some x) o) q
either_way true x o q = refl
either_way false x o q = refl

-- one more is, at the path of its write
pub staged_more : (old now later : Staged) (n : ℕ) (writes : List (List ℕ × List ℕ)) (all left less : List (Vec ℕ Global)) (c : Vec ℕ Global)
    (w : List ℕ × List ℕ) → AreStagedFrom old now n writes all left → left ≡ less ++ c ∷ [] → slice_get writes (length less) ≡ Some w
    → Puts now later n w.0 c.items → AreStagedFrom old later n writes all less
staged_more old now later n writes all left less c w h is at puts = record {
  taken = c ∷ h.taken;
  parts = h.parts ∙ ap (λ xs. xs ++ h.taken) is ∙ append_assoc less (c ∷ []) h.taken;
  staged = record { here = here; beside = λ k apart p. puts_beside now later n w.0 c.items puts k apart p ∙ h.staged.beside k apart p };
}
  where
    size : length left ≡ length less + 1
    size = ap length is ∙ length-append less (c ∷ [])

    next : with_contents (drop (length less) writes) (bytes_in (c ∷ h.taken)) ≡ (w.0, c.items) ∷ with_contents (drop (length left) writes) (bytes_in h.taken)
    next =
        ap (λ ws. with_contents ws (bytes_in (c ∷ h.taken))) (drop_at writes (length less) w at)
        ∙ ap (λ i. (w.0, c.items) ∷ with_contents (drop i writes) (bytes_in h.taken)) (sym size)

    here : (p : List ℕ) → content later n p ≡ option_or (first_write p (with_contents (drop (length less) writes) (bytes_in (c ∷ h.taken)))) (content old n p)
    here p =
        put_own now later n w.0 c.items p puts ∙ ap (λ o. cond (bytes_eq p w.0) (Some c.items) o) (h.staged.here p)
        ∙ either_way (bytes_eq p w.0) c.items (first_write p (with_contents (drop (length left) writes) (bytes_in h.taken))) (content old n p)
        ∙ ap (λ ws. option_or (first_write p ws) (content old n p)) (sym next)

-- or it has no write
pub staged_past : (old now : Staged) (n : ℕ) (writes : List (List ℕ × List ℕ)) (all left less : List (Vec ℕ Global)) (c : Vec ℕ Global)
    → AreStagedFrom old now n writes all left → left ≡ less ++ c ∷ [] → length writes ≤ length less → AreStagedFrom old now n writes all less
staged_past old now n writes all left less c h is past = record {
  taken = c ∷ h.taken;
  parts = h.parts ∙ ap (λ xs. xs ++ h.taken) is ∙ append_assoc less (c ∷ []) h.taken;
  staged = record { here = here; beside = h.staged.beside };
}
  where
    size : length left ≡ length less + 1
    size = ap length is ∙ length-append less (c ∷ [])

    -- no content has a write
    empty : (i : ℕ) (cs : List (List ℕ)) → length writes ≤ i → with_contents (drop i writes) cs ≡ []
    empty i cs l = ap (λ ws. with_contents ws cs) (drop_past writes i l)

    here : (p : List ℕ) → content now n p ≡ option_or (first_write p (with_contents (drop (length less) writes) (bytes_in (c ∷ h.taken)))) (content old n p)
    here p =
        h.staged.here p
        ∙ ap (λ ws. option_or (first_write p ws) (content old n p))
        (empty (length left) (bytes_in h.taken) (omega (arith, past, size)) ∙ sym (empty (length less) (bytes_in (c ∷ h.taken)) past))
