-- Reading pending names line by line.
use Rattle.std.proofs.Common.{◌≡◌, ◌≢◌, ℕ, suc, ◌+◌, ◌-◌, ◌<◌, ◌≤◌, Bool, true, false, ◌&&◌, cond, List, [], ◌∷◌, ◌++◌, length, get_or, take, drop}
use Rattle.std.proofs.Common.{refl, sym, ap, subst, ◌∙◌, append_assoc, append-nil, arith, inl, inr}
use Rattle.std.specs.Prelude.{All, Option, Some, None, slice_get, ◌==◌}
use Rattle.std.specs.List.{position, position_or_len}
use Rattle.std.proofs.lemmas.List.Sums.{fails_before_first}
use Rattle.std.proofs.lemmas.Bool.{eqb-true, ltb-false, cases_lt}
use Rattle.std.proofs.lemmas.List.{drop_more, take-append-drop, length-take, get_or-take, length-append, get_or_append_left, get_or_push, length_push}
use Rattle.std.proofs.lemmas.List.{get_or_default}
use Rattle.std.proofs.lemmas.List.Quantifiers.{position-Some}
use Rattle.std.proofs.lemmas.List.Elements.{All-nil, All-push, All-head, All-tail}
use Rattle.std.proofs.lemmas.Option.{slice_get-get_or}
use Rattle.pie_value.specs.Reading.{is_path_text}
use Rattle.pie_store.specs.Pending.{is_newline, line, lines, path_before, path_follows, path_last, AreAscending, IsName, IsPending}
use Rattle.pie_record.proofs.Steps.{both_true, both_on}

abbrev pub NoNewline : List ℕ → Type 0
NoNewline text = All (λ b. b ≢ 10) text

line_on : (p t : List ℕ) → line p ++ t ≡ p ++ 10 ∷ t
unfolding line
line_on p t = append_assoc p (10 ∷ []) t

-- what stands before the first newline, and after it
halves : (p q x y : List ℕ) → NoNewline p → NoNewline q → p ++ 10 ∷ x ≡ q ++ 10 ∷ y → (p ≡ q) × (x ≡ y)
halves [] [] x y n m e = (refl, cc)
halves [] (b ∷ q) x y n m e = let h : b ≢ 10 = m 0 b (omega arith) in absurd (h (cc))
halves (a ∷ p) [] x y n m e = let h : a ≢ 10 = n 0 a (omega arith) in absurd (h (cc))
halves (a ∷ p) (b ∷ q) x y n m e =
    let h = halves p q x y (All-tail (λ c. c ≢ 10) a p n) (All-tail (λ c. c ≢ 10) b q m) (cc) in
    let s : p ≡ q = h.0 in (cc, h.1)

-- texts that begin alike
abbrev Begins : List (List ℕ) → List (List ℕ) → List ℕ → Type 0
Begins names all rest = (more : List (List ℕ)) × (all ≡ names ++ more) × (rest ≡ lines more)

unlike : (p t : List ℕ) → p ++ 10 ∷ t ≡ [] → ⊥
unlike [] t e = absurd (cc)
unlike (a ∷ p) t e = absurd (cc)

more_of : (names all : List (List ℕ)) (rest : List ℕ) → All IsName names → All IsName all → lines names ++ rest ≡ lines all → Begins names all rest
more_of [] all rest n m e = (all, refl, e)
more_of (p ∷ names) [] rest n m e =
    absurd (unlike p (lines names ++ rest) (sym (append_assoc (line p) (lines names) rest ∙ line_on p (lines names ++ rest)) ∙ e))
more_of (p ∷ names) (q ∷ all) rest n m e =
    let a : p ++ 10 ∷ (lines names ++ rest) ≡ q ++ 10 ∷ lines all =
    sym (append_assoc (line p) (lines names) rest ∙ line_on p (lines names ++ rest)) ∙ e ∙ line_on q (lines all) in
    let h = halves p q (lines names ++ rest) (lines all) (All-head IsName p names n).1 (All-head IsName q all m).1 a in
    let k = more_of names all rest (All-tail IsName p names n) (All-tail IsName q all m) h.1 in
    (k.0, (λ i. sym h.0 i ∷ k.1 i), k.2)

-- ---- a line

pub record IsLine (text rest after : List ℕ) : Type 0 where
  pub parts : rest ≡ text ++ 10 ∷ after
  pub plain : NoNewline text

apart : (b : ℕ) → (b == 10) ≡ false → b ≢ 10
apart b e h = let t : (10 == 10) ≡ true = refl in let f : (10 == 10) ≡ false = subst (λ (x : ℕ). (x == 10) ≡ false) h e in absurd (cc)

pub line_is : (rest : List ℕ) (end : ℕ) → position is_newline rest ≡ Some end → IsLine (take end rest) rest (drop (end + 1) rest)
line_is rest end e =
    let h = position-Some is_newline rest end 0 e in
    let ten : get_or rest end 0 ≡ 10 = eqb-true (get_or rest end 0) 10 h.1 in
    record {
      parts =
          sym (take-append-drop end rest)
          ∙ ap (λ (t : List ℕ). take end rest ++ t) (drop_more rest end 0 h.0 ∙ ap (λ (b : ℕ). b ∷ drop (end + 1) rest) ten);
      plain = λ k d lt.
          let below : k < end = omega (arith, length-take end rest) in
          let long : k < length rest = omega (arith, h.0) in
          subst (λ (b : ℕ). b ≢ 10) (get_or_default rest k 0 d long ∙ sym (get_or-take end rest k d below)) (apart (get_or rest k 0) (h.2 k below));
    }

-- ---- what was read so far

pub record ReadsTo (bytes : List ℕ) (names : List (List ℕ)) (rest : List ℕ) : Type 0 where
  pub paths : All IsName names
  pub ascending : AreAscending names
  pub parts : bytes ≡ lines names ++ rest

pub nothing_read : (bytes : List ℕ) → ReadsTo bytes [] bytes
nothing_read bytes = record { paths = All-nil IsName; ascending = λ k d lt. absurd (omega (arith, lt)); parts = refl }

good : (b : Bool) (x p : List ℕ) → cond b (Some x) None ≡ Some p → (b ≡ true) × (x ≡ p)
good true x p e = (refl, cc)
good false x p e = absurd (cc)

bad : (b : Bool) (x : List ℕ) → cond b (Some x) None ≡ None → b ≡ false
bad true x e = absurd (cc)
bad false x e = refl

last_at : (names : List (List ℕ)) (p : List ℕ) (k : ℕ) → suc k ≡ length names → path_last names p ≡ path_before (get_or names k p) p
last_at names p k e =
    let at : length names - 1 ≡ k = omega (arith, e) in
    ap (λ (i : ℕ). path_follows (slice_get names i) p) at
    ∙ ap (λ (o : Option (List ℕ)). path_follows o p) (slice_get-get_or names k p (omega (arith, e)))

pub one_read : (bytes : List ℕ) (names : List (List ℕ)) (rest text after p : List ℕ) → ReadsTo bytes names rest → IsLine text rest after
    → cond (is_path_text text && path_last names text) (Some text) None ≡ Some p → ReadsTo bytes (names ++ p ∷ []) after
one_read bytes names rest text after p r l e =
    let g = good _ text p e in
    let b = both_true (is_path_text text) (path_last names text) g.0 in
    subst (λ (x : List ℕ). ReadsTo bytes (names ++ x ∷ []) after) g.1 (record {
      paths = All-push IsName names text r.paths (b.0, l.plain);
      ascending = λ k d lt. elim (cases_lt (suc k) (length names)) [
        | inl below ↦
            let x = get_or_append_left names (text ∷ []) d k (omega (arith, below)) in
            let y = get_or_append_left names (text ∷ []) d (suc k) below in
            rw (x, y) (r.ascending k d below)
        | inr above ↦
            let at : suc k ≡ length names = omega (arith, lt, length_push names text) in
            let x = get_or_append_left names (text ∷ []) d k (omega (arith, at)) in
            let y = get_or_push names text d (suc k) (sym at) in
            let z = get_or_default names k d text (omega (arith, at)) in
            rw (x, y, z) (sym (last_at names text k at) ∙ b.1)
      ];
      parts =
          r.parts ∙ ap (λ (t : List ℕ). lines names ++ t) (l.parts ∙ sym (line_on text after))
          ∙ sym (append_assoc (lines names) (line text) after) ∙ ap (λ (t : List ℕ). t ++ after) (sym (pushed names text));
    })
  where
    pushed : (ps : List (List ℕ)) (q : List ℕ) → lines (ps ++ q ∷ []) ≡ lines ps ++ line q
    pushed [] q = append-nil (line q)
    pushed (x ∷ ps) q = ap (λ (t : List ℕ). line x ++ t) (pushed ps q) ∙ sym (append_assoc (line x) (lines ps) (line q))

pub all_read : (bytes : List ℕ) (names : List (List ℕ)) (rest : List ℕ) → ReadsTo bytes names rest → length rest ≡ 0 → (length bytes ≡ 0 → ⊥)
    → length bytes ≤ 16777216 → IsPending names bytes
all_read bytes [] [] r e n few = absurd (n (ap length r.parts))
all_read bytes (p ∷ names) [] r e n few = record {
  some = omega arith;
  paths = r.paths;
  ascending = r.ascending;
  bytes = r.parts ∙ append-nil (lines (p ∷ names));
  few = few;
}
all_read bytes names (b ∷ rest) r e n few = absurd (omega (arith, e))

-- ---- what is no text of pending names

-- a name at a place of an ascending list comes after those before it
after_is : (names more : List (List ℕ)) (q : List ℕ) → AreAscending (names ++ q ∷ more) → path_last names q ≡ true
after_is [] more q a = refl
after_is (p ∷ names) more q a =
    let n = length names in
    let l = length-append (p ∷ names) (q ∷ more) in
    let x = get_or_append_left (p ∷ names) (q ∷ more) q n (omega arith) in
    let y : get_or ((p ∷ names) ++ q ∷ more) (suc n) q ≡ q = at_end (p ∷ names) q more in
    last_at (p ∷ names) q n refl ∙ sym (ap (λ (s : List ℕ). path_before s q) x)
    ∙ sym (ap (λ (s : List ℕ). path_before (get_or ((p ∷ names) ++ q ∷ more) n q) s) y) ∙ a n q (omega (arith, l))
  where
    at_end : (xs : List (List ℕ)) (y : List ℕ) (ys : List (List ℕ)) → get_or (xs ++ y ∷ ys) (length xs) y ≡ y
    at_end [] y ys = refl
    at_end (x ∷ xs) y ys = at_end xs y ys

pub bad_line : (bytes : List ℕ) (names : List (List ℕ)) (rest text after : List ℕ) → ReadsTo bytes names rest → IsLine text rest after
    → cond (is_path_text text && path_last names text) (Some text) None ≡ None → (all : List (List ℕ)) → ¬ (IsPending all bytes)
bad_line bytes names rest text after r l e all p =
    let k = more_of names all rest r.paths p.paths (sym r.parts ∙ p.bytes) in
    wrong k.0 k.1 k.2
  where
    wrong : (more : List (List ℕ)) → all ≡ names ++ more → rest ≡ lines more → ⊥
    wrong [] a b = unlike text after (sym l.parts ∙ b)
    wrong (q ∷ more) a b =
        let named : All IsName (names ++ q ∷ more) = subst (All IsName) a p.paths in
        let rising : AreAscending (names ++ q ∷ more) = subst AreAscending a p.ascending in
        let mine : IsName q = of_end names q more named in
        let h = halves text q after (lines more) l.plain mine.1 (sym l.parts ∙ b ∙ line_on q (lines more)) in
        let yes : (is_path_text q && path_last names q) ≡ true = both_on (is_path_text q) (path_last names q) mine.0 (after_is names more q rising) in
        let nay : (is_path_text q && path_last names q) ≡ false =
        subst (λ (t : List ℕ). (is_path_text t && path_last names t) ≡ false) h.0 (bad _ text e) in absurd (cc)
      where
        of_end : (xs : List (List ℕ)) (y : List ℕ) (ys : List (List ℕ)) → All IsName (xs ++ y ∷ ys) → IsName y
        of_end [] y ys h = All-head IsName y ys h
        of_end (x ∷ xs) y ys h = of_end xs y ys (All-tail IsName x (xs ++ y ∷ ys) h)

-- a newline is found
found : (p t : List ℕ) → position is_newline (p ++ 10 ∷ t) ≡ None → ⊥
found p t e =
    let all = p ++ 10 ∷ t in
    let past = ltb-false (position_or_len is_newline all) (length all) (none_is _ _ e) in
    let f = fails_before_first is_newline all (length p) 10 (omega (arith, past, length-append p (10 ∷ t))) in
    let ten : get_or all (length p) 10 ≡ 10 = at_end p t in
    let g : (10 == 10) ≡ false = sym (ap is_newline ten) ∙ f in absurd (cc)
  where
    none_is : (b : Bool) (n : ℕ) → cond b (Some n) None ≡ None → b ≡ false
    none_is true n h = absurd (cc)
    none_is false n h = refl

    at_end : (xs ys : List ℕ) → get_or (xs ++ 10 ∷ ys) (length xs) 10 ≡ 10
    at_end [] ys = refl
    at_end (x ∷ xs) ys = at_end xs ys

pub open_line : (bytes : List ℕ) (names : List (List ℕ)) (rest : List ℕ) → ReadsTo bytes names rest → position is_newline rest ≡ None
    → (length rest ≡ 0 → ⊥) → (all : List (List ℕ)) → ¬ (IsPending all bytes)
open_line bytes names rest r none n all p =
    let k = more_of names all rest r.paths p.paths (sym r.parts ∙ p.bytes) in
    wrong k.0 k.2
  where
    wrong : (more : List (List ℕ)) → rest ≡ lines more → ⊥
    wrong [] b = n (ap length b)
    wrong (q ∷ more) b =
        found q (lines more) (ap (λ (t : List ℕ). position is_newline t) (sym (b ∙ line_on q (lines more))) ∙ none)

pub no_names : (bytes : List ℕ) → length bytes ≡ 0 → (all : List (List ℕ)) → ¬ (IsPending all bytes)
no_names bytes e [] p = absurd (omega (arith, p.some))
no_names [] e (q ∷ all) p = unlike q (lines all) (sym (p.bytes ∙ line_on q (lines all)))
no_names (b ∷ bytes) e (q ∷ all) p = absurd (omega (arith, e))

pub too_long : (bytes : List ℕ) → 16777216 < length bytes → (all : List (List ℕ)) → ¬ (IsPending all bytes)
too_long bytes e all p = absurd (omega (arith, p.few))

-- the path that a line gives after some
abbrev pub picked : List (List ℕ) → List ℕ → Option (List ℕ)
picked names text = cond (is_path_text text && path_last names text) (Some text) None

pub not_zero : (n : ℕ) → (n == 0) ≡ false → n ≡ 0 → ⊥
not_zero n f e = let t : (0 == 0) ≡ true = refl in let g : (0 == 0) ≡ false = subst (λ (x : ℕ). (x == 0) ≡ false) e f in absurd (cc)

-- two readings of one text
begun : (names all : List (List ℕ)) → All IsName names → All IsName all → lines names ≡ lines all → names ≡ all
begun names all n m e =
    let k = more_of names all [] n m (append-nil (lines names) ∙ e) in
    none_left k.0 k.1 k.2
  where
    none_left : (more : List (List ℕ)) → all ≡ names ++ more → [] ≡ lines more → names ≡ all
    none_left [] a b = sym (a ∙ append-nil names)
    none_left (q ∷ more) a b = absurd (unlike q (lines more) (sym (line_on q (lines more)) ∙ sym b))

pub same_names : (names all : List (List ℕ)) (bytes : List ℕ) → IsPending names bytes → IsPending all bytes → names ≡ all
same_names names all bytes p q = begun names all p.paths q.paths (sym p.bytes ∙ q.bytes)
