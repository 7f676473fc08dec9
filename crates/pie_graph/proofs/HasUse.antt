-- The test for an edge, and the fact that it decides.
use Rattle.std.proofs.Common.{◌≡◌, ◌||◌, ℕ, Bool, true, false, List, [], ◌∷◌, refl, sym, ap, ◌∙◌, inl, inr, eqb, arith, rules, subst, map, get_or}
use Rattle.std.specs.List.{Contains, list_any}
use Rattle.std.proofs.lemmas.Simd.{map-map}
use Rattle.std.proofs.lemmas.Slice.Eq.{slice_eq-Decides}
use Rattle.std.proofs.lemmas.Bool.Decides.{Decides-eqb}
use Rattle.pie_graph.specs.declared.edges.TaskNo.{TaskNo}
use Rattle.pie_graph.specs.declared.edges.Edges.{Edges}
use Rattle.pie_graph.specs.Numbers.{numbers, IsMarked, Exactly}
use Rattle.std.proofs.Math.ListN as at
use Rattle.pie_base.specs.Path.{same_text}
use Rattle.pie_graph.specs.declared.uses.Use.{Use}
use Rattle.pie_graph.specs.declared.uses.Use.TheVariants.{Calls, Reads, Lists, Writes}
use Rattle.pie_graph.specs.Rows.{Row, row_of, row_at, no_edges}
use Rattle.pie_graph.specs.Uses.{has, Has}
use Rattle.pie_graph.proofs.Among.{contains_here, contains_later, contains_cases}

any_contains : {A : Type 0} (p : A → Bool) (x : A) → ((y : A) → p y ≡ true → y ≡ x) → (xs : List A) → list_any p xs ≡ true → Contains xs x
any_contains p x same [] h = cc
any_contains {A} p x same (y ∷ ys) h =
    elim (p y) as (λ b. p y ≡ b → b || list_any p ys ≡ true → Contains (y ∷ ys) x) [
      | true ↦ λ e i. subst (λ (z : A). Contains (y ∷ ys) z) (same y e) (contains_here y ys)
      | false ↦ λ e i. contains_later y x ys (any_contains p x same ys i)
    ] refl h

contains_any : {A : Type 0} (p : A → Bool) (x : A) → p x ≡ true → (xs : List A) → Contains xs x → list_any p xs ≡ true
contains_any p x passes [] h = absurd (omega (arith, h.1))
contains_any p x passes (y ∷ ys) h =
    elim (contains_cases y x ys h) [
      | inl e ↦ rw (ap p e ∙ passes) refl
      | inr later ↦ elim (p y) as (λ b. b || list_any p ys ≡ true) [ true ↦ refl | false ↦ contains_any p x passes ys later ]
    ]

same_text_is : (a b : List ℕ) → same_text a b ≡ true → a ≡ b
same_text_is a b h = (slice_eq-Decides {E = eqb} Decides-eqb a b (same_text a b) refl).0 h

same_text_refl : (a : List ℕ) → same_text a a ≡ true
same_text_refl a = (slice_eq-Decides {E = eqb} Decides-eqb a a (same_text a a) refl).1 refl

pub list_any_numbers : (p : ℕ → Bool) (ts : List TaskNo) → list_any (λ t. p t.0) ts ≡ list_any p (numbers ts)
list_any_numbers p [] = refl
list_any_numbers p (t ∷ ts) = ap (λ b. p t.0 || b) (list_any_numbers p ts)

pub has_true : (row : Row) (what : Use) → has row what ≡ true → Has row what
has_true row (Calls t) h = any_contains (λ n. eqb n t.0) t.0 (λ y e. search (rules, e)) row.needs h
has_true row (Reads path) h = any_contains (λ p. same_text p path) path (λ y e. same_text_is y path e) row.reads h
has_true row (Lists path) h = any_contains (λ p. same_text p path) path (λ y e. same_text_is y path e) row.lists h
has_true row (Writes path) h = any_contains (λ p. same_text p path) path (λ y e. same_text_is y path e) row.writes h

pub true_has : (row : Row) (what : Use) → Has row what → has row what ≡ true
true_has row (Calls t) h = contains_any (λ n. eqb n t.0) t.0 (search rules) row.needs h
true_has row (Reads path) h = contains_any (λ p. same_text p path) path (same_text_refl path) row.reads h
true_has row (Lists path) h = contains_any (λ p. same_text p path) path (same_text_refl path) row.lists h
true_has row (Writes path) h = contains_any (λ p. same_text p path) path (same_text_refl path) row.writes h

pub none_has : (what : Use) → has no_edges what ≡ false
none_has (Calls t) = refl
none_has (Reads path) = refl
none_has (Lists dir) = refl
none_has (Writes path) = refl

mark_at : (rows : List Row) (what : Use) (n : ℕ) → get_or (map (λ row. has row what) rows) n false ≡ has (row_at rows n) what
mark_at rows what n = ap (get_or (map (λ (row : Row). has row what) rows) n) (sym (none_has what)) ∙ at.get_or-map (λ (row : Row). has row what) rows n no_edges

pub users_exactly : (rows : List Row) (what : Use) (marks : List Bool) (found : List ℕ) → marks ≡ map (λ row. has row what) rows
    → Exactly (IsMarked marks) found → Exactly (λ n. Has (row_at rows n) what) found
users_exactly rows what marks found e x = record {
  ascending = x.ascending;
  only = λ n h. has_true (row_at rows n) what (sym (mark_at rows what n) ∙ ap (λ (ms : List Bool). get_or ms n false) (sym e) ∙ x.only n h);
  each = λ n h. x.each n (ap (λ (ms : List Bool). get_or ms n false) e ∙ mark_at rows what n ∙ true_has (row_at rows n) what h);
}

pub users_of : (edges : List Edges) (rows : List Row) (what : Use) (marks : List Bool) (found : List ℕ) → map row_of edges ≡ rows
    → marks ≡ map (λ e. has (row_of e) what) edges → Exactly (IsMarked marks) found → Exactly (λ n. Has (row_at rows n) what) found
users_of edges rows what marks found v e x = users_exactly rows what marks found
    (e ∙ sym (map-map (λ (row : Row). has row what) row_of edges) ∙ ap (map (λ (row : Row). has row what)) v) x
