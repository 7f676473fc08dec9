-- An order agrees with rows that have one edge more.
use Rattle.std.proofs.Common.{◌≡◌, ℕ, zero, suc, ◌<◌, List, [], ◌∷◌, length, sym, ap, subst, ◌∙◌, arith, inl, inr}
use Rattle.std.specs.Prelude.{Contains, slice_set, Option, None, Some, MatchOption}
use Rattle.std.proofs.lemmas.Bool.{cases_eq}
use Rattle.std.proofs.lemmas.List.{length-set, get_or-set_same, get_or-set_other}
use Rattle.pie_graph.specs.Rows.{Row, no_edges, row_at}
use Rattle.pie_order.specs.Places.{StandsBefore, PlacesAgree}

only_one : (to n : ℕ) → Contains (to ∷ []) n → n ≡ to
only_one to n (zero, lt, is) = sym is
only_one to n (suc k, lt, is) = absurd (omega (arith, lt))

pub still_agrees : (rows : List Row) (places : List ℕ) (from to : ℕ) (row : Row) → PlacesAgree rows places → from < length rows
    → row.needs ≡ to ∷ [] → StandsBefore places to from → PlacesAgree (slice_set rows from row) places
still_agrees rows places from to row a lt one before = record {
  as_many = omega (arith, a.as_many, length-set rows from row);
  each = λ caller callee calls. elim (cases_eq caller from) [
    | inl same ↦
        let at : row_at (slice_set rows from row) caller ≡ row =
        ap (λ (n : ℕ). row_at (slice_set rows from row) n) same ∙ get_or-set_same rows from row no_edges lt in
        let needs : (row_at (slice_set rows from row) caller).needs ≡ to ∷ [] = ap (λ (r : Row). r.needs) at ∙ one in
        let is : callee ≡ to = only_one to callee (subst (λ (ns : List ℕ). Contains ns callee) needs calls) in
        subst (λ (n : ℕ). StandsBefore places callee n) (sym same) (subst (λ (n : ℕ). StandsBefore places n from) (sym is) before)
    | inr apart ↦
        a.each caller callee (subst (λ (r : Row). Contains r.needs callee) (get_or-set_other rows from caller row no_edges apart) calls)
  ];
}

pub none_gives : {A : Type 0} (o : Option A) (P : Type 0) (Q : A → Type 0) → o ≡ None → MatchOption o P Q → P
none_gives None P Q e h = h
none_gives (Some a) P Q e h = absurd (cc)
