-- One more edge in an index, or one fewer.
use Rattle.std.proofs.Common.{◌≡◌, ◌&&◌, ◌||◌, ℕ, ◌<◌, ◌+◌, Bool, true, false, cond, List, [], ◌∷◌, ◌≤◌, length, get_or, drop, refl, sym, ap, ◌∙◌, eqb}
use Rattle.std.proofs.lemmas.Cmp.{nat_eq_equiv}
use Rattle.std.specs.Ordering.{nat_cmp, is_eq}
use Rattle.std.specs.List.{list_any}
use Rattle.std.proofs.lemmas.List.{drop_more, drop_all}
use Rattle.pie_base.specs.Path.{same_text}
use Rattle.pie_graph.specs.declared.uses.Use.{Use}
use Rattle.pie_graph.specs.declared.uses.Use.TheVariants.{Calls, Reads, Lists, Writes}
use Rattle.pie_graph.specs.Rows.{Row}
use Rattle.pie_graph.specs.Uses.{has}
use Rattle.pie_graph.specs.Index.{use_cmp, edge_cmp, is_of}
use Rattle.pie_graph.specs.Alone.{writes_alone}
use Rattle.pie_graph.proofs.EdgeOrder.{nat_tie, text_tie, then_tie}
use Rattle.pie_graph.proofs.HasUse.{none_has}

and_false : (b : Bool) → (b && false) ≡ false
and_false true = refl
and_false false = refl

eqb_swap : (a b : ℕ) → eqb a b ≡ eqb b a
eqb_swap a b = nat_eq_equiv.symm a b

spread_out : (e a b : Bool) → (e && (a || b)) ≡ ((a && e) || (e && b))
spread_out true true b = refl
spread_out true false b = refl
spread_out false true b = refl
spread_out false false b = refl

-- the row has one use more
of_more : (what : Use) (row more : Row) (n : ℕ) (edge : Use × ℕ) → ((u : Use) → has more u ≡ (is_eq (use_cmp what u) || has row u))
    → is_of more n edge ≡ (is_eq (edge_cmp (what, n) edge) || is_of row n edge)
of_more what row more n edge h =
    let one : is_eq (edge_cmp (what, n) edge) ≡ (is_eq (use_cmp what edge.0) && eqb edge.1 n) =
    then_tie (use_cmp what edge.0) (nat_cmp n edge.1) ∙ ap (λ b. is_eq (use_cmp what edge.0) && b) (nat_tie n edge.1 ∙ eqb_swap n edge.1) in
    ap (λ b. eqb edge.1 n && b) (h edge.0) ∙ spread_out (eqb edge.1 n) (is_eq (use_cmp what edge.0)) (has row edge.0)
    ∙ ap (λ b. b || (eqb edge.1 n && has row edge.0)) (sym one)

writes_more : (path : List ℕ) (paths : List (List ℕ)) (u : Use)
    → has (writes_alone (path ∷ paths)) u ≡ (is_eq (use_cmp (Writes path) u) || has (writes_alone paths) u)
writes_more path paths (Calls s) = refl
writes_more path paths (Reads p) = refl
writes_more path paths (Lists p) = refl
writes_more path paths (Writes p) = ap (λ b. b || list_any (λ q. same_text q p) paths) (sym (text_tie path p))

pub added_one : (same held rest : Bool) → (cond same true held || rest) ≡ (held || (same || rest))
added_one true true rest = refl
added_one true false rest = refl
added_one false held rest = refl

-- an edge goes into the index: what it holds with the rest is as before
pub row_step : (what : Use) (row more : Row) (n : ℕ) (edge : Use × ℕ) (held now all : Bool) → ((u : Use) → has more u ≡ (is_eq (use_cmp what u) || has row u))
    → now ≡ cond (is_eq (edge_cmp (what, n) edge)) true held → (held || is_of more n edge) ≡ all → (now || is_of row n edge) ≡ all
row_step what row more n edge held now all h e inv =
    ap (λ b. b || is_of row n edge) e ∙ added_one (is_eq (edge_cmp (what, n) edge)) held (is_of row n edge)
    ∙ ap (λ b. held || b) (sym (of_more what row more n edge h)) ∙ inv

pub writes_step : (paths : List (List ℕ)) (i : ℕ) (path : List ℕ) (n : ℕ) (edge : Use × ℕ) (held now all : Bool) → i < length paths
    → path ≡ get_or paths i path → now ≡ cond (is_eq (edge_cmp (Writes path, n) edge)) true held → (held || is_of (writes_alone (drop i paths)) n edge) ≡ all
    → (now || is_of (writes_alone (drop (i + 1) paths)) n edge) ≡ all
writes_step paths i path n edge held now all l is e inv =
    let rest = drop (i + 1) paths in
    let split : drop i paths ≡ path ∷ rest = drop_more paths i path l ∙ ap (λ (x : List ℕ). x ∷ rest) (sym is) in
    row_step (Writes path) (writes_alone rest) (writes_alone (path ∷ rest)) n edge held now all (writes_more path rest) e
    (ap (λ (ps : List (List ℕ)). held || is_of (writes_alone ps) n edge) (sym split) ∙ inv)

nothing_left : (held rest all : Bool) → rest ≡ false → (held || rest) ≡ all → held ≡ all
nothing_left true rest all e h = h
nothing_left false rest all e h = sym e ∙ h

none_alone : (n : ℕ) (edge : Use × ℕ) (row : Row) → ((u : Use) → has row u ≡ false) → is_of row n edge ≡ false
none_alone n edge row none = ap (λ b. eqb edge.1 n && b) (none edge.0) ∙ and_false (eqb edge.1 n)

pub writes_end : (paths : List (List ℕ)) (i : ℕ) (n : ℕ) (edge : Use × ℕ) (held all : Bool) → length paths ≤ i
    → (held || is_of (writes_alone (drop i paths)) n edge) ≡ all → held ≡ all
writes_end paths i n edge held all l h =
    nothing_left held (is_of (writes_alone []) n edge) all (none_alone n edge (writes_alone []) none_has)
    (ap (λ (ps : List (List ℕ)). held || is_of (writes_alone ps) n edge) (sym (drop_all i paths l)) ∙ h)
