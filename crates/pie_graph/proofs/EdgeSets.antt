-- Edges that go into an index, or out of it, one after another.
use Rattle.std.proofs.Common.{◌≡◌, ◌&&◌, ◌||◌, ℕ, Bool, true, false, cond, not, List, ◌∷◌, refl, sym, ap, ◌∙◌}
use Rattle.std.proofs.Common.{◌<◌, length, set, inl, inr}
use Rattle.std.proofs.lemmas.Bool.Decides.{eqb_tells}
use Rattle.std.proofs.lemmas.List.{get_or-set_same, get_or-set_other}
use Rattle.std.specs.Ordering.{is_eq}
use Rattle.std.specs.List.{list_any}
use Rattle.pie_graph.specs.declared.uses.Use.{Use}
use Rattle.pie_graph.specs.Index.{edge_cmp, is_of}
use Rattle.pie_graph.specs.Rows.{Row, row_at, no_edges}
use Rattle.pie_graph.specs.Uses.{has}
use Rattle.pie_graph.proofs.EdgeOrder.{same_edge, edge_swap}
use Rattle.pie_graph.proofs.EdgeSteps.{added_one}

-- whether an edge stands in a list
abbrev pub listed : Use × ℕ → List (Use × ℕ) → Bool
listed edge edges = list_any (λ k. is_eq (edge_cmp edge k)) edges

pub add_step : (q k : Use × ℕ) (keys rest : List (Use × ℕ)) (held now all : Bool) → keys ≡ k ∷ rest → now ≡ cond (is_eq (edge_cmp k q)) true held
    → (held || listed q keys) ≡ all → (now || listed q rest) ≡ all
add_step q k keys rest held now all split e inv =
    ap (λ b. b || listed q rest) (e ∙ ap (λ b. cond b true held) (edge_swap k q)) ∙ added_one (is_eq (edge_cmp q k)) held (listed q rest)
    ∙ ap (λ (ks : List (Use × ℕ)). held || listed q ks) (sym split) ∙ inv

pub still_held : (same held now : Bool) → now ≡ cond same true held → held ≡ true → now ≡ true
still_held true held now e h = e
still_held false held now e h = e ∙ h

pub held_or : (a b all : Bool) → (a || b) ≡ all → a ≡ true → all ≡ true
held_or true b all e h = sym e
held_or false b all e h = cc

pruned_same : (h s r : Bool) → ((h && not (true && not s)) && not (r && not s)) ≡ (h && not ((true || r) && not s))
pruned_same true true true = refl
pruned_same true true false = refl
pruned_same true false true = refl
pruned_same true false false = refl
pruned_same false s r = refl

pruned : (same h s k r : Bool) → (same ≡ true → k ≡ s) → ((h && not (same && not k)) && not (r && not s)) ≡ (h && not ((same || r) && not s))
pruned true h s k r e = ap (λ b. (h && not (true && not b)) && not (r && not s)) (e refl) ∙ pruned_same h s r
pruned false true s k r e = refl
pruned false false s k r e = refl

pub remove_step : (stays : Use × ℕ → Bool) (q k : Use × ℕ) (keys rest : List (Use × ℕ)) (held now all : Bool) → keys ≡ k ∷ rest
    → now ≡ (held && not (is_eq (edge_cmp k q) && not (stays k))) → (held && not (listed q keys && not (stays q))) ≡ all
    → (now && not (listed q rest && not (stays q))) ≡ all
remove_step stays q k keys rest held now all split e inv =
    ap (λ b. b && not (listed q rest && not (stays q))) (e ∙ ap (λ b. held && not (b && not (stays k))) (edge_swap k q))
    ∙ pruned (is_eq (edge_cmp q k)) held (stays q) (stays k) (listed q rest) (λ h. ap stays (sym (same_edge q k h)))
    ∙ ap (λ (ks : List (Use × ℕ)). held && not (listed q ks && not (stays q))) (sym split) ∙ inv

replaced_here : (a x : Bool) → (a || (x && not x)) ≡ a
replaced_here true x = refl
replaced_here false true = refl
replaced_here false false = refl

replaced_there : (x : Bool) → (false || (x && not false)) ≡ x
replaced_there true = refl
replaced_there false = refl

-- one row is replaced: what holds of an edge is what the new rows say
pub index_set : (rows : List Row) (n : ℕ) (new : Row) (edge : Use × ℕ) (now held fresh stale : Bool) → n < length rows → now ≡ (fresh || (held && not stale))
    → fresh ≡ is_of new n edge → stale ≡ is_of (row_at rows n) n edge → held ≡ has (row_at rows edge.1) edge.0
    → now ≡ has (row_at (set rows n new) edge.1) edge.0
index_set rows n new edge now held fresh stale l r f s h =
    let u = edge.0 in
    let both : now ≡ (is_of new n edge || (has (row_at rows edge.1) u && not (is_of (row_at rows n) n edge))) =
    r ∙ ap (λ b. b || (held && not stale)) f ∙ ap (λ b. is_of new n edge || (held && not b)) s
    ∙ ap (λ b. is_of new n edge || (b && not (is_of (row_at rows n) n edge))) h in
    elim (eqb_tells edge.1 n) [
      | inl e ↦
          both ∙ ap (λ b. (b && has new u) || (has (row_at rows edge.1) u && not (b && has (row_at rows n) u))) e.0
          ∙ ap (λ (m : ℕ). has new u || (has (row_at rows m) u && not (has (row_at rows n) u))) e.1
          ∙ replaced_here (has new u) (has (row_at rows n) u)
          ∙ ap (λ (row : Row). has row u) (sym (get_or-set_same rows n new no_edges l))
          ∙ ap (λ (m : ℕ). has (row_at (set rows n new) m) u) (sym e.1)
      | inr e ↦
          both ∙ ap (λ b. (b && has new u) || (has (row_at rows edge.1) u && not (b && has (row_at rows n) u))) e.0
          ∙ replaced_there (has (row_at rows edge.1) u)
          ∙ ap (λ (row : Row). has row u) (sym (get_or-set_other rows n edge.1 new no_edges e.1))
    ]

-- an edge of the row that is replaced stands in the index
pub held_old : (rows : List Row) (n : ℕ) (edge : Use × ℕ) (held stale : Bool) → stale ≡ is_of (row_at rows n) n edge → held ≡ has (row_at rows edge.1) edge.0
    → stale ≡ true → held ≡ true
held_old rows n edge held stale s h is =
    let u = edge.0 in
    elim (eqb_tells edge.1 n) [
      | inl e ↦
          h ∙ ap (λ (m : ℕ). has (row_at rows m) u) e.1 ∙ sym (ap (λ b. b && has (row_at rows n) u) e.0) ∙ sym s ∙ is
      | inr e ↦ let none : false ≡ true = sym (ap (λ b. b && has (row_at rows n) u) e.0) ∙ sym s ∙ is in absurd (cc)
    ]

-- a new edge that stands in the index already is one of the row that is replaced
pub fresh_old : (rows : List Row) (n : ℕ) (new : Row) (edge : Use × ℕ) (held fresh stale : Bool) → fresh ≡ is_of new n edge
    → stale ≡ is_of (row_at rows n) n edge → held ≡ has (row_at rows edge.1) edge.0 → fresh ≡ true → held ≡ true → stale ≡ true
fresh_old rows n new edge held fresh stale f s h is there =
    let u = edge.0 in
    elim (eqb_tells edge.1 n) [
      | inl e ↦
          s ∙ ap (λ b. b && has (row_at rows n) u) e.0 ∙ sym (ap (λ (m : ℕ). has (row_at rows m) u) e.1) ∙ sym h ∙ there
      | inr e ↦ let none : false ≡ true = sym (ap (λ b. b && has new u) e.0) ∙ sym f ∙ is in absurd (cc)
    ]
