-- Lists that are one list twice.
use Rattle.std.proofs.Common.{◌≡◌, ℕ, suc, zero, ◌<◌, ◌+◌, ◌-◌, ◌++◌, ◌∷◌, length, get_or, Bool, true, false, not, List, [], Option, Some, take, drop, refl, sym, ap, subst, ◌∙◌, arith}
use Rattle.std.proofs.lemmas.List.{take-map, drop-map, take_more, take_all, length-drop}
use Rattle.std.specs.Prelude.{IfSome}
use Rattle.pie_graph.specs.declared.edges.TaskNo.{TaskNo}
use Rattle.pie_graph.specs.Numbers.{numbers}
use Rattle.pie_graph.specs.Rows.{Row}
use Rattle.pie_record.specs.declared.task_record.TaskRecord.{TaskRecord}
use Rattle.pie_bottomup.specs.inner.Finished.{HasSameEdges}

-- no numbers
pub none_twice : (from : ℕ) (nos : List TaskNo) → nos ≡ [] → take from (numbers nos) ≡ drop from (numbers nos)
none_twice zero [] none = refl
none_twice (suc from) [] none = refl
none_twice from (one ∷ nos) none = absurd (cc)

-- two parts with the same numbers
pub parts_twice : (from : ℕ) (nos : List TaskNo) → numbers (take from nos) ≡ numbers (take (length nos - from) (drop from nos))
    → take from (numbers nos) ≡ drop from (numbers nos)
parts_twice from nos same =
    take-map (λ (t : TaskNo). t.0) from nos ∙ same ∙ ap numbers (take_all (length nos - from) (drop from nos) (omega (arith, length-drop from nos)))
    ∙ sym (drop-map (λ (t : TaskNo). t.0) from nos)

-- the numbers are the same up to the next place
pub next_same : (xs ys : List TaskNo) (i : ℕ) → i < length xs → i < length ys → (d : TaskNo) → (get_or xs i d).0 ≡ (get_or ys i d).0
    → take i (numbers xs) ≡ take i (numbers ys) → take (i + 1) (numbers xs) ≡ take (i + 1) (numbers ys)
next_same xs ys i l m d same before =
    more xs l ∙ ap (λ (ns : List ℕ). ns ++ (get_or xs i d).0 ∷ []) before ∙ ap (λ n. take i (numbers ys) ++ n ∷ []) same ∙ sym (more ys m)
  where
    map-append_one : (zs : List TaskNo) (z : TaskNo) → numbers (zs ++ z ∷ []) ≡ numbers zs ++ z.0 ∷ []
    map-append_one [] z = refl
    map-append_one (y ∷ zs) z = ap (λ (ns : List ℕ). y.0 ∷ ns) (map-append_one zs z)

    more : (zs : List TaskNo) → i < length zs → take (i + 1) (numbers zs) ≡ take i (numbers zs) ++ (get_or zs i d).0 ∷ []
    more zs l =
        take-map (λ (t : TaskNo). t.0) (i + 1) zs ∙ ap numbers (take_more zs i d l) ∙ map-append_one (take i zs) (get_or zs i d)
        ∙ ap (λ (ns : List ℕ). ns ++ (get_or zs i d).0 ∷ []) (sym (take-map (λ (t : TaskNo). t.0) i zs))

not_false : (b : Bool) → not b ≡ false → b ≡ true
not_false true e = refl
not_false false e = absurd (cc)

-- a task wrote what its record says, and has its requires twice
pub same_edges : (row : Row) (from : ℕ) (was r : TaskRecord) (ns : List ℕ) (twice writes : Bool) (o : Option TaskRecord) → ns ≡ row.needs
    → (twice ≡ true → take from ns ≡ drop from ns) → not twice ≡ false → o ≡ Some was → IfSome o (λ (x : TaskRecord). writes ≡ false → x.writes ≡ r.writes)
    → writes ≡ false → HasSameEdges row from was r
same_edges row from was r ns twice writes o needs is on kept same off = record {
  needs = subst (λ (ks : List ℕ). take from ks ≡ drop from ks) needs (is (not_false twice on));
  writes = subst (λ p. IfSome p (λ (x : TaskRecord). writes ≡ false → x.writes ≡ r.writes)) kept same off;
}
