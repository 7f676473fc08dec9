-- The row of a task that has ended.
use Rattle.std.proofs.Common.{◌≡◌, ◌∙◌, ℕ, List, [], take, drop, ap, sym, subst}
use Rattle.std.specs.List.{Contains}
use Rattle.std.proofs.lemmas.List.{take-append-drop, drop-map}
use Rattle.std.proofs.lemmas.List.Elements.{Contains-append_right}
use Rattle.pie_graph.specs.declared.edges.TaskNo.{TaskNo}
use Rattle.pie_graph.specs.Numbers.{numbers}
use Rattle.pie_graph.specs.Rows.{Row}
use Rattle.pie_frames.specs.inner.Ended.{row_from}

-- the numbers of what stands in a list from a place on
pub numbers_from : (n : ℕ) (ts us : List TaskNo) (ns : List ℕ) → us ≡ drop n ts → numbers ts ≡ ns → numbers us ≡ drop n ns
numbers_from n ts us ns e same = ap numbers e ∙ sym (drop-map (λ (t : TaskNo). t.0) n ts) ∙ ap (drop n) same

-- what stands in a list from a place on stands in it
pub in_rest : (n : ℕ) (xs : List ℕ) (x : ℕ) → Contains (drop n xs) x → Contains xs x
in_rest n xs x h = subst (λ (ys : List ℕ). Contains ys x) (take-append-drop n xs) (Contains-append_right (take n xs) (drop n xs) x h)

-- the row of a task that ends, in parts
pub is_row_from : (row : Row) (from : ℕ) (needs : List ℕ) (reads lists writes : List (List ℕ)) → needs ≡ drop from row.needs → reads ≡ [] → lists ≡ []
    → (let r : Row = record { needs = needs; reads = reads; lists = lists; writes = writes } in r ≡ row_from row from writes)
is_row_from row from needs reads lists writes a b c =
    ap (λ (ns : List ℕ). record { needs = ns; reads = reads; lists = lists; writes = writes }) a
    ∙ ap (λ (ps : List (List ℕ)). record { needs = drop from row.needs; reads = ps; lists = lists; writes = writes }) b
    ∙ ap (λ (ps : List (List ℕ)). record { needs = drop from row.needs; reads = []; lists = ps; writes = writes }) c
