-- What std sorts is the list that the definition sorts.
use Rattle.std.proofs.Common.{◌≡◌, sym, ◌∙◌, ap, map, List, ℕ, Bor}
use Rattle.std.specs.Ordering.{nat_cmp}
use Rattle.std.specs.Cmp.{on_total}
use Rattle.std.specs.Cmp.Lexicographic.{slice_cmp, nat_list_cmp_total}
use Rattle.pie_value.specs.BuiltinItems.{sorted_by}
use Rattle.pie_builtins.proofs.Sorting.{sorted_is, map_sorted}
use Rattle.pie_builtins.proofs.sorts.sorted_texts.Goals as goal

abbrev bytes : Bor (List ℕ) → List ℕ
bytes text = text.now

pub returns : goal.returns
returns c =
    let e : c.sort.new.self.items ≡ sorted_by (λ a b. slice_cmp nat_cmp (bytes a) (bytes b)) c.args.texts.items =
    sorted_is (λ a b. slice_cmp nat_cmp (bytes a) (bytes b))
    (on_total bytes nat_list_cmp_total) c.args.texts.items c.sort.new.self.items c.in_ok-sort.ensures.sorted c.in_ok-sort.ensures.stable in
    let f : map bytes c.sort.new.self.items ≡ sorted_by (slice_cmp nat_cmp) (map bytes c.args.texts.items) = ap (map bytes) e
    ∙ map_sorted (slice_cmp nat_cmp) bytes c.args.texts.items in
    rw (sym f, sym c.as_slice.ensures.value, sym c.in_ok-list_of_texts.ensures) c.made.ensures
