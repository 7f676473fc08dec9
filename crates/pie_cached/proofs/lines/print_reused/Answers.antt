use Rattle.std.proofs.Common.{◌≡◌, ◌∙◌, ap, map, string_bytes, rules}
use Rattle.pie_cached.specs.Lines.{reused_lines}
use Rattle.pie_report.proofs.Sorting.{in_order}
use Rattle.pie_cached.proofs.lines.print_reused.Goals as goal

pub returns : goal.returns
returns c =
    let sorted = c.in_ok-sorted.sorted.items in
    let order = in_order c.args.tasks.now c.in_ok-keyed.keyed.items c.sort_by_key.new.keyed.items sorted c.in_ok-keyed.ensures
    c.in_ok-sort_by_key.ensures (c.in_ok-sorted.ensures ∙ ap (map (λ k. k.1)) c.as_slice.ensures.value) in
    let is : string_bytes c.put_lines.new.text ≡ reused_lines sorted = search rules in
    (sorted, order, is)
