use Rattle.std.proofs.Common.{rules}
use Rattle.std.proofs.lemmas.Cmp.{nat_list_cmp_total}
use Rattle.std.proofs.lemmas.List.Sorted.{ranks_by, answers_always}
use Rattle.pie_value.specs.Order.{byte_order}
use Rattle.std.specs.Ordering.{is_lt}
use Rattle.pie_cached.proofs.lines.sort_by_key.Goals as goal

pub returns : goal.returns
returns c = record {
  same = c.in_ok-sort_by.ensures.permutation;
  ascending = c.in_ok-sort_by.ensures.sorted (λ a b. is_lt (byte_order a.0.items b.0.items))
      (ranks_by nat_list_cmp_total (λ k. k.0.items)) (answers_always _ _ _ (λ f a r g h. search rules));
}
