use Rattle.std.proofs.Common.{rules, sym, ◌∙◌}
use Rattle.pie_storable.proofs.Placing.{heights_more, inserted}
use Rattle.pie_storable.proofs.heights.Heights.admit.Goals as goal

pub returns-in_ok-insert-in-Some-clause-admitted : goal.returns-in_ok-insert-in-Some-clause-admitted
returns-in_ok-insert-in-Some-clause-admitted c = λ yes rows are. record {
  height = c.in-Some.height;
  passed = sym (sym c.in-Some.is ∙ c.in_ok-height.ensures.height rows are);
  heights =
      heights_more c.args.self.now (record { alloc = c.args.self.now.alloc; by_bytes = c.insert.new.self }) rows c.args.row.now c.in-Some.height
      c.in_ok-bytes.bytes are c.in_ok-bytes.ensures.bytes
      (c.in_ok-insert-in-Some.ensures.entries ∙ inserted c.args.self.now c.in_ok-bytes.bytes c.in-Some.height (search rules));
}
