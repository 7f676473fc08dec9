use Rattle.std.proofs.Common.{sym, ◌∙◌}
use Rattle.pie_named.proofs.Knowing.{knows_list}
use Rattle.pie_named.proofs.Staying.{asks_list}
use Rattle.pie_named.proofs.named.Named.listing.Goals as goal

pub returns-clause-learns : goal.returns-clause-learns
returns-clause-learns g c d held known =
    knows_list d c.args.self.now c.put.new.self c.in_ok-copy.field-0 c.args.dir.now c.in_ok-stamp.stamp c.in_ok-copy.ensures c.in_ok-put.ensures
    (c.in_ok-stamp.ensures.now d held) known

pub returns-clause-asked : goal.returns-clause-asked
returns-clause-asked g c =
    asks_list c.args.self.now c.put.new.self c.in_ok-copy.field-0 c.args.dir.now c.in_ok-stamp.stamp c.in_ok-copy.ensures (sym c.get.ensures ∙ c.in_default.is) c.in_ok-put.ensures
