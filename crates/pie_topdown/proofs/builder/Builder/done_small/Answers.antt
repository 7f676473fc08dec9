use Rattle.std.proofs.Common.{refl}
use Rattle.pie_topdown.proofs.Stacking.{grown_site}
use Rattle.pie_topdown.proofs.Finished.{ends_small, kept_as}
use Rattle.pie_topdown.proofs.builder.Builder.done_small.Goals as goal

pub returns-clause-turns : goal.returns-clause-turns
returns-clause-turns c = record {
  site = grown_site c.args.self.now _ c.requires.ends.site c.in_ok-end.ensures.ledger c.in_ok-end.ensures.grows c.in_ok-end.ensures.names refl refl;
  hand = tt;
}

pub returns-clause-right : goal.returns-clause-right
returns-clause-right c =
    ends_small c.args.self.now _ c.args.notes c.args.output
    (kept_as c.args.self.now _ c.args.no.0 c.into_parts-task.result c.args.notes.left c.args.notes c.args.output c.new.result c.new-2.result
    c.into_parts-task.ensures c.requires.ends.number c.new.ensures c.new-2.ensures c.in_ok-end.ensures.ends c.in_ok-end.ensures.ledger refl) c.requires.ends.noted
    c.requires.output.encodable c.requires.output.leaves c.requires.output.small
