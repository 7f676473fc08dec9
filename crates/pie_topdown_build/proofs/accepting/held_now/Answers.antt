use Rattle.pie_topdown_build.proofs.Holding.{held_by_store, held_by_none}
use Rattle.pie_topdown_build.proofs.accepting.held_now.Goals as goal

pub returns-in-Some-clause-held : goal.returns-in-Some-clause-held
returns-in-Some-clause-held g c =
    held_by_store c.args.store.now c.args.contents.now (g.F.Files.holds c.args.files.now) c.held_under_out.result c.in-Some.field-0 c.in-Some.is
    c.held_under_out.ensures.held

pub returns-in-None-clause-held : goal.returns-in-None-clause-held
returns-in-None-clause-held g c =
    held_by_none c.args.store.now c.args.contents.now (g.F.Files.holds c.args.files.now) c.held_beside.result c.in-None.is c.held_beside.ensures.held
