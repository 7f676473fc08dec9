use Rattle.pie_auto.proofs.Keeping.{held_there, held_then}
use Rattle.pie_auto.proofs.manifest.put_text.Goals as goal

pub put-requires : goal.put-requires
put-requires g c = (c.args.text, c.in_ok-plan.ensures)

pub returns-then-branch-clause-held : goal.returns-then-branch-clause-held
returns-then-branch-clause-held g c =
    held_there (g.F.Files.holds c.args.files.now) (g.F.Files.holds c.stands.new.files) c.as_slice.result.now c.args.text.items c.in_ok-stands.field-0
    c.in_ok-stands.ensures.reads.same c.as_slice.ensures.value c.if-branch.true c.in_ok-stands.ensures.there

pub returns-clause-held : goal.returns-clause-held
returns-clause-held g c =
    held_then (g.F.Files.holds c.args.files.now) (g.F.Files.holds c.stands.new.files) (g.F.Files.holds c.put.new.files) c.in_ok-plan.plan c.args.text
    c.put.result c.in_ok-stands.ensures.reads.same c.in_ok-plan.ensures c.put.ensures.done
