use Rattle.std.proofs.Common.{refl}
use Rattle.pie_topdown.proofs.Stacking.{entered_site, entered_starts}
use Rattle.pie_topdown.proofs.Entered.{enters_right}
use Rattle.pie_topdown.proofs.builder.Builder.enter.Goals as goal

pub returns-clause-site : goal.returns-clause-site
returns-clause-site c =
    entered_site c.args.self.now _ c.args.task c.requires.site c.in_ok-no.ensures.ledger c.in_ok-no.ensures.grows c.in_ok-no.ensures.names c.requires.known
    refl refl

pub returns-clause-starts : goal.returns-clause-starts
returns-clause-starts c =
    entered_starts c.args.self.now.ledger c.add.new.self c.args.task c.in_ok-no.no.0 c.args.code.now.params c.in_ok-no.ensures.names
    c.in_ok-no.ensures.number c.requires.takes

pub returns-clause-right : goal.returns-clause-right
returns-clause-right c =
    enters_right c.args.self.now (record c.args.self.now { ledger = c.add.new.self }) c.args.task (record { added = c.in_ok-no.ensures.added; rest = refl })
    c.requires.site c.in_ok-no.ensures.ledger c.requires.few c.requires.absent
