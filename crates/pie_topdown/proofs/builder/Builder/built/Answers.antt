use Rattle.pie_topdown.proofs.Filing.{made_filed}
use Rattle.pie_topdown.proofs.Making.{made_stored}
use Rattle.pie_topdown.proofs.Resulting.{made_settled}
use Rattle.pie_topdown.proofs.builder.Builder.built.Goals as goal

pub returns-clause-clean : goal.returns-clause-clean
returns-clause-clean c =
    made_settled c.args.self.now c.args.roots.now c.in_ok-built.built c.requires.settled c.in_ok-built.ensures.makes c.in_ok-built.ensures.stored

pub returns-clause-files : goal.returns-clause-files
returns-clause-files c = made_filed c.args.self.now c.args.roots.now c.in_ok-built.built c.in_ok-built.ensures.makes

pub returns-clause-stored : goal.returns-clause-stored
returns-clause-stored c =
    made_stored c.args.self.now c.args.roots.now c.in_ok-built.built c.requires.site c.requires.settled c.as_slice-names.ensures.distinct c.in_ok-built.ensures.stored
