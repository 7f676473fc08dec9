use Rattle.std.proofs.Common.{◌+◌, sym, subst, arith}
use Rattle.std.proofs.lemmas.Option.{slice_get_within}
use Rattle.pie_bottomup.specs.inner.States.{RunsOrRests}
use Rattle.pie_bottomup.proofs.Sites.{site_begun}
use Rattle.pie_bottomup.proofs.GoingRoots.{begun_whole}
use Rattle.pie_bottomup.proofs.state.Core.begin.Goals as goal

pub returns-clause-turns : goal.returns-clause-turns
returns-clause-turns c = record {
  site = site_begun c.args.self.now c.begin.new.self c.args.no c.requires.free.rests.site c.requires.free.rests.rests c.requires.at c.requires.root
      c.in_ok-begin.ensures.began c.begin.ensures.parked;
  state = subst (RunsOrRests (record c.args.self.now { frames = c.begin.new.self; at = c.args.self.now.at + 1 })) (sym c.requires.free.free)
      c.in_ok-begin.ensures.rests;
}

pub returns-clause-whole : goal.returns-clause-whole
returns-clause-whole c = λ u now e may.
    begun_whole u c.args.self.now c.begin.new.self c.args.no e c.requires.free.rests.rests c.in_ok-begin.ensures.rests
    (omega (arith, slice_get_within c.args.self.now.tables.names c.args.no.0 c.requires.root.root c.requires.root.named, c.requires.free.rests.site.sized))
    c.in_ok-begin.ensures.began c.begin.ensures.parked c.requires.free.free may
