use Rattle.std.proofs.Common.{sym, subst}
use Rattle.pie_bottomup.specs.inner.States.{RunsOrRests}
use Rattle.pie_bottomup.proofs.Settling.{site_kept}
use Rattle.pie_bottomup.proofs.GoingEnds.{kept_whole}
use Rattle.pie_bottomup.proofs.state.Core.keep.Goals as goal

pub returns-clause-turns : goal.returns-clause-turns
returns-clause-turns c =
    let taken = c.requires.taken.taken in
    record {
      site = site_kept c.args.self.now c.keep.new.self c.args.no c.as_slice-names.ensures.distinct taken.site taken.holds c.requires.taken.recorded
          c.requires.known c.requires.stands c.keep.ensures.kept c.keep.ensures.parked;
      state = subst (RunsOrRests (record c.args.self.now { frames = c.keep.new.self })) (sym taken.free) c.keep.ensures.rests;
    }

pub returns-clause-whole : goal.returns-clause-whole
returns-clause-whole c = λ u before now from.
    let taken = c.requires.taken.taken in
    kept_whole u c.args.self.now c.keep.new.self c.args.no before now.plan from taken.holds c.requires.same c.requires.stands c.keep.ensures.kept
    c.keep.ensures.parked c.keep.ensures.rests taken.free
