use Rattle.std.proofs.Common.{◌≡◌}
use Rattle.pie_walk.specs.States.{met, with_need}
use Rattle.pie_frames.proofs.Handing.{parks}
use Rattle.pie_frames.proofs.frames.Frames.park.Goals as goal

pub returns-in_ok-push-in-None-clause-parked : goal.returns-in_ok-push-in-None-clause-parked
returns-in_ok-push-in-None-clause-parked c =
    let required : c.require.new.self ≡ met (with_need c.args.self.now.walk c.require.new.self.places c.args.no.0 c.args.callee.0) c.args.callee
    = rw c.in-None.is at c.in_ok-cycle.ensures.required in
    parks c.args.self.now (record { alloc = c.args.self.now.alloc; walk = c.require.new.self; parked = c.push.new.self }) c.args.no
    (record { caller = c.args.caller; from = c.args.from; callee = c.args.callee }) c.requires.holds c.in_ok-cycle.ensures.stands
    c.in_ok-cycle.ensures.counts required c.in_ok-push-in-None.ensures.items c.requires.own c.requires.row c.requires.waits c.requires.required
    c.requires.number
