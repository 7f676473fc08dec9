use Rattle.std.proofs.Common.{refl}
use Rattle.pie_base.specs.Path.{is_source}
use Rattle.pie_files.specs.declared.files.Call.TheVariants as calls
use Rattle.pie_value.specs.declared.event.Event.TheVariants as events
use Rattle.pie_bottomup.specs.inner.Asked.{IsAskedBy}
use Rattle.pie_bottomup.proofs.Asking.{asks_once}
use Rattle.pie_bottomup.proofs.Owning.{may_go}
use Rattle.std.proofs.Common.{Ok}
use Rattle.pie_bottomup.proofs.GoingEvents.{list_goes}
use Rattle.pie_bottomup.proofs.state.Core.list.Goals as goal

pub told-requires-clause-goes : goal.told-requires-clause-goes
told-requires-clause-goes g c =
    may_go c.args.self.now c.args.no c.args.from c.args.waiting.notes c.in_ok-told.told c.in_ok-told.ensures.answered c.requires.own

pub returns-clause-whole : goal.returns-clause-whole
returns-clause-whole g c =
    list_goes {E = Unit {0}} (g.F.Files.holds c.args.files.now) c.args.self.now c.told.new.self c.args.no c.args.from c.args.waiting c.args.dir c.in_ok-told.told
    (Ok c.in_ok-told-2.field-0) c.requires.taken.holds c.requires.waits.left c.requires.own (λ d held. c.in_ok-told.ensures.tells d held)
    c.in_ok-told-2.ensures.whole

pub returns-in_err-told-clause-asks : goal.returns-in_err-told-clause-asks
returns-in_err-told-clause-asks g c =
    asks_once (IsAskedBy (events.List c.args.dir)) g.F.Files.asked (is_source c.args.dir) (calls.Names c.args.dir) c.args.files.now c.list.new.files (λ may. (refl, may))
    c.in_err-told.ensures.asks

pub returns-in_err-told-2-clause-asks : goal.returns-in_err-told-2-clause-asks
returns-in_err-told-2-clause-asks g c =
    asks_once (IsAskedBy (events.List c.args.dir)) g.F.Files.asked (is_source c.args.dir) (calls.Names c.args.dir) c.args.files.now c.list.new.files (λ may. (refl, may))
    c.in_ok-told.ensures.asks

pub returns-clause-asks : goal.returns-clause-asks
returns-clause-asks g c =
    asks_once (IsAskedBy (events.List c.args.dir)) g.F.Files.asked (is_source c.args.dir) (calls.Names c.args.dir) c.args.files.now c.list.new.files (λ may. (refl, may))
    c.in_ok-told.ensures.asks
