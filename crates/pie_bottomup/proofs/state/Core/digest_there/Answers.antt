use Rattle.std.proofs.Common.{refl}
use Rattle.pie_base.specs.Path.{is_source}
use Rattle.pie_files.specs.declared.files.Call.TheVariants as calls
use Rattle.pie_value.specs.declared.event.Event.TheVariants as events
use Rattle.pie_bottomup.specs.inner.Asked.{IsAskedBy}
use Rattle.pie_bottomup.proofs.Asking.{asks_once}
use Rattle.std.proofs.Common.{Ok}
use Rattle.pie_bottomup.proofs.GoingLooks.{digest_goes}
use Rattle.pie_bottomup.proofs.Owning.{may_go}
use Rattle.pie_bottomup.proofs.Shown.{task_at, shown_here}
use Rattle.pie_bottomup.specs.inner.Sights.{ShowsOut}
use Rattle.pie_bottomup.proofs.state.Core.digest_there.Goals as goal

pub told-requires-clause-goes : goal.told-requires-clause-goes
told-requires-clause-goes g c =
    may_go c.args.self.now c.args.no c.args.from c.args.waiting.notes c.in_ok-told.told c.in_ok-told.ensures.answered c.requires.own

pub digest-requires-clause-knows : goal.digest-requires-clause-knows
digest-requires-clause-knows g c =
    task_at c.args.self.now c.args.no c.args.from c.args.waiting.notes c.sight.result.rows.now c.sight.result.no c.sight.result.from c.sight.ensures.rows
    c.sight.ensures.task c.sight.ensures.from c.requires.taken.holds c.requires.own

pub returns-clause-whole : goal.returns-clause-whole
returns-clause-whole g c =
    let rows = c.sight.result.rows.now in
    let stage = c.sight.result.stage.now in
    let n = c.args.waiting.notes in
    digest_goes {E = Unit {0}} (g.F.Files.holds c.args.files.now) c.args.self.now c.told.new.self c.args.no c.args.from c.args.waiting c.args.path
    (λ o. ShowsOut rows stage n.number n.needs c.args.path o) c.in_ok-told.told (Ok c.in_ok-told-2.field-0) c.requires.taken.holds c.requires.waits.left
    c.requires.own (λ o. shown_here c.args.self.now rows stage n c.args.path o c.sight.ensures.rows c.sight.ensures.stage) (λ d held. c.in_ok-told.ensures.tells d held) c.in_ok-told-2.ensures.whole

pub returns-in_err-told-clause-asks : goal.returns-in_err-told-clause-asks
returns-in_err-told-clause-asks g c =
    asks_once (IsAskedBy (events.Digest c.args.path)) g.F.Files.asked (is_source c.args.path) (calls.Read c.args.path) c.args.files.now c.digest.new.files (λ may. refl)
    c.in_err-told.ensures.asks

pub returns-in_err-told-2-clause-asks : goal.returns-in_err-told-2-clause-asks
returns-in_err-told-2-clause-asks g c =
    asks_once (IsAskedBy (events.Digest c.args.path)) g.F.Files.asked (is_source c.args.path) (calls.Read c.args.path) c.args.files.now c.digest.new.files (λ may. refl)
    c.in_ok-told.ensures.asks

pub returns-clause-asks : goal.returns-clause-asks
returns-clause-asks g c =
    asks_once (IsAskedBy (events.Digest c.args.path)) g.F.Files.asked (is_source c.args.path) (calls.Read c.args.path) c.args.files.now c.digest.new.files (λ may. refl)
    c.in_ok-told.ensures.asks
