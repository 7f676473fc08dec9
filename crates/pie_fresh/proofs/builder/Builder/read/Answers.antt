use Rattle.std.proofs.Common.{sym, subst}
use Rattle.pie_fresh.specs.inner.Means.{TurnMeans}
use Rattle.pie_fresh.proofs.ReadingFiles.{reading_turn}
use Rattle.std.proofs.Common.{refl}
use Rattle.pie_base.specs.Path.{is_source}
use Rattle.pie_files.specs.declared.files.Call.TheVariants as calls
use Rattle.pie_value.specs.declared.event.Event.TheVariants as events
use Rattle.pie_fresh.specs.inner.Asked.{IsAskedBy}
use Rattle.pie_fresh.proofs.Asking.{asks_twice}
use Rattle.pie_fresh.proofs.builder.Builder.read.Goals as goal

pub returns-clause-means : goal.returns-clause-means
returns-clause-means g c = λ s held A.
    subst (TurnMeans s c.args.self.now) (sym c.turn_of.ensures)
    (reading_turn s c.args.self.now c.args.waiting c.args.path c.args.by c.in_ok-told.told A c.requires.waits.left (c.in_ok-told.ensures.tells s.directory held))

pub returns-in_err-told-clause-asks : goal.returns-in_err-told-clause-asks
returns-in_err-told-clause-asks g c =
    asks_twice (IsAskedBy (events.Read c.args.path c.args.by)) g.F.Files.asked (is_source c.args.path) (calls.Read c.args.path) c.args.files.now c.read.new.files (λ may. (refl, may))
    c.in_err-told.ensures.asks

pub returns-clause-asks : goal.returns-clause-asks
returns-clause-asks g c =
    asks_twice (IsAskedBy (events.Read c.args.path c.args.by)) g.F.Files.asked (is_source c.args.path) (calls.Read c.args.path) c.args.files.now c.read.new.files (λ may. (refl, may))
    c.in_ok-told.ensures.asks
