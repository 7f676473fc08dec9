use Rattle.std.proofs.Common.{◌≡◌}
use Rattle.pie_named.specs.Asking.{LooksAt}
use Rattle.pie_named.proofs.Calls.{asks_as, calls_then}
use Rattle.pie_bottomup.specs.inner.Asked.{IsAskedBy}
use Rattle.pie_value.specs.declared.event.Event.TheVariants as events
use Rattle.pie_bottomup.proofs.Twice.{reads_then}
use Rattle.pie_bottomup.proofs.Stepping.{awaits_staged}
use Rattle.pie_bottomup.proofs.GoingLooks.{fetched_looks}
use Rattle.pie_bottomup.proofs.state.Core.read.Goals as goal

pub read_there-requires : goal.read_there-requires
read_there-requires g c = awaits_staged c.args.self.now c.fetch.new.self c.args.no c.args.from c.args.waiting c.fetch.ensures.same c.requires

pub returns-clause-reads : goal.returns-clause-reads
returns-clause-reads g c = reads_then g.F.Files.holds g.F.Files.moment g.F.Files.left_since g.F.Files.images g.F.Files.faults c.args.files.now c.fetch.new.files c.read_there.new.files _ c.read_there.result c.in_ok-fetch.ensures.reads c.read_there.ensures.reads

pub returns-clause-whole : goal.returns-clause-whole
returns-clause-whole g c =
    fetched_looks (g.F.Files.holds c.args.files.now) (g.F.Files.holds c.fetch.new.files) c.args.self.now c.fetch.new.self c.read_there.new.self c.args.no
    c.args.from c.args.waiting (events.Read c.args.path c.args.by) c.args.path c.read_there.result c.in_ok-fetch.ensures.reads.same c.fetch.ensures.same
    c.requires.taken.holds c.requires.own c.in_ok-fetch.ensures.exact c.in_ok-fetch.ensures.fetches c.read_there.ensures.whole

pub returns-clause-asks : goal.returns-clause-asks
returns-clause-asks g c =
    let old = g.F.Files.asked c.args.files.now in
    let mid = g.F.Files.asked c.fetch.new.files in
    calls_then (LooksAt (IsAskedBy (events.Read c.args.path c.args.by))) old mid (g.F.Files.asked c.read_there.new.files)
    (asks_as (λ p. p ≡ c.args.path) (IsAskedBy (events.Read c.args.path c.args.by)) old mid (λ p is. is) c.in_ok-fetch.ensures.asks) c.read_there.ensures.asks
