use Rattle.std.proofs.Common.{sym, ap, subst}
use Rattle.pie_topdown.specs.inner.Frames.{IsNoted}
use Rattle.pie_topdown.proofs.Twice.{reads_then}
use Rattle.pie_topdown.proofs.Growing.{noted_below}
use Rattle.pie_topdown.proofs.Stacking.{same_site}
use Rattle.pie_value.specs.declared.event.Event.TheVariants as events
use Rattle.pie_topdown.proofs.Happening.{fetched_looks}
use Rattle.pie_topdown.proofs.Owning.{goes_on_after}
use Rattle.pie_topdown.proofs.builder.Builder.exists.Goals as goal

pub fetch-requires : goal.fetch-requires
fetch-requires g c = noted_below c.args.self.now.ledger c.args.waiting.notes c.requires.site.ledger c.requires.noted

pub exists_there-requires : goal.exists_there-requires
exists_there-requires g c =
    let e = c.fetch.ensures.same in
    record {
      site = same_site c.args.self.now c.fetch.new.self (ap (λ b. b.plan) e) (ap (λ b. b.ledger) e) (ap (λ b. b.stack) e) c.requires.site;
      waits = c.requires.waits;
      noted = subst (λ l. IsNoted l c.args.waiting.notes) (ap (λ b. b.ledger) (sym e)) c.requires.noted;
      number = c.requires.number;
    }

pub returns-clause-reads : goal.returns-clause-reads
returns-clause-reads g c =
    reads_then g.F.Files.holds g.F.Files.moment g.F.Files.left_since g.F.Files.images g.F.Files.faults c.args.files.now c.fetch.new.files
    c.exists_there.new.files _ c.exists_there.result c.in_ok-fetch.ensures.reads c.exists_there.ensures.reads

pub returns-clause-right : goal.returns-clause-right
returns-clause-right g c =
    fetched_looks (g.F.Files.holds c.args.files.now) (g.F.Files.holds c.fetch.new.files) c.args.self.now c.fetch.new.self c.exists_there.new.self c.args.waiting
    (events.Exists c.args.path) c.args.path c.exists_there.result c.in_ok-fetch.ensures.reads.same c.fetch.ensures.same c.requires.site c.requires.noted.ended
    c.in_ok-fetch.ensures.fetches c.exists_there.ensures.right

pub returns-clause-marks : goal.returns-clause-marks
returns-clause-marks g c =
    let e = c.fetch.ensures.same in
    goes_on_after c.args.self.now c.fetch.new.self c.exists_there.new.self c.exists_there.result (ap (λ b. b.ledger) e) (ap (λ b. b.reused) e) (ap (λ b. b.stack) e)
    c.exists_there.ensures.marks
