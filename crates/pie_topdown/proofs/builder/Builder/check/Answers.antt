use Rattle.std.proofs.Common.{◌≡◌, ℕ, sym, ap, subst}
use Rattle.std.specs.Prelude.{OnOk}
use Rattle.pie_topdown.specs.declared.hand.Check.{Check}
use Rattle.pie_topdown.specs.inner.Places.{Finds, IsPlace}
use Rattle.pie_topdown.specs.inner.Marks.{Marks}
use Rattle.pie_topdown.proofs.Twice.{reads_then}
use Rattle.pie_topdown.proofs.Differing.{compares}
use Rattle.pie_topdown.proofs.Marking.{marks_with, stays_same}
use Rattle.pie_topdown.proofs.Stacking.{same_site}
use Rattle.pie_topdown.proofs.Owning.{checks_after}
use Rattle.pie_topdown.proofs.Stepped.{compares_tried}
use Rattle.pie_topdown.proofs.builder.Builder.check.Goals as goal

pub go_on-requires : goal.go_on-requires
go_on-requires g c =
    let e = c.look.ensures.same in
    record {
      site = same_site c.args.self.now c.look.new.self (ap (λ b. b.plan) e) (ap (λ b. b.ledger) e) (ap (λ b. b.stack) e) c.requires.site;
      place = subst (λ l. IsPlace l c.look.new.check c.in_ok-place.place) (ap (λ b. b.ledger) (sym e)) c.in_ok-place.ensures.place;
    }

pub returns-clause-asks : goal.returns-clause-asks
returns-clause-asks g c = record {
  reads = reads_then g.F.Files.holds g.F.Files.moment g.F.Files.left_since g.F.Files.images g.F.Files.faults c.args.files.now c.look.new.files
      c.go_on.new.files _ c.go_on.result c.in_ok-place.ensures.reads c.go_on.ensures.asks.reads;
  told = c.go_on.ensures.asks.told;
}

pub returns-clause-right : goal.returns-clause-right
returns-clause-right g c =
    let held = g.F.Files.holds c.args.files.now in
    let same = c.deref_mut.ensures.value in
    compares held (g.F.Files.holds c.look.new.files) (g.O.Offers.told c.args.offers.now) c.args.self.now c.look.new.self c.go_on.new.self c.args.check.value
    c.look.new.check c.in_ok-place.place c.go_on.result c.in_ok-place.ensures.reads.same c.look.ensures.same
    (subst (λ (x : Check). c.look.new.check ≡ record x { required = c.look.new.check.required }) same c.look.ensures.check)
    (subst (λ (x : Check). Finds held c.args.self.now c.look.new.self x c.look.new.check c.in_ok-place.place) same c.in_ok-place.ensures.finds)
    c.go_on.ensures.right

pub returns-clause-marks : goal.returns-clause-marks
returns-clause-marks g c =
    let e = c.look.ensures.same in
    let one = subst (λ (x : Check). c.look.new.check ≡ record x { required = c.look.new.check.required }) c.deref_mut.ensures.value c.look.ensures.check in
    marks_with c.go_on.result c.args.self.now c.look.new.self c.go_on.new.self c.args.check.value.no.0 c.args.runs.now c.go_on.new.runs
    (stays_same c.args.self.now c.look.new.self (ap (λ b. b.ledger) e) (ap (λ b. b.reused) e)) (ap (λ b. b.ledger.tables.names) e)
    (subst (λ (n : ℕ). OnOk c.go_on.result (Marks c.look.new.self n c.go_on.new.self c.args.runs.now c.go_on.new.runs)) (ap (λ (x : Check). x.no.0) one)
    c.go_on.ensures.marks)

pub returns-clause-own : goal.returns-clause-own
returns-clause-own g c =
    let e = c.look.ensures.same in
    let one = subst (λ (x : Check). c.look.new.check ≡ record x { required = c.look.new.check.required }) c.deref_mut.ensures.value c.look.ensures.check in
    checks_after (g.F.Files.holds c.args.files.now) (g.O.Offers.told c.args.offers.now) c.look.new.self c.go_on.new.self c.go_on.result
    (g.F.Files.holds c.look.new.files) c.in_ok-place.ensures.reads.same c.args.self.now c.args.check.value c.look.new.check (ap (λ b. b.stack.items) e)
    (ap (λ b. b.reused.items) e) (ap (λ (x : Check). x.contents) one) (ap (λ (x : Check). x.rest) one) c.go_on.ensures.own

pub returns-clause-tried : goal.returns-clause-tried
returns-clause-tried g c =
    let held = g.F.Files.holds c.args.files.now in
    let same = c.deref_mut.ensures.value in
    compares_tried held (g.F.Files.holds c.look.new.files) (g.O.Offers.told c.args.offers.now) c.args.self.now c.look.new.self c.go_on.new.self
    c.args.check.value c.look.new.check c.in_ok-place.place c.args.runs.now c.go_on.new.runs c.go_on.result c.in_ok-place.ensures.reads.same
    c.look.ensures.same (subst (λ (x : Check). c.look.new.check ≡ record x { required = c.look.new.check.required }) same c.look.ensures.check)
    (subst (λ (x : Check). Finds held c.args.self.now c.look.new.self x c.look.new.check c.in_ok-place.place) same c.in_ok-place.ensures.finds)
    c.go_on.ensures.tried
