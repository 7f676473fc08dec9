use Rattle.std.proofs.Common.{◌≡◌, ◌∙◌, ℕ, Bool, List}
use Rattle.pie_files.proofs.Reading.{both_before}
use Rattle.pie_files.specs.Directory.{Directory}
use Rattle.pie_named.specs.declared.named.Named.{Named}
use Rattle.pie_compare.specs.inner.Touching.{write_differs, write_known, SomeWriteKnown}
use Rattle.pie_compare.proofs.Touches.{write_same, names_stay, passes_on, finds, finds_none}
use Rattle.pie_compare.proofs.Shown.{shows_one, shows_none, stays_on}
use Rattle.pie_compare.proofs.Asks.{asks_more}
use Rattle.pie_compare.proofs.touched.is_any_write_touched.Goals as goal

abbrev wrote : List ℕ × List ℕ → List ℕ → Type 0
wrote w p = p ≡ w.0

abbrev differs : Directory → Named → List ℕ × List ℕ → Bool
differs d n w = write_differs d n w.0 w.1

abbrev known : Named → List ℕ × List ℕ → Bool
known n w = write_known n w.0 w.1

pub returns-then-branch-clause-found : goal.returns-then-branch-clause-found
returns-then-branch-clause-found g c =
    let before = c.loop-path.invariant in
    finds differs write_same (g.F.Files.holds c.args.files.now) c.args.named.now c.args.writes.now (g.F.Files.holds c.loop-path.files) c.loop-path.named
    c.is_write_touched.new.named c.loop-path.path-index c.loop-path-item.result c.in_ok-is_write_touched.field-0 before.0 before.3 c.loop-path-test.true
    c.loop-path-item.is c.if-branch.true before.4 c.in_ok-is_write_touched.ensures.answer

pub loop-path-preserved : goal.loop-path-preserved
loop-path-preserved g c =
    let before = c.loop-path.invariant in (
      c.is_write_touched.ensures.reads.same ∙ before.0,
      c.in_ok-is_write_touched.ensures.reads.counted.steady ∙ before.1,
      both_before g.F.Files.holds g.F.Files.moment g.F.Files.left_since g.F.Files.images c.args.files.now c.loop-path.files
          c.is_write_touched.new.files before.0 before.2 c.is_write_touched.ensures.reads.crash,
      names_stay c.args.named.now c.loop-path.named c.is_write_touched.new.named before.3 c.is_write_touched.ensures.names,
      passes_on differs write_same (g.F.Files.holds c.args.files.now) c.args.named.now c.args.writes.now (g.F.Files.holds c.loop-path.files)
          c.loop-path.named c.is_write_touched.new.named c.loop-path.path-index c.loop-path-item.result c.in_ok-is_write_touched.field-0 before.0 before.3
          c.loop-path-test.true c.loop-path-item.is c.if-branch.false before.4 c.in_ok-is_write_touched.ensures.answer,
      stays_on c.args.named.now c.loop-path.named c.is_write_touched.new.named before.5 c.in_ok-is_write_touched.ensures.shows.stays,
      asks_more wrote c.args.named.now c.loop-path.named c.args.writes.now c.loop-path.path-index c.loop-path-item.result (g.F.Files.asked c.args.files.now)
          (g.F.Files.asked c.loop-path.files) (g.F.Files.asked c.is_write_touched.new.files) c.loop-path-test.true c.loop-path-item.is before.3 before.6 c.is_write_touched.ensures.asks,
    )

pub returns-clause-found : goal.returns-clause-found
returns-clause-found g c =
    finds_none differs write_same (g.F.Files.holds c.args.files.now) c.args.named.now c.args.writes.now c.loop-path.named c.loop-path.path-index
    c.loop-path-test.false c.loop-path.invariant.4

pub returns-then-branch-clause-shows : goal.returns-then-branch-clause-shows
returns-then-branch-clause-shows g c =
    shows_one known c.args.named.now c.loop-path.named c.is_write_touched.new.named c.args.writes.now c.loop-path.path-index c.loop-path-item.result c.in_ok-is_write_touched.field-0
    c.loop-path-test.true c.loop-path-item.is c.if-branch.true c.loop-path.invariant.5 c.in_ok-is_write_touched.ensures.shows

pub returns-clause-shows : goal.returns-clause-shows
returns-clause-shows g c = shows_none c.args.named.now c.loop-path.named (SomeWriteKnown c.loop-path.named c.args.writes.now) c.loop-path.invariant.5

pub returns-in_err-is_write_touched-clause-asks : goal.returns-in_err-is_write_touched-clause-asks
returns-in_err-is_write_touched-clause-asks g c =
    let before = c.loop-path.invariant in
    asks_more wrote c.args.named.now c.loop-path.named c.args.writes.now c.loop-path.path-index c.loop-path-item.result (g.F.Files.asked c.args.files.now)
    (g.F.Files.asked c.loop-path.files) (g.F.Files.asked c.is_write_touched.new.files) c.loop-path-test.true c.loop-path-item.is before.3 before.6 c.is_write_touched.ensures.asks

pub returns-then-branch-clause-asks : goal.returns-then-branch-clause-asks
returns-then-branch-clause-asks g c =
    let before = c.loop-path.invariant in
    asks_more wrote c.args.named.now c.loop-path.named c.args.writes.now c.loop-path.path-index c.loop-path-item.result (g.F.Files.asked c.args.files.now)
    (g.F.Files.asked c.loop-path.files) (g.F.Files.asked c.is_write_touched.new.files) c.loop-path-test.true c.loop-path-item.is before.3 before.6 c.is_write_touched.ensures.asks
