use Rattle.std.proofs.Common.{◌≡◌, ◌∙◌, ℕ, List}
use Rattle.pie_files.proofs.Reading.{both_before}
use Rattle.pie_compare.specs.inner.Touching.{dep_differs, dep_known, SomeSightKnown}
use Rattle.pie_compare.proofs.Touches.{dep_same, names_stay, passes_on, finds, finds_none}
use Rattle.pie_compare.proofs.Shown.{shows_one, shows_none, stays_on}
use Rattle.pie_record.specs.declared.dep.Dep.{Dep}
use Rattle.pie_record.specs.declared.dep.DepOn.TheVariants.{File}
use Rattle.pie_compare.proofs.Asks.{asks_more}
use Rattle.pie_compare.proofs.touched.is_any_sight_touched.Goals as goal

abbrev observes : Dep → List ℕ → Type 0
observes dep p = dep.what ≡ File p

pub returns-then-branch-clause-found : goal.returns-then-branch-clause-found
returns-then-branch-clause-found g c =
    let before = c.loop-dep.invariant in
    finds dep_differs dep_same (g.F.Files.holds c.args.files.now) c.args.named.now c.args.deps.now (g.F.Files.holds c.loop-dep.files) c.loop-dep.named
    c.is_dep_touched.new.named c.loop-dep.dep-index c.dep-item.result c.in_ok-is_dep_touched.field-0 before.0 before.3 c.loop-dep-test.true
    c.dep-item.is c.if-branch.true before.4 c.in_ok-is_dep_touched.ensures.answer

pub loop-dep-preserved : goal.loop-dep-preserved
loop-dep-preserved g c =
    let before = c.loop-dep.invariant in (
      c.is_dep_touched.ensures.reads.same ∙ before.0,
      c.in_ok-is_dep_touched.ensures.reads.counted.steady ∙ before.1,
      both_before g.F.Files.holds g.F.Files.moment g.F.Files.left_since g.F.Files.images c.args.files.now c.loop-dep.files
          c.is_dep_touched.new.files before.0 before.2 c.is_dep_touched.ensures.reads.crash,
      names_stay c.args.named.now c.loop-dep.named c.is_dep_touched.new.named before.3 c.is_dep_touched.ensures.names,
      passes_on dep_differs dep_same (g.F.Files.holds c.args.files.now) c.args.named.now c.args.deps.now (g.F.Files.holds c.loop-dep.files)
          c.loop-dep.named c.is_dep_touched.new.named c.loop-dep.dep-index c.dep-item.result c.in_ok-is_dep_touched.field-0 before.0 before.3
          c.loop-dep-test.true c.dep-item.is c.if-branch.false before.4 c.in_ok-is_dep_touched.ensures.answer,
      stays_on c.args.named.now c.loop-dep.named c.is_dep_touched.new.named before.5 c.in_ok-is_dep_touched.ensures.shows.stays,
      asks_more observes c.args.named.now c.loop-dep.named c.args.deps.now c.loop-dep.dep-index c.dep-item.result (g.F.Files.asked c.args.files.now)
          (g.F.Files.asked c.loop-dep.files) (g.F.Files.asked c.is_dep_touched.new.files) c.loop-dep-test.true c.dep-item.is before.3 before.6 c.is_dep_touched.ensures.asks,
    )

pub returns-clause-found : goal.returns-clause-found
returns-clause-found g c =
    finds_none dep_differs dep_same (g.F.Files.holds c.args.files.now) c.args.named.now c.args.deps.now c.loop-dep.named c.loop-dep.dep-index
    c.loop-dep-test.false c.loop-dep.invariant.4

pub returns-then-branch-clause-shows : goal.returns-then-branch-clause-shows
returns-then-branch-clause-shows g c =
    shows_one dep_known c.args.named.now c.loop-dep.named c.is_dep_touched.new.named c.args.deps.now c.loop-dep.dep-index c.dep-item.result c.in_ok-is_dep_touched.field-0
    c.loop-dep-test.true c.dep-item.is c.if-branch.true c.loop-dep.invariant.5 c.in_ok-is_dep_touched.ensures.shows

pub returns-clause-shows : goal.returns-clause-shows
returns-clause-shows g c = shows_none c.args.named.now c.loop-dep.named (SomeSightKnown c.loop-dep.named c.args.deps.now) c.loop-dep.invariant.5

pub returns-in_err-is_dep_touched-clause-asks : goal.returns-in_err-is_dep_touched-clause-asks
returns-in_err-is_dep_touched-clause-asks g c =
    let before = c.loop-dep.invariant in
    asks_more observes c.args.named.now c.loop-dep.named c.args.deps.now c.loop-dep.dep-index c.dep-item.result (g.F.Files.asked c.args.files.now)
    (g.F.Files.asked c.loop-dep.files) (g.F.Files.asked c.is_dep_touched.new.files) c.loop-dep-test.true c.dep-item.is before.3 before.6 c.is_dep_touched.ensures.asks

pub returns-then-branch-clause-asks : goal.returns-then-branch-clause-asks
returns-then-branch-clause-asks g c =
    let before = c.loop-dep.invariant in
    asks_more observes c.args.named.now c.loop-dep.named c.args.deps.now c.loop-dep.dep-index c.dep-item.result (g.F.Files.asked c.args.files.now)
    (g.F.Files.asked c.loop-dep.files) (g.F.Files.asked c.is_dep_touched.new.files) c.loop-dep-test.true c.dep-item.is before.3 before.6 c.is_dep_touched.ensures.asks
