-- The side that is complete first is one of the edge, or has met the other end.
use Rattle.std.proofs.Common.{◌≡◌, ◌∙◌, true, length, ap, sym, subst, arith}
use Rattle.pie_graph.specs.Numbers.{numbers, IsMarked}
use Rattle.pie_graph.specs.Rows.{Calls}
use Rattle.pie_order.specs.Sides.{Searching, IsSide}
use Rattle.pie_order.proofs.SideSteps.{search_begins, is_side, meets_below, meets_above}
use Rattle.pie_order.proofs.search.Search.run.Goals as goal

pub race-requires-clause-one : goal.race-requires-clause-one
race-requires-clause-one g c =
    let rows = g.R.TaskRows.rows c.args.rows.now in
    (search_begins (length rows) c.count-count.result
    (Calls rows) c.args.to.0 c.start.new.self c.count-count.ensures.count c.requires.to c.in_ok-start.ensures).bounded

pub race-requires-clause-other : goal.race-requires-clause-other
race-requires-clause-other g c =
    let rows = g.R.TaskRows.rows c.args.rows.now in
    (search_begins (length rows) c.count-count.result (λ a b.
    Calls rows b a) c.args.from.0 c.start-2.new.self c.count-count.ensures.count c.requires.from c.in_ok-start-2.ensures).bounded

pub has-requires : goal.has-requires
has-requires g c =
    let rows = g.R.TaskRows.rows c.args.rows.now in
    let down : Searching (length rows) (Calls rows) c.args.to.0 c.race.new.one = c.in_ok-race.ensures.one c.args.to.0
    (search_begins (length rows) c.count-count.result
    (Calls rows) c.args.to.0 c.start.new.self c.count-count.ensures.count c.requires.to c.in_ok-start.ensures) in
    omega (arith, down.bounded.sized, c.requires.from)

pub returns-then-has : goal.returns-then-has
returns-then-has g c =
    let rows = g.R.TaskRows.rows c.args.rows.now in
    let down : Searching (length rows) (Calls rows) c.args.to.0 c.race.new.one = c.in_ok-race.ensures.one c.args.to.0
    (search_begins (length rows) c.count-count.result
    (Calls rows) c.args.to.0 c.start.new.self c.count-count.ensures.count c.requires.to c.in_ok-start.ensures) in
    meets_below (length rows) rows c.args.from.0 c.args.to.0 c.race.new.one (down, c.in_ok-race.ensures.first c.if-branch.true) (c.has.ensures.0 c.if-has.true)

pub returns-then-branch : goal.returns-then-branch
returns-then-branch g c =
    let rows = g.R.TaskRows.rows c.args.rows.now in
    let down : Searching (length rows) (Calls rows) c.args.to.0 c.race.new.one = c.in_ok-race.ensures.one c.args.to.0
    (search_begins (length rows) c.count-count.result
    (Calls rows) c.args.to.0 c.start.new.self c.count-count.ensures.count c.requires.to c.in_ok-start.ensures) in
    let apart : IsMarked c.race.new.one.marks c.args.from.0 → ⊥ = λ is. (let t : c.has.result ≡ true = c.has.ensures.1 is in let f = c.if-has.false in cc) in
    subst (IsSide (length rows) (Calls rows) c.args.to.0 c.args.from.0) (sym (ap numbers c.in_ok-from_slice.ensures.items ∙ c.tasks.ensures))
    (is_side (length rows) (Calls rows) c.args.to.0 c.args.from.0 c.race.new.one (down, c.in_ok-race.ensures.first c.if-branch.true) apart)

pub has-requires-2 : goal.has-requires-2
has-requires-2 g c =
    let rows = g.R.TaskRows.rows c.args.rows.now in
    let up : Searching (length rows) (λ a b. Calls rows b a) c.args.from.0 c.race.new.other = c.in_ok-race.ensures.other c.args.from.0
    (search_begins (length rows) c.count-count.result (λ a b.
    Calls rows b a) c.args.from.0 c.start-2.new.self c.count-count.ensures.count c.requires.from c.in_ok-start-2.ensures) in
    omega (arith, up.bounded.sized, c.requires.to)

pub returns-then-has-2 : goal.returns-then-has-2
returns-then-has-2 g c =
    let rows = g.R.TaskRows.rows c.args.rows.now in
    let up : Searching (length rows) (λ a b. Calls rows b a) c.args.from.0 c.race.new.other = c.in_ok-race.ensures.other c.args.from.0
    (search_begins (length rows) c.count-count.result (λ a b.
    Calls rows b a) c.args.from.0 c.start-2.new.self c.count-count.ensures.count c.requires.from c.in_ok-start-2.ensures) in
    meets_above (length rows) rows c.args.from.0 c.args.to.0 c.race.new.other (up, c.in_ok-race.ensures.second c.if-branch.false)
    (c.has-2.ensures.0 c.if-has-2.true)

pub returns : goal.returns
returns g c =
    let rows = g.R.TaskRows.rows c.args.rows.now in
    let up : Searching (length rows) (λ a b. Calls rows b a) c.args.from.0 c.race.new.other = c.in_ok-race.ensures.other c.args.from.0
    (search_begins (length rows) c.count-count.result (λ a b.
    Calls rows b a) c.args.from.0 c.start-2.new.self c.count-count.ensures.count c.requires.from c.in_ok-start-2.ensures) in
    let apart : IsMarked c.race.new.other.marks c.args.to.0 → ⊥ = λ is.
    (let t : c.has-2.result ≡ true = c.has-2.ensures.1 is in let f = c.if-has-2.false in cc) in
    subst (IsSide (length rows) (λ a b. Calls rows b a) c.args.from.0 c.args.to.0) (sym (ap numbers c.in_ok-from_slice-2.ensures.items ∙ c.tasks-2.ensures))
    (is_side (length rows) (λ a b. Calls rows b a) c.args.from.0 c.args.to.0 c.race.new.other (up, c.in_ok-race.ensures.second c.if-branch.false) apart)
