use Rattle.std.proofs.Common.{◌≡◌, ◌<◌, ◌∙◌, [], ◌∷◌, ◌++◌, List, ℕ, length, set, true, ap, sym, subst, arith}
use Rattle.std.proofs.lemmas.List.{nil_from_length}
use Rattle.pie_graph.specs.Numbers.{numbers}
use Rattle.pie_walk.specs.contracts.walk.Walk.{the_view}
use Rattle.pie_walk.specs.Marks.{IsSettled}
use Rattle.pie_walk.specs.States.{WalkState}
use Rattle.pie_walk.specs.Standing.{Stands}
use Rattle.pie_walk.specs.inner.Sweeping.{Sweeping, swept_to}
use Rattle.pie_walk.proofs.SweepSteps.{turned, begins_sweep, HasSwept, ends_sweep, turn_falls, FindsTables, finds_tables, last_number, one_number}
use Rattle.pie_walk.proofs.walk.Walk.sweep_up.Goals as goal
use Rattle.pie_walk.proofs.walk.Walk.sweep_up.Goals.{In-Some, After-drop-work-2}

pub loop-at-init : goal.loop-at-init
loop-at-init c =
    let no = c.args.no.0 in
    let inside = the_view c.self.inside in
    let begun : WalkState = record inside { swept = set inside.swept no true } in
    let work = numbers c.push.new.self.items in
    subst (λ (s : WalkState). Sweeping s no (swept_to begun work) 0 []) c.self.view_is
    (begins_sweep inside no work (subst Stands (sym c.self.view_is) c.requires.stands)
    (subst (λ (s : WalkState). IsSettled s.marks no) (sym c.self.view_is) c.requires.settled)
    (subst (λ (s : WalkState). no < length s.rows) (sym c.self.view_is) c.requires.number)
    (one_number c.push.new.self.items c.new-work.result.items c.args.no c.new-work.ensures.items c.in_ok-push.ensures.items))

last : (c : In-Some) → numbers c.loop-at.work.items ≡ numbers c.pop.new.self.items ++ c.in-Some.at.0 ∷ []
last c = last_number c.loop-at.work.items c.pop.new.self.items c.in-Some.at c.in-Some.ensures.items

tables : (c : In-Some) → FindsTables c.loop-at.self c.in-Some.at.0
tables c =
    finds_tables c.args.self.now c.args.no.0 c.loop-at.self (numbers c.loop-at.work.items) (numbers c.pop.new.self.items) c.in-Some.at.0 c.requires.stands
    c.requires.number (last c) c.loop-at.invariant

pub sweep_above-requires-clause-number : goal.sweep_above-requires-clause-number
sweep_above-requires-clause-number c = (tables (goal.at.sweep_above-requires-clause-number c).In-Some).inside

pub sweep_above-requires-clause-swept : goal.sweep_above-requires-clause-swept
sweep_above-requires-clause-swept c = (tables (goal.at.sweep_above-requires-clause-swept c).In-Some).swept

pub sweep_above-requires-clause-scheduled : goal.sweep_above-requires-clause-scheduled
sweep_above-requires-clause-scheduled c = (tables (goal.at.sweep_above-requires-clause-scheduled c).In-Some).scheduled

pub loop-at-preserved : goal.loop-at-preserved
loop-at-preserved c =
    turned c.args.self.now c.args.no.0 c.loop-at.self (numbers c.loop-at.work.items) (numbers c.pop.new.self.items) c.in-Some.at.0 c.sweep_above.new.self
    (numbers c.sweep_above.new.work.items) c.requires.stands (last (goal.at.loop-at-preserved c).In-Some) c.loop-at.invariant
    c.in_ok-sweep_above.ensures

pub loop-at-smaller : goal.loop-at-smaller
loop-at-smaller c =
    let at = (goal.at.loop-at-smaller c).In-Some in
    turn_falls c.loop-at.self (numbers c.loop-at.work.items) (numbers c.pop.new.self.items) c.in-Some.at.0 c.sweep_above.new.self
    (numbers c.sweep_above.new.work.items) (tables at).swept (last at) c.in_ok-sweep_above.ensures

swept : (c : After-drop-work-2) → HasSwept c.args.self.now c.loop-at.self c.args.no.0
swept c =
    let empty : c.loop-at.work.items ≡ [] = nil_from_length c.loop-at.work.items (omega (arith, c.in_default.ensures.cases.0, c.loop-at.work.ok)) in
    ends_sweep c.args.self.now c.args.no.0 c.loop-at.self (numbers c.loop-at.work.items) c.requires.stands (ap numbers empty) c.loop-at.invariant

pub returns-clause-sweeps : goal.returns-clause-sweeps
returns-clause-sweeps c = (swept c).sweeps

pub returns-clause-counts : goal.returns-clause-counts
returns-clause-counts c = (swept c).counts

pub returns-clause-stands : goal.returns-clause-stands
returns-clause-stands c = (swept c).stands
