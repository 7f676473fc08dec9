use Rattle.std.proofs.Common.{◌≡◌, ℕ, List, [], get_or, ap, subst, ◌∙◌}
use Rattle.std.proofs.lemmas.List.{get_or_default, take_all}
use Rattle.pie_topdown_result_laws.specs.Builds.{WritesOnce}
use Rattle.pie_topdown.proofs.Distinct.{path_more, path_twice}
use Rattle.pie_topdown.proofs.offering.are_distinct.Goals as goal

pub returns-then-not-branch : goal.returns-then-not-branch
returns-then-not-branch c =
    let at : c.in_ok-copy.field-0 ≡ (get_or c.args.writes.now c.loop-path.path-index ([], [])).0 =
    c.in_ok-copy.ensures ∙ ap (λ (w : List ℕ × List ℕ). w.0) (c.loop-path-item.is
    ∙ get_or_default c.args.writes.now c.loop-path.path-index c.loop-path-item.result ([], []) c.loop-path-test.true) in
    path_twice c.args.writes.now c.loop-path.path-index ([], []) c.loop-path.seen.keys c.insert.new.self.keys c.in_ok-copy.field-0 c.in_ok-insert.field-0
    c.loop-path-test.true at c.in_ok-insert.ensures.added c.loop-path.invariant c.if-not-branch.true

pub loop-path-preserved : goal.loop-path-preserved
loop-path-preserved c =
    let at : c.in_ok-copy.field-0 ≡ (get_or c.args.writes.now c.loop-path.path-index ([], [])).0 =
    c.in_ok-copy.ensures ∙ ap (λ (w : List ℕ × List ℕ). w.0) (c.loop-path-item.is
    ∙ get_or_default c.args.writes.now c.loop-path.path-index c.loop-path-item.result ([], []) c.loop-path-test.true) in
    path_more c.args.writes.now c.loop-path.path-index ([], []) c.loop-path.seen.keys c.insert.new.self.keys c.in_ok-copy.field-0 c.in_ok-insert.field-0
    c.loop-path-test.true at c.in_ok-insert.ensures.added c.loop-path.invariant c.if-not-branch.false c.in_ok-insert.ensures.updates.0

pub returns : goal.returns
returns c = subst WritesOnce (take_all c.loop-path.path-index c.args.writes.now c.loop-path-test.false) c.loop-path.invariant.once
