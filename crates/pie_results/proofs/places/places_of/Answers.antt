use Rattle.std.proofs.Common.{List, ℕ, ◌<◌, ◌≤◌, take, sym, subst, length}
use Rattle.std.proofs.lemmas.List.{length-map}
use Rattle.std.proofs.lemmas.List.Elements.{All-contains}
use Rattle.pie_graph.specs.declared.edges.TaskNo.{TaskNo}
use Rattle.pie_graph.specs.Numbers.{numbers}
use Rattle.pie_results.specs.inner.Ordered.{ArePlaces}
use Rattle.pie_results.proofs.Starting.{item, item_is, number_at, number_in, seen_more, seen_all}
use Rattle.pie_results.proofs.places.places_of.Goals as goal

pub put_place-requires-clause-height : goal.put_place-requires-clause-height
put_place-requires-clause-height c =
    All-contains (λ (k : ℕ). k < length c.args.heights.now) (numbers c.args.live.now) (item c.args.live.now c.loop-no.no-index).0 c.requires.live
    (number_in c.args.live.now c.loop-no.no-index (item c.args.live.now c.loop-no.no-index) c.loop-no-test.true (item_is c.args.live.now c.loop-no.no-index c.loop-no-test.true))

pub loop-no-preserved : goal.loop-no-preserved
loop-no-preserved c =
    let at = number_at c.args.live.now c.loop-no.no-index (item c.args.live.now c.loop-no.no-index) c.loop-no-test.true (item_is c.args.live.now c.loop-no.no-index c.loop-no-test.true) in
    let live = numbers c.args.live.now in
    seen_more (λ (seen : List ℕ). ArePlaces c.args.tables.now.records c.args.heights.now live seen c.put_place.new.places.entries) live
    c.loop-no.no-index (item c.args.live.now c.loop-no.no-index).0 at.0 at.1
    (c.in_ok-put_place.ensures live (take c.loop-no.no-index live)
    (number_in c.args.live.now c.loop-no.no-index (item c.args.live.now c.loop-no.no-index) c.loop-no-test.true (item_is c.args.live.now c.loop-no.no-index c.loop-no-test.true)) c.loop-no.invariant)

pub returns : goal.returns
returns c =
    let live = numbers c.args.live.now in
    seen_all (λ (seen : List ℕ). ArePlaces c.args.tables.now.records c.args.heights.now live seen c.loop-no.places.entries) live c.loop-no.no-index
    (subst (λ (n : ℕ). n ≤ c.loop-no.no-index) (sym (length-map c.args.live.now (λ (t : TaskNo). t.0))) c.loop-no-test.false) c.loop-no.invariant
