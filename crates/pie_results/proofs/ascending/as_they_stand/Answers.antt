use Rattle.std.proofs.Common.{◌≡◌, ◌∙◌, ◌+◌, ◌<◌, ℕ, List, [], Option, None, Some, Vec, Global, length, take, sym, ap, subst}
use Rattle.std.specs.Prelude.{IfSome}
use Rattle.std.specs.Borrow.{Bor}
use Rattle.std.proofs.lemmas.List.Elements.{All-contains}
use Rattle.pie_value.specs.declared.task.Task.{Task}
use Rattle.pie_value.specs.Canonical.{IsEncodableTask}
use Rattle.pie_graph.specs.Numbers.{numbers}
use Rattle.pie_record.specs.inner.Records.{record_of}
use Rattle.pie_results.specs.inner.Ordered.{AreOrdered, done_in}
use Rattle.pie_results.proofs.Standing.{done_encodable, last_key, last_none, none_lent, ordered_none, ordered_skip, stand_more, IsLast}
use Rattle.pie_results.proofs.Starting.{item, item_is, number_at, number_in, seen_more}
use Rattle.pie_results.proofs.ascending.as_they_stand.Goals as goal
use Rattle.pie_results.proofs.ascending.as_they_stand.Goals.{in-Some+else-not-follows+in_ok-push, in_default}

pub loop-no-init : goal.loop-no-init
loop-no-init c =
    let records = c.args.tables.now.records in
    let none = c.new-nos.ensures.items in (
      subst (AreOrdered records c.args.heights.now (numbers c.args.live.now) []) (sym none) (ordered_none records c.args.heights.now (numbers c.args.live.now)),
      subst (IsLast records c.args.heights.now None) (sym none) (last_none records c.args.heights.now),
      tt,
    )

pub bounds-heights-no : goal.bounds-heights-no
bounds-heights-no c =
    let live = c.args.live.now in
    let it = item live c.loop-no.no-index in
    All-contains (λ (k : ℕ). k < length c.args.heights.now) (numbers live) it.0 c.requires.live
    (number_in live c.loop-no.no-index it c.loop-no-test.true (item_is live c.loop-no.no-index c.loop-no-test.true))

pub loop-no-preserved : goal.loop-no-preserved
loop-no-preserved c =
    let records = c.args.tables.now.records in
    let heights = c.args.heights.now in
    let live = numbers c.args.live.now in
    let i = c.loop-no.no-index in
    let it = item c.args.live.now i in
    let is = item_is c.args.live.now i c.loop-no-test.true in
    let at = number_at c.args.live.now i it c.loop-no-test.true is in
    let new = c.match-done_at.nos.items in
    elim c.match-done_at.branch [
      | in-Some+else-not-follows+in_ok-push w ↦
          let found : done_in (record_of records it.0) ≡ Some w.in-Some.rec.now = sym w.in-Some.ensures in
          let s =
          stand_more records heights live (take i live) c.loop-no.nos.items new it.0 (last_key c.loop-no.last) (last_key c.match-done_at.last)
          w.in-Some.rec.now (number_in c.args.live.now i it c.loop-no-test.true is) found (sym w.follows.ensures ∙ w.if-not-follows.false)
          (ap (λ (v : Vec ℕ Global). v.items) w.nos-is ∙ w.in_ok-push.ensures.items) (ap last_key w.last-is) c.loop-no.invariant.0 c.loop-no.invariant.1 in (
            seen_more (λ (seen : List ℕ). AreOrdered records heights live seen new) live i it.0 at.0 at.1 s.0,
            s.1,
            subst (λ (o : Option (ℕ × Bor Task)). IfSome o (λ x. IsEncodableTask x.1.now)) (sym w.last-is)
                (done_encodable c.args.tables.now it.0 w.in-Some.rec.now c.requires.tables found),
          )
      | in_default w ↦
          let free : done_in (record_of records it.0) ≡ None = none_lent c.done_at.result (done_in (record_of records it.0)) c.done_at.ensures w.in_default.not-Some in
          let same = ap (λ (v : Vec ℕ Global). v.items) w.nos-is in (
            subst (AreOrdered records heights live (take (i + 1) live)) (sym same)
                (seen_more (λ (seen : List ℕ). AreOrdered records heights live seen c.loop-no.nos.items) live i it.0 at.0 at.1
                (ordered_skip records heights live (take i live) c.loop-no.nos.items it.0 free c.loop-no.invariant.0)),
            subst (λ (o : Option (ℕ × Bor Task)). IsLast records heights (last_key o) new) (sym w.last-is)
                (subst (IsLast records heights (last_key c.loop-no.last)) (sym same) c.loop-no.invariant.1),
            subst (λ (o : Option (ℕ × Bor Task)). IfSome o (λ x. IsEncodableTask x.1.now)) (sym w.last-is) c.loop-no.invariant.2,
          )
    ]
