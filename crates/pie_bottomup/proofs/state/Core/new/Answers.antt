use Rattle.std.proofs.Common.{◌≡◌, ◌∙◌, None, sym, ap, subst, refl, length, map, inl}
use Rattle.std.specs.List.{All}
use Rattle.pie_value.specs.Canonical.{IsEncodableTask}
use Rattle.pie_walk.specs.Marks.{mark_of}
use Rattle.pie_walk.specs.States.{WalkState, at_start}
use Rattle.pie_value.specs.declared.task.Task.{Task}
use Rattle.pie_store.specs.Canonical.{tasks_in}
use Rattle.pie_old.specs.inner.Code.{is_same_code}
use Rattle.pie_old.specs.inner.Rows.{AreRowsOf}
use Rattle.pie_bottomup.specs.declared.plan.Plan.{Plan}
use Rattle.pie_bottomup.specs.declared.state.Core.{Core}
use Rattle.pie_bottomup.proofs.ExactBeginning.{loaded_core}
use Rattle.pie_bottomup.proofs.Overflowing.{begins_many}
use Rattle.pie_bottomup.specs.inner.Loaded.{BeginsExact}
use Rattle.pie_bottomup.specs.inner.Recorded.{AreRecorded}
use Rattle.pie_bottomup.proofs.Beginning.{start_fresh, start_recorded, have_digests_of}
use Rattle.pie_bottomup.proofs.Reasoning.{begins_knowing}
use Rattle.pie_bottomup.proofs.state.Core.new.Goals as goal

pub returns-clause-core : goal.returns-clause-core
returns-clause-core c =
    let old = c.in_ok-old.old in
    let begins = c.in_ok-old.ensures.begins in
    let start : c.in_ok-walk.walk ≡ at_start old.rows old.looks_out.items = c.in_ok-walk.ensures.start in
    let frames : c.new-2.result.walk ≡ c.in_ok-walk.walk = c.new-2.ensures.walk in
    let walk : c.new-2.result.walk ≡ at_start old.rows old.looks_out.items = frames ∙ start in
    let plan : Plan = record { typed = c.args.typed; code = c.args.code; digests = c.args.digests; roots = c.in_ok-roots.roots; same = c.in_ok-same.same } in
    inl (record {
      tables = begins.tables;
      sized = begins.sized ∙ sym (ap (λ (s : WalkState). length s.rows) walk);
      roots = subst (All IsEncodableTask) (sym c.in_ok-roots.ensures) c.requires.roots;
      rests = c.new-2.ensures.rests;
      start = record {
        first = c.in_ok-old.ensures.first;
        hand = refl;
        at = refl;
        parked = c.new-2.ensures.none;
        fresh = λ n. ap (λ (s : WalkState). mark_of s.marks n) walk ∙ start_fresh (length old.rows) n;
        recorded = subst (AreRecorded old.tables.names old.tables.records) (sym walk) (start_recorded old begins);
        digests = have_digests_of plan c.as_slice-2.result.now old.tables.names c.as_slice.result.now c.as_slice.ensures.tasks c.in_ok-same.ensures;
      };
    })

pub returns-clause-plan : goal.returns-clause-plan
returns-clause-plan c = record { plan = record { typed = refl; digests = refl; roots = c.in_ok-roots.ensures }; code = refl }

pub returns-clause-begins : goal.returns-clause-begins
returns-clause-begins c =
    let old = c.in_ok-old.old in
    let funcs = c.args.image.funcs in
    let kept = c.args.image.rows in
    let digests = c.args.digests.now in
    let changes = c.args.changes.now in
    let walk : c.new-2.result.walk ≡ at_start old.rows old.looks_out.items = c.new-2.ensures.walk ∙ c.in_ok-walk.ensures.start in
    let core : Core = record {
      alloc = c.args.alloc;
      plan = record { typed = c.args.typed; code = c.args.code; digests = c.args.digests; roots = c.in_ok-roots.roots; same = c.in_ok-same.same };
      tables = old.tables;
      earlier = c.count-earlier.result;
      frames = c.new-2.result;
      stage = c.new-3.result;
      named = c.in_ok-named.named;
      at = 0;
      hand = None;
      first = c.in_ok-old.first;
    } in
    let same : c.in_ok-same.same.items ≡ map (λ (t : Task). is_same_code funcs digests t.func) old.tables.names =
    c.in_ok-same.ensures
    ∙ ap (map (λ (t : Task). is_same_code c.as_slice-2.result.now digests t.func)) c.as_slice.ensures.tasks
    ∙ ap (λ fs. map (λ (t : Task). is_same_code fs digests t.func) old.tables.names) c.as_slice-2.ensures in
    let exact : BeginsExact funcs digests kept changes core =
    loaded_core funcs digests kept changes core c.requires.storable c.requires.parts
    (λ first.
    let is = c.in_ok-old.ensures.loaded first in
    record {
      tables = is.tables;
      rows = subst (AreRowsOf (tasks_in kept) kept) (sym (ap (λ (s : WalkState). s.rows) walk)) is.rows;
      looks = ap (λ (s : WalkState). s.looks_out) walk ∙ is.looks_out;
      counted = c.count-earlier.ensures.count ∙ sym (ap (λ (s : WalkState). length s.rows) c.new-2.ensures.walk);
    })
    (record {
      tasks = record { distinct = c.as_slice.ensures.distinct; canonical = c.as_slice.ensures.canonical };
      unmet = λ n. ap (λ (s : WalkState). mark_of s.marks n) walk ∙ start_fresh (length old.rows) n;
      stage = c.new-3.ensures;
    })
    (record { names = c.in_ok-named.ensures.names; known = c.in_ok-named.ensures.known; same = same }) in
    record {
      first = c.in_ok-old.ensures.first;
      exact = exact;
      knows = begins_knowing funcs digests kept changes core exact same;
      many = c.in_ok-old.ensures.many;
      past = begins_many funcs digests kept changes core c.requires.order c.in_ok-old.ensures.many c.in_ok-old.ensures.begins.rested;
    }
