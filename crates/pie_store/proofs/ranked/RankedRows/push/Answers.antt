use Rattle.std.proofs.Common.{◌≡◌, ◌++◌, ◌∷◌, [], List, length, map, arith, ap, sym, subst, ◌∙◌}
use Rattle.std.specs.Prelude.{Some}
use Rattle.pie_value.specs.declared.task.Task.{Task}
use Rattle.pie_store.specs.Canonical.{needs}
use Rattle.pie_store.specs.inner.Ties.{named_by, tasks_among}
use Rattle.pie_store.proofs.Tying.{tasks_are, needs_push}
use Rattle.std.specs.List.{zip}
use Rattle.pie_store.specs.Ranks.{Ranked, rank_in}
use Rattle.pie_store.proofs.Ranking.{rank_absent, ranked_more, names_few, zip_long, zip_more}
use Rattle.pie_store.proofs.ranked.RankedRows.push.Goals as goal

pub push_all-requires-clause-absent : goal.push_all-requires-clause-absent
push_all-requires-clause-absent c =
    rank_absent _ _ _ _ c.self.invariant.ranked (ap (λ (s : Ranked). rank_in s c.args.next.rec.value.task) c.self.view_is ∙ c.requires.absent)

pub push_all-requires-clause-few : goal.push_all-requires-clause-few
push_all-requires-clause-few c = names_few _ _ _ c.self.invariant.ranked (rw c.self.view_is c.requires.few)

pub invariant_of-result : goal.invariant_of-result
invariant_of-result c =
    let names = c.self.inside.names in
    let rows = c.self.inside.rows.items in
    let heights = c.self.inside.heights.items in
    let long = zip_long rows heights c.self.invariant.ranked.same in
    let same : length (zip rows heights) ≡ length c.args.self = ap length c.self.view_is in
    let tasks : tasks_among c.args.self ≡ names = sym (tasks_are names heights rows c.self.invariant.ranked ∙ ap tasks_among c.self.view_is) in
    rw (c.in_ok-push_all.ensures.names, c.in_ok-push_all.ensures.rows, c.in_ok-push_all.ensures.heights, c.in_ok-push_all.ensures.needs)
    (record {
      ranked = ranked_more names heights rows c.args.next.rec.value c.args.next.height c.self.invariant.ranked c.requires.stored
          (rank_absent _ _ _ _ c.self.invariant.ranked (ap (λ (s : Ranked). rank_in s c.args.next.rec.value.task) c.self.view_is ∙ c.requires.absent))
          (omega (arith, c.requires.low)) (omega (arith, c.requires.few));
      needs = needs_push names (c.args.next.rec.value.task ∷ []) c.self.inside.needs.items c.args.next.needs rows c.args.next.rec.value
          c.self.invariant.needs
          (subst (λ (ts : List Task). named_by ts c.args.next.needs.items ≡ map Some (needs c.args.next.rec.value)) tasks c.requires.needs);
    })

pub returns : goal.returns
returns c =
    rw (c.in_ok-push_all.ensures.rows, c.in_ok-push_all.ensures.heights)
    (zip_more _ _ c.args.next.rec.value c.args.next.height c.self.invariant.ranked.same
    ∙ ap (λ (s : Ranked). s ++ (c.args.next.rec.value, c.args.next.height) ∷ []) c.self.view_is)
