use Rattle.std.proofs.Common.{List, ℕ, get_or, subst, sym, ap, ◌∙◌, arith}
use Rattle.std.specs.Prelude.{Some}
use Rattle.pie_record.specs.inner.Names.{Numbers}
use Rattle.pie_store.specs.Ranks.{Ranked, rank_in}
use Rattle.pie_store.specs.inner.Ties.{tasks_among}
use Rattle.pie_store.proofs.Tying.{number_inside}
use Rattle.pie_store.proofs.Ranking.{rank_some, rank_none, rank_low, place_low, height_small, zip_long}
use Rattle.pie_store.proofs.ranked.RankedRows.with_height.Goals as goal

pub height_at-height-requires : goal.height_at-height-requires
height_at-height-requires c =
    rw c.as_slice.ensures.value
    (place_low _ _ _ _ _ c.self.invariant.ranked
    (subst (Numbers c.self.inside.names c.args.task.now) c.in-Some.is (number_inside _ _ _ _ _ _ c.self.invariant.ranked c.self.view_is c.requires.number)))

pub returns-in-Some-clause-rank : goal.returns-in-Some-clause-rank
returns-in-Some-clause-rank c =
    ap Some (c.height_at-height.ensures ∙ ap (λ (l : List ℕ). get_or l c.in-Some.no.0 0) c.as_slice.ensures.value)
    ∙ sym (rank_some _ _ _ _ _ c.self.invariant.ranked c.requires.stored
    (subst (Numbers c.self.inside.names c.args.task.now) c.in-Some.is (number_inside _ _ _ _ _ _ c.self.invariant.ranked c.self.view_is c.requires.number)))
    ∙ ap (λ (s : Ranked). rank_in s c.args.task.now) c.self.view_is

pub returns-in-Some-clause-number : goal.returns-in-Some-clause-number
returns-in-Some-clause-number c = subst (Numbers (tasks_among c.args.self.now) c.args.task.now) c.in-Some.is c.requires.number

pub returns-in-Some-clause-within : goal.returns-in-Some-clause-within
returns-in-Some-clause-within c =
    let ranked = c.self.invariant.ranked in
    let low = place_low _ _ _ _ _ ranked
    (subst (Numbers c.self.inside.names c.args.task.now) c.in-Some.is (number_inside _ _ _ _ _ _ c.self.invariant.ranked c.self.view_is c.requires.number)) in
    rw (← c.self.view_is) (omega (arith, low, ranked.same, zip_long c.self.inside.rows.items c.self.inside.heights.items ranked.same))

pub returns-in-Some-clause-low : goal.returns-in-Some-clause-low
returns-in-Some-clause-low c =
    rw (c.height_at-height.ensures, c.as_slice.ensures.value, ← c.self.view_is)
    (rank_low _ _ _ _ c.self.invariant.ranked
    (place_low _ _ _ _ _ c.self.invariant.ranked
    (subst (Numbers c.self.inside.names c.args.task.now) c.in-Some.is (number_inside _ _ _ _ _ _ c.self.invariant.ranked c.self.view_is c.requires.number))))

pub returns-in-Some-clause-small : goal.returns-in-Some-clause-small
returns-in-Some-clause-small c =
    rw (c.height_at-height.ensures, c.as_slice.ensures.value)
    (height_small _ _ _ _ c.self.invariant.ranked
    (place_low _ _ _ _ _ c.self.invariant.ranked
    (subst (Numbers c.self.inside.names c.args.task.now) c.in-Some.is (number_inside _ _ _ _ _ _ c.self.invariant.ranked c.self.view_is c.requires.number))))

pub returns-in-None-clause-rank : goal.returns-in-None-clause-rank
returns-in-None-clause-rank c =
    sym (rank_none _ _ _ _ c.self.invariant.ranked c.requires.stored
    (subst (Numbers c.self.inside.names c.args.task.now) c.in-None.is (number_inside _ _ _ _ _ _ c.self.invariant.ranked c.self.view_is c.requires.number)))
    ∙ ap (λ (s : Ranked). rank_in s c.args.task.now) c.self.view_is
