use Rattle.std.proofs.Common.{◌≡◌, ◌+◌, ◌-◌, length, arith, refl, sym, ap, ◌∙◌, subst}
use Rattle.pie_files.specs.inner.SureFiles.{held_by}
use Rattle.pie_demo.specs.Sources.{HasSources}
use Rattle.pie_demo.proofs.Playing.{Plays, plays_none, plays_more, first_built, demo_done, byte_is, byte_small}
use Rattle.pie_demo.proofs.whole.demo.Goals as goal

pub loop-done-init : goal.loop-done-init
loop-done-init c = record {
  few = omega arith;
  ten = refl;
  sources = λ has. has;
  plays = λ first has.
      plays_none c.args.seed c.args.size (record { now = first; left = held_by c.rebuilt.new.files }) c.rebuilt.new.runs c.args.clean.now;
}

pub loop-done-preserved : goal.loop-done-preserved
loop-done-preserved c =
    let k = c.loop-done.done in
    let less : k ≡ k + 1 - 1 = omega arith in
    let before : HasSources c.args.seed c.args.size 0 (held_by c.rebuilt.new.files)
    → HasSources c.args.seed c.args.size (k + 1 - 1) (held_by c.loop-done.files) =
    λ has. subst (λ n. HasSources c.args.seed c.args.size n (held_by c.loop-done.files)) less (c.loop-done.invariant.sources has) in
    record {
      few = omega (arith, c.loop-done.invariant.few, c.from.ensures, byte_small c.in_ok-round.round.is_same);
      ten = c.loop-done.invariant.ten;
      sources = λ has. c.in_ok-round.ensures.sources (before has);
      plays = λ first has.
          subst (Plays c.args.seed c.args.size (k + 1) (record { now = first; left = held_by c.rebuilt.new.files }) (held_by c.go.new.files)
          c.rebuilt.new.runs c.go.new.runs c.args.clean.now c.go.new.clean c.in_ok-round.round.live)
          (ap (λ n. c.loop-done.summary.same + n) (sym (c.from.ensures ∙ byte_is c.in_ok-round.round.is_same)))
          (plays_more c.args.seed c.args.size k (record { now = first; left = held_by c.rebuilt.new.files }) (held_by c.loop-done.files)
          (held_by c.go.new.files) c.rebuilt.new.runs c.loop-done.runs c.go.new.runs c.args.clean.now c.loop-done.clean c.go.new.clean c.loop-done.summary.tasks c.in_ok-round.round.live
          c.loop-done.summary.same c.in_ok-round.round.is_same (c.loop-done.invariant.plays first has) (c.in_ok-round.ensures.round (before has)));
    }

pub returns-clause-demo : goal.returns-clause-demo
returns-clause-demo c = λ empty.
    let seed = c.args.seed in
    let size = c.args.size in
    let first = held_by c.put_sources.new.files in
    let built = held_by c.rebuilt.new.files in
    let has = c.in_ok-put_sources.ensures empty in
    let ten : c.loop-done.done ≡ 10 = omega arith in
    let live = c.in_ok-rebuilt.field-0 in
    let sources = first_built seed size first built c.args.runs.now c.rebuilt.new.runs live has c.in_ok-rebuilt.ensures in
    let counted = c.in_ok-summary.ensures ∙ ap (λ n. length c.loop-done.runs - n) c.count-before.ensures in
    demo_done seed size first built (held_by c.loop-done.files) c.args.runs.now c.rebuilt.new.runs c.loop-done.runs c.args.clean.now c.loop-done.clean live _
    has c.in_ok-rebuilt.ensures
    (subst (λ n. Plays seed size n (record { now = first; left = built }) (held_by c.loop-done.files) c.rebuilt.new.runs c.loop-done.runs
    c.args.clean.now c.loop-done.clean c.loop-done.summary.tasks c.loop-done.summary.same) ten (c.loop-done.invariant.plays first sources))
    (subst (λ n. HasSources seed size n (held_by c.loop-done.files)) ten (c.loop-done.invariant.sources sources)) counted
