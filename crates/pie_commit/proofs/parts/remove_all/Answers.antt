use Rattle.std.proofs.Common.{◌≡◌, ◌+◌, ◌∷◌, ◌∙◌, ℕ, List, drop, length, refl, ap, sym, subst, arith, rules}
use Rattle.std.proofs.lemmas.List.{drop_more, drop_all}
use Rattle.pie_commit.specs.inner.Plans.{removed, at, Gone}
use Rattle.pie_commit.proofs.Bringing.{removed_more, removed_none, brought_none}
use Rattle.pie_commit.proofs.Members.{AllInner, removals_inner}
use Rattle.pie_commit.proofs.Standing.{none_marked, both_marked, told_by, told_both, told_itself}
use Rattle.pie_commit.proofs.Others.{keeps_both, keeps_same}
use Rattle.std.specs.Prelude.{Err}
use Rattle.pie_commit.specs.inner.Steps.{Removes, Makes, removing}
use Rattle.pie_commit.proofs.Stepping.{onward_more, onward_stops, onward_ends}
use Rattle.pie_commit.proofs.parts.remove_all.Goals as goal

pub loop-path-init : goal.loop-path-init
loop-path-init g c = (
  record { steady = refl; on = λ after h. h },
  record {
    told = told_itself (g.F.Files.holds c.args.files.now);
    crash = none_marked g.F.Files.holds g.F.Files.moment g.F.Files.left_since
        g.F.Files.images c.args.plan.now c.args.files.now;
    outside = keeps_same c.args.plan.now (g.F.Files.holds c.args.files.now) (g.F.Files.holds c.args.files.now) refl;
  },
  removals_inner c.args.plan.now c.requires,
  λ r new made. made,
)

pub remove-requires : goal.remove-requires
remove-requires g c =
    let all = c.args.plan.now.removals.items in
    let list = c.deref-path-items.result.now in
    let same : list ≡ all = c.deref-path-items.ensures.value in
    let i = c.loop-path.path-index in
    let item = c.path-item.result in
    let rest = drop (i + 1) all in
    let next : drop i all ≡ item ∷ rest =
    ap (drop i) (sym same) ∙ drop_more list i item c.loop-path-test.true ∙ ap (λ x. x ∷ drop (i + 1) list) (sym c.path-item.is)
    ∙ ap (λ (l : List (List ℕ)). item ∷ drop (i + 1) l) same in
    (subst (AllInner c.args.plan.now) next c.loop-path.invariant.2).0

pub loop-path-preserved : goal.loop-path-preserved
loop-path-preserved g c =
    let all = c.args.plan.now.removals.items in
    let list = c.deref-path-items.result.now in
    let same : list ≡ all = c.deref-path-items.ensures.value in
    let i = c.loop-path.path-index in
    let item = c.path-item.result in
    let rest = drop (i + 1) all in
    let next : drop i all ≡ item ∷ rest =
    ap (drop i) (sym same) ∙ drop_more list i item c.loop-path-test.true ∙ ap (λ x. x ∷ drop (i + 1) list) (sym c.path-item.is)
    ∙ ap (λ (l : List (List ℕ)). item ∷ drop (i + 1) l) same in
    let so_far = c.loop-path.invariant.1 in (
      removed_more g.F.Files.holds g.F.Files.faults c.args.files.now c.loop-path.files c.remove.new.files item (drop i all) rest all
          next c.in_ok-remove.ensures.counted.steady c.in_ok-remove.ensures.done c.loop-path.invariant.0,
      record {
        told = told_both (g.F.Files.holds c.args.files.now) (g.F.Files.holds c.loop-path.files) (g.F.Files.holds c.remove.new.files) so_far.told
            (told_by (at item Gone) (g.F.Files.holds c.loop-path.files) (g.F.Files.holds c.remove.new.files) c.in_ok-remove.ensures.done);
        crash = both_marked g.F.Files.holds g.F.Files.moment g.F.Files.left_since g.F.Files.images c.args.plan.now c.args.files.now c.loop-path.files
            c.remove.new.files so_far.told so_far.crash c.in_ok-remove.ensures.crash;
        outside = keeps_both c.args.plan.now (g.F.Files.holds c.args.files.now) (g.F.Files.holds c.loop-path.files) (g.F.Files.holds c.remove.new.files)
            so_far.outside c.in_ok-remove.ensures.outside;
      },
      (subst (AllInner c.args.plan.now) next c.loop-path.invariant.2).1,
      onward_more g.F.Files.asked (removing all) (removing (drop i all)) (removing rest) (Removes item) c.in_ok-remove.field-0 c.args.files.now c.loop-path.files
          c.remove.new.files (ap removing next) c.in_ok-remove.ensures.makes c.loop-path.invariant.3,
    )

pub returns-in_err-remove-clause-crash : goal.returns-in_err-remove-clause-crash
returns-in_err-remove-clause-crash g c =
    let so_far = c.loop-path.invariant.1 in
    both_marked g.F.Files.holds g.F.Files.moment g.F.Files.left_since g.F.Files.images c.args.plan.now c.args.files.now c.loop-path.files
    c.remove.new.files so_far.told so_far.crash c.remove.ensures.crash

pub returns-clause-crash : goal.returns-clause-crash
returns-clause-crash g c = c.loop-path.invariant.1.crash

pub returns-clause-done : goal.returns-clause-done
returns-clause-done g c =
    let all = c.args.plan.now.removals.items in
    let i = c.loop-path.path-index in
    let same : c.deref-path-items.result.now ≡ all = c.deref-path-items.ensures.value in
    c.loop-path.invariant.0.on (g.F.Files.holds c.loop-path.files) (brought_none (removed (drop i all))
    (removed_none (drop i all) (drop_all i all (omega (arith, c.loop-path-test.false, ap length same)))) (g.F.Files.holds c.loop-path.files))

pub returns-in_err-remove-clause-outside : goal.returns-in_err-remove-clause-outside
returns-in_err-remove-clause-outside g c =
    keeps_both c.args.plan.now (g.F.Files.holds c.args.files.now) (g.F.Files.holds c.loop-path.files) (g.F.Files.holds c.remove.new.files)
    c.loop-path.invariant.1.outside c.remove.ensures.outside

pub returns-clause-outside : goal.returns-clause-outside
returns-clause-outside g c = c.loop-path.invariant.1.outside

pub returns-in_err-remove-clause-makes : goal.returns-in_err-remove-clause-makes
returns-in_err-remove-clause-makes g c =
    let all = c.args.plan.now.removals.items in
    let list = c.deref-path-items.result.now in
    let same : list ≡ all = c.deref-path-items.ensures.value in
    let i = c.loop-path.path-index in
    let item = c.path-item.result in
    let rest = drop (i + 1) all in
    let next : drop i all ≡ item ∷ rest =
    ap (drop i) (sym same) ∙ drop_more list i item c.loop-path-test.true ∙ ap (λ x. x ∷ drop (i + 1) list) (sym c.path-item.is)
    ∙ ap (λ (l : List (List ℕ)). item ∷ drop (i + 1) l) same in
    let e = c.in_err-remove.field-0.0 in
    let failed : Err e ≡ c.from_residual.result = search rules in
    subst (λ r. Makes g.F.Files.asked (removing all) c.args.files.now c.remove.new.files r) failed
    (onward_stops g.F.Files.asked (removing all) (removing (drop i all)) (removing rest) (Removes item) e c.args.files.now c.loop-path.files
    c.remove.new.files (ap removing next) c.in_err-remove.ensures.makes c.loop-path.invariant.3)

pub returns-clause-makes : goal.returns-clause-makes
returns-clause-makes g c =
    let all = c.args.plan.now.removals.items in
    let i = c.loop-path.path-index in
    let same : c.deref-path-items.result.now ≡ all = c.deref-path-items.ensures.value in
    onward_ends g.F.Files.asked (removing all) (removing (drop i all)) c.args.files.now c.loop-path.files
    (ap removing (drop_all i all (omega (arith, c.loop-path-test.false, ap length same)))) c.loop-path.invariant.3
