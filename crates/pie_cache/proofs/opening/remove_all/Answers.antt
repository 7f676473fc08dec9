use Rattle.std.proofs.Common.{◌≡◌, ◌+◌, ◌∷◌, ◌∙◌, drop, refl, ap, sym, subst, arith, rules}
use Rattle.std.specs.Prelude.{Err}
use Rattle.std.proofs.lemmas.List.{drop_more, drop_all}
use Rattle.std.proofs.lemmas.List.Elements.{All-get_or}
use Rattle.pie_commit.proofs.Bringing.{removed_more, removed_none, brought_none}
use Rattle.pie_commit.proofs.Stepping.{onward_more, onward_stops, onward_ends}
use Rattle.pie_commit.specs.inner.Plans.{removed}
use Rattle.pie_commit.specs.inner.Steps.{Removes, Makes, removing}
use Rattle.pie_cache.specs.inner.Clearing.{IsApart, IsInside}
use Rattle.pie_cache.proofs.Changing.{keeps_same, keeps_both, none_leaves, both_leave}
use Rattle.pie_cache.proofs.Gating.{both_gated, none_gated, removal_gated, told_of}
use Rattle.pie_cache.proofs.opening.remove_all.Goals as goal

pub loop-path-init : goal.loop-path-init
loop-path-init g c = (
  keeps_same (g.F.Files.holds c.args.files.now) (g.F.Files.holds c.args.files.now) refl,
  none_leaves g.F.Files.holds g.F.Files.moment g.F.Files.left_since g.F.Files.images c.args.files.now,
  record { steady = refl; on = λ after h. h },
  none_gated g.F.Files.holds g.F.Files.moment g.F.Files.left_since g.F.Files.images c.args.files.now,
  λ r new made. made,
)

pub remove-requires : goal.remove-requires
remove-requires g c =
    let i = c.loop-path.path-index in
    let item = c.path-item.result in
    subst IsInside (sym c.path-item.is) (All-get_or IsInside c.args.paths.now i item c.loop-path-test.true c.requires.inside)

pub loop-path-preserved : goal.loop-path-preserved
loop-path-preserved g c =
    let all = c.args.paths.now in
    let i = c.loop-path.path-index in
    let item = c.path-item.result in
    let rest = drop (i + 1) all in
    let next : drop i all ≡ item ∷ rest =
    drop_more all i item c.loop-path-test.true ∙ ap (λ x. x ∷ drop (i + 1) all) (sym c.path-item.is) in
    let before = c.loop-path.invariant in
    let e = c.in_ok-remove.ensures in (
      keeps_both (g.F.Files.holds c.args.files.now) (g.F.Files.holds c.loop-path.files) (g.F.Files.holds c.remove.new.files) before.0 e.kept,
      both_leave g.F.Files.holds g.F.Files.moment g.F.Files.left_since g.F.Files.images c.args.files.now c.loop-path.files c.remove.new.files before.0 before.1 e.crash,
      removed_more g.F.Files.holds g.F.Files.faults c.args.files.now c.loop-path.files c.remove.new.files item (drop i all) rest all next e.counted.steady
          e.done before.2,
      both_gated g.F.Files.holds g.F.Files.moment g.F.Files.left_since g.F.Files.images c.args.files.now c.loop-path.files c.remove.new.files (told_of (g.F.Files.holds c.args.files.now) (g.F.Files.holds c.loop-path.files) before.0) before.3
          (removal_gated g.F.Files.holds g.F.Files.moment g.F.Files.left_since g.F.Files.images item c.loop-path.files c.remove.new.files
          (subst IsApart (sym c.path-item.is) (All-get_or IsApart all i item c.loop-path-test.true c.requires.apart)) e.may),
      onward_more g.F.Files.asked (removing all) (removing (drop i all)) (removing rest) (Removes item) c.in_ok-remove.field-0 c.args.files.now c.loop-path.files
          c.remove.new.files (ap removing next) e.makes before.4,
    )

pub returns-in_err-remove-clause-kept : goal.returns-in_err-remove-clause-kept
returns-in_err-remove-clause-kept g c =
    keeps_both (g.F.Files.holds c.args.files.now) (g.F.Files.holds c.loop-path.files) (g.F.Files.holds c.remove.new.files) c.loop-path.invariant.0
    c.remove.ensures.kept

pub returns-in_err-remove-clause-crash : goal.returns-in_err-remove-clause-crash
returns-in_err-remove-clause-crash g c =
    both_leave g.F.Files.holds g.F.Files.moment g.F.Files.left_since g.F.Files.images c.args.files.now c.loop-path.files c.remove.new.files
    c.loop-path.invariant.0 c.loop-path.invariant.1 c.remove.ensures.crash

pub returns-in_err-remove-clause-makes : goal.returns-in_err-remove-clause-makes
returns-in_err-remove-clause-makes g c =
    let all = c.args.paths.now in
    let i = c.loop-path.path-index in
    let item = c.path-item.result in
    let rest = drop (i + 1) all in
    let next : drop i all ≡ item ∷ rest =
    drop_more all i item c.loop-path-test.true ∙ ap (λ x. x ∷ drop (i + 1) all) (sym c.path-item.is) in
    let e = c.in_err-remove.field-0.0 in
    let failed : Err e ≡ c.from_residual.result = search rules in
    subst (λ r. Makes g.F.Files.asked (removing all) c.args.files.now c.remove.new.files r) failed
    (onward_stops g.F.Files.asked (removing all) (removing (drop i all)) (removing rest) (Removes item) e c.args.files.now c.loop-path.files
    c.remove.new.files (ap removing next) c.in_err-remove.ensures.makes c.loop-path.invariant.4)

pub returns-clause-done : goal.returns-clause-done
returns-clause-done g c =
    let all = c.args.paths.now in
    let i = c.loop-path.path-index in
    c.loop-path.invariant.2.on (g.F.Files.holds c.loop-path.files) (brought_none (removed (drop i all))
    (removed_none (drop i all) (drop_all i all (omega (arith, c.loop-path-test.false)))) (g.F.Files.holds c.loop-path.files))

pub returns-clause-makes : goal.returns-clause-makes
returns-clause-makes g c =
    let all = c.args.paths.now in
    let i = c.loop-path.path-index in
    onward_ends g.F.Files.asked (removing all) (removing (drop i all)) c.args.files.now c.loop-path.files
    (ap removing (drop_all i all (omega (arith, c.loop-path-test.false)))) c.loop-path.invariant.4

pub returns-in_err-remove-clause-gated : goal.returns-in_err-remove-clause-gated
returns-in_err-remove-clause-gated g c =
    let all = c.args.paths.now in
    let i = c.loop-path.path-index in
    let item = c.path-item.result in
    both_gated g.F.Files.holds g.F.Files.moment g.F.Files.left_since g.F.Files.images c.args.files.now c.loop-path.files c.remove.new.files
    (told_of (g.F.Files.holds c.args.files.now) (g.F.Files.holds c.loop-path.files) c.loop-path.invariant.0) c.loop-path.invariant.3
    (removal_gated g.F.Files.holds g.F.Files.moment g.F.Files.left_since g.F.Files.images item c.loop-path.files c.remove.new.files
    (subst IsApart (sym c.path-item.is) (All-get_or IsApart all i item c.loop-path-test.true c.requires.apart)) c.remove.ensures.may)
