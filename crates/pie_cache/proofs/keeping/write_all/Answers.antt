use Rattle.std.proofs.Common.{◌≡◌, ◌+◌, ◌∷◌, ◌∙◌, drop, refl, ap, sym, subst, arith, rules}
use Rattle.std.specs.Prelude.{Err}
use Rattle.std.proofs.lemmas.List.{drop_more, drop_all}
use Rattle.std.proofs.lemmas.List.Elements.{All-get_or}
use Rattle.pie_commit.proofs.Bringing.{written_more, written_none, brought_none}
use Rattle.pie_commit.proofs.Stepping.{onward_more, onward_stops, onward_ends}
use Rattle.pie_commit.specs.Outcomes.{HasBrought}
use Rattle.pie_commit.specs.inner.Plans.{at, Bytes, written}
use Rattle.pie_commit.specs.inner.Steps.{Writes, Makes, writing}
use Rattle.pie_cache.specs.inner.Contents.{IsDraft}
use Rattle.pie_cache.proofs.Changing.{keeps_same, keeps_both, none_leaves, both_leave}
use Rattle.pie_cache.proofs.Naming.{cache_inside}
use Rattle.pie_cache.proofs.Gating.{both_gated, gate_apart, none_gated, told_of, write_gated}
use Rattle.pie_cache.proofs.keeping.write_all.Goals as goal

pub loop-path-init : goal.loop-path-init
loop-path-init g c = (
  keeps_same (g.F.Files.holds c.args.files.now) (g.F.Files.holds c.args.files.now) refl,
  none_leaves g.F.Files.holds g.F.Files.moment g.F.Files.left_since g.F.Files.images c.args.files.now,
  record { steady = refl; on = λ after h. h },
  none_gated g.F.Files.holds g.F.Files.moment g.F.Files.left_since g.F.Files.images c.args.files.now,
  λ r new made. made,
)

pub write-requires : goal.write-requires
write-requires g c =
    let i = c.loop-path.path-index in
    let item = c.loop-path-item.result in
    cache_inside item.0 (subst IsDraft (sym c.loop-path-item.is) (All-get_or IsDraft c.args.drafts.now i item c.loop-path-test.true c.requires))

pub loop-path-preserved : goal.loop-path-preserved
loop-path-preserved g c =
    let all = c.args.drafts.now in
    let i = c.loop-path.path-index in
    let item = c.loop-path-item.result in
    let rest = drop (i + 1) all in
    let next : drop i all ≡ item ∷ rest =
    drop_more all i item c.loop-path-test.true ∙ ap (λ x. x ∷ drop (i + 1) all) (sym c.loop-path-item.is) in
    let before = c.loop-path.invariant in
    let draft : IsDraft item = subst IsDraft (sym c.loop-path-item.is) (All-get_or IsDraft all i item c.loop-path-test.true c.requires) in
    let e = c.in_ok-write.ensures in (
      keeps_both (g.F.Files.holds c.args.files.now) (g.F.Files.holds c.loop-path.files) (g.F.Files.holds c.write.new.files) before.0 e.kept,
      both_leave g.F.Files.holds g.F.Files.moment g.F.Files.left_since g.F.Files.images c.args.files.now c.loop-path.files c.write.new.files before.0 before.1 e.crash,
      written_more g.F.Files.holds g.F.Files.faults c.args.files.now c.loop-path.files c.write.new.files item (drop i all) rest all next e.counted.steady
          (subst (λ b. HasBrought (at item.0 (Bytes b)) (g.F.Files.holds c.loop-path.files) (g.F.Files.holds c.write.new.files)) c.as_slice.ensures.value e.done) before.2,
      both_gated g.F.Files.holds g.F.Files.moment g.F.Files.left_since g.F.Files.images c.args.files.now c.loop-path.files c.write.new.files (told_of (g.F.Files.holds c.args.files.now) (g.F.Files.holds c.loop-path.files) before.0) before.3
          (write_gated g.F.Files.holds g.F.Files.moment g.F.Files.left_since g.F.Files.images item.0 c.loop-path.files c.write.new.files (gate_apart item.0 draft) e.may),
      onward_more g.F.Files.asked (writing all) (writing (drop i all)) (writing rest) (Writes item.0) c.in_ok-write.field-0 c.args.files.now c.loop-path.files
          c.write.new.files (ap writing next) e.makes before.4,
    )

pub returns-in_err-write-clause-kept : goal.returns-in_err-write-clause-kept
returns-in_err-write-clause-kept g c =
    keeps_both (g.F.Files.holds c.args.files.now) (g.F.Files.holds c.loop-path.files) (g.F.Files.holds c.write.new.files) c.loop-path.invariant.0
    c.write.ensures.kept

pub returns-in_err-write-clause-crash : goal.returns-in_err-write-clause-crash
returns-in_err-write-clause-crash g c =
    both_leave g.F.Files.holds g.F.Files.moment g.F.Files.left_since g.F.Files.images c.args.files.now c.loop-path.files c.write.new.files
    c.loop-path.invariant.0 c.loop-path.invariant.1 c.write.ensures.crash

pub returns-in_err-write-clause-makes : goal.returns-in_err-write-clause-makes
returns-in_err-write-clause-makes g c =
    let all = c.args.drafts.now in
    let i = c.loop-path.path-index in
    let item = c.loop-path-item.result in
    let rest = drop (i + 1) all in
    let next : drop i all ≡ item ∷ rest =
    drop_more all i item c.loop-path-test.true ∙ ap (λ x. x ∷ drop (i + 1) all) (sym c.loop-path-item.is) in
    let e = c.in_err-write.field-0.0 in
    let failed : Err e ≡ c.from_residual.result = search rules in
    subst (λ r. Makes g.F.Files.asked (writing all) c.args.files.now c.write.new.files r) failed
    (onward_stops g.F.Files.asked (writing all) (writing (drop i all)) (writing rest) (Writes item.0) e c.args.files.now c.loop-path.files
    c.write.new.files (ap writing next) c.in_err-write.ensures.makes c.loop-path.invariant.4)

pub returns-clause-done : goal.returns-clause-done
returns-clause-done g c =
    let all = c.args.drafts.now in
    let i = c.loop-path.path-index in
    c.loop-path.invariant.2.on (g.F.Files.holds c.loop-path.files) (brought_none (written (drop i all))
    (written_none (drop i all) (drop_all i all (omega (arith, c.loop-path-test.false)))) (g.F.Files.holds c.loop-path.files))

pub returns-clause-makes : goal.returns-clause-makes
returns-clause-makes g c =
    let all = c.args.drafts.now in
    let i = c.loop-path.path-index in
    onward_ends g.F.Files.asked (writing all) (writing (drop i all)) c.args.files.now c.loop-path.files
    (ap writing (drop_all i all (omega (arith, c.loop-path-test.false)))) c.loop-path.invariant.4

pub returns-in_err-write-clause-gated : goal.returns-in_err-write-clause-gated
returns-in_err-write-clause-gated g c =
    let all = c.args.drafts.now in
    let i = c.loop-path.path-index in
    let item = c.loop-path-item.result in
    let draft : IsDraft item = subst IsDraft (sym c.loop-path-item.is) (All-get_or IsDraft all i item c.loop-path-test.true c.requires) in
    both_gated g.F.Files.holds g.F.Files.moment g.F.Files.left_since g.F.Files.images c.args.files.now c.loop-path.files c.write.new.files
    (told_of (g.F.Files.holds c.args.files.now) (g.F.Files.holds c.loop-path.files) c.loop-path.invariant.0) c.loop-path.invariant.3
    (write_gated g.F.Files.holds g.F.Files.moment g.F.Files.left_since g.F.Files.images item.0 c.loop-path.files c.write.new.files (gate_apart item.0 draft) c.write.ensures.may)
