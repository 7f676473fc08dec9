use Rattle.std.proofs.Common.{◌≡◌, ◌+◌, ◌∷◌, ◌∙◌, ℕ, List, drop, length, refl, ap, sym, subst, arith, Vec, Global, rules}
use Rattle.std.proofs.lemmas.List.{drop_more, drop_all}
use Rattle.pie_commit.specs.inner.Plans.{written, at, Bytes}
use Rattle.pie_commit.specs.Outcomes.{HasBrought}
use Rattle.pie_commit.proofs.Bringing.{written_more, written_none, brought_none}
use Rattle.pie_commit.proofs.Members.{AllInnerWrites, writes_inner}
use Rattle.pie_commit.proofs.Standing.{none_marked, both_marked, told_by, told_both, told_itself}
use Rattle.pie_commit.proofs.Others.{keeps_both, keeps_same}
use Rattle.std.specs.Prelude.{Err}
use Rattle.pie_commit.specs.inner.Steps.{Writes, Makes, writing}
use Rattle.pie_commit.proofs.Stepping.{onward_more, onward_stops, onward_ends}
use Rattle.pie_commit.proofs.parts.write_all.Goals as goal

pub loop-path-init : goal.loop-path-init
loop-path-init g c = (
  record { steady = refl; on = λ after h. h },
  record {
    told = told_itself (g.F.Files.holds c.args.files.now);
    crash = none_marked g.F.Files.holds g.F.Files.moment g.F.Files.left_since
        g.F.Files.images c.args.plan.now c.args.files.now;
    outside = keeps_same c.args.plan.now (g.F.Files.holds c.args.files.now) (g.F.Files.holds c.args.files.now) refl;
  },
  writes_inner c.args.plan.now c.requires,
  λ r new made. made,
)

pub write-requires : goal.write-requires
write-requires g c =
    let all = c.args.plan.now.writes.items in
    let list = c.deref-path-items.result.now in
    let same : list ≡ all = c.deref-path-items.ensures.value in
    let i = c.loop-path.path-index in
    let item = c.loop-path-item.result in
    let rest = drop (i + 1) all in
    let next : drop i all ≡ item ∷ rest =
    ap (drop i) (sym same) ∙ drop_more list i item c.loop-path-test.true ∙ ap (λ x. x ∷ drop (i + 1) list) (sym c.loop-path-item.is)
    ∙ ap (λ (l : List (List ℕ × Vec ℕ Global)). item ∷ drop (i + 1) l) same in
    (subst (AllInnerWrites c.args.plan.now) next c.loop-path.invariant.2).0

pub loop-path-preserved : goal.loop-path-preserved
loop-path-preserved g c =
    let all = c.args.plan.now.writes.items in
    let list = c.deref-path-items.result.now in
    let same : list ≡ all = c.deref-path-items.ensures.value in
    let i = c.loop-path.path-index in
    let item = c.loop-path-item.result in
    let rest = drop (i + 1) all in
    let next : drop i all ≡ item ∷ rest =
    ap (drop i) (sym same) ∙ drop_more list i item c.loop-path-test.true ∙ ap (λ x. x ∷ drop (i + 1) list) (sym c.loop-path-item.is)
    ∙ ap (λ (l : List (List ℕ × Vec ℕ Global)). item ∷ drop (i + 1) l) same in
    let done = subst (λ b. HasBrought (at item.0 (Bytes b)) (g.F.Files.holds c.loop-path.files) (g.F.Files.holds c.write.new.files))
    c.as_slice.ensures.value c.in_ok-write.ensures.done in
    let so_far = c.loop-path.invariant.1 in (
      written_more g.F.Files.holds g.F.Files.faults c.args.files.now c.loop-path.files c.write.new.files item (drop i all) rest all
          next c.in_ok-write.ensures.counted.steady done c.loop-path.invariant.0,
      record {
        told = told_both (g.F.Files.holds c.args.files.now) (g.F.Files.holds c.loop-path.files) (g.F.Files.holds c.write.new.files) so_far.told
            (told_by (at item.0 (Bytes item.1.items)) (g.F.Files.holds c.loop-path.files) (g.F.Files.holds c.write.new.files) done);
        crash = both_marked g.F.Files.holds g.F.Files.moment g.F.Files.left_since g.F.Files.images c.args.plan.now c.args.files.now c.loop-path.files
            c.write.new.files so_far.told so_far.crash c.in_ok-write.ensures.crash;
        outside = keeps_both c.args.plan.now (g.F.Files.holds c.args.files.now) (g.F.Files.holds c.loop-path.files) (g.F.Files.holds c.write.new.files)
            so_far.outside c.in_ok-write.ensures.outside;
      },
      (subst (AllInnerWrites c.args.plan.now) next c.loop-path.invariant.2).1,
      onward_more g.F.Files.asked (writing all) (writing (drop i all)) (writing rest) (Writes item.0) c.in_ok-write.field-0 c.args.files.now c.loop-path.files
          c.write.new.files (ap writing next) c.in_ok-write.ensures.makes c.loop-path.invariant.3,
    )

pub returns-in_err-write-clause-crash : goal.returns-in_err-write-clause-crash
returns-in_err-write-clause-crash g c =
    let so_far = c.loop-path.invariant.1 in
    both_marked g.F.Files.holds g.F.Files.moment g.F.Files.left_since g.F.Files.images c.args.plan.now c.args.files.now c.loop-path.files
    c.write.new.files so_far.told so_far.crash c.write.ensures.crash

pub returns-clause-crash : goal.returns-clause-crash
returns-clause-crash g c = c.loop-path.invariant.1.crash

pub returns-clause-done : goal.returns-clause-done
returns-clause-done g c =
    let all = c.args.plan.now.writes.items in
    let i = c.loop-path.path-index in
    let same : c.deref-path-items.result.now ≡ all = c.deref-path-items.ensures.value in
    c.loop-path.invariant.0.on (g.F.Files.holds c.loop-path.files) (brought_none (written (drop i all))
    (written_none (drop i all) (drop_all i all (omega (arith, c.loop-path-test.false, ap length same)))) (g.F.Files.holds c.loop-path.files))

pub returns-in_err-write-clause-outside : goal.returns-in_err-write-clause-outside
returns-in_err-write-clause-outside g c =
    keeps_both c.args.plan.now (g.F.Files.holds c.args.files.now) (g.F.Files.holds c.loop-path.files) (g.F.Files.holds c.write.new.files)
    c.loop-path.invariant.1.outside c.write.ensures.outside

pub returns-clause-outside : goal.returns-clause-outside
returns-clause-outside g c = c.loop-path.invariant.1.outside

pub returns-in_err-write-clause-makes : goal.returns-in_err-write-clause-makes
returns-in_err-write-clause-makes g c =
    let all = c.args.plan.now.writes.items in
    let list = c.deref-path-items.result.now in
    let same : list ≡ all = c.deref-path-items.ensures.value in
    let i = c.loop-path.path-index in
    let item = c.loop-path-item.result in
    let rest = drop (i + 1) all in
    let next : drop i all ≡ item ∷ rest =
    ap (drop i) (sym same) ∙ drop_more list i item c.loop-path-test.true ∙ ap (λ x. x ∷ drop (i + 1) list) (sym c.loop-path-item.is)
    ∙ ap (λ (l : List (List ℕ × Vec ℕ Global)). item ∷ drop (i + 1) l) same in
    let e = c.in_err-write.field-0.0 in
    let failed : Err e ≡ c.from_residual.result = search rules in
    subst (λ r. Makes g.F.Files.asked (writing all) c.args.files.now c.write.new.files r) failed
    (onward_stops g.F.Files.asked (writing all) (writing (drop i all)) (writing rest) (Writes item.0) e c.args.files.now c.loop-path.files
    c.write.new.files (ap writing next) c.in_err-write.ensures.makes c.loop-path.invariant.3)

pub returns-clause-makes : goal.returns-clause-makes
returns-clause-makes g c =
    let all = c.args.plan.now.writes.items in
    let i = c.loop-path.path-index in
    let same : c.deref-path-items.result.now ≡ all = c.deref-path-items.ensures.value in
    onward_ends g.F.Files.asked (writing all) (writing (drop i all)) c.args.files.now c.loop-path.files
    (ap writing (drop_all i all (omega (arith, c.loop-path-test.false, ap length same)))) c.loop-path.invariant.3
