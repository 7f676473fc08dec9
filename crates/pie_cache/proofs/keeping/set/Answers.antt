use Rattle.std.proofs.Common.{[], ◌∷◌, subst, ◌≡◌, rules}
use Rattle.std.specs.Prelude.{Ok, Err}
use Rattle.pie_commit.proofs.Bringing.{brought_still, in_any_case}
use Rattle.pie_commit.proofs.Stepping.{makes_stops, makes_then}
use Rattle.pie_commit.specs.Outcomes.{HasBrought}
use Rattle.pie_commit.specs.inner.Plans.{at, Bytes}
use Rattle.pie_commit.specs.inner.Steps.{Makes, Writes, Syncs}
use Rattle.pie_cache.proofs.Changing.{keeps_both}
use Rattle.pie_cache.specs.inner.Places.{gate}
use Rattle.pie_commit.proofs.Standing.{sync_rest}
use Rattle.pie_files.specs.Images.{MayLeave, MayWrite}
use Rattle.pie_cache.specs.inner.Gated.{IsBegun}
use Rattle.pie_cache.proofs.Gating.{begun_call, stands, told_of}
use Rattle.pie_cache.proofs.keeping.set.Goals as goal

pub returns-clause-kept : goal.returns-clause-kept
returns-clause-kept g c =
    keeps_both (g.F.Files.holds c.args.files.now) (g.F.Files.holds c.write.new.files) (g.F.Files.holds c.make_last.new.files) c.in_ok-write.ensures.kept
    c.make_last.ensures.kept

pub returns-in_err-write-clause-makes : goal.returns-in_err-write-clause-makes
returns-in_err-write-clause-makes g c =
    let e = c.in_err-write.field-0.0 in
    let failed : Err e ≡ c.from_residual.result = search rules in
    subst (λ r. Makes {T = Unit {0}} g.F.Files.asked (Writes gate ∷ Syncs ∷ []) c.args.files.now c.write.new.files r) failed
    (makes_stops g.F.Files.asked e (Writes gate ∷ []) (Syncs ∷ []) c.args.files.now c.write.new.files
    (subst (λ p. Makes {T = Unit {0}} g.F.Files.asked (Writes p ∷ []) c.args.files.now c.write.new.files (Err e)) c.requires c.in_err-write.ensures.makes))

pub returns-clause-makes : goal.returns-clause-makes
returns-clause-makes g c =
    makes_then g.F.Files.asked c.make_last.result c.in_ok-write.field-0 (Writes gate ∷ []) (Syncs ∷ []) c.args.files.now c.write.new.files
    c.make_last.new.files
    (subst (λ p. Makes {T = Unit {0}} g.F.Files.asked (Writes p ∷ []) c.args.files.now c.write.new.files (Ok c.in_ok-write.field-0)) c.requires
    c.in_ok-write.ensures.makes) c.make_last.ensures.makes

pub returns-clause-done : goal.returns-clause-done
returns-clause-done g c =
    in_any_case c.make_last.result (brought_still (at gate (Bytes [])) (g.F.Files.holds c.args.files.now) (g.F.Files.holds c.write.new.files)
    (g.F.Files.holds c.make_last.new.files) c.make_last.ensures.same
    (subst (λ p. HasBrought (at p (Bytes [])) (g.F.Files.holds c.args.files.now) (g.F.Files.holds c.write.new.files)) c.requires
    c.in_ok-write.ensures.done))

pub returns-in_err-write-clause-begun : goal.returns-in_err-write-clause-begun
returns-in_err-write-clause-begun g c =
    begun_call g.F.Files.holds g.F.Files.moment g.F.Files.left_since g.F.Files.images c.args.files.now c.write.new.files
    (subst (λ p. MayLeave g.F.Files.holds g.F.Files.moment g.F.Files.left_since g.F.Files.images (MayWrite p) c.args.files.now c.write.new.files) c.requires c.write.ensures.may)

pub returns-clause-begun : goal.returns-clause-begun
returns-clause-begun g c =
    sync_rest g.F.Files.holds g.F.Files.moment g.F.Files.left_since g.F.Files.images IsBegun c.args.files.now c.write.new.files c.make_last.new.files
    (told_of (g.F.Files.holds c.args.files.now) (g.F.Files.holds c.write.new.files) c.in_ok-write.ensures.kept)
    (begun_call g.F.Files.holds g.F.Files.moment g.F.Files.left_since g.F.Files.images c.args.files.now c.write.new.files
    (subst (λ p. MayLeave g.F.Files.holds g.F.Files.moment g.F.Files.left_since g.F.Files.images (MayWrite p) c.args.files.now c.write.new.files) c.requires c.in_ok-write.ensures.may))
    c.make_last.ensures.may

pub returns-clause-stands : goal.returns-clause-stands
returns-clause-stands g c =
    stands (g.F.Files.images c.make_last.new.files) (g.F.Files.holds c.args.files.now) (g.F.Files.holds c.write.new.files) c.make_last.result
    (subst (λ p. HasBrought (at p (Bytes [])) (g.F.Files.holds c.args.files.now) (g.F.Files.holds c.write.new.files)) c.requires c.in_ok-write.ensures.done)
    c.make_last.ensures.durable
