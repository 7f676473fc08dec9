use Rattle.std.proofs.Common.{[], ◌∷◌, subst, ◌≡◌, rules}
use Rattle.std.specs.Prelude.{Ok, Err}
use Rattle.pie_commit.proofs.Bringing.{brought_still, in_any_case}
use Rattle.pie_commit.proofs.Stepping.{makes_stops, makes_then}
use Rattle.pie_commit.specs.Outcomes.{HasBrought}
use Rattle.pie_commit.specs.inner.Plans.{at, Gone}
use Rattle.pie_commit.specs.inner.Steps.{Makes, Removes, Syncs}
use Rattle.pie_cache.proofs.Changing.{keeps_both}
use Rattle.pie_cache.specs.inner.Places.{gate}
use Rattle.std.proofs.Common.{inl, refl}
use Rattle.pie_commit.proofs.Standing.{call_rest, ending_still, rests, sync_rest}
use Rattle.pie_commit.specs.Outcomes.{IsEnding}
use Rattle.pie_files.specs.Images.{MayLeave, MayRemove}
use Rattle.pie_cache.proofs.Gating.{told_of}
use Rattle.pie_cache.proofs.opening.close.Goals as goal

pub returns-clause-kept : goal.returns-clause-kept
returns-clause-kept g c =
    keeps_both (g.F.Files.holds c.args.files.now) (g.F.Files.holds c.remove.new.files) (g.F.Files.holds c.make_last.new.files) c.in_ok-remove.ensures.kept
    c.make_last.ensures.kept

pub returns-in_err-remove-clause-makes : goal.returns-in_err-remove-clause-makes
returns-in_err-remove-clause-makes g c =
    let e = c.in_err-remove.field-0.0 in
    let failed : Err e ≡ c.from_residual.result = search rules in
    subst (λ r. Makes {T = Unit {0}} g.F.Files.asked (Removes gate ∷ Syncs ∷ []) c.args.files.now c.remove.new.files r) failed
    (makes_stops g.F.Files.asked e (Removes gate ∷ []) (Syncs ∷ []) c.args.files.now c.remove.new.files
    (subst (λ p. Makes {T = Unit {0}} g.F.Files.asked (Removes p ∷ []) c.args.files.now c.remove.new.files (Err e)) c.requires c.in_err-remove.ensures.makes))

pub returns-clause-makes : goal.returns-clause-makes
returns-clause-makes g c =
    makes_then g.F.Files.asked c.make_last.result c.in_ok-remove.field-0 (Removes gate ∷ []) (Syncs ∷ []) c.args.files.now c.remove.new.files
    c.make_last.new.files
    (subst (λ p. Makes {T = Unit {0}} g.F.Files.asked (Removes p ∷ []) c.args.files.now c.remove.new.files (Ok c.in_ok-remove.field-0)) c.requires
    c.in_ok-remove.ensures.makes) c.make_last.ensures.makes

pub returns-clause-done : goal.returns-clause-done
returns-clause-done g c =
    in_any_case c.make_last.result (brought_still (at gate Gone) (g.F.Files.holds c.args.files.now) (g.F.Files.holds c.remove.new.files)
    (g.F.Files.holds c.make_last.new.files) c.make_last.ensures.same
    (subst (λ p. HasBrought (at p Gone) (g.F.Files.holds c.args.files.now) (g.F.Files.holds c.remove.new.files)) c.requires
    c.in_ok-remove.ensures.done))

pub returns-in_err-remove-clause-ending : goal.returns-in_err-remove-clause-ending
returns-in_err-remove-clause-ending g c =
    call_rest g.F.Files.holds g.F.Files.moment g.F.Files.left_since g.F.Files.images (MayRemove gate) (IsEnding gate) c.args.files.now c.remove.new.files (ending_still gate) (λ d. inl refl)
    (subst (λ p. MayLeave g.F.Files.holds g.F.Files.moment g.F.Files.left_since g.F.Files.images (MayRemove p) c.args.files.now c.remove.new.files) c.requires c.remove.ensures.may)

pub returns-clause-ending : goal.returns-clause-ending
returns-clause-ending g c =
    sync_rest g.F.Files.holds g.F.Files.moment g.F.Files.left_since g.F.Files.images (IsEnding gate) c.args.files.now c.remove.new.files c.make_last.new.files
    (told_of (g.F.Files.holds c.args.files.now) (g.F.Files.holds c.remove.new.files) c.in_ok-remove.ensures.kept)
    (call_rest g.F.Files.holds g.F.Files.moment g.F.Files.left_since g.F.Files.images (MayRemove gate) (IsEnding gate) c.args.files.now c.remove.new.files (ending_still gate) (λ d. inl refl)
    (subst (λ p. MayLeave g.F.Files.holds g.F.Files.moment g.F.Files.left_since g.F.Files.images (MayRemove p) c.args.files.now c.remove.new.files) c.requires c.in_ok-remove.ensures.may))
    c.make_last.ensures.may

pub returns-clause-durable : goal.returns-clause-durable
returns-clause-durable g c =
    rests (g.F.Files.images c.make_last.new.files) (g.F.Files.holds c.args.files.now) (g.F.Files.holds c.remove.new.files) (g.F.Files.holds c.make_last.new.files)
    c.make_last.result (told_of (g.F.Files.holds c.args.files.now) (g.F.Files.holds c.remove.new.files) c.in_ok-remove.ensures.kept) c.make_last.ensures.same
    c.make_last.ensures.durable
