use Rattle.std.proofs.Common.{◌≡◌, [], ◌∷◌, ◌++◌, subst, rules}
use Rattle.std.specs.Prelude.{Err}
use Rattle.pie_commit.specs.inner.Plans.{Bytes, Gone, at, later, written}
use Rattle.pie_commit.specs.inner.Steps.{Makes, Writes, Syncs, writing}
use Rattle.pie_commit.proofs.Bringing.{brought_as, brought_both, brought_still, on_ok}
use Rattle.pie_commit.proofs.Stepping.{makes_stops, makes_then}
use Rattle.pie_cache.specs.inner.Places.{gate}
use Rattle.pie_cache.specs.inner.Steps.{closing, putting}
use Rattle.pie_cache.proofs.Changing.{keeps_both, outside_both}
use Rattle.pie_cache.proofs.Kept.{gate_gone}
use Rattle.std.proofs.Common.{Ok}
use Rattle.pie_commit.proofs.Standing.{rests, told_both}
use Rattle.pie_cache.proofs.Gating.{both_gated, sync_gated, told_of, whole_begun, whole_changed, whole_ended}
use Rattle.pie_commit.specs.Outcomes.{IsAtRest}
use Rattle.pie_cache.proofs.Resting.{rests_from}
use Rattle.pie_cache.proofs.keeping.put_drafts.Goals as goal

pub returns-in_err-set-clause-outside : goal.returns-in_err-set-clause-outside
returns-in_err-set-clause-outside g c = record { kept = c.set.ensures.kept; crash = c.set.ensures.crash }

pub returns-in_err-write_all-clause-outside : goal.returns-in_err-write_all-clause-outside
returns-in_err-write_all-clause-outside g c =
    outside_both g.F.Files.holds g.F.Files.moment g.F.Files.left_since g.F.Files.images c.args.files.now c.set.new.files c.write_all.new.files
    (record { kept = c.set.ensures.kept; crash = c.set.ensures.crash }) (record { kept = c.write_all.ensures.kept; crash = c.write_all.ensures.crash })

pub returns-in_err-make_last-clause-outside : goal.returns-in_err-make_last-clause-outside
returns-in_err-make_last-clause-outside g c =
    outside_both g.F.Files.holds g.F.Files.moment g.F.Files.left_since g.F.Files.images c.args.files.now c.set.new.files c.make_last.new.files
    (record { kept = c.set.ensures.kept; crash = c.set.ensures.crash })
    (outside_both g.F.Files.holds g.F.Files.moment g.F.Files.left_since g.F.Files.images c.set.new.files c.write_all.new.files c.make_last.new.files
    (record { kept = c.write_all.ensures.kept; crash = c.write_all.ensures.crash })
    (record { kept = c.make_last.ensures.kept; crash = c.make_last.ensures.crash }))

pub returns-clause-outside : goal.returns-clause-outside
returns-clause-outside g c =
    outside_both g.F.Files.holds g.F.Files.moment g.F.Files.left_since g.F.Files.images c.args.files.now c.set.new.files c.close.new.files
    (record { kept = c.set.ensures.kept; crash = c.set.ensures.crash })
    (outside_both g.F.Files.holds g.F.Files.moment g.F.Files.left_since g.F.Files.images c.set.new.files c.write_all.new.files c.close.new.files
    (record { kept = c.write_all.ensures.kept; crash = c.write_all.ensures.crash })
    (outside_both g.F.Files.holds g.F.Files.moment g.F.Files.left_since g.F.Files.images c.write_all.new.files c.make_last.new.files c.close.new.files
    (record { kept = c.make_last.ensures.kept; crash = c.make_last.ensures.crash }) (record { kept = c.close.ensures.kept; crash = c.close.ensures.crash })))

pub returns-in_err-set-clause-makes : goal.returns-in_err-set-clause-makes
returns-in_err-set-clause-makes g c =
    let e = c.in_err-set.field-0.0 in
    let failed : Err e ≡ c.from_residual.result = search rules in
    subst (λ r. Makes g.F.Files.asked (putting c.args.drafts.now) c.args.files.now c.set.new.files r) failed
    (makes_stops g.F.Files.asked e (Writes gate ∷ Syncs ∷ []) (writing c.args.drafts.now ++ (Syncs ∷ closing)) c.args.files.now c.set.new.files
    c.in_err-set.ensures.makes)

pub returns-in_err-write_all-clause-makes : goal.returns-in_err-write_all-clause-makes
returns-in_err-write_all-clause-makes g c =
    let e = c.in_err-write_all.field-0.0 in
    let failed : Err e ≡ c.from_residual-in_err-write_all.result = search rules in
    subst (λ r. Makes g.F.Files.asked (putting c.args.drafts.now) c.args.files.now c.write_all.new.files r) failed
    (makes_then g.F.Files.asked (Err e) c.in_ok-set.field-0 (Writes gate ∷ Syncs ∷ []) (writing c.args.drafts.now ++ (Syncs ∷ closing)) c.args.files.now
    c.set.new.files c.write_all.new.files c.in_ok-set.ensures.makes
    (makes_stops g.F.Files.asked e (writing c.args.drafts.now) (Syncs ∷ closing) c.set.new.files c.write_all.new.files c.in_err-write_all.ensures.makes))

pub returns-in_err-make_last-clause-makes : goal.returns-in_err-make_last-clause-makes
returns-in_err-make_last-clause-makes g c =
    let e = c.in_err-make_last.field-0.0 in
    let failed : Err e ≡ c.from_residual-in_err-make_last.result = search rules in
    subst (λ r. Makes g.F.Files.asked (putting c.args.drafts.now) c.args.files.now c.make_last.new.files r) failed
    (makes_then g.F.Files.asked (Err e) c.in_ok-set.field-0 (Writes gate ∷ Syncs ∷ []) (writing c.args.drafts.now ++ (Syncs ∷ closing)) c.args.files.now
    c.set.new.files c.make_last.new.files c.in_ok-set.ensures.makes
    (makes_then g.F.Files.asked (Err e) c.in_ok-write_all.field-0 (writing c.args.drafts.now) (Syncs ∷ closing) c.set.new.files c.write_all.new.files
    c.make_last.new.files c.in_ok-write_all.ensures.makes
    (makes_stops g.F.Files.asked e (Syncs ∷ []) closing c.write_all.new.files c.make_last.new.files c.in_err-make_last.ensures.makes)))

pub returns-clause-makes : goal.returns-clause-makes
returns-clause-makes g c =
    makes_then g.F.Files.asked c.close.result c.in_ok-set.field-0 (Writes gate ∷ Syncs ∷ []) (writing c.args.drafts.now ++ (Syncs ∷ closing)) c.args.files.now
    c.set.new.files c.close.new.files c.in_ok-set.ensures.makes
    (makes_then g.F.Files.asked c.close.result c.in_ok-write_all.field-0 (writing c.args.drafts.now) (Syncs ∷ closing) c.set.new.files
    c.write_all.new.files c.close.new.files c.in_ok-write_all.ensures.makes
    (makes_then g.F.Files.asked c.close.result c.in_ok-make_last.field-0 (Syncs ∷ []) closing c.write_all.new.files c.make_last.new.files
    c.close.new.files c.in_ok-make_last.ensures.makes c.close.ensures.makes))

pub returns-clause-done : goal.returns-clause-done
returns-clause-done g c =
    let drafts = c.args.drafts.now in
    let before = g.F.Files.holds c.args.files.now in
    let set = g.F.Files.holds c.set.new.files in
    let wrote = g.F.Files.holds c.write_all.new.files in
    let last = g.F.Files.holds c.make_last.new.files in
    let after = g.F.Files.holds c.close.new.files in
    on_ok c.close.result
    (λ closed. brought_as (λ q. later (at gate Gone q) (later (written drafts q) (at gate (Bytes []) q))) (λ q. later (at gate Gone q) (written drafts q))
    before after (gate_gone drafts)
    (brought_both (λ q. later (written drafts q) (at gate (Bytes []) q)) (at gate Gone) before last after
    (brought_still (λ q. later (written drafts q) (at gate (Bytes []) q)) before wrote last c.in_ok-make_last.ensures.same
    (brought_both (at gate (Bytes [])) (written drafts) before set wrote c.in_ok-set.ensures.done c.in_ok-write_all.ensures.done))
    closed)) c.close.ensures.done

pub returns-in_err-set-clause-whole : goal.returns-in_err-set-clause-whole
returns-in_err-set-clause-whole g c = whole_begun g.F.Files.holds g.F.Files.moment g.F.Files.left_since g.F.Files.images (written c.args.drafts.now) c.args.files.now c.set.new.files c.set.ensures.begun

pub returns-in_err-write_all-clause-whole : goal.returns-in_err-write_all-clause-whole
returns-in_err-write_all-clause-whole g c =
    whole_changed g.F.Files.holds g.F.Files.moment g.F.Files.left_since g.F.Files.images (written c.args.drafts.now) c.args.files.now c.set.new.files c.write_all.new.files
    (told_of (g.F.Files.holds c.args.files.now) (g.F.Files.holds c.set.new.files) c.in_ok-set.ensures.kept) c.in_ok-set.ensures.begun
    c.in_ok-set.ensures.stands c.write_all.ensures.gated

pub returns-in_err-make_last-clause-whole : goal.returns-in_err-make_last-clause-whole
returns-in_err-make_last-clause-whole g c =
    whole_changed g.F.Files.holds g.F.Files.moment g.F.Files.left_since g.F.Files.images (written c.args.drafts.now) c.args.files.now c.set.new.files c.make_last.new.files
    (told_of (g.F.Files.holds c.args.files.now) (g.F.Files.holds c.set.new.files) c.in_ok-set.ensures.kept) c.in_ok-set.ensures.begun
    c.in_ok-set.ensures.stands
    (both_gated g.F.Files.holds g.F.Files.moment g.F.Files.left_since g.F.Files.images c.set.new.files c.write_all.new.files c.make_last.new.files
    (told_of (g.F.Files.holds c.set.new.files) (g.F.Files.holds c.write_all.new.files) c.in_ok-write_all.ensures.kept) c.in_ok-write_all.ensures.gated
    (sync_gated g.F.Files.holds g.F.Files.moment g.F.Files.left_since g.F.Files.images c.write_all.new.files c.make_last.new.files c.make_last.ensures.may))

pub returns-clause-whole : goal.returns-clause-whole
returns-clause-whole g c =
    let drafts = c.args.drafts.now in
    let before = g.F.Files.holds c.args.files.now in
    let set = g.F.Files.holds c.set.new.files in
    let wrote = g.F.Files.holds c.write_all.new.files in
    let last = g.F.Files.holds c.make_last.new.files in
    let begun = told_of before set c.in_ok-set.ensures.kept in
    let went = told_of set wrote c.in_ok-write_all.ensures.kept in
    whole_ended g.F.Files.holds g.F.Files.moment g.F.Files.left_since g.F.Files.images (written drafts) c.args.files.now c.make_last.new.files c.close.new.files
    (brought_still (λ q. later (written drafts q) (at gate (Bytes []) q)) before wrote last c.in_ok-make_last.ensures.same
    (brought_both (at gate (Bytes [])) (written drafts) before set wrote c.in_ok-set.ensures.done c.in_ok-write_all.ensures.done))
    (rests (g.F.Files.images c.make_last.new.files) before wrote last (Ok c.in_ok-make_last.field-0) (told_both before set wrote begun went)
    c.in_ok-make_last.ensures.same c.in_ok-make_last.ensures.durable)
    c.close.ensures.ending
    (whole_changed g.F.Files.holds g.F.Files.moment g.F.Files.left_since g.F.Files.images (written drafts) c.args.files.now c.set.new.files c.make_last.new.files begun c.in_ok-set.ensures.begun c.in_ok-set.ensures.stands
    (both_gated g.F.Files.holds g.F.Files.moment g.F.Files.left_since g.F.Files.images c.set.new.files c.write_all.new.files c.make_last.new.files went c.in_ok-write_all.ensures.gated
    (sync_gated g.F.Files.holds g.F.Files.moment g.F.Files.left_since g.F.Files.images c.write_all.new.files c.make_last.new.files c.in_ok-make_last.ensures.may)))

pub returns-clause-durable : goal.returns-clause-durable
returns-clause-durable g c =
    let before = g.F.Files.holds c.args.files.now in
    let set = g.F.Files.holds c.set.new.files in
    let wrote = g.F.Files.holds c.write_all.new.files in
    let last = g.F.Files.holds c.make_last.new.files in
    rests_from (IsAtRest (g.F.Files.holds c.close.new.files) (g.F.Files.images c.close.new.files)) before last c.close.result
    (told_of before last (keeps_both before set last c.in_ok-set.ensures.kept
    (keeps_both set wrote last c.in_ok-write_all.ensures.kept c.in_ok-make_last.ensures.kept))) c.close.ensures.durable
