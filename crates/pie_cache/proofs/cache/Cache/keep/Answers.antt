use Rattle.pie_commit.proofs.Bringing.{on_ok}
use Rattle.std.proofs.Common.{ℕ, List, Vec, Global, subst}
use Rattle.std.specs.Prelude.{OnOk}
use Rattle.pie_commit.specs.Outcomes.{HasBrought}
use Rattle.pie_commit.specs.inner.Plans.{Wanted, Gone, at, later, written}
use Rattle.pie_cache.specs.inner.Places.{gate}
use Rattle.pie_cache.proofs.Changing.{outside_both, outside_none, outside_read}
use Rattle.pie_cache.proofs.Kept.{has_kept}
use Rattle.pie_commit.specs.inner.Steps.{Makes}
use Rattle.pie_cache.specs.inner.Steps.{putting, Changes}
use Rattle.pie_cache.proofs.Looking.{changes_by, changes_for, looks_then}
use Rattle.std.proofs.Common.{◌≡◌, inl, inr, refl, sym}
use Rattle.std.specs.Prelude.{IfSome}
use Rattle.pie_commit.proofs.Reading.{before_rest, then_rest}
use Rattle.pie_commit.specs.Outcomes.{LeavesFromRest}
use Rattle.pie_files.specs.Directory.{file_at}
use Rattle.pie_cache.specs.inner.Gated.{IsWhole, KeepsWhole}
use Rattle.pie_cache.specs.inner.Keeping.{kept, last_for}
use Rattle.pie_cache.proofs.Gating.{whole_as}
use Rattle.pie_cache.proofs.Resting.{rests_none, rests_then}
use Rattle.pie_cache.proofs.cache.Cache.keep.Goals as goal

pub returns-then-is_empty-clause-outside : goal.returns-then-is_empty-clause-outside
returns-then-is_empty-clause-outside g c = outside_none g.F.Files.holds g.F.Files.moment g.F.Files.left_since g.F.Files.images c.args.files.now

pub returns-in_err-gate-clause-outside : goal.returns-in_err-gate-clause-outside
returns-in_err-gate-clause-outside g c = outside_none g.F.Files.holds g.F.Files.moment g.F.Files.left_since g.F.Files.images c.args.files.now

pub returns-in_err-drafts-clause-outside : goal.returns-in_err-drafts-clause-outside
returns-in_err-drafts-clause-outside g c =
    outside_read g.F.Files.holds g.F.Files.moment g.F.Files.left_since g.F.Files.images c.args.files.now c.drafts.new.files c.drafts.ensures.reads.same
    c.drafts.ensures.reads.crash

pub returns-clause-outside : goal.returns-clause-outside
returns-clause-outside g c =
    outside_both g.F.Files.holds g.F.Files.moment g.F.Files.left_since g.F.Files.images c.args.files.now c.drafts.new.files c.put_drafts.new.files
    (outside_read g.F.Files.holds g.F.Files.moment g.F.Files.left_since g.F.Files.images c.args.files.now c.drafts.new.files
    c.in_ok-drafts.ensures.reads.same c.in_ok-drafts.ensures.reads.crash) c.put_drafts.ensures.outside

pub returns-clause-done : goal.returns-clause-done
returns-clause-done g c =
    let before = g.F.Files.holds c.args.files.now in
    let after = g.F.Files.holds c.put_drafts.new.files in
    let drafts = c.in_ok-drafts.drafts.items in
    let wants : List ℕ → Wanted = λ q. later (at gate Gone q) (written drafts q) in
    λ some. on_ok c.put_drafts.result (λ done. has_kept c.args.fresh.items drafts before after c.in_ok-drafts.ensures.made
    (subst (λ o. HasBrought wants o after) c.in_ok-drafts.ensures.reads.same done))
    (subst (λ (l : List (List ℕ × Vec ℕ Global)). OnOk c.put_drafts.result (HasBrought (λ q. later (at gate Gone q) (written l q)) (g.F.Files.holds c.drafts.new.files) after))
    c.as_slice.ensures.value c.put_drafts.ensures.done)

pub returns-clause-changes : goal.returns-clause-changes
returns-clause-changes g c =
    let A = g.F.Files.asked in
    let drafts = c.in_ok-drafts.drafts.items in
    let steps : OnOk c.put_drafts.result (Changes (putting drafts) (A c.drafts.new.files) (A c.put_drafts.new.files)) =
    changes_by A c.put_drafts.result (putting drafts) c.drafts.new.files c.put_drafts.new.files
    (subst (λ (l : List (List ℕ × Vec ℕ Global)). Makes A (putting l) c.drafts.new.files c.put_drafts.new.files c.put_drafts.result) c.as_slice.ensures.value
    c.put_drafts.ensures.makes) in
    λ some. on_ok c.put_drafts.result (λ made. changes_for c.args.fresh.items drafts (g.F.Files.holds c.args.files.now) (A c.args.files.now)
    (A c.put_drafts.new.files) c.in_ok-drafts.ensures.made c.in_ok-drafts.ensures.own
    (looks_then (putting drafts) (A c.args.files.now) (A c.drafts.new.files) (A c.put_drafts.new.files) c.in_ok-drafts.ensures.looks made)) steps

pub returns-clause-whole : goal.returns-clause-whole
returns-clause-whole g c =
    let fresh = c.args.fresh.items in
    let drafts = c.in_ok-drafts.drafts.items in
    let made : IfSome (g.F.Files.holds c.drafts.new.files) (λ d. (q : List ℕ) → written drafts q ≡ kept (last_for fresh q) (file_at d q)) =
    subst (λ o. IfSome o (λ d. (q : List ℕ) → written drafts q ≡ kept (last_for fresh q) (file_at d q))) (sym c.in_ok-drafts.ensures.reads.same)
    c.in_ok-drafts.ensures.made in
    then_rest g.F.Files.holds g.F.Files.moment g.F.Files.left_since g.F.Files.images (KeepsWhole fresh) (λ d. inr (inl refl)) c.args.files.now c.drafts.new.files c.put_drafts.new.files c.in_ok-drafts.ensures.reads.same
    c.in_ok-drafts.ensures.reads.crash
    (whole_as g.F.Files.holds g.F.Files.moment g.F.Files.left_since g.F.Files.images (written drafts) (λ d q. kept (last_for fresh q) (file_at d q)) c.drafts.new.files c.put_drafts.new.files made
    (subst (λ (l : List (List ℕ × Vec ℕ Global)). LeavesFromRest g.F.Files.holds g.F.Files.moment g.F.Files.left_since g.F.Files.images (IsWhole (written l)) c.drafts.new.files c.put_drafts.new.files) c.as_slice.ensures.value
    c.put_drafts.ensures.whole))

pub returns-in_err-drafts-clause-whole : goal.returns-in_err-drafts-clause-whole
returns-in_err-drafts-clause-whole g c =
    before_rest g.F.Files.holds g.F.Files.moment g.F.Files.left_since g.F.Files.images (KeepsWhole c.args.fresh.items) (λ d. inr (inl refl)) c.args.files.now c.drafts.new.files c.drafts.ensures.reads.crash

pub returns-then-is_empty-clause-durable : goal.returns-then-is_empty-clause-durable
returns-then-is_empty-clause-durable g c = rests_none g.F.Files.holds g.F.Files.moment g.F.Files.left_since g.F.Files.images c.args.files.now

pub returns-clause-durable : goal.returns-clause-durable
returns-clause-durable g c =
    rests_then g.F.Files.holds g.F.Files.moment g.F.Files.left_since g.F.Files.images c.args.files.now c.drafts.new.files c.put_drafts.new.files
    c.put_drafts.result c.in_ok-drafts.ensures.reads.same c.put_drafts.ensures.durable
