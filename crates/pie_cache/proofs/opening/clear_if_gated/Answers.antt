use Rattle.std.proofs.Common.{subst, sym}
use Rattle.std.specs.Prelude.{IfSome}
use Rattle.pie_files.specs.Directory.{Directory, file_at}
use Rattle.std.specs.Prelude.{◌≡◌, is_some}
use Rattle.pie_cache.specs.inner.Gated.{HasGate}
use Rattle.pie_cache.proofs.Changing.{outside_both, outside_look}
use Rattle.pie_cache.proofs.Emptying.{found_gate, opens_then}
use Rattle.pie_cache.proofs.Resting.{rests_looked, rests_then}
use Rattle.pie_cache.proofs.opening.clear_if_gated.Goals as goal

pub clear-requires-clause-stands : goal.clear-requires-clause-stands
clear-requires-clause-stands g c =
    subst (λ o. IfSome o HasGate) (sym c.in_ok-exists.ensures.same)
    (found_gate (g.F.Files.holds c.args.files.now) c.in_ok-exists.field-0 c.if-branch.true
    (subst (λ p. IfSome (g.F.Files.holds c.args.files.now) (λ (d : Directory). c.in_ok-exists.field-0 ≡ is_some (file_at d p))) c.requires.is_gate
    c.in_ok-exists.ensures.found))

pub returns-in_err-exists-clause-outside : goal.returns-in_err-exists-clause-outside
returns-in_err-exists-clause-outside g c =
    outside_look g.F.Files.holds g.F.Files.moment g.F.Files.left_since g.F.Files.images c.args.files.now c.exists.new.self c.exists.ensures.same
    c.exists.ensures.crash

pub returns-then-branch-clause-outside : goal.returns-then-branch-clause-outside
returns-then-branch-clause-outside g c =
    outside_both g.F.Files.holds g.F.Files.moment g.F.Files.left_since g.F.Files.images c.args.files.now c.exists.new.self c.clear.new.files
    (outside_look g.F.Files.holds g.F.Files.moment g.F.Files.left_since g.F.Files.images c.args.files.now c.exists.new.self c.exists.ensures.same
    c.exists.ensures.crash) c.clear.ensures.outside

pub returns-clause-outside : goal.returns-clause-outside
returns-clause-outside g c =
    outside_look g.F.Files.holds g.F.Files.moment g.F.Files.left_since g.F.Files.images c.args.files.now c.exists.new.self c.exists.ensures.same
    c.exists.ensures.crash

pub returns-then-branch-clause-whole : goal.returns-then-branch-clause-whole
returns-then-branch-clause-whole g c =
    opens_then g.F.Files.holds g.F.Files.moment g.F.Files.left_since g.F.Files.images c.args.files.now c.exists.new.self c.clear.new.files
    c.in_ok-exists.ensures.same c.in_ok-exists.ensures.crash c.clear.ensures.whole

pub returns-then-branch-clause-durable : goal.returns-then-branch-clause-durable
returns-then-branch-clause-durable g c =
    rests_then g.F.Files.holds g.F.Files.moment g.F.Files.left_since g.F.Files.images c.args.files.now c.exists.new.self c.clear.new.files c.clear.result
    c.in_ok-exists.ensures.same c.clear.ensures.durable

pub returns-clause-durable : goal.returns-clause-durable
returns-clause-durable g c =
    rests_looked g.F.Files.holds g.F.Files.moment g.F.Files.left_since g.F.Files.images c.args.files.now c.exists.new.self c.in_ok-exists.ensures.same
    c.in_ok-exists.ensures.crash
