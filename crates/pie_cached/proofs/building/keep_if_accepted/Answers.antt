use Rattle.std.proofs.Common.{inl, inr, map, refl, subst, sym}
use Rattle.pie_topdown_build.specs.inner.News.{as_told}
use Rattle.pie_value.specs.declared.verdict.Verdict.{Verdict}
use Rattle.pie_cached.proofs.Keeping.{none_kept}
use Rattle.pie_cached.specs.inner.News.{kept_of, KeepsTold}
use Rattle.pie_cache.proofs.Changing.{none_leaves}
use Rattle.pie_cache.proofs.Resting.{rests_none}
use Rattle.pie_cached.specs.inner.Crashes.{StopsKeeping}
use Rattle.pie_incremental.proofs.Crashing.{leaves_none}
use Rattle.pie_cached.proofs.building.keep_if_accepted.Goals as goal

pub returns-in-Refused-clause-cache : goal.returns-in-Refused-clause-cache
returns-in-Refused-clause-cache g c =
    let held = g.F.Files.holds c.args.files.now in
    subst (λ (v : Verdict). KeepsTold (kept_of v (map as_told c.args.new.items)) held held) (sym c.in-Refused.is) (none_kept held held refl)

pub returns-in-Refused-clause-whole : goal.returns-in-Refused-clause-whole
returns-in-Refused-clause-whole g c =
    leaves_none g.F.Files.holds g.F.Files.moment g.F.Files.left_since g.F.Files.images (StopsKeeping (kept_of c.args.verdict.now (map as_told c.args.new.items)))
    (λ d. inr (inl refl)) c.args.files.now

pub returns-in-Refused-clause-alike : goal.returns-in-Refused-clause-alike
returns-in-Refused-clause-alike g c = none_leaves g.F.Files.holds g.F.Files.moment g.F.Files.left_since g.F.Files.images c.args.files.now

pub returns-in-Refused-clause-durable : goal.returns-in-Refused-clause-durable
returns-in-Refused-clause-durable g c = rests_none g.F.Files.holds g.F.Files.moment g.F.Files.left_since g.F.Files.images c.args.files.now
