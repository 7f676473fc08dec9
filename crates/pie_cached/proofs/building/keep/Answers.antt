use Rattle.std.proofs.Common.{ap, inl, inr, map, refl}
use Rattle.pie_cached.proofs.Keeping.{kept_told}
use Rattle.pie_cache.proofs.Changing.{none_leaves}
use Rattle.pie_cached.proofs.Stopping.{keeping_told}
use Rattle.pie_cached.specs.inner.Crashes.{StopsKeeping}
use Rattle.pie_incremental.proofs.Crashing.{leaves_none}
use Rattle.pie_topdown_build.specs.inner.News.{as_told}
use Rattle.pie_cached.proofs.building.keep.Goals as goal

pub returns-clause-cache : goal.returns-clause-cache
returns-clause-cache g c =
    kept_told c.args.new.items c.in_ok-fresh.fresh.items c.in_ok-fresh.ensures.placed c.in_ok-fresh.ensures.news (g.F.Files.holds c.args.files.now)
    (g.F.Files.holds c.keep.new.files) c.keep.result (λ none. ap (λ s. g.F.Files.holds s) (c.keep.ensures.nothing none)) c.keep.ensures.done

pub returns-clause-rest : goal.returns-clause-rest
returns-clause-rest g c = c.keep.ensures.outside.kept

pub returns-clause-alike : goal.returns-clause-alike
returns-clause-alike g c = c.keep.ensures.outside.crash

pub returns-clause-whole : goal.returns-clause-whole
returns-clause-whole g c =
    keeping_told g.F.Files.holds g.F.Files.moment g.F.Files.left_since g.F.Files.images c.args.new.items c.in_ok-fresh.fresh.items c.in_ok-fresh.ensures.placed
    c.in_ok-fresh.ensures.news c.args.files.now c.keep.new.files c.keep.ensures.whole

pub returns-in_err-fresh-clause-whole : goal.returns-in_err-fresh-clause-whole
returns-in_err-fresh-clause-whole g c =
    leaves_none g.F.Files.holds g.F.Files.moment g.F.Files.left_since g.F.Files.images (StopsKeeping (map as_told c.args.new.items)) (λ d. inr (inl refl))
    c.args.files.now

pub returns-in_err-fresh-clause-alike : goal.returns-in_err-fresh-clause-alike
returns-in_err-fresh-clause-alike g c = none_leaves g.F.Files.holds g.F.Files.moment g.F.Files.left_since g.F.Files.images c.args.files.now
