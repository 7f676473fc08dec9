use Rattle.std.proofs.Common.{length, refl, ap, arith}
use Rattle.pie_topdown.specs.inner.Turns.{still}
use Rattle.pie_topdown.proofs.Stacking.{grown_site}
use Rattle.pie_topdown.proofs.builder.Builder.keep_own.Goals as goal

pub returns-clause-steps : goal.returns-clause-steps
returns-clause-steps c =
    let mass = ap (λ ns. still (length ns)) c.in_ok-end.ensures.names in
    let places = ap length c.in_ok-end.ensures.names in
    record {
      turns = record {
        site = grown_site c.args.self.now _ c.requires.site c.in_ok-end.ensures.ledger c.in_ok-end.ensures.grows c.in_ok-end.ensures.names refl refl;
        hand = tt;
      };
      nearer = omega (arith, mass);
      fits = omega (arith, places);
      kept = record { plan = refl; grows = c.in_ok-end.ensures.grows };
    }
