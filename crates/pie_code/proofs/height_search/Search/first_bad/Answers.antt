use Rattle.std.proofs.Common.{◌≤◌, arith, subst, ℕ}
use Rattle.pie_code.proofs.Covering.{alone_more, first_alone, first_bad_is, none_bad, not_true}
use Rattle.pie_code.proofs.height_search.Search.first_bad.Goals as goal

pub loop-at-preserved : goal.loop-at-preserved
loop-at-preserved c = alone_more c.args.code.now c.args.self.now c.loop-at.at (c.fits_alone.ensures.0 c.if-not-fits_alone.false) c.loop-at.invariant

pub returns-then-not-fits_alone : goal.returns-then-not-fits_alone
returns-then-not-fits_alone c =
    first_alone c.args.code.now c.args.lows.now c.args.self.now c.loop-at.at c.requires.search c.requires.lows c.requires.over
    (omega (arith, c.min-at-end.ensures)) c.loop-at.invariant
    (λ fits. not_true c.fits_alone.result c.if-not-fits_alone.true (c.fits_alone.ensures.1 fits))

pub returns-then-self : goal.returns-then-self
returns-then-self c =
    first_bad_is c.args.code.now c.args.lows.now c.args.self.now c.loop-at.at c.requires.search c.requires.lows c.requires.over
    (subst (λ (n : ℕ). n ≤ c.loop-at.at) c.min-at-end.ensures c.loop-at-test.false) c.loop-at.invariant
    c.if-self.true

pub returns-else-self : goal.returns-else-self
returns-else-self c =
    none_bad c.args.code.now c.args.lows.now c.args.self.now c.loop-at.at c.requires.search c.requires.lows c.requires.over
    (subst (λ (n : ℕ). n ≤ c.loop-at.at) c.min-at-end.ensures c.loop-at-test.false) c.loop-at.invariant
    c.if-self.false
