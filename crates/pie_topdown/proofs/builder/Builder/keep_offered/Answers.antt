use Rattle.std.proofs.Common.{length, ◌∙◌, ap, subst, refl, arith}
use Rattle.pie_graph.specs.Numbers.{numbers}
use Rattle.pie_topdown.specs.declared.builder.Builder.{Builder}
use Rattle.pie_topdown.specs.declared.ledger.Ledger.{Ledger}
use Rattle.pie_topdown.specs.inner.Effects.{EndsIfNew}
use Rattle.pie_topdown.specs.inner.Offering.{StagesAll}
use Rattle.pie_topdown.specs.inner.Turns.{stack_mass, stack_room, still}
use Rattle.pie_topdown.proofs.Going.{grows_then, keeps_then}
use Rattle.pie_topdown.proofs.Stacking.{grown_site, same_keeps, same_site}
use Rattle.pie_topdown.proofs.Staging.{bytes_in}
use Rattle.pie_topdown.proofs.builder.Builder.keep_offered.Goals as goal

pub returns-clause-steps : goal.returns-clause-steps
returns-clause-steps c =
    let e = c.reuse.ensures.same in
    let names = c.runs.ensures.names ∙ c.in_ok-end.ensures.names in
    let grows = grows_then c.reuse.new.self.ledger c.end.new.self c.runs.new.self c.in_ok-end.ensures.grows c.runs.ensures.grows in
    let mass = ap (λ ns. still (length ns)) (names ∙ ap (λ b. b.ledger.tables.names) e) in
    let places = ap length (names ∙ ap (λ b. b.ledger.tables.names) e) in
    let waiting = ap (λ b. stack_mass b.stack.items) e in
    let checks = ap (λ b. stack_room b.stack.items) e in
    record {
      turns = record {
        site = grown_site c.reuse.new.self _
            (same_site c.args.self.now c.reuse.new.self (ap (λ b. b.plan) e) (ap (λ b. b.ledger) e) (ap (λ b. b.stack) e) c.requires.site)
            c.runs.ensures.ledger grows names refl refl;
        hand = tt;
      };
      nearer = omega (arith, mass, waiting);
      fits = omega (arith, places, checks);
      kept = keeps_then c.args.self.now c.reuse.new.self _ (same_keeps c.args.self.now c.reuse.new.self (ap (λ b. b.plan) e) (ap (λ b. b.ledger) e))
          (record { plan = refl; grows = grows });
    }

pub returns-clause-ended : goal.returns-clause-ended
returns-clause-ended c =
    let e = c.reuse.ensures.same in (
      record {
        between = c.end.new.self;
        ended = subst (λ (l : Ledger). EndsIfNew l c.args.no.0 c.args.rec (numbers c.args.required.items) c.end.new.self) (ap (λ b. b.ledger) e)
            c.in_ok-end.ensures.ends;
        marked = c.runs.ensures.started;
        ledger = c.runs.ensures.ledger;
        staged = subst (λ ws. StagesAll c.args.self.now.stage c.reuse.new.self.stage c.args.no.0 ws (bytes_in c.args.contents.items)) c.as_slice.ensures
            c.in_ok-reuse.ensures.staged;
        rest = ap (λ (b : Builder). record b { ledger = c.runs.new.self }) e;
      },
      refl,
    )
