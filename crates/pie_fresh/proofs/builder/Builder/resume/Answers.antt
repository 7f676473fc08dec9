use Rattle.std.proofs.Common.{Some, refl, sym, ◌∙◌}
use Rattle.std.proofs.lemmas.List.Elements.{All-pop}
use Rattle.pie_fresh.specs.declared.builder.Builder.{Builder}
use Rattle.pie_fresh.specs.inner.Frames.{IsCaller}
use Rattle.pie_fresh.proofs.Finishing.{resumed, resumed_nearer}
use Rattle.pie_fresh.proofs.Resuming.{resumed_means, rested, nothing_left}
use Rattle.pie_fresh.proofs.builder.Builder.resume.Goals as goal

pub give-requires-clause-waits : goal.give-requires-clause-waits
give-requires-clause-waits c =
    ((All-pop (IsCaller c.args.self.now.ledger) c.args.self.now.stack.items c.pop.new.self.items (Some c.in-Some.caller) c.in-Some.ensures.items
    c.requires.stands.stack).1).waits

pub give-requires-clause-required : goal.give-requires-clause-required
give-requires-clause-required c =
    ((All-pop (IsCaller c.args.self.now.ledger) c.args.self.now.stack.items c.pop.new.self.items (Some c.in-Some.caller) c.in-Some.ensures.items
    c.requires.stands.stack).1).required

pub returns-in_ok-frame-in-Some-clause-steps : goal.returns-in_ok-frame-in-Some-clause-steps
returns-in_ok-frame-in-Some-clause-steps c =
    let popped : Builder = record {
      alloc = c.args.self.now.alloc;
      typed = c.args.self.now.typed;
      code = c.args.self.now.code;
      ledger = c.args.self.now.ledger;
      stack = c.pop.new.self;
    } in
    record {
      goes = resumed c.args.self.now popped c.in-Some.caller c.args.done.no.0 c.args.done.height c.in_ok-frame-in-Some.frame c.requires.stands
          c.in-Some.ensures.items refl refl c.requires.high c.requires.height c.in_ok-frame-in-Some.ensures.ready.0
          c.in_ok-frame-in-Some.ensures.ready.1;
      nearer = resumed_nearer c.args.self.now popped c.in-Some.caller c.args.done.no.0 c.args.done.height c.in_ok-frame-in-Some.frame
          c.in-Some.ensures.items refl c.in_ok-frame-in-Some.ensures.ready.1;
    }

pub returns-in_ok-frame-in-Some-clause-means : goal.returns-in_ok-frame-in-Some-clause-means
returns-in_ok-frame-in-Some-clause-means c = λ s H.
    resumed_means s c.args.self.now
    (record {
      alloc = c.args.self.now.alloc;
      typed = c.args.self.now.typed;
      code = c.args.self.now.code;
      ledger = c.args.self.now.ledger;
      stack = c.pop.new.self;
    })
    c.in-Some.caller c.args.done.no.0 c.args.done.height c.args.done.output c.in_ok-frame-in-Some.frame H c.in-Some.ensures.items refl
    (record { functions = H.there.functions; codes = H.there.codes; compiled = H.there.compiled; headings = H.there.headings })
    c.in_ok-frame-in-Some.ensures.told

pub returns-in-None-clause-means : goal.returns-in-None-clause-means
returns-in-None-clause-means c = λ s H.
    rested s c.args.self.now
    (record {
      alloc = c.args.self.now.alloc;
      typed = c.args.self.now.typed;
      code = c.args.self.now.code;
      ledger = c.args.self.now.ledger;
      stack = c.pop.new.self;
    })
    c.args.done.no.0 c.args.done.output H (nothing_left c.args.self.now.stack.items (sym c.args.self.now.stack.ok.0 ∙ c.in-None.ensures.cases.0))
    (nothing_left c.pop.new.self.items (sym c.pop.new.self.ok.0 ∙ c.in-None.ensures.cases.1)) refl
    (record { functions = H.there.functions; codes = H.there.codes; compiled = H.there.compiled; headings = H.there.headings })
