use Rattle.std.proofs.Common.{refl, subst}
use Rattle.pie_running.specs.declared.frame.Caller.{Caller}
use Rattle.pie_fresh.specs.declared.builder.Builder.{Builder}
use Rattle.pie_fresh.specs.inner.Turns.{Begins, Begun}
use Rattle.pie_fresh.specs.inner.Means.{EntersAs}
use Rattle.pie_fresh.proofs.Entering.{descended, descended_nearer}
use Rattle.pie_fresh.proofs.Starting.{descended_means, refused_means}
use Rattle.pie_fresh.proofs.builder.Builder.descend.Goals as goal

pub returns-in-Runs-clause-steps : goal.returns-in-Runs-clause-steps
returns-in-Runs-clause-steps c =
    let begun : Begun c.args.self.now c.enter.new.self c.args.required c.in-Runs.frame
    = subst (λ e. Begins c.args.self.now c.enter.new.self c.args.required e) c.in-Runs.is c.in_ok-frame.ensures.begins in
    let pushed : Builder = record {
      alloc = c.enter.new.self.alloc;
      typed = c.enter.new.self.typed;
      code = c.enter.new.self.code;
      ledger = c.enter.new.self.ledger;
      stack = c.push.new.self;
    } in
    let caller : Caller = record { waiting = c.args.waiting; required = c.args.required; how = c.args.how } in
    record {
      goes = descended c.args.self.now c.enter.new.self pushed c.args.required c.in-Runs.frame caller c.requires.awaits.stands begun refl
          c.in_ok-push-in-Runs.ensures.items refl refl
          (record { waits = c.requires.awaits.waits; required = c.requires.required.encodable; placed = c.requires.awaits.placed });
      nearer = descended_nearer c.args.self.now c.enter.new.self pushed c.args.required c.in-Runs.frame caller begun refl c.in_ok-push-in-Runs.ensures.items;
    }

pub returns-in-Runs-clause-means : goal.returns-in-Runs-clause-means
returns-in-Runs-clause-means c = λ s A.
    let E = subst (λ e. EntersAs s c.args.self.now c.enter.new.self c.args.required e) c.in-Runs.is
    (c.in_ok-frame.ensures.means s A.means.there A.means.table) in
    descended_means s c.args.self.now c.enter.new.self c.args.waiting c.args.required c.args.how A c.requires.awaits.waits.left c.requires.small
    (record {
      alloc = c.enter.new.self.alloc;
      typed = c.enter.new.self.typed;
      code = c.enter.new.self.code;
      ledger = c.enter.new.self.ledger;
      stack = c.push.new.self;
    })
    c.in-Runs.frame E.0 E.1 refl c.in_ok-push-in-Runs.ensures.items
    (record { functions = E.0.there.functions; codes = E.0.there.codes; compiled = E.0.there.compiled; headings = E.0.there.headings })

pub returns-clause-means : goal.returns-clause-means
returns-clause-means c = λ s A.
    refused_means s c.args.self.now c.enter.new.self c.args.waiting c.args.required c.args.how A c.requires.awaits.waits.left c.requires.small
    c.in-Refused.refusal
    (subst (λ e. EntersAs s c.args.self.now c.enter.new.self c.args.required e) c.in-Refused.is
    (c.in_ok-frame.ensures.means s A.means.there A.means.table))
