use Rattle.std.proofs.Common.{refl, sym, ◌∙◌}
use Rattle.pie_fresh.proofs.Finishing.{ended_stands_as}
use Rattle.pie_fresh.proofs.Leaving.{too_big, finishes_as, if_ok}
use Rattle.pie_fresh.proofs.Stepping.{steps_after, stopped_steps}
use Rattle.pie_fresh.proofs.builder.Builder.finish.Goals as goal

pub returns-then-not-is_small-clause-means : goal.returns-then-not-is_small-clause-means
returns-then-not-is_small-clause-means c = λ s E.
    too_big s c.args.self.now c.args.notes c.args.output c.failed.result c.into_task.result E (sym c.is_small.ensures.limits ∙ c.if-not-is_small.true)
    c.failed.ensures c.into_task.ensures

pub resume-requires-clause-stands : goal.resume-requires-clause-stands
resume-requires-clause-stands c =
    ended_stands_as c.args.self.now _ c.no.result.0 c.args.notes c.no.ensures c.in_ok-end.ensures.ends.ledger c.in_ok-end.ensures.ends.grows
    c.in_ok-end.ensures.names (_, c.in_ok-end.ensures.ends.puts) c.in_ok-end.ensures.ends.ended refl refl c.requires.stands

pub returns-then-not-is_small-clause-steps : goal.returns-then-not-is_small-clause-steps
returns-then-not-is_small-clause-steps c = stopped_steps _ c.args.self.now c.failed.result _ c.failed.ensures

pub returns-clause-steps : goal.returns-clause-steps
returns-clause-steps c =
    if_ok _ _ c.resume.result (λ t s. steps_after c.args.self.now
    (record {
      alloc = c.args.self.now.alloc;
      typed = c.args.self.now.typed;
      code = c.args.self.now.code;
      ledger = c.end.new.self;
      stack = c.args.self.now.stack;
    })
    c.resume.new.self c.args.notes.left t c.in_ok-end.ensures.names refl s) c.resume.ensures.steps

pub returns-clause-means : goal.returns-clause-means
returns-clause-means c =
    if_ok _ _ c.resume.result (finishes_as c.args.self.now _ c.args.notes c.args.output c.in_ok-copy.field-0 c.no.result.0 c.in_ok-_bytes._bytes.items
    (sym c.is_small.ensures.limits ∙ c.if-not-is_small.false) c.in_ok-_bytes.ensures.canonical c.in_ok-_bytes.ensures.bytes c.in_ok-end.ensures.names
    c.in_ok-end.ensures.ends.puts c.in_ok-end.ensures.ends.rows c.in_ok-end.ensures.stage refl refl refl c.no.ensures
    c.in_ok-copy.ensures c.resume.new.self) c.resume.ensures.means
