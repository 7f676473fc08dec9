use Rattle.std.proofs.Common.{Err, refl, sym, ap, ◌∙◌}
use Rattle.pie_words.proofs.Apart.{same_command}
use Rattle.pie_words.specs.Commands.{texts_of, usage_text, words_of}
use Rattle.pie_base.specs.declared.status.Status.TheVariants as status
use Rattle.pie_cli.specs.Run.{IsNoScript}
use Rattle.pie_cli.specs.inner.Played.{HasNoScript}
use Rattle.pie_cli.proofs.Doing.{does_as, does_none}
use Rattle.pie_cli.proofs.Ending.{ends_by, ends_memory, ends_shown, not_shown}
use Rattle.pie_cli.proofs.Rest.{gains_none}
use Rattle.pie_cli.proofs.Statuses.{memory_is_no_answer}
use Rattle.pie_cli.proofs.top.run.Goals as goal

pub returns-in-Ok-clause-does : goal.returns-in-Ok-clause-does
returns-in-Ok-clause-does g c = λ command may is.
    does_as g.F.Files.holds g.F.Files.moment g.F.Files.left_since g.F.Files.images g.F.Files.asked g.F.Files.faults g.I.Source.left g.I.Source.faults
    c.in-Ok.command command c.args.files.now c.run_command.new.files c.args.input.now c.run_command.new.input
    (g.K.Sink.held c.args.out.now) (g.K.Sink.held c.run_command.new.out) c.run_command.result
    (same_command c.in-Ok.command command c.in-Ok.ensures.allowed may (sym c.in-Ok.ensures.accepted ∙ is)) c.run_command.ensures.does

pub returns-in-Ok-clause-usage : goal.returns-in-Ok-clause-usage
returns-in-Ok-clause-usage g c = λ none. absurd (none _ c.in-Ok.ensures.allowed c.in-Ok.ensures.accepted)

pub returns-in-Ok-clause-rest : goal.returns-in-Ok-clause-rest
returns-in-Ok-clause-rest g c = λ none. c.run_command.ensures.rest (
  λ json is. none.0 json (c.in-Ok.ensures.accepted ∙ ap words_of is),
  λ is. none.1 (c.in-Ok.ensures.accepted ∙ ap words_of is),
  λ is. none.2 (c.in-Ok.ensures.accepted ∙ ap words_of is),
)

pub returns-in-Ok-clause-ends : goal.returns-in-Ok-clause-ends
returns-in-Ok-clause-ends g c =
    ends_by (HasNoScript c.in-Ok.command) (IsNoScript (texts_of c.args.words.now)) _ _ (g.I.Source.faults c.args.input.now)
    (g.I.Source.faults c.run_command.new.input) _ _ (g.K.Sink.held c.args.out.now) (g.K.Sink.held c.run_command.new.out) c.run_command.result
    (λ none json is. none json (c.in-Ok.ensures.accepted ∙ ap words_of is)) c.run_command.ensures.ends

pub returns-in-Ok-clause-input : goal.returns-in-Ok-clause-input
returns-in-Ok-clause-input g c = λ none. c.run_command.ensures.input (
  λ json. (
    λ is. (none.0 json).0 (c.in-Ok.ensures.accepted ∙ ap words_of is),
    λ is. (none.0 json).1 (c.in-Ok.ensures.accepted ∙ ap words_of is),
  ),
  λ is. none.1 (c.in-Ok.ensures.accepted ∙ ap words_of is),
  λ is. none.2 (c.in-Ok.ensures.accepted ∙ ap words_of is),
)

pub returns-in-Err-Usage-clause-does : goal.returns-in-Err-Usage-clause-does
returns-in-Err-Usage-clause-does g c = λ command may is. absurd (c.in-Err-Usage.ensures.refused (ap Err c.in-Err-Usage.field-0-is) command may is)

pub returns-in-Err-Usage-clause-ends : goal.returns-in-Err-Usage-clause-ends
returns-in-Err-Usage-clause-ends g c =
    ends_shown (IsNoScript (texts_of c.args.words.now)) _ (g.I.Source.faults c.args.input.now) (g.I.Source.faults c.args.input.now) (g.K.Sink.faults c.args.out.now)
    (g.K.Sink.faults c.show.new.out) (g.K.Sink.held c.args.out.now) (g.K.Sink.held c.show.new.out) usage_text status.Usage c.show.result
    (λ is. absurd (cc)) (λ is. absurd (cc)) c.show.ensures.shown c.show.ensures.output c.show.ensures.steady refl

pub returns-in-Err-Usage-clause-input : goal.returns-in-Err-Usage-clause-input
returns-in-Err-Usage-clause-input g c = λ none. (
  refl,
  not_shown (g.K.Sink.held c.args.out.now) (g.K.Sink.held c.show.new.out) usage_text status.Usage
      c.show.result status.Input c.show.ensures.shown refl (λ is. absurd (cc)),
)

-- nothing was done
pub returns-in-Err-OutOfMemory-clause-does : goal.returns-in-Err-OutOfMemory-clause-does
returns-in-Err-OutOfMemory-clause-does g c = λ command may is.
    does_none g.F.Files.holds g.F.Files.moment g.F.Files.left_since g.F.Files.images g.F.Files.asked g.F.Files.faults g.I.Source.left g.I.Source.faults
    command c.args.files.now c.args.input.now (g.K.Sink.held c.args.out.now)

pub returns-in-Err-OutOfMemory-clause-usage : goal.returns-in-Err-OutOfMemory-clause-usage
returns-in-Err-OutOfMemory-clause-usage g c = λ none. record {
  usage = λ a. absurd (memory_is_no_answer a);
  prefix = gains_none (g.K.Sink.held c.args.out.now) usage_text;
  nothing_asked = refl;
}

pub returns-in-Err-OutOfMemory-clause-ends : goal.returns-in-Err-OutOfMemory-clause-ends
returns-in-Err-OutOfMemory-clause-ends g c =
    ends_memory (IsNoScript (texts_of c.args.words.now)) _ (g.I.Source.faults c.args.input.now) (g.I.Source.faults c.args.input.now) (g.K.Sink.faults c.args.out.now)
    (g.K.Sink.held c.args.out.now) (g.K.Sink.held c.args.out.now)

pub returns-in-Err-OutOfMemory-clause-input : goal.returns-in-Err-OutOfMemory-clause-input
returns-in-Err-OutOfMemory-clause-input g c = λ none. (refl, λ is. absurd (cc))
