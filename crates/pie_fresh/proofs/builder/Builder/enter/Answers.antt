use Rattle.std.proofs.Common.{Some, None, refl, sym, ap, subst, ◌∙◌, ◌++◌, ◌∷◌, [], arith}
use Rattle.pie_base.specs.declared.fault.FaultKind.TheVariants as faults
use Rattle.pie_value.specs.declared.verdict.Refusal.TheVariants.{Fault}
use Rattle.pie_fresh.specs.inner.Ledgers.{IsNew}
use Rattle.pie_fresh.proofs.Growing.{enters_named, enters_started, started_same, starts_one, starts_same}
use Rattle.pie_fresh.proofs.Entering.{begun_is}
use Rattle.pie_fresh.proofs.Starting.{added, begun_frame, function_there, no_room, unknown_new}
use Rattle.pie_fresh.proofs.builder.Builder.enter.Goals as goal

pub returns-in_ok-frame-in-Some-clause-begins : goal.returns-in_ok-frame-in-Some-clause-begins
returns-in_ok-frame-in-Some-clause-begins c =
    begun_is c.args.self.now _ c.in-Some.code.now c.in_ok-frame-in-Some.frame c.args.task.now c.in_ok-no-in-Some.no.0 c.in_ok-no-in-Some.ensures.enters.ledger
    c.in_ok-no-in-Some.ensures.enters.grows
    (c.in_ok-no-in-Some.ensures.enters.names ∙ ap (λ t. c.args.self.now.ledger.names ++ t ∷ []) c.in_ok-copy-in-Some.ensures)
    c.in_ok-no-in-Some.ensures.ended.records
    c.in_ok-no-in-Some.ensures.ended.ended refl refl c.in-Some.ensures.known c.in_ok-no-in-Some.ensures.number c.in_ok-frame-in-Some.ensures.started

pub returns-then-len-clause-means : goal.returns-then-len-clause-means
returns-then-len-clause-means c = λ s there T.
    no_room s c.args.self.now c.args.task.now c.in_ok-_bytes._bytes.items T (omega (arith, c.if-len.true, c.len.ensures, c.requires.ledger.heights))
    c.requires.ledger.few c.in_ok-_bytes.ensures.canonical c.in_ok-_bytes.ensures.bytes c.requires.task.absent

pub returns-in_ok-frame-in-Some-clause-means : goal.returns-in_ok-frame-in-Some-clause-means
returns-in_ok-frame-in-Some-clause-means c = λ s there T.
    let A = added s c.args.self.now _ c.args.task.now there T
    (record { functions = there.functions; codes = there.codes; compiled = there.compiled; headings = there.headings })
    (c.in_ok-no-in-Some.ensures.enters.names ∙ ap (λ t. c.args.self.now.ledger.names ++ t ∷ []) c.in_ok-copy-in-Some.ensures)
    c.in_ok-no-in-Some.ensures.enters.rows
    c.in_ok-no-in-Some.ensures.ended.records c.in_ok-no-in-Some.ensures.ended.stage c.in_ok-no-in-Some.ensures.enters.tasks refl
    (omega (arith, c.if-len.false, c.len.ensures, c.requires.ledger.heights)) c.requires.task.absent in (
      A,
      begun_frame s c.args.self.now _ c.args.task.now c.in-Some.code.now c.in_ok-frame-in-Some.frame c.in_ok-no-in-Some.no.0 A T
          c.in_ok-no-in-Some.ensures.number
          (function_there s c.args.self.now c.args.task.now (Some c.in-Some.code.now) there c.in-Some.ensures.found)
          c.in_ok-frame-in-Some.ensures.started,
    )

pub returns-in_ok-copy-in-None-clause-means : goal.returns-in_ok-copy-in-None-clause-means
returns-in_ok-copy-in-None-clause-means c = λ s there T.
    unknown_new s c.args.self.now c.args.self.now c.args.task.now c.fault.result there.compiled
    (function_there s c.args.self.now c.args.task.now None there c.in-None.ensures.found)
    (c.fault.ensures ∙ ap (λ t. Fault (record { task = t; kind = faults.Unknown })) c.in_ok-copy-in-None.ensures)

pub returns-in_err-_bytes-clause-started : goal.returns-in_err-_bytes-clause-started
returns-in_err-_bytes-clause-started c = started_same _ _ _ _ _ refl refl

pub returns-then-len-clause-started : goal.returns-then-len-clause-started
returns-then-len-clause-started c = started_same _ _ _ _ _ refl refl

pub returns-in_err-copy-in-None-clause-started : goal.returns-in_err-copy-in-None-clause-started
returns-in_err-copy-in-None-clause-started c = started_same _ _ _ _ _ refl refl

pub returns-in_ok-copy-in-None-clause-started : goal.returns-in_ok-copy-in-None-clause-started
returns-in_ok-copy-in-None-clause-started c = started_same _ _ _ _ _ refl refl

pub returns-in_err-copy-in-Some-clause-started : goal.returns-in_err-copy-in-Some-clause-started
returns-in_err-copy-in-Some-clause-started c = started_same _ _ _ _ _ refl refl

pub returns-in_err-no-in-Some-clause-started : goal.returns-in_err-no-in-Some-clause-started
returns-in_err-no-in-Some-clause-started c = started_same _ _ _ _ _ c.in_err-no-in-Some.ensures.unchanged refl

pub returns-in_err-frame-in-Some-clause-started : goal.returns-in_err-frame-in-Some-clause-started
returns-in_err-frame-in-Some-clause-started c = record {
  enters = enters_named _ _ _ _ _ (omega (arith, c.if-len.false, c.len.ensures, c.requires.ledger.heights)) c.in_ok-no-in-Some.ensures.enters.names
      c.in_err-frame-in-Some.ensures.unchanged;
  starts = grind (arith, starts_same);
}

pub returns-in_ok-frame-in-Some-clause-started : goal.returns-in_ok-frame-in-Some-clause-started
returns-in_ok-frame-in-Some-clause-started c =
    let names = c.in_ok-no-in-Some.ensures.enters.names ∙ ap (λ t. c.args.self.now.ledger.names ++ t ∷ []) c.in_ok-copy-in-Some.ensures in
    record {
      enters = enters_started _ _ _ _ _ (omega (arith, c.if-len.false, c.len.ensures, c.requires.ledger.heights)) names c.in_ok-frame-in-Some.ensures.runs
          c.requires.task.encodable;
      starts = starts_one _ _ _ _ _ names c.in_ok-frame-in-Some.ensures.runs;
    }

pub add-requires-clause-task : goal.add-requires-clause-task
add-requires-clause-task c =
    subst (λ t. IsNew c.args.self.now.ledger.names t) (sym c.in_ok-copy-in-Some.ensures) c.requires.task
