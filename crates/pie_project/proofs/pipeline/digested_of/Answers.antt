use Rattle.std.proofs.Common.{◌≤◌, length, ap, arith}
use Rattle.pie_project.specs.declared.pipeline.Digested.{Digested}
use Rattle.pie_project.specs.Fronts.{most}
use Rattle.pie_project.proofs.OneFront.{only_too_long, only_no_text}
use Rattle.pie_project.proofs.Finding.{text_so}
use Rattle.pie_project.proofs.Digesting.{digested_bytes}
use Rattle.pie_project.proofs.pipeline.digested_of.Goals as goal

pub returns-then-bytes-gt-MAX_PIPELINE_BYTES-clause-found : goal.returns-then-bytes-gt-MAX_PIPELINE_BYTES-clause-found
returns-then-bytes-gt-MAX_PIPELINE_BYTES-clause-found c = only_too_long c.args.bytes.now (omega (arith, c.if-bytes-gt-MAX_PIPELINE_BYTES.true))

pub returns-in-Ok-clause-found : goal.returns-in-Ok-clause-found
returns-in-Ok-clause-found c =
    let small : length c.args.bytes.now ≤ most = omega (arith, c.if-bytes-gt-MAX_PIPELINE_BYTES.false) in
    text_so (λ (p : Digested). p.typed) c.args.bytes.now c.in-Ok.text.now c.of_text.result small c.in-Ok.ensures.cases.0 c.in-Ok.ensures.cases.1
    c.of_text.ensures.found

pub returns-in-Err-clause-found : goal.returns-in-Err-clause-found
returns-in-Err-clause-found c =
    let small : length c.args.bytes.now ≤ most = omega (arith, c.if-bytes-gt-MAX_PIPELINE_BYTES.false) in
    only_no_text c.args.bytes.now small c.in-Err.ensures.cases.0

pub of_text-requires : goal.of_text-requires
of_text-requires c = omega (arith, ap length c.in-Ok.ensures.cases.0, c.if-bytes-gt-MAX_PIPELINE_BYTES.false)

pub returns-in-Ok-clause-digested : goal.returns-in-Ok-clause-digested
returns-in-Ok-clause-digested c = digested_bytes c.in-Ok.text.now c.args.bytes.now c.of_text.result c.in-Ok.ensures.cases.0 c.of_text.ensures.digested
