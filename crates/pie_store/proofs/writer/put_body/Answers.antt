use Rattle.std.proofs.Common.{subst}
use Rattle.std.specs.Prelude.{All}
use Rattle.pie_record.specs.Canonical.{IsTrueRecord}
use Rattle.pie_store.specs.Ranks.{IsStored}
use Rattle.pie_store.specs.Texts.{IsFunc}
use Rattle.pie_store.proofs.WholeAgain.{stored_parts}
use Rattle.pie_store.proofs.writer.put_body.Goals as goal

pub returns-clause-parts : goal.returns-clause-parts
returns-clause-parts c =
    stored_parts c.args.image.now c.requires (subst (All IsFunc) c.as_slice-2.ensures c.in_ok-put_funcs.ensures.parts)
    (subst (All IsStored) c.as_slice-3.ensures c.in_ok-put_tasks.ensures.parts)
    (subst (All IsTrueRecord) c.as_slice-4.ensures c.in_ok-put_rows.ensures.parts)
