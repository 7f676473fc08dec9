use Rattle.std.proofs.Common.{subst, ◌<◌, ◌^◌, List, length}
use Rattle.std.specs.Prelude.{All}
use Rattle.pie_record.specs.Canonical.{IsTruePath}
use Rattle.pie_scan.specs.declared.entry.Entry.{Entry}
use Rattle.pie_scan.specs.Texts.{IsTrueEntry}
use Rattle.pie_scan.proofs.Wholes.{written_parts}
use Rattle.pie_scan.proofs.writer.put_body.Goals as goal

pub returns-clause-parts : goal.returns-clause-parts
returns-clause-parts c =
    let entries = c.in_ok-put_entries.ensures in
    written_parts c.args.manifest.now c.requires c.in_ok-put_hash.ensures.parts
    (subst (All IsTruePath) c.as_slice-2.ensures c.in_ok-put_tops.ensures.parts)
    (subst (λ (l : List Entry). length l < 2 ^ 64) c.as_slice-3.ensures entries.few) (subst (All IsTrueEntry) c.as_slice-3.ensures entries.parts)
