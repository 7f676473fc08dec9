use Rattle.std.proofs.Common.{◌≤◌, List, ℕ, length, string_bytes, subst}
use Rattle.std.specs.Str.{IsUtf8}
use Rattle.pie_project.specs.Fronts.{most}
use Rattle.pie_project.specs.Refusals.{plain}
use Rattle.pie_explain.specs.Places.{BeginsWith, pipeline_place}
use Rattle.pie_inspect_cli.proofs.FirstRefusal.{says_pipeline}
use Rattle.pie_inspect_cli.proofs.checking.bad_pipeline.Goals as goal

-- src/checking.rt:54:1
pub returns-clause-told : goal.returns-clause-told
returns-clause-told g c = says_pipeline (g.F.Files.holds c.args.files.now) (plain c.args.fault) c.in_ok-told.told c.in_ok-bytes.bytes.items c.in_ok-bytes.ensures.read
    (subst (λ (b : List ℕ). IsUtf8 b → length b ≤ most → BeginsWith (pipeline_place b (plain c.args.fault)) (string_bytes c.in_ok-told.told.text)) c.as_slice.ensures.value c.in_ok-told.ensures.text)
    c.in_ok-told.ensures.status
