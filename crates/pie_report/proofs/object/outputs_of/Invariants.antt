use Rattle.std.proofs.Common.{◌≡◌, ◌++◌, drop, map}
use Rattle.serde_json.specs.View.{view}
use Rattle.pie_report.specs.Objects.{output_data}
use Rattle.pie_report.proofs.object.outputs_of.Given as goal

abbrev pub invariant-loop-output : goal.invariant-loop-output
invariant-loop-output l = map view l.items.items ++ map output_data (drop l.output-index l.outputs) ≡ map output_data l.outputs
