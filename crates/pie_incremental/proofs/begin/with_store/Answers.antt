use Rattle.std.proofs.Common.{rules, refl}
use Rattle.pie_incremental.specs.inner.Asked.{IsProjectFile}
use Rattle.pie_incremental.proofs.Asking.{looks_not}
use Rattle.pie_incremental.proofs.begin.with_store.Goals as goal

pub returns : goal.returns
returns g c = record {
  starts = search rules;
  whole = search rules;
  asks = looks_not IsProjectFile (g.F.Files.asked c.args.files.now) (g.F.Files.asked c.args.files.now) refl;
  reads = search rules;
}
