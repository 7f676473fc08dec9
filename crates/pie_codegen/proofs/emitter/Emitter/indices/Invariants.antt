use Rattle.std.proofs.Common.{◌≡◌, ◌++◌, drop}
use Rattle.pie_codegen.specs.Spots.{after_indices}
use Rattle.pie_codegen.specs.Compiled.{indices_code}
use Rattle.pie_codegen.proofs.emitter.Emitter.indices.Given as goal

abbrev pub invariant-loop-one : goal.invariant-loop-one
invariant-loop-one l = record {
  spot : after_indices (drop l.one-index l.indices) l.spot ≡ after_indices l.indices l.fn.spot;
  code : l.self.code.items ++ indices_code (drop l.one-index l.indices) ≡ l.fn.self.code.items ++ indices_code l.indices;
  texts : l.self.texts.items ≡ l.fn.self.texts.items;
  names : l.self.names ≡ l.fn.self.names;
}
