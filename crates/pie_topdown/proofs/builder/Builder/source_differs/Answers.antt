use Rattle.std.proofs.Common.{sym, ◌∙◌}
use Rattle.pie_topdown.proofs.Passing.{asked_source}
use Rattle.pie_topdown.proofs.builder.Builder.source_differs.Goals as goal

pub returns-else-not-is_source-clause-asks : goal.returns-else-not-is_source-clause-asks
returns-else-not-is_source-clause-asks g c =
    asked_source (g.F.Files.holds c.args.files.now) c.args.self.now.named c.differs.new.self c.args.dep.now c.in-File.path c.differs.result c.in-File.is
    (sym c.is_source.ensures ∙ c.if-not-is_source.false) c.differs.ensures.compares c.differs.ensures.tells
