use Rattle.std.proofs.Common.{[], sym, ◌∙◌}
use Rattle.pie_roots.specs.Kinds.{kinds_of}
use Rattle.pie_roots.proofs.OneRoot.{task_root, bad_root, some_tokens}
use Rattle.pie_roots.proofs.root.root_of.Goals as goal

pub returns-in-Ok : goal.returns-in-Ok
returns-in-Ok c =
    task_root (kinds_of c.args.tokens.now) c.in-Ok.task [] c.within_limits.result c.in-Ok.ensures
    (some_tokens c.args.tokens.now (sym c.is_empty.ensures ∙ c.if-is_empty.false)) c.within_limits.ensures

pub returns-in-Err-Bad : goal.returns-in-Err-Bad
returns-in-Err-Bad c =
    bad_root (kinds_of c.args.tokens.now) c.in-Err-Bad.field-0 c.in-Err-Bad.field-0-is c.in-Err-Bad.ensures
    (some_tokens c.args.tokens.now (sym c.is_empty.ensures ∙ c.if-is_empty.false))
