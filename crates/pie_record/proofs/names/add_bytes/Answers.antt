use Rattle.std.proofs.Common.{Bool, ◌++◌, ◌∷◌, [], ap, ◌∙◌, cond}
use Rattle.pie_record.proofs.Naming.{added}
use Rattle.pie_record.proofs.names.add_bytes.Goals as goal

pub returns-clause-added : goal.returns-clause-added
returns-clause-added c =
    c.in_ok-insert.ensures.keys
    ∙ ap (λ (b : Bool). cond b c.args.keys.now.keys (c.args.keys.now.keys ++ c.args.bytes ∷ [])) (added _ c.args.bytes.items c.requires)
