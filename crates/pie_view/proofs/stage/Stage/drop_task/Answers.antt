use Rattle.std.proofs.Common.{◌∙◌, cond, None, ap}
use Rattle.std.specs.Ordering.{nat_cmp, is_eq}
use Rattle.pie_view.specs.Content.{Staged, content}
use Rattle.pie_view.proofs.Contents.{drops}
use Rattle.pie_view.proofs.stage.Stage.drop_task.Goals as goal

pub returns : goal.returns
returns c = λ n p.
    drops c.self.inside.tasks c.remove-files.new.self c.args.no.0 (λ q. c.remove-files.ensures.updates.0 q) n p
    ∙ ap (λ (s : Staged). cond (is_eq (nat_cmp c.args.no.0 n)) None (content s n p)) c.self.view_is
