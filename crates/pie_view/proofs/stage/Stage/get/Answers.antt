use Rattle.std.proofs.Common.{◌∙◌, Some, ap, sym}
use Rattle.std.specs.Option.{option_map, option_copied}
use Rattle.pie_view.specs.Content.{Staged, content}
use Rattle.pie_view.proofs.Contents.{at_files, content_is}
use Rattle.pie_view.proofs.stage.Stage.get.Goals as goal

pub returns-in_err-files : goal.returns-in_err-files
returns-in_err-files c =
    ap (option_map (λ bytes. bytes.now)) c.from_residual.ensures
    ∙ ap (λ o. at_files o c.args.path.now) (ap option_copied (sym c.in_err-files.was) ∙ c.get.ensures.value)
    ∙ sym (content_is c.self.inside.tasks c.args.no.0 c.args.path.now)
    ∙ ap (λ (s : Staged). content s c.args.no.0 c.args.path.now) c.self.view_is

pub returns-in_err-bytes : goal.returns-in_err-bytes
returns-in_err-bytes c =
    ap (option_map (λ bytes. bytes.now)) c.from_residual-in_err-bytes.ensures
    ∙ ap (option_map (λ v. v.items)) (ap option_copied (sym c.in_err-bytes.was) ∙ c.get-2.ensures.value)
    ∙ ap (λ o. at_files o c.args.path.now) (ap option_copied (sym c.in_ok-files.was) ∙ c.get.ensures.value)
    ∙ sym (content_is c.self.inside.tasks c.args.no.0 c.args.path.now)
    ∙ ap (λ (s : Staged). content s c.args.no.0 c.args.path.now) c.self.view_is

pub returns : goal.returns
returns c =
    ap Some c.as_slice.ensures.value
    ∙ ap (option_map (λ v. v.items)) (ap option_copied (sym c.in_ok-bytes.was) ∙ c.get-2.ensures.value)
    ∙ ap (λ o. at_files o c.args.path.now) (ap option_copied (sym c.in_ok-files.was) ∙ c.get.ensures.value)
    ∙ sym (content_is c.self.inside.tasks c.args.no.0 c.args.path.now)
    ∙ ap (λ (s : Staged). content s c.args.no.0 c.args.path.now) c.self.view_is
