use Rattle.std.proofs.Common.{ap, ◌∙◌, append-nil}
use Rattle.pie_files.specs.declared.sure_files.Logged.TheVariants.{FailsAt}
use Rattle.pie_files.specs.inner.Memory.{asked_of}
use Rattle.pie_files.proofs.Asked.{asked_push}
use Rattle.pie_files.proofs.Leaving.{listed_still}
use Rattle.pie_files.proofs.mem_files.MemFiles.fail_at.Goals as goal

pub returns-clause-images : goal.returns-clause-images
returns-clause-images c =
    listed_still c.args.self.now.files.began c.note_failing.new.self.began c.args.self.now.files.log.items c.note_failing.new.self.log.items c.in_ok-kept.kept
    c.note_failing.ensures.began c.in_ok-note_failing.ensures.noted

pub returns-clause-noted : goal.returns-clause-noted
returns-clause-noted c = (c.in_ok-kept.kept, c.in_ok-kept.ensures.items_if_clones_equal (λ x y e. e), c.in_ok-note_failing.ensures.noted)

pub returns-clause-asked : goal.returns-clause-asked
returns-clause-asked c =
    let log = c.args.self.now.files.log.items in
    ap asked_of c.in_ok-note_failing.ensures.noted ∙ asked_push log (FailsAt c.in_ok-kept.kept) ∙ append-nil (asked_of log)
