use Rattle.std.proofs.Common.{sym, ◌∙◌}
use Rattle.pie_running.proofs.Seeing.{presence_kept, presence_found}
use Rattle.pie_running.proofs.looking.presence.Goals as goal

pub returns-then-not-is_source-clause-sees : goal.returns-then-not-is_source-clause-sees
returns-then-not-is_source-clause-sees g c = λ d held.
    presence_kept d c.args.path.now (g.S.Shows.sees c.args.shows.now c.args.notes.now c.args.path.now) (sym c.under_out.ensures ∙ c.if-under_out.false)
    (sym c.is_source.ensures ∙ c.if-not-is_source.true)

pub returns-clause-sees : goal.returns-clause-sees
returns-clause-sees g c = λ d held.
    presence_found d c.args.path.now (g.S.Shows.sees c.args.shows.now c.args.notes.now c.args.path.now) (g.F.Files.holds c.args.files.now) c.in_ok-there.there
    (sym c.under_out.ensures ∙ c.if-under_out.false) (sym c.is_source.ensures ∙ c.if-not-is_source.false) held c.in_ok-there.ensures.found
