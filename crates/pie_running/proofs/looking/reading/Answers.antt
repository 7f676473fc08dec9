use Rattle.std.proofs.Common.{sym, ◌∙◌}
use Rattle.pie_running.proofs.Seeing.{reading_out, reading_source}
use Rattle.pie_running.proofs.looking.reading.Goals as goal

pub returns-then-under_out-clause-sees : goal.returns-then-under_out-clause-sees
returns-then-under_out-clause-sees g c = λ d held.
    reading_out d c.args.path.now (g.S.Shows.sees c.args.shows.now c.args.notes.now c.args.path.now) c.args.by c.in_ok-copied.field-0
    (sym c.under_out.ensures ∙ c.if-under_out.true) c.in_ok-copied.ensures.sees

pub returns-then-is_source-clause-sees : goal.returns-then-is_source-clause-sees
returns-then-is_source-clause-sees g c = λ d held.
    reading_source d c.args.path.now (g.S.Shows.sees c.args.shows.now c.args.notes.now c.args.path.now) c.args.by c.in_ok-seen.seen
    (sym c.under_out.ensures ∙ c.if-under_out.false) (sym c.is_source.ensures ∙ c.if-is_source.true) (c.in_ok-seen.ensures.sees d held)
