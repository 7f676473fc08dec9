use Rattle.std.proofs.Common.{Bool, true, false, List, sym, ap, ◌∙◌}
use Rattle.std.specs.Prelude.{slice_index_or}
use Rattle.std.specs.Option.{option_copied}
use Rattle.pie_bottomup.proofs.Holding.{held_asked, held_changed, held_none}
use Rattle.pie_bottomup.proofs.state.Core.is_due.Goals as goal

pub returns-in_ok-touched-in-Some-clause-held : goal.returns-in_ok-touched-in-Some-clause-held
returns-in_ok-touched-in-Some-clause-held g c =
    held_asked (g.F.Files.holds c.args.files.now) c.args.self.now c.is_touched.new.named c.args.no.0 c.in-Some.rec.now c.in_ok-touched-in-Some.touched
    (sym c.get.ensures ∙ ap option_copied c.in-Some.is) c.is_touched.ensures.names c.in_ok-touched-in-Some.ensures.found
    c.in_ok-touched-in-Some.ensures.shows

pub returns-then-not-flag_of-clause-held : goal.returns-then-not-flag_of-clause-held
returns-then-not-flag_of-clause-held g c =
    held_changed (g.F.Files.holds c.args.files.now) c.args.self.now c.args.no.0 true
    (sym (ap (λ (flags : List Bool). slice_index_or flags c.args.no.0 false) c.as_slice.ensures.value) ∙ sym c.flag_of.ensures ∙ c.if-not-flag_of.true)

pub returns-in-None-clause-held : goal.returns-in-None-clause-held
returns-in-None-clause-held g c =
    held_none (g.F.Files.holds c.args.files.now) c.args.self.now c.args.no.0 true (sym c.get.ensures ∙ ap option_copied c.in-None.is)
