use Rattle.std.proofs.Common.{Some, ℕ, length, ◌≡◌, ◌∙◌, sym, ap, subst, slice_get, arith}
use Rattle.std.proofs.lemmas.Option.{slice_get_read}
use Rattle.pie_code.specs.Searches.{Met}
use Rattle.pie_code.proofs.Meeting.{meets_nothing}
use Rattle.pie_code.proofs.height_search.Search.meet.Goals as goal

pub returns-then-other-height : goal.returns-then-other-height
returns-then-other-height c =
    let size : c.len.result ≡ length c.args.self.now.first.items = omega (arith, c.len.ensures) in
    let there = slice_get_read c.args.self.now.first.items c.len.result c.args.place c.index.result.now size c.if-place-len.false c.index.ensures in
    let first : slice_get c.args.self.now.first.items c.args.place ≡ Some (Some c.args.height) = there
    ∙ ap Some (c.in-Some.is ∙ ap Some c.if-other-height.true) in
    let met = c.requires.first c.args.place c.args.height first in
    meets_nothing c.args.self.now (λ to. to ≡ c.args.place) c.args.height c.requires
    (λ to e l. subst (λ (k : ℕ). Met c.args.self.now k c.args.height) (sym e) met)
