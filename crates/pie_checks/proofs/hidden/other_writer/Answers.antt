use Rattle.std.proofs.Common.{◌∙◌, List, ℕ, subst}
use Rattle.pie_checks.specs.Searches.{IsPlaceOf}
use Rattle.pie_checks.proofs.HiddenFacts.{other_found, none_other}
use Rattle.pie_checks.proofs.hidden.other_writer.Goals as goal

pub returns-then-at-writes : goal.returns-then-at-writes
returns-then-at-writes c =
    other_found c.args.writes.now c.args.path.now c.args.reader c.place-at.result c.index-writes-at.result c.other_at.result c.requires.ordered
    c.requires.one_each
    (subst (λ (bs : List ℕ). IsPlaceOf bs c.args.writes.now c.place-at.result) (c.as_bytes.ensures.value ∙ c.as_str.ensures.text) c.place-at.ensures)
    c.if-at-writes.true c.index-writes-at.is c.other_at.ensures

pub returns-else-at-writes : goal.returns-else-at-writes
returns-else-at-writes c =
    none_other c.args.writes.now c.args.path.now c.args.reader c.place-at.result
    (subst (λ (bs : List ℕ). IsPlaceOf bs c.args.writes.now c.place-at.result) (c.as_bytes.ensures.value ∙ c.as_str.ensures.text) c.place-at.ensures)
    c.if-at-writes.false
