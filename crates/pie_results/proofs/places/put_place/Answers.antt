use Rattle.std.proofs.Common.{sym, ◌∙◌, refl, get_or}
use Rattle.pie_results.proofs.Placing.{placed_more, placed_undone}
use Rattle.pie_results.proofs.places.put_place.Goals as goal

pub returns-in_ok-insert-in-Some : goal.returns-in_ok-insert-in-Some
returns-in_ok-insert-in-Some c = λ live seen is_live a.
    placed_more c.args.tables.now.records c.args.heights.now live seen c.args.no.0 c.in-Some.rec.now
    (get_or c.args.heights.now c.args.no.0 0, c.in_ok-bytes-in-Some.bytes) c.args.places.now.entries c.insert.new.self.entries is_live (sym c.in-Some.ensures)
    (sym c.is_done.ensures ∙ c.if-is_done.true) refl c.in_ok-bytes-in-Some.ensures.bytes c.in_ok-insert-in-Some.ensures.entries
    c.in_ok-insert-in-Some.ensures.ordered a

pub returns-else-is_done : goal.returns-else-is_done
returns-else-is_done c = λ live seen is_live a.
    placed_undone c.args.tables.now.records c.args.heights.now live seen c.args.no.0 c.in-Some.rec.now c.args.places.now.entries
    (sym c.in-Some.ensures) (sym c.is_done.ensures ∙ c.if-is_done.false) a
