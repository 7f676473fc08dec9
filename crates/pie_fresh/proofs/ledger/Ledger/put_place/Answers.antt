use Rattle.std.proofs.Common.{sym, ◌∙◌, arith}
use Rattle.std.proofs.lemmas.List.{get_or_default}
use Rattle.pie_fresh.proofs.Placing.{bytes_of_record, placed_none, placed_more}
use Rattle.pie_fresh.proofs.ledger.Ledger.put_place.Goals as goal

pub bytes-requires : goal.bytes-requires
bytes-requires c = omega (arith, c.requires.ledger.heights, c.requires.number)

pub returns-in_ok-push-in-Some : goal.returns-in_ok-push-in-Some
returns-in_ok-push-in-Some c =
    placed_more c.args.self.now c.args.n c.in-Some._rec.now (c.index.result.now, c.in_ok-bytes-in-Some.bytes) c.args.places.now.items c.push.new.self.items
    (sym c.in-Some.ensures) (sym (c.index.ensures ∙ get_or_default c.args.self.now.heights.items c.args.n c.index.result.now 0 c.requires.number))
    (c.in_ok-bytes-in-Some.ensures.items
    ∙ bytes_of_record c.args.self.now c.args.n c.in-Some._rec.now _ c.requires.ledger (sym c.in-Some.ensures) c.bytes.ensures)
    c.in_ok-push-in-Some.ensures.items c.requires.places

pub returns-in-None : goal.returns-in-None
returns-in-None c = placed_none c.args.self.now c.args.n c.args.places.now.items (sym c.in-None.ensures) c.requires.places
