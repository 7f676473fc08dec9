use Rattle.std.proofs.Common.{◌≡◌, length, arith}
use Rattle.std.proofs.lemmas.Option.{slice_get_read}
use Rattle.pie_code.proofs.Following.{met_inside, done_more, done_all, grows_itself}
use Rattle.pie_code.proofs.Meeting.{grows_on}
use Rattle.pie_code.proofs.height_search.Search.run.Goals as goal

pub treat-requires-clause-place : goal.treat-requires-clause-place
treat-requires-clause-place c =
    let size : c.len.result ≡ length c.loop-next.self.met.items = omega (arith, c.len.ensures) in
    let there = slice_get_read c.loop-next.self.met.items c.len.result c.loop-next.next c.index.result.now size c.if-next-len.false c.index.ensures in
    met_inside c.args.code.now c.loop-next.self c.index.result.now.0 c.index.result.now.1 c.loop-next.invariant.0 (c.loop-next.next, there)

pub treat-requires-clause-met : goal.treat-requires-clause-met
treat-requires-clause-met c =
    let size : c.len.result ≡ length c.loop-next.self.met.items = omega (arith, c.len.ensures) in
    (c.loop-next.next, slice_get_read c.loop-next.self.met.items c.len.result c.loop-next.next c.index.result.now size c.if-next-len.false c.index.ensures)

pub loop-next-preserved : goal.loop-next-preserved
loop-next-preserved c =
    let size : c.len.result ≡ length c.loop-next.self.met.items = omega (arith, c.len.ensures) in
    let there = slice_get_read c.loop-next.self.met.items c.len.result c.loop-next.next c.index.result.now size c.if-next-len.false c.index.ensures in (
      c.in_ok-treat.ensures.search,
      grows_on c.args.self.now c.loop-next.self c.treat.new.self c.loop-next.invariant.1 c.in_ok-treat.ensures.grows,
      done_more c.args.code.now c.args.lows.now c.loop-next.self c.treat.new.self c.loop-next.next c.index.result.now.0 c.index.result.now.1
          c.in_ok-treat.ensures.grows (omega arith) there
          c.in_ok-treat.ensures.done c.loop-next.invariant.2,
    )

pub loop-next-init : goal.loop-next-init
loop-next-init c = (c.requires.search, grows_itself c.args.self.now, (λ i place height l is. absurd (omega arith)))

pub returns-then-next-len-clause-done : goal.returns-then-next-len-clause-done
returns-then-next-len-clause-done c = done_all c.args.code.now c.args.lows.now c.loop-next.self c.loop-next.next
    (omega (arith, c.len.ensures, c.if-next-len.true)) c.loop-next.invariant.2
