use Rattle.std.proofs.Common.{◌<◌, ◌≤◌, ℕ, get_or, arith, subst}
use Rattle.pie_code.specs.Effects.{pops}
use Rattle.pie_code.specs.Ways.{Leads}
use Rattle.pie_code.specs.Searches.{Meets}
use Rattle.pie_code.specs.declared.instr.Instr.TheVariants.{Tick}
use Rattle.pie_code.proofs.Following.{there_read, followed_there, search_on, followed_on, too_low, followed_past}
use Rattle.pie_code.proofs.height_search.Search.go_on.Goals as goal
use Rattle.pie_code.proofs.height_search.Search.go_on.Goals.{then-pops-height-via-then-pops-height, then-pops-height-via-else-pops-height+then-lows-place}

pub returns-then-pops-height-clause-followed : goal.returns-then-pops-height-clause-followed
returns-then-pops-height-clause-followed c =
    followed_there c.args.code.now c.args.lows.now c.args.self.now c.args.place c.args.height Tick
    (elim c.then-pops-height.branch [
      | then-pops-height-via-then-pops-height w ↦
          too_low c.args.code.now c.args.lows.now c.args.self.now (get_or c.args.code.now c.args.place Tick) c.args.place c.args.height
          (subst (λ (n : ℕ). c.args.height < n) c.pops.ensures w.if-pops-height.true)
      | then-pops-height-via-else-pops-height+then-lows-place w ↦
          followed_past c.args.code.now c.args.lows.now c.args.self.now
          (get_or c.args.code.now c.args.place Tick) c.args.place c.args.height w.if-lows-place.true
    ])

pub returns-clause-search : goal.returns-clause-search
returns-clause-search c =
    let le : pops (get_or c.args.code.now c.args.place Tick) ≤ c.args.height = omega (arith, c.pops.ensures) in
    let meets = subst
    (λ (n : ℕ).
    Meets (Leads c.args.place
    (get_or c.args.code.now c.args.place Tick)) n c.args.self.now c.follow.new.self) c.in_ok-next.ensures c.in_ok-follow.ensures in
    search_on c.args.code.now c.args.self.now c.follow.new.self (get_or c.args.code.now c.args.place Tick) c.args.place c.args.height c.requires.search
    (there_read c.args.code.now c.args.place Tick c.requires.place) c.requires.met le meets

pub returns-clause-followed : goal.returns-clause-followed
returns-clause-followed c =
    let meets = subst
    (λ (n : ℕ).
    Meets (Leads c.args.place
    (get_or c.args.code.now c.args.place Tick)) n c.args.self.now c.follow.new.self) c.in_ok-next.ensures c.in_ok-follow.ensures in
    followed_there c.args.code.now c.args.lows.now c.follow.new.self c.args.place c.args.height Tick
    (followed_on c.args.code.now c.args.lows.now c.args.self.now c.follow.new.self
    (get_or c.args.code.now c.args.place Tick) c.args.place c.args.height c.requires.search meets)
