use Rattle.pie_code.specs.declared.instr.Instr.TheVariants.{Tick}
use Rattle.pie_code.proofs.Following.{there_read, judged_search, done_from}
use Rattle.pie_code.proofs.height_search.Search.treat.Goals as goal

pub go_on-requires-clause-search : goal.go_on-requires-clause-search
go_on-requires-clause-search c =
    judged_search c.args.code.now _ c.args.place c.args.height c.args.self.now c.judge.new.self
    (there_read c.args.code.now c.args.place Tick c.requires.place) c.requires.met c.requires.search c.judge.ensures

pub returns-clause-done : goal.returns-clause-done
returns-clause-done c =
    done_from c.args.code.now c.args.lows.now c.args.place c.args.height Tick c.args.self.now c.judge.new.self c.go_on.new.self c.judge.ensures
    c.in_ok-go_on.ensures.grows c.in_ok-go_on.ensures.followed
