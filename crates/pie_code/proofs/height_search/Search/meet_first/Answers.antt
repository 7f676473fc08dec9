use Rattle.std.proofs.Common.{refl}
use Rattle.pie_code.proofs.Meeting.{meets_first}
use Rattle.pie_code.proofs.height_search.Search.meet_first.Goals as goal

pub returns : goal.returns
returns c = meets_first c.args.self.now _ c.args.place c.args.height c.requires.indexed c.requires.unmet refl refl c.in_ok-push.ensures.items refl refl
