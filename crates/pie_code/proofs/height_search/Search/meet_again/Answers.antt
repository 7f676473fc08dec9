use Rattle.std.proofs.Common.{inl, inr, refl}
use Rattle.pie_code.proofs.Meeting.{meets_again, was_there}
use Rattle.pie_code.proofs.height_search.Search.meet_again.Goals as goal

pub returns-in_ok-push : goal.returns-in_ok-push
returns-in_ok-push c =
    meets_again c.args.self.now _ c.args.place c.args.height c.requires.indexed c.requires.otherwise refl c.min-self.ensures
    (λ q. c.in_ok-insert.ensures.updates.0 q)
    (inl c.in_ok-push.ensures.items) refl

pub returns-else-branch : goal.returns-else-branch
returns-else-branch c =
    meets_again c.args.self.now _ c.args.place c.args.height c.requires.indexed c.requires.otherwise refl c.min-self.ensures
    (λ q. c.in_ok-insert.ensures.updates.0 q)
    (inr (refl, was_there _ _ c.if-branch.false c.in_ok-insert.ensures.added)) refl
