use Rattle.std.proofs.Common.{◌≡◌, ◌≤◌, ◌∷◌, ◌++◌, [], inr, length, sym, subst, rules}
use Rattle.std.specs.Prelude.{All}
use Rattle.std.proofs.lemmas.List.Elements.{All-push}
use Rattle.pie_cache.specs.inner.Contents.{IsDraft}
use Rattle.pie_cache.proofs.Kept.{added_draft}
use Rattle.pie_cache.proofs.drafting.add_text.Goals as goal

pub returns-clause-added : goal.returns-clause-added
returns-clause-added c =
    let fits : length c.args.text.items ≤ 16777216 = search rules in
    let is : c.push.new.self.items ≡ c.args.drafts.now.items ++ (c.args.path, c.args.text) ∷ [] = search rules in
    added_draft c.args.drafts.now.items c.push.new.self.items c.args.path c.args.text fits is

pub returns-clause-drafts : goal.returns-clause-drafts
returns-clause-drafts c =
    let is : c.push.new.self.items ≡ c.args.drafts.now.items ++ (c.args.path, c.args.text) ∷ [] = search rules in
    subst (All IsDraft) (sym is) (All-push IsDraft c.args.drafts.now.items (c.args.path, c.args.text) c.requires.drafts c.requires.path)

pub returns-clause-adds : goal.returns-clause-adds
returns-clause-adds c =
    let is : c.push.new.self.items ≡ c.args.drafts.now.items ++ (c.args.path, c.args.text) ∷ [] = search rules in
    inr (c.args.text, is)
