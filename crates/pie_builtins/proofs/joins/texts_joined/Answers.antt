-- Where all items are texts there is an answer, and elsewhere none.
use Rattle.std.proofs.Common.{◌≡◌, true, false, rules}
use Rattle.pie_value.specs.Values.{trees_of}
use Rattle.pie_builtins.specs.Gathered.{all_texts}
use Rattle.pie_builtins.proofs.Gathering.{texts_not_all, texts_all}
use Rattle.pie_builtins.proofs.joins.texts_joined.Goals as goal

pub returns-then-not-all_texts : goal.returns-then-not-all_texts
returns-then-not-all_texts c =
    let h : all_texts (trees_of c.args.items.now) ≡ false = search rules in
    rw (texts_not_all (trees_of c.args.items.now) c.args.between.now h, c.refused.ensures) (search rules)

pub returns : goal.returns
returns c =
    let h : all_texts (trees_of c.args.items.now) ≡ true = search rules in
    rw (texts_all (trees_of c.args.items.now) c.args.between.now h) c.all_joined.ensures
