use Rattle.std.proofs.lemmas.Result.{IfErr-weaker}
use Rattle.pie_words.proofs.Demos.{no_demo}
use Rattle.pie_words.proofs.demo.demo.Goals as goal

pub returns-in-Some-Some-clause-refused : goal.returns-in-Some-Some-clause-refused
returns-in-Some-Some-clause-refused c = IfErr-weaker c.of_numbers.result _ _ (λ fault bad. no_demo c.args.first.now c.args.seed.now c.args.size.now
    c.in-Some-Some.seed c.in-Some-Some.size c.in-Some-Some.ensures.said c.in-Some-Some.ensures.small c.in-Some-Some.ensures'.said
    c.in-Some-Some.ensures'.small bad) c.of_numbers.ensures.refused
