use Rattle.std.proofs.Common.{rules}
use Rattle.std.proofs.lemmas.Iterator.Search.{all_from_yields_List}
use Rattle.std.proofs.lemmas.Iterator.Splits.{YieldsList-from_slice_split}
use Rattle.std.proofs.Common.{rules, tests}
use Rattle.pie_base.specs.Path.{is_slash, is_segment}
use Rattle.pie_base.proofs.path.all_segments.Goals as goal

pub returns : goal.returns
returns c = all_from_yields_List is_segment _ _ c.all.result c.all.ensures.ran
    (YieldsList-from_slice_split _ is_slash c.args.text.now c.split.ensures.rest c.split.ensures.done c.split.ensures.closure
    (λ x r q k. search (rules, tests)))
    (λ x b q k. search (rules, tests))
