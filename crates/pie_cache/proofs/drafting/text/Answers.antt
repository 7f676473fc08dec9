use Rattle.pie_cache.proofs.Writing.{entries_kept}
use Rattle.pie_cache.proofs.drafting.text.Goals as goal

pub text_with-requires-clause-earlier : goal.text_with-requires-clause-earlier
text_with-requires-clause-earlier g c = entries_kept c.in_ok-earlier.earlier.items c.in_ok-earlier.ensures.good
