use Rattle.pie_store.proofs.WholeAgain.{text_sealed}
use Rattle.test_store.proofs.tests.written_after.Goals as goal

pub encode_store_after-requires-clause-before : goal.encode_store_after-requires-clause-before
encode_store_after-requires-clause-before c = text_sealed c.in_ok-_said._said c.args.before.now c.in_ok-_said.ensures.text
