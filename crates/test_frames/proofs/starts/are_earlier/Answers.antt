use Rattle.test_frames.proofs.starts.are_earlier.Goals as goal

pub returns-then-are : goal.returns-then-are
returns-then-are c = c.needs_are_earlier-are.ensures.0 c.if-are.true
