use Rattle.pie_value.proofs.Escapes.{written_more}
use Rattle.pie_value.proofs.shown.put_escaped.Goals as goal

pub loop-c-preserved : goal.loop-c-preserved
loop-c-preserved c = written_more _ _ _ c.loop-c.yielded c.in-Some.c c.loop-c.invariant c.in_ok-put_char.ensures
