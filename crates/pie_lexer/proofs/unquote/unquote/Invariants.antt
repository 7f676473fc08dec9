use Rattle.std.proofs.Common.{◌≡◌, false, [], drop}
use Rattle.pie_lexer.specs.inner.Scanning.{scan}
use Rattle.pie_lexer.proofs.unquote.unquote.Given as goal

abbrev pub invariant-loop-i : goal.invariant-loop-i
invariant-loop-i l = scan l.scan (drop l.i l.rest) l.i ≡ scan ([], false) (drop 1 l.rest) 1
