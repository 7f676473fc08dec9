-- What is done, and then what the rest gives.
use Rattle.std.proofs.Common.{◌≡◌, ◌++◌, length, map}
use denote.Text.{Utf8}
use denote.Shadow.{shadow}
use Rattle.pie_value.specs.Tree.{TText}
use Rattle.pie_value.specs.BuiltinTexts.{pieces}
use Rattle.pie_builtins.proofs.pieces.all_pieces.Given as goal

abbrev pub decreases-loop-front : goal.decreases-loop-front
decreases-loop-front l = length l.rest

abbrev pub invariant-loop-front : goal.invariant-loop-front
invariant-loop-front l = shadow (Utf8 l.rest) × (l.items ++ map TText (pieces l.rest l.part) ≡ map TText (pieces l.text l.part))
