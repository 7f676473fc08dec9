-- What is left has the same answer.
use Rattle.std.proofs.Common.{◌≡◌, length, reverse}
use denote.Text.{Utf8}
use denote.Shadow.{shadow}
use Rattle.pie_value.specs.BuiltinTexts.{after_spaces as spec_after_spaces}
use Rattle.pie_builtins.proofs.trims.before_spaces.Given as goal

abbrev pub decreases-loop-byte : goal.decreases-loop-byte
decreases-loop-byte l = length l.rest

abbrev pub invariant-loop-byte : goal.invariant-loop-byte
invariant-loop-byte l = shadow (Utf8 l.rest) × (spec_after_spaces (reverse l.rest) ≡ spec_after_spaces (reverse l.text))
