-- A text that is too long for a path.
use Rattle.std.proofs.Common.{◌≡◌, ℕ, ◌<◌, Bool, true, false, not, ◌&&◌, List, length, refl, arith}
use Rattle.std.specs.Prelude.{nat_lt}
use Rattle.pie_base.specs.Path.{is_path}

refused_second : (a b c : Bool) → b ≡ true → (not a && not b && c) ≡ false
refused_second true b c h = refl
refused_second false true c h = refl
refused_second false false c h = cc

pub long_is_no_path : (text : List ℕ) → 255 < length text → is_path text ≡ false
long_is_no_path text h = refused_second _ (nat_lt 255 (length text)) _ (grind arith)
