-- What a test of a text says.
use Rattle.std.proofs.Common.{◌≡◌, ℕ, Bool, true, false, not, ◌&&◌, cond, List, refl}
use Rattle.std.specs.Prelude.{Some, None}
use Rattle.std.specs.Str.{IsUtf8, is_utf8}
use Rattle.std.proofs.lemmas.Str.{IsUtf8-from_is_utf8, is_utf8-from_IsUtf8}
use Rattle.pie_base.specs.Path.{refusal_of, is_path}
use Rattle.pie_base.specs.declared.path.PathError.{PathError}
use Rattle.pie_base.specs.declared.path.PathError.TheVariants.{Empty, TooLong, BadSegment}

by_cases : (b : Bool) → (b ≡ true → ⊥) → b ≡ false
by_cases true h = absurd (h refl)
by_cases false h = refl

pub not_utf8 : (bs : List ℕ) → ¬ (IsUtf8 bs) → is_utf8 bs ≡ false
not_utf8 bs h = by_cases (is_utf8 bs) (λ e. h (IsUtf8-from_is_utf8 bs e))

pub utf8 : (bs : List ℕ) → IsUtf8 bs → is_utf8 bs ≡ true
utf8 bs h = is_utf8-from_IsUtf8 bs h

-- the three tests of a path, one after the other
path_none : (a b c : Bool) → cond a (Some Empty) (cond b (Some TooLong) (cond c None (Some BadSegment))) ≡ None
    → (not a && not b && c) ≡ true
path_none true b c h = cc
path_none false true c h = cc
path_none false false true h = refl
path_none false false false h = cc

path_some : (a b c : Bool) (e : PathError) → cond a (Some Empty) (cond b (Some TooLong) (cond c None (Some BadSegment))) ≡ Some e
    → (not a && not b && c) ≡ false
path_some true b c e h = refl
path_some false true c e h = refl
path_some false false true e h = cc
path_some false false false e h = refl

pub path_taken : (bs : List ℕ) → refusal_of bs ≡ None → is_path bs ≡ true
path_taken bs h = path_none _ _ _ h

pub path_refused : (bs : List ℕ) (e : PathError) → refusal_of bs ≡ Some e → is_path bs ≡ false
path_refused bs e h = path_some _ _ _ e h
