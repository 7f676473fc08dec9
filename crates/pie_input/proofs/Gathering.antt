-- An input while it is read.
use Rattle.std.proofs.Common.{◌≡◌, ◌+◌, ◌<◌, ◌≤◌, ◌∙◌, ◌++◌, ℕ, List, [], length, take, drop, true, false, arith, ap, sym, subst, refl}
use Rattle.std.specs.Prelude.{Option, None, Some, Result, Ok, Err, IfSome, IfOk}
use Rattle.std.proofs.lemmas.List.{append-nil, length-append, length-take-le}
use Rattle.pie_files.specs.Faults.{Rose}
use Rattle.pie_files.specs.Streams.{Counted}
use Rattle.pie_script.specs.Reading.{most}
use Rattle.pie_input.specs.inner.Reading.{HasRead, Gathers}
use Rattle.pie_input.specs.declared.input.Input.{Input}
use Rattle.pie_input.specs.declared.input.InputError.{InputError}

-- what was read and what is left are what was left at the start
abbrev pub AreParted : List ℕ → List ℕ → Option (List ℕ) → Type 0
AreParted all bytes after = (rest : List ℕ) × (after ≡ Some rest) × (bytes ++ rest ≡ all)

-- so far every piece was appended, and no call failed
pub record Gathering {S : Type 0} (left : S → Option (List ℕ)) (faults : S → ℕ) (IsInfallible : S → Type 0) (start now : S) (piece bytes : List ℕ)
    : Type 0 where
  pub room : 0 < length piece
  pub so_far : IfSome (left start) (λ all. AreParted all bytes (left now))
  pub steady : faults now ≡ faults start
  pub infallible : IsInfallible start → IsInfallible now × (faults now ≡ faults start)

-- nothing was read yet
pub begins : (start : Option (List ℕ)) (bytes : List ℕ) → bytes ≡ [] → IfSome start (λ all. AreParted all bytes start)
begins None bytes is = tt {0}
begins (Some all) bytes is = (all, refl, ap (λ b. b ++ all) is)

-- one piece more
pub goes_on : (start middle after : Option (List ℕ)) (old new : List ℕ) → IfSome start (λ all. AreParted all old middle)
    → IfSome middle (λ left. Gathers left old new after true) → IfSome start (λ all. AreParted all new after)
goes_on None middle after old new parted more = tt {0}
goes_on (Some all) middle after old new parted more =
    let found : Gathers parted.0 old new after true = subst (λ m. IfSome m (λ left. Gathers left old new after true)) parted.1 more in
    (found.0, found.1, found.2 ∙ parted.2)

-- the end
pub ends : (start middle after : Option (List ℕ)) (old new : List ℕ) → IfSome start (λ all. AreParted all old middle)
    → IfSome middle (λ left. Gathers left old new after false) → length old ≤ most
    → IfSome start (λ all. (new ≡ all) × (length all ≤ most) × (after ≡ Some []))
ends None middle after old new parted last few = tt {0}
ends (Some all) middle after old new parted last few =
    let found : Gathers parted.0 old new after false = subst (λ m. IfSome m (λ left. Gathers left old new after false)) parted.1 last in
    let whole : old ≡ all = sym (append-nil old) ∙ ap (λ r. old ++ r) (sym found.0) ∙ parted.2 in
    (found.1 ∙ whole, subst (λ bs. length bs ≤ most) whole few, found.2)

-- too many bytes
pub overflows : (start now : Option (List ℕ)) (bytes : List ℕ) → IfSome start (λ all. AreParted all bytes now) → most < length bytes
    → IfSome start (λ all. most < length all)
overflows None now bytes parted many = tt {0}
overflows (Some all) now bytes parted many =
    subst (λ t. most < length t) parted.2 (omega (arith, many, length-append bytes parted.0))

-- nothing is said of what was read where a call failed
pub none_read : (start after : Option (List ℕ)) (result : Result Input InputError) (e : InputError) → Err e ≡ result
    → IfSome start (λ bytes. IfOk result (HasRead bytes after))
none_read None after result e is = tt {0}
none_read (Some bytes) after (Ok found) e is = absurd (cc)
none_read (Some bytes) after (Err other) e is = tt {0}

-- the room of a piece stays
pub room_kept : (n : ℕ) (new old : List ℕ) → 0 < length old → length new ≡ length old → n ≡ length old
    → 0 < length (take n (new ++ drop (length new) old))
room_kept n new old room same is =
    let whole : length (new ++ drop (length new) old) ≡ length new + length (drop (length new) old) = length-append new (drop (length new) old) in
    let taken : length (take n (new ++ drop (length new) old)) ≡ n = length-take-le n (new ++ drop (length new) old) (omega (arith, whole, same, is)) in
    omega (arith, taken, room, is)

-- the count of a call that failed, from the start
pub failed_since : {S A B E : Type 0} (faults : S → ℕ) (failed e : E) (start middle after : S) → faults middle ≡ faults start
    → Counted {T = A} faults failed middle after (Err e) → Counted {T = B} faults failed start after (Err e)
failed_since {S} {A} {B} {E} faults failed e start middle after steady h = record {
  later = subst (λ n. n ≤ faults after) steady h.later;
  steady = tt {0};
  cause = λ is. subst (λ n. Rose n (faults after)) steady (h.cause (again is));
}
  where
    again : ◌≡◌ {A = Result B E} (Err e) (Err failed) → ◌≡◌ {A = Result A E} (Err e) (Err failed)
    again is = let same : e ≡ failed = cc in ap Err same

-- the count of a call that gave an answer, from the start
pub answered_since : {S A B E : Type 0} (faults : S → ℕ) (failed : E) (start middle after : S) (a : A) (b : B) → faults middle ≡ faults start
    → Counted {T = A} faults failed middle after (Ok a) → Counted {T = B} faults failed start after (Ok b)
answered_since faults failed start middle after a b steady h =
    let same : faults after ≡ faults start = h.steady ∙ steady in
    record { later = omega (arith, same); steady = same; cause = λ is. absurd (cc) }

-- the same where no more was called
pub answered_still : {S B E : Type 0} (faults : S → ℕ) (failed : E) (start after : S) (b : B) → faults after ≡ faults start
    → Counted {T = B} faults failed start after (Ok b)
answered_still faults failed start after b same = record { later = omega (arith, same); steady = same; cause = λ is. absurd (cc) }

-- an object that was sure at the start
pub sure_since : {S : Type 0} (faults : S → ℕ) (IsInfallible : S → Type 0) (start middle after : S)
    → (IsInfallible start → IsInfallible middle × (faults middle ≡ faults start))
    → (IsInfallible middle → IsInfallible after × (faults after ≡ faults middle)) → IsInfallible start → IsInfallible after × (faults after ≡ faults start)
sure_since faults IsInfallible start middle after first more sure =
    let before = first sure in let now = more before.0 in (now.0, now.1 ∙ before.1)
