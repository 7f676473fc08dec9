-- Reading line after line.
use Rattle.std.proofs.Common.{◌≡◌, ◌+◌, ◌≤◌, ℕ, false, List, [], ◌∷◌, ◌++◌, None, Some, Err, map, length, sym, ap, ◌∙◌, arith}
use Rattle.std.specs.Prelude.{is_some}
use Rattle.std.proofs.lemmas.List.Splits.{length-slice_split}
use Rattle.std.proofs.lemmas.List.Sums.{count_by-le-length}
use Rattle.pie_script.specs.declared.fault.InputFault.{InputFault}
use Rattle.pie_script.specs.declared.fault.InputFault.TheVariants as fault
use Rattle.pie_script.specs.Line.{change_line, script_line, is_newline, texts}
use Rattle.pie_script.specs.Steps.{Plain, names, first_wrong, placed, steps}
use Rattle.pie_script.specs.Reading.{Reads, ReadsOne, change_lines, script_lines, most}
use Rattle.pie_script.specs.inner.Taking.{Taken, nothing, taken, taken_all, placed_one, closed, settled}
use Rattle.pie_script.proofs.TakingLemmas.{fine_here, wrong_here, steps_are}

-- an input has at most one line more than bytes
few_lines : (lines : List (List ℕ)) (bytes : List ℕ) → lines ≡ texts bytes → length bytes ≤ most → 1 + length lines ≤ most + 2
few_lines lines bytes all small = omega (
  arith,
  ap (λ (l : List (List ℕ)). length l) all,
  length-slice_split is_newline bytes,
  count_by-le-length is_newline bytes,
  small,
)

pub change_init : (items lines : List (List ℕ)) (bytes : List ℕ) → items ≡ [] → lines ≡ texts bytes → length bytes ≤ most
    → (items ++ names (map change_line lines) ≡ names (change_lines bytes)) × (first_wrong 1 (map change_line lines) ≡ first_wrong 1 (change_lines bytes))
    × (1 + length lines ≤ most + 2) × (length bytes ≤ most)
change_init items lines bytes none all small = (
  ap (λ (i : List (List ℕ)). i ++ names (map change_line lines)) none
      ∙ ap (λ (l : List (List ℕ)). names (map change_line l)) all,
  ap (λ (l : List (List ℕ)). first_wrong 1 (map change_line l)) all,
  few_lines lines bytes all small,
  small,
)

-- what stands between the lines that are taken and those that are left
abbrev pub Between : List (List ℕ) → Taken → ℕ → List ℕ → Type 0
Between lines s n bytes =
    (taken_all (map script_line lines) s ≡ taken_all (map script_line (texts bytes)) nothing)
    × (first_wrong n (placed (is_some s.under) (map script_line lines)) ≡ first_wrong 1 (script_lines bytes))
    × (n + length lines ≤ most + 2)
    × (length bytes ≤ most)

pub script_init : (s : Taken) (lines : List (List ℕ)) (bytes : List ℕ) → s ≡ nothing → lines ≡ texts bytes → length bytes ≤ most → Between lines s 1 bytes
script_init s lines bytes none all small = (
  ap (λ (x : Taken). taken_all (map script_line lines) x) none ∙ ap (λ (l : List (List ℕ)). taken_all (map script_line l) nothing) all,
  ap (λ (x : Taken). first_wrong 1 (placed (is_some x.under) (map script_line lines))) none
      ∙ ap (λ (l : List (List ℕ)). first_wrong 1 (placed false (map script_line l))) all,
  few_lines lines bytes all small,
  small,
)

pub script_step : (lines : List (List ℕ)) (text : List ℕ) (rest : List (List ℕ)) (s after : Taken) (n : ℕ) (bytes : List ℕ) → Between lines s n bytes
    → lines ≡ text ∷ rest → first_wrong n (placed_one (is_some s.under) (script_line text) ∷ []) ≡ None → after ≡ taken (script_line text) s
    → Between rest after (n + 1) bytes
script_step lines text rest s after n bytes so next fine is = (
  ap (λ (x : Taken). taken_all (map script_line rest) x) is ∙ sym (ap (λ (l : List (List ℕ)). taken_all (map script_line l) s) next) ∙ so.0,
  ap (λ (x : Taken). first_wrong (n + 1) (placed (is_some x.under) (map script_line rest))) is
      ∙ sym (fine_here n (script_line text) (map script_line rest) s fine)
      ∙ sym (ap (λ (l : List (List ℕ)). first_wrong n (placed (is_some s.under) (map script_line l))) next) ∙ so.1,
  omega (arith, ap (λ (l : List (List ℕ)). length l) next, so.2),
  so.3,
)

pub script_end : (lines : List (List ℕ)) (s after : Taken) (n : ℕ) (bytes : List ℕ) (found : List Plain) → Between lines s n bytes → lines ≡ []
    → after ≡ settled (closed s) → found ≡ after.done
    → (length bytes ≤ most) × (first_wrong 1 (script_lines bytes) ≡ None) × (found ≡ steps (script_lines bytes))
script_end lines s after n bytes found so none is done = (
  so.3,
  sym so.1 ∙ ap (λ (l : List (List ℕ)). first_wrong n (placed (is_some s.under) (map script_line l))) none,
  done ∙ ap (λ (x : Taken). x.done) is ∙ ap closed (sym (ap (λ (l : List (List ℕ)). taken_all (map script_line l) s) none) ∙ so.0)
      ∙ steps_are (map script_line (texts bytes)),
)

first_is : (e : InputFault) (s : Taken) (n : ℕ) (lines : List (List ℕ)) (text : List ℕ) (rest : List (List ℕ)) (bytes : List ℕ)
    → first_wrong n (placed_one (is_some s.under) (script_line text) ∷ []) ≡ Some e → lines ≡ text ∷ rest
    → first_wrong n (placed (is_some s.under) (map script_line lines)) ≡ first_wrong 1 (script_lines bytes) → first_wrong 1 (script_lines bytes) ≡ Some e
first_is e s n lines text rest bytes h next so =
    sym so ∙ ap (λ (l : List (List ℕ)). first_wrong n (placed (is_some s.under) (map script_line l))) next
    ∙ wrong_here n (is_some s.under) (script_line text) (map script_line rest) e h

-- the first line that can't be taken is the first wrong one
pub reads_err : (A leaves : Type 0) (value : A → List Plain) (e : InputFault) (s : Taken) (n : ℕ) (lines : List (List ℕ)) (text : List ℕ)
    (rest : List (List ℕ)) (bytes : List ℕ)
    → ReadsOne {A = Unit {0}} (Err e) (placed_one (is_some s.under) (script_line text)) n leaves → lines ≡ text ∷ rest
    → first_wrong n (placed (is_some s.under) (map script_line lines)) ≡ first_wrong 1 (script_lines bytes) → length bytes ≤ most
    → Reads {A = A} value steps (Err e) (script_lines bytes) (length bytes)
reads_err A leaves value fault.OutOfMemory s n lines text rest bytes h next so small = h
reads_err A leaves value fault.TooLong s n lines text rest bytes h next so small = absurd h
reads_err A leaves value (fault.NotText at) s n lines text rest bytes h next so small = (small, first_is (fault.NotText at) s n lines text rest bytes h next so)
reads_err A leaves value (fault.BadPath at) s n lines text rest bytes h next so small = (small, first_is (fault.BadPath at) s n lines text rest bytes h next so)
reads_err A leaves value (fault.BadWord at) s n lines text rest bytes h next so small = (small, first_is (fault.BadWord at) s n lines text rest bytes h next so)
