-- The tasks that wait, each for the one above it.
use Rattle.std.proofs.Common.{◌≡◌, ℕ, List, [], ◌∷◌, ◌++◌, Some, sym, ap, refl, ◌∙◌}
use Rattle.std.specs.Prelude.{slice_get}
use Rattle.pie_value.specs.declared.task.Task.{Task}
use Rattle.pie_running.specs.declared.frame.Caller.{Caller}
use Rattle.pie_fresh.specs.inner.Frames.{first_of, numbers_of, WaitInTurn}
use Rattle.pie_fresh.proofs.Rising.{get_kept}

pub numbers_push : (cs : List Caller) (w : Caller) → numbers_of (cs ++ w ∷ []) ≡ numbers_of cs ++ w.waiting.notes.number ∷ []
numbers_push [] w = refl
numbers_push (c ∷ cs) w = ap (λ ns. c.waiting.notes.number ∷ ns) (numbers_push cs w)

first_push : (cs : List Caller) (w : Caller) (top : ℕ) → first_of (cs ++ w ∷ []) top ≡ first_of cs w.waiting.notes.number
first_push [] w top = refl
first_push (c ∷ cs) w top = refl

pub turns_more : (names : List Task) (cs : List Caller) (w : Caller) (top : ℕ) → WaitInTurn names cs w.waiting.notes.number
    → slice_get names top ≡ Some w.required → WaitInTurn names (cs ++ w ∷ []) top
turns_more names [] w top h e = (e, tt)
turns_more names (c ∷ cs) w top h e = (ap (slice_get names) (first_push cs w top) ∙ h.0, turns_more names cs w top h.1 e)

pub turns_less : (names : List Task) (cs : List Caller) (w : Caller) (top : ℕ) → WaitInTurn names (cs ++ w ∷ []) top
    → WaitInTurn names cs w.waiting.notes.number × (slice_get names top ≡ Some w.required)
turns_less names [] w top h = (tt, h.0)
turns_less names (c ∷ cs) w top h =
    let rest = turns_less names cs w top h.1 in ((ap (slice_get names) (sym (first_push cs w top)) ∙ h.0, rest.0), rest.1)

pub turns_grow : (names rest : List Task) (cs : List Caller) (top : ℕ) → WaitInTurn names cs top → WaitInTurn (names ++ rest) cs top
turns_grow names rest [] top h = tt
turns_grow names rest (c ∷ cs) top h = (get_kept names rest (first_of cs top) c.required h.0, turns_grow names rest cs top h.1)
