-- Running of accepted code ends: each step brings it nearer to its end.
use Rattle.std.proofs.Common.{◌≡◌, inl, inr, ℕ, zero, suc, ◌+◌, ◌-◌, ◌*◌, ◌<◌, ◌≤◌, List, length, slice_get, Option, Some, refl, sym, ap, ◌∙◌, subst, arith}
use Rattle.std.proofs.Math.Nat.{add-mul, mul-le-mul_right}
use Rattle.std.proofs.lemmas.Bool.{cases_lt}
use Rattle.std.proofs.lemmas.Option.{slice_get_within, same_Some}
use Rattle.pie_value.specs.Tree.{Tree}
use Rattle.pie_value.specs.declared.event.Answer.{Answer}
use Rattle.pie_operators.specs.Domain.{Outcome, State}
use Rattle.pie_code.specs.declared.code.Code.{Code}
use Rattle.pie_code.specs.declared.instr.Each.{Each as EachLoop}
use Rattle.pie_code.specs.declared.instr.Instr.{Instr}
use Rattle.pie_code.specs.declared.instr.Instr.TheVariants.{Tick, Each}
use Rattle.pie_code.specs.Ways.{target, Leads}
use Rattle.pie_code.specs.Checked.{IsLoop, JumpsWell, IsAccepted}
use Rattle.pie_code.specs.Running.{Config, Turn, goes, ends, step, run, run_on, start}
use Rattle.pie_code.specs.Standing.{CountsTicks, Moves, Stands, IsReady}
use Rattle.pie_code.proofs.Jumping.{loop_or_none, tick_or_not}
use Rattle.pie_code.proofs.Safe.{ready, step_moves, step_stands, start_stands}

-- how far on a place is: twice the place, but the start of a loop stands just before the loop's end
abbrev pub rank_of : ℕ → Option Instr → ℕ
rank_of at (Some (Each e)) = 2 * e.end - 1
rank_of at found = 2 * at

abbrev pub rank : List Instr → ℕ → ℕ
rank code at = rank_of at (slice_get code at)

-- nothing at a tick, else one
abbrev pub lead_of : Option Instr → ℕ
lead_of (Some Tick) = 0
lead_of found = 1

rank_plain : (at : ℕ) (i : Instr) → ((e : EachLoop) → i ≡ Each e → ⊥) → rank_of at (Some i) ≡ 2 * at
rank_plain at (Each e) no_loop = absurd (no_loop e refl)
rank_plain at i no_loop = refl

lead_plain : (i : Instr) → (i ≡ Tick → ⊥) → lead_of (Some i) ≡ 1
lead_plain Tick no_tick = absurd (no_tick refl)
lead_plain i no_tick = refl

lead_le : (found : Option Instr) → lead_of found ≤ 1
lead_le (Some Tick) = omega arith
lead_le found = omega arith

rank_here : (code : List Instr) (at : ℕ) (i : Instr) → slice_get code at ≡ Some i → ((e : EachLoop) → i ≡ Each e → ⊥) → rank code at ≡ 2 * at
rank_here code at i is no_loop = ap (rank_of at) is ∙ rank_plain at i no_loop

rank_loop : (code : List Instr) (at : ℕ) (e : EachLoop) → IsLoop code at e → rank code at ≡ 2 * e.end - 1
rank_loop code at e is = ap (rank_of at) is

-- a place is at least as far on as its number says, and never past the end
rank_low : (code : List Instr) (at : ℕ) (i : Instr) → slice_get code at ≡ Some i → JumpsWell code at → 2 * at ≤ rank code at
rank_low code at i is well =
    elim (loop_or_none i) [
      | inr no_loop ↦ omega (arith, rank_here code at i is no_loop)
      | inl loop ↦
          let there : IsLoop code at loop.0 = is ∙ ap Some loop.1 in
          let l : at < loop.0.end = well.ends loop.0 there in
          omega (arith, rank_loop code at loop.0 there)
    ]

rank_high : (code : List Instr) (at : ℕ) (i : Instr) → slice_get code at ≡ Some i → JumpsWell code at → rank code at ≤ 2 * length code
rank_high code at i is well =
    elim (loop_or_none i) [
      | inr no_loop ↦ let l : at < length code = slice_get_within code at i is in omega (arith, rank_here code at i is no_loop)
      | inl loop ↦
          let there : IsLoop code at loop.0 = is ∙ ap Some loop.1 in
          let l : loop.0.end < length code = well.inside loop.0.end (Each loop.0, there, refl) in
          omega (arith, rank_loop code at loop.0 there)
    ]

-- running that goes neither to a tick comes further on
rank_rises : (code : List Instr) (at to : ℕ) (i j : Instr) → ((p : ℕ) → JumpsWell code p) → slice_get code at ≡ Some i → slice_get code to ≡ Some j
    → (j ≡ Tick → ⊥) → Leads at i to
    → rank code at < rank code to
rank_rises code at to i j well is js no_tick leads =
    elim (loop_or_none i) [
      | inl loop ↦ from_loop loop.0 (is ∙ ap Some loop.1) loop.1 leads
      | inr no_loop ↦ from_plain (rank_here code at i is no_loop) leads
    ]
  where
    low : 2 * to ≤ rank code to
    low = rank_low code to j js (well to)

    from_loop : (e : EachLoop) → IsLoop code at e → i ≡ Each e → Leads at i to → rank code at < rank code to
    from_loop e there same (inl next) =
        absurd (no_tick (same_Some j Tick (sym js ∙ subst (λ (k : ℕ). slice_get code k ≡ Some Tick) (sym next.1) ((well at).ticks e there))))
    from_loop e there same (inr jump) =
        let end : e.end ≡ to = same_Some e.end to (ap target (sym same) ∙ jump) in
        let l : at < e.end = (well at).ends e there in
        omega (arith, rank_loop code at e there, low)

    from_plain : rank code at ≡ 2 * at → Leads at i to → rank code at < rank code to
    from_plain is_rank (inl next) = let e = next.1 in omega (arith, is_rank, low)
    from_plain is_rank (inr jump) = elim (cases_lt at to) [
      | inl ahead ↦ omega (arith, is_rank, low)
      | inr back ↦
          let loop = (well at).back to (i, is, jump) back in
          let l : at < loop.0.end = (well to).closes loop.0 at loop.1 (i, is, jump) back in
          omega (arith, is_rank, rank_loop code to loop.0 loop.1)
    ]

-- how far running is from its end
abbrev pub turns : Code → Config → ℕ
turns code c = 2 * (1000000 - c.state.ticks) + lead_of (slice_get code.instrs.items c.at)

abbrev pub distance : Code → Config → ℕ
distance code c = turns code c * (2 * length code.instrs.items + 1) + (2 * length code.instrs.items - rank code.instrs.items c.at)

falls_first : (a b w x y : ℕ) → a < b → x ≤ w → a * (w + 1) + x < b * (w + 1) + y
falls_first a b w x y l le = omega (arith, mul-le-mul_right {m = a + 1} {n = b} (w + 1) (omega arith), add-mul a 1 (w + 1))

falls_second : (a b w x y : ℕ) → a ≡ b → x < y → a * (w + 1) + x < b * (w + 1) + y
falls_second a b w x y e l = subst (λ (n : ℕ). a * (w + 1) + x < n * (w + 1) + y) e (omega arith)

pub step_falls : (code : Code) (c d : Config) → IsAccepted code → Stands code c → step code c ≡ goes d → distance code d < distance code c
step_falls code c d accepted stands e = by_ticks moves.ticks
  where
    instrs : List Instr
    instrs = code.instrs.items

    well : (p : ℕ) → JumpsWell instrs p
    well p = (accepted.sound p).jumps

    here : IsReady code c
    here = ready code c accepted stands

    there : IsReady code d
    there = ready code d accepted (step_stands code c d accepted stands e)

    moves : Moves here.instr c d
    moves = step_moves code here.instr c d here.there e

    small : 2 * length instrs - rank instrs d.at ≤ 2 * length instrs
    small = omega arith

    lead_there : lead_of (slice_get instrs d.at) ≤ 1
    lead_there = lead_le (slice_get instrs d.at)

    first : turns code d < turns code c → distance code d < distance code c
    first l = falls_first (turns code d) (turns code c) (2 * length instrs) (2 * length instrs - rank instrs d.at)
        (2 * length instrs - rank instrs c.at) l small

    to_tick : (here.instr ≡ Tick → ⊥) → d.state.ticks ≡ c.state.ticks → there.instr ≡ Tick → distance code d < distance code c
    to_tick no_tick same tick =
        let before : lead_of (slice_get instrs c.at) ≡ 1 = ap lead_of here.there ∙ lead_plain here.instr no_tick in
        let now : lead_of (slice_get instrs d.at) ≡ 0 = ap lead_of (there.there ∙ ap Some tick) in
        first (omega (arith, before, now, same))

    on : (here.instr ≡ Tick → ⊥) → d.state.ticks ≡ c.state.ticks → (there.instr ≡ Tick → ⊥) → distance code d < distance code c
    on no_tick same no_next =
        let before : lead_of (slice_get instrs c.at) ≡ 1 = ap lead_of here.there ∙ lead_plain here.instr no_tick in
        let now : lead_of (slice_get instrs d.at) ≡ 1 = ap lead_of there.there ∙ lead_plain there.instr no_next in
        let equal : turns code d ≡ turns code c = omega (arith, before, now, same) in
        let rises = rank_rises instrs c.at d.at here.instr there.instr well here.there there.there no_next moves.leads in
        let high = rank_high instrs d.at there.instr there.there (well d.at) in
        falls_second (turns code d) (turns code c) (2 * length instrs) (2 * length instrs - rank instrs d.at) (2 * length instrs - rank instrs c.at) equal
        (omega (arith, rises, high))

    by_ticks : CountsTicks here.instr c.state.ticks d.state.ticks → distance code d < distance code c
    by_ticks (inl tick) = let l = tick.1 in let s = tick.2 in first (omega (arith, lead_there))
    by_ticks (inr plain) = elim (tick_or_not there.instr) [
      | inl tick ↦ to_tick plain.0 plain.1 tick
      | inr no_next ↦ on plain.0 plain.1 no_next
    ]

-- running ends after at most so many steps as it is from its end
ends_within : (code : Code) (n : ℕ) (c : Config) → IsAccepted code → Stands code c → distance code c < n → (r : Outcome Tree × State) × (run code n c ≡ Some r)
ends_within code zero c accepted stands l = absurd (omega arith)
ends_within code (suc n) c accepted stands l =
    by_turn (λ d e. ends_within code n d accepted (step_stands code c d accepted stands e) (nearer (step_falls code c d accepted stands e))) (step code c) refl
  where
    nearer : {d : ℕ} → d < distance code c → d < n
    nearer falls = omega arith

    by_turn : ((d : Config) → step code c ≡ goes d → (r : Outcome Tree × State) × (run code n d ≡ Some r)) → (turn : Turn) → step code c ≡ turn
        → (r : Outcome Tree × State) × (run_on turn (run code n) ≡ Some r)
    by_turn later (ends o s) e = ((o, s), refl)
    by_turn later (goes d) e = later d e

-- running of accepted code ends from the start, after at most so many steps
pub always_ends : (code : Code) (args : List Tree) (answers : List Answer) → IsAccepted code → length args ≡ code.params
    → (r : Outcome Tree × State) × (run code (2000002 * (2 * length code.instrs.items + 1)) (start code args answers) ≡ Some r)
always_ends code args answers accepted enough =
    ends_within code (2000002 * (2 * length code.instrs.items + 1)) (start code args answers) accepted (start_stands code args answers accepted enough)
    (near (lead_of (slice_get code.instrs.items 0)) (lead_le (slice_get code.instrs.items 0)))
  where
    near : (lead : ℕ) → lead ≤ 1
        → (2 * (1000000 - 0) + lead) * (2 * length code.instrs.items + 1) + (2 * length code.instrs.items - rank code.instrs.items 0) < 2000002 *
        (2 * length code.instrs.items + 1)
    near lead le = omega (arith, mul-le-mul_right {m = 2 * (1000000 - 0) + lead} {n = 2000001} (2 * length code.instrs.items + 1) (omega arith))
