-- Running of accepted code finds an instruction with its operands wherever it comes.
use Rattle.std.proofs.Common.{◌≡◌, inl, inr, ℕ, zero, suc, ◌+◌, ◌-◌, ◌<◌, true, false, List, length, length-append, get_or, slice_get, Option, Some, refl, sym}
use Rattle.std.proofs.Common.{ap, ◌∙◌, subst, arith}
use Rattle.std.proofs.lemmas.Bool.{cases_lt}
use Rattle.std.proofs.lemmas.Option.{slice_get_within, slice_get-get_or, same_Some}
use Rattle.pie_value.specs.Tree.{Tree}
use Rattle.pie_value.specs.declared.event.Answer.{Answer}
use Rattle.pie_code.specs.declared.code.Code.{Code}
use Rattle.pie_code.specs.declared.instr.Instr.{Instr}
use Rattle.pie_code.specs.declared.instr.Instr.TheVariants.{Tick}
use Rattle.pie_code.specs.Ways.{goes_on, slots_of, Leads, Reaches}
use Rattle.pie_code.specs.Ways.Reaches.{begin, step as way_on}
use Rattle.pie_code.specs.Checked.{AreBelow, IsAccepted}
use Rattle.pie_code.specs.Running.{Config, goes, act_found, step, units, start}
use Rattle.pie_code.specs.Standing.{Steps, Stands, IsReady, Moves}
use Rattle.pie_code.specs.Standing.Steps.{none, one_more}
use Rattle.pie_code.proofs.Moving.{act_moves}

pub ready : (code : Code) (c : Config) → IsAccepted code → Stands code c → IsReady code c
ready code c accepted stands = record {
  instr = instr;
  there = there;
  operands = (accepted.sound c.at).heights.reached instr (length c.stack) there stands.reached;
  slots = subst (λ (n : ℕ). AreBelow n (slots_of instr)) (sym stands.slots) ((accepted.sound c.at).slots.slots instr there);
  texts = (accepted.sound c.at).slots.texts instr there;
}
  where
    instr : Instr
    instr = get_or code.instrs.items c.at Tick

    there : slice_get code.instrs.items c.at ≡ Some instr
    there = slice_get-get_or code.instrs.items c.at Tick stands.inside

-- a step is what the instruction there does
pub step_moves : (code : Code) (i : Instr) (c d : Config) → slice_get code.instrs.items c.at ≡ Some i → step code c ≡ goes d → Moves i c d
step_moves code i c d there e = act_moves code.texts.items i c d (subst (λ (found : Option Instr). act_found code.texts.items found c ≡ goes d) there e)

-- behind an instruction that goes on there is another
next_inside : (code : Code) (at : ℕ) (i : Instr) → IsAccepted code → slice_get code.instrs.items at ≡ Some i → goes_on i ≡ true
    → at + 1 < length code.instrs.items
next_inside code at i accepted there on =
    elim (cases_lt (at + 1) (length code.instrs.items)) [
      | inl l ↦ l
      | inr past ↦
          let inside : at < length code.instrs.items = slice_get_within code.instrs.items at i there in
          let last : at ≡ length code.instrs.items - 1 = omega arith in
          let end = accepted.ends in
          let same : i ≡ end.0 = same_Some i end.0 (sym there ∙ subst (λ (k : ℕ). slice_get code.instrs.items k ≡ Some end.0) (sym last) end.1) in
          let off : goes_on i ≡ false = ap goes_on same ∙ end.2 in
          absurd (cc)
    ]

pub leads_inside : (code : Code) (at to : ℕ) (i : Instr) → IsAccepted code → slice_get code.instrs.items at ≡ Some i → Leads at i to
    → to < length code.instrs.items
leads_inside code at to i accepted there (inl next) = let l = next_inside code at i accepted there next.0 in omega (arith, next.1)
leads_inside code at to i accepted there (inr jump) = (accepted.sound at).jumps.inside to (i, there, jump)

-- a step keeps to the ways
pub step_stands : (code : Code) (c d : Config) → IsAccepted code → Stands code c → step code c ≡ goes d → Stands code d
step_stands code c d accepted stands e =
    let found = ready code c accepted stands in
    let moves = step_moves code found.instr c d found.there e in
    record {
      reached = subst (Reaches code.instrs.items d.at) (sym moves.height) (way_on stands.reached found.there moves.enough moves.leads);
      inside = leads_inside code c.at d.at found.instr accepted found.there moves.leads;
      slots = moves.slots ∙ stands.slots;
    }

length_units : (n : ℕ) → length (units n) ≡ n
length_units zero = refl
length_units (suc n) = ap suc (length_units n)

pub start_stands : (code : Code) (args : List Tree) (answers : List Answer) → IsAccepted code → length args ≡ code.params
    → Stands code (start code args answers)
start_stands code args answers accepted enough =
    let last : length code.instrs.items - 1 < length code.instrs.items = slice_get_within code.instrs.items
    (length code.instrs.items - 1) accepted.ends.0 accepted.ends.1 in
    let fits = (accepted.sound 0).slots.params refl in
    record {
      reached = begin;
      inside = omega arith;
      slots = length-append args (units (code.slots - code.params)) ∙ omega (arith, enough, fits, length_units (code.slots - code.params));
    }

pub steps_stand : (code : Code) (b c : Config) → IsAccepted code → Stands code b → Steps code b c → Stands code c
steps_stand code b c accepted stands (none {c = x}) = stands
steps_stand code b c accepted stands (one_more {b = x} {c = mid} {d = y} before e) = step_stands code mid c accepted
    (steps_stand code b mid accepted stands before) e

-- wherever running comes from the start, an instruction is there with its operands
pub safe : (code : Code) (args : List Tree) (answers : List Answer) (c : Config) → IsAccepted code → length args ≡ code.params
    → Steps code (start code args answers) c → IsReady code c
safe code args answers c accepted enough steps =
    ready code c accepted (steps_stand code (start code args answers) c accepted (start_stands code args answers accepted enough) steps)
