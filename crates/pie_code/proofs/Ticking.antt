-- What an instruction does to the ticks that are counted: nothing.
use Rattle.std.proofs.Common.{◌≡◌, ℕ, Bool, true, false, cond, List, [], ◌∷◌, Ok, Err, refl, sym, ap, ◌∙◌}
use Rattle.pie_base.specs.declared.fault.FaultKind.{FaultKind}
use Rattle.pie_base.specs.declared.fault.FaultKind.TheVariants.{BadWrite, WroteTwice, ReadThenWrite, Big, BadList, Unknown}
use Rattle.pie_base.specs.Path.{is_out, is_source}
use Rattle.pie_value.specs.declared.event.Answer.{Answer}
use Rattle.pie_value.specs.declared.event.Event.{Event}
use Rattle.pie_value.specs.declared.event.How.{How}
use Rattle.pie_value.specs.Tree.{Tree, TPath, TText, TBytes}
use Rattle.pie_value.specs.BuiltinForms.{Answered}
use Rattle.pie_value.specs.Limits.{is_small_task}
use Rattle.pie_operators.specs.declared.asking.Observation.{Observation}
use Rattle.pie_operators.specs.declared.asking.Observation.TheVariants.{Exists, Read, Digest, List as Listing}
use Rattle.pie_operators.specs.declared.asking.Question.{Question}
use Rattle.pie_operators.specs.declared.asking.Question.TheVariants.{Observe, Write, Require}
use Rattle.pie_operators.specs.Domain.{Outcome, done, fails, wants, State, Act, fault, by_answer, holds, with_path}
use Rattle.pie_operators.specs.Effects.{asked_with, asked, taken, noted, is_content, may_observe, observe, write, write_bytes, require, fail}

-- where it evaluates to a value, it has counted no ticks
abbrev pub Keeps : Act Tree → Type 0
Keeps m = (s t : State) (v : Tree) → m s ≡ (done v, t) → t.ticks ≡ s.ticks

pub fails_done : (k : FaultKind) (v : Tree) (s t : State) → ◌≡◌ {A = Outcome Tree × State} (fails k, s) (done v, t) → ⊥
fails_done k v s t e = let f = ap (λ (p : Outcome Tree × State). p.0) e in cc

wants_done : (q : Event) (v : Tree) (s t : State) → ◌≡◌ {A = Outcome Tree × State} (wants q, s) (done v, t) → ⊥
wants_done q v s t e = let f = ap (λ (p : Outcome Tree × State). p.0) e in cc

pub keeps_fault : (k : FaultKind) → Keeps (fault k)
keeps_fault k s t v e = absurd (fails_done k v s t e)

pub keeps_answer : (a : Answered) → Keeps (by_answer a)
keeps_answer (Ok w) s t v e = ap (λ (p : Outcome Tree × State). p.1.ticks) (sym e)
keeps_answer (Err k) s t v e = absurd (fails_done k v s t e)

noted_ticks : (q : Question) (s : State) → (noted q s).ticks ≡ s.ticks
noted_ticks (Observe o p) s = elim (is_content o) as (λ b. (cond b (record s { seen = with_path s.seen p }) s).ticks ≡ s.ticks) [ true ↦ refl | false ↦ refl ]
noted_ticks (Write p bs) s = refl
noted_ticks (Require t how) s = refl

asked_keeps : (q : Question) (s t : State) (v : Tree) (left : List Answer) → asked_with q s left ≡ (done v, t) → t.ticks ≡ s.ticks
asked_keeps q s t v [] e = absurd (wants_done _ v s t e)
asked_keeps q s t v (a ∷ rest) e = keeps_answer (taken q a) (noted q (record s { answers = rest })) t v e ∙ noted_ticks q (record s { answers = rest })

pub keeps_asked : (q : Question) → Keeps (asked q)
keeps_asked q s t v e = asked_keeps q s t v s.answers e

keeps_may : (b : Bool) (q : Question) → Keeps (cond b (asked q) (fault BadList))
keeps_may true q = keeps_asked q
keeps_may false q = keeps_fault BadList

pub keeps_observe : (o : Observation) (a : Tree) → Keeps (observe o a)
keeps_observe o (TPath p) = keeps_may (may_observe o p) (Observe o p)
keeps_observe o a = keeps_fault Unknown

keeps_bytes : (p bs : List ℕ) → Keeps (write_bytes p bs)
keeps_bytes p bs s t v = outer (is_out p)
  where
    inner : (b : Bool) → cond b (fails ReadThenWrite, s) (asked (Write p bs) s) ≡ (done v, t) → t.ticks ≡ s.ticks
    inner true e = absurd (fails_done _ v s t e)
    inner false e = keeps_asked (Write p bs) s t v e

    middle : (b : Bool) → cond b (fails WroteTwice, s) (cond (holds s.seen p) (fails ReadThenWrite, s) (asked (Write p bs) s)) ≡ (done v, t) → t.ticks ≡ s.ticks
    middle true e = absurd (fails_done _ v s t e)
    middle false e = inner (holds s.seen p) e

    outer : (b : Bool) → cond b (cond (holds s.wrote p) (fails WroteTwice, s) (cond (holds s.seen p) (fails ReadThenWrite, s) (asked (Write p bs) s)))
        (fails BadWrite, s) ≡ (done v, t) → t.ticks ≡ s.ticks
    outer true e = middle (holds s.wrote p) e
    outer false e = absurd (fails_done _ v s t e)

pub keeps_write : (a b : Tree) → Keeps (write a b)
keeps_write (TPath p) (TText s) = keeps_bytes p s
keeps_write (TPath p) (TBytes bs) = keeps_bytes p bs
keeps_write a b = keeps_fault Unknown

pub keeps_require : (how : How) (f : List ℕ) (ts : List Tree) → Keeps (require how f ts)
keeps_require how f ts = elim (is_small_task (record { func = f; args = ts })) as
    (λ b. Keeps (cond b (asked (Require (record { func = f; args = ts }) how)) (fault Big))) [
      | true ↦ keeps_asked (Require (record { func = f; args = ts }) how)
      | false ↦ keeps_fault Big
    ]

-- a task that says that it fails gives no value
pub fail_ends : (a v : Tree) (s t : State) → fail a s ≡ (done v, t) → ⊥
fail_ends (TText m) v s t e = fails_done _ v s t e
fail_ends a v s t e = fails_done _ v s t e
