-- Steps lead on.
use Rattle.std.proofs.Common.{◌≡◌, ℕ, suc, List, [], ◌∷◌, ◌++◌, length, Option, Some, None, Ok, refl, sym, subst, ap, ◌∙◌, append_assoc}
use Rattle.std.proofs.lemmas.List.{append-nil}
use Rattle.pie_value.specs.declared.event.Answer.{Answer}
use Rattle.pie_value.specs.declared.event.Event.{Event}
use Rattle.pie_value.specs.Tree.{Tree}
use Rattle.pie_operators.specs.Domain.{Outcome, done, fails, wants, State}
use Rattle.pie_code.specs.declared.code.Code.{Code}
use Rattle.pie_code.specs.Running.{Config, Turn, goes, ends, run, run_on, step, start}
use Rattle.pie_vm.specs.Steps.{Turned, outcome_of}
use Rattle.pie_code.specs.Coming.{Ends, CodeNext}
use Rattle.pie_code.specs.Checked.{IsAccepted}
use Rattle.pie_code.specs.Standing.{Stands}
use Rattle.pie_code.proofs.Safe.{step_stands, start_stands}
use Rattle.pie_vm.specs.Machines.{Led, Leads, more, more_for, Reaches, reaches, Asks, phase_after, Unanswered}
use Rattle.pie_vm.proofs.Carried.{step_more, asks_empty}

pub leads_here : (code : Code) (c : Config) → Leads code c c
leads_here code c = record { ends = λ rest o h. h }

pub leads_on : (code : Code) (b c d : Config) → Leads code b c → step code c ≡ goes d → Leads code b d
leads_on code b c d l e = record {
  ends = λ rest o h. l.ends rest o (suc h.0, ap (λ t. run_on t (run code h.0)) (step_more rest code c d e) ∙ h.1);
}

pub leads_far : (code : Code) (b c d : Config) → Leads code b c → Leads code c d → Leads code b d
leads_far code b c d l m = record { ends = λ rest o h. l.ends rest o (m.ends rest o h) }

-- no more answers
no_more : (c : Config) → more_for [] c ≡ c
no_more c = ap (λ left. record c { state = record c.state { answers = left } }) (append-nil c.state.answers)

-- running that ends here is what code evaluates to
pub evaluates_to : (code : Code) (args : List Tree) (answers : List Answer) (c : Config) (o : Outcome Tree) (s : State)
    → Leads code (start code args answers) c → step code c ≡ ends o s → CodeNext code args answers (o, s)
evaluates_to code args answers c o s l e =
    subst (λ d. Ends code d (o, s)) (no_more (start code args answers))
    (l.ends [] (o, s) (1, ap (λ d. run code 1 d) (no_more c) ∙ ap (λ t. run_on t (run code 0)) e))

-- an answer is one more
pub answered_leads : (code : Code) (args : List Tree) (answers : List Answer) (a : Answer) (c : Config) → c.state.answers ≡ []
    → Leads code (start code args answers) c
    → Leads code (start code args (answers ++ a ∷ [])) (record c { state = record c.state { answers = a ∷ [] } })
answered_leads code args answers a c e l = record {
  ends = λ rest o h.
      subst (λ left. Ends code (start code args left) o) (sym (append_assoc answers (a ∷ []) rest))
      (l.ends (a ∷ rest) o (subst (λ left. Ends code (record c { state = record c.state { answers = left ++ a ∷ rest } }) o) (sym e) h));
}

pub led_here : (code : Code) (c : Config) → Stands code c → Led code c c
led_here code c h = record { leads = leads_here code c; stands = h }

pub led_on : (code : Code) (b c d : Config) → IsAccepted code → Led code b c → step code c ≡ goes d → Led code b d
led_on code b c d a l e = record { leads = leads_on code b c d l.leads e; stands = step_stands code c d a l.stands e }

-- a step that gives an event reaches it
pub reached : (code : Code) (b c d : Config) (e : Event) → Led code b c → Turned (Ok (Some e)) c d (step code c) → Reaches code b (outcome_of e) d
reached code b c d e l h = reaches {last = c} l h.0 h.1

-- a machine that asks has no answer left
pub waits_empty : (code : Code) (b : Config) (o : Outcome Tree) (d : Config) → Reaches code b o d → Unanswered (phase_after o) d.state.answers
waits_empty code b (wants e) d (reaches {last = c} l h k) = asks_empty code c (wants e) d.state h
waits_empty code b (done t) d r = tt
waits_empty code b (fails k) d r = tt

-- what is reached is what code evaluates to
pub next_is : (code : Code) (b : Config) (o : Outcome Tree) (d : Config) → Reaches code b o d → (args : List Tree) (answers : List Answer)
    → Leads code (start code args answers) b → CodeNext code args answers (o, d.state)
next_is code b o d (reaches {last = c} l h k) args answers m = evaluates_to code args answers c o d.state (leads_far code (start code args answers) b c m l.leads) h

-- and where it asks, running goes on from there
pub next_follows : (code : Code) (b : Config) (o : Outcome Tree) (d : Config) → Reaches code b o d → (args : List Tree) (answers : List Answer)
    → Leads code (start code args answers) b → Asks o (Leads code (start code args answers) d)
next_follows code b (wants e) d (reaches {last = c} l h k) args answers m =
    subst (Leads code (start code args answers)) (sym k) (leads_far code (start code args answers) b c m l.leads)
next_follows code b (done t) d r args answers m = tt
next_follows code b (fails k) d r args answers m = tt

-- where it asks, it stands there
pub next_stands : (code : Code) (b : Config) (o : Outcome Tree) (d : Config) → Reaches code b o d → Asks o (Stands code d)
next_stands code b (wants e) d (reaches {last = c} l h k) = subst (Stands code) (sym k) l.stands
next_stands code b (done t) d r = tt
next_stands code b (fails k) d r = tt

-- at the start it stands
pub begun_stands : (code : Code) (args : List Tree) (c : Config) → IsAccepted code → length args ≡ code.params → c ≡ start code args [] → Stands code c
begun_stands code args c a e h = subst (Stands code) (sym h) (start_stands code args [] a e)

-- an answer leaves it where it stands
pub answer_stands : (code : Code) (c : Config) (s : State) → Stands code c → Stands code (record c { state = s })
answer_stands code c s h = record { reached = h.reached; inside = h.inside; slots = h.slots }

-- an answer leads on where none was left
pub answer_leads : (code : Code) (args : List Tree) (answers : List Answer) (a : Answer) (c d : Config) → c.state.answers ≡ []
    → d ≡ record c { state = record c.state { answers = a ∷ [] } } → Leads code (start code args answers) c → Leads code (start code args (answers ++ a ∷ [])) d
answer_leads code args answers a c d e f l = subst (Leads code (start code args (answers ++ a ∷ []))) (sym f) (answered_leads code args answers a c e l)
