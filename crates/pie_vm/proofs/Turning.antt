-- Steps that ask, and steps as turns.
use Rattle.std.proofs.Common.{◌≡◌, ◌≤◌, ◌<◌, ◌-◌, ◌+◌, ℕ, suc, List, [], ◌∷◌, ◌++◌, map, length, drop, Option, Some, None, Result, Ok, Err, refl, sym, subst}
use Rattle.std.proofs.Common.{ap, ◌∙◌, arith, append_assoc}
use Rattle.std.proofs.lemmas.List.{map-append, append-nil}
use Rattle.pie_base.specs.declared.memory.OutOfMemory.{OutOfMemory}
use Rattle.pie_value.specs.declared.value.Value.{Value}
use Rattle.pie_value.specs.declared.value.Value.TheVariants.{Unit as VUnit}
use Rattle.pie_value.specs.declared.event.Event.{Event}
use Rattle.pie_value.specs.declared.event.Event.TheVariants as events
use Rattle.pie_value.specs.declared.event.By.TheVariants.{Hash, Mark, Raw}
use Rattle.pie_value.specs.Tree.{Tree, TUnit}
use Rattle.pie_value.specs.Values.{tree_of, trees_of}
use Rattle.pie_value.specs.BuiltinForms.{Answered}
use Rattle.pie_operators.specs.declared.asking.Observation.TheVariants.{Exists, Read, Digest, List as Listing}
use Rattle.pie_operators.specs.declared.asking.Question.{Question}
use Rattle.pie_operators.specs.declared.asking.Question.TheVariants.{Observe, Write, Require}
use Rattle.pie_operators.specs.Domain.{Outcome, done, fails, wants, State, by_answer}
use Rattle.pie_value.specs.declared.event.Answer.{Answer}
use Rattle.pie_operators.specs.Effects.{event_of, noted, taken, asked_with}
use Rattle.pie_code.specs.Running.{Config, Turn, goes, ends, act_on, settle, units}
use Rattle.pie_vm.specs.declared.ending.Ending.{Ending}
use Rattle.pie_vm.specs.declared.ending.Ending.TheVariants as endings
use Rattle.pie_vm.specs.Steps.{Moved, Turned, Stays, told, outcome_of, took, ask}

-- a question is put by its event
pub outcome_asks : (q : Question) → outcome_of (event_of q) ≡ wants (event_of q)
outcome_asks (Observe Exists p) = refl
outcome_asks (Observe (Read Hash) p) = refl
outcome_asks (Observe (Read Mark) p) = refl
outcome_asks (Observe (Read Raw) p) = refl
outcome_asks (Observe Digest p) = refl
outcome_asks (Observe Listing p) = refl
outcome_asks (Write p bs) = refl
outcome_asks (Require t how) = refl

-- a machine that asks, and stays
pub asks : (q : Question) (c : Config) (t : Turn) → t ≡ ends (wants (event_of q)) c.state → Turned (Ok (Some (event_of q))) c c t
asks q c t h = (h ∙ ap (λ o. ends o c.state) (sym (outcome_asks q)), subst (λ o. Stays o c c) (sym (outcome_asks q)) refl)

-- what moved has turned
pub moved_turned : (r : Result (Option Ending) OutOfMemory) (old new : Config) (t : Turn) → Moved r new t → Turned (told r) old new t
moved_turned (Ok None) old new t h = h
moved_turned (Ok (Some (endings.Done v))) old new t h = (h, tt)
moved_turned (Ok (Some (endings.Fail k))) old new t h = (h, tt)
moved_turned (Err e) old new t h = tt

-- what an answer gives doesn't look at where running stands
pub act_settles : (a : Answered) (s : State) (c : Config) → act_on (by_answer a) (record c { state = s }) ≡ settle (by_answer a s) c
act_settles (Ok t) s c = refl
act_settles (Err k) s c = refl

units_less : (n : ℕ) → suc n ≡ n + 1
units_less n = omega arith

-- one unit more
pub unit_more : (xs : List Value) (n i : ℕ) → i < n → trees_of (xs ++ VUnit ∷ []) ++ units (n - (i + 1)) ≡ trees_of xs ++ units (n - i)
unit_more xs n i h =
    let e : n - i ≡ suc (n - (i + 1)) = omega arith in
    ap (λ ts. ts ++ units (n - (i + 1))) (map-append tree_of xs (VUnit ∷ []))
    ∙ append_assoc (trees_of xs) (TUnit ∷ []) (units (n - (i + 1)))
    ∙ ap (λ k. trees_of xs ++ units k) (sym e)

pub no_unit : (xs : List Value) (n i : ℕ) → n ≤ i → trees_of xs ++ units (n - i) ≡ trees_of xs
no_unit xs n i h = let e : n - i ≡ 0 = omega arith in ap (λ k. trees_of xs ++ units k) e ∙ append-nil (trees_of xs)

-- nor at what running gave before
pub settles_alike : (a : Answered) (s t : State) (c : Config) → settle (by_answer a s) (record c { state = t }) ≡ settle (by_answer a s) c
settles_alike (Ok u) s t c = refl
settles_alike (Err k) s t c = refl

-- a question whose answer waits takes it
pub asked_took : (q : Question) (a : Answer) (c : Config) → c.state.answers ≡ a ∷ [] → took q a (record c { state = record c.state { answers = [] } }) ≡ ask q c
asked_took q a c e =
    settles_alike (taken q a) (noted q (record c.state { answers = [] })) (record c.state { answers = [] }) c
    ∙ ap (λ left. settle (asked_with q c.state left) c) (sym e)

-- what is taken after the path is noted
pub took_moved : (q : Question) (a : Answer) (c d : Config) (r : Result (Option Ending) OutOfMemory) (new : Config)
    → d ≡ record c { state = noted q c.state } → Moved r new (act_on (by_answer (taken q a)) d) → Moved r new (took q a c)
took_moved q a c d r new e h =
    subst (Moved r new) (act_settles (taken q a) (noted q c.state) c) (subst (λ x. Moved r new (act_on (by_answer (taken q a)) x)) e h)
