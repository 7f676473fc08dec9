-- Running with more answers behind goes the same way, and looks at or writes what it would have asked for.
use Rattle.std.proofs.Common.{◌≡◌, ℕ, ◌+◌, Bool, true, false, cond, ◌||◌, List, ◌∷◌, ◌++◌, refl, ap, sym, ◌∙◌, subst}
use Rattle.std.specs.Prelude.{nat_lt, Ok, Err}
use Rattle.pie_base.specs.declared.fault.FaultKind.{FaultKind}
use Rattle.pie_base.specs.declared.fault.FaultKind.TheVariants.{Budget}
use Rattle.pie_value.specs.declared.event.Event.{Event}
use Rattle.pie_value.specs.declared.event.Event.TheVariants as events
use Rattle.pie_value.specs.declared.event.Answer.{Answer}
use Rattle.pie_value.specs.Tree.{Tree}
use Rattle.pie_value.specs.BuiltinForms.{Answered}
use Rattle.pie_operators.specs.Domain.{Outcome, done, fails, wants, State, Act, give, fault, pass, then_do, ticked, by_answer, holds}

-- a state with more answers behind those that are left
abbrev pub with_more : State → List Answer → State
with_more s rest = record s { answers = s.answers ++ rest }

-- an event touches a path: it looks at it or writes it
abbrev pub Touches : List ℕ → Event → Type 0
Touches p (events.Exists q) = q ≡ p
Touches p (events.Read q by) = q ≡ p
Touches p (events.Digest q) = q ≡ p
Touches p (events.Write q bs) = q ≡ p
Touches p e = ⊥

-- a path has been touched: observed or written
abbrev pub touched : State → List ℕ → Bool
touched s p = holds s.seen p || holds s.wrote p

-- what an event writes has not been touched
abbrev pub Untouched : Event → State → Type 0
Untouched (events.Write p bs) s = touched s p ≡ false
Untouched e s = Unit {0}

-- where running goes on, it has touched the path
abbrev pub Did : {A : Type 0} → List ℕ → Outcome A × State → Type 0
Did p (done v, t) = touched t p ≡ true
Did p (fails k, t) = Unit {0}
Did p (wants e, t) = touched t p ≡ true

-- what has been touched stays so
abbrev pub Keeps : State → State → Type 0
Keeps s t = (p : List ℕ) → touched s p ≡ true → touched t p ≡ true

-- more answers behind change nothing of a value; and with an answer behind, what was asked for has been touched
abbrev pub Stays : {A : Type 0} → Act A → State → Outcome A × State → Type 0
Stays m s (done v, t) = Keeps s t × ((rest : List Answer) → m (with_more s rest) ≡ (done v, with_more t rest))
Stays m s (fails k, t) = Unit {0}
Stays m s (wants e, t) =
    Untouched e t × Keeps s t × ((p : List ℕ) (a : Answer) (rest : List Answer) → Touches p e → Did p (m (with_more s (a ∷ rest))))

-- running that stays so from each state
abbrev pub Polite : {A : Type 0} → Act A → Type 0
Polite m = (s : State) → Stays m s (m s)

-- what goes on as something else does from a later state
pub moved : {A : Type 0} (m x : Act A) (s t : State) → Keeps s t → ((rest : List Answer) → m (with_more s rest) ≡ x (with_more t rest))
    → (o : Outcome A × State) → Stays x t o → Stays m s o
moved m x s t k same (done v, u) h = (λ p i. h.0 p (k p i), λ rest. same rest ∙ h.1 rest)
moved m x s t k same (fails f, u) h = tt
moved {A} m x s t k same (wants e, u) h =
    (h.0, λ p i. h.1 p (k p i), λ p a rest l. subst (λ (o : Outcome A × State). Did p o) (sym (same (a ∷ rest))) (h.2 p a rest l))

-- a value and nothing else
pub give_polite : {A : Type 0} (v : A) → Polite (give v)
give_polite v s = (λ p h. h, λ rest. refl)

-- a fault
pub fault_polite : (k : FaultKind) → Polite {A = Tree} (fault k)
fault_polite k s = tt

did_on : {A : Type 0} (p : List ℕ) (m : Act A) (t : State) (o : Outcome A × State) → Stays m t o → touched t p ≡ true → Did p o
did_on p m t (done v, u) h i = h.0 p i
did_on p m t (fails k, u) h i = tt
did_on p m t (wants e, u) h i = h.1 p i

did_then : {A B : Type 0} (p : List ℕ) (go : A → Act B) → ((v : A) → Polite (go v)) → (o : Outcome A × State) → Did p o → Did p (pass o go)
did_then p go more (done v, t) h = did_on p (go v) t (go v t) (more v t) h
did_then p go more (fails k, t) h = tt
did_then p go more (wants e, t) h = h

then_stays : {A B : Type 0} (m : Act A) (go : A → Act B) → ((v : A) → Polite (go v)) → (s : State) (o : Outcome A × State) → Stays m s o
    → Stays (then_do m go) s (pass o go)
then_stays {A} m go more s (done v, t) h =
    moved (then_do m go) (go v) s t h.0 (λ rest. ap (λ (o : Outcome A × State). pass o go) (h.1 rest)) (go v t) (more v t)
then_stays m go more s (fails k, t) h = tt
then_stays m go more s (wants e, t) h = (h.0, h.1, λ p a rest l. did_then p go more (m (with_more s (a ∷ rest))) (h.2 p a rest l))

-- one thing after another
pub then_polite : {A B : Type 0} (m : Act A) (go : A → Act B) → Polite m → ((v : A) → Polite (go v)) → Polite (then_do m go)
then_polite m go first more s = then_stays m go more s (m s) (first s)

-- one tick before
abbrev ticking : {A : Type 0} → Bool → Act A → Act A
ticking b m s = cond b (m (record s { ticks = s.ticks + 1 })) (fails Budget, s)

tick_by : {A : Type 0} (m : Act A) → Polite m → (s : State) (b : Bool) → nat_lt s.ticks 1000000 ≡ b → Stays (ticked m) s (ticking b m s)
tick_by {A} m first s true e =
    moved (ticked m) m s (record s { ticks = s.ticks + 1 }) (λ p h. h) (λ rest. ap (λ (b : Bool). ticking b m (with_more s rest)) e)
    (m (record s { ticks = s.ticks + 1 })) (first (record s { ticks = s.ticks + 1 }))
tick_by m first s false e = tt

pub ticked_polite : {A : Type 0} (m : Act A) → Polite m → Polite (ticked m)
ticked_polite m first s = tick_by m first s (nat_lt s.ticks 1000000) refl

-- one thing after another, after one tick
pub ticked_then : {A B : Type 0} (m : Act A) (go : A → Act B) → Polite m → ((v : A) → Polite (go v)) → Polite (ticked (then_do m go))
ticked_then m go first more = ticked_polite (then_do m go) (then_polite m go first more)

-- the answer of an operator
pub answer_polite : (o : Answered) → Polite (by_answer o)
answer_polite (Ok v) = give_polite v
answer_polite (Err k) = fault_polite k

-- one of two, by what is known
pub cond_polite : {A : Type 0} (b : Bool) (x y : Act A) → Polite x → Polite y → Polite (cond b x y)
cond_polite true x y f g = f
cond_polite false x y f g = g
