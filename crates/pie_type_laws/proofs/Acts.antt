-- How the forms of running keep to what is safe.
use Rattle.std.proofs.Common.{◌≡◌, ◌+◌, Bool, true, false, cond, List, [], ◌∷◌, ◌++◌, refl, ap, sym, ◌∙◌, append_assoc}
use Rattle.std.specs.Prelude.{nat_lt, Ok, Err}
use Rattle.pie_base.specs.declared.fault.FaultKind.{FaultKind}
use Rattle.pie_base.specs.declared.fault.FaultKind.TheVariants.{Budget}
use Rattle.pie_value.specs.declared.event.Event.{Event}
use Rattle.pie_value.specs.declared.event.Answer.{Answer}
use Rattle.pie_value.specs.Types.{TyTree}
use Rattle.pie_value.specs.BuiltinForms.{Answered}
use Rattle.pie_operators.specs.Domain.{Outcome, done, fails, wants, State, Act, give, fault, pass, then_do, ticked, by_answer}
use Rattle.pie_types.specs.Headings.{Heading}
use Rattle.pie_type_laws.specs.Fitting.{IsOf}
use Rattle.pie_type_laws.proofs.Safe.{IsSafe, IsKnown, AnswersFit, EventIsTyped}

-- what gave a value took some answers, and what stands behind them is left as it is
pub record Took {A : Type 0} (m : Act A) (s : State) (v : A) (t : State) : Type 0 where
  pub used : List Answer
  pub split : s.answers ≡ used ++ t.answers
  pub any : (rest : List Answer) → m (record s { answers = used ++ rest }) ≡ (done v, record t { answers = rest })

-- what is safe, and which answers a value took
abbrev pub Comes : {A : Type 0} → List Heading → (A → Type 0) → Act A → State → Outcome A × State → Type 0
Comes hs P m s (done v, t) = P v × Took m s v t
Comes hs P m s (fails k, t) = IsKnown k
Comes hs P m s (wants e, t) = EventIsTyped hs e

-- running that is safe where its answers fit
abbrev pub Sound : {A : Type 0} → List Heading → (A → Type 0) → Act A → Type 0
Sound hs P m = (s : State) → AnswersFit hs m s → Comes hs P m s (m s)

-- a value and nothing else
pub give_sound : {A : Type 0} (hs : List Heading) (P : A → Type 0) (v : A) → P v → Sound hs P (give v)
give_sound {A} hs P v p s fit = (p, record { used = []; split = refl; any = λ rest. refl })

-- a fault that isn't Unknown
pub fault_sound : {A : Type 0} (hs : List Heading) (P : A → Type 0) (k : FaultKind) → IsKnown k → Sound {A = A} hs P (fault k)
fault_sound {A} hs P k p s fit = p

still_wants : {A B : Type 0} (o : Outcome A × State) (go : A → Act B) (e : Event) → o.0 ≡ wants e → (pass o go).0 ≡ wants e
still_wants (done v, t) go e h = let f : ⊥ = cc in absurd f
still_wants (fails k, t) go e h = let f : ⊥ = cc in absurd f
still_wants {A} {B} (wants d, t) go e h = let p : d ≡ e = cc in let f : Event → Outcome B = λ x. wants x in ap f p

more_comes : {A B : Type 0} (hs : List Heading) (Q : B → Type 0) (m : Act A) (go : A → Act B) (s : State) (v : A) (t : State) → Took m s v t
    → (o : Outcome B × State) → Comes hs Q (go v) t o → Comes hs Q (then_do m go) s o
more_comes {A} {B} hs Q m go s v t a (done w, u) (q, b) = (
  q,
  record {
    used = a.used ++ b.used;
    split = a.split ∙ ap (λ (xs : List Answer). a.used ++ xs) b.split ∙ sym (append_assoc a.used b.used u.answers);
    any = λ rest.
        ap (λ (xs : List Answer). pass (m (record s { answers = xs })) go) (append_assoc a.used b.used rest)
        ∙ ap (λ (o : Outcome A × State). pass o go) (a.any (b.used ++ rest))
        ∙ b.any rest;
  },
)
more_comes hs Q m go s v t a (fails k, u) b = b
more_comes hs Q m go s v t a (wants e, u) b = b

fit_first : {A B : Type 0} (hs : List Heading) (m : Act A) (go : A → Act B) (s : State) → AnswersFit hs (then_do m go) s → AnswersFit hs m s
fit_first hs m go s fit before after a e h w = fit before after a e h (still_wants (m (record s { answers = before })) go e w)

fit_then : {A B : Type 0} (hs : List Heading) (m : Act A) (go : A → Act B) (s : State) (v : A) (t : State) → Took m s v t
    → AnswersFit hs (then_do m go) s → AnswersFit hs (go v) t
fit_then {A} {B} hs m go s v t k fit before after a e h w =
    fit (k.used ++ before) after a e
    (k.split ∙ ap (λ (xs : List Answer). k.used ++ xs) h ∙ sym (append_assoc k.used before (a ∷ after)))
    (ap (λ (o : Outcome A × State). (pass o go).0) (k.any before) ∙ w)

then_comes : {A B : Type 0} (hs : List Heading) (P : A → Type 0) (Q : B → Type 0) (m : Act A) (go : A → Act B) (s : State)
    → ((v : A) → P v → Sound hs Q (go v)) → AnswersFit hs (then_do m go) s
    → (o : Outcome A × State) → Comes hs P m s o → Comes hs Q (then_do m go) s (pass o go)
then_comes hs P Q m go s more fit (done v, t) (p, a) =
    more_comes hs Q m go s v t a (go v t) (more v p t (fit_then hs m go s v t a fit))
then_comes hs P Q m go s more fit (fails k, t) p = p
then_comes hs P Q m go s more fit (wants e, t) p = p

-- one thing after another
pub then_sound : {A B : Type 0} (hs : List Heading) (P : A → Type 0) (Q : B → Type 0) (m : Act A) (go : A → Act B)
    → Sound hs P m → ((v : A) → P v → Sound hs Q (go v)) → Sound hs Q (then_do m go)
then_sound hs P Q m go first more s fit = then_comes hs P Q m go s more fit (m s) (first s (fit_first hs m go s fit))

-- one tick before
abbrev ticking : {A : Type 0} → Bool → Act A → Act A
ticking b m s = cond b (m (record s { ticks = s.ticks + 1 })) (fails Budget, s)

tick_comes : {A : Type 0} (hs : List Heading) (P : A → Type 0) (m : Act A) (s : State) → nat_lt s.ticks 1000000 ≡ true → (o : Outcome A × State)
    → Comes hs P m (record s { ticks = s.ticks + 1 }) o → Comes hs P (ticked m) s o
tick_comes {A} hs P m s e (done v, t) (p, k) = (
  p,
  record {
    used = k.used;
    split = k.split;
    any = λ rest. ap (λ (b : Bool). ticking b m (record s { answers = k.used ++ rest })) e ∙ k.any rest;
  },
)
tick_comes hs P m s e (fails k, t) p = p
tick_comes hs P m s e (wants d, t) p = p

tick_by : {A : Type 0} (hs : List Heading) (P : A → Type 0) (m : Act A) → Sound hs P m → (s : State) → AnswersFit hs (ticked m) s
    → (b : Bool) → nat_lt s.ticks 1000000 ≡ b → Comes hs P (ticked m) s (ticking b m s)
tick_by {A} hs P m first s fit true e = tick_comes hs P m s e (m (record s { ticks = s.ticks + 1 })) (first (record s { ticks = s.ticks + 1 })
    (λ before after a d h w. fit before after a d h (ap (λ (b : Bool). (ticking b m (record s { answers = before })).0) e ∙ w)))
tick_by hs P m first s fit false e = λ h. cc

pub ticked_sound : {A : Type 0} (hs : List Heading) (P : A → Type 0) (m : Act A) → Sound hs P m → Sound hs P (ticked m)
ticked_sound hs P m first s fit = tick_by hs P m first s fit (nat_lt s.ticks 1000000) refl

-- an answer of an operator: a value of a type, or a fault that isn't Unknown
abbrev pub Good : TyTree → Answered → Type 0
Good t (Ok v) = IsOf t v
Good t (Err k) = IsKnown k

pub answer_sound : (hs : List Heading) (t : TyTree) (o : Answered) → Good t o → Sound hs (IsOf t) (by_answer o)
answer_sound hs t (Ok v) g = give_sound hs (IsOf t) v g
answer_sound hs t (Err k) g = fault_sound hs (IsOf t) k g

-- what is safe by what comes
comes_safe : {A : Type 0} (hs : List Heading) (P : A → Type 0) (m : Act A) (s : State) (o : Outcome A × State) → Comes hs P m s o → IsSafe hs P o.0
comes_safe hs P m s (done v, t) (p, k) = p
comes_safe hs P m s (fails k, t) p = p
comes_safe hs P m s (wants e, t) p = p

pub is_safe : {A : Type 0} (hs : List Heading) (P : A → Type 0) (m : Act A) (s : State) → Sound hs P m → AnswersFit hs m s → IsSafe hs P (m s).0
is_safe hs P m s sound fit = comes_safe hs P m s (m s) (sound s fit)
