-- What the theorem on compiled code stands on: instructions at places, and what comes after a part.
use Rattle.std.proofs.Common.{◌≡◌, ℕ, zero, suc, ◌+◌, ◌-◌, ◌<◌, ◌≤◌, Bool, true, false, cond, ◌==◌, nat_lt, nat_le, List, [], ◌∷◌, ◌++◌, length, take, drop}
use Rattle.std.proofs.Common.{reverse, slice_get, slice_set, Option, Some, None, Result, Ok, Err, refl, sym, subst, ap, ◌∙◌, arith, append_assoc, rules}
use lib.Pointwise.{pointwise}
use Rattle.pie_base.specs.declared.fault.FaultKind.TheVariants.{Unknown, Budget}
use Rattle.pie_value.specs.Tree.{TBool}
use Rattle.pie_value.specs.Tree.{Tree as Val}
use Rattle.pie_value.specs.BuiltinForms.{Answered}
use Rattle.pie_operators.specs.Domain.{Outcome, done, fails, wants, State, Act, give, fault, pass, then_do, ticked, by_answer}
use Rattle.pie_code.specs.declared.instr.Instr.{Instr}
use Rattle.pie_code.specs.declared.instr.Instr.TheVariants.{Tick, Load}
use Rattle.pie_code.specs.declared.code.Code.{Code}
use Rattle.pie_code.specs.Running.{Config, Turn, goes, ends, run, run_on, step, act, act_found, settle, push, push_found}
use Rattle.pie_code.specs.Coming.{Ends}
use Rattle.pie_semantics.specs.Words.{Env, look_up, found}
use Rattle.pie_codegen.specs.Compiled.{Scope, slot_of}

-- these stand in a list from a place on
abbrev pub HasAt : {X : Type 0} → List X → ℕ → List X → Type 0
HasAt xs a [] = Unit {0}
HasAt xs a (y ∷ ys) = (slice_get xs a ≡ Some y) × HasAt xs (a + 1) ys

pub has_prefix : {X : Type 0} (xs : List X) (a : ℕ) (ys zs : List X) → HasAt xs a (ys ++ zs) → HasAt xs a ys
has_prefix xs a [] zs h = tt
has_prefix xs a (y ∷ ys) zs h = (h.0, has_prefix xs (a + 1) ys zs h.1)

pub has_back : {X : Type 0} (xs : List X) (a : ℕ) (ys zs : List X) → HasAt xs a (ys ++ zs) → HasAt xs (a + length ys) zs
has_back xs a [] zs h = subst (λ n. HasAt xs n zs) (omega arith) h
has_back xs a (y ∷ ys) zs h = subst (λ n. HasAt xs n zs) (omega arith) (has_back xs (a + 1) ys zs h.1)

-- where running stands, from its parts
abbrev pub at : ℕ → List Val → List Val → State → Config
at a k l s = record { at = a; stack = k; slots = l; state = s }

-- a value is in a slot
pub in_front : (low junk : List Val) (i : ℕ) (v : Val) → slice_get low i ≡ Some v → slice_get (low ++ junk) i ≡ Some v
in_front [] junk i v h = absurd cc
in_front (x ∷ low) junk zero v h = h
in_front (x ∷ low) junk (suc i) v h = in_front low junk i v h

pub none_at : (l : List Val) (i : ℕ) → length l ≤ i → slice_get l i ≡ None
none_at [] i h = refl
none_at (x ∷ l) zero h = absurd (omega arith)
none_at (x ∷ l) (suc i) h = none_at l i (omega arith)

-- the slot behind the first ones
pub slot_behind : (low junk : List Val) (x v : Val) → slice_set (low ++ x ∷ junk) (length low) v ≡ (low ++ v ∷ []) ++ junk
slot_behind [] junk x v = refl
slot_behind (y ∷ low) junk x v = ap (λ l. y ∷ l) (slot_behind low junk x v)

-- the names in scope have their values in their slots
abbrev pub Agree : Scope → Env → List Val → Type 0
Agree [] [] low = Unit {0}
Agree ((x, i) ∷ sc) ((y, v) ∷ env) low = (x ≡ y) × (slice_get low i ≡ Some v) × Agree sc env low
Agree sc env low = ⊥

pub agree_front : (sc : Scope) (env : Env) (low more : List Val) → Agree sc env low → Agree sc env (low ++ more)
agree_front [] [] low more h = tt
agree_front [] (_ ∷ env) low more h = elim h [ ]
agree_front ((x, i) ∷ sc) [] low more h = elim h [ ]
agree_front ((x, i) ∷ sc) ((y, v) ∷ env) low more h = (h.0, in_front low more i v h.1, agree_front sc env low more h.2)

-- the slots below the mark hold the names in scope, and there is room above it
pub record Fits (m : ℕ) (sc : Scope) (low : List Val) (env : Env) (room : ℕ) : Type 0 where
  pub size : length low ≡ m
  pub agree : Agree sc env low
  pub small : m + room ≤ 65535

module _ (code : Code) (ev : Outcome Val × State) where
  -- running gives the event from here
  abbrev pub Comes : ℕ → List Val → List Val → State → Type 0
  Comes a k l s = Ends code (at a k l s) ev

  -- what is done goes on so that running gives the event, or is the event
  abbrev pub Then : {A : Type 0} → (A → State → Type 0) → Outcome A × State → Type 0
  Then K (done v, s) = K v s
  Then K (fails f, s) = (fails f, s) ≡ ev
  Then K (wants e, s) = (wants e, s) ≡ ev

  pub seq : {A B : Type 0} (k : A → Act B) (K : B → State → Type 0) (K' : A → State → Type 0)
      → ((v : A) (s : State) → Then K (k v s) → K' v s) → (o : Outcome A × State) → Then K (pass o k) → Then K' o
  seq k K K' f (done v, s) h = f v s h
  seq k K K' f (fails e, s) h = h
  seq k K K' f (wants e, s) h = h

  pub mono : {A : Type 0} (K K' : A → State → Type 0) → ((v : A) (s : State) → K v s → K' v s) → (o : Outcome A × State) → Then K o → Then K' o
  mono K K' f (done v, s) h = f v s h
  mono K K' f (fails e, s) h = h
  mono K K' f (wants e, s) h = h

  -- one step goes on to the event, or is it
  abbrev pub Leads : Turn → Type 0
  Leads (goes c) = Ends code c ev
  Leads (ends o s) = (o, s) ≡ ev

  by_turn : (c : Config) (t : Turn) → step code c ≡ t → Leads t → Ends code c ev
  by_turn c (goes d) e h = (suc h.0, ap (λ t. run_on t (run code h.0)) e ∙ h.1)
  by_turn c (ends o s) e h = (1, ap (λ t. run_on t (run code 0)) e ∙ ap (λ x. Some x) h)

  -- one instruction
  pub one : (i : Instr) (a : ℕ) (k l : List Val) (s : State) → slice_get code.instrs.items a ≡ Some i → Leads (act code.texts.items i (at a k l s))
      → Comes a k l s
  one i a k l s e h = by_turn (at a k l s) (act code.texts.items i (at a k l s)) (ap (λ o. act_found code.texts.items o (at a k l s)) e) h

  -- what an operator gave
  pub into : (o : Outcome Val × State) (c : Config) → Then (λ v s. Comes (c.at + 1) (v ∷ c.stack) c.slots s) o → Leads (settle o c)
  into (done v, s) c h = h
  into (fails f, s) c h = h
  into (wants e, s) c h = h

  tick_by : (b : Bool) (m : Act Val) (K : Val → State → Type 0) (a : ℕ) (k l : List Val) (s : State)
      → ((t : State) → Then K (m t) → Comes (a + 1) k l t)
      → Then K (cond b (m (record s { ticks = s.ticks + 1 })) (fails Budget, s))
      → Leads (cond b (goes (at (a + 1) k l (record s { ticks = s.ticks + 1 }))) (ends (fails Budget) s))
  tick_by true m K a k l s f h = f (record s { ticks = s.ticks + 1 }) h
  tick_by false m K a k l s f h = h

  -- a tick
  pub tick_run : (m : Act Val) (K : Val → State → Type 0) (a : ℕ) (k l : List Val) (s : State) → slice_get code.instrs.items a ≡ Some Tick
      → Then K (ticked m s) → ((t : State) → Then K (m t) → Comes (a + 1) k l t) → Comes a k l s
  tick_run m K a k l s e h f = one Tick a k l s e (tick_by (nat_lt s.ticks 1000000) m K a k l s f h)

  -- a slot that isn't there
  pub no_slot : (n : ℕ) (a : ℕ) (k l : List Val) (s : State) → slice_get code.instrs.items a ≡ Some (Load n) → length l ≤ n → (fails Unknown, s) ≡ ev
      → Comes a k l s
  no_slot n a k l s e h x = one (Load n) a k l s e (subst (λ o. Leads (push_found o (at a k l s))) (sym (none_at l n h)) x)

  -- a name
  pub name_run : (n : List ℕ) (sc : Scope) (env : Env) (low junk : List Val) (a : ℕ) (k : List Val) (s : State)
      → Agree sc env low → length (low ++ junk) ≤ 65535 → slice_get code.instrs.items a ≡ Some (Load (slot_of n sc))
      → Then (λ v t. Comes (a + 1) (v ∷ k) (low ++ junk) t) (found (look_up n env) s) → Comes a k (low ++ junk) s
  name_run n [] [] low junk a k s g h e x = no_slot 65535 a k (low ++ junk) s e h x
  name_run n [] (_ ∷ env) low junk a k s g h e x = elim g [ ]
  name_run n ((x, i) ∷ sc) [] low junk a k s g h e z = elim g [ ]
  name_run n ((x, i) ∷ sc) ((y, v) ∷ env) low junk a k s g h e z = by_name (pointwise ◌==◌ n x) refl (name_run n sc env low junk a k s g.2 h)
    where
      by_name : (b : Bool) → pointwise ◌==◌ n x ≡ b
          → (slice_get code.instrs.items a ≡ Some (Load (slot_of n sc)) → Then (λ w t. Comes (a + 1) (w ∷ k) (low ++ junk) t) (found (look_up n env) s)
          → Comes a k (low ++ junk) s)
          → Comes a k (low ++ junk) s
      by_name true p again =
          one (Load i) a k (low ++ junk) s (e ∙ ap (λ c. Some (Load (cond c i (slot_of n sc)))) p)
          (subst (λ o. Leads (push_found o (at a k (low ++ junk) s))) (sym (in_front low junk i v g.1))
          (subst (λ c. Then (λ w t. Comes (a + 1) (w ∷ k) (low ++ junk) t) (found (cond c (Some v) (look_up n env)) s))
          (ap (pointwise ◌==◌ n) (sym g.0) ∙ p) z))
      by_name false p again = again (e ∙ ap (λ c. Some (Load (cond c i (slot_of n sc)))) p)
          (subst (λ c. Then (λ w t. Comes (a + 1) (w ∷ k) (low ++ junk) t) (found (cond c (Some v) (look_up n env)) s))
          (ap (pointwise ◌==◌ n) (sym g.0) ∙ p) z)
