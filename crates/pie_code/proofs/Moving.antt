-- What one instruction changes: the place, the height of the stack, and the ticks.
use Rattle.std.proofs.Common.{◌≡◌, inl, inr, ℕ, ◌+◌, ◌≤◌, nat_lt, nat_le, Bool, true, false, cond, List, [], ◌∷◌, length, take, drop, reverse, slice_get}
use Rattle.std.proofs.Common.{slice_set, Option, Some, None, pos, refl, sym, ap, ◌∙◌, subst, length-drop, arith}
use Rattle.std.proofs.lemmas.Bool.{ltb-true}
use borrow.Author.Tests.{leb-true}
use Rattle.pie_base.specs.declared.fault.FaultKind.TheVariants.{Budget}
use Rattle.pie_value.specs.Tree.{Tree, TBool, TList, TInt, list_of}
use Rattle.pie_value.specs.Builtins.{answer_of}
use Rattle.pie_signature.specs.Signatures.{arity_of}
use Rattle.pie_operators.specs.Operators.{unary_answer, binary_answer, list_with, tuple_with, item_at}
use Rattle.pie_operators.specs.Domain.{Outcome, done, fails, wants, State, Act, by_answer}
use Rattle.pie_operators.specs.Effects.{observe, write, require, fail}
use Rattle.pie_value.specs.BuiltinForms.{made}
use Rattle.pie_value.specs.Tree.{TText}
use Rattle.pie_code.specs.declared.instr.Each.{Each as EachLoop}
use Rattle.pie_code.specs.declared.instr.Required.{Required}
use Rattle.pie_code.specs.declared.instr.Instr.{Instr}
use Rattle.pie_code.specs.declared.instr.Instr.TheVariants.{Tick, Push, PushText, Load, Store, Drop, Unary, Binary, Jump, JumpIfNot, Each, ListPush}
use Rattle.pie_code.specs.declared.instr.Instr.TheVariants.{TuplePush, Proj, Call, Observe, Write, Require, Fail, Return}
use Rattle.pie_code.specs.Effects.{pops, pushes}
use Rattle.pie_code.specs.Ways.{goes_on, Leads}
use Rattle.pie_code.specs.Running as run
use Rattle.pie_code.specs.Running.{Config, Turn, goes, ends, misfit, onward, pop, pop_from, pop_two, pop_many, settle, act_on, act, branch, each_turn}
use Rattle.pie_code.specs.Running.{each_from, item_found, number_in, next_item, store, push_text, push_found, require_named, finish}
use Rattle.pie_code.specs.Standing.{Moves}
use Rattle.pie_code.proofs.Meeting.{length_set}
use Rattle.pie_code.proofs.Ticking.{Keeps, keeps_answer, keeps_observe, keeps_write, keeps_require, fail_ends}

ends_goes : (o : Outcome Tree) (s : State) (d : Config) → ends o s ≡ goes d → ⊥
ends_goes o s d e = cc

same_goes : (c d : Config) → goes c ≡ goes d → c ≡ d
same_goes c d e = cc

-- what is taken from the stack

pop_from_goes : (stack : List Tree) (c d : Config) (go : Tree → Config → Turn) → pop_from stack c go ≡ goes d
    → (t : Tree) × (ts : List Tree) × (stack ≡ t ∷ ts) × (go t (record c { stack = ts }) ≡ goes d)
pop_from_goes [] c d go e = absurd (ends_goes _ c.state d e)
pop_from_goes (t ∷ ts) c d go e = (t, ts, refl, e)

pop_goes : (c d : Config) (go : Tree → Config → Turn) → pop c go ≡ goes d → (t : Tree) × (ts : List Tree) × (c.stack ≡ t ∷ ts)
    × (go t (record c { stack = ts }) ≡ goes d)
pop_goes c d go e = pop_from_goes c.stack c d go e

pop_two_goes : (c d : Config) (go : Tree → Tree → Config → Turn) → pop_two c go ≡ goes d
    → (a : Tree) × (b : Tree) × (ts : List Tree) × (length c.stack ≡ length ts + 2) × (go a b (record c { stack = ts }) ≡ goes d)
pop_two_goes c d go e =
    let first = pop_goes c d (λ b d. pop d (λ a e. go a b e)) e in
    let second = pop_goes (record c { stack = first.1 }) d (λ a e. go a first.0 e) first.3 in
    (second.0, first.0, second.1, omega (arith, ap (λ (ts : List Tree). length ts) first.2, ap (λ (ts : List Tree). length ts) second.2), second.3)

pop_many_goes : (n : ℕ) (c d : Config) (go : List Tree → Config → Turn) → pop_many n c go ≡ goes d
    → (n ≤ length c.stack) × (go (reverse (take n c.stack)) (record c { stack = drop n c.stack }) ≡ goes d)
pop_many_goes n c d go = by_test (nat_le n (length c.stack)) refl
  where
    by_test : (b : Bool) → nat_le n (length c.stack) ≡ b → cond b (go (reverse (take n c.stack)) (record c { stack = drop n c.stack })) (misfit c) ≡ goes d
        → (n ≤ length c.stack) × (go (reverse (take n c.stack)) (record c { stack = drop n c.stack }) ≡ goes d)
    by_test true is e = (leb-true n (length c.stack) is, e)
    by_test false is e = absurd (ends_goes _ c.state d e)

-- what comes onto the stack

settle_goes : (r : Outcome Tree × State) (c d : Config) → settle r c ≡ goes d
    → (t : Tree) × (s : State) × (r ≡ (done t, s)) × (d ≡ record { at = c.at + 1; stack = t ∷ c.stack; slots = c.slots; state = s })
settle_goes (done t, s) c d e = (t, s, refl, sym (same_goes _ d e))
settle_goes (fails k, s) c d e = absurd (ends_goes (fails k) s d e)
settle_goes (wants q, s) c d e = absurd (ends_goes (wants q) s d e)

-- an instruction that takes so many values and puts one there
puts : (i : Instr) (c d : Config) (rest : List Tree) (t : Tree) (s : State) → goes_on i ≡ true → (i ≡ Tick → ⊥) → pushes i ≡ 1
    → length c.stack ≡ length rest + pops i
    → d ≡ record { at = c.at + 1; stack = t ∷ rest; slots = c.slots; state = s } → s.ticks ≡ c.state.ticks → Moves i c d
puts i c d rest t s on no_tick one size is ticks = record {
  leads = inl (on, ap (λ (x : Config). x.at) is);
  enough = omega arith;
  height = ap (λ (x : Config). length x.stack) is ∙ omega (arith, size, one);
  slots = ap (λ (x : Config). length x.slots) is;
  ticks = inr (no_tick, ap (λ (x : Config). x.state.ticks) is ∙ ticks);
}

acts : (i : Instr) (c d : Config) (rest : List Tree) (m : Act Tree) → goes_on i ≡ true → (i ≡ Tick → ⊥) → pushes i ≡ 1 → length c.stack ≡ length rest + pops i
    → Keeps m
    → act_on m (record c { stack = rest }) ≡ goes d → Moves i c d
acts i c d rest m on no_tick one size keeps e =
    let r = settle_goes (m c.state) (record c { stack = rest }) d e in
    puts i c d rest r.0 r.1 on no_tick one size r.3 (keeps c.state r.1 r.0 r.2)

-- an instruction that takes so many values, puts none there, and goes to a place
moves_to : (i : Instr) (c d : Config) (to : ℕ) (rest slots : List Tree) → Leads c.at i to → (i ≡ Tick → ⊥) → pushes i ≡ 0
    → length c.stack ≡ length rest + pops i → length slots ≡ length c.slots
    → d ≡ record { at = to; stack = rest; slots = slots; state = c.state } → Moves i c d
moves_to i c d to rest slots leads no_tick none size same is = record {
  leads = subst (λ (n : ℕ). Leads c.at i n) (sym (ap (λ (x : Config). x.at) is)) leads;
  enough = omega arith;
  height = ap (λ (x : Config). length x.stack) is ∙ omega (arith, size, none);
  slots = ap (λ (x : Config). length x.slots) is ∙ same;
  ticks = inr (no_tick, ap (λ (x : Config). x.state.ticks) is);
}

one_taken : (c : Config) (t : Tree) (ts : List Tree) → c.stack ≡ t ∷ ts → length c.stack ≡ length ts + 1
one_taken c t ts e = omega (arith, ap (λ (xs : List Tree). length xs) e)

tick_moves : (c d : Config) → run.tick c ≡ goes d → Moves Tick c d
tick_moves c d = by_test (nat_lt c.state.ticks 1000000) refl
  where
    next : Config
    next = record { at = c.at + 1; stack = c.stack; slots = c.slots; state = record c.state { ticks = c.state.ticks + 1 } }

    by_test : (b : Bool) → nat_lt c.state.ticks 1000000 ≡ b → cond b (goes next) (ends (fails Budget) c.state) ≡ goes d → Moves Tick c d
    by_test true is e =
        let same : next ≡ d = same_goes next d e in
        record {
          leads = inl (refl, ap (λ (x : Config). x.at) (sym same));
          enough = omega arith;
          height = ap (λ (x : Config). length x.stack) (sym same) ∙ omega arith;
          slots = ap (λ (x : Config). length x.slots) (sym same);
          ticks = inl (refl, ltb-true c.state.ticks 1000000 is, ap (λ (x : Config). x.state.ticks) (sym same));
        }
    by_test false is e = absurd (ends_goes _ c.state d e)

text_moves : (n : ℕ) (found : Option (List ℕ)) (c d : Config) → push_text found c ≡ goes d → Moves (PushText n) c d
text_moves n None c d e = absurd (ends_goes _ c.state d e)
text_moves n (Some s) c d e = acts (PushText n) c d c.stack (by_answer (made (TText s))) refl (λ e. cc) refl (omega arith) (keeps_answer (made (TText s))) e

load_moves : (n : ℕ) (found : Option Tree) (c d : Config) → push_found found c ≡ goes d → Moves (Load n) c d
load_moves n None c d e = absurd (ends_goes _ c.state d e)
load_moves n (Some t) c d e = puts (Load n) c d c.stack t c.state refl (λ e. cc) refl (omega arith) (sym (same_goes _ d e)) refl

store_moves : (n : ℕ) (t : Tree) (ts : List Tree) (c d : Config) → c.stack ≡ t ∷ ts → store n t (record c { stack = ts }) ≡ goes d → Moves (Store n) c d
store_moves n t ts c d is = by_test (nat_lt n (length c.slots))
  where
    next : Config
    next = record { at = c.at + 1; stack = ts; slots = slice_set c.slots n t; state = c.state }

    by_test : (b : Bool) → cond b (goes next) (misfit (record c { stack = ts })) ≡ goes d → Moves (Store n) c d
    by_test true e = moves_to (Store n) c d (c.at + 1) ts (slice_set c.slots n t) (inl (refl, refl)) (λ e. cc) refl (one_taken c t ts is)
        (length_set c.slots n t) (sym (same_goes next d e))
    by_test false e = absurd (ends_goes _ c.state d e)

branch_moves : (b : ℕ) (t : Tree) (ts : List Tree) (c d : Config) → c.stack ≡ t ∷ ts → branch b t (record c { stack = ts }) ≡ goes d → Moves (JumpIfNot b) c d
branch_moves b (TBool true) ts c d is e = moves_to (JumpIfNot b) c d (c.at + 1) ts c.slots (inl (refl, refl)) (λ e. cc) refl
    (one_taken c (TBool true) ts is) refl (sym (same_goes _ d e))
branch_moves b (TBool false) ts c d is e = moves_to (JumpIfNot b) c d b ts c.slots (inr refl) (λ e. cc) refl (one_taken c (TBool false) ts is) refl
    (sym (same_goes _ d e))
branch_moves b t ts c d is e = absurd (ends_goes _ c.state d e)

item_moves : (l : EachLoop) (t : Tree) (n : ℕ) (c d : Config) → next_item l t n c ≡ goes d → Moves (Each l) c d
item_moves l t n c d e = by_test (nat_lt l.item (length c.slots)) e
  where
    slots : List Tree
    slots = slice_set (slice_set c.slots l.item t) l.at (TInt (pos (n + 1)))

    next : Config
    next = record { at = c.at + 1; stack = c.stack; slots = slots; state = c.state }

    same : length slots ≡ length c.slots
    same = length_set (slice_set c.slots l.item t) l.at (TInt (pos (n + 1))) ∙ length_set c.slots l.item t

    by_test : (b : Bool) → cond b (goes next) (misfit c) ≡ goes d → Moves (Each l) c d
    by_test true e = moves_to (Each l) c d (c.at + 1) c.stack slots (inl (refl, refl)) (λ e. cc) refl (omega arith) same (sym (same_goes next d e))
    by_test false e = absurd (ends_goes _ c.state d e)

each_moves : (l : EachLoop) (found : Option (Option Tree)) (n : ℕ) (c d : Config) → each_turn l found n c ≡ goes d → Moves (Each l) c d
each_moves l None n c d e = absurd (ends_goes _ c.state d e)
each_moves l (Some None) n c d e = moves_to (Each l) c d l.end c.stack c.slots (inr refl) (λ e. cc) refl (omega arith) refl (sym (same_goes _ d e))
each_moves l (Some (Some t)) n c d e = item_moves l t n c d e

each_from_moves : (l : EachLoop) (at : Option ℕ) (c d : Config) → each_from l at c ≡ goes d → Moves (Each l) c d
each_from_moves l None c d e = absurd (ends_goes _ c.state d e)
each_from_moves l (Some n) c d e = each_moves l (item_found (slice_get c.slots l.list) n) n c d e

require_moves : (r : Required) (found : Option (List ℕ)) (c d : Config) → require_named r found c ≡ goes d → Moves (Require r) c d
require_moves r None c d e = absurd (ends_goes _ c.state d e)
require_moves r (Some f) c d e =
    let many = pop_many_goes r.count c d (λ ts d. act_on (require r.how f ts) d) e in
    let ts = reverse (take r.count c.stack) in
    acts (Require r) c d (drop r.count c.stack) (require r.how f ts) refl (λ e. cc) refl (omega (arith, many.0, length-drop r.count c.stack))
    (keeps_require r.how f ts) many.1

-- what one instruction changes
pub act_moves : (texts : List (List ℕ)) (i : Instr) (c d : Config) → act texts i c ≡ goes d → Moves i c d
act_moves texts Tick c d e = tick_moves c d e
act_moves texts (Push k) c d e = puts (Push k) c d c.stack (run.value_of k) c.state refl (λ e. cc) refl (omega arith) (sym (same_goes _ d e)) refl
act_moves texts (PushText n) c d e = text_moves n (slice_get texts n) c d e
act_moves texts (Load n) c d e = load_moves n (slice_get c.slots n) c d e
act_moves texts (Store n) c d e = let p = pop_goes c d (store n) e in store_moves n p.0 p.1 c d p.2 p.3
act_moves texts Drop c d e =
    let p = pop_goes c d (λ t d. onward d) e in
    moves_to Drop c d (c.at + 1) p.1 c.slots (inl (refl, refl)) (λ e. cc) refl (one_taken c p.0 p.1 p.2) refl (sym (same_goes _ d p.3))
act_moves texts (Unary o) c d e =
    let p = pop_goes c d (λ a d. act_on (by_answer (unary_answer o a)) d) e in
    acts (Unary o) c d p.1 (by_answer (unary_answer o p.0)) refl (λ e. cc) refl (one_taken c p.0 p.1 p.2) (keeps_answer (unary_answer o p.0)) p.3
act_moves texts (Binary o) c d e =
    let p = pop_two_goes c d (λ a b d. act_on (by_answer (binary_answer o a b)) d) e in
    acts (Binary o) c d p.2 (by_answer (binary_answer o p.0 p.1)) refl (λ e. cc) refl p.3 (keeps_answer (binary_answer o p.0 p.1)) p.4
act_moves texts (Jump b) c d e = moves_to (Jump b) c d b c.stack c.slots (inr refl) (λ e. cc) refl (omega arith) refl (sym (same_goes _ d e))
act_moves texts (JumpIfNot b) c d e = let p = pop_goes c d (branch b) e in branch_moves b p.0 p.1 c d p.2 p.3
act_moves texts (Each l) c d e = each_from_moves l (number_in (slice_get c.slots l.at)) c d e
act_moves texts ListPush c d e =
    let p = pop_two_goes c d (λ a b d. act_on (by_answer (list_with a b)) d) e in
    acts ListPush c d p.2 (by_answer (list_with p.0 p.1)) refl (λ e. cc) refl p.3 (keeps_answer (list_with p.0 p.1)) p.4
act_moves texts TuplePush c d e =
    let p = pop_two_goes c d (λ a b d. act_on (by_answer (tuple_with a b)) d) e in
    acts TuplePush c d p.2 (by_answer (tuple_with p.0 p.1)) refl (λ e. cc) refl p.3 (keeps_answer (tuple_with p.0 p.1)) p.4
act_moves texts (Proj n) c d e =
    let p = pop_goes c d (λ a d. act_on (by_answer (item_at n a)) d) e in
    acts (Proj n) c d p.1 (by_answer (item_at n p.0)) refl (λ e. cc) refl (one_taken c p.0 p.1 p.2) (keeps_answer (item_at n p.0)) p.3
act_moves texts (Call which) c d e =
    let many = pop_many_goes (arity_of which) c d (λ ts d. act_on (by_answer (answer_of which ts)) d) e in
    let ts = reverse (take (arity_of which) c.stack) in
    acts (Call which) c d (drop (arity_of which) c.stack) (by_answer (answer_of which ts)) refl (λ e. cc) refl
    (omega (arith, many.0, length-drop (arity_of which) c.stack)) (keeps_answer (answer_of which ts)) many.1
act_moves texts (Observe o) c d e =
    let p = pop_goes c d (λ a d. act_on (observe o a) d) e in
    acts (Observe o) c d p.1 (observe o p.0) refl (λ e. cc) refl (one_taken c p.0 p.1 p.2) (keeps_observe o p.0) p.3
act_moves texts Write c d e =
    let p = pop_two_goes c d (λ a b d. act_on (write a b) d) e in
    acts Write c d p.2 (write p.0 p.1) refl (λ e. cc) refl p.3 (keeps_write p.0 p.1) p.4
act_moves texts (Require r) c d e = require_moves r (slice_get texts r.func) c d e
act_moves texts Fail c d e =
    let p = pop_goes c d (λ a d. act_on (fail a) d) e in
    let r = settle_goes (fail p.0 c.state) (record c { stack = p.1 }) d p.3 in
    absurd (fail_ends p.0 r.0 c.state r.1 r.2)
act_moves texts Return c d e = let p = pop_goes c d finish e in absurd (ends_goes (done p.0) c.state d p.3)
