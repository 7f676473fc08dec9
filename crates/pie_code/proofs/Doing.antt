-- An instruction that is ready does what it does with its operands.
use Rattle.std.proofs.Common.{◌≡◌, ℕ, ◌<◌, ◌≤◌, Bool, cond, List, [], ◌∷◌, length, drop, get_or, slice_get, slice_set, Some, refl, sym, ap, ◌∙◌, subst, arith}
use Rattle.std.proofs.lemmas.Bool.{lt-ltb, le-leb}
use Rattle.std.proofs.lemmas.Option.{slice_get-get_or}
use Rattle.pie_value.specs.Tree.{Tree, TUnit}
use Rattle.pie_value.specs.Builtins.{answer_of}
use Rattle.pie_signature.specs.Signatures.{arity_of}
use Rattle.pie_operators.specs.Operators.{unary_answer, binary_answer, list_with, tuple_with, item_at}
use Rattle.pie_operators.specs.Domain.{by_answer}
use Rattle.pie_operators.specs.Effects.{observe, write, require, fail}
use Rattle.pie_code.specs.declared.code.Code.{Code}
use Rattle.pie_code.specs.declared.instr.Instr.{Instr}
use Rattle.pie_code.specs.declared.instr.Instr.TheVariants.{Tick, Push, PushText, Load, Store, Drop, Unary, Binary, Jump, JumpIfNot, Each, ListPush}
use Rattle.pie_code.specs.declared.instr.Instr.TheVariants.{TuplePush, Proj, Call, Observe, Write, Require, Fail, Return}
use Rattle.pie_code.specs.Ways.{Fits, slots_of, texts_of}
use Rattle.pie_code.specs.Checked.{AreBelow}
use Rattle.pie_code.specs.Running as run
use Rattle.pie_code.specs.Running.{Config, Turn, onward, misfit, pop_from, pop_two, pop_many, push_found, push_text, each_from, number_in, require_named}
use Rattle.pie_code.specs.Running.{branch, store, finish, act_on, act, act_found, step}
use Rattle.pie_code.specs.Standing.{IsReady}
use Rattle.pie_code.specs.Operands.{Does, below, arguments}
use Rattle.pie_code.specs.Operands.Does.{ticks, brings, brings_text, loads, stores, drops, applies, joins, jumps, branches, turns, lengthens_list}
use Rattle.pie_code.specs.Operands.Does.{lengthens_tuple, takes_item, calls, observes, writes, requires_task, says, returns}

top : (stack : List Tree) → 1 ≤ length stack → (t : Tree) × (ts : List Tree) × (stack ≡ t ∷ ts)
top [] l = absurd (omega arith)
top (t ∷ ts) l = (t, ts, refl)

top_two : (stack : List Tree) → 2 ≤ length stack → (a : Tree) × (b : Tree) × (ts : List Tree) × (stack ≡ b ∷ a ∷ ts)
top_two [] l = absurd (omega arith)
top_two (b ∷ []) l = absurd (omega arith)
top_two (b ∷ a ∷ ts) l = (a, b, ts, refl)

alone : (stack : List Tree) → length stack ≡ 1 → (t : Tree) × (stack ≡ t ∷ [])
alone [] e = absurd (omega arith)
alone (t ∷ []) e = (t, refl)
alone (t ∷ u ∷ ts) e = absurd (omega arith)

-- what goes on with the top of the stack
popped : (c : Config) (go : Tree → Config → Turn) (t : Tree) (ts : List Tree) → c.stack ≡ t ∷ ts → run.pop c go ≡ go t (below ts c)
popped c go t ts e = ap (λ (stack : List Tree). pop_from stack c go) e

popped_two : (c : Config) (go : Tree → Tree → Config → Turn) (a b : Tree) (ts : List Tree) → c.stack ≡ b ∷ a ∷ ts → pop_two c go ≡ go a b (below ts c)
popped_two c go a b ts e = ap (λ (stack : List Tree). pop_from stack c (λ b d. run.pop d (λ a e. go a b e))) e

popped_many : (n : ℕ) (c : Config) (go : List Tree → Config → Turn) → n ≤ length c.stack → pop_many n c go ≡ go (arguments n c) (below (drop n c.stack) c)
popped_many n c go l = ap (λ (b : Bool). cond b (go (arguments n c) (below (drop n c.stack) c)) (misfit c)) (le-leb n (length c.stack) l)

there : {A : Type 0} (xs : List A) (i : ℕ) (d : A) → i < length xs → slice_get xs i ≡ Some (get_or xs i d)
there xs i d l = slice_get-get_or xs i d l

does_with : (texts : List (List ℕ)) (i : Instr) (c : Config) → Fits i (length c.stack) → AreBelow (length c.slots) (slots_of i)
    → AreBelow (length texts) (texts_of i)
    → Does texts c i (act texts i c)
does_with texts Tick c fits slots names = ticks
does_with texts (Push k) c fits slots names = brings
does_with texts (PushText n) c fits slots names =
    let is = there texts n [] names.0 in
    subst (Does texts c (PushText n)) (sym (ap (λ found. push_text found c) is)) (brings_text is)
does_with texts (Load n) c fits slots names =
    let is = there c.slots n TUnit slots.0 in
    subst (Does texts c (Load n)) (sym (ap (λ found. push_found found c) is)) (loads is)
does_with texts (Store n) c fits slots names =
    let p = top c.stack fits.0 in
    let stored = ap (λ (b : Bool). cond b (onward (record c { stack = p.1; slots = slice_set c.slots n p.0 })) (misfit (below p.1 c)))
    (lt-ltb n (length c.slots) slots.0) in
    subst (Does texts c (Store n)) (sym (popped c (store n) p.0 p.1 p.2 ∙ stored)) (stores p.2 slots.0)
does_with texts Drop c fits slots names =
    let p = top c.stack fits.0 in
    subst (Does texts c Drop) (sym (popped c (λ t d. onward d) p.0 p.1 p.2)) (drops p.2)
does_with texts (Unary o) c fits slots names =
    let p = top c.stack fits.0 in
    subst (Does texts c (Unary o)) (sym (popped c (λ a d. act_on (by_answer (unary_answer o a)) d) p.0 p.1 p.2)) (applies p.2)
does_with texts (Binary o) c fits slots names =
    let p = top_two c.stack fits.0 in
    subst (Does texts c (Binary o)) (sym (popped_two c (λ a b d. act_on (by_answer (binary_answer o a b)) d) p.0 p.1 p.2 p.3)) (joins p.3)
does_with texts (Jump b) c fits slots names = jumps
does_with texts (JumpIfNot b) c fits slots names =
    let p = top c.stack fits.0 in
    subst (Does texts c (JumpIfNot b)) (sym (popped c (branch b) p.0 p.1 p.2)) (branches p.2)
does_with texts (Each e) c fits slots names =
    let list = there c.slots e.list TUnit slots.0 in
    let at = there c.slots e.at TUnit slots.1.0 in
    subst (Does texts c (Each e)) (sym (ap (λ found. each_from e (number_in found) c) at))
    (turns list at slots.1.1.0)
does_with texts ListPush c fits slots names =
    let p = top_two c.stack fits.0 in
    subst (Does texts c ListPush) (sym (popped_two c (λ a b d. act_on (by_answer (list_with a b)) d) p.0 p.1 p.2 p.3)) (lengthens_list p.3)
does_with texts TuplePush c fits slots names =
    let p = top_two c.stack fits.0 in
    subst (Does texts c TuplePush) (sym (popped_two c (λ a b d. act_on (by_answer (tuple_with a b)) d) p.0 p.1 p.2 p.3)) (lengthens_tuple p.3)
does_with texts (Proj n) c fits slots names =
    let p = top c.stack fits.0 in
    subst (Does texts c (Proj n)) (sym (popped c (λ a d. act_on (by_answer (item_at n a)) d) p.0 p.1 p.2)) (takes_item p.2)
does_with texts (Call which) c fits slots names =
    subst (Does texts c (Call which)) (sym (popped_many (arity_of which) c (λ ts d. act_on (by_answer (answer_of which ts)) d) fits.0)) (calls fits.0)
does_with texts (Observe o) c fits slots names =
    let p = top c.stack fits.0 in
    subst (Does texts c (Observe o)) (sym (popped c (λ a d. act_on (observe o a) d) p.0 p.1 p.2)) (observes p.2)
does_with texts Write c fits slots names =
    let p = top_two c.stack fits.0 in
    subst (Does texts c Write) (sym (popped_two c (λ a b d. act_on (write a b) d) p.0 p.1 p.2 p.3)) (writes p.3)
does_with texts (Require r) c fits slots names =
    let is = there texts r.func [] names.0 in
    subst (Does texts c (Require r))
    (sym (ap (λ found. require_named r found c) is ∙ popped_many r.count c (λ ts d. act_on (require r.how (get_or texts r.func []) ts) d) fits.0))
    (requires_task is fits.0)
does_with texts Fail c fits slots names =
    let p = top c.stack fits.0 in
    subst (Does texts c Fail) (sym (popped c (λ a d. act_on (fail a) d) p.0 p.1 p.2)) (says p.2)
does_with texts Return c fits slots names =
    let p = alone c.stack (fits.1 refl) in
    subst (Does texts c Return) (sym (popped c finish p.0 [] p.1)) (returns p.1)

-- a step where an instruction is ready is what it does with its operands
pub step_does : (code : Code) (c : Config) (r : IsReady code c) → Does code.texts.items c r.instr (step code c)
step_does code c r =
    subst (Does code.texts.items c r.instr) (sym (ap (λ found. act_found code.texts.items found c) r.there))
    (does_with code.texts.items r.instr c r.operands r.slots r.texts)
