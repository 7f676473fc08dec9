-- More answers behind those that are left change no step that goes on.
use Rattle.std.proofs.Common.{◌≡◌, ℕ, ◌+◌, ◌≤◌, Bool, true, false, cond, nat_le, nat_lt, List, [], ◌∷◌, ◌++◌, length, take, drop, reverse, slice_get, slice_set}
use Rattle.std.proofs.Common.{Option, Some, None, Result, Ok, Err, refl, sym, subst, ap, ◌∙◌}
use Rattle.pie_base.specs.Path.{is_out}
use Rattle.pie_base.specs.declared.fault.FaultKind.TheVariants.{Budget, BadList, BadWrite, WroteTwice, ReadThenWrite, Big, Unknown}
use Rattle.pie_value.specs.declared.event.Answer.{Answer}
use Rattle.pie_value.specs.Tree.{Tree, TUnit, TBool, TInt, TText, TPath, TList, TTuple, TNull, TBytes}
use Rattle.pie_value.specs.Limits.{is_small_task}
use Rattle.pie_value.specs.BuiltinForms.{Answered, made}
use Rattle.pie_value.specs.Builtins.{answer_of}
use Rattle.pie_signature.specs.Signatures.{arity_of}
use Rattle.pie_operators.specs.declared.asking.Observation.{Observation}
use Rattle.pie_operators.specs.declared.asking.Observation.TheVariants.{Exists, Read, Digest, List as Listing}
use Rattle.pie_operators.specs.declared.asking.Question.{Question}
use Rattle.pie_operators.specs.declared.asking.Question.TheVariants.{Observe as OfPath, Write as OfWrite, Require as OfTask}
use Rattle.pie_operators.specs.Operators.{unary_answer, binary_answer, list_with, tuple_with, item_at}
use Rattle.pie_operators.specs.Domain.{Outcome, done, fails, wants, State, Act, by_answer, holds, fault}
use Rattle.pie_operators.specs.Effects.{asked, asked_with, noted, taken, observe, may_observe, write, write_bytes, require, fail}
use Rattle.pie_code.specs.declared.instr.Instr.{Instr}
use Rattle.pie_code.specs.declared.instr.Instr.TheVariants.{Tick, Push, PushText, Load, Store, Drop, Unary, Binary, Jump, JumpIfNot, Each, ListPush}
use Rattle.pie_code.specs.declared.instr.Instr.TheVariants.{TuplePush, Proj, Call, Observe, Write, Require, Fail, Return}
use Rattle.pie_code.specs.declared.instr.Each.{Each as EachLoop}
use Rattle.pie_code.specs.declared.instr.Required.{Required}
use Rattle.pie_code.specs.declared.code.Code.{Code}
use Rattle.pie_code.specs.Running.{Config, Turn, goes, ends, misfit, onward, push, push_found, pop_from, pop, pop_two, pop_many, settle, act_on, tick}
use Rattle.pie_code.specs.Running.{push_text, store, branch}
use Rattle.pie_code.specs.Running.{number_in, item_found, next_item, each_turn, each_from, require_named, finish, act, act_found, step}
use Rattle.pie_vm.specs.Machines.{more, more_for, Asks}

module _ (rest : List Answer) where
  -- where the first goes on, the second goes on alike; where it asks, no answer is left
  abbrev pub Carried : Turn → Turn → Type 0
  Carried (goes d) t = t ≡ goes (more_for rest d)
  Carried (ends o s) t = Asks o (s.answers ≡ [])

  abbrev Goes : (Config → Turn) → Type 0
  Goes f = (c : Config) → Carried (f c) (f (more_for rest c))

  by_cond : (b : Bool) (t u x y : Turn) → Carried t x → Carried u y → Carried (cond b t u) (cond b x y)
  by_cond true t u x y h k = h
  by_cond false t u x y h k = k

  c_pop_from : (ts : List Tree) (c : Config) (go : Tree → Config → Turn) → ((t : Tree) → Goes (go t))
      → Carried (pop_from ts c go) (pop_from ts (more_for rest c) go)
  c_pop_from [] c go h = tt
  c_pop_from (t ∷ ts) c go h = h t (record c { stack = ts })

  c_pop : (go : Tree → Config → Turn) → ((t : Tree) → Goes (go t)) → Goes (λ c. pop c go)
  c_pop go h c = c_pop_from c.stack c go h

  c_pop_two : (go : Tree → Tree → Config → Turn) → ((t u : Tree) → Goes (go t u)) → Goes (λ c. pop_two c go)
  c_pop_two go h = c_pop (λ b d. pop d (λ a e. go a b e)) (λ b. c_pop (λ a e. go a b e) (λ a. h a b))

  c_pop_many : (n : ℕ) (go : List Tree → Config → Turn) → ((ts : List Tree) → Goes (go ts)) → Goes (λ c. pop_many n c go)
  c_pop_many n go h c = by_cond (nat_le n (length c.stack)) _ _ _ _ (h (reverse (take n c.stack)) (record c { stack = drop n c.stack })) tt

  c_answer : (a : Answered) → Goes (act_on (by_answer a))
  c_answer (Ok t) c = refl
  c_answer (Err k) c = tt

  -- what is noted is noted alike
  noted_more : (q : Question) (s : State) → noted q (more rest s) ≡ more rest (noted q s)
  noted_more (OfPath Exists p) s = refl
  noted_more (OfPath (Read by) p) s = refl
  noted_more (OfPath Digest p) s = refl
  noted_more (OfPath Listing p) s = refl
  noted_more (OfWrite p bs) s = refl
  noted_more (OfTask t how) s = refl

  c_settled : (a : Answered) (s : State) (c : Config) → Carried (settle (by_answer a s) c) (settle (by_answer a (more rest s)) (more_for rest c))
  c_settled (Ok t) s c = refl
  c_settled (Err k) s c = tt

  c_asked_with : (q : Question) (left : List Answer) (c : Config) → c.state.answers ≡ left
      → Carried (settle (asked_with q c.state left) c) (settle (asked_with q (more rest c.state) (left ++ rest)) (more_for rest c))
  c_asked_with q [] c e = e
  c_asked_with q (a ∷ left) c e =
      subst (λ s. Carried (settle (by_answer (taken q a) (noted q (record c.state { answers = left }))) c) (settle (by_answer (taken q a) s) (more_for rest c)))
      (sym (noted_more q (record c.state { answers = left })))
      (c_settled (taken q a) (noted q (record c.state { answers = left })) c)

  c_asked : (q : Question) → Goes (act_on (asked q))
  c_asked q c = c_asked_with q c.state.answers c refl

  c_may : (b : Bool) (q : Question) → Goes (act_on (cond b (asked q) (fault BadList)))
  c_may true q c = c_asked q c
  c_may false q c = tt

  c_observe : (o : Observation) (t : Tree) → Goes (act_on (observe o t))
  c_observe o TUnit c = tt
  c_observe o (TBool b) c = tt
  c_observe o (TInt n) c = tt
  c_observe o (TText s) c = tt
  c_observe o (TPath p) c = c_may (may_observe o p) (OfPath o p) c
  c_observe o (TList ts) c = tt
  c_observe o (TTuple ts) c = tt
  c_observe o TNull c = tt
  c_observe o (TBytes s) c = tt

  c_tests : (x y z : Bool) (q : Question) (c : Config) → Carried
      (settle (cond x (cond y (fails WroteTwice, c.state) (cond z (fails ReadThenWrite, c.state) (asked q c.state))) (fails BadWrite, c.state)) c)
      (settle (cond x (cond y (fails WroteTwice, more rest c.state) (cond z (fails ReadThenWrite, more rest c.state) (asked q (more rest c.state))))
      (fails BadWrite, more rest c.state)) (more_for rest c))
  c_tests true true z q c = tt
  c_tests true false true q c = tt
  c_tests true false false q c = c_asked q c
  c_tests false y z q c = tt

  c_write_bytes : (p bs : List ℕ) → Goes (act_on (write_bytes p bs))
  c_write_bytes p bs c = c_tests (is_out p) (holds c.state.wrote p) (holds c.state.seen p) (OfWrite p bs) c

  c_write_path : (p : List ℕ) (u : Tree) → Goes (act_on (write (TPath p) u))
  c_write_path p TUnit c = tt
  c_write_path p (TBool b) c = tt
  c_write_path p (TInt n) c = tt
  c_write_path p (TText s) c = c_write_bytes p s c
  c_write_path p (TPath q) c = tt
  c_write_path p (TList ts) c = tt
  c_write_path p (TTuple ts) c = tt
  c_write_path p TNull c = tt
  c_write_path p (TBytes s) c = c_write_bytes p s c

  c_write : (t u : Tree) → Goes (act_on (write t u))
  c_write TUnit u c = tt
  c_write (TBool b) u c = tt
  c_write (TInt n) u c = tt
  c_write (TText s) u c = tt
  c_write (TPath p) u c = c_write_path p u c
  c_write (TList ts) u c = tt
  c_write (TTuple ts) u c = tt
  c_write TNull u c = tt
  c_write (TBytes s) u c = tt

  c_small : (b : Bool) (q : Question) → Goes (act_on (cond b (asked q) (fault Big)))
  c_small true q c = c_asked q c
  c_small false q c = tt

  c_require : (r : Required) (f : Option (List ℕ)) → Goes (require_named r f)
  c_require r None c = tt
  c_require r (Some f) c =
      c_pop_many r.count (λ ts d. act_on (require r.how f ts) d)
      (λ ts. c_small (is_small_task (record { func = f; args = ts })) (OfTask (record { func = f; args = ts }) r.how)) c

  c_fail : (t : Tree) → Goes (act_on (fail t))
  c_fail TUnit c = tt
  c_fail (TBool b) c = tt
  c_fail (TInt n) c = tt
  c_fail (TText s) c = tt
  c_fail (TPath p) c = tt
  c_fail (TList ts) c = tt
  c_fail (TTuple ts) c = tt
  c_fail TNull c = tt
  c_fail (TBytes s) c = tt

  c_found : (o : Option Tree) → Goes (push_found o)
  c_found None c = tt
  c_found (Some t) c = refl

  c_text : (o : Option (List ℕ)) → Goes (push_text o)
  c_text None c = tt
  c_text (Some s) c = c_answer (made (TText s)) c

  c_store : (n : ℕ) (t : Tree) → Goes (store n t)
  c_store n t c = by_cond (nat_lt n (length c.slots)) _ _ _ _ refl tt

  c_branch : (n : ℕ) (t : Tree) → Goes (branch n t)
  c_branch n TUnit c = tt
  c_branch n (TBool true) c = refl
  c_branch n (TBool false) c = refl
  c_branch n (TInt k) c = tt
  c_branch n (TText s) c = tt
  c_branch n (TPath p) c = tt
  c_branch n (TList ts) c = tt
  c_branch n (TTuple ts) c = tt
  c_branch n TNull c = tt
  c_branch n (TBytes s) c = tt

  c_turn : (e : EachLoop) (o : Option (Option Tree)) (n : ℕ) → Goes (each_turn e o n)
  c_turn e None n c = tt
  c_turn e (Some None) n c = refl
  c_turn e (Some (Some t)) n c = by_cond (nat_lt e.item (length c.slots)) _ _ _ _ refl tt

  c_each : (e : EachLoop) (o : Option ℕ) → Goes (each_from e o)
  c_each e None c = tt
  c_each e (Some n) c = c_turn e (item_found (slice_get c.slots e.list) n) n c

  c_tick : Goes tick
  c_tick c = by_cond (nat_lt c.state.ticks 1000000) _ _ _ _ refl tt

  c_act : (texts : List (List ℕ)) (i : Instr) → Goes (act texts i)
  c_act texts Tick c = c_tick c
  c_act texts (Push k) c = refl
  c_act texts (PushText n) c = c_text (slice_get texts n) c
  c_act texts (Load n) c = c_found (slice_get c.slots n) c
  c_act texts (Store n) c = c_pop (store n) (c_store n) c
  c_act texts Drop c = c_pop (λ t d. onward d) (λ t d. refl) c
  c_act texts (Unary o) c = c_pop (λ a d. act_on (by_answer (unary_answer o a)) d) (λ a. c_answer (unary_answer o a)) c
  c_act texts (Binary o) c = c_pop_two (λ a b d. act_on (by_answer (binary_answer o a b)) d) (λ a b. c_answer (binary_answer o a b)) c
  c_act texts (Jump n) c = refl
  c_act texts (JumpIfNot n) c = c_pop (branch n) (c_branch n) c
  c_act texts (Each e) c = c_each e (number_in (slice_get c.slots e.at)) c
  c_act texts ListPush c = c_pop_two (λ a b d. act_on (by_answer (list_with a b)) d) (λ a b. c_answer (list_with a b)) c
  c_act texts TuplePush c = c_pop_two (λ a b d. act_on (by_answer (tuple_with a b)) d) (λ a b. c_answer (tuple_with a b)) c
  c_act texts (Proj n) c = c_pop (λ a d. act_on (by_answer (item_at n a)) d) (λ a. c_answer (item_at n a)) c
  c_act texts (Call which) c = c_pop_many (arity_of which) (λ ts d. act_on (by_answer (answer_of which ts)) d) (λ ts. c_answer (answer_of which ts)) c
  c_act texts (Observe o) c = c_pop (λ a d. act_on (observe o a) d) (c_observe o) c
  c_act texts Write c = c_pop_two (λ a b d. act_on (write a b) d) c_write c
  c_act texts (Require r) c = c_require r (slice_get texts r.func) c
  c_act texts Fail c = c_pop (λ a d. act_on (fail a) d) c_fail c
  c_act texts Return c = c_pop finish (λ t d. tt) c

  c_act_found : (texts : List (List ℕ)) (i : Option Instr) → Goes (act_found texts i)
  c_act_found texts None c = tt
  c_act_found texts (Some i) c = c_act texts i c

  carried : (code : Code) (c : Config) → Carried (step code c) (step code (more_for rest c))
  carried code c = c_act_found code.texts.items (slice_get code.instrs.items c.at) c

  pub step_more : (code : Code) (c d : Config) → step code c ≡ goes d → step code (more_for rest c) ≡ goes (more_for rest d)
  step_more code c d e = subst (λ t. Carried t (step code (more_for rest c))) e (carried code c)

-- a step that asks has no answer left
pub asks_empty : (code : Code) (c : Config) (o : Outcome Tree) (s : State) → step code c ≡ ends o s → Asks o (s.answers ≡ [])
asks_empty code c o s e = subst (λ t. Carried [] t (step code (more_for [] c))) e (carried [] code c)
