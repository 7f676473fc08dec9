-- Answered with a content that no value may hold, what code reads makes it fail for that.
use Rattle.std.proofs.Common.{◌≡◌, ℕ, zero, suc, ◌+◌, ◌<◌, Bool, true, false, cond, nat_le, nat_lt, List, [], ◌∷◌, ◌++◌, length, take, drop, reverse}
use Rattle.std.proofs.Common.{slice_get, Option, Some, None, Ok, Err, refl, sym, subst, ap, ◌∙◌, arith}
use Rattle.std.proofs.lemmas.Bool.Decides.{nat_tests}
use Rattle.std.specs.Prelude.{◌&&◌}
use Rattle.std.specs.Str.{is_utf8}
use Rattle.pie_base.specs.Path.{is_out}
use Rattle.pie_base.specs.declared.fault.FaultKind.TheVariants.{BadList, BadWrite, WroteTwice, ReadThenWrite, Big, NotText}
use Rattle.pie_value.specs.declared.event.Answer.{Answer}
use Rattle.pie_value.specs.declared.event.Answer.TheVariants as answers
use Rattle.pie_value.specs.declared.event.By.{By}
use Rattle.pie_value.specs.declared.event.By.TheVariants as stamped
use Rattle.pie_value.specs.declared.event.Event.{Event}
use Rattle.pie_value.specs.declared.event.Event.TheVariants as events
use Rattle.pie_value.specs.Tree.{Tree, TUnit, TBool, TInt, TText, TPath, TList, TTuple, TNull, TBytes}
use Rattle.pie_value.specs.Limits.{is_small_task}
use Rattle.pie_value.specs.BuiltinForms.{Answered, made}
use Rattle.pie_value.specs.Builtins.{answer_of}
use Rattle.pie_signature.specs.Signatures.{arity_of}
use Rattle.pie_operators.specs.declared.asking.Observation.{Observation}
use Rattle.pie_operators.specs.declared.asking.Observation.TheVariants.{Exists, Read, Digest, List as Listing}
use Rattle.pie_operators.specs.declared.asking.Question.{Question}
use Rattle.pie_operators.specs.declared.asking.Question.TheVariants.{Observe as OfPath, Write as OfWrite, Require as OfTask}
use Rattle.pie_operators.specs.Operators.{unary_answer, binary_answer, list_with, tuple_with, item_at}
use Rattle.pie_operators.specs.Domain.{Outcome, done, fails, wants, State, by_answer, holds, fault}
use Rattle.pie_operators.specs.Effects.{event_of, text_read, asked, asked_with, noted, taken, observe, may_observe, write, write_bytes, require, fail}
use Rattle.pie_code.specs.declared.instr.Instr.{Instr}
use Rattle.pie_code.specs.declared.instr.Instr.TheVariants.{Tick, Push, PushText, Load, Store, Drop, Unary, Binary, Jump, JumpIfNot, Each, ListPush}
use Rattle.pie_code.specs.declared.instr.Instr.TheVariants.{TuplePush, Proj, Call, Observe, Write, Require, Fail, Return}
use Rattle.pie_code.specs.declared.instr.Each.{Each as EachLoop}
use Rattle.pie_code.specs.declared.instr.Required.{Required}
use Rattle.pie_code.specs.declared.code.Code.{Code}
use Rattle.pie_code.specs.Coming.{CodeNext}
use Rattle.pie_code.specs.Running.{Config, Turn, goes, ends, onward, push_found, pop_from, pop, pop_two, pop_many, settle, act_on, tick}
use Rattle.pie_code.specs.Running.{push_text, store, branch, start, run, run_on}
use Rattle.pie_code.specs.Running.{number_in, item_found, each_turn, each_from, require_named, finish, act, act_found, step}
use Rattle.pie_vm.specs.Machines.{more, more_for}
use Rattle.pie_vm.proofs.Carried.{step_more}

-- a value with so many bytes is too big
not_small : (t : Tree) (n : ℕ) → 1048571 < n → (nat_le (5 + n) 1048576 && nat_le 1 64) ≡ false
not_small t n long = let no : nat_le (5 + n) 1048576 ≡ false = grind (arith, nat_tests) in ap (λ b. b && nat_le 1 64) no

module _ (bytes : List ℕ) (long : 1048571 < length bytes) where
  -- what is too much
  abbrev answer : Answer
  answer = answers.Bytes (Some bytes)

  abbrev told : State → State
  told s = more (answer ∷ []) s

  abbrev more_with : Config → Config
  more_with c = more_for (answer ∷ []) c

  text_is_big : text_read bytes ≡ Err Big
  text_is_big =
      let much : nat_lt 1048576 (5 + length bytes) ≡ true = grind (arith, nat_tests) in
      ap (λ b. cond b (Err Big) (cond (is_utf8 bytes) (Ok (TText bytes)) (Err NotText))) much

  bytes_are_big : made (TBytes bytes) ≡ Err Big
  bytes_are_big = ap (λ b. cond b (Ok (TBytes bytes)) (Err Big)) (not_small (TBytes bytes) (length bytes) long)

  -- running ends with the fault of a value that is too big
  abbrev IsBig : Turn → Type 0
  IsBig (goes d) = ⊥
  IsBig (ends o s) = o ≡ fails Big

  big_text : (s : State) (d : Config) → IsBig (settle (by_answer (text_read bytes) s) d)
  big_text s d = subst (λ a. IsBig (settle (by_answer a s) d)) (sym text_is_big) refl

  big_bytes : (s : State) (d : Config) → IsBig (settle (by_answer (made (TBytes bytes)) s) d)
  big_bytes s d = subst (λ a. IsBig (settle (by_answer a s) d)) (sym bytes_are_big) refl

  -- where one asks to read, the other ends so
  abbrev BreaksFor : Event → Turn → Type 0
  BreaksFor (events.Exists p) t = Unit {0}
  BreaksFor (events.Read p by) t = IsBig t
  BreaksFor (events.Digest p) t = Unit {0}
  BreaksFor (events.List p) t = Unit {0}
  BreaksFor (events.Write p bs) t = Unit {0}
  BreaksFor (events.Require u how) t = Unit {0}
  BreaksFor (events.Done v) t = Unit {0}
  BreaksFor (events.Fail k) t = Unit {0}

  abbrev Breaks : Outcome Tree → Turn → Type 0
  Breaks (wants e) t = BreaksFor e t
  Breaks (done v) t = Unit {0}
  Breaks (fails k) t = Unit {0}

  abbrev Cut : Turn → Turn → Type 0
  Cut (goes d) t = Unit {0}
  Cut (ends o s) t = Breaks o t

  abbrev Cuts : (Config → Turn) → Type 0
  Cuts f = (c : Config) → Cut (f c) (f (more_with c))

  by_cond : (b : Bool) (t u x y : Turn) → Cut t x → Cut u y → Cut (cond b t u) (cond b x y)
  by_cond true t u x y h k = h
  by_cond false t u x y h k = k

  c_pop_from : (ts : List Tree) (c : Config) (go : Tree → Config → Turn) → ((t : Tree) → Cuts (go t))
      → Cut (pop_from ts c go) (pop_from ts (more_with c) go)
  c_pop_from [] c go h = tt
  c_pop_from (t ∷ ts) c go h = h t (record c { stack = ts })

  c_pop : (go : Tree → Config → Turn) → ((t : Tree) → Cuts (go t)) → Cuts (λ c. pop c go)
  c_pop go h c = c_pop_from c.stack c go h

  c_pop_two : (go : Tree → Tree → Config → Turn) → ((t u : Tree) → Cuts (go t u)) → Cuts (λ c. pop_two c go)
  c_pop_two go h = c_pop (λ b d. pop d (λ a e. go a b e)) (λ b. c_pop (λ a e. go a b e) (λ a. h a b))

  c_pop_many : (n : ℕ) (go : List Tree → Config → Turn) → ((ts : List Tree) → Cuts (go ts)) → Cuts (λ c. pop_many n c go)
  c_pop_many n go h c = by_cond (nat_le n (length c.stack)) _ _ _ _ (h (reverse (take n c.stack)) (record c { stack = drop n c.stack })) tt

  c_settled : (a : Answered) (s : State) (c : Config) (t : Turn) → Cut (settle (by_answer a s) c) t
  c_settled (Ok v) s c t = tt
  c_settled (Err k) s c t = tt

  c_answer : (a : Answered) → Cuts (act_on (by_answer a))
  c_answer a c = c_settled a c.state c (act_on (by_answer a) (more_with c))

  -- a question that no answer is left for: one that reads is answered by too much
  c_question : (q : Question) (s : State) (c d : Config) → Breaks (wants (event_of q)) (settle (by_answer (taken q answer) s) d)
  c_question (OfPath Exists p) s c d = tt
  c_question (OfPath (Read stamped.Hash) p) s c d = big_text s d
  c_question (OfPath (Read stamped.Mark) p) s c d = big_text s d
  c_question (OfPath (Read stamped.Raw) p) s c d = big_bytes s d
  c_question (OfPath Digest p) s c d = tt
  c_question (OfPath Listing p) s c d = tt
  c_question (OfWrite p bs) s c d = tt
  c_question (OfTask t how) s c d = tt

  c_asked_with : (q : Question) (left : List Answer) (c : Config)
      → Cut (settle (asked_with q c.state left) c) (settle (asked_with q (told c.state) (left ++ answer ∷ [])) (more_with c))
  c_asked_with q [] c = c_question q (noted q (record (told c.state) { answers = [] })) c (more_with c)
  c_asked_with q (a ∷ left) c =
      c_settled (taken q a) (noted q (record c.state { answers = left })) c
      (settle (by_answer (taken q a) (noted q (record (told c.state) { answers = left ++ answer ∷ [] }))) (more_with c))

  c_asked : (q : Question) → Cuts (act_on (asked q))
  c_asked q c = c_asked_with q c.state.answers c

  c_may : (b : Bool) (q : Question) → Cuts (act_on (cond b (asked q) (fault BadList)))
  c_may true q c = c_asked q c
  c_may false q c = tt

  c_observe : (o : Observation) (t : Tree) → Cuts (act_on (observe o t))
  c_observe o TUnit c = tt
  c_observe o (TBool b) c = tt
  c_observe o (TInt n) c = tt
  c_observe o (TText s) c = tt
  c_observe o (TPath p) c = c_may (may_observe o p) (OfPath o p) c
  c_observe o (TList ts) c = tt
  c_observe o (TTuple ts) c = tt
  c_observe o TNull c = tt
  c_observe o (TBytes s) c = tt

  c_tests : (x y z : Bool) (q : Question) (c : Config) → Cut
      (settle (cond x (cond y (fails WroteTwice, c.state) (cond z (fails ReadThenWrite, c.state) (asked q c.state))) (fails BadWrite, c.state)) c)
      (settle (cond x (cond y (fails WroteTwice, told c.state) (cond z (fails ReadThenWrite, told c.state) (asked q (told c.state))))
      (fails BadWrite, told c.state)) (more_with c))
  c_tests true true z q c = tt
  c_tests true false true q c = tt
  c_tests true false false q c = c_asked q c
  c_tests false y z q c = tt

  c_write_bytes : (p bs : List ℕ) → Cuts (act_on (write_bytes p bs))
  c_write_bytes p bs c = c_tests (is_out p) (holds c.state.wrote p) (holds c.state.seen p) (OfWrite p bs) c

  c_write_path : (p : List ℕ) (u : Tree) → Cuts (act_on (write (TPath p) u))
  c_write_path p TUnit c = tt
  c_write_path p (TBool b) c = tt
  c_write_path p (TInt n) c = tt
  c_write_path p (TText s) c = c_write_bytes p s c
  c_write_path p (TPath q) c = tt
  c_write_path p (TList ts) c = tt
  c_write_path p (TTuple ts) c = tt
  c_write_path p TNull c = tt
  c_write_path p (TBytes s) c = c_write_bytes p s c

  c_write : (t u : Tree) → Cuts (act_on (write t u))
  c_write TUnit u c = tt
  c_write (TBool b) u c = tt
  c_write (TInt n) u c = tt
  c_write (TText s) u c = tt
  c_write (TPath p) u c = c_write_path p u c
  c_write (TList ts) u c = tt
  c_write (TTuple ts) u c = tt
  c_write TNull u c = tt
  c_write (TBytes s) u c = tt

  c_small : (b : Bool) (q : Question) → Cuts (act_on (cond b (asked q) (fault Big)))
  c_small true q c = c_asked q c
  c_small false q c = tt

  c_require : (r : Required) (f : Option (List ℕ)) → Cuts (require_named r f)
  c_require r None c = tt
  c_require r (Some f) c =
      c_pop_many r.count (λ ts d. act_on (require r.how f ts) d)
      (λ ts. c_small (is_small_task (record { func = f; args = ts })) (OfTask (record { func = f; args = ts }) r.how)) c

  c_fail : (t : Tree) → Cuts (act_on (fail t))
  c_fail TUnit c = tt
  c_fail (TBool b) c = tt
  c_fail (TInt n) c = tt
  c_fail (TText s) c = tt
  c_fail (TPath p) c = tt
  c_fail (TList ts) c = tt
  c_fail (TTuple ts) c = tt
  c_fail TNull c = tt
  c_fail (TBytes s) c = tt

  c_found : (o : Option Tree) → Cuts (push_found o)
  c_found None c = tt
  c_found (Some t) c = tt

  c_text : (o : Option (List ℕ)) → Cuts (push_text o)
  c_text None c = tt
  c_text (Some s) c = c_answer (made (TText s)) c

  c_store : (n : ℕ) (t : Tree) → Cuts (store n t)
  c_store n t c = by_cond (nat_lt n (length c.slots)) _ _ _ _ tt tt

  c_branch : (n : ℕ) (t : Tree) → Cuts (branch n t)
  c_branch n TUnit c = tt
  c_branch n (TBool true) c = tt
  c_branch n (TBool false) c = tt
  c_branch n (TInt k) c = tt
  c_branch n (TText s) c = tt
  c_branch n (TPath p) c = tt
  c_branch n (TList ts) c = tt
  c_branch n (TTuple ts) c = tt
  c_branch n TNull c = tt
  c_branch n (TBytes s) c = tt

  c_turn : (e : EachLoop) (o : Option (Option Tree)) (n : ℕ) → Cuts (each_turn e o n)
  c_turn e None n c = tt
  c_turn e (Some None) n c = tt
  c_turn e (Some (Some t)) n c = by_cond (nat_lt e.item (length c.slots)) _ _ _ _ tt tt

  c_each : (e : EachLoop) (o : Option ℕ) → Cuts (each_from e o)
  c_each e None c = tt
  c_each e (Some n) c = c_turn e (item_found (slice_get c.slots e.list) n) n c

  c_tick : Cuts tick
  c_tick c = by_cond (nat_lt c.state.ticks 1000000) _ _ _ _ tt tt

  c_act : (texts : List (List ℕ)) (i : Instr) → Cuts (act texts i)
  c_act texts Tick c = c_tick c
  c_act texts (Push k) c = tt
  c_act texts (PushText n) c = c_text (slice_get texts n) c
  c_act texts (Load n) c = c_found (slice_get c.slots n) c
  c_act texts (Store n) c = c_pop (store n) (c_store n) c
  c_act texts Drop c = c_pop (λ t d. onward d) (λ t d. tt) c
  c_act texts (Unary o) c = c_pop (λ a d. act_on (by_answer (unary_answer o a)) d) (λ a. c_answer (unary_answer o a)) c
  c_act texts (Binary o) c = c_pop_two (λ a b d. act_on (by_answer (binary_answer o a b)) d) (λ a b. c_answer (binary_answer o a b)) c
  c_act texts (Jump n) c = tt
  c_act texts (JumpIfNot n) c = c_pop (branch n) (c_branch n) c
  c_act texts (Each e) c = c_each e (number_in (slice_get c.slots e.at)) c
  c_act texts ListPush c = c_pop_two (λ a b d. act_on (by_answer (list_with a b)) d) (λ a b. c_answer (list_with a b)) c
  c_act texts TuplePush c = c_pop_two (λ a b d. act_on (by_answer (tuple_with a b)) d) (λ a b. c_answer (tuple_with a b)) c
  c_act texts (Proj n) c = c_pop (λ a d. act_on (by_answer (item_at n a)) d) (λ a. c_answer (item_at n a)) c
  c_act texts (Call which) c = c_pop_many (arity_of which) (λ ts d. act_on (by_answer (answer_of which ts)) d) (λ ts. c_answer (answer_of which ts)) c
  c_act texts (Observe o) c = c_pop (λ a d. act_on (observe o a) d) (c_observe o) c
  c_act texts Write c = c_pop_two (λ a b d. act_on (write a b) d) c_write c
  c_act texts (Require r) c = c_require r (slice_get texts r.func) c
  c_act texts Fail c = c_pop (λ a d. act_on (fail a) d) c_fail c
  c_act texts Return c = c_pop finish (λ t d. tt) c

  c_act_found : (texts : List (List ℕ)) (i : Option Instr) → Cuts (act_found texts i)
  c_act_found texts None c = tt
  c_act_found texts (Some i) c = c_act texts i c

  cut : (code : Code) (c : Config) → Cut (step code c) (step code (more_with c))
  cut code c = c_act_found code.texts.items (slice_get code.instrs.items c.at) c

  -- running from here ends so
  abbrev EndsBig : Code → ℕ → Config → Type 0
  EndsBig code n c = (s : State) × (run code n c ≡ Some (fails Big, s))

  ends_big : (code : Code) (n : ℕ) (t : Turn) → IsBig t → (s : State) × (run_on t (run code n) ≡ Some (fails Big, s))
  ends_big code n (goes d) h = absurd h
  ends_big code n (ends o s) h = (s, ap (λ x. Some (x, s)) h)

  some_same : (x y : Outcome Tree × State) → Some x ≡ Some y → x ≡ y
  some_same x y e = cc

  outcome_same : (o u : Outcome Tree) (s r : State) → ◌≡◌ {A = Option (Outcome Tree × State)} (Some (o, s)) (Some (u, r)) → o ≡ u
  outcome_same o u s r e = ap (λ (p : Outcome Tree × State). p.0) (some_same (o, s) (u, r) e)

  one_step : (code : Code) (n : ℕ) (c : Config) (p : List ℕ) (by : By) (s : State)
      → ((d : Config) → run code n d ≡ Some (wants (events.Read p by), s) → EndsBig code n (more_with d))
      → (t : Turn) → step code c ≡ t → run_on t (run code n) ≡ Some (wants (events.Read p by), s) → EndsBig code (suc n) (more_with c)
  one_step code n c p by s rest (goes d) q e =
      let far = rest d e in
      (far.0, ap (λ t. run_on t (run code n)) (step_more (answer ∷ []) code c d q) ∙ far.1)
  one_step code n c p by s rest (ends o u) q e =
      let here : Breaks o (step code (more_with c)) = subst (λ t. Cut t (step code (more_with c))) q (cut code c) in
      ends_big code n (step code (more_with c))
      (subst (λ x. Breaks x (step code (more_with c))) (outcome_same o (wants (events.Read p by)) u s e) here)

  none_some : {A : Type 0} (a : A) (X : Type 0) → None ≡ Some a → X
  none_some a X e = absurd cc

  runs_big : (code : Code) (n : ℕ) (c : Config) (p : List ℕ) (by : By) (s : State) → run code n c ≡ Some (wants (events.Read p by), s)
      → EndsBig code n (more_with c)
  runs_big code zero c p by s e = none_some _ _ e
  runs_big code (suc n) c p by s e = one_step code n c p by s (λ d h. runs_big code n d p by s h) (step code c) refl e

  -- code that asks to read and is told too much fails
  pub comes_big : (code : Code) (args : List Tree) (given : List Answer) (p : List ℕ) (by : By) (s : State)
      → CodeNext code args given (wants (events.Read p by), s)
      → (r : State) × CodeNext code args (given ++ answers.Bytes (Some bytes) ∷ []) (fails Big, r)
  comes_big code args given p by s h = let far = runs_big code h.0 (start code args given) p by s h.1 in (far.0, (h.0, far.1))
