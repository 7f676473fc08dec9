-- The tasks of a cycle, by the numbers of what waits.
use Rattle.std.proofs.Common.{◌≡◌, ℕ, suc, Bool, true, false, cond, List, [], ◌∷◌, ◌++◌, Option, None, Some, Result, Ok, Err, map, reverse, refl, sym, ap, subst, ◌∙◌, inl, inr, arith, bytes_eq}
use Rattle.std.specs.Prelude.{slice_get, IfOk, ◌==◌}
use Rattle.std.specs.Option.{option_map}
use Rattle.std.specs.List.{All}
use Rattle.std.proofs.lemmas.Bool.Decides.{nat_tests}
use Rattle.std.proofs.lemmas.List.{append_assoc, append-nil, map-append, reverse-append, reverse-reverse}
use Rattle.pie_value.specs.declared.task.Task.{Task}
use Rattle.pie_value.specs.declared.verdict.Refusal.TheVariants.{Cycle}
use Rattle.pie_value.specs.Canonical.{enc_task}
use Rattle.pie_value.specs.declared.value.Value.{Value}
use Rattle.pie_record.specs.declared.task_record.Outcome.{Outcome}
use Rattle.pie_record.specs.declared.task_record.Outcome.TheVariants as outcomes
use Rattle.pie_record.specs.declared.task_record.TaskRecord.{TaskRecord}
use Rattle.pie_record.specs.inner.Records.{record_of as kept_of}
use Rattle.pie_running.specs.declared.frame.Caller.{Caller}
use Rattle.pie_model.specs.Trees.{is_done}
use Rattle.pie_model.specs.Paths.{among}
use Rattle.pie_model.specs.Evaluation.{round}
use Rattle.pie_model.specs.Running.{IsDistinct}
use Rattle.pie_model.specs.inner.Stack.{Frame as ModelFrame, tasks_of}
use Rattle.pie_model.proofs.Basics.{among_split, among_left, among_right, among_here, among_there, bytes_same, same_bytes, clash}
use Rattle.pie_model_pipeline.proofs.Joining.{tasks_told}
use Rattle.pie_builder_laws.specs.Names.{AreTasks}
use Rattle.pie_builder_laws.proofs.Naming.{named_back, placed, one_place}
use Rattle.pie_model.specs.declared.words.Verdict.TheVariants.{Cycle as ModelCycle}
use Rattle.pie_settle_laws.specs.Going.{before_wait}
use Rattle.pie_model_pipeline.specs.Rows as rows
use Rattle.pie_model_pipeline.specs.Words.{how_of}
use Rattle.pie_builder_laws.proofs.Tabled.{record_by_number}
use Rattle.pie_core_laws.specs.Update.{Update}
use Rattle.pie_topdown_laws.specs.Ledgers.{setting}
use Rattle.pie_topdown_laws.proofs.Building.{closes}
use Rattle.pie_topdown_laws.proofs.Deciding.{cycled_decides}
use Rattle.pie_topdown_laws.proofs.Lower.{closing_undone, requirer_undone}
use Rattle.pie_topdown_laws.proofs.Sinking.{cycled_root}
use Rattle.pie_topdown.specs.declared.builder.Builder.{Builder}
use Rattle.pie_topdown.specs.declared.hand.Turn.{Turn}
use Rattle.pie_topdown.specs.inner.Frames.{IsFrame, IsSite}
use Rattle.pie_topdown.proofs.Answering.{gave_output}
use Rattle.pie_topdown.proofs.Failing.{falls_right}
use Rattle.pie_topdown.specs.declared.hand.Frame.{Frame}
use Rattle.pie_topdown.specs.declared.hand.Frame.TheVariants as frames
use Rattle.pie_topdown.specs.inner.Calling.{number_in, task_in, tasks_from, joins_by, CallsRight, CallsSo, ClosesBy}
use Rattle.pie_topdown.specs.inner.Right.{site_of, build_of, names_of, records_of, entry_of, entries_up, IsRightSite, AreWaiting, TurnIsRight}
use Rattle.pie_topdown.proofs.Entered.{canonical_at}
use Rattle.pie_topdown.proofs.Topmost.{one_some}
use Rattle.pie_topdown.proofs.Waited.{task_up, up_same}

-- ---- along a list

-- the bytes of the tasks that wait, the oldest first
abbrev pub bytes_in : List Frame → List (List ℕ)
bytes_in es = map (λ (e : Frame). enc_task (task_in e)) es

bytes_map : (xs : List Frame) → bytes_in xs ≡ map enc_task (map task_in xs)
bytes_map [] = refl
bytes_map (x ∷ xs) = ap (λ zs. enc_task (task_in x) ∷ zs) (bytes_map xs)

up_one : (e : Frame) → task_up (entry_of e) ≡ enc_task (task_in e)
up_one (frames.Checks c) = refl
up_one (frames.Waits c) = refl

pub up_is : (es : List Frame) → map task_up (entries_up es) ≡ reverse (bytes_in es)
up_is [] = refl
up_is (e ∷ es) =
    ap (map task_up) (reverse-append (entry_of e ∷ []) (map entry_of es))
    ∙ map-append task_up (reverse (map entry_of es)) (entry_of e ∷ [])
    ∙ ap (λ ts. ts ++ task_up (entry_of e) ∷ []) (up_is es)
    ∙ ap (λ t. reverse (bytes_in es) ++ t ∷ []) (up_one e)
    ∙ sym (reverse-append (enc_task (task_in e) ∷ []) (bytes_in es))

-- a cycle that is found in the first part ends there
stops_in : (u : List ℕ) (xs ys found : List (List ℕ)) → among u xs ≡ true → round u (xs ++ ys) found ≡ round u xs found
stops_in u [] ys found h = absurd (let apart : false ≡ true = h in cc)
stops_in u (x ∷ xs) ys found h = by (bytes_eq u x) h (stops_in u xs ys (x ∷ found))
  where
    by : (z : Bool) → cond z true (among u xs) ≡ true → (among u xs ≡ true → round u (xs ++ ys) (x ∷ found) ≡ round u xs (x ∷ found))
        → cond z (x ∷ found) (round u (xs ++ ys) (x ∷ found)) ≡ cond z (x ∷ found) (round u xs (x ∷ found))
    by true i below = refl
    by false i below = below i

-- one that isn't goes on with all of it
passes_by : (u : List ℕ) (xs ys found : List (List ℕ)) → among u xs ≡ false → round u (xs ++ ys) found ≡ round u ys (reverse xs ++ found)
passes_by u [] ys found h = refl
passes_by u (x ∷ xs) ys found h = by (bytes_eq u x) h (passes_by u xs ys (x ∷ found))
  where
    by : (z : Bool) → cond z true (among u xs) ≡ false
        → (among u xs ≡ false → round u (xs ++ ys) (x ∷ found) ≡ round u ys (reverse xs ++ x ∷ found))
        → cond z (x ∷ found) (round u (xs ++ ys) (x ∷ found)) ≡ round u ys (reverse (x ∷ xs) ++ found)
    by true i below = absurd (let apart : true ≡ false = i in cc)
    by false i below =
        below i
        ∙ ap (round u ys) (sym (ap (λ zs. zs ++ found) (reverse-append (x ∷ []) xs) ∙ append_assoc (reverse xs) (x ∷ []) found))

distinct_front : (xs ys : List (List ℕ)) → IsDistinct (xs ++ ys) → IsDistinct xs
distinct_front [] ys d = tt
distinct_front (x ∷ xs) ys d = (by (among x xs) refl, distinct_front xs ys d.1)
  where
    by : (z : Bool) → among x xs ≡ z → among x xs ≡ false
    by true i = clash (among x (xs ++ ys)) (among_left x xs ys i) d.0
    by false q = q

distinct_last : (xs : List (List ℕ)) (y : List ℕ) → IsDistinct (xs ++ y ∷ []) → among y xs ≡ false
distinct_last [] y d = refl
distinct_last (x ∷ xs) y d = by (among y (x ∷ xs)) refl (distinct_last xs y d.1)
  where
    at_last : (zs : List (List ℕ)) → among y (zs ++ y ∷ []) ≡ true
    at_last [] = among_here y []
    at_last (z ∷ zs) = among_there y z (zs ++ y ∷ []) (at_last zs)

    not_here : y ≡ x → ⊥
    not_here e = clash {A = ⊥} (among x (xs ++ y ∷ [])) (subst (λ t. among t (xs ++ y ∷ []) ≡ true) e (at_last xs)) d.0

    by : (z : Bool) → among y (x ∷ xs) ≡ z → among y xs ≡ false → among y (x ∷ xs) ≡ false
    by false q off = q
    by true i off = absurd (elim (among_split y x xs i) [
      | inl e ↦ not_here e
      | inr j ↦ clash {A = ⊥} (among y xs) j off
    ])

turn_among : (u : List ℕ) (xs : List (List ℕ)) → among u xs ≡ true → among u (reverse xs) ≡ true
turn_among u [] i = i
turn_among u (x ∷ xs) i =
    subst (λ zs. among u zs ≡ true) (sym (reverse-append (x ∷ []) xs))
    (elim (among_split u x xs i) [
      | inl q ↦ among_right u (reverse xs) (x ∷ []) (subst (λ z. among u (z ∷ []) ≡ true) q (among_here u []))
      | inr j ↦ among_left u (reverse xs) (x ∷ []) (turn_among u xs j)
    ])

-- and the other way
turned_among : (u : List ℕ) (xs : List (List ℕ)) → among u (reverse xs) ≡ true → among u xs ≡ true
turned_among u xs i = subst (λ zs. among u zs ≡ true) (reverse-reverse xs) (turn_among u (reverse xs) i)

-- ---- frame by frame

-- what the tasks so far and these frames make of a cycle
abbrev pub going : ℕ → List Task → List Frame → List Task
going n [] es = tasks_from n es
going n (t ∷ ts) es = (t ∷ ts) ++ map task_in es

pub joined : (n : ℕ) (ts : List Task) (e : Frame) (es : List Frame) → going n (joins_by n ts e) es ≡ going n ts (e ∷ es)
joined n [] e es = by (number_in e == n)
  where
    by : (z : Bool) → going n (cond z (task_in e ∷ []) []) es ≡ cond z (map task_in (e ∷ es)) (tasks_from n es)
    by true = refl
    by false = refl
joined n (t ∷ ts) e es = ap (λ xs. t ∷ xs) (append_assoc ts (task_in e ∷ []) (map task_in es))

pub gone : (n : ℕ) (ts : List Task) → going n ts [] ≡ ts
gone n [] = refl
gone n (t ∷ ts) = ap (λ xs. t ∷ xs) (append-nil ts)

-- ---- by numbers

module _ (names : List Task) (are : AreTasks names) (n : ℕ) (t : Task) (named : slice_get names n ≡ Some t) where
  -- each of these has its number
  abbrev pub AreNumbered : List Frame → Type 0
  AreNumbered [] = Unit {0}
  AreNumbered (e ∷ es) = (slice_get names (number_in e) ≡ Some (task_in e)) × AreNumbered es

  same_test : (e : Frame) → slice_get names (number_in e) ≡ Some (task_in e) → (number_in e == n) ≡ bytes_eq (enc_task t) (enc_task (task_in e))
  same_test e at = by (number_in e == n) refl
    where
      by : (z : Bool) → (number_in e == n) ≡ z → (number_in e == n) ≡ bytes_eq (enc_task t) (enc_task (task_in e))
      by true is =
          let same : number_in e ≡ n = grind (arith, nat_tests, is) in
          let one : task_in e ≡ t = one_some (task_in e) t (sym at ∙ ap (slice_get names) same ∙ named) in
          is ∙ sym (ap (λ x. bytes_eq (enc_task t) (enc_task x)) one ∙ bytes_same (enc_task t))
      by false is = is ∙ sym (other (bytes_eq (enc_task t) (enc_task (task_in e))) refl)
        where
          other : (z : Bool) → bytes_eq (enc_task t) (enc_task (task_in e)) ≡ z → bytes_eq (enc_task t) (enc_task (task_in e)) ≡ false
          other false q = q
          other true q =
              let one : t ≡ task_in e =
              tasks_told t (task_in e) (canonical_at names are n t named) (canonical_at names are (number_in e) (task_in e) at)
              (same_bytes (enc_task t) (enc_task (task_in e)) q) in
              let same : number_in e ≡ n = one_place names are (number_in e) n t (at ∙ ap Some (sym one)) named in
              absurd (let yes_one : (number_in e == n) ≡ true = grind (arith, nat_tests, same) in let apart : true ≡ false = sym yes_one ∙ is in cc)

  -- the tasks from the one with the number on are those of the cycle
  pub turned : (es : List Frame) → AreNumbered es → IsDistinct (reverse (bytes_in es)) → among (enc_task t) (bytes_in es) ≡ true → (found : List (List ℕ))
      → round (enc_task t) (reverse (bytes_in es)) found ≡ map enc_task (tasks_from n es) ++ found
  turned [] ns d h found = absurd (let apart : false ≡ true = h in cc)
  turned (e ∷ es) ns d h found =
      ap (λ xs. round (enc_task t) xs found) front ∙ by (bytes_eq (enc_task t) (enc_task (task_in e))) refl h (turned es ns.1)
    where
      front : reverse (bytes_in (e ∷ es)) ≡ reverse (bytes_in es) ++ enc_task (task_in e) ∷ []
      front = reverse-append (enc_task (task_in e) ∷ []) (bytes_in es)

      split : IsDistinct (reverse (bytes_in es) ++ enc_task (task_in e) ∷ [])
      split = subst IsDistinct front d

      by : (z : Bool) → bytes_eq (enc_task t) (enc_task (task_in e)) ≡ z → cond z true (among (enc_task t) (bytes_in es)) ≡ true
          → (IsDistinct (reverse (bytes_in es)) → among (enc_task t) (bytes_in es) ≡ true → (fd : List (List ℕ))
          → round (enc_task t) (reverse (bytes_in es)) fd ≡ map enc_task (tasks_from n es) ++ fd)
          → round (enc_task t) (reverse (bytes_in es) ++ enc_task (task_in e) ∷ []) found ≡ map enc_task (tasks_from n (e ∷ es)) ++ found
      by true q i below =
          let same : enc_task t ≡ enc_task (task_in e) = same_bytes (enc_task t) (enc_task (task_in e)) q in
          let off : among (enc_task t) (reverse (bytes_in es)) ≡ false =
          subst (λ z. among z (reverse (bytes_in es)) ≡ false) (sym same) (distinct_last (reverse (bytes_in es)) (enc_task (task_in e)) split) in
          passes_by (enc_task t) (reverse (bytes_in es)) (enc_task (task_in e) ∷ []) found off
          ∙ ap (λ z. cond z (enc_task (task_in e) ∷ (reverse (reverse (bytes_in es)) ++ found)) (enc_task (task_in e) ∷ (reverse (reverse (bytes_in es)) ++ found))) q
          ∙ ap (λ xs. enc_task (task_in e) ∷ (xs ++ found)) (reverse-reverse (bytes_in es) ∙ bytes_map es)
          ∙ ap (λ z. map enc_task (cond z (map task_in (e ∷ es)) (tasks_from n es)) ++ found) (sym (same_test e ns.0 ∙ q))
      by false q i below =
          stops_in (enc_task t) (reverse (bytes_in es)) (enc_task (task_in e) ∷ []) found (turn_among (enc_task t) (bytes_in es) i)
          ∙ below (distinct_front (reverse (bytes_in es)) (enc_task (task_in e) ∷ []) split) i found
          ∙ ap (λ z. map enc_task (cond z (map task_in (e ∷ es)) (tasks_from n es)) ++ found) (sym (same_test e ns.0 ∙ q))

  -- none of those that wait has the number where the task isn't among them
  pub none_from : (es : List Frame) → AreNumbered es → among (enc_task t) (bytes_in es) ≡ false → tasks_from n es ≡ []
  none_from [] ns h = refl
  none_from (e ∷ es) ns h = by (bytes_eq (enc_task t) (enc_task (task_in e))) refl h (none_from es ns.1)
    where
      by : (z : Bool) → bytes_eq (enc_task t) (enc_task (task_in e)) ≡ z → cond z true (among (enc_task t) (bytes_in es)) ≡ false
          → (among (enc_task t) (bytes_in es) ≡ false → tasks_from n es ≡ []) → tasks_from n (e ∷ es) ≡ []
      by true q i below = absurd (let apart : true ≡ false = i in cc)
      by false q i below = ap (λ z. cond z (map task_in (e ∷ es)) (tasks_from n es)) (same_test e ns.0 ∙ q) ∙ below i

-- ---- the cycle

module _ (u : Update) (done : List (List ℕ)) (root : List ℕ) (b : Builder) (fs : List ModelFrame) (c : Caller) (callee : ℕ) (s : IsRightSite u done root b)
    (waiting : AreWaiting u b root fs) (is : IsSite b) (h : CallsRight u b root fs c) (named : slice_get b.ledger.tables.names callee ≡ Some c.required) where
  numbered_all : (es : List Frame) → All (IsFrame b.ledger) es → AreNumbered b.ledger.tables.names s.ledger.tasks callee c.required named es
  numbered_all [] all = tt
  numbered_all (e ∷ es) all = (here e (all 0 e (omega arith)), numbered_all es (λ i d l. all (suc i) d (omega (arith, l))))
    where
      here : (f : Frame) → IsFrame b.ledger f → slice_get b.ledger.tables.names (number_in f) ≡ Some (task_in f)
      here (frames.Checks k) at = at.named
      here (frames.Waits k) at = at.noted.task

  stack_bytes : reverse (bytes_in b.stack.items) ≡ tasks_of fs
  stack_bytes = sym (up_is b.stack.items) ∙ up_same (site_of u b) (build_of b) root (entries_up b.stack.items) fs waiting.entries

  pub round_is : among (enc_task c.required) (enc_task c.waiting.notes.task ∷ tasks_of fs) ≡ true
      → round (enc_task c.required) (enc_task c.waiting.notes.task ∷ tasks_of fs) []
      ≡ map enc_task (tasks_from callee b.stack.items ++ c.waiting.notes.task ∷ [])
  round_is on = by (bytes_eq (enc_task c.required) (enc_task c.waiting.notes.task)) refl on
    where
      ns : AreNumbered b.ledger.tables.names s.ledger.tasks callee c.required named b.stack.items
      ns = numbered_all b.stack.items is.stack

      top_task : (before_wait h.aside).task ≡ enc_task c.waiting.notes.task
      top_task = h.caller.frame.task

      whole : map enc_task (tasks_from callee b.stack.items ++ c.waiting.notes.task ∷ [])
          ≡ map enc_task (tasks_from callee b.stack.items) ++ enc_task c.waiting.notes.task ∷ []
      whole = map-append enc_task (tasks_from callee b.stack.items) (c.waiting.notes.task ∷ [])

      by : (z : Bool) → bytes_eq (enc_task c.required) (enc_task c.waiting.notes.task) ≡ z → cond z true (among (enc_task c.required) (tasks_of fs)) ≡ true
          → round (enc_task c.required) (enc_task c.waiting.notes.task ∷ tasks_of fs) []
          ≡ map enc_task (tasks_from callee b.stack.items ++ c.waiting.notes.task ∷ [])
      by true q i =
          let same : enc_task c.required ≡ enc_task c.waiting.notes.task = same_bytes (enc_task c.required) (enc_task c.waiting.notes.task) q in
          let off : among (enc_task c.required) (tasks_of fs) ≡ false =
          subst (λ z. among z (tasks_of fs) ≡ false) (top_task ∙ sym same) h.top.goes.once.0 in
          let none : tasks_from callee b.stack.items ≡ [] =
          none_from b.ledger.tables.names s.ledger.tasks callee c.required named b.stack.items ns (off_here (enc_task c.required) off) in
          ap (λ z. cond z (enc_task c.waiting.notes.task ∷ []) (round (enc_task c.required) (tasks_of fs) (enc_task c.waiting.notes.task ∷ []))) q
          ∙ sym (whole ∙ ap (λ ts. map enc_task ts ++ enc_task c.waiting.notes.task ∷ []) none)
        where
          off_here : (x : List ℕ) → among x (tasks_of fs) ≡ false → among x (bytes_in b.stack.items) ≡ false
          off_here x off = at (among x (bytes_in b.stack.items)) refl
            where
              at : (z : Bool) → among x (bytes_in b.stack.items) ≡ z → among x (bytes_in b.stack.items) ≡ false
              at false q = q
              at true q =
                  clash (among x (tasks_of fs)) (subst (λ xs. among x xs ≡ true) stack_bytes (turn_among x (bytes_in b.stack.items) q)) off
      by false q i =
          ap (λ z. cond z (enc_task c.waiting.notes.task ∷ []) (round (enc_task c.required) (tasks_of fs) (enc_task c.waiting.notes.task ∷ []))) q
          ∙ ap (λ xs. round (enc_task c.required) xs (enc_task c.waiting.notes.task ∷ [])) (sym stack_bytes)
          ∙ turned b.ledger.tables.names s.ledger.tasks callee c.required named b.stack.items ns (subst IsDistinct (sym stack_bytes) h.top.goes.once.1)
          (turned_among (enc_task c.required) (bytes_in b.stack.items) (subst (λ xs. among (enc_task c.required) xs ≡ true) (sym stack_bytes) i))
          (enc_task c.waiting.notes.task ∷ [])
          ∙ sym whole

-- the build fails for the cycle that is closed
closes_turn : (b new : Builder) (c : Caller) (callee : ℕ) (top : Task) (turn : Turn) → IsSite b → top ≡ c.waiting.notes.task
    → slice_get b.ledger.tables.names callee ≡ Some c.required
    → ((v : Value) → Some (outcomes.Done v) ≡ option_map (λ (x : TaskRecord). x.outcome) (kept_of b.ledger.tables.records callee) → ⊥)
    → ClosesBy b callee top new turn → CallsSo b c new turn
closes_turn b new c callee top turn is same named none closed = λ u done root fs plan s waiting h.
    let off : records_of b (enc_task c.required) ≡ None =
    record_by_number b.ledger.tables.names b.ledger.tables.records callee c.required s.ledger.tasks named
    ∙ ap (option_map rows.record_of) (unkept u done root s (kept_of b.ledger.tables.records callee) refl) in
    let on : among (enc_task c.required) (enc_task c.waiting.notes.task ∷ tasks_of fs) ≡ true =
    h.busy (enc_task c.required) (named_back b.ledger.tables.names c.required (placed b.ledger.tables.names callee c.required named)) off in
    let f = before_wait h.aside in
    let above : among (enc_task c.required) (tasks_of (f ∷ fs)) ≡ true =
    subst (λ t. among (enc_task c.required) (t ∷ tasks_of fs) ≡ true) (sym h.caller.frame.task) on in
    let entered = cycled_root (setting u) (records_of b) (names_of b) s.ledger.table done s.recorded root fs f h.top h.aside.left (how_of c.how) (enc_task c.required)
    refl h.caller.waits above in
    let sunk = closes (setting u) (records_of b) root fs f h.top.goes h.aside.left (how_of c.how) (enc_task c.required) refl h.caller.waits above in
    subst (TurnIsRight u done root new) (sym closed.turn)
    (falls_right u done root b new (Cycle (tasks_from callee b.stack.items ++ top ∷ [])) fs f c.waiting.notes.number c.waiting.notes.task s waiting h.top
    (requirer_undone (setting u) (records_of b) root (names_of b) fs f h.top h.aside.left (how_of c.how) (enc_task c.required) refl h.caller.waits
    (closing_undone (setting u) (records_of b) root (names_of b) fs f h.top h.aside.left (how_of c.how) (enc_task c.required) refl h.caller.waits above))
    h.caller.frame.named h.ran h.busy closed.is
    (λ rest.
    cycled_decides (setting u) (records_of b) (names_of b) s.ledger.table (names_of b) done rest root s.recorded
    (round (enc_task c.required) (tasks_of (f ∷ fs)) []) entered s.ledger.table.few sunk
    ∙ ap ModelCycle
    (ap (λ t. round (enc_task c.required) (t ∷ tasks_of fs) []) h.caller.frame.task
    ∙ round_is u done root b fs c callee s waiting is h named on
    ∙ ap (λ t. map enc_task (tasks_from callee b.stack.items ++ t ∷ [])) (sym same)))
    (ap is_done sunk) (λ x i. inl (entered x i)))
  where
    unkept : (u : Update) (done : List (List ℕ)) (root : List ℕ) → IsRightSite u done root b → (o : Option TaskRecord) → kept_of b.ledger.tables.records callee ≡ o
        → o ≡ None
    unkept u done root s None e = refl
    unkept u done root s (Some rec) e = absurd (by rec.outcome refl (gave_output u done root b callee rec s e))
      where
        by : (o : Outcome) → rec.outcome ≡ o → is_done (rows.outcome_of rec.outcome) ≡ true → ⊥
        by (outcomes.Done v) is d = none v (sym (ap (option_map (λ (x : TaskRecord). x.outcome)) e ∙ ap Some is))
        by (outcomes.Failed f) is d = let apart : false ≡ true = sym (ap (λ (z : Outcome). is_done (rows.outcome_of z)) is) ∙ d in cc
        by (outcomes.Cycled ts) is d = let apart : false ≡ true = sym (ap (λ (z : Outcome). is_done (rows.outcome_of z)) is) ∙ d in cc

-- so it is where that call succeeds
pub closes_if : {E : Type 0} (b new : Builder) (c : Caller) (callee : ℕ) (top : Task) (r : Result Turn E) → IsSite b → top ≡ c.waiting.notes.task
    → slice_get b.ledger.tables.names callee ≡ Some c.required
    → ((v : Value) → Some (outcomes.Done v) ≡ option_map (λ (x : TaskRecord). x.outcome) (kept_of b.ledger.tables.records callee) → ⊥)
    → IfOk r (ClosesBy b callee top new) → IfOk r (CallsSo b c new)
closes_if b new c callee top (Ok turn) is same named none closed = closes_turn b new c callee top turn is same named none closed
closes_if b new c callee top (Err e) is same named none closed = tt
