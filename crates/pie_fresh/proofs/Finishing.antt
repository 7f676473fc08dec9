-- What the end of a task makes of a build.
use Rattle.std.proofs.Common.{◌≡◌, ℕ, ◌+◌, ◌<◌, [], ◌∷◌, ◌++◌, length, Some, sym, ap, subst, ◌∙◌, arith}
use Rattle.std.specs.Prelude.{All, Contains, slice_get}
use Rattle.pie_record.specs.inner.Records.{Puts}
use Rattle.pie_record.specs.declared.task_record.TaskRecord.{TaskRecord}
use Rattle.pie_record.specs.declared.dep.DepOn.TheVariants.{Called}
use Rattle.pie_digest.specs.Digests.{function_names}
use Rattle.std.proofs.lemmas.List.{length-append}
use Rattle.std.proofs.lemmas.List.Elements.{All-nil, All-pop}
use Rattle.pie_value.specs.declared.task.Task.{Task}
use Rattle.pie_running.specs.declared.frame.RunningTask.{RunningTask}
use Rattle.pie_running.specs.declared.frame.Caller.{Caller}
use Rattle.pie_fresh.specs.declared.builder.Builder.{Builder}
use Rattle.pie_running.specs.inner.Noted.{Noted}
use Rattle.pie_fresh.specs.inner.Ledgers.{IsLedger, IsHigh, IsPlaced, AreOpen, Grows}
use Rattle.pie_running.specs.inner.Frames.{IsReady}
use Rattle.pie_fresh.specs.inner.Frames.{IsCaller, Stands, StandsAt, IsIdle, Running, WaitInTurn, numbers_of}
use Rattle.pie_running.specs.inner.Steps.{Given}
use Rattle.pie_fresh.specs.inner.Turns.{waiting_left, below_left, still}
use Rattle.pie_fresh.proofs.Rising.{append_none}
use Rattle.pie_fresh.proofs.Opening.{open_ended}
use Rattle.pie_fresh.proofs.Waiting.{numbers_push, turns_less}
use Rattle.pie_fresh.proofs.Growing.{given_placed, callers_grow}
use Rattle.pie_fresh.proofs.Stepping.{left_more}

-- the running task has ended
pub ended_stands : (b c : Builder) (number : ℕ) → IsLedger c.ledger → Grows b.ledger c.ledger → c.ledger.names ≡ b.ledger.names
    → ((r : TaskRecord) × Puts b.ledger.records c.ledger.records number r) → c.ledger.ended ≡ b.ledger.ended + 1 → c.stack ≡ b.stack → c.typed ≡ b.typed
    → StandsAt number b → Stands [] number c
ended_stands b c number ledger grows names puts ended stack typed s = record {
  ledger = ledger;
  stack = subst (λ cs. All (IsCaller c.ledger) cs.items) (sym stack) (callers_grow b.ledger c.ledger b.stack.items grows s.stack);
  turns = subst (λ cs. WaitInTurn c.ledger.names cs.items number) (sym stack) (subst (λ ts. WaitInTurn ts b.stack.items number) (sym names) s.turns);
  unfinished = subst (λ cs. AreOpen c.ledger (numbers_of cs.items ++ [])) (sym stack)
      (subst (λ ns. AreOpen c.ledger ns) (append_none (numbers_of b.stack.items))
      (open_ended b.ledger c.ledger (numbers_of b.stack.items) number puts.0 names puts.1 s.unfinished));
  counted =
      let size : length c.stack.items ≡ length b.stack.items = ap (λ cs. length cs.items) stack in
      let all : length c.ledger.names ≡ length b.ledger.names = ap length names in
      omega (arith, size, all, ended, s.counted);
  known = subst (λ k. All (λ (u : Task). Contains (function_names k.now) u.func) c.ledger.names) (sym typed)
      (subst (λ ts. All (λ (u : Task). Contains (function_names b.typed.now) u.func) ts) (sym names) s.known);
}

-- by its number
pub ended_stands_as : (b c : Builder) (number : ℕ) (n : Noted) → number ≡ n.number → IsLedger c.ledger → Grows b.ledger c.ledger
    → c.ledger.names ≡ b.ledger.names → ((r : TaskRecord) × Puts b.ledger.records c.ledger.records n.number r) → c.ledger.ended ≡ b.ledger.ended + 1
    → c.stack ≡ b.stack → c.typed ≡ b.typed → StandsAt n.number b → Stands [] number c
ended_stands_as b c number n same ledger grows names puts ended stack typed s =
    subst (λ k. Stands [] k c) (sym same) (ended_stands b c n.number ledger grows names puts ended stack typed s)

-- the one that waits for the task that has ended goes on
pub resumed : (b c : Builder) (w : Caller) (number height : ℕ) (f : RunningTask) → Stands [] number b → b.stack.items ≡ c.stack.items ++ w ∷ []
    → c.ledger ≡ b.ledger → c.typed ≡ b.typed → IsHigh b.ledger number height → height < b.ledger.ended → IsReady f
    → Given (Called w.required) number height w.waiting.notes f.notes → Running c f
resumed b c w number height f s popped same typed high low ready given =
    let both : All (IsCaller b.ledger) c.stack.items × IsCaller b.ledger w
    = All-pop (IsCaller b.ledger) b.stack.items c.stack.items (Some w) popped s.stack in
    let turns : WaitInTurn b.ledger.names c.stack.items w.waiting.notes.number × (slice_get b.ledger.names number ≡ Some w.required)
    = turns_less b.ledger.names c.stack.items w number (subst (λ cs. WaitInTurn b.ledger.names cs number) popped s.turns) in
    record {
      stands = subst (λ n. StandsAt n c) (sym given.same) (record {
        ledger = subst IsLedger (sym same) s.ledger;
        stack = subst (λ l. All (IsCaller l) c.stack.items) (sym same) both.0;
        turns = subst (λ l. WaitInTurn l.names c.stack.items w.waiting.notes.number) (sym same) turns.0;
        unfinished = subst (λ l. AreOpen l (numbers_of c.stack.items ++ w.waiting.notes.number ∷ [])) (sym same)
            (subst (λ ns. AreOpen b.ledger ns) (numbers_push c.stack.items w)
            (subst (λ ns. AreOpen b.ledger ns) (sym (append_none (numbers_of (c.stack.items ++ w ∷ []))))
            (subst (λ cs. AreOpen b.ledger (numbers_of cs ++ [])) popped s.unfinished)));
        counted =
            let size : length b.stack.items ≡ length c.stack.items + 1 = ap length popped ∙ length-append c.stack.items (w ∷ []) in
            let ended : c.ledger.ended ≡ b.ledger.ended = ap (λ l. l.ended) same in
            let names : length c.ledger.names ≡ length b.ledger.names = ap (λ l. length l.names) same in
            omega (arith, size, ended, names, s.counted);
        known = subst (λ k. All (λ (u : Task). Contains (function_names k.now) u.func) c.ledger.names) (sym typed)
            (subst (λ l. All (λ (u : Task). Contains (function_names b.typed.now) u.func) l.names) (sym same) s.known);
      });
      top = record {
        ready = ready;
        placed = subst (λ l. IsPlaced l f.notes) (sym same)
            (given_placed b.ledger w.required number height w.waiting.notes f.notes turns.1 high low given both.1.placed);
      };
    }

-- no task waits for the one that has ended
pub rested : (b c : Builder) (number : ℕ) → Stands [] number b → b.stack.items ≡ c.stack.items ++ [] → c.stack.items ≡ [] → c.ledger ≡ b.ledger
    → c.typed ≡ b.typed → IsIdle c
rested b c number s popped none same typed =
    let empty : b.stack.items ≡ [] = popped ∙ ap (λ cs. cs ++ []) none in
    record {
      stands = record {
        ledger = subst IsLedger (sym same) s.ledger;
        stack = subst (λ cs. All (IsCaller c.ledger) cs) (sym none) (All-nil (IsCaller c.ledger));
        turns = subst (λ cs. WaitInTurn c.ledger.names cs 0) (sym none) tt;
        unfinished = subst (λ cs. AreOpen c.ledger (numbers_of cs ++ [])) (sym none) (subst (λ l. AreOpen l []) (sym same)
            (subst (λ cs. AreOpen b.ledger (numbers_of cs ++ [])) empty s.unfinished));
        counted =
            let size : length c.stack.items ≡ 0 = ap length none in
            let ended : c.ledger.ended ≡ b.ledger.ended = ap (λ l. l.ended) same in
            let names : length c.ledger.names ≡ length b.ledger.names = ap (λ l. length l.names) same in
            omega (arith, size, ended, names, s.counted);
        known = subst (λ k. All (λ (u : Task). Contains (function_names k.now) u.func) c.ledger.names) (sym typed)
            (subst (λ l. All (λ (u : Task). Contains (function_names b.typed.now) u.func) l.names) (sym same) s.known);
      };
      alone = none;
    }

pub resumed_nearer : (b c : Builder) (w : Caller) (number height : ℕ) (f : RunningTask) → b.stack.items ≡ c.stack.items ++ w ∷ [] → c.ledger ≡ b.ledger
    → Given (Called w.required) number height w.waiting.notes f.notes → below_left c + f.notes.left + 1 < below_left b + 1
resumed_nearer b c w number height f popped same given =
    let weight : waiting_left b.stack.items ≡ waiting_left c.stack.items + (w.waiting.notes.left + 1) = ap waiting_left popped ∙ left_more c.stack.items w in
    let room : still (length c.ledger.names) ≡ still (length b.ledger.names) = ap (λ l. still (length l.names)) same in
    omega (arith, weight, room, given.left)
