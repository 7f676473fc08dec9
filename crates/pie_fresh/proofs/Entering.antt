-- What entering a task makes of a build.
use Rattle.std.proofs.Common.{◌≡◌, ℕ, ◌+◌, ◌-◌, ◌*◌, ◌<◌, ◌≤◌, [], ◌∷◌, ◌++◌, length, get_or, Some, sym, ap, subst, refl, ◌∙◌, arith}
use Rattle.std.specs.Prelude.{All, Contains, slice_get}
use Rattle.pie_digest.specs.Digests.{function_names}
use Rattle.std.proofs.lemmas.List.{length-append}
use Rattle.std.proofs.lemmas.List.Elements.{All-nil, All-push}
use Rattle.std.proofs.lemmas.Option.{slice_get-get_or}
use Rattle.std.proofs.Math.Seq.{get_or-append_seam}
use Rattle.pie_value.specs.declared.task.Task.{Task}
use Rattle.pie_code.specs.declared.code.Code.{Code}
use Rattle.pie_running.specs.declared.frame.RunningTask.{RunningTask}
use Rattle.pie_running.specs.declared.frame.Caller.{Caller}
use Rattle.pie_fresh.specs.declared.builder.Builder.{Builder}
use Rattle.pie_running.specs.inner.Noted.{Noted}
use Rattle.pie_running.specs.inner.Frames.{IsStarted}
use Rattle.pie_fresh.specs.inner.Ledgers.{IsLedger, IsPlaced, AreOpen, Grows}
use Rattle.pie_fresh.specs.inner.Frames.{IsCaller, IsTop, StandsAt, IsIdle, Running, WaitInTurn, AreKnown, numbers_of}
use Rattle.pie_fresh.specs.inner.Turns.{Begun, waiting_left, below_left, still}
use Rattle.pie_fresh.proofs.Opening.{open_none, open_entered}
use Rattle.pie_fresh.proofs.Waiting.{numbers_push, turns_more, turns_grow}
use Rattle.pie_fresh.proofs.Growing.{callers_grow, caller_grows}
use Rattle.pie_fresh.proofs.Stepping.{left_more}

-- a task that was entered and has done nothing yet
pub begun_is : (b c : Builder) (code : Code) (f : RunningTask) (t : Task) (number : ℕ) → IsLedger c.ledger → Grows b.ledger c.ledger
    → c.ledger.names ≡ b.ledger.names ++ t ∷ [] → c.ledger.records ≡ b.ledger.records → c.ledger.ended ≡ b.ledger.ended → c.stack ≡ b.stack
    → c.typed ≡ b.typed → Contains (function_names b.typed.now) t.func → number ≡ length b.ledger.names → IsStarted code t number f → Begun b c t f
begun_is b c code f t number ledger grows names records ended stack typed known place started =
    let size : length (b.ledger.names ++ t ∷ []) ≡ length b.ledger.names + 1 = length-append b.ledger.names (t ∷ []) in
    let last : get_or (b.ledger.names ++ t ∷ []) (length b.ledger.names) t ≡ t = get_or-append_seam b.ledger.names t [] t in
    let named : slice_get (b.ledger.names ++ t ∷ []) (length b.ledger.names) ≡ Some t
    = slice_get-get_or (b.ledger.names ++ t ∷ []) (length b.ledger.names) t (omega (arith, size)) ∙ ap Some last in
    record {
      top = record {
        ready = started.ready;
        placed = subst (IsPlaced c.ledger) (sym started.notes) (record {
          named = subst (λ ts. slice_get ts number ≡ Some t) (sym names) (subst (λ n. slice_get (b.ledger.names ++ t ∷ []) n ≡ Some t) (sym place) named);
          needs = All-nil (λ n. n < length c.ledger.names);
          low = omega arith;
          risen = refl;
        });
      };
      task = ap (λ (n : Noted). n.task) started.notes;
      number = ap (λ (n : Noted). n.number) started.notes ∙ place;
      ledger = ledger;
      grows = grows;
      names = names;
      records = records;
      ended = ended;
      stack = stack;
      typed = typed;
      known = known;
      left = ap (λ (n : Noted). n.left) started.notes;
    }

-- one task more
begun_one : (b c : Builder) (t : Task) (f : RunningTask) → Begun b c t f → length c.ledger.names ≡ length b.ledger.names + 1
begun_one b c t f e = ap length e.names ∙ length-append b.ledger.names (t ∷ [])

begun_known : (b c : Builder) (t : Task) (f : RunningTask) → Begun b c t f → AreKnown b → AreKnown c
begun_known b c t f e known =
    subst (λ k. All (λ (u : Task). Contains (function_names k.now) u.func) c.ledger.names) (sym e.typed)
    (subst (λ ts. All (λ (u : Task). Contains (function_names b.typed.now) u.func) ts) (sym e.names)
    (All-push (λ (u : Task). Contains (function_names b.typed.now) u.func) b.ledger.names t known e.known))

-- a root that was entered runs
pub begun_runs : (b c : Builder) (t : Task) (f : RunningTask) → IsIdle b → Begun b c t f → Running c f
begun_runs b c t f s e =
    let empty : c.stack.items ≡ [] = ap (λ cs. cs.items) e.stack ∙ s.alone in
    record {
      stands = record {
        ledger = e.ledger;
        stack = subst (λ cs. All (IsCaller c.ledger) cs) (sym empty) (All-nil (IsCaller c.ledger));
        turns = subst (λ cs. WaitInTurn c.ledger.names cs f.notes.number) (sym empty) tt;
        unfinished = subst (λ cs. AreOpen c.ledger (numbers_of cs ++ f.notes.number ∷ [])) (sym empty)
            (subst (λ n. AreOpen c.ledger (n ∷ [])) (sym e.number)
            (open_entered b.ledger c.ledger [] t s.stands.ledger e.names e.records
            (subst (λ cs. AreOpen b.ledger (numbers_of cs ++ [])) s.alone s.stands.unfinished)));
        counted =
            let size : length c.stack.items ≡ 0 = ap length empty in
            let one : length c.ledger.names ≡ length b.ledger.names + 1 = begun_one b c t f e in
            omega (arith, size, one, e.ended, s.stands.counted);
        known = begun_known b c t f e s.stands.known;
      };
      top = e.top;
    }

-- a required task that was entered runs, and the one that requires it waits
pub descended : (b c d : Builder) (t : Task) (f : RunningTask) (w : Caller) → StandsAt w.waiting.notes.number b → Begun b c t f → d.ledger ≡ c.ledger
    → d.stack.items ≡ c.stack.items ++ w ∷ [] → d.typed ≡ c.typed → t ≡ w.required → IsCaller b.ledger w → Running d f
descended b c d t f w s e same pushed typed asked is = record {
  stands = record {
    ledger = subst IsLedger (sym same) e.ledger;
    stack = subst (λ l. All (IsCaller l) d.stack.items) (sym same) (subst (All (IsCaller c.ledger)) (sym all)
        (All-push (IsCaller c.ledger) b.stack.items w (callers_grow b.ledger c.ledger b.stack.items e.grows s.stack)
        (caller_grows b.ledger c.ledger w e.grows is)));
    turns = subst (λ l. WaitInTurn l.names d.stack.items f.notes.number) (sym same) (subst (λ cs. WaitInTurn c.ledger.names cs f.notes.number) (sym all)
        (turns_more c.ledger.names b.stack.items w f.notes.number
        (subst (λ ts. WaitInTurn ts b.stack.items w.waiting.notes.number) (sym e.names)
        (turns_grow b.ledger.names (t ∷ []) b.stack.items w.waiting.notes.number s.turns)) (e.top.placed.named ∙ ap Some (e.task ∙ asked))));
    unfinished = subst (λ l. AreOpen l (numbers_of d.stack.items ++ f.notes.number ∷ [])) (sym same)
        (subst (λ cs. AreOpen c.ledger (numbers_of cs ++ f.notes.number ∷ [])) (sym all)
        (subst (λ ns. AreOpen c.ledger (ns ++ f.notes.number ∷ [])) (sym (numbers_push b.stack.items w))
        (subst (λ n. AreOpen c.ledger ((numbers_of b.stack.items ++ w.waiting.notes.number ∷ []) ++ n ∷ [])) (sym e.number)
        (open_entered b.ledger c.ledger (numbers_of b.stack.items ++ w.waiting.notes.number ∷ []) t s.ledger e.names e.records s.unfinished))));
    counted =
        let after : length d.stack.items ≡ length b.stack.items + 1 = ap length all ∙ length-append b.stack.items (w ∷ []) in
        let ended : d.ledger.ended ≡ c.ledger.ended = ap (λ l. l.ended) same in
        let names : length d.ledger.names ≡ length c.ledger.names = ap (λ l. length l.names) same in
        let one : length c.ledger.names ≡ length b.ledger.names + 1 = begun_one b c t f e in
        omega (arith, after, ended, names, one, e.ended, s.counted);
    known = subst (λ k. All (λ (u : Task). Contains (function_names k.now) u.func) d.ledger.names) (sym typed)
        (subst (λ l. All (λ (u : Task). Contains (function_names c.typed.now) u.func) l.names) (sym same) (begun_known b c t f e s.known));
  };
  top = subst (λ l. IsTop l f) (sym same) e.top;
}
  where
    all : d.stack.items ≡ b.stack.items ++ w ∷ []
    all = pushed ∙ ap (λ cs. cs.items ++ w ∷ []) e.stack

one_less : (n : ℕ) → n < 50000 → still n ≡ still (n + 1) + 1000003
unfolding still
one_less n lt = let q : 50000 - n ≡ (50000 - (n + 1)) + 1 = omega (arith, lt) in ap (λ k. k * 1000003) q ∙ omega arith

pub descended_nearer : (b c d : Builder) (t : Task) (f : RunningTask) (w : Caller) → Begun b c t f → d.ledger ≡ c.ledger → d.stack.items ≡ c.stack.items ++ w ∷ []
    → below_left d + f.notes.left + 1 < below_left b + w.waiting.notes.left + 1
descended_nearer b c d t f w e same pushed =
    let names : length d.ledger.names ≡ length b.ledger.names + 1 = ap (λ l. length l.names) same ∙ begun_one b c t f e in
    let few : length c.ledger.names ≤ 50000 = e.ledger.few in
    let one : length c.ledger.names ≡ length b.ledger.names + 1 = begun_one b c t f e in
    let weight : waiting_left d.stack.items ≡ waiting_left b.stack.items + (w.waiting.notes.left + 1)
    = ap waiting_left pushed ∙ left_more c.stack.items w ∙ ap (λ cs. waiting_left cs.items + (w.waiting.notes.left + 1)) e.stack in
    let less : still (length b.ledger.names) ≡ still (length b.ledger.names + 1) + 1000003 = one_less (length b.ledger.names) (omega (arith, few, one)) in
    let room : still (length d.ledger.names) ≡ still (length b.ledger.names + 1) = ap still names in
    let left : f.notes.left ≡ 1000001 = e.left in
    omega (arith, weight, less, room, left)

-- a build in which nothing was entered
pub idle_none : (b : Builder) → IsLedger b.ledger → b.ledger.names ≡ [] → b.ledger.ended ≡ 0 → b.stack.items ≡ [] → IsIdle b
idle_none b ledger none ended empty = record {
  stands = record {
    ledger = ledger;
    stack = subst (λ cs. All (IsCaller b.ledger) cs) (sym empty) (All-nil (IsCaller b.ledger));
    turns = subst (λ cs. WaitInTurn b.ledger.names cs 0) (sym empty) tt;
    unfinished = subst (λ cs. AreOpen b.ledger (numbers_of cs ++ [])) (sym empty) (open_none b.ledger none);
    counted =
        let size : length b.stack.items ≡ 0 = ap length empty in
        let all : length b.ledger.names ≡ 0 = ap length none in
        omega (arith, size, all, ended);
    known = subst (λ ts. All (λ (u : Task). Contains (function_names b.typed.now) u.func) ts) (sym none)
        (All-nil (λ (u : Task). Contains (function_names b.typed.now) u.func));
  };
  alone = empty;
}
