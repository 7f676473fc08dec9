-- An answer and a write keep a build standing and bring its end nearer.
use Rattle.std.proofs.Common.{◌≡◌, ℕ, ◌+◌, ◌<◌, ◌≤◌, List, [], ◌∷◌, ◌++◌, length, get_or, Some, None, sym, ap, subst, ◌∙◌, arith}
use Rattle.std.specs.Prelude.{All, Contains, IfSome, Option, slice_get}
use Rattle.pie_record.specs.Canonical.{IsStorable}
use Rattle.pie_record.specs.inner.Records.{record_of}
use Rattle.pie_record.specs.declared.task_record.TaskRecord.{TaskRecord}
use Rattle.pie_digest.specs.Digests.{function_names}
use Rattle.pie_value.specs.declared.task.Task.{Task}
use Rattle.pie_value.specs.declared.verdict.Refusal.{Refusal}
use Rattle.pie_fresh.specs.declared.ledger.Ledger.{Ledger}
use Rattle.pie_running.specs.declared.frame.Caller.{Caller}
use Rattle.pie_running.specs.declared.frame.RunningTask.{RunningTask}
use Rattle.pie_running.specs.declared.frame.Waiting.{Waiting}
use Rattle.pie_fresh.specs.declared.builder.Builder.{Builder}
use Rattle.pie_fresh.specs.declared.turn.Turn.{Turn}
use Rattle.pie_fresh.specs.declared.turn.Turn.TheVariants.{Goes, Rests, Stops}
use Rattle.pie_running.specs.declared.frame.Told.{Told}
use Rattle.pie_running.specs.declared.frame.Told.TheVariants as told
use Rattle.pie_running.specs.inner.Noted.{Noted}
use Rattle.pie_record.specs.declared.dep.DepOn.TheVariants.{Called}
use Rattle.pie_running.specs.inner.Frames.{IsReady}
use Rattle.pie_running.specs.inner.Steps.{Answered as AnsweredTold, Given}
use Rattle.pie_fresh.specs.inner.Ledgers.{IsLedger, IsHigh, IsRecorded, IsPlaced, AreOpen, Grows}
use Rattle.pie_fresh.specs.inner.Frames.{IsCaller, StandsAt, AwaitsAnswer, StagesOnly, WaitInTurn, numbers_of}
use Rattle.pie_fresh.specs.inner.Turns.{Answered, GoesOn, Nearer, StepsTo, turned, waiting_left, below_left, still}
use Rattle.pie_fresh.proofs.Rising.{alike_keeps, recorded_with}
use Rattle.pie_fresh.proofs.Opening.{open_alike}
use Rattle.pie_fresh.proofs.Growing.{advanced_placed, given_placed, callers_grow, grows_alike, placed_grows}

pub left_more : (cs : List Caller) (c : Caller) → waiting_left (cs ++ c ∷ []) ≡ waiting_left cs + (c.waiting.notes.left + 1)
left_more [] c = omega arith
left_more (d ∷ cs) c = let rest : waiting_left (cs ++ c ∷ []) ≡ waiting_left cs + (c.waiting.notes.left + 1) = left_more cs c in omega (arith, rest)

-- a task that was told goes on, or the root fails
pub turned_answered : (old : Noted) (t : Told) → AnsweredTold old t → Answered old (turned t)
turned_answered old (told.Goes f) a = a
turned_answered old (told.Fails n k) a = tt

-- a task that was answered goes on
pub answered_goes : (b : Builder) (old : Noted) (t : Turn) → StandsAt old.number b → IsPlaced b.ledger old → Answered old t → GoesOn b t
answered_goes b old (Goes f) s p a = record {
  stands = subst (λ n. StandsAt n b) (sym a.1.number) s;
  top = record { ready = a.0; placed = advanced_placed b.ledger old f.notes a.1 p };
}
answered_goes b old Rests s p a = elim a [ ]
answered_goes b old (Stops r) s p a = tt

pub answered_nearer : (b : Builder) (old : Noted) (t : Turn) → Answered old t → Nearer (below_left b + old.left + 1) b t
answered_nearer b old (Goes f) a = let left : f.notes.left + 1 ≡ old.left = a.1.left in omega (arith, left)
answered_nearer b old Rests a = tt
answered_nearer b old (Stops r) a = tt

-- contents alone changed
pub staged_ledger : (l m : Ledger) → m.names ≡ l.names → m.rows ≡ l.rows → m.heights ≡ l.heights → m.records ≡ l.records → m.ended ≡ l.ended
    → IsLedger l → IsLedger m
staged_ledger l m names rows heights records ended is = record {
  rows = ap length rows ∙ is.rows ∙ ap length (sym names);
  heights = ap (λ hs. length hs.items) heights ∙ is.heights ∙ ap length (sym names);
  few = subst (λ ts. length ts ≤ 50000) (sym names) is.few;
  low = λ k. subst (λ rs. IfSome (record_of rs k) (λ _. get_or m.heights.items k 0 < m.ended)) (sym records)
      (subst (λ hs. IfSome (record_of l.records k) (λ _. get_or hs.items k 0 < m.ended)) (sym heights)
      (subst (λ e. IfSome (record_of l.records k) (λ _. get_or l.heights.items k 0 < e)) (sym ended) (is.low k)));
  storable = λ k. subst (λ rs. IfSome (record_of rs k) IsStorable) (sym records) (is.storable k);
  recorded = λ k. subst (λ rs. IfSome (record_of rs k) (IsRecorded m k)) (sym records) (staged_record (record_of l.records k) k (is.recorded k));
}
  where
    staged_record : (o : Option TaskRecord) (k : ℕ) → IfSome o (IsRecorded l k) → IfSome o (IsRecorded m k)
    staged_record None k h = tt
    staged_record (Some r) k h =
        recorded_with l m k r (alike_keeps l m names records heights) (ap (λ ts. slice_get ts k) names ∙ h.named) (ap (λ hs. get_or hs.items k 0) heights) h

-- a write changes contents alone
written_grows : (b c : Builder) → StagesOnly b c → Grows b.ledger c.ledger
written_grows b c is = grows_alike b.ledger c.ledger is.names is.records is.heights is.ended

written_stands : (number : ℕ) (b c : Builder) → StagesOnly b c → StandsAt number b → StandsAt number c
written_stands number b c is s = record {
  ledger = staged_ledger b.ledger c.ledger is.names is.rows is.heights is.records is.ended s.ledger;
  stack = subst (λ cs. All (IsCaller c.ledger) cs.items) (sym is.stack) (callers_grow b.ledger c.ledger b.stack.items (written_grows b c is) s.stack);
  turns = subst (λ cs. WaitInTurn c.ledger.names cs.items number) (sym is.stack) (subst (λ ts. WaitInTurn ts b.stack.items number) (sym is.names) s.turns);
  unfinished = subst (λ cs. AreOpen c.ledger (numbers_of cs.items ++ number ∷ [])) (sym is.stack)
      (open_alike b.ledger c.ledger (numbers_of b.stack.items ++ number ∷ []) is.names is.records s.unfinished);
  counted =
      let size : length c.stack.items ≡ length b.stack.items = ap (λ cs. length cs.items) is.stack in
      let all : length c.ledger.names ≡ length b.ledger.names = ap length is.names in
      omega (arith, size, all, is.ended, s.counted);
  known = subst (λ k. All (λ (u : Task). Contains (function_names k.now) u.func) c.ledger.names) (sym is.typed)
      (subst (λ ts. All (λ (u : Task). Contains (function_names b.typed.now) u.func) ts) (sym is.names) s.known);
}

written_goes : (b c : Builder) (old : Noted) (t : Turn) → StagesOnly b c → StandsAt old.number b → IsPlaced b.ledger old → Answered old t → GoesOn c t
written_goes b c old t is s p a =
    answered_goes c old t (written_stands old.number b c is s) (placed_grows b.ledger c.ledger old (written_grows b c is) p) a

written_nearer : (b c : Builder) (old : Noted) (t : Turn) → StagesOnly b c → Answered old t → Nearer (below_left b + old.left + 1) c t
written_nearer b c old t is a =
    let all : below_left c ≡ below_left b
    = ap (λ ns. still (length ns) + waiting_left c.stack.items) is.names
    ∙ ap (λ cs. still (length b.ledger.names) + waiting_left cs.items) is.stack in
    subst (λ k. Nearer (k + old.left + 1) c t) all (answered_nearer c old t a)

-- ---- steps

-- the root fails
pub stopped_steps : (steps : ℕ) (b : Builder) (t : Turn) (r : Refusal) → t ≡ Stops r → StepsTo steps b t
stopped_steps steps b t r is = subst (λ u. StepsTo steps b u) (sym is) (record { goes = tt; nearer = tt })

-- an answer
pub answered_steps : (b : Builder) (w : Waiting) (t : Turn) → AwaitsAnswer b w → Answered w.notes t → StepsTo (below_left b + w.notes.left + 1) b t
answered_steps b w t is a = record { goes = answered_goes b w.notes t is.stands is.placed a; nearer = answered_nearer b w.notes t a }

-- a write
pub written_steps : (b c : Builder) (w : Waiting) (t : Turn) → StagesOnly b c → AwaitsAnswer b w → Answered w.notes t
    → StepsTo (below_left b + w.notes.left + 1) c t
written_steps b c w t same is a =
    record { goes = written_goes b c w.notes t same is.stands is.placed a; nearer = written_nearer b c w.notes t same a }

-- a task is given what one that has ended evaluated to
pub given_steps : (b : Builder) (w : Waiting) (t : Task) (number height : ℕ) (f : RunningTask) → AwaitsAnswer b w → slice_get b.ledger.names number ≡ Some t
    → IsHigh b.ledger number height → height < b.ledger.ended → IsReady f → Given (Called t) number height w.notes f.notes
    → StepsTo (below_left b + w.notes.left + 1) b (Goes f)
given_steps b w t number height f is named high low ready given = record {
  goes = record {
    stands = subst (λ n. StandsAt n b) (sym given.same) is.stands;
    top = record { ready = ready; placed = given_placed b.ledger t number height w.notes f.notes named high low given is.placed };
  };
  nearer = let left : f.notes.left + 1 ≡ w.notes.left = given.left in omega (arith, left);
}

-- by the notes of the running task
pub steps_by : (b c : Builder) (old new : Noted) (t : Turn) → new ≡ old → StepsTo (below_left b + new.left + 1) c t → StepsTo (below_left b + old.left + 1) c t
steps_by b c old new t same s = subst (λ (n : Noted). StepsTo (below_left b + n.left + 1) c t) same s

-- what goes on after a task that has ended
sooner : (few many : ℕ) (b : Builder) (t : Turn) → few ≤ many → Nearer few b t → Nearer many b t
sooner few many b (Goes f) le near = omega (arith, le, near)
sooner few many b Rests le near = tt
sooner few many b (Stops r) le near = tt

pub steps_after : (b c d : Builder) (left : ℕ) (t : Turn) → c.ledger.names ≡ b.ledger.names → c.stack ≡ b.stack → StepsTo (below_left c + 1) d t
    → StepsTo (below_left b + left + 1) d t
steps_after b c d left t names stack s =
    let all : below_left c ≡ below_left b
    = ap (λ ns. still (length ns) + waiting_left c.stack.items) names ∙ ap (λ cs. still (length b.ledger.names) + waiting_left cs.items) stack in
    record { goes = s.goes; nearer = sooner (below_left c + 1) (below_left b + left + 1) d t (omega (arith, all)) s.nearer }
