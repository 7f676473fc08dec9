-- What stays true of tasks on the stack when others are entered or end.
use Rattle.std.proofs.Common.{◌≡◌, ℕ, zero, suc, ◌+◌, ◌<◌, ◌≤◌, max, List, [], ◌∷◌, ◌++◌, length, Some, sym, ap, subst, ◌∙◌, append_assoc, arith}
use Rattle.std.specs.Prelude.{All, Contains, slice_get, Result, Ok, Err, IfOk}
use Rattle.std.proofs.lemmas.List.{length-append}
use Rattle.std.proofs.lemmas.List.Elements.{All-push, All-append, Contains-append_left}
use Rattle.std.proofs.lemmas.Option.{slice_get_within}
use Rattle.pie_value.specs.declared.task.Task.{Task}
use Rattle.pie_value.specs.Canonical.{IsEncodableTask}
use Rattle.pie_graph.specs.Numbers.{AllBelow}
use Rattle.pie_fresh.specs.declared.ledger.Ledger.{Ledger}
use Rattle.pie_running.specs.declared.frame.Caller.{Caller}
use Rattle.pie_running.specs.inner.Noted.{Noted, tasks_on}
use Rattle.pie_fresh.specs.inner.Ledgers.{IsHigh, Rises, IsPlaced, Grows, Enters, Starts, EntersAndStarts}
use Rattle.pie_fresh.specs.inner.Frames.{IsCaller}
use Rattle.pie_running.specs.inner.Steps.{Advanced, Given}
use Rattle.pie_fresh.specs.inner.Builds.{Gains}
use Rattle.pie_record.specs.declared.dep.DepOn.TheVariants.{Called}
use Rattle.pie_fresh.proofs.Rising.{get_kept, append_none, rises_kept, rises_more, alike_keeps}

-- how many there are
pub grown_length : (l m : Ledger) → Grows l m → length l.names ≤ length m.names
grown_length l m g =
    let size : length (l.names ++ g.rest) ≡ length l.names + length g.rest = length-append l.names g.rest in
    let all : length m.names ≡ length (l.names ++ g.rest) = ap length g.names in
    omega (arith, size, all)

pub placed_grows : (l m : Ledger) (n : Noted) → Grows l m → IsPlaced l n → IsPlaced m n
placed_grows l m n g p = record {
  named = subst (λ ts. slice_get ts n.number ≡ Some n.task) (sym g.names) (get_kept l.names g.rest n.number n.task p.named);
  needs = λ k d lt. let more : length l.names ≤ length m.names = grown_length l m g in let at = p.needs k d lt in omega (arith, at, more);
  low = omega (arith, p.low, g.ended);
  risen = rises_kept l m g.kept (tasks_on n.deps) 0 n.height p.risen;
}

pub caller_grows : (l m : Ledger) (c : Caller) → Grows l m → IsCaller l c → IsCaller m c
caller_grows l m c g p = record { waits = p.waits; required = p.required; placed = placed_grows l m c.waiting.notes g p.placed }

pub callers_grow : (l m : Ledger) (cs : List Caller) → Grows l m → All (IsCaller l) cs → All (IsCaller m) cs
callers_grow l m cs g all k d lt = caller_grows l m _ g (all k d lt)

-- nothing but the contents changed
pub grows_alike : (l m : Ledger) → m.names ≡ l.names → m.records ≡ l.records → m.heights ≡ l.heights → m.ended ≡ l.ended → Grows l m
grows_alike l m names records heights ended =
    record { rest = []; names = names ∙ append_none l.names; ended = omega (arith, ended); kept = alike_keeps l m names records heights }

-- a task that was answered is where it was
pub advanced_placed : (l : Ledger) (old new : Noted) → Advanced old new → IsPlaced l old → IsPlaced l new
advanced_placed l old new a p = record {
  named = subst (λ n. slice_get l.names n ≡ Some new.task) (sym a.number) (p.named ∙ ap Some (sym a.task));
  needs = subst (λ ns. AllBelow (length l.names) ns) (sym a.needs) p.needs;
  low = omega (arith, p.low, a.height);
  risen = subst (λ ts. Rises l ts 0 new.height) (sym a.tasks) (subst (λ h. Rises l (tasks_on old.deps) 0 h) (sym a.height) p.risen);
}

-- so is one that was given what a task evaluated to
pub given_placed : (l : Ledger) (t : Task) (number height : ℕ) (old new : Noted) → slice_get l.names number ≡ Some t → IsHigh l number height → height < l.ended
    → Given (Called t) number height old new → IsPlaced l old → IsPlaced l new
given_placed l t number height old new named is low a p = record {
  named = subst (λ n. slice_get l.names n ≡ Some new.task) (sym a.same) (p.named ∙ ap Some (sym a.task));
  needs = subst (λ ns. AllBelow (length l.names) ns) (sym a.needs)
      (All-push (λ n. n < length l.names) old.needs number p.needs (slice_get_within l.names number t named));
  low = let high : new.height ≡ max old.height (height + 1) = a.high in let before = p.low in omega (arith, high, before, low);
  risen = subst (λ ts. Rises l ts 0 new.height) (sym a.tasks) (subst (λ h. Rises l (tasks_on old.deps ++ t ∷ []) 0 h) (sym a.high)
      (rises_more l (tasks_on old.deps) t 0 old.height height p.risen (record { number = number; named = named; high = is })));
}

none_encodable : All IsEncodableTask []
none_encodable k d l = absurd (omega (arith, l))

one_encodable : (t : Task) → IsEncodableTask t → All IsEncodableTask (t ∷ [])
one_encodable t e zero d l = e
one_encodable t e (suc k) d l = absurd (omega (arith, l))

-- nothing was entered
pub enters_self : (ts rs : List Task) → Enters ts ts rs rs
enters_self ts rs = record { gained = []; is = append_none rs; counted = omega arith; few = λ h. h; encodable = none_encodable; kept = λ t c. c }

pub enters_same : (ts us rs ss : List Task) → us ≡ ts → ss ≡ rs → Enters ts us rs ss
enters_same ts us rs ss names runs = subst (λ vs. Enters ts vs rs ss) (sym names) (subst (λ qs. Enters ts ts rs qs) (sym runs) (enters_self ts rs))

-- a task was entered, and not started
pub enters_named : (ts us rs ss : List Task) (t : Task) → length ts < 50000 → us ≡ ts ++ t ∷ [] → ss ≡ rs → Enters ts us rs ss
enters_named ts us rs ss t room names runs =
    let size : length us ≡ length ts + 1 = ap length names ∙ length-append ts (t ∷ []) in
    record {
      gained = [];
      is = runs ∙ append_none rs;
      counted = omega (arith, size);
      few = λ h. omega (arith, size, room);
      encodable = none_encodable;
      kept = λ u c. subst (λ vs. Contains vs u) (sym names) (Contains-append_left ts (t ∷ []) u c);
    }

-- a task was entered and started
pub enters_started : (ts us rs ss : List Task) (t : Task) → length ts < 50000 → us ≡ ts ++ t ∷ [] → ss ≡ rs ++ t ∷ [] → IsEncodableTask t → Enters ts us rs ss
enters_started ts us rs ss t room names runs encodable =
    let size : length us ≡ length ts + 1 = ap length names ∙ length-append ts (t ∷ []) in
    record {
      gained = t ∷ [];
      is = runs;
      counted = omega (arith, size);
      few = λ h. omega (arith, size, room);
      encodable = one_encodable t encodable;
      kept = λ u c. subst (λ vs. Contains vs u) (sym names) (Contains-append_left ts (t ∷ []) u c);
    }

-- what was entered first, and then
pub enters_then : (ts us vs rs ss qs : List Task) → Enters ts us rs ss → Enters us vs ss qs → Enters ts vs rs qs
enters_then ts us vs rs ss qs a b =
    let size : length (a.gained ++ b.gained) ≡ length a.gained + length b.gained = length-append a.gained b.gained in
    record {
      gained = a.gained ++ b.gained;
      is = b.is ∙ ap (λ xs. xs ++ b.gained) a.is ∙ append_assoc rs a.gained b.gained;
      counted = omega (arith, size, a.counted, b.counted);
      few = λ h. b.few (a.few h);
      encodable = All-append IsEncodableTask a.gained b.gained a.encodable b.encodable;
      kept = λ t c. b.kept t (a.kept t c);
    }

-- a build enters so many tasks at the most
pub gains : (ts us rs ss : List Task) → ts ≡ [] → Enters ts us rs ss → Gains 50000 rs ss
gains ts us rs ss none e =
    let empty : length ts ≡ 0 = ap length none in
    let few : length us ≤ 50000 = e.few (omega (arith, empty)) in
    record { gained = e.gained; is = e.is; few = omega (arith, few, e.counted); encodable = e.encodable }

-- nothing was entered or started
pub starts_same : (ts us rs ss : List Task) → us ≡ ts → ss ≡ rs → Starts ts us rs ss
starts_same ts us rs ss names runs = record { gained = []; entered = names ∙ append_none ts; started = runs ∙ append_none rs }

-- a task was entered and started
pub starts_one : (ts us rs ss : List Task) (t : Task) → us ≡ ts ++ t ∷ [] → ss ≡ rs ++ t ∷ [] → Starts ts us rs ss
starts_one ts us rs ss t names runs = record { gained = t ∷ []; entered = names; started = runs }

-- some tasks first, and then others
pub starts_then : (ts us vs rs ss qs : List Task) → Starts ts us rs ss → Starts us vs ss qs → Starts ts vs rs qs
starts_then ts us vs rs ss qs a b = record {
  gained = a.gained ++ b.gained;
  entered = b.entered ∙ ap (λ xs. xs ++ b.gained) a.entered ∙ append_assoc ts a.gained b.gained;
  started = b.started ∙ ap (λ xs. xs ++ b.gained) a.started ∙ append_assoc rs a.gained b.gained;
}

-- a fact on an answer that doesn't look at it
pub on_answers : {A : Type 0} {E : Type 0} {P : Type 0} (r : Result A E) → P → IfOk r (λ _. P)
on_answers (Ok a) h = h
on_answers (Err e) h = tt

pub starts_kept : {A : Type 0} {E : Type 0} (r : Result A E) (ts us rs ss : List Task) → us ≡ ts → ss ≡ rs → IfOk r (λ _. Starts ts us rs ss)
starts_kept r ts us rs ss names runs = on_answers r (starts_same ts us rs ss names runs)

-- nothing was entered or started, whatever the answer is
pub started_same : {A : Type 0} {E : Type 0} (r : Result A E) (ts us rs ss : List Task) → us ≡ ts → ss ≡ rs → EntersAndStarts ts us rs ss r
started_same r ts us rs ss names runs = record { enters = enters_same ts us rs ss names runs; starts = starts_kept r ts us rs ss names runs }

-- some tasks first, and then those before an answer
starts_before : {A : Type 0} {E : Type 0} (r : Result A E) (ts us vs rs ss qs : List Task) → Starts ts us rs ss → IfOk r (λ _. Starts us vs ss qs)
    → IfOk r (λ _. Starts ts vs rs qs)
starts_before (Ok a) ts us vs rs ss qs first then = starts_then ts us vs rs ss qs first then
starts_before (Err e) ts us vs rs ss qs first then = tt

pub started_then : {A : Type 0} {E : Type 0} (r : Result A E) (ts us vs rs ss qs : List Task) → Enters ts us rs ss → Starts ts us rs ss
    → EntersAndStarts us vs ss qs r → EntersAndStarts ts vs rs qs r
started_then r ts us vs rs ss qs entered started after = record {
  enters = enters_then ts us vs rs ss qs entered after.enters;
  starts = starts_before r ts us vs rs ss qs started after.starts;
}
