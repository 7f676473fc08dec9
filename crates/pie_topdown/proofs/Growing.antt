-- What is in hand, and what waits, while tasks are entered and end.
use Rattle.std.proofs.Common.{◌≡◌, ℕ, ◌+◌, ◌*◌, ◌≤◌, List, [], ◌∷◌, ◌++◌, Option, Some, length, map, take, sym, ap, subst, ◌∙◌, refl, arith}
use Rattle.std.specs.Prelude.{slice_get}
use Rattle.std.specs.List.{All}
use Rattle.std.proofs.lemmas.List.Elements.{All-weaker, All-push}
use Rattle.pie_value.specs.declared.task.Task.{Task}
use Rattle.pie_graph.specs.Numbers.{AllBelow, numbers}
use Rattle.pie_old.specs.inner.Rows.{needs_in, tasks_at}
use Rattle.pie_record.specs.declared.dep.DepOn.TheVariants.{Called}
use Rattle.pie_running.specs.declared.frame.Caller.{Caller}
use Rattle.pie_running.specs.declared.frame.Told.{Told}
use Rattle.pie_running.specs.declared.frame.Told.TheVariants as tolds
use Rattle.pie_running.specs.inner.Noted.{Noted, tasks_on, begun}
use Rattle.pie_running.specs.inner.Steps.{Advanced, Answered, Given}
use Rattle.pie_topdown.specs.declared.ledger.Ledger.{Ledger}
use Rattle.pie_topdown.specs.declared.builder.Builder.{Builder}
use Rattle.pie_topdown.specs.declared.hand.Check.{Check}
use Rattle.pie_topdown.specs.declared.hand.Frame.{Frame}
use Rattle.pie_topdown.specs.declared.hand.Frame.TheVariants as frames
use Rattle.pie_topdown.specs.inner.Ledgers.{HasOutput, IsLedger, Grows}
use Rattle.pie_topdown.specs.inner.Frames.{IsNoted, IsCaller, IsCheck, IsFrame}
use Rattle.pie_topdown.specs.inner.Turns.{MayGo, told_mass}
use Rattle.pie_topdown.proofs.Keeping.{named_more, all_named_more, needs_inside}

-- ---- while others are entered and end

pub noted_grows : (l m : Ledger) → Grows l m → (n : Noted) → IsNoted l n → IsNoted m n
noted_grows l m g n is = record {
  task = subst (λ (ts : List Task). slice_get ts n.number ≡ Some n.task) (sym g.names) (named_more l.tables.names g.rest n.task n.number is.task);
  needs = subst (λ (ts : List Task). tasks_at ts n.needs ≡ map Some (tasks_on n.deps)) (sym g.names)
      (all_named_more l.tables.names g.rest n.needs (tasks_on n.deps) is.needs);
  ended = All-weaker (HasOutput l.tables.records) (HasOutput m.tables.records) g.outputs n.needs is.ended;
}

pub caller_grows : (l m : Ledger) → Grows l m → (c : Caller) → IsCaller l c → IsCaller m c
caller_grows l m g c is = record { waits = is.waits; required = is.required; noted = noted_grows l m g c.waiting.notes is.noted }

pub check_grows : (l m : Ledger) → Grows l m → (c : Check) → IsCheck l c → IsCheck m c
check_grows l m g c is = record {
  named = subst (λ (ts : List Task). slice_get ts c.no.0 ≡ Some c.rec.task) (sym g.names) (named_more l.tables.names g.rest c.rec.task c.no.0 is.named);
  takes = is.takes;
  storable = is.storable;
  needs = subst (λ (ts : List Task). tasks_at ts (numbers c.required.items) ≡ map Some (needs_in (take c.at c.rec.deps))) (sym g.names)
      (all_named_more l.tables.names g.rest (numbers c.required.items) (needs_in (take c.at c.rec.deps)) is.needs);
  ended = All-weaker (HasOutput l.tables.records) (HasOutput m.tables.records) g.outputs (numbers c.required.items) is.ended;
  rest = is.rest;
}

pub frame_grows : (l m : Ledger) → Grows l m → (e : Frame) → IsFrame l e → IsFrame m e
frame_grows l m g (frames.Checks c) is = check_grows l m g c.value is
frame_grows l m g (frames.Waits c) is = caller_grows l m g c is

pub frames_grow : (l m : Ledger) → Grows l m → (es : List Frame) → All (IsFrame l) es → All (IsFrame m) es
frames_grow l m g es all = All-weaker (IsFrame l) (IsFrame m) (frame_grows l m g) es all

-- ---- the task that runs

pub noted_below : (l : Ledger) (n : Noted) → IsLedger l → IsNoted l n → AllBelow (length l.rows) n.needs
noted_below l n is noted = needs_inside l n.needs is noted.ended

pub check_below : (l : Ledger) (c : Check) → IsLedger l → IsCheck l c → AllBelow (length l.rows) (numbers c.required.items)
check_below l c is check = needs_inside l (numbers c.required.items) is check.ended

-- it has done nothing yet
pub begun_noted : (l : Ledger) (t : Task) (k : ℕ) (n : Noted) → slice_get l.tables.names k ≡ Some t → n ≡ begun t k 1000001 → IsNoted l n
begun_noted l t k n named e = subst (IsNoted l) (sym e) (record { task = named; needs = refl; ended = λ i d h. absurd (omega (arith, h)) })

-- it was answered
pub advanced_noted : (l : Ledger) (old new : Noted) → IsNoted l old → Advanced old new → IsNoted l new
advanced_noted l old new is a = record {
  task = subst (λ (k : ℕ). slice_get l.tables.names k ≡ Some new.task) (sym a.number) (is.task ∙ ap Some (sym a.task));
  needs = ap (tasks_at l.tables.names) a.needs ∙ is.needs ∙ ap (map Some) (sym a.tasks);
  ended = subst (All (HasOutput l.tables.records)) (sym a.needs) is.ended;
}

pub mapped_push : {A B : Type 0} (f : A → B) (xs : List A) (x : A) → map f (xs ++ x ∷ []) ≡ map f xs ++ f x ∷ []
mapped_push f [] x = refl
mapped_push f (y ∷ ys) x = ap (λ zs. f y ∷ zs) (mapped_push f ys x)

-- one task more is among those that were required
pub tasks_push : (names : List Task) (ns : List ℕ) (us : List Task) (k : ℕ) (t : Task) → tasks_at names ns ≡ map Some us → slice_get names k ≡ Some t
    → tasks_at names (ns ++ k ∷ []) ≡ map Some (us ++ t ∷ [])
tasks_push names ns us k t e named =
    mapped_push (slice_get names) ns k ∙ ap (λ (os : List (Option Task)). os ++ slice_get names k ∷ []) e
    ∙ ap (λ (o : Option Task). map Some us ++ o ∷ []) named ∙ sym (mapped_push Some us t)

-- it was given the output of a task
pub given_noted : (l : Ledger) (old new : Noted) (t : Task) (k h : ℕ) → IsNoted l old → Given (Called t) k h old new → slice_get l.tables.names k ≡ Some t
    → HasOutput l.tables.records k → IsNoted l new
given_noted l old new t k h is g named output = record {
  task = subst (λ (i : ℕ). slice_get l.tables.names i ≡ Some new.task) (sym g.same) (is.task ∙ ap Some (sym g.task));
  needs = ap (tasks_at l.tables.names) g.needs ∙ tasks_push l.tables.names old.needs (tasks_on old.deps) k t is.needs named ∙ ap (map Some) (sym g.tasks);
  ended = subst (All (HasOutput l.tables.records)) (sym g.needs) (All-push (HasOutput l.tables.records) old.needs k is.ended output);
}

pub answered_goes : (b : Builder) (n : Noted) (t : Told) → IsNoted b.ledger n → Answered n t → MayGo b t
answered_goes b n (tolds.Goes f) is a = (a.0, advanced_noted b.ledger n f.notes is a.1)
answered_goes b n (tolds.Fails m k) is a = tt

pub answered_mass : (n : Noted) (t : Told) → Answered n t → told_mass t ≤ 2 * n.left + 1
answered_mass n (tolds.Goes f) a = let less = a.1.left in omega (arith, less)
answered_mass n (tolds.Fails m k) a = omega arith
