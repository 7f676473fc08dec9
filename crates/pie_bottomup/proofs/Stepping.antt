-- What steps leave.
use Rattle.std.proofs.Common.{◌≡◌, ℕ, ◌<◌, ◌≤◌, ◌+◌, ◌*◌, List, Option, None, Some, Result, Ok, Err, refl, sym, ap, ◌∙◌, subst, inl, inr, arith}
use Rattle.std.specs.Prelude.{IfOk, OnOk}
use Rattle.pie_value.specs.declared.task.Task.{Task}
use Rattle.pie_files.specs.Directory.{Directory}
use Rattle.pie_graph.specs.declared.edges.TaskNo.{TaskNo}
use Rattle.pie_store.specs.declared.cause.Cause.TheVariants.{UnionMany}
use Rattle.pie_running.specs.declared.frame.Waiting.{Waiting}
use Rattle.pie_view.specs.Content.{Staged}
use Rattle.pie_bottomup.specs.declared.state.Core.{Core}
use Rattle.pie_bottomup.specs.declared.state.First.{First}
use Rattle.pie_bottomup.specs.declared.state.First.TheVariants.{Tests, TooMany, Done}
use Rattle.pie_bottomup.specs.declared.state.InHand.{InHand}
use Rattle.pie_bottomup.specs.declared.state.Turn.{Turn}
use Rattle.pie_bottomup.specs.declared.state.Turn.TheVariants.{Went, Settled, StartAfresh}
use Rattle.pie_bottomup.specs.inner.Going.{StepsWhole}
use Rattle.pie_bottomup.specs.inner.Many.{StopsForMany}
use Rattle.pie_bottomup.specs.inner.States.{Awaits, IsCore, IsFree, IsInHand, IsSite, IsTaken, IsTreated, IsUntested}
use Rattle.pie_bottomup.specs.inner.States.{GoesTo, Keeps, Nearer, RunsOrRests, TurnsTo, in_hand, mass, rest, untested}
use Rattle.pie_bottomup.specs.inner.Stepping.{IsUnoccupied, LeavesWhole, StartsRight, StepsOn, StepsTo}
use Rattle.pie_bottomup.specs.inner.Tested.{LearnsOnly}
use Rattle.pie_bottomup.proofs.Due.{goes_all, turns_all}
use Rattle.pie_bottomup.proofs.Keeping.{tasks_stay}

-- ---- results

pub on_ok_more : {A E : Type 0} (P Q : Type 0) → (P → Q) → (r : Result A E) → OnOk r P → OnOk r Q
on_ok_more P Q f (Ok a) h = f h
on_ok_more P Q f (Err e) h = tt

pub leaves_whole : {E : Type 0} (held : Option Directory) (old new : Core) (r : Result Turn E) → IfOk r (StopsForMany old) → IfOk r (StepsWhole held old new)
    → IfOk r (LeavesWhole held old new)
leaves_whole held old new (Ok turn) many whole = record { many = many; whole = whole }
leaves_whole held old new (Err e) many whole = tt

-- ---- what holds before a step

apart_firsts : Tests ≡ Done → ⊥
apart_firsts e = cc

-- after the first step nothing is untested
pub done_free : (c : Core) → IsUnoccupied c → c.first ≡ Done → IsFree c
done_free c is done = record { rests = elim is.state [ inl before ↦ absurd (before.start.first done) | inr rests ↦ rests ]; free = is.free }

-- and in the first one all is
pub tests_untested : (c : Core) → IsUnoccupied c → c.first ≡ Tests → IsUntested c
tests_untested c is first = elim is.state [ inl before ↦ before | inr rests ↦ absurd (apart_firsts (sym first ∙ rests.site.tested)) ]

site_handed : (c : Core) (h : Option InHand) → IsSite c → IsSite (record c { hand = h })
site_handed c h site = record {
  tables = site.tables;
  sized = site.sized;
  roots = site.roots;
  tested = site.tested;
  agree = site.agree;
  based = site.based;
}

-- what is staged says nothing of a task that was taken, and of one that waits
pub taken_staged : (c : Core) (s : Staged) (task : TaskNo) → IsTaken c task → IsTaken (record c { stage = s }) task
taken_staged c s task is = record {
  site = record {
    tables = is.site.tables;
    sized = is.site.sized;
    roots = is.site.roots;
    tested = is.site.tested;
    agree = is.site.agree;
    based = is.site.based;
  };
  free = is.free;
  holds = is.holds;
}

pub awaits_staged : (c mid : Core) (task : TaskNo) (from : ℕ) (w : Waiting) → mid ≡ record c { stage = mid.stage } → Awaits c task from w
    → Awaits mid task from w
awaits_staged c mid task from w same is = subst (λ (z : Core). Awaits z task from w) (sym same) (record {
  taken = taken_staged c mid.stage task is.taken;
  waits = is.waits;
  own = record { number = is.own.number; row = is.own.row; noted = is.own.noted };
})

-- the task in hand is taken out of the build
pub takes_hand : (c : Core) (h : Option InHand) (hand : InHand) → IsCore c → c.hand ≡ Some hand → h ≡ None → IsTreated (record c { hand = h }) hand
takes_hand c h hand (inl before) is none = absurd (apart hand (sym before.start.hand ∙ is))
  where
    apart : (x : InHand) → None ≡ Some x → ⊥
    apart x e = cc
takes_hand c h hand (inr going) is none =
    let has : IsInHand c hand = subst (RunsOrRests c) is going.state in
    record {
      site = site_handed c h going.site;
      free = none;
      hand = record {
        holds = has.holds;
        ready = has.ready;
        own = record { number = has.own.number; row = has.own.row; noted = has.own.noted };
      };
    }

-- or there is none
pub takes_none : (c : Core) (h : Option InHand) → IsCore c → c.hand ≡ None → h ≡ None → IsUnoccupied (record c { hand = h })
takes_none c h (inl before) is none = record {
  state = inl (record {
    tables = before.tables;
    sized = before.sized;
    roots = before.roots;
    rests = before.rests;
    start = record {
      first = before.start.first;
      hand = none;
      at = before.start.at;
      parked = before.start.parked;
      fresh = before.start.fresh;
      recorded = before.start.recorded;
      digests = before.start.digests;
    };
  });
  free = none;
}
takes_none c h (inr going) is none = record {
  state = inr (record { site = site_handed c h going.site; rests = subst (RunsOrRests c) is going.state });
  free = none;
}

-- ---- what a step leaves

-- the first step is done, and nothing else is another
pub learns_done : (old new : Core) → LearnsOnly old new → LearnsOnly old (record new { first = Done })
learns_done old new is = record {
  learns = record {
    plan = is.learns.plan;
    tables = is.learns.tables;
    earlier = is.learns.earlier;
    scheduled = is.learns.scheduled;
    names = is.learns.names;
    stays = is.learns.stays;
  };
  only = record { walk = is.only.walk; stage = is.only.stage };
}

-- so less is left to do
pub tested_nearer : (old now : Core) → old.first ≡ Tests → now.first ≡ old.first → rest now ≤ rest old → now.hand ≡ None
    → mass (record now { first = Done }) < rest old
tested_nearer old now first same less free =
    let one : untested now.first ≡ 1 = ap untested (same ∙ first) in
    let zero : in_hand now.hand ≡ 0 = ap in_hand free in
    omega (arith, less, one, zero)

-- a step that goes on turns so
goes_turns : (c : Core) (t : Turn) → GoesTo c t → TurnsTo c t
goes_turns c Went is = inr is
goes_turns c Settled is = is
goes_turns c (StartAfresh cause) is = tt

pub goes_steps : (bound : ℕ) (c : Core) (t : Turn) → GoesTo c t → Nearer bound c t → StepsTo bound c t
goes_steps bound c t is near = record { turns = goes_turns c t is; nearer = near }

nearer_more : (less more : ℕ) (c : Core) (t : Turn) → less ≤ more → Nearer less c t → Nearer more c t
nearer_more less more c Went l near = omega (arith, l, near)
nearer_more less more c Settled l near = tt
nearer_more less more c (StartAfresh cause) l near = tt

-- so each does, with a task in hand or without one
pub hand_goes : {E : Type 0} (old new : Core) (h : InHand) (r : Result Turn E) → old.hand ≡ Some h → IfOk r (GoesTo new)
    → IfOk r (Nearer (rest old + 2 * h.task.notes.left + 1) new) → IfOk r (StepsOn old new)
hand_goes old new h (Ok turn) is goes near =
    let held : in_hand old.hand ≡ 2 * h.task.notes.left + 1 = ap in_hand is in
    record {
      turns = goes_turns new turn goes;
      nearer = nearer_more (rest old + 2 * h.task.notes.left + 1) (mass old) new turn (omega (arith, held)) near;
      all = goes_all {E = Unit {0}} new (Ok turn) goes;
    }
hand_goes old new h (Err e) is goes near = tt

pub free_goes : {E : Type 0} (old new : Core) (r : Result Turn E) → IfOk r (StepsTo (rest old) new) → IfOk r (StepsOn old new)
free_goes old new (Ok turn) is = record {
  turns = is.turns;
  nearer = nearer_more (rest old) (mass old) new turn (omega arith) is.nearer;
  all = turns_all {E = Unit {0}} new (Ok turn) is.turns;
}
free_goes old new (Err e) is = tt

-- what holds of a build without the place for a task in hand holds of it where that is empty
pub free_as : (P : Core → Type 0) (old : Core) (h : Option InHand) → old.hand ≡ None → h ≡ None → P (record old { hand = h }) → P old
free_as P old h free none = subst (λ (x : Option InHand). P (record old { hand = x })) (none ∙ sym free)

-- there were too many old tasks
pub many_stops : (c : Core) (task told : Task) → c.first ≡ TooMany task → told ≡ task → StopsForMany c (StartAfresh (UnionMany 50000 0 told))
many_stops c task told first same t is = ap (λ (x : Task). StartAfresh (UnionMany 50000 0 x)) (same ∙ ap (the_task task) (sym first ∙ is))
  where
    the_task : Task → First → Task
    the_task d Tests = d
    the_task d (TooMany x) = x
    the_task d Done = d

-- no task is started where the tasks stay
keeps_start : (held : Option Directory) (old new : Core) (before : List Task) → Keeps old new → StartsRight held old new before before
keeps_start held old new before keeps = record {
  spends = record { plan = keeps.plan; room = omega (arith, keeps.room); tasks = keeps.tasks };
  none = λ task many. refl;
  reasons = λ u funcs digests now site stands knows. inl (refl, keeps.ran);
}

pub keeps_starts : {E : Type 0} (held : Option Directory) (old new : Core) (before : List Task) (r : Result Turn E) → OnOk r (Keeps old new)
    → OnOk r (StartsRight held old new before before)
keeps_starts held old new before (Ok turn) keeps = keeps_start held old new before keeps
keeps_starts held old new before (Err e) keeps = tt

-- nor where a task was in hand
pub hand_starts : {E : Type 0} (held : Option Directory) (old new : Core) (h : Option InHand) (before : List Task) (r : Result Turn E)
    → OnOk r (Keeps (record old { hand = h }) new) → OnOk r (StartsRight held old new before before)
hand_starts held old new h before (Ok turn) keeps =
    keeps_start held old new before (record { plan = keeps.plan; room = keeps.room; tasks = keeps.tasks; ran = keeps.ran })
hand_starts held old new h before (Err e) keeps = tt

-- nor where nothing is done
pub starts_none : (held : Option Directory) (c : Core) (before : List Task) → StartsRight held c c before before
starts_none held c before = keeps_start held c c before (record { plan = refl; room = omega arith; tasks = tasks_stay c.tables; ran = λ n is. is })
