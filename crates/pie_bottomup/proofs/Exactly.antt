-- A build stays exact where its walk goes on.
use Rattle.std.proofs.Common.{◌≡◌, ◌⊎◌, ℕ, Bool, true, false, List, [], ◌∷◌, ◌++◌, Option, None, Some, refl, sym, ap, ◌∙◌, subst, inl, inr}
use Rattle.std.specs.Prelude.{slice_index_or}
use Rattle.std.specs.List.{All}
use Rattle.std.proofs.lemmas.List.Elements.{All-pop}
use Rattle.pie_graph.specs.Numbers.{IsMarked}
use Rattle.pie_graph.specs.Rows.{Row}
use Rattle.pie_record.specs.declared.task_record.TaskRecord.{TaskRecord}
use Rattle.pie_record.specs.inner.Records.{record_of as kept_of}
use Rattle.pie_tables.specs.declared.tables.Tables.{Tables}
use Rattle.pie_named.specs.declared.named.Named.{Named}
use Rattle.pie_view.specs.Content.{Staged, content}
use Rattle.pie_walk.specs.declared.marks.Mark.{Mark}
use Rattle.pie_walk.specs.declared.marks.Mark.TheVariants.{New, Visited, Runs, Settled}
use Rattle.pie_walk.specs.Marks.{mark_of, IsSettled}
use Rattle.pie_walk.specs.States.{WalkState}
use Rattle.pie_walk.specs.Standing.{Stands}
use Rattle.pie_walk.specs.Turns.{Walks}
use Rattle.pie_frames.specs.declared.parked.Parked.{Parked}
use Rattle.pie_frames.specs.declared.frames.Frames.{Frames}
use Rattle.pie_core_laws.specs.Update.{Update}
use Rattle.pie_core_laws.specs.Exact.{is_busy}
use Rattle.pie_core_laws.specs.Moving.{Moves}
use Rattle.pie_core_laws.specs.Seeing.{written_now}
use Rattle.pie_core_laws.proofs.Exactly.{not_busy_runs}
use Rattle.pie_core_laws.proofs.Moved.{moves_stay}
use Rattle.pie_bottomup.specs.declared.state.Core.{Core}
use Rattle.pie_bottomup.specs.declared.state.InHand.{InHand}
use Rattle.pie_bottomup.specs.inner.Exact.{KnowsTouched, AreWritten, WaitsAsOld, HoldsAsOld, AreExact, IsExactCore}

pub settled_or_not : (m : Mark) → (m ≡ Settled) ⊎ (m ≡ Settled → ⊥)
settled_or_not New = inr (λ e. cc)
settled_or_not Visited = inr (λ e. cc)
settled_or_not Runs = inr (λ e. cc)
settled_or_not Settled = inl refl

pub marked_apart : (b : Bool) → b ≡ true → b ≡ false → ⊥
marked_apart b on off = let clash : true ≡ false = sym on ∙ off in cc

pub nothing_staged : (o : Option (List ℕ)) (bytes : List ℕ) → o ≡ None → o ≡ Some bytes → ⊥
nothing_staged o bytes none full = let clash : None ≡ Some bytes = sym none ∙ full in cc

-- a task that ran and isn't busy is settled
ran_settled : (u : Update) (t : Tables) (s : WalkState) (staged : Staged) → AreWritten u t s staged → (n : ℕ) → IsMarked t.ran.items n → is_busy s n ≡ false
    → IsSettled s.marks n
ran_settled u t s staged w n flag calm = by (settled_or_not (mark_of s.marks n))
  where
    by : IsSettled s.marks n ⊎ (IsSettled s.marks n → ⊥) → IsSettled s.marks n
    by (inl is) = is
    by (inr un) = absurd (marked_apart (slice_index_or t.ran.items n false) flag (w.idle n (not_busy_runs s n calm) un).rested)

pub written_moved : (u : Update) (t : Tables) (s after : WalkState) (staged : Staged) → Moves s after → AreWritten u t s staged → AreWritten u t after staged
written_moved u t s after staged m w = record {
  there = λ n rec calm rested kept. w.there n rec (sym (m.busy n) ∙ calm) rested kept;
  ran = λ n rec path is flag kept. w.ran n rec path (by n flag (m.ends n is)) flag kept;
  fetched = λ n rec path bytes is rested kept full. fetched n rec path bytes (m.ends n is) rested kept full;
  idle = λ n rests un. w.idle n (m.resting n rests).0 (λ is. un (m.settled n is));
}
  where
    fetched : (n : ℕ) (rec : TaskRecord) (path bytes : List ℕ) → IsSettled s.marks n ⊎ (is_busy s n ≡ false)
        → slice_index_or t.ran.items n false ≡ false → kept_of t.records n ≡ Some rec → content staged n path ≡ Some bytes
        → written_now u rec.task path ≡ Some bytes
    fetched n rec path bytes (inl is) rested kept full = w.fetched n rec path bytes is rested kept full
    fetched n rec path bytes (inr calm) rested kept full = from (settled_or_not (mark_of s.marks n))
      where
        from : IsSettled s.marks n ⊎ (IsSettled s.marks n → ⊥) → written_now u rec.task path ≡ Some bytes
        from (inl is) = w.fetched n rec path bytes is rested kept full
        from (inr un) = absurd (nothing_staged (content staged n path) bytes ((w.idle n (not_busy_runs s n calm) un).unstaged path) full)

    by : (n : ℕ) → IsMarked t.ran.items n → IsSettled s.marks n ⊎ (is_busy s n ≡ false) → IsSettled s.marks n
    by n flag (inl is) = is
    by n flag (inr calm) = ran_settled u t s staged w n flag calm

pub known_on : (u : Update) (named : Named) (same : List Bool) (t : Tables) (old new : List Mark) → ((n : ℕ) → IsSettled old n → IsSettled new n)
    → KnowsTouched u named same t old → KnowsTouched u named same t new
known_on u named same t old new stays k = record {
  informed = k.informed;
  meaning = k.meaning;
  searched = λ n rec kept un flag. k.searched n rec kept (λ is. un (stays n is)) flag;
  parts = λ n rec kept un. k.parts n rec kept (λ is. un (stays n is));
}

pub are_moved : (u : Update) (named : Named) (same : List Bool) (t : Tables) (s after : WalkState) (staged : Staged) → AreExact u named same t s staged
    → Stands s → Stands after → Moves s after → AreExact u named same t after staged
are_moved u named same t s after staged e w v m = record {
  tables = (moves_stay u t.names t.records s after e.tables w v m).exact;
  known = known_on u named same t s.marks after.marks m.settled e.known;
  written = written_moved u t s after staged m e.written;
  unchanged = λ n rec calm rested kept. e.unchanged n rec (sym (m.busy n) ∙ calm) rested kept;
}

-- ---- rows that stay

waits_on_rows : (t : Tables) (old new : List Row) → new ≡ old → (ps : List Parked) → All (WaitsAsOld t old) ps → All (WaitsAsOld t new) ps
waits_on_rows t old new e ps all = subst (λ (rows : List Row). All (WaitsAsOld t rows) ps) (sym e) all

pub hand_on_rows : (t : Tables) (old new : List Row) → new ≡ old → (h : Option InHand) → HoldsAsOld t old h → HoldsAsOld t new h
hand_on_rows t old new e h is = subst (λ (rows : List Row). HoldsAsOld t rows h) (sym e) is

-- no row changes, and the same tasks wait
pub core_moved : (u : Update) (c : Core) (f : Frames) → IsExactCore u c → Stands c.frames.walk → Stands f.walk → Moves c.frames.walk f.walk
    → f.walk.rows ≡ c.frames.walk.rows → f.parked.items ≡ c.frames.parked.items → IsExactCore u (record c { frames = f })
core_moved u c f e w v m rows parked = record {
  tested = e.tested;
  counted = e.counted;
  tried = e.tried;
  are = are_moved u c.named c.plan.same.items c.tables c.frames.walk f.walk c.stage e.are w v m;
  parked = subst (All (WaitsAsOld c.tables f.walk.rows)) (sym parked)
      (waits_on_rows c.tables c.frames.walk.rows f.walk.rows rows c.frames.parked.items e.parked);
  hand = hand_on_rows c.tables c.frames.walk.rows f.walk.rows rows c.hand e.hand;
}

-- the newest waits no longer
pub core_unparked : (u : Update) (c : Core) (f : Frames) (p : Parked) → IsExactCore u c → Stands c.frames.walk → Stands f.walk
    → Moves c.frames.walk f.walk → f.walk.rows ≡ c.frames.walk.rows → c.frames.parked.items ≡ f.parked.items ++ p ∷ []
    → IsExactCore u (record c { frames = f }) × WaitsAsOld c.tables f.walk.rows p
core_unparked u c f p e w v m rows parked =
    let all = All-pop (WaitsAsOld c.tables f.walk.rows) c.frames.parked.items f.parked.items (Some p) parked
    (waits_on_rows c.tables c.frames.walk.rows f.walk.rows rows c.frames.parked.items e.parked) in (
      record {
        tested = e.tested;
        counted = e.counted;
        tried = e.tried;
        are = are_moved u c.named c.plan.same.items c.tables c.frames.walk f.walk c.stage e.are w v m;
        parked = all.0;
        hand = hand_on_rows c.tables c.frames.walk.rows f.walk.rows rows c.hand e.hand;
      },
      all.1,
    )

pub walks_rows : (old new : WalkState) → Walks old new → new.rows ≡ old.rows
walks_rows old new w = ap (λ (s : WalkState). s.rows) w.same
