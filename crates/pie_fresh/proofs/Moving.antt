-- Tasks that run or wait stay those of the model where the ledger grows.
use Rattle.std.proofs.Common.{◌≡◌, ℕ, true, Option, Some, None, List, [], ◌∷◌, refl, sym, ap, subst, ◌∙◌}
use Rattle.std.specs.Prelude.{slice_get}
use Rattle.std.specs.Option.{option_map}
use Rattle.pie_value.specs.declared.task.Task.{Task}
use Rattle.pie_value.specs.Canonical.{enc_task}
use Rattle.pie_code.specs.declared.code.Code.{Code}
use Rattle.pie_vm.specs.Machines.{Standing}
use Rattle.pie_view.specs.Content.{content}
use Rattle.pie_record.specs.inner.Records.{record_of as kept_of}
use Rattle.pie_model.specs.Paths.{among}
use Rattle.pie_model.specs.inner.Stack.{Frame as ModelFrame, tasks_of}
use Rattle.pie_model.proofs.Basics.{among_here, among_there}
use Rattle.pie_model_pipeline.specs.Rows.{record_of}
use Rattle.pie_builder_laws.specs.Names.{called_in}
use Rattle.pie_builder_laws.specs.Views.{AreNumbersOf}
use Rattle.pie_running.proofs.FrameLemmas as frames
use Rattle.pie_builder_laws.proofs.Tabled.{record_by_number}
use Rattle.pie_running.specs.declared.frame.Caller.{Caller}
use Rattle.pie_fresh.specs.declared.ledger.Ledger.{Ledger}
use Rattle.pie_fresh.specs.declared.builder.Builder.{Builder}
use Rattle.pie_running.specs.inner.Noted.{Noted}
use Rattle.pie_fresh.specs.inner.Means.{Site, table_of, MeansFrame, MeanCallers, Means}

-- a task keeps its number
pub record Extends (old new : Ledger) : Type 0 where
  pub named : (n : ℕ) (t : Task) → slice_get old.names n ≡ Some t → slice_get new.names n ≡ Some t
  pub numbers : (ns : List ℕ) (ts : List Task) → AreNumbersOf old.names ns ts → AreNumbersOf new.names ns ts

pub frame_moves : (s : Site) (old new : Ledger) (code : Code) (m : Standing) (n : Noted) (left : ℕ) (g : ModelFrame) → Extends old new
    → ((p : List ℕ) → content new.stage n.number p ≡ content old.stage n.number p) → MeansFrame s old code m n left g → MeansFrame s new code m n left g
frame_moves s old new code m n left g x same F =
    frames.frame_moves s.functions s.headings s.codes old.names old.stage code m n left g F new.names new.stage (x.named n.number n.task F.named)
    (x.numbers n.needs (called_in n.deps) F.needs) same

-- the contents of these tasks stay
abbrev pub KeepsStaged : Ledger → Ledger → List ModelFrame → Type 0
KeepsStaged old new gs =
    (n : ℕ) (t : Task) → slice_get old.names n ≡ Some t → among (enc_task t) (tasks_of gs) ≡ true → (p : List ℕ) → content new.stage n p ≡ content old.stage n p

pub callers_move : (s : Site) (old new : Ledger) (gs : List ModelFrame) (cs : List Caller) → Extends old new → KeepsStaged old new gs
    → MeanCallers s old gs cs → MeanCallers s new gs cs
callers_move s old new [] [] x same m = m
callers_move s old new (g ∷ gs) (c ∷ cs) x same m = (
  record {
    left = m.0.left;
    is_left = m.0.is_left;
    frame = frame_moves s old new c.waiting.code.now c.waiting.machine c.waiting.notes m.0.left g x
        (same c.waiting.notes.number c.waiting.notes.task m.0.frame.named
        (subst (λ t. among t (tasks_of (g ∷ gs)) ≡ true) m.0.frame.task (among_here g.task (tasks_of gs)))) m.0.frame;
    waits = m.0.waits;
    canonical = m.0.canonical;
    came = m.0.came;
  },
  callers_move s old new gs cs x (λ n t e i. same n t e (among_there (enc_task t) g.task (tasks_of gs) i)) m.1,
)
callers_move s old new [] (c ∷ cs) x same m = absurd m
callers_move s old new (g ∷ gs) [] x same m = absurd m

-- the running task has no record
pub top_unrecorded : (s : Site) (b : Builder) (code : Code) (m : Standing) (n : Noted) → Means s b code m n → kept_of b.ledger.records n.number ≡ None
top_unrecorded s b code m n M =
    none_of record_of (kept_of b.ledger.records n.number)
    (sym (record_by_number b.ledger.names b.ledger.records n.number n.task M.table.tasks M.top.named)
    ∙ ap (table_of b.ledger) (sym M.top.task) ∙ M.under.unrecorded M.running.task (among_here M.running.task (tasks_of M.waiting)))
  where
    none_of : {A : Type 0} {B : Type 0} (f : A → B) (o : Option A) → option_map f o ≡ None → o ≡ None
    none_of f None h = refl
    none_of f (Some x) h = cc
