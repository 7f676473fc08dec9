-- Steps of a build that leave its running tasks as they are.
use Rattle.std.proofs.Common.{◌≡◌, ℕ, zero, suc, Bool, true, false, List, [], ◌∷◌, ◌++◌, refl, sym, ap, ◌∙◌, append-nil}
use Rattle.std.specs.Prelude.{slice_set}
use Rattle.std.proofs.lemmas.List.{get_or-set_other}
use Rattle.pie_value.specs.declared.task.Task.{Task}
use Rattle.pie_graph.specs.Rows.{Row}
use Rattle.pie_record.specs.declared.records.Records.{Records}
use Rattle.pie_record.specs.declared.task_record.TaskRecord.{TaskRecord}
use Rattle.pie_walk.specs.declared.marks.Mark.{Mark}
use Rattle.pie_walk.specs.declared.marks.Mark.TheVariants.{New, Settled}
use Rattle.pie_walk.specs.Marks.{mark_of}
use Rattle.pie_walk.specs.States.{WalkState, with_one_more, settled}
use Rattle.pie_model.proofs.Basics.{clash}
use Rattle.pie_core_laws.specs.Exact.{runs}
use Rattle.pie_core_laws.specs.Finishing.{Finishes, StaysExact}
use Rattle.pie_core_laws.specs.Moving.{Moves}
use Rattle.pie_task_laws.specs.Sites.{Site, Build}
use Rattle.pie_task_laws.specs.Steps.{IsUp, AllStep, OthersStep}

pub moves_step : (x : Site) (b : Build) (after : WalkState) → StaysExact x.update b.names b.records b.walk b.names b.records after → Moves b.walk after
    → AllStep x b (record b { walk = after })
moves_step x b after s m = record {
  stays = s;
  grown = ([], sym (append-nil b.names));
  up = λ k u o. by k u (runs (mark_of after.marks k)) refl;
  staged = λ k u o p. refl;
}
  where
    by : (k : ℕ) → IsUp b k → (z : Bool) → runs (mark_of after.marks k) ≡ z → runs (mark_of after.marks k) ≡ true
    by k u true i = i
    by k u false i = clash (runs (mark_of b.walk.marks k)) u (m.resting k i).0

-- one mark more, which is that of no task
mark_more : (marks : List Mark) (n : ℕ) → mark_of (marks ++ New ∷ []) n ≡ mark_of marks n
mark_more [] zero = refl
mark_more [] (suc n) = refl
mark_more (y ∷ ys) zero = refl
mark_more (y ∷ ys) (suc n) = mark_more ys n

pub new_step : (x : Site) (b : Build) (t : Task) → StaysExact x.update b.names b.records b.walk (b.names ++ t ∷ []) b.records (with_one_more b.walk)
    → AllStep x b (record b { names = b.names ++ t ∷ []; walk = with_one_more b.walk })
new_step x b t s = record {
  stays = s;
  grown = (t ∷ [], refl);
  up = λ k u o. ap runs (mark_more b.walk.marks k) ∙ u;
  staged = λ k u o p. refl;
}

mark_there : (marks : List Mark) (n k : ℕ) (m : Mark) → (k ≡ n → ⊥) → mark_of (slice_set marks n m) k ≡ mark_of marks k
mark_there marks n k m f = get_or-set_other marks n k m New f

pub finishes_step : (x : Site) (b : Build) (changed : Records) (after : WalkState) (k : ℕ) (row : Row) (rec : TaskRecord)
    → StaysExact x.update b.names b.records b.walk b.names changed after → Finishes b.records b.walk after k row rec
    → OthersStep x k b (record b { records = changed; walk = after })
finishes_step x b changed after k row rec s f = record {
  stays = s;
  grown = ([], sym (append-nil b.names));
  up = λ j u o. ap (λ (z : WalkState). runs (mark_of z.marks j)) f.same ∙ ap runs (mark_there b.walk.marks k j Settled o) ∙ u;
  staged = λ j u o p. refl;
}

pub kept_step : (x : Site) (b : Build) (k : ℕ) → StaysExact x.update b.names b.records b.walk b.names b.records (settled b.walk k)
    → OthersStep x k b (record b { walk = settled b.walk k })
kept_step x b k s = record {
  stays = s;
  grown = ([], sym (append-nil b.names));
  up = λ j u o. ap runs (mark_there b.walk.marks k j Settled o) ∙ u;
  staged = λ j u o p. refl;
}
