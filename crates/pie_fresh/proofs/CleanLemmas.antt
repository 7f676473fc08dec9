-- What is collected where all roots are done makes the clean build of the model.
use Rattle.std.proofs.Common.{◌≡◌, ℕ, List, [], map, Some, sym, ap, subst, ◌∙◌}
use Rattle.std.specs.Prelude.{Contains, IfOk, Option, Result, Ok, Err, Vec, is_some, option_map, slice_get, All, IfSome}
use Rattle.pie_value.specs.declared.task.Task.{Task}
use Rattle.pie_value.specs.declared.value.Value.{Value}
use Rattle.pie_value.specs.declared.verdict.Refusal.{Refusal}
use Rattle.pie_value.specs.declared.verdict.Refusal.TheVariants as refusals
use Rattle.pie_value.specs.declared.verdict.Verdict.TheVariants.{Accepted, Refused}
use Rattle.pie_value.specs.Canonical.{enc_task}
use Rattle.pie_graph.specs.declared.edges.TaskNo.{TaskNo}
use Rattle.pie_graph.specs.Numbers.{numbers}
use Rattle.pie_record.specs.declared.task_record.TaskRecord.{TaskRecord}
use Rattle.pie_view.specs.Content.{content}
use Rattle.pie_checks.specs.declared.built.Built.{Built}
use Rattle.pie_parser.specs.FunctionTrees.{FunctionTree}
use Rattle.pie_files.specs.Directory.{Directory}
use Rattle.pie_model.specs.Paths.{Path}
use Rattle.pie_model.specs.Records.{Record}
use Rattle.pie_model.specs.Seen.{first_write}
use Rattle.pie_check_laws.proofs.Members.{into_map}
use Rattle.pie_model_pipeline.specs.Rows.{record_of}
use Rattle.pie_model_pipeline.specs.World.{world, project}
use Rattle.pie_model_pipeline.specs.Clean.{IsCleanBuild}
use Rattle.pie_builder_laws.specs.Builds.{AreLive, AreOutputs, AreRows, Answers, IsOutput}
use Rattle.pie_builder_laws.proofs.Ended.{accepted_is, checked_is}
use Rattle.pie_builder_laws.proofs.Filed.{wrote_in}
use Rattle.pie_builder_laws.proofs.Provided.{hashed_paths}
use Rattle.pie_builder_laws.proofs.Shown.{path_wrote}
use Rattle.pie_builder_laws.proofs.Tabled.{record_by_number}
use Rattle.pie_fresh.specs.declared.ledger.Ledger.{Ledger}
use Rattle.pie_fresh.specs.inner.Builds.{IsEmptyWhereRefused, MakesNothing, NothingWhere}
use Rattle.pie_fresh.specs.Cleans.{contents_in}
use Rattle.pie_fresh.specs.inner.Collected.{AreFilesOf, HasDone, CleansDone, PassesChecks, WritesAreStaged}
use Rattle.pie_fresh.specs.inner.Ledgers.{IsLedger}
use Rattle.pie_fresh.proofs.Ordering.{recorded_at}
use Rattle.pie_record.specs.inner.Records.{record_of as kept_of}
use Rattle.pie_builder_laws.specs.Names.{AreTasks}
use Rattle.pie_builder_laws.proofs.Naming.{canonical_at}
use Rattle.pie_fresh.specs.inner.Means.{IsKeptOutput}
use Rattle.pie_fresh.specs.Told.{IsTrueOutput, IsTrueRefusal, IsTrueTask, IsTrueVerdict, TellsTrue}
use Rattle.std.proofs.lemmas.List.Elements.{All-nil, All-weaker}

-- what a record says was written is what the task wrote in the model, which is staged
pub writes_staged : (fs : List FunctionTree) (d : Directory) (roots : List Task) (l : Ledger) → IsLedger l → HasDone fs d roots l → WritesAreStaged l
writes_staged fs d roots l is has n path wrote = ap is_some (has.staged n wrote.rec.task wrote.rec named wrote.kept path ∙ first.1)
  where
    named : slice_get l.names n ≡ Some wrote.rec.task
    named = (recorded_at l n wrote.rec is wrote.kept).named

    paths : map (λ (x : Path × List ℕ). x.0) wrote.rec.writes
        ≡ map (λ (x : Path × List ℕ). x.0) (wrote_in world (project fs d) (enc_task wrote.rec.task))
    paths =
        ap (λ (r : Record). map (λ (x : Path × List ℕ). x.0) r.writes)
        (has.done.between.rests.table.right (enc_task wrote.rec.task) (record_of wrote.rec)
        (record_by_number l.names l.records n wrote.rec.task has.done.tasks named ∙ ap (λ o. option_map record_of o) wrote.kept))
        ∙ hashed_paths world (wrote_in world (project fs d) (enc_task wrote.rec.task))

    first : (b : List ℕ) × (first_write path (wrote_in world (project fs d) (enc_task wrote.rec.task)) ≡ Some b)
    first =
        path_wrote (wrote_in world (project fs d) (enc_task wrote.rec.task)) path
        (subst (λ ps. Contains ps path) paths (into_map (λ (x : Path × List ℕ). x.0) wrote.rec.writes (path, wrote.hash) wrote.wrote))

-- an output is that of a record, which the program has
output_true : (l : Ledger) → AreTasks l.names → ((n : ℕ) → IfSome (kept_of l.records n) (λ rec. IsKeptOutput rec.outcome)) → (o : Task × Value)
    → IsOutput l.names l.records o → IsTrueOutput o
output_true l tasks kept o is = (
  canonical_at l.names tasks is.number o.0 is.named,
  subst IsKeptOutput is.gave (subst (λ x. IfSome x (λ rec. IsKeptOutput rec.outcome)) is.kept (kept is.number)),
)

-- the last checks find tasks that were entered
found_true : (l : Ledger) → AreTasks l.names → (live : List ℕ) (r : Refusal) → Answers l.names l.records live (Some r) → IsTrueRefusal r
found_true l tasks live (refusals.Overlap p t u) h =
    (canonical_at l.names tasks h.holds.0.0 t h.holds.0.1, canonical_at l.names tasks h.holds.1.0 u h.holds.1.1)
found_true l tasks live (refusals.Nested p q) h = tt
found_true l tasks live (refusals.Hidden p t u) h =
    (canonical_at l.names tasks h.2.holds.0.0 t h.2.holds.0.1, canonical_at l.names tasks h.2.holds.1.0 u h.2.holds.1.1)
found_true l tasks live (refusals.Fault f) h = absurd h
found_true l tasks live (refusals.Cycle ts) h = absurd h
found_true l tasks live refusals.Many h = absurd h

-- a refused build tells of its refusal alone
pub refused_true : (b : Built) (r : Refusal) (names : List Task) → b.verdict ≡ Refused r → MakesNothing b → All IsTrueTask names → IsTrueRefusal r
    → TellsTrue names b.verdict b.outputs.items
refused_true b r names verdict nothing entered why = record {
  ran = entered;
  verdict = subst IsTrueVerdict (sym verdict) why;
  outputs = subst (All IsTrueOutput) (sym nothing.outputs) (All-nil IsTrueOutput);
}

-- where all roots are done and the last checks find nothing
pub accepted_clean : {Z : Type 0} (l : Ledger) (roots : List Task) (rows : List TaskRecord) (files : List (List ℕ × Vec ℕ Z)) (outputs : List (Task × Value))
    → IsLedger l → AreRows l.names l.records rows → (WritesAreStaged l → AreFilesOf l files) → AreOutputs l.names l.records roots outputs → PassesChecks l
    → (fs : List FunctionTree) (d : Directory) → HasDone fs d roots l
    → IsCleanBuild fs d roots l.names Accepted rows (contents_in files) outputs × TellsTrue l.names Accepted outputs
accepted_clean l roots rows files outputs is are_rows are_files are_outputs passes fs d has = (
  accepted_is fs d roots l.names l.records passes.live has.done passes.all (content l.stage) rows (contents_in files) outputs passes.passes has.staged
      are_rows (are_files (writes_staged fs d roots l is has)) are_outputs,
  record {
    ran = has.done.tasks.canonical;
    verdict = tt;
    outputs = All-weaker (IsOutput l.names l.records) IsTrueOutput (output_true l has.done.tasks has.outputs) outputs are_outputs.each;
  },
)

-- what the last checks answer of these numbers, they answer of the same ones
pub answers_same : (l : Ledger) (nos live : List TaskNo) (o p : Option Refusal) → nos ≡ live → o ≡ p → Answers l.names l.records (numbers nos) o
    → Answers l.names l.records (numbers live) p
answers_same l nos live o p same is answer =
    subst (λ q. Answers l.names l.records (numbers live) q) is (subst (λ ns. Answers l.names l.records (numbers ns) o) same answer)

-- where the last checks find nothing, the answer of a call that collects is clean
pub clean_then : {E : Type 0} (l : Ledger) (roots : List Task) (r : Result Built E) → PassesChecks l → IfOk r (λ b. PassesChecks l → CleansDone roots l b)
    → IfOk r (CleansDone roots l)
clean_then l roots (Ok b) passes clean = clean passes
clean_then l roots (Err e) passes clean = tt

-- where all roots are done and the last checks refuse
pub refused_clean : (l : Ledger) (roots : List Task) (live : List ℕ) (refusal : Refusal) (b : Built) → b.verdict ≡ Refused refusal → IsEmptyWhereRefused b
    → AreLive l.names live → Answers l.names l.records live (Some refusal) → CleansDone roots l b
refused_clean l roots live refusal b verdict empty alive answer fs d has = (
  subst (λ v. IsCleanBuild fs d roots l.names v b.rows.items (contents_in b.files.items) b.outputs.items) (sym verdict)
      (subst (λ rows. IsCleanBuild fs d roots l.names (Refused refusal) rows (contents_in b.files.items) b.outputs.items) (sym nothing.rows)
      (subst (λ files. IsCleanBuild fs d roots l.names (Refused refusal) [] (contents_in files) b.outputs.items) (sym nothing.files)
      (subst (λ outputs. IsCleanBuild fs d roots l.names (Refused refusal) [] [] outputs) (sym nothing.outputs)
      (checked_is fs d roots l.names l.records live has.done alive refusal answer)))),
  refused_true b refusal l.names verdict nothing has.done.tasks.canonical (found_true l has.done.tasks live refusal answer),
)
  where
    nothing : MakesNothing b
    nothing = subst (λ v. NothingWhere v b) verdict empty
