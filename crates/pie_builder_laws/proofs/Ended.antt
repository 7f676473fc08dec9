-- A build that ends is the clean build of the model.
use Rattle.std.proofs.Common.{◌≡◌, ℕ, ◌≤◌, Option, Some, None, List, [], ◌∷◌, ◌++◌, map, length, refl, sym, ap, subst, ◌∙◌, arith}
use Rattle.std.specs.Prelude.{slice_get, option_map, take, Contains}
use Rattle.std.proofs.lemmas.List.{length-map, map-append, take_all}
use Rattle.std.proofs.lemmas.List.Elements.{All-contains}
use Rattle.pie_base.specs.declared.fault.FaultKind.{FaultKind}
use Rattle.pie_value.specs.declared.task.Task.{Task}
use Rattle.pie_value.specs.declared.value.Value.{Value}
use Rattle.pie_value.specs.declared.verdict.Refusal.{Refusal}
use Rattle.pie_value.specs.declared.verdict.Refusal.TheVariants as refusals
use Rattle.pie_value.specs.declared.verdict.Verdict.TheVariants.{Accepted, Refused}
use Rattle.pie_value.specs.Canonical.{enc_task}
use Rattle.pie_record.specs.declared.records.Records.{Records}
use Rattle.pie_record.specs.declared.task_record.TaskRecord.{TaskRecord}
use Rattle.pie_record.specs.inner.Records.{record_of as kept_of}
use Rattle.pie_parser.specs.FunctionTrees.{FunctionTree}
use Rattle.pie_files.specs.Directory.{Directory}
use Rattle.pie_model.specs.declared.words.Outcome.TheVariants.{Ended, Failed, Cycled}
use Rattle.pie_model.specs.Paths.{Path}
use Rattle.pie_model.specs.Trees.{entered}
use Rattle.pie_model.specs.Evaluation.{evaluation}
use Rattle.pie_model.specs.Records.{record_of as record_of_evaluation}
use Rattle.pie_model.specs.Forest.{entered_tasks}
use Rattle.pie_model.specs.inner.Stack.{Begins}
use Rattle.pie_model.specs.Built.{provided_at}
use Rattle.pie_model.specs.Verdict.{final_checks}
use Rattle.pie_step_laws.specs.Table.{Rests}
use Rattle.pie_step_laws.specs.UnderWay.{HasEnded}
use Rattle.pie_step_laws.specs.Roots.{Between, EvaluatesTo}
use Rattle.pie_step_laws.proofs.RootLemmas.{build_begins, known_root_passes, ended_root_passes, all_done, fails_here, cycles_here, too_many}
use Rattle.pie_step_laws.proofs.RootLemmas.{first_entered, record_live}
use Rattle.pie_check_laws.specs.Verdicts.{HasRecord, AreRecorded, verdict_by}
use Rattle.pie_check_laws.proofs.Kept.{answer_is}
use Rattle.pie_model_pipeline.specs.Words.{fault_of}
use Rattle.pie_model_pipeline.specs.Rows.{record_of, refusal_of}
use Rattle.pie_model_pipeline.specs.World.{world, project}
use Rattle.pie_model_pipeline.specs.Clean.{IsCleanBuild, with_output}
use Rattle.pie_builder_laws.specs.Names.{AreTasks}
use Rattle.pie_builder_laws.specs.Tables.{recorded}
use Rattle.pie_builder_laws.specs.Views.{Staged, IsStaged}
use Rattle.pie_builder_laws.specs.Builds.{AreDone, AreLive, Answers, AreRows, AreFiles, AreOutputs, IsOutput}
use Rattle.pie_builder_laws.proofs.Naming.{named_back, placed, among_at}
use Rattle.pie_builder_laws.proofs.Tabled.{no_records, record_by_number}
use Rattle.pie_builder_laws.proofs.Leaving.{rows_are, outputs_by}
use Rattle.pie_builder_laws.proofs.Filed.{file_given, given_file}

some_one : {X : Type 0} (x y : X) → Some x ≡ Some y → x ≡ y
some_one x y h = cc

-- so many tasks are all
all_taken : (xs : List (List ℕ)) → length xs ≤ world.most_tasks → take 50000 xs ≡ xs
unfolding world
all_taken xs l = take_all 50000 xs l

most_is : (n : ℕ) → n ≡ 50000 → n ≡ world.most_tasks
unfolding world
most_is n h = h

most_taken : (xs ys : List (List ℕ)) → take world.most_tasks xs ≡ ys → take 50000 xs ≡ ys
unfolding world
most_taken xs ys h = h

-- ---- from root to root

pub none_done : (fs : List FunctionTree) (d : Directory) (records : Records) → ((n : ℕ) → kept_of records n ≡ None) → AreDone fs d [] [] records
none_done fs d records none = record {
  tasks = record { distinct = λ i j x l m. absurd (omega (arith, m)); canonical = λ k x l. absurd (omega (arith, l)) };
  between = build_begins world (project fs d) (recorded [] records) (λ x. no_records [] records x none);
}

-- one root more
one_done : (done : List Task) (root : Task) → map enc_task (done ++ root ∷ []) ≡ map enc_task done ++ enc_task root ∷ []
one_done done root = map-append enc_task done (root ∷ [])

pub known_done : (fs : List FunctionTree) (d : Directory) (done names : List Task) (records : Records) (root : Task) → AreDone fs d done names records
    → Contains names root → AreDone fs d (done ++ root ∷ []) names records
known_done fs d done names records root D i = record {
  tasks = D.tasks;
  between = subst (λ ts. Between world (project fs d) ts (recorded names records) (map enc_task names)) (sym (one_done done root))
      (known_root_passes world (project fs d) (map enc_task done) (recorded names records) (map enc_task names) (enc_task root) D.between
      (named_back names root i));
}

pub ended_done : (fs : List FunctionTree) (d : Directory) (done base names : List Task) (before after : Records) (root : Task) (v : List ℕ)
    → AreDone fs d done base before → AreTasks names → Rests world (project fs d) (recorded names after) (map enc_task names)
    → HasEnded world (project fs d) (enc_task root) (map enc_task base) (map enc_task names) (Ended v) → AreDone fs d (done ++ root ∷ []) names after
ended_done fs d done base names before after root v D a Q E = record {
  tasks = a;
  between = subst (λ ts. Between world (project fs d) ts (recorded names after) (map enc_task names)) (sym (one_done done root))
      (ended_root_passes world (project fs d) (map enc_task done) (recorded base before) (recorded names after) (map enc_task base) (map enc_task names)
      (enc_task root) v D.between Q E);
}

-- ---- a build that is refused

refused_is : (fs : List FunctionTree) (d : Directory) (roots names : List Task) (refusal : Refusal)
    → EvaluatesTo world (project fs d) (map enc_task roots) (map enc_task names) (refusal_of refusal) → length (map enc_task names) ≤ world.most_tasks
    → IsCleanBuild fs d roots names (Refused refusal) [] [] []
refused_is fs d roots names refusal c few = record {
  verdict = sym c.is;
  built = (refl, refl, refl);
  started = sym (ap (take 50000) c.enters ∙ all_taken (map enc_task names) few);
}

roots_are : (roots done rest : List Task) (root : Task) → roots ≡ done ++ root ∷ rest
    → map enc_task roots ≡ map enc_task done ++ enc_task root ∷ map enc_task rest
roots_are roots done rest root e = ap (map enc_task) e ∙ map-append enc_task done (root ∷ rest)

pub failed_is : (fs : List FunctionTree) (d : Directory) (roots done rest names base : List Task) (before : Records) (root t : Task) (k : FaultKind)
    → AreDone fs d done base before → roots ≡ done ++ root ∷ rest
    → HasEnded world (project fs d) (enc_task root) (map enc_task base) (map enc_task names) (Failed (enc_task t) (fault_of k))
    → IsCleanBuild fs d roots names (Refused (refusals.Fault (record { task = t; kind = k }))) [] [] []
failed_is fs d roots done rest names base before root t k D e E =
    refused_is fs d roots names (refusals.Fault (record { task = t; kind = k }))
    (fails_here world (project fs d) (map enc_task roots) (map enc_task done) (map enc_task rest) (recorded base before) (map enc_task base) (enc_task root)
    D.between (roots_are roots done rest root e) (map enc_task names) (enc_task t) (fault_of k) E) E.few

pub cycle_is : (fs : List FunctionTree) (d : Directory) (roots done rest names base : List Task) (before : Records) (root : Task) (ts : List Task)
    → AreDone fs d done base before → roots ≡ done ++ root ∷ rest
    → HasEnded world (project fs d) (enc_task root) (map enc_task base) (map enc_task names) (Cycled (map enc_task ts))
    → IsCleanBuild fs d roots names (Refused (refusals.Cycle ts)) [] [] []
cycle_is fs d roots done rest names base before root ts D e E =
    refused_is fs d roots names (refusals.Cycle ts)
    (cycles_here world (project fs d) (map enc_task roots) (map enc_task done) (map enc_task rest) (recorded base before) (map enc_task base) (enc_task root)
    D.between (roots_are roots done rest root e) (map enc_task names) (map enc_task ts) E) E.few

pub full_is : (fs : List FunctionTree) (d : Directory) (roots done rest names base : List Task) (before : Records) (root : Task) (one : List ℕ)
    → AreDone fs d done base before → roots ≡ done ++ root ∷ rest → length names ≡ 50000
    → Begins (map enc_task names ++ one ∷ []) (entered (evaluation world (project fs d) (enc_task root)) (map enc_task base))
    → IsCleanBuild fs d roots names (Refused refusals.Many) [] [] []
full_is fs d roots done rest names base before root one D e full more = record {
  verdict = sym (too_many world (project fs d) (map enc_task roots) (map enc_task done) (map enc_task rest) (recorded base before) (map enc_task base)
      (enc_task root) D.between (roots_are roots done rest root e) (map enc_task names) one as_many more);
  built = (refl, refl, refl);
  started = sym (most_taken _ _ (first_entered world (project fs d) (map enc_task roots) (map enc_task done) (map enc_task rest) (recorded base before)
      (map enc_task base) (enc_task root) D.between (roots_are roots done rest root e) (map enc_task names) one as_many more));
}
  where
    as_many : length (map enc_task names) ≡ world.most_tasks
    as_many = length-map names enc_task ∙ most_is (length names) full

-- ---- a build whose roots are done

module _ (fs : List FunctionTree) (d : Directory) (roots names : List Task) (records : Records) (live : List ℕ) (D : AreDone fs d roots names records)
    (alive : AreLive names live) where
  -- a task has the record of its evaluation
  live_record : (n : ℕ) (t : Task) → slice_get names n ≡ Some t → HasRecord world (project fs d) t (kept_of records n)
  live_record n t e = by (kept_of records n) refl
    where
      recorded_as : recorded names records (enc_task t) ≡ Some (record_of_evaluation world (evaluation world (project fs d) (enc_task t)))
      recorded_as = record_live world (project fs d) (recorded names records) (map enc_task names) D.between.rests (enc_task t) (among_at names n t e)

      kept_as : (o : Option TaskRecord) → kept_of records n ≡ o
          → option_map record_of o ≡ Some (record_of_evaluation world (evaluation world (project fs d) (enc_task t)))
      kept_as o k = ap (λ z. option_map record_of z) (sym k) ∙ sym (record_by_number names records n t D.tasks e) ∙ recorded_as

      by : (o : Option TaskRecord) → kept_of records n ≡ o → HasRecord world (project fs d) t o
      by None k = absurd (none (kept_as None k))
        where
          none : {X : Type 0} {x : X} → None ≡ Some x → ⊥
          none h = cc
      by (Some rec) k = (
        rec,
        refl,
        some_one (record_of rec) (record_of_evaluation world (evaluation world (project fs d) (enc_task t))) (kept_as (Some rec) k),
        D.between.rests.table.done (enc_task t) (record_of_evaluation world (evaluation world (project fs d) (enc_task t))) recorded_as,
      )

  are_recorded : AreRecorded world (project fs d) names records
  are_recorded = record { each = live_record; canonical = D.tasks.canonical }

  comes : EvaluatesTo world (project fs d) (map enc_task roots) (map enc_task names) (final_checks (map (evaluation world (project fs d)) (map enc_task names)))
  comes =
      let c = all_done world (project fs d) (map enc_task roots) (recorded names records) (map enc_task names) D.between in
      record { enters = c.enters; is = c.is ∙ ap (λ ts. final_checks (map (evaluation world (project fs d)) ts)) c.enters }

  judged : (answer : Option Refusal) → Answers names records live answer
      → EvaluatesTo world (project fs d) (map enc_task roots) (map enc_task names) (verdict_by answer)
  judged answer h = record {
    enters = comes.enters;
    is = comes.is ∙ sym (answer_is world (project fs d) names records live are_recorded alive answer h);
  }

  pub checked_is : (refusal : Refusal) → Answers names records live (Some refusal) → IsCleanBuild fs d roots names (Refused refusal) [] [] []
  checked_is refusal h = refused_is fs d roots names refusal (judged (Some refusal) h) D.between.rests.table.few

  module _ (staged : Staged) (rows : List TaskRecord) (files : List (Path × List ℕ)) (outputs : List (Task × Value)) (h : Answers names records live None)
      (s : IsStaged world (project fs d) names records staged) (R : AreRows names records rows) (F : AreFiles records staged files)
      (O : AreOutputs names records roots outputs) where
    same_provided : (p : Path) → provided_at (map (evaluation world (project fs d)) (entered_tasks world (project fs d) (map enc_task roots))) p
        ≡ provided_at (map (evaluation world (project fs d)) (map enc_task names)) p
    same_provided p = ap (λ ts. provided_at (map (evaluation world (project fs d)) ts) p) comes.enters

    pub accepted_is : IsCleanBuild fs d roots names Accepted rows files outputs
    accepted_is = record {
      verdict = sym (judged None h).is;
      built = (
        rows_are world (project fs d) (map enc_task roots) names records D.tasks D.between rows R,
        λ p b. (
          λ i. same_provided p
              ∙ file_given world (project fs d) names records D.tasks D.between.rests staged s live alive h.0 R.named files F p b i,
          λ i. given_file world (project fs d) names records D.tasks D.between.rests staged s live alive h.0 R.named files F p b (sym (same_provided p) ∙ i),
        ),
        outputs_by world (project fs d) names records D.tasks D.between.rests.table outputs
            (λ n o e. All-contains (IsOutput names records) outputs o O.each (placed outputs n o e))
            ∙ ap (λ ts. map (with_output fs d) (map enc_task ts)) O.tasks,
      );
      started = sym (ap (take 50000) comes.enters ∙ all_taken (map enc_task names) D.between.rests.table.few);
    }
