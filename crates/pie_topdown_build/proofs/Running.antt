-- The evaluation of a build without a list, and its end, as the model of building knows them.
use Rattle.std.proofs.Common.{◌≡◌, ℕ, true, List, [], Option, None, Some, Result, Ok, Err, Vec, Global, refl, sym, ap, subst, ◌∙◌}
use Rattle.std.specs.Prelude.{All, Contains, IfOk, IfSome}
use Rattle.std.proofs.lemmas.List.Elements.{All-weaker}
use Rattle.pie_build.specs.inner.Projects.{IsReady}
use Rattle.pie_builder_laws.specs.Events.{AreCompiled}
use Rattle.pie_checks.specs.declared.built.Built.{Built}
use Rattle.pie_check_laws.proofs.Members.{none_in}
use Rattle.pie_code.specs.declared.code.Code.{Code}
use Rattle.pie_core_laws.specs.Update.{Update}
use Rattle.pie_files.specs.Directory.{Directory}
use Rattle.pie_files.specs.declared.files.FilesError.{FilesError}
use Rattle.pie_fresh.specs.Cleans.{IsRootOf}
use Rattle.pie_model_pipeline.specs.Rows.{verdict_of}
use Rattle.pie_project.specs.declared.fault.BuildError.{BuildError}
use Rattle.pie_project.specs.declared.project.Project.{Project}
use Rattle.pie_record.specs.Canonical.{IsTrueRecord}
use Rattle.pie_record.specs.declared.task_record.TaskRecord.{TaskRecord}
use Rattle.pie_report.specs.declared.report.Report.{Report}
use Rattle.pie_store.specs.declared.image.StoreImage.{StoreImage}
use Rattle.pie_store.specs.inner.Offers.{Offered as OfferedRecord}
use Rattle.pie_topdown.specs.inner.Rooted.{IsProgram}
use Rattle.pie_topdown_result_laws.specs.Builds.{AreHonest, IsFromStore, IsNowHere, MakesClean}
use Rattle.pie_topdown_result_laws.specs.Results.{IsResultOf}
use Rattle.pie_value.specs.Limits.{is_small_task}
use Rattle.pie_value.specs.declared.task.Task.{Task}
use Rattle.pie_value.specs.declared.verdict.Verdict.{Verdict}
use Rattle.pie_value.specs.declared.verdict.Verdict.TheVariants.{Accepted}
use Rattle.pie_incremental.specs.inner.Clean.{BuildsCleanOf, LeavesAsClean}
use Rattle.pie_incremental.specs.inner.Cleaned.{LeavesCleanOf}
use Rattle.pie_incremental.specs.inner.Digested.{digested}
use Rattle.pie_incremental.specs.inner.Joined.{IsImage}
use Rattle.pie_topdown_build.specs.declared.base.Base.{Base}
use Rattle.pie_topdown_build.specs.declared.evaluating.Evaluated.{Evaluated}
use Rattle.pie_topdown_build.specs.declared.offered.Offered.{Offered}
use Rattle.pie_topdown_build.specs.inner.Anew.{BuildsAnewOf, LeavesAnewAs}
use Rattle.pie_topdown_build.specs.inner.Bases.{HasBase, IsReadFrom}
use Rattle.pie_topdown_build.specs.inner.Clean.{MakesFrom, RunsAsClean, RunsIfTold}
use Rattle.pie_topdown_build.specs.inner.Cleaned.{IsExactBuild, LeavesBy, LeavesWhere}
use Rattle.pie_topdown_build.specs.inner.Filed.{FilesFrom, ProvidesAll}
use Rattle.pie_topdown_build.proofs.Filing.{all_provided}

-- the offers for each task
abbrev pub Told : Type 0
Told = Directory → Task → List ℕ → List OfferedRecord

-- ---- the evaluation

-- over files that are as before
here_still : (u : Update) (before mid : Option Directory) (p : Project) → mid ≡ before → IsNowHere u before p.typed p.roots.items
    → IsNowHere u mid p.typed p.roots.items
here_still u before mid p same here = subst (λ m. IsNowHere u m p.typed p.roots.items) (sym same) here

makes_from : (before mid : Option Directory) (p : Project) (codes : List Code) (s t : StoreImage) (told : Told) (b : Built) → mid ≡ before
    → AreCompiled p.typed codes → IsImage s → t.rows ≡ s.rows → IfSome before (λ d. t ≡ digested d p.digests.items s)
    → (IsProgram p.typed codes t.rows → MakesClean mid p.typed t.funcs p.digests.items t.rows told p.roots.items b) → MakesFrom before p s told b
makes_from before mid p codes s t told b same compiled image rows put makes = record {
  each = λ u here stored honest.
      (makes (record { compiled = compiled; parts = subst (All IsTrueRecord) (sym rows) image.parts })).each u (here_still u before mid p same here)
      (from_store u here stored) honest;
}
  where
    from_store : (u : Update) → IsNowHere u before p.typed p.roots.items
        → IsFromStore u (digested u.directory p.digests.items s).funcs p.digests.items s.rows → IsFromStore u t.funcs p.digests.items t.rows
    from_store u here stored =
        let is : t ≡ digested u.directory p.digests.items s = subst (λ o. IfSome o (λ d. t ≡ digested d p.digests.items s)) here.holds put in
        subst (λ (x : List TaskRecord). IsFromStore u t.funcs p.digests.items x) (sym rows)
        (subst (λ (x : StoreImage). IsFromStore u x.funcs p.digests.items s.rows) (sym is) stored)

pub evaluates : (before mid : Option Directory) (p : Project) (codes : List Code) (s t : StoreImage) (told : Told) (result : Result Evaluated FilesError)
    → mid ≡ before → AreCompiled p.typed codes → IsImage s → t.rows ≡ s.rows → IfSome before (λ d. t ≡ digested d p.digests.items s)
    → (IsProgram p.typed codes t.rows
    → IfOk result (λ e. MakesClean mid p.typed t.funcs p.digests.items t.rows told p.roots.items e.built.value))
    → IfOk result (λ e. MakesFrom before p s told e.built.value)
evaluates before mid p codes s t told (Ok e) same compiled image rows put makes =
    makes_from before mid p codes s t told e.built.value same compiled image rows put makes
evaluates before mid p codes s t told (Err x) same compiled image rows put makes = tt

-- ---- its end

module _ (b : Base) (p : Project) (told : Told) (before mid after : Option Directory) (first ended reused : List Task) (made : Built) (r : Report)
    (same : mid ≡ before) (makes : MakesFrom before p b.image told made) (filed : FilesFrom before p b.image told first ended reused made)
    (leaves : IfSome mid (λ d. LeavesBy made.verdict b.store p.digests.items p.roots.items made d r after)) (is : r.verdict ≡ made.verdict) (u : Update)
    (here : IsNowHere u before p.typed p.roots.items)
    (stored : IsFromStore u (digested u.directory p.digests.items b.image).funcs p.digests.items b.image.rows) (honest : AreHonest u p.digests.items told)
  where
    result : IsResultOf u made
    result = makes.each u here stored honest

    abbrev left_by : Option (Vec ℕ Global) → Type 0
    left_by store = LeavesWhere store p.digests.items p.roots.items made.rows.items made.files.items made.outputs.items u.directory r after

    left : made.verdict ≡ Accepted → left_by b.store
    left accepted =
        subst (λ (v : Verdict). LeavesBy v b.store p.digests.items p.roots.items made u.directory r after) accepted
        (subst (λ m. IfSome m (λ d. LeavesBy made.verdict b.store p.digests.items p.roots.items made d r after)) (same ∙ here.holds) leaves)

    exact : made.verdict ≡ Accepted → IsExactBuild u made.rows.items made.files.items u.directory
    exact accepted = record { directory = refl; separates = here.separates; met = here.met; made = result.made accepted }

    over : made.verdict ≡ Accepted → (o : Option (Vec ℕ Global)) → IsReadFrom u.directory b.image o → left_by o
        → LeavesCleanOf u p.digests.items p.roots.items made.rows.items made.outputs.items u.directory r after
    over accepted None has l = absurd has
    over accepted (Some text) has l = l u (exact accepted) has.stored

    -- from a store
    builds_clean : HasBase u.directory b → BuildsCleanOf u p.digests.items p.roots.items r after
    builds_clean base = record { verdict = ap verdict_of is ∙ result.verdict; left = λ accepted. leaves_clean (sym is ∙ accepted) }
      where
        leaves_clean : made.verdict ≡ Accepted → LeavesAsClean u p.digests.items p.roots.items r after
        leaves_clean accepted = record {
          rows = made.rows.items;
          outputs = made.outputs.items;
          rows_are = (result.made accepted).rows;
          outputs_are = result.outputs accepted;
          left = over accepted b.store base (left accepted);
        }

    -- where there were no records, each path that is provided has its file
    all : b.image.rows ≡ [] → made.verdict ≡ Accepted → ProvidesAll u made.files.items
    all empty accepted =
        all_provided u made.rows.items made.files.items (result.made accepted)
        (λ row i. (filed.each u here stored honest accepted).others row i (λ k. none_in row (subst (λ rs. Contains rs row) empty k)))

    -- from none
    builds_anew : b.store ≡ None → b.image.rows ≡ [] → BuildsAnewOf u p.digests.items p.roots.items r after
    builds_anew none empty = record { verdict = ap verdict_of is ∙ result.verdict; left = λ accepted. leaves_anew (sym is ∙ accepted) }
      where
        leaves_anew : made.verdict ≡ Accepted → LeavesAnewAs u p.digests.items p.roots.items r after
        leaves_anew accepted =
            let l : left_by None = subst left_by none (left accepted) in
            record {
              rows = made.rows.items;
              outputs = made.outputs.items;
              rows_are = (result.made accepted).rows;
              outputs_are = result.outputs accepted;
              left = l u (exact accepted) (all empty accepted);
            }

pub runs_clean : (b : Base) (p : Project) (told : Told) (before mid after : Option Directory) (first ended reused : List Task) (made : Built) (r : Report)
    → mid ≡ before → MakesFrom before p b.image told made → FilesFrom before p b.image told first ended reused made
    → IfSome mid (λ d. LeavesBy made.verdict b.store p.digests.items p.roots.items made d r after)
    → r.verdict ≡ made.verdict → r.fresh ≡ None → RunsAsClean b p told before after r
runs_clean b p told before mid after first ended reused made r same makes filed leaves is none = record {
  none = none;
  each = λ u from honest.
      builds_clean b p told before mid after first ended reused made r same makes filed leaves is u from.here from.stored honest from.base;
  anew = λ u from honest.
      builds_anew b p told before mid after first ended reused made r same makes filed leaves is u from.here from.stored honest from.none from.rows;
}

-- ---- the build of a project

pub runs_ok : (b : Base) (p : Project) (told : Told) (before after : Option Directory) (o : Offered)
    → RunsAsClean b p told before after o.report.value → RunsIfTold b p told before after o.report.value
runs_ok b p told before after o runs = record { of = λ d is ready. runs }

-- roots of a project that is observable are within the limits of values
pub large_ok : (b : Base) (p : Project) (told : Told) (before after : Option Directory) (result : Result Offered BuildError)
    → ¬ (All (λ t. is_small_task t ≡ true) p.roots.items) → IfOk result (λ o. RunsIfTold b p told before after o.report.value)
large_ok b p told before after (Err e) large = tt
large_ok b p told before after (Ok o) large = record { of = λ d is ready. absurd (never ready) }
  where
    never : IsReady p.typed p.roots.items → ⊥
    never ready = large (All-weaker (IsRootOf p.typed) (λ t. is_small_task t ≡ true) (λ t root. root.small) p.roots.items ready.roots)
