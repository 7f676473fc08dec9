-- What is told of new offers, handed up from the evaluation of a project to the whole build.
use Rattle.std.proofs.Common.{◌≡◌, ◌∙◌, ℕ, true, List, [], Vec, Global, Option, None, Some, Result, Ok, Err, Bool, refl, sym, ap, map, subst}
use Rattle.std.specs.Prelude.{All, Box, IfOk, IfSome}
use Rattle.std.proofs.lemmas.List.Elements.{All-weaker}
use Rattle.pie_build.proofs.Cleaning.{is_ready}
use Rattle.pie_build.specs.inner.Projects.{IsReady}
use Rattle.pie_checks.specs.declared.built.Built.{Built}
use Rattle.pie_files.specs.Directory.{Directory}
use Rattle.pie_fresh.specs.Cleans.{IsRootOf}
use Rattle.pie_incremental.specs.Own.{IsClosed}
use Rattle.pie_project.specs.inner.Projects.{front_of}
use Rattle.pie_project.specs.Digested.{HasDigests}
use Rattle.pie_project.specs.Fronts.{ProjectSays}
use Rattle.pie_project.specs.declared.fault.BuildError.{BuildError}
use Rattle.pie_project.specs.declared.project.Project.{Project}
use Rattle.pie_report.specs.declared.report.Report.{Report}
use Rattle.pie_results.specs.inner.Files.{contents_in}
use Rattle.pie_value.specs.Limits.{is_small_task}
use Rattle.pie_value.specs.declared.task.Task.{Task}
use Rattle.pie_value.specs.declared.verdict.Verdict.{Verdict}
use Rattle.pie_topdown_build.specs.declared.base.Base.{Base}
use Rattle.pie_topdown_build.specs.declared.base.Start.{Start}
use Rattle.pie_topdown_build.specs.declared.base.Start.TheVariants.{From}
use Rattle.pie_topdown_build.specs.declared.offered.Offered.{Offered}
use Rattle.pie_topdown_build.specs.inner.Bases.{IsReadFrom, StartsAt}
use Rattle.pie_topdown_build.specs.inner.News.{AreNews, IsReadyFrom, TellsNews, Told, as_told, news_in}
use Rattle.pie_topdown_build.specs.inner.Stored.{IsBegunFrom, LeavesRowsIf}

-- ---- the evaluation

-- what is told of what was made, which was then put into place
pub told_of_made : (funcs : List (List ℕ × List ℕ)) (store : Option (Vec ℕ Global)) (b : Built) (r : Report) (ran : List Task)
    (before mid after : Option Directory) (told : List Told) → told ≡ news_in funcs b.rows.items (contents_in b.files.items) ran → r.ran.items ≡ ran
    → r.verdict ≡ b.verdict → mid ≡ before → IfSome mid (λ d. IsBegunFrom store d → LeavesRowsIf b.verdict funcs b.rows.items after)
    → TellsNews (IsBegunFrom store) funcs before after r.verdict r.ran.items told
told_of_made funcs store b r ran before mid after told tells ran_is verdict same leaves = record {
  rows = b.rows.items;
  files = contents_in b.files.items;
  tells = tells ∙ ap (news_in funcs b.rows.items (contents_in b.files.items)) (sym ran_is);
  stored = λ d is begun.
      subst (λ (v : Verdict). LeavesRowsIf v funcs b.rows.items after) (sym verdict)
      (subst (λ o. IfSome o (λ x. IsBegunFrom store x → LeavesRowsIf b.verdict funcs b.rows.items after)) (same ∙ is) leaves begun);
}

-- ---- the build of a project

module _ (p : Project) (store : Option (Vec ℕ Global)) (funcs : List (List ℕ × List ℕ)) (before after : Option Directory) where
  pub told_if_ready : (v : Verdict) (ran : List Task) (told : List Told) → TellsNews (IsBegunFrom store) funcs before after v ran told
      → TellsNews (IsReadyFrom p store) funcs before after v ran told
  told_if_ready v ran told t = record { rows = t.rows; files = t.files; tells = t.tells; stored = λ d is known. t.stored d is known.1 }

  -- roots of a project that is observable are within the limits of values
  pub told_if_large : (tells : Bool) (result : Result Offered BuildError) → ¬ (All (λ t. is_small_task t ≡ true) p.roots.items)
      → IfOk result (λ o. o.new.items ≡ []) → tells ≡ true
      → IfOk result (λ o. TellsNews (IsReadyFrom p store) funcs before after o.report.value.verdict o.report.value.ran.items (map as_told o.new.items))
  told_if_large tells (Err e) large none told = tt
  told_if_large tells (Ok o) large none told = record {
    rows = [];
    files = [];
    tells = ap (map as_told) none;
    stored = λ d is known. absurd (never known.0);
  }
    where
      never : IsReady p.typed p.roots.items → ⊥
      never ready = large (All-weaker (IsRootOf p.typed) (λ t. is_small_task t ≡ true) (λ t root. root.small) p.roots.items ready.roots)

-- the project was read from the directory
pub told_of_project : (p : Project) (store : Option (Vec ℕ Global)) (before mid after : Option Directory) (tells : Bool) (result : Result Offered BuildError)
    → mid ≡ before → IfSome before (λ d. ProjectSays d (Ok (front_of p))) → IfSome before (λ d. HasDigests d p.digests.items)
    → (tells ≡ true → IfOk result (λ o. TellsNews (IsReadyFrom p store) p.digests.items mid after o.report.value.verdict o.report.value.ran.items
    (map as_told o.new.items)))
    → tells ≡ true → IfOk result (λ o. AreNews (IsBegunFrom store) before after o.report.value.verdict o.report.value.ran.items (map as_told o.new.items))
told_of_project p store before mid after tells (Err e) same says has t on = tt
told_of_project p store before mid after tells (Ok o) same says has t on =
    let n = t on in
    record {
      funcs = p.digests.items;
      digests = λ d is. subst (λ x. IfSome x (λ y. HasDigests y p.digests.items)) is has;
      news = record {
        rows = n.rows;
        files = n.files;
        tells = n.tells;
        stored = λ d is known.
            n.stored d (same ∙ is)
            (is_ready (Some d) (Some d) p (subst (λ x. IfSome x (λ y. ProjectSays y (Ok (front_of p)))) is says) refl, known);
      };
    }

-- ---- the whole build

-- what is known of the directory before
known_before : (K L : Directory → Type 0) (before mid after : Option Directory) (v : Verdict) (ran : List Task) (told : List Told) → mid ≡ before
    → ((d : Directory) → before ≡ Some d → L d → K d) → AreNews K mid after v ran told → AreNews L before after v ran told
known_before K L before mid after v ran told same knows n = record {
  funcs = n.funcs;
  digests = λ d is. n.digests d (same ∙ is);
  news = record {
    rows = n.news.rows;
    files = n.news.files;
    tells = n.news.tells;
    stored = λ d is known. n.news.stored d (same ∙ is) (knows d is known);
  };
}

each_known : (K L : Directory → Type 0) (before mid after : Option Directory) (result : Result Offered BuildError) → mid ≡ before
    → ((d : Directory) → before ≡ Some d → L d → K d)
    → IfOk result (λ o. AreNews K mid after o.report.value.verdict o.report.value.ran.items (map as_told o.new.items))
    → IfOk result (λ o. AreNews L before after o.report.value.verdict o.report.value.ran.items (map as_told o.new.items))
each_known K L before mid after (Err e) same knows n = tt
each_known K L before mid after (Ok o) same knows n =
    known_before K L before mid after o.report.value.verdict o.report.value.ran.items (map as_told o.new.items) same knows n

-- with nothing to build from
pub told_anew : (b : Box Base Global) (before after : Option Directory) (result : Result Offered BuildError) → b.value.store ≡ None
    → IfOk result (λ o. AreNews (IsBegunFrom b.value.store) before after o.report.value.verdict o.report.value.ran.items (map as_told o.new.items))
    → IfOk result (λ o. AreNews IsClosed before after o.report.value.verdict o.report.value.ran.items (map as_told o.new.items))
told_anew b before after result none n =
    each_known (IsBegunFrom b.value.store) IsClosed before before after result refl (λ d is closed. subst (λ o. IsBegunFrom o d) (sym none) closed) n

-- after what it begins from was looked at
pub told_afresh : (before mid after : Option Directory) (result : Result Offered BuildError) → mid ≡ before
    → IfOk result (λ o. AreNews IsClosed mid after o.report.value.verdict o.report.value.ran.items (map as_told o.new.items))
    → IfOk result (λ o. AreNews IsClosed before after o.report.value.verdict o.report.value.ran.items (map as_told o.new.items))
told_afresh before mid after result same n = each_known IsClosed IsClosed before mid after result same (λ d is closed. closed) n

-- from a store
pub told_from : (start : Start) (b : Box Base Global) (before mid after : Option Directory) (result : Result Offered BuildError) → start ≡ From b
    → IfSome before (λ d. StartsAt d start) → mid ≡ before
    → IfOk result (λ o. AreNews (IsBegunFrom b.value.store) mid after o.report.value.verdict o.report.value.ran.items (map as_told o.new.items))
    → IfOk result (λ o. AreNews IsClosed before after o.report.value.verdict o.report.value.ran.items (map as_told o.new.items))
told_from start b before mid after result is starts same n =
    each_known (IsBegunFrom b.value.store) IsClosed before mid after result same
    (λ d here closed. by d b.value.store (subst (StartsAt d) is (subst (λ o. IfSome o (λ x. StartsAt x start)) here starts))) n
  where
    by : (d : Directory) (o : Option (Vec ℕ Global)) → IsReadFrom d b.value.image o → IsBegunFrom o d
    by d None has = absurd has
    by d (Some text) has = has.stored
