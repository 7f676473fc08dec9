-- A directory changes only where the model accepts its project.
use Rattle.std.proofs.Common.{◌≡◌, List, Option, Some, None, Result, Ok, Err, sym, ap, subst, ◌∙◌, inl, inr, ⊎_elim}
use Rattle.std.specs.Prelude.{IfSome, IfOk}
use Rattle.pie_checks.specs.declared.built.Built.{Built}
use Rattle.pie_digest.specs.Digests.{HasNames}
use Rattle.pie_files.specs.Directory.{Directory}
use Rattle.pie_report.specs.declared.report.Report.{Report}
use Rattle.pie_project.specs.declared.project.Project.{Project}
use Rattle.pie_project.specs.Digested.{HasDigests}
use Rattle.pie_project.specs.Fronts.{ProjectSays}
use Rattle.pie_project.specs.inner.Projects.{front_of}
use Rattle.pie_value.specs.declared.task.Task.{Task}
use Rattle.pie_value.specs.declared.verdict.Verdict.TheVariants.{Accepted}
use Rattle.pie_model_pipeline.specs.Rows.{verdict_of}
use Rattle.pie_build.specs.Left.{ChangesIfAccepted}
use Rattle.pie_build.specs.inner.Projects.{ChangesFor, IsCleanBy, LeavesFor, Rebuilds}
use Rattle.pie_build.proofs.OwnPaths.{same_keeps}

-- nothing changed
pub unchanged : (p : Project) (before after : Option Directory) → after ≡ before → IfSome before (λ d. ChangesFor p d after)
unchanged p None after same = tt
unchanged p (Some d) after same = inl same

-- the build of the project was accepted
pub accepted : (p : Project) (before after : Option Directory) (b : Built) (ran : List Task) → b.verdict ≡ Accepted
    → IfSome before (λ d. IsCleanBy p.typed d p.roots.items ran b) → IfSome before (λ d. ChangesFor p d after)
accepted p None after b ran is clean = tt
accepted p (Some d) after b ran is clean = inr (ap verdict_of (sym is) ∙ clean.0.verdict)

-- where there is no report, none tells of anything
pub no_report : {E : Type 0} (p : Project) (before after : Option Directory) (e : E)
    → IfSome before (λ d. IfOk (Err e) (λ (r : Report). LeavesFor p d r after))
no_report p None after e = tt
no_report p (Some d) after e = tt

-- nothing was built
pub failed_rebuilds : {E : Type 0} (p : Project) (before after : Option Directory) (result : Result Report E) (e : E) → Err e ≡ result → after ≡ before
    → Rebuilds p before after result
failed_rebuilds p before after result e is same = subst (λ r. Rebuilds p before after r) is
    (record { left = no_report p before after e; changed = unchanged p before after same; rest = same_keeps before after same })

-- calls before that changed nothing
pub rebuilds_then : {E : Type 0} (p : Project) (before mid after : Option Directory) (result : Result Report E) → mid ≡ before
    → Rebuilds p mid after result → Rebuilds p before after result
rebuilds_then p before mid after result same h = subst (λ m. Rebuilds p m after result) same h

-- the project of a directory was refused or couldn't be read
pub untouched : (before after : Option Directory) → after ≡ before → IfSome before (λ d. ChangesIfAccepted d after)
untouched None after same = tt
untouched (Some d) after same = inl same

-- the project is that of the directory
pub project_changes : (before mid after : Option Directory) (p : Project) → IfSome before (λ d. ProjectSays d (Ok (front_of p)))
    → IfSome before (λ d. HasDigests d p.digests.items) → HasNames p.typed p.digests.items → mid ≡ before
    → IfSome mid (λ d. ChangesFor p d after) → IfSome before (λ d. ChangesIfAccepted d after)
project_changes None mid after p says digests names same h = tt
project_changes (Some d) mid after p says digests names same h =
    ⊎_elim (λ is. inl is)
    (λ ok. inr (p.digests.items, p.roots.items, record { functions = p.typed; says = says; names = names; digests = digests }, ok))
    (subst (λ m. IfSome m (λ d. ChangesFor p d after)) same h)
