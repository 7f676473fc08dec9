-- Which calls a clean build makes: its own, and those of its tasks.
use Rattle.std.proofs.Common.{◌≡◌, inl, inr, ℕ, true, List, [], ◌++◌, length, drop, map, take, Option, None, Some, Ok, Err, Result}
use Rattle.std.proofs.Common.{refl, sym, ap, subst, ◌∙◌, append-nil}
use Rattle.std.specs.Prelude.{All, Contains, IfSome, IfOk}
use Rattle.std.proofs.lemmas.List.{take-append-drop}
use Rattle.std.proofs.Math.Seq.{drop-append_seam}
use Rattle.pie_builder_laws.proofs.Naming.{named_back}
use Rattle.pie_builder_laws.specs.Events.{AreCompiled}
use Rattle.pie_code.specs.declared.code.Code.{Code}
use Rattle.pie_codegen.specs.Pipelines.{AreCodesOf, AllMean}
use Rattle.pie_files.specs.Directory.{Directory}
use Rattle.pie_files.specs.declared.files.Call.{Call}
use Rattle.pie_files.specs.declared.files.Call.TheVariants.{Read, Names, AllUnder, Write, Remove, Sync}
use Rattle.pie_fresh.specs.inner.Asked.{AsksAs, AsksForSeen, IsObservedBy}
use Rattle.pie_fresh.specs.Cleans.{IsRootOf}
use Rattle.pie_model.specs.Forest.{entered_tasks}
use Rattle.pie_model.specs.Paths.{among}
use Rattle.pie_model.proofs.Basics.{among_left}
use Rattle.pie_model_pipeline.specs.World.{world, project}
use Rattle.pie_named.specs.Asking.{LooksAt, MakesOnly}
use Rattle.pie_named.proofs.Calls.{calls_as, calls_then, no_calls}
use Rattle.pie_parser.specs.FunctionTrees.{FunctionTree}
use Rattle.pie_project.specs.Fronts.{ProjectSays}
use Rattle.pie_project.specs.Refusals.{IsVerdict, Says}
use Rattle.pie_project.specs.declared.fault.BuildError.{BuildError}
use Rattle.pie_project.specs.declared.fault.BuildError.TheVariants as errors
use Rattle.pie_project.specs.declared.project.Project.{Project}
use Rattle.pie_project.specs.inner.Projects.{front_of}
use Rattle.pie_report.specs.declared.report.Report.{Report}
use Rattle.pie_value.specs.Canonical.{enc_task}
use Rattle.pie_value.specs.declared.task.Task.{Task}
use Rattle.pie_value.specs.declared.verdict.Verdict.{Verdict}
use Rattle.pie_value.specs.declared.verdict.Verdict.TheVariants.{Accepted, Refused}
use Rattle.pie_build.specs.Asked.{AsksEntered, IsCleanCall, IsObservedByEntered}
use Rattle.pie_build.specs.Left.{LeavesBy}
use Rattle.pie_build.specs.inner.Asked.{AsksBuilt, AsksClean, IsObservedIn, IsOwnCall, MakesOwn}
use Rattle.pie_build.specs.inner.Projects.{IsReady, LeavesFor}
use Rattle.pie_build.specs.inner.Rebuilt.{IsReport}

-- ---- calls

looks_clean : (P : List ℕ → Type 0) (c : Call) → LooksAt P c → IsCleanCall P c
looks_clean P (Read p) h = inr h
looks_clean P (Names p) h = h
looks_clean P (AllUnder p) h = absurd h
looks_clean P (Write p mark) h = absurd h
looks_clean P (Remove p) h = absurd h
looks_clean P Sync h = absurd h

clean_more : (P Q : List ℕ → Type 0) → ((p : List ℕ) → P p → Q p) → (c : Call) → IsCleanCall P c → IsCleanCall Q c
clean_more P Q more (Read p) h = elim h [
  | inl own ↦ inl own
  | inr seen ↦ inr (more p seen)
]
clean_more P Q more (Names p) h = more p h
clean_more P Q more (AllUnder p) h = h
clean_more P Q more (Write p mark) h = h
clean_more P Q more (Remove p) h = h
clean_more P Q more Sync h = h

own_clean : (P : List ℕ → Type 0) (before after : Option (List Call)) → MakesOwn before after → MakesOnly (IsCleanCall P) before after
own_clean P before after made = calls_as IsOwnCall (IsCleanCall P) before after (clean_more (λ p. ⊥) P (λ p none. absurd none)) made

-- ---- the evaluation

pub seen_none : (held : Option Directory) (fs : List FunctionTree) (runs : List Task) (asked : Option (List Call))
    → IfSome held (λ d. AsksForSeen fs d runs runs asked asked)
seen_none None fs runs asked = tt
seen_none (Some d) fs runs asked = record { started = []; gained = sym (append-nil runs); asks = no_calls (LooksAt (IsObservedBy fs d [])) asked asked refl }

-- of a project that is ready and compiled
pub seen_now : (held : Option Directory) (fs : List FunctionTree) (codes code : List Code) (roots these old new : List Task) (asked asked_now : Option (List Call))
    → code ≡ codes → these ≡ roots → IfSome held (λ d. IsReady fs roots) → AreCodesOf fs codes → AllMean fs codes
    → AsksAs held fs code these old new asked asked_now → IfSome held (λ d. AsksForSeen fs d old new asked asked_now)
seen_now None fs codes code roots these old new asked asked_now same are ready compiled means asks = tt
seen_now (Some d) fs codes code roots these old new asked asked_now same are ready compiled means asks =
    asks d refl ready.typed (subst (AreCompiled fs) (sym same) (record { compiled = compiled; means = means }))
    (subst (λ ts. All (IsRootOf fs) ts) (sym are) ready.roots)

-- ---- a build of a project

-- an evaluation, and then calls of the build's own
pub built_asks : (held : Option Directory) (fs : List FunctionTree) (old new : List Task) (asked mid asked_now : Option (List Call))
    → IfSome held (λ d. AsksForSeen fs d old new asked mid) → MakesOwn mid asked_now → IfSome held (λ d. AsksBuilt fs d old new asked asked_now)
built_asks None fs old new asked mid asked_now seen own = tt
built_asks (Some d) fs old new asked mid asked_now seen own =
    let P : List ℕ → Type 0 = IsObservedBy fs d seen.started in
    record {
      started = seen.started;
      gained = seen.gained;
      asks = calls_then (IsCleanCall P) asked mid asked_now (calls_as (LooksAt P) (IsCleanCall P) asked mid (looks_clean P) seen.asks)
          (own_clean P mid asked_now own);
    }

-- no other call
pub built_asks_seen : (held : Option Directory) (fs : List FunctionTree) (old new : List Task) (asked asked_now : Option (List Call))
    → IfSome held (λ d. AsksForSeen fs d old new asked asked_now) → IfSome held (λ d. AsksBuilt fs d old new asked asked_now)
built_asks_seen held fs old new asked asked_now seen = built_asks held fs old new asked asked_now asked_now seen (no_calls IsOwnCall asked_now asked_now refl)

-- ---- a build of a directory

-- no project was there
pub refused_asks : (held : Option Directory) (runs : List Task) (asked asked_now : Option (List Call)) → MakesOwn asked asked_now
    → IfSome held (λ d. AsksClean d runs runs asked asked_now)
refused_asks None runs asked asked_now own = tt
refused_asks (Some d) runs asked asked_now own = record {
  started = [];
  gained = sym (append-nil runs);
  asks = own_clean (IsObservedIn d []) asked asked_now own;
}

-- this one was
pub project_asks : (held mid_held : Option Directory) (p : Project) (old new : List Task) (asked mid asked_now : Option (List Call))
    → IfSome held (λ d. ProjectSays d (Ok (front_of p))) → mid_held ≡ held → MakesOwn asked mid
    → IfSome mid_held (λ d. AsksBuilt p.typed d old new mid asked_now) → IfSome held (λ d. AsksClean d old new asked asked_now)
project_asks None mid_held p old new asked mid asked_now says same own built = tt
project_asks (Some d) mid_held p old new asked mid asked_now says same own built =
    let b : AsksBuilt p.typed d old new mid asked_now = subst (λ m. IfSome m (λ d. AsksBuilt p.typed d old new mid asked_now)) same built in
    let P : List ℕ → Type 0 = IsObservedIn d b.started in
    record {
      started = b.started;
      gained = b.gained;
      asks = calls_then (IsCleanCall P) asked mid asked_now (own_clean P asked mid own)
          (calls_as (IsCleanCall (IsObservedBy p.typed d b.started)) (IsCleanCall P) mid asked_now
          (clean_more (IsObservedBy p.typed d b.started) P
          (λ q seen. record { functions = p.typed; roots = p.roots.items; says = says; seen = seen })) b.asks);
    }

-- ---- by the model

-- the tasks that were started are entered in the model
started_entered : (fs : List FunctionTree) (funcs : List (List ℕ × List ℕ)) (roots : List Task) (d : Directory) (r : Report) (after : Option Directory) (v : Verdict)
    → LeavesBy fs funcs roots v d r after → map enc_task r.ran.items ≡ take 50000 (entered_tasks world (project fs d) (map enc_task roots))
started_entered fs funcs roots d r after Accepted left = left.clean.started
started_entered fs funcs roots d r after (Refused x) left = left.clean.started

one_entered : (fs : List FunctionTree) (d : Directory) (roots ran : List Task) (t : Task)
    → map enc_task ran ≡ take 50000 (entered_tasks world (project fs d) (map enc_task roots)) → Contains ran t
    → among (enc_task t) (entered_tasks world (project fs d) (map enc_task roots)) ≡ true
one_entered fs d roots ran t is one =
    let entered = entered_tasks world (project fs d) (map enc_task roots) in
    subst (λ ts. among (enc_task t) ts ≡ true) (take-append-drop 50000 entered)
    (among_left (enc_task t) (take 50000 entered) (drop 50000 entered)
    (subst (λ ts. among (enc_task t) ts ≡ true) is (named_back ran t one)))

-- no project was there
pub refused_entered : (held : Option Directory) (Answered : Type 0) (asked asked_now : Option (List Call)) → MakesOwn asked asked_now
    → IfSome held (λ d. Answered → AsksEntered d asked asked_now)
refused_entered None Answered asked asked_now own = tt
refused_entered (Some d) Answered asked asked_now own = λ answered. own_clean (IsObservedByEntered d) asked asked_now own

module _ (d : Directory) (p : Project) (old new : List Task) (asked mid asked_now : Option (List Call)) (after : Option Directory)
    (says : ProjectSays d (Ok (front_of p))) (own : MakesOwn asked mid) (built : AsksBuilt p.typed d old new mid asked_now) where
  report_entered : (r : Report) → LeavesFor p d r after → new ≡ old ++ r.ran.items → AsksEntered d asked asked_now
  report_entered r left ran =
      let these : built.started ≡ r.ran.items =
      sym (drop-append_seam old built.started) ∙ ap (drop (length old)) (sym built.gained ∙ ran) ∙ drop-append_seam old r.ran.items in
      calls_then (IsCleanCall (IsObservedByEntered d)) asked mid asked_now (own_clean (IsObservedByEntered d) asked mid own)
      (calls_as (IsCleanCall (IsObservedBy p.typed d built.started)) (IsCleanCall (IsObservedByEntered d)) mid asked_now
      (clean_more (IsObservedBy p.typed d built.started) (IsObservedByEntered d)
      (λ q seen. record {
        functions = p.typed;
        roots = p.roots.items;
        says = says;
        task = enc_task seen.task;
        entered = one_entered p.typed d p.roots.items r.ran.items seen.task
            (started_entered p.typed p.digests.items p.roots.items d r after r.verdict left.1) (subst (λ ts. Contains ts seen.task) these seen.one);
        observed = seen.observed;
        source = seen.source;
      })) built.asks)

-- this project was there, and a report comes of it
pub project_entered : (held mid_held after : Option Directory) (p : Project) (old new : List Task) (result : Result Report BuildError)
    (asked mid asked_now : Option (List Call)) → IfSome held (λ d. ProjectSays d (Ok (front_of p))) → mid_held ≡ held → MakesOwn asked mid
    → IfSome mid_held (λ d. AsksBuilt p.typed d old new mid asked_now) → Says (λ r. r) IsReport result
    → IfSome mid_held (λ d. IfOk result (λ r. LeavesFor p d r after)) → IfOk result (λ r. new ≡ old ++ r.ran.items)
    → IfSome held (λ d. IsVerdict result → AsksEntered d asked asked_now)
project_entered None mid_held after p old new result asked mid asked_now says same own built reports left ran = tt
project_entered (Some d) mid_held after p old new (Ok r) asked mid asked_now says same own built reports left ran = λ verdict.
    report_entered d p old new asked mid asked_now after says own (subst (λ m. IfSome m (λ d. AsksBuilt p.typed d old new mid asked_now)) same built) r
    (subst (λ m. IfSome m (λ d. LeavesFor p d r after)) same left) ran
project_entered (Some d) mid_held after p old new (Err (errors.Pipeline f)) asked mid asked_now says same own built reports left ran = absurd reports
project_entered (Some d) mid_held after p old new (Err (errors.Roots x)) asked mid asked_now says same own built reports left ran = absurd reports
project_entered (Some d) mid_held after p old new (Err errors.Files) asked mid asked_now says same own built reports left ran = λ verdict. absurd verdict
project_entered (Some d) mid_held after p old new (Err errors.OutOfMemory) asked mid asked_now says same own built reports left ran = λ verdict. absurd verdict
