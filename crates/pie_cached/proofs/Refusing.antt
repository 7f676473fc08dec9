-- A project that is refused is the one that was there before the cache was opened.
use Rattle.std.proofs.Common.{◌≡◌, List, ℕ, Option, None, Some, Result, Ok, Err, ap, refl, subst, sym, ◌∙◌}
use Rattle.std.specs.Option.{option_map}
use Rattle.std.specs.Prelude.{IfSome}
use Rattle.pie_build.specs.inner.Rebuilt.{IsRefusal}
use Rattle.pie_files.specs.Directory.{Directory}
use Rattle.pie_incremental.specs.inner.Refused.{RefusesRight}
use Rattle.pie_parser.specs.FunctionTrees.{FunctionTree}
use Rattle.pie_project.specs.declared.fault.BuildError.{BuildError}
use Rattle.pie_project.specs.declared.fault.BuildError.TheVariants as errors
use Rattle.pie_project.specs.Fronts.{Front, PipelineSays, ProjectSays, TypedSays}
use Rattle.pie_project.specs.Fronts.PipelineSays.{bad_pipeline, good_pipeline}
use Rattle.pie_project.specs.Fronts.ProjectSays.{no_pipeline, with_pipeline}
use Rattle.pie_project.specs.Fronts.TypedSays.{no_roots, with_roots}
use Rattle.pie_project.specs.Looking.{file_bytes, pipeline_path, roots_path}
use Rattle.pie_cached.specs.Cached.{KeepsAllButCache}

-- ---- a project is that of its two files

module _ (d e : Directory) (pipeline : file_bytes e pipeline_path ≡ file_bytes d pipeline_path) (roots : file_bytes e roots_path ≡ file_bytes d roots_path) where
  typed_there : (fs : List FunctionTree) (r : Front) → TypedSays e fs r → TypedSays d fs r
  typed_there fs _ (no_roots none) = no_roots (sym roots ∙ none)
  typed_there fs _ (with_roots is says) = with_roots (sym roots ∙ is) says

  piped_there : (bytes : List ℕ) (r : Front) → PipelineSays e bytes r → PipelineSays d bytes r
  piped_there bytes _ (bad_pipeline says) = bad_pipeline says
  piped_there bytes _ (good_pipeline {fs = fs} {r = r} says typed) = good_pipeline says (typed_there fs r typed)

  project_there : (r : Front) → ProjectSays e r → ProjectSays d r
  project_there _ (no_pipeline none) = no_pipeline (sym pipeline ∙ none)
  project_there _ (with_pipeline {bytes = bytes} {r = r} is says) = with_pipeline (sym pipeline ∙ is) (piped_there bytes r says)

-- ---- a build after the cache was opened

-- the project that is refused then is refused so before
refused_there : (A : Type 0) (d e : Directory) (result : Result A BuildError) → file_bytes e pipeline_path ≡ file_bytes d pipeline_path
    → file_bytes e roots_path ≡ file_bytes d roots_path → RefusesRight e result → RefusesRight d result
refused_there A d e (Ok a) pipeline roots says = tt
refused_there A d e (Err (errors.Pipeline f)) pipeline roots says = project_there d e pipeline roots _ says
refused_there A d e (Err (errors.Roots r)) pipeline roots says = project_there d e pipeline roots _ says
refused_there A d e (Err errors.Files) pipeline roots says = tt
refused_there A d e (Err errors.OutOfMemory) pipeline roots says = tt

pub opened : (A : Type 0) (before mid : Option Directory) (result : Result A BuildError) → KeepsAllButCache before mid
    → IfSome mid (λ d. RefusesRight d result) → IfSome before (λ d. RefusesRight d result)
opened A None mid result kept says = tt
opened A (Some d) mid result kept says =
    let there : RefusesRight kept.0 result = subst (λ o. IfSome o (λ e. RefusesRight e result)) kept.1 says in
    refused_there A d kept.0 result (ap (option_map (λ f. f.0)) (kept.2 pipeline_path refl)) (ap (option_map (λ f. f.0)) (kept.2 roots_path refl)) there

-- with another answer where none is refused
pub handed_on : (A B : Type 0) (o : Option Directory) (e : BuildError) → IfSome o (λ d. RefusesRight {A = A} d (Err e))
    → IfSome o (λ d. RefusesRight {A = B} d (Err e))
handed_on A B None e says = tt
handed_on A B (Some d) (errors.Pipeline f) says = says
handed_on A B (Some d) (errors.Roots r) says = says
handed_on A B (Some d) errors.Files says = tt
handed_on A B (Some d) errors.OutOfMemory says = tt

pub never : (A : Type 0) (o : Option Directory) (result : Result A BuildError) → (IsRefusal result → ⊥) → IfSome o (λ d. RefusesRight d result)
never A None result not = tt
never A (Some d) (Ok r) not = tt
never A (Some d) (Err (errors.Pipeline f)) not = absurd (not tt)
never A (Some d) (Err (errors.Roots r)) not = absurd (not tt)
never A (Some d) (Err errors.Files) not = tt
never A (Some d) (Err errors.OutOfMemory) not = tt
