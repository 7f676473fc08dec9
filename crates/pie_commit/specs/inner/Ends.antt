-- What is known of a directory once a commit has ended.
use Rattle.std.specs.Prelude.{◌≡◌, false, Option, Result, IfSome, OnOk, OnErr}
use Rattle.pie_files.specs.declared.files.FilesError.{FilesError}
use Rattle.pie_files.specs.Directory.{Directory}
use Rattle.pie_files.specs.Images.{Only}
use Rattle.pie_commit.specs.declared.plan.Plan.{Plan}
use Rattle.pie_commit.specs.inner.Plans.{is_empty}
use Rattle.pie_commit.specs.Outcomes.{IsAtRest, LeavesMarked}

-- where changes were made and all went well, a crash leaves what is there; where a call failed, the marker tells it, or nothing or everything has changed
pub record EndsKnown {S : Type 0} (holds : S → Option Directory) (images : S → Directory → Type 0) (p : Plan) (old new : S) (result : Result (Unit {0}) FilesError)
    : Type 0 where
  pub durable : is_empty p ≡ false → OnOk result (IfSome (holds old) (λ d. IsAtRest (holds new) (images new)))
  pub failed : OnErr result (IfSome (holds old) (λ d. Only d (images old) → LeavesMarked p d (images new)))
