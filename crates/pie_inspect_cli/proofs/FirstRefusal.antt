-- What `check` tells, and then prints.
use Rattle.std.proofs.Common.{◌≡◌, ◌∙◌, ◌≤◌, ℕ, List, length, subst, sym}
use Rattle.std.specs.Prelude.{Option, None, Some, Result, Ok, Err, IfSome, IfOk, string_bytes}
use Rattle.std.specs.Str.{IsUtf8}
use Rattle.pie_base.specs.declared.status.Status.{Status}
use Rattle.pie_base.specs.declared.status.Status.TheVariants as status
use Rattle.pie_files.specs.Directory.{Directory}
use Rattle.pie_files.specs.declared.files.FilesError.{FilesError}
use Rattle.pie_project.specs.Fronts.{CheckSays, most}
use Rattle.pie_project.specs.Looking.{file_bytes, pipeline_path}
use Rattle.pie_project.specs.Refusals.{PipelineRefusal, Refusal, OfPipeline}
use Rattle.pie_explain.specs.Places.{BeginsWith, pipeline_place}
use Rattle.pie_inspect_cli.specs.Checked.{HasChecked, counts_text}
use Rattle.pie_inspect_cli.specs.inner.Told.{Says, Shows, TellsFirst}
use Rattle.pie_inspect_cli.specs.declared.checking.Told.{Told}

-- what is told of a directory is printed, with its status
pub has_checked : (holds : Option Directory) (before after : Option (List ℕ)) (told : Result Told FilesError) (ended : Status)
    → IfSome holds (λ d. IfOk told (TellsFirst d)) → Shows before after told ended → IfSome holds (λ d. HasChecked d before after ended)
has_checked None before after told ended first shows = tt
has_checked (Some d) before after (Ok told) ended first shows =
    (first.0, first.1, shows.0 ∙ first.3, (string_bytes told.text, first.2, shows.1))
has_checked (Some d) before after (Err e) ended first shows = absurd shows

-- what is told of a pipeline that is read again, where that is the file of the directory
pub says_pipeline : (holds : Option Directory) (p : PipelineRefusal) (told : Told) (bytes : List ℕ)
    → IfSome holds (λ d. (text : List ℕ) → file_bytes d pipeline_path ≡ Some text → length text ≤ most → bytes ≡ text)
    → (IsUtf8 bytes → length bytes ≤ most → BeginsWith (pipeline_place bytes p) (string_bytes told.text)) → told.status ≡ status.Refused
    → IfSome holds (λ d. Says d (OfPipeline p) told)
says_pipeline None p told bytes read begins refused = tt
says_pipeline (Some d) p told bytes read begins refused =
    ((λ text is utf8 short. subst (λ (t : List ℕ). IsUtf8 t → length t ≤ most → BeginsWith (pipeline_place t p) (string_bytes told.text)) (read text is short) begins utf8 short), refused)

-- counts are told as a check says them
pub counts_first : (holds : Option Directory) (functions roots : ℕ) (told : Told) → IfSome holds (λ d. CheckSays d (Ok (functions, roots)))
    → string_bytes told.text ≡ counts_text functions roots → told.status ≡ status.Ok → IfSome holds (λ d. TellsFirst d told)
counts_first None functions roots told says text ok = tt
counts_first (Some d) functions roots told says text ok = (Ok (functions, roots), says, text, ok)

-- a refusal is told as a check says it
pub refusal_first : (holds : Option Directory) (e : Refusal) (result : Result Told FilesError) → IfSome holds (λ d. CheckSays d (Err e))
    → IfSome holds (λ d. IfOk result (Says d e)) → IfSome holds (λ d. IfOk result (TellsFirst d))
refusal_first None e result says told = tt
refusal_first (Some d) e (Ok t) says told = (Err e, says, told.0, told.1)
refusal_first (Some d) e (Err f) says told = tt
