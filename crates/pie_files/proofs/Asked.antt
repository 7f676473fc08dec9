-- The list of calls on files in memory grows by one.
use Rattle.std.proofs.Common.{◌≡◌, List, [], ◌∷◌, ◌++◌, refl, ap, arith}
use Rattle.std.specs.Prelude.{Some, Ok}
use Rattle.pie_files.specs.declared.files.Call.{Call}
use Rattle.pie_files.specs.declared.files.Call.TheVariants.{Write, Remove, Sync}
use Rattle.pie_files.specs.declared.sure_files.Logged.{Logged}
use Rattle.pie_files.specs.declared.sure_files.Logged.TheVariants.{Put, FailsAt, Asked, Failed, Wrote, Removed, Synced}
use Rattle.pie_files.specs.declared.sure_files.SureFiles.{SureFiles}
use Rattle.pie_files.specs.Calls.{Called}
use Rattle.pie_files.specs.inner.Memory.{asked_of}
use Rattle.pie_files.specs.inner.SureFiles.{asked_by}

pub asked_push : (log : List Logged) (x : Logged) → asked_of (log ++ x ∷ []) ≡ asked_of log ++ asked_of (x ∷ [])
asked_push [] x = refl
asked_push (Put path bytes mark ∷ log) x = asked_push log x
asked_push (FailsAt numbers ∷ log) x = asked_push log x
asked_push (Asked call ∷ log) x = ap (λ cs. call ∷ cs) (asked_push log x)
asked_push (Failed call ∷ log) x = ap (λ cs. call ∷ cs) (asked_push log x)
asked_push (Wrote path bytes mark ∷ log) x = ap (λ cs. Write path (Some mark) ∷ cs) (asked_push log x)
asked_push (Removed path ∷ log) x = ap (λ cs. Remove path ∷ cs) (asked_push log x)
asked_push (Synced ∷ log) x = ap (λ cs. Sync ∷ cs) (asked_push log x)

-- a call on files that never fail was noted
pub infallible_called : {T : Type 0} (kind : Call → Type 0) (call : Call) (old new : SureFiles) (value : T) → kind call
    → asked_by new ≡ asked_by old ++ call ∷ []
    → Called {S = SureFiles} (λ s. Some (asked_by s)) (λ _. 0) kind old new (Ok value)
infallible_called kind call old new value is noted = record {
  noted = (call, is, ap Some noted);
  later = omega arith;
  steady = refl;
  cause = λ h. cc;
}
