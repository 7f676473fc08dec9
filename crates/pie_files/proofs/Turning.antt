-- What a call on files in memory, some of whose calls fail, says of the list of calls and of the count of faults.
use Rattle.std.proofs.Common.{◌≡◌, ◌+◌, ℕ, List, [], ◌∷◌, ◌++◌, refl, ap, subst, ◌∙◌, arith, inl}
use Rattle.std.specs.Prelude.{None, Some, Result, Ok, Err}
use Rattle.pie_files.specs.declared.files.Call.{Call}
use Rattle.pie_files.specs.declared.files.Call.TheVariants.{Write}
use Rattle.pie_files.specs.declared.files.FilesError.{FilesError}
use Rattle.pie_files.specs.declared.files.FilesError.TheVariants.{OutOfMemory, Failed as FilesFailed}
use Rattle.pie_files.specs.declared.mem_files.MemFiles.{MemFiles}
use Rattle.pie_files.specs.declared.sure_files.Logged.{Logged}
use Rattle.pie_files.specs.declared.sure_files.Logged.TheVariants.{Asked, Failed}
use Rattle.pie_files.specs.Calls.{Called, IsWrite}
use Rattle.pie_files.specs.inner.Failures.{failed_by, failed_in}
use Rattle.pie_files.specs.inner.Memory.{asked_of}
use Rattle.pie_files.specs.inner.MemFiles.{asked_in, faults_in, story_in}
use Rattle.pie_files.specs.inner.SureFiles.{HasTurned}
use Rattle.pie_files.proofs.Asked.{asked_push}
use Rattle.pie_files.proofs.Failing.{failed_more}

-- the calls and the faults after one thing more
pub asked_now : (old new : MemFiles) (x : Logged) → story_in new ≡ story_in old ++ x ∷ [] → asked_in new ≡ asked_in old ++ asked_of (x ∷ [])
asked_now old new x is = ap asked_of is ∙ asked_push (story_in old) x

pub faults_now : (old new : MemFiles) (x : Logged) → story_in new ≡ story_in old ++ x ∷ [] → faults_in new ≡ faults_in old + failed_by x
faults_now old new x is = ap failed_in is ∙ failed_more (story_in old) x

-- a call that failed, or was out of memory
pub turned_called : {T : Type 0} (kind : Call → Type 0) (call : Call) (old new : MemFiles) (e : FilesError) → kind call → HasTurned call old.files new.files e
    → Called {S = MemFiles} {T = T} (λ s. Some (asked_in s)) faults_in kind old new (Err e)
turned_called kind call old new OutOfMemory is h = record {
  noted = inl (ap (λ log. Some (asked_of log)) h.1);
  later = omega (arith, ap failed_in h.1);
  steady = tt;
  cause = λ e. cc;
}
turned_called kind call old new FilesFailed is h = record {
  noted = (call, is, ap Some (asked_now old new (Failed call) h.1));
  later = omega (arith, faults_now old new (Failed call) h.1);
  steady = tt;
  cause = λ e. inl (omega (arith, faults_now old new (Failed call) h.1));
}

-- the same, said of the result
pub result_called : {T : Type 0} (kind : Call → Type 0) (call : Call) (old new : MemFiles) (e : FilesError) (result : Result T FilesError) → Err e ≡ result
    → kind call → HasTurned call old.files new.files e → Called {S = MemFiles} (λ s. Some (asked_in s)) faults_in kind old new result
result_called kind call old new e result is so h =
    subst (λ r. Called {S = MemFiles} (λ s. Some (asked_in s)) faults_in kind old new r) is (turned_called kind call old new e so h)

-- a write that failed, or was out of memory
pub write_called : {T : Type 0} (path copy : List ℕ) (old new : MemFiles) (e : FilesError) (result : Result T FilesError) → Err e ≡ result
    → copy ≡ path → HasTurned (Write copy None) old.files new.files e
    → Called {S = MemFiles} (λ s. Some (asked_in s)) faults_in (IsWrite path result) old new result
write_called path copy old new e result is same h =
    result_called (IsWrite path result) (Write copy None) old new e result is (subst (λ r. IsWrite path r (Write copy None)) is (ap (λ q. Write q None) same)) h

-- a call that was noted and didn't fail
pub done_called : {T : Type 0} (kind : Call → Type 0) (call : Call) (old new : MemFiles) (x : Logged) (value : T) → kind call
    → asked_of (x ∷ []) ≡ call ∷ [] → failed_by x ≡ 0 → story_in new ≡ story_in old ++ x ∷ []
    → Called {S = MemFiles} (λ s. Some (asked_in s)) faults_in kind old new (Ok value)
done_called kind call old new x value is one none noted = record {
  noted = (call, is, ap Some (asked_now old new x noted ∙ ap (λ calls. asked_in old ++ calls) one));
  later = omega (arith, none, faults_now old new x noted);
  steady = omega (arith, none, faults_now old new x noted);
  cause = λ e. cc;
}

-- a look that was answered
pub looked_called : {T : Type 0} (kind : Call → Type 0) (call : Call) (old new : MemFiles) (value : T) → kind call
    → story_in new ≡ story_in old ++ Asked call ∷ [] → Called {S = MemFiles} (λ s. Some (asked_in s)) faults_in kind old new (Ok value)
looked_called kind call old new value is noted = done_called kind call old new (Asked call) value is refl refl noted
