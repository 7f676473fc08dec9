-- What a call on files in memory may leave, said of the files.
use Rattle.std.proofs.Common.{◌≡◌, ◌++◌, List, [], ◌∷◌, ℕ, ap, sym, subst, ◌∙◌, Vec, Global}
use Rattle.std.specs.Prelude.{None}
use Rattle.pie_files.specs.declared.files.Call.{Call}
use Rattle.pie_files.specs.declared.files.Call.TheVariants.{Write, Remove}
use Rattle.pie_files.specs.declared.files.FilesError.{FilesError}
use Rattle.pie_files.specs.declared.files.FilesError.TheVariants.{OutOfMemory, Failed as FilesFailed}
use Rattle.pie_files.specs.declared.sure_files.SureFiles.{SureFiles}
use Rattle.pie_files.specs.declared.sure_files.Logged.TheVariants.{Put, Asked, Failed, Wrote, Removed, Synced}
use Rattle.pie_files.specs.Images.{Stays, MayWrite, MayRemove, Elapses, Follows, Only, Sets}
use Rattle.pie_files.specs.inner.Story.{IsLeft}
use Rattle.pie_files.specs.inner.SureFiles.{HasTurned, images_by, moment_by, left_since_by}
use Rattle.pie_files.proofs.Leaving.{Looks, looked, look_tried, write_tried, removal_tried, wrote, removed, synced_all, put_left, only_done, look_unmoved, write_unmoved}
use Rattle.pie_files.proofs.Leaving.{removal_unmoved}

-- a look for which there was no memory
pub look_unnoted : (s t : SureFiles) → t.began ≡ s.began → t.log.items ≡ s.log.items
    → Elapses Stays (moment_by s) (moment_by t) (left_since_by s) (left_since_by t) (images_by s) (images_by t)
look_unnoted s t began story = look_unmoved s.began t.began s.log.items t.log.items began story

-- a write for which there was no memory
pub write_unnoted : (s t : SureFiles) (path : List ℕ) → t.began ≡ s.began → t.log.items ≡ s.log.items
    → Elapses (MayWrite path) (moment_by s) (moment_by t) (left_since_by s) (left_since_by t) (images_by s) (images_by t)
write_unnoted s t path began story = write_unmoved path s.began t.began s.log.items t.log.items began story

-- a removal for which there was no memory
pub removal_unnoted : (s t : SureFiles) (path : List ℕ) → t.began ≡ s.began → t.log.items ≡ s.log.items
    → Elapses (MayRemove path) (moment_by s) (moment_by t) (left_since_by s) (left_since_by t) (images_by s) (images_by t)
removal_unnoted s t path began story = removal_unmoved path s.began t.began s.log.items t.log.items began story

-- a look that was answered
pub look_noted : (s t : SureFiles) (call : Call) → t.began ≡ s.began → t.log.items ≡ s.log.items ++ Asked call ∷ []
    → Elapses Stays (moment_by s) (moment_by t) (left_since_by s) (left_since_by t) (images_by s) (images_by t)
look_noted s t call began story = looked s.began t.began s.log.items t.log.items call began story

-- a look or a sync that failed, or was out of memory
pub look_turned : (s t : SureFiles) (call : Call) (e : FilesError) → Looks call → HasTurned call s t e
    → Elapses Stays (moment_by s) (moment_by t) (left_since_by s) (left_since_by t) (images_by s) (images_by t)
look_turned s t call OutOfMemory looks h = look_unmoved s.began t.began s.log.items t.log.items h.0 h.1
look_turned s t call FilesFailed looks h = look_tried s.began t.began s.log.items t.log.items call h.0 h.1 looks

-- a write that failed, or was out of memory
pub write_turned : (s t : SureFiles) (path : List ℕ) (call : Call) (e : FilesError) → call ≡ Write path None → HasTurned call s t e
    → Elapses (MayWrite path) (moment_by s) (moment_by t) (left_since_by s) (left_since_by t) (images_by s) (images_by t)
write_turned s t path call OutOfMemory is h = write_unmoved path s.began t.began s.log.items t.log.items h.0 h.1
write_turned s t path call FilesFailed is h =
    write_tried s.began t.began s.log.items t.log.items path None h.0 (h.1 ∙ ap (λ k. s.log.items ++ Failed k ∷ []) is)

-- a removal that failed, or was out of memory
pub removal_turned : (s t : SureFiles) (path : List ℕ) (call : Call) (e : FilesError) → call ≡ Remove path → HasTurned call s t e
    → Elapses (MayRemove path) (moment_by s) (moment_by t) (left_since_by s) (left_since_by t) (images_by s) (images_by t)
removal_turned s t path call OutOfMemory is h = removal_unmoved path s.began t.began s.log.items t.log.items h.0 h.1
removal_turned s t path call FilesFailed is h =
    removal_tried s.began t.began s.log.items t.log.items path h.0 (h.1 ∙ ap (λ k. s.log.items ++ Failed k ∷ []) is)

-- a write
pub write_done : (s t : SureFiles) (path copy : List ℕ) (bytes : Vec ℕ Global) (mark : ℕ) → copy ≡ path → t.began ≡ s.began
    → t.log.items ≡ s.log.items ++ Wrote copy bytes mark ∷ []
    → Elapses (MayWrite path) (moment_by s) (moment_by t) (left_since_by s) (left_since_by t) (images_by s) (images_by t)
write_done s t path copy bytes mark is began story =
    wrote s.began t.began s.log.items t.log.items path bytes mark began (story ∙ ap (λ q. s.log.items ++ Wrote q bytes mark ∷ []) is)

-- a removal
pub removal_done : (s t : SureFiles) (path : List ℕ) → t.began ≡ s.began → t.log.items ≡ s.log.items ++ Removed path ∷ []
    → Elapses (MayRemove path) (moment_by s) (moment_by t) (left_since_by s) (left_since_by t) (images_by s) (images_by t)
removal_done s t path began story = removed s.began t.began s.log.items t.log.items path began story

-- a sync
pub sync_done : (s t : SureFiles) → t.began ≡ s.began → t.log.items ≡ s.log.items ++ Synced ∷ []
    → Elapses Stays (moment_by s) (moment_by t) (left_since_by s) (left_since_by t) (images_by s) (images_by t)
sync_done s t began story = synced_all s.began t.began s.log.items t.log.items began story

-- a file that is put
pub put_done : (s t : SureFiles) (path copy bytes : List ℕ) (kept : Vec ℕ Global) (mark : ℕ) → copy ≡ path → kept.items ≡ bytes → t.began ≡ s.began
    → t.log.items ≡ s.log.items ++ Put copy kept mark ∷ [] → Follows (Sets path bytes mark) (images_by s) (images_by t)
put_done s t path copy bytes kept mark is same began story c left =
    let found = put_left s.began s.log.items t.log.items copy kept mark story c (subst (λ b. IsLeft b t.log.items c) began left) in
    (found.0, found.1, subst (λ b. Sets path b mark found.0 c) same (subst (λ q. Sets q kept.items mark found.0 c) is found.2))

-- after a sync a crash leaves what reads give
pub sync_only : (s t : SureFiles) → t.began ≡ s.began → t.log.items ≡ s.log.items ++ Synced ∷ [] → Only s.held (images_by t)
sync_only s t began story c left =
    only_done s.began s.log.items t.log.items story c (subst (λ b. IsLeft b t.log.items c) began left) ∙ sym s.told
