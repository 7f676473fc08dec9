-- What a running task is told of paths: it goes on as in the model, or fails with a right record.
use Rattle.std.specs.Prelude.{◌≡◌, ℕ, ◌<◌, List, length, Some}
use Rattle.pie_base.specs.Path.{is_out}
use Rattle.pie_value.specs.declared.event.By.{By}
use Rattle.pie_value.specs.declared.event.Event.{Event}
use Rattle.pie_value.specs.declared.event.Event.TheVariants as events
use Rattle.pie_view.specs.Content.{Staged}
use Rattle.pie_running.specs.declared.frame.Waiting.{Waiting}
use Rattle.pie_running.specs.declared.frame.Caller.{Caller}
use Rattle.pie_running.specs.declared.frame.Told.{Told}
use Rattle.pie_running.specs.declared.frame.Told.TheVariants.{Goes, Fails}
use Rattle.pie_running.specs.inner.Sights.{Sees, most_content, listing_in}
use Rattle.pie_running.specs.inner.Looks.{IsToldPresence, IsToldSight, IsToldDigest}
use Rattle.pie_running.specs.inner.Told.{IsToldList, IsToldWrite, told_reading, too_much}
use Rattle.pie_running.specs.inner.Noted.{observed}
use Rattle.pie_task_laws.specs.Sites.{Site, Build, IsThere, IsSound, HaveOutputs}
use Rattle.pie_task_laws.specs.Going.{Runs}
use Rattle.pie_task_laws.specs.Coming.{IsAsking, EndsRight, failed_by}
use Rattle.pie_task_laws.specs.Sights.{SeesOut}

-- what becomes of a task that was told something
abbrev pub GoesAs : Site → Build → List Caller → Told → Type 0
GoesAs x b cs (Goes f) = Runs x b cs f.code.now f.machine f.notes
GoesAs x b cs (Fails n k) = EndsRight x b n (failed_by n k)

-- a task that required tasks with outputs looks at a path
pub record Looks (x : Site) (b : Build) (cs : List Caller) (w : Waiting) (e : Event) : Type 0 where
  pub sound : IsSound x b
  pub asking : IsAsking x b cs w e
  pub left : 0 < w.notes.left
  pub outputs : HaveOutputs b w.notes.needs

-- it is told whether a file is there, its bytes or their hash
abbrev pub PresencesAreTold : Type 0
PresencesAreTold =
    (x : Site) (b : Build) (cs : List Caller) (w : Waiting) (path : List ℕ) (t : Told) → Looks x b cs w (events.Exists path)
    → IsToldPresence x.update.directory (SeesOut x b w.notes path) w path t → GoesAs x b cs t

-- where the codes are those of the functions
abbrev pub ReadingsAreTold : Type 0
ReadingsAreTold =
    (x : Site) (b : Build) (cs : List Caller) (w : Waiting) (path : List ℕ) (by : By) (t : Told) → IsThere x → Looks x b cs w (events.Read path by)
    → IsToldSight x.update.directory (SeesOut x b w.notes path) w path by t → GoesAs x b cs t

-- where the file is too long to be a value, the task ends right: it fails for too many bytes, or for having no event left
abbrev pub LongReadingsEnd : Type 0
LongReadingsEnd =
    (x : Site) (b : Build) (cs : List Caller) (w : Waiting) (path : List ℕ) (by : By) (file : List ℕ × ℕ) → IsThere x
    → Looks x b cs w (events.Read path by) → Sees x.update.directory path (SeesOut x b w.notes path) (Some (Some file)) → most_content < length file.0
    → EndsRight x b (observed (told_reading by path (Some file)).0 w.notes) (failed_by w.notes (too_much w.notes.left))

abbrev pub DigestsAreTold : Type 0
DigestsAreTold =
    (x : Site) (b : Build) (cs : List Caller) (w : Waiting) (path : List ℕ) (t : Told) → Looks x b cs w (events.Digest path)
    → IsToldDigest x.update.directory (SeesOut x b w.notes path) w path t → GoesAs x b cs t

-- the entries of a directory
abbrev pub ListingsAreTold : Type 0
ListingsAreTold =
    (x : Site) (b : Build) (cs : List Caller) (w : Waiting) (dir : List ℕ) (t : Told) → IsAsking x b cs w (events.List dir)
    → 0 < w.notes.left → IsToldList w dir (listing_in x.update.directory dir) t → GoesAs x b cs t

-- and that it wrote, which is staged
abbrev pub WritesAreTold : Type 0
WritesAreTold =
    (x : Site) (b : Build) (cs : List Caller) (w : Waiting) (path bytes : List ℕ) (later : Staged) (t : Told) → IsSound x b
    → IsAsking x b cs w (events.Write path bytes) → 0 < w.notes.left → IsToldWrite (is_out path) w b.stage later path bytes t
    → GoesAs x (record b { stage = later }) cs t
