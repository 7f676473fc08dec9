-- What settled tasks show at a path, by the contents that are kept of what they reach.
use Rattle.std.specs.Prelude.{ℕ, ◌≡◌, Option, Some, None, List, map}
use Rattle.pie_model.specs.Paths.{Path}
use Rattle.pie_model.specs.Tasks.{Task}
use Rattle.pie_model.specs.Trees.{trace_of, writes_of}
use Rattle.pie_model.specs.declared.words.Seen.{Seen}
use Rattle.pie_model.specs.Seen.{first_write, provided}
use Rattle.pie_model.specs.Evaluation.{World, Project, evaluation}
use Rattle.pie_model.specs.Records.{Record}
use Rattle.pie_model.specs.inner.RecordLaws.{HasItsRecord}
use Rattle.pie_step_laws.specs.Contents.{WroteContents, IsShown}
use Rattle.pie_settle_laws.specs.Known.{AreDone, AreCounted, ReachedFrom}

-- of each task that these reach its writes are kept, with their contents
abbrev pub KeepsReached : World → Project → (Task → Option Record) → (Task → List (Path × List ℕ)) → List Task → Type 0
KeepsReached w P R kept us = (x : Task) → ReachedFrom R us x → kept x ≡ writes_of (trace_of (evaluation w P x))

-- what is kept of the tasks that known ones reach shows what these provide, whatever other tasks have records
abbrev pub KnownTasksProvide : Type 0
KnownTasksProvide =
    (w : World) (P : Project) (R : Task → Option Record) (held : List Task) (kept : Task → List (Path × List ℕ)) (us : List Task) (p : Path) (s : Seen)
    → AreCounted w R held → AreDone w P R us → KeepsReached w P R kept us → IsShown (WroteContents R kept us p) s
    → provided (map (evaluation w P) us) p ≡ s

-- these contents were written first at a path by the evaluation of a task, and have this hash
pub record WroteFirst (w : World) (P : Project) (x : Task) (p : Path) (h : List ℕ) : Type 0 where
  pub contents : List ℕ
  pub wrote : first_write p (writes_of (trace_of (evaluation w P x))) ≡ Some contents
  pub hash : w.hash contents ≡ h

-- the hash of a write in a right record is that of contents that the evaluation wrote
abbrev pub RecordedHashesHaveContents : Type 0
RecordedHashesHaveContents =
    (w : World) (P : Project) (R : Task → Option Record) (x : Task) (r : Record) (p : Path) (h : List ℕ) → HasItsRecord w P R x → R x ≡ Some r
    → first_write p r.writes ≡ Some h → WroteFirst w P x p h

-- and where the record has no write, the evaluation wrote nothing
abbrev pub UnrecordedPathsAreUnwritten : Type 0
UnrecordedPathsAreUnwritten =
    (w : World) (P : Project) (R : Task → Option Record) (x : Task) (r : Record) (p : Path) → HasItsRecord w P R x → R x ≡ Some r
    → first_write p r.writes ≡ None → first_write p (writes_of (trace_of (evaluation w P x))) ≡ None
