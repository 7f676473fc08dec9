-- The plans of an incremental build, and what they leave.
use Rattle.std.specs.Prelude.{◌≡◌, ◌⊎◌, ℕ, true, false, cond, ◌==◌, List, [], Option, Some, None}
use Rattle.std.specs.List.{list_all, filter}
use Rattle.std.specs.declared.alloc.Global.{Global}
use Rattle.std.proofs.Common.{Vec}
use lib.Pointwise.{pointwise}
use Rattle.pie_base.specs.Path.{is_out, same_text}
use Rattle.pie_commit.specs.declared.plan.Plan.{Plan}
use Rattle.pie_commit.specs.inner.Plans.{Meets, changes, has_own_places}
use Rattle.pie_diff.specs.Hashes.{is_new}
use Rattle.pie_diff.specs.Removals.{AreRemovals}
use Rattle.pie_files.specs.Directory.{Directory, file_at, without_file}
use Rattle.pie_record.specs.declared.task_record.TaskRecord.{TaskRecord}
use Rattle.pie_results.specs.inner.Files.{contents_in}
use Rattle.pie_left_laws.specs.Placed.{IsPlaced}
use Rattle.pie_incremental.specs.declared.base.OwnFiles.{OwnFiles}
use Rattle.pie_incremental.specs.Crashes.{IsBegun}
use Rattle.pie_incremental.specs.inner.Built.{AreFilesOf, IsKnown, IsMarked, IsOfBuild, IsPut}
use Rattle.pie_incremental.specs.Names.{kept_names}
use Rattle.pie_incremental.specs.Own.{open_path, IsClosed}
use Rattle.pie_incremental.specs.inner.Changes.{bytes_of, Changes}

-- a plan that was committed: no marker stands, and each other path has what the plan wants there
pub record HasChanged (p : Plan) (d : Directory) (after : Option Directory) : Type 0 where
  pub left : Directory
  pub told : after ≡ Some left
  pub closed : IsClosed left
  pub changed : (q : List ℕ) → same_text q open_path ≡ false → Meets (changes p q) (file_at d q) (file_at left q)

-- a plan that changes the pending names alone, in the place of these bytes
pub record IsNamesPlan (names : List (List ℕ)) (before : Option (List ℕ)) (p : Plan) : Type 0 where
  pub places : has_own_places p ≡ true
  pub removals : p.removals.items ≡ []
  pub writes : p.writes.items ≡ []
  pub pending : Changes before (kept_names names) p.pending
  pub store : p.store ≡ None

-- the text of the store is written where it is another one than before
abbrev pub store_change : List ℕ → Vec ℕ Global → Option (Vec ℕ Global)
store_change before text = cond (pointwise ◌==◌ before text.items) None (Some text)

-- the plan of an accepted build, by the builder's own files, what is held, the records of the live tasks, files and the text of the store
pub record IsChangesPlan (own : OwnFiles) (held : List (List ℕ × List ℕ)) (rows : List TaskRecord) (contents : List (List ℕ × Vec ℕ Global))
    (text : Vec ℕ Global) (p : Plan) : Type 0 where
  pub places : has_own_places p ≡ true
  pub removals : AreRemovals held rows p.removals.items
  pub removals_out : list_all is_out p.removals.items ≡ true
  pub writes : p.writes.items ≡ filter (is_new held) contents
  pub writes_out : list_all (λ w. is_out w.0) p.writes.items ≡ true
  pub pending : Changes (bytes_of own.pending) None p.pending
  pub store : p.store ≡ store_change own.store.items text

-- a committed plan leaves what its parts say, where these are of the directory
abbrev pub Puts : Plan → Directory → Option Directory → Type 0
Puts p d after = (own : OwnFiles) (held : List (List ℕ × List ℕ)) (rows : List TaskRecord) (contents : List (List ℕ × Vec ℕ Global)) (text : Vec ℕ Global)
    → IsChangesPlan own held rows contents text p → IsKnown own held d → AreFilesOf rows contents → IsPut rows contents text.items d after

-- with the content of each file: it was written, or stayed where it has the hash
abbrev pub Places : Plan → Directory → Option Directory → Type 0
Places p d after = (own : OwnFiles) (held : List (List ℕ × List ℕ)) (rows : List TaskRecord) (contents : List (List ℕ × Vec ℕ Global)) (text : Vec ℕ Global)
    → IsChangesPlan own held rows contents text p → IsKnown own held d → AreFilesOf rows contents
    → (left : Directory) × (after ≡ Some left) × IsPlaced rows (contents_in contents) text.items d left

-- the same of what a crash leaves
abbrev pub MayPut : Plan → Directory → Directory → Type 0
MayPut p d c = (own : OwnFiles) (held : List (List ℕ × List ℕ)) (rows : List TaskRecord) (contents : List (List ℕ × Vec ℕ Global)) (text : Vec ℕ Global)
    → IsChangesPlan own held rows contents text p → IsKnown own held d → AreFilesOf rows contents → IsOfBuild rows contents text.items d c

-- with the content of each file
abbrev pub MayPlace : Plan → Directory → Directory → Type 0
MayPlace p d c = (own : OwnFiles) (held : List (List ℕ × List ℕ)) (rows : List TaskRecord) (contents : List (List ℕ × Vec ℕ Global)) (text : Vec ℕ Global)
    → IsChangesPlan own held rows contents text p → IsKnown own held d → AreFilesOf rows contents
    → IsBegun d c ⊎ ((c ≡ d) ⊎ IsPlaced rows (contents_in contents) text.items d (without_file c open_path))

-- the same of every image at the end
abbrev pub Marks : Plan → Directory → (Directory → Type 0) → Type 0
Marks p d images = (own : OwnFiles) (held : List (List ℕ × List ℕ)) (rows : List TaskRecord) (contents : List (List ℕ × Vec ℕ Global)) (text : Vec ℕ Global)
    → IsChangesPlan own held rows contents text p → IsKnown own held d → AreFilesOf rows contents → IsMarked rows contents text.items d images
