-- Which records a build tells as new offers.
use Rattle.std.specs.Prelude.{◌≡◌, ℕ, nat_le, ◌<◌, ◌^◌, Bool, ◌&&◌, cond, List, [], ◌∷◌, map, length, All, Option, None, Some, IsSome, Vec, slice_get}
use Rattle.std.specs.Global.{Global}
use Rattle.std.specs.BTreeMap.{BTreeMap, get, get_by_text}
use Rattle.std.specs.Cmp.Lexicographic.{slice_cmp}
use Rattle.std.specs.List.{filter_map}
use Rattle.std.specs.Option.{option_and_then, option_map, option_or}
use Rattle.std.specs.Ordering.{nat_cmp}
use Rattle.sha2.specs.Sha256.{sha256}
use Rattle.pie_base.specs.Path.{same_text}
use Rattle.pie_files.specs.Directory.{Directory}
use Rattle.pie_files.specs.inner.Held.{is_among}
use Rattle.pie_old.specs.inner.Code.{digest_in}
use Rattle.pie_build.specs.inner.Projects.{IsReady}
use Rattle.pie_project.specs.Digested.{HasDigests}
use Rattle.pie_project.specs.declared.project.Project.{Project}
use Rattle.pie_record.specs.declared.task_record.TaskRecord.{TaskRecord}
use Rattle.pie_store.specs.inner.Offers.{Offered, offered}
use Rattle.pie_value.specs.Canonical.{enc_task}
use Rattle.pie_value.specs.declared.task.Task.{Task}
use Rattle.pie_value.specs.declared.verdict.Verdict.{Verdict}
use Rattle.pie_topdown_build.specs.declared.news.Lookup.{Lookup}
use Rattle.pie_topdown_build.specs.declared.offered.NewOffer.{NewOffer}
use Rattle.pie_topdown_build.specs.declared.offered.Offered.{Offered as Answered}
use Rattle.pie_topdown_build.specs.inner.Stored.{IsBegunFrom, LeavesRowsIf}

-- what is told: the digest of a function, a record of a task of it, and the content of each of its writes
abbrev pub Told : Type 0
Told = List ℕ × Offered

-- a new offer of the program, as such a one
abbrev pub as_told : NewOffer → Told
as_told n = (n.digest, offered n.offer)

-- the bytes of the last one of these files that is at a path
abbrev pub bytes_in : List (List ℕ × List ℕ) → List ℕ → Option (List ℕ)
bytes_in [] path = None
bytes_in (f ∷ files) path = option_or (bytes_in files path) (cond (same_text path f.0) (Some f.1) None)

-- a content, if it has this hash, and is short enough for its length to fit
abbrev pub with_hash : List ℕ → List ℕ → Option (List ℕ)
with_hash hash content = cond (same_text (sha256 content) hash && nat_le (length content) 4294967295) (Some content) None

-- a content in front of others, if all are there
abbrev pub with_more : Option (List ℕ) → Option (List (List ℕ)) → Option (List (List ℕ))
with_more None more = None
with_more (Some c) None = None
with_more (Some c) (Some more) = Some (c ∷ more)

-- the content of each write, if the bytes at each path have the hash that was recorded
abbrev pub contents_of : (List ℕ → Option (List ℕ)) → List (List ℕ × List ℕ) → Option (List (List ℕ))
contents_of at [] = Some []
contents_of at (w ∷ writes) = with_more (option_and_then (with_hash w.1) (at w.0)) (contents_of at writes)

-- a record with a digest and contents, if both are there
abbrev pub told_with : TaskRecord → Option (List ℕ) → Option (List (List ℕ)) → Option Told
told_with row None contents = None
told_with row (Some digest) None = None
told_with row (Some digest) (Some contents) = Some (digest, (row, contents))

-- what is told of a record whose task ran, by the digests of functions and the bytes at paths
abbrev pub told_where : (List ℕ → Bool) → (List ℕ → Option (List ℕ)) → (List ℕ → Option (List ℕ)) → TaskRecord → Option Told
told_where has_run digest at row = cond (has_run (enc_task row.task)) (told_with row (digest row.task.func) (contents_of at row.writes)) None

-- what a build tells: in the order of its records those whose tasks ran, by the first digest of each function and by the build's files; but none of a
-- function without a digest, nor where a file is absent, has another hash than the one recorded, or is too long
abbrev pub news_in : List (List ℕ × List ℕ) → List TaskRecord → List (List ℕ × List ℕ) → List Task → List Told
news_in funcs rows files ran = filter_map (told_where (λ bytes. is_among bytes (map enc_task ran)) (digest_in funcs) (bytes_in files)) rows

-- the file of a write is there: the bytes at its path have the hash that was recorded, and are short enough for their length to fit
abbrev pub IsThere : List (List ℕ × List ℕ) → List ℕ × List ℕ → Type 0
IsThere files w = (bytes : List ℕ) × (bytes_in files w.0 ≡ Some bytes) × (sha256 bytes ≡ w.1) × (length bytes < 2 ^ 32)

-- nothing of a record is missing: its function has a digest, and the file of each write is there
pub record IsComplete (funcs files : List (List ℕ × List ℕ)) (row : TaskRecord) : Type 0 where
  pub digest : IsSome (digest_in funcs row.task.func)
  pub writes : All (IsThere files) row.writes

-- new offers are what is told of records whose tasks ran, by these digests and some files; where what was there before is known to be so, and this verdict
-- accepts, the records are those of the store that is left
pub record TellsNews (Known : Directory → Type 0) (funcs : List (List ℕ × List ℕ)) (before after : Option Directory) (v : Verdict) (ran : List Task)
    (told : List Told) : Type 0 where
  pub rows : List TaskRecord
  pub files : List (List ℕ × List ℕ)
  pub tells : told ≡ news_in funcs rows files ran
  pub stored : (d : Directory) → before ≡ Some d → Known d → LeavesRowsIf v funcs rows after

-- so it is by the digests of the functions that the directory before has
pub record AreNews (Known : Directory → Type 0) (before after : Option Directory) (v : Verdict) (ran : List Task) (told : List Told) : Type 0 where
  pub funcs : List (List ℕ × List ℕ)
  pub digests : (d : Directory) → before ≡ Some d → HasDigests d funcs
  pub news : TellsNews Known funcs before after v ran told

-- the same of what a build with offers answers
abbrev pub TellsNewsOf : (Directory → Type 0) → List (List ℕ × List ℕ) → Option Directory → Option Directory → Answered → Type 0
TellsNewsOf Known funcs before after o = TellsNews Known funcs before after o.report.value.verdict o.report.value.ran.items (map as_told o.new.items)

-- and so with the digests of the directory
abbrev pub AreNewsOf : (Directory → Type 0) → Option Directory → Option Directory → Answered → Type 0
AreNewsOf Known before after o = AreNews Known before after o.report.value.verdict o.report.value.ran.items (map as_told o.new.items)

-- ---- what the parts say to each other

-- a project whose functions are typed and whose roots are tasks of them, in a directory that a build began from so
abbrev pub IsReadyFrom : Project → Option (Vec ℕ Global) → Directory → Type 0
IsReadyFrom p store d = IsReady p.typed p.roots.items × IsBegunFrom store d

-- the bytes of the file whose place is held for a path
abbrev pub bytes_by : List (List ℕ × Vec ℕ Global) → BTreeMap (List ℕ) ℕ → List ℕ → Option (List ℕ)
bytes_by files places path = option_and_then (λ i. option_map (λ f. f.1.items) (slice_get files i)) (get (slice_cmp nat_cmp) places path)

-- the keys of a set, as bytes
abbrev pub keys_in : List (Vec ℕ Global) → List (List ℕ)
keys_in keys = map (λ k. k.items) keys

-- what is told of a record by what is looked up
abbrev pub told_by : Lookup → TaskRecord → Option Told
told_by l = told_where (λ bytes. is_among bytes (keys_in l.ran.keys)) (get_by_text l.digests) (bytes_by l.files.now l.places)
