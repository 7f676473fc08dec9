-- Which files of the cache a build with the record cache leaves as they were.
use Rattle.std.specs.Prelude.{◌≡◌, ◌⊎◌, ℕ, true, cond, List, ◌++◌, map, Contains, Option, None, Some, IfSome, codes, is_some}
use Rattle.sha2.specs.Sha256.{sha256}
use Rattle.hex.specs.Hex.{encode_lower}
use Rattle.pie_files.specs.Directory.{Directory, file_at}
use Rattle.pie_project.specs.Digested.{HasDigests}
use Rattle.pie_value.specs.Canonical.{enc_task}
use Rattle.pie_value.specs.declared.task.Task.{Task}
use Rattle.pie_value.specs.declared.verdict.Verdict.{Verdict}
use Rattle.pie_value.specs.declared.verdict.Verdict.TheVariants.{Accepted, Refused}
use Rattle.pie_cached.specs.Cached.{is_cached}

-- the gate, which stands while files of the cache are written
abbrev pub gate_path : List ℕ
gate_path = codes ".pie/cache/open"

-- the file at a path of the cache once it was opened: where the gate stood, none is left
abbrev pub opened_file : Directory → List ℕ → Option (List ℕ × ℕ)
opened_file d path = cond (is_some (file_at d gate_path)) None (file_at d path)

-- the path of a task's cache file: the SHA-256 of the digest of its function and its canonical bytes, in lower-case hexadecimal digits
abbrev pub cache_file : Task → List ℕ → List ℕ
cache_file t digest = codes ".pie/cache/" ++ encode_lower (sha256 (digest ++ enc_task t))

-- a path is that of the cache file of a task that ran, by a digest of its function in a directory; tasks are told apart by their canonical bytes
pub record IsFileOfRan (d : Directory) (ran : List Task) (path : List ℕ) : Type 0 where
  pub task : Task
  pub ran_too : Contains (map enc_task ran) (enc_task task)
  pub funcs : List (List ℕ × List ℕ)
  pub digests : HasDigests d funcs
  pub digest : List ℕ
  pub listed : Contains funcs (task.func, digest)
  pub is : path ≡ cache_file task digest

-- after an accepted build each file of the cache is as once it was opened, but for those of tasks that ran; after a refused one all are
abbrev pub KeepsFiles : Verdict → List Task → Directory → Directory → Type 0
KeepsFiles Accepted ran d left = (path : List ℕ) → is_cached path ≡ true → (file_at left path ≡ opened_file d path) ⊎ IsFileOfRan d ran path
KeepsFiles (Refused x) ran d left = (path : List ℕ) → is_cached path ≡ true → file_at left path ≡ opened_file d path

-- so it is where the directory is told
abbrev pub KeepsCached : Verdict → List Task → Option Directory → Option Directory → Type 0
KeepsCached v ran before after = IfSome before (λ d. (left : Directory) × (after ≡ Some left) × KeepsFiles v ran d left)
