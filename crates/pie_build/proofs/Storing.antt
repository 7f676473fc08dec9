-- What a clean build stores.
use Rattle.std.proofs.Common.{◌≡◌, ℕ, ◌<◌, ◌^◌, List, length, Option, Some, None, Result, Ok, Err, Vec, Global, refl, sym, subst, arith}
use Rattle.std.specs.Prelude.{Contains, IfSome, IfOk}
use Rattle.std.proofs.lemmas.List.Elements.{All-weaker}
use Rattle.std.proofs.lemmas.List.Sorted.{Contains-permutation}
use Rattle.pie_base.specs.declared.memory.OutOfMemory.{OutOfMemory}
use Rattle.pie_checks.specs.declared.built.Built.{Built}
use Rattle.pie_digest.specs.Digests.{function_names, HasNames}
use Rattle.pie_files.proofs.Reading.{if_two}
use Rattle.pie_files.specs.Directory.{Directory}
use Rattle.pie_fresh.specs.inner.Builds.{IsKept, IsStored, StoredWhere}
use Rattle.pie_parser.specs.FunctionTrees.{FunctionTree}
use Rattle.pie_project.specs.declared.fault.BuildError.{BuildError}
use Rattle.pie_project.specs.declared.project.Project.{Project}
use Rattle.pie_project.specs.Digested.{HasDigests}
use Rattle.pie_project.specs.Fronts.{ProjectSays}
use Rattle.pie_project.specs.inner.Projects.{front_of}
use Rattle.pie_record.specs.declared.task_record.TaskRecord.{TaskRecord}
use Rattle.pie_report.specs.declared.report.Report.{Report}
use Rattle.pie_store.specs.declared.image.StoreImage.{StoreImage}
use Rattle.pie_store.specs.Canonical.{names_of, AreFuncs, IsStorableStore}
use Rattle.pie_store.specs.Texts.{IsStoreText}
use Rattle.pie_value.specs.declared.task.Task.{Task}
use Rattle.pie_value.specs.declared.verdict.Verdict.{Verdict}
use Rattle.pie_value.specs.declared.verdict.Verdict.TheVariants.{Accepted}
use Rattle.pie_build.specs.Left.{Leaves}
use Rattle.pie_build.specs.inner.Projects.{LeavesFor}
use Rattle.pie_build.specs.Stored.{MayStand, IsStoreOf}

-- the records of an accepted build may stand in a store with its functions and roots
pub may_stand : (fs : List FunctionTree) (funcs : List (List ℕ × List ℕ)) (roots : List Task) (b : Built) → HasNames fs funcs → AreFuncs funcs
    → IsKept b → b.verdict ≡ Accepted → StoredWhere b.verdict fs roots b → MayStand funcs roots b.rows.items
may_stand fs funcs roots b names table kept is stored =
    let s : IsStored fs roots b = subst (λ (x : Verdict). StoredWhere x fs roots b) is stored in record {
      funcs = table;
      roots = s.roots;
      few = s.few;
      rows = kept.rows;
      order = s.order;
      known = All-weaker (λ (r : TaskRecord). Contains (function_names fs) r.task.func) (λ (r : TaskRecord). Contains (names_of funcs) r.task.func)
          (λ r h. Contains-permutation (function_names fs) (names_of funcs) r.task.func names h) b.rows.items s.known;
      closed = s.closed;
    }

-- the image of a store in version 2
abbrev image_of : List (List ℕ × List ℕ) → List Task → List TaskRecord → StoreImage
image_of funcs roots rows = record { version = 2; pipeline = None; funcs = funcs; roots = roots; rows = rows }

storable_so : (funcs : List (List ℕ × List ℕ)) (roots : List Task) (rows : List TaskRecord) → length roots < 2 ^ 32 → MayStand funcs roots rows
    → IsStorableStore (image_of funcs roots rows)
storable_so funcs roots rows few h = record {
  version = refl;
  table = refl;
  funcs = h.funcs;
  few_roots = few;
  roots = h.roots;
  few_rows = omega (arith, h.few);
  rows = h.rows;
  order = h.order;
  known = h.known;
  closed = h.closed;
}

-- an image of parts that may stand in a store can be stored
pub storable : (f funcs : List (List ℕ × List ℕ)) (t roots : List Task) (r rows : List TaskRecord) → f ≡ funcs → t ≡ roots → r ≡ rows
    → length roots < 2 ^ 32 → MayStand funcs roots rows → IsStorableStore (image_of f t r)
storable f funcs t roots r rows a b c few h =
    subst (λ (x : List (List ℕ × List ℕ)). IsStorableStore (image_of x t r)) (sym a)
    (subst (λ (x : List Task). IsStorableStore (image_of funcs x r)) (sym b)
    (subst (λ (x : List TaskRecord). IsStorableStore (image_of funcs roots x)) (sym c) (storable_so funcs roots rows few h)))

-- the text of such an image is that of a store with these parts
pub store_of : (f funcs : List (List ℕ × List ℕ)) (t roots : List Task) (r rows : List TaskRecord) (result : Result (Vec ℕ Global) OutOfMemory)
    → f ≡ funcs → t ≡ roots → r ≡ rows → IfOk result (λ bytes. IsStoreText (image_of f t r) bytes.items)
    → IfOk result (λ text. IsStoreOf funcs roots rows text.items)
store_of f funcs t roots r rows (Ok bytes) a b c h = record { image = image_of f t r; text = h; no_digest = refl; funcs = a; roots = b; rows = c }
store_of f funcs t roots r rows (Err e) a b c h = tt

-- what a build of the project of a directory leaves
pub project_leaves : (before mid after : Option Directory) (p : Project) (result : Result Report BuildError)
    → IfSome before (λ d. ProjectSays d (Ok (front_of p))) → IfSome before (λ d. HasDigests d p.digests.items) → HasNames p.typed p.digests.items
    → mid ≡ before → IfSome mid (λ d. IfOk result (λ r. LeavesFor p d r after))
    → IfSome before (λ d. IfOk result (λ r. Leaves d r after))
project_leaves None mid after p result says digests names same h = tt
project_leaves (Some d) mid after p (Err e) says digests names same h = tt
project_leaves (Some d) mid after p (Ok r) says digests names same h = (
  p.digests.items,
  p.roots.items,
  record { functions = p.typed; says = says; names = names; digests = digests },
  subst (λ m. IfSome m (λ d. LeavesFor p d r after)) same h,
)

-- what a build of the functions and roots of a directory's project leaves
pub project_left : (before mid : Option Directory) (p : Project) → IfSome before (λ d. ProjectSays d (Ok (front_of p)))
    → IfSome before (λ d. HasDigests d p.digests.items) → HasNames p.typed p.digests.items → mid ≡ before
    → IfSome mid (λ d. (r : Report) (after : Option Directory) → LeavesFor p d r after → Leaves d r after)
project_left before mid p says digests names same =
    subst (λ m. IfSome m (λ d. (r : Report) (after : Option Directory) → LeavesFor p d r after → Leaves d r after)) (sym same)
    (if_two (λ d. ProjectSays d (Ok (front_of p))) (λ d. HasDigests d p.digests.items)
    (λ d. (r : Report) (after : Option Directory) → LeavesFor p d r after → Leaves d r after) before
    (λ d a b r after left. (
      p.digests.items,
      p.roots.items,
      record { functions = p.typed; says = a; names = names; digests = b },
      left,
    )) says digests)
