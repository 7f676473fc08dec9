-- What a build by what changed stores.
use Rattle.std.proofs.Common.{◌≡◌, ℕ, ◌≤◌, List, length, refl, sym, subst, ⊎_elim, arith}
use Rattle.std.specs.Prelude.{All, Contains, None}
use Rattle.std.proofs.lemmas.List.Elements.{All-weaker}
use Rattle.std.proofs.lemmas.List.Sorted.{Contains-permutation}
use Rattle.pie_bottomup.specs.declared.plan.Plan.{Plan}
use Rattle.pie_bottomup.specs.inner.Ended.{StoredIf}
use Rattle.pie_bottomup.specs.inner.Running.{IsKnown}
use Rattle.pie_bottomup.specs.inner.States.{IsPlanOf}
use Rattle.pie_build.specs.Stored.{MayStand}
use Rattle.pie_checks.specs.declared.built.Built.{Built}
use Rattle.pie_digest.specs.Digests.{function_names, HasNames}
use Rattle.pie_parser.specs.FunctionTrees.{FunctionTree}
use Rattle.pie_record.specs.Canonical.{IsStorable, IsTrueRecord}
use Rattle.pie_record.specs.declared.task_record.TaskRecord.{TaskRecord}
use Rattle.pie_results.specs.inner.Made.{IsKept}
use Rattle.pie_store.specs.Canonical.{names_of, tasks_in, AreFuncs, IsStorableStore}
use Rattle.pie_store.specs.Texts.{IsRow, IsStoreText}
use Rattle.pie_store.specs.declared.image.StoreImage.{StoreImage}
use Rattle.pie_store.proofs.WholeAgain.{text_sealed}
use Rattle.pie_value.specs.Canonical.{IsEncodableTask}
use Rattle.pie_value.specs.declared.task.Task.{Task}
use Rattle.pie_value.specs.declared.verdict.Verdict.{Verdict}
use Rattle.pie_value.specs.declared.verdict.Verdict.TheVariants.{Accepted, Refused}
use Rattle.pie_incremental.specs.declared.base.Base.{Base}
use Rattle.pie_incremental.specs.inner.Joined.{IsBase, IsDrafted, IsImage, IsMade, StandsIf}

-- a store of which there is a text can be begun from
pub image_of_text : (s : StoreImage) (bytes : List ℕ) → IsStoreText s bytes → IsImage s
image_of_text s bytes is = record {
  storable = All-weaker IsRow IsStorable (λ r row. row.storable) s.rows is.store.rows;
  parts = All-weaker IsRow IsTrueRecord (λ r row. row.parts) s.rows is.store.rows;
  order = is.store.order;
}

-- what the build before left can be begun from, where its store has this text
pub base_of_text : (b : Base) → IsStoreText b.image b.own.store.items → IsBase b
base_of_text b is = record { image = image_of_text b.image b.own.store.items is; text = text_sealed b.image b.own.store.items is }

module _ (fs : List FunctionTree) (funcs : List (List ℕ × List ℕ)) (roots : List Task) (p : Plan) (names : HasNames fs funcs) (plan : IsPlanOf fs funcs roots p) where
  -- a function of the plan has a digest
  has_digest : (t : Task) → IsKnown p t → Contains (names_of funcs) t.func
  has_digest t known =
      ⊎_elim
      (λ h. Contains-permutation (function_names fs) (names_of funcs) t.func names
      (subst (λ (gs : List FunctionTree). Contains (function_names gs) t.func) plan.typed h))
      (λ h. subst (λ (ds : List (List ℕ × List ℕ)). Contains (names_of ds) t.func) plan.digests h) known

  stands : (b : Built) → AreFuncs funcs → All IsEncodableTask roots → IsKept b → (v : Verdict) → StoredIf v p b → StandsIf v funcs roots b.rows.items
  stands b table small kept Accepted s = record {
    funcs = table;
    roots = small;
    few = s.few;
    rows = kept.rows;
    order = s.order;
    known = All-weaker (λ (r : TaskRecord). IsKnown p r.task) (λ (r : TaskRecord). Contains (names_of funcs) r.task.func) (λ r h. has_digest r.task h)
        b.rows.items s.known;
    closed = subst (λ (ts : List Task). All (λ (t : Task). Contains (tasks_in b.rows.items) t) ts) plan.roots s.closed;
  }
  stands b table small kept (Refused x) s = tt

-- what a settled build of a plan makes can be stored with the functions and the roots of the plan
pub made : (fs : List FunctionTree) (funcs : List (List ℕ × List ℕ)) (roots : List Task) (p : Plan) (b : Built) → HasNames fs funcs → AreFuncs funcs
    → All IsEncodableTask roots → IsPlanOf fs funcs roots p → IsKept b → StoredIf b.verdict p b → IsMade funcs roots b
made fs funcs roots p b names table small plan kept s = record { kept = kept; stands = stands fs funcs roots p names plan b table small kept b.verdict s }

-- a build stays that of its plan
pub plan_kept : (fs : List FunctionTree) (funcs : List (List ℕ × List ℕ)) (roots : List Task) (p q : Plan) → q ≡ p → IsPlanOf fs funcs roots p
    → IsPlanOf fs funcs roots q
plan_kept fs funcs roots p q same is = subst (IsPlanOf fs funcs roots) (sym same) is

-- the image of a store in version 2
abbrev image_of : List (List ℕ × List ℕ) → List Task → List TaskRecord → StoreImage
image_of funcs roots rows = record { version = 2; pipeline = None; funcs = funcs; roots = roots; rows = rows }

drafted : (funcs : List (List ℕ × List ℕ)) (roots : List Task) (rows : List TaskRecord) → MayStand funcs roots rows → IsDrafted (image_of funcs roots rows)
drafted funcs roots rows h = record { version = refl; table = refl; stands = h }

-- an image of parts that may stand together
pub drafts : (f funcs : List (List ℕ × List ℕ)) (t roots : List Task) (r rows : List TaskRecord) → f ≡ funcs → t ≡ roots → r ≡ rows
    → MayStand funcs roots rows → IsDrafted (image_of f t r)
drafts f funcs t roots r rows a b c h =
    subst (λ (x : List (List ℕ × List ℕ)). IsDrafted (image_of x t r)) (sym a)
    (subst (λ (x : List Task). IsDrafted (image_of funcs x r)) (sym b)
    (subst (λ (x : List TaskRecord). IsDrafted (image_of funcs roots x)) (sym c) (drafted funcs roots rows h)))

-- such an image can be stored where its roots are few enough
pub drafted_storable : (s : StoreImage) → IsDrafted s → length s.roots ≤ 4294967295 → IsStorableStore s
drafted_storable s d few = record {
  version = d.version;
  table = d.table;
  funcs = d.stands.funcs;
  few_roots = omega (arith, few);
  roots = d.stands.roots;
  few_rows = omega (arith, d.stands.few);
  rows = d.stands.rows;
  order = d.stands.order;
  known = d.stands.known;
  closed = d.stands.closed;
}
