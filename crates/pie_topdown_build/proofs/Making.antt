-- What a build without a list stores.
use Rattle.std.proofs.Common.{◌≡◌, ◌∙◌, ℕ, List, [], ◌++◌, Vec, Global, length, ap, sym, subst, arith}
use Rattle.std.specs.Prelude.{All, Contains, Option, None, Some, IfNone, IfSome}
use Rattle.std.proofs.lemmas.List.Elements.{All-nil, All-weaker}
use Rattle.std.proofs.lemmas.List.Sorted.{Contains-permutation}
use Rattle.pie_files.specs.Directory.{Directory}
use Rattle.pie_checks.specs.declared.built.Built.{Built}
use Rattle.pie_digest.specs.Digests.{function_names, HasNames}
use Rattle.pie_incremental.specs.declared.base.OwnFiles.{OwnFiles}
use Rattle.pie_incremental.specs.inner.Joined.{IsImage, IsMade, StandsIf}
use Rattle.pie_incremental.proofs.Storing.{image_of_text}
use Rattle.pie_parser.specs.FunctionTrees.{FunctionTree}
use Rattle.pie_record.specs.Canonical.{IsStorable, IsTrueRecord}
use Rattle.pie_record.specs.declared.task_record.TaskRecord.{TaskRecord}
use Rattle.pie_results.specs.inner.Made.{IsKept}
use Rattle.pie_store.specs.Canonical.{names_of, AreFuncs, AreInOrder}
use Rattle.pie_store.specs.Frame.{IsSealed}
use Rattle.pie_store.specs.Texts.{IsStoreText}
use Rattle.pie_store.specs.declared.image.StoreImage.{StoreImage}
use Rattle.pie_store.proofs.Empty.{empty_storable}
use Rattle.pie_store.proofs.WholeAgain.{text_sealed}
use Rattle.pie_topdown.specs.inner.Ended.{StoredIf}
use Rattle.pie_topdown.specs.inner.Roots.{Started}
use Rattle.pie_value.specs.Canonical.{IsEncodableTask}
use Rattle.pie_value.specs.declared.task.Task.{Task}
use Rattle.pie_value.specs.declared.verdict.Verdict.{Verdict}
use Rattle.pie_value.specs.declared.verdict.Verdict.TheVariants.{Accepted, Refused}
use Rattle.pie_topdown_build.specs.declared.base.Base.{Base}
use Rattle.pie_topdown_build.specs.inner.Anew.{IsNoBase}
use Rattle.pie_topdown_build.specs.inner.Bases.{IsBase, IsSealedIf, Quiet}

-- a store whose records stay can be begun from
pub image_kept : (s t : StoreImage) → t.rows ≡ s.rows → IsImage s → IsImage t
image_kept s t same is = record {
  storable = subst (All IsStorable) (sym same) is.storable;
  parts = subst (All IsTrueRecord) (sym same) is.parts;
  order = subst AreInOrder (sym same) is.order;
}

stands : (fs : List FunctionTree) (funcs : List (List ℕ × List ℕ)) (roots : List Task) (b : Built) → HasNames fs funcs → AreFuncs funcs
    → All IsEncodableTask roots → IsKept b → (v : Verdict) → StoredIf v fs roots b → StandsIf v funcs roots b.rows.items
stands fs funcs roots b names table small kept Accepted s = record {
  funcs = table;
  roots = small;
  few = s.few;
  rows = kept.rows;
  order = s.order;
  known = All-weaker (λ (r : TaskRecord). Contains (function_names fs) r.task.func) (λ (r : TaskRecord). Contains (names_of funcs) r.task.func)
      (λ r h. Contains-permutation (function_names fs) (names_of funcs) r.task.func names h) b.rows.items s.known;
  closed = s.closed;
}
stands fs funcs roots b names table small kept (Refused x) s = tt

-- what is made of a project can be stored with its functions and roots
pub made : (fs : List FunctionTree) (funcs : List (List ℕ × List ℕ)) (roots : List Task) (b : Built) → HasNames fs funcs → AreFuncs funcs
    → All IsEncodableTask roots → IsKept b → StoredIf b.verdict fs roots b → IsMade funcs roots b
made fs funcs roots b names table small kept s = record { kept = kept; stands = stands fs funcs roots b names table small kept b.verdict s }

-- a build that changes nothing before its end
pub quiet_then : (v : Verdict) (before mid after : Option Directory) → mid ≡ before → Quiet v mid after → Quiet v before after
quiet_then v before mid after same h = subst (λ m. Quiet v m after) same h

-- the store of nothing can be begun from
empty_image : (s : StoreImage) → s.version ≡ 2 → s.pipeline ≡ None → s.funcs ≡ [] → s.roots ≡ [] → s.rows ≡ [] → IsImage s
empty_image s version table funcs roots rows =
    let can = empty_storable s version table funcs roots rows in
    record { storable = can.rows; parts = subst (All IsTrueRecord) (sym rows) (All-nil IsTrueRecord); order = can.order }

-- so can a base that has it and no text
pub empty_base : (b : Base) → b.store ≡ None → b.image.version ≡ 2 → b.image.pipeline ≡ None → b.image.funcs ≡ [] → b.image.roots ≡ [] → b.image.rows ≡ []
    → IsBase b
empty_base b store version table funcs roots rows = record {
  image = empty_image b.image version table funcs roots rows;
  text = subst IsSealedIf (sym store) tt;
}

-- so can one whose store says what its text does
pub base_of_text : (b : Base) (text : Vec ℕ Global) → b.store ≡ Some text → IsStoreText b.image text.items → IsBase b
base_of_text b text store says = record {
  image = image_of_text b.image text.items says;
  text = subst IsSealedIf (sym store) (text_sealed b.image text.items says);
}

-- the bytes of the builder's own store end in the digest of the rest, where they are those of such a text, or none
pub own_sealed : (store : Option (Vec ℕ Global)) (own : OwnFiles) → IsSealedIf store → IfSome store (λ text. own.store ≡ text)
    → IfNone store (own.store.items ≡ []) → IsSealed own.store.items
own_sealed None own text some none = λ long. absurd (omega (arith, ap length none, long))
own_sealed (Some text) own is some none = subst (λ (v : Vec ℕ Global). IsSealed v.items) (sym some) is

-- a base without a store or a record
pub no_base_is : (b : Base) → b.store ≡ None → b.image.rows ≡ [] → IsNoBase b
no_base_is b store rows = record { store = store; rows = rows }

-- the tasks that were added to an empty list have canonical bytes
pub added_encodable : (old new : List Task) → old ≡ [] → Started old new → All IsEncodableTask new
added_encodable old new empty s = subst (All IsEncodableTask) (sym (s.is ∙ ap (λ (ts : List Task). ts ++ s.gained) empty)) s.encodable
