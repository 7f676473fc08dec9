-- The observations of a record, one after another.
use Rattle.std.proofs.Common.{◌≡◌, ◌⊎◌, inl, inr, ℕ, ◌+◌, ◌<◌, Bool, true, false, List, [], ◌∷◌, ◌++◌, length, drop, get_or, Some}
use Rattle.std.proofs.Common.{refl, sym, ap, subst, ◌∙◌, arith}
use Rattle.std.specs.Prelude.{IsTrue, ◌↔◌, Contains, slice_get}
use Rattle.std.proofs.lemmas.Option.{slice_get_within, get_or_from_slice_get}
use Rattle.std.proofs.lemmas.List.{map-append, drop_more}
use Rattle.std.proofs.lemmas.List.Elements.{All-push}
use Rattle.std.proofs.lemmas.Bool.{cases_order}
use Rattle.pie_value.specs.declared.stamp.Stamp.{Stamp}
use Rattle.pie_value.specs.declared.task.Task.{Task}
use Rattle.pie_graph.specs.declared.edges.TaskNo.{TaskNo}
use Rattle.pie_graph.specs.Numbers.{numbers, AllBelow}
use Rattle.pie_record.specs.declared.dep.Dep.{Dep}
use Rattle.pie_record.specs.declared.dep.DepKind.{DepKind}
use Rattle.pie_record.specs.declared.dep.DepOn.TheVariants.{File, Called}
use Rattle.pie_record.specs.inner.Names.{AreDistinct}
use Rattle.pie_record.specs.inner.Records.{record_of}
use Rattle.pie_compare.specs.inner.Standing.{Around, called_stamp, output_in, FileStands, OnStands, DepStands, DepsStand, Tells}

-- ---- required tasks

one_place : (names : List Task) → AreDistinct names → (i j : ℕ) (t : Task) → slice_get names i ≡ Some t → slice_get names j ≡ Some t → i ≡ j
one_place names apart i j t e f = by (cases_order i j)
  where
    same : get_or names i t ≡ get_or names j t
    same = get_or_from_slice_get names i t t e ∙ sym (get_or_from_slice_get names j t t f)

    by : (i ≡ j) ⊎ ((i < j) ⊎ (j < i)) → i ≡ j
    by (inl h) = h
    by (inr (inl l)) = absurd (apart i j t l (slice_get_within names j t f) same)
    by (inr (inr l)) = absurd (apart j i t l (slice_get_within names i t e) (sym same))

-- a number comes to the required ones
pub pushed : (required : List TaskNo) (number : TaskNo) (new : List TaskNo) → new ≡ required ++ number ∷ [] → numbers new ≡ numbers required ++ number.0 ∷ []
pushed required number new is = ap numbers is ∙ map-append (λ (t : TaskNo). t.0) required (number ∷ [])

pub pushed_below : (names : List Task) (bound : ℕ) (required : List TaskNo) (number : TaskNo) (new : List TaskNo) (task : Task) → length names ≡ bound
    → slice_get names number.0 ≡ Some task → new ≡ required ++ number ∷ [] → AllBelow bound (numbers required) → AllBelow bound (numbers new)
pushed_below names bound required number new task many at is below =
    subst (AllBelow bound) (sym (pushed required number new is))
    (All-push (λ n. n < bound) (numbers required) number.0 below (omega (arith, many, slice_get_within names number.0 task at)))

pub called_told : (a : Around) (required : List ℕ) (kind : DepKind) (task : Task)
    (stamp : Stamp) (stands : Bool) (k : ℕ) (after : List ℕ) → AreDistinct a.tables.names → slice_get a.tables.names k ≡ Some task → after ≡ required ++ k ∷ []
    → IsTrue stands ↔ (called_stamp kind (output_in (record_of a.tables.records k)) ≡ Some stamp)
    → Tells (OnStands a required kind (Called task) stamp) stands after
called_told a required kind task stamp stands k after apart at is tells = record {
  only = λ yes. (k, at, record { stamped = tells.0 yes }, is);
  each = λ other h.
      let same : h.0 ≡ k = one_place a.tables.names apart h.0 k task h.1 at in (
        tells.1 (subst (λ (j : ℕ). called_stamp kind (output_in (record_of a.tables.records j)) ≡ Some stamp) same h.2.stamped),
        h.3 ∙ ap (λ (j : ℕ). required ++ j ∷ []) same ∙ sym is,
      );
}

pub unknown_told : (a : Around) (required : List ℕ) (kind : DepKind) (task : Task)
    (stamp : Stamp) (after : List ℕ) → ¬ (Contains a.tables.names task) → Tells (OnStands a required kind (Called task) stamp) false after
unknown_told a required kind task stamp after unknown = record {
  only = λ yes. absurd (cc);
  each = λ other h. absurd (unknown (h.0, slice_get_within a.tables.names h.0 task h.1, get_or_from_slice_get a.tables.names h.0 task task h.1));
}

-- ---- files

pub file_told : (a : Around) (required : List ℕ) (kind : DepKind) (path : List ℕ)
    (stamp : Stamp) (stands : Bool) → IsTrue stands ↔ FileStands a required kind path stamp
    → Tells (OnStands a required kind (File path) stamp) stands required
file_told a required kind path stamp stands is = record {
  only = λ yes. (is.0 yes, refl);
  each = λ other h. (is.1 h.0, h.1);
}

-- ---- one after another

module _ (a : Around) where
  -- those so far stand, so all stand exactly where the others do after them
  pub goes_on : (deps : List Dep) (i : ℕ) (dep : Dep) (required after : List ℕ) → i < length deps → dep ≡ get_or deps i dep
      → Tells (DepStands a required dep) true after → DepsStand a [] deps ↔ DepsStand a required (drop i deps)
      → DepsStand a [] deps ↔ DepsStand a after (drop (i + 1) deps)
  goes_on deps i dep required after inside is tells before =
      let next : drop i deps ≡ dep ∷ drop (i + 1) deps =
      drop_more deps i dep inside ∙ ap (λ (d : Dep). d ∷ drop (i + 1) deps) (sym is) in (
        λ all. let h = subst (DepsStand a required) next (before.0 all) in
            subst (λ (b : List ℕ). DepsStand a b (drop (i + 1) deps)) (tells.each h.0 h.1).1 h.2,
        λ rest. before.1 (subst (DepsStand a required) (sym next) (after, tells.only refl, rest)),
      )
