-- There are too many tasks where a build starts afresh for that.
use Rattle.std.proofs.Common.{◌≡◌, ℕ, ◌≤◌, ◌-◌, Bool, true, length, sym, ap, ◌∙◌, subst, inl, arith}
use Rattle.std.specs.Prelude.{nat_le}
use Rattle.std.specs.List.{Contains}
use Rattle.std.proofs.lemmas.Bool.{leb-true}
use Rattle.pie_value.specs.declared.task.Task.{Task}
use Rattle.pie_store.specs.declared.cause.Cause.{Cause}
use Rattle.pie_store.specs.declared.cause.Cause.TheVariants.{UnionMany}
use Rattle.pie_graph.specs.Numbers.{IsMarked}
use Rattle.pie_walk.specs.Marks.{mark_of}
use Rattle.pie_walk.specs.Standing.{Stands}
use Rattle.pie_core_laws.specs.Exact.{runs}
use Rattle.pie_core_laws.specs.Update.{Update}
use Rattle.pie_task_laws.specs.Whole.{NoneIsNew}
use Rattle.pie_bottomup.specs.declared.state.Core.{Core}
use Rattle.pie_bottomup.specs.inner.Causes.{IsCauseOf, IsTried}
use Rattle.pie_bottomup.specs.inner.Exact.{IsExactCore}
use Rattle.pie_bottomup.specs.inner.Going.{build_of}
use Rattle.pie_bottomup.proofs.Overflowing.{too_many}

all_there : (n : ℕ) (full : Bool) → full ≡ nat_le 50000 n → full ≡ true → n ≤ 50000 → n ≡ 50000
all_there n full is held most = omega (arith, leb-true 50000 n (sym is ∙ held), most)

-- a task without a number would be one too many
pub full_cause : (u : Update) (c : Core) (t : Task) (cause : Cause) (full : Bool) → IsExactCore u c → full ≡ nat_le 50000 (length c.frames.walk.rows)
    → full ≡ true → length c.frames.walk.rows ≤ 50000 → (Contains c.tables.names t → ⊥)
    → cause ≡ UnionMany c.earlier (length c.frames.walk.rows - c.earlier) t → Stands c.frames.walk → NoneIsNew (build_of c)
    → ((n : ℕ) → runs (mark_of c.frames.walk.marks n) ≡ true → IsMarked c.tables.ran.items n) → IsTried u t → IsCauseOf u c cause
full_cause u c t cause full e is held most none same stands new marked tried =
    let all = all_there (length c.frames.walk.rows) full is held most in
    subst (IsCauseOf u c) (sym same) (
      inl (record {
        many = all;
        left = e.counted;
        came = ap (λ k. k - c.earlier) all ∙ ap (λ k. 50000 - k) e.counted;
        none = none;
      }),
      too_many u c e stands new marked t all none tried,
    )
