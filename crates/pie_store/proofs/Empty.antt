-- The store of nothing can be stored.
use Rattle.std.proofs.Common.{◌≡◌, ◌<◌, ◌^◌, List, [], length, sym, subst, arith}
use Rattle.std.specs.Prelude.{All, Contains, None}
use Rattle.std.proofs.lemmas.List.Elements.{All-nil}
use Rattle.pie_value.specs.declared.task.Task.{Task}
use Rattle.pie_value.specs.Canonical.{IsEncodableTask}
use Rattle.pie_record.specs.declared.task_record.TaskRecord.{TaskRecord}
use Rattle.pie_record.specs.Canonical.{IsStorable}
use Rattle.pie_store.specs.declared.image.StoreImage.{StoreImage}
use Rattle.pie_store.specs.Canonical.{names_of, tasks_in, AreFuncs, AreInOrder, IsStorableStore}

no_funcs : AreFuncs []
no_funcs = record { few = omega arith; short = All-nil _; ascending = λ i j d lt in_list. absurd (omega (arith, in_list)) }

no_rows : AreInOrder []
no_rows = record {
  height = λ t. 0;
  heights = All-nil _;
  once = λ i j d lt in_list. absurd (omega (arith, in_list));
  earlier = λ i d lt. absurd (omega (arith, lt));
  ascending = λ i j d lt in_list. absurd (omega (arith, in_list));
}

pub empty_storable : (s : StoreImage) → s.version ≡ 2 → s.pipeline ≡ None → s.funcs ≡ [] → s.roots ≡ [] → s.rows ≡ [] → IsStorableStore s
empty_storable s v p f r w = record {
  version = v;
  table = p;
  funcs = subst AreFuncs (sym f) no_funcs;
  few_roots = subst (λ (l : List Task). length l < 2 ^ 32) (sym r) (omega arith);
  roots = subst (All IsEncodableTask) (sym r) (All-nil IsEncodableTask);
  few_rows = subst (λ (l : List TaskRecord). length l < 2 ^ 32) (sym w) (omega arith);
  rows = subst (All IsStorable) (sym w) (All-nil IsStorable);
  order = subst AreInOrder (sym w) no_rows;
  known = subst (All (λ (x : TaskRecord). Contains (names_of s.funcs) x.task.func)) (sym w) (All-nil _);
  closed = subst (All (λ (t : Task). Contains (tasks_in s.rows) t)) (sym r) (All-nil _);
}
