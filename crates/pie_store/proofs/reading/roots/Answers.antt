use Rattle.std.proofs.Common.{◌≡◌, ℕ, List, Vec, Global, sym, ap, ◌∙◌}
use Rattle.pie_value.specs.declared.task.Task.{Task}
use Rattle.std.proofs.lemmas.List.Elements.{All-push}
use Rattle.pie_store.specs.Ranks.{IsStored}
use Rattle.pie_store.specs.inner.Reading.{next_root, list_at}
use Rattle.pie_store.proofs.Turns.{one_more, list_fails, fault_goes}
use Rattle.pie_store.proofs.reading.roots.Goals as goal

pub returns-in-Err-clause-roots : goal.returns-in-Err-clause-roots
returns-in-Err-clause-roots c =
    let next = next_root c.args.end in
    let same : next c.loop.roots.items c.loop.reader ≡ next c.as_slice.result.now c.loop.reader =
    ap (λ (l : List (Task × ℕ)). next l c.loop.reader) (sym c.as_slice.ensures.value) in
    fault_goes (λ x. x) (λ (xs : Vec (Task × ℕ) Global). xs.items) c.in-Err.fault _ _ (next c.as_slice.result.now c.loop.reader)
    (list_at c.args.end next c.args.reader.now)
    (λ e. list_fails c.args.end next _ _ _ _ _ _ _ c.loop-test.true c.in_ok-count.ensures.read c.loop.invariant.0 (same ∙ e)) c.in-Err.ensures.root

pub loop-preserved : goal.loop-preserved
loop-preserved c =
    let next = next_root c.args.end in
    let same : next c.loop.roots.items c.loop.reader ≡ next c.as_slice.result.now c.loop.reader =
    ap (λ (l : List (Task × ℕ)). next l c.loop.reader) (sym c.as_slice.ensures.value) in
    rw c.in_ok-push-in-Ok.ensures.items (
      sym (one_more next _ _ _ _ _ _ c.loop-test.true (same ∙ c.in-Ok.ensures.root)) ∙ c.loop.invariant.0,
      All-push (λ (r : Task × ℕ). IsStored r.0) c.loop.roots.items c.in-Ok.root c.loop.invariant.1 c.in-Ok.ensures.stored,
    )
