use Rattle.std.proofs.Common.{ℕ, List, Vec, Global, sym, subst}
use Rattle.std.specs.Prelude.{All, IsTrue}
use Rattle.std.specs.List.Sorted.{IsStrictlySortedBy}
use Rattle.std.proofs.lemmas.List.Elements.{All-filter}
use Rattle.pie_base.specs.Path.{is_out}
use Rattle.pie_reach.specs.Plan.{path_cmp}
use Rattle.pie_diff.specs.Hashes.{is_new, files_paths}
use Rattle.pie_diff.proofs.Keeping.{order_filter}
use Rattle.pie_diff.proofs.written.writes.Goals as goal

pub returns-clause-order : goal.returns-clause-order
returns-clause-order c = λ h.
    subst (λ (l : List (List ℕ × Vec ℕ Global)). IsStrictlySortedBy path_cmp (files_paths l)) (sym c.keep_new.ensures)
    (order_filter (is_new c.args.held.now) c.args.files.items h)

pub returns-clause-out : goal.returns-clause-out
returns-clause-out c = λ h.
    subst (λ (l : List (List ℕ × Vec ℕ Global)). All (λ f. IsTrue (is_out f.0)) l) (sym c.keep_new.ensures)
    (All-filter (is_new c.args.held.now) (λ f. IsTrue (is_out f.0)) c.args.files.items h)
