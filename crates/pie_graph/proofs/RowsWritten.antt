-- Rows of what was written alone.
use Rattle.std.proofs.Common.{◌≡◌, ℕ, List, map, sym, subst}
use Rattle.std.proofs.Math.ListN as at
use Rattle.pie_graph.specs.Numbers.{Exactly}
use Rattle.pie_graph.specs.Alone.{written}
use Rattle.pie_graph.specs.Rows.{Row, row_at, no_edges, Writes}
use Rattle.pie_graph.specs.Uses.{Has}
use Rattle.pie_graph.specs.declared.uses.Use.TheVariants as use_as

pub written_at : (rows : List Row) (n : ℕ) → row_at (map written rows) n ≡ written (row_at rows n)
written_at rows n = at.get_or-map written rows n no_edges

-- those that wrote a path are the same
pub writers_same : (rows : List Row) (path : List ℕ) (found : List ℕ) → Exactly (λ k. Has (row_at (map written rows) k) (use_as.Writes path)) found
    → Exactly (λ k. Writes rows k path) found
writers_same rows path found x = record {
  ascending = x.ascending;
  only = λ n h. subst (λ (row : Row). Has row (use_as.Writes path)) (written_at rows n) (x.only n h);
  each = λ n h. x.each n (subst (λ (row : Row). Has row (use_as.Writes path)) (sym (written_at rows n)) h);
}
