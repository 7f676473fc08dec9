-- A task that is reached stands no later than the one that reaches it.
use Rattle.std.proofs.Common.{ℕ, ◌≤◌, ◌<◌, List, slice_index, arith}
use Rattle.pie_graph.specs.Rows.{Row}
use Rattle.pie_reach.specs.inner.Reaches.{Reaches, IsAcyclic}
use Rattle.pie_reach.specs.inner.Reaches.Leads.{itself, step}
use Rattle.pie_order.specs.Places.{PlacesAgree}

module _ (rows : List Row) (places : List ℕ) (agrees : PlacesAgree rows places) where
  not_later : {a b : ℕ} → Reaches rows a b → slice_index places b ≤ slice_index places a
  not_later itself = omega arith
  not_later {a} {b} (step {b = m} calls more) =
      up (slice_index places b) (slice_index places m) (slice_index places a) (not_later more) (agrees.each a m calls)
    where
      up : (x y z : ℕ) → x ≤ y → y < z → x ≤ z
      up x y z p q = omega arith

  pub acyclic : IsAcyclic rows
  acyclic caller callee calls more =
      apart (slice_index places caller) (slice_index places callee) (not_later more) (agrees.each caller callee calls)
    where
      apart : (x y : ℕ) → x ≤ y → y < x → ⊥
      apart x y p q = omega arith
