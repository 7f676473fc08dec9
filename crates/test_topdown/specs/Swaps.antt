-- Offers with another content.
use Rattle.std.specs.Prelude.{ℕ, List, [], ◌∷◌}
use Rattle.pie_store.specs.inner.Offers.{Offered}

-- the same record with this content alone
abbrev pub swapped_by : List ℕ → Offered → Offered
swapped_by content o = (o.0, content ∷ [])
