-- A build that makes nothing.
use Rattle.std.proofs.Common.{◌≡◌, ℕ, List, [], sym, subst, Vec, Global}
use Rattle.std.specs.Prelude.{IsTrue}
use Rattle.std.specs.List.Sorted.{IsStrictlySortedBy}
use Rattle.std.specs.Ordering.{nat_cmp}
use Rattle.std.specs.Cmp.Lexicographic.{slice_cmp}
use Rattle.std.specs.Prelude.{All}
use Rattle.std.proofs.lemmas.List.Elements.{All-nil}
use Rattle.pie_base.specs.Path.{is_out}
use Rattle.pie_record.specs.Canonical.{IsStorable}
use Rattle.pie_checks.specs.declared.built.Built.{Built}
use Rattle.pie_results.specs.inner.Files.{InPathOrder}
use Rattle.pie_results.specs.inner.Made.{IsKept}

sorted_nil : IsStrictlySortedBy (slice_cmp nat_cmp) []
unfolding IsStrictlySortedBy
sorted_nil = tt

pub empty_kept : (b : Built) → b.rows.items ≡ [] → b.files.items ≡ [] → IsKept b
empty_kept b rows files = record {
  rows = subst (All IsStorable) (sym rows) (All-nil IsStorable);
  files = subst (λ fs. InPathOrder fs) (sym files) (record { ascending = sorted_nil; out = All-nil (λ (f : List ℕ × Vec ℕ Global). IsTrue (is_out f.0)) });
}
