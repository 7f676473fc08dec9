-- The held paths that no record writes.
use Rattle.std.proofs.Common.{◌≡◌, ℕ, true, List, Option, Some, None, subst}
use Rattle.std.specs.Prelude.{IfSome, IsSome, IsTrue}
use Rattle.std.specs.List.{list_all, Contains}
use Rattle.std.proofs.lemmas.Cmp.{nat_list_cmp_total, eq_by_cmp_equiv}
use lib.ListN.{get_or}
use Rattle.std.proofs.lemmas.List.Elements.{All-contains_itself}
use Rattle.std.proofs.lemmas.List.Sums.{list_all-from_AllPass}
use Rattle.std.proofs.lemmas.Map.Lookups.{exact_bytes}
use Rattle.std.proofs.lemmas.Map.Views.{tells_apart, Contains-keys_from_lookup, IsSome-lookup_from_Contains}
use Rattle.pie_base.specs.Path.{is_out}
use Rattle.pie_record.specs.declared.task_record.TaskRecord.{TaskRecord}
use Rattle.pie_reach.specs.Plan.{IsPlan}
use Rattle.pie_diff.specs.Hashes.{held_at}
use Rattle.pie_diff.specs.Removals.{written_by, AreRemovals}
use Rattle.pie_diff.specs.inner.Held.{paths_in, AreOut}

held_of : (held : List (List ℕ × List ℕ)) (path : List ℕ) → Contains (paths_in held) path → IsSome (held_at held path)
held_of held path c = IsSome-lookup_from_Contains (eq_by_cmp_equiv nat_list_cmp_total) path held c

path_of : (held : List (List ℕ × List ℕ)) (path : List ℕ) → IsSome (held_at held path) → Contains (paths_in held) path
path_of held path h = Contains-keys_from_lookup (tells_apart exact_bytes) path held h

pub removals_of : (held : List (List ℕ × List ℕ)) (rows : List TaskRecord) (there kept found : List (List ℕ)) → there ≡ paths_in held
    → kept ≡ written_by rows → IsPlan there kept found → AreRemovals held rows found
removals_of held rows there kept found all written plan =
    let exact : IsPlan (paths_in held) (written_by rows) found =
    subst (λ k. IsPlan (paths_in held) k found) written (subst (λ t. IsPlan t kept found) all plan) in
    record {
      ordered = exact.ordered;
      only = λ q c. let both = exact.only q c in (held_of held q both.0, both.1);
      each = λ q h free. exact.each q (path_of held q h) free;
    }

is_true : {A : Type 0} (o : Option A) (P : Type 0) → IsSome o → IfSome o (λ _. P) → P
is_true None P h k = absurd (cc)
is_true (Some a) P h k = k

pub removals_out : (held : List (List ℕ × List ℕ)) (rows : List TaskRecord) (found : List (List ℕ)) → AreOut held → AreRemovals held rows found
    → list_all is_out found ≡ true
removals_out held rows found out gone =
    list_all-from_AllPass is_out found (λ k d lt.
    let path = get_or found k d in
    is_true (held_at held path) (IsTrue (is_out path)) (gone.only path (All-contains_itself found k d lt)).0 (out path))
