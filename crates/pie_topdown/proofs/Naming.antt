-- Facts of tasks and their numbers.
use Rattle.std.proofs.Common.{◌≡◌, ℕ, List, Some, subst}
use Rattle.std.specs.Prelude.{slice_get, slice_index_or}
use Rattle.std.specs.List.{All}
use Rattle.std.proofs.lemmas.Option.{slice_get_within, get_or_from_slice_get}
use Rattle.pie_value.specs.declared.task.Task.{Task}
use Rattle.pie_value.specs.Canonical.{IsEncodableTask, IsCanonicalTask, enc_task}

-- a task of the tables has canonical bytes
pub named_encodable : (names : List Task) (n : ℕ) (t : Task) → All (λ (u : Task). IsCanonicalTask u (enc_task u)) names → slice_get names n ≡ Some t
    → IsEncodableTask t
named_encodable names n t all at =
    let here : IsCanonicalTask (slice_index_or names n t) (enc_task (slice_index_or names n t)) = all n t (slice_get_within names n t at) in
    (subst (λ (u : Task). IsCanonicalTask u (enc_task u)) (get_or_from_slice_get names n t t at) here).encodable
