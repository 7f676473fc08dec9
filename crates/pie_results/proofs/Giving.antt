-- The outputs of roots, one after another.
use Rattle.std.proofs.Common.{◌≡◌, ℕ, ◌+◌, ◌<◌, ◌≤◌, List, [], ◌∷◌, ◌++◌, length, get_or, take, map, sym, ap, subst, ◌∙◌, refl}
use Rattle.std.specs.Prelude.{All}
use Rattle.std.proofs.lemmas.List.{map-append, take_all, take_more}
use Rattle.std.proofs.lemmas.List.Elements.{All-nil, All-push}
use Rattle.pie_value.specs.declared.task.Task.{Task}
use Rattle.pie_value.specs.declared.value.Value.{Value}
use Rattle.pie_record.specs.declared.records.Records.{Records}
use Rattle.pie_results.specs.inner.Outputs.{AreOutputs, GainsOutput, IsDone, IsOutput}

pub outputs_none : (names : List Task) (records : Records) → AreOutputs names records [] []
outputs_none names records = record { tasks = refl; each = All-nil (IsOutput names records) }

pub outputs_more : (names : List Task) (records : Records) (roots : List Task) (i : ℕ) (t : Task) (old new : List (Task × Value)) → i < length roots
    → t ≡ get_or roots i t → GainsOutput names records t old new → AreOutputs names records (take i roots) old
    → AreOutputs names records (take (i + 1) roots) new
outputs_more names records roots i t old new l e gains are = record {
  tasks = ap (map (λ (o : Task × Value). o.0)) gains.is ∙ map-append (λ (o : Task × Value). o.0) old ((t, gains.output) ∷ [])
      ∙ ap (λ (ts : List Task). ts ++ t ∷ []) are.tasks ∙ ap (λ (u : Task). take i roots ++ u ∷ []) e ∙ sym (take_more roots i t l);
  each = subst (All (IsOutput names records)) (sym gains.is) (All-push (IsOutput names records) old (t, gains.output) are.each gains.gives);
}

pub outputs_all : (names : List Task) (records : Records) (roots : List Task) (i : ℕ) (outputs : List (Task × Value)) → length roots ≤ i
    → AreOutputs names records (take i roots) outputs → AreOutputs names records roots outputs
outputs_all names records roots i outputs l are = subst (λ (ts : List Task). AreOutputs names records ts outputs) (take_all i roots l) are

pub done_at : (names : List Task) (records : Records) (roots : List Task) (i : ℕ) (t : Task) → i < length roots → t ≡ get_or roots i t
    → All (IsDone names records) roots → IsDone names records t
done_at names records roots i t l e done = subst (IsDone names records) (sym e) (done i t l)
