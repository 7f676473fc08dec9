-- What is settled stays settled, at a finish and at a start.
use Rattle.std.proofs.Common.{ℕ, ◌≡◌, true, Option, Some, None, List, ◌⊎◌, inl, inr, sym, ◌∙◌, subst}
use Rattle.pie_model.specs.Paths.{Path, among}
use Rattle.pie_model.specs.Tasks.{Task}
use Rattle.pie_model.specs.Evaluation.{World, Project}
use Rattle.pie_model.specs.Records.{Record, needs_of}
use Rattle.pie_model.specs.StampNow.{Told}
use Rattle.pie_model.specs.Separate.{StampsSeparate, ListingsDiffer, NeverWritesWhatItSaw}
use Rattle.pie_model.specs.inner.Present.{Reaches}
use Rattle.pie_model.specs.inner.Present.Way.{here, along}
use Rattle.pie_model.specs.inner.Consistent.{IsRecorded, IsConsistent, IsSettled}
use Rattle.pie_model.specs.inner.Steps.{ChangesAt}
use Rattle.pie_model.proofs.Ways.{further}
use Rattle.pie_model.proofs.SettledLaw.{settled_known}
use Rattle.pie_step_laws.proofs.Tables.{none_some}
use Rattle.pie_settle_laws.specs.Known.{IsKnown}
use Rattle.pie_settle_laws.specs.Settled.{ReachesBusy}

-- what does not reach the task that changes is reached as before
unchanged_back : (R S : Task → Option Record) (t : Task) (new : Record) → ChangesAt R S t new → {x u : Task} → Reaches S u x → (Reaches R u t → ⊥)
    → Reaches R u x
unchanged_back R S t new change here f = here
unchanged_back R S t new change {x} {u} (along {b = v} {r = r} e i q) f =
    let k : R u ≡ Some r = sym (change.others u (λ z. f (subst (λ y. Reaches R u y) z here))) ∙ e in
    along k i (unchanged_back R S t new change q (λ way. f (along k i way)))

pub finish_spares : (R S : Task → Option Record) (t : Task) (new : Record) (busy busy_after : Task → Type 0) → ChangesAt R S t new → busy t
    → ((x : Task) → busy_after x → ReachesBusy R busy x) → (u : Task) → IsSettled R busy u → IsSettled S busy_after u
finish_spares R S t new busy after change b f u s = record {
  recorded = record { kept = s.recorded.kept; is = change.others u (λ z. apart (subst (λ y. Reaches R u y) z here)) ∙ s.recorded.is };
  free = λ x q i. by x (unchanged_back R S t new change q apart) (f x i);
}
  where
    apart : Reaches R u t → ⊥
    apart q = s.free t q b

    by : (x : Task) → Reaches R u x → ReachesBusy R busy x → ⊥
    by x q h = s.free h.found (further q h.reaches) h.is_busy

-- what a recorded task reaches is recorded, where requires are closed
pub closed_reach : (R : Task → Option Record)
    → ((t : Task) (r : Record) (u : Task) → R t ≡ Some r → among u (needs_of r.observations) ≡ true → IsRecorded R u)
    → {x u : Task} → Reaches R u x → IsRecorded R u → IsRecorded R x
closed_reach R closed here k = k
closed_reach R closed {x} {u} (along {b = v} {r = r} e i q) k = closed_reach R closed q (closed u r v e i)

pub start_spares : (R : Task → Option Record) (busy busy_after : Task → Type 0)
    → ((t : Task) (r : Record) (u : Task) → R t ≡ Some r → among u (needs_of r.observations) ≡ true → IsRecorded R u)
    → ((x : Task) → busy_after x → busy x ⊎ (R x ≡ None)) → (u : Task) → IsSettled R busy u → IsSettled R busy_after u
start_spares R busy after closed f u s = record { recorded = s.recorded; free = λ x q i. by x q (f x i) }
  where
    by : (x : Task) → Reaches R u x → busy x ⊎ (R x ≡ None) → ⊥
    by x q (inl i) = s.free x q i
    by x q (inr e) = let k = closed_reach R closed q s.recorded in none_some (R x) k.kept e k.is

-- what is reached from a closed set of tasks is in it
chosen_reach : (R : Task → Option Record) (chosen : Task → Type 0)
    → ((t : Task) (r : Record) (u : Task) → chosen t → R t ≡ Some r → among u (needs_of r.observations) ≡ true → chosen u)
    → {x u : Task} → Reaches R u x → chosen u → chosen x
chosen_reach R chosen closed here k = k
chosen_reach R chosen closed {x} {u} (along {b = v} {r = r} e i q) k = chosen_reach R chosen closed q (closed u r v k e i)

pub closed_settled : (R : Task → Option Record) (busy chosen : Task → Type 0) → ((t : Task) → chosen t → IsRecorded R t)
    → ((t : Task) → chosen t → busy t → ⊥)
    → ((t : Task) (r : Record) (u : Task) → chosen t → R t ≡ Some r → among u (needs_of r.observations) ≡ true → chosen u)
    → (t : Task) → chosen t → IsSettled R busy t
closed_settled R busy chosen recorded calm closed t k =
    record { recorded = recorded t k; free = λ x q b. calm x (chosen_reach R chosen closed q k) b }

-- a settled task is known
pub is_known : (w : World) (old now : Project) (Met : List ℕ → Type 0) (R : Task → Option Record) (told : List Task → Path → Told) (held : List Task)
    (rank : Task → ℕ) (busy : Task → Type 0) → IsConsistent w old now Met R told held rank busy → StampsSeparate w old now Met → ListingsDiffer w
    → ((t : Task) → NeverWritesWhatItSaw (old.next t)) → (t : Task) → IsSettled R busy t → IsKnown w now R t
is_known w old now Met R told held rank busy c sep differ manners t s =
    let k = settled_known w old now Met R told held rank busy c sep differ manners t s in record { recorded = k.recorded; right = k.right }
