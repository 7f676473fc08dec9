-- What recorded tasks have in a build without a list, and what stays as tasks end.
use Rattle.std.proofs.Common.{◌≡◌, true, false, not, is_some, Option, Some, None, List, ◌⊎◌, inl, inr, sym, ◌∙◌, ap, subst, refl, bytes_eq}
use Rattle.pie_model.specs.Paths.{among}
use Rattle.pie_model.specs.Tasks.{Task}
use Rattle.pie_model.specs.Trees.{outcome_of, is_done}
use Rattle.pie_model.specs.Evaluation.{World, Project, evaluation}
use Rattle.pie_model.specs.Records.{Record, record_of, needs_of}
use Rattle.pie_model.specs.inner.RecordLaws.{Passes}
use Rattle.pie_model.specs.inner.Consistent.{IsRecorded, IsSettled}
use Rattle.pie_model.proofs.Basics.{clash, cases, bytes_same, same_bytes}
use Rattle.pie_model.proofs.LooksLemmas.{some_same}
use Rattle.pie_step_laws.specs.Table.{IsTable}
use Rattle.pie_step_laws.proofs.Tables.{none_some, reached_recorded, all_right}
use Rattle.pie_settle_laws.specs.Known.{AreCounted}
use Rattle.pie_topdown_laws.specs.Tables.{unrecorded, EndsIn, IsSettledTask}

-- a recorded task isn't without a record
pub not_unrecorded : (R : Task → Option Record) (t : Task) → IsRecorded R t → Passes (unrecorded R) t → ⊥
not_unrecorded R t k u = clash {A = ⊥} (unrecorded R t) u (ap (λ o. not (is_some o)) k.is)

pub is_unrecorded : (R : Task → Option Record) (t : Task) → R t ≡ None → Passes (unrecorded R) t
is_unrecorded R t e = ap (λ o. not (is_some o)) e

pub no_record : (R : Task → Option Record) (t : Task) → Passes (unrecorded R) t → R t ≡ None
no_record R t u = go (R t) refl
  where
    go : (o : Option Record) → R t ≡ o → R t ≡ None
    go None e = e
    go (Some r) e = absurd (not_unrecorded R t (record { kept = r; is = e }) u)

module _ (w : World) (P : Project) (R : Task → Option Record) (names : List Task) (T : IsTable w P R names) where
  pub settled_task : (t : Task) → IsRecorded R t → IsSettledTask w P R t
  settled_task t k = record {
    known = record { recorded = k; right = all_right w P R names T t k };
    settled = record { recorded = k; free = λ x q u. not_unrecorded R x (reached_recorded w P R names T q k) u };
  }

  pub counted : AreCounted w R names
  counted = record { few = T.few; each = T.counted }

  module _ (S : Task → Option Record) (t : Task) (r : Record) (E : EndsIn w P R S names t r) where
    -- a task with a record then is the one that ended, or had the record before
    pub which : (x : Task) (o : Record) → S x ≡ Some o → ((x ≡ t) × (o ≡ r)) ⊎ (R x ≡ Some o)
    which x o e = go (cases (bytes_eq x t))
      where
        go : (bytes_eq x t ≡ true) ⊎ (bytes_eq x t ≡ false) → ((x ≡ t) × (o ≡ r)) ⊎ (R x ≡ Some o)
        go (inl b) = let i = same_bytes x t b in
            inl (i, some_same o r (sym e ∙ ap S i ∙ E.changes.now))
        go (inr b) = inr (sym (E.changes.others x (λ i. clash (bytes_eq x t)
            (subst (λ z. bytes_eq x z ≡ true) i (bytes_same x)) b)) ∙ e)

    apart : (x : Task) → IsRecorded R x → x ≡ t → ⊥
    apart x k i = none_some {B = ⊥} (R x) k.kept (ap R i ∙ E.unrecorded) k.is

    pub still_recorded : (x : Task) → IsRecorded R x → IsRecorded S x
    still_recorded x k = record { kept = k.kept; is = E.changes.others x (apart x k) ∙ k.is }

    pub gains : IsTable w P S names
    gains = record {
      right = λ x o e. right x o (which x o e);
      done = λ x o e. done x o (which x o e);
      closed = λ x o u e i. closed x o u i (which x o e);
      counted = λ x o e. is_counted x o (which x o e);
      distinct = T.distinct;
      few = T.few;
    }
      where
        right : (x : Task) (o : Record) → ((x ≡ t) × (o ≡ r)) ⊎ (R x ≡ Some o) → o ≡ record_of w (evaluation w P x)
        right x o (inl e) = e.1 ∙ E.right ∙ ap (λ z. record_of w (evaluation w P z)) (sym e.0)
        right x o (inr e) = T.right x o e

        done : (x : Task) (o : Record) → ((x ≡ t) × (o ≡ r)) ⊎ (R x ≡ Some o) → is_done (outcome_of (evaluation w P x)) ≡ true
        done x o (inl e) = ap (λ z. is_done (outcome_of (evaluation w P z))) e.0 ∙ sym (ap (λ z. is_done z.outcome) E.right) ∙ E.done
        done x o (inr e) = T.done x o e

        closed : (x : Task) (o : Record) (u : Task) → among u (needs_of o.observations) ≡ true → ((x ≡ t) × (o ≡ r)) ⊎ (R x ≡ Some o) → IsRecorded S u
        closed x o u i (inl e) = still_recorded u (E.closed u (subst (λ z. among u (needs_of z.observations) ≡ true) e.1 i))
        closed x o u i (inr e) = still_recorded u (T.closed x o u e i)

        is_counted : (x : Task) (o : Record) → ((x ≡ t) × (o ≡ r)) ⊎ (R x ≡ Some o) → among x names ≡ true
        is_counted x o (inl e) = ap (λ z. among z names) e.0 ∙ E.entered
        is_counted x o (inr e) = T.counted x o e

pub settled_stays : (w : World) (P : Project) (R S : Task → Option Record) (names : List Task) (t : Task) (r : Record) → IsTable w P R names
    → EndsIn w P R S names t r → (u : Task) → IsSettled R (Passes (unrecorded R)) u → IsSettled S (Passes (unrecorded S)) u
settled_stays w P R S names t r T E u s =
    (settled_task w P S names (gains w P R names T S t r E) u (still_recorded w P R names T S t r E u s.recorded)).settled
