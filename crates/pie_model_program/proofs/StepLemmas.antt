-- One event keeps the stage.
use Rattle.std.proofs.Common.{ℕ, zero, suc, ◌≡◌, Option, Some, None, List, [], ◌∷◌, ◌++◌, sym, ◌∙◌, ap, subst, refl, append_assoc, append-nil}
use Rattle.pie_model.specs.Paths.{Path, kind_of}
use Rattle.pie_model.specs.Tasks.{Task}
use Rattle.pie_model.specs.declared.words.Look.{Look}
use Rattle.pie_model.specs.declared.words.How.{How}
use Rattle.pie_model.specs.declared.words.FaultKind.TheVariants.{Budget}
use Rattle.pie_model.specs.declared.words.Event.{Event}
use Rattle.pie_model.specs.declared.words.Event.TheVariants.{Done, Fail, LookAt, ListOf, Write, Require}
use Rattle.pie_model.specs.Trees.{Node, Trace, ends, needs, outcome_of, end_of, writes_of, entered_below}
use Rattle.pie_model.specs.declared.words.Seen.{Seen}
use Rattle.pie_model.specs.declared.words.Seen.TheVariants.{Nothing, Holds, Clashing}
use Rattle.pie_model.specs.declared.words.Outcome.{Outcome}
use Rattle.pie_model.specs.declared.words.Outcome.TheVariants.{Ended, Failed, Cycled, Many}
use Rattle.pie_model.specs.Evaluation.{World, Project, Progress, start, listing, on_seen, on_listing, on_outcome, on_event, follow}
use Rattle.pie_model.specs.Verdict.{found_absent, absent_here}
use Rattle.pie_model_program.specs.Written.{written_in, written_below, written_in_all, seen_by}
use Rattle.pie_model_program.specs.Steps.{Row, by_seen, by_listing, with_kid, by_outcome, by_event, step, IsStage, IsWhole, Keeps}
use Rattle.pie_model_program.proofs.SeenLemmas.{seen_visible}

pub written_in_all-end : (ns : List Node) (n : Node) → written_in_all (ns ++ n ∷ []) ≡ written_in_all ns ++ written_in n
written_in_all-end [] n = append-nil (written_in n)
written_in_all-end (x ∷ ns) n = ap (λ z. written_in x ++ z) (written_in_all-end ns n)
    ∙ sym (append_assoc (written_in x) (written_in_all ns) (written_in n))

module _ (w : World) (P : Project) (child : Task → Node) (t : Task) (start_tasks : List Task) (whole : Trace) where
  -- the stage with a rest in another form
  record At (T : Trace) (kids : List Node) (r : Row) : Type 0 where
    below_is : r.below ≡ written_in_all kids
    end : end_of whole ≡ end_of T
    written : writes_of whole ≡ r.own ++ writes_of T
    absent : found_absent whole ≡ r.absent ++ found_absent T
    below : written_below whole ≡ r.below ++ written_below T
    enters : entered_below whole start_tasks ≡ entered_below T r.entered

  abbrev going : Row → List Node → Progress
  going r kids = record { answers = r.answers; own = r.own; kids = kids }

  stage_of : (n : ℕ) (kids : List Node) (r : Row) → At (follow w P child t n (going r kids)) kids r → IsStage w P child t start_tasks whole n r
  stage_of n kids r a = record {
    kids = kids;
    below_is = a.below_is;
    end = a.end;
    written = a.written;
    absent = a.absent;
    below = a.below;
    enters = a.enters;
  }

  whole_of : (kids : List Node) (r : Row) (e : Outcome) → At (ends e) kids r → IsWhole start_tasks whole e r
  whole_of kids r e a = record {
    end = a.end;
    written = a.written ∙ append-nil r.own;
    absent = a.absent ∙ append-nil r.absent;
    below = a.below ∙ append-nil r.below;
    enters = a.enters;
  }

  module _ (n : ℕ) (kids : List Node) (r : Row) where
    go : Progress → Trace
    go = follow w P child t n

    seen_keeps : (l : Look) (p : Path) (s : Seen) → At (on_seen w t l p (going r kids) (follow w P child t n) s) kids r
        → Keeps w P child t start_tasks whole n (by_seen w t l p r s)
    seen_keeps l p Nothing a = record {
      kids = kids;
      below_is = a.below_is;
      end = a.end;
      written = a.written;
      absent = a.absent ∙ sym (append_assoc r.absent (absent_here p (kind_of p) Nothing) _);
      below = a.below;
      enters = a.enters;
    }
    seen_keeps l p (Holds b m) a = record {
      kids = kids;
      below_is = a.below_is;
      end = a.end;
      written = a.written;
      absent = a.absent;
      below = a.below;
      enters = a.enters;
    }
    seen_keeps l p Clashing a = record {
      end = a.end;
      written = a.written ∙ append-nil r.own;
      absent = a.absent ∙ append-nil r.absent;
      below = a.below ∙ append-nil r.below;
      enters = a.enters;
    }

    listing_keeps : (d : Path) (es : Option (List Path)) → At (on_listing t d (going r kids) (follow w P child t n) es) kids r
        → Keeps w P child t start_tasks whole n (by_listing t r es)
    listing_keeps d None a = record {
      end = a.end;
      written = a.written ∙ append-nil r.own;
      absent = a.absent ∙ append-nil r.absent;
      below = a.below ∙ append-nil r.below;
      enters = a.enters;
    }
    listing_keeps d (Some es) a = record {
      kids = kids;
      below_is = a.below_is;
      end = a.end;
      written = a.written;
      absent = a.absent;
      below = a.below;
      enters = a.enters;
    }

    outcome_keeps : (h : How) (u : Task) (kid : Node) (e : Outcome)
        → At (needs h u kid (on_outcome h (going r kids) kid (follow w P child t n) e)) kids r
        → Keeps w P child t start_tasks whole n (by_outcome h (with_kid r kid) e)
    outcome_keeps h u kid (Ended v) a = record {
      kids = kids ++ kid ∷ [];
      below_is = ap (λ z. z ++ written_in kid) a.below_is ∙ sym (written_in_all-end kids kid);
      end = a.end;
      written = a.written;
      absent = a.absent;
      below = a.below ∙ sym (append_assoc r.below (written_in kid) _);
      enters = a.enters;
    }
    outcome_keeps h u kid (Failed x k) a = record {
      end = a.end;
      written = a.written ∙ append-nil r.own;
      absent = a.absent ∙ append-nil r.absent;
      below = a.below ∙ ap (λ z. r.below ++ z) (append-nil (written_in kid));
      enters = a.enters;
    }
    outcome_keeps h u kid (Cycled ts) a = record {
      end = a.end;
      written = a.written ∙ append-nil r.own;
      absent = a.absent ∙ append-nil r.absent;
      below = a.below ∙ ap (λ z. r.below ++ z) (append-nil (written_in kid));
      enters = a.enters;
    }
    outcome_keeps h u kid Many a = record {
      end = a.end;
      written = a.written ∙ append-nil r.own;
      absent = a.absent ∙ append-nil r.absent;
      below = a.below ∙ ap (λ z. r.below ++ z) (append-nil (written_in kid));
      enters = a.enters;
    }

    event_keeps : (e : Event) → At (on_event w P child t (going r kids) (follow w P child t n) e) kids r
        → Keeps w P child t start_tasks whole n (by_event w P child t r e)
    event_keeps (Done v) a = whole_of kids r (Ended v) a
    event_keeps (Fail k) a = whole_of kids r (Failed t k) a
    event_keeps (LookAt l p) a =
        seen_keeps l p (seen_by P.file r.own r.below p (kind_of p))
        (subst (λ s. At (on_seen w t l p (going r kids) (follow w P child t n) s) kids r)
        (seen_visible P.file r.own r.below kids p (kind_of p) a.below_is) a)
    event_keeps (ListOf d) a = listing_keeps d (listing w P d) a
    event_keeps (Write p b) a = record {
      kids = kids;
      below_is = a.below_is;
      end = a.end;
      written = a.written ∙ sym (append_assoc r.own ((p, b) ∷ []) _);
      absent = a.absent;
      below = a.below;
      enters = a.enters;
    }
    event_keeps (Require h u) a = outcome_keeps h u (child u) (outcome_of (child u)) a

  pub step_keeps : (n : ℕ) (r : Row) → IsStage w P child t start_tasks whole (suc n) r → Keeps w P child t start_tasks whole n (step w P child t r)
  step_keeps n r s =
      event_keeps n s.kids r (P.next t r.answers)
      (record { below_is = s.below_is; end = s.end; written = s.written; absent = s.absent; below = s.below; enters = s.enters })

  -- without events left it is out of budget
  pub budget_keeps : (r : Row) → IsStage w P child t start_tasks whole zero r → IsWhole start_tasks whole (Failed t Budget) r
  budget_keeps r s = record {
    end = s.end;
    written = s.written ∙ append-nil r.own;
    absent = s.absent ∙ append-nil r.absent;
    below = s.below ∙ append-nil r.below;
    enters = s.enters;
  }

-- the stage at the start
pub stage_starts : (w : World) (P : Project) (child : Task → Node) (t : Task) (all : List Task) (n : ℕ)
    → IsStage w P child t all (follow w P child t n start) n (record { answers = []; own = []; absent = []; below = []; entered = all })
stage_starts w P child t all n = record { kids = []; below_is = refl; end = refl; written = refl; absent = refl; below = refl; enters = refl }
