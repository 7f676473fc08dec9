-- How the stack changes.
use Rattle.std.proofs.Common.{ℕ, suc, ◌<◌, ◌≡◌, true, false, Option, None, List, [], ◌∷◌, ◌++◌, length, ◌⊎◌, inl, inr, sym, ◌∙◌, ap, subst, refl, arith}
use Rattle.pie_model.specs.Paths.{among}
use Rattle.pie_model.specs.Tasks.{Task}
use Rattle.pie_model.specs.declared.words.How.{How}
use Rattle.pie_model.specs.declared.words.Event.TheVariants.{Require}
use Rattle.pie_model.specs.Records.{Record}
use Rattle.pie_model.specs.inner.RecordLaws.{Passes}
use Rattle.pie_model.specs.inner.Consistent.{IsSettled}
use Rattle.pie_model.specs.inner.Stack.{Frame, tasks_of}
use Rattle.pie_model.proofs.Basics.{clash, among_here, among_there, among_left, among_right, among_split}
use Rattle.pie_step_laws.specs.Table.{IsTable}
use Rattle.pie_step_laws.specs.Frames.{begun, set_aside}
use Rattle.pie_step_laws.proofs.Tables.{new_unrecorded}
use Rattle.pie_settle_laws.specs.Going.{AreBusy, before_wait}
use Rattle.pie_settle_laws.proofs.Goings.{base_begins, new_begins, still_waits, still_going}
use Rattle.pie_topdown_laws.specs.Tables.{unrecorded, EndsIn}
use Rattle.pie_topdown_laws.specs.Checks.{Setting, GoesOn, AreUnderWay}
use Rattle.pie_topdown_laws.specs.Stacks.{AllGo, IsStack}
use Rattle.pie_topdown_laws.proofs.Tabling.{is_unrecorded, no_record, settled_stays}

module _ (x : Setting) (R : Task → Option Record) (names : List Task) where
  -- one more task under way
  one_more : (ts : List Task) (u : Task) → AreUnderWay R names ts → R u ≡ None → AreUnderWay R (names ++ u ∷ []) (u ∷ ts)
  one_more ts u B e = record {
    each = λ t i. unrecorded_one t (among_split t u ts i);
    counted = λ t i. counted_one t (among_split t u ts i);
  }
    where
      unrecorded_one : (t : Task) → (t ≡ u) ⊎ (among t ts ≡ true) → Passes (unrecorded R) t
      unrecorded_one t (inl q) = is_unrecorded R t (ap R q ∙ e)
      unrecorded_one t (inr i) = B.each t i

      counted_one : (t : Task) → (t ≡ u) ⊎ (among t ts ≡ true) → among t (names ++ u ∷ []) ≡ true
      counted_one t (inl q) = among_right t names (u ∷ []) (subst (λ z. among z (u ∷ []) ≡ true) (sym q) (among_here u []))
      counted_one t (inr i) = among_left t names (u ∷ []) (B.counted t i)

  pub begins : (root : Task) → IsTable x.world x.now R names → among root names ≡ false → length names < x.world.most_tasks
      → IsStack x R (names ++ root ∷ []) root [] (begun x.world root)
  begins root T new few = record {
    goes = base_begins x.world x.now R (Passes (unrecorded R)) root (some (length names) x.world.most_tasks few);
    below = tt;
    under_way = one_more [] root (record { each = λ t i. clash false i refl; counted = λ t i. clash false i refl })
        (new_unrecorded x.world x.now R names T root new);
  }
    where
      some : (a b : ℕ) → a < b → 0 < b
      some a b h = omega arith

  module _ (root : Task) (fs : List Frame) (f : Frame) (K : IsStack x R names root fs f) where
    pub grows : (n : ℕ) (h : How) (u : Task) → IsTable x.world x.now R names → f.left ≡ suc n → x.now.next f.task f.progress.answers ≡ Require h u
        → among u names ≡ false → length names < x.world.most_tasks → IsStack x R (names ++ u ∷ []) root (set_aside f n ∷ fs) (begun x.world u)
    grows n h u T l q new few = record {
      goes = new_begins x.world x.now R (Passes (unrecorded R)) root fs f K.goes names K.under_way n h u l q new few;
      below = (still_waits x.world x.now R (Passes (unrecorded R)) root fs f K.goes n l, K.below);
      under_way = one_more (tasks_of (f ∷ fs)) u K.under_way (new_unrecorded x.world x.now R names T u new);
    }

    pub goes_on : (g : Frame) → g.task ≡ f.task → GoesOn x R root fs g → IsStack x R names root fs g
    goes_on g e G = record {
      goes = G;
      below = K.below;
      under_way = subst (λ z. AreBusy (Passes (unrecorded R)) names (z ∷ tasks_of fs)) (sym e) K.under_way;
    }

  pub falls : (root : Task) (fs : List Frame) (g f : Frame) → IsStack x R names root (g ∷ fs) f → IsStack x R names root fs (before_wait g)
  falls root fs g f K = record {
    goes = K.below.0;
    below = K.below.1;
    under_way = record {
      each = λ t i. K.under_way.each t (among_there t f.task (g.task ∷ tasks_of fs) i);
      counted = λ t i. K.under_way.counted t (among_there t f.task (g.task ∷ tasks_of fs) i);
    };
  }

  all_stay : (S : Task → Option Record) → ((u : Task) → IsSettled R (Passes (unrecorded R)) u → IsSettled S (Passes (unrecorded S)) u)
      → (root : Task) (fs : List Frame) → AllGo x R root fs → AllGo x S root fs
  all_stay S k root [] G = tt
  all_stay S k root (g ∷ gs) G =
      (still_going x.world x.now R S (Passes (unrecorded R)) (Passes (unrecorded S)) root gs (before_wait g) k G.0, all_stay S k root gs G.1)

  pub gains_one : (S : Task → Option Record) (root : Task) (fs : List Frame) (g f : Frame) (r : Record) → IsTable x.world x.now R names
      → EndsIn x.world x.now R S names f.task r → IsStack x R names root (g ∷ fs) f → IsStack x S names root fs (before_wait g)
  gains_one S root fs g f r T E K = record {
    goes = still_going x.world x.now R S (Passes (unrecorded R)) (Passes (unrecorded S)) root fs (before_wait g) stay K.below.0;
    below = all_stay S stay root fs K.below.1;
    under_way = record {
      each = λ t i. is_unrecorded S t (E.changes.others t (other t i)
          ∙ no_record R t (K.under_way.each t (among_there t f.task (g.task ∷ tasks_of fs) i)));
      counted = λ t i. K.under_way.counted t (among_there t f.task (g.task ∷ tasks_of fs) i);
    };
  }
    where
      stay : (u : Task) → IsSettled R (Passes (unrecorded R)) u → IsSettled S (Passes (unrecorded S)) u
      stay = settled_stays x.world x.now R S names f.task r T E

      other : (t : Task) → among t (g.task ∷ tasks_of fs) ≡ true → t ≡ f.task → ⊥
      other t i e = clash {A = ⊥} (among f.task (g.task ∷ tasks_of fs)) (subst (λ z. among z (g.task ∷ tasks_of fs) ≡ true) e i) K.goes.once.0
