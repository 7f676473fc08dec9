-- The first step leaves a build whole, and what goes on where no task runs does too.
use Rattle.std.proofs.Common.{◌≡◌, ℕ, true, false, List, [], Option, None, Some, Result, Err, Ok, sym, ap, ◌∙◌, subst, inl, inr}
use Rattle.std.specs.Prelude.{slice_get, IfOk, OnOk}
use Rattle.pie_record.specs.declared.task_record.TaskRecord.{TaskRecord}
use Rattle.pie_record.specs.inner.Records.{record_of as kept_of}
use Rattle.pie_tables.specs.declared.tables.Tables.{Tables}
use Rattle.pie_files.specs.Directory.{Directory}
use Rattle.pie_walk.specs.declared.marks.Mark.TheVariants.{New}
use Rattle.pie_walk.specs.Marks.{mark_of}
use Rattle.pie_frames.specs.declared.parked.Parked.{Parked}
use Rattle.pie_core_laws.specs.Update.{Update}
use Rattle.pie_core_laws.specs.Exact.{runs}
use Rattle.pie_task_laws.specs.Going.{Wait}
use Rattle.pie_task_laws.specs.Whole.{IsNew, AreAtRest}
use Rattle.pie_bottomup.specs.declared.state.Core.{Core}
use Rattle.pie_bottomup.specs.declared.state.First.TheVariants.{Tests, Done}
use Rattle.pie_bottomup.specs.declared.state.Turn.{Turn}
use Rattle.pie_bottomup.specs.declared.state.Turn.TheVariants.{Went}
use Rattle.pie_bottomup.specs.inner.Exact.{IsLoadedCore, IsExactCore}
use Rattle.pie_bottomup.specs.inner.Going.{site_of, build_of, callers_up, IsResting, Goes, IsWhole, TurnIsWhole, IsBuildNow}
use Rattle.pie_bottomup.specs.inner.Going.{WalksWhole, StandsWhole, TestsWhole, StepsWhole}
use Rattle.pie_bottomup.proofs.ExactAsking.{apart_firsts}
use Rattle.pie_bottomup.proofs.ExactSteps.{if_ok_more}

-- ---- the first step

-- the old tasks are loaded, and none was met
module _ (u : Update) (old c : Core) (loaded : IsLoadedCore u old) (tables : c.tables ≡ old.tables) (fresh : (n : ℕ) → mark_of c.frames.walk.marks n ≡ New)
  where
    -- each has a record
    none_new : (n : ℕ) → IsNew (build_of c) n → ⊥
    none_new n new =
        let is = loaded.loaded.whole n new.task (sym (ap (λ (t : Tables). slice_get t.names n) tables) ∙ new.named) in
        none_some is.0 (sym new.unrecorded ∙ ap (λ (t : Tables). kept_of t.records n) tables ∙ is.1)
      where
        none_some : (r : TaskRecord) → None ≡ Some r → ⊥
        none_some r e = cc

    -- and none runs
    none_runs : (n : ℕ) → runs (mark_of c.frames.walk.marks n) ≡ true → ⊥
    none_runs n run = let clash : false ≡ true = sym (ap runs (fresh n)) ∙ run in cc

    none_waits : Wait (site_of u c) (build_of c) []
    none_waits = record {
      frames = [];
      mean = tt;
      go = tt;
      taken = record { running = λ x among. absurd (let clash : false ≡ true = among in cc); once = tt };
    }

    none_rest : AreAtRest (site_of u c) (build_of c) []
    none_rest = record { wait = none_waits; new = λ n is. absurd (none_new n is) }

    tested_rests : c.frames.parked.items ≡ [] → IsResting u c
    tested_rests parked = record {
      rest = subst (λ (ps : List Parked). AreAtRest (site_of u c) (build_of c) (callers_up ps)) (sym parked) none_rest;
      bare = λ n is. absurd (none_new n is);
      marked = λ n run. absurd (none_runs n run);
    }

    pub tested_whole : c.frames.parked.items ≡ [] → c.hand ≡ None → IsExactCore u c → IsWhole u c
    tested_whole parked free e = record { exact = e; going = subst (Goes u c) (sym free) (tested_rests parked) }

-- ---- a step where no task runs

module _ {E : Type 0} (held : Option Directory) (old new : Core) (r : Result Turn E) where
  pub test_whole : old.first ≡ Tests → OnOk r (TestsWhole held old new) → IfOk r (λ t. t ≡ Went) → IfOk r (StepsWhole held old new)
  test_whole first tests went = all r tests went
    where
      by : (u : Update) → IsBuildNow u old.plan → held ≡ Some u.directory → TestsWhole held old new → StandsWhole u old → IsWhole u new
      by u now holds tests (inl loaded) = tests u now holds (loaded.1 first)
      by u now holds tests (inr whole) = absurd (apart_firsts old.first first whole.exact.tested)

      all : (s : Result Turn E) → OnOk s (TestsWhole held old new) → IfOk s (λ t. t ≡ Went) → IfOk s (StepsWhole held old new)
      all (Ok t) tests went = λ u now site stands. subst (TurnIsWhole u new) (sym went) (by u now site.holds tests stands)
      all (Err x) tests went = tt

  pub walk_whole : old.hand ≡ None → old.first ≡ Done → IfOk r (WalksWhole old new) → IfOk r (StepsWhole held old new)
  walk_whole free done =
      if_ok_more (WalksWhole old new) (StepsWhole held old new) (λ turn walks u now site stands. by turn u now walks stands) r
    where
      by : (t : Turn) (u : Update) → IsBuildNow u old.plan → WalksWhole old new t → StandsWhole u old → TurnIsWhole u new t
      by t u now walks (inl loaded) = absurd (loaded.0 done)
      by t u now walks (inr whole) = walks u now whole.exact (subst (Goes u old) free whole.going)
