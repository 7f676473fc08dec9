-- What the parts of a round come to.
use Rattle.std.proofs.Common.{◌≡◌, ◌⊎◌, ℕ, Bool, true, false, List, [], ◌∷◌, codes, Option, Some, Ok, Err, inl, inr, sym, ap, subst}
use Rattle.std.specs.Option.{option_map}
use Rattle.pie_build.specs.Left.{KeepsRest}
use Rattle.pie_build.proofs.OwnPaths.{same_keeps}
use Rattle.pie_clean_laws.proofs.OneProject.{one_project}
use Rattle.pie_clean_laws.proofs.Same.{same_front}
use Rattle.pie_files.specs.Directory.{Directory}
use Rattle.pie_project.specs.Fronts.{Front}
use Rattle.pie_value.specs.declared.task.Task.{Task}
use Rattle.pie_demo.specs.Sources.{changed_path, ChangesFile, HasSources}
use Rattle.pie_demo.specs.Copies.{is_copied, HasPart}
use Rattle.pie_demo.specs.Rounds.{IsCopy, BuildsByNames, IsRound, DoesRound}
use Rattle.pie_demo.specs.inner.Steps.{Answers, BuildsNamed, BuildsOnly, Rebuilds, Refuses, RefusesOnly}
use Rattle.pie_demo.proofs.Going.{round_alone, round_equal, round_goes_on}
use Rattle.pie_demo.proofs.Owned.{copy_whole, same_whole, sources_kept}
use Rattle.pie_demo.proofs.Project.{demo_functions, demo_root, has_project}

-- ---- the answer

same_bytes : {file other : Option (List ℕ × ℕ)} → other ≡ file → option_map (λ f. f.0) file ≡ option_map (λ f. f.0) other
same_bytes e = ap (option_map (λ (f : List ℕ × ℕ). f.0)) (sym e)

-- a round whose project was built by the name of its file
built_round : (seed size k : ℕ) (before changed after copy left : Directory) (started cleaned : List Task) (live : ℕ) (same : Bool)
    → HasSources seed size k changed → ChangesFile seed size k before changed → BuildsByNames (changed_path seed size k ∷ []) changed after started
    → HasPart after copy is_copied → BuildsOnly copy left cleaned live ⊎ RefusesOnly copy left cleaned live → Answers true after left same
    → IsRound seed size k before changed after started cleaned live same
built_round seed size k before changed after copy left started cleaned live same has changes builds part (inl afresh) answer = record {
  changes = changes;
  builds = record {
    builds = builds;
    copy = copy;
    copied = copy_whole seed size k changed after copy has builds.keeps part;
    left = left;
    afresh = afresh.builds;
    told = (
      λ is. same_whole seed size k after copy left (sources_kept seed size k changed after builds.keeps has) part afresh.builds.keeps (answer.0 is),
      λ alike. answer.1 (λ q compared. alike q),
    );
  };
  goes_on = round_goes_on seed size k before changed changes;
  equal = λ e based apart accepted alone.
      round_equal (changed_path seed size k) changed after copy left started cleaned live same builds
      (copy_whole seed size k changed after copy has builds.keeps part) afresh.builds (λ alike. answer.1 (λ q compared. alike q)) e
      (round_goes_on seed size k before changed changes e based apart) accepted (round_alone seed size k before changed changes alone);
}
built_round seed size k before changed after copy left started cleaned live same has changes builds part (inr refuses) answer =
    let copied : IsCopy changed copy = copy_whole seed size k changed after copy has builds.keeps part in
    absurd (refuses.only builds.front
    (same_front changed copy (Ok builds.front) (same_bytes (copied (codes "pie.pipeline"))) (same_bytes (copied (codes "pie.roots"))) builds.says))

-- the project of a round is not refused
never_refused : {X : Type 0} (seed size k : ℕ) (changed after : Directory) (started : List Task) → HasSources seed size k changed
    → Refuses changed after started → X
never_refused seed size k changed after started has refuses =
    absurd (never (one_project changed (Ok (demo_functions, demo_root ∷ [])) (Err refuses.refusal) (has_project seed size k changed has) refuses.says))
  where
    never : ◌≡◌ {A = Front} (Ok (demo_functions, demo_root ∷ [])) (Err refuses.refusal) → ⊥
    never e = cc

-- a round by its parts
pub round_done : (seed size k : ℕ) (before changed after copy left : Directory) (runs runs_after clean clean_after : List Task) (live : ℕ) (built same : Bool)
    → HasSources seed size k changed → ChangesFile seed size k before changed
    → BuildsNamed (changed_path seed size k ∷ []) changed after runs runs_after built → HasPart after copy is_copied
    → Rebuilds copy left clean clean_after live → Answers built after left same
    → DoesRound seed size k before after runs runs_after clean clean_after live same
round_done seed size k before changed after copy left runs runs_after clean clean_after live built same has changes named part afresh answer = record {
  changed = changed;
  started = named.started;
  cleaned = afresh.started;
  runs_gain = named.gain;
  clean_gain = afresh.gain;
  round = by named.outcome;
}
  where
    by : ((built ≡ true) × BuildsByNames (changed_path seed size k ∷ []) changed after named.started) ⊎ ((built ≡ false) × Refuses changed after named.started)
        → IsRound seed size k before changed after named.started afresh.started live same
    by (inl one) = built_round seed size k before changed after copy left named.started afresh.started live same has changes one.1 part afresh.outcome
        (subst (λ b. Answers b after left same) one.0 answer)
    by (inr one) = never_refused seed size k changed after named.started has one.1

-- the files of a demo stay through both builds
pub named_keeps : (names : List (List ℕ)) (d e : Directory) (runs runs_after : List Task) (built : Bool) → BuildsNamed names d e runs runs_after built
    → KeepsRest (Some d) (Some e)
named_keeps names d e runs runs_after built named = by named.outcome
  where
    by : ((built ≡ true) × BuildsByNames names d e named.started) ⊎ ((built ≡ false) × Refuses d e named.started) → KeepsRest (Some d) (Some e)
    by (inl one) = one.1.keeps
    by (inr one) = same_keeps (Some d) (Some e) (ap Some one.1.kept)
