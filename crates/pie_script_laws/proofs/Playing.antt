-- What replaying a script does is a script of builds, each of which is as a clean build where it goes on from an earlier one.
use Rattle.std.proofs.Common.{ℕ, ◌≡◌, List, [], ◌∷◌, ◌++◌, All, Option, None, Some, refl, sym, ap, subst, ◌∙◌}
use Rattle.std.specs.Prelude.{map, IfSome}
use Rattle.std.proofs.lemmas.List.{map-append}
use Rattle.std.proofs.lemmas.List.Elements.{All-nil, All-push}
use Rattle.pie_files.specs.Directory.{Directory, with_file, without_file}
use Rattle.pie_incremental.specs.Clean.{BuildsClean}
use Rattle.pie_incremental.specs.Treated.{TreatsNames}
use Rattle.pie_replay.specs.Trace.{HasBuilt, HasDeleted, HasPut, Trace}
use Rattle.pie_replay.specs.Trace.Trace.{nothing, put, deleted, named, built}
use Rattle.pie_report.specs.declared.report.Report.{Report}
use Rattle.pie_script.specs.Steps.{Plain, PutFile, DelFile, BuildNow}
use Rattle.pie_script_laws.specs.Played.{AreClean, Played, report_of}
use Rattle.pie_script_laws.specs.Played.Played.{nothing as none_played, put as file_played, deleted as removal_played, named as name_played, built as build_played}
use Rattle.pie_script_laws.specs.Scripts.{IsBuilt, Step}
use Rattle.pie_script_laws.proofs.Scripting.{scripts_clean}

-- what is told of some files holds of the directory that they hold
told_of : (o : Option Directory) (d : Directory) (P : Directory → Type 0) → o ≡ Some d → IfSome o P → P d
told_of o d P e h = subst (λ x. IfSome x P) e h

-- steps that were done, with these reports
pub record WasPlayed (start : Directory) (steps : List Plain) (names : List (List ℕ)) (reports : List Report) (after : Option Directory) : Type 0 where
  pub left : Directory
  pub told : after ≡ Some left
  pub builds : List Step
  pub played : Played start steps names builds left
  pub reported : map report_of builds ≡ reports
  pub built : All IsBuilt builds

module _ {S : Type 0} (holds : S → Option Directory) (start : S) (d : Directory) (at : holds start ≡ Some d) where
  put_on : {steps : List Plain} {names : List (List ℕ)} {reports : List Report} {old new : S} (path bytes : List ℕ)
      → WasPlayed d steps names reports (holds old) → HasPut holds path bytes old new
      → WasPlayed d (steps ++ PutFile path bytes ∷ []) names reports (holds new)
  put_on path bytes w h = record {
    left = with_file w.left path bytes h.0;
    told = told_of _ w.left (λ (x : Directory). holds _ ≡ Some (with_file x path bytes h.0)) w.told h.1;
    builds = w.builds;
    played = file_played path bytes h.0 w.played;
    reported = w.reported;
    built = w.built;
  }

  deleted_on : {steps : List Plain} {names : List (List ℕ)} {reports : List Report} {old new : S} (path : List ℕ)
      → WasPlayed d steps names reports (holds old) → HasDeleted holds path old new
      → WasPlayed d (steps ++ DelFile path ∷ []) names reports (holds new)
  deleted_on path w h = record {
    left = without_file w.left path;
    told = told_of _ w.left (λ (x : Directory). holds _ ≡ Some (without_file x path)) w.told h;
    builds = w.builds;
    played = removal_played path w.played;
    reported = w.reported;
    built = w.built;
  }

  built_on : {steps : List Plain} {names : List (List ℕ)} {reports : List Report} {old new : S} (report : Report)
      → WasPlayed d steps names reports (holds old) → HasBuilt holds names report old new
      → WasPlayed d (steps ++ BuildNow ∷ []) [] (reports ++ report ∷ []) (holds new)
  built_on {names = names} {old = old} {new = new} report w h =
      let rest = told_of (holds old) w.left _ w.told h.rest.kept in
      let s : Step = record { now = w.left; list = names; report = report; left = rest.0 } in
      let treats : TreatsNames names w.left report (holds new) = told_of (holds old) w.left (λ x. TreatsNames names x report (holds new)) w.told h.treated in
      let clean : BuildsClean names w.left report (holds new) = told_of (holds old) w.left (λ x. BuildsClean names x report (holds new)) w.told h.clean in
      let is : IsBuilt s = record {
        names = subst (λ o. TreatsNames names w.left report o) rest.1 treats;
        clean = subst (λ o. BuildsClean names w.left report o) rest.1 clean;
      } in
      record {
        left = rest.0;
        told = rest.1;
        builds = w.builds ++ s ∷ [];
        played = build_played s w.played is;
        reported = map-append report_of w.builds (s ∷ []) ∙ ap (λ (rs : List Report). rs ++ report ∷ []) w.reported;
        built = All-push IsBuilt w.builds s w.built is;
      }

  was_played : (steps : List Plain) (names : List (List ℕ)) (reports : List Report) (now : S) → Trace holds start steps names reports now
      → WasPlayed d steps names reports (holds now)
  was_played _ _ _ _ nothing = record {
    left = d;
    told = at;
    builds = [];
    played = none_played;
    reported = refl;
    built = All-nil IsBuilt;
  }
  was_played _ _ _ _ (put path bytes t h) = put_on path bytes (was_played _ _ _ _ t) h
  was_played _ _ _ _ (deleted path t h) = deleted_on path (was_played _ _ _ _ t) h
  was_played _ _ _ _ (named path t) =
      let w = was_played _ _ _ _ t in
      record { left = w.left; told = w.told; builds = w.builds; played = name_played path w.played; reported = w.reported; built = w.built }
  was_played _ _ _ _ (built report t h) = built_on report (was_played _ _ _ _ t) h

  traced : (steps : List Plain) (names : List (List ℕ)) (reports : List Report) (now : S) → Trace holds start steps names reports now
      → AreClean d steps names reports (holds now)
  traced steps names reports now t =
      let w = was_played steps names reports now t in
      record {
        left = w.left;
        told = w.told;
        builds = w.builds;
        played = w.played;
        reported = w.reported;
        clean = λ e before based script. scripts_clean e before w.builds based script w.built;
      }

-- a script that was done over files that are told
pub traces_are_clean : {S : Type 0} (holds : S → Option Directory) (start : S) (steps : List Plain) (names : List (List ℕ)) (reports : List Report) (now : S)
    → Trace holds start steps names reports now → IfSome (holds start) (λ d. AreClean d steps names reports (holds now))
traces_are_clean holds start steps names reports now t = by (holds start) refl
  where
    by : (o : Option Directory) → holds start ≡ o → IfSome o (λ d. AreClean d steps names reports (holds now))
    by None e = tt {0}
    by (Some d) e = traced holds start d e steps names reports now t
