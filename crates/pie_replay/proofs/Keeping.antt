-- What a script leaves as it was.
use Rattle.std.proofs.Common.{◌≡◌, ℕ, false, cond, List, [], ◌∷◌, ◌++◌, sym, ap, refl, subst, ◌∙◌, inl, inr}
use Rattle.std.specs.Prelude.{Option, None, Some, IfSome, Result, Ok, Err}
use Rattle.std.specs.List.{list_any}
use Rattle.std.proofs.lemmas.List.Folds.{list_any-append}
use Rattle.pie_build.specs.Left.{KeepsRest, may_change}
use Rattle.pie_build.proofs.OwnPaths.{or_left, or_right}
use Rattle.pie_commit.proofs.Bringing.{get_with, get_without}
use Rattle.pie_files.specs.Directory.{Directory, file_at, with_file, without_file}
use Rattle.pie_files.specs.declared.files.Call.{Call}
use Rattle.pie_files.specs.Calls.{MayHaveWritten, MayHaveRemoved}
use Rattle.pie_project.specs.declared.fault.BuildError.{BuildError}
use Rattle.pie_report.specs.declared.report.Report.{Report}
use Rattle.pie_script.specs.Steps.{Plain, PutFile, DelFile, Name, BuildNow}
use Rattle.pie_value.specs.declared.task.Task.{Task}
use Rattle.pie_replay.specs.Replays.{Fails, KeepsOthers, Replays, Went, touches}
use Rattle.pie_replay.specs.Trace.{Trace}
use Rattle.pie_replay.specs.Trace.Trace.{nothing, put, deleted, named, built}

-- from a directory, these steps left each path that they don't touch
abbrev Kept : List Plain → Directory → Option Directory → Type 0
Kept steps d after =
    (e : Directory) × (after ≡ Some e) × ((q : List ℕ) → may_change q ≡ false → list_any (touches q) steps ≡ false → file_at e q ≡ file_at d q)

-- the same of one step
abbrev KeepsOne : Plain → Option Directory → Option Directory → Type 0
KeepsOne step before after = IfSome before (λ d. (e : Directory) × (after ≡ Some e)
    × ((q : List ℕ) → may_change q ≡ false → touches q step ≡ false → file_at e q ≡ file_at d q))

-- neither the steps before nor this one touch a path that none of all touches
before_off : (q : List ℕ) (steps : List Plain) (step : Plain) (rest : List Plain) → list_any (touches q) (steps ++ step ∷ rest) ≡ false
    → list_any (touches q) steps ≡ false
before_off q steps step rest off = or_left (list_any (touches q) steps) (list_any (touches q) (step ∷ rest)) (sym (list_any-append (touches q) steps (step ∷ rest)) ∙ off)

here_off : (q : List ℕ) (steps : List Plain) (step : Plain) (rest : List Plain) → list_any (touches q) (steps ++ step ∷ rest) ≡ false
    → touches q step ≡ false
here_off q steps step rest off = or_left (touches q step) (list_any (touches q) rest)
    (or_right (list_any (touches q) steps) (list_any (touches q) (step ∷ rest)) (sym (list_any-append (touches q) steps (step ∷ rest)) ∙ off))

-- one step more, and more that were not done
one_more : (steps : List Plain) (step : Plain) (rest : List Plain) (d : Directory) (mid after : Option Directory)
    → Kept steps d mid → KeepsOne step mid after → Kept (steps ++ step ∷ rest) d after
one_more steps step rest d mid after kept one =
    let then : (e : Directory) × (after ≡ Some e) × ((q : List ℕ) → may_change q ≡ false → touches q step ≡ false → file_at e q ≡ file_at kept.0 q)
    = subst (λ m. KeepsOne step m after) kept.1 one in
    (then.0, then.1, λ q own off. then.2 q own (here_off q steps step rest off) ∙ kept.2 q own (before_off q steps step rest off))

-- ---- each kind of step

stays_one : (step : Plain) (before after : Option Directory) → after ≡ before → KeepsOne step before after
stays_one step None after same = tt
stays_one step (Some d) after same = (d, same, λ q own off. refl)

put_one : (path bytes : List ℕ) (mark : ℕ) (before after : Option Directory) → IfSome before (λ d. after ≡ Some (with_file d path bytes mark))
    → KeepsOne (PutFile path bytes) before after
put_one path bytes mark None after is = tt
put_one path bytes mark (Some d) after is = (
  with_file d path bytes mark,
  is,
  λ q own off. get_with d path bytes mark q ∙ ap (λ b. cond b (Some (bytes, mark)) (file_at d q)) off,
)

delete_one : (path : List ℕ) (before after : Option Directory) → IfSome before (λ d. after ≡ Some (without_file d path)) → KeepsOne (DelFile path) before after
delete_one path None after is = tt
delete_one path (Some d) after is = (without_file d path, is, λ q own off. get_without d path q ∙ ap (λ b. cond b None (file_at d q)) off)

build_one : (before after : Option Directory) → KeepsRest before after → KeepsOne BuildNow before after
build_one None after rest = tt
build_one (Some d) after rest = (rest.kept.0, rest.kept.1, λ q own off. rest.kept.2 q own)

written_one : (path bytes : List ℕ) (before after : Option Directory) → IfSome before (λ d. MayHaveWritten d path after) → KeepsOne (PutFile path bytes) before after
written_one path bytes None after may = tt
written_one path bytes (Some d) after (inl same) = stays_one (PutFile path bytes) (Some d) after same
written_one path bytes (Some d) after (inr w) = put_one path w.0 w.1 (Some d) after w.2

removed_one : (path : List ℕ) (before after : Option Directory) → IfSome before (λ d. MayHaveRemoved d path after) → KeepsOne (DelFile path) before after
removed_one path None after may = tt
removed_one path (Some d) after (inl same) = stays_one (DelFile path) (Some d) after same
removed_one path (Some d) after (inr gone) = delete_one path (Some d) after gone

module _ {S : Type 0} (holds : S → Option Directory) where
  -- a step that failed
  failed_one : (step : Plain) (e : BuildError) (old new : S) → Fails holds step e old new → KeepsOne step (holds old) (holds new)
  failed_one (PutFile path bytes) e old new f = written_one path bytes (holds old) (holds new) f.1
  failed_one (DelFile path) e old new f = removed_one path (holds old) (holds new) f.1
  failed_one (Name path) e old new f = stays_one (Name path) (holds old) (holds new) (ap holds f.1)
  failed_one BuildNow e old new f = build_one (holds old) (holds new) f.0

  -- all steps that were done
  traced : (start : S) (d : Directory) → holds start ≡ Some d → (steps : List Plain) (names : List (List ℕ)) (reports : List Report) (now : S)
      → Trace holds start steps names reports now → Kept steps d (holds now)
  traced start d is _ _ _ _ nothing = (d, is, λ q own off. refl)
  traced start d is _ _ _ _ (put {steps = s} {old = o} {new = n} path bytes t h) =
      one_more s (PutFile path bytes) [] d (holds o) (holds n) (traced start d is _ _ _ _ t) (put_one path bytes h.0 (holds o) (holds n) h.1)
  traced start d is _ _ _ _ (deleted {steps = s} {old = o} {new = n} path t h) =
      one_more s (DelFile path) [] d (holds o) (holds n) (traced start d is _ _ _ _ t) (delete_one path (holds o) (holds n) h)
  traced start d is _ _ _ _ (named {steps = s} {now = n} path t) =
      one_more s (Name path) [] d (holds n) (holds n) (traced start d is _ _ _ _ t) (stays_one (Name path) (holds n) (holds n) refl)
  traced start d is _ _ _ _ (built {steps = s} {old = o} {new = n} report t h) =
      one_more s BuildNow [] d (holds o) (holds n) (traced start d is _ _ _ _ t) (build_one (holds o) (holds n) h.rest)

  -- where the first directory is told, so is the last one
  pub told_since : {start : S} {steps : List Plain} {names : List (List ℕ)} {reports : List Report} {now : S} → Trace holds start steps names reports now
      → (d : Directory) → holds start ≡ Some d → (e : Directory) × (holds now ≡ Some e)
  told_since {start = start} {steps = steps} {names = names} {reports = reports} {now = now} t d is =
      let kept = traced start d is steps names reports now t in (kept.0, kept.1)

  went_keeps : {T : Type 0} (steps : List Plain) (gained : List Report) (old new : S) (result : Result T BuildError) (d : Directory) → holds old ≡ Some d
      → Went holds steps gained old new result → Kept steps d (holds new)
  went_keeps steps gained old new (Ok done) d is went = traced old d is steps went.0 gained new went.1
  went_keeps steps gained old new (Err e) d is s =
      subst (λ (all : List Plain). Kept all d (holds new)) (sym s.parted)
      (one_more s.front s.step s.rest d (holds s.mid) (holds new) (traced old d is s.front s.names gained s.mid s.done)
      (failed_one s.step e s.mid new s.failed))

  -- whatever was answered
  pub replays_keep : {T : Type 0} (moment : S → ℕ) (left_since : S → ℕ → Directory → Type 0) (images : S → Directory → Type 0)
      (asked : S → Option (List Call)) (steps : List Plain) (old new : S) (before after : List Report) (runs ran : List Task) (result : Result T BuildError)
      → Replays holds moment left_since images asked steps old new before after runs ran result → KeepsOthers steps (holds old) (holds new)
  replays_keep moment left_since images asked steps old new before after runs ran result r = record {
    kept = elim (holds old) as (λ o. holds old ≡ o → IfSome o (λ d. Kept steps d (holds new))) [
      | None ↦ λ is. tt
      | Some d ↦ λ is. went_keeps steps r.gained old new result d is r.went
    ] refl;
  }
