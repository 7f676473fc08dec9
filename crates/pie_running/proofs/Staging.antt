-- Contents that are staged, and what was written first.
use Rattle.std.proofs.Common.{◌≡◌, ℕ, true, false, refl, sym, subst, Option, Some, None, List}
use Rattle.std.specs.Prelude.{is_some}
use Rattle.pie_view.specs.Content.{Staged, content, Puts}
use Rattle.sha2.specs.Sha256.{sha256}
use Rattle.pie_base.specs.Path.{is_out}
use Rattle.pie_base.specs.declared.fault.FaultKind.TheVariants as faults
use Rattle.pie_value.specs.declared.event.Answer.TheVariants as answers
use Rattle.pie_running.specs.declared.frame.RunningTask.{RunningTask}
use Rattle.pie_running.specs.declared.frame.Waiting.{Waiting}
use Rattle.pie_running.specs.declared.frame.Told.TheVariants.{Goes, Fails}
use Rattle.pie_running.specs.inner.Noted.{wrote}
use Rattle.pie_running.specs.inner.Told.{StagesFirst, KeepsFirst, IsTold, IsToldWrite}

-- where a content was staged before, all stays
pub first_stays : (old new : Staged) (task : ℕ) (path bytes : List ℕ) → is_some (content old task path) ≡ true → new ≡ old → KeepsFirst old new task path bytes
first_stays old new task path bytes h e = by (content old task path) h
  where
    by : (o : Option (List ℕ)) → is_some o ≡ true → StagesFirst o old new task path bytes
    by None k = absurd (apart k)
      where
        apart : false ≡ true → ⊥
        apart g = cc
    by (Some b) k = e

-- and else this one is put
pub first_comes : (old new : Staged) (task : ℕ) (path bytes : List ℕ) → is_some (content old task path) ≡ false → Puts old new task path bytes
    → KeepsFirst old new task path bytes
first_comes old new task path bytes h p = by (content old task path) h
  where
    by : (o : Option (List ℕ)) → is_some o ≡ false → StagesFirst o old new task path bytes
    by None k = p
    by (Some b) k = absurd (apart k)
      where
        apart : true ≡ false → ⊥
        apart g = cc

-- a task is told that it wrote
pub write_told : (w : Waiting) (old new : Staged) (path bytes hash : List ℕ) (f : RunningTask) → is_out path ≡ true
    → KeepsFirst old new w.notes.number path bytes → hash ≡ sha256 bytes → IsTold w f (wrote path hash w.notes) answers.Wrote
    → IsToldWrite (is_out path) w old new path bytes (Goes f)
write_told w old new path bytes hash f out keeps is told =
    subst (λ b. IsToldWrite b w old new path bytes (Goes f)) (sym out)
    (keeps, subst (λ h. IsTold w f (wrote path h w.notes) answers.Wrote) is told)

-- and fails elsewhere
pub write_refused : (w : Waiting) (s : Staged) (path bytes : List ℕ) → is_out path ≡ false
    → IsToldWrite (is_out path) w s s path bytes (Fails w.notes faults.BadWrite)
write_refused w s path bytes other = subst (λ b. IsToldWrite b w s s path bytes (Fails w.notes faults.BadWrite)) (sym other) (refl, (refl, refl))
