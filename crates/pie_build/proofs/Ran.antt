-- The tasks that a build reports are those that it started.
use Rattle.std.proofs.Common.{◌≡◌, ℕ, ◌+◌, ◌≤◌, List, ◌++◌, length, drop, Option, Result, Ok, Err, Vec, Global, refl, sym, ap, subst, ◌∙◌, arith}
use Rattle.std.specs.Prelude.{All, IfOk}
use Rattle.std.proofs.lemmas.List.{length-append}
use Rattle.std.proofs.Math.Seq.{drop-append_seam}
use Rattle.pie_value.specs.declared.task.Task.{Task}
use Rattle.pie_value.specs.Canonical.{IsEncodableTask}
use Rattle.pie_files.specs.declared.files.FilesError.{FilesError}
use Rattle.pie_files.specs.declared.files.FilesError.TheVariants.{Failed, OutOfMemory}
use Rattle.pie_files.specs.Directory.{Directory}
use Rattle.pie_files.specs.Streams.{Counted}
use Rattle.pie_fresh.specs.inner.Builds.{Gains}
use Rattle.pie_report.specs.declared.report.Report.{Report}
use Rattle.pie_project.specs.declared.fault.BuildError.TheVariants as errors
use Rattle.pie_build.specs.Left.{KeepsRest}
use Rattle.pie_build.specs.inner.Projects.{ReportsStarted}
use Rattle.pie_build.specs.inner.Rebuilt.{Tells}

-- as many tasks as were started before are there still
pub still_there : (n : ℕ) (old new : List Task) → n ≡ length old → Gains 50000 old new → n ≤ length new
still_there n old new is g =
    let l : length new ≡ length old + length g.gained = ap length g.is ∙ length-append old g.gained in omega (arith, is, l)

-- so many more at the most
few : (old new : List Task) → Gains 50000 old new → length new ≤ length old + 50000
few old new g = let l : length new ≡ length old + length g.gained = ap length g.is ∙ length-append old g.gained in omega (arith, g.few, l)

gained_behind : (n : ℕ) (old new : List Task) → n ≡ length old → (g : Gains 50000 old new) → drop n new ≡ g.gained
gained_behind n old new is g = ap (λ k. drop k new) is ∙ ap (drop (length old)) g.is ∙ drop-append_seam old g.gained

ran_is : (n : ℕ) (old new : List Task) (ran : Vec Task Global) (result : Result Report FilesError) → n ≡ length old → Gains 50000 old new
    → ran.items ≡ drop n new → IfOk result (λ r. r.ran ≡ ran) → IfOk result (λ r. new ≡ old ++ r.ran.items)
ran_is n old new ran (Ok r) is g behind same = g.is ∙ ap (λ x. old ++ x) (sym (ap (λ v. v.items) same ∙ behind ∙ gained_behind n old new is g))
ran_is n old new ran (Err e) is g behind same = tt

ran_encodable : (n : ℕ) (old new : List Task) (ran : Vec Task Global) (result : Result Report FilesError) → n ≡ length old → Gains 50000 old new
    → ran.items ≡ drop n new → IfOk result (λ r. r.ran ≡ ran) → IfOk result (λ r. All IsEncodableTask r.ran.items)
ran_encodable n old new ran (Ok r) is g behind same =
    subst (λ x. All IsEncodableTask x) (sym (ap (λ v. v.items) same ∙ behind ∙ gained_behind n old new is g)) g.encodable
ran_encodable n old new ran (Err e) is g behind same = tt

-- a report tells those that were started
pub reports_ran : (n : ℕ) (old new : List Task) (ran : Vec Task Global) (result : Result Report FilesError) → n ≡ length old → Gains 50000 old new
    → ran.items ≡ drop n new → IfOk result (λ r. r.ran ≡ ran) → ReportsStarted old new result
reports_ran n old new ran result is g behind same = record {
  ran = ran_is n old new ran result is g behind same;
  few = few old new g;
  encodable = ran_encodable n old new ran result is g behind same;
}

-- there is no report
pub reports_none : {E : Type 0} (old new : List Task) (result : Result Report E) (e : E) → Err e ≡ result → Gains 50000 old new
    → ReportsStarted old new result
reports_none old new result e is g = subst (λ r. ReportsStarted old new r) is (record { ran = tt; few = few old new g; encodable = tt })

-- what may change of a directory that was the same before
pub rest_before : (before mid after : Option Directory) → mid ≡ before → KeepsRest mid after → KeepsRest before after
rest_before before mid after same h = subst (λ m. KeepsRest m after) same h

-- the count after a build, as the answer tells it
pub tells_done : {S : Type 0} (faults : S → ℕ) (old new : S) (r : Report) → Counted {T = Report} faults Failed old new (Ok r)
    → Tells {T = Report} faults old new (Ok r)
tells_done faults old new r h = record { later = h.later; steady = λ v. h.steady; cause = λ e. absurd (cc) }

pub tells_failed : {S : Type 0} (faults : S → ℕ) (old new : S) → Counted {T = Report} faults Failed old new (Err Failed)
    → Tells {T = Report} faults old new (Err errors.Files)
tells_failed faults old new h = record { later = h.later; steady = λ v. absurd v; cause = λ e. h.cause refl }

pub tells_memory : {S : Type 0} (faults : S → ℕ) (old new : S) → Counted {T = Report} faults Failed old new (Err OutOfMemory)
    → Tells {T = Report} faults old new (Err errors.OutOfMemory)
tells_memory faults old new h = record { later = h.later; steady = λ v. absurd v; cause = λ e. absurd (cc) }
