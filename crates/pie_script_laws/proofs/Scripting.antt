-- Each build of a script is as a clean build.
use Rattle.std.proofs.Common.{ℕ, ◌≡◌, List, [], ◌∷◌, ◌++◌, All, Option, Some, None, Ok, false, true, refl, sym, subst, ◌∙◌}
use Rattle.std.proofs.lemmas.List.Elements.{All-nil, All-cons, All-head, All-tail}
use Rattle.std.specs.Prelude.{IsSome}
use Rattle.pie_files.specs.Directory.{Directory}
use Rattle.pie_store.specs.declared.cause.Cause.{Cause}
use Rattle.pie_store.specs.declared.cause.Cause.TheVariants as causes
use Rattle.pie_store.specs.declared.store_fault.StoreFault.{StoreFault}
use Rattle.pie_store.specs.Faults.{HasFault}
use Rattle.pie_store.specs.Pending.{in_order, IsName}
use Rattle.pie_store.specs.Texts.{IsStoreText}
use Rattle.pie_store.proofs.FaultWhole.{refuses_with}
use Rattle.pie_store.proofs.WholeAgain.{read_again}
use Rattle.pie_value.proofs.Taking.{IsBytes}
use Rattle.pie_value.specs.declared.verdict.Refusal.{Refusal}
use Rattle.pie_value.specs.declared.verdict.Verdict.{Verdict}
use Rattle.pie_value.specs.declared.verdict.Verdict.TheVariants.{Accepted, Refused}
use Rattle.pie_incremental.specs.declared.base.Base.{Base}
use Rattle.pie_incremental.specs.declared.base.Start.{Start}
use Rattle.pie_incremental.specs.declared.base.Start.TheVariants.{Afresh, From}
use Rattle.pie_incremental.specs.Earlier.{Earlier, GoesOnFrom}
use Rattle.pie_incremental.specs.Own.{bytes_at, open_path, pending_path, store_path}
use Rattle.pie_incremental.specs.Starts.{AreNames, IsBase, IsCause, StartsFrom}
use Rattle.pie_incremental.specs.Treated.{NamesBy, NamesFrom, AfreshBy}
use Rattle.pie_clean_laws.specs.Basing.{IsBaseOfNext, IsBasedOn}
use Rattle.pie_script_laws.specs.Scripts.{HasBytes, IsBuilt, IsCleanStep, IsScript, NextBase, Step}
use Rattle.pie_clean_laws.proofs.Going.{edits_go_on}
use Rattle.pie_clean_laws.proofs.Cleaning.{clean_base, afresh_base}
use Rattle.pie_clean_laws.proofs.Refusing.{refused_base}

-- ---- a directory that can be begun from has no cause to start afresh

module _ (d : Directory) (b : Base) (is : IsBase d b) (bytes : (q text : List ℕ) → bytes_at d q ≡ Some text → IsBytes text) where
  closed : IsSome (bytes_at d open_path) → ⊥
  closed h = untrue (subst IsSome is.readable.stored.closed h)
    where
      untrue : false ≡ true → ⊥
      untrue e = cc

  stored : bytes_at d store_path ≡ None → ⊥
  stored e = none_some (sym e ∙ is.readable.stored.text_is)
    where
      none_some : None ≡ Some b.own.store.items → ⊥
      none_some e = cc

  sound : (text : List ℕ) (fault : StoreFault) → bytes_at d store_path ≡ Some text → HasFault text fault → ⊥
  sound text fault e f =
      let same : b.own.store.items ≡ text = some_same (sym is.readable.stored.text_is ∙ e) in
      refuses_with (Ok b.image) text (bytes store_path text e) (read_again b.image text (subst (IsStoreText b.image) same is.readable.says)) fault f
    where
      some_same : {x y : List ℕ} → Some x ≡ Some y → x ≡ y
      some_same e = cc

  named : (text : List ℕ) → bytes_at d pending_path ≡ Some text → ((names : List (List ℕ)) → AreNames names (Some text) → ⊥) → ⊥
  named text e none = none b.names.items (subst (AreNames b.names.items) (sym is.pending ∙ e) is.named)

  no_cause : (cause : Cause) → IsCause d cause → ⊥
  no_cause causes.Interrupted h = closed h
  no_cause causes.NoStore h = stored h.1
  no_cause (causes.Damaged fault) h = sound h.0 fault h.1.text_is h.2
  no_cause causes.BadPending h = named h.3 h.4 h.5
  no_cause (causes.UnionCycle tasks) h = h
  no_cause (causes.UnionMany old entered task) h = h

-- ---- one build

module _ (e : Earlier) (s : Step) (goes : GoesOnFrom e s.list s.now) (paths : All IsName s.list) (bytes : HasBytes s.now) (built : IsBuilt s) where
  clean_step : IsCleanStep s
  clean_step = record {
    goes_on = λ none. built.clean.goes_on none e goes;
    ran = λ none. (e, built.clean.ran none e goes);
    afresh = λ some. built.clean.afresh some;
  }

  accepted_base : s.report.verdict ≡ Accepted → IsBaseOfNext s.now s.left
  accepted_base is = by s.report.fresh refl
    where
      by : (o : Option Cause) → s.report.fresh ≡ o → IsBaseOfNext s.now s.left
      by None e = clean_base s.now s.left s.report (clean_step.goes_on e) is
      by (Some cause) e = afresh_base s.now s.left s.report (clean_step.afresh (subst IsSome (sym e) refl)) is

  -- a refused one that began from what the build before left, or afresh
  refused_by : (x : Refusal) (start : Start) → s.report.verdict ≡ Refused x → StartsFrom s.now start → NamesFrom start s.list s.now s.report (Some s.left)
      → IsBasedOn e s.left
  refused_by x (From b) is begins names =
      refused_base e s.now s.left s.list b.value goes begins paths
      (subst (λ v. NamesBy v (in_order (s.list ++ b.value.names.items)) s.now (Some s.left)) is names)
  refused_by x (Afresh cause) is begins names =
      let same : Some s.left ≡ Some s.now = subst (λ v. AfreshBy v s.now (Some s.left)) is names.1 in
      subst (IsBasedOn e) (sym (some_same same)) (record {
        stored = λ b base. absurd (no_cause s.now b base bytes cause begins);
        pending = λ b base. absurd (no_cause s.now b base bytes cause begins);
      })
    where
      some_same : {x y : Directory} → Some x ≡ Some y → x ≡ y
      some_same e = cc

  -- the next build is based on one
  next_base : (next : Earlier → Type 0) → ((f : Earlier) → NextBase s.report.verdict s e f → next f) → (f : Earlier) × IsBasedOn f s.left × next f
  next_base next so = by s.report.verdict refl so
    where
      by : (v : Verdict) → s.report.verdict ≡ v → ((f : Earlier) → NextBase v s e f → next f) → (f : Earlier) × IsBasedOn f s.left × next f
      by Accepted is so = let base = accepted_base is in (base.earlier, base.based, so base.earlier (base.built, base.leaves))
      by (Refused x) is so = (e, refused_by x built.names.start is built.names.begins built.names.names, so e refl)

-- ---- a script

pub scripts_clean : (e : Earlier) (left : Directory) (steps : List Step) → IsBasedOn e left → IsScript e left steps → All IsBuilt steps → All IsCleanStep steps
scripts_clean e left [] based script built = All-nil IsCleanStep
scripts_clean e left (s ∷ steps) based script built =
    let goes : GoesOnFrom e s.list s.now = edits_go_on e left s.now s.list based script.0 script.2 in
    let this : IsBuilt s = All-head IsBuilt s steps built in
    let next = next_base e s goes script.1 script.3 this (λ f. IsScript f s.left steps) script.4 in
    All-cons IsCleanStep s steps (clean_step e s goes script.1 script.3 this)
    (scripts_clean next.0 s.left steps next.1 next.2 (All-tail IsBuilt s steps built))
