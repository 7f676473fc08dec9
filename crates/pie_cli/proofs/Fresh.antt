-- What is told of a build, and what was printed of it.
use Rattle.std.proofs.Common.{◌≡◌, ℕ, Bool, List, Option, None, Some, Err, sym, ◌∙◌, subst, inl, inr, Ok, true, false, ap}
use Rattle.std.specs.Prelude.{IfSome, All}
use Rattle.pie_base.specs.declared.status.Status.{Status}
use Rattle.pie_base.specs.declared.status.Status.TheVariants as status
use Rattle.pie_build.specs.Asked.{AsksEntered}
use Rattle.pie_build.specs.Left.{Leaves}
use Rattle.pie_files.specs.declared.files.Call.{Call}
use Rattle.pie_files.specs.Directory.{Directory}
use Rattle.pie_fresh.specs.Told.{IsTrueTask}
use Rattle.pie_parser.specs.FunctionTrees.{FunctionTree}
use Rattle.pie_value.specs.declared.task.Task.{Task}
use Rattle.pie_project.specs.Fronts.{Front, ProjectSays}
use Rattle.pie_project.specs.Refusals.{Refusal}
use Rattle.pie_report.specs.declared.report.Report.{Report}
use Rattle.pie_report.specs.Refused.{refusal_line}
use Rattle.pie_clean_laws.specs.inner.Told.{TellTheSame}
use Rattle.pie_clean_laws.proofs.OneProject.{one_project}
use Rattle.pie_clean_laws.proofs.Printing.{json_one, text_one}
use Rattle.pie_clean_laws.proofs.Telling.{clean_reports_one, clean_tasks_true}
use Rattle.pie_cli.specs.Fresh.{FreshSays, HasBuilt, IsFreshText, IsPrinted, verdict_status, FreshSaysOnly}
use Rattle.pie_cli.specs.Run.{Gains, GainsAtMost, GainsPrefix, GainsSome}

abbrev the_front : Front → Front
the_front r = r

-- a report that is printed
pub reported : (o after : Option Directory) (json : Bool) (report : Report) (text : List ℕ) (ended : Status)
    → IfSome o (λ d. Leaves d report after) → IsPrinted json report text → ended ≡ verdict_status report.verdict
    → IfSome o (λ d. FreshSays d json after text ended)
reported None after json report text ended left printed is = tt
reported (Some d) after json report text ended left printed is = inr (report, left, printed, is)

-- a project that is refused
pub refused : (o after : Option Directory) (json : Bool) (e : Refusal) (text : List ℕ) (ended : Status)
    → IfSome o (λ d. ProjectSays d (Err e)) → after ≡ o → text ≡ refusal_line e → ended ≡ status.Pipeline
    → IfSome o (λ d. FreshSays d json after text ended)
refused None after json e text ended says same line is = tt
refused (Some d) after json e text ended says same line is = inl (e, says, same, line, is)

-- which paths are asked for, once there is an answer
pub told_asks : (o : Option Directory) (asked asked_now : Option (List Call)) → IfSome o (λ d. Unit {0} → AsksEntered d asked asked_now)
    → IfSome o (λ d. AsksEntered d asked asked_now)
told_asks None asked asked_now asks = tt
told_asks (Some d) asked asked_now asks = asks tt

-- all of it was printed
pub built : (o after : Option Directory) (json : Bool) (text : List ℕ) (told ended : Status) (held gained : Option (List ℕ))
    → IfSome o (λ d. FreshSays d json after text told) → ended ≡ told → Gains held gained text
    → IfSome o (λ d. HasBuilt d json after held gained ended)
built None after json text told ended held gained says is all = tt
built (Some d) after json text told ended held gained says is all =
    (text, subst (λ s. FreshSays d json after text s) (sym is) says, all)

-- ---- there is no other answer

err_same : {e f : Refusal} → the_front (Err e) ≡ the_front (Err f) → e ≡ f
err_same h = cc

not_both : {A : Type 0} {x : List FunctionTree × List Task} {e : Refusal} → the_front (Ok x) ≡ the_front (Err e) → A
not_both h = cc

-- what is printed of reports that tell the same
printed_one : (json : Bool) (r s : Report) (text other : List ℕ) → TellTheSame r s → All IsTrueTask r.ran.items → IsPrinted json r text
    → IsPrinted json s other → text ≡ other
printed_one false r s text other same all a b = text_one r s same all text other a b
printed_one true r s text other same all a b = json_one r s same all text other a b

says_one : (d : Directory) (json : Bool) (after left : Option Directory) (text other : List ℕ) (ended told : Status) → FreshSays d json after text ended
    → FreshSays d json left other told → (ended ≡ told) × (text ≡ other)
says_one d json after left text other ended told (inl a) (inl b) =
    let same : a.0 ≡ b.0 = err_same (one_project d (Err a.0) (Err b.0) a.1 b.1) in
    (a.4 ∙ sym b.4, a.3 ∙ ap refusal_line same ∙ sym b.3)
says_one d json after left text other ended told (inl a) (inr b) =
    not_both (one_project d (Ok (b.1.2.functions, b.1.1)) (Err a.0) b.1.2.says a.1)
says_one d json after left text other ended told (inr a) (inl b) =
    not_both (one_project d (Ok (a.1.2.functions, a.1.1)) (Err b.0) a.1.2.says b.1)
says_one d json after left text other ended told (inr a) (inr b) =
    let same = clean_reports_one d a.0 b.0 after left a.1 b.1 in
    (a.3 ∙ ap verdict_status same.verdict ∙ sym b.3, printed_one json a.0 b.0 text other same (clean_tasks_true d a.0 after a.1) a.2 b.2)

pub says_only : (o after : Option Directory) (json : Bool) (held gained : Option (List ℕ)) (ended : Status)
    → IfSome o (λ d. HasBuilt d json after held gained ended) → IfSome o (λ d. FreshSaysOnly d json held gained ended)
says_only None after json held gained ended is = tt
says_only (Some d) after json held gained ended is = λ left other told says.
    let same = says_one d json after left is.0 other ended told is.1 says in
    (same.0, subst (Gains held gained) same.1 is.2)

-- ---- what the output gained

-- a prefix of it was printed
pub printed : (o after : Option Directory) (json : Bool) (text : List ℕ) (told ended : Status) (Failed : Type 0) (held gained : Option (List ℕ))
    → IfSome o (λ d. FreshSays d json after text told) → GainsPrefix held gained text
    → IfSome o (λ d. GainsAtMost (IsFreshText d json after) Failed held gained ended)
printed None after json text told ended Failed held gained says gains = tt
printed (Some d) after json text told ended Failed held gained says gains =
    let some : GainsSome (IsFreshText d json after) Failed held gained = inl (text, (told, says), gains) in
    record { prefix = inl some; cut = λ is. some }
