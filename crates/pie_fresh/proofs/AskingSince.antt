-- From the beginning of a root on, and from the first root to the last one: what was started observes each path that is asked for.
use Rattle.std.proofs.Common.{get_or, ◌≡◌, ℕ, ◌<◌, List, [], ◌++◌, length, drop, take, Option, Some, refl, sym, ap, subst, ◌∙◌, append_assoc}
use Rattle.std.specs.Prelude.{Contains, slice_get}
use Rattle.std.proofs.lemmas.List.{append-nil}
use Rattle.std.proofs.lemmas.List.Elements.{Contains-append_left}
use Rattle.std.proofs.Math.Seq.{drop-append_seam}
use Rattle.pie_value.specs.declared.task.Task.{Task}
use Rattle.pie_value.specs.Canonical.{enc_task}
use Rattle.pie_files.specs.Directory.{Directory}
use Rattle.pie_files.specs.declared.files.Call.{Call}
use Rattle.pie_named.specs.Asking.{AsksFor, LooksAt}
use Rattle.pie_named.proofs.Calls.{asks_as, calls_then}
use Rattle.pie_code.specs.declared.code.Code.{Code}
use Rattle.pie_parser.specs.FunctionTrees.{FunctionTree}
use Rattle.pie_builder_laws.proofs.Fitted.{headings_of}
use Rattle.pie_running.specs.declared.frame.RunningTask.{RunningTask}
use Rattle.pie_fresh.specs.declared.builder.Builder.{Builder}
use Rattle.pie_fresh.specs.declared.builder.Entered.TheVariants.{Runs}
use Rattle.pie_fresh.specs.Cleans.{DoesRoots, IsRootOf, NoRootsDone}
use Rattle.pie_fresh.specs.inner.Asked.{AsksAs, BeginsAsking, EvaluatesAsking, IsObservedBy, Observes, RunsAsking, TurnsAsking, with_started}
use Rattle.pie_fresh.specs.inner.Ledgers.{Enters, Starts}
use Rattle.pie_fresh.specs.inner.Means.{Site, names_of, NewAs, RunsOn}
use Rattle.pie_fresh.proofs.Asking.{asks_none}
use Rattle.pie_fresh.proofs.Cleaning.{is_root, rests_there, site_of, with_root}
use Rattle.pie_fresh.proofs.Ordering.{named_contains}
use Rattle.pie_fresh.proofs.Starting.{root_means}

-- ---- the tasks that were started since

module _ (a b before mid : List Task) (starts : Starts a b before mid) where
  -- the ones entered until then, and those that were started after
  started_then : (after gained : List Task) → after ≡ mid ++ gained → with_started a before after ≡ b ++ gained
  started_then after gained is =
      ap (λ ts. a ++ drop (length before) ts) (is ∙ ap (λ ts. ts ++ gained) starts.started ∙ append_assoc before starts.gained gained)
      ∙ ap (λ ts. a ++ ts) (drop-append_seam before (starts.gained ++ gained))
      ∙ sym (append_assoc a starts.gained gained)
      ∙ ap (λ ts. ts ++ gained) (sym starts.entered)

  started_now : with_started a before mid ≡ b
  started_now = started_then mid [] (sym (append-nil mid)) ∙ append-nil b

  module _ (c after : List Task) (enters : Enters b c mid after) where
    same_started : with_started b mid after ≡ with_started a before after
    same_started =
        ap (λ ts. b ++ drop (length mid) ts) enters.is
        ∙ ap (λ ts. b ++ ts) (drop-append_seam mid enters.gained)
        ∙ sym (started_then after enters.gained enters.is)

    entered_since : (t : Task) → Contains b t → Contains (with_started a before after) t
    entered_since t one = subst (λ ts. Contains ts t) (sym (started_then after enters.gained enters.is)) (Contains-append_left b enters.gained t one)

    started_since : (t : Task) → Contains (with_started a before mid) t → Contains (with_started a before after) t
    started_since t one = entered_since t (subst (λ ts. Contains ts t) started_now one)

observed_more : (fs : List FunctionTree) (d : Directory) (ts us : List Task) → ((t : Task) → Contains ts t → Contains us t) → (p : List ℕ)
    → IsObservedBy fs d ts p → IsObservedBy fs d us p
observed_more fs d ts us more p seen =
    record { task = seen.task; one = more seen.task seen.one; observed = seen.observed; source = seen.source }

-- ---- a root

-- one step more
pub run_asks : (first held : Option Directory) (a b : Builder) (began f : RunningTask) (c before mid after : List Task) (asked between asked_now : Option (List Call))
    → held ≡ first → RunsOn first a began b f → Starts a.ledger.names b.ledger.names before mid → Enters b.ledger.names c mid after
    → slice_get b.ledger.names f.notes.number ≡ Some f.notes.task → RunsAsking first a began before mid asked between → TurnsAsking held b f between asked_now
    → RunsAsking first a began before after asked asked_now
run_asks first held a b began f c before mid after asked between asked_now same so_far starts enters named asks turn s h M =
    let seen : List ℕ → Type 0 = IsObservedBy s.functions s.directory (with_started a.ledger.names before after) in
    calls_then (LooksAt seen) asked between asked_now
    (asks_as (IsObservedBy s.functions s.directory (with_started a.ledger.names before mid)) seen asked between
    (observed_more s.functions s.directory (with_started a.ledger.names before mid) (with_started a.ledger.names before after)
    (started_since a.ledger.names b.ledger.names before mid starts c after enters)) (asks s h M))
    (asks_as (Observes s f.notes.task) seen between asked_now
    (λ p observed. record {
      task = f.notes.task;
      one = entered_since a.ledger.names b.ledger.names before mid starts c after enters f.notes.task
          (named_contains b.ledger.names f.notes.number f.notes.task named);
      observed = observed.0;
      source = observed.1;
    }) (turn s (same ∙ h) (so_far s h M)))

-- nothing was asked yet
pub run_asks_none : (held : Option Directory) (b : Builder) (f : RunningTask) (before after : List Task) (asked : Option (List Call))
    → RunsAsking held b f before after asked asked
run_asks_none held b f before after asked s h M = asks_none (IsObservedBy s.functions s.directory (with_started b.ledger.names before after)) asked

-- a root that was entered
pub begin_asks : (held : Option Directory) (b c : Builder) (root : Task) (f : RunningTask) (d before mid after : List Task) (asked asked_now : Option (List Call))
    → NewAs b c root (Runs f) → Starts b.ledger.names c.ledger.names before mid → Enters c.ledger.names d mid after
    → RunsAsking held c f mid after asked asked_now → BeginsAsking held b root before after asked asked_now
begin_asks held b c root f d before mid after asked asked_now new starts enters asks s n h R found is base =
    let E = new s R.there R.table in
    subst (λ ts. AsksFor (IsObservedBy s.functions s.directory ts) asked asked_now)
    (same_started b.ledger.names c.ledger.names before mid starts d after enters) (asks s h (root_means s b c root R is base f E.0 E.1))

-- one that wasn't
pub begin_asks_none : (held : Option Directory) (b : Builder) (root : Task) (before after : List Task) (asked : Option (List Call))
    → BeginsAsking held b root before after asked asked
begin_asks_none held b root before after asked s n h R found is base =
    asks_none (IsObservedBy s.functions s.directory (with_started b.ledger.names before after)) asked

-- ---- the roots in order

pub roots_ask_none : (held : Option Directory) (b : Builder) (roots before after : List Task) (asked : Option (List Call))
    → EvaluatesAsking held b roots before after asked asked
roots_ask_none held b roots before after asked s h D all =
    asks_none (IsObservedBy s.functions s.directory (with_started b.ledger.names before after)) asked

-- one root more
pub roots_ask : (first held : Option Directory) (a b : Builder) (c roots : List Task) (i : ℕ) (root : Task) (before mid after : List Task)
    (asked between asked_now : Option (List Call)) → held ≡ first → i < length roots → root ≡ get_or roots i root → DoesRoots first a b roots (take i roots)
    → Starts a.ledger.names b.ledger.names before mid → Enters b.ledger.names c mid after → EvaluatesAsking first a roots before mid asked between
    → BeginsAsking held b root mid after between asked_now → EvaluatesAsking first a roots before after asked asked_now
roots_ask first held a b c roots i root before mid after asked between asked_now same lt is so_far starts enters asks begins s h D all =
    let seen : List ℕ → Type 0 = IsObservedBy s.functions s.directory (with_started a.ledger.names before after) in
    let R = so_far s h D all in
    let of : IsRootOf s.functions root = is_root s roots i root lt is all in
    calls_then (LooksAt seen) asked between asked_now
    (asks_as (IsObservedBy s.functions s.directory (with_started a.ledger.names before mid)) seen asked between
    (observed_more s.functions s.directory (with_started a.ledger.names before mid) (with_started a.ledger.names before after)
    (started_since a.ledger.names b.ledger.names before mid starts c after enters)) (asks s h D all))
    (subst (λ ts. AsksFor (IsObservedBy s.functions s.directory ts) between asked_now)
    (same_started a.ledger.names b.ledger.names before mid starts c after enters)
    (begins (with_root s (enc_task root) (names_of b.ledger)) of.number (same ∙ h) (rests_there s (enc_task root) (names_of b.ledger) b R.resting) of.found refl
    refl))

-- ---- the whole

pub fresh_asks : (held : Option Directory) (fs : List FunctionTree) (codes : List Code) (roots before after : List Task) (a : Builder) (names : List Task)
    (asked asked_now : Option (List Call)) → NoRootsDone fs codes a → a.ledger.names ≡ [] → Enters a.ledger.names names before after
    → EvaluatesAsking held a roots before after asked asked_now → AsksAs held fs codes roots before after asked asked_now
fresh_asks held fs codes roots before after a names asked asked_now begins none enters asks d h well compiled all =
    let hs = headings_of fs well in
    let s : Site = site_of fs hs.0 codes d in
    record {
      started = drop (length before) after;
      gained = enters.is
          ∙ ap (λ ts. before ++ ts) (sym (ap (drop (length before)) enters.is ∙ drop-append_seam before enters.gained));
      asks = subst (λ ts. AsksFor (IsObservedBy fs d (ts ++ drop (length before) after)) asked asked_now) none
          (asks s h (begins s refl refl compiled hs.1) all);
    }
