-- A build of a directory by a list, as a clean build.
use Rattle.std.proofs.Common.{◌≡◌, ◌⊎◌, inl, inr, ℕ, ◌≤◌, Bool, true, false, cond, List, [], ◌∷◌, ◌++◌, length, drop, map, get_or, Option, None, Some, Result, Ok, Err, Global, refl, sym, ap, subst, ◌∙◌}
use Rattle.std.specs.Prelude.{All, Box, Contains, IfOk, IfSome, IsSome, bytes_eq}
use Rattle.std.specs.Option.{option_map}
use Rattle.std.proofs.lemmas.List.{drop-append-le}
use Rattle.std.proofs.lemmas.List.Elements.{All-weaker}
use Rattle.sha2.specs.Sha256.{sha256}
use Rattle.pie_bottomup.specs.inner.Causes.{HasUnionEdge as HasUnionEdgeOf, IsOldTask as IsOldTaskOf, IsReached as IsReachedOf, IsRing as IsRingOf, IsTried as IsTriedOf, IsTypedUpdate, Leads as LeadsOf}
use Rattle.pie_bottomup.specs.inner.Ran.{HasReason as HasReasonOf}
use Rattle.pie_build.specs.Left.{Leaves}
use Rattle.pie_build.specs.inner.Projects.{IsReady}
use Rattle.pie_build.proofs.Cleaning.{is_ready}
use Rattle.pie_core_laws.specs.Update.{Update, IsUpdate}
use Rattle.pie_diff.specs.Hashes.{is_hash}
use Rattle.pie_earlier_laws.specs.Functions.{digest_under}
use Rattle.pie_earlier_laws.specs.Rows.{record_among}
use Rattle.pie_digest.specs.Digests.{HasNames}
use Rattle.pie_entering_laws.specs.inner.Laws.{HasFunction, IsRoot}
use Rattle.pie_files.proofs.Reading.{if_always, if_each, if_two}
use Rattle.pie_files.specs.Directory.{Directory, file_at}
use Rattle.pie_fresh.specs.Cleans.{IsRootOf}
use Rattle.pie_left_laws.specs.Reported.{IsOther as IsOtherOf, IsStray as IsStrayOf}
use Rattle.pie_model.specs.Built.{store_rows}
use Rattle.pie_model.specs.Paths.{among}
use Rattle.pie_model.specs.Records.{Record}
use Rattle.pie_model.specs.Reasons.{RunReason}
use Rattle.pie_model_pipeline.specs.Clean.{output_bytes}
use Rattle.pie_model_pipeline.specs.World.{world, project}
use Rattle.pie_project.specs.Digested.{HasDigests}
use Rattle.pie_project.specs.Fronts.{ProjectSays}
use Rattle.pie_project.specs.Looking.{file_bytes, pipeline_path}
use Rattle.pie_project.specs.declared.fault.BuildError.{BuildError}
use Rattle.pie_project.specs.declared.project.Project.{Project}
use Rattle.pie_project.specs.inner.Projects.{front_of}
use Rattle.pie_report.specs.declared.report.Report.{Report}
use Rattle.pie_store.specs.Canonical.{AreFuncs}
use Rattle.pie_store.specs.declared.cause.Cause.{Cause}
use Rattle.pie_store.specs.declared.cause.Cause.TheVariants as causes
use Rattle.pie_store.specs.Pending.{in_order}
use Rattle.pie_types.specs.Whole.{number_from}
use Rattle.pie_value.specs.Canonical.{enc_task}
use Rattle.pie_value.specs.declared.task.Task.{Task}
use Rattle.pie_value.specs.declared.value.Value.{Value}
use Rattle.pie_value.specs.declared.verdict.Verdict.{Verdict}
use Rattle.pie_value.specs.declared.verdict.Verdict.TheVariants.{Accepted}
use Rattle.pie_incremental.specs.declared.base.Base.{Base}
use Rattle.pie_incremental.specs.declared.base.OwnFiles.{OwnFiles}
use Rattle.pie_incremental.specs.declared.base.Start.{Start}
use Rattle.pie_incremental.specs.declared.base.Start.TheVariants.{Afresh, From}
use Rattle.pie_incremental.specs.Causes.{HasTooMany, IsCauseFor, IsOldTask, IsRing, IsTried}
use Rattle.pie_incremental.specs.Before.{AreBefore, RanBefore}
use Rattle.pie_incremental.specs.Clean.{BuildsClean, IsAsClean, IsOther, IsStray, LeavesClean}
use Rattle.pie_incremental.specs.Earlier.{AreSeparate, Earlier, GoesOnFrom, live_of}
use Rattle.pie_incremental.specs.Ran.{HasReason, RanFor, digest_in, digests_by, earlier_rows, is_hash_of, kept_digests, record_in}
use Rattle.pie_incremental.specs.Reached.{HasUnionEdge, IsReached, Leads, RanExactly}
use Rattle.pie_incremental.specs.Starts.{IsBase, IsCause, StartsFrom}
use Rattle.pie_incremental.specs.inner.Causes.{HasTooMany as HasTooManyOf, IsCauseNow}
use Rattle.pie_incremental.specs.inner.Clean.{BuildsCleanOf, LeavesAsClean}
use Rattle.pie_incremental.specs.inner.Digested.{digested, with_digests}
use Rattle.pie_incremental.specs.inner.Joined.{IsRetold, KeepsAfter}
use Rattle.pie_incremental.specs.inner.Ran.{AreDue, HaveReasons, RanOf}
use Rattle.pie_incremental.specs.inner.Updated.{FromClean, IsAfreshAfter, IsUpdateFrom, RunsCleanOnce}
use Rattle.pie_incremental.proofs.Meaning.{means_same}

-- ---- records, digests and hashes of one, by both their definitions

same_record : (rows : List Record) (t : List ℕ) → record_among rows t ≡ record_in rows t
same_record [] t = refl
same_record (r ∷ rows) t = ap (λ o. cond (bytes_eq t r.task) (Some r) o) (same_record rows t)

same_digest : (rows : List (List ℕ × List ℕ)) (n : List ℕ) → digest_under rows n ≡ digest_in rows n
same_digest [] n = refl
same_digest (row ∷ rows) n = ap (λ o. cond (bytes_eq n row.0) (Some row.1) o) (same_digest rows n)

same_hash : (file : Option (List ℕ × ℕ)) (hash : List ℕ)
    → is_hash (option_map (λ f. sha256 f.0) file) hash ≡ is_hash_of (option_map (λ f. f.0) file) hash
same_hash None hash = refl
same_hash (Some file) hash = refl

-- ---- rings by both their definitions

leads_same : (a b : Task → Task → Type 0) → ((t v : Task) → a t v → b t v) → (t : Task) (tasks : List Task) (last : Task) → LeadsOf a t tasks last
    → Leads b t tasks last
leads_same a b f t [] last goes = f t last goes
leads_same a b f t (v ∷ tasks) last goes = (f t v goes.0, leads_same a b f v tasks last goes.1)

ring_same : (a b : Task → Task → Type 0) → ((t v : Task) → a t v → b t v) → (tasks : List Task) → IsRingOf a tasks → IsRing b tasks
ring_same a b f [] ring = absurd ring
ring_same a b f (t ∷ tasks) ring = leads_same a b f t tasks t ring

-- ---- one that goes on from an earlier build

module _ (e : Earlier) (list : List (List ℕ)) (d : Directory) (b : Base) (p : Project) (from : GoesOnFrom e list d) (base : IsBase d b)
    (says : ProjectSays d (Ok (front_of p))) (has : HasDigests d p.digests.items) (names : HasNames p.typed p.digests.items)
    (funcs : AreFuncs p.digests.items) where
  -- the earlier build, and what is there now
  abbrev pub update_of : Update
  update_of = record {
    old_functions = e.found.functions;
    built = e.built;
    old_roots = map enc_task e.roots;
    left = e.left;
    functions = p.typed;
    directory = d;
    roots = map enc_task p.roots.items;
    names = in_order (list ++ b.names.items);
    besides = from.strings;
  }

  update : IsUpdate update_of
  update = record {
    build = record { accepted = sym e.accepted; sources = e.sources; provided = e.provided };
    changes = from.changes b base;
  }

  separate : AreSeparate e from.strings d p.typed p.roots.items
  separate = from.now p.typed p.roots.items says

  pub is_update : (held : Option Directory) → held ≡ Some d → IsUpdateFrom update_of held b p list
  is_update held told = record {
    here = record { update = update; holds = told; functions = refl; roots_are = refl; separates = separate.separate; met = from.out };
    base = base;
    stored = record { rows = (from.stored b base).rows; names = refl; meaning = means_same e list d b p from base says has names funcs };
  }

  other_of : (path : List ℕ) → IsOtherOf update_of path → IsOther (live_of p.typed d p.roots.items) d path
  other_of path o = record { bytes = o.bytes; provided = o.provided; other = o.other }

  of_other : (path : List ℕ) → IsOther (live_of p.typed d p.roots.items) d path → IsOtherOf update_of path
  of_other path o = record { bytes = o.bytes; provided = o.provided; other = o.other }

  stray_of : (path : List ℕ) → IsStrayOf update_of path → IsStray (live_of p.typed d p.roots.items) d path
  stray_of path s = record { out = s.out; there = s.there; absent = s.absent }

  of_stray : (path : List ℕ) → IsStray (live_of p.typed d p.roots.items) d path → IsStrayOf update_of path
  of_stray path s = record { out = s.out; there = s.there; absent = s.absent }

  leaves_clean : (r : Report) (after : Option Directory) → LeavesAsClean update_of p.digests.items p.roots.items r after
      → LeavesClean p.typed p.digests.items p.roots.items d r after
  leaves_clean r after l =
      let c = l.left in
      record {
        left = c.left;
        told = c.told;
        text = c.text;
        rows = l.rows;
        built = c.built;
        records = l.rows_are;
        store = c.store;
        live = c.live;
        outputs = ap (λ (os : List (Task × Value)). map output_bytes os) c.outputs_are ∙ l.outputs_are;
        wrote = λ path. (λ i. other_of path ((c.wrote path).0 i), λ o. (c.wrote path).1 (of_other path o));
        removed = λ path. (λ i. stray_of path ((c.removed path).0 i), λ o. (c.removed path).1 (of_stray path o));
        ordered = c.ordered;
      }

  as_clean : (r : Report) (after : Option Directory) → BuildsCleanOf update_of p.digests.items p.roots.items r after → IsAsClean d r after
  as_clean r after builds = record {
    funcs = p.digests.items;
    roots = p.roots.items;
    found = record { functions = p.typed; says = says; names = names; digests = has };
    verdict = builds.verdict;
    left = λ accepted. leaves_clean r after (builds.left accepted);
  }

  -- a reason in the words of the update
  reason_of : (kept : List (List ℕ × List ℕ)) (t : Task) → HasReasonOf update_of kept p.digests.items t → HasReason e d p.typed kept p.digests.items t
  reason_of kept t r =
      let before = store_rows world (project e.found.functions e.built) (map enc_task e.roots) in
      subst (λ o. RunReason world (project p.typed d) d o (digest_in kept t.func) (digest_in p.digests.items t.func)) (same_record before (enc_task t))
      (subst (λ o. RunReason world (project p.typed d) d (record_among before (enc_task t)) o (digest_in p.digests.items t.func)) (same_digest kept t.func)
      (subst (λ o. RunReason world (project p.typed d) d (record_among before (enc_task t)) (digest_under kept t.func) o) (same_digest p.digests.items t.func) r))

  -- the digests by which it goes
  kept_is : (digested d p.digests.items b.image).funcs ≡ kept_digests d p.digests.items b.image
  kept_is = by b.image.pipeline
    where
      either : (t : Bool) → (cond t (record b.image { funcs = p.digests.items }) b.image).funcs ≡ cond t p.digests.items b.image.funcs
      either true = refl
      either false = refl

      by : (o : Option (List ℕ)) → (with_digests d p.digests.items b.image o).funcs ≡ digests_by d p.digests.items b.image.funcs o
      by None = refl
      by (Some hash) =
          ap (λ (t : Bool). (cond t (record b.image { funcs = p.digests.items }) b.image).funcs) (same_hash (file_at d pipeline_path) hash)
          ∙ either (is_hash_of (file_bytes d pipeline_path) hash)

  ran_for : (ran : List Task) → AreDue update_of (digested d p.digests.items b.image).funcs p.digests.items ran → RanFor e d ran
  ran_for ran due = record {
    funcs = p.digests.items;
    roots = p.roots.items;
    found = record { functions = p.typed; says = says; names = names; digests = has };
    base = b;
    is = base;
    once = due.have.once;
    reasons = subst (λ kept. All (HasReason e d p.typed kept p.digests.items) ran) kept_is
        (All-weaker (HasReasonOf update_of (digested d p.digests.items b.image).funcs p.digests.items)
        (HasReason e d p.typed (digested d p.digests.items b.image).funcs p.digests.items) (λ t r. reason_of (digested d p.digests.items b.image).funcs t r) ran
        due.have.reasons);
  }

  -- a union edge in the words of the update
  edge_of : (t v : Task) → HasUnionEdgeOf update_of t v → HasUnionEdge e d p.typed t v
  edge_of t v (inl was) = inl (was.0, sym (same_record (earlier_rows e) (enc_task t)) ∙ was.1, was.2)
  edge_of t v (inr now) = inr now

  -- a task that is reached from a root
  reached_of : (t : Task) → IsReachedOf update_of t → IsReached e d p.typed p.roots.items t
  reached_of t is = record { root = is.root; listed = is.listed; leads = by is.leads }
    where
      by : (is.root ≡ t) ⊎ ((between : List Task) × LeadsOf (HasUnionEdgeOf update_of) is.root between t)
          → (is.root ≡ t) ⊎ ((between : List Task) × Leads (HasUnionEdge e d p.typed) is.root between t)
      by (inl same) = inl same
      by (inr l) = inr (l.0, leads_same (HasUnionEdgeOf update_of) (HasUnionEdge e d p.typed) edge_of is.root l.0 t l.1)

  -- a reason, in the words of the update again
  of_reason : (t : Task) → HasReason e d p.typed (kept_digests d p.digests.items b.image) p.digests.items t
      → HasReasonOf update_of (digested d p.digests.items b.image).funcs p.digests.items t
  of_reason t reason =
      let before = store_rows world (project e.found.functions e.built) (map enc_task e.roots) in
      let kept = (digested d p.digests.items b.image).funcs in
      let r = subst (λ ks. HasReason e d p.typed ks p.digests.items t) (sym kept_is) reason in
      subst (λ o. RunReason world (project p.typed d) d o (digest_under kept t.func) (digest_under p.digests.items t.func)) (sym (same_record before (enc_task t)))
      (subst (λ o. RunReason world (project p.typed d) d (record_in before (enc_task t)) o (digest_under p.digests.items t.func)) (sym (same_digest kept t.func))
      (subst (λ o. RunReason world (project p.typed d) d (record_in before (enc_task t)) (digest_in kept t.func) o) (sym (same_digest p.digests.items t.func)) r))

  -- the pipeline is typed, and the roots are its tasks
  ready : IsReady p.typed p.roots.items
  ready = is_ready (Some d) (Some d) p says refl

  roots_are : All (IsRoot p.typed) p.roots.items
  roots_are = All-weaker (IsRootOf p.typed) (IsRoot p.typed) (λ t r. record { number = r.number; found = r.found; small = r.small }) p.roots.items ready.roots

  typed_update : IsTypedUpdate update_of
  typed_update = record { roots = p.roots.items; are = refl; typed = ready.typed; all = roots_are }

  ran_exactly : (ran : List Task) → AreDue update_of (digested d p.digests.items b.image).funcs p.digests.items ran → RanExactly e d ran
  ran_exactly ran due = record {
    funcs = p.digests.items;
    roots = p.roots.items;
    found = record { functions = p.typed; says = says; names = names; digests = has };
    base = b;
    is = base;
    reached = All-weaker (IsReachedOf update_of) (IsReached e d p.typed p.roots.items) reached_of ran due.have.reached;
    all = λ x enters.
        (let one = due.all p.roots.items refl ready.typed roots_are x enters in
        record { of = one.0; due = λ reason. one.1 (of_reason one.0.task reason) });
  }

  -- the tasks that ran before it started afresh
  ran_before : (ran : List Task) → HaveReasons update_of (digested d p.digests.items b.image).funcs p.digests.items ran → RanBefore e d ran
  ran_before ran have = record {
    funcs = p.digests.items;
    roots = p.roots.items;
    found = record { functions = p.typed; says = says; names = names; digests = has };
    base = b;
    is = base;
    once = have.once;
    reasons = subst (λ kept. All (HasReason e d p.typed kept p.digests.items) ran) kept_is
        (All-weaker (HasReasonOf update_of (digested d p.digests.items b.image).funcs p.digests.items)
        (HasReason e d p.typed (digested d p.digests.items b.image).funcs p.digests.items) (λ t r. reason_of (digested d p.digests.items b.image).funcs t r) ran
        have.reasons);
    reached = All-weaker (IsReachedOf update_of) (IsReached e d p.typed p.roots.items) reached_of ran have.reached;
  }

  -- a task that is tried
  old_of : (t : Task) → IsOldTaskOf update_of t → IsOldTask e t
  old_of t is = subst IsSome (same_record (earlier_rows e) (enc_task t)) is

  of_old : (t : Task) → IsOldTask e t → IsOldTaskOf update_of t
  of_old t is = subst IsSome (sym (same_record (earlier_rows e) (enc_task t))) is

  tried_of : (t : Task) → IsTriedOf update_of t → IsTried e d p.typed p.roots.items t
  tried_of t is = record { base = is.base; is_base = base_of is.is_base; leads = by is.leads; stands = is.stands }
    where
      base_of : IsOldTaskOf update_of is.base ⊎ (among (enc_task is.base) (map enc_task p.roots.items) ≡ true)
          → IsOldTask e is.base ⊎ (among (enc_task is.base) (map enc_task p.roots.items) ≡ true)
      base_of (inl old) = inl (old_of is.base old)
      base_of (inr root) = inr root

      by : (is.base ≡ t) ⊎ ((between : List Task) × LeadsOf (HasUnionEdgeOf update_of) is.base between t)
          → (is.base ≡ t) ⊎ ((between : List Task) × Leads (HasUnionEdge e d p.typed) is.base between t)
      by (inl same) = inl same
      by (inr l) = inr (l.0, leads_same (HasUnionEdgeOf update_of) (HasUnionEdge e d p.typed) edge_of is.base l.0 t l.1)

  too_many : (old new : ℕ) (task : Task) → HasTooManyOf update_of old new task → HasTooMany e d old new task
  too_many old new task is =
      let these = is.these in
      record {
        funcs = p.digests.items;
        roots = p.roots.items;
        found = record { functions = p.typed; says = says; names = names; digests = has };
        olds = is.olds;
        news = is.news;
        these = record {
          left = these.left;
          came = these.came;
          full = these.full;
          once = these.once;
          are_old = All-weaker (IsOldTaskOf update_of) (IsOldTask e) old_of is.olds these.are_old;
          are_new = All-weaker (λ t. IsOldTaskOf update_of t → ⊥) (λ t. ¬ (IsOldTask e t)) (λ t new old. new (of_old t old)) is.news these.are_new;
          tried = All-weaker (IsTriedOf update_of) (IsTried e d p.typed p.roots.items) tried_of (is.olds ++ is.news) these.tried;
          none = these.none;
          one = tried_of task these.one;
        };
      }

  -- each task that came ran, as it is of a function
  news_ran : (old new : ℕ) (task : Task) (is : HasTooManyOf update_of old new task) (ran : List Task)
      → All (λ v. Contains ran v ⊎ (number_from 0 p.typed v ≡ None)) is.news → All (λ v. Contains ran v) is.news
  news_ran old new task is ran has i d inside = by (get_or is.news i d) (has i d inside) (is.these.known typed_update i d inside)
    where
      by : (v : Task) → Contains ran v ⊎ (number_from 0 p.typed v ≡ None) → HasFunction p.typed v → Contains ran v
      by v (inl does) known = does
      by v (inr none) known = absurd (no_some known.0 (sym none ∙ known.1))
        where
          no_some : (n : ℕ) → None ≡ Some n → ⊥
          no_some n h = cc

  -- each other one is of the earlier build
  olds_or_news : (old new : ℕ) (task : Task) (is : HasTooManyOf update_of old new task) (ran : List Task)
      → All (λ v. IsOldTaskOf update_of v ⊎ Contains is.news v) ran → All (λ v. IsOldTask e v ⊎ Contains is.news v) ran
  olds_or_news old new task is ran =
      All-weaker (λ v. IsOldTaskOf update_of v ⊎ Contains is.news v) (λ v. IsOldTask e v ⊎ Contains is.news v) by ran
    where
      by : (v : Task) → IsOldTaskOf update_of v ⊎ Contains is.news v → IsOldTask e v ⊎ Contains is.news v
      by v (inl old) = inl (old_of v old)
      by v (inr came) = inr came

  are_before : (c : Cause) (ran : List Task) → IsCauseNow update_of c
      → HaveReasons update_of (digested d p.digests.items b.image).funcs p.digests.items ran → RanOf update_of c ran → AreBefore e d c ran
  unfolding too_many
  are_before causes.Interrupted ran is have told = absurd is
  are_before causes.NoStore ran is have told = absurd is
  are_before (causes.Damaged fault) ran is have told = absurd is
  are_before causes.BadPending ran is have told = absurd is
  are_before (causes.UnionCycle tasks) ran is have told = (ran_before ran have, record { task = told.task; listed = told.listed; ran = told.has })
  are_before (causes.UnionMany old new task) ran is have told = (
    ran_before ran have,
    record {
      many = too_many old new task told.many;
      ran = news_ran old new task told.many ran told.has;
      only = olds_or_news old new task told.many ran told.only;
    },
  )

  cause_for : (c : Cause) → IsCauseNow update_of c → IsCauseFor e d c
  cause_for causes.Interrupted is = absurd is
  cause_for causes.NoStore is = absurd is
  cause_for (causes.Damaged fault) is = absurd is
  cause_for causes.BadPending is = absurd is
  cause_for (causes.UnionCycle tasks) ring = record {
    funcs = p.digests.items;
    roots = p.roots.items;
    found = record { functions = p.typed; says = says; names = names; digests = has };
    ring = ring_same (HasUnionEdgeOf update_of) (HasUnionEdge e d p.typed) edge_of tasks ring.ring;
    reached = All-weaker (IsReachedOf update_of) (IsReached e d p.typed p.roots.items) reached_of tasks ring.reached;
  }
  cause_for (causes.UnionMany old entered task) is = (is.0, too_many old entered task is.1)

from_clean : (b : Base) (p : Project) (list : List (List ℕ)) (before mid after : Option Directory) (r : Report) → mid ≡ before
    → IfSome before (λ d. ProjectSays d (Ok (front_of p))) → IfSome before (λ d. HasDigests d p.digests.items) → HasNames p.typed p.digests.items
    → AreFuncs p.digests.items → RunsCleanOnce b p list mid after r → FromClean b list before after r
from_clean b p list before mid after r same says has names funcs runs = record {
  of = λ d told base.
      let project : ProjectSays d (Ok (front_of p)) = subst (λ o. IfSome o (λ x. ProjectSays x (Ok (front_of p)))) told says in
      let digests : HasDigests d p.digests.items = subst (λ o. IfSome o (λ x. HasDigests x p.digests.items)) told has in
      record {
        goes_on = λ none e from.
            as_clean e list d b p from base project digests names funcs r after
            ((runs.once d (same ∙ told) none).each (update_of e list d b p from base project digests names funcs)
            (is_update e list d b p from base project digests names funcs mid (same ∙ told)));
        ran = λ none e from.
            ran_for e list d b p from base project digests names funcs r.ran.items
            ((runs.once d (same ∙ told) none).ran (update_of e list d b p from base project digests names funcs)
            (is_update e list d b p from base project digests names funcs mid (same ∙ told)));
        afresh = λ some. runs.afresh d (same ∙ told) some;
        cause = λ c fresh e from.
            cause_for e list d b p from base project digests names funcs c
            ((runs.cause d (same ∙ told) c fresh).each (update_of e list d b p from base project digests names funcs)
            (is_update e list d b p from base project digests names funcs mid (same ∙ told)));
        exactly = λ none e from.
            ran_exactly e list d b p from base project digests names funcs r.ran.items
            ((runs.once d (same ∙ told) none).ran (update_of e list d b p from base project digests names funcs)
            (is_update e list d b p from base project digests names funcs mid (same ∙ told)));
        before = λ some c fresh e from.
            let u = update_of e list d b p from base project digests names funcs in
            let is = is_update e list d b p from base project digests names funcs mid (same ∙ told) in
            are_before e list d b p from base project digests names funcs c (runs.afresh d (same ∙ told) some).before
            ((runs.cause d (same ∙ told) c fresh).each u is) ((runs.ran d (same ∙ told) some c fresh).each u is)
            ((runs.ran d (same ∙ told) some c fresh).told u is);
      };
}

pub from_project : (b : Base) (p : Project) (list : List (List ℕ)) (before mid after : Option Directory) (result : Result Report BuildError) → mid ≡ before
    → IfSome before (λ d. ProjectSays d (Ok (front_of p))) → IfSome before (λ d. HasDigests d p.digests.items) → HasNames p.typed p.digests.items
    → AreFuncs p.digests.items → IfOk result (RunsCleanOnce b p list mid after) → IfOk result (FromClean b list before after)
from_project b p list before mid after (Err e) same says has names funcs runs = tt
from_project b p list before mid after (Ok r) same says has names funcs runs = from_clean b p list before mid after r same says has names funcs runs

-- ---- one that starts afresh

-- a cause, and more tasks that ran
pub retold : (a b c : Report) (cause : Option Cause) → b ≡ record a { ran = b.ran } → c ≡ record b { fresh = cause } → IsRetold a c
retold a b c cause ran is =
    let all : c ≡ record a { fresh = cause; ran = b.ran } = is ∙ ap (λ (x : Report). record x { fresh = cause }) ran in
    all ∙ sym (ap (λ (x : Report). record a { fresh = x.fresh; ran = x.ran }) all)

caused : (a c : Report) (cause : Option Cause) → c ≡ record a { fresh = cause } → IsRetold a c
caused a c cause is = is ∙ sym (ap (λ (x : Report). record a { fresh = x.fresh; ran = x.ran }) is)

-- at once
pub afresh_is : (before after : Option Directory) (r q : Report) (cause : Option Cause) → q ≡ record r { fresh = cause }
    → IfSome before (λ d. Leaves d r after) → IfSome before (λ d. IsAfreshAfter d q after [])
afresh_is before after r q cause is h = if_each (λ d. Leaves d r after) (λ d. IsAfreshAfter d q after []) before
    (λ d leaves. record {
      afresh = record {
        clean = r;
        left = after;
        leaves = leaves;
        is = caused r q cause is;
        before = [];
        ran = ap (λ (x : Report). x.ran.items) is;
        after_is = λ accepted. refl;
      };
      is = refl;
    }) h

kept_accepted : (v : Verdict) (own : OwnFiles) (names : List (List ℕ)) (mid after : Option Directory) → v ≡ Accepted → KeepsAfter v own names mid after
    → after ≡ mid
kept_accepted v own names mid after is h = subst (λ (w : Verdict). KeepsAfter w own names mid after) is h

-- after tasks ran
pub again_afresh : (own : OwnFiles) (names : List (List ℕ)) (before mid after : Option Directory) (report : Report) (result : Result Report BuildError) (n : ℕ)
    (old new : List Task) → n ≤ length old → new ≡ old ++ report.ran.items → IfSome before (λ d. Leaves d report mid) → IfOk result (IsRetold report)
    → IfOk result (λ r. r.ran.items ≡ drop n new) → IfOk result (λ r. KeepsAfter report.verdict own names mid after)
    → IfOk result (λ r. r.verdict ≡ report.verdict) → IfSome before (λ d. IfOk result (λ r. IsAfreshAfter d r after (drop n old)))
again_afresh own names before mid after report (Err e) n old new l more leaves told ran keeps verdict = if_always before (tt {0})
again_afresh own names before mid after report (Ok r) n old new l more leaves told ran keeps verdict =
    if_each (λ d. Leaves d report mid) (λ d. IsAfreshAfter d r after (drop n old)) before
    (λ d left. record {
      afresh = record {
        clean = report;
        left = mid;
        leaves = left;
        is = told;
        before = drop n old;
        ran = ran ∙ ap (drop n) more ∙ drop-append-le n old report.ran.items l;
        after_is = λ accepted. kept_accepted report.verdict own names mid after (sym verdict ∙ accepted) keeps;
      };
      is = refl;
    }) leaves

-- ---- the whole build

-- the first cause that holds of a directory
first_cause : (e : Earlier) (d : Directory) (c : Cause) → IsCause d c → IsCauseFor e d c
first_cause e d causes.Interrupted is = is
first_cause e d causes.NoStore is = is
first_cause e d (causes.Damaged fault) is = is
first_cause e d causes.BadPending is = is
first_cause e d (causes.UnionCycle tasks) is = absurd is
first_cause e d (causes.UnionMany old entered task) is = absurd is

-- before it nothing ran
none_before : (e : Earlier) (d : Directory) (c : Cause) (ran : List Task) → IsCause d c → ran ≡ [] → AreBefore e d c ran
none_before e d causes.Interrupted ran is none = none
none_before e d causes.NoStore ran is none = none
none_before e d (causes.Damaged fault) ran is none = none
none_before e d causes.BadPending ran is none = none
none_before e d (causes.UnionCycle tasks) ran is none = absurd is
none_before e d (causes.UnionMany old entered task) ran is none = absurd is

pub afresh_cleans : (list : List (List ℕ)) (start : Start) (cause : Cause) (before mid after : Option Directory) (result : Result Report BuildError)
    → start ≡ Afresh cause → IfSome before (λ d. StartsFrom d start) → mid ≡ before → IfSome mid (λ d. IfOk result (λ r. IsAfreshAfter d r after []))
    → IfOk result (λ r. r.fresh ≡ Some cause) → IfSome before (λ d. IfOk result (λ r. BuildsClean list d r after))
afresh_cleans list start cause before mid after (Err e) starts begins same is why = if_always before (tt {0})
afresh_cleans list start cause before mid after (Ok r) starts begins same is why =
    if_two (λ d. StartsFrom d start) (λ d. IsAfreshAfter d r after []) (λ d. BuildsClean list d r after) before
    (λ d begun afresh. record {
      goes_on = λ none. absurd (differs (sym why ∙ none));
      ran = λ none. absurd (differs (sym why ∙ none));
      afresh = λ some. afresh.afresh;
      cause = λ c told e from. first_cause e d c (cause_is d begun c told);
      exactly = λ none. absurd (differs (sym why ∙ none));
      before = λ some c told e from. none_before e d c afresh.afresh.before (cause_is d begun c told) afresh.is;
    })
    begins (subst (λ m. IfSome m (λ d. IsAfreshAfter d r after [])) same is)
  where
    differs : Some cause ≡ None → ⊥
    differs h = cc

    one : (c : Cause) → Some cause ≡ Some c → cause ≡ c
    one c both = cc

    cause_is : (d : Directory) → StartsFrom d start → (c : Cause) → r.fresh ≡ Some c → IsCause d c
    cause_is d begun c told = subst (IsCause d) (one c (sym why ∙ told)) (subst (StartsFrom d) starts begun)

pub from_cleans : (list : List (List ℕ)) (start : Start) (b : Box Base Global) (before mid after : Option Directory) (result : Result Report BuildError)
    → start ≡ From b → IfSome before (λ d. StartsFrom d start) → mid ≡ before → IfOk result (FromClean b.value list mid after)
    → IfSome before (λ d. IfOk result (λ r. BuildsClean list d r after))
from_cleans list start b before mid after (Err e) is begins same h = if_always before (tt {0})
from_cleans list start b before mid after (Ok r) is begins same h = by before same begins
  where
    by : (o : Option Directory) → mid ≡ o → IfSome o (λ d. StartsFrom d start) → IfSome o (λ d. BuildsClean list d r after)
    by None told begun = tt
    by (Some d) told begun = h.of d told (subst (StartsFrom d) is begun)
