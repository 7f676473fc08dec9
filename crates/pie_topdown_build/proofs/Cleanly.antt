-- A build of a directory without a list, as a clean build: from the store of an earlier one, or afresh.
use Rattle.std.proofs.Common.{◌≡◌, ℕ, List, [], map, Option, None, Some, Result, Ok, Err, Vec, Global, refl, sym, ap, subst, ◌∙◌}
use Rattle.std.specs.Cmp.Lexicographic.{slice_cmp}
use Rattle.std.specs.FinMap as fin
use Rattle.std.specs.Option.{option_map}
use Rattle.std.specs.Ordering.{nat_cmp}
use Rattle.std.specs.Prelude.{Box, IfOk, IfSome, IsSome}
use Rattle.std.proofs.lemmas.List.Elements.{All-nil}
use Rattle.pie_build.specs.Left.{IsProjectOf}
use Rattle.pie_build.proofs.Cleaning.{is_ready}
use Rattle.pie_core_laws.specs.Update.{Update}
use Rattle.pie_digest.specs.Digests.{HasNames}
use Rattle.pie_earlier_laws.specs.Left.{IsEarlierBuild}
use Rattle.pie_files.proofs.Reading.{if_always, if_two}
use Rattle.pie_files.specs.Directory.{Directory}
use Rattle.pie_left_laws.specs.Reported.{IsOther as IsOtherOf, IsStray as IsStrayOf}
use Rattle.pie_model_pipeline.specs.Clean.{output_bytes}
use Rattle.pie_model_pipeline.specs.Rows.{record_of}
use Rattle.pie_model_pipeline.specs.World.{world, project as model_project}
use Rattle.pie_parser.specs.FunctionTrees.{FunctionTree}
use Rattle.pie_project.specs.Digested.{HasDigests}
use Rattle.pie_project.specs.Fronts.{ProjectSays}
use Rattle.pie_project.specs.declared.fault.BuildError.{BuildError}
use Rattle.pie_project.specs.declared.project.Project.{Project}
use Rattle.pie_project.specs.inner.Projects.{front_of}
use Rattle.pie_record.specs.declared.task_record.TaskRecord.{TaskRecord}
use Rattle.pie_report.specs.declared.report.Report.{Report}
use Rattle.pie_store.specs.Canonical.{AreFuncs}
use Rattle.pie_store.specs.declared.cause.Cause.{Cause}
use Rattle.pie_store.specs.declared.image.StoreImage.{StoreImage}
use Rattle.pie_topdown_result_laws.specs.Builds.{IsFromStore, IsHonestTo, IsNowHere}
use Rattle.pie_value.specs.declared.task.Task.{Task}
use Rattle.pie_value.specs.declared.value.Value.{Value}
use Rattle.pie_incremental.specs.Clean.{IsAsClean, IsOther, IsStray, LeavesClean}
use Rattle.pie_incremental.specs.Earlier.{AreSeparate, Earlier, live_of}
use Rattle.pie_incremental.specs.Starts.{IsReadable}
use Rattle.pie_incremental.specs.inner.Clean.{BuildsCleanOf, LeavesAsClean}
use Rattle.pie_incremental.specs.inner.Digested.{digested}
use Rattle.pie_incremental.specs.inner.Updated.{IsAfreshAfter}
use Rattle.pie_topdown_build.specs.declared.base.Base.{Base}
use Rattle.pie_topdown_build.specs.declared.base.Start.{Start}
use Rattle.pie_topdown_build.specs.declared.base.Start.TheVariants.{Afresh, From}
use Rattle.pie_topdown_build.specs.declared.offered.Offered.{Offered}
use Rattle.pie_topdown_build.specs.Anew.{nothing, IsAsCleanAnew, IsSeparate, LeavesAnew}
use Rattle.pie_topdown_build.specs.Clean.{BuildsAsClean, CanBegin, HasStoreOf, IsStoreCause}
use Rattle.pie_topdown_build.specs.inner.Anew.{update_alone, AnewAsClean, BuildsAnewOf, IsNoBase, LeavesAnewAs}
use Rattle.pie_topdown_build.specs.inner.Bases.{HasBase, IsReadFrom, StartsAt, StartsOnly}
use Rattle.pie_topdown_build.specs.inner.Clean.{update_of, FromAsClean, OffersClean, OffersHonest, RunsAsClean, RunsIfTold}
use Rattle.pie_topdown_build.proofs.Meaning.{means_same}
use Rattle.pie_topdown_build.proofs.Running.{Told}

-- ---- from the store of an earlier build

module _ (e : Earlier) (d : Directory) (s : StoreImage) (text : List ℕ) (p : Project) (from : HasStoreOf e d) (readable : IsReadable d s text)
    (says : ProjectSays d (Ok (front_of p))) (has : HasDigests d p.digests.items) (names : HasNames p.typed p.digests.items)
    (funcs : AreFuncs p.digests.items) where
  abbrev pub now : Update
  now = update_of e from.strings d p.typed p.roots.items

  abbrev pub found : IsProjectOf d p.digests.items p.roots.items
  found = record { functions = p.typed; says = says; names = names; digests = has }

  separate : AreSeparate e from.strings d p.typed p.roots.items
  separate = from.now p.typed p.roots.items says

  pub here : (held : Option Directory) → held ≡ Some d → IsNowHere now held p.typed p.roots.items
  here held holds = record {
    build = record { accepted = sym e.accepted; sources = e.sources; provided = e.provided };
    holds = holds;
    functions = refl;
    roots_are = refl;
    separates = separate.separate;
    met = from.out;
  }

  pub stored : IsFromStore now (digested d p.digests.items s).funcs p.digests.items s.rows
  stored = record { rows_are = (from.stored s text readable).rows; meaning = means_same e d s text p from readable says has names funcs }

  other_of : (path : List ℕ) → IsOtherOf now path → IsOther (live_of p.typed d p.roots.items) d path
  other_of path o = record { bytes = o.bytes; provided = o.provided; other = o.other }

  of_other : (path : List ℕ) → IsOther (live_of p.typed d p.roots.items) d path → IsOtherOf now path
  of_other path o = record { bytes = o.bytes; provided = o.provided; other = o.other }

  stray_of : (path : List ℕ) → IsStrayOf now path → IsStray (live_of p.typed d p.roots.items) d path
  stray_of path s = record { out = s.out; there = s.there; absent = s.absent }

  of_stray : (path : List ℕ) → IsStray (live_of p.typed d p.roots.items) d path → IsStrayOf now path
  of_stray path s = record { out = s.out; there = s.there; absent = s.absent }

  leaves_so : (r : Report) (after : Option Directory) → LeavesAsClean now p.digests.items p.roots.items r after
      → LeavesClean p.typed p.digests.items p.roots.items d r after
  leaves_so r after l =
      let c = l.left in
      record {
        left = c.left;
        told = c.told;
        text = c.text;
        rows = l.rows;
        built = c.built;
        records = l.rows_are;
        store = c.store;
        live = c.live;
        outputs = ap (λ (os : List (Task × Value)). map output_bytes os) c.outputs_are ∙ l.outputs_are;
        wrote = λ path. (λ i. other_of path ((c.wrote path).0 i), λ o. (c.wrote path).1 (of_other path o));
        removed = λ path. (λ i. stray_of path ((c.removed path).0 i), λ o. (c.removed path).1 (of_stray path o));
        ordered = c.ordered;
      }

  as_clean : (r : Report) (after : Option Directory) → BuildsCleanOf now p.digests.items p.roots.items r after → IsAsClean d r after
  as_clean r after builds = record {
    funcs = p.digests.items;
    roots = p.roots.items;
    found = found;
    verdict = builds.verdict;
    left = λ accepted. leaves_so r after (builds.left accepted);
  }

-- ---- without a store

-- a build of no roots in the directory without files leaves that
built_of_nothing : (fs : List FunctionTree) → IsEarlierBuild world (model_project fs nothing) [] nothing
unfolding world
built_of_nothing fs = record {
  accepted = refl;
  sources = λ path kind. refl;
  provided = λ path kind. let none : fin.get nothing path ≡ None = fin.get-empty (slice_cmp nat_cmp) path in ap (option_map (λ (f : List ℕ × ℕ). f.0)) none;
}

module _ (d : Directory) (p : Project) (apart : IsSeparate d) (says : ProjectSays d (Ok (front_of p))) (has : HasDigests d p.digests.items)
    (names : HasNames p.typed p.digests.items) (funcs : AreFuncs p.digests.items) where
  abbrev alone : Update
  alone = update_alone apart.strings d p.typed p.roots.items

  abbrev pub found_alone : IsProjectOf d p.digests.items p.roots.items
  found_alone = record { functions = p.typed; says = says; names = names; digests = has }

  pub here_alone : (held : Option Directory) → held ≡ Some d → IsNowHere alone held p.typed p.roots.items
  here_alone held holds = record {
    build = built_of_nothing p.typed;
    holds = holds;
    functions = refl;
    roots_are = refl;
    separates = apart.now p.typed p.roots.items says;
    met = apart.out;
  }

  pub stored_alone : (kept : List (List ℕ × List ℕ)) (rows : List TaskRecord) → rows ≡ [] → IsFromStore alone kept p.digests.items rows
  stored_alone kept rows none = record { rows_are = ap (map record_of) none; meaning = λ t canonical same. refl }

  stray_now : (path : List ℕ) → IsStrayOf alone path → IsStray (live_of p.typed d p.roots.items) d path
  stray_now path s = record { out = s.out; there = s.there; absent = s.absent }

  stray_alone : (path : List ℕ) → IsStray (live_of p.typed d p.roots.items) d path → IsStrayOf alone path
  stray_alone path s = record { out = s.out; there = s.there; absent = s.absent }

  leaves_alone : (r : Report) (after : Option Directory) → LeavesAnewAs alone p.digests.items p.roots.items r after
      → LeavesAnew p.typed p.digests.items p.roots.items d r after
  leaves_alone r after l =
      let c = l.left in
      record {
        left = c.left;
        told = c.told;
        text = c.text;
        rows = l.rows;
        built = c.built;
        records = l.rows_are;
        store = c.store;
        live = c.live;
        outputs = ap (λ (os : List (Task × Value)). map output_bytes os) c.outputs_are ∙ l.outputs_are;
        wrote = c.wrote;
        removed = λ path. (λ i. stray_now path ((c.removed path).0 i), λ o. (c.removed path).1 (stray_alone path o));
        ordered = c.ordered;
      }

  pub clean_alone : (r : Report) (after : Option Directory) → BuildsAnewOf alone p.digests.items p.roots.items r after → IsAsCleanAnew d r after
  clean_alone r after builds = record {
    funcs = p.digests.items;
    roots = p.roots.items;
    found = found_alone;
    verdict = builds.verdict;
    left = λ accepted. leaves_alone r after (builds.left accepted);
  }

from_clean : (b : Base) (p : Project) (told : Told) (before mid after : Option Directory) (r : Report) → mid ≡ before
    → IfSome before (λ d. ProjectSays d (Ok (front_of p))) → IfSome before (λ d. HasDigests d p.digests.items) → HasNames p.typed p.digests.items
    → AreFuncs p.digests.items → RunsIfTold b p told mid after r → FromAsClean b told before after r
from_clean b p told before mid after r same says has names funcs runs = record {
  none = λ d is. (ran d is).none;
  each = λ d is base e from honest. by d is base e from honest b.store base;
  anew = anew_of;
}
  where
    project : (d : Directory) → before ≡ Some d → ProjectSays d (Ok (front_of p))
    project d is = subst (λ o. IfSome o (λ x. ProjectSays x (Ok (front_of p)))) is says

    digests : (d : Directory) → before ≡ Some d → HasDigests d p.digests.items
    digests d is = subst (λ o. IfSome o (λ x. HasDigests x p.digests.items)) is has

    ran : (d : Directory) → before ≡ Some d → RunsAsClean b p told mid after r
    ran d is = runs.of d (same ∙ is) (is_ready (Some d) (Some d) p (project d is) refl)

    by : (d : Directory) → before ≡ Some d → HasBase d b → (e : Earlier) (from : HasStoreOf e d) → OffersHonest e from.strings d told
        → (o : Option (Vec ℕ Global)) → IsReadFrom d b.image o → IsAsClean d r after
    by d is base e from honest None readable = absurd readable
    by d is base e from honest (Some text) readable =
        let says = project d is in
        let has = digests d is in
        as_clean e d b.image text.items p from readable says has names funcs r after
        ((ran d is).each (update_of e from.strings d p.typed p.roots.items)
        (record {
          here = here e d b.image text.items p from readable says has names funcs mid (same ∙ is);
          stored = stored e d b.image text.items p from readable says has names funcs;
          base = base;
        })
        (honest.each p.digests.items p.roots.items (found e d b.image text.items p from readable says has names funcs)))

    anew_of : (d : Directory) → before ≡ Some d → IsNoBase b → AnewAsClean told d r after
    anew_of d is bare apart honest =
        let says = project d is in
        let has = digests d is in
        clean_alone d p apart says has names funcs r after
        ((ran d is).anew (update_alone apart.strings d p.typed p.roots.items)
        (record {
          here = here_alone d p apart says has names funcs mid (same ∙ is);
          stored = stored_alone d p apart says has names funcs (digested d p.digests.items b.image).funcs b.image.rows bare.rows;
          none = bare.store;
          rows = bare.rows;
        })
        (honest.each p.digests.items p.roots.items (found_alone d p apart says has names funcs)))

pub from_project : (b : Base) (p : Project) (told : Told) (before mid after : Option Directory) (result : Result Offered BuildError) → mid ≡ before
    → IfSome before (λ d. ProjectSays d (Ok (front_of p))) → IfSome before (λ d. HasDigests d p.digests.items) → HasNames p.typed p.digests.items
    → AreFuncs p.digests.items → IfOk result (λ o. RunsIfTold b p told mid after o.report.value)
    → IfOk result (λ o. FromAsClean b told before after o.report.value)
from_project b p told before mid after (Err e) same says has names funcs runs = tt
from_project b p told before mid after (Ok o) same says has names funcs runs =
    from_clean b p told before mid after o.report.value same says has names funcs runs

-- the cause is no matter of what is told besides
caused_anew : (d : Directory) (r : Report) (cause : Option Cause) (after : Option Directory) → IsAsCleanAnew d r after
    → IsAsCleanAnew d (record r { fresh = cause }) after
caused_anew d r cause after a = record {
  funcs = a.funcs;
  roots = a.roots;
  found = a.found;
  verdict = a.verdict;
  left = λ accepted. let l = a.left accepted in record {
    left = l.left;
    told = l.told;
    text = l.text;
    rows = l.rows;
    built = l.built;
    records = l.records;
    store = l.store;
    live = l.live;
    outputs = l.outputs;
    wrote = l.wrote;
    removed = l.removed;
    ordered = l.ordered;
  };
}

pub caused_from : (told : Told) (before after : Option Directory) (b : Base) (r q : Report) (cause : Option Cause) → q ≡ record r { fresh = cause }
    → FromAsClean b told before after r → IfSome before (λ d. IsNoBase b → AnewAsClean told d q after)
caused_from told None after b r q cause is from = tt
caused_from told (Some d) after b r q cause is from = λ bare apart honest.
    subst (λ x. IsAsCleanAnew d x after) (sym is) (caused_anew d r cause after (from.anew d refl bare apart honest))

pub anew_by : (told : Told) (b : Base) (before after : Option Directory) (result : Result Offered BuildError) → IsNoBase b
    → IfSome before (λ d. IfOk result (λ o. IsNoBase b → AnewAsClean told d o.report.value after))
    → IfSome before (λ d. IfOk result (λ o. AnewAsClean told d o.report.value after))
anew_by told b None after result bare h = tt
anew_by told b (Some d) after (Ok o) bare h = h bare
anew_by told b (Some d) after (Err e) bare h = tt

-- ---- the whole build

-- nothing is offered by nobody
pub nothing_offered : (e : Earlier) (strings : List (List ℕ)) (d : Directory) → OffersHonest e strings d (λ x t digest. [])
nothing_offered e strings d = record {
  each = λ funcs roots found t digest has. All-nil (IsHonestTo (update_of e strings d found.functions roots) t);
}

pub differs : (c : Cause) (o : Option Cause) → o ≡ Some c → o ≡ None → ⊥
differs c o is none = let f : ⊥ = cc in f

one_cause : (c x : Cause) (o : Option Cause) → o ≡ Some c → o ≡ Some x → c ≡ x
one_cause c x o is also = cc

pub some_cause : (o : Option Cause) → IsSome o → o ≡ None → ⊥
some_cause None some is = let f : ⊥ = cc in f
some_cause (Some c) some is = let f : ⊥ = cc in f

pub can_begin : (d : Directory) (s : StoreImage) (o : Option (Vec ℕ Global)) → IsReadFrom d s o → CanBegin d
can_begin d s None has = absurd has
can_begin d s (Some text) has = record { image = s; text = text.items; readable = has }

-- one that starts afresh
pub afresh_cleans : (start : Start) (cause : Cause) (before mid after : Option Directory) (result : Result Report BuildError) → start ≡ Afresh cause
    → IfSome before (λ d. StartsAt d start) → mid ≡ before → IfSome mid (λ d. IfOk result (λ r. IsAfreshAfter d r after []))
    → IfOk result (λ r. r.fresh ≡ Some cause) → IfSome before (λ d. IfOk result (λ r. BuildsAsClean d r after))
afresh_cleans start cause before mid after (Err e) starts begins same is why = if_always before (tt {0})
afresh_cleans start cause before mid after (Ok r) starts begins same is why =
    if_two (λ d. StartsAt d start) (λ d. IsAfreshAfter d r after []) (λ d. BuildsAsClean d r after) before
    (λ d begun afresh. record {
      goes_on = λ none. absurd (differs cause r.fresh why none);
      begins = λ none. absurd (differs cause r.fresh why none);
      afresh = λ some. afresh.afresh;
      cause = λ c told. subst (IsStoreCause d) (one_cause cause c r.fresh why told) (subst (StartsAt d) starts begun);
      none = λ some. afresh.is;
    })
    begins (subst (λ m. IfSome m (λ d. IsAfreshAfter d r after [])) same is)

-- one from a store
pub from_cleans : (start : Start) (b : Box Base Global) (before mid after : Option Directory) (result : Result Report BuildError) → start ≡ From b
    → IfSome before (λ d. StartsAt d start) → mid ≡ before → IfOk result (FromAsClean b.value (λ x t digest. []) mid after)
    → IfSome before (λ d. IfOk result (λ r. BuildsAsClean d r after))
from_cleans start b before mid after (Err e) is begins same h = if_always before (tt {0})
from_cleans start b before mid after (Ok r) is begins same h = by before same begins
  where
    by : (o : Option Directory) → mid ≡ o → IfSome o (λ d. StartsAt d start) → IfSome o (λ d. BuildsAsClean d r after)
    by None told begun = tt
    by (Some d) told begun =
        let base : HasBase d b.value = subst (StartsAt d) is begun in
        record {
          goes_on = λ none e from. h.each d told base e from (nothing_offered e from.strings d);
          begins = λ none. can_begin d b.value.image b.value.store base;
          afresh = λ some. absurd (some_cause r.fresh some (h.none d told));
          cause = λ c caused. absurd (differs c r.fresh caused (h.none d told));
          none = λ some. absurd (some_cause r.fresh some (h.none d told));
        }

-- ---- the same with offers

pub anew_cleans : (told : Told) (start : Start) (cause : Cause) (before mid after : Option Directory) (result : Result Offered BuildError)
    → start ≡ Afresh cause → IfSome before (λ d. StartsAt d start) → IfSome before (λ d. StartsOnly d start) → mid ≡ before
    → IfSome mid (λ d. IfOk result (λ o. AnewAsClean told d o.report.value after)) → IfOk result (λ o. o.report.value.fresh ≡ Some cause)
    → IfSome before (λ d. IfOk result (λ o. OffersClean told d o.report.value after))
anew_cleans told start cause before mid after (Err e) starts begins only same anew why = if_always before (tt {0})
anew_cleans told start cause before mid after (Ok o) starts begins only same anew why =
    if_two (λ d. StartsAt d start × StartsOnly d start) (λ d. AnewAsClean told d o.report.value after) (λ d. OffersClean told d o.report.value after) before
    (λ d begun clean. record {
      goes_on = λ none. absurd (differs cause o.report.value.fresh why none);
      afresh = λ some. clean;
      cause = λ c is. subst (IsStoreCause d) (one_cause cause c o.report.value.fresh why is) (subst (StartsAt d) starts begun.0);
      begins = λ none. absurd (differs cause o.report.value.fresh why none);
      only = λ some. subst (StartsOnly d) starts begun.1;
    })
    (if_two (λ d. StartsAt d start) (λ d. StartsOnly d start) (λ d. StartsAt d start × StartsOnly d start) before (λ d a b. (a, b)) begins only)
    (subst (λ m. IfSome m (λ d. AnewAsClean told d o.report.value after)) same anew)

pub offered_cleans : (told : Told) (start : Start) (b : Box Base Global) (before mid after : Option Directory) (result : Result Offered BuildError)
    → start ≡ From b → IfSome before (λ d. StartsAt d start) → mid ≡ before → IfOk result (λ o. FromAsClean b.value told mid after o.report.value)
    → IfSome before (λ d. IfOk result (λ o. OffersClean told d o.report.value after))
offered_cleans told start b before mid after (Err e) is begins same h = if_always before (tt {0})
offered_cleans told start b before mid after (Ok o) is begins same h = by before same begins
  where
    by : (held : Option Directory) → mid ≡ held → IfSome held (λ d. StartsAt d start) → IfSome held (λ d. OffersClean told d o.report.value after)
    by None holds begun = tt
    by (Some d) holds begun = record {
      goes_on = λ none e from honest. h.each d holds (subst (StartsAt d) is begun) e from honest;
      afresh = λ some. absurd (some_cause o.report.value.fresh some (h.none d holds));
      cause = λ c caused. absurd (differs c o.report.value.fresh caused (h.none d holds));
      begins = λ none. can_begin d b.value.image b.value.store (subst (StartsAt d) is begun);
      only = λ some. absurd (some_cause o.report.value.fresh some (h.none d holds));
    }
