-- What is told as new offers, handed up from the evaluation of a project to the whole build.
use Rattle.std.proofs.Common.{◌≡◌, ◌∙◌, ◌++◌, ℕ, true, Bool, List, map, Option, None, Some, Result, Ok, Err, Vec, Global, ap, refl, sym, subst}
use Rattle.std.specs.Prelude.{All, Box, IfOk, IfSome}
use Rattle.std.proofs.lemmas.List.Elements.{All-weaker}
use Rattle.pie_build.proofs.Cleaning.{is_ready}
use Rattle.pie_build.specs.inner.Projects.{IsReady}
use Rattle.pie_checks.specs.declared.built.Built.{Built}
use Rattle.pie_digest.specs.Digests.{HasNames}
use Rattle.pie_files.proofs.Reading.{if_always}
use Rattle.pie_files.specs.Directory.{Directory}
use Rattle.pie_fresh.specs.Cleans.{IsRootOf}
use Rattle.pie_incremental.specs.Earlier.{Earlier}
use Rattle.pie_incremental.specs.inner.Digested.{digested}
use Rattle.pie_incremental.specs.inner.Joined.{IsMade, StandsIf}
use Rattle.pie_project.specs.Digested.{HasDigests}
use Rattle.pie_project.specs.Fronts.{ProjectSays}
use Rattle.pie_project.specs.declared.fault.BuildError.{BuildError}
use Rattle.pie_project.specs.declared.project.Project.{Project}
use Rattle.pie_project.specs.inner.Projects.{front_of}
use Rattle.pie_record.specs.declared.task_record.TaskRecord.{TaskRecord}
use Rattle.pie_results.specs.inner.Files.{contents_in}
use Rattle.pie_store.specs.Canonical.{AreFuncs}
use Rattle.pie_store.specs.declared.cause.Cause.{Cause}
use Rattle.pie_store.specs.declared.image.StoreImage.{StoreImage}
use Rattle.pie_value.specs.Limits.{is_small_task}
use Rattle.pie_value.specs.declared.task.Task.{Task}
use Rattle.pie_value.specs.declared.verdict.Verdict.{Verdict}
use Rattle.pie_value.specs.declared.verdict.Verdict.TheVariants.{Accepted}
use Rattle.pie_topdown_build.specs.declared.base.Base.{Base}
use Rattle.pie_topdown_build.specs.declared.base.Start.{Start}
use Rattle.pie_topdown_build.specs.declared.base.Start.TheVariants.{From}
use Rattle.pie_topdown_build.specs.declared.offered.Offered.{Offered}
use Rattle.pie_topdown_build.specs.Clean.{HasStoreOf}
use Rattle.pie_topdown_build.specs.inner.Anew.{update_alone, IsNoBase}
use Rattle.pie_topdown_build.specs.inner.Bases.{IsReadFrom, StartsAt}
use Rattle.pie_topdown_build.specs.inner.Clean.{update_of, FromAsClean, MakesFrom, OffersHonest}
use Rattle.pie_topdown_build.specs.inner.Filed.{FilesFrom}
use Rattle.pie_topdown_build.specs.inner.News.{as_told, news_in, Told as News}
use Rattle.pie_topdown_build.specs.inner.Records.{AreAllOf, AreOfProject, IsToldOf, OffersOf, TellsAnew, TellsFrom, TellsOf, TellsOfIfReady}
use Rattle.pie_topdown_build.specs.inner.Stored.{AreRowsIf}
use Rattle.pie_topdown_build.proofs.Cleanly.{differs, found, found_alone, here, here_alone, some_cause, stored, stored_alone}
use Rattle.pie_topdown_build.proofs.Complete.{told_whole}
use Rattle.pie_topdown_build.proofs.Evaluated.{news_evaluated}
use Rattle.pie_topdown_build.proofs.Running.{Told}

-- ---- the evaluation

pub made_tells : (p : Project) (s : StoreImage) (offers : Told) (before : Option Directory) (first after reused : List Task) (b : Built) (v : Verdict)
    (ran : List Task) (told : List News) → MakesFrom before p s offers b → FilesFrom before p s offers first after reused b
    → IsMade p.digests.items p.roots.items b → after ≡ first ++ ran → v ≡ b.verdict → AreRowsIf b.verdict b.rows.items
    → told ≡ news_in p.digests.items b.rows.items (contents_in b.files.items) ran → TellsOf before p s offers v ran told
made_tells p s offers before first after reused b v ran told makes filed stands gained is rows tells = record {
  each = λ accepted u here stored honest.
      subst (λ ts. All (IsToldOf u.functions u.directory p.digests.items) ts) (sym tells)
      (news_evaluated u b.rows.items p.digests.items (contents_in b.files.items) ran ((makes.each u here stored honest).made (sym is ∙ accepted))
      (subst (λ (x : Verdict). AreRowsIf x b.rows.items) (sym is ∙ accepted) rows));
  all = λ accepted u here stored honest.
      let made = (makes.each u here stored honest).made (sym is ∙ accepted) in
      record {
        rows = b.rows.items;
        records = made.rows;
        all = λ short. ap (map row_of) tells
            ∙ told_whole u b p.digests.items s.rows first after reused ran made (filed.each u here stored honest (sym is ∙ accepted)) gained stands.kept.files
            (subst (λ (x : Verdict). StandsIf x p.digests.items p.roots.items b.rows.items) (sym is ∙ accepted) stands.stands).known short;
      };
}
  where
    row_of : News → TaskRecord
    row_of t = t.1.0

-- ---- the build of a project

module _ (p : Project) (s : StoreImage) (offers : Told) (before : Option Directory) where
  pub tells_if_ready : (v : Verdict) (ran : List Task) (told : List News) → TellsOf before p s offers v ran told → TellsOfIfReady before p s offers v ran told
  tells_if_ready v ran told tells = record { of = λ d is ready. tells }

  -- roots of a project that is observable are within the limits of values
  pub tells_if_large : (tells : Bool) (result : Result Offered BuildError) → ¬ (All (λ t. is_small_task t ≡ true) p.roots.items) → tells ≡ true
      → IfOk result (λ o. TellsOfIfReady before p s offers o.report.value.verdict o.report.value.ran.items (map as_told o.new.items))
  tells_if_large tells (Err e) large on = tt
  tells_if_large tells (Ok o) large on = record { of = λ d is ready. absurd (never ready) }
    where
      never : IsReady p.typed p.roots.items → ⊥
      never ready = large (All-weaker (IsRootOf p.typed) (λ t. is_small_task t ≡ true) (λ t root. root.small) p.roots.items ready.roots)

-- ---- the project was read from the directory

module _ (b : Base) (p : Project) (offers : Told) (before mid : Option Directory) (v : Verdict) (ran : List Task) (told : List News) (same : mid ≡ before)
    (says : IfSome before (λ d. ProjectSays d (Ok (front_of p)))) (has : IfSome before (λ d. HasDigests d p.digests.items))
    (names : HasNames p.typed p.digests.items) (funcs : AreFuncs p.digests.items) (tells : TellsOfIfReady mid p b.image offers v ran told) where
  says_at : (d : Directory) → before ≡ Some d → ProjectSays d (Ok (front_of p))
  says_at d is = subst (λ o. IfSome o (λ x. ProjectSays x (Ok (front_of p)))) is says

  digests_at : (d : Directory) → before ≡ Some d → HasDigests d p.digests.items
  digests_at d is = subst (λ o. IfSome o (λ x. HasDigests x p.digests.items)) is has

  of_update : (d : Directory) → before ≡ Some d → TellsOf mid p b.image offers v ran told
  of_update d is = tells.of d (same ∙ is) (is_ready (Some d) (Some d) p (says_at d is) refl)

  tells_each : v ≡ Accepted → (d : Directory) → before ≡ Some d → (o : Option (Vec ℕ Global)) → IsReadFrom d b.image o → (e : Earlier) (from : HasStoreOf e d)
      → OffersHonest e from.strings d offers → AreOfProject d told
  tells_each accepted d is None readable e from honest = absurd readable
  tells_each accepted d is (Some text) readable e from honest =
      let says = says_at d is in
      let has = digests_at d is in
      record {
        funcs = p.digests.items;
        roots = p.roots.items;
        found = found e d b.image text.items p from readable says has names funcs;
        each = (of_update d is).each accepted (update_of e from.strings d p.typed p.roots.items)
            (here e d b.image text.items p from readable says has names funcs mid (same ∙ is))
            (stored e d b.image text.items p from readable says has names funcs)
            (honest.each p.digests.items p.roots.items (found e d b.image text.items p from readable says has names funcs));
      }

  tells_all : v ≡ Accepted → (d : Directory) → before ≡ Some d → (o : Option (Vec ℕ Global)) → IsReadFrom d b.image o → (e : Earlier) (from : HasStoreOf e d)
      → OffersHonest e from.strings d offers → AreAllOf d ran told
  tells_all accepted d is None readable e from honest = absurd readable
  tells_all accepted d is (Some text) readable e from honest =
      let says = says_at d is in
      let has = digests_at d is in
      let now = update_of e from.strings d p.typed p.roots.items in
      let offers_now = honest.each p.digests.items p.roots.items (found e d b.image text.items p from readable says has names funcs) in
      record {
        funcs = p.digests.items;
        roots = p.roots.items;
        found = found e d b.image text.items p from readable says has names funcs;
        each = (of_update d is).each accepted now (here e d b.image text.items p from readable says has names funcs mid (same ∙ is))
            (stored e d b.image text.items p from readable says has names funcs) offers_now;
        all = (of_update d is).all accepted now (here e d b.image text.items p from readable says has names funcs mid (same ∙ is))
            (stored e d b.image text.items p from readable says has names funcs) offers_now;
      }

  tells_from : TellsFrom b offers before v ran told
  tells_from = record {
    each = λ accepted d is base e from honest. tells_each accepted d is b.store base e from honest;
    all = λ accepted d is base e from honest. tells_all accepted d is b.store base e from honest;
    anew = λ accepted d is bare apart honest.
        let says = says_at d is in
        let has = digests_at d is in
        record {
          funcs = p.digests.items;
          roots = p.roots.items;
          found = found_alone d p apart says has names funcs;
          each = (of_update d is).each accepted (update_alone apart.strings d p.typed p.roots.items)
              (here_alone d p apart says has names funcs mid (same ∙ is))
              (stored_alone d p apart says has names funcs (digested d p.digests.items b.image).funcs b.image.rows bare.rows)
              (honest.each p.digests.items p.roots.items (found_alone d p apart says has names funcs));
        };
    all_anew = λ accepted d is bare apart honest.
        let says = says_at d is in
        let has = digests_at d is in
        let now = update_alone apart.strings d p.typed p.roots.items in
        let offers_now = honest.each p.digests.items p.roots.items (found_alone d p apart says has names funcs) in
        record {
          funcs = p.digests.items;
          roots = p.roots.items;
          found = found_alone d p apart says has names funcs;
          each = (of_update d is).each accepted now (here_alone d p apart says has names funcs mid (same ∙ is))
              (stored_alone d p apart says has names funcs (digested d p.digests.items b.image).funcs b.image.rows bare.rows) offers_now;
          all = (of_update d is).all accepted now (here_alone d p apart says has names funcs mid (same ∙ is))
              (stored_alone d p apart says has names funcs (digested d p.digests.items b.image).funcs b.image.rows bare.rows) offers_now;
        };
  }

pub tells_of_project : (b : Base) (p : Project) (offers : Told) (before mid : Option Directory) (tells : Bool) (result : Result Offered BuildError)
    → mid ≡ before → IfSome before (λ d. ProjectSays d (Ok (front_of p))) → IfSome before (λ d. HasDigests d p.digests.items)
    → HasNames p.typed p.digests.items → AreFuncs p.digests.items
    → (tells ≡ true → IfOk result (λ o. TellsOfIfReady mid p b.image offers o.report.value.verdict o.report.value.ran.items (map as_told o.new.items)))
    → tells ≡ true → IfOk result (λ o. TellsFrom b offers before o.report.value.verdict o.report.value.ran.items (map as_told o.new.items))
tells_of_project b p offers before mid tells (Err e) same says has names funcs h on = tt
tells_of_project b p offers before mid tells (Ok o) same says has names funcs h on =
    tells_from b p offers before mid o.report.value.verdict o.report.value.ran.items (map as_told o.new.items) same says has names funcs (h on)

-- ---- the whole build

-- with nothing to build from
pub tells_none : (offers : Told) (before : Option Directory) (b : Base) (v : Verdict) (ran : List Task) (told : List News)
    → TellsFrom b offers before v ran told → IfSome before (λ d. IsNoBase b → TellsAnew offers d v ran told)
tells_none offers None b v ran told tells = tt
tells_none offers (Some d) b v ran told tells = λ bare. record {
  each = λ accepted apart honest. tells.anew accepted d refl bare apart honest;
  all = λ accepted apart honest. tells.all_anew accepted d refl bare apart honest;
}

pub tells_anew : (offers : Told) (b : Base) (before : Option Directory) (result : Result Offered BuildError) → IsNoBase b
    → IfSome before (λ d. IfOk result (λ o. IsNoBase b → TellsAnew offers d o.report.value.verdict o.report.value.ran.items (map as_told o.new.items)))
    → IfSome before (λ d. IfOk result (λ o. TellsAnew offers d o.report.value.verdict o.report.value.ran.items (map as_told o.new.items)))
tells_anew offers b None result bare h = tt
tells_anew offers b (Some d) (Ok o) bare h = h bare
tells_anew offers b (Some d) (Err e) bare h = tt

pub tells_afresh : (offers : Told) (cause : Cause) (before mid : Option Directory) (result : Result Offered BuildError) → mid ≡ before
    → IfSome mid (λ d. IfOk result (λ o. TellsAnew offers d o.report.value.verdict o.report.value.ran.items (map as_told o.new.items)))
    → IfOk result (λ o. o.report.value.fresh ≡ Some cause)
    → IfSome before (λ d. IfOk result (λ o. OffersOf offers d o.report.value (map as_told o.new.items)))
tells_afresh offers cause before mid (Err e) same tells why = if_always before (tt {0})
tells_afresh offers cause before mid (Ok o) same tells why =
    by before (subst (λ m. IfSome m (λ d. TellsAnew offers d o.report.value.verdict o.report.value.ran.items (map as_told o.new.items))) same tells)
  where
    by : (held : Option Directory) → IfSome held (λ d. TellsAnew offers d o.report.value.verdict o.report.value.ran.items (map as_told o.new.items))
        → IfSome held (λ d. OffersOf offers d o.report.value (map as_told o.new.items))
    by None t = tt
    by (Some d) t = record {
      goes_on = λ none. absurd (differs cause o.report.value.fresh why none);
      all = λ none. absurd (differs cause o.report.value.fresh why none);
      afresh = λ some. t.each;
      all_afresh = λ some. t.all;
    }

-- from a store
pub tells_stored : (offers : Told) (start : Start) (b : Box Base Global) (before mid after : Option Directory) (result : Result Offered BuildError)
    → start ≡ From b → IfSome before (λ d. StartsAt d start) → mid ≡ before → IfOk result (λ o. FromAsClean b.value offers mid after o.report.value)
    → IfOk result (λ o. TellsFrom b.value offers mid o.report.value.verdict o.report.value.ran.items (map as_told o.new.items))
    → IfSome before (λ d. IfOk result (λ o. OffersOf offers d o.report.value (map as_told o.new.items)))
tells_stored offers start b before mid after (Err e) is begins same clean tells = if_always before (tt {0})
tells_stored offers start b before mid after (Ok o) is begins same clean tells = by before same begins
  where
    by : (held : Option Directory) → mid ≡ held → IfSome held (λ d. StartsAt d start)
        → IfSome held (λ d. OffersOf offers d o.report.value (map as_told o.new.items))
    by None holds begun = tt
    by (Some d) holds begun = record {
      goes_on = λ none accepted e from honest. tells.each accepted d holds (subst (StartsAt d) is begun) e from honest;
      all = λ none accepted e from honest. tells.all accepted d holds (subst (StartsAt d) is begun) e from honest;
      afresh = λ some. absurd (some_cause o.report.value.fresh some (clean.none d holds));
      all_afresh = λ some. absurd (some_cause o.report.value.fresh some (clean.none d holds));
    }
