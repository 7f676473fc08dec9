-- Which tasks a build without a list ran, from its evaluation to the earlier build.
use Rattle.std.proofs.Common.{◌≡◌, ℕ, zero, suc, ◌<◌, true, false, Bool, cond, List, [], ◌∷◌, ◌++◌, Option, None, Some, Result, Ok, Err, Vec, Global, map, get_or, refl, sym, ap, subst, ◌∙◌, ◌⊎◌, inl, inr}
use Rattle.std.specs.Prelude.{All, Box, IfOk, IfSome, bytes_eq}
use Rattle.std.specs.List.{Contains}
use Rattle.std.specs.Option.{option_map}
use Rattle.std.proofs.lemmas.List.{length-map}
use Rattle.std.proofs.lemmas.List.Elements.{All-contains, All-weaker, Contains-get_or}
use Rattle.sha2.specs.Sha256.{sha256}
use Rattle.pie_build.specs.inner.Projects.{IsReady}
use Rattle.pie_build.proofs.Cleaning.{is_ready}
use Rattle.pie_builder_laws.specs.Events.{AreCompiled}
use Rattle.pie_checks.specs.declared.built.Built.{Built}
use Rattle.pie_check_laws.proofs.Members.{none_in}
use Rattle.pie_code.specs.declared.code.Code.{Code}
use Rattle.pie_core_laws.specs.Update.{Update}
use Rattle.pie_diff.specs.Hashes.{is_hash}
use Rattle.pie_digest.specs.Digests.{HasNames}
use Rattle.pie_earlier_laws.specs.Functions.{digest_under}
use Rattle.pie_earlier_laws.specs.Rows.{record_among}
use Rattle.pie_files.proofs.Reading.{if_always}
use Rattle.pie_files.specs.Directory.{Directory, file_at}
use Rattle.pie_files.specs.declared.files.FilesError.{FilesError}
use Rattle.pie_fresh.specs.Cleans.{IsRootOf}
use Rattle.pie_incremental.specs.Earlier.{Earlier}
use Rattle.pie_incremental.specs.Ran.{HasReason, digest_in, digests_by, earlier_rows, is_hash_of, kept_digests, record_in}
use Rattle.pie_incremental.specs.Starts.{IsReadable}
use Rattle.pie_incremental.specs.inner.Digested.{digested, with_digests}
use Rattle.pie_incremental.specs.inner.Joined.{IsImage}
use Rattle.pie_model.specs.Reasons.{RunReason}
use Rattle.pie_model.specs.Reasons.RunReason.{is_new}
use Rattle.pie_model.specs.Records.{Record}
use Rattle.pie_model_pipeline.specs.World.{world, project}
use Rattle.pie_project.specs.Digested.{HasDigests}
use Rattle.pie_project.specs.Fronts.{ProjectSays}
use Rattle.pie_project.specs.Looking.{file_bytes, pipeline_path}
use Rattle.pie_project.specs.declared.fault.BuildError.{BuildError}
use Rattle.pie_project.specs.declared.project.Project.{Project}
use Rattle.pie_project.specs.inner.Projects.{front_of}
use Rattle.pie_record.specs.Canonical.{IsTrueRecord}
use Rattle.pie_record.specs.declared.task_record.TaskRecord.{TaskRecord}
use Rattle.pie_report.specs.declared.report.Report.{Report}
use Rattle.pie_store.specs.Canonical.{AreFuncs}
use Rattle.pie_store.specs.declared.cause.Cause.{Cause}
use Rattle.pie_store.specs.declared.image.StoreImage.{StoreImage}
use Rattle.pie_topdown.specs.inner.Due.{HasReason as HasReasonOf}
use Rattle.pie_topdown.specs.inner.Ran.{HasStanding as HasStandingNow, RanFor as StartedFor, RunsForReasons as StartsForReasons}
use Rattle.pie_topdown.specs.inner.Rooted.{IsProgram}
use Rattle.pie_topdown.specs.inner.Unoffered.{OffersNothing}
use Rattle.pie_topdown.proofs.Owning.{offers_still}
use Rattle.pie_topdown_result_laws.specs.Builds.{AreHonest, IsFromStore, IsNowHere}
use Rattle.pie_value.specs.Canonical.{enc_task}
use Rattle.pie_value.specs.Limits.{is_small_task}
use Rattle.pie_value.specs.declared.task.Task.{Task}
use Rattle.pie_value.specs.declared.verdict.Verdict.{Verdict}
use Rattle.pie_topdown_build.specs.declared.base.Base.{Base}
use Rattle.pie_topdown_build.specs.declared.base.Start.{Start}
use Rattle.pie_topdown_build.specs.declared.base.Start.TheVariants.{From}
use Rattle.pie_topdown_build.specs.declared.evaluating.Evaluated.{Evaluated}
use Rattle.pie_topdown_build.specs.declared.offered.Offered.{Offered}
use Rattle.pie_topdown_build.specs.Clean.{HasStoreOf}
use Rattle.pie_topdown_build.specs.Anew.{IsSeparate}
use Rattle.pie_topdown_build.specs.Ran.{HasStanding, IsLost, RanAnew, RanFor, RanOffered, RunsForReasons}
use Rattle.pie_topdown_build.specs.inner.Bases.{IsReadFrom, StartsAt}
use Rattle.pie_topdown_build.specs.inner.Anew.{update_alone, IsNoBase}
use Rattle.pie_topdown_build.specs.inner.Clean.{update_of, FromAsClean, OffersHonest}
use Rattle.pie_topdown_build.specs.inner.Ran.{FromRuns, HaveReasons, OffersNone, OffersRun, RanFrom, RunsAnew, RunsBy, RunsByIfTold, RunsFrom}
use Rattle.pie_topdown_build.specs.inner.Reused.{InByteOrder}
use Rattle.pie_topdown_build.proofs.Cleanly.{differs, found, found_alone, here, here_alone, nothing_offered, some_cause, stored, stored_alone}
use Rattle.pie_topdown_build.proofs.Running.{Told}

-- ---- the evaluation

-- of each update from the store, by the digests that were put in
runs_from : (before mid : Option Directory) (p : Project) (codes : List Code) (s t : StoreImage) (told : Told) (first after reused : List Task) (v : Verdict)
    → mid ≡ before → AreCompiled p.typed codes → IsImage s → t.rows ≡ s.rows → IfSome before (λ d. t ≡ digested d p.digests.items s)
    → (IsProgram p.typed codes t.rows
    → StartsForReasons mid p.typed t.funcs p.digests.items t.rows told p.roots.items first after [] reused v)
    → (OffersNothing mid told → reused ≡ []) → RunsFrom before p s told first after reused v
runs_from before mid p codes s t told first after reused v same compiled image rows put starts nothing = record {
  each = λ u here stored honest. by u here stored honest (is u here);
  none = λ o. nothing (offers_still before mid told told same refl o);
}
  where
    is : (u : Update) → IsNowHere u before p.typed p.roots.items → t ≡ digested u.directory p.digests.items s
    is u here = subst (λ o. IfSome o (λ d. t ≡ digested d p.digests.items s)) here.holds put

    by : (u : Update) → IsNowHere u before p.typed p.roots.items
        → IsFromStore u (digested u.directory p.digests.items s).funcs p.digests.items s.rows → AreHonest u p.digests.items told
        → t ≡ digested u.directory p.digests.items s
        → StartedFor u (digested u.directory p.digests.items s).funcs p.digests.items told first after [] reused v
    by u here stored honest put =
        subst (λ (x : StoreImage). StartedFor u x.funcs p.digests.items told first after [] reused v) put
        ((starts (record { compiled = compiled; parts = subst (All IsTrueRecord) (sym rows) image.parts })).each u
        (subst (λ m. IsNowHere u m p.typed p.roots.items) (sym same) here)
        (subst (λ (x : List TaskRecord). IsFromStore u t.funcs p.digests.items x) (sym rows)
        (subst (λ (x : StoreImage). IsFromStore u x.funcs p.digests.items s.rows) (sym put) stored)) honest)

-- so it is with an evaluation that succeeds
pub evaluates_ran : (before mid : Option Directory) (p : Project) (codes : List Code) (s t : StoreImage) (told : Told) (first after : List Task)
    (result : Result Evaluated FilesError) → mid ≡ before → AreCompiled p.typed codes → IsImage s → t.rows ≡ s.rows
    → IfSome before (λ d. t ≡ digested d p.digests.items s)
    → (IsProgram p.typed codes t.rows
    → IfOk result (λ e. StartsForReasons mid p.typed t.funcs p.digests.items t.rows told p.roots.items first after [] e.reused.items e.built.value.verdict))
    → (OffersNothing mid told → IfOk result (λ e. e.reused.items ≡ []))
    → IfOk result (λ e. RunsFrom before p s told first after e.reused.items e.built.value.verdict)
evaluates_ran before mid p codes s t told first after (Ok e) same compiled image rows put starts nothing =
    runs_from before mid p codes s t told first after e.reused.items e.built.value.verdict same compiled image rows put starts nothing
evaluates_ran before mid p codes s t told first after (Err x) same compiled image rows put starts nothing = tt

-- ---- its end

-- what is behind a list is one
one_behind : (xs ys zs : List Task) → xs ++ ys ≡ xs ++ zs → ys ≡ zs
one_behind [] ys zs e = e
one_behind (x ∷ xs) ys zs e = one_behind xs ys zs (let f : xs ++ ys ≡ xs ++ zs = cc in f)

in_bytes : (ts : List Task) (t : Task) → Contains ts t → Contains (map enc_task ts) (enc_task t)
in_bytes ts t i = (i.0, subst (λ n. i.0 < n) (sym (length-map ts enc_task)) i.1, at ts i.0 ∙ ap enc_task i.2)
  where
    at : (ts : List Task) (k : ℕ) → get_or (map enc_task ts) k (enc_task t) ≡ enc_task (get_or ts k t)
    at [] k = refl
    at (x ∷ ts) zero = refl
    at (x ∷ ts) (suc k) = at ts k

-- what was started since a list is what a report tells
module _ (u : Update) (told : Told) (kept digests : List (List ℕ × List ℕ)) (first after ran reused found : List Task) (v : Verdict)
    (order : InByteOrder reused found) (s : StartedFor u kept digests told first after [] reused v) where
  -- what holds of the reused ones holds of them in their order
  still : (P : Task → Type 0) → All P s.reused → All P found
  still P all = λ i d l.
      All-contains P reused (get_or found i d) (subst (All P) (sym s.reused_are) all) (order.from (get_or found i d) (Contains-get_or found i d l))

  everyone : (t : Task) → Contains s.ran t ⊎ Contains s.reused t ⊎ IsLost v t → Contains s.ran t ⊎ Contains (map enc_task found) (enc_task t) ⊎ IsLost v t
  everyone t (inl in_ran) = inl in_ran
  everyone t (inr (inl in_reused)) =
      inr (inl ((order.same (enc_task t)).1 (in_bytes reused t (subst (λ ts. Contains ts t) (sym s.reused_are) in_reused))))
  everyone t (inr (inr lost)) = inr (inr lost)

  alone : (OffersNone told u.directory → reused ≡ []) → OffersNone told u.directory → (t : Task) → Contains s.ran t ⊎ Contains s.reused t ⊎ IsLost v t
      → Contains s.ran t ⊎ IsLost v t
  alone nothing none t (inl in_ran) = inl in_ran
  alone nothing none t (inr (inl in_reused)) = absurd (none_in t (subst (λ ts. Contains ts t) (sym s.reused_are ∙ nothing none) in_reused))
  alone nothing none t (inr (inr lost)) = inr lost

  retold : (OffersNone told u.directory → reused ≡ []) → after ≡ first ++ ran → HaveReasons u told kept digests ran found v
  retold nothing gained =
      subst (λ ts. HaveReasons u told kept digests ts found v) (sym (one_behind first ran s.ran (sym gained ∙ s.ran_are)))
      (record {
        once = s.once;
        reasons = s.reasons;
        all = λ none fewer t entered r. alone nothing none t (s.all fewer t entered r);
        ascending = order.ascending;
        reused_reasons = still (HasReasonOf u kept digests) s.reused_reasons;
        without = s.without;
        standing = still (HasStandingNow u digests told) s.standing;
        every = λ fewer t entered r. everyone t (s.all fewer t entered r);
      })

-- a report of the tasks that were started, with the verdict of what was made
pub runs_ran : (b : Base) (p : Project) (told : Told) (before : Option Directory) (first after reused found : List Task) (made : Built) (r : Report)
    → InByteOrder reused found → RunsFrom before p b.image told first after reused made.verdict → r.verdict ≡ made.verdict → after ≡ first ++ r.ran.items
    → RunsBy b p told before r found
runs_ran b p told before first after reused found made r order runs is gained = record {
  each = λ u from honest. by u from.here from.stored honest;
  anew = λ u from honest. by u from.here from.stored honest;
}
  where
    by : (u : Update) → IsNowHere u before p.typed p.roots.items
        → IsFromStore u (digested u.directory p.digests.items b.image).funcs p.digests.items b.image.rows → AreHonest u p.digests.items told
        → HaveReasons u told (digested u.directory p.digests.items b.image).funcs p.digests.items r.ran.items found r.verdict
    by u here stored honest =
        subst (HaveReasons u told (digested u.directory p.digests.items b.image).funcs p.digests.items r.ran.items found) (sym is)
        (retold u told (digested u.directory p.digests.items b.image).funcs p.digests.items first after r.ran.items reused found made.verdict order
        (runs.each u here stored honest) (λ none. runs.none (record { directory = u.directory; is = here.holds; none = none })) gained)

-- ---- the build of a project

pub ran_ok : (b : Base) (p : Project) (told : Told) (before : Option Directory) (o : Offered) → RunsBy b p told before o.report.value o.reused.items
    → RunsByIfTold b p told before o.report.value o.reused.items
ran_ok b p told before o runs = record { of = λ d is ready. runs }

-- roots of a project that is observable are within the limits of values
pub large_ran : (b : Base) (p : Project) (told : Told) (before : Option Directory) (result : Result Offered BuildError)
    → ¬ (All (λ t. is_small_task t ≡ true) p.roots.items) → IfOk result (λ o. RunsByIfTold b p told before o.report.value o.reused.items)
large_ran b p told before (Err e) large = tt
large_ran b p told before (Ok o) large = record { of = λ d is ready. absurd (never ready) }
  where
    never : IsReady p.typed p.roots.items → ⊥
    never ready = large (All-weaker (IsRootOf p.typed) (λ t. is_small_task t ≡ true) (λ t root. root.small) p.roots.items ready.roots)

-- ---- records, digests and hashes of one, by both their definitions

same_record : (rows : List Record) (t : List ℕ) → record_among rows t ≡ record_in rows t
same_record [] t = refl
same_record (r ∷ rows) t = ap (λ o. cond (bytes_eq t r.task) (Some r) o) (same_record rows t)

same_digest : (rows : List (List ℕ × List ℕ)) (n : List ℕ) → digest_under rows n ≡ digest_in rows n
same_digest [] n = refl
same_digest (row ∷ rows) n = ap (λ o. cond (bytes_eq n row.0) (Some row.1) o) (same_digest rows n)

same_hash : (file : Option (List ℕ × ℕ)) (hash : List ℕ)
    → is_hash (option_map (λ f. sha256 f.0) file) hash ≡ is_hash_of (option_map (λ f. f.0) file) hash
same_hash None hash = refl
same_hash (Some file) hash = refl

-- the digests by which it goes
kept_is : (d : Directory) (digests : List (List ℕ × List ℕ)) (s : StoreImage) → (digested d digests s).funcs ≡ kept_digests d digests s
kept_is d digests s = by s.pipeline
  where
    either : (t : Bool) → (cond t (record s { funcs = digests }) s).funcs ≡ cond t digests s.funcs
    either true = refl
    either false = refl

    by : (o : Option (List ℕ)) → (with_digests d digests s o).funcs ≡ digests_by d digests s.funcs o
    by None = refl
    by (Some hash) =
        ap (λ (t : Bool). (cond t (record s { funcs = digests }) s).funcs) (same_hash (file_at d pipeline_path) hash)
        ∙ either (is_hash_of (file_bytes d pipeline_path) hash)

-- ---- which offers stand, in both ways to say it

standing_of : (u : Update) (digests : List (List ℕ × List ℕ)) (told : Told) (t : Task) → HasStandingNow u digests told t
    → HasStanding u.directory (told u.directory) u.functions digests t
standing_of u digests told t h = record {
  digest = h.digest;
  listed = sym (same_digest digests t.func) ∙ h.is;
  offer = h.offer;
  told_it = h.listed;
  stands = record { of = h.stands.of; once = h.stands.once; is = h.stands.is };
}

standing_back : (u : Update) (digests : List (List ℕ × List ℕ)) (told : Told) (t : Task) → HasStanding u.directory (told u.directory) u.functions digests t
    → HasStandingNow u digests told t
standing_back u digests told t h = record {
  digest = h.digest;
  is = same_digest digests t.func ∙ h.listed;
  offer = h.offer;
  listed = h.told_it;
  stands = record { of = h.stands.of; once = h.stands.once; is = h.stands.is };
}

-- ---- from the store of an earlier build

module _ (e : Earlier) (d : Directory) (s : StoreImage) (text : List ℕ) (p : Project) (from : HasStoreOf e d) (readable : IsReadable d s text)
    (says : ProjectSays d (Ok (front_of p))) (has : HasDigests d p.digests.items) (names : HasNames p.typed p.digests.items)
    (funcs : AreFuncs p.digests.items) where
  -- a reason, in the words of the earlier build
  reason_of : (kept : List (List ℕ × List ℕ)) (t : Task) → HasReasonOf (update_of e from.strings d p.typed p.roots.items) kept p.digests.items t
      → HasReason e d p.typed kept p.digests.items t
  reason_of kept t r =
      let before = earlier_rows e in
      subst (λ o. RunReason world (project p.typed d) d o (digest_in kept t.func) (digest_in p.digests.items t.func)) (same_record before (enc_task t))
      (subst (λ o. RunReason world (project p.typed d) d (record_among before (enc_task t)) o (digest_in p.digests.items t.func)) (same_digest kept t.func)
      (subst (λ o. RunReason world (project p.typed d) d (record_among before (enc_task t)) (digest_under kept t.func) o)
      (same_digest p.digests.items t.func) r))

  -- and back
  reason_back : (kept : List (List ℕ × List ℕ)) (t : Task) → HasReason e d p.typed kept p.digests.items t
      → HasReasonOf (update_of e from.strings d p.typed p.roots.items) kept p.digests.items t
  reason_back kept t r =
      let before = earlier_rows e in
      subst (λ o. RunReason world (project p.typed d) d o (digest_under kept t.func) (digest_under p.digests.items t.func)) (sym (same_record before (enc_task t)))
      (subst (λ o. RunReason world (project p.typed d) d (record_in before (enc_task t)) o (digest_under p.digests.items t.func)) (sym (same_digest kept t.func))
      (subst (λ o. RunReason world (project p.typed d) d (record_in before (enc_task t)) (digest_in kept t.func) o)
      (sym (same_digest p.digests.items t.func)) r))

  -- tasks that ran for reasons in the update did so by the earlier build
  module _ (told : Told) (ran reused : List Task) (v : Verdict)
      (have : HaveReasons (update_of e from.strings d p.typed p.roots.items) told (digested d p.digests.items s).funcs p.digests.items ran reused v) where
    abbrev HasOne : Task → Type 0
    HasOne t = HasReason e d p.typed (kept_digests d p.digests.items s) p.digests.items t

    reasons_of : (ts : List Task) → All (HasReasonOf (update_of e from.strings d p.typed p.roots.items) (digested d p.digests.items s).funcs p.digests.items) ts
        → All HasOne ts
    reasons_of ts all =
        let kept = (digested d p.digests.items s).funcs in
        subst (λ k. All (HasReason e d p.typed k p.digests.items) ts) (kept_is d p.digests.items s)
        (All-weaker (HasReasonOf (update_of e from.strings d p.typed p.roots.items) kept p.digests.items) (HasReason e d p.typed kept p.digests.items)
        (λ t r. reason_of kept t r) ts all)

    back : (t : Task) → HasOne t → HasReasonOf (update_of e from.strings d p.typed p.roots.items) (digested d p.digests.items s).funcs p.digests.items t
    back t r =
        reason_back (digested d p.digests.items s).funcs t
        (subst (λ k. HasReason e d p.typed k p.digests.items t) (sym (kept_is d p.digests.items s)) r)

    ran_for : RanFrom e d told ran v
    ran_for = record {
      funcs = p.digests.items;
      roots = p.roots.items;
      found = found e d s text p from readable says has names funcs;
      image = s;
      text = text;
      is = readable;
      once = have.once;
      reasons = reasons_of ran have.reasons;
      all = λ none fewer t canonical enters r. have.all none fewer t (record { canonical = canonical; entered = enters }) (back t r);
    }

    ran_offered : RanOffered e d (HasStanding d (told d)) ran reused v
    ran_offered = record {
      funcs = p.digests.items;
      roots = p.roots.items;
      found = found e d s text p from readable says has names funcs;
      image = s;
      text = text;
      is = readable;
      each = record {
        once = have.once;
        ascending = have.ascending;
        reasons = (reasons_of ran have.reasons, reasons_of reused have.reused_reasons);
        without = All-weaker (λ t. HasStandingNow (update_of e from.strings d p.typed p.roots.items) p.digests.items told t → ⊥)
            (λ t. HasStanding d (told d) p.typed p.digests.items t → ⊥)
            (λ t none h. none (standing_back (update_of e from.strings d p.typed p.roots.items) p.digests.items told t h)) ran have.without;
        standing = All-weaker (HasStandingNow (update_of e from.strings d p.typed p.roots.items) p.digests.items told)
            (HasStanding d (told d) p.typed p.digests.items)
            (λ t h. standing_of (update_of e from.strings d p.typed p.roots.items) p.digests.items told t h) reused have.standing;
        all = λ fewer t canonical enters r. have.every fewer t (record { canonical = canonical; entered = enters }) (back t r);
      };
    }

-- ---- from nothing

module _ (d : Directory) (p : Project) (apart : IsSeparate d) (says : ProjectSays d (Ok (front_of p))) (has : HasDigests d p.digests.items)
    (names : HasNames p.typed p.digests.items) (funcs : AreFuncs p.digests.items) (told : Told) (kept : List (List ℕ × List ℕ)) (ran reused : List Task) (v : Verdict)
    (have : HaveReasons (update_alone apart.strings d p.typed p.roots.items) told kept p.digests.items ran reused v) where
  -- each task is new
  ran_anew : RanAnew d (HasStanding d (told d)) ran reused v
  ran_anew = record {
    funcs = p.digests.items;
    roots = p.roots.items;
    found = found_alone d p apart says has names funcs;
    each = record {
      once = have.once;
      ascending = have.ascending;
      reasons = (λ i x l. tt, λ i x l. tt);
      without = All-weaker (λ t. HasStandingNow (update_alone apart.strings d p.typed p.roots.items) p.digests.items told t → ⊥)
          (λ t. HasStanding d (told d) p.typed p.digests.items t → ⊥)
          (λ t none h. none (standing_back (update_alone apart.strings d p.typed p.roots.items) p.digests.items told t h)) ran have.without;
      standing = All-weaker (HasStandingNow (update_alone apart.strings d p.typed p.roots.items) p.digests.items told)
          (HasStanding d (told d) p.typed p.digests.items)
          (λ t h. standing_of (update_alone apart.strings d p.typed p.roots.items) p.digests.items told t h) reused have.standing;
      all = λ fewer t canonical enters r. have.every fewer t (record { canonical = canonical; entered = enters }) (is_new refl);
    };
  }

-- ---- a build from a base, whatever the project of the directory is

from_runs : (b : Base) (p : Project) (told : Told) (before mid : Option Directory) (r : Report) (reused : List Task) → mid ≡ before
    → IfSome before (λ d. ProjectSays d (Ok (front_of p))) → IfSome before (λ d. HasDigests d p.digests.items) → HasNames p.typed p.digests.items
    → AreFuncs p.digests.items → RunsByIfTold b p told mid r reused → FromRuns b told before r reused
from_runs b p told before mid r reused same says has names funcs runs = record {
  each = λ d is base e from honest. by d is e from honest b.store refl base;
  anew = λ d is bare apart honest.
      let says = project_is d is in
      let has = digests d is in
      ran_anew d p apart says has names funcs told (digested d p.digests.items b.image).funcs r.ran.items reused r.verdict
      ((ran d is).anew (update_alone apart.strings d p.typed p.roots.items)
      (record {
        here = here_alone d p apart says has names funcs mid (same ∙ is);
        stored = stored_alone d p apart says has names funcs (digested d p.digests.items b.image).funcs b.image.rows bare.rows;
        none = bare.store;
        rows = bare.rows;
      })
      (honest.each p.digests.items p.roots.items (found_alone d p apart says has names funcs)));
}
  where
    project_is : (d : Directory) → before ≡ Some d → ProjectSays d (Ok (front_of p))
    project_is d is = subst (λ o. IfSome o (λ x. ProjectSays x (Ok (front_of p)))) is says

    digests : (d : Directory) → before ≡ Some d → HasDigests d p.digests.items
    digests d is = subst (λ o. IfSome o (λ x. HasDigests x p.digests.items)) is has

    ran : (d : Directory) → before ≡ Some d → RunsBy b p told mid r reused
    ran d is = runs.of d (same ∙ is) (is_ready (Some d) (Some d) p (project_is d is) refl)

    by : (d : Directory) → before ≡ Some d → (e : Earlier) (from : HasStoreOf e d) → OffersHonest e from.strings d told
        → (o : Option (Vec ℕ Global)) → b.store ≡ o → IsReadFrom d b.image o
        → RanFrom e d told r.ran.items r.verdict × RanOffered e d (HasStanding d (told d)) r.ran.items reused r.verdict
    by d is e from honest None at readable = absurd readable
    by d is e from honest (Some text) at readable =
        let says = project_is d is in
        let has = digests d is in
        let have = (ran d is).each (update_of e from.strings d p.typed p.roots.items)
        (record {
          here = here e d b.image text.items p from readable says has names funcs mid (same ∙ is);
          stored = stored e d b.image text.items p from readable says has names funcs;
          base = subst (IsReadFrom d b.image) (sym at) readable;
        })
        (honest.each p.digests.items p.roots.items (found e d b.image text.items p from readable says has names funcs)) in (
          ran_for e d b.image text.items p from readable says has names funcs told r.ran.items reused r.verdict have,
          ran_offered e d b.image text.items p from readable says has names funcs told r.ran.items reused r.verdict have,
        )

-- a build that succeeds, of a project that was read
pub project_runs : (b : Base) (p : Project) (told : Told) (before mid : Option Directory) (result : Result Offered BuildError) → mid ≡ before
    → IfSome before (λ d. ProjectSays d (Ok (front_of p))) → IfSome before (λ d. HasDigests d p.digests.items) → HasNames p.typed p.digests.items
    → AreFuncs p.digests.items → IfOk result (λ o. RunsByIfTold b p told mid o.report.value o.reused.items)
    → IfOk result (λ o. FromRuns b told before o.report.value o.reused.items)
project_runs b p told before mid (Err e) same says has names funcs runs = tt
project_runs b p told before mid (Ok o) same says has names funcs runs =
    from_runs b p told before mid o.report.value o.reused.items same says has names funcs runs

-- ---- the whole build

-- one that starts afresh tells the cause
pub afresh_runs : (cause : Cause) (before : Option Directory) (result : Result Report BuildError) → IfOk result (λ r. r.fresh ≡ Some cause)
    → IfSome before (λ d. IfOk result (RunsForReasons d))
afresh_runs cause before (Err e) why = if_always before (tt {0})
afresh_runs cause None (Ok r) why = tt
afresh_runs cause (Some d) (Ok r) why = record { each = λ none e from. absurd (differs cause r.fresh why none) }

-- one from a store
pub store_runs : (start : Start) (b : Box Base Global) (before mid : Option Directory) (result : Result Report BuildError) → start ≡ From b
    → IfSome before (λ d. StartsAt d start) → mid ≡ before
    → IfOk result (λ r. (reused : List Task) × FromRuns b.value (λ x t digest. []) mid r reused)
    → IfSome before (λ d. IfOk result (RunsForReasons d))
store_runs start b before mid (Err e) is begins same h = if_always before (tt {0})
store_runs start b before mid (Ok r) is begins same h = by before same begins
  where
    by : (o : Option Directory) → mid ≡ o → IfSome o (λ d. StartsAt d start) → IfSome o (λ d. RunsForReasons d r)
    by None told begun = tt
    by (Some d) told begun = record {
      each = λ none e from. every e (h.1.each d told (subst (StartsAt d) is begun) e from (nothing_offered e from.strings d)).0;
    }
      where
        -- nothing is offered, so each that has a reason is among them
        every : (e : Earlier) → RanFrom e d (λ x t digest. []) r.ran.items r.verdict → RanFor e d r.ran.items r.verdict
        every e f = record {
          funcs = f.funcs;
          roots = f.roots;
          found = f.found;
          image = f.image;
          text = f.text;
          is = f.is;
          once = f.once;
          reasons = f.reasons;
          all = f.all (λ t digest. refl);
        }

-- ---- with offers

-- the cause is no matter
pub caused_runs : (told : Told) (before : Option Directory) (b : Base) (r q : Report) (reused : List Task) (cause : Option Cause) → q ≡ record r { fresh = cause }
    → FromRuns b told before r reused → IfSome before (λ d. IsNoBase b → RunsAnew told d q reused)
caused_runs told None b r q reused cause is from = tt
caused_runs told (Some d) b r q reused cause is from = λ bare apart honest.
    subst (λ x. RanAnew d (HasStanding d (told d)) x.ran.items reused x.verdict) (sym is) (from.anew d refl bare apart honest)

pub anew_runs : (told : Told) (b : Base) (before : Option Directory) (result : Result Offered BuildError) → IsNoBase b
    → IfSome before (λ d. IfOk result (λ o. IsNoBase b → RunsAnew told d o.report.value o.reused.items))
    → IfSome before (λ d. IfOk result (λ o. RunsAnew told d o.report.value o.reused.items))
anew_runs told b None result bare h = tt
anew_runs told b (Some d) (Ok o) bare h = h bare
anew_runs told b (Some d) (Err e) bare h = tt

-- one that starts afresh
pub afresh_offers : (told : Told) (cause : Cause) (before mid : Option Directory) (result : Result Offered BuildError) → mid ≡ before
    → IfSome mid (λ d. IfOk result (λ o. RunsAnew told d o.report.value o.reused.items)) → IfOk result (λ o. o.report.value.fresh ≡ Some cause)
    → IfSome before (λ d. IfOk result (λ o. OffersRun told d o.report.value o.reused.items))
afresh_offers told cause before mid (Err e) same anew why = if_always before (tt {0})
afresh_offers told cause before mid (Ok o) same anew why = by before (subst (λ m. IfSome m (λ d. RunsAnew told d o.report.value o.reused.items)) same anew)
  where
    by : (held : Option Directory) → IfSome held (λ d. RunsAnew told d o.report.value o.reused.items)
        → IfSome held (λ d. OffersRun told d o.report.value o.reused.items)
    by None h = tt
    by (Some d) h = record { goes_on = λ none. absurd (differs cause o.report.value.fresh why none); afresh = λ some. h }

-- one from a store
pub store_offers : (told : Told) (start : Start) (b : Box Base Global) (before mid after : Option Directory) (result : Result Offered BuildError) → start ≡ From b
    → IfSome before (λ d. StartsAt d start) → mid ≡ before → IfOk result (λ o. FromAsClean b.value told mid after o.report.value)
    → IfOk result (λ o. FromRuns b.value told mid o.report.value o.reused.items)
    → IfSome before (λ d. IfOk result (λ o. OffersRun told d o.report.value o.reused.items))
store_offers told start b before mid after (Err e) is begins same clean h = if_always before (tt {0})
store_offers told start b before mid after (Ok o) is begins same clean h = by before same begins
  where
    by : (held : Option Directory) → mid ≡ held → IfSome held (λ d. StartsAt d start) → IfSome held (λ d. OffersRun told d o.report.value o.reused.items)
    by None holds begun = tt
    by (Some d) holds begun = record {
      goes_on = λ none e from honest. (h.each d holds (subst (StartsAt d) is begun) e from honest).1;
      afresh = λ some. absurd (some_cause o.report.value.fresh some (clean.none d holds));
    }
