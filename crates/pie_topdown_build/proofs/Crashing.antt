-- What a crash leaves of a build without a list, from part to part.
use Rattle.std.proofs.Common.{◌≡◌, inl, inr, ⊎_elim, ℕ, true, false, cond, List, [], Vec, Global, Option, None, Some, Ok, Err, refl, sym, ap, subst, ◌∙◌}
use Rattle.std.specs.Prelude.{◌||◌, All, Box, IfSome}
use Rattle.std.proofs.lemmas.List.Elements.{All-weaker}
use Rattle.pie_base.specs.Path.{is_out, same_text}
use Rattle.pie_build.proofs.Cleaning.{is_ready}
use Rattle.pie_build.proofs.Crashing.{rests_still, rests_then}
use Rattle.pie_build.proofs.OwnPaths.{never_own, or_left, or_right}
use Rattle.pie_build.specs.Crashes.{IsDone, IsUnderWay, StaysAtRest, Withstands}
use Rattle.pie_build.specs.Left.{may_change, Leaves, LeavesBuilt, LeavesBy as LeavesAfresh}
use Rattle.pie_build.specs.inner.Projects.{IsReady}
use Rattle.pie_checks.specs.declared.built.Built.{Built}
use Rattle.pie_commit.proofs.Reading.{before_rest, still_rest, then_rest}
use Rattle.pie_commit.proofs.Standing.{removal_apart}
use Rattle.pie_commit.specs.Outcomes as commits
use Rattle.pie_commit.specs.Outcomes.{HasFile, LeavesFromRest, Underway}
use Rattle.pie_commit.specs.declared.plan.Plan.{Plan}
use Rattle.pie_commit.specs.inner.Plans.{Same, Meets, at, later, pended, removed, stored, wanted_by, written}
use Rattle.pie_core_laws.specs.Update.{Update}
use Rattle.pie_digest.specs.Digests.{HasNames}
use Rattle.pie_files.proofs.Reading.{both_before, if_each, none_before}
use Rattle.pie_files.specs.Directory.{Directory, file_at, without_file}
use Rattle.pie_files.specs.Images.{Only}
use Rattle.pie_files.specs.Reading.{LeavesAsBefore}
use Rattle.pie_fresh.specs.Cleans.{IsRootOf}
use Rattle.pie_incremental.proofs.Commits.{changes_wanted}
use Rattle.pie_incremental.proofs.Crashing.{leaves_where, same_directory}
use Rattle.pie_incremental.proofs.Marking.{marked_still, marked_where}
use Rattle.pie_incremental.proofs.OwnPaths.{places}
use Rattle.pie_incremental.specs.Crashes.{IsCleanBuilt, MarkedBy}
use Rattle.pie_incremental.specs.Earlier.{Earlier}
use Rattle.pie_incremental.specs.Own.{open_path, pending_path, store_path}
use Rattle.pie_incremental.specs.inner.Crashed.{IsCleanOf}
use Rattle.pie_incremental.specs.inner.Digested.{digested}
use Rattle.pie_incremental.specs.inner.Joined.{ChangesOut}
use Rattle.pie_left_laws.proofs.Provides.{one_some}
use Rattle.pie_project.specs.Digested.{HasDigests}
use Rattle.pie_project.specs.Fronts.{ProjectSays}
use Rattle.pie_project.specs.Refusals.{IsVerdict}
use Rattle.pie_project.specs.declared.fault.BuildError.{BuildError}
use Rattle.pie_project.specs.declared.fault.BuildError.TheVariants as errors
use Rattle.pie_project.specs.declared.project.Project.{Project}
use Rattle.pie_project.specs.inner.Projects.{front_of}
use Rattle.pie_store.specs.Canonical.{AreFuncs}
use Rattle.pie_store.specs.declared.cause.Cause.{Cause}
use Rattle.pie_topdown_result_laws.specs.Builds.{AreHonest, IsFromStore, IsNowHere}
use Rattle.pie_topdown_result_laws.specs.Results.{IsResultOf}
use Rattle.pie_value.specs.Limits.{is_small_task}
use Rattle.pie_value.specs.declared.verdict.Verdict.{Verdict}
use Rattle.pie_value.specs.declared.verdict.Verdict.TheVariants.{Accepted, Refused}
use Rattle.pie_topdown_build.specs.declared.base.Base.{Base}
use Rattle.pie_topdown_build.specs.declared.base.Start.{Start}
use Rattle.pie_topdown_build.specs.declared.base.Start.TheVariants.{Afresh, From}
use Rattle.pie_topdown_build.specs.Clean.{CanBegin, HasStoreOf}
use Rattle.pie_topdown_build.specs.Crashes.{HasEnded, KeepsOthers, StopsWith}
use Rattle.pie_topdown_build.specs.inner.Anew.{update_alone, IsNoBase}
use Rattle.pie_topdown_build.specs.inner.Bases.{HasBase, IsReadFrom, StartsAt, StartsOnly}
use Rattle.pie_topdown_build.specs.inner.Clean.{update_of, MakesFrom, OffersHonest}
use Rattle.pie_topdown_build.specs.inner.Cleaned.{IsStoreIfAny}
use Rattle.pie_topdown_build.specs.inner.Crashes.{Endures, EndsAnew, EndsBy, EndsFrom, EndsOffered, EndsReady, EndsRun, EndsWhere, IsCleanAnew}
use Rattle.pie_topdown_build.proofs.Cleanly.{can_begin, found, found_alone, here, here_alone, nothing_offered, stored as stored_of, stored_alone}
use Rattle.pie_topdown_build.proofs.Running.{Told}
use Rattle.pie_topdown_build.proofs.Storing.{none_removed, none_written}

-- an error is a verdict whatever was wanted
pub error_verdict : (A B : Type 0) (e : BuildError) → IsVerdict {A = A} (Err e) → IsVerdict {A = B} (Err e)
error_verdict A B (errors.Pipeline f) says = tt
error_verdict A B (errors.Roots r) says = tt
error_verdict A B errors.Files says = says
error_verdict A B errors.OutOfMemory says = says

-- ---- whatever is said of the end

ends_with : (D E : Directory → Directory → Type 0) (d c : Directory) → (D d c → E d c) → StopsWith D d c → StopsWith E d c
ends_with D E d c f stops = ⊎_elim (λ way. inl way) (λ rest. ⊎_elim (λ same. inr (inl same)) (λ done. inr (inr (f done))) rest) stops

module _ {S : Type 0} (holds : S → Option Directory) (moment : S → ℕ) (left_since : S → ℕ → Directory → Type 0) (images : S → Directory → Type 0) where
  -- calls that change no file
  pub endures_still : (D : Directory → Directory → Type 0) (settled : Type 0) (old new : S) → holds new ≡ holds old
      → LeavesAsBefore holds moment left_since images old new → Endures holds moment left_since images D settled old new
  endures_still D settled old new same leaves = record {
    crash = before_rest holds moment left_since images (StopsWith D) (λ d. inr (inl refl)) old new leaves;
    marked = marked_still holds moment left_since images D old new leaves;
    durable = λ s. rests_still holds moment left_since images old new same leaves;
  }

  -- no call
  pub endures_none : (D : Directory → Directory → Type 0) (settled : Type 0) (s : S) → Endures holds moment left_since images D settled s s
  endures_none D settled s = endures_still D settled s s refl (none_before holds moment left_since images s)

  -- one after another
  pub endures_both : (D : Directory → Directory → Type 0) (settled : Type 0) (old mid new : S) → holds mid ≡ holds old
      → LeavesAsBefore holds moment left_since images old mid → holds new ≡ holds mid → LeavesAsBefore holds moment left_since images mid new
      → Endures holds moment left_since images D settled old new
  endures_both D settled old mid new same first again second =
      endures_still D settled old new (again ∙ same) (both_before holds moment left_since images old mid new same first second)

  -- where less is said of a directory that is told
  pub endures_where : (D E : Directory → Directory → Type 0) (settled : Type 0) (old new : S) → ((d c : Directory) → holds old ≡ Some d → D d c → E d c)
      → Endures holds moment left_since images D settled old new → Endures holds moment left_since images E settled old new
  endures_where D E settled old new f h = record {
    crash = leaves_where holds moment left_since images (StopsWith D) (StopsWith E) old new (λ d c told. ends_with D E d c (f d c told)) h.crash;
    marked = marked_where holds moment left_since images D E old new f h.marked;
    durable = h.durable;
  }

  -- where calls that change no file come before, and less is said
  pub endures_then : (D E : Directory → Directory → Type 0) (settled : Type 0) (old mid new : S) → holds mid ≡ holds old
      → LeavesAsBefore holds moment left_since images old mid → ((d c : Directory) → holds old ≡ Some d → D d c → E d c)
      → Endures holds moment left_since images D settled mid new → Endures holds moment left_since images E settled old new
  endures_then D E settled old mid new same leaves f h = endures_where D E settled old new f (record {
    crash = then_rest holds moment left_since images (StopsWith D) (λ d. inr (inl refl)) old mid new same leaves h.crash;
    marked = still_rest holds moment left_since images (λ d. MarkedBy D d (images new)) old mid same leaves h.marked;
    durable = λ s. rests_then holds moment left_since images old mid new same leaves (h.durable s);
  })

  -- where it is settled in other words
  pub endures_settled : (D : Directory → Directory → Type 0) (T U : Type 0) (old new : S) → (U → T)
      → Endures holds moment left_since images D T old new → Endures holds moment left_since images D U old new
  endures_settled D T U old new f h = record { crash = h.crash; marked = h.marked; durable = λ s. h.durable (f s) }

  -- a clean build
  pub endures_afresh : (settled : Type 0) (old new : S) → Withstands holds moment left_since images Leaves old new
      → (settled → StaysAtRest holds images old new) → Endures holds moment left_since images (IsDone Leaves) settled old new
  endures_afresh settled old new h rests = record { crash = h.crash; marked = h.marked; durable = rests }

-- ---- the commit

module _ (p : Plan) (out : ChangesOut p) where
  -- a path that no build changes isn't the marker
  off_open : (q : List ℕ) → may_change q ≡ false → same_text q open_path ≡ false
  off_open q off =
      let o = same_text q open_path in
      let s = same_text q store_path in
      let n = same_text q pending_path in
      or_right (is_out q) o (or_left (is_out q || o) s (or_left (is_out q || o || s) n off))

  -- of it nothing is wanted
  wanted_rest : (q : List ℕ) → may_change q ≡ false → wanted_by p q ≡ Same
  wanted_rest q off =
      let own = places p out.places in
      let o = same_text q open_path in
      let s = same_text q store_path in
      let n = same_text q pending_path in
      let three = or_left (is_out q || o || s) n off in
      let outside : is_out q ≡ false = or_left (is_out q) o (or_left (is_out q || o) s three) in
      let rest = later (written p.writes.items q) (removed p.removals.items q) in
      changes_wanted p out.places q (off_open q off)
      ∙ ap (λ b. later (cond b (stored p.store) Same) (later (at p.names_place (pended p.pending) q) rest))
      (ap (same_text q) own.store ∙ or_right (is_out q || o) s three)
      ∙ ap (λ b. later (cond b (pended p.pending) Same) rest) (ap (same_text q) own.names ∙ or_right (is_out q || o || s) n off)
      ∙ ap (λ x. later x (removed p.removals.items q)) (none_written q p.writes.items outside out.writes)
      ∙ none_removed q p.removals.items outside out.removals

  way_of : (d c : Directory) → Underway p d c → IsUnderWay d c
  way_of d c way = record {
    marked = subst (HasFile c) (places p out.places).marker way.marked;
    rest = λ q off. way.others q (never_own p out.places out.removals out.writes q off);
  }

  -- where the plan is done, it has the file that it had
  pub done_rest : (d c : Directory) → commits.IsDone p d c → KeepsOthers d c
  done_rest d c done q off =
      subst (λ w. Meets w (file_at d q) (file_at c q)) (wanted_rest q off) (done q (ap (same_text q) (places p out.places).marker ∙ off_open q off))

  marked_of : (d : Directory) (images : Directory → Type 0) → commits.LeavesMarked p d images → MarkedBy (commits.IsDone p) d images
  marked_of d images leaves =
      ⊎_elim (λ each. inl (λ c is. ⊎_elim (λ file. inl (subst (HasFile c) (places p out.places).marker file)) (λ same. inr same) (each c is)))
      (λ all. inr all) leaves

  -- a commit of the plan
  pub endures_commit : {S : Type 0} (holds : S → Option Directory) (moment : S → ℕ) (left_since : S → ℕ → Directory → Type 0)
      (images : S → Directory → Type 0) (settled : Type 0) (old new : S) → LeavesFromRest holds moment left_since images (commits.IsOfThree p) old new
      → IfSome (holds old) (λ d. Only d (images old) → commits.LeavesMarked p d (images new)) → (settled → StaysAtRest holds images old new)
      → Endures holds moment left_since images (commits.IsDone p) settled old new
  endures_commit holds moment left_since images settled old new crash told rests = record {
    crash = leaves_where holds moment left_since images (commits.IsOfThree p) (StopsWith (commits.IsDone p)) old new
        (λ d c is three. ⊎_elim (λ way. inl (way_of d c way)) (λ rest. inr rest) three) crash;
    marked = if_each
        (λ d. Only d (images old) → commits.LeavesMarked p d (images new))
        (λ d. Only d (images old) → MarkedBy (commits.IsDone p) d (images new)) (holds old) (λ d leaves only. marked_of d (images new) (leaves only)) told;
    durable = rests;
  }

-- where a clean build is done, each path that no build changes has the file that it had
afresh_rest : (d c : Directory) → IsDone Leaves d c → KeepsOthers d c
afresh_rest d c done q off =
    let left = done.left in
    let built : LeavesBuilt left.2.functions left.0 left.1 d done.report (Some (without_file c open_path)) =
    subst (λ (v : Verdict). LeavesAfresh left.2.functions left.0 left.1 v d done.report (Some (without_file c open_path))) done.accepted left.3.1 in
    let here : without_file c open_path ≡ built.left = one_some (without_file c open_path) built.left built.told in
    let o = same_text q open_path in
    let s = same_text q store_path in
    let n = same_text q pending_path in
    sym (removal_apart c open_path q (or_right (is_out q) o (or_left (is_out q || o) s (or_left (is_out q || o || s) n off))))
    ∙ ap (λ e. file_at e q) here ∙ built.place.rest q off

-- ---- from the end of a build to its evaluation

module _ (b : Base) (p : Project) (told : Told) (held : Option Directory) (made : Built) (makes : MakesFrom held p b.image told made) (d c : Directory)
    (holds : held ≡ Some d) where
  store_in : (o : Option (Vec ℕ Global)) → IsReadFrom d b.image o → IsStoreIfAny o d
  store_in None has = absurd has
  store_in (Some text) has = has.stored

  clean_of : made.verdict ≡ Accepted → EndsWhere b.store p.digests.items p.roots.items made.rows.items made.files.items d c → (u : Update)
      → IsNowHere u (Some d) p.typed p.roots.items → IsFromStore u (digested u.directory p.digests.items b.image).funcs p.digests.items b.image.rows
      → IsStoreIfAny b.store d → AreHonest u p.digests.items told → IsCleanOf u p.digests.items p.roots.items d (without_file c open_path)
  clean_of is ends u here stored from honest =
      let same : u.directory ≡ d = same_directory d u.directory here.holds in
      let result : IsResultOf u made =
      makes.each u (record {
        build = here.build;
        holds = holds ∙ here.holds;
        functions = here.functions;
        roots_are = here.roots_are;
        separates = here.separates;
        met = here.met;
      }) stored honest in
      record {
        rows = made.rows.items;
        rows_are = (result.made is).rows;
        clean = ends.clean u (record { directory = same; separates = here.separates; met = here.met; made = result.made is }) from;
      }

  by_verdict : (v : Verdict) → made.verdict ≡ v → EndsBy v b.store p.digests.items p.roots.items made d c → EndsRun b p told d c
  by_verdict Accepted is ends = record {
    rest = ends.rest;
    clean = λ u from honest. ⊎_elim
        (λ by. clean_of is ends u by.here by.stored
        (store_in b.store (subst (λ x. IsReadFrom x b.image b.store) (same_directory d u.directory by.here.holds) by.base)) honest)
        (λ anew. clean_of is ends u anew.here anew.stored (subst (λ o. IsStoreIfAny o d) (sym anew.none) (tt {0})) honest) from;
  }
  by_verdict (Refused x) is ends = absurd ends

  ends_run : EndsBy made.verdict b.store p.digests.items p.roots.items made d c → EndsRun b p told d c
  ends_run ends = by_verdict made.verdict refl ends

-- ---- the build of a project

-- roots of a project that is observable are within the limits of values
ends_large : (b : Base) (p : Project) (told : Told) (d c : Directory) → ¬ (All (λ t. is_small_task t ≡ true) p.roots.items) → IsDone Leaves d c
    → EndsReady b p told d c
ends_large b p told d c large done = record { rest = afresh_rest d c done; clean = λ ready. absurd (never ready) }
  where
    never : IsReady p.typed p.roots.items → ⊥
    never ready = large (All-weaker (IsRootOf p.typed) (λ t. is_small_task t ≡ true) (λ t root. root.small) p.roots.items ready.roots)

module _ {S : Type 0} (holds : S → Option Directory) (moment : S → ℕ) (left_since : S → ℕ → Directory → Type 0) (images : S → Directory → Type 0) where
  pub evaluated_endures : (b : Base) (p : Project) (told : Told) (settled : Type 0) (old mid new : S) (made : Built) → holds mid ≡ holds old
      → LeavesAsBefore holds moment left_since images old mid → MakesFrom (holds old) p b.image told made
      → Endures holds moment left_since images (EndsBy made.verdict b.store p.digests.items p.roots.items made) settled mid new
      → Endures holds moment left_since images (EndsRun b p told) settled old new
  evaluated_endures b p told settled old mid new made same before makes h =
      endures_then holds moment left_since images (EndsBy made.verdict b.store p.digests.items p.roots.items made) (EndsRun b p told) settled old mid new same
      before (λ d c is ends. ends_run b p told (holds old) made makes d c is ends) h

  pub run_endures : (b : Base) (p : Project) (told : Told) (T U : Type 0) (old new : S) → (U → T)
      → Endures holds moment left_since images (EndsRun b p told) T old new → Endures holds moment left_since images (EndsReady b p told) U old new
  run_endures b p told T U old new f h =
      endures_settled holds moment left_since images (EndsReady b p told) T U old new f
      (endures_where holds moment left_since images (EndsRun b p told) (EndsReady b p told) T old new
      (λ d c is ends. record { rest = ends.rest; clean = λ ready. ends.clean }) h)

  pub large_endures : (b : Base) (p : Project) (told : Told) (settled : Type 0) (old new : S) → ¬ (All (λ t. is_small_task t ≡ true) p.roots.items)
      → Endures holds moment left_since images (IsDone Leaves) settled old new → Endures holds moment left_since images (EndsReady b p told) settled old new
  large_endures b p told settled old new large h =
      endures_where holds moment left_since images (IsDone Leaves) (EndsReady b p told) settled old new (λ d c is done. ends_large b p told d c large done) h

-- ---- the build of a directory

module _ (b : Base) (p : Project) (told : Told) (d c : Directory) (says : ProjectSays d (Ok (front_of p))) (has : HasDigests d p.digests.items)
    (names : HasNames p.typed p.digests.items) (funcs : AreFuncs p.digests.items) where
  ends_from : EndsReady b p told d c → EndsFrom b told d c
  ends_from ends = record { rest = ends.rest; goes_on = λ base e from honest. by e from honest b.store base base; afresh = alone }
    where
      by : (e : Earlier) (from : HasStoreOf e d) → OffersHonest e from.strings d told → (o : Option (Vec ℕ Global)) → IsReadFrom d b.image o → HasBase d b
          → IsCleanBuilt d (without_file c open_path)
      by e from honest None readable base = absurd readable
      by e from honest (Some text) readable base =
          let clean =
          ends.clean (is_ready (Some d) (Some d) p says refl) (update_of e from.strings d p.typed p.roots.items)
          (inl (record {
            here = here e d b.image text.items p from readable says has names funcs (Some d) refl;
            stored = stored_of e d b.image text.items p from readable says has names funcs;
            base = base;
          }))
          (honest.each p.digests.items p.roots.items (found e d b.image text.items p from readable says has names funcs)) in
          record {
            funcs = p.digests.items;
            roots = p.roots.items;
            found = found e d b.image text.items p from readable says has names funcs;
            text = clean.clean.text;
            rows = clean.rows;
            built = clean.clean.built;
            records = clean.rows_are;
            store = clean.clean.store;
          }

      alone : IsNoBase b → IsCleanAnew told d (without_file c open_path)
      alone bare apart honest =
          let clean =
          ends.clean (is_ready (Some d) (Some d) p says refl) (update_alone apart.strings d p.typed p.roots.items)
          (inr (record {
            here = here_alone d p apart says has names funcs (Some d) refl;
            stored = stored_alone d p apart says has names funcs (digested d p.digests.items b.image).funcs b.image.rows bare.rows;
            none = bare.store;
            rows = bare.rows;
          }))
          (honest.each p.digests.items p.roots.items (found_alone d p apart says has names funcs)) in
          record {
            funcs = p.digests.items;
            roots = p.roots.items;
            found = found_alone d p apart says has names funcs;
            text = clean.clean.text;
            rows = clean.rows;
            built = clean.clean.built;
            records = clean.rows_are;
            store = clean.clean.store;
          }

-- one that begins from a store, or afresh
ended_from : (d c : Directory) (b : Base) → HasBase d b → EndsFrom b (λ x t digest. []) d c → HasEnded d c
ended_from d c b base ends = record {
  rest = ends.rest;
  goes_on = λ can e from. ends.goes_on base e from (nothing_offered e from.strings d);
  afresh = λ none. absurd (none (can_begin d b.image b.store base));
}

ended_afresh : (d c : Directory) → (CanBegin d → ⊥) → IsDone Leaves d c → HasEnded d c
ended_afresh d c never done = record { rest = afresh_rest d c done; goes_on = λ can. absurd (never can); afresh = λ none. done }

module _ {S : Type 0} (holds : S → Option Directory) (moment : S → ℕ) (left_since : S → ℕ → Directory → Type 0) (images : S → Directory → Type 0) where
  pub project_endures : (b : Base) (p : Project) (told : Told) (settled : Type 0) (old mid new : S) → holds mid ≡ holds old
      → LeavesAsBefore holds moment left_since images old mid → IfSome (holds old) (λ d. ProjectSays d (Ok (front_of p)))
      → IfSome (holds old) (λ d. HasDigests d p.digests.items) → HasNames p.typed p.digests.items → AreFuncs p.digests.items
      → Endures holds moment left_since images (EndsReady b p told) settled mid new → Endures holds moment left_since images (EndsFrom b told) settled old new
  project_endures b p told settled old mid new same before says has names funcs h =
      endures_then holds moment left_since images (EndsReady b p told) (EndsFrom b told) settled old mid new same before
      (λ d c is ends. ends_from b p told d c (subst (λ o. IfSome o (λ x. ProjectSays x (Ok (front_of p)))) is says)
      (subst (λ o. IfSome o (λ x. HasDigests x p.digests.items)) is has) names funcs ends) h

  -- from a base without a store or a record
  pub bare_endures : (b : Base) (told : Told) (settled : Type 0) (old new : S) → IsNoBase b
      → Endures holds moment left_since images (EndsFrom b told) settled old new → Endures holds moment left_since images (EndsAnew told) settled old new
  bare_endures b told settled old new bare h =
      endures_where holds moment left_since images (EndsFrom b told) (EndsAnew told) settled old new
      (λ d c is ends. record { rest = ends.rest; clean = ends.afresh bare }) h

  module _ (start : Start) (settled : Type 0) (old mid new : S) (same : holds mid ≡ holds old)
      (before : LeavesAsBefore holds moment left_since images old mid) where
    base_at : (b : Box Base Global) → start ≡ From b → IfSome (holds old) (λ d. StartsAt d start) → (d : Directory) → holds old ≡ Some d → HasBase d b.value
    base_at b is starts d told = subst (StartsAt d) is (subst (λ o. IfSome o (λ x. StartsAt x start)) told starts)

    never_at : (cause : Cause) → start ≡ Afresh cause → IfSome (holds old) (λ d. StartsOnly d start) → (d : Directory) → holds old ≡ Some d
        → CanBegin d → ⊥
    never_at cause is only d told = subst (StartsOnly d) is (subst (λ o. IfSome o (λ x. StartsOnly x start)) told only)

    pub from_endures : (b : Box Base Global) → start ≡ From b → IfSome (holds old) (λ d. StartsAt d start)
        → Endures holds moment left_since images (EndsFrom b.value (λ x t digest. [])) settled mid new
        → Endures holds moment left_since images HasEnded settled old new
    from_endures b is starts h =
        endures_then holds moment left_since images (EndsFrom b.value (λ x t digest. [])) HasEnded settled old mid new same before
        (λ d c told ends. ended_from d c b.value (base_at b is starts d told) ends) h

    pub afresh_endures : (cause : Cause) → start ≡ Afresh cause → IfSome (holds old) (λ d. StartsOnly d start)
        → Endures holds moment left_since images (IsDone Leaves) settled mid new → Endures holds moment left_since images HasEnded settled old new
    afresh_endures cause is only h =
        endures_then holds moment left_since images (IsDone Leaves) HasEnded settled old mid new same before
        (λ d c told done. ended_afresh d c (never_at cause is only d told) done) h

    pub offered_endures : (told : Told) (b : Box Base Global) → start ≡ From b → IfSome (holds old) (λ d. StartsAt d start)
        → Endures holds moment left_since images (EndsFrom b.value told) settled mid new
        → Endures holds moment left_since images (EndsOffered told) settled old new
    offered_endures told b is starts h =
        endures_then holds moment left_since images (EndsFrom b.value told) (EndsOffered told) settled old mid new same before
        (λ d c is_told ends. let base = base_at b is starts d is_told in record {
          rest = ends.rest;
          goes_on = λ can. ends.goes_on base;
          afresh = λ none. absurd (none (can_begin d b.value.image b.value.store base));
        }) h

    pub anew_endures : (told : Told) (cause : Cause) → start ≡ Afresh cause → IfSome (holds old) (λ d. StartsOnly d start)
        → Endures holds moment left_since images (EndsAnew told) settled mid new → Endures holds moment left_since images (EndsOffered told) settled old new
    anew_endures told cause is only h =
        endures_then holds moment left_since images (EndsAnew told) (EndsOffered told) settled old mid new same before
        (λ d c is_told ends. record {
          rest = ends.rest;
          goes_on = λ can. absurd (never_at cause is only d is_told can);
          afresh = λ none. ends.clean;
        }) h
