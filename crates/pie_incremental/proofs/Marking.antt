-- What every image has at the end of a build by what changed, from part to part.
use Rattle.std.proofs.Common.{◌≡◌, ◌⊎◌, inl, inr, ⊎_elim, ℕ, List, ◌++◌, Option, None, Some, Ok, Global, refl, sym, ap, subst, ◌∙◌}
use Rattle.std.specs.Prelude.{Box, IfSome}
use Rattle.pie_build.specs.Crashes.{IsDone, StaysAtRest, Withstands}
use Rattle.pie_build.specs.Left.{Leaves}
use Rattle.pie_checks.specs.declared.built.Built.{Built}
use Rattle.pie_commit.proofs.Reading.{still_rest}
use Rattle.pie_commit.specs.Outcomes.{IsAtRest}
use Rattle.pie_core_laws.specs.Update.{Update}
use Rattle.pie_digest.specs.Digests.{HasNames as HasFunctionNames}
use Rattle.pie_files.proofs.Reading.{if_each, none_before}
use Rattle.pie_files.specs.Directory.{Directory, without_file}
use Rattle.pie_files.specs.Images.{Only}
use Rattle.pie_files.specs.Reading.{LeavesAsBefore}
use Rattle.pie_files.specs.Reading.{Leaves as LeavesOnly}
use Rattle.pie_bottomup.specs.inner.Loaded.{IsStoredIn}
use Rattle.pie_project.specs.Digested.{HasDigests}
use Rattle.pie_project.specs.Fronts.{ProjectSays}
use Rattle.pie_project.specs.declared.project.Project.{Project}
use Rattle.pie_project.specs.inner.Projects.{front_of}
use Rattle.pie_report.specs.declared.report.Report.{Report}
use Rattle.pie_store.specs.Canonical.{AreFuncs}
use Rattle.pie_store.specs.declared.image.StoreImage.{StoreImage}
use Rattle.pie_store.specs.Pending.{in_order}
use Rattle.pie_value.specs.declared.verdict.Refusal.{Refusal}
use Rattle.pie_value.specs.declared.verdict.Verdict.{Verdict}
use Rattle.pie_value.specs.declared.verdict.Verdict.TheVariants.{Accepted, Refused}
use Rattle.pie_incremental.specs.declared.base.Base.{Base}
use Rattle.pie_incremental.specs.declared.base.OwnFiles.{OwnFiles}
use Rattle.pie_incremental.specs.declared.base.Start.{Start}
use Rattle.pie_incremental.specs.declared.base.Start.TheVariants.{From}
use Rattle.pie_incremental.specs.declared.ending.Ending.{Ending}
use Rattle.pie_incremental.specs.declared.run.Done.{Done}
use Rattle.pie_incremental.specs.declared.run.Done.TheVariants.{Stopped}
use Rattle.pie_incremental.specs.declared.run.Stop.{Stop}
use Rattle.pie_incremental.specs.Crashes.{EndsMarked, IsCleanBuilt, MarkedBy, MayEnd}
use Rattle.pie_incremental.specs.Earlier.{Earlier, GoesOnFrom}
use Rattle.pie_incremental.specs.Kept.{HasNames}
use Rattle.pie_incremental.specs.Own.{bytes_at, open_path, pending_path}
use Rattle.pie_incremental.specs.Starts.{IsBase, StartsFrom}
use Rattle.pie_incremental.specs.inner.Built.{IsKnown}
use Rattle.pie_incremental.specs.inner.Changes.{bytes_of}
use Rattle.pie_incremental.specs.inner.Cleaned.{KnowsWhere}
use Rattle.pie_incremental.specs.inner.Crashed.{IsCleanOf, StaysBefore}
use Rattle.pie_incremental.specs.inner.Digested.{digested}
use Rattle.pie_incremental.specs.inner.Evaluated.{IsResultOf, IsUpdateHere, MakesExact}
use Rattle.pie_incremental.specs.inner.Joined.{IsAsBefore, IsEndingOf, TreatsIn}
use Rattle.pie_incremental.specs.inner.Marked.{EndsBuild, EndsBy, EndsFrom, EndsGo, EndsNames, EndsOf, EndsRestart, EndsRun}
use Rattle.pie_incremental.specs.inner.Updated.{IsUpdateFrom}
use Rattle.pie_incremental.proofs.Cleanly.{is_update, update_of}
use Rattle.pie_incremental.proofs.Crashing.{refused_same, same_directory}
use Rattle.pie_incremental.proofs.Updating.{begun_known, begun_stored}

-- ---- whatever images have

module _ {S : Type 0} (holds : S → Option Directory) (moment : S → ℕ) (left_since : S → ℕ → Directory → Type 0) (images : S → Directory → Type 0) where
  -- where less is said of a directory that is told
  pub marked_where : (D E : Directory → Directory → Type 0) (old new : S) → ((d c : Directory) → holds old ≡ Some d → D d c → E d c)
      → EndsMarked holds images D old new → EndsMarked holds images E old new
  marked_where D E old new f h = by (holds old) refl h
    where
      by : (o : Option Directory) → holds old ≡ o → IfSome o (λ d. Only d (images old) → MarkedBy D d (images new))
          → IfSome o (λ d. Only d (images old) → MarkedBy E d (images new))
      by None is a = tt
      by (Some d) is a = λ only. ⊎_elim (λ each. inl each) (λ all. inr (λ c left. f d c is (all c left))) (a only)

  -- calls that change no file
  pub marked_still : (D : Directory → Directory → Type 0) (old new : S) → LeavesAsBefore holds moment left_since images old new
      → EndsMarked holds images D old new
  marked_still D old new leaves = if_each
      (λ d. LeavesOnly moment left_since images (images old) old new)
      (λ d. Only d (images old) → MarkedBy D d (images new)) (holds old)
      (λ d a only. inl (λ c is. inr (only c (a.now c is)))) leaves

  -- no call
  pub marked_none : (D : Directory → Directory → Type 0) (s : S) → EndsMarked holds images D s s
  marked_none D s = marked_still D s s (none_before holds moment left_since images s)

  -- such calls before others
  pub marked_then : (D E : Directory → Directory → Type 0) (old mid new : S) → holds mid ≡ holds old → LeavesAsBefore holds moment left_since images old mid
      → ((d c : Directory) → holds old ≡ Some d → D d c → E d c) → EndsMarked holds images D mid new → EndsMarked holds images E old new
  marked_then D E old mid new same leaves f h =
      marked_where D E old new f (still_rest holds moment left_since images (λ d. MarkedBy D d (images new)) old mid same leaves h)

  -- nothing is pending after both
  pub rests_both : (old mid new : S) → StaysAtRest holds images old mid → StaysAtRest holds images mid new → StaysAtRest holds images old new
  rests_both old mid new first second = by (holds old) first
    where
      by : (o : Option Directory) → IfSome o (λ d. Only d (images old) → IsAtRest (holds mid) (images mid))
          → IfSome o (λ d. Only d (images old) → IsAtRest (holds new) (images new))
      by None a = tt
      by (Some d) a = λ only.
          (let rest = a only in (subst (λ o. IfSome o (λ x. Only x (images mid) → IsAtRest (holds new) (images new))) rest.1 second) rest.2)

-- ---- from the end of a build to its evaluation

module _ (s : StoreImage) (e : Ending) (p : Project) (held : Option Directory) (b : Built)
    (makes : MakesExact held p.typed p.digests.items p.roots.items s e.names.items b) (d c : Directory) (told : held ≡ Some d) where
  by_verdict : (u : Update) → IsUpdateHere u (Some d) p.typed p.roots.items → IsStoredIn u s.funcs p.digests.items s.rows e.names.items
      → IsKnown e.own e.held d → (v : Verdict) → b.verdict ≡ v → EndsBy v e.own e.held p.digests.items p.roots.items b e.names.items d c
      → EndsOf u p.digests.items p.roots.items e.names.items d c
  by_verdict u here stored known Accepted is ends =
      let made : IsResultOf u b = makes.each u (subst (λ m. IsUpdateHere u m p.typed p.roots.items) (sym told) here) stored in
      inr (record {
        rows = b.rows.items;
        rows_are = (made.made is).rows;
        clean = ends u (record {
          directory = same_directory d u.directory here.holds;
          separates = here.separates;
          met = here.met;
          made = made.made is;
          known = known;
        });
      })
  by_verdict u here stored known (Refused x) is ends = inl (ends known.pending)

  ends_go : EndsBy b.verdict e.own e.held p.digests.items p.roots.items b e.names.items d c → EndsGo s e p d c
  ends_go ends u here stored known = by_verdict u here stored known b.verdict refl ends

-- ---- from the base

ends_run : (b : Base) (e : Ending) (p : Project) (list : List (List ℕ)) (s : StoreImage) (held : Option Directory) (d c : Directory) → IsEndingOf b list e
    → IfSome held (λ d. KnowsWhere b d e) → IfSome held (λ d. s ≡ digested d p.digests.items b.image) → held ≡ Some d → EndsGo s e p d c
    → EndsRun b p list d c
ends_run b e p list s held d c ending knows image told go u from =
    let known : IfSome (Some d) (λ d. KnowsWhere b d e) = subst (λ o. IfSome o (λ d. KnowsWhere b d e)) told knows in
    let is : IfSome (Some d) (λ d. s ≡ digested d p.digests.items b.image) = subst (λ o. IfSome o (λ d. s ≡ digested d p.digests.items b.image)) told image in
    subst (λ (ns : List (List ℕ)). EndsOf u p.digests.items p.roots.items ns d c) ending.names
    (go u from.here (begun_stored b e p list s (Some d) u ending known is from)
    (subst (IsKnown e.own e.held) (same_directory d u.directory from.here.holds) (begun_known b e p list s (Some d) u ending known is from)))

module _ {S : Type 0} (holds : S → Option Directory) (moment : S → ℕ) (left_since : S → ℕ → Directory → Type 0) (images : S → Directory → Type 0) where
  pub marked_end : (s : StoreImage) (e : Ending) (p : Project) (old mid new : S) (b : Built) → holds mid ≡ holds old
      → LeavesAsBefore holds moment left_since images old mid → MakesExact (holds old) p.typed p.digests.items p.roots.items s e.names.items b
      → EndsMarked holds images (EndsBy b.verdict e.own e.held p.digests.items p.roots.items b e.names.items) mid new
      → EndsMarked holds images (EndsGo s e p) old new
  marked_end s e p old mid new b same before makes h =
      marked_then holds moment left_since images (EndsBy b.verdict e.own e.held p.digests.items p.roots.items b e.names.items) (EndsGo s e p) old mid new
      same before (λ d c told ends. ends_go s e p (holds old) b makes d c told ends) h

  pub marked_begun : (b : Base) (e : Ending) (p : Project) (list : List (List ℕ)) (s : StoreImage) (old mid new : S) → holds mid ≡ holds old
      → LeavesAsBefore holds moment left_since images old mid → IsEndingOf b list e → IfSome (holds old) (λ d. KnowsWhere b d e)
      → IfSome (holds old) (λ d. s ≡ digested d p.digests.items b.image) → EndsMarked holds images (EndsGo s e p) mid new
      → EndsMarked holds images (EndsRun b p list) old new
  marked_begun b e p list s old mid new same before ending knows image h =
      marked_then holds moment left_since images (EndsGo s e p) (EndsRun b p list) old mid new same before
      (λ d c told go. ends_run b e p list s (holds old) d c ending knows image told go) h

-- ---- a build that starts afresh

module _ {S : Type 0} (holds : S → Option Directory) (moment : S → ℕ) (left_since : S → ℕ → Directory → Type 0) (images : S → Directory → Type 0)
    (own : OwnFiles) (names : List (List ℕ)) where
  pub marked_failed : (old new : S) → Withstands holds moment left_since images Leaves old new → EndsMarked holds images (EndsRestart own names) old new
  marked_failed old new h =
      marked_where holds moment left_since images (IsDone Leaves) (EndsRestart own names) old new (λ d c told done. inl done) h.marked

  module _ (old mid new : S) (r : Report) (h : Withstands holds moment left_since images Leaves old mid) (rests : StaysAtRest holds images old mid)
      (left : IfSome (holds old) (λ d. Leaves d r (holds mid))) (quiet : r.verdict ≡ Accepted → new ≡ mid)
      (keeps : EndsMarked holds images (EndsNames names (bytes_of own.pending)) mid new) where
    kept_marked : (d : Directory) → holds mid ≡ Some d → IsAtRest (holds mid) (images mid) → MarkedBy (EndsRestart own names) d (images new)
    kept_marked d same rest =
        let here : Only d (images mid) = subst (λ e. Only e (images mid)) (same_directory d rest.0 (sym same ∙ rest.1)) rest.2 in
        ⊎_elim (λ each. inl each) (λ all. inr (λ c is. inr (all c is)))
        ((subst (λ o. IfSome o (λ e. Only e (images mid) → MarkedBy (EndsNames names (bytes_of own.pending)) e (images new))) same keeps) here)

    refused_marked : (x : Refusal) → r.verdict ≡ Refused x → (o : Option Directory)
        → IfSome o (λ d. Only d (images old) → IsAtRest (holds mid) (images mid)) → IfSome o (λ d. Leaves d r (holds mid))
        → IfSome o (λ d. Only d (images old) → MarkedBy (EndsRestart own names) d (images new))
    refused_marked x is None rest leaves = tt
    refused_marked x is (Some d) rest leaves = λ only. kept_marked d (refused_same d r (holds mid) x is leaves) (rest only)

    marked_by : (v : Verdict) → r.verdict ≡ v → EndsMarked holds images (EndsRestart own names) old new
    marked_by Accepted is = subst (λ x. EndsMarked holds images (EndsRestart own names) old x) (sym (quiet is)) (marked_failed old mid h)
    marked_by (Refused x) is = refused_marked x is (holds old) rests left

    pub marked_again : EndsMarked holds images (EndsRestart own names) old new
    marked_again = marked_by r.verdict refl

-- ---- a build of a project

module _ (b : Base) (p : Project) (list : List (List ℕ)) (own : OwnFiles) (names : List (List ℕ)) (d c : Directory) (owned : own ≡ b.own)
    (named : names ≡ in_order (list ++ b.names.items)) (u : Update) (from : IsUpdateFrom u (Some d) b p list) where
  ends_restart : EndsRestart own names d c
      → HasNames (in_order (list ++ b.names.items)) d c ⊎ (IsDone Leaves d c ⊎ IsCleanOf u p.digests.items p.roots.items d (without_file c open_path))
  ends_restart (inl done) = inr (inl done)
  ends_restart (inr kept) = inl (subst (λ (ns : List (List ℕ)). HasNames ns d c) named (kept pending_is))
    where
      pending_is : bytes_at d pending_path ≡ bytes_of own.pending
      pending_is = subst (λ x. bytes_at x pending_path ≡ bytes_of b.own.pending) (same_directory d u.directory from.here.holds) from.base.pending
          ∙ ap (λ (o : OwnFiles). bytes_of o.pending) (sym owned)

ends_build : (b : Base) (p : Project) (list : List (List ℕ)) (d c : Directory) → EndsRun b p list d c → EndsBuild b p list d c
ends_build b p list d c run u from = ⊎_elim (λ kept. inl kept) (λ clean. inr (inr clean)) (run u from)

module _ {S : Type 0} (holds : S → Option Directory) (moment : S → ℕ) (left_since : S → ℕ → Directory → Type 0) (images : S → Directory → Type 0)
    (b : Base) (p : Project) (list : List (List ℕ)) where
  pub marked_run : (old new : S) → EndsMarked holds images (EndsRun b p list) old new → EndsMarked holds images (EndsBuild b p list) old new
  marked_run old new h =
      marked_where holds moment left_since images (EndsRun b p list) (EndsBuild b p list) old new (λ d c told run. ends_build b p list d c run) h

  pub marked_large : (old new : S) → Withstands holds moment left_since images Leaves old new → EndsMarked holds images (EndsBuild b p list) old new
  marked_large old new h =
      marked_where holds moment left_since images (IsDone Leaves) (EndsBuild b p list) old new (λ d c told done u from. inr (inl done)) h.marked

  pub marked_stopped : (old mid new : S) (done : Done) (stop : Box Stop Global) → done ≡ Stopped stop
      → TreatsIn b.own (in_order (list ++ b.names.items)) (holds old) (holds mid) done → IsAsBefore (holds old) (holds mid) done
      → StaysBefore holds moment left_since images old mid done
      → EndsMarked holds images (EndsRestart stop.value.ending.value.own stop.value.ending.value.names.items) mid new
      → EndsMarked holds images (EndsBuild b p list) old new
  marked_stopped old mid new done stop is treats still before again =
      let own = stop.value.ending.value.own in
      let names = stop.value.ending.value.names.items in
      let kept : (own ≡ b.own) × (names ≡ in_order (list ++ b.names.items)) =
      subst (TreatsIn b.own (in_order (list ++ b.names.items)) (holds old) (holds mid)) is treats in
      let same : holds mid ≡ holds old = subst (IsAsBefore (holds old) (holds mid)) is still in
      let nothing : LeavesAsBefore holds moment left_since images old mid = subst (StaysBefore holds moment left_since images old mid) is before in
      marked_then holds moment left_since images (EndsRestart own names) (EndsBuild b p list) old mid new same nothing
      (λ d c told ends u from. ends_restart b p list own names d c kept.0 kept.1 u from ends) again

-- ---- a build of a directory

module _ (b : Base) (p : Project) (list : List (List ℕ)) (d c : Directory) (says : ProjectSays d (Ok (front_of p))) (has : HasDigests d p.digests.items)
    (names : HasFunctionNames p.typed p.digests.items) (funcs : AreFuncs p.digests.items) where
  ends_from : EndsBuild b p list d c → EndsFrom b list d c
  ends_from ends base e from =
      ⊎_elim (λ kept. inl (record { base = b; is = base; names = kept }))
      (λ all. ⊎_elim (λ done. inr (inl done)) (λ clean. inr (inr (clean_built e from base clean))) all)
      (ends (update_of e list d b p from base says has names funcs) (is_update e list d b p from base says has names funcs (Some d) refl))
    where
      clean_built : (e : Earlier) (from : GoesOnFrom e list d) (base : IsBase d b)
          → IsCleanOf (update_of e list d b p from base says has names funcs) p.digests.items p.roots.items d (without_file c open_path)
          → IsCleanBuilt d (without_file c open_path)
      clean_built e from base clean = record {
        funcs = p.digests.items;
        roots = p.roots.items;
        found = record { functions = p.typed; says = says; names = names; digests = has };
        text = clean.clean.text;
        rows = clean.rows;
        built = clean.clean.built;
        records = clean.rows_are;
        store = clean.clean.store;
      }

-- where there is a base
end_based : (list : List (List ℕ)) (d c : Directory) (b : Base) → IsBase d b → EndsFrom b list d c → MayEnd list d c
end_based list d c b is ends = record { goes_on = ends is; afresh = λ none. absurd (none b is) }

module _ {S : Type 0} (holds : S → Option Directory) (moment : S → ℕ) (left_since : S → ℕ → Directory → Type 0) (images : S → Directory → Type 0) where
  pub marked_from : (b : Base) (p : Project) (list : List (List ℕ)) (old mid new : S) → holds mid ≡ holds old
      → LeavesAsBefore holds moment left_since images old mid → IfSome (holds old) (λ d. ProjectSays d (Ok (front_of p)))
      → IfSome (holds old) (λ d. HasDigests d p.digests.items) → HasFunctionNames p.typed p.digests.items → AreFuncs p.digests.items
      → EndsMarked holds images (EndsBuild b p list) mid new → EndsMarked holds images (EndsFrom b list) old new
  marked_from b p list old mid new same before says has names funcs h =
      marked_then holds moment left_since images (EndsBuild b p list) (EndsFrom b list) old mid new same before
      (λ d c told ends. ends_from b p list d c (subst (λ o. IfSome o (λ x. ProjectSays x (Ok (front_of p)))) told says)
      (subst (λ o. IfSome o (λ x. HasDigests x p.digests.items)) told has) names funcs ends) h

  pub marked_based : (list : List (List ℕ)) (start : Start) (b : Box Base Global) (old mid new : S) → start ≡ From b
      → IfSome (holds old) (λ d. StartsFrom d start) → holds mid ≡ holds old → LeavesAsBefore holds moment left_since images old mid
      → EndsMarked holds images (EndsFrom b.value list) mid new → EndsMarked holds images (MayEnd list) old new
  marked_based list start b old mid new is begins same before h =
      marked_then holds moment left_since images (EndsFrom b.value list) (MayEnd list) old mid new same before
      (λ d c told ends. end_based list d c b.value (subst (λ o. IfSome o (λ x. StartsFrom x (From b))) told
      (subst (λ (s : Start). IfSome (holds old) (λ x. StartsFrom x s)) is begins)) ends) h

  pub marked_afresh : (list : List (List ℕ)) (old mid new : S) → holds mid ≡ holds old → LeavesAsBefore holds moment left_since images old mid
      → EndsMarked holds images (IsDone Leaves) mid new → EndsMarked holds images (MayEnd list) old new
  marked_afresh list old mid new same before h =
      marked_then holds moment left_since images (IsDone Leaves) (MayEnd list) old mid new same before
      (λ d c told done. record { goes_on = λ e from. inr (inl done); afresh = λ none. done }) h
