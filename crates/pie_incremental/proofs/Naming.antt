-- What the commit of a refused build leaves.
use Rattle.std.proofs.Common.{◌≡◌, ℕ, false, cond, List, refl, ap, subst, ◌∙◌, inl, inr, ⊎_elim}
use Rattle.std.specs.Prelude.{◌||◌, Option, None, Some, IfSome}
use Rattle.std.specs.List.{list_any}
use Rattle.pie_base.specs.Path.{same_text}
use Rattle.pie_files.specs.Directory.{Directory, file_at}
use Rattle.pie_files.specs.Images.{Only}
use Rattle.pie_files.proofs.Reading.{if_each}
use Rattle.pie_commit.specs.declared.plan.Plan.{Plan}
use Rattle.pie_commit.specs.inner.Plans.{Same, Meets, later, at, removed, written, pended, stored, changes, is_own}
use Rattle.pie_commit.specs.Outcomes.{HasFile, IsDone, IsOfThree, KeepsOthers, LeavesMarked, Underway}
use Rattle.pie_incremental.specs.Crashes.{EndsMarked, MarkedBy}
use Rattle.pie_incremental.specs.Kept.{is_builders, HasNames, IsOfNames, IsUnderway, KeepsAllFiles, KeepsNames}
use Rattle.pie_incremental.specs.Names.{kept_names}
use Rattle.pie_incremental.specs.Own.{bytes_at, open_path, store_path, pending_path, IsClosed}
use Rattle.pie_incremental.specs.inner.Marked.{EndsNames}
use Rattle.pie_incremental.specs.inner.Plans.{HasChanged, IsNamesPlan}
use Rattle.pie_incremental.proofs.Commits.{changes_wanted, cond_same, met}
use Rattle.pie_incremental.proofs.OwnPaths.{or_left, or_right, five_off, places}

module _ (names : List (List ℕ)) (before : Option (List ℕ)) (p : Plan) (plan : IsNamesPlan names before p) where
  -- no file is wanted
  files_same : (q : List ℕ) → later (written p.writes.items q) (removed p.removals.items q) ≡ Same
  files_same q =
      ap (λ ws. later (written ws q) (removed p.removals.items q)) plan.writes ∙ ap (λ ps. removed ps q) plan.removals

  -- the pending names alone are wanted
  names_wanted : (q : List ℕ) → changes p q ≡ later (at p.names_place (pended p.pending) q) Same
  names_wanted q =
      let files = later (written p.writes.items q) (removed p.removals.items q) in
      let rest = later (at p.names_place (pended p.pending) q) files in
      ap (λ o. later (at p.place (stored o) q) rest) plan.store
      ∙ ap (λ x. later x rest) (cond_same (same_text q p.place))
      ∙ ap (λ x. later (at p.names_place (pended p.pending) q) x) (files_same q)

  others_same : (q : List ℕ) → same_text q pending_path ≡ false → changes p q ≡ Same
  others_same q off =
      names_wanted q ∙ ap (λ b. later (cond b (pended p.pending) Same) Same) (ap (same_text q) (places p plan.places).names ∙ off)

  pending_wanted : changes p pending_path ≡ later (pended p.pending) Same
  pending_wanted = names_wanted pending_path ∙ ap (λ m. later (at m (pended p.pending) pending_path) Same) (places p plan.places).names

  has_names : (d e : Directory) → bytes_at d pending_path ≡ before
      → ((q : List ℕ) → same_text q open_path ≡ false → Meets (changes p q) (file_at d q) (file_at e q)) → HasNames names d e
  has_names d e is changed = record {
    rest = λ q other off. subst (λ w. Meets w (file_at d q) (file_at e q)) (others_same q off) (changed q other);
    names = met before (kept_names names) p.pending (file_at d pending_path) (file_at e pending_path) plan.pending is
        (subst (λ w. Meets w (file_at d pending_path) (file_at e pending_path)) pending_wanted (changed pending_path refl));
  }

  keeps_names : (d : Directory) (after : Option Directory) → bytes_at d pending_path ≡ before → HasChanged p d after → KeepsNames names d after
  keeps_names d after is h = record { left = h.left; told = h.told; has = has_names d h.left is h.changed; closed = h.closed }

  pub kept_of : (held after : Option Directory) → IfSome held (λ d. IsClosed d → HasChanged p d after)
      → IfSome held (λ d. bytes_at d pending_path ≡ before → IsClosed d → KeepsNames names d after)
  kept_of None after h = tt
  kept_of (Some d) after h = λ is closed. keeps_names d after is (h closed)

  -- ---- the paths of the plan are the builder's own

  not_own : (q : List ℕ) → is_builders q ≡ false → is_own p q ≡ false
  not_own q off =
      let o = same_text q open_path in
      let s = same_text q store_path in
      let n = same_text q pending_path in
      let at = places p plan.places in
      five_off (same_text q p.marker) (same_text q p.place) (same_text q p.names_place) (list_any (same_text q) p.removals.items)
      (list_any (λ w. same_text q w.0) p.writes.items)
      (ap (same_text q) at.marker ∙ or_left o s (or_left (o || s) n off))
      (ap (same_text q) at.store ∙ or_right o s (or_left (o || s) n off))
      (ap (same_text q) at.names ∙ or_right (o || s) n off)
      (ap (list_any (same_text q)) plan.removals)
      (ap (list_any (λ w. same_text q w.0)) plan.writes)

  keeps_files : (held after : Option Directory) → IfSome held (λ d. (e : Directory) × (after ≡ Some e) × ((q : List ℕ) → is_own p q ≡ false → file_at e q ≡ file_at d q))
      → KeepsAllFiles held after
  keeps_files None after h = tt
  keeps_files (Some d) after h = (h.0, h.1, λ q off. h.2 q (not_own q off))

  pub keeps_of : (held after : Option Directory) → KeepsOthers p held after → KeepsAllFiles held after
  keeps_of held after h = keeps_files held after h.kept

  -- ---- what a crash leaves

  underway : (d c : Directory) → Underway p d c → IsUnderway d c
  underway d c way = (subst (HasFile c) (places p plan.places).marker way.marked, λ q off. way.others q (not_own q off))

  pub names_crash : (d c : Directory) → IsOfThree p d c → IsOfNames names before d c
  names_crash d c three = λ is.
      ⊎_elim (λ way. inl (underway d c way))
      (λ rest. ⊎_elim (λ same. inr (inl same))
      (λ done. inr (inr (has_names d c is (λ q off.
      subst (λ w. Meets w (file_at d q) (file_at c q)) (changes_wanted p plan.places q off) (done q (ap (same_text q) (places p plan.places).marker ∙ off))))))
      rest) three

  -- ---- every image at the end

  names_end : (d c : Directory) → IsDone p d c → EndsNames names before d c
  names_end d c done is = has_names d c is (λ q off.
      subst (λ w. Meets w (file_at d q) (file_at c q)) (changes_wanted p plan.places q off) (done q (ap (same_text q) (places p plan.places).marker ∙ off)))

  names_marked : (d : Directory) (images : Directory → Type 0) → LeavesMarked p d images → MarkedBy (EndsNames names before) d images
  names_marked d images leaves =
      ⊎_elim (λ each. inl (λ c is. ⊎_elim (λ file. inl (subst (HasFile c) (places p plan.places).marker file)) (λ same. inr same) (each c is)))
      (λ all. inr (λ c is. names_end d c (all c is))) leaves

  pub names_told : {S : Type 0} (holds : S → Option Directory) (images : S → Directory → Type 0) (old new : S)
      → IfSome (holds old) (λ d. Only d (images old) → LeavesMarked p d (images new)) → EndsMarked holds images (EndsNames names before) old new
  names_told holds images old new h = if_each
      (λ d. Only d (images old) → LeavesMarked p d (images new))
      (λ d. Only d (images old) → MarkedBy (EndsNames names before) d (images new)) (holds old) (λ d leaves only. names_marked d (images new) (leaves only)) h

pub keeps_same : (held : Option Directory) → KeepsAllFiles held held
keeps_same None = tt
keeps_same (Some d) = (d, refl, λ q off. refl)
