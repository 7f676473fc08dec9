-- The store that a committed plan leaves.
use Rattle.std.proofs.Common.{◌≡◌, ◌∙◌, ℕ, Bool, true, false, cond, List, [], ◌∷◌, Vec, Global, Option, None, Some, Result}
use Rattle.std.proofs.Common.{Ok, Err, refl, sym, ap, subst, inl, inr, ⊎_elim}
use Rattle.std.proofs.lemmas.Bool.{false≢true}
use Rattle.std.specs.Prelude.{All, Box, IfNone, IfSome, OnOk}
use Rattle.std.specs.List.{list_all}
use Rattle.std.specs.Option.{option_map}
use Rattle.pie_base.specs.Path.{is_out, same_text}
use Rattle.pie_commit.proofs.Standing.{same_path}
use Rattle.pie_commit.specs.declared.plan.Plan.{Plan}
use Rattle.pie_commit.specs.inner.Plans.{Wanted, Same, Gone, Bytes, Meets, at, changes, later, pended, removed, stored, written}
use Rattle.pie_files.specs.Directory.{Directory, file_at}
use Rattle.pie_files.specs.declared.files.FilesError.{FilesError}
use Rattle.pie_incremental.specs.declared.base.OwnFiles.{OwnFiles}
use Rattle.pie_incremental.specs.Own.{bytes_at, store_path, IsClosed}
use Rattle.pie_incremental.specs.inner.Cleaned.{HasParts, IsPlanFor}
use Rattle.pie_incremental.specs.inner.Plans.{HasChanged, IsChangesPlan, store_change}
use Rattle.pie_incremental.proofs.OwnPaths.{and_left, and_right, places}
use Rattle.pie_record.specs.declared.task_record.TaskRecord.{TaskRecord}
use Rattle.pie_report.specs.declared.report.Report.{Report}
use Rattle.pie_store.specs.Texts.{IsRow, IsStoreText}
use Rattle.pie_store.specs.declared.image.StoreImage.{StoreImage}
use Rattle.pie_value.specs.declared.task.Task.{Task}
use Rattle.pie_topdown_build.specs.inner.Stored.{IsBegunFrom, IsStoreOrNone, LeavesRows}

-- ---- what a plan wants at the path of the store

off_out : (q path : List ℕ) → is_out q ≡ false → is_out path ≡ true → same_text q path ≡ false
off_out q path off on = by (same_text q path) refl
  where
    by : (b : Bool) → same_text q path ≡ b → b ≡ false
    by true e = absurd (false≢true (sym off ∙ ap is_out (same_path q path e) ∙ on))
    by false e = refl

pub none_written : (q : List ℕ) (ws : List (List ℕ × Vec ℕ Global)) → is_out q ≡ false → list_all (λ w. is_out w.0) ws ≡ true → written ws q ≡ Same
none_written q [] off all = refl
none_written q (w ∷ ws) off all =
    ap (λ x. later x (at w.0 (Bytes w.1.items) q)) (none_written q ws off (and_right (is_out w.0) (list_all (λ v. is_out v.0) ws) all))
    ∙ ap (λ b. later Same (cond b (Bytes w.1.items) Same)) (off_out q w.0 off (and_left (is_out w.0) (list_all (λ v. is_out v.0) ws) all))

pub none_removed : (q : List ℕ) (ps : List (List ℕ)) → is_out q ≡ false → list_all is_out ps ≡ true → removed ps q ≡ Same
none_removed q [] off all = refl
none_removed q (p ∷ ps) off all =
    ap (λ x. later x (at p Gone q)) (none_removed q ps off (and_right (is_out p) (list_all is_out ps) all))
    ∙ ap (λ b. later Same (cond b Gone Same)) (off_out q p off (and_left (is_out p) (list_all is_out ps) all))

later_same : (x : Wanted) → later x Same ≡ x
later_same Same = refl
later_same Gone = refl
later_same (Bytes b) = refl

module _ (own : OwnFiles) (held : List (List ℕ × List ℕ)) (rows : List TaskRecord) (contents : List (List ℕ × Vec ℕ Global)) (text : Vec ℕ Global)
    (p : Plan) (plan : IsChangesPlan own held rows contents text p) where
  pub wanted : changes p store_path ≡ stored (store_change own.store.items text)
  wanted =
      let o = places p plan.places in
      let files = later (written p.writes.items store_path) (removed p.removals.items store_path) in
      let none : files ≡ Same =
      ap (λ x. later x (removed p.removals.items store_path)) (none_written store_path p.writes.items refl plan.writes_out)
      ∙ none_removed store_path p.removals.items refl plan.removals_out in
      ap (λ m. later (at m (stored p.store) store_path) (later (at p.names_place (pended p.pending) store_path) files)) o.store
      ∙ ap (λ m. later (stored p.store) (later (at m (pended p.pending) store_path) files)) o.names
      ∙ ap (λ x. later (stored p.store) x) none ∙ later_same (stored p.store) ∙ ap stored plan.store

  -- the text is there: it was written, or the same was
  there : (d : Directory) (after : Option Directory) → IsStoreOrNone own.store.items d → (text.items ≡ [] → ⊥) → (changed : HasChanged p d after)
      → bytes_at changed.left store_path ≡ Some text.items
  there d after begun some changed =
      by (same_text own.store.items text.items) refl
      (subst (λ x. Meets x (file_at d store_path) (file_at changed.left store_path)) wanted (changed.changed store_path refl))
    where
      by : (b : Bool) → same_text own.store.items text.items ≡ b
          → Meets (stored (cond b None (Some text))) (file_at d store_path) (file_at changed.left store_path)
          → bytes_at changed.left store_path ≡ Some text.items
      by true e m =
          let same = same_path own.store.items text.items e in
          ap (option_map (λ f. f.0)) m
          ∙ ⊎_elim (λ is. is) (λ none. absurd (some (sym same ∙ none))) begun.bytes_are ∙ ap (λ (t : List ℕ). Some t) same
      by false e m = ap (option_map (λ f. f.0)) m.1

-- the text of a store isn't empty
pub some_text : (s : StoreImage) (bs : List ℕ) → IsStoreText s bs → bs ≡ [] → ⊥
some_text s bs is none = let e = sym none ∙ is.bytes in cc

-- ---- what an accepted build leaves

module _ (own : OwnFiles) (held : List (List ℕ × List ℕ)) (funcs : List (List ℕ × List ℕ)) (roots : List Task) (rows : List TaskRecord)
    (contents : List (List ℕ × Vec ℕ Global)) (s : StoreImage) (p : Plan) (parts : HasParts funcs roots rows s) (planned : IsPlanFor own held s contents p)
  where
    -- its records have canonical bytes
    pub rows_planned : (result : Result (Box Report Global) FilesError) → OnOk result (All IsRow rows)
    rows_planned (Ok r) = subst (All IsRow) parts.rows_are planned.says.store.rows
    rows_planned (Err e) = tt

    pub leaves_rows : (before after : Option Directory) (b : Box Report Global) (result : Result (Box Report Global) FilesError)
        → IfSome before (λ d. IsClosed d → OnOk result (HasChanged p d after))
        → IfSome before (λ d. IsStoreOrNone own.store.items d → OnOk result (LeavesRows funcs rows after))
    leaves_rows None after b result changed = tt
    leaves_rows (Some d) after b (Err e) changed = λ begun. tt
    leaves_rows (Some d) after b (Ok r) changed = λ begun.
        let c = changed begun.closed in
        record {
          left = c.left;
          told = c.told;
          text = planned.text.items;
          there = there own held s.rows contents planned.text p planned.plan d after begun (some_text s planned.text.items planned.says) c;
          roots = roots;
          says = record {
            image = s;
            text = planned.says;
            no_digest = parts.table;
            funcs = parts.funcs_are;
            roots = parts.roots_are;
            rows = parts.rows_are;
          };
        }

-- with the store that there was to build from
pub rows_from : (store : Option (Vec ℕ Global)) (own : OwnFiles) (funcs : List (List ℕ × List ℕ)) (rows : List TaskRecord)
    (before mid last after : Option Directory) (result : Result (Box Report Global) FilesError) → mid ≡ before → last ≡ mid
    → IfSome store (λ text. own.store ≡ text) → IfNone store (own.store.items ≡ [])
    → IfSome last (λ d. IsStoreOrNone own.store.items d → OnOk result (LeavesRows funcs rows after))
    → IfSome before (λ d. IsBegunFrom store d → OnOk result (LeavesRows funcs rows after))
rows_from store own funcs rows before mid last after result same again some none leaves =
    by before (subst (λ o. IfSome o (λ d. IsStoreOrNone own.store.items d → OnOk result (LeavesRows funcs rows after))) (again ∙ same) leaves)
  where
    begun : (o : Option (Vec ℕ Global)) (d : Directory) → IfSome o (λ text. own.store ≡ text) → IfNone o (own.store.items ≡ []) → IsBegunFrom o d
        → IsStoreOrNone own.store.items d
    begun None d is empty closed = record { closed = closed; bytes_are = inr empty }
    begun (Some text) d is empty has = record {
      closed = has.closed;
      bytes_are = inl (has.text_is ∙ ap (λ (v : Vec ℕ Global). Some v.items) (sym is));
    }

    by : (o : Option Directory) → IfSome o (λ d. IsStoreOrNone own.store.items d → OnOk result (LeavesRows funcs rows after))
        → IfSome o (λ d. IsBegunFrom store d → OnOk result (LeavesRows funcs rows after))
    by None h = tt
    by (Some d) h = λ from. h (begun store d some none from)
