-- What an evaluation makes has the files of all that it ran, and so of all that is provided where there were no records.
use Rattle.std.proofs.Common.{◌≡◌, ℕ, List, [], Option, None, Some, Result, Ok, Err, Vec, Global, refl, sym, ap, subst}
use Rattle.std.specs.Prelude.{All, Contains, IfOk, IfSome, IsSome}
use Rattle.std.proofs.lemmas.Bool.{false≢true}
use Rattle.std.proofs.lemmas.List.Elements.{All-contains}
use Rattle.pie_builder_laws.specs.Events.{AreCompiled}
use Rattle.pie_check_laws.proofs.Members.{from_flat, from_map, into_map}
use Rattle.pie_checks.specs.declared.built.Built.{Built}
use Rattle.pie_code.specs.declared.code.Code.{Code}
use Rattle.pie_core_laws.specs.Update.{Update, present}
use Rattle.pie_diff.specs.Hashes.{files_paths}
use Rattle.pie_diff.specs.Removals.{writes_paths}
use Rattle.pie_files.specs.Directory.{Directory}
use Rattle.pie_files.specs.declared.files.FilesError.{FilesError}
use Rattle.pie_incremental.specs.inner.Digested.{digested}
use Rattle.pie_incremental.specs.inner.Joined.{IsImage}
use Rattle.pie_left_laws.specs.Accepted.{IsAccepted, live_now}
use Rattle.pie_left_laws.proofs.Provides.{provided_path}
use Rattle.pie_model.specs.Built.{provided_at}
use Rattle.pie_project.specs.declared.project.Project.{Project}
use Rattle.pie_record.specs.Canonical.{IsTrueRecord}
use Rattle.pie_record.specs.declared.task_record.TaskRecord.{TaskRecord}
use Rattle.pie_results.specs.inner.Files.{contents_in}
use Rattle.pie_store.specs.declared.image.StoreImage.{StoreImage}
use Rattle.pie_store.specs.inner.Offers.{Offered}
use Rattle.pie_topdown.specs.inner.Filed.{HasFile, HasFiles, HasFilesOf, MakesFilesOf}
use Rattle.pie_topdown.specs.inner.Rooted.{IsProgram}
use Rattle.pie_topdown_result_laws.specs.Builds.{IsFromStore, IsNowHere}
use Rattle.pie_value.specs.declared.task.Task.{Task}
use Rattle.pie_topdown_build.specs.declared.evaluating.Evaluated.{Evaluated}
use Rattle.pie_topdown_build.specs.inner.Filed.{FilesFrom, ProvidesAll}

-- the offers for each task
abbrev Told : Type 0
Told = Directory → Task → List ℕ → List Offered

-- ---- the evaluation

-- of each update from the store, by the digests that were put in
files_from : (before mid : Option Directory) (p : Project) (codes : List Code) (s t : StoreImage) (told : Told) (first after reused : List Task) (b : Built)
    → mid ≡ before → AreCompiled p.typed codes → IsImage s → t.rows ≡ s.rows → IfSome before (λ d. t ≡ digested d p.digests.items s)
    → (IsProgram p.typed codes t.rows
    → MakesFilesOf mid p.typed t.funcs p.digests.items t.rows told p.roots.items first after [] reused b)
    → FilesFrom before p s told first after reused b
files_from before mid p codes s t told first after reused b same compiled image rows put makes = record {
  each = λ u here stored honest accepted.
      let is : t ≡ digested u.directory p.digests.items s = subst (λ o. IfSome o (λ d. t ≡ digested d p.digests.items s)) here.holds put in
      subst (λ (x : List TaskRecord). HasFilesOf x first after [] reused b) rows
      ((makes (record { compiled = compiled; parts = subst (All IsTrueRecord) (sym rows) image.parts })).each u
      (subst (λ m. IsNowHere u m p.typed p.roots.items) (sym same) here)
      (subst (λ (x : List TaskRecord). IsFromStore u t.funcs p.digests.items x) (sym rows)
      (subst (λ (x : StoreImage). IsFromStore u x.funcs p.digests.items s.rows) (sym is) stored)) honest accepted);
}

-- so it is with an evaluation that succeeds
pub evaluates_filed : (before mid : Option Directory) (p : Project) (codes : List Code) (s t : StoreImage) (told : Told) (first after : List Task)
    (result : Result Evaluated FilesError) → mid ≡ before → AreCompiled p.typed codes → IsImage s → t.rows ≡ s.rows
    → IfSome before (λ d. t ≡ digested d p.digests.items s)
    → (IsProgram p.typed codes t.rows
    → IfOk result (λ e. MakesFilesOf mid p.typed t.funcs p.digests.items t.rows told p.roots.items first after [] e.reused.items e.built.value))
    → IfOk result (λ e. FilesFrom before p s told first after e.reused.items e.built.value)
evaluates_filed before mid p codes s t told first after (Ok e) same compiled image rows put makes =
    files_from before mid p codes s t told first after e.reused.items e.built.value same compiled image rows put makes
evaluates_filed before mid p codes s t told first after (Err x) same compiled image rows put makes = tt

-- ---- all that is provided

-- where each record has the files of its writes, each path that is provided has its file
pub all_provided : (u : Update) (rows : List TaskRecord) (files : List (List ℕ × Vec ℕ Global)) → IsAccepted u rows (contents_in files)
    → ((row : TaskRecord) → Contains rows row → HasFiles (contents_in files) row) → ProvidesAll u files
all_provided u rows files made have path some = by (provided_at (live_now u) path) refl some
  where
    listed : (bytes : List ℕ) → Contains (contents_in files) (path, bytes) → Contains (files_paths files) path
    listed bytes i =
        let m = from_map (λ (f : List ℕ × Vec ℕ Global). (f.0, f.1.items)) files (path, bytes) i in
        subst (λ x. Contains (files_paths files) x) (ap (λ (x : List ℕ × List ℕ). x.0) m.2) (into_map (λ (x : List ℕ × Vec ℕ Global). x.0) files m.0 m.1)

    wrote : (bytes : List ℕ) → provided_at (live_now u) path ≡ Some bytes → Contains (files_paths files) path
    wrote bytes e =
        let r = from_flat (λ (r : TaskRecord). writes_paths r.writes) rows path
        (provided_path (present u) u.roots made.accepted rows made.rows path bytes e) in
        let w = from_map (λ (w : List ℕ × List ℕ). w.0) r.0.writes path r.2 in
        let f = All-contains (HasFile (contents_in files)) r.0.writes w.0 (have r.0 r.1) w.1 in
        listed f.0 (subst (λ (x : List ℕ). Contains (contents_in files) (x, f.0)) w.2 f.1)

    by : (o : Option (List ℕ)) → provided_at (live_now u) path ≡ o → IsSome o → Contains (files_paths files) path
    by None e there = absurd (false≢true there)
    by (Some bytes) e there = wrote bytes e
