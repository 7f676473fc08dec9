-- What a committed plan leaves, with the content of each file.
use Rattle.std.proofs.Common.{◌≡◌, ◌⊎◌, ℕ, false, List, Vec, Global, refl, sym, subst}
use Rattle.std.specs.Prelude.{Contains, Option, None, Some, IfSome, OnOk, Result, Ok, Err}
use Rattle.pie_base.specs.Path.{same_text}
use Rattle.pie_files.specs.declared.files.FilesError.{FilesError}
use Rattle.pie_files.specs.Directory.{Directory, file_at}
use Rattle.pie_check_laws.proofs.Members.{into_map, from_map}
use Rattle.pie_commit.specs.declared.plan.Plan.{Plan}
use Rattle.pie_commit.specs.inner.Plans.{Meets, changes}
use Rattle.pie_diff.specs.Hashes.{files_paths}
use Rattle.pie_record.specs.declared.task_record.TaskRecord.{TaskRecord}
use Rattle.pie_results.specs.inner.Files.{contents_in}
use Rattle.pie_left_laws.specs.Placed.{IsPlaced, StaysAs}
use Rattle.pie_left_laws.proofs.Provides.{one_some}
use Rattle.pie_incremental.specs.declared.base.OwnFiles.{OwnFiles}
use Rattle.pie_incremental.specs.inner.Built.{AreFilesOf, IsKnown, IsPut}
use Rattle.pie_incremental.specs.inner.Plans.{HasChanged, IsChangesPlan, Places}
use Rattle.pie_incremental.specs.Own.{bytes_at, open_path, IsClosed}
use Rattle.pie_incremental.proofs.Putting.{Files, in_files, put_at, puts_of}

module _ (own : OwnFiles) (held : List (List ℕ × List ℕ)) (rows : List TaskRecord) (contents : Files) (text : Vec ℕ Global) (p : Plan)
    (plan : IsChangesPlan own held rows contents text p) (d left : Directory) (known : IsKnown own held d) (files : AreFilesOf rows contents)
    (changed : (q : List ℕ) → same_text q open_path ≡ false → Meets (changes p q) (file_at d q) (file_at left q)) (closed : IsClosed left) where
  is_put : IsPut rows contents text.items d (Some left)
  is_put = puts_of own held rows contents text p plan d left known files changed (Some left) refl closed

  abbrev with_bytes : List ℕ × Vec ℕ Global → List ℕ × List ℕ
  with_bytes f = (f.0, f.1.items)

  put_of : (path bytes : List ℕ) → Contains (contents_in contents) (path, bytes) → (bytes_at left path ≡ Some bytes) ⊎ StaysAs d left path bytes
  put_of path bytes i =
      let m = from_map with_bytes contents (path, bytes) i in
      subst (λ (x : List ℕ × List ℕ). (bytes_at left x.0 ≡ Some x.1) ⊎ StaysAs d left x.0 x.1) m.2
      (put_at own held rows contents text p plan d left known files changed m.0 m.1)

  no_path : (path : List ℕ) → ((bytes : List ℕ) → Contains (contents_in contents) (path, bytes) → ⊥) → Contains (files_paths contents) path → ⊥
  no_path path none c =
      let f = in_files path contents c in
      none f.0.1.items (subst (λ (x : List ℕ). Contains (contents_in contents) (x, f.0.1.items)) f.2 (into_map with_bytes contents f.0 f.1))

  pub is_placed : IsPlaced rows (contents_in contents) text.items d left
  is_placed =
      let same : is_put.left ≡ left = sym (one_some left is_put.left is_put.told) in
      subst (IsPlaced rows (contents_in contents) text.items d) same (record {
        put = λ path bytes i. subst (λ x. (bytes_at x path ≡ Some bytes) ⊎ StaysAs d x path bytes) (sym same) (put_of path bytes i);
        same = λ q on wrote none. is_put.kept q on (no_path q none) wrote;
        gone = is_put.gone;
        rest = is_put.rest;
        store = is_put.store;
        no_names = is_put.no_names;
        closed = is_put.closed;
      })

places : (p : Plan) (d : Directory) (after : Option Directory) → (IsClosed d → HasChanged p d after) → Places p d after
places p d after done own held rows contents text plan known files =
    let h = done known.closed in (h.left, h.told, is_placed own held rows contents text p plan d h.left known files h.changed h.closed)

-- what a committed plan leaves of what is known
pub places_by : {A : Type 0} (p : Plan) (before after : Option Directory) (result : Result A FilesError)
    → IfSome before (λ d. IsClosed d → OnOk result (HasChanged p d after)) → IfSome before (λ d. OnOk result (Places p d after))
places_by p None after result done = tt
places_by p (Some d) after (Ok a) done = places p d after done
places_by p (Some d) after (Err e) done = tt
