-- Calls on the plan's own paths keep all other files.
use Rattle.std.proofs.Common.{◌≡◌, ℕ, Bool, true, false, cond, List, refl, sym, ap, ◌∙◌, subst, ⊎_elim}
use Rattle.std.specs.Prelude.{Option, None, Some, Result, Ok, Err, IfSome, OnOk, IsErrOf, not, ◌&&◌, ◌||◌}
use Rattle.std.specs.List.{list_any}
use Rattle.std.proofs.lemmas.Bool.{false≢true}
use Rattle.std.specs.Ordering.{nat_cmp, eq_by_cmp}
use Rattle.std.specs.Cmp.{Equal-is}
use Rattle.std.specs.Cmp.Lexicographic.{slice_cmp, nat_list_cmp_total}
use Rattle.std.specs.FinMap as fin
use Rattle.pie_base.specs.Path.{same_text}
use Rattle.pie_files.specs.declared.files.FilesError.{FilesError}
use Rattle.pie_files.specs.declared.files.FilesError.TheVariants.{Failed, OutOfMemory}
use Rattle.pie_files.specs.Directory.{Directory, file_at, with_file, without_file}
use Rattle.pie_files.specs.Calls.{MayHaveWritten, MayHaveRemoved}
use Rattle.pie_files.proofs.HeldLemmas.{antisymmetric}
use Rattle.pie_commit.specs.declared.plan.Plan.{Plan}
use Rattle.pie_commit.specs.inner.Plans.{is_own, is_inner}
use Rattle.pie_commit.specs.Outcomes.{KeepsOthers}
use Rattle.pie_commit.proofs.Standing.{same_itself}

-- a path that may be changed, beside the marker, is the plan's own
pub own : (p : Plan) (path : List ℕ) → is_inner p path ≡ true → is_own p path ≡ true
own p path h = left (is_own p path) (not (same_text p.marker path)) h
  where
    left : (a b : Bool) → (a && b) ≡ true → a ≡ true
    left true b e = refl
    left false b e = e

-- the marker is the plan's own
pub marker_own : (p : Plan) → is_own p p.marker ≡ true
marker_own p = ap (λ b. b || same_text p.marker p.place || same_text p.marker p.names_place || list_any (same_text p.marker) p.removals.items
    || list_any (λ w. same_text p.marker w.0) p.writes.items) (same_itself p.marker)

-- the plan's own path is no other
apart : (p : Plan) (q path : List ℕ) → is_own p q ≡ false → is_own p path ≡ true → eq_by_cmp (slice_cmp nat_cmp) q path ≡ false
apart p q path off on = elim (eq_by_cmp (slice_cmp nat_cmp) q path) as (λ b. eq_by_cmp (slice_cmp nat_cmp) q path ≡ b → b ≡ false) [
  | true ↦ λ e. absurd (false≢true (sym off ∙ ap (is_own p) (antisymmetric q path ((Equal-is (slice_cmp nat_cmp q path)).0 e)) ∙ on))
  | false ↦ λ e. refl
] refl

keeps_without : (p : Plan) (d : Directory) (path q : List ℕ) → is_own p path ≡ true → is_own p q ≡ false → file_at (without_file d path) q ≡ file_at d q
keeps_without p d path q on off = fin.get-remove nat_list_cmp_total d path q ∙ ap (λ b. cond b None (fin.get d q)) (apart p q path off on)

keeps_with : (p : Plan) (d : Directory) (path q bytes : List ℕ) (mark : ℕ) → is_own p path ≡ true → is_own p q ≡ false
    → file_at (with_file d path bytes mark) q ≡ file_at d q
keeps_with p d path q bytes mark on off = fin.get-insert nat_list_cmp_total d path (bytes, mark) q
    ∙ ap (λ b. cond b (Some (bytes, mark)) (fin.get d q)) (apart p q path off on)

abbrev Kept : Plan → Option Directory → Option Directory → Type 0
Kept p before after = IfSome before (λ d. (e : Directory) × (after ≡ Some e) × ((q : List ℕ) → is_own p q ≡ false → file_at e q ≡ file_at d q))

kept_same : (p : Plan) (before after : Option Directory) → after ≡ before → Kept p before after
kept_same p None after is = tt
kept_same p (Some d) after is = (d, is, λ q off. refl)

pub keeps_same : (p : Plan) (before after : Option Directory) → after ≡ before → KeepsOthers p before after
keeps_same p before after is = record { kept = kept_same p before after is }

kept_both : (p : Plan) (a b c : Option Directory) → Kept p a b → Kept p b c → Kept p a c
kept_both p None b c first second = tt
kept_both p (Some d) b c first second =
    let e : Directory = first.0 in
    let next : Kept p (Some e) c = subst (λ o. Kept p o c) first.1 second in
    (next.0, next.1, λ q off. next.2 q off ∙ first.2 q off)

-- one after the other
pub keeps_both : (p : Plan) (a b c : Option Directory) → KeepsOthers p a b → KeepsOthers p b c → KeepsOthers p a c
keeps_both p a b c first second = record { kept = kept_both p a b c first.kept second.kept }

removal_kept : (p : Plan) (before after : Option Directory) (path : List ℕ) (result : Result (Unit {0}) FilesError) → is_own p path ≡ true
    → IfSome before (λ d. OnOk result (after ≡ Some (without_file d path)))
    → (IsErrOf result Failed → IfSome before (λ d. MayHaveRemoved d path after)) → (IsErrOf result OutOfMemory → after ≡ before) → Kept p before after
removal_kept p None after path result on removed failed unchanged = tt
removal_kept p (Some d) after path (Ok u) on removed failed unchanged = (without_file d path, removed, λ q off. keeps_without p d path q on off)
removal_kept p (Some d) after path (Err Failed) on removed failed unchanged =
    ⊎_elim (λ is. (d, is, λ q off. refl)) (λ is. (without_file d path, is, λ q off. keeps_without p d path q on off)) (failed refl)
removal_kept p (Some d) after path (Err OutOfMemory) on removed failed unchanged = (d, unchanged refl, λ q off. refl)

-- a removal, whatever comes of it
pub removal_keeps_others : (p : Plan) (before after : Option Directory) (path : List ℕ) (result : Result (Unit {0}) FilesError) → is_own p path ≡ true
    → IfSome before (λ d. OnOk result (after ≡ Some (without_file d path)))
    → (IsErrOf result Failed → IfSome before (λ d. MayHaveRemoved d path after)) → (IsErrOf result OutOfMemory → after ≡ before) → KeepsOthers p before after
removal_keeps_others p before after path result on removed failed unchanged =
    record { kept = removal_kept p before after path result on removed failed unchanged }

write_kept : (A : ℕ → Type 0) (p : Plan) (before after : Option Directory) (path bytes : List ℕ) (result : Result (Unit {0}) FilesError)
    → is_own p path ≡ true → OnOk result ((mark : ℕ) × IfSome before (λ d. after ≡ Some (with_file d path bytes mark)) × A mark)
    → (IsErrOf result Failed → IfSome before (λ d. MayHaveWritten d path after)) → (IsErrOf result OutOfMemory → after ≡ before) → Kept p before after
write_kept A p None after path bytes result on written failed unchanged = tt
write_kept A p (Some d) after path bytes (Ok u) on written failed unchanged = (
  with_file d path bytes written.0,
  written.1,
  λ q off. keeps_with p d path q bytes written.0 on off,
)
write_kept A p (Some d) after path bytes (Err Failed) on written failed unchanged =
    ⊎_elim (λ is. (d, is, λ q off. refl)) (λ some. (
      with_file d path some.0 some.1,
      some.2,
      λ q off. keeps_with p d path q some.0 some.1 on off,
    )) (failed refl)
write_kept A p (Some d) after path bytes (Err OutOfMemory) on written failed unchanged = (d, unchanged refl, λ q off. refl)

-- a write, whatever comes of it
pub write_keeps_others : (A : ℕ → Type 0) (p : Plan) (before after : Option Directory) (path bytes : List ℕ) (result : Result (Unit {0}) FilesError)
    → is_own p path ≡ true → OnOk result ((mark : ℕ) × IfSome before (λ d. after ≡ Some (with_file d path bytes mark)) × A mark)
    → (IsErrOf result Failed → IfSome before (λ d. MayHaveWritten d path after)) → (IsErrOf result OutOfMemory → after ≡ before) → KeepsOthers p before after
write_keeps_others A p before after path bytes result on written failed unchanged =
    record { kept = write_kept A p before after path bytes result on written failed unchanged }

wrote_kept : (p : Plan) (before after : Option Directory) (path bytes : List ℕ) (mark : ℕ) → is_own p path ≡ true
    → IfSome before (λ d. after ≡ Some (with_file d path bytes mark)) → Kept p before after
wrote_kept p None after path bytes mark on is = tt
wrote_kept p (Some d) after path bytes mark on is = (with_file d path bytes mark, is, λ q off. keeps_with p d path q bytes mark on off)

-- a write that succeeded
pub wrote_keeps_others : (p : Plan) (before after : Option Directory) (path bytes : List ℕ) (mark : ℕ) → is_own p path ≡ true
    → IfSome before (λ d. after ≡ Some (with_file d path bytes mark)) → KeepsOthers p before after
wrote_keeps_others p before after path bytes mark on is = record { kept = wrote_kept p before after path bytes mark on is }

gone_kept : (p : Plan) (before after : Option Directory) (path : List ℕ) → is_own p path ≡ true
    → IfSome before (λ d. after ≡ Some (without_file d path)) → Kept p before after
gone_kept p None after path on is = tt
gone_kept p (Some d) after path on is = (without_file d path, is, λ q off. keeps_without p d path q on off)

-- a removal that succeeded
pub gone_keeps_others : (p : Plan) (before after : Option Directory) (path : List ℕ) → is_own p path ≡ true
    → IfSome before (λ d. after ≡ Some (without_file d path)) → KeepsOthers p before after
gone_keeps_others p before after path on is = record { kept = gone_kept p before after path on is }
