-- While the marker stands in every image, calls on the plan's other paths keep it so.
use Rattle.std.proofs.Common.{◌≡◌, ℕ, Bool, true, false, cond, List, [], refl, sym, ap, ◌∙◌, subst, inl, inr, ⊎_elim}
use Rattle.std.specs.Prelude.{Option, None, Some, Result, Ok, Err, IfSome, OnOk, not, ◌&&◌, ◌||◌}
use Rattle.std.specs.Cmp.{eq_by_cmp_equiv}
use Rattle.std.specs.Cmp.Lexicographic.{texts_ties, nat_list_cmp_total, slice_cmp}
use Rattle.std.specs.Ordering.{nat_cmp, eq_by_cmp}
use Rattle.std.specs.List.{list_any}
use Rattle.std.specs.FinMap as fin
use Rattle.std.proofs.lemmas.Bool.{false≢true}
use Rattle.std.proofs.lemmas.Map.Views.{tells_apart}
use Rattle.pie_base.specs.Path.{same_text}
use Rattle.pie_files.specs.Directory.{Directory, file_at, with_file, without_file}
use Rattle.pie_files.specs.Images.{Stays, MayWrite, MayRemove, MayLeave, Elapses, Only}
use Rattle.pie_files.specs.Reading.{Leaves}
use Rattle.pie_files.proofs.HeldLemmas.{antisymmetric}
use Rattle.pie_files.proofs.Reading.{starts, one_call, in_turn, if_always, if_each}
use Rattle.pie_files.specs.declared.files.FilesError.{FilesError}
use Rattle.pie_commit.specs.declared.plan.Plan.{Plan}
use Rattle.pie_commit.specs.inner.Plans.{Wanted, is_own, is_inner}
use Rattle.pie_commit.specs.Outcomes.{Underway, Stands, IsEarly, IsEnding, IsAtRest, HasBrought, KeepsOthers, KeepsMarked, LeavesFromRest}
use Rattle.pie_commit.proofs.Bringing.{get_with, get_without}

pub same_itself : (q : List ℕ) → same_text q q ≡ true
same_itself q = texts_ties q q ∙ (eq_by_cmp_equiv nat_list_cmp_total).refl q

pub same_path : (q path : List ℕ) → same_text q path ≡ true → q ≡ path
same_path q path e = tells_apart antisymmetric q path (sym (texts_ties q path) ∙ e)

-- a path for which a test fails is none for which it holds
apart : (test : List ℕ → Bool) (r q : List ℕ) → test r ≡ false → test q ≡ true → same_text r q ≡ false
apart test r q off on = elim (same_text r q) as (λ b. same_text r q ≡ b → b ≡ false) [
  | true ↦ λ e. absurd (false≢true (sym off ∙ ap test (same_path r q e) ∙ on))
  | false ↦ λ e. refl
] refl

write_apart : (d : Directory) (q bytes : List ℕ) (mark : ℕ) (r : List ℕ) → same_text r q ≡ false → file_at (with_file d q bytes mark) r ≡ file_at d r
write_apart d q bytes mark r e = get_with d q bytes mark r ∙ ap (λ b. cond b (Some (bytes, mark)) (file_at d r)) e

pub removal_apart : (d : Directory) (q r : List ℕ) → same_text r q ≡ false → file_at (without_file d q) r ≡ file_at d r
removal_apart d q r e = get_without d q r ∙ ap (λ b. cond b None (file_at d r)) e

both_of : (a b : Bool) → (a && not b) ≡ true → (a ≡ true) × (b ≡ false)
both_of true true e = absurd (cc)
both_of true false e = (refl, refl)
both_of false b e = absurd (cc)

-- a change at a path of the plan that isn't the marker
underway_still : (p : Plan) (d b c : Directory) (q : List ℕ) → is_inner p q ≡ true → ((r : List ℕ) → same_text r q ≡ false → file_at c r ≡ file_at b r)
    → Underway p d b → Underway p d c
underway_still p d b c q inner same way =
    let parts = both_of (is_own p q) (same_text p.marker q) inner in
    record {
      marked = (way.marked.0, same p.marker parts.1 ∙ way.marked.1);
      others = λ r off. same r (apart (is_own p) r q off parts.0) ∙ way.others r off;
    }

pub write_keeps : (p : Plan) (d b c : Directory) (q : List ℕ) → is_inner p q ≡ true → MayWrite q b c → Underway p d b → Underway p d c
write_keeps p d b c q inner may way =
    ⊎_elim (λ same. subst (Underway p d) (sym same) way)
    (λ w. underway_still p d b c q inner (λ r off. ap (λ e. file_at e r) w.2 ∙ write_apart b q w.0 w.1 r off) way) may

pub removal_keeps : (p : Plan) (d b c : Directory) (q : List ℕ) → is_inner p q ≡ true → MayRemove q b c → Underway p d b → Underway p d c
removal_keeps p d b c q inner may way =
    ⊎_elim (λ same. subst (Underway p d) (sym same) way)
    (λ gone. underway_still p d b c q inner (λ r off. ap (λ e. file_at e r) gone ∙ removal_apart b q r off) way) may

-- ---- where the directory is observable

-- where the one is told, the other is
abbrev pub Told : Option Directory → Option Directory → Type 0
Told a b = IfSome a (λ d. (e : Directory) × (b ≡ Some e))

pub told_by : (wants : List ℕ → Wanted) (a b : Option Directory) → HasBrought wants a b → Told a b
told_by wants None b h = tt
told_by wants (Some d) b h = (h.0, h.1)

pub told_both : (a b c : Option Directory) → Told a b → Told b c → Told a c
told_both None b c first second = tt
told_both (Some d) b c first second = subst (λ o. Told o c) first.1 second

pub told_itself : (a : Option Directory) → Told a a
told_itself None = tt
told_itself (Some d) = (d, refl)

pub both_each : (A : Directory → Type 0) (B : Type 0) (C : Directory → Type 0) (a b : Option Directory) → Told a b → ((d : Directory) → A d → B → C d)
    → IfSome a A → IfSome b (λ e. B) → IfSome a C
both_each A B C None b told f x y = tt
both_each A B C (Some d) b told f x y = f d x (subst (λ o. IfSome o (λ e. B)) told.1 y)

-- ---- the parts of a commit

module _ {S : Type 0} (holds : S → Option Directory) (moment : S → ℕ) (left_since : S → ℕ → Directory → Type 0) (images : S → Directory → Type 0) where
  -- a call on a path of the plan that isn't the marker
  pub call_marked : (step : Directory → Directory → Type 0) (p : Plan) (old new : S) → ((d b c : Directory) → step b c → Underway p d b → Underway p d c)
      → MayLeave holds moment left_since images step old new → KeepsMarked holds moment left_since images p old new
  call_marked step p old new keeps may = if_each
      (λ e. Elapses step (moment old) (moment new) (left_since old) (left_since new) (images old) (images new))
      (λ e. (d : Directory) → Stands p d (images old) → Leaves moment left_since images (Underway p d) old new) (holds old)
      (λ e time d stands. one_call moment left_since images (Underway p d) step old new (keeps d) stands time) may

  pub none_marked : (p : Plan) (old : S) → KeepsMarked holds moment left_since images p old old
  none_marked p old = if_always (holds old) (λ d stands. starts moment left_since images (Underway p d) old stands)

  pub both_marked : (p : Plan) (old mid new : S) → Told (holds old) (holds mid) → KeepsMarked holds moment left_since images p old mid
      → KeepsMarked holds moment left_since images p mid new → KeepsMarked holds moment left_since images p old new
  both_marked p old mid new told first second = both_each
      (λ e. (d : Directory) → Stands p d (images old) → Leaves moment left_since images (Underway p d) old mid)
      ((d : Directory) → Stands p d (images mid) → Leaves moment left_since images (Underway p d) mid new)
      (λ e. (d : Directory) → Stands p d (images old) → Leaves moment left_since images (Underway p d) old new) (holds old) (holds mid) told
      (λ e one two d stands. let before = one d stands in in_turn moment left_since images (Underway p d) old mid new before (two d before.now)) first second

  -- a call from rest
  pub call_rest : (step : Directory → Directory → Type 0) (P : Directory → Directory → Type 0) (old new : S)
      → ((d b c : Directory) → step b c → P d b → P d c) → ((d : Directory) → P d d)
      → MayLeave holds moment left_since images step old new → LeavesFromRest holds moment left_since images P old new
  call_rest step P old new keeps at_first may = if_each
      (λ d. Elapses step (moment old) (moment new) (left_since old) (left_since new) (images old) (images new))
      (λ d. Only d (images old) → Leaves moment left_since images (P d) old new) (holds old)
      (λ d time only. one_call moment left_since images (P d) step old new (keeps d) (λ c is. subst (P d) (sym (only c is)) (at_first d)) time) may

  -- a sync after it
  pub sync_rest : (P : Directory → Directory → Type 0) (old mid new : S) → Told (holds old) (holds mid)
      → LeavesFromRest holds moment left_since images P old mid → MayLeave holds moment left_since images Stays mid new
      → LeavesFromRest holds moment left_since images P old new
  sync_rest P old mid new told first may = both_each
      (λ d. Only d (images old) → Leaves moment left_since images (P d) old mid)
      (Elapses Stays (moment mid) (moment new) (left_since mid) (left_since new) (images mid) (images new))
      (λ d. Only d (images old) → Leaves moment left_since images (P d) old new) (holds old) (holds mid) told
      (λ d one time only. let before = one only in in_turn moment left_since images (P d) old mid new before
      (one_call moment left_since images (P d) Stays mid new (λ b c same is. subst (P d) (sym same) is) before.now time)) first may

stays_marked : (p : Plan) (d b c : Directory) → Stays b c → Underway p d b → Underway p d c
stays_marked p d b c same way = subst (Underway p d) (sym same) way

pub sync_marked : {S : Type 0} (holds : S → Option Directory) (moment : S → ℕ) (left_since : S → ℕ → Directory → Type 0) (images : S → Directory → Type 0)
    (p : Plan) (old new : S) → MayLeave holds moment left_since images Stays old new → KeepsMarked holds moment left_since images p old new
sync_marked holds moment left_since images p old new may = call_marked holds moment left_since images Stays p old new (stays_marked p) may

-- ---- the marker

not_first : (a b c d e : Bool) → (a || b || c || d || e) ≡ false → a ≡ false
not_first true b c d e h = absurd (cc)
not_first false b c d e h = refl

-- a path that isn't the plan's own isn't the marker
off_marker : (p : Plan) (r : List ℕ) → is_own p r ≡ false → same_text r p.marker ≡ false
off_marker p r off = not_first (same_text r p.marker) (same_text r p.place) (same_text r p.names_place) (list_any (same_text r) p.removals.items)
    (list_any (λ w. same_text r w.0) p.writes.items) off

pub marked_way : (p : Plan) (d b : Directory) (bytes : List ℕ) (mark : ℕ) → ((r : List ℕ) → is_own p r ≡ false → file_at b r ≡ file_at d r)
    → Underway p d (with_file b p.marker bytes mark)
marked_way p d b bytes mark others = record {
  marked = ((bytes, mark), get_with b p.marker bytes mark p.marker ∙ ap (λ t. cond t (Some (bytes, mark)) (file_at b p.marker)) (same_itself p.marker));
  others = λ r off. write_apart b p.marker bytes mark r (off_marker p r off) ∙ others r off;
}

pub early_still : (p : Plan) (d b c : Directory) → MayWrite p.marker b c → IsEarly p d b → IsEarly p d c
early_still p d b c may early =
    ⊎_elim (λ same. subst (IsEarly p d) (sym same) early)
    (λ w. inl (subst (Underway p d) (sym w.2) (marked_way p d b w.0 w.1 (λ r off. ⊎_elim (λ way. way.others r off) (λ is. ap (λ e. file_at e r) is)
    early)))) may

pub begins : (p : Plan) (images : Directory → Type 0) (o mid : Option Directory) (mark : ℕ) (result : Result (Unit {0}) FilesError)
    → IfSome o (λ d. mid ≡ Some (with_file d p.marker [] mark)) → IfSome mid (λ e. OnOk result (Only e images))
    → OnOk result (IfSome o (λ d. Stands p d images))
begins p images None mid mark (Ok u) w durable = tt
begins p images (Some d) mid mark (Ok u) w durable =
    let only : Only (with_file d p.marker [] mark) images = subst (λ m. IfSome m (λ e. Only e images)) w durable in
    λ c is. subst (Underway p d) (sym (only c is)) (marked_way p d d [] mark (λ r off. refl))
begins p images o mid mark (Err e) w durable = tt

removal_twice : (d : Directory) (path : List ℕ) → without_file (without_file d path) path ≡ without_file d path
removal_twice d path = fin.same_map nat_list_cmp_total antisymmetric (without_file (without_file d path) path) (without_file d path) (λ q.
    fin.get-remove nat_list_cmp_total (without_file d path) path q
    ∙ ap (λ o. cond (eq_by_cmp (slice_cmp nat_cmp) q path) None o) (fin.get-remove nat_list_cmp_total d path q)
    ∙ twice (eq_by_cmp (slice_cmp nat_cmp) q path) (fin.get d q) ∙ sym (fin.get-remove nat_list_cmp_total d path q))
  where
    twice : (b : Bool) (o : Option (List ℕ × ℕ)) → cond b None (cond b None o) ≡ cond b None o
    twice true o = refl
    twice false o = refl

pub ending_still : (path : List ℕ) (d b c : Directory) → MayRemove path b c → IsEnding path d b → IsEnding path d c
ending_still path d b c may ending =
    ⊎_elim (λ same. subst (IsEnding path d) (sym same) ending)
    (λ gone. inr (gone ∙ ⊎_elim (λ is. ap (λ e. without_file e path) is) (λ is. ap (λ e. without_file e path) is ∙ removal_twice d path) ending)) may

pub rests : (images : Directory → Type 0) (o mid new : Option Directory) (result : Result (Unit {0}) FilesError) → Told o mid → new ≡ mid
    → IfSome mid (λ e. OnOk result (Only e images)) → OnOk result (IfSome o (λ d. IsAtRest new images))
rests images None mid new (Ok u) told same durable = tt
rests images (Some d) mid new (Ok u) told same durable =
    (told.0, same ∙ told.1, subst (λ m. IfSome m (λ e. Only e images)) told.1 durable)
rests images o mid new (Err e) told same durable = tt

-- so much of a list is done, and the marker stands
pub record Marking {S : Type 0} (holds : S → Option Directory) (moment : S → ℕ) (left_since : S → ℕ → Directory → Type 0) (images : S → Directory → Type 0)
    (p : Plan) (old new : S) : Type 0 where
  pub told : Told (holds old) (holds new)
  pub crash : KeepsMarked holds moment left_since images p old new
  pub outside : KeepsOthers p (holds old) (holds new)
