-- Calls on files of the cache keep all other files.
use Rattle.std.proofs.Common.{◌≡◌, ℕ, true, false, cond, List, refl, sym, ap, ◌∙◌, subst, ⊎_elim}
use Rattle.std.specs.Prelude.{Option, None, Some, Result, Ok, Err, IfSome, OnOk, IsErrOf}
use Rattle.std.proofs.lemmas.Bool.{false≢true}
use Rattle.std.specs.Ordering.{nat_cmp, eq_by_cmp}
use Rattle.std.specs.Cmp.{Equal-is}
use Rattle.std.specs.Cmp.Lexicographic.{slice_cmp, nat_list_cmp_total}
use Rattle.std.specs.FinMap as fin
use Rattle.pie_files.specs.declared.files.FilesError.{FilesError}
use Rattle.pie_files.specs.declared.files.FilesError.TheVariants.{Failed, OutOfMemory}
use Rattle.pie_files.specs.Directory.{Directory, with_file, without_file}
use Rattle.pie_files.specs.Images.{Stays, MayWrite, MayRemove, MayLeave, Elapses}
use Rattle.pie_files.specs.Reading.{Leaves, LeavesAsBefore}
use Rattle.pie_files.specs.Calls.{MayHaveWritten, MayHaveRemoved}
use Rattle.pie_files.proofs.HeldLemmas.{antisymmetric}
use Rattle.pie_files.proofs.Reading.{starts, one_call, in_turn, weaker, if_always, if_each}
use Rattle.pie_cache.specs.inner.Places.{is_in_cache}
use Rattle.pie_cache.specs.inner.Changes.{AlikeOutside, ChangesCacheOnly, KeepsOutside, IsAlikeOneOf, LeavesAlike}

-- a path outside the cache is none inside
apart : (q path : List ℕ) → is_in_cache q ≡ false → is_in_cache path ≡ true → eq_by_cmp (slice_cmp nat_cmp) q path ≡ false
apart q path off on = elim (eq_by_cmp (slice_cmp nat_cmp) q path) as (λ b. eq_by_cmp (slice_cmp nat_cmp) q path ≡ b → b ≡ false) [
  | true ↦ λ e. absurd (false≢true (sym off ∙ ap is_in_cache (antisymmetric q path ((Equal-is (slice_cmp nat_cmp q path)).0 e)) ∙ on))
  | false ↦ λ e. refl
] refl

alike_without : (d : Directory) (path : List ℕ) → is_in_cache path ≡ true → AlikeOutside d (without_file d path)
alike_without d path on q off = fin.get-remove nat_list_cmp_total d path q ∙ ap (λ b. cond b None (fin.get d q)) (apart q path off on)

alike_with : (d : Directory) (path bytes : List ℕ) (mark : ℕ) → is_in_cache path ≡ true → AlikeOutside d (with_file d path bytes mark)
alike_with d path bytes mark on q off = fin.get-insert nat_list_cmp_total d path (bytes, mark) q
    ∙ ap (λ b. cond b (Some (bytes, mark)) (fin.get d q)) (apart q path off on)

alike_itself : (d : Directory) → AlikeOutside d d
alike_itself d q off = refl

alike_both : (a b c : Directory) → AlikeOutside a b → AlikeOutside b c → AlikeOutside a c
alike_both a b c first second q off = second q off ∙ first q off

-- ---- what is there afterwards

pub keeps_same : (before after : Option Directory) → after ≡ before → KeepsOutside before after
keeps_same None after is = tt
keeps_same (Some d) after is = (d, is, alike_itself d)

pub keeps_both : (a b c : Option Directory) → KeepsOutside a b → KeepsOutside b c → KeepsOutside a c
keeps_both None b c first second = tt
keeps_both (Some d) b c first second =
    let e : Directory = first.0 in
    let next : KeepsOutside (Some e) c = subst (λ o. KeepsOutside o c) first.1 second in
    (next.0, next.1, alike_both d e next.0 first.2 next.2)

pub removal_keeps : (before after : Option Directory) (path : List ℕ) (result : Result (Unit {0}) FilesError) → is_in_cache path ≡ true
    → IfSome before (λ d. OnOk result (after ≡ Some (without_file d path)))
    → (IsErrOf result Failed → IfSome before (λ d. MayHaveRemoved d path after)) → (IsErrOf result OutOfMemory → after ≡ before)
    → KeepsOutside before after
removal_keeps None after path result on removed failed unchanged = tt
removal_keeps (Some d) after path (Ok u) on removed failed unchanged = (without_file d path, removed, alike_without d path on)
removal_keeps (Some d) after path (Err Failed) on removed failed unchanged =
    ⊎_elim (λ is. (d, is, alike_itself d)) (λ is. (without_file d path, is, alike_without d path on)) (failed refl)
removal_keeps (Some d) after path (Err OutOfMemory) on removed failed unchanged = (d, unchanged refl, alike_itself d)

pub write_keeps : (A : ℕ → Type 0) (before after : Option Directory) (path bytes : List ℕ) (result : Result (Unit {0}) FilesError)
    → is_in_cache path ≡ true → OnOk result ((mark : ℕ) × IfSome before (λ d. after ≡ Some (with_file d path bytes mark)) × A mark)
    → (IsErrOf result Failed → IfSome before (λ d. MayHaveWritten d path after)) → (IsErrOf result OutOfMemory → after ≡ before)
    → KeepsOutside before after
write_keeps A None after path bytes result on written failed unchanged = tt
write_keeps A (Some d) after path bytes (Ok u) on written failed unchanged =
    (with_file d path bytes written.0, written.1, alike_with d path bytes written.0 on)
write_keeps A (Some d) after path bytes (Err Failed) on written failed unchanged =
    ⊎_elim (λ is. (d, is, alike_itself d)) (λ w. (with_file d path w.0 w.1, w.2, alike_with d path w.0 w.1 on)) (failed refl)
write_keeps A (Some d) after path bytes (Err OutOfMemory) on written failed unchanged = (d, unchanged refl, alike_itself d)

-- ---- what a crash may leave

write_alike : (path : List ℕ) → is_in_cache path ≡ true → (b c : Directory) → MayWrite path b c → AlikeOutside b c
write_alike path on b c may =
    ⊎_elim (λ same. subst (AlikeOutside b) (sym same) (alike_itself b)) (λ w. subst (AlikeOutside b) (sym w.2) (alike_with b path w.0 w.1 on)) may

removal_alike : (path : List ℕ) → is_in_cache path ≡ true → (b c : Directory) → MayRemove path b c → AlikeOutside b c
removal_alike path on b c may =
    ⊎_elim (λ same. subst (AlikeOutside b) (sym same) (alike_itself b)) (λ gone. subst (AlikeOutside b) (sym gone) (alike_without b path on)) may

stays_alike : (b c : Directory) → Stays b c → AlikeOutside b c
stays_alike b c same = subst (AlikeOutside b) (sym same) (alike_itself b)

module _ {S : Type 0} (holds : S → Option Directory) (moment : S → ℕ) (left_since : S → ℕ → Directory → Type 0) (images : S → Directory → Type 0) where
  call_leaves : (step : Directory → Directory → Type 0) (old new : S) → ((b c : Directory) → step b c → AlikeOutside b c)
      → MayLeave holds moment left_since images step old new → LeavesAlike holds moment left_since images old new
  call_leaves step old new alike may = if_each
      (λ d. Elapses step (moment old) (moment new) (left_since old) (left_since new) (images old) (images new))
      (λ d. Leaves moment left_since images (IsAlikeOneOf (images old)) old new) (holds old)
      (λ d time. one_call moment left_since images (IsAlikeOneOf (images old)) step old new
      (λ b c way from. (from.0, from.1, alike_both from.0 b c from.2 (alike b c way))) (λ c is. (c, is, alike_itself c)) time) may

  pub write_leaves : (path : List ℕ) (old new : S) → is_in_cache path ≡ true → MayLeave holds moment left_since images (MayWrite path) old new
      → LeavesAlike holds moment left_since images old new
  write_leaves path old new on may = call_leaves (MayWrite path) old new (write_alike path on) may

  pub removal_leaves : (path : List ℕ) (old new : S) → is_in_cache path ≡ true → MayLeave holds moment left_since images (MayRemove path) old new
      → LeavesAlike holds moment left_since images old new
  removal_leaves path old new on may = call_leaves (MayRemove path) old new (removal_alike path on) may

  pub stays_leaves : (old new : S) → MayLeave holds moment left_since images Stays old new → LeavesAlike holds moment left_since images old new
  stays_leaves old new may = call_leaves Stays old new stays_alike may

  pub none_leaves : (old : S) → LeavesAlike holds moment left_since images old old
  none_leaves old = if_always (holds old) (starts moment left_since images (IsAlikeOneOf (images old)) old (λ c is. (c, is, alike_itself c)))

  -- calls that only read
  pub read_leaves : (old new : S) → LeavesAsBefore holds moment left_since images old new → LeavesAlike holds moment left_since images old new
  read_leaves old new leaves = if_each
      (λ d. Leaves moment left_since images (images old) old new)
      (λ d. Leaves moment left_since images (IsAlikeOneOf (images old)) old new) (holds old)
      (λ d a. weaker moment left_since images (images old) (IsAlikeOneOf (images old)) old new (λ c is. (c, is, alike_itself c)) a) leaves

  -- one after another
  pub both_leave : (old mid new : S) → KeepsOutside (holds old) (holds mid) → LeavesAlike holds moment left_since images old mid
      → LeavesAlike holds moment left_since images mid new → LeavesAlike holds moment left_since images old new
  both_leave old mid new kept first second = by (holds old) kept first
    where
      by : (o : Option Directory) → KeepsOutside o (holds mid) → IfSome o (λ d. Leaves moment left_since images (IsAlikeOneOf (images old)) old mid)
          → IfSome o (λ d. Leaves moment left_since images (IsAlikeOneOf (images old)) old new)
      by None k a = tt
      by (Some d) k a =
          let b = subst (λ o. IfSome o (λ e. Leaves moment left_since images (IsAlikeOneOf (images mid)) mid new)) k.1 second in
          in_turn moment left_since images (IsAlikeOneOf (images old)) old mid new a
          (weaker moment left_since images (IsAlikeOneOf (images mid)) (IsAlikeOneOf (images old)) mid new
          (λ c from. let earlier = a.now from.0 from.1 in (earlier.0, earlier.1, alike_both earlier.0 from.0 c earlier.2 from.2)) b)

  -- no call
  pub outside_none : (old : S) → ChangesCacheOnly holds moment left_since images old old
  outside_none old = record { kept = keeps_same (holds old) (holds old) refl; crash = none_leaves old }

  -- a look
  pub outside_look : (old new : S) → holds new ≡ holds old → MayLeave holds moment left_since images Stays old new
      → ChangesCacheOnly holds moment left_since images old new
  outside_look old new same may = record { kept = keeps_same (holds old) (holds new) same; crash = stays_leaves old new may }

  -- calls that only read
  pub outside_read : (old new : S) → holds new ≡ holds old → LeavesAsBefore holds moment left_since images old new
      → ChangesCacheOnly holds moment left_since images old new
  outside_read old new same leaves = record { kept = keeps_same (holds old) (holds new) same; crash = read_leaves old new leaves }

  -- some calls and then others
  pub outside_both : (old mid new : S) → ChangesCacheOnly holds moment left_since images old mid → ChangesCacheOnly holds moment left_since images mid new
      → ChangesCacheOnly holds moment left_since images old new
  outside_both old mid new first second = record {
    kept = keeps_both (holds old) (holds mid) (holds new) first.kept second.kept;
    crash = both_leave old mid new first.kept first.crash second.crash;
  }

-- what the search takes for a function whose calls change files of the cache alone
pub ruleset changes = (keeps_same, keeps_both, none_leaves, stays_leaves, read_leaves, both_leave)
