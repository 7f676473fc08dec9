-- While the gate stands: calls on other files, and what stands before and after.
use Rattle.std.proofs.Common.{◌≡◌, ℕ, Bool, true, false, cond, List, [], refl, sym, ap, ◌∙◌, subst, inl, inr, ⊎_elim, arith}
use Rattle.std.specs.Prelude.{Option, None, Some, Result, Ok, Err, IfSome, OnOk, length, codes}
use Rattle.std.proofs.lemmas.List.{length-append}
use Rattle.hex.specs.Hex.{encode_lower, lower_digits}
use Rattle.hex.proofs.HexLemmas.{length-encode_with}
use Rattle.pie_base.specs.Path.{same_text}
use Rattle.pie_commit.proofs.Bringing.{get_with, later-same}
use Rattle.pie_commit.proofs.Standing.{Told, both_each, removal_apart, same_path}
use Rattle.pie_commit.specs.Outcomes.{HasBrought, IsAtRest, IsEnding, LeavesFromRest}
use Rattle.pie_commit.specs.inner.Plans.{Wanted, Same, Bytes, Brings, Meets, later, at}
use Rattle.pie_files.proofs.Reading.{if_always, if_each, in_turn, one_call, starts, weaker}
use Rattle.pie_files.specs.Directory.{Directory, file_at, with_file, without_file}
use Rattle.pie_files.specs.Images.{Elapses, MayLeave, MayRemove, MayWrite, Only, Stays}
use Rattle.pie_files.specs.Reading.{Leaves}
use Rattle.pie_files.specs.declared.files.FilesError.{FilesError}
use Rattle.pie_cache.specs.inner.Changes.{KeepsOutside}
use Rattle.pie_cache.specs.inner.Gated.{AllGated, HasGate, IsBegun, IsPut, IsWhole, KeepsGate}
use Rattle.pie_cache.specs.inner.Places.{gate, path_of_hash, IsCachePath}

pub told_of : (before after : Option Directory) → KeepsOutside before after → Told before after
told_of None after h = tt
told_of (Some d) after h = (h.0, h.1)

-- the path of a cache file has 75 bytes
long_path : (path hash : List ℕ) → length hash ≡ 32 → path ≡ path_of_hash hash → length path ≡ 75
long_path path hash long is = omega (arith, ap length is, length-append (codes ".pie/cache/") (encode_lower hash), length-encode_with lower_digits hash, long)

-- a cache file is another than the gate
pub gate_apart : (path : List ℕ) → IsCachePath path → same_text gate path ≡ false
gate_apart path h = by (same_text gate path) refl
  where
    by : (b : Bool) → same_text gate path ≡ b → same_text gate path ≡ false
    by true e = absurd (omega (arith, ap length (same_path gate path e), long_path path h.0 h.1 h.2))
    by false e = e

gate_written : (b : Directory) (path bytes : List ℕ) (mark : ℕ) → same_text gate path ≡ false → HasGate b → HasGate (with_file b path bytes mark)
gate_written b path bytes mark off has =
    (has.0, get_with b path bytes mark gate ∙ ap (λ (t : Bool). cond t (Some (bytes, mark)) (file_at b gate)) off ∙ has.1)

gate_stays : (b : Directory) (path : List ℕ) → same_text gate path ≡ false → HasGate b → HasGate (without_file b path)
gate_stays b path off has = (has.0, removal_apart b path gate off ∙ has.1)

begun_still : (d b c : Directory) → MayWrite gate b c → IsBegun d b → IsBegun d c
begun_still d b c may begun =
    ⊎_elim (λ same. subst (IsBegun d) (sym same) begun)
    (λ w. inl (subst HasGate (sym w.2) ((w.0, w.1), get_with b gate w.0 w.1 gate))) may

-- the gate was written, and that is to last
pub stands : (images : Directory → Type 0) (o mid : Option Directory) (result : Result (Unit {0}) FilesError) → HasBrought (at gate (Bytes [])) o mid
    → IfSome mid (λ e. OnOk result (Only e images)) → OnOk result (IfSome o (λ d. AllGated images))
stands images None mid (Ok u) brought durable = tt
stands images (Some d) mid (Ok u) brought durable =
    let only : Only brought.0 images = subst (λ m. IfSome m (λ e. Only e images)) brought.1 durable in
    let there : Meets (at gate (Bytes []) gate) (file_at d gate) (file_at brought.0 gate) = brought.2 gate in
    λ c is. subst HasGate (sym (only c is)) (([], there.0), there.1)
stands images o mid (Err e) brought durable = tt

-- ---- what is there in the end

put_by : (wants : List ℕ → Wanted) (d e : Directory) → Brings (λ q. later (wants q) (at gate (Bytes []) q)) d e → IsPut wants d e
put_by wants d e brings q off =
    subst (λ w. Meets w (file_at d q) (file_at e q))
    (ap (λ (b : Bool). later (wants q) (cond b (Bytes []) Same)) off ∙ later-same (wants q)) (brings q)

put_ending : (wants : List ℕ → Wanted) (d e c : Directory) → IsPut wants d e → IsEnding gate e c → IsPut wants d c
put_ending wants d e c put ending =
    ⊎_elim (λ is. subst (IsPut wants d) (sym is) put)
    (λ gone. subst (IsPut wants d) (sym gone) (λ q off. subst (Meets (wants q) (file_at d q)) (sym (removal_apart e gate q off)) (put q off))) ending

if_both : (A B : Directory → Type 0) (o : Option Directory) → IfSome o A → IfSome o B → IfSome o (λ d. A d × B d)
if_both A B None a b = tt
if_both A B (Some d) a b = (a, b)

abbrev pub from_some : Directory → Option Directory → Directory
from_some d None = d
from_some d (Some e) = e

module _ {S : Type 0} (holds : S → Option Directory) (moment : S → ℕ) (left_since : S → ℕ → Directory → Type 0) (images : S → Directory → Type 0) where
  call_gated : (step : Directory → Directory → Type 0) (old new : S) → ((b c : Directory) → step b c → HasGate b → HasGate c)
      → MayLeave holds moment left_since images step old new → KeepsGate holds moment left_since images old new
  call_gated step old new keeps may = if_each
      (λ d. Elapses step (moment old) (moment new) (left_since old) (left_since new) (images old) (images new))
      (λ d. AllGated (images old) → Leaves moment left_since images HasGate old new) (holds old)
      (λ d time gated. one_call moment left_since images HasGate step old new keeps gated time) may

  pub write_gated : (path : List ℕ) (old new : S) → same_text gate path ≡ false → MayLeave holds moment left_since images (MayWrite path) old new
      → KeepsGate holds moment left_since images old new
  write_gated path old new off may = call_gated (MayWrite path) old new
      (λ b c step has. ⊎_elim (λ same. subst HasGate (sym same) has) (λ w. subst HasGate (sym w.2) (gate_written b path w.0 w.1 off has)) step) may

  pub removal_gated : (path : List ℕ) (old new : S) → same_text gate path ≡ false → MayLeave holds moment left_since images (MayRemove path) old new
      → KeepsGate holds moment left_since images old new
  removal_gated path old new off may = call_gated (MayRemove path) old new
      (λ b c step has. ⊎_elim (λ same. subst HasGate (sym same) has) (λ gone. subst HasGate (sym gone) (gate_stays b path off has)) step) may

  pub sync_gated : (old new : S) → MayLeave holds moment left_since images Stays old new → KeepsGate holds moment left_since images old new
  sync_gated old new may = call_gated Stays old new (λ b c same has. subst HasGate (sym same) has) may

  pub none_gated : (old : S) → KeepsGate holds moment left_since images old old
  none_gated old = if_always (holds old) (λ gated. starts moment left_since images HasGate old gated)

  pub both_gated : (old mid new : S) → Told (holds old) (holds mid) → KeepsGate holds moment left_since images old mid
      → KeepsGate holds moment left_since images mid new → KeepsGate holds moment left_since images old new
  both_gated old mid new told first second = both_each
      (λ d. AllGated (images old) → Leaves moment left_since images HasGate old mid)
      (AllGated (images mid) → Leaves moment left_since images HasGate mid new)
      (λ d. AllGated (images old) → Leaves moment left_since images HasGate old new) (holds old) (holds mid) told
      (λ d one two gated. let before = one gated in in_turn moment left_since images HasGate old mid new before (two before.now)) first second

  pub begun_call : (old new : S) → MayLeave holds moment left_since images (MayWrite gate) old new → LeavesFromRest holds moment left_since images IsBegun old new
  begun_call old new may = if_each
      (λ d. Elapses (MayWrite gate) (moment old) (moment new) (left_since old) (left_since new) (images old) (images new))
      (λ d. Only d (images old) → Leaves moment left_since images (IsBegun d) old new) (holds old)
      (λ d time only. one_call moment left_since images (IsBegun d) (MayWrite gate) old new (begun_still d)
      (λ c is. subst (IsBegun d) (sym (only c is)) (inr refl)) time) may

  module _ (wants : List ℕ → Wanted) where
    pub whole_begun : (old new : S) → LeavesFromRest holds moment left_since images IsBegun old new
        → LeavesFromRest holds moment left_since images (IsWhole wants) old new
    whole_begun old new begun = if_each
        (λ d. Only d (images old) → Leaves moment left_since images (IsBegun d) old new)
        (λ d. Only d (images old) → Leaves moment left_since images (IsWhole wants d) old new) (holds old)
        (λ d leaves only. weaker moment left_since images (IsBegun d) (IsWhole wants d) old new
        (λ c is. ⊎_elim (λ has. inl has) (λ same. inr (inl same)) is) (leaves only)) begun

    pub whole_changed : (old mid new : S) → Told (holds old) (holds mid) → LeavesFromRest holds moment left_since images IsBegun old mid
        → IfSome (holds old) (λ d. AllGated (images mid)) → KeepsGate holds moment left_since images mid new
        → LeavesFromRest holds moment left_since images (IsWhole wants) old new
    whole_changed old mid new told begun gated keeps = both_each
        (λ d. (Only d (images old) → Leaves moment left_since images (IsWhole wants d) old mid) × AllGated (images mid))
        (AllGated (images mid) → Leaves moment left_since images HasGate mid new)
        (λ d. Only d (images old) → Leaves moment left_since images (IsWhole wants d) old new) (holds old) (holds mid) told
        (λ d so_far keep only. in_turn moment left_since images (IsWhole wants d) old mid new (so_far.0 only)
        (weaker moment left_since images HasGate (IsWhole wants d) mid new (λ c has. inl has) (keep so_far.1)))
        (if_both (λ d. Only d (images old) → Leaves moment left_since images (IsWhole wants d) old mid) (λ d. AllGated (images mid)) (holds old)
        (whole_begun old mid begun) gated) keeps

    ended : (o m : Option Directory) (old mid new : S) → HasBrought (λ q. later (wants q) (at gate (Bytes []) q)) o m
        → IfSome o (λ d. IsAtRest m (images mid))
        → IfSome m (λ e. Only e (images mid) → Leaves moment left_since images (IsEnding gate e) mid new)
        → IfSome o (λ d. Only d (images old) → Leaves moment left_since images (IsWhole wants d) old mid)
        → IfSome o (λ d. Only d (images old) → Leaves moment left_since images (IsWhole wants d) old new)
    ended None m old mid new brought rest ending so_far = tt
    ended (Some d) m old mid new brought rest ending so_far =
        let e : Directory = brought.0 in
        let same : rest.0 ≡ e = ap (from_some d) (sym rest.1 ∙ brought.1) in
        let only : Only e (images mid) = subst (λ x. Only x (images mid)) same rest.2 in
        let last : Leaves moment left_since images (IsEnding gate e) mid new =
        subst (λ o. IfSome o (λ x. Only x (images mid) → Leaves moment left_since images (IsEnding gate x) mid new)) brought.1 ending only in
        λ start. in_turn moment left_since images (IsWhole wants d) old mid new (so_far start)
        (weaker moment left_since images (IsEnding gate e) (IsWhole wants d) mid new
        (λ c is. inr (inr (put_ending wants d e c (put_by wants d e brought.2) is))) last)

    pub whole_ended : (old mid new : S) → HasBrought (λ q. later (wants q) (at gate (Bytes []) q)) (holds old) (holds mid)
        → IfSome (holds old) (λ d. IsAtRest (holds mid) (images mid)) → LeavesFromRest holds moment left_since images (IsEnding gate) mid new
        → LeavesFromRest holds moment left_since images (IsWhole wants) old mid → LeavesFromRest holds moment left_since images (IsWhole wants) old new
    whole_ended old mid new brought rest ending so_far = ended (holds old) (holds mid) old mid new brought rest ending so_far

  -- what is wanted told otherwise
  pub whole_as : (wants : List ℕ → Wanted) (others : Directory → List ℕ → Wanted) (old new : S)
      → IfSome (holds old) (λ d. (q : List ℕ) → wants q ≡ others d q) → LeavesFromRest holds moment left_since images (IsWhole wants) old new
      → LeavesFromRest holds moment left_since images (λ d c. IsWhole (others d) d c) old new
  whole_as wants others old new same leaves = both_ways (holds old) same leaves
    where
      moved : (d c : Directory) → ((q : List ℕ) → wants q ≡ others d q) → IsWhole wants d c → IsWhole (others d) d c
      moved d c same is = ⊎_elim (λ has. inl has) (λ rest. ⊎_elim (λ as_before. inr (inl as_before))
          (λ put. inr (inr (λ q off. subst (λ w. Meets w (file_at d q) (file_at c q)) (same q) (put q off)))) rest) is

      both_ways : (o : Option Directory) → IfSome o (λ d. (q : List ℕ) → wants q ≡ others d q)
          → IfSome o (λ d. Only d (images old) → Leaves moment left_since images (IsWhole wants d) old new)
          → IfSome o (λ d. Only d (images old) → Leaves moment left_since images (IsWhole (others d) d) old new)
      both_ways None same leaves = tt
      both_ways (Some d) same leaves = λ only. weaker moment left_since images (IsWhole wants d) (IsWhole (others d) d) old new
          (λ c is. moved d c same is) (leaves only)
