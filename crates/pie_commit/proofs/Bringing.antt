-- What calls bring about, one after another.
use Rattle.std.proofs.Common.{◌≡◌, ℕ, Bool, true, false, cond, List, [], ◌∷◌, refl, sym, ap, ◌∙◌, subst, Vec, Global}
use Rattle.std.specs.Prelude.{Option, None, Some, Result, Ok, Err, IfSome, OnOk}
use Rattle.std.specs.Cmp.Lexicographic.{nat_list_cmp_total, texts_ties}
use Rattle.std.specs.FinMap as fin
use Rattle.pie_base.specs.Path.{same_text}
use Rattle.pie_files.specs.Directory.{Directory, file_at, with_file, without_file}
use Rattle.pie_files.specs.declared.files.FilesError.{FilesError}
use Rattle.pie_commit.specs.declared.plan.Plan.{Plan}
use Rattle.pie_commit.specs.inner.Plans.{Wanted, Same, Gone, Bytes, Meets, later, at, removed, written, Brings, changes, wanted_by}
use Rattle.pie_commit.specs.Outcomes.{HasBrought}

pub get_with : (d : Directory) (path bytes : List ℕ) (mark : ℕ) (q : List ℕ)
    → file_at (with_file d path bytes mark) q ≡ cond (same_text q path) (Some (bytes, mark)) (file_at d q)
get_with d path bytes mark q =
    fin.get-insert nat_list_cmp_total d path (bytes, mark) q
    ∙ ap (λ b. cond b (Some (bytes, mark)) (file_at d q)) (sym (texts_ties q path))

pub get_without : (d : Directory) (path q : List ℕ) → file_at (without_file d path) q ≡ cond (same_text q path) None (file_at d q)
get_without d path q =
    fin.get-remove nat_list_cmp_total d path q ∙ ap (λ b. cond b None (file_at d q)) (sym (texts_ties q path))

-- a file written
pub brings_write : (d : Directory) (path bytes : List ℕ) (mark : ℕ) → Brings (at path (Bytes bytes)) d (with_file d path bytes mark)
brings_write d path bytes mark q = meets_write (same_text q path) (file_at d q) (file_at (with_file d path bytes mark) q) (get_with d path bytes mark q)
  where
    meets_write : (b : Bool) (before after : Option (List ℕ × ℕ)) → after ≡ cond b (Some (bytes, mark)) before
        → Meets (cond b (Bytes bytes) Same) before after
    meets_write true before after e = (mark, e)
    meets_write false before after e = e

-- a file removed
pub brings_removal : (d : Directory) (path : List ℕ) → Brings (at path Gone) d (without_file d path)
brings_removal d path q = meets_removal (same_text q path) (file_at d q) (file_at (without_file d path) q) (get_without d path q)
  where
    meets_removal : (b : Bool) (before after : Option (List ℕ × ℕ)) → after ≡ cond b None before → Meets (cond b Gone Same) before after
    meets_removal true before after e = e
    meets_removal false before after e = e

-- one thing wanted after another
meets_both : (first second : Wanted) (a b c : Option (List ℕ × ℕ)) → Meets first a b → Meets second b c → Meets (later second first) a c
meets_both first Same a b c h k = subst (Meets first a) (sym k) h
meets_both first Gone a b c h k = k
meets_both first (Bytes bytes) a b c h k = k

pub brings_both : (first second : List ℕ → Wanted) (a b c : Directory) → Brings first a b → Brings second b c → Brings (λ q. later (second q) (first q)) a c
brings_both first second a b c h k q = meets_both (first q) (second q) (file_at a q) (file_at b q) (file_at c q) (h q) (k q)

-- nothing is brought about
pub brought_none : (wants : List ℕ → Wanted) → ((q : List ℕ) → wants q ≡ Same) → (before : Option Directory) → HasBrought wants before before
brought_none wants none None = tt
brought_none wants none (Some d) = (d, refl, λ q. subst (λ w. Meets w (file_at d q) (file_at d q)) (sym (none q)) refl)

pub brought_both : (first second : List ℕ → Wanted) (a b c : Option Directory) → HasBrought first a b → HasBrought second b c
    → HasBrought (λ q. later (second q) (first q)) a c
brought_both first second None b c h k = tt
brought_both first second (Some d) b c h k =
    let next : HasBrought second (Some h.0) c = subst (λ o. HasBrought second o c) h.1 k in
    (next.0, next.1, brings_both first second d h.0 next.0 h.2 next.2)

-- the same where what is wanted is told otherwise
pub brought_as : (wants others : List ℕ → Wanted) (a b : Option Directory) → ((q : List ℕ) → wants q ≡ others q) → HasBrought wants a b
    → HasBrought others a b
brought_as wants others None b same h = tt
brought_as wants others (Some d) b same h = (h.0, h.1, λ q. subst (λ w. Meets w (file_at d q) (file_at h.0 q)) (same q) (h.2 q))

-- the files stay what they were
pub brought_still : (wants : List ℕ → Wanted) (a b c : Option Directory) → c ≡ b → HasBrought wants a b → HasBrought wants a c
brought_still wants a b c same h = subst (HasBrought wants a) (sym same) h

-- a removal that succeeded
pub removal_brought : (before after : Option Directory) (path : List ℕ) → IfSome before (λ d. after ≡ Some (without_file d path))
    → HasBrought (at path Gone) before after
removal_brought None after path h = tt
removal_brought (Some d) after path h = (without_file d path, h, brings_removal d path)

-- a write that succeeded
pub write_brought : (before after : Option Directory) (path bytes : List ℕ) → (mark : ℕ) → IfSome before (λ d. after ≡ Some (with_file d path bytes mark))
    → HasBrought (at path (Bytes bytes)) before after
write_brought None after path bytes mark h = tt
write_brought (Some d) after path bytes mark h = (with_file d path bytes mark, h, brings_write d path bytes mark)

-- what holds in any case holds where a call succeeded
pub in_any_case : {T A : Type 0} (result : Result T FilesError) → A → OnOk result A
in_any_case (Ok value) a = a
in_any_case (Err e) a = tt

pub removal_done : (before after : Option Directory) (path : List ℕ) (result : Result (Unit {0}) FilesError)
    → IfSome before (λ d. OnOk result (after ≡ Some (without_file d path))) → OnOk result (HasBrought (at path Gone) before after)
removal_done before after path (Ok u) h = removal_brought before after path h
removal_done before after path (Err e) h = tt

pub write_done : (A : ℕ → Type 0) (before after : Option Directory) (path bytes : List ℕ) (result : Result (Unit {0}) FilesError)
    → OnOk result ((mark : ℕ) × IfSome before (λ d. after ≡ Some (with_file d path bytes mark)) × A mark)
    → OnOk result (HasBrought (at path (Bytes bytes)) before after)
write_done A before after path bytes (Ok u) h = write_brought before after path bytes h.0 h.1
write_done A before after path bytes (Err e) h = tt

-- so much is brought about without a fault, and the rest is to be
pub record Going {S : Type 0} (holds : S → Option Directory) (faults : S → ℕ) (old new : S) (wants rest : List ℕ → Wanted) : Type 0 where
  pub steady : faults new ≡ faults old
  pub on : (after : Option Directory) → HasBrought rest (holds new) after → HasBrought wants (holds old) after

-- ---- later and later

pub later-same : (w : Wanted) → later w Same ≡ w
later-same Same = refl
later-same Gone = refl
later-same (Bytes bytes) = refl

later_assoc : (a b c : Wanted) → later (later a b) c ≡ later a (later b c)
later_assoc Same b c = refl
later_assoc Gone b c = refl
later_assoc (Bytes bytes) b c = refl

-- a marker that was set before all and goes after all
marker_gone : (b : Bool) (changed : Wanted) → later (cond b Gone Same) (later changed (cond b (Bytes []) Same)) ≡ later (cond b Gone Same) changed
marker_gone true changed = refl
marker_gone false changed = later-same changed

pub marked_then : (p : Plan) (q : List ℕ) → later (at p.marker Gone q) (later (changes p q) (at p.marker (Bytes []) q)) ≡ wanted_by p q
marked_then p q = marker_gone (same_text q p.marker) (changes p q)

-- one removal more
pub removed_more : {S : Type 0} (holds : S → Option Directory) (faults : S → ℕ) (old mid new : S) (path : List ℕ) (left rest all : List (List ℕ))
    → left ≡ path ∷ rest → faults new ≡ faults mid → HasBrought (at path Gone) (holds mid) (holds new)
    → Going holds faults old mid (removed all) (removed left) → Going holds faults old new (removed all) (removed rest)
removed_more holds faults old mid new path left rest all next steady done so_far = record {
  steady = steady ∙ so_far.steady;
  on = λ after h. so_far.on after (subst (λ (l : List (List ℕ)). HasBrought (removed l) (holds mid) after) (sym next)
      (brought_both (at path Gone) (removed rest) (holds mid) (holds new) after done h));
}

-- one write more
pub written_more : {S : Type 0} (holds : S → Option Directory) (faults : S → ℕ) (old mid new : S) (write : List ℕ × Vec ℕ Global)
    (left rest all : List (List ℕ × Vec ℕ Global))
    → left ≡ write ∷ rest → faults new ≡ faults mid → HasBrought (at write.0 (Bytes write.1.items)) (holds mid) (holds new)
    → Going holds faults old mid (written all) (written left) → Going holds faults old new (written all) (written rest)
written_more holds faults old mid new write left rest all next steady done so_far = record {
  steady = steady ∙ so_far.steady;
  on = λ after h. so_far.on after (subst (λ (l : List (List ℕ × Vec ℕ Global)). HasBrought (written l) (holds mid) after) (sym next)
      (brought_both (at write.0 (Bytes write.1.items)) (written rest) (holds mid) (holds new) after done h));
}

pub removed_none : (left : List (List ℕ)) → left ≡ [] → (q : List ℕ) → removed left q ≡ Same
removed_none left none q = ap (λ (l : List (List ℕ)). removed l q) none

pub written_none : (left : List (List ℕ × Vec ℕ Global)) → left ≡ [] → (q : List ℕ) → written left q ≡ Same
written_none left none q = ap (λ (l : List (List ℕ × Vec ℕ Global)). written l q) none

pub on_ok : {T A B : Type 0} (result : Result T FilesError) → (A → B) → OnOk result A → OnOk result B
on_ok (Ok value) f h = f h
on_ok (Err e) f h = tt

pub at_same : (path q : List ℕ) → at path Same q ≡ Same
at_same path q = same_or_same (same_text q path)
  where
    same_or_same : (b : Bool) → cond b Same Same ≡ Same
    same_or_same true = refl
    same_or_same false = refl
