-- Calls that are noted: looks, and those of steps.
use Rattle.std.proofs.Common.{◌≡◌, ℕ, Bool, true, false, cond, List, [], ◌∷◌, ◌++◌, Option, Some, None, ap, sym, subst, refl, ◌∙◌}
use Rattle.std.specs.Prelude.{IfSome, OnOk, Result, Ok, Err, Vec, codes, is_some}
use Rattle.std.specs.Global.{Global}
use Rattle.std.specs.List.{filter}
use Rattle.std.proofs.lemmas.List.{append_assoc, append-nil}
use Rattle.pie_commit.specs.inner.Steps.{Step, Writes, Removes, Syncs, IsCallOf, AreCallsOf, Makes}
use Rattle.pie_files.specs.declared.files.Call.{Call}
use Rattle.pie_files.specs.declared.files.Call.TheVariants as calls
use Rattle.pie_files.specs.declared.files.FilesError.{FilesError}
use Rattle.pie_files.specs.Calls.{Called, Notes}
use Rattle.pie_files.specs.Directory.{Directory, file_at, files_under}
use Rattle.pie_store.specs.declared.offers.Offer.{Offer}
use Rattle.pie_commit.specs.inner.Plans.{written}
use Rattle.pie_cache.specs.inner.Clearing.{is_other}
use Rattle.pie_cache.specs.inner.Keeping.{kept, last_for}
use Rattle.pie_cache.specs.inner.Places.{gate}
use Rattle.pie_cache.specs.inner.Steps.{is_change, clearing, opening, putting, Changes, ChangesFor, HaveOwnPaths}

joined : (a b : List Step) (m n : List Call) → AreCallsOf a m → AreCallsOf b n → AreCallsOf (a ++ b) (m ++ n)
joined [] b [] n first second = second
joined [] b (c ∷ m) n first second = absurd first
joined (s ∷ a) b [] n first second = absurd first
joined (s ∷ a) b (c ∷ m) n first second = (first.0, joined a b m n first.1 second)

filter_both : (xs ys : List Call) → filter is_change (xs ++ ys) ≡ filter is_change xs ++ filter is_change ys
filter_both [] ys = refl
filter_both (x ∷ xs) ys = by (is_change x) (filter_both xs ys)
  where
    by : (b : Bool) → filter is_change (xs ++ ys) ≡ filter is_change xs ++ filter is_change ys
        → cond b (x ∷ filter is_change (xs ++ ys)) (filter is_change (xs ++ ys)) ≡ cond b (x ∷ filter is_change xs) (filter is_change xs) ++ filter is_change ys
    by true rest = ap (λ (l : List Call). x ∷ l) rest
    by false rest = rest

is_a_change : (s : Step) (c : Call) → IsCallOf s c → is_change c ≡ true
is_a_change (Writes p) c is = ap is_change is.1
is_a_change (Removes p) c is = ap is_change is
is_a_change Syncs c is = ap is_change is

-- calls of steps are no looks
all_change : (steps : List Step) (made : List Call) → AreCallsOf steps made → filter is_change made ≡ made
all_change [] [] h = refl
all_change [] (c ∷ made) h = absurd h
all_change (s ∷ steps) [] h = absurd h
all_change (s ∷ steps) (c ∷ made) h =
    ap (λ (b : Bool). cond b (c ∷ filter is_change made) (filter is_change made)) (is_a_change s c h.0)
    ∙ ap (λ (l : List Call). c ∷ l) (all_change steps made h.1)

pub changes_none : (before after : Option (List Call)) → after ≡ before → Changes [] before after
changes_none None after is = tt
changes_none (Some asked) after is = ([], is ∙ ap Some (sym (append-nil asked)), tt)

-- one after another
pub changes_both : (a b : List Step) (before mid after : Option (List Call)) → Changes a before mid → Changes b mid after → Changes (a ++ b) before after
changes_both a b None mid after first second = tt
changes_both a b (Some asked) mid after first second =
    let next : Changes b (Some (asked ++ first.0)) after = subst (λ o. Changes b o after) first.1 second in (
      first.0 ++ next.0,
      next.1 ∙ ap Some (append_assoc asked first.0 next.0),
      subst (AreCallsOf (a ++ b)) (sym (filter_both first.0 next.0)) (joined a b (filter is_change first.0) (filter is_change next.0) first.2 next.2),
    )

-- looks, and then more
pub looks_then : (steps : List Step) (before mid after : Option (List Call)) → Changes [] before mid → Changes steps mid after → Changes steps before after
looks_then steps before mid after first second = changes_both [] steps before mid after first second

module _ {S : Type 0} (asked : S → Option (List Call)) (old new : S) where
  -- steps that were all made
  pub changes_made : (steps : List Step) (v : Unit {0}) → Makes asked steps old new (Ok v) → Changes steps (asked old) (asked new)
  changes_made steps v makes = by (asked old) makes
    where
      by : (o : Option (List Call)) → IfSome o (λ before. (made : List Call) × (asked new ≡ Some (before ++ made)) × AreCallsOf steps made)
          → Changes steps o (asked new)
      by None h = tt
      by (Some before) h = (h.0, h.1, subst (AreCallsOf steps) (sym (all_change steps h.0 h.2)) h.2)

  looked : {T : Type 0} (value : T) (faults : S → ℕ) (call : Call) → is_change call ≡ false
      → Called asked faults (λ c. c ≡ call) old new (Ok value) → Changes [] (asked old) (asked new)
  looked value faults call still called = by (asked old) called.noted
    where
      by : (o : Option (List Call)) → Notes (λ c. c ≡ call) o (asked new) → Changes [] o (asked new)
      by None h = tt
      by (Some before) h =
          (h.0 ∷ [], h.2, subst (AreCallsOf []) (sym (ap (λ (b : Bool). cond b (h.0 ∷ []) []) (ap is_change h.1 ∙ still))) tt)

  -- a look at a file
  pub looks_read : {T : Type 0} (value : T) (faults : S → ℕ) (path : List ℕ) → Called asked faults (λ c. c ≡ calls.Read path) old new (Ok value)
      → Changes [] (asked old) (asked new)
  looks_read value faults path called = looked value faults (calls.Read path) refl called

  -- a listing
  pub looks_all : {T : Type 0} (value : T) (faults : S → ℕ) (dir : List ℕ) → Called asked faults (λ c. c ≡ calls.AllUnder dir) old new (Ok value)
      → Changes [] (asked old) (asked new)
  looks_all value faults dir called = looked value faults (calls.AllUnder dir) refl called

-- what steps that were made changed, where all were
pub changes_by : {S : Type 0} (asked : S → Option (List Call)) (r : Result (Unit {0}) FilesError) (steps : List Step) (old new : S)
    → Makes asked steps old new r → OnOk r (Changes steps (asked old) (asked new))
changes_by asked (Ok v) steps old new makes = changes_made asked old new steps v makes
changes_by asked (Err e) steps old new makes = tt

pub changes_for : (fresh : List (List ℕ × Offer)) (drafts : List (List ℕ × Vec ℕ Global)) (holds : Option Directory) (before after : Option (List Call))
    → IfSome holds (λ d. (q : List ℕ) → written drafts q ≡ kept (last_for fresh q) (file_at d q)) → HaveOwnPaths drafts
    → Changes (putting drafts) before after → IfSome holds (λ d. ChangesFor fresh d before after)
changes_for fresh drafts None before after made own changes = tt
changes_for fresh drafts (Some d) before after made own changes = (drafts, own, made, changes)

-- a gate that stands or not, and what was changed by that
pub opens_gated : (holds : Option Directory) (before mid after : Option (List Call)) (there : Bool) → there ≡ true
    → IfSome holds (λ d. there ≡ is_some (file_at d gate)) → Changes [] before mid
    → IfSome holds (λ d. Changes (clearing (filter is_other (files_under d (codes ".pie/cache")))) mid after) → IfSome holds (λ d. Changes (opening d) before after)
opens_gated None before mid after there on found looks changes = tt
opens_gated (Some d) before mid after there on found looks changes =
    let steps = clearing (filter is_other (files_under d (codes ".pie/cache"))) in
    subst (λ (b : Bool). Changes (cond b steps []) before after) (sym on ∙ found) (looks_then steps before mid after looks changes)

pub opens_shut : (holds : Option Directory) (before after : Option (List Call)) (there : Bool) → there ≡ false
    → IfSome holds (λ d. there ≡ is_some (file_at d gate)) → Changes [] before after → IfSome holds (λ d. Changes (opening d) before after)
opens_shut None before after there off found looks = tt
opens_shut (Some d) before after there off found looks =
    subst (λ (b : Bool). Changes (cond b (clearing (filter is_other (files_under d (codes ".pie/cache")))) []) before after) (sym off ∙ found) looks

pub clears : (holds : Option Directory) (before after : Option (List Call)) (paths : List (List ℕ))
    → IfSome holds (λ d. paths ≡ filter is_other (files_under d (codes ".pie/cache"))) → Changes (clearing paths) before after
    → IfSome holds (λ d. Changes (clearing (filter is_other (files_under d (codes ".pie/cache")))) before after)
clears None before after paths listed changes = tt
clears (Some d) before after paths listed changes = subst (λ (l : List (List ℕ)). Changes (clearing l) before after) listed changes
