-- The calls that change the cache, in their order.
use Rattle.std.specs.Prelude.{◌≡◌, ◌≢◌, ℕ, Bool, true, false, cond, List, [], ◌∷◌, ◌++◌, Option, Some, IfSome, All, Vec, codes, is_some}
use Rattle.std.specs.Global.{Global}
use Rattle.std.specs.List.{filter, AllPairs}
use Rattle.pie_commit.specs.inner.Plans.{written}
use Rattle.pie_commit.specs.inner.Steps.{Step, Writes, Removes, Syncs, AreCallsOf, removing, writing}
use Rattle.pie_files.specs.declared.files.Call.{Call}
use Rattle.pie_files.specs.declared.files.Call.TheVariants as calls
use Rattle.pie_files.specs.Directory.{Directory, file_at, files_under}
use Rattle.pie_store.specs.declared.offers.Offer.{Offer}
use Rattle.pie_cache.specs.inner.Clearing.{is_other}
use Rattle.pie_cache.specs.inner.Contents.{IsDraft}
use Rattle.pie_cache.specs.inner.Keeping.{kept, last_for}
use Rattle.pie_cache.specs.inner.Places.{gate}

-- the gate is taken away, and that is made to last
abbrev pub closing : List Step
closing = Removes gate ∷ Syncs ∷ []

-- files are written while the gate stands
abbrev pub putting : List (List ℕ × Vec ℕ Global) → List Step
putting drafts = Writes gate ∷ Syncs ∷ (writing drafts ++ (Syncs ∷ closing))

-- files are removed, and the gate after them
abbrev pub clearing : List (List ℕ) → List Step
clearing paths = removing paths ++ (Syncs ∷ closing)

-- a call that isn't a look
abbrev pub is_change : Call → Bool
is_change (calls.Read path) = false
is_change (calls.Names dir) = false
is_change (calls.AllUnder dir) = false
is_change (calls.Write path mark) = true
is_change (calls.Remove path) = true
is_change calls.Sync = true

-- where the list of calls is observable, the calls that it gained are those of these steps, in order, and looks
abbrev pub Changes : List Step → Option (List Call) → Option (List Call) → Type 0
Changes steps before after = IfSome before (λ asked. (made : List Call) × (after ≡ Some (asked ++ made)) × AreCallsOf steps (filter is_change made))

-- a gated cache is cleared, and another is left alone
abbrev pub opening : Directory → List Step
opening d = cond (is_some (file_at d gate)) (clearing (filter is_other (files_under d (codes ".pie/cache")))) []

-- no two of these files are at one path
abbrev pub HaveOwnPaths : List (List ℕ × Vec ℕ Global) → Type 0
HaveOwnPaths drafts = AllPairs (λ (a b : List ℕ × Vec ℕ Global). a.0 ≢ b.0) drafts

-- files that may be written: each is at the path of a cache file, and no two are at one path
pub record AreDrafts (drafts : List (List ℕ × Vec ℕ Global)) : Type 0 where
  pub each : All IsDraft drafts
  pub own : HaveOwnPaths drafts

-- in each file for which there are offers the last one is put, and only there, each once
abbrev pub ChangesFor : List (List ℕ × Offer) → Directory → Option (List Call) → Option (List Call) → Type 0
ChangesFor fresh d before after = (drafts : List (List ℕ × Vec ℕ Global)) × HaveOwnPaths drafts
    × ((q : List ℕ) → written drafts q ≡ kept (last_for fresh q) (file_at d q)) × Changes (putting drafts) before after
