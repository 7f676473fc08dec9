-- What a build with the record cache leaves in the cache.
use Rattle.std.specs.Prelude.{◌≡◌, ℕ, true, cond, List, [], ◌∷◌, Option, None, Some, IfSome, is_some}
use Rattle.pie_base.specs.Path.{same_text}
use Rattle.pie_cache.specs.inner.Keeping.{kept, or_else}
use Rattle.pie_cache.specs.inner.Places.{cache_path, gate}
use Rattle.pie_commit.specs.inner.Plans.{Meets}
use Rattle.pie_files.specs.Directory.{Directory, file_at}
use Rattle.pie_incremental.specs.Own.{IsClosed}
use Rattle.pie_report.specs.declared.report.Report.{Report}
use Rattle.pie_store.specs.declared.offers.Offer.{Offer}
use Rattle.pie_store.specs.inner.Offers.{Offered}
use Rattle.pie_topdown_build.specs.declared.offered.NewOffer.{NewOffer}
use Rattle.pie_topdown_build.specs.inner.News.{AreNews, Told}
use Rattle.pie_value.specs.declared.verdict.Verdict.{Verdict}
use Rattle.pie_value.specs.declared.verdict.Verdict.TheVariants.{Accepted, Refused}
use Rattle.pie_cached.specs.Cached.{is_cached}

-- the last of these offers whose task's cache file is at a path
abbrev pub last_told : List Told → List ℕ → Option Offered
last_told [] path = None
last_told (t ∷ told) path = or_else (last_told told path) (cond (same_text path (cache_path t.1.0.task t.0)) (Some t.1) None)

-- each file of the cache is what becomes of the one that there was by the last new offer for it, or as it was where there is none
abbrev pub KeepsIn : (List ℕ → Option (List ℕ × ℕ)) → List Told → Directory → Type 0
KeepsIn was told left = (path : List ℕ) → is_cached path ≡ true → Meets (kept (last_told told path) (was path)) (was path) (file_at left path)

-- where a directory is told in which no gate stands, it is told still, and its cache has kept these offers
abbrev pub KeepsTold : List Told → Option Directory → Option Directory → Type 0
KeepsTold told before after = IfSome before (λ d. file_at d gate ≡ None → (left : Directory) × (after ≡ Some left) × KeepsIn (file_at d) told left)

-- what is kept of new offers: all of an accepted build, and none of a refused one
abbrev pub kept_of : Verdict → List Told → List Told
kept_of Accepted told = told
kept_of (Refused x) told = []

-- a build of a directory with this report tells new offers, and the cache has kept them by the files that there were
pub record LeavesNews (d : Directory) (was : List ℕ → Option (List ℕ × ℕ)) (r : Report) (after : Option Directory) : Type 0 where
  pub told : List Told
  pub news : AreNews IsClosed (Some d) after r.verdict r.ran.items told
  pub left : Directory
  pub is : after ≡ Some left
  pub keeps : KeepsIn was (kept_of r.verdict told) left

-- the file at a path of the cache after it was opened: none where the gate stood, and else what was there
abbrev pub opened_at : Directory → List ℕ → Option (List ℕ × ℕ)
opened_at d path = cond (is_some (file_at d gate)) None (file_at d path)

-- what a build with the record cache leaves in it
abbrev pub LeavesCache : Directory → Report → Option Directory → Type 0
LeavesCache d r after = LeavesNews d (opened_at d) r after

-- ---- what the parts say to each other

-- a new offer with the path of its file
abbrev pub placed : NewOffer → List ℕ × Offer
placed n = (cache_path n.offer.row.task n.digest, n.offer)
