-- A build by what was found, and the manifest after it.
use Rattle.std.proofs.Common.{◌≡◌, ℕ, Bool, true, false, List, refl, sym, ap, subst, ◌∙◌}
use Rattle.std.specs.Prelude.{◌≤◌, ◌+◌, ◌++◌, ◌||◌, ◌&&◌, length, not, All, Option, None, Some, IfSome, Result, Ok, Err, IfOk, OnOk, Vec}
use Rattle.std.specs.declared.alloc.Global.{Global}
use Rattle.std.proofs.lemmas.Bool.{false≢true}
use Rattle.pie_base.specs.Path.{is_kept, is_out, is_source, same_text}
use Rattle.pie_build.specs.Left.{may_change, KeepsRest}
use Rattle.pie_files.specs.Directory.{Directory, file_at}
use Rattle.pie_incremental.proofs.OwnPaths.{or_left, or_right}
use Rattle.pie_incremental.specs.Kept.{is_builders}
use Rattle.pie_incremental.specs.Own.{open_path, pending_path, store_path}
use Rattle.pie_listing.specs.Held.{manifest_path}
use Rattle.pie_listing.specs.declared.listing.Scan.{Scan}
use Rattle.pie_listing.specs.inner.Steps.{HasSeen}
use Rattle.pie_listing.proofs.Joining.{still_sources}
use Rattle.pie_scan.specs.Scanned.{AreScanned}
use Rattle.pie_scan.specs.declared.entry.Entry.{Entry}
use Rattle.pie_report.specs.declared.report.Report.{Report}
use Rattle.pie_value.specs.Canonical.{IsEncodableTask}
use Rattle.pie_value.specs.declared.task.Task.{Task}
use Rattle.pie_value.specs.declared.verdict.Verdict.TheVariants.{Accepted}
use Rattle.pie_auto.specs.declared.automatic.Automatic.{Automatic}
use Rattle.pie_auto.specs.Found.{BuildsBy, Follows, KeepsOutside, may_find}
use Rattle.pie_auto.specs.inner.Parts.{IsFollowed, TellsRuns}
use Rattle.pie_auto.specs.Kept.{KeepsAllButManifest, Wrote}
use Rattle.pie_auto.specs.inner.Drafts.{AreSeen, AreSeenIn}
use Rattle.pie_auto.proofs.Keeping.{apart}

none_of_four : (a b c d : Bool) → a ≡ false → b ≡ false → c ≡ false → d ≡ false → (a || (b || c || d)) ≡ false
none_of_four a b c d p q r s =
    ap (λ x. x || (b || c || d)) p ∙ ap (λ x. false || (x || c || d)) q ∙ ap (λ x. false || (false || x || d)) r ∙ ap (λ x. false || (false || false || x)) s

-- a path that no such build may change is neither the manifest nor one of the builder's own
no_own : (q : List ℕ) → may_find q ≡ false → (same_text q manifest_path || is_builders q) ≡ false
no_own q off =
    let o = same_text q open_path in
    let s = same_text q store_path in
    let n = same_text q pending_path in
    let m = same_text q manifest_path in
    let rest = or_left (may_change q) m off in
    let three = or_left (is_out q || o || s) n rest in
    let two = or_left (is_out q || o) s three in
    none_of_four m o s n (or_right (may_change q) m off) (or_right (is_out q) o two) (or_right (is_out q || o) s three) (or_right (is_out q || o || s) n rest)

abbrev Outside : Directory → Option Directory → Type 0
Outside d after = (e : Directory) × (after ≡ Some e) × ((q : List ℕ) → may_find q ≡ false → file_at e q ≡ file_at d q)

-- a build that keeps all but its own paths
pub of_build : (before after : Option Directory) → KeepsRest before after → KeepsOutside before after
of_build None after h = record { kept = tt }
of_build (Some d) after h = record { kept = (h.kept.0, h.kept.1, λ q off. h.kept.2 q (or_left (may_change q) (same_text q manifest_path) off)) }

-- and the manifest behind it
of_manifest : (before after : Option Directory) → KeepsAllButManifest before after → IfSome before (λ d. Outside d after)
of_manifest None after h = tt
of_manifest (Some d) after h = (h.0, h.1, λ q off. h.2 q (no_own q off))

pub of_both : (before mid after : Option Directory) → KeepsRest before mid → KeepsAllButManifest mid after → KeepsOutside before after
of_both None mid after first second = record { kept = tt }
of_both (Some d) mid after first second =
    let then : Outside first.kept.0 after = subst (λ m. IfSome m (λ e. Outside e after)) first.kept.1 (of_manifest mid after second) in
    record { kept = (then.0, then.1, λ q off. then.2 q off ∙ first.kept.2 q (or_left (may_change q) (same_text q manifest_path) off)) }

-- where nothing was changed before
pub outside_then : (before mid after : Option Directory) → mid ≡ before → KeepsOutside mid after → KeepsOutside before after
outside_then before mid after same h = subst (λ m. KeepsOutside m after) same h

pub outside_same : (before after : Option Directory) → after ≡ before → KeepsOutside before after
outside_same None after is = record { kept = tt }
outside_same (Some d) after is = record { kept = (d, is, λ q off. refl) }

-- what the search takes for the paths that stay
pub ruleset outside = (of_build, of_both, outside_then, outside_same)

-- ---- what follows a build

-- the manifest was kept, or there was no store
pub kept_follows : (before after : Option Directory) (tops : List (List ℕ)) (seen : Option (Vec Entry Global)) (wrote : Bool)
    → IfSome before (λ d. AreSeen d tops seen → Wrote wrote tops d after) → AreSeenIn before tops seen → Follows Accepted tops before after
kept_follows None after tops seen wrote h right = tt
kept_follows (Some d) after tops seen wrote h right = (wrote, h right)

-- ---- what was seen before the build

not_first : (a b : Bool) → (not a && b) ≡ true → a ≡ false
not_first true b e = absurd (false≢true e)
not_first false b e = refl

none_in_row : (a b c d : Bool) → a ≡ false → b ≡ false → c ≡ false → d ≡ false → (a || b || c || d) ≡ false
none_in_row a b c d p q r s =
    ap (λ x. x || b || c || d) p ∙ ap (λ x. false || x || c || d) q ∙ ap (λ x. false || false || x || d) r ∙ ap (λ x. false || false || false || x) s

-- a build changes no source
source_stays : (q : List ℕ) → is_source q ≡ true → may_change q ≡ false
source_stays q on =
    none_in_row (is_out q) (same_text q open_path) (same_text q store_path) (same_text q pending_path) (not_first (is_out q) (not (is_kept q)) on)
    (apart is_source q open_path on refl) (apart is_source q store_path on refl) (apart is_source q pending_path on refl)

-- what a scan saw of sources is right still after it
pub seen_still : (d : Directory) (mid : Option Directory) (tops : List (List ℕ)) (s : Scan) → HasSeen d tops s → KeepsRest (Some d) mid
    → AreSeenIn mid tops s.entries
seen_still d mid tops s seen keeps =
    subst (λ m. AreSeenIn m tops s.entries) (sym keeps.kept.1) (by s.entries seen)
  where
    by : (entries : Option (Vec Entry Global)) → IfSome entries (λ es. AreScanned d tops es.items) → AreSeen keeps.kept.0 tops entries
    by None h = tt
    by (Some es) h = still_sources d keeps.kept.0 tops es.items (λ q on. keeps.kept.2 q (source_stays q on)) h

-- what follows the build, by what was seen before it
module _ {E : Type 0} (mid after : Option Directory) (tops : List (List ℕ)) (s : Scan) (report : Report) where
  followed_by : (d : Directory) (result : Result Automatic E) → BuildsBy s.listing d report mid → KeepsRest (Some d) mid
      → (AreSeenIn mid tops s.entries → OnOk result (Follows report.verdict tops mid after)) → IfOk result (λ f. f.listing ≡ s.listing)
      → IfOk result (λ f. f.report ≡ report) → HasSeen d tops s → IfOk result (λ f. IsFollowed tops d f.listing f.report after)
  followed_by d (Ok f) built keeps follows listing told seen =
      subst (λ l. IsFollowed tops d l f.report after) (sym listing)
      (subst (λ r. IsFollowed tops d s.listing r after) (sym told) (mid, built, follows (seen_still d mid tops s seen keeps)))
  followed_by d (Err e) built keeps follows listing told seen = tt

  pub followed_if : (o : Option Directory) (result : Result Automatic E) → IfSome o (λ d. BuildsBy s.listing d report mid) → KeepsRest o mid
      → (AreSeenIn mid tops s.entries → OnOk result (Follows report.verdict tops mid after)) → IfOk result (λ f. f.listing ≡ s.listing)
      → IfOk result (λ f. f.report ≡ report) → IfSome o (λ d. HasSeen d tops s → IfOk result (λ f. IsFollowed tops d f.listing f.report after))
  followed_if None result built keeps follows listing told = tt
  followed_if (Some d) result built keeps follows listing told = followed_by d result built keeps follows listing told

-- ---- the tasks that were started

-- the answer has the report of the build
pub tells_report : {E : Type 0} (old new : List Task) (report : Report) (result : Result Automatic E) → new ≡ old ++ report.ran.items
    → length new ≤ length old + 100000 → All IsEncodableTask report.ran.items → IfOk result (λ f. f.report ≡ report) → TellsRuns old new result (λ f. f.report)
tells_report old new report (Ok f) ran few encodable told = record {
  ran = subst (λ (r : Report). new ≡ old ++ r.ran.items) (sym told) ran;
  few = few;
  encodable = subst (λ (r : Report). All IsEncodableTask r.ran.items) (sym told) encodable;
}
tells_report old new report (Err e) ran few encodable told = record { ran = tt; few = few; encodable = tt }
