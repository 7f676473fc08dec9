use Rattle.std.proofs.Common.{◌≡◌, ◌∷◌, ◌∙◌, [], ℕ, List, ap, subst}
use Rattle.std.specs.Prelude.{IfSome, Ok, codes}
use Rattle.std.specs.List.{filter}
use Rattle.pie_commit.specs.Outcomes.{HasBrought, IsAtRest}
use Rattle.pie_commit.specs.inner.Plans.{Gone, at, later, removed}
use Rattle.pie_commit.proofs.Bringing.{brought_both, brought_still, on_ok}
use Rattle.pie_files.proofs.Reading.{if_each}
use Rattle.pie_files.specs.Directory.{files_under}
use Rattle.pie_cache.specs.inner.Clearing.{is_other}
use Rattle.pie_cache.specs.inner.Places.{gate}
use Rattle.pie_cache.proofs.Changing.{keeps_same, keeps_both, outside_both, outside_look}
use Rattle.pie_cache.proofs.Clearing.{cleared}
use Rattle.pie_commit.specs.inner.Steps.{Makes, Syncs, removing}
use Rattle.pie_cache.specs.inner.Steps.{clearing, closing}
use Rattle.pie_cache.proofs.Looking.{changes_both, changes_by, changes_made, clears, looks_all, looks_then}
use Rattle.pie_commit.proofs.Standing.{Told, rests}
use Rattle.pie_cache.proofs.Emptying.{opens_ended, opens_gated, opens_looked}
use Rattle.pie_cache.proofs.Gating.{both_gated, sync_gated, told_of}
use Rattle.pie_cache.proofs.Resting.{rests_from}
use Rattle.pie_cache.proofs.opening.clear.Goals as goal

pub returns-in_err-paths-clause-outside : goal.returns-in_err-paths-clause-outside
returns-in_err-paths-clause-outside g c =
    outside_look g.F.Files.holds g.F.Files.moment g.F.Files.left_since g.F.Files.images c.args.files.now c.all_under.new.self c.all_under.ensures.same
    c.all_under.ensures.crash

pub returns-in_err-others-clause-outside : goal.returns-in_err-others-clause-outside
returns-in_err-others-clause-outside g c =
    outside_look g.F.Files.holds g.F.Files.moment g.F.Files.left_since g.F.Files.images c.args.files.now c.all_under.new.self c.all_under.ensures.same
    c.all_under.ensures.crash

pub returns-in_err-remove_all-clause-outside : goal.returns-in_err-remove_all-clause-outside
returns-in_err-remove_all-clause-outside g c =
    let F = g.F.Files in
    let before = c.args.files.now in
    let listed = c.all_under.new.self in
    outside_both F.holds F.moment F.left_since F.images before listed c.remove_all.new.files
    (outside_look F.holds F.moment F.left_since F.images before listed c.all_under.ensures.same c.all_under.ensures.crash)
    (record { kept = c.remove_all.ensures.kept; crash = c.remove_all.ensures.crash })

pub returns-in_err-make_last-clause-outside : goal.returns-in_err-make_last-clause-outside
returns-in_err-make_last-clause-outside g c =
    let F = g.F.Files in
    let before = c.args.files.now in
    let listed = c.all_under.new.self in
    outside_both F.holds F.moment F.left_since F.images before listed c.make_last.new.files
    (outside_look F.holds F.moment F.left_since F.images before listed c.all_under.ensures.same c.all_under.ensures.crash)
    (outside_both F.holds F.moment F.left_since F.images listed c.remove_all.new.files c.make_last.new.files
    (record { kept = c.remove_all.ensures.kept; crash = c.remove_all.ensures.crash })
    (record { kept = c.make_last.ensures.kept; crash = c.make_last.ensures.crash }))

pub returns-clause-outside : goal.returns-clause-outside
returns-clause-outside g c =
    let F = g.F.Files in
    let before = c.args.files.now in
    let listed = c.all_under.new.self in
    outside_both F.holds F.moment F.left_since F.images before listed c.close.new.files
    (outside_look F.holds F.moment F.left_since F.images before listed c.all_under.ensures.same c.all_under.ensures.crash)
    (outside_both F.holds F.moment F.left_since F.images listed c.remove_all.new.files c.close.new.files
    (record { kept = c.remove_all.ensures.kept; crash = c.remove_all.ensures.crash })
    (outside_both F.holds F.moment F.left_since F.images c.remove_all.new.files c.make_last.new.files c.close.new.files
    (record { kept = c.make_last.ensures.kept; crash = c.make_last.ensures.crash }) (record { kept = c.close.ensures.kept; crash = c.close.ensures.crash })))

pub returns-clause-cleared : goal.returns-clause-cleared
returns-clause-cleared g c =
    let paths = c.in_ok-others.others.items in
    let before = g.F.Files.holds c.args.files.now in
    let listed = g.F.Files.holds c.all_under.new.self in
    let gone = g.F.Files.holds c.remove_all.new.files in
    let last = g.F.Files.holds c.make_last.new.files in
    let after = g.F.Files.holds c.close.new.files in
    let done : HasBrought (removed paths) listed gone =
    subst (λ (l : List (List ℕ)). HasBrought (removed l) listed gone) c.as_slice.ensures.value c.in_ok-remove_all.ensures.done in
    let there : IfSome before (λ d. paths ≡ filter is_other (files_under d (codes ".pie/cache"))) =
    if_each (λ d. c.in_ok-paths.paths.items ≡ files_under d c.args.dir.now) (λ d. paths ≡ filter is_other (files_under d (codes ".pie/cache"))) before
    (λ d is. c.in_ok-others.ensures.others ∙ ap (filter is_other) (is ∙ ap (files_under d) c.requires.paths.is_dir)) c.in_ok-paths.ensures.listed in
    on_ok c.close.result
    (λ closed. cleared paths before after there
    (subst (λ o. HasBrought (λ q. later (at gate Gone q) (removed paths q)) o after) c.in_ok-paths.ensures.same
    (brought_both (removed paths) (at gate Gone) listed last after
    (brought_still (removed paths) listed gone last c.in_ok-make_last.ensures.same done) closed))) c.close.ensures.done

pub returns-clause-changes : goal.returns-clause-changes
returns-clause-changes g c =
    let A = g.F.Files.asked in
    let paths = c.in_ok-others.others.items in
    let before = g.F.Files.holds c.args.files.now in
    let there : IfSome before (λ d. paths ≡ filter is_other (files_under d (codes ".pie/cache"))) =
    if_each (λ d. c.in_ok-paths.paths.items ≡ files_under d c.args.dir.now) (λ d. paths ≡ filter is_other (files_under d (codes ".pie/cache"))) before
    (λ d is. c.in_ok-others.ensures.others ∙ ap (filter is_other) (is ∙ ap (files_under d) c.requires.paths.is_dir)) c.in_ok-paths.ensures.listed in
    let gone : Makes A (removing paths) c.all_under.new.self c.remove_all.new.files (Ok c.in_ok-remove_all.field-0) =
    subst (λ (l : List (List ℕ)). Makes {T = Unit {0}} A (removing l) c.all_under.new.self c.remove_all.new.files (Ok c.in_ok-remove_all.field-0)) c.as_slice.ensures.value
    c.in_ok-remove_all.ensures.makes in
    on_ok c.close.result
    (λ closed. clears before (A c.args.files.now) (A c.close.new.files) paths there
    (looks_then (clearing paths) (A c.args.files.now) (A c.all_under.new.self) (A c.close.new.files)
    (looks_all A c.args.files.now c.all_under.new.self c.in_ok-paths.paths g.F.Files.faults c.args.dir.now c.in_ok-paths.ensures.called)
    (changes_both (removing paths) (Syncs ∷ closing) (A c.all_under.new.self) (A c.remove_all.new.files) (A c.close.new.files)
    (changes_made A c.all_under.new.self c.remove_all.new.files (removing paths) c.in_ok-remove_all.field-0 gone)
    (changes_both (Syncs ∷ []) closing (A c.remove_all.new.files) (A c.make_last.new.files) (A c.close.new.files)
    (changes_made A c.remove_all.new.files c.make_last.new.files (Syncs ∷ []) c.in_ok-make_last.field-0 c.in_ok-make_last.ensures.makes) closed))))
    (changes_by A c.close.result closing c.make_last.new.files c.close.new.files c.close.ensures.makes)

pub returns-in_err-paths-clause-whole : goal.returns-in_err-paths-clause-whole
returns-in_err-paths-clause-whole g c =
    opens_looked g.F.Files.holds g.F.Files.moment g.F.Files.left_since g.F.Files.images c.args.files.now c.all_under.new.self c.all_under.ensures.crash

pub returns-in_err-others-clause-whole : goal.returns-in_err-others-clause-whole
returns-in_err-others-clause-whole g c =
    opens_looked g.F.Files.holds g.F.Files.moment g.F.Files.left_since g.F.Files.images c.args.files.now c.all_under.new.self c.in_ok-paths.ensures.crash

pub returns-in_err-remove_all-clause-whole : goal.returns-in_err-remove_all-clause-whole
returns-in_err-remove_all-clause-whole g c =
    let F = g.F.Files in
    let before = c.args.files.now in
    let listed = c.all_under.new.self in
    let removed = c.remove_all.new.files in
    opens_gated F.holds F.moment F.left_since F.images before removed c.requires.stands
    (both_gated F.holds F.moment F.left_since F.images before listed removed
    (told_of (F.holds before) (F.holds listed) (keeps_same (F.holds before) (F.holds listed) c.in_ok-paths.ensures.same))
    (sync_gated F.holds F.moment F.left_since F.images before listed c.in_ok-paths.ensures.crash) c.remove_all.ensures.gated)

pub returns-in_err-make_last-clause-whole : goal.returns-in_err-make_last-clause-whole
returns-in_err-make_last-clause-whole g c =
    let F = g.F.Files in
    let before = c.args.files.now in
    let listed = c.all_under.new.self in
    let removed = c.remove_all.new.files in
    let last = c.make_last.new.files in
    opens_gated F.holds F.moment F.left_since F.images before last c.requires.stands
    (both_gated F.holds F.moment F.left_since F.images before listed last
    (told_of (F.holds before) (F.holds listed) (keeps_same (F.holds before) (F.holds listed) c.in_ok-paths.ensures.same))
    (sync_gated F.holds F.moment F.left_since F.images before listed c.in_ok-paths.ensures.crash)
    (both_gated F.holds F.moment F.left_since F.images listed removed last (told_of (F.holds listed) (F.holds removed) c.in_ok-remove_all.ensures.kept)
    c.in_ok-remove_all.ensures.gated (sync_gated F.holds F.moment F.left_since F.images removed last c.make_last.ensures.may)))

pub returns-clause-whole : goal.returns-clause-whole
returns-clause-whole g c =
    let F = g.F.Files in
    let paths = c.in_ok-others.others.items in
    let before = c.args.files.now in
    let listed = c.all_under.new.self in
    let gone = c.remove_all.new.files in
    let last = c.make_last.new.files in
    let after = c.close.new.files in
    let there : IfSome (F.holds before) (λ d. paths ≡ filter is_other (files_under d (codes ".pie/cache"))) =
    if_each (λ d. c.in_ok-paths.paths.items ≡ files_under d c.args.dir.now) (λ d. paths ≡ filter is_other (files_under d (codes ".pie/cache"))) (F.holds before)
    (λ d is. c.in_ok-others.ensures.others ∙ ap (filter is_other) (is ∙ ap (files_under d) c.requires.paths.is_dir)) c.in_ok-paths.ensures.listed in
    let done : HasBrought (removed paths) (F.holds listed) (F.holds gone) =
    subst (λ (l : List (List ℕ)). HasBrought (removed l) (F.holds listed) (F.holds gone)) c.as_slice.ensures.value c.in_ok-remove_all.ensures.done in
    let brought : HasBrought (removed paths) (F.holds before) (F.holds last) =
    subst (λ o. HasBrought (removed paths) o (F.holds last)) c.in_ok-paths.ensures.same
    (brought_still (removed paths) (F.holds listed) (F.holds gone) (F.holds last) c.in_ok-make_last.ensures.same done) in
    let went = told_of (F.holds listed) (F.holds gone) c.in_ok-remove_all.ensures.kept in
    let told = subst (λ o. Told o (F.holds gone)) c.in_ok-paths.ensures.same went in
    opens_ended F.holds F.moment F.left_since F.images before last after paths there brought c.requires.stands
    (rests (F.images last) (F.holds before) (F.holds gone) (F.holds last) (Ok c.in_ok-make_last.field-0) told c.in_ok-make_last.ensures.same
    c.in_ok-make_last.ensures.durable) c.close.ensures.ending
    (opens_gated F.holds F.moment F.left_since F.images before last c.requires.stands
    (both_gated F.holds F.moment F.left_since F.images before listed last
    (told_of (F.holds before) (F.holds listed) (keeps_same (F.holds before) (F.holds listed) c.in_ok-paths.ensures.same))
    (sync_gated F.holds F.moment F.left_since F.images before listed c.in_ok-paths.ensures.crash)
    (both_gated F.holds F.moment F.left_since F.images listed gone last went c.in_ok-remove_all.ensures.gated
    (sync_gated F.holds F.moment F.left_since F.images gone last c.in_ok-make_last.ensures.may))))

pub returns-clause-durable : goal.returns-clause-durable
returns-clause-durable g c =
    let before = g.F.Files.holds c.args.files.now in
    let listed = g.F.Files.holds c.all_under.new.self in
    let gone = g.F.Files.holds c.remove_all.new.files in
    let last = g.F.Files.holds c.make_last.new.files in
    rests_from (IsAtRest (g.F.Files.holds c.close.new.files) (g.F.Files.images c.close.new.files)) before last c.close.result
    (told_of before last (keeps_both before listed last (keeps_same before listed c.in_ok-paths.ensures.same)
    (keeps_both listed gone last c.in_ok-remove_all.ensures.kept c.in_ok-make_last.ensures.kept))) c.close.ensures.durable
