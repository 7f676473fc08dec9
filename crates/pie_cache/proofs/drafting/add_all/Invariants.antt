use Rattle.std.proofs.Common.{◌≡◌, ℕ, List, [], length}
use Rattle.std.specs.Prelude.{All, IfSome}
use Rattle.pie_commit.specs.inner.Plans.{later, written}
use Rattle.pie_files.specs.Directory.{file_at}
use Rattle.pie_files.specs.Reading.{LeavesAsBefore}
use Rattle.pie_cache.specs.inner.Contents.{IsNewsIn, IsDraft}
use Rattle.pie_cache.specs.inner.Keeping.{held_for, kept, IsDone}
use Rattle.pie_cache.specs.inner.Steps.{Changes, HaveOwnPaths}
use Rattle.pie_cache.proofs.drafting.add_all.Given as goal

-- what is left can be kept, and what was made can be written; so far nothing changed, and no call failed; what is left and what was made are as all
abbrev pub invariant-files : goal.invariant-files
invariant-files g l =
    All IsNewsIn l.latest.entries
    × All IsDraft l.drafts.items
    × (g.F.Files.holds l.files ≡ g.F.Files.holds l.fn.files)
    × LeavesAsBefore g.F.Files.holds g.F.Files.moment g.F.Files.left_since g.F.Files.images l.fn.files l.files
    × (g.F.Files.faults l.files ≡ g.F.Files.faults l.fn.files)
    × Changes [] (g.F.Files.asked l.fn.files) (g.F.Files.asked l.files)
    × IfSome (g.F.Files.holds l.fn.files) (λ d. (q : List ℕ) → later (kept (held_for l.latest q) (file_at d q)) (written l.drafts.items q)
    ≡ later (kept (held_for l.fn.latest q) (file_at d q)) (written l.fn.drafts.items q))
    × HaveOwnPaths l.drafts.items
    × All (IsDone l.latest) l.drafts.items

abbrev pub decreases-files : goal.decreases-files
decreases-files g l = length l.latest.entries
