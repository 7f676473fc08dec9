use Rattle.std.proofs.Common.{inl, inr, refl}
use Rattle.pie_incremental.specs.Kept.{IsOfNames}
use Rattle.pie_incremental.specs.inner.Changes.{bytes_of}
use Rattle.pie_incremental.specs.inner.Marked.{EndsNames}
use Rattle.pie_incremental.proofs.Parts.{endures_none}
use Rattle.pie_incremental.proofs.ending.refuse.Goals as goal

pub returns-in_err-report-clause-files : goal.returns-in_err-report-clause-files
returns-in_err-report-clause-files g c =
    let names = c.args.ending.now.names.items in
    let pending = bytes_of c.args.ending.now.own.pending in
    endures_none g.F.Files.holds g.F.Files.moment g.F.Files.left_since g.F.Files.images (IsOfNames names pending) (EndsNames names pending) _
    (λ d is. inr (inl refl)) c.args.files.now
