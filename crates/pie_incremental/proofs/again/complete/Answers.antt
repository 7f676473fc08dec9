use Rattle.std.proofs.Common.{rules, ◌≡◌, inl, inr, refl, subst}
use Rattle.pie_project.specs.Refusals.{IsVerdict}
use Rattle.pie_incremental.specs.declared.ending.Ending.{Ending}
use Rattle.pie_incremental.specs.Crashes.{MarkedBy}
use Rattle.pie_incremental.specs.Kept.{IsOfNames}
use Rattle.pie_incremental.specs.inner.Changes.{bytes_of}
use Rattle.pie_incremental.specs.inner.Marked.{EndsNames}
use Rattle.pie_incremental.specs.inner.Parts.{Endures}
use Rattle.pie_incremental.proofs.Parts.{endures_none}
use Rattle.pie_incremental.proofs.again.complete.Goals as goal

pub returns-in-Ok-clause-files : goal.returns-in-Ok-clause-files
returns-in-Ok-clause-files g c =
    let e = c.deref.result.now in
    let ending : e ≡ c.args.stop.value.ending.value = search rules in
    let kept : Endures g.F.Files.holds g.F.Files.moment g.F.Files.left_since g.F.Files.images (IsOfNames e.names.items (bytes_of e.own.pending))
    (MarkedBy (EndsNames e.names.items (bytes_of e.own.pending))) (IsVerdict c.keep.result) c.args.files.now c.keep.new.files =
    record { rest = c.keep.ensures.rest; crash = c.keep.ensures.crash; marked = c.keep.ensures.marked; durable = c.keep.ensures.durable } in
    subst (λ (x : Ending). Endures g.F.Files.holds g.F.Files.moment g.F.Files.left_since g.F.Files.images (IsOfNames x.names.items (bytes_of x.own.pending))
    (MarkedBy (EndsNames x.names.items (bytes_of x.own.pending))) (IsVerdict c.keep.result) c.args.files.now c.keep.new.files) ending kept

pub returns-in-Err-clause-files : goal.returns-in-Err-clause-files
returns-in-Err-clause-files g c =
    let names = c.args.stop.value.ending.value.names.items in
    let pending = bytes_of c.args.stop.value.ending.value.own.pending in
    endures_none g.F.Files.holds g.F.Files.moment g.F.Files.left_since g.F.Files.images (IsOfNames names pending) (EndsNames names pending) _
    (λ d is. inr (inl refl)) c.args.files.now
