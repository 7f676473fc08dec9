use Rattle.std.proofs.Common.{Ok, arith}
use Rattle.std.proofs.lemmas.Option.{slice_get_within}
use Rattle.pie_value.specs.declared.event.Event.TheVariants as events
use Rattle.pie_files.specs.declared.files.FilesError.{FilesError}
use Rattle.pie_topdown.proofs.Happening.{acts_asks}
use Rattle.pie_topdown.proofs.Asked.{as_event}
use Rattle.pie_topdown.proofs.builder.Builder.treat.Goals as goal

pub returns-in-Exists-clause-right : goal.returns-in-Exists-clause-right
returns-in-Exists-clause-right g c =
    as_event (g.F.Files.holds c.args.files.now) c.args.self.now c.exists.new.self c.args.waiting _ c.args.event c.exists.result c.in-Exists.is
    c.exists.ensures.right

pub returns-in-Read-clause-right : goal.returns-in-Read-clause-right
returns-in-Read-clause-right g c =
    as_event (g.F.Files.holds c.args.files.now) c.args.self.now c.read.new.self c.args.waiting _ c.args.event c.read.result c.in-Read.is
    c.read.ensures.right

pub returns-in-Digest-clause-right : goal.returns-in-Digest-clause-right
returns-in-Digest-clause-right g c =
    as_event (g.F.Files.holds c.args.files.now) c.args.self.now c.digest.new.self c.args.waiting _ c.args.event c.digest.result c.in-Digest.is
    c.digest.ensures.right

pub returns-in-List-clause-right : goal.returns-in-List-clause-right
returns-in-List-clause-right g c =
    as_event (g.F.Files.holds c.args.files.now) c.args.self.now c.list.new.self c.args.waiting _ c.args.event c.list.result c.in-List.is
    c.list.ensures.right

pub returns-in-Write-clause-right : goal.returns-in-Write-clause-right
returns-in-Write-clause-right g c =
    let held = g.F.Files.holds c.args.files.now in
    let e = events.Write c.in-Write.path c.in-Write.bytes in
    as_event {E = FilesError} held c.args.self.now c.write.new.self c.args.waiting e c.args.event (Ok c.in_ok-write-in-Write.field-0) c.in-Write.is
    (acts_asks {E = FilesError} held c.args.self.now c.write.new.self c.args.waiting e (Ok c.in_ok-write-in-Write.field-0) c.in_ok-write-in-Write.ensures.right)

pub returns-in-Require-clause-right : goal.returns-in-Require-clause-right
returns-in-Require-clause-right g c =
    let held = g.F.Files.holds c.args.files.now in
    let e = events.Require c.in-Require.task c.in-Require.how in
    as_event {E = FilesError} held c.args.self.now c.require.new.self c.args.waiting e c.args.event (Ok c.in_ok-require-in-Require.field-0) c.in-Require.is
    (acts_asks {E = FilesError} held c.args.self.now c.require.new.self c.args.waiting e (Ok c.in_ok-require-in-Require.field-0)
    c.in_ok-require-in-Require.ensures.right)

pub fail-requires-clause-number : goal.fail-requires-clause-number
fail-requires-clause-number g c =
    let n = c.args.waiting.notes in
    let inside = slice_get_within c.args.self.now.ledger.tables.names n.number n.task c.requires.noted.task in
    omega (arith, inside, c.requires.number)
