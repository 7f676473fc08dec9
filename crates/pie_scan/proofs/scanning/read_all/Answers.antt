use Rattle.std.proofs.Common.{rules, ◌≡◌, [], ◌∷◌, ◌++◌, Err, ◌∙◌, subst}
use Rattle.std.specs.Prelude.{IfSome, map}
use Rattle.std.specs.Option.{option_to_list}
use Rattle.std.specs.List.{filter_map}
use Rattle.pie_files.specs.declared.files.Call.TheVariants.{Read}
use Rattle.pie_files.specs.Reading.{ReadsOnly}
use Rattle.pie_files.proofs.Reading.{both_before}
use Rattle.pie_scan.specs.Scanned.{entry_in}
use Rattle.pie_scan.proofs.Noted.{below_on, below_ordered, marks_on, rising_paths}
use Rattle.pie_scan.proofs.Growing.{if_goes_on, filter_map_step, asks_on, map_step, reads_fail}
use Rattle.std.proofs.Common.{arith}
use Rattle.pie_files.proofs.Reading.{reads}
use Rattle.pie_scan.proofs.scanning.read_all.Goals as goal

pub loop-path-preserved : goal.loop-path-preserved
loop-path-preserved g c =
    let before = c.loop-path.invariant in
    let e = c.in_ok-note.ensures in (
      e.reads.same ∙ before.0,
      e.reads.counted.steady ∙ before.1,
      both_before g.F.Files.holds g.F.Files.moment g.F.Files.left_since g.F.Files.images c.args.files.now c.loop-path.files c.note.new.files
          before.0 before.2 e.reads.crash,
      if_goes_on (g.F.Files.holds c.args.files.now) (λ d. filter_map (entry_in d)) (λ d x. option_to_list (entry_in d x)) (λ d. filter_map_step (entry_in d))
          c.args.paths.now c.loop-path.path-index c.path-item.result c.loop-path.entries.items c.note.new.entries.items (λ d. filter_map (entry_in d) c.args.paths.now) c.loop-path-test.true c.path-item.is
          (subst (λ o. IfSome o (λ d. c.note.new.entries.items ≡ c.loop-path.entries.items ++ option_to_list (entry_in d c.path-item.result))) before.0 e.read)
          before.3,
      asks_on (map (λ path. Read path)) (λ path. Read path ∷ []) (map_step (λ path. Read path)) _ _ _ _ _ _ c.loop-path-test.true c.path-item.is before.4 e.asks,
      λ up. below_on c.args.paths.now c.loop-path.path-index c.path-item.result c.loop-path.entries.items c.note.new.entries.items up c.loop-path-test.true
          c.path-item.is e.noted (before.5 up),
      marks_on c.path-item.result c.loop-path.entries.items c.note.new.entries.items e.noted before.6,
    )

pub returns-in_err-note-clause-reads : goal.returns-in_err-note-clause-reads
returns-in_err-note-clause-reads g c =
    let before = c.loop-path.invariant in
    let e = c.in_err-note.field-0.0 in
    let failed : Err e ≡ c.from_residual.result = search rules in
    subst (ReadsOnly g.F.Files.holds g.F.Files.moment g.F.Files.left_since g.F.Files.images g.F.Files.faults c.args.files.now c.note.new.files) failed
    (reads_fail g.F.Files.holds g.F.Files.moment g.F.Files.left_since g.F.Files.images g.F.Files.faults c.args.files.now c.loop-path.files c.note.new.files e
    before.0 before.1 before.2 c.in_err-note.ensures.reads)

pub returns-clause-ordered : goal.returns-clause-ordered
returns-clause-ordered g c =
    λ sorted. below_ordered c.args.paths.now c.loop-path.path-index c.loop-path.entries.items (c.loop-path.invariant.5 (rising_paths c.args.paths.now sorted))

pub returns-clause-reads : goal.returns-clause-reads
returns-clause-reads g c = grind (arith, reads)
