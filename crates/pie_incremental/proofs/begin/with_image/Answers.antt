use Rattle.pie_incremental.proofs.Starting.{long_starts, whole_starts, without_starts}
use Rattle.pie_incremental.proofs.begin.with_image.Goals as goal

pub returns-in-Long-clause-starts : goal.returns-in-Long-clause-starts
returns-in-Long-clause-starts g c =
    long_starts (g.F.Files.holds c.args.files.now) c.args.image.value c.args.store.items c.in_ok-place.place c.in_ok-read_within.field-0
    c.in_ok-place.ensures c.in-Long.is c.requires.readable c.in_ok-read_within.ensures.found

pub returns-in_ok-start-in-Whole-clause-starts : goal.returns-in_ok-start-in-Whole-clause-starts
returns-in_ok-start-in-Whole-clause-starts g c =
    whole_starts (g.F.Files.holds c.args.files.now) c.args.image.value c.args.store c.in_ok-place.place c.in_ok-read_within.field-0 c.in-Whole.found
    c.in_ok-start-in-Whole.start c.in_ok-place.ensures c.in-Whole.is c.requires.readable c.in_ok-read_within.ensures.found c.in_ok-start-in-Whole.ensures

pub returns-in_ok-start-in-Absent-clause-starts : goal.returns-in_ok-start-in-Absent-clause-starts
returns-in_ok-start-in-Absent-clause-starts g c =
    without_starts (g.F.Files.holds c.args.files.now) c.args.image.value c.new-names.result c.args.store c.in_ok-place.place c.in_ok-read_within.field-0
    c.in_ok-start-in-Absent.start c.in_ok-place.ensures c.in-Absent.is c.requires.readable c.new-names.ensures.items c.in_ok-read_within.ensures.found
    c.in_ok-start-in-Absent.ensures
