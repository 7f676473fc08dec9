use Rattle.pie_auto.proofs.Finding.{of_both, followed_if, tells_report}
use Rattle.pie_auto.proofs.automatic.with_scan.Goals as goal

pub returns-in-Ok-clause-rest : goal.returns-in-Ok-clause-rest
returns-in-Ok-clause-rest g c =
    of_both (g.F.Files.holds c.args.files.now) (g.F.Files.holds c.build_by.new.files) (g.F.Files.holds c.finish.new.files) c.in-Ok.ensures.rest
    c.finish.ensures.rest

pub returns-in-Ok-clause-followed : goal.returns-in-Ok-clause-followed
returns-in-Ok-clause-followed g c =
    followed_if (g.F.Files.holds c.build_by.new.files) (g.F.Files.holds c.finish.new.files) c.args.tops.now c.args.scan c.in-Ok.report
    (g.F.Files.holds c.args.files.now) c.finish.result c.in-Ok.ensures.built c.in-Ok.ensures.rest c.finish.ensures.follows c.finish.ensures.listing
    c.finish.ensures.report

pub returns-in-Ok-clause-ran : goal.returns-in-Ok-clause-ran
returns-in-Ok-clause-ran g c =
    tells_report c.args.runs.now c.build_by.new.runs c.in-Ok.report c.finish.result c.in-Ok.ensures.ran c.build_by.ensures.few c.in-Ok.ensures.encodable
    c.finish.ensures.report

pub returns-in-Err-clause-ran : goal.returns-in-Err-clause-ran
returns-in-Err-clause-ran g c = record { ran = tt; few = c.build_by.ensures.few; encodable = tt }
