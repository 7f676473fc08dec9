use Rattle.pie_auto.proofs.automatic.auto.Goals as goal

pub returns-in-Ok-clause-ran : goal.returns-in-Ok-clause-ran
returns-in-Ok-clause-ran g c = c.with_scan.ensures.ran.ran

pub returns-in-Ok-clause-few : goal.returns-in-Ok-clause-few
returns-in-Ok-clause-few g c = c.with_scan.ensures.ran.few

pub returns-in-Ok-clause-encodable : goal.returns-in-Ok-clause-encodable
returns-in-Ok-clause-encodable g c = c.with_scan.ensures.ran.encodable
