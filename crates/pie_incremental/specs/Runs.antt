-- How many tasks a build by what changed starts.
use Rattle.std.specs.Prelude.{◌≡◌, ◌≤◌, length, None}
use Rattle.pie_report.specs.declared.report.Report.{Report}

-- a report tells at most 50,000 tasks, or as many again where the build started afresh
pub record TellsFew (r : Report) : Type 0 where
  pub most : length r.ran.items ≤ 100000
  pub once : r.fresh ≡ None → length r.ran.items ≤ 50000
