use Rattle.pie_clean_laws.proofs.Printing.{json_one, text_one}
use Rattle.pie_clean_laws.proofs.Telling.{clean_reports_one, clean_tasks_true}
use Rattle.pie_clean_laws.proofs.told.reports_are_one.Goals as goal

pub returns-clause-same : goal.returns-clause-same
returns-clause-same c = λ d r s after left l m. clean_reports_one d r s after left l m

pub returns-clause-tasks : goal.returns-clause-tasks
returns-clause-tasks c = λ d r after l. clean_tasks_true d r after l

pub returns-clause-printed : goal.returns-clause-printed
returns-clause-printed c = λ r s text other same all. (text_one r s same all text other, json_one r s same all text other)
