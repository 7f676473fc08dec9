use Rattle.pie_scan_laws.proofs.Covered.{covering, scans}
use Rattle.pie_scan_laws.proofs.laws.scans_name_all_changes.Goals as goal

pub returns-clause-covering : goal.returns-clause-covering
returns-clause-covering c = covering

pub returns-clause-scans : goal.returns-clause-scans
returns-clause-scans c = scans
