use Rattle.pie_script_laws.proofs.Scripting.{scripts_clean}
use Rattle.pie_script_laws.proofs.scripts.scripts_are_clean.Goals as goal

pub returns : goal.returns
returns c = λ e left steps based script. scripts_clean e left steps based script
