use Rattle.std.proofs.Common.{Vec, Global}
use Rattle.pie_value.specs.declared.task.Task.{Task}
use Rattle.pie_project.specs.Fronts.{roots_found}
use Rattle.pie_project.specs.inner.Projects.{front_of}
use Rattle.pie_project.proofs.Finding.{reader_refuses}
use Rattle.pie_project.proofs.roots.with_roots.Goals as goal

pub returns-in-Ok-clause-found : goal.returns-in-Ok-clause-found
returns-in-Ok-clause-found c = roots_found c.in-Ok.ensures.roots

pub returns-in-Err-clause-found : goal.returns-in-Err-clause-found
returns-in-Err-clause-found c =
    rw c.roots_error.ensures (reader_refuses front_of (λ (tasks : Vec Task Global). tasks.items) c.args.pipeline.typed c.args.lines.now c.in-Err.fault
    c.in-Err.ensures.roots)
