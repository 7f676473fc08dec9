-- A project as its functions and roots.
use Rattle.std.specs.Prelude.{List}
use Rattle.pie_parser.specs.FunctionTrees.{FunctionTree}
use Rattle.pie_value.specs.declared.task.Task.{Task}
use Rattle.pie_project.specs.declared.project.Project.{Project}

-- the functions and the roots of a project
abbrev pub front_of : Project → List FunctionTree × List Task
front_of p = (p.typed, p.roots.items)
