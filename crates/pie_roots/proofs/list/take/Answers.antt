use Rattle.std.proofs.Common.{refl}
use Rattle.pie_types.specs.Whole.{number_from}
use Rattle.pie_roots.proofs.RootLines.{taken_blank, taken_task, taken_bad}
use Rattle.pie_roots.proofs.list.take.Goals as goal

pub returns-in-Nothing : goal.returns-in-Nothing
returns-in-Nothing c =
    taken_blank (number_from 0 c.args.typed.now) c.args.roots.now.items c.args.text.now c.args.line c.in_ok-read_root.field-0
    c.in_ok-read_root.ensures.root c.in-Nothing.is

pub returns-in-Task : goal.returns-in-Task
returns-in-Task c =
    taken_task (number_from 0 c.args.typed.now) c.add.result c.args.roots.now.items c.add.new.roots.items c.args.text.now c.args.line c.in-Task.task
    c.in_ok-read_root.field-0 c.in_ok-read_root.ensures.root c.in-Task.is c.add.ensures

pub returns-in-Bad : goal.returns-in-Bad
returns-in-Bad c =
    (refl, taken_bad (number_from 0 c.args.typed.now) c.args.text.now c.args.line c.in_ok-read_root.field-0 c.in_ok-read_root.ensures.root c.in-Bad.is)
