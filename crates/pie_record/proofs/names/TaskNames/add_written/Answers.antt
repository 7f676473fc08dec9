use Rattle.std.proofs.Common.{◌<◌, ◌^◌, length}
use Rattle.std.specs.Prelude.{Contains}
use Rattle.pie_record.proofs.Naming.{free_is, named_more}
use Rattle.std.proofs.Common.{arith}
use Rattle.std.proofs.lemmas.Grind.{common_steps}
use Rattle.pie_record.proofs.names.TaskNames.add_written.Goals as goal

pub add_bytes-requires : goal.add_bytes-requires
add_bytes-requires c =
    let absent : ¬ (Contains c.self.inside.tasks.items c.args.task) = rw c.self.view_is c.requires.absent in
    free_is _ _ c.args.task _ c.self.invariant c.requires.canonical absent

pub invariant_of-self-in-Ok : goal.invariant_of-self-in-Ok
invariant_of-self-in-Ok c =
    let absent : ¬ (Contains c.self.inside.tasks.items c.args.task) = rw c.self.view_is c.requires.absent in
    let few : length c.self.inside.tasks.items < 2 ^ 32 = rw c.self.view_is c.requires.few in
    rw (c.in-Ok.ensures.added, c.in_ok-push.ensures.items)
    (named_more _ _ c.args.bytes c.args.task c.self.invariant c.requires.canonical absent few)

pub invariant_of-self-in-Err : goal.invariant_of-self-in-Err
invariant_of-self-in-Err c = grind (arith, common_steps)

pub overflow_cast-no : goal.overflow_cast-no
overflow_cast-no c = grind (arith, common_steps)

pub returns-in-Err-clause-unchanged : goal.returns-in-Err-clause-unchanged
returns-in-Err-clause-unchanged c = grind (arith, common_steps)

pub returns-in-Ok-clause-number : goal.returns-in-Ok-clause-number
returns-in-Ok-clause-number c = grind (arith, common_steps)
