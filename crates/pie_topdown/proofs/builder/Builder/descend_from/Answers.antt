use Rattle.pie_topdown.specs.declared.entering.Entry.TheVariants.{Unknown, Full}
use Rattle.pie_topdown.specs.inner.Entries.{MayEnter}
use Rattle.pie_topdown.proofs.Required.{full_descends, unknown_descends}
use Rattle.pie_topdown.proofs.builder.Builder.descend_from.Goals as goal

pub returns-in-Unknown-clause-right : goal.returns-in-Unknown-clause-right
returns-in-Unknown-clause-right c =
    let may : MayEnter c.args.self.now c.args.caller.required Unknown = rw c.in-Unknown.is at c.entry.ensures in
    unknown_descends c.args.self.now c.fail_as_unknown.new.self c.args.caller c.in_ok-_bytes-in-Unknown._bytes.items c.fail_as_unknown.result
    c.in_ok-_bytes-in-Unknown.ensures.canonical may.0 c.requires.absent may.1 c.fail_as_unknown.ensures.right

pub returns-clause-right : goal.returns-clause-right
returns-clause-right c =
    let may : MayEnter c.args.self.now c.args.caller.required Full = rw c.in-Full.is at c.entry.ensures in
    full_descends c.args.self.now c.args.caller c.in_ok-_bytes-in-Full._bytes.items c.in_ok-_bytes-in-Full.ensures.canonical may c.requires.absent
    c.requires.waits.caller.waits.left
