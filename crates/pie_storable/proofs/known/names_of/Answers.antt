use Rattle.std.proofs.Common.{◌∙◌}
use Rattle.pie_store.proofs.Names.{known_step}
use Rattle.pie_storable.proofs.known.names_of.Goals as goal

pub loop-name-preserved : goal.loop-name-preserved
loop-name-preserved c = λ name.
    known_step name c.loop-name.names.keys c.insert.new.self.keys c.in_ok-bytes.bytes c.args.funcs.now c.loop-name.name-index c.loop-name-item.result _
    c.loop-name-test.true c.loop-name-item.is (c.in_ok-bytes.ensures.items ∙ c.as_bytes.ensures.value ∙ c.as_str.ensures) c.in_ok-insert.ensures.keys
    (c.loop-name.invariant name)
