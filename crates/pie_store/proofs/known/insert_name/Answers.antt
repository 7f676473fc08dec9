use Rattle.std.proofs.Common.{◌∙◌}
use Rattle.pie_store.proofs.Names.{inserted}
use Rattle.pie_store.proofs.known.insert_name.Goals as goal

pub returns : goal.returns
returns c = λ other.
    inserted c.args.names.now.keys c.insert.new.self.keys c.in_ok-bytes.bytes c.args.name.now other
    (c.in_ok-bytes.ensures.items ∙ c.as_bytes.ensures.value ∙ c.as_str.ensures) c.in_ok-insert.ensures.keys
