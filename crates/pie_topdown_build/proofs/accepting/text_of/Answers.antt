use Rattle.std.proofs.Common.{rules, ◌≤◌, length}
use Rattle.pie_incremental.proofs.Storing.{drafted_storable}
use Rattle.pie_topdown_build.proofs.accepting.text_of.Goals as goal

pub encode_store_after-requires-clause-storable : goal.encode_store_after-requires-clause-storable
encode_store_after-requires-clause-storable c =
    let s = c.args.image.now in
    let few : length s.roots ≤ 4294967295 = search rules in drafted_storable s c.requires.image few
