use Rattle.std.proofs.Common.{arith}
use Rattle.pie_build.proofs.Storing.{storable, store_of}
use Rattle.pie_build.proofs.store.store_text.Goals as goal

pub encode_store-requires : goal.encode_store-requires
encode_store-requires c =
    storable c.new.result c.args.funcs.items c.new-2.result c.args.roots.items c.new-3.result c.args.rows.items c.new.ensures c.new-2.ensures c.new-3.ensures
    (omega (arith, c.len.ensures, c.if-len.false)) c.requires

pub returns : goal.returns
returns c =
    store_of c.new.result c.args.funcs.items c.new-2.result c.args.roots.items c.new-3.result c.args.rows.items c.encode_store.result
    c.new.ensures c.new-2.ensures c.new-3.ensures c.encode_store.ensures.text
