use Rattle.std.proofs.Common.{subst, sym}
use Rattle.pie_store.specs.inner.Agreement.{AgreesWhole}
use Rattle.pie_store.specs.inner.Known.{known_in}
use Rattle.pie_store.proofs.Closing.{contents_1_is}
use Rattle.pie_store.proofs.decoding.image_1.Goals as goal

pub returns : goal.returns
returns c =
    subst (AgreesWhole c.tail.result)
    (sym (contents_1_is c.args.end c.args.reader.now c.in-Ok.digest c.hash.new.self
    (known_in c.any.result) c.new.result.items c.any.ensures c.in-Ok.ensures c.new.ensures.items))
    c.tail.ensures
