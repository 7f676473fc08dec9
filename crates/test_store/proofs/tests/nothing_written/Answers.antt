use Rattle.pie_store.proofs.Empty.{empty_storable}
use Rattle.test_store.proofs.tests.nothing_written.Goals as goal

pub encode_store-requires : goal.encode_store-requires
encode_store-requires c =
    empty_storable c.nothing-image.result c.nothing-image.ensures.version c.nothing-image.ensures.table c.nothing-image.ensures.funcs
    c.nothing-image.ensures.roots c.nothing-image.ensures.rows
