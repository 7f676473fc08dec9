use Rattle.pie_record.proofs.Naming.{place_is}
use Rattle.pie_record.proofs.names.place.Goals as goal

pub returns : goal.returns
returns c = place_is _ _ _ c.get_index_of.ensures.index
