use Rattle.pie_manner_laws.proofs.Listings.{listings_tell}
use Rattle.pie_manner_laws.proofs.laws.listings_differ.Goals as goal

pub returns : goal.returns
returns c = λ a b la lb e. listings_tell a b la lb e
