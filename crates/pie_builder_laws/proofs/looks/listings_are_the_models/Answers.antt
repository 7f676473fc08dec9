use Rattle.pie_builder_laws.proofs.Lookings.{hash_is, listing_is, limit_is}
use Rattle.pie_builder_laws.proofs.looks.listings_are_the_models.Goals as goal

pub returns-clause-hashes : goal.returns-clause-hashes
returns-clause-hashes c = λ v stamp h. hash_is v stamp h

pub returns-clause-listings : goal.returns-clause-listings
returns-clause-listings c = λ dir entries. listing_is dir entries

pub returns-clause-limit : goal.returns-clause-limit
returns-clause-limit c = λ fs d dir. limit_is fs d dir
