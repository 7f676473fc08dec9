-- What a build with offers tells of them.
use Rattle.pie_cache.specs.inner.Texts.{IsKept}
use Rattle.pie_store.specs.inner.Offers.{offered}
use Rattle.pie_topdown_build.specs.declared.offered.NewOffer.{NewOffer}

-- a new offer can be kept: its record has canonical bytes, and there is one content for each write, which has the recorded hash
abbrev pub IsNew : NewOffer → Type 0
IsNew n = IsKept (offered n.offer)
