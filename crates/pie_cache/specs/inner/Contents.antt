-- Entries as the program holds them.
use Rattle.std.specs.Prelude.{ℕ, ◌<◌, ◌^◌, List, length, Vec, Box}
use Rattle.std.specs.Global.{Global}
use Rattle.pie_record.specs.Canonical.{IsTrueRecord}
use Rattle.pie_store.specs.declared.offers.Offer.{Offer}
use Rattle.pie_store.specs.inner.Offers.{Offered, offered}
use Rattle.pie_cache.specs.inner.Places.{IsCachePath}
use Rattle.pie_cache.specs.inner.Texts.{enc_entry, IsKept}

-- the bytes of an entry
abbrev pub enc_offer : Offer → List ℕ
enc_offer o = enc_entry (offered o)

-- an entry that can be kept
abbrev pub IsKeptOffer : Offer → Type 0
IsKeptOffer o = IsKept (offered o)

-- an entry of the program: what every one there is by its types
abbrev pub IsTrueOffer : Offer → Type 0
IsTrueOffer o = IsTrueRecord o.row

-- a content whose length fits
abbrev pub IsShort : Vec ℕ Global → Type 0
IsShort c = length c.items < 2 ^ 32

-- what is to be kept: at the path of a cache file, an entry that can be
pub record IsNewsAt (path : List ℕ) (entry : Offered) : Type 0 where
  pub place : IsCachePath path
  pub kept : IsKept entry

-- the same of an entry as the program holds it
abbrev pub IsNews : List ℕ × Offer → Type 0
IsNews news = IsNewsAt news.0 (offered news.1)

-- the same of one that is held apart
abbrev pub IsNewsIn : List ℕ × Box Offer Global → Type 0
IsNewsIn news = IsNewsAt news.0 (offered news.1.value)

-- a text that is written to the path of a cache file
abbrev pub IsDraft : List ℕ × Vec ℕ Global → Type 0
IsDraft draft = IsCachePath draft.0
