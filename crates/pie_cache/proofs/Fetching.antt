-- What the entries of a file are, by what was found of it.
use Rattle.std.proofs.Common.{◌≡◌, ℕ, Bool, cond, List, [], ◌∷◌, length, Option, None, Some, sym, ap, ◌∙◌}
use Rattle.std.specs.Prelude.{All, map, IfSome}
use Rattle.std.proofs.lemmas.Bool.{lt-ltb, le-ltb}
use Rattle.std.proofs.lemmas.List.Elements.{All-nil, All-cons, All-head, All-tail}
use Rattle.pie_files.specs.Directory.{Directory, file_at}
use Rattle.pie_files.specs.declared.files.Within.{Within}
use Rattle.pie_files.specs.declared.files.Within.TheVariants.{Absent, Long, Whole}
use Rattle.pie_files.specs.inner.Within.{IsWithin}
use Rattle.pie_store.specs.declared.offers.Offer.{Offer}
use Rattle.pie_store.specs.inner.Offers.{Offered, offered, IsOffer}
use Rattle.pie_value.specs.declared.task.Task.{Task}
use Rattle.pie_cache.specs.inner.Places.{cache_path}
use Rattle.pie_cache.specs.inner.Texts.{IsEntry}
use Rattle.pie_cache.specs.inner.Reading.{cache_says}
use Rattle.pie_cache.specs.inner.Stored.{or_none, entries_of, entries_found, offers_in}

pub within_entries : (found : Within) (file : Option (List ℕ × ℕ)) → IsWithin 16777216 found file → entries_found found ≡ entries_of file
within_entries Absent file h = sym (ap entries_of h)
within_entries Long file h =
    sym (ap entries_of h.1 ∙ ap (λ (b : Bool). cond b [] (or_none (cache_says h.0.0))) (lt-ltb 16777216 (length h.0.0) h.2))
within_entries (Whole found) file h =
    sym (ap entries_of h.0
    ∙ ap (λ (b : Bool). cond b [] (or_none (cache_says found.bytes.items))) (le-ltb 16777216 (length found.bytes.items) h.1))

-- the entries at the path of a task's cache file are its offers
pub found_offers : (holds : Option Directory) (os : List Offered) (path : List ℕ) (task : Task) (digest : List ℕ) → path ≡ cache_path task digest
    → IfSome holds (λ d. os ≡ entries_of (file_at d path)) → IfSome holds (λ d. os ≡ offers_in d task digest)
found_offers None os path task digest at found = tt
found_offers (Some d) os path task digest at found = found ∙ ap (λ p. entries_of (file_at d p)) at

-- entries can be offered
pub entries_offered : (os : List Offer) → All IsEntry (map offered os) → All IsOffer os
entries_offered [] h = All-nil IsOffer
entries_offered (o ∷ os) h =
    All-cons IsOffer o os (All-head IsEntry (offered o) (map offered os) h).0 (entries_offered os (All-tail IsEntry (offered o) (map offered os) h))
