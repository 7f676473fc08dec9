-- What keeping makes of the files of the cache.
use Rattle.std.specs.Prelude.{◌≡◌, ◌⊎◌, ℕ, Bool, nat_lt, cond, List, [], ◌∷◌, ◌++◌, length, take, Option, None, Some, IfSome, Box, Vec}
use Rattle.std.specs.Global.{Global}
use Rattle.std.specs.Option.{option_map}
use Rattle.std.specs.Ordering.{nat_cmp, is_eq}
use Rattle.std.specs.Cmp.Lexicographic.{slice_cmp}
use Rattle.std.specs.BTreeMap.{BTreeMap, get}
use Rattle.pie_base.specs.Path.{same_text}
use Rattle.pie_commit.specs.inner.Plans.{Wanted, Same, Gone, Bytes, later, at, Brings}
use Rattle.pie_files.specs.Directory.{Directory, file_at}
use Rattle.pie_store.specs.declared.offers.Offer.{Offer}
use Rattle.pie_store.specs.inner.Offers.{Offered, offered}
use Rattle.pie_cache.specs.inner.Places.{gate}
use Rattle.pie_cache.specs.inner.Stored.{entries_of}
use Rattle.pie_cache.specs.inner.Texts.{enc_cache}

-- an offer, or else another
abbrev pub or_else : Option Offered → Option Offered → Option Offered
or_else None other = other
or_else (Some o) other = Some o

-- whether a key of the map is this path
abbrev pub is_at : List ℕ → List ℕ → Bool
is_at path q = is_eq (slice_cmp nat_cmp path q)

-- the last of these offers that is for a path
abbrev pub last_for : List (List ℕ × Offer) → List ℕ → Option Offered
last_for [] q = None
last_for (news ∷ rest) q = or_else (last_for rest q) (cond (same_text q news.0) (Some (offered news.1)) None)

-- the text of a file with an offer in front of the first three entries that it had
abbrev pub text_in_front : Offered → Option (List ℕ × ℕ) → List ℕ
text_in_front o file = enc_cache (o ∷ take 3 (entries_of file))

-- a text is wanted where it isn't too long
abbrev pub fitting : List ℕ → Wanted
fitting text = cond (nat_lt 16777216 (length text)) Same (Bytes text)

-- what becomes of a file by the offer that there is for it, if there is one
abbrev pub kept : Option Offered → Option (List ℕ × ℕ) → Wanted
kept None file = Same
kept (Some o) file = fitting (text_in_front o file)

-- what keeping these offers wants of a directory: in each file the last one for it, and no gate
abbrev pub keeping : List (List ℕ × Offer) → Directory → List ℕ → Wanted
keeping fresh d q = later (at gate Gone q) (kept (last_for fresh q) (file_at d q))

-- where the directory is told, it is told still, and has what keeping these offers wants
abbrev pub HasKept : List (List ℕ × Offer) → Option Directory → Option Directory → Type 0
HasKept fresh before after = IfSome before (λ d. (e : Directory) × (after ≡ Some e) × Brings (keeping fresh d) d e)

-- the offer that a map has for a path
abbrev pub held_for : BTreeMap (List ℕ) (Box Offer Global) → List ℕ → Option Offered
held_for latest q = option_map (λ b. offered b.value) (get (slice_cmp nat_cmp) latest q)

-- no offer is left for this file
abbrev pub IsDone : BTreeMap (List ℕ) (Box Offer Global) → List ℕ × Vec ℕ Global → Type 0
IsDone latest draft = get (slice_cmp nat_cmp) latest draft.0 ≡ None

-- a file at this path was added, or none
abbrev pub AddsAt : List ℕ → List (List ℕ × Vec ℕ Global) → List (List ℕ × Vec ℕ Global) → Type 0
AddsAt path old new = (new ≡ old) ⊎ ((text : Vec ℕ Global) × (new ≡ old ++ (path, text) ∷ []))
