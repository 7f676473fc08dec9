-- What a crash leaves while files of the cache are written.
use Rattle.std.specs.Prelude.{◌≡◌, ◌⊎◌, ℕ, false, true, List, Option, None, IfSome}
use Rattle.pie_base.specs.Path.{same_text}
use Rattle.pie_commit.specs.inner.Plans.{Wanted, Meets}
use Rattle.pie_commit.specs.Outcomes.{HasFile}
use Rattle.pie_files.specs.Directory.{Directory, file_at}
use Rattle.pie_files.specs.Reading.{Leaves}
use Rattle.pie_store.specs.declared.offers.Offer.{Offer}
use Rattle.pie_cache.specs.inner.Keeping.{kept, last_for}
use Rattle.pie_cache.specs.inner.Places.{gate, is_in_cache}

-- the gate stands
abbrev pub HasGate : Directory → Type 0
HasGate c = HasFile c gate

-- in every image it stands
abbrev pub AllGated : (Directory → Type 0) → Type 0
AllGated images = (c : Directory) → images c → HasGate c

-- while the gate stands in every image, a crash leaves nothing without it
abbrev pub KeepsGate : {S : Type 0} → (S → Option Directory) → (S → ℕ) → (S → ℕ → Directory → Type 0) → (S → Directory → Type 0) → S → S → Type 0
KeepsGate holds moment left_since images old new = IfSome (holds old) (λ d. AllGated (images old) → Leaves moment left_since images HasGate old new)

-- before the first file changes: the gate stands, or all is as before
abbrev pub IsBegun : Directory → Directory → Type 0
IsBegun before c = HasGate c ⊎ (c ≡ before)

-- with or without the gate, all is as wanted
abbrev pub IsPut : (List ℕ → Wanted) → Directory → Directory → Type 0
IsPut wants before c = (q : List ℕ) → same_text q gate ≡ false → Meets (wants q) (file_at before q) (file_at c q)

-- the gate stands, or all is as before, or all is as wanted
abbrev pub IsWhole : (List ℕ → Wanted) → Directory → Directory → Type 0
IsWhole wants before c = HasGate c ⊎ ((c ≡ before) ⊎ IsPut wants before c)

-- the same of what keeping these offers wants
abbrev pub KeepsWhole : List (List ℕ × Offer) → Directory → Directory → Type 0
KeepsWhole fresh before c = IsWhole (λ q. kept (last_for fresh q) (file_at before q)) before c

-- no file is in the cache
abbrev pub IsEmptied : Directory → Type 0
IsEmptied c = (q : List ℕ) → is_in_cache q ≡ true → file_at c q ≡ None

-- while the cache is opened: the gate stands, or all is as before, or it stood and no file is in the cache
abbrev pub OpensWhole : Directory → Directory → Type 0
OpensWhole before c = HasGate c ⊎ ((c ≡ before) ⊎ (HasGate before × IsEmptied c))
