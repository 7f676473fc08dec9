-- Looks at named paths, one after another.
use Rattle.std.proofs.Common.{◌≡◌, ℕ, ◌<◌, List, Option, length, get_or, refl, sym, subst}
use Rattle.std.specs.Prelude.{Contains, Result}
use Rattle.pie_files.specs.declared.files.Call.{Call}
use Rattle.pie_files.specs.declared.files.Call.TheVariants.{Read}
use Rattle.pie_files.specs.declared.files.FilesError.{FilesError}
use Rattle.pie_files.specs.Calls.{Called}
use Rattle.pie_named.specs.Asking.{AsksFor, LooksAt}
use Rattle.pie_named.proofs.Calls.{no_calls, made_once, asks_now, calls_then, asks_as}

pub looks_not : (P : List ℕ → Type 0) (before after : Option (List Call)) → after ≡ before → AsksFor P before after
looks_not P before after same = no_calls (LooksAt P) before after same

-- one look
pub looks_once : {S T : Type 0} (asked : S → Option (List Call)) (faults : S → ℕ) (path : List ℕ) (old new : S) (result : Result T FilesError)
    → Called asked faults (λ c. c ≡ Read path) old new result → AsksFor (λ p. p ≡ path) (asked old) (asked new)
looks_once asked faults path old new result called =
    made_once (LooksAt (λ p. p ≡ path)) _ (Read path) (asked old) (asked new) refl (asks_now asked faults (Read path) old new result called)

-- one more of some paths
pub looks_more : (paths : List (List ℕ)) (i : ℕ) (path : List ℕ) (before mid after : Option (List Call)) → i < length paths → path ≡ get_or paths i path
    → AsksFor (Contains paths) before mid → AsksFor (λ p. p ≡ path) mid after → AsksFor (Contains paths) before after
looks_more paths i path before mid after inside at so_far asks =
    calls_then (LooksAt (Contains paths)) before mid after so_far
    (asks_as (λ p. p ≡ path) (Contains paths) mid after (λ p is. subst (Contains paths) (sym is) (i, inside, sym at)) asks)

-- what the search takes for a function that looks
pub ruleset looks = (looks_not, looks_once)
