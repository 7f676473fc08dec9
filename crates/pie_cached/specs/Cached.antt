-- What a build with the record cache leaves as it is.
use Rattle.std.specs.Prelude.{◌≡◌, ◌||◌, ℕ, Bool, false, List, Option, Some, IfSome, codes}
use Rattle.pie_base.specs.Path.{is_below}
use Rattle.pie_build.specs.Left.{may_change}
use Rattle.pie_files.specs.Directory.{Directory, file_at}
use Rattle.pie_value.specs.declared.verdict.Verdict.{Verdict}
use Rattle.pie_value.specs.declared.verdict.Verdict.TheVariants.{Accepted, Refused}

-- a path below `.pie/cache`
abbrev pub is_cached : List ℕ → Bool
is_cached q = is_below (codes ".pie/cache") q

-- a path that such a build may change: one that every build may, or one of the cache
abbrev pub may_touch : List ℕ → Bool
may_touch q = may_change q || is_cached q

-- where the directory is observable, it is told still, and every other path has the file that it had
pub record KeepsOthers (before after : Option Directory) : Type 0 where
  pub kept : IfSome before (λ d. (e : Directory) × (after ≡ Some e) × ((q : List ℕ) → may_touch q ≡ false → file_at e q ≡ file_at d q))

-- the same of every path that isn't of the cache
abbrev pub KeepsAllButCache : Option Directory → Option Directory → Type 0
KeepsAllButCache before after = IfSome before (λ d. (e : Directory) × (after ≡ Some e) × ((q : List ℕ) → is_cached q ≡ false → file_at e q ≡ file_at d q))

-- a refused build changes no file outside the cache
abbrev pub StaysIfRefused : Verdict → Option Directory → Option Directory → Type 0
StaysIfRefused Accepted before after = Unit {0}
StaysIfRefused (Refused x) before after = KeepsAllButCache before after
