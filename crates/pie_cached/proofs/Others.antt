-- Paths that a build with the record cache leaves as they were.
use Rattle.std.proofs.Common.{◌≡◌, Bool, true, false, refl, subst, ◌∙◌}
use Rattle.std.specs.Prelude.{◌||◌, Option, None, Some, IfSome}
use Rattle.pie_build.specs.Left.{may_change, KeepsRest}
use Rattle.pie_files.specs.Directory.{Directory}
use Rattle.pie_topdown_build.specs.Refusals.{KeepsRefused}
use Rattle.pie_value.specs.declared.verdict.Verdict.{Verdict}
use Rattle.pie_value.specs.declared.verdict.Verdict.TheVariants.{Accepted, Refused}
use Rattle.pie_cached.specs.Cached.{is_cached, KeepsAllButCache, KeepsOthers, StaysIfRefused}

left : (a b : Bool) → (a || b) ≡ false → a ≡ false
left true b e = absurd (cc)
left false b e = refl

right : (a b : Bool) → (a || b) ≡ false → b ≡ false
right true b e = absurd (cc)
right false b e = e

-- what changes no file outside the cache changes none that a build doesn't
pub of_cache : (before after : Option Directory) → KeepsAllButCache before after → KeepsOthers before after
of_cache None after h = record { kept = tt }
of_cache (Some d) after h = record { kept = (h.0, h.1, λ q off. h.2 q (right (may_change q) (is_cached q) off)) }

pub of_build : (before after : Option Directory) → KeepsRest before after → KeepsOthers before after
of_build None after h = record { kept = tt }
of_build (Some d) after h = record { kept = (h.kept.0, h.kept.1, λ q off. h.kept.2 q (left (may_change q) (is_cached q) off)) }

pub both : (before mid after : Option Directory) → KeepsOthers before mid → KeepsOthers mid after → KeepsOthers before after
both None mid after first second = record { kept = tt }
both (Some d) mid after first second =
    let e : Directory = first.kept.0 in
    let next : KeepsOthers (Some e) after = subst (λ o. KeepsOthers o after) first.kept.1 second in
    record { kept = (next.kept.0, next.kept.1, λ q off. next.kept.2 q off ∙ first.kept.2 q off) }

-- the same of the cache alone
pub cache_same : (before after : Option Directory) → after ≡ before → KeepsAllButCache before after
cache_same None after is = tt
cache_same (Some d) after is = (d, is, λ q off. refl)

pub cache_both : (before mid after : Option Directory) → KeepsAllButCache before mid → KeepsAllButCache mid after → KeepsAllButCache before after
cache_both None mid after first second = tt
cache_both (Some d) mid after first second =
    let next : KeepsAllButCache (Some first.0) after = subst (λ o. KeepsAllButCache o after) first.1 second in
    (next.0, next.1, λ q off. next.2 q off ∙ first.2 q off)

pub others_same : (before after : Option Directory) → after ≡ before → KeepsOthers before after
others_same None after is = record { kept = tt }
others_same (Some d) after is = record { kept = (d, is, λ q off. refl) }

-- ---- what a refused build leaves

pub if_refused : (v : Verdict) (before mid after : Option Directory) → IfSome before (λ d. KeepsRefused v d mid) → KeepsAllButCache mid after
    → StaysIfRefused v before after
if_refused Accepted before mid after kept rest = tt
if_refused (Refused x) None mid after kept rest = tt
if_refused (Refused x) (Some d) mid after kept rest = subst (λ o. KeepsAllButCache o after) kept rest

pub refused_then : (v : Verdict) (before mid after : Option Directory) → KeepsAllButCache before mid → StaysIfRefused v mid after
    → StaysIfRefused v before after
refused_then Accepted before mid after first second = tt
refused_then (Refused x) before mid after first second = cache_both before mid after first second

-- what the search takes for the paths that stay
pub ruleset others = (of_cache, of_build, both, others_same, cache_same, cache_both)
