-- What a build without a list leaves that is refused.
use Rattle.std.specs.Prelude.{◌≡◌, Option, Some}
use Rattle.pie_files.specs.Directory.{Directory}
use Rattle.pie_value.specs.declared.verdict.Verdict.{Verdict}
use Rattle.pie_value.specs.declared.verdict.Verdict.TheVariants.{Accepted, Refused}

-- a refused build leaves the directory as it was
abbrev pub KeepsRefused : Verdict → Directory → Option Directory → Type 0
KeepsRefused Accepted d after = Unit {0}
KeepsRefused (Refused x) d after = after ≡ Some d
