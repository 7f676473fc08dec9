-- What a build by what changed does with the names of its list, and with the pending ones.
use Rattle.std.specs.Prelude.{◌≡◌, ℕ, List, ◌++◌, Option, None, Some}
use Rattle.pie_files.specs.Directory.{Directory}
use Rattle.pie_report.specs.declared.report.Report.{Report}
use Rattle.pie_store.specs.Pending.{in_order}
use Rattle.pie_value.specs.declared.verdict.Verdict.{Verdict}
use Rattle.pie_value.specs.declared.verdict.Verdict.TheVariants.{Accepted, Refused}
use Rattle.pie_incremental.specs.declared.base.Start.{Start}
use Rattle.pie_incremental.specs.declared.base.Start.TheVariants.{Afresh, From}
use Rattle.pie_incremental.specs.Kept.{KeepsNames}
use Rattle.pie_incremental.specs.Own.{bytes_at, pending_path, IsClosed}
use Rattle.pie_incremental.specs.Starts.{StartsFrom}

-- no names are pending, and no marker stands
pub record HasNoNames (after : Option Directory) : Type 0 where
  pub left : Directory
  pub told : after ≡ Some left
  pub no_names : bytes_at left pending_path ≡ None
  pub closed : IsClosed left

-- by a verdict: where it accepts no names are pending, and where it refuses these are kept for the next build, and nothing else changed
abbrev pub NamesBy : Verdict → List (List ℕ) → Directory → Option Directory → Type 0
NamesBy Accepted names d after = HasNoNames after
NamesBy (Refused x) names d after = KeepsNames names d after

-- by the verdict of a clean build: where it accepts no names are pending, and where it refuses the directory is as it was
abbrev pub AfreshBy : Verdict → Directory → Option Directory → Type 0
AfreshBy Accepted d after = HasNoNames after
AfreshBy (Refused x) d after = after ≡ Some d

-- by what a build began from: a build from earlier records has the names of its list and the pending ones, each once in path order; a report of one that
-- began afresh tells why
abbrev pub NamesFrom : Start → List (List ℕ) → Directory → Report → Option Directory → Type 0
NamesFrom (Afresh cause) list d r after = (r.fresh ≡ Some cause) × AfreshBy r.verdict d after
NamesFrom (From b) list d r after = NamesBy r.verdict (in_order (list ++ b.value.names.items)) d after

-- what a build with this list did with names, by what the directory let it begin from
pub record TreatsNames (list : List (List ℕ)) (d : Directory) (r : Report) (after : Option Directory) : Type 0 where
  pub start : Start
  pub begins : StartsFrom d start
  pub names : NamesFrom start list d r after
