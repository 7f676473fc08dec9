-- The plan of a clean build.
use Rattle.std.specs.Prelude.{◌≡◌, ℕ, Bool, true, false, List, Option, Some, IfSome}
use Rattle.std.specs.List.{list_all}
use Rattle.std.specs.declared.alloc.Global.{Global}
use Rattle.std.proofs.Common.{Vec}
use Rattle.pie_base.specs.Path.{is_out}
use Rattle.pie_commit.specs.declared.plan.Pending.{Pending}
use Rattle.pie_commit.specs.declared.plan.Pending.TheVariants.{Keep, Drop}
use Rattle.pie_commit.specs.declared.plan.Plan.{Plan}
use Rattle.pie_commit.specs.Outcomes.{HasBrought, IsAtRest}
use Rattle.pie_commit.specs.inner.Plans.{has_own_places, wanted_by}
use Rattle.pie_files.specs.Directory.{Directory}

-- what becomes of the pending names: they go, where there are any
abbrev pub gone_if : Bool → Pending
gone_if true = Drop
gone_if false = Keep

-- a plan that removes these files and writes those, all of them under `out/`, with this end of the pending names and this text of a store
pub record IsPlanOf (removed : List (List ℕ)) (contents : List (List ℕ × Vec ℕ Global)) (names : Pending) (text : Vec ℕ Global) (p : Plan) : Type 0 where
  pub places : has_own_places p ≡ true
  pub removals : p.removals.items ≡ removed
  pub writes : p.writes.items ≡ contents
  pub pending : p.pending ≡ names
  pub store : p.store ≡ Some text
  pub removals_out : list_all is_out removed ≡ true
  pub writes_out : list_all (λ w. is_out w.0) contents ≡ true

-- a plan is committed: what it wants is brought about, and nothing of it is pending
pub record IsCommitted {S : Type 0} (holds : S → Option Directory) (images : S → Directory → Type 0) (p : Plan) (old new : S) : Type 0 where
  pub brought : HasBrought (wanted_by p) (holds old) (holds new)
  pub rest : IfSome (holds old) (λ d. IsAtRest (holds new) (images new))
