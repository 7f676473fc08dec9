-- What is asked of the files.
use Rattle.std.specs.Prelude.{◌≡◌, ◌⊎◌, ℕ, true, List, ◌++◌, Option, Some, IfSome}
use Rattle.std.specs.List.{All}
use Rattle.pie_files.specs.declared.files.Call.{Call}
use Rattle.pie_files.specs.declared.files.Call.TheVariants.{Read, Names, AllUnder, Write, Remove, Sync}
use Rattle.pie_files.specs.Calls.{Notes}
use Rattle.pie_record.specs.declared.dep.DepKind.{DepKind}
use Rattle.pie_record.specs.declared.dep.DepKind.TheVariants as kinds
use Rattle.pie_named.specs.declared.stamps.FileStamp.{FileStamp}
use Rattle.pie_named.specs.declared.named.Named.{Named}
use Rattle.pie_named.specs.inner.Names.{is_named, is_above}

-- a path is a name, or a directory above one
abbrev pub IsNamedOrAbove : Named → List ℕ → Type 0
IsNamedOrAbove n p = (is_named n p ≡ true) ⊎ (is_above n p ≡ true)

-- a call looks at such a file, or lists the entries of such a directory; it changes nothing
abbrev pub LooksAt : (List ℕ → Type 0) → Call → Type 0
LooksAt P (Read p) = P p
LooksAt P (Names p) = P p
LooksAt P (AllUnder p) = ⊥
LooksAt P (Write p m) = ⊥
LooksAt P (Remove p) = ⊥
LooksAt P Sync = ⊥

-- after these calls came others, each of this kind
pub record AreFollowed (kind : Call → Type 0) (calls : List Call) (after : Option (List Call)) : Type 0 where
  pub more : List Call
  pub are : after ≡ Some (calls ++ more)
  pub each : All kind more

-- each call that came is of this kind, where the calls are observable
pub record MakesOnly (kind : Call → Type 0) (before after : Option (List Call)) : Type 0 where
  pub made : IfSome before (λ calls. AreFollowed kind calls after)

-- such paths alone were looked at
abbrev pub AsksFor : (List ℕ → Type 0) → Option (List Call) → Option (List Call) → Type 0
AsksFor P before after = MakesOnly (LooksAt P) before after

-- the call that asks for an observation of this kind
abbrev pub call_for : DepKind → List ℕ → Call
call_for kinds.List p = Names p
call_for kind p = Read p

-- this call was made at the most, and none where the answer was known
pub record AsksOnce (known : Option (Option FileStamp)) (call : Call) (before after : Option (List Call)) : Type 0 where
  pub not : (stamp : Option FileStamp) → known ≡ Some stamp → after ≡ before
  pub once : (after ≡ before) ⊎ Notes (λ c. c ≡ call) before after
