-- What one look asks of the files.
use Rattle.std.specs.Prelude.{◌≡◌, ◌⊎◌, Bool, false, true, List, Option}
use Rattle.pie_files.specs.declared.files.Call.{Call}
use Rattle.pie_files.specs.Calls.{Notes}

-- no call was made, or this one, and that only where it may be
pub record AsksOnly {S : Type 0} (asked : S → Option (List Call)) (may : Bool) (call : Call) (old new : S) : Type 0 where
  pub not : may ≡ false → asked new ≡ asked old
  pub once : (asked new ≡ asked old) ⊎ Notes (λ c. c ≡ call) (asked old) (asked new)

-- this call was made once, and once more
pub record IsNotedTwice (call : Call) (before after : Option (List Call)) : Type 0 where
  pub between : Option (List Call)
  pub first : Notes (λ c. c ≡ call) before between
  pub second : Notes (λ c. c ≡ call) between after

-- it was made at the most twice, and that only where it may be
pub record AsksTwice {S : Type 0} (asked : S → Option (List Call)) (may : Bool) (call : Call) (old new : S) : Type 0 where
  pub only : AsksOnly asked may call old new ⊎ ((may ≡ true) × IsNotedTwice call (asked old) (asked new))
