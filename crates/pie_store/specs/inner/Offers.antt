-- Records that are offered for a task.
use Rattle.std.specs.Prelude.{◌≡◌, ◌++◌, ℕ, List, map, All, Contains, Option, Some, IfSome}
use Rattle.pie_files.specs.declared.files.Call.{Call}
use Rattle.pie_files.specs.declared.files.Call.TheVariants.{Read, Names, AllUnder, Write, Remove, Sync}
use Rattle.pie_record.specs.declared.task_record.TaskRecord.{TaskRecord}
use Rattle.pie_store.specs.declared.offers.Offer.{Offer}
use Rattle.pie_store.specs.Texts.{IsRow}

-- what is offered: a record, and the bytes of each of its writes
abbrev pub Offered : Type 0
Offered = TaskRecord × List (List ℕ)

-- an offer of the program, as such a pair
abbrev pub offered : Offer → Offered
offered o = (o.row, map (λ b. b.items) o.contents.items)

-- an offered record has canonical bytes
abbrev pub IsOffer : Offer → Type 0
IsOffer o = IsRow o.row

-- a look at the file at one of these paths, and no other call
abbrev pub IsLookAt : List (List ℕ) → Call → Type 0
IsLookAt paths (Read p) = Contains paths p
IsLookAt paths (Names p) = ⊥
IsLookAt paths (AllUnder p) = ⊥
IsLookAt paths (Write p m) = ⊥
IsLookAt paths (Remove p) = ⊥
IsLookAt paths Sync = ⊥

-- the calls that came since are such looks, where the calls are observable
abbrev pub LooksAtOnly : List (List ℕ) → Option (List Call) → Option (List Call) → Type 0
LooksAtOnly paths before after = IfSome before (λ calls. (more : List Call) × (after ≡ Some (calls ++ more)) × All (IsLookAt paths) more)
