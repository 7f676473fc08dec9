-- The calls of a commit, in their order.
use Rattle.std.specs.Prelude.{◌≡◌, ℕ, List, [], ◌∷◌, ◌++◌, map, Option, None, Some, Result, Ok, Err, IfSome, Vec}
use Rattle.std.specs.Global.{Global}
use Rattle.pie_files.specs.declared.files.Call.{Call}
use Rattle.pie_files.specs.declared.files.Call.TheVariants as calls
use Rattle.pie_files.specs.declared.files.FilesError.{FilesError}
use Rattle.pie_files.specs.declared.files.FilesError.TheVariants.{Failed, OutOfMemory}
use Rattle.pie_commit.specs.declared.plan.Plan.{Plan}
use Rattle.pie_commit.specs.declared.plan.Pending.{Pending}
use Rattle.pie_commit.specs.declared.plan.Pending.TheVariants.{Keep, Put, Drop}

-- a call that a commit makes
pub data Step : Type 0 where
  Writes : List ℕ → Step
  Removes : List ℕ → Step
  Syncs : Step

-- a noted call is that of a step; a write has a mark where it succeeded
abbrev pub IsCallOf : Step → Call → Type 0
IsCallOf (Writes p) call = (mark : Option ℕ) × (call ≡ calls.Write p mark)
IsCallOf (Removes p) call = call ≡ calls.Remove p
IsCallOf Syncs call = call ≡ calls.Sync

-- noted calls are those of steps, one after another
abbrev pub AreCallsOf : List Step → List Call → Type 0
AreCallsOf [] [] = Unit {0}
AreCallsOf [] (c ∷ cs) = ⊥
AreCallsOf (s ∷ ss) [] = ⊥
AreCallsOf (s ∷ ss) (c ∷ cs) = IsCallOf s c × AreCallsOf ss cs

-- these steps were made up to the last of them, which failed
pub record MadeUntil (steps : List Step) (made : List Call) : Type 0 where
  pub front : List Step
  pub step : Step
  pub rest : List Step
  pub is : steps ≡ front ++ step ∷ rest
  pub calls_are : AreCallsOf (front ++ step ∷ []) made

-- some of these steps were made
pub record MadeSome (steps : List Step) (made : List Call) : Type 0 where
  pub front : List Step
  pub rest : List Step
  pub is : steps ≡ front ++ rest
  pub calls_are : AreCallsOf front made

-- all steps were made where all went well, those up to the one that failed where one did, and some of them where there was no memory
abbrev pub MadeBy : {T : Type 0} → Result T FilesError → List Step → List Call → Type 0
MadeBy (Ok value) steps made = AreCallsOf steps made
MadeBy (Err Failed) steps made = MadeUntil steps made
MadeBy (Err OutOfMemory) steps made = MadeSome steps made

-- where the list of calls is observable, it gained those of these steps, in order
abbrev pub Makes : {S T : Type 0} → (S → Option (List Call)) → List Step → S → S → Result T FilesError → Type 0
Makes asked steps old new result = IfSome (asked old) (λ before. (made : List Call) × (asked new ≡ Some (before ++ made)) × MadeBy result steps made)

-- the steps of each part of a plan
abbrev pub beginning : Plan → List Step
beginning p = Writes p.marker ∷ Syncs ∷ []

abbrev pub removing : List (List ℕ) → List Step
removing paths = map Removes paths

abbrev pub writing : List (List ℕ × Vec ℕ Global) → List Step
writing files = map (λ w. Writes w.0) files

abbrev pub pending_steps : List ℕ → Pending → List Step
pending_steps place Keep = []
pending_steps place (Put bytes) = Writes place ∷ []
pending_steps place Drop = Removes place ∷ []

abbrev pub store_steps : List ℕ → Option (Vec ℕ Global) → List Step
store_steps place None = []
store_steps place (Some bytes) = Writes place ∷ []

abbrev pub changing : Plan → List Step
changing p = removing p.removals.items ++ (writing p.writes.items ++ (pending_steps p.names_place p.pending ++ (store_steps p.place p.store ++ Syncs ∷ [])))

abbrev pub ending : Plan → List Step
ending p = Removes p.marker ∷ Syncs ∷ []

-- the steps of a plan that isn't empty
abbrev pub steps_of : Plan → List Step
steps_of p = beginning p ++ (changing p ++ ending p)
