-- What lines give: names, steps, and the first that is wrong.
use Rattle.std.specs.Prelude.{ℕ, ◌+◌, Bool, true, false, List, [], ◌∷◌, ◌++◌, Option, Some, None}
use Rattle.pie_script.specs.declared.fault.InputFault.{InputFault}
use Rattle.pie_script.specs.declared.fault.InputFault.TheVariants as fault
use Rattle.pie_script.specs.declared.step.Step.{Step}
use Rattle.pie_script.specs.declared.step.Step.TheVariants as step
use Rattle.pie_script.specs.Line.{Kind, NotText, BadPath, BadWord, Line, Blank, Content, Put, Del, Change, Build, Wrong}

-- what is wrong at a line, counted from 1
abbrev pub fault_at : Kind → ℕ → InputFault
fault_at NotText line = fault.NotText line
fault_at BadPath line = fault.BadPath line
fault_at BadWord line = fault.BadWord line

-- the first wrong line, where the first of these has this number
abbrev pub first_wrong : ℕ → List Line → Option InputFault
first_wrong line [] = None
first_wrong line (Wrong kind ∷ lines) = Some (fault_at kind line)
first_wrong line (l ∷ lines) = first_wrong (line + 1) lines

-- the names of a change list
abbrev pub names : List Line → List (List ℕ)
names [] = []
names (Change path ∷ lines) = path ∷ names lines
names (l ∷ lines) = names lines

-- content belongs after a `put` or other content, empty lines not counted: elsewhere it is wrong
abbrev pub placed : Bool → List Line → List Line
placed after_put [] = []
placed after_put (Blank ∷ lines) = Blank ∷ placed after_put lines
placed true (Content bytes ∷ lines) = Content bytes ∷ placed true lines
placed false (Content bytes ∷ lines) = Wrong BadWord ∷ placed false lines
placed after_put (Put path ∷ lines) = Put path ∷ placed true lines
placed after_put (l ∷ lines) = l ∷ placed false lines

-- a step of a script, its contents as a list
pub data Plain : Type 0 where
  PutFile : List ℕ → List ℕ → Plain
  DelFile : List ℕ → Plain
  Name : List ℕ → Plain
  BuildNow : Plain

-- a step as it is seen
abbrev pub plain : Step → Plain
plain (step.Put path content) = PutFile path content.items
plain (step.Del path) = DelFile path
plain (step.Change path) = Name path
plain step.Build = BuildNow

-- the content at the front of some lines, and the steps after it
abbrev pub gathered : List Line → List ℕ × List Plain
gathered [] = ([], [])
gathered (Content bytes ∷ lines) = (bytes ++ (gathered lines).0, (gathered lines).1)
gathered (Put path ∷ lines) = ([], PutFile path (gathered lines).0 ∷ (gathered lines).1)
gathered (Del path ∷ lines) = ([], DelFile path ∷ (gathered lines).1)
gathered (Change path ∷ lines) = ([], Name path ∷ (gathered lines).1)
gathered (Build ∷ lines) = ([], BuildNow ∷ (gathered lines).1)
gathered (Blank ∷ lines) = gathered lines
gathered (Wrong kind ∷ lines) = gathered lines

-- the steps of a script
abbrev pub steps : List Line → List Plain
steps lines = (gathered lines).1
