-- What reading one line or one path answers.
use Rattle.std.specs.Prelude.{◌≡◌, ℕ, true, false, List, [], ◌∷◌, ◌++◌, drop, Option, Some, None, Result, Ok, Err}
use denote.Ref.{Bor}
use Rattle.std.specs.Str.{is_utf8}
use Rattle.pie_base.specs.Path.{is_path}
use Rattle.pie_script.specs.declared.fault.InputFault.{InputFault}
use Rattle.pie_script.specs.declared.fault.InputFault.TheVariants as fault
use Rattle.pie_script.specs.declared.line.Read.{Read}
use Rattle.pie_script.specs.declared.line.Read.TheVariants as read
use Rattle.pie_script.specs.Line.{Line, Blank, Content, Put, Del, Change, Build, is_script_path, script_line}
use Rattle.pie_script.specs.Steps.{first_wrong}

-- reading a text as a path
abbrev pub PathNamed : Result (List ℕ) InputFault → List ℕ → ℕ → Type 0
PathNamed (Ok path) text line = (is_path text ≡ true) × (path ≡ text)
PathNamed (Err fault.OutOfMemory) text line = Unit {0}
PathNamed (Err (fault.BadPath at)) text line = (is_path text ≡ false) × (at ≡ line)
PathNamed (Err (fault.NotText at)) text line = ⊥
PathNamed (Err (fault.BadWord at)) text line = ⊥
PathNamed (Err fault.TooLong) text line = ⊥

-- reading bytes as a path
abbrev pub PathRead : Result (List ℕ) InputFault → List ℕ → ℕ → Type 0
PathRead (Ok path) text line = (is_utf8 text ≡ true) × (is_path text ≡ true) × (path ≡ text)
PathRead (Err fault.OutOfMemory) text line = Unit {0}
PathRead (Err (fault.NotText at)) text line = (is_utf8 text ≡ false) × (at ≡ line)
PathRead (Err (fault.BadPath at)) text line = (is_utf8 text ≡ true) × (is_path text ≡ false) × (at ≡ line)
PathRead (Err (fault.BadWord at)) text line = ⊥
PathRead (Err fault.TooLong) text line = ⊥

-- reading a text as a path that a script may name
abbrev pub ScriptPathRead : Result (List ℕ) InputFault → List ℕ → ℕ → Type 0
ScriptPathRead (Ok path) text line = (is_script_path text ≡ true) × (path ≡ text)
ScriptPathRead (Err fault.OutOfMemory) text line = Unit {0}
ScriptPathRead (Err (fault.BadPath at)) text line = (is_script_path text ≡ false) × (at ≡ line)
ScriptPathRead (Err (fault.NotText at)) text line = ⊥
ScriptPathRead (Err (fault.BadWord at)) text line = ⊥
ScriptPathRead (Err fault.TooLong) text line = ⊥

-- the line that was read
abbrev pub line_of : Read → List ℕ → Line
line_of read.Blank text = Blank
line_of (read.Content true) text = Content (drop 1 text ++ 10 ∷ [])
line_of (read.Content false) text = Content (drop 1 text)
line_of (read.Put path) text = Put path
line_of (read.Del path) text = Del path
line_of (read.Change path) text = Change path
line_of read.Build text = Build

-- the line that was read is this one, or what is wrong with it was told
abbrev pub IsRead : Result Read InputFault → Line → List ℕ → ℕ → Type 0
IsRead (Ok r) line text n = line ≡ line_of r text
IsRead (Err fault.OutOfMemory) line text n = Unit {0}
IsRead (Err (fault.NotText at)) line text n = first_wrong n (line ∷ []) ≡ Some (fault.NotText at)
IsRead (Err (fault.BadPath at)) line text n = first_wrong n (line ∷ []) ≡ Some (fault.BadPath at)
IsRead (Err (fault.BadWord at)) line text n = first_wrong n (line ∷ []) ≡ Some (fault.BadWord at)
IsRead (Err fault.TooLong) line text n = ⊥

-- reading a line of a script
abbrev pub LineRead : Result Read InputFault → List ℕ → ℕ → Type 0
LineRead result text n = IsRead result (script_line text) text n

-- what stands after a word, if the word is there
abbrev pub StandsAfter : Option (Bor (List ℕ)) → Option (List ℕ) → Type 0
StandsAfter None rest = rest ≡ None
StandsAfter (Some found) rest = rest ≡ Some found.now
