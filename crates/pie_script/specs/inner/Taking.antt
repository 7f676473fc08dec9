-- The steps that some lines gave, and the `put` whose content goes on.
use Rattle.std.specs.Prelude.{ℕ, Bool, true, false, List, [], ◌∷◌, ◌++◌, Option, Some, None, drop}
use Rattle.std.specs.Option.{option_map}
use Rattle.pie_script.specs.Line.{Line, Blank, Content, Put, Del, Change, Build, Wrong, BadWord}
use Rattle.pie_script.specs.Steps.{Plain, PutFile, DelFile, Name, BuildNow}

-- the steps that are done, and the path and the content so far of a `put` that goes on
pub record Taken : Type 0 where
  pub done : List Plain
  pub under : Option (List ℕ × List ℕ)

-- nothing was taken
abbrev pub nothing : Taken
nothing = record { done = []; under = None }

-- the put that goes on, with more content
abbrev pub put_with : Option (List ℕ × List ℕ) → List ℕ → List Plain
put_with None more = []
put_with (Some put) more = PutFile put.0 (put.1 ++ more) ∷ []

-- all steps, the put that goes on among them
abbrev pub closed : Taken → List Plain
closed s = s.done ++ put_with s.under []

-- all steps, and no put goes on
abbrev pub settled : List Plain → Taken
settled done = record { done = done; under = None }

-- one more line is taken
abbrev pub taken : Line → Taken → Taken
taken Blank s = s
taken (Content bytes) s = record s { under = option_map (λ put. (put.0, put.1 ++ bytes)) s.under }
taken (Put path) s = record { done = closed s; under = Some (path, []) }
taken (Del path) s = settled (closed s ++ DelFile path ∷ [])
taken (Change path) s = settled (closed s ++ Name path ∷ [])
taken Build s = settled (closed s ++ BuildNow ∷ [])
taken (Wrong kind) s = settled (closed s)

-- all lines are taken
abbrev pub taken_all : List Line → Taken → Taken
taken_all [] s = s
taken_all (l ∷ lines) s = taken_all lines (taken l s)

-- a line at its place: content that nothing is put for is wrong
abbrev pub placed_one : Bool → Line → Line
placed_one false (Content bytes) = Wrong BadWord
placed_one true (Content bytes) = Content bytes
placed_one after_put Blank = Blank
placed_one after_put (Put path) = Put path
placed_one after_put (Del path) = Del path
placed_one after_put (Change path) = Change path
placed_one after_put Build = Build
placed_one after_put (Wrong kind) = Wrong kind

-- a content line, with a newline or without
abbrev pub content_of : List ℕ → Bool → Line
content_of text true = Content (drop 1 text ++ 10 ∷ [])
content_of text false = Content (drop 1 text)
