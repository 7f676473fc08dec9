-- What a line of a change list or of a script is.
use Rattle.std.specs.Prelude.{ℕ, ◌==◌, Bool, cond, not, ◌&&◌, List, [], ◌∷◌, ◌++◌, length, drop, codes, Option, Some, None}
use denote.Ref.{Bor}
use Rattle.std.specs.List.{slice_split, starts_with}
use Rattle.std.specs.Str.{is_utf8}
use Rattle.pie_base.specs.Path.{same_text, is_path, is_under_store}

-- what is wrong with a line
pub data Kind : Type 0 where
  NotText : Kind
  BadPath : Kind
  BadWord : Kind

-- a line
pub data Line : Type 0 where
  Blank : Line
  Content : List ℕ → Line
  Put : List ℕ → Line
  Del : List ℕ → Line
  Change : List ℕ → Line
  Build : Line
  Wrong : Kind → Line

-- lines are parted by byte 10
abbrev pub is_newline : ℕ → Bool
is_newline b = b == 10

-- the texts of all lines
abbrev pub texts : List ℕ → List (List ℕ)
texts bytes = slice_split is_newline bytes

-- a line of a change list is empty, or a path
abbrev pub change_line : List ℕ → Line
change_line text =
    cond (length text == 0) Blank (cond (is_utf8 text) (cond (is_path text) (Change text) (Wrong BadPath)) (Wrong NotText))

-- a path that a script may name: not `out` alone, and not below `.pie`
abbrev pub is_script_path : List ℕ → Bool
is_script_path path = is_path path && not (is_under_store path) && not (same_text path (codes "out"))

-- the line that a word makes of its path
abbrev pub with_path : (List ℕ → Line) → List ℕ → Line
with_path made path = cond (is_script_path path) (made path) (Wrong BadPath)

-- what stands after a word at the prefix of a text
abbrev pub after_word : List ℕ → List ℕ → Option (List ℕ)
after_word [] text = Some text
after_word (w ∷ word) [] = None
after_word (w ∷ word) (b ∷ text) = cond (w == b) (after_word word text) None

-- the line that a word makes of the path after it, or another line where the word isn't there
abbrev pub with_word : (List ℕ → Line) → Option (List ℕ) → Line → Line
with_word made None other = other
with_word made (Some path) other = with_path made path

-- whether a line begins with a byte
abbrev pub has_word : List ℕ → List ℕ → Bool
has_word word text = starts_with (λ a b. a == b) text word

-- a content line: `|` and a text that a newline ends, or `>` and a text alone
abbrev pub content_line : List ℕ → Line
content_line text =
    cond (has_word (codes "|") text) (Content (drop 1 text ++ 10 ∷ [])) (cond (has_word (codes ">") text) (Content (drop 1 text)) (Wrong BadWord))

-- a line of a script that is text: `put`, `del` or `change` and a path, `build`, or content
abbrev pub build_line : List ℕ → Line
build_line text = cond (same_text text (codes "build")) Build (content_line text)

abbrev pub change_or : List ℕ → Line
change_or text = with_word Change (after_word (codes "change ") text) (build_line text)

abbrev pub del_or : List ℕ → Line
del_or text = with_word Del (after_word (codes "del ") text) (change_or text)

abbrev pub word_line : List ℕ → Line
word_line text = with_word Put (after_word (codes "put ") text) (del_or text)

-- a line of a script
abbrev pub script_line : List ℕ → Line
script_line text = cond (length text == 0) Blank (cond (is_utf8 text) (word_line text) (Wrong NotText))

-- the texts of the lines that are left
abbrev pub texts_left : Option (Bor (List ℕ)) → List (List ℕ)
texts_left None = []
texts_left (Some bytes) = texts bytes.now
