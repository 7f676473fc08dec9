-- What a path is, and of which kind, said of the bytes of a text.
use Rattle.std.specs.Prelude.{◌≡◌, ℕ, Bool, not, ◌&&◌, ◌||◌, cond, nat_lt, ◌==◌, List, [], ◌∷◌, ◌++◌, length, take, slice_index, ◌<◌, ◌≤◌, Option, Some, None}
use Rattle.std.specs.Prelude.{is_some, Result, Ok, Err, codes}
use Rattle.std.specs.Option.{option_map, option_map_or}
use Rattle.std.specs.List.{list_all, list_any, before_first, slice_split}
use lib.Pointwise.{pointwise}
use Rattle.pie_base.specs.declared.path.PathError.{PathError}
use Rattle.pie_base.specs.declared.path.PathError.TheVariants.{Empty, TooLong, BadSegment, OutOfMemory}

-- two texts are the same bytes
abbrev pub same_text : List ℕ → List ℕ → Bool
same_text = pointwise ◌==◌

-- the byte between two segments
abbrev pub is_slash : ℕ → Bool
is_slash b = b == 47

-- a byte that no segment holds: a control character
abbrev pub is_control : ℕ → Bool
is_control b = nat_lt b 32 || b == 127

-- the segments of a text: what stands before, between and after its slashes
abbrev pub segments : List ℕ → List (List ℕ)
segments text = slice_split is_slash text

-- a segment of a path: neither empty nor `.` nor `..`, and without a control character
abbrev pub is_segment : List ℕ → Bool
is_segment s = not (length s == 0) && not (same_text s (codes ".")) && not (same_text s (codes "..")) && not (list_any is_control s)

-- why a text is no path, in the order in which it is tested
abbrev pub refusal_of : List ℕ → Option PathError
refusal_of text = cond (length text == 0) (Some Empty)
    (cond (nat_lt 255 (length text)) (Some TooLong)
    (cond (list_all is_segment (segments text)) None (Some BadSegment)))

-- what reading a text as a path answers
abbrev pub Reads : Result (List ℕ) PathError → List ℕ → Type 0
Reads (Ok path) text = (path ≡ text) × (refusal_of text ≡ None)
Reads (Err OutOfMemory) text = Unit {0}
Reads (Err e) text = refusal_of text ≡ Some e

-- a text that is a path
abbrev pub is_path : List ℕ → Bool
is_path text = not (length text == 0) && not (nat_lt 255 (length text)) && list_all is_segment (segments text)

-- the first segment of a path
abbrev pub first_segment : List ℕ → List ℕ
first_segment path = before_first is_slash path

-- the first segment is `.pie`
abbrev pub is_under_store : List ℕ → Bool
is_under_store path = same_text (first_segment path) (codes ".pie")

-- the first segment is that of a file that describes the project
abbrev pub is_project_file : List ℕ → Bool
is_project_file path = same_text (first_segment path) (codes "pie.pipeline") || same_text (first_segment path) (codes "pie.roots")

-- a path without its last segment, or none where it has one segment
abbrev pub parent_of : List ℕ → Option (List ℕ)
parent_of [] = None
parent_of (b ∷ path) = option_map_or (λ front. Some (b ∷ front)) (parent_of path) (cond (is_slash b) (Some []) None)

-- what stands after a directory and a slash in a path below it
abbrev pub rest_below : List ℕ → List ℕ → Option (List ℕ)
rest_below [] [] = None
rest_below [] (b ∷ path) = cond (is_slash b) (Some path) None
rest_below (d ∷ dir) [] = None
rest_below (d ∷ dir) (b ∷ path) = cond (d == b) (rest_below dir path) None

-- a path lies below a directory
abbrev pub is_below : List ℕ → List ℕ → Bool
is_below dir path = is_some (rest_below dir path)

-- out: below the directory `out`, so the first segment is `out` and there are at least two
abbrev pub is_out : List ℕ → Bool
is_out path = is_below (codes "out") path

-- kept: `out` alone, or the first segment is `.pie`, `pie.pipeline` or `pie.roots`
abbrev pub is_kept : List ℕ → Bool
is_kept path = same_text path (codes "out") || is_under_store path || is_project_file path

-- source: neither out nor kept
abbrev pub is_source : List ℕ → Bool
is_source path = not (is_out path) && not (is_kept path)

-- the entry of a directory at which or below which a path lies, or none where it isn't below the directory
abbrev pub entry_on_way : List ℕ → List ℕ → Option (List ℕ)
entry_on_way dir path = option_map (λ rest. dir ++ 47 ∷ first_segment rest) (rest_below dir path)

-- a slash stands at this place, and what stands before it is the parent
pub record EndsParent (path : List ℕ) (end : ℕ) : Type 0 where
  pub inside : end < length path
  pub slash : slice_index path end ≡ 47
  pub parent : parent_of path ≡ Some (take end path)

-- so many bytes of a path below a directory spell the entry on the way, and a slash or nothing follows
pub record EndsEntry (dir path : List ℕ) (end : ℕ) : Type 0 where
  pub inside : end ≤ length path
  pub slash : end < length path → slice_index path end ≡ 47
  pub entry : entry_on_way dir path ≡ Some (take end path)
