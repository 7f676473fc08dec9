-- The files of a demo at first, and what each round changes.
use Rattle.std.specs.Prelude.{◌≡◌, ℕ, zero, suc, ◌+◌, ◌-◌, ◌/◌, ◌%◌, ◌==◌, Bool, true, not, ◌&&◌, cond, List, [], ◌∷◌, ◌++◌, codes, decimal, Option, None, Some}
use Rattle.std.specs.Option.{option_map_or}
use Rattle.pie_base.specs.Path.{same_text, is_below}
use Rattle.pie_files.specs.Directory.{Directory, with_file}
use Rattle.pie_incremental.specs.Own.{bytes_at}
use Rattle.pie_demo.specs.Draws.{draw_after}

-- the pipeline
abbrev pub pipeline_text : List ℕ
pipeline_text = codes "func item(p: path) -> text { trim(get(read(p))) }\n"
    ++ (codes "func group(d: path) -> text { join_text([require item(p) for p in list(d)], \",\") }\n"
    ++ (codes "func top() -> unit {\n"
    ++ (codes "  write(path(\"out/all\"), join_text([require group(d) for d in list(path(\"src\"))], \"\\n\"));\n"
    ++ codes "}\n")))

-- the roots
abbrev pub roots_text : List ℕ
roots_text = codes "top()\n"

-- the path of the file of a number: ten stand in one directory
abbrev pub item_path : ℕ → List ℕ
item_path i = codes "src/" ++ (decimal (i / 10) ++ (codes "/" ++ decimal i))

-- its text at first, as it is drawn
abbrev pub first_text : ℕ → ℕ → List ℕ
first_text seed i = codes "v" ++ decimal (draw_after seed i % 100)

-- what stands at a path at first, of so many files
abbrev pub item_at : ℕ → ℕ → List ℕ → Option (List ℕ)
item_at seed zero path = None
item_at seed (suc i) path = cond (same_text path (item_path i)) (Some (first_text seed i)) (item_at seed i path)

-- what stands at a path before the first round: the files, the pipeline and the roots
abbrev pub first_at : ℕ → ℕ → List ℕ → Option (List ℕ)
first_at seed size path = cond (same_text path (codes "pie.roots")) (Some roots_text)
    (cond (same_text path (codes "pie.pipeline")) (Some pipeline_text) (item_at seed size path))

-- the path of the file that a round changes, as it is drawn after the texts and the rounds before
abbrev pub changed_path : ℕ → ℕ → ℕ → List ℕ
changed_path seed size k = item_path (draw_after seed (size + (k - 1)) % size)

-- the bytes of a file, none where there is no file
abbrev pub or_nothing : Option (List ℕ) → List ℕ
or_nothing file = option_map_or (λ bytes. bytes) file []

-- what a round makes of a text: in an odd round one of its own, in an even one the same with a space behind it
abbrev pub changed_text : ℕ → List ℕ → List ℕ
changed_text k text = cond (k % 2 == 1) (codes "r" ++ decimal k) (text ++ 32 ∷ [])

-- what stands at a path once a round changed its file
abbrev pub changed_at : ℕ → ℕ → ℕ → (List ℕ → Option (List ℕ)) → List ℕ → Option (List ℕ)
changed_at seed size k before path =
    cond (same_text path (changed_path seed size k)) (Some (changed_text k (or_nothing (before path)))) (before path)

-- what stands at a path after so many rounds
abbrev pub source_after : ℕ → ℕ → ℕ → List ℕ → Option (List ℕ)
source_after seed size zero path = first_at seed size path
source_after seed size (suc k) path = changed_at seed size (suc k) (source_after seed size k) path

-- a file was set, with some mark
abbrev pub SetsFile : List ℕ → List ℕ → Directory → Directory → Type 0
SetsFile path bytes before after = (mark : ℕ) × (after ≡ with_file before path bytes mark)

-- one directory after another: a round changed its file
abbrev pub ChangesFile : ℕ → ℕ → ℕ → Directory → Directory → Type 0
ChangesFile seed size k before after =
    SetsFile (changed_path seed size k) (changed_text k (or_nothing (bytes_at before (changed_path seed size k)))) before after

-- a path that is neither below `out` nor below `.pie`
abbrev pub is_own : List ℕ → Bool
is_own path = not (is_below (codes "out") path) && not (is_below (codes ".pie") path)

-- but for `out` and `.pie` a directory has the files of a demo after so many rounds, and no others
abbrev pub HasSources : ℕ → ℕ → ℕ → Directory → Type 0
HasSources seed size k d = (path : List ℕ) → is_own path ≡ true → bytes_at d path ≡ source_after seed size k path

-- a directory has the files of a demo before its first round, and no others
abbrev pub HasFirst : ℕ → ℕ → Directory → Type 0
HasFirst seed size d = (path : List ℕ) → bytes_at d path ≡ first_at seed size path
