-- What a scan notes at one path.
use Rattle.std.specs.Prelude.{◌≡◌, ◌⊎◌, ℕ, List, [], ◌∷◌, ◌++◌}
use Rattle.pie_scan.specs.declared.entry.Entry.{Entry}
use Rattle.pie_scan.specs.Texts.{HasMark}

-- an entry of this path, with the mark 0 under `out/`
abbrev pub IsOfPath : List ℕ → Entry → Type 0
IsOfPath path e = (e.path ≡ path) × HasMark e

-- nothing is noted, or one entry of this path
abbrev pub NotesAt : List ℕ → List Entry → List Entry → Type 0
NotesAt path before after = (after ≡ before) ⊎ ((e : Entry) × (after ≡ before ++ e ∷ []) × IsOfPath path e)
