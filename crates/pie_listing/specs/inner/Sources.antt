-- Entries of sources that were seen before, joined with those under `out/` that are there now.
use Rattle.std.specs.Prelude.{◌≡◌, ℕ, ◌==◌, Bool, false, cond, List, ◌++◌, codes, None}
use Rattle.std.specs.List.{filter}
use Rattle.std.specs.Ordering.{ordering_index}
use Rattle.std.specs.declared.cmp.Ordering.{Ordering}
use Rattle.std.specs.declared.cmp.Ordering.TheVariants.{Less, Equal, Greater}
use Rattle.pie_base.specs.Path.{is_out}
use Rattle.pie_files.specs.Directory.{Directory}
use Rattle.pie_scan.specs.declared.entry.Entry.{Entry}
use Rattle.pie_scan.specs.Entries.{path_cmp, entry_at}
use Rattle.pie_scan.specs.Scanned.{entry_in, is_scanned}

-- what stands before each path under `out/`, and behind no other path
abbrev pub out_start : List ℕ
out_start = codes "out/"

-- where a path stands: before those under `out/`, among them, or behind them
abbrev pub place_of : List ℕ → Ordering
place_of path = cond (is_out path) Equal (path_cmp path out_start)

-- an entry stands there
abbrev pub stands : Ordering → Entry → Bool
stands place e = ordering_index (place_of e.path) == ordering_index place

-- what was seen before the paths under `out/`, what is found there, and what was seen behind them
abbrev pub joined : List Entry → List Entry → List Entry
joined seen out = filter (stands Less) seen ++ (filter (stands Equal) out ++ filter (stands Greater) seen)

-- of the scanned files that aren't under `out/`, a directory has these entries
pub record AreSources (d : Directory) (tops : List (List ℕ)) (entries : List Entry) : Type 0 where
  pub each : (path : List ℕ) → is_out path ≡ false → entry_at entries path ≡ cond (is_scanned tops path) (entry_in d path) None
