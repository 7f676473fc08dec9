-- Change lists, and the byte strings that two builds meet.
use Rattle.std.specs.Prelude.{ℕ, ◌≡◌, ◌⊎◌, true, false, Option, Some, None, List, [], ◌∷◌, ◌++◌}
use Rattle.std.specs.List.{flat_map}
use Rattle.std.specs.FinMap as fin
use Rattle.pie_model.specs.Paths.{Path, Out, Source, kind_of, among}
use Rattle.pie_model.specs.Tasks.{Task, Look, Exists, ByHash, ByMark, Digest}
use Rattle.pie_model.specs.Trees.{Node, node, Trace, ends, looks, lists, writes, needs, Seen, Nothing, Holds, Clashing, Outcome, Ended, Failed, Cycled, Many}
use Rattle.pie_model.specs.Trees.{outcome_of, trace_of, HasTask, required_by}
use Rattle.pie_model.specs.Evaluation.{World, Project, evaluation}
use Rattle.pie_model.specs.Records.{Record, needs_of}
use Rattle.pie_model.specs.Separate.{StampsSeparate}
use Rattle.pie_model.specs.Forest.{entered_tasks, forest}
use Rattle.pie_model.specs.Built.{Directory, bytes_at}

-- a change list names each source path whose bytes, mark or presence differ in two directories, and each path under `out` whose bytes or presence do
pub record NamesAllChanges (before now : Directory) (changes : List Path) : Type 0 where
  pub sources : (p : Path) → kind_of p ≡ Source → among p changes ≡ false → fin.get before p ≡ fin.get now p
  pub provided : (p : Path) → kind_of p ≡ Out → among p changes ≡ false → bytes_at before p ≡ bytes_at now p

-- the contents that were found
abbrev pub contents_strings : Seen → List (List ℕ)
contents_strings Nothing = []
contents_strings (Holds b m) = b ∷ []
contents_strings Clashing = []

-- the contents that a look observed; `exists` observes none
abbrev pub seen_strings : Look → Seen → List (List ℕ)
seen_strings Exists s = []
seen_strings ByHash s = contents_strings s
seen_strings ByMark s = contents_strings s
seen_strings Digest s = contents_strings s

-- the canonical bytes of a listing
abbrev pub listing_strings : World → Option (List Path) → List (List ℕ)
listing_strings w None = []
listing_strings w (Some es) = w.listing_bytes es ∷ []

-- a value that a task ended with
abbrev pub outcome_strings : Outcome → List (List ℕ)
outcome_strings (Ended v) = v ∷ []
outcome_strings (Failed t k) = []
outcome_strings (Cycled ts) = []
outcome_strings Many = []

abbrev mutual
  -- the contents observed and written in a tree, its listings and its outputs
  pub strings_in : World → Node → List (List ℕ)
  strings_in w (node t k) = outcome_strings (outcome_of (node t k)) ++ strings_below w k

  pub strings_below : World → Trace → List (List ℕ)
  strings_below w (ends e) = []
  strings_below w (looks l p s k) = seen_strings l s ++ strings_below w k
  strings_below w (lists d es k) = listing_strings w es ++ strings_below w k
  strings_below w (writes p b k) = b ∷ strings_below w k
  strings_below w (needs h u n k) = strings_in w n ++ strings_below w k

-- an old live task, or a present root
abbrev pub IsBase : World → Project → List Task → List Task → Task → Type 0
IsBase w old old_roots roots t = (among t (entered_tasks w old old_roots) ≡ true) ⊎ (among t roots ≡ true)

-- a task that is tried: it stands in the evaluation now of an old live task or of a present root, as these themselves do
pub record IsTried (w : World) (old now : Project) (old_roots roots : List Task) (t : Task) : Type 0 where
  pub base : Task
  pub is_base : IsBase w old old_roots roots base
  pub stands : HasTask t (evaluation w now base)

-- a byte string that is met: in such an evaluation now, in the old forest, or one of these besides,
-- which are both pipeline texts, the joined token spellings of each function of both, and the files under `out` now
pub data IsMet (w : World) (old now : Project) (old_roots roots : List Task) (besides : List (List ℕ)) (b : List ℕ) : Type 0 where
  met_now : (t : Task) → IsBase w old old_roots roots t → among b (strings_in w (evaluation w now t)) ≡ true → IsMet w old now old_roots roots besides b
  met_then : among b (flat_map (strings_in w) (forest w old old_roots)) ≡ true → IsMet w old now old_roots roots besides b
  named : among b besides ≡ true → IsMet w old now old_roots roots besides b

-- no two different byte strings that are met have one hash, and no source path has one mark and two contents
abbrev pub BuildsSeparate : World → Project → Project → List Task → List Task → List (List ℕ) → Type 0
BuildsSeparate w old now old_roots roots besides = StampsSeparate w old now (IsMet w old now old_roots roots besides)

-- a union edge: the old record of a task requires another, or its evaluation now does
abbrev pub IsUnionEdge : World → Project → (Task → Option Record) → Task → Task → Type 0
IsUnionEdge w now old_records t u =
    ((r : Record) × (old_records t ≡ Some r) × (among u (needs_of r.observations) ≡ true)) ⊎ (among u (required_by (trace_of (evaluation w now t))) ≡ true)
