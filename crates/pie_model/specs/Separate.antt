-- When stamps tell contents apart, and what a task must not do.
use Rattle.std.specs.Prelude.{ℕ, ◌≡◌, leb, true, Option, Some, None, List, [], ◌∷◌, ◌++◌, length}
use Rattle.pie_model.specs.Paths.{Path, Source, kind_of, among}
use Rattle.pie_model.specs.Tasks.{Look, Exists, ByHash, ByMark, Digest, Answer, Event, Done, Fail, LookAt, ListOf, Write, Require}
use Rattle.pie_model.specs.Trees.{Trace, ends, looks, lists, writes, needs, Seen, Nothing, Holds, Clashing, Outcome, Ended, Failed, Cycled, Many, outcome_of}
use Rattle.pie_model.specs.Evaluation.{World, Project}

-- no two of these byte strings have one hash, and no source path has one mark and two contents
pub record StampsSeparate (w : World) (old now : Project) (Met : List ℕ → Type 0) : Type 0 where
  pub hashes : (a b : List ℕ) → Met a → Met b → w.hash a ≡ w.hash b → a ≡ b
  pub marks : (p : Path) (a b : List ℕ) (m : ℕ) → kind_of p ≡ Source → old.file p ≡ Some (a, m) → now.file p ≡ Some (b, m) → a ≡ b

-- two listings that keep the limit and have the same canonical bytes are equal
abbrev pub ListingsDiffer : World → Type 0
ListingsDiffer w =
    (a b : List Path) → leb (length (w.listing_bytes a)) w.most_bytes ≡ true → leb (length (w.listing_bytes b)) w.most_bytes ≡ true
    → w.listing_bytes a ≡ w.listing_bytes b → a ≡ b

-- the contents that were found are met
abbrev pub MetContents : (List ℕ → Type 0) → Seen → Type 0
MetContents Met Nothing = Unit {0}
MetContents Met (Holds b m) = Met b
MetContents Met Clashing = Unit {0}

-- the contents that a look observed are met; `exists` observes none
abbrev pub MetSeen : (List ℕ → Type 0) → Look → Seen → Type 0
MetSeen Met Exists s = Unit {0}
MetSeen Met ByHash s = MetContents Met s
MetSeen Met ByMark s = MetContents Met s
MetSeen Met Digest s = MetContents Met s

-- the canonical bytes of a listing are met
abbrev pub MetListing : World → (List ℕ → Type 0) → Option (List Path) → Type 0
MetListing w Met None = Unit {0}
MetListing w Met (Some es) = Met (w.listing_bytes es)

-- the value that a task ended with is met
abbrev pub MetOutcome : (List ℕ → Type 0) → Outcome → Type 0
MetOutcome Met (Ended v) = Met v
MetOutcome Met (Failed t k) = Unit {0}
MetOutcome Met (Cycled ts) = Unit {0}
MetOutcome Met Many = Unit {0}

-- all contents, listings and outputs that a trace itself observed are met, and what it wrote
abbrev pub AllMet : World → (List ℕ → Type 0) → Trace → Type 0
AllMet w Met (ends e) = Unit {0}
AllMet w Met (looks l p s k) = MetSeen Met l s × AllMet w Met k
AllMet w Met (lists d es k) = MetListing w Met es × AllMet w Met k
AllMet w Met (writes p b k) = Met b × AllMet w Met k
AllMet w Met (needs h u n k) = MetOutcome Met (outcome_of n) × AllMet w Met k

-- the path that an event looks at
abbrev pub path_looked : Event → List Path
path_looked (Done v) = []
path_looked (Fail f) = []
path_looked (LookAt l p) = p ∷ []
path_looked (ListOf d) = []
path_looked (Write p b) = []
path_looked (Require h u) = []

-- the paths that a task looked at while it was given these further answers
abbrev pub looked_paths : (List Answer → Event) → List Answer → List Answer → List Path
looked_paths next fed [] = []
looked_paths next fed (a ∷ rest) = path_looked (next fed) ++ looked_paths next (fed ++ a ∷ []) rest

-- a task never writes a path that it has looked at
abbrev pub NeverWritesWhatItSaw : (List Answer → Event) → Type 0
NeverWritesWhatItSaw next =
    (answers : List Answer) (p : Path) (b : List ℕ) → next answers ≡ Write p b → among p (looked_paths next [] answers) ≡ true → ⊥
