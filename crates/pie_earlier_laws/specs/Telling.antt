-- What is told of the writes of recorded tasks, computed from the records.
use Rattle.std.specs.Prelude.{ℕ, zero, suc, ◌<◌, ◌≡◌, true, cond, Option, Some, None, List, [], ◌∷◌, ◌++◌}
use Rattle.std.specs.List.{flat_map}
use Rattle.pie_model.specs.Paths.{Path, among}
use Rattle.pie_model.specs.Tasks.{Task}
use Rattle.pie_model.specs.Seen.{first_write, writer, all_by}
use Rattle.pie_model.specs.Records.{Record, needs_of}
use Rattle.pie_model.specs.StampNow.{Told, Untold, ToldHash, ToldClash}
use Rattle.pie_model.specs.inner.CoreLaws.{TellsRight}
use Rattle.pie_model.specs.inner.Ranks.{required_in, above_all}

-- the tasks that these reach by at most so many requires, repeats included
abbrev pub reached_within : (Task → Option Record) → ℕ → List Task → List Task
reached_within R zero us = us
reached_within R (suc n) us = us ++ reached_within R n (flat_map (λ u. required_in (R u)) us)

-- the hash of what a record wrote first at a path
abbrev pub written_in : Path → Option Record → Option (List ℕ)
written_in p None = None
written_in p (Some r) = first_write p r.writes

-- of these tasks those that wrote a path by their records, each with the hash
abbrev pub writers_among : (Task → Option Record) → Path → List Task → List (Task × List ℕ)
writers_among R p [] = []
writers_among R p (t ∷ ts) = writer t (written_in p (R t)) ++ writers_among R p ts

-- what is told of these writers
abbrev pub told_of_writers : List (Task × List ℕ) → Told
told_of_writers [] = Untold
told_of_writers (x ∷ xs) = cond (all_by x.0 xs) (ToldHash x.1) ToldClash

-- what is told by records with these ranks, of a path and of the tasks that some tasks reach
abbrev pub told_by : (Task → Option Record) → (Task → ℕ) → List Task → Path → Told
told_by R rank us p = told_of_writers (writers_among R p (reached_within R (above_all rank us) us))

-- each require goes to a lower rank
abbrev pub GoLower : (Task → Option Record) → (Task → ℕ) → Type 0
GoLower R rank = (t : Task) (r : Record) (u : Task) → R t ≡ Some r → among u (needs_of r.observations) ≡ true → rank u < rank t

-- this is told rightly, whatever the records, if requires go to lower ranks
abbrev pub RankedRecordsTell : Type 0
RankedRecordsTell = (R : Task → Option Record) (rank : Task → ℕ) → GoLower R rank → TellsRight R (told_by R rank)
