-- Worked cases: the definitions computed on small projects.
use Rattle.std.proofs.Common.{ℕ, zero, suc, ◌≡◌, Bool, false, cond, Option, Some, None, List, [], ◌∷◌, ◌++◌, length, map, codes, bytes_eq, refl}
use Rattle.std.specs.List.{flat_map}
use Rattle.pie_model.specs.Paths.{Path, Out, Kept, Source, kind_of, entries_among}
use Rattle.pie_model.specs.Tasks.{Task, Exists, ByHash, ByMark, Whole, Hashed, Ran, Clash, Big, Null, Answer, Flag, Contents, HashOf, Entries, Wrote, Output}
use Rattle.pie_model.specs.Tasks.{Succeeded, Event, Done, Fail, LookAt, ListOf, Write, Require}
use Rattle.pie_model.specs.Trees.{Ended, Failed, outcome_of}
use Rattle.pie_model.specs.Evaluation.{World, Project, evaluation}
use Rattle.pie_model.specs.Records.{record_of, Present, Hash, Mark, WholeValue, Looked, Required, observed}
use Rattle.pie_model.specs.StampNow.{by_evaluation, stamp_now}
use Rattle.pie_model.specs.Seen.{provided}
use Rattle.pie_model.specs.Forest.{entered_tasks, live_evaluations}
use Rattle.pie_model.specs.Verdict.{Accepted, Many, Fault, Cycle, Overlap, Nested, Hidden, verdict}
use Rattle.pie_model.specs.Built.{provided_at, store_rows}
use Rattle.pie_model.specs.Changes.{strings_in}

-- ---- a world whose hash is one to one, with the true limits, and one with room for two tasks

abbrev toy : World
toy = record { hash = λ b. 0 ∷ b; listing_bytes = flat_map (λ p. p ++ 0 ∷ []); most_bytes = 1048576; most_tasks = 50000; most_events = 1000001 }

abbrev small : World
small = record { hash = λ b. 0 ∷ b; listing_bytes = flat_map (λ p. p ++ 0 ∷ []); most_bytes = 5; most_tasks = 2; most_events = 1000001 }

-- ---- tasks written as their events in order, which may use the answers so far

abbrev pick : ℕ → List Event → Event
pick n [] = Fail Null
pick zero (e ∷ es) = e
pick (suc n) (e ∷ es) = pick n es

abbrev bytes_of : Answer → List ℕ
bytes_of (Flag b) = []
bytes_of (Contents (Some b)) = b
bytes_of (Contents None) = []
bytes_of (HashOf o) = []
bytes_of (Entries es) = []
bytes_of Wrote = []
bytes_of (Output v) = v
bytes_of Succeeded = []

abbrev told_at : ℕ → List Answer → List ℕ
told_at n [] = []
told_at zero (a ∷ rest) = bytes_of a
told_at (suc n) (a ∷ rest) = told_at n rest

abbrev is_there : List Answer → Bool
is_there [] = false
is_there (Flag b ∷ rest) = b
is_there (Contents o ∷ rest) = false
is_there (HashOf o ∷ rest) = false
is_there (Entries es ∷ rest) = false
is_there (Wrote ∷ rest) = false
is_there (Output v ∷ rest) = false
is_there (Succeeded ∷ rest) = false

abbrev in_order : (List Answer → List Event) → List Answer → Event
in_order f answers = pick (length answers) (f answers)

-- the meaning of the tasks in a list, by name; any other task fails
abbrev meaning : List (Task × (List Answer → List Event)) → Task → List Answer → Event
meaning [] t = λ answers. Fail Null
meaning (x ∷ xs) t = cond (bytes_eq t x.0) (in_order x.1) (meaning xs t)

abbrev file_in : List (Path × List ℕ) → Path → Option (List ℕ × ℕ)
file_in [] p = None
file_in (x ∷ xs) p = cond (bytes_eq p x.0) (Some (x.1, 7)) (file_in xs p)

abbrev project : List (Task × (List Answer → List Event)) → List (Path × List ℕ) → Project
project tasks files = record { next = meaning tasks; file = file_in files; entries = entries_among (map (λ x. x.0) files) }

-- ---- kinds of path, and entries

kinds : map kind_of (codes "out/a" ∷ codes "out" ∷ codes "out/a/b" ∷ codes ".pie/store" ∷ codes "pie.pipeline" ∷ codes "pie.roots/x"
    ∷ codes "outer/a" ∷ codes "src/out" ∷ [])
    ≡ Out ∷ Kept ∷ Out ∷ Kept ∷ Kept ∷ Kept ∷ Source ∷ Source ∷ []
unfolding kind_of
kinds = refl

-- nested files give their first segment once, in order, and a longer name is another directory
nested_entries : entries_among (codes "src/d/y" ∷ codes "src/a" ∷ codes "srcs/z" ∷ codes "src" ∷ codes "src/d/x" ∷ codes "src/a-b" ∷ []) (codes "src")
    ≡ codes "src/a" ∷ codes "src/a-b" ∷ codes "src/d" ∷ []
unfolding entries_among
nested_entries = refl

-- ---- a site: pages that read, join and write, over a footer

abbrev page : Path → Path → List Answer → List Event
page from to answers =
    LookAt ByHash from ∷ Require Whole (codes "footer") ∷ Write to (told_at 0 answers ++ told_at 1 answers) ∷ Done to ∷ []

abbrev first_byte : List ℕ → List ℕ
first_byte [] = []
first_byte (x ∷ xs) = x ∷ []

abbrev site : List (Task × (List Answer → List Event))
site =
    (codes "site", λ answers. ListOf (codes "src") ∷ Require Whole (codes "page a") ∷ Require Hashed (codes "page b") ∷ Done (codes "2") ∷ [])
    ∷ (codes "page a", page (codes "src/a") (codes "out/a"))
    ∷ (codes "page b", page (codes "src/b") (codes "out/b"))
    ∷ (codes "footer", λ answers. LookAt ByHash (codes "inc/foot") ∷ Done (first_byte (told_at 0 answers)) ∷ [])
    ∷ []

abbrev site_with : List ℕ → Project
site_with foot = project site ((codes "src/a", codes "A") ∷ (codes "src/b", codes "B") ∷ (codes "inc/foot", foot) ∷ [])

site_is_accepted : verdict toy (site_with (codes "x")) (codes "site" ∷ []) ≡ Accepted
unfolding kind_of provided entries_among
site_is_accepted = refl

-- a parent stands before its children, and what is required again is entered once
site_enters : entered_tasks toy (site_with (codes "x")) (codes "site" ∷ []) ≡ codes "site" ∷ codes "page a" ∷ codes "footer" ∷ codes "page b" ∷ []
unfolding kind_of provided entries_among
site_enters = refl

site_provides : provided_at (live_evaluations toy (site_with (codes "x")) (codes "site" ∷ [])) (codes "out/b") ≡ Some (codes "Bx")
unfolding kind_of provided entries_among
site_provides = refl

-- rows go by height, then by task
site_rows : map (λ r. r.task) (store_rows toy (site_with (codes "x")) (codes "site" ∷ []))
    ≡ codes "footer" ∷ codes "page a" ∷ codes "page b" ∷ codes "site" ∷ []
unfolding kind_of provided entries_among
site_rows = refl

page_record : record_of toy (evaluation toy (site_with (codes "x")) (codes "page a")) ≡ record {
  task = codes "page a";
  observations = observed (Looked ByHash (codes "src/a")) (Hash (0 ∷ codes "A"))
      ∷ observed (Required Whole (codes "footer")) (WholeValue (codes "x")) ∷ [];
  writes = (codes "out/a", 0 ∷ codes "Ax") ∷ [];
  outcome = Ended (codes "out/a");
}
unfolding kind_of provided entries_among
page_record = refl

-- a changed footer with the same output: the footer's stamp differs, and the pages agree
footer_differs : stamp_now toy (site_with (codes "xy")) (by_evaluation toy (site_with (codes "xy"))) [] []
    (Looked ByHash (codes "inc/foot")) ≡ Some (Hash (0 ∷ codes "xy"))
unfolding kind_of provided entries_among
footer_differs = refl

pages_agree : (stamp_now toy (site_with (codes "xy")) (by_evaluation toy (site_with (codes "xy"))) [] [] (Looked ByHash (codes "src/a"))
    ≡ Some (Hash (0 ∷ codes "A")))
    × (stamp_now toy (site_with (codes "xy")) (by_evaluation toy (site_with (codes "xy"))) [] [] (Required Whole (codes "footer"))
    ≡ Some (WholeValue (codes "x")))
unfolding kind_of provided entries_among
pages_agree = (refl, refl)

-- ---- a record keeps repeats, and a task sees its own writes

abbrev twice : List (Task × (List Answer → List Event))
twice = (
  codes "t",
  λ answers. LookAt Exists (codes "s") ∷ LookAt ByMark (codes "s") ∷ LookAt Exists (codes "s") ∷ Write (codes "out/p") (codes "v") ∷ LookAt
      ByMark (codes "out/p")
      ∷ Done (told_at 4 answers) ∷ [],
) ∷ []

repeats_are_kept : record_of toy (evaluation toy (project twice ((codes "s", codes "1") ∷ [])) (codes "t")) ≡ record {
  task = codes "t";
  observations = observed (Looked Exists (codes "s")) Present ∷ observed (Looked ByMark (codes "s")) (Mark 7) ∷ observed
      (Looked Exists (codes "s")) Present
      ∷ observed (Looked ByMark (codes "out/p")) (Hash (0 ∷ codes "v")) ∷ [];
  writes = (codes "out/p", 0 ∷ codes "v") ∷ [];
  outcome = Ended (codes "v");
}
unfolding kind_of provided
repeats_are_kept = refl

-- ---- a dynamic require that disappears

abbrev dynamic : List (Task × (List Answer → List Event))
dynamic =
    (codes "x", λ answers. Write (codes "out/p") (codes "P") ∷ Done [] ∷ [])
    ∷ (
      codes "y",
      λ answers. LookAt Exists (codes "flag") ∷ cond (is_there answers) (Require Ran (codes "x")) (Done (codes "1")) ∷ Done
          (codes "1") ∷ [],
    )
    ∷ (codes "t", λ answers. Require Ran (codes "y") ∷ LookAt ByHash (codes "out/p") ∷ Done (told_at 1 answers) ∷ [])
    ∷ []

with_flag : (entered_tasks toy (project dynamic ((codes "flag", []) ∷ [])) (codes "t" ∷ []) ≡ codes "t" ∷ codes "y" ∷ codes "x" ∷ [])
    × (outcome_of (evaluation toy (project dynamic ((codes "flag", []) ∷ [])) (codes "t")) ≡ Ended (codes "P"))
unfolding kind_of provided
with_flag = (refl, refl)

without_flag : (entered_tasks toy (project dynamic []) (codes "t" ∷ []) ≡ codes "t" ∷ codes "y" ∷ [])
    × (outcome_of (evaluation toy (project dynamic []) (codes "t")) ≡ Ended [])
    × (provided_at (live_evaluations toy (project dynamic []) (codes "t" ∷ [])) (codes "out/p") ≡ None)
unfolding kind_of provided
without_flag = (refl, refl, refl)

-- ---- refusals

abbrev round : List (Task × (List Answer → List Event))
round =
    (codes "p", λ answers. Require Whole (codes "q") ∷ Done [] ∷ []) ∷ (codes "q", λ answers. Require Whole (codes "r") ∷ Done [] ∷ [])
    ∷ (codes "r", λ answers. Require Whole (codes "p") ∷ Done [] ∷ []) ∷ (codes "s", λ answers. Require Whole (codes "q") ∷ Done [] ∷ []) ∷ []

-- the list runs from the task that is required again to the one that requires it
cycle_is_listed : verdict toy (project round []) (codes "p" ∷ []) ≡ Cycle (codes "p" ∷ codes "q" ∷ codes "r" ∷ [])
cycle_is_listed = refl

cycle_from_below : verdict toy (project round []) (codes "s" ∷ []) ≡ Cycle (codes "q" ∷ codes "r" ∷ codes "p" ∷ [])
cycle_from_below = refl

abbrev writer_of : Path → List ℕ → List Answer → List Event
writer_of p b answers = Write p b ∷ Done [] ∷ []

abbrev several : List (Task × (List Answer → List Event))
several =
    (codes "w1", writer_of (codes "out/a") (codes "1")) ∷ (codes "w2", writer_of (codes "out/a") (codes "2")) ∷
    (codes "v", writer_of (codes "out/a/b") [])
    ∷ (codes "both", λ answers. Require Ran (codes "w2") ∷ Require Ran (codes "w1") ∷ Done [] ∷ [])
    ∷ (codes "deep", λ answers. Require Ran (codes "w1") ∷ Require Ran (codes "v") ∷ Done [] ∷ [])
    ∷ (codes "early", λ answers. LookAt Exists (codes "out/a") ∷ Require Ran (codes "w1") ∷ Done [] ∷ [])
    ∷ (codes "look", λ answers. Require Ran (codes "w1") ∷ Require Ran (codes "w2") ∷ LookAt ByHash (codes "out/a") ∷ Done [] ∷ [])
    ∷ []

overlap_is_refused : verdict toy (project several []) (codes "both" ∷ []) ≡ Overlap (codes "out/a") (codes "w1") (codes "w2")
unfolding kind_of provided
overlap_is_refused = refl

nested_is_refused : verdict toy (project several []) (codes "deep" ∷ []) ≡ Nested (codes "out/a") (codes "out/a/b")
unfolding kind_of provided
nested_is_refused = refl

hidden_is_refused : verdict toy (project several []) (codes "early" ∷ []) ≡ Hidden (codes "out/a") (codes "early") (codes "w1")
unfolding kind_of provided
hidden_is_refused = refl

-- two distinct tasks that wrote the path are a clash, and not the first one's contents
clash_is_refused : verdict toy (project several []) (codes "look" ∷ []) ≡ Fault (codes "look") Clash
unfolding kind_of provided
clash_is_refused = refl

-- a fault comes from the task in which it arose, and what was observed until then is kept
fault_is_refused : (verdict toy (project dynamic []) (codes "y" ∷ codes "none" ∷ codes "t" ∷ []) ≡ Fault (codes "none") Null)
    × (entered_tasks toy (project dynamic []) (codes "y" ∷ codes "none" ∷ codes "t" ∷ []) ≡ codes "y" ∷ codes "none" ∷ [])
unfolding kind_of provided
fault_is_refused = (refl, refl)

-- three tasks one below the other where two may be, and a listing of more bytes than may be
many_is_refused : verdict small (site_with (codes "x")) (codes "page a" ∷ codes "footer" ∷ []) ≡ Accepted
unfolding kind_of provided entries_among
many_is_refused = refl

three_are_too_many : verdict small (project dynamic ((codes "flag", []) ∷ [])) (codes "t" ∷ []) ≡ Many
unfolding kind_of provided
three_are_too_many = refl

big_listing_fails : outcome_of (evaluation small (site_with (codes "x")) (codes "site")) ≡ Failed (codes "site") Big
unfolding kind_of provided entries_among
big_listing_fails = refl

-- a task that no root reaches any more is not live
abbrev pair : List (Task × (List Answer → List Event))
pair = (codes "one", writer_of (codes "out/one") (codes "1")) ∷ (codes "two", writer_of (codes "out/two") (codes "2")) ∷ []

not_live : (provided_at (live_evaluations toy (project pair []) (codes "one" ∷ codes "two" ∷ [])) (codes "out/two") ≡ Some (codes "2"))
    × (provided_at (live_evaluations toy (project pair []) (codes "one" ∷ [])) (codes "out/two") ≡ None)
unfolding kind_of provided
not_live = (refl, refl)

-- contents that were read are observed, those behind an `exists` are not
abbrev lookers : List (Task × (List Answer → List Event))
lookers =
    (codes "reads", λ answers. LookAt ByHash (codes "src") ∷ Done [] ∷ []) ∷ (codes "asks", λ answers. LookAt Exists (codes "src") ∷ Done [] ∷ []) ∷ []

observed_by : List ℕ → List (List ℕ)
observed_by t = strings_in toy (evaluation toy (project lookers ((codes "src", codes "x") ∷ [])) t)

only_what_is_read_is_observed : (observed_by (codes "reads") ≡ [] ∷ codes "x" ∷ []) × (observed_by (codes "asks") ≡ [] ∷ [])
unfolding kind_of provided observed_by
only_what_is_read_is_observed = (refl, refl)
