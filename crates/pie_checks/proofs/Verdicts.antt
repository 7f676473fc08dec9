-- From listings to what the records say.
use Rattle.std.proofs.Common.{◌≢◌, ℕ, ◌<◌, List, length, get_or}
use Rattle.std.specs.Prelude.{Option, Some, None}
use Rattle.std.proofs.lemmas.List.Elements.{All-contains, Contains-get_or}
use Rattle.pie_graph.specs.Numbers.{AllBelow}
use Rattle.pie_value.specs.declared.task.Task.{Task}
use Rattle.pie_value.specs.declared.verdict.Refusal.{Refusal}
use Rattle.pie_value.specs.declared.verdict.Refusal.TheVariants.{Fault, Cycle, Many, Overlap, Nested, Hidden}
use Rattle.pie_record.specs.declared.records.Records.{Records}
use Rattle.pie_checks.specs.Records.{OfTask, WritesAt, MissesAt, Wrote, Missed}
use Rattle.pie_checks.specs.Refusals.{Overlaps, IsProvided, Nests, Hides, IsLeastPlace, NoPlace, NoPair, FindsOverlap, FindsNested, FindsHidden, FindsFirst}
use Rattle.pie_checks.specs.Listings.{Entry, AreNumbered, Stands, IsListed, IsListing, HasOneEach}
use Rattle.pie_checks.specs.Searches.{task_at}
use Rattle.pie_checks.proofs.Numbering.{task_of}

-- ---- numbers of live tasks

pub numbered_writes : (records : Records) (live : List ℕ) (count : ℕ) (es : List Entry) → AllBelow count live → IsListing (WritesAt records live) es
    → AreNumbered count es
numbered_writes records live count es below listing = λ k d l.
    let e = get_or es k d in
    let at = listing.only e.0 e.1 (Contains-get_or es k d l) in
    All-contains (λ n. n < count) live e.1 below at.0

pub numbered_misses : (records : Records) (live : List ℕ) (count : ℕ) (es : List Entry) → AllBelow count live → IsListing (MissesAt records live) es
    → AreNumbered count es
numbered_misses records live count es below listing = λ k d l.
    let e = get_or es k d in
    let at = listing.only e.0 e.1 (Contains-get_or es k d l) in
    All-contains (λ n. n < count) live e.1 below at.0

-- ---- the same relations

to_task : (tasks : List Task) (P : List ℕ → ℕ → Type 0) (es : List Entry) → IsListing P es → (path : List ℕ) (t : Task) → OfTask tasks (Stands es) path t
    → OfTask tasks P path t
to_task tasks P es listing path t h = (h.0, h.1, listing.only path h.0 h.2)

from_task : (tasks : List Task) (P : List ℕ → ℕ → Type 0) (es : List Entry) → IsListing P es → (path : List ℕ) (t : Task) → OfTask tasks P path t
    → OfTask tasks (Stands es) path t
from_task tasks P es listing path t h = (h.0, h.1, listing.each path h.0 h.2)

least_place : (R S : List ℕ → Task → Task → Type 0) → ((p : List ℕ) (a b : Task) → R p a b → S p a b) → ((p : List ℕ) (a b : Task) → S p a b → R p a b)
    → (p : List ℕ) (a b : Task) → IsLeastPlace R p a b → IsLeastPlace S p a b
least_place R S to back p a b h = record { holds = to p a b h.holds; least = λ q c d s. h.least q c d (back q c d s) }

no_place : (R S : List ℕ → Task → Task → Type 0) → ((p : List ℕ) (a b : Task) → S p a b → R p a b) → NoPlace R → NoPlace S
no_place R S back h = λ p a b s. h p a b (back p a b s)

module _ (tasks : List Task) (records : Records) (live : List ℕ) (writes : List Entry) (lw : IsListing (WritesAt records live) writes)
    (numbered : AreNumbered (length tasks) writes) where
  overlaps_to : (p : List ℕ) (a b : Task) → Overlaps (OfTask tasks (Stands writes)) p a b → Overlaps (Wrote tasks records live) p a b
  overlaps_to p a b h = (to_task tasks (WritesAt records live) writes lw p a h.0, to_task tasks (WritesAt records live) writes lw p b h.1, h.2)

  overlaps_back : (p : List ℕ) (a b : Task) → Overlaps (Wrote tasks records live) p a b → Overlaps (OfTask tasks (Stands writes)) p a b
  overlaps_back p a b h = (from_task tasks (WritesAt records live) writes lw p a h.0, from_task tasks (WritesAt records live) writes lw p b h.1, h.2)

  provided_to : (p : List ℕ) → IsListed writes p → IsProvided (Wrote tasks records live) p
  provided_to p h = (task_at tasks h.0, (h.0, task_of tasks h.0 (All-contains (λ e. e.1 < length tasks) writes (p, h.0) numbered h.1), lw.only p h.0 h.1))

  provided_back : (p : List ℕ) → IsProvided (Wrote tasks records live) p → IsListed writes p
  provided_back p h = (h.1.0, lw.each p h.1.0 h.1.2)

  nests_to : (p q : List ℕ) → Nests (IsListed writes) p q → Nests (IsProvided (Wrote tasks records live)) p q
  nests_to p q h = (provided_to p h.0, provided_to q h.1, h.2)

  nests_back : (p q : List ℕ) → Nests (IsProvided (Wrote tasks records live)) p q → Nests (IsListed writes) p q
  nests_back p q h = (provided_back p h.0, provided_back q h.1, h.2)

  none_overlap : FindsOverlap (OfTask tasks (Stands writes)) None → NoPlace (Overlaps (Wrote tasks records live))
  none_overlap h = no_place (Overlaps (OfTask tasks (Stands writes))) (Overlaps (Wrote tasks records live)) overlaps_back h

  none_nested : FindsNested (IsListed writes) None → NoPair (Nests (IsProvided (Wrote tasks records live)))
  none_nested h = λ p q s. h p q (nests_back p q s)

  pub first_overlap : (refusal : Refusal) → FindsOverlap (OfTask tasks (Stands writes)) (Some refusal)
      → FindsFirst (Wrote tasks records live) (Missed tasks records live) (Some refusal)
  first_overlap (Overlap p a b) h = least_place (Overlaps (OfTask tasks (Stands writes))) (Overlaps (Wrote tasks records live)) overlaps_to overlaps_back p
      a b h
  first_overlap (Nested p q) h = absurd h
  first_overlap (Hidden p a b) h = absurd h
  first_overlap (Fault f) h = absurd h
  first_overlap (Cycle ts) h = absurd h
  first_overlap Many h = absurd h

  pub first_nested : (refusal : Refusal) → FindsOverlap (OfTask tasks (Stands writes)) None → FindsNested (IsListed writes) (Some refusal)
      → FindsFirst (Wrote tasks records live) (Missed tasks records live) (Some refusal)
  first_nested (Nested p q) none h = (none_overlap none, record { holds = nests_to p q h.holds; least = λ r s n. h.least r s (nests_back r s n) })
  first_nested (Overlap p a b) none h = absurd h
  first_nested (Hidden p a b) none h = absurd h
  first_nested (Fault f) none h = absurd h
  first_nested (Cycle ts) none h = absurd h
  first_nested Many none h = absurd h

  module _ (misses : List Entry) (lm : IsListing (MissesAt records live) misses) where
    hides_to : (p : List ℕ) (a b : Task) → Hides (OfTask tasks (Stands writes)) (OfTask tasks (Stands misses)) p a b
        → Hides (Wrote tasks records live) (Missed tasks records live) p a b
    hides_to p a b h = (to_task tasks (MissesAt records live) misses lm p a h.0, to_task tasks (WritesAt records live) writes lw p b h.1, h.2)

    hides_back : (p : List ℕ) (a b : Task) → Hides (Wrote tasks records live) (Missed tasks records live) p a b
        → Hides (OfTask tasks (Stands writes)) (OfTask tasks (Stands misses)) p a b
    hides_back p a b h = (from_task tasks (MissesAt records live) misses lm p a h.0, from_task tasks (WritesAt records live) writes lw p b h.1, h.2)

    pub first_hidden : (found : Option Refusal) → FindsOverlap (OfTask tasks (Stands writes)) None → FindsNested (IsListed writes) None
        → FindsHidden (OfTask tasks (Stands writes)) (OfTask tasks (Stands misses)) found
        → FindsFirst (Wrote tasks records live) (Missed tasks records live) found
    first_hidden None none flat h = (
      none_overlap none,
      none_nested flat,
      no_place (Hides (OfTask tasks (Stands writes)) (OfTask tasks (Stands misses)))
          (Hides (Wrote tasks records live) (Missed tasks records live)) hides_back h,
    )
    first_hidden (Some (Hidden p a b)) none flat h = (
      none_overlap none,
      none_nested flat,
      least_place (Hides (OfTask tasks (Stands writes)) (OfTask tasks (Stands misses))) (Hides (Wrote tasks records live) (Missed tasks records live))
          hides_to hides_back p a b h,
    )
    first_hidden (Some (Overlap p a b)) none flat h = absurd h
    first_hidden (Some (Nested p q)) none flat h = absurd h
    first_hidden (Some (Fault f)) none flat h = absurd h
    first_hidden (Some (Cycle ts)) none flat h = absurd h
    first_hidden (Some Many) none flat h = absurd h

-- where no two tasks wrote one path, each path stands beside one number
pub one_each : (tasks : List Task) (writes : List Entry) → ((m n : ℕ) → m < length tasks → n < length tasks → m ≢ n → task_at tasks m ≢ task_at tasks n)
    → AreNumbered (length tasks) writes
    → FindsOverlap (OfTask tasks (Stands writes)) None → HasOneEach writes
one_each tasks writes distinct numbered none path sh =
    let lm = All-contains (λ e. e.1 < length tasks) writes (path, sh.0) numbered sh.2 in
    let ln = All-contains (λ e. e.1 < length tasks) writes (path, sh.1) numbered sh.3 in
    none path (task_at tasks sh.0) (task_at tasks sh.1) (
      (sh.0, task_of tasks sh.0 lm, sh.2),
      (sh.1, task_of tasks sh.1 ln, sh.3),
      distinct sh.0 sh.1 lm ln sh.4,
    )
