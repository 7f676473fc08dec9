-- A worked case: a build of two roots, walked step by step with the laws.
use Rattle.std.proofs.Common.{◌≡◌, Bool, true, false, cond, Option, Some, None, List, [], ◌∷◌, bytes_eq, codes, ap, refl, arith}
use Rattle.pie_model.specs.Tasks.{Task}
use Rattle.pie_model.specs.declared.words.How.TheVariants.{Whole}
use Rattle.pie_model.specs.declared.words.FaultKind.TheVariants.{Null}
use Rattle.pie_model.specs.declared.words.Answer.{Answer}
use Rattle.pie_model.specs.declared.words.Event.{Event}
use Rattle.pie_model.specs.declared.words.Event.TheVariants.{Done, Fail, Write, Require}
use Rattle.pie_model.specs.Evaluation.{World, Project}
use Rattle.pie_model.specs.Records.{Record}
use Rattle.pie_model.specs.inner.Steps.{ChangesAt}
use Rattle.pie_model.specs.inner.Stack.{Frame}
use Rattle.pie_model.specs.Forest.{entered_tasks}
use Rattle.pie_model.specs.Verdict.{verdict}
use Rattle.pie_model.specs.declared.words.Verdict.TheVariants.{Accepted}
use Rattle.pie_model.proofs.Basics.{same_bytes}
use Rattle.pie_step_laws.specs.Frames.{begun, has_written, was_answered, set_aside, record_left}
use Rattle.pie_step_laws.specs.UnderWay.{UnderWay}
use Rattle.pie_step_laws.specs.Roots.{Between}
use Rattle.pie_step_laws.proofs.StepLemmas.{root_begins, require_descends, write_made}
use Rattle.pie_step_laws.proofs.EndLemmas.{task_ends, root_rests, root_ends}
use Rattle.pie_step_laws.proofs.RootLemmas.{build_begins, ended_root_passes, known_root_passes, all_done}

-- room for two tasks
abbrev world : World
world = record { hash = λ b. 0 ∷ b; listing_bytes = λ ps. []; most_bytes = 5; most_tasks = 2; most_events = 9 }

abbrev top : Task
top = 1 ∷ []

abbrev leaf : Task
leaf = 2 ∷ []

-- the first task requires the second one, writes and ends; the second one ends with a value
abbrev top_does : List Answer → Event
top_does [] = Require Whole leaf
top_does (a ∷ []) = Write (codes "out/a") (3 ∷ [])
top_does (a ∷ b ∷ rest) = Done (4 ∷ [])

abbrev project : Project
project = record {
  next = λ t. cond (bytes_eq t top) top_does (λ answers. cond (bytes_eq t leaf) (Done (5 ∷ [])) (Fail Null));
  file = λ p. None;
  entries = λ p. [];
}

-- one more task is recorded
abbrev with_record : (Task → Option Record) → Task → Record → Task → Option Record
with_record R t r x = cond (bytes_eq x t) (Some r) (R x)

adds : (R : Task → Option Record) (t : Task) (r : Record) → bytes_eq t t ≡ true → ChangesAt R (with_record R t r) t r
adds R t r same = record {
  now = ap (λ b. cond b (Some r) (R t)) same;
  others = λ x d. go x d (bytes_eq x t) refl;
}
  where
    go : (x : Task) → (x ≡ t → ⊥) → (b : Bool) → bytes_eq x t ≡ b → cond b (Some r) (R x) ≡ R x
    go x d true e = absurd (d (same_bytes x t e))
    go x d false e = refl

abbrev none : Task → Option Record
none t = None

-- the frames, one after another
abbrev waiting : Frame
waiting = set_aside (begun world top) 8

abbrev answered : Frame
answered = was_answered world project waiting 8 Whole leaf (5 ∷ [])

abbrev written : Frame
written = has_written answered 7 (codes "out/a") (3 ∷ [])

abbrev first_record : Task → Option Record
first_record = with_record none leaf (record_left world (begun world leaf) (5 ∷ []))

abbrev both_records : Task → Option Record
both_records = with_record first_record top (record_left world written (4 ∷ []))

begins : Between world project [] none []
begins = build_begins world project none (λ t. refl)

top_begins : UnderWay world project top [] none (top ∷ []) [] (begun world top)
top_begins = root_begins world project top none [] begins.rests refl (omega arith)

leaf_begins : UnderWay world project top [] none (top ∷ leaf ∷ []) (waiting ∷ []) (begun world leaf)
leaf_begins =
    require_descends world project top [] none (top ∷ []) [] (begun world top) top_begins 8 Whole leaf refl refl refl (omega arith)

leaf_ends : UnderWay world project top [] first_record (top ∷ leaf ∷ []) [] answered
leaf_ends =
    task_ends world project top [] none first_record (top ∷ leaf ∷ []) (begun world leaf) 8 (5 ∷ []) waiting [] leaf_begins refl refl
    (adds none leaf (record_left world (begun world leaf) (5 ∷ [])) refl) Whole refl

top_writes : UnderWay world project top [] first_record (top ∷ leaf ∷ []) [] written
top_writes = write_made world project top [] first_record (top ∷ leaf ∷ []) [] answered leaf_ends 7 (codes "out/a") (3 ∷ []) refl refl

first_root : Between world project (top ∷ []) both_records (top ∷ leaf ∷ [])
first_root =
    ended_root_passes world project [] none both_records [] (top ∷ leaf ∷ []) top (4 ∷ []) begins
    (root_rests world project top [] first_record both_records (top ∷ leaf ∷ []) written 6 (4 ∷ []) top_writes refl refl
    (adds first_record top (record_left world written (4 ∷ [])) refl))
    (root_ends world project top [] first_record both_records (top ∷ leaf ∷ []) written 6 (4 ∷ []) top_writes refl refl)

both_roots : Between world project (top ∷ leaf ∷ []) both_records (top ∷ leaf ∷ [])
both_roots = known_root_passes world project (top ∷ []) both_records (top ∷ leaf ∷ []) leaf first_root refl

-- the walk gives what the definitions compute
entered_so : entered_tasks world project (top ∷ leaf ∷ []) ≡ top ∷ leaf ∷ []
entered_so = (all_done world project (top ∷ leaf ∷ []) both_records (top ∷ leaf ∷ []) both_roots).enters

computed_so : entered_tasks world project (top ∷ leaf ∷ []) ≡ top ∷ leaf ∷ []
computed_so = refl

accepted : verdict world project (top ∷ leaf ∷ []) ≡ Accepted
accepted = (all_done world project (top ∷ leaf ∷ []) both_records (top ∷ leaf ∷ []) both_roots).is
