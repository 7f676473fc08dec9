-- One task more.
use Rattle.std.proofs.Common.{◌≤◌, eqb, zero, suc, ◌≡◌, ◌≢◌, ◌⊎◌, ℕ, ◌<◌, ◌+◌, Bool, true, false, List, [], ◌∷◌, ◌++◌, Option, Some, length, map, refl, sym, ap, ◌∙◌, subst}
use Rattle.std.proofs.Common.{inl, inr, arith}
use Rattle.std.specs.Prelude.{slice_get}
use Rattle.std.specs.List.{Contains}
use Rattle.std.proofs.lemmas.Bool.Decides.{eqb_tells}
use Rattle.std.proofs.lemmas.List.{length_push, get_or_append_left, get_or_push}
use Rattle.std.proofs.lemmas.Option.{slice_get-get_or, slice_get_within, get_or_from_slice_get}
use Rattle.pie_value.specs.declared.task.Task.{Task}
use Rattle.pie_graph.specs.Numbers.{IsMarked}
use Rattle.pie_graph.specs.Rows.{Row, row_at, no_edges}
use Rattle.pie_record.specs.declared.records.Records.{Records}
use Rattle.pie_record.specs.declared.task_record.TaskRecord.{TaskRecord}
use Rattle.pie_record.specs.inner.Records.{record_of}
use Rattle.pie_walk.specs.declared.marks.Mark.{Mark}
use Rattle.pie_walk.specs.declared.marks.Mark.TheVariants.{New}
use Rattle.pie_walk.specs.Marks.{mark_of}
use Rattle.pie_walk.specs.States.{WalkState, with_one_more}
use Rattle.pie_frames.proofs.Tying.{grown_rows}
use Rattle.pie_old.specs.inner.Rows.{IsRowOf, tasks_at}
use Rattle.pie_bottomup.specs.inner.Recorded.{HasOutput, HasEnded, IsStill, AreRecorded, IsMet, AreKnown}
use Rattle.std.proofs.lemmas.Bool.{cases_lt}
use Rattle.std.proofs.lemmas.List.{get_or_past}
use Rattle.pie_store.specs.Canonical.{needs}
use Rattle.std.proofs.Common.{None}

pub flag_more : (flags : List Bool) (b : Bool) (n : ℕ) → IsMarked flags n → IsMarked (flags ++ b ∷ []) n
flag_more flags b n is = by (cases_lt n (length flags))
  where
    by : (n < length flags) ⊎ (length flags ≤ n) → IsMarked (flags ++ b ∷ []) n
    by (inl l) = get_or_append_left flags (b ∷ []) false n l ∙ is
    by (inr past) = let clash : false ≡ true = sym (get_or_past flags n false past) ∙ is in absurd (cc)

more_still : (s : WalkState) (n : ℕ) → IsStill (with_one_more s) n → IsStill s n
more_still s n still = record { calm = λ flag. still.calm (flag_more s.scheduled true n flag); free = still.free }

-- the number of a name stays
pub named_more : (names : List Task) (t u : Task) (n : ℕ) → slice_get names n ≡ Some u → slice_get (names ++ t ∷ []) n ≡ Some u
named_more names t u n e =
    let inside : n < length names = slice_get_within names n u e in
    slice_get-get_or (names ++ t ∷ []) n u (omega (arith, inside, length_push names t))
    ∙ ap Some (get_or_append_left names (t ∷ []) u n inside ∙ get_or_from_slice_get names n u u e)

-- the numbers of names stay
pub all_named_more : (names : List Task) (t : Task) (ns : List ℕ) (us : List Task) → tasks_at names ns ≡ map Some us → tasks_at (names ++ t ∷ []) ns ≡ map Some us
all_named_more names t [] us e = e
all_named_more names t (n ∷ ns) [] e = absurd (let long = ap length e in omega (arith, long))
all_named_more names t (n ∷ ns) (u ∷ us) e =
    let first : slice_get names n ≡ Some u = ap (first_or None) e in
    let others : tasks_at names ns ≡ map Some us = ap rest_of e in
    ap (λ (o : Option Task). o ∷ tasks_at (names ++ t ∷ []) ns) (named_more names t u n first)
    ∙ ap (λ (os : List (Option Task)). Some u ∷ os) (all_named_more names t ns us others)
  where
    first_or : Option Task → List (Option Task) → Option Task
    first_or d [] = d
    first_or d (o ∷ os) = o

    rest_of : List (Option Task) → List (Option Task)
    rest_of [] = []
    rest_of (o ∷ os) = os

pub row_more : (names : List Task) (t : Task) (r : TaskRecord) (row : Row) → IsRowOf names r row → IsRowOf (names ++ t ∷ []) r row
row_more names t r row is = record {
  needs = all_named_more names t row.needs (needs r) is.needs;
  reads = is.reads;
  lists = is.lists;
  writes = is.writes;
}

below_other : (n m : ℕ) → n ≢ m → n < m + 1 → n < m
below_other n m apart l = by (cases_lt n m)
  where
    by : (n < m) ⊎ (m ≤ n) → n < m
    by (inl is) = is
    by (inr past) = absurd (apart (omega (arith, l, past)))

pub recorded_more : (names : List Task) (t : Task) (records : Records) (s : WalkState) → length s.scheduled ≡ length s.rows → AreRecorded names records s
    → AreRecorded (names ++ t ∷ []) records (with_one_more s)
recorded_more names t records s sized are = record {
  each = λ n l still. each n l still (eqb_tells n (length s.rows));
  rows = λ n r kept done free. subst (IsRowOf (names ++ t ∷ []) r) (sym (grown_rows s.rows n)) (row_more names t r (row_at s.rows n) (are.rows n r kept done free));
  done = λ n k output still calls. are.done n k output (more_still s n still) (subst (λ (row : Row). Contains row.needs k) (grown_rows s.rows n) calls);
  outputs = are.outputs;
}
  where
    each : (n : ℕ) → n < length (with_one_more s).rows → IsStill (with_one_more s) n
        → ((eqb n (length s.rows) ≡ true) × (n ≡ length s.rows)) ⊎ ((eqb n (length s.rows) ≡ false) × (n ≢ length s.rows))
        → (r : TaskRecord) × (record_of records n ≡ Some r)
    each n l still (inl last) = absurd (still.calm (get_or_push s.scheduled true false n (sized ∙ sym last.1)))
    each n l still (inr other) = are.each n (below_other n (length s.rows) other.1 (omega (arith, l, length_push s.rows no_edges))) (more_still s n still)

-- a task with a record has a name
pub known_more : (known : Task → Type 0) (names : List Task) (t : Task) (records : Records) (s : WalkState) → ((n : ℕ) → HasOutput records n → n < length names)
    → AreKnown known names records s → AreKnown known (names ++ t ∷ []) records (with_one_more s)
known_more known names t records s inside are n u named output still =
    are n u (old_name (inside n output)) output (more_still s n still)
  where
    old_name : n < length names → slice_get names n ≡ Some u
    old_name l =
        slice_get-get_or names n u l
        ∙ ap Some (sym (get_or_append_left names (t ∷ []) u n l) ∙ get_or_from_slice_get (names ++ t ∷ []) n u u named)

pub met_more : (names : List Task) (t : Task) (marks : List Mark) (u : Task) → IsMet names marks u → IsMet (names ++ t ∷ []) (marks ++ New ∷ []) u
met_more names t marks u is = record {
  number = is.number;
  named = named_more names t u is.number is.named;
  met = λ e. is.met (mark_before marks is.number ∙ e);
}
  where
    mark_before : (ms : List Mark) (n : ℕ) → mark_of ms n ≡ mark_of (ms ++ New ∷ []) n
    mark_before [] zero = refl
    mark_before [] (suc n) = refl
    mark_before (m ∷ ms) zero = refl
    mark_before (m ∷ ms) (suc n) = mark_before ms n

pub ended_more : (records : Records) (marks : List Mark) (n : ℕ) → HasEnded records marks n → HasEnded records (marks ++ New ∷ []) n
ended_more records marks n is = record { output = is.output; settled = sym (mark_before marks n) ∙ is.settled }
  where
    mark_before : (ms : List Mark) (k : ℕ) → mark_of ms k ≡ mark_of (ms ++ New ∷ []) k
    mark_before [] zero = refl
    mark_before [] (suc k) = refl
    mark_before (m ∷ ms) zero = refl
    mark_before (m ∷ ms) (suc k) = mark_before ms k
