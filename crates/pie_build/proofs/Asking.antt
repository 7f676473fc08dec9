-- Which calls the parts of a clean build make.
use Rattle.std.proofs.Common.{◌≡◌, inl, inr, ℕ, suc, Bool, true, false, List, [], ◌∷◌, ◌++◌, Option, None, Some, Vec, Global, Ok, Err, Result}
use Rattle.std.proofs.Common.{refl, sym, ap, subst, ◌∙◌, append_assoc, append-nil, arith}
use Rattle.std.specs.Prelude.{◌||◌, All, IfSome, codes}
use Rattle.std.specs.List.{list_any}
use Rattle.std.proofs.lemmas.Bool.{false≢true}
use Rattle.std.proofs.lemmas.List.Elements.{All-append, All-cons, All-nil, All-take}
use Rattle.pie_base.specs.Path.{same_text}
use Rattle.pie_commit.specs.declared.plan.Pending.{Pending}
use Rattle.pie_commit.specs.declared.plan.Pending.TheVariants.{Keep, Put, Drop}
use Rattle.pie_commit.specs.declared.plan.Plan.{Plan}
use Rattle.pie_commit.specs.inner.Plans.{is_empty, is_own}
use Rattle.pie_commit.specs.inner.Steps.{AreCallsOf, IsCallOf, MadeBy, Makes, Step, beginning, changing, ending, pending_steps, removing, steps_of, store_steps, writing}
use Rattle.pie_commit.specs.inner.Steps.Step.{Writes, Removes, Syncs}
use Rattle.pie_commit.proofs.Standing.{same_itself}
use Rattle.pie_files.specs.Calls.{Called}
use Rattle.pie_files.specs.declared.files.Call.{Call}
use Rattle.pie_files.specs.declared.files.Call.TheVariants.{Read, Names, AllUnder, Write, Remove, Sync}
use Rattle.pie_files.specs.declared.files.FilesError.{FilesError}
use Rattle.pie_files.specs.declared.files.FilesError.TheVariants.{Failed, OutOfMemory}
use Rattle.pie_named.specs.Asking.{MakesOnly}
use Rattle.pie_named.proofs.Calls.{asks_now, calls_as, calls_then, made_once, no_calls}
use Rattle.pie_project.specs.Looking.{Asks, pipeline_path, prefix_calls, roots_path}
use Rattle.pie_build.specs.Left.{may_change}
use Rattle.pie_build.specs.inner.Asked.{IsChangeOf, IsOwnCall, MakesOwn}
use Rattle.pie_build.specs.inner.Plans.{IsPlanOf}
use Rattle.pie_build.proofs.OwnPaths.{none_own}

-- ---- looks

pub makes_none : (before after : Option (List Call)) → after ≡ before → MakesOwn before after
makes_none before after same = no_calls IsOwnCall before after same

pub makes_then : (before mid after : Option (List Call)) → MakesOwn before mid → MakesOwn mid after → MakesOwn before after
makes_then before mid after first second = calls_then IsOwnCall before mid after first second

-- all that lies under `out/` is listed
pub lists_out : {S T : Type 0} (asked : S → Option (List Call)) (faults : S → ℕ) (path : List ℕ) (old new : S) (result : Result T FilesError)
    → path ≡ codes "out" → Called asked faults (λ c. c ≡ AllUnder path) old new result → MakesOwn (asked old) (asked new)
lists_out asked faults path old new result is called =
    made_once IsOwnCall None (AllUnder path) (asked old) (asked new) is (asks_now asked faults (AllUnder path) old new result called)

-- the pending names are looked for
pub reads_pending : {S T : Type 0} (asked : S → Option (List Call)) (faults : S → ℕ) (path : List ℕ) (old new : S) (result : Result T FilesError)
    → path ≡ codes ".pie/pending" → Called asked faults (λ c. c ≡ Read path) old new result → MakesOwn (asked old) (asked new)
reads_pending asked faults path old new result is called =
    made_once IsOwnCall None (Read path) (asked old) (asked new) (inl (inr (inr is))) (asks_now asked faults (Read path) old new result called)

-- what the search takes for a function that makes such calls alone
pub ruleset own_calls = (makes_none, makes_then, lists_out, reads_pending)

project_calls : All IsOwnCall prefix_calls
project_calls =
    All-cons IsOwnCall (Read pipeline_path) (Read roots_path ∷ []) (inl (inl refl))
    (All-cons IsOwnCall (Read roots_path) [] (inl (inr (inl refl))) (All-nil IsOwnCall))

-- the project is read
pub reads_project : (before after : Option (List Call)) → Asks prefix_calls before after → MakesOwn before after
reads_project None after asks = record { made = tt }
reads_project (Some calls) after asks = record { made = record { more = _; are = asks.1; each = All-take IsOwnCall asks.0 prefix_calls project_calls } }

-- ---- the steps of a plan

first_of : (a b c d e : Bool) → a ≡ true → (a || b || c || d || e) ≡ true
first_of a b c d e is = ap (λ x. x || b || c || d || e) is

second_of : (a b c d e : Bool) → b ≡ true → (a || b || c || d || e) ≡ true
second_of true b c d e is = refl
second_of false b c d e is = ap (λ x. x || c || d || e) is

third_of : (a b c d e : Bool) → c ≡ true → (a || b || c || d || e) ≡ true
third_of true b c d e is = refl
third_of false true c d e is = refl
third_of false false c d e is = ap (λ x. x || d || e) is

fourth_of : (a b c d e : Bool) → d ≡ true → (a || b || c || d || e) ≡ true
fourth_of true b c d e is = refl
fourth_of false true c d e is = refl
fourth_of false false true d e is = refl
fourth_of false false false d e is = ap (λ x. x || e) is

fifth_of : (a b c d e : Bool) → e ≡ true → (a || b || c || d || e) ≡ true
fifth_of true b c d e is = refl
fifth_of false true c d e is = refl
fifth_of false false true d e is = refl
fifth_of false false false true e is = refl
fifth_of false false false false e is = is

-- one of two holds
or_first : (a b : Bool) → a ≡ true → (a || b) ≡ true
or_first a b is = ap (λ x. x || b) is

or_second : (a b : Bool) → b ≡ true → (a || b) ≡ true
or_second true b is = refl
or_second false b is = is

-- a step changes a path of the plan
abbrev IsStepOf : Plan → Step → Type 0
IsStepOf p (Writes q) = is_own p q ≡ true
IsStepOf p (Removes q) = is_own p q ≡ true
IsStepOf p Syncs = Unit {0}

module _ (p : Plan) where
  owns_marker : is_own p p.marker ≡ true
  owns_marker = first_of (same_text p.marker p.marker) _ _ _ _ (same_itself p.marker)

  owns_place : is_own p p.place ≡ true
  owns_place = second_of (same_text p.place p.marker) (same_text p.place p.place) _ _ _ (same_itself p.place)

  owns_names : is_own p p.names_place ≡ true
  owns_names =
      third_of (same_text p.names_place p.marker) (same_text p.names_place p.place) (same_text p.names_place p.names_place) _ _ (same_itself p.names_place)

  removals_own : (paths : List (List ℕ)) → ((q : List ℕ) → list_any (same_text q) paths ≡ true → is_own p q ≡ true) → All (IsStepOf p) (removing paths)
  removals_own [] owns = All-nil (IsStepOf p)
  removals_own (x ∷ xs) owns =
      All-cons (IsStepOf p) (Removes x) (removing xs) (owns x (or_first (same_text x x) (list_any (same_text x) xs) (same_itself x)))
      (removals_own xs (λ q is. owns q (or_second (same_text q x) (list_any (same_text q) xs) is)))

  writes_own : (files : List (List ℕ × Vec ℕ Global))
      → ((q : List ℕ) → list_any (λ (w : List ℕ × Vec ℕ Global). same_text q w.0) files ≡ true → is_own p q ≡ true) → All (IsStepOf p) (writing files)
  writes_own [] owns = All-nil (IsStepOf p)
  writes_own (x ∷ xs) owns =
      All-cons (IsStepOf p) (Writes x.0) (writing xs)
      (owns x.0 (or_first (same_text x.0 x.0) (list_any (λ (w : List ℕ × Vec ℕ Global). same_text x.0 w.0) xs) (same_itself x.0)))
      (writes_own xs (λ q is. owns q (or_second (same_text q x.0) (list_any (λ (w : List ℕ × Vec ℕ Global). same_text q w.0) xs) is)))

  pending_own : (names : Pending) → All (IsStepOf p) (pending_steps p.names_place names)
  pending_own Keep = All-nil (IsStepOf p)
  pending_own (Put bytes) = All-cons (IsStepOf p) (Writes p.names_place) [] owns_names (All-nil (IsStepOf p))
  pending_own Drop = All-cons (IsStepOf p) (Removes p.names_place) [] owns_names (All-nil (IsStepOf p))

  store_own : (store : Option (Vec ℕ Global)) → All (IsStepOf p) (store_steps p.place store)
  store_own None = All-nil (IsStepOf p)
  store_own (Some bytes) = All-cons (IsStepOf p) (Writes p.place) [] owns_place (All-nil (IsStepOf p))

  sync_own : All (IsStepOf p) (Syncs ∷ [])
  sync_own = All-cons (IsStepOf p) Syncs [] tt (All-nil (IsStepOf p))

  changing_own : All (IsStepOf p) (changing p)
  changing_own =
      All-append (IsStepOf p) (removing p.removals.items) _
      (removals_own p.removals.items
      (λ q is. fourth_of (same_text q p.marker) (same_text q p.place) (same_text q p.names_place) (list_any (same_text q) p.removals.items) _ is))
      (All-append (IsStepOf p) (writing p.writes.items) _
      (writes_own p.writes.items
      (λ q is. fifth_of (same_text q p.marker) (same_text q p.place) (same_text q p.names_place) (list_any (same_text q) p.removals.items)
      (list_any (λ (w : List ℕ × Vec ℕ Global). same_text q w.0) p.writes.items) is))
      (All-append (IsStepOf p) (pending_steps p.names_place p.pending) _ (pending_own p.pending)
      (All-append (IsStepOf p) (store_steps p.place p.store) (Syncs ∷ []) (store_own p.store) sync_own)))

  steps_own : All (IsStepOf p) (steps_of p)
  steps_own =
      All-append (IsStepOf p) (beginning p) _ (All-cons (IsStepOf p) (Writes p.marker) (Syncs ∷ []) owns_marker sync_own)
      (All-append (IsStepOf p) (changing p) (ending p) changing_own (All-cons (IsStepOf p) (Removes p.marker) (Syncs ∷ []) owns_marker sync_own))

  call_own : (s : Step) (c : Call) → IsStepOf p s → IsCallOf s c → IsChangeOf p c
  call_own (Writes q) c own is = subst (IsChangeOf p) (sym is.1) own
  call_own (Removes q) c own is = subst (IsChangeOf p) (sym is) own
  call_own Syncs c own is = subst (IsChangeOf p) (sym is) tt

  -- the calls of the first of some steps
  calls_own : (front rest : List Step) (made : List Call) → All (IsStepOf p) (front ++ rest) → AreCallsOf front made → All (IsChangeOf p) made
  calls_own [] rest [] all are = All-nil (IsChangeOf p)
  calls_own [] rest (c ∷ cs) all are = absurd are
  calls_own (s ∷ ss) rest [] all are = All-nil (IsChangeOf p)
  calls_own (s ∷ ss) rest (c ∷ cs) all are =
      All-cons (IsChangeOf p) c cs (call_own s c (all 0 s (omega arith)) are.0) (calls_own ss rest cs (λ k d lt. all (suc k) d (omega (arith, lt))) are.1)

  made_own : {T : Type 0} (result : Result T FilesError) (made : List Call) → MadeBy result (steps_of p) made → All (IsChangeOf p) made
  made_own (Ok value) made are = calls_own (steps_of p) [] made (subst (All (IsStepOf p)) (sym (append-nil (steps_of p))) steps_own) are
  made_own (Err Failed) made are =
      calls_own (are.front ++ are.step ∷ []) are.rest made
      (subst (All (IsStepOf p)) (are.is ∙ sym (append_assoc are.front (are.step ∷ []) are.rest)) steps_own) are.calls_are
  made_own (Err OutOfMemory) made are = calls_own are.front are.rest made (subst (All (IsStepOf p)) are.is steps_own) are.calls_are

  some_own : {T : Type 0} (result : Result T FilesError) (before after : Option (List Call))
      → IfSome before (λ calls. (made : List Call) × (after ≡ Some (calls ++ made)) × MadeBy result (steps_of p) made) → MakesOnly (IsChangeOf p) before after
  some_own result None after makes = record { made = tt }
  some_own result (Some calls) after makes = record {
    made = record { more = makes.0; are = makes.1; each = made_own result makes.0 makes.2 };
  }

-- a commit changes paths of its plan, and looks at nothing
pub commit_calls : {S T : Type 0} (asked : S → Option (List Call)) (p : Plan) (old new : S) (result : Result T FilesError)
    → (is_empty p ≡ true → new ≡ old) → (is_empty p ≡ false → Makes asked (steps_of p) old new result) → MakesOnly (IsChangeOf p) (asked old) (asked new)
commit_calls {S} asked p old new result none makes = by (is_empty p) refl
  where
    by : (b : Bool) → is_empty p ≡ b → MakesOnly (IsChangeOf p) (asked old) (asked new)
    by true e = no_calls (IsChangeOf p) (asked old) (asked new) (ap asked (none e))
    by false e = some_own p result (asked old) (asked new) (makes e)

-- a path of the plan of a clean build is one that it may change
module _ (removed : List (List ℕ)) (contents : List (List ℕ × Vec ℕ Global)) (pending : Pending) (store : Vec ℕ Global) (p : Plan)
    (plan : IsPlanOf removed contents pending store p) where
  own_changes : (q : List ℕ) → is_own p q ≡ true → may_change q ≡ true
  own_changes q own = by (may_change q) refl
    where
      by : (b : Bool) → may_change q ≡ b → may_change q ≡ true
      by true e = e
      by false e = absurd (false≢true (sym (none_own removed contents pending store p plan q e) ∙ own))

  change_own : (c : Call) → IsChangeOf p c → IsOwnCall c
  change_own (Read q) is = absurd is
  change_own (Names q) is = absurd is
  change_own (AllUnder q) is = absurd is
  change_own (Write q mark) is = own_changes q is
  change_own (Remove q) is = own_changes q is
  change_own Sync is = tt

  pub changes_own : (before after : Option (List Call)) → MakesOnly (IsChangeOf p) before after → MakesOwn before after
  changes_own before after made = calls_as (IsChangeOf p) IsOwnCall before after change_own made
