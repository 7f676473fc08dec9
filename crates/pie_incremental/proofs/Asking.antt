-- Which paths a build asks for: at first, while it evaluates, and where it puts into place what was made.
use Rattle.std.proofs.Common.{◌≡◌, ◌⊎◌, inl, inr, ℕ, Bool, true, false, ◌||◌, List, [], ◌∷◌, ◌++◌, length, drop, map, Option, None, Some, Vec, Global}
use Rattle.std.proofs.Common.{refl, sym, ap, subst, ◌∙◌}
use Rattle.std.specs.Prelude.{Contains, IfSome, Result, Ok, Err, is_some, slice_get}
use Rattle.std.specs.List.{All, list_any}
use Rattle.std.proofs.lemmas.Bool.{false≢true}
use Rattle.std.proofs.lemmas.List.{append-nil, append_assoc, map-append}
use Rattle.std.proofs.lemmas.List.Elements.{All-nil, All-cons, All-take}
use Rattle.std.proofs.Math.Seq.{drop-append_seam}
use Rattle.pie_base.specs.Path.{is_below, rest_below}
use Rattle.pie_bottomup.specs.declared.plan.Plan.{Plan}
use Rattle.pie_bottomup.specs.declared.state.Core.{Core}
use Rattle.pie_bottomup.specs.declared.state.First.TheVariants.{Done as Tested}
use Rattle.pie_bottomup.specs.inner.Asked.{IsNamedIn, IsTestedIn, IsSeenInHand, StepsAsking}
use Rattle.pie_bottomup.specs.inner.Exact.{IsSiteNow}
use Rattle.pie_bottomup.specs.inner.Going.{IsBuildNow}
use Rattle.pie_bottomup.specs.inner.Ran.{BeginsKnowing}
use Rattle.pie_bottomup.specs.inner.States.{StartsOne}
use Rattle.pie_builder_laws.specs.Events.{AreCompiled}
use Rattle.pie_builder_laws.proofs.Naming.{named_back}
use Rattle.pie_check_laws.proofs.Members.{here_or_there, none_in}
use Rattle.pie_check_laws.proofs.PathKinds.{rest_is}
use Rattle.pie_code.specs.declared.code.Code.{Code}
use Rattle.pie_commit.specs.declared.plan.Plan.{Plan as CommitPlan}
use Rattle.pie_commit.specs.inner.Plans.{is_empty}
use Rattle.pie_commit.specs.inner.Steps.{AreCallsOf, IsCallOf, MadeBy, Makes, Step, steps_of}
use Rattle.pie_commit.specs.inner.Steps.Step.{Writes, Removes, Syncs}
use Rattle.pie_core_laws.specs.Update.{Update}
use Rattle.pie_files.specs.Directory.{Directory}
use Rattle.pie_files.specs.declared.files.Call.{Call}
use Rattle.pie_files.specs.declared.files.Call.TheVariants.{Read, Names, AllUnder, Write, Remove, Sync}
use Rattle.pie_files.specs.declared.files.FilesError.{FilesError}
use Rattle.pie_files.specs.declared.files.FilesError.TheVariants.{Failed, OutOfMemory}
use Rattle.pie_files.specs.Calls.{Called}
use Rattle.pie_model.specs.Paths.{among, after_prefix}
use Rattle.pie_model.specs.Reasons.{project_files}
use Rattle.pie_model.specs.Reasons.MayAsk.{project_file, changed, above, by_run}
use Rattle.pie_model.proofs.Basics.{among_here, among_there, among_left}
use Rattle.pie_named.specs.Asking.{AsksFor, LooksAt, MakesOnly}
use Rattle.pie_named.proofs.Calls.{no_calls, made_once, asks_now, calls_then, calls_as, asks_as}
use Rattle.pie_parser.specs.FunctionTrees.{FunctionTree}
use Rattle.pie_project.specs.Looking.{Asks, pipeline_path, prefix_calls, roots_path}
use Rattle.pie_store.specs.declared.image.StoreImage.{StoreImage}
use Rattle.pie_store.specs.Pending.{in_order}
use Rattle.pie_value.specs.Canonical.{enc_task}
use Rattle.pie_value.specs.declared.task.Task.{Task}
use Rattle.pie_incremental.specs.Asked.{LooksOnlyAt}
use Rattle.pie_incremental.specs.inner.Asked.{IsChange, IsProjectFile, IsAtFirst, MayAskIn, AsksWith, SettlesAsking, AsksEach, BuildsAsking}
use Rattle.pie_incremental.specs.inner.Evaluated.{BeginsNow, StaysStanding}
use Rattle.pie_incremental.specs.inner.Ran.{IsOneOf, RunsOn, RunsWhole}
use Rattle.pie_incremental.proofs.Running.{begins_by, none_yet}

-- ---- the beginning

pub looks_not : (P : List ℕ → Type 0) (before after : Option (List Call)) → after ≡ before → AsksFor P before after
looks_not P before after same = no_calls (LooksAt P) before after same

pub looks_then : (P : List ℕ → Type 0) (before mid after : Option (List Call)) → AsksFor P before mid → AsksFor P mid after → AsksFor P before after
looks_then P before mid after first second = calls_then (LooksAt P) before mid after first second

-- one of the project's files
pub looks_own : {S T : Type 0} (asked : S → Option (List Call)) (faults : S → ℕ) (path text : List ℕ) (old new : S) (result : Result T FilesError)
    → path ≡ text → among text project_files ≡ true → Called asked faults (λ c. c ≡ Read path) old new result → AsksFor IsProjectFile (asked old) (asked new)
looks_own asked faults path text old new result is own called =
    made_once (LooksAt IsProjectFile) None (Read path) (asked old) (asked new) (ap (λ p. among p project_files) is ∙ own)
    (asks_now asked faults (Read path) old new result called)

-- what the search takes for a function that looks at them alone
pub ruleset own_looks = (looks_not, looks_then, looks_own)

project_calls : All (LooksAt IsProjectFile) prefix_calls
project_calls =
    All-cons (LooksAt IsProjectFile) (Read pipeline_path) (Read roots_path ∷ []) (refl {a = true})
    (All-cons (LooksAt IsProjectFile) (Read roots_path) [] (refl {a = true}) (All-nil (LooksAt IsProjectFile)))

-- reading a project
pub looks_project : (before after : Option (List Call)) → Asks prefix_calls before after → AsksFor IsProjectFile before after
looks_project None after asks = record { made = tt }
looks_project (Some calls) after asks = record {
  made = record { more = _; are = asks.1; each = All-take (LooksAt IsProjectFile) asks.0 prefix_calls project_calls };
}

-- names, and then the pipeline
pub first_names : (list pending names : List (List ℕ)) (before after : Option (List Call)) → names ≡ in_order (list ++ pending)
    → AsksFor (Contains names) before after → AsksFor (IsAtFirst list pending) before after
first_names list pending names before after is asks =
    asks_as (Contains names) (IsAtFirst list pending) before after (λ p h. inr (subst (λ ns. Contains ns p) is h)) asks

pub first_files : (list pending : List (List ℕ)) (before after : Option (List Call)) → AsksFor IsProjectFile before after
    → AsksFor (IsAtFirst list pending) before after
first_files list pending before after asks = asks_as IsProjectFile (IsAtFirst list pending) before after (λ p h. inl h) asks

-- ---- the paths that a build may ask for

is_there : (o : Option (List ℕ)) → is_some o ≡ true → (rest : List ℕ) × (o ≡ Some rest)
is_there None h = absurd (false≢true h)
is_there (Some rest) h = (rest, refl)

-- a name below a directory
pub record IsBelowIn (names : List (List ℕ)) (p : List ℕ) : Type 0 where
  pub name : List ℕ
  pub listed : among name names ≡ true
  pub rest : List ℕ
  pub is : after_prefix (p ++ 47 ∷ []) name ≡ Some rest

below_in : (names : List (List ℕ)) (p : List ℕ) → list_any (is_below p) names ≡ true → IsBelowIn names p
below_in [] p h = absurd (false≢true h)
below_in (n ∷ ns) p h = by (is_below p n) refl h (below_in ns p)
  where
    by : (b : Bool) → is_below p n ≡ b → (b || list_any (is_below p) ns) ≡ true → (list_any (is_below p) ns ≡ true → IsBelowIn ns p) → IsBelowIn (n ∷ ns) p
    by true is some later =
        let r = is_there (rest_below p n) is in
        record { name = n; listed = among_here n ns; rest = r.0; is = rest_is p n ∙ r.1 }
    by false is some later =
        let r = later some in record { name = r.name; listed = among_there r.name n ns r.listed; rest = r.rest; is = r.is }

named_asks : (u : Update) (ran : List Task) (p : List ℕ) → IsNamedIn u p → MayAskIn u ran p
named_asks u ran p (inl is) = changed is
named_asks u ran p (inr is) = let r = below_in u.names p is in above r.name r.rest r.listed r.is

among_more : (ran more : List Task) (t : List ℕ) → among t (map enc_task ran) ≡ true → among t (map enc_task (ran ++ more)) ≡ true
among_more ran more t h =
    subst (λ ts. among t ts ≡ true) (sym (map-append enc_task ran more)) (among_left t (map enc_task ran) (map enc_task more) h)

asks_longer : (u : Update) (ran more : List Task) (p : List ℕ) → MayAskIn u ran p → MayAskIn u (ran ++ more) p
asks_longer u ran more p (project_file is) = project_file is
asks_longer u ran more p (changed is) = changed is
asks_longer u ran more p (above q rest is e) = above q rest is e
asks_longer u ran more p (by_run t is sees) = by_run t (among_more ran more t is) sees

-- ---- the evaluation

one_some : (a b : Task) → Some a ≡ Some b → a ≡ b
one_some a b e = cc

-- a task that is one of those that were started
one_listed : (c : Core) (gained : List Task) (n : ℕ) (task : Task) → slice_get c.tables.names n ≡ Some task → IsOneOf c.tables gained n
    → among (enc_task task) (map enc_task gained) ≡ true
one_listed c gained n task named one =
    named_back gained task (subst (Contains gained) (one_some one.task task (sym one.named ∙ named)) one.listed)

-- the tasks that were started, where one more may have been
more_gained : (r s t gained : List Task) → s ≡ r ++ gained → StartsOne s t → (more : List Task) × (drop (length r) t ≡ gained ++ more)
more_gained r s t gained is (inl same) =
    ([], ap (drop (length r)) (same ∙ is) ∙ drop-append_seam r gained ∙ sym (append-nil gained))
more_gained r s t gained is (inr one) = (
  one.0 ∷ [],
  ap (drop (length r)) (one.1 ∙ ap (λ (ts : List Task). ts ++ one.0 ∷ []) is ∙ append_assoc r gained (one.0 ∷ []))
      ∙ drop-append_seam r (gained ++ one.0 ∷ []),
)

pub settles_first : (held : Option Directory) (c : Core) (runs : List Task) (asked asked_now : Option (List Call)) → asked_now ≡ asked
    → SettlesAsking held c runs runs asked asked_now
settles_first held c runs asked asked_now same = λ u funcs digests site now stands knows none.
    no_calls (LooksAt (MayAskIn u (drop (length runs) runs))) asked asked_now same

-- one step more
module _ (held : Option Directory) (a b : Core) (r s t : List Task) (asked mid asked_now : Option (List Call)) (plan : b.plan ≡ a.plan)
    (stands : StaysStanding held a b) (before : RunsOn held a b r s) (starts : StartsOne s t) (step : StepsAsking b mid asked_now)
    (so_far : SettlesAsking held a r s asked mid) where
  pub settles_more : SettlesAsking held a r t asked asked_now
  settles_more = λ u funcs digests site now begins knows none.
      let at : IsBuildNow u b.plan = subst (λ (p : Plan). IsBuildNow u p) (sym plan) now in
      let have = (before u funcs digests site now begins knows).1 in
      let more = more_gained r s t have.gained have.is starts in
      let were : drop (length r) s ≡ have.gained = ap (drop (length r)) have.is ∙ drop-append_seam r have.gained in
      let seen : (p : List ℕ) → IsTestedIn u b p ⊎ IsSeenInHand u b p → MayAskIn u have.gained p =
      λ p may. elim may [
        | inl tested ↦ named_asks u have.gained p tested.named
        | inr hand ↦
            by_run (enc_task hand.task)
            (one_listed b have.gained hand.hand.no.0 hand.task hand.named
            (elim (have.only hand.hand.no.0 hand.ran) [
              | inl was ↦ absurd (false≢true (sym (none hand.hand.no.0) ∙ was))
              | inr one ↦ one
            ])) hand.observed
      ] in
      subst (λ ran. AsksFor (MayAskIn u ran) asked asked_now) (sym more.1)
      (asks_as (MayAskIn u have.gained) (MayAskIn u (have.gained ++ more.0)) asked asked_now (asks_longer u have.gained more.0)
      (calls_then (LooksAt (MayAskIn u have.gained)) asked mid asked_now
      (subst (λ ran. AsksFor (MayAskIn u ran) asked mid) were (so_far u funcs digests site now begins knows none))
      (asks_as (λ p. IsTestedIn u b p ⊎ IsSeenInHand u b p) (MayAskIn u have.gained) mid asked_now seen (step u at (stands u site now begins)))))

-- of each update
pub asks_each : (held : Option Directory) (fs : List FunctionTree) (codes : List Code) (digests : List (List ℕ × List ℕ)) (roots : List Task) (s : StoreImage)
    (names : List (List ℕ)) (c : Core) (before after : List Task) (asked asked_now : Option (List Call)) → AreCompiled fs codes
    → BeginsNow fs codes roots s.funcs digests s.rows names c → (c.first ≡ Tested → ⊥) → BeginsKnowing s.funcs digests s.rows names c
    → RunsWhole held c before after → SettlesAsking held c before after asked asked_now
    → AsksEach held fs digests roots s names before after asked asked_now
asks_each held fs codes digests roots s names c before after asked asked_now compiled begins fresh knows runs asks = record {
  each = λ u here stored.
      let begun = begins.each u held here compiled stored in
      let site : IsSiteNow u held = record { holds = here.holds; apart = here.separates; besides = here.met } in
      let tests = begins_by c fresh runs.few in
      asks u s.funcs digests site begun.0 begun.1 (knows u stored tests) (none_yet u c fresh tests begun.1);
}

-- ---- the end

step_changes : (s : Step) (c : Call) → IsCallOf s c → IsChange c
step_changes (Writes p) c is = subst IsChange (sym is.1) tt
step_changes (Removes p) c is = subst IsChange (sym is) tt
step_changes Syncs c is = subst IsChange (sym is) tt

steps_change : (steps : List Step) (made : List Call) → AreCallsOf steps made → All IsChange made
steps_change [] [] are = All-nil IsChange
steps_change [] (c ∷ cs) are = absurd are
steps_change (s ∷ ss) [] are = All-nil IsChange
steps_change (s ∷ ss) (c ∷ cs) are = All-cons IsChange c cs (step_changes s c are.0) (steps_change ss cs are.1)

made_changes : {T : Type 0} (result : Result T FilesError) (steps : List Step) (made : List Call) → MadeBy result steps made → All IsChange made
made_changes (Ok value) steps made are = steps_change steps made are
made_changes (Err Failed) steps made are = steps_change (are.front ++ are.step ∷ []) made are.calls_are
made_changes (Err OutOfMemory) steps made are = steps_change are.front made are.calls_are

some_changes : {T : Type 0} (result : Result T FilesError) (steps : List Step) (before after : Option (List Call))
    → IfSome before (λ calls. (made : List Call) × (after ≡ Some (calls ++ made)) × MadeBy result steps made) → MakesOnly IsChange before after
some_changes result steps None after makes = record { made = tt }
some_changes result steps (Some calls) after makes = record {
  made = record { more = makes.0; are = makes.1; each = made_changes result steps makes.0 makes.2 };
}

-- a commit looks at nothing
pub commit_changes : {S T : Type 0} (asked : S → Option (List Call)) (p : CommitPlan) (old new : S) (result : Result T FilesError)
    → (is_empty p ≡ true → new ≡ old) → (is_empty p ≡ false → Makes asked (steps_of p) old new result) → MakesOnly IsChange (asked old) (asked new)
commit_changes {S} asked p old new result none makes = by (is_empty p) refl
  where
    by : (b : Bool) → is_empty p ≡ b → MakesOnly IsChange (asked old) (asked new)
    by true e = no_calls IsChange (asked old) (asked new) (ap asked (none e))
    by false e = some_changes result (steps_of p) (asked old) (asked new) (makes e)

pub changes_not : (before after : Option (List Call)) → after ≡ before → MakesOnly IsChange before after
changes_not before after same = no_calls IsChange before after same

-- ---- together

looks_only : (P Q : List ℕ → Type 0) → ((p : List ℕ) → P p → Q p) → (c : Call) → LooksAt P c → LooksOnlyAt Q c
looks_only P Q implies (Read p) h = implies p h
looks_only P Q implies (Names p) h = implies p h
looks_only P Q implies (AllUnder p) h = absurd h
looks_only P Q implies (Write p m) h = tt
looks_only P Q implies (Remove p) h = tt
looks_only P Q implies Sync h = tt

changes_only : (Q : List ℕ → Type 0) (c : Call) → IsChange c → LooksOnlyAt Q c
changes_only Q (Read p) h = absurd h
changes_only Q (Names p) h = absurd h
changes_only Q (AllUnder p) h = absurd h
changes_only Q (Write p m) h = tt
changes_only Q (Remove p) h = tt
changes_only Q Sync h = tt

-- looks, and then whatever may be
pub looks_before : (P Q : List ℕ → Type 0) (before mid after : Option (List Call)) → ((p : List ℕ) → P p → Q p) → AsksFor P before mid
    → MakesOnly (LooksOnlyAt Q) mid after → MakesOnly (LooksOnlyAt Q) before after
looks_before P Q before mid after implies looks rest =
    calls_then (LooksOnlyAt Q) before mid after (calls_as (LooksAt P) (LooksOnlyAt Q) before mid (looks_only P Q implies) looks) rest

-- an evaluation, and then changes
pub evaluated_asks : (u : Update) (n : ℕ) (old new : List Task) (ran : Vec Task Global) (told : List Task) (asked mid asked_now : Option (List Call))
    → n ≡ length old → ran.items ≡ drop n new → told ≡ ran.items → AsksWith u old new asked mid → MakesOnly IsChange mid asked_now
    → BuildsAsking u told asked asked_now
evaluated_asks u n old new ran told asked mid asked_now at behind tells asks changes =
    let these : drop (length old) new ≡ told = sym (tells ∙ behind ∙ ap (λ k. drop k new) at) in
    looks_before (MayAskIn u (drop (length old) new)) (MayAskIn u told) asked mid asked_now
    (λ p may. subst (λ ts. MayAskIn u ts p) these may) asks
    (calls_as IsChange (LooksOnlyAt (MayAskIn u told)) mid asked_now (changes_only (MayAskIn u told)) changes)

contains_among : (xs : List (List ℕ)) (x : List ℕ) → Contains xs x → among x xs ≡ true
contains_among [] x h = absurd (none_in x h)
contains_among (y ∷ ys) x h = by (here_or_there y x ys h) (contains_among ys x)
  where
    by : (y ≡ x) ⊎ Contains ys x → (Contains ys x → among x ys ≡ true) → among x (y ∷ ys) ≡ true
    by (inl same) later = subst (λ z. among z (y ∷ ys) ≡ true) same (among_here y ys)
    by (inr rest) later = among_there x y ys (later rest)

-- what is asked for at first
first_may : (u : Update) (ran : List Task) (list pending : List (List ℕ)) (p : List ℕ) → u.names ≡ in_order (list ++ pending) → IsAtFirst list pending p
    → MayAskIn u ran p
first_may u ran list pending p is (inl own) = project_file own
first_may u ran list pending p is (inr name) =
    changed (subst (λ ns. among p ns ≡ true) (sym is) (contains_among (in_order (list ++ pending)) p name))

pub begun_asks : (u : Update) (ran : List Task) (list pending : List (List ℕ)) (asked mid asked_now : Option (List Call))
    → u.names ≡ in_order (list ++ pending) → AsksFor (IsAtFirst list pending) asked mid → BuildsAsking u ran mid asked_now → BuildsAsking u ran asked asked_now
begun_asks u ran list pending asked mid asked_now is first rest =
    looks_before (IsAtFirst list pending) (MayAskIn u ran) asked mid asked_now (λ p may. first_may u ran list pending p is may) first rest
