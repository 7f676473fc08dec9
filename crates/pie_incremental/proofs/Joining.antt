-- The parts of a build by what changed, one after another.
use Rattle.std.proofs.Common.{◌≡◌, ℕ, ◌+◌, ◌≤◌, Bool, true, false, ◌||◌, List, [], ◌∷◌, ◌++◌, length, drop, Vec, Global, refl, sym, ap, subst, ◌∙◌, inl, inr, arith}
use Rattle.std.specs.Prelude.{All, Option, None, Some, IfSome, IfOk, Result, Ok, Err, codes}
use Rattle.pie_report.specs.declared.report.Report.{Report}
use Rattle.pie_project.specs.declared.fault.BuildError.{BuildError}
use Rattle.std.proofs.lemmas.Bool.{false≢true}
use Rattle.std.proofs.lemmas.List.{length-append, append_assoc, append-nil, drop-append-le, get_or_default}
use Rattle.std.proofs.Common.{get_or, ◌<◌}
use Rattle.std.specs.declared.cmp.Ordering.TheVariants.{Less, Equal, Greater}
use Rattle.std.specs.Ordering.{nat_cmp, MatchOrdering}
use Rattle.std.specs.Cmp.{ranks}
use Rattle.std.proofs.lemmas.List.Elements.{All-push, All-append}
use Rattle.std.proofs.Math.Seq.{drop-append_seam}
use Rattle.pie_base.specs.Path.{is_out, same_text}
use Rattle.pie_files.specs.Directory.{Directory, file_at}
use Rattle.pie_value.specs.declared.task.Task.{Task}
use Rattle.pie_value.specs.Canonical.{IsEncodableTask}
use Rattle.pie_value.specs.Limits.{is_small_task}
use Rattle.pie_bottomup.specs.declared.state.Core.{Core}
use Rattle.pie_bottomup.specs.inner.States.{KeepsTasks, Spends, StartsOne, room}
use Rattle.pie_build.specs.Left.{KeepsRest, may_change}
use Rattle.pie_build.proofs.OwnPaths.{or_left, or_right, plan_keeps}
use Rattle.pie_commit.specs.declared.plan.Plan.{Plan}
use Rattle.pie_commit.specs.Outcomes.{KeepsOthers}
use Rattle.pie_store.specs.declared.cause.Cause.{Cause}
use Rattle.pie_tables.specs.declared.tables.Tables.{Tables}
use Rattle.pie_incremental.specs.Runs.{TellsFew}
use Rattle.pie_incremental.specs.Kept.{KeepsAllFiles, is_builders}
use Rattle.pie_incremental.specs.inner.Joined.{Started, ChangesOut}

-- ---- the tasks that were started

pub started_none : (old : List Task) → Started old old
started_none old = record { gained = []; is = sym (append-nil old); encodable = λ i d l. absurd (omega (arith, l)) }

pub started_more : (old mid new : List Task) → Started old mid → StartsOne mid new → Started old new
started_more old mid new s (inl same) = record { gained = s.gained; is = same ∙ s.is; encodable = s.encodable }
started_more old mid new s (inr one) = record {
  gained = s.gained ++ one.0 ∷ [];
  is = one.1 ∙ ap (λ (ts : List Task). ts ++ one.0 ∷ []) s.is ∙ append_assoc old s.gained (one.0 ∷ []);
  encodable = All-push IsEncodableTask s.gained one.0 s.encodable one.2;
}

-- as many tasks as were started before are there still
pub still_there : (n : ℕ) (old new : List Task) → n ≡ length old → Started old new → n ≤ length new
still_there n old new is s =
    let l : length new ≡ length old + length s.gained = ap length s.is ∙ length-append old s.gained in omega (arith, is, l)

pub gained_behind : (n : ℕ) (old new : List Task) → n ≡ length old → (s : Started old new) → drop n new ≡ s.gained
gained_behind n old new is s = ap (λ k. drop k new) is ∙ ap (drop (length old)) s.is ∙ drop-append_seam old s.gained

-- what is told of them
pub told_all : (n : ℕ) (old new ran : List Task) → n ≡ length old → Started old new → ran ≡ drop n new → new ≡ old ++ ran
told_all n old new ran is s behind = s.is ∙ ap (λ (ts : List Task). old ++ ts) (sym (behind ∙ gained_behind n old new is s))

pub told_encodable : (n : ℕ) (old new ran : List Task) → n ≡ length old → Started old new → ran ≡ drop n new → All IsEncodableTask ran
told_encodable n old new ran is s behind = subst (All IsEncodableTask) (sym (behind ∙ gained_behind n old new is s)) s.encodable

-- what a report tells of them
pub told_report : (n : ℕ) (old new : List Task) (ran : Vec Task Global) (r : Report) → n ≡ length old → Started old new → ran.items ≡ drop n new → r.ran ≡ ran
    → (new ≡ old ++ r.ran.items) × All IsEncodableTask r.ran.items
told_report n old new ran r is s behind same =
    let these : r.ran.items ≡ drop n new = ap (λ (v : Vec Task Global). v.items) same ∙ behind in
    (told_all n old new r.ran.items is s these, told_encodable n old new r.ran.items is s these)

-- more tasks behind them
pub started_behind : (old mid new more : List Task) → Started old mid → new ≡ mid ++ more → All IsEncodableTask more → Started old new
started_behind old mid new more s is all = record {
  gained = s.gained ++ more;
  is = is ∙ ap (λ (ts : List Task). ts ++ more) s.is ∙ append_assoc old s.gained more;
  encodable = All-append IsEncodableTask s.gained more s.encodable all;
}

-- ---- how many may be

tasks_stay : (t : Tables) → KeepsTasks t t
tasks_stay t = record { names = λ n task is. is; recorded = λ n is. is; ran = λ n is. is }

tasks_more : (a b c : Tables) → KeepsTasks a b → KeepsTasks b c → KeepsTasks a c
tasks_more a b c f g = record {
  names = λ n task is. g.names n task (f.names n task is);
  recorded = λ n is. g.recorded n (f.recorded n is);
  ran = λ n is. g.ran n (f.ran n is);
}

pub spends_none : (c : Core) (runs : List Task) → Spends c c runs runs
spends_none c runs = record { plan = refl; room = omega arith; tasks = tasks_stay c.tables }

pub spends_more : (a b c : Core) (r s t : List Task) → Spends a b r s → Spends b c s t → Spends a c r t
spends_more a b c r s t f g = record {
  plan = g.plan ∙ f.plan;
  room = omega (arith, f.room, g.room);
  tasks = tasks_more a.tables b.tables c.tables f.tasks g.tasks;
}

pub spends_plan : (a b c : Core) (r s t : List Task) → Spends a b r s → Spends b c s t → c.plan ≡ a.plan
spends_plan a b c r s t f g = g.plan ∙ f.plan

pub few_then : (a b c : Core) (r s t : List Task) → Spends a b r s → Spends b c s t → length t ≤ length r + room a
few_then a b c r s t f g = omega (arith, f.room, g.room)

pub few_more : (a b : Core) (r s t : List Task) → Spends a b r s → length t ≤ length s + room b → length t ≤ length r + room a
few_more a b r s t f l = omega (arith, f.room, l)

pub few_none : (old : List Task) → length old ≤ length old + 50000
few_none old = omega arith

pub few_room : (old new : List Task) (n : ℕ) → length new ≤ length old + n → n ≤ 50000 → length new ≤ length old + 50000
few_room old new n few room = omega (arith, few, room)

pub few_twice : (old new : List Task) → length new ≤ length old + 50000 → length new ≤ length old + 100000
few_twice old new few = omega (arith, few)

pub few_both : (old mid new : List Task) → length mid ≤ length old + 50000 → length new ≤ length mid + 50000 → length new ≤ length old + 100000
few_both old mid new first second = omega (arith, first, second)

-- what the search takes for a whole evaluation
pub ruleset few = (few_none, few_room, few_twice, few_both)

-- what a report tells of them
pub few_told : (old new : List Task) (result : Result Report BuildError) → IfOk result (λ r. new ≡ old ++ r.ran.items) → length new ≤ length old + 100000
    → IfOk result (λ r. r.fresh ≡ None → length new ≤ length old + 50000) → IfOk result TellsFew
few_told old new (Err e) is few once = tt
few_told old new (Ok r) is few once =
    let l : length new ≡ length old + length r.ran.items = ap length is ∙ length-append old r.ran.items in
    record { most = omega (arith, few, l); once = λ none. omega (arith, once none, l) }

-- a build that tells why it started afresh
pub few_again : (old mid new : List Task) (cause : Cause) (result : Result Report BuildError) → length mid ≤ length old + 50000
    → length new ≤ length mid + 50000 → IfOk result (λ r. r.fresh ≡ Some cause) → IfOk result (λ r. r.fresh ≡ None → length new ≤ length old + 50000)
few_again old mid new cause (Err e) first second why = tt
few_again old mid new cause (Ok r) first second why = λ none. absurd (apart (sym why ∙ none))
  where
    apart : Some cause ≡ None → ⊥
    apart differ = cc

-- and of a build that started afresh at once
pub few_once : (old new : List Task) (result : Result Report BuildError) → length new ≤ length old + 50000
    → IfOk result (λ r. r.fresh ≡ None → length new ≤ length old + 50000)
few_once old new (Err e) few = tt
few_once old new (Ok r) few = λ none. few

-- what the search takes for steps one after another
pub ruleset spends = (spends_none, spends_more, spends_plan, few_then, few_more)

-- ---- what is kept

none_of_three : (a b c : Bool) → a ≡ false → b ≡ false → c ≡ false → (a || b || c) ≡ false
none_of_three a b c p q r = ap (λ x. x || b || c) p ∙ ap (λ x. false || x || c) q ∙ ap (λ x. false || false || x) r

no_builders : (q : List ℕ) → may_change q ≡ false → is_builders q ≡ false
no_builders q h =
    let o = same_text q (codes ".pie/open") in
    let s = same_text q (codes ".pie/store") in
    let n = same_text q (codes ".pie/pending") in
    let three = or_left (is_out q || o || s) n h in
    let two = or_left (is_out q || o) s three in
    none_of_three o s n (or_right (is_out q) o two) (or_right (is_out q || o) s three) (or_right (is_out q || o || s) n h)

kept_files : (before after : Option Directory) → KeepsAllFiles before after
    → IfSome before (λ d. (e : Directory) × (after ≡ Some e) × ((q : List ℕ) → may_change q ≡ false → file_at e q ≡ file_at d q))
kept_files None after h = tt
kept_files (Some d) after h = (h.0, h.1, λ q off. h.2 q (no_builders q off))

-- a build that keeps its names keeps all other files
pub names_keep : (before after : Option Directory) → KeepsAllFiles before after → KeepsRest before after
names_keep before after h = record { kept = kept_files before after h }

abbrev Left : Directory → Option Directory → Type 0
Left d after = (e : Directory) × (after ≡ Some e) × ((q : List ℕ) → may_change q ≡ false → file_at e q ≡ file_at d q)

-- one after a build that changes nothing
pub rest_then : (before mid after : Option Directory) → mid ≡ before → KeepsRest mid after → KeepsRest before after
rest_then before mid after same h = subst (λ m. KeepsRest m after) same h

-- two builds, one after the other
pub rest_both : (before mid after : Option Directory) → KeepsRest before mid → KeepsRest mid after → KeepsRest before after
rest_both None mid after first second = record { kept = tt }
rest_both (Some d) mid after first second =
    let then : Left first.kept.0 after = subst (λ m. IfSome m (λ e. Left e after)) first.kept.1 second.kept in
    record { kept = (then.0, then.1, λ q off. then.2 q off ∙ first.kept.2 q off) }

-- a plan that changes files under `out/` alone keeps all others
pub out_keeps : (p : Plan) → ChangesOut p → (before after : Option Directory) → KeepsOthers p before after → KeepsRest before after
out_keeps p out before after h = plan_keeps p out.places out.removals out.writes before after h

-- tasks behind a place, where more were started
pub behind_encodable : (n : ℕ) (old new more ran : List Task) → n ≤ length old → new ≡ old ++ more → All IsEncodableTask (drop n old) → All IsEncodableTask more
    → ran ≡ drop n new → All IsEncodableTask ran
behind_encodable n old new more ran l is first rest behind =
    subst (All IsEncodableTask) (sym (behind ∙ ap (drop n) is ∙ drop-append-le n old more l)) (All-append IsEncodableTask (drop n old) more first rest)

-- ---- roots

-- the first of some tasks, so many, have canonical bytes
abbrev pub AreSmall : List Task → ℕ → Type 0
AreSmall roots n = (k : ℕ) (d : Task) → k < n → IsEncodableTask (get_or roots k d)

pub none_small : (roots : List Task) → AreSmall roots 0
none_small roots k d l = absurd (omega (arith, l))

pub small_more : (roots : List Task) (i : ℕ) (e : Task) → i < length roots → AreSmall roots i → IsEncodableTask (get_or roots i e) → AreSmall roots (i + 1)
small_more roots i e inside before one k d l =
    elim (nat_cmp k i) as (λ r. MatchOrdering r (k < i) (k ≡ i) (i < k) → IsEncodableTask (get_or roots k d)) [
      | Less ↦ λ lt. before k d lt
      | Equal ↦ λ is. subst (λ n. IsEncodableTask (get_or roots n d)) (sym is) (subst IsEncodableTask (get_or_default roots i e d inside) one)
      | Greater ↦ λ gt. absurd (omega (arith, l, gt))
    ] (ranks k i)

pub all_small : (roots : List Task) (n : ℕ) → length roots ≤ n → AreSmall roots n → All IsEncodableTask roots
all_small roots n l small k d inside = small k d (omega (arith, l, inside))

-- one of them isn't
pub one_large : (roots : List Task) (i : ℕ) (d : Task) → i < length roots → is_small_task (get_or roots i d) ≡ false
    → ¬ (All (λ t. is_small_task t ≡ true) roots)
one_large roots i d inside large all = false≢true (sym large ∙ all i d inside)

-- what is told of all that were started, once more were
pub retold_encodable : (n : ℕ) (old new more : List Task) (result : Result Report BuildError) → n ≤ length old → new ≡ old ++ more
    → All IsEncodableTask (drop n old) → All IsEncodableTask more → IfOk result (λ r. r.ran.items ≡ drop n new) → IfOk result (λ r. All IsEncodableTask r.ran.items)
retold_encodable n old new more (Ok r) l is first rest behind = behind_encodable n old new more r.ran.items l is first rest behind
retold_encodable n old new more (Err e) l is first rest behind = tt
