-- The rounds of a demo, one after another, and what they come to.
use mir.Val.{bool_byte}
use Rattle.std.proofs.Common.{◌≡◌, ◌⊎◌, ℕ, suc, ◌+◌, ◌-◌, ◌≤◌, Bool, true, false, List, [], ◌∷◌, ◌++◌, length}
use Rattle.std.proofs.Common.{Some, inl, inr, refl, sym, ap, ◌∙◌, subst, append_assoc, length-append, arith}
use Rattle.std.proofs.lemmas.List.{append-nil}
use Rattle.pie_build.specs.Left.{KeepsRest}
use Rattle.pie_build.proofs.OwnPaths.{same_keeps}
use Rattle.pie_clean_laws.specs.Left.{IsAccepted, IsLeftOf}
use Rattle.pie_files.specs.Directory.{Directory}
use Rattle.pie_incremental.specs.Earlier.{Earlier}
use Rattle.pie_clean_laws.specs.Basing.{IsBaseOfNext}
use Rattle.pie_value.specs.declared.task.Task.{Task}
use Rattle.pie_demo.specs.declared.whole.Summary.{Summary}
use Rattle.pie_demo.specs.Sources.{HasFirst, HasSources}
use Rattle.pie_demo.specs.Going.{latest, AreApart, HasOwnAlone, Turn}
use Rattle.pie_demo.specs.Rounds.{IsRound, BuildsAfresh, DoesRound, one_if, AreRounds, no_round, one_more, IsDemo, IsEqualDemo}
use Rattle.pie_demo.specs.inner.Steps.{BuildsOnly, RefusesOnly, Rebuilds}
use Rattle.pie_demo.proofs.Going.{alone_kept, well_clean}
use Rattle.pie_demo.proofs.Owned.{below_not_copied, none_other, sources_kept}
use Rattle.pie_demo.proofs.Project.{demo_functions, demo_root, has_project}

-- so many rounds were done, and their tasks added
pub record Plays (seed size k : ℕ) (first : Turn) (after : Directory) (runs runs_after clean clean_after : List Task) (live alike : ℕ) : Type 0 where
  pub turns : List Turn
  pub started : List Task
  pub cleaned : List Task
  pub runs_gain : runs_after ≡ runs ++ started
  pub clean_gain : clean_after ≡ clean ++ cleaned
  pub rounds : AreRounds seed size first k turns after started cleaned live alike

pub plays_none : (seed size : ℕ) (first : Turn) (runs clean : List Task) → Plays seed size 0 first first.left runs runs clean clean 0 0
plays_none seed size first runs clean = record {
  turns = [];
  started = [];
  cleaned = [];
  runs_gain = sym (append-nil runs);
  clean_gain = sym (append-nil clean);
  rounds = no_round;
}

pub plays_more : (seed size k : ℕ) (first : Turn) (between after : Directory) (runs runs_between runs_after clean clean_between clean_after : List Task)
    (live next alike : ℕ) (same : Bool) → Plays seed size k first between runs runs_between clean clean_between live alike
    → DoesRound seed size (k + 1) between after runs_between runs_after clean_between clean_after next same
    → Plays seed size (k + 1) first after runs runs_after clean clean_after next (alike + one_if same)
plays_more seed size k first between after runs runs_between runs_after clean clean_between clean_after live next alike same plays does =
    let one : suc k ≡ k + 1 = omega arith in
    let round = subst (λ n. IsRound seed size n between does.changed after does.started does.cleaned next same) (sym one) does.round in
    record {
      turns = record { now = does.changed; left = after } ∷ plays.turns;
      started = plays.started ++ does.started;
      cleaned = plays.cleaned ++ does.cleaned;
      runs_gain = does.runs_gain ∙ ap (λ (ts : List Task). ts ++ does.started) plays.runs_gain ∙ append_assoc runs plays.started does.started;
      clean_gain = does.clean_gain ∙ ap (λ (ts : List Task). ts ++ does.cleaned) plays.clean_gain ∙ append_assoc clean plays.cleaned does.cleaned;
      rounds =
          subst (λ n. AreRounds seed size first n (record { now = does.changed; left = after } ∷ plays.turns) after (plays.started ++ does.started)
          (plays.cleaned ++ does.cleaned) next (alike + one_if same)) one (one_more plays.rounds round);
    }

-- the files of a demo stay through its first build
pub first_built : (seed size : ℕ) (first built : Directory) (runs runs_after : List Task) (live : ℕ) → HasFirst seed size first
    → Rebuilds first built runs runs_after live → HasSources seed size 0 built
first_built seed size first built runs runs_after live has rebuilds =
    sources_kept seed size 0 first built (by rebuilds.outcome) (λ q own. has q)
  where
    by : BuildsOnly first built rebuilds.started live ⊎ RefusesOnly first built rebuilds.started live → KeepsRest (Some first) (Some built)
    by (inl b) = b.builds.keeps
    by (inr r) = same_keeps (Some first) (Some built) (ap Some r.refuses.kept)

-- which isn't refused
first_build : (seed size : ℕ) (first built : Directory) (started : List Task) (live : ℕ) → HasFirst seed size first
    → BuildsOnly first built started live ⊎ RefusesOnly first built started live → BuildsAfresh first built started live
first_build seed size first built started live has (inl b) = b.builds
first_build seed size first built started live has (inr r) =
    absurd (r.only (demo_functions, demo_root ∷ []) (has_project seed size 0 first (λ q own. has q)))

-- ---- all rounds answer yes

-- so many rounds answered yes, and the next one goes on from the last
record AreEqual (seed size k : ℕ) (last : Turn) (after : Directory) (alike : ℕ) : Type 0 where
  all : alike ≡ k
  ends : last.left ≡ after
  left : IsLeftOf last.now after
  base : IsBaseOfNext last.now after
  own : HasOwnAlone after

all_equal : (seed size : ℕ) (first : Turn) (k : ℕ) (turns : List Turn) (after : Directory) (started cleaned : List Task) (live alike : ℕ)
    → IsLeftOf first.now first.left → IsBaseOfNext first.now first.left → HasOwnAlone first.left
    → AreRounds seed size first k turns after started cleaned live alike → AreApart first turns → AreEqual seed size k (latest first turns) after alike
all_equal seed size first k turns after started cleaned live alike left base own no_round apart =
    record { all = refl; ends = refl; left = left; base = base; own = own }
all_equal seed size first k turns after started cleaned live alike left base own
    (one_more {k = n} {turns = earlier} {between = between} {changed = changed} {started = ran} {cleaned = made} {live = some} {alike = count} {same = same}
    rounds round) apart =
    let so_far : AreEqual seed size n (latest first earlier) between count =
    all_equal seed size first n earlier between ran made some count left base own rounds apart.1 in
    let e : Earlier = so_far.base.earlier in
    let now = round.equal e so_far.base.based (apart.0.apart e so_far.base.built (so_far.base.leaves ∙ sym so_far.ends)) apart.0.accepted so_far.own in
    record {
      all = one_more_yes count n same now.told so_far.all;
      ends = refl;
      left = now.left;
      base = now.base;
      own = now.own;
    }
  where
    one_more_yes : (count n : ℕ) (same : Bool) → same ≡ true → count ≡ n → count + one_if same ≡ suc n
    one_more_yes count n same told all = let one : count + 1 ≡ suc n = omega (arith, all) in ap (λ b. count + one_if b) told ∙ one

-- at first there are the files of the demo alone
first_alone : (seed size : ℕ) (d : Directory) → HasFirst seed size d → HasOwnAlone d
first_alone seed size d has q below others = has q ∙ none_other seed size 0 q (below_not_copied q below)

demo_equal : (seed size : ℕ) (first built after : Directory) (started : List Task) (live : ℕ) (turns : List Turn) (ran cleaned : List Task) (tasks same : ℕ)
    → HasFirst seed size first → BuildsAfresh first built started live
    → AreRounds seed size (record { now = first; left = built }) 10 turns after ran cleaned tasks same
    → AreApart (record { now = first; left = built }) turns → IsEqualDemo (latest (record { now = first; left = built }) turns) after same
demo_equal seed size first built after started live turns ran cleaned tasks same has builds rounds apart =
    let one : Turn = record { now = first; left = built } in
    let well = well_clean first built (accepted turns apart) builds.report builds.leaves in
    let all = all_equal seed size one 10 turns after ran cleaned tasks same well.left_is well.base
    (alone_kept first built builds.keeps (first_alone seed size first has)) rounds apart in
    record { all = all.all; left = all.left }
  where
    accepted : (turns : List Turn) → AreApart (record { now = first; left = built }) turns → IsAccepted first
    accepted [] a = a
    accepted (t ∷ turns) a = accepted turns a.1

more_than : (runs ran : List Task) → length (runs ++ ran) - length runs ≡ length ran
more_than runs ran = omega (arith, length-append runs ran)

pub demo_done : (seed size : ℕ) (first built after : Directory) (runs runs_built runs_after clean clean_after : List Task) (live : ℕ) (summary : Summary)
    → HasFirst seed size first → Rebuilds first built runs runs_built live
    → Plays seed size 10 (record { now = first; left = built }) after runs_built runs_after clean clean_after summary.tasks summary.same
    → HasSources seed size 10 after
    → summary.ran ≡ length runs_after - length runs_built → IsDemo seed size after runs runs_after clean clean_after summary
demo_done seed size first built after runs runs_built runs_after clean clean_after live summary has rebuilds plays sources counted = record {
  first = first;
  written = has;
  built = built;
  started = rebuilds.started;
  live = live;
  builds = first_build seed size first built rebuilds.started live has rebuilds.outcome;
  ran = plays.started;
  cleaned = plays.cleaned;
  turns = plays.turns;
  rounds = plays.rounds;
  runs_gain = plays.runs_gain ∙ ap (λ (ts : List Task). ts ++ plays.started) rebuilds.gain ∙ append_assoc runs rebuilds.started plays.started;
  clean_gain = plays.clean_gain;
  counted = counted ∙ ap (λ (ts : List Task). length ts - length runs_built) plays.runs_gain ∙ more_than runs_built plays.started;
  sources = sources;
  equal =
      demo_equal seed size first built after rebuilds.started live plays.turns plays.started plays.cleaned summary.tasks summary.same has
      (first_build seed size first built rebuilds.started live has rebuilds.outcome) plays.rounds;
}

pub byte_is : (b : Bool) → bool_byte b ≡ one_if b
byte_is true = refl
byte_is false = refl

pub byte_small : (b : Bool) → bool_byte b ≤ 1
byte_small true = omega arith
byte_small false = omega arith
