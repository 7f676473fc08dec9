-- A sweep, from its start to its end.
use Rattle.std.proofs.Common.{◌≡◌, ◌≢◌, ◌⊎◌, ℕ, ◌<◌, ◌≤◌, ◌+◌, Bool, true, false, cond, not, ◌&&◌, ◌||◌, List, [], ◌∷◌, ◌++◌, None, length, get_or, set, drop}
use Rattle.std.proofs.Common.{refl, sym, ap, ◌∙◌, subst, inl, inr, arith, length-set}
use Rattle.std.specs.List.{Contains, sum_by}
use Rattle.std.proofs.lemmas.Bool.Decides.{eqb_tells}
use Rattle.std.proofs.lemmas.List.{get_or-set_same, length_push, drop_more, map-append}
use Rattle.std.proofs.lemmas.List.Elements.{Contains-push_cases, Contains-append_left, Contains-push}
use Rattle.std.proofs.lemmas.List.Sums.{sum_by-set}
use Rattle.pie_graph.specs.declared.edges.TaskNo.{TaskNo}
use Rattle.pie_graph.specs.Numbers.{numbers, IsMarked, Exactly, AllBelow}
use Rattle.pie_graph.specs.Rows.{Row, Calls}
use Rattle.pie_graph.proofs.Among.{contains_here, contains_later, contains_cases}
use Rattle.pie_reach.specs.inner.Reaches.{Leads, Reaches}
use Rattle.pie_reach.specs.inner.Reaches.Leads.{itself, step}
use Rattle.pie_reach.proofs.WalkSteps.{caller_below}
use Rattle.pie_walk.specs.declared.marks.Mark.{Mark}
use Rattle.pie_walk.specs.declared.marks.Mark.TheVariants.{New, Visited, Runs, Settled}
use Rattle.pie_walk.specs.Marks.{mark_of, IsSettled, IsIdle}
use Rattle.pie_walk.specs.States.{WalkState}
use Rattle.pie_walk.specs.Standing.{Holds, HoldsIn, IsSwept, IsSweptIn, Stands}
use Rattle.pie_walk.specs.Counts.{Counts}
use Rattle.pie_walk.specs.Callers.{Sweeps}
use Rattle.pie_walk.specs.inner.Sweeping.{is_idle, Sweep, swept_to, is_due, sweeping, sweep_one, sweep_all, Comes, Sweeping, is_unswept, SweepsAbove}
use Rattle.pie_walk.specs.inner.Sweeping.Comes.{is_done, is_waiting, is_next}
use Rattle.pie_walk.proofs.MarkSteps.{idle_is_open}
use Rattle.pie_walk.proofs.HoldSteps.{flags_hold}
use Rattle.pie_walk.proofs.FlagSteps.{other_flag, flag_here, flag_kept, flag_cases, either_kept, either_joins, either_cases, due_tells, due_not}

-- the sweep comes to one task
pub one_swept : (begin : WalkState) (task : ℕ) (w : Sweep) (at k : ℕ) (ks : List ℕ) → Sweeping begin task w at (k ∷ ks) → Reaches begin.rows k task
    → k < length begin.swept → k < length begin.scheduled → Sweeping begin task (sweep_one k w) at ks
one_swept begin task w at k ks so_far reach swept_in scheduled_in = by (is_due w.state k) refl
  where
    now : Sweep
    now = record { state = sweeping w.state k; work = w.work ++ k ∷ [] }

    looks : Bool
    looks = get_or w.state.looks_out k false

    in_swept : k < length w.state.swept
    in_swept = omega (arith, swept_in, so_far.swept_sized)

    in_scheduled : k < length w.state.scheduled
    in_scheduled = omega (arith, scheduled_in, so_far.scheduled_sized)

    as_begun : (b : Bool) → is_due w.state k ≡ b → (is_idle (mark_of begin.marks k) && not (get_or w.state.swept k false)) ≡ b
    as_begun b e = ap (λ (ms : List Mark). is_idle (mark_of ms k) && not (get_or w.state.swept k false)) (sym (ap (λ (s : WalkState). s.marks) so_far.same)) ∙ e

    by : (b : Bool) → is_due w.state k ≡ b → Sweeping begin task (cond b (record { state = sweeping w.state k; work = w.work ++ k ∷ [] }) w) at ks
    by true e =
        let due = due_tells (mark_of begin.marks k) (get_or w.state.swept k false) (as_begun true e) in
        let flag : Bool = get_or w.state.scheduled k false || get_or w.state.looks_out k false in
        let looks_same : w.state.looks_out ≡ begin.looks_out = ap (λ (s : WalkState). s.looks_out) so_far.same in
        record {
          same = ap (λ (s : WalkState). record s { swept = set w.state.swept k true; scheduled = set w.state.scheduled k flag }) so_far.same;
          scheduled_sized = length-set w.state.scheduled k flag ∙ so_far.scheduled_sized;
          swept_sized = length-set w.state.swept k true ∙ so_far.swept_sized;
          root = flag_kept w.state.swept k task (omega (arith, swept_in, so_far.swept_sized)) so_far.root;
          kept = λ n mark. either_kept w.state.scheduled k (get_or w.state.looks_out k false) n (omega (arith, scheduled_in, so_far.scheduled_sized)) (so_far.kept n mark);
          only = λ n mark. elim (either_cases w.state.scheduled k (get_or w.state.looks_out k false) n (omega (arith, scheduled_in, so_far.scheduled_sized)) mark) [
            | inl was ↦ so_far.only n was
            | inr new ↦ inr (
              subst (λ (j : ℕ). Reaches begin.rows j task) (sym new.0) reach,
              subst (IsIdle begin.marks) (sym new.0) due.0,
              subst (IsMarked begin.looks_out) (sym new.0) (ap (λ (flags : List Bool). get_or flags k false) (sym looks_same) ∙ new.1),
            )
          ];
          listed = λ n h. elim (Contains-push_cases w.work k n h) [
            | inl old ↦ so_far.listed n old
            | inr new ↦ subst (λ (j : ℕ). Reaches begin.rows j task) new reach
          ];
          up = λ n m mark calls idle. elim (flag_cases w.state.swept k true n mark) [
            | inl same ↦ is_waiting (subst (Contains (w.work ++ k ∷ [])) (sym same) (Contains-push w.work k))
            | inr old ↦ elim (so_far.up n m old calls idle) [
              | is_done done ↦ is_done (flag_kept w.state.swept k m (omega (arith, swept_in, so_far.swept_sized)) done)
              | is_waiting waits ↦ is_waiting (Contains-append_left w.work (k ∷ []) n waits)
              | is_next here there ↦ elim (contains_cases k m ks there) [
                | inl same ↦ is_done (subst (IsMarked (set w.state.swept k true)) same (flag_here w.state.swept k (omega (arith, swept_in, so_far.swept_sized))))
                | inr later ↦ is_next here later
              ]
            ]
          ];
          flags = λ n mark idle looks_out. elim (eqb_tells n k) [
            | inl same ↦ subst (IsMarked (set w.state.scheduled k flag)) (sym same.1)
                (either_joins w.state.scheduled k (get_or w.state.looks_out k false) (omega (arith, scheduled_in, so_far.scheduled_sized))
                (ap (λ (flags : List Bool). get_or flags k false) looks_same ∙ subst (IsMarked begin.looks_out) same.1 looks_out))
            | inr other ↦
                either_kept w.state.scheduled k (get_or w.state.looks_out k false) n (omega (arith, scheduled_in, so_far.scheduled_sized))
                (so_far.flags n (sym (other_flag w.state.swept k true n other.1) ∙ mark) idle looks_out)
          ];
        }
    by false e = record {
      same = so_far.same;
      scheduled_sized = so_far.scheduled_sized;
      swept_sized = so_far.swept_sized;
      root = so_far.root;
      kept = so_far.kept;
      only = so_far.only;
      listed = so_far.listed;
      up = λ n m mark calls idle. elim (so_far.up n m mark calls idle) [
        | is_done done ↦ is_done done
        | is_waiting waits ↦ is_waiting waits
        | is_next here there ↦ elim (contains_cases k m ks there) [
          | inl same ↦ is_done (subst (IsMarked w.state.swept) same (due_not (mark_of begin.marks k) (get_or w.state.swept k false) (as_begun false e)
              (subst (IsIdle begin.marks) (sym same) idle)))
          | inr later ↦ is_next here later
        ]
      ];
      flags = so_far.flags;
    }

-- the sweep comes to tasks, one after another
pub all_swept : (begin : WalkState) (task : ℕ) (w : Sweep) (at : ℕ) (ks : List ℕ) → Sweeping begin task w at ks
    → ((k : ℕ) → Contains ks k → Reaches begin.rows k task × (k < length begin.swept) × (k < length begin.scheduled))
    → Sweeping begin task (sweep_all ks w) at []
all_swept begin task w at [] so_far each = so_far
all_swept begin task w at (k ∷ ks) so_far each =
    let here = each k (contains_here k ks) in
    all_swept begin task (sweep_one k w) at ks (one_swept begin task w at k ks so_far here.0 here.1 here.2) (λ n h. each n (contains_later k n ks h))

-- the sweep is about to go up from a task that waited
popped : (begin : WalkState) (task : ℕ) (s : WalkState) (work rest : List ℕ) (before at : ℕ) (ks : List ℕ) → work ≡ rest ++ at ∷ []
    → ((k : ℕ) → Calls begin.rows k at → Contains ks k) → Sweeping begin task (swept_to s work) before [] → Sweeping begin task (swept_to s rest) at ks
popped begin task s work rest before at ks is callers so_far = record {
  same = so_far.same;
  scheduled_sized = so_far.scheduled_sized;
  swept_sized = so_far.swept_sized;
  root = so_far.root;
  kept = so_far.kept;
  only = so_far.only;
  listed = λ n h. so_far.listed n (subst (λ (ns : List ℕ). Contains ns n) (sym is) (Contains-append_left rest (at ∷ []) n h));
  up = λ n m mark calls idle. elim (so_far.up n m mark calls idle) [
    | is_done done ↦ is_done done
    | is_waiting waits ↦ elim (Contains-push_cases rest at n (subst (λ (ns : List ℕ). Contains ns n) is waits)) [
      | inl there ↦ is_waiting there
      | inr same ↦ is_next (sym same) (callers m (subst (λ (x : ℕ). Calls begin.rows m x) (sym same) calls))
    ]
    | is_next here there ↦ absurd (omega (arith, there.1))
  ];
  flags = so_far.flags;
}

-- one turn: a task that waited is taken, and the sweep goes up from it
pub turned : (begin : WalkState) (task : ℕ) (s : WalkState) (work rest : List ℕ) (at : ℕ) (new : WalkState) (work_now : List ℕ) → Stands begin
    → work ≡ rest ++ at ∷ [] → Sweeping begin task (swept_to s work) 0 [] → SweepsAbove at s rest new work_now
    → Sweeping begin task (swept_to new work_now) 0 []
turned begin task s work rest at new work_now stands is so_far above =
    let rows : s.rows ≡ begin.rows = ap (λ (t : WalkState). t.rows) so_far.same in
    let led : Reaches begin.rows at task = so_far.listed at (subst (λ (ns : List ℕ). Contains ns at) (sym is) (Contains-push rest at)) in
    let sized : (k : ℕ) → k < length begin.rows → (k < length begin.swept) × (k < length begin.scheduled) =
    λ k l. (omega (arith, l, stands.swept.swept_sized), omega (arith, l, stands.holds.scheduled_sized)) in
    let each : (k : ℕ) → Contains above.callers k → Reaches begin.rows k task × (k < length begin.swept) × (k < length begin.scheduled) = λ k h.
    let calls : Calls begin.rows k at = subst (λ (rs : List Row). Calls rs k at) rows (above.exactly.only k h) in
    let in_rows = sized k (caller_below begin.rows k at calls) in
    (step calls led, in_rows.0, in_rows.1) in
    let all : Sweeping begin task (sweep_all above.callers (swept_to s rest)) at [] = all_swept begin task (swept_to s rest) at above.callers
    (popped begin task s work rest 0 at above.callers is
    (λ k calls. above.exactly.each k (subst (λ (rs : List Row). Calls rs k at) (sym rows) calls)) so_far) each in
    elsewhere begin task (swept_to new work_now) at (subst (λ (w : Sweep). Sweeping begin task w at []) (sym above.all) all)
  where
    elsewhere : (begin : WalkState) (task : ℕ) (w : Sweep) (at : ℕ) → Sweeping begin task w at [] → Sweeping begin task w 0 []
    elsewhere begin task w at so_far = record {
      same = so_far.same;
      scheduled_sized = so_far.scheduled_sized;
      swept_sized = so_far.swept_sized;
      root = so_far.root;
      kept = so_far.kept;
      only = so_far.only;
      listed = so_far.listed;
      up = λ n m mark calls idle. elim (so_far.up n m mark calls idle) [
        | is_done done ↦ is_done done
        | is_waiting waits ↦ is_waiting waits
        | is_next here there ↦ absurd (omega (arith, there.1))
      ];
      flags = so_far.flags;
    }

-- a sweep begins at a settled task
pub begins_sweep : (s : WalkState) (task : ℕ) (work : List ℕ) → Stands s → IsSettled s.marks task → task < length s.rows → work ≡ task ∷ []
    → Sweeping s task (swept_to (record s { swept = set s.swept task true }) work) 0 []
begins_sweep s task work stands settled l e =
    let inside : task < length s.swept = omega (arith, l, stands.swept.swept_sized) in
    subst (λ (ns : List ℕ). Sweeping s task (swept_to (record s { swept = set s.swept task true }) ns) 0 []) (sym e) (record {
      same = refl;
      scheduled_sized = refl;
      swept_sized = length-set s.swept task true;
      root = flag_here s.swept task inside;
      kept = λ k mark. mark;
      only = λ k mark. inl mark;
      listed = λ k h. elim (contains_cases task k [] h) [
        | inl same ↦ subst (λ (j : ℕ). Reaches s.rows j task) same itself
        | inr later ↦ absurd (omega (arith, later.1))
      ];
      up = λ n k mark calls idle. elim (flag_cases s.swept task true n mark) [
        | inl same ↦ is_waiting (subst (Contains (task ∷ [])) (sym same) (contains_here task []))
        | inr old ↦ is_done (flag_kept s.swept task k inside (stands.swept.up n k old calls idle))
      ];
      flags = λ k mark idle looks. elim (flag_cases s.swept task true k mark) [
        | inl same ↦ absurd (idle_is_open s.marks task (subst (IsIdle s.marks) same idle) settled)
        | inr old ↦ stands.swept.flags k old idle looks
      ];
    })

-- what a finished sweep leaves
pub record HasSwept (old new : WalkState) (task : ℕ) : Type 0 where
  pub sweeps : Sweeps old new task
  pub counts : Counts old new [] []
  pub stands : Stands new

pub ends_sweep : (s : WalkState) (task : ℕ) (new : WalkState) (work : List ℕ) → Stands s → work ≡ [] → Sweeping s task (swept_to new work) 0 []
    → HasSwept s new task
ends_sweep s task new work stands e over =
    let scheduled = new.scheduled in
    let swept = new.swept in
    subst (λ (t : WalkState). HasSwept s t task) (sym over.same) (record {
      sweeps = record { same = refl; swept = over.root; kept = over.kept; only = over.only };
      counts = record { begins = omega arith; waits = refl };
      stands = record {
        holds = flags_hold s.rows s.places s.marks s.scheduled scheduled None s.stack stands.holds over.scheduled_sized (λ k mark. elim (over.only k mark) [
          | inl old ↦ stands.holds.calm k old
          | inr reached ↦ reached.1
        ]);
        swept = record {
          looks_sized = stands.swept.looks_sized;
          swept_sized = over.swept_sized ∙ stands.swept.swept_sized;
          up = λ n k mark calls idle. elim (over.up n k mark calls idle) [
            | is_done done ↦ done
            | is_waiting waits ↦ absurd (omega (arith, (subst (λ (ns : List ℕ). Contains ns n) e waits).1))
            | is_next here there ↦ absurd (omega (arith, there.1))
          ];
          flags = over.flags;
        };
      };
    })

-- a task that was swept
pub swept_before : (s : WalkState) (task : ℕ) → Stands s → IsMarked s.swept task → HasSwept s s task
swept_before s task stands mark = record {
  sweeps = record { same = refl; swept = mark; kept = λ k flag. flag; only = λ k flag. inl flag };
  counts = record { begins = omega arith; waits = refl };
  stands = stands;
}

-- a sweep keeps its tables' sizes, and what is left falls with each task that is taken
pub one_sized : (n : ℕ) (w : Sweep)
    → (length (sweep_one n w).state.swept ≡ length w.state.swept) × (length (sweep_one n w).state.scheduled ≡ length w.state.scheduled)
one_sized n w =
    elim (is_due w.state n) as (λ b. let v : Sweep = cond b (record { state = sweeping w.state n; work = w.work ++ n ∷ [] }) w in
    (length v.state.swept ≡ length w.state.swept) × (length v.state.scheduled ≡ length w.state.scheduled)) [
      | true ↦ (
        length-set w.state.swept n true,
        length-set w.state.scheduled n (get_or w.state.scheduled n false || get_or w.state.looks_out n false),
      )
      | false ↦ (refl, refl)
    ]

abbrev pub total_of : Sweep → ℕ
total_of w = sum_by is_unswept w.state.swept + length w.work

one_total : (n : ℕ) (w : Sweep) → n < length w.state.swept → total_of (sweep_one n w) ≡ total_of w
one_total n w l = by (is_due w.state n) refl
  where
    by : (b : Bool) → is_due w.state n ≡ b → total_of (cond b (record { state = sweeping w.state n; work = w.work ++ n ∷ [] }) w) ≡ total_of w
    by true e =
        let due = due_tells (mark_of w.state.marks n) (get_or w.state.swept n false) e in
        let one : is_unswept (get_or w.state.swept n false) ≡ 1 = ap is_unswept due.1 in
        omega (arith, sum_by-set is_unswept w.state.swept n true false l, one, length_push w.work n)
    by false e = refl

pub all_total : (ns : List ℕ) (w : Sweep) → ((n : ℕ) → Contains ns n → n < length w.state.swept) → total_of (sweep_all ns w) ≡ total_of w
all_total [] w below = refl
all_total (n ∷ ns) w below =
    all_total ns (sweep_one n w) (λ k h. omega (arith, (one_sized n w).0, below k (contains_later n k ns h)))
    ∙ one_total n w (below n (contains_here n ns))

pub turn_falls : (s : WalkState) (work rest : List ℕ) (at : ℕ) (new : WalkState) (work_now : List ℕ) → length s.swept ≡ length s.rows
    → work ≡ rest ++ at ∷ [] → SweepsAbove at s rest new work_now → total_of (swept_to new work_now) < total_of (swept_to s work)
turn_falls s work rest at new work_now size is above =
    let below : (n : ℕ) → Contains above.callers n → n < length s.swept =
    λ n h. omega (arith, size, caller_below s.rows n at (above.exactly.only n h)) in
    let same : total_of (swept_to new work_now) ≡ total_of (swept_to s rest) = ap total_of above.all ∙ all_total above.callers (swept_to s rest) below in
    omega (arith, same, ap length is, length_push rest at)

-- one more task of a list
pub record IsOn (nos : List TaskNo) (i : ℕ) (w end : Sweep) : Type 0 where
  pub swept : AllBelow (length w.state.swept) (numbers nos)
  pub scheduled : AllBelow (length w.state.scheduled) (numbers nos)
  pub all : sweep_all (numbers (drop i nos)) w ≡ end

pub sweep_on : (nos : List TaskNo) (i : ℕ) (d : TaskNo) (w v end : Sweep) → i < length nos → v ≡ sweep_one (get_or nos i d).0 w → IsOn nos i w end
    → IsOn nos (i + 1) v end
sweep_on nos i d w v end l e on =
    let n = (get_or nos i d).0 in
    let sized = one_sized n w in
    record {
      swept = subst (λ (k : ℕ). AllBelow k (numbers nos)) (sym (ap (λ (u : Sweep). length u.state.swept) e ∙ sized.0)) on.swept;
      scheduled = subst (λ (k : ℕ). AllBelow k (numbers nos)) (sym (ap (λ (u : Sweep). length u.state.scheduled) e ∙ sized.1)) on.scheduled;
      all = ap (sweep_all (numbers (drop (i + 1) nos))) e ∙ sym (ap (λ (xs : List TaskNo). sweep_all (numbers xs) w) (drop_more nos i d l)) ∙ on.all;
    }

-- what leads to a task has a row
reach_below : (rows : List Row) (a b : ℕ) → Leads (Calls rows) a b → b < length rows → a < length rows
reach_below rows a b (itself {a = c}) l = l
reach_below rows a b (step {a = x} {b = y} {c = z} first rest) l = caller_below rows x y first

-- the tables that a turn of a sweep finds
pub record FindsTables (s : WalkState) (at : ℕ) : Type 0 where
  pub inside : at < length s.rows
  pub swept : length s.swept ≡ length s.rows
  pub scheduled : length s.scheduled ≡ length s.rows

pub finds_tables : (begin : WalkState) (task : ℕ) (s : WalkState) (work rest : List ℕ) (at : ℕ) → Stands begin → task < length begin.rows
    → work ≡ rest ++ at ∷ [] → Sweeping begin task (swept_to s work) 0 [] → FindsTables s at
finds_tables begin task s work rest at stands l is so_far =
    let rows : length s.rows ≡ length begin.rows = ap (λ (t : WalkState). length t.rows) so_far.same in
    let led : Reaches begin.rows at task = so_far.listed at (subst (λ (ns : List ℕ). Contains ns at) (sym is) (Contains-push rest at)) in
    record {
      inside = omega (arith, rows, reach_below begin.rows at task led l);
      swept = so_far.swept_sized ∙ stands.swept.swept_sized ∙ sym rows;
      scheduled = so_far.scheduled_sized ∙ stands.holds.scheduled_sized ∙ sym rows;
    }

-- the last one was taken from a list of numbers
pub last_number : (work rest : List TaskNo) (at : TaskNo) → work ≡ rest ++ at ∷ [] → numbers work ≡ numbers rest ++ at.0 ∷ []
last_number work rest at e = ap numbers e ∙ map-append (λ (t : TaskNo). t.0) rest (at ∷ [])

-- a list of one number
pub one_number : (work before : List TaskNo) (task : TaskNo) → before ≡ [] → work ≡ before ++ task ∷ [] → numbers work ≡ task.0 ∷ []
one_number work before task none e = ap numbers (e ∙ ap (λ (xs : List TaskNo). xs ++ task ∷ []) none)
