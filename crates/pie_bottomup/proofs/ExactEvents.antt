-- A build stays exact where contents are staged, and what a task noted that fails.
use Rattle.std.proofs.Common.{◌≡◌, ◌⊎◌, ℕ, ◌<◌, ◌≤◌, ◌-◌, ◌&&◌, Bool, true, false, cond, List, [], ◌∷◌, map, None, Some, length, refl, sym, ap, ◌∙◌, subst, inl, inr, arith, bytes_eq}
use Rattle.std.specs.Prelude.{slice_index_or, option_map, take, drop, min}
use Rattle.std.specs.List.{Contains}
use Rattle.std.specs.declared.cmp.Ordering.TheVariants.{Less, Equal, Greater}
use Rattle.std.specs.Ordering.{nat_cmp, is_eq, MatchOrdering}
use Rattle.std.specs.Cmp.{ranks}
use Rattle.std.specs.Cmp.Lexicographic.{slice_cmp}
use Rattle.std.proofs.lemmas.Bool.{cases_lt}
use Rattle.std.proofs.lemmas.List.{take_all, drop_all, length-drop, length-map, drop-map}
use Rattle.std.proofs.lemmas.Map.Text.{is_eq-slice_cmp}
use Rattle.pie_value.specs.Canonical.{enc_task}
use Rattle.pie_graph.specs.declared.edges.TaskNo.{TaskNo}
use Rattle.pie_files.specs.Directory.{Directory}
use Rattle.pie_graph.specs.Numbers.{IsMarked, numbers}
use Rattle.pie_graph.specs.Rows.{row_at}
use Rattle.pie_graph.proofs.Among.{contains_cases}
use Rattle.pie_record.specs.declared.task_record.TaskRecord.{TaskRecord}
use Rattle.pie_record.specs.inner.Records.{record_of as kept_of}
use Rattle.pie_view.specs.Content.{Staged, content, is_pair, Puts}
use Rattle.pie_view.specs.Seen.{IsOwn}
use Rattle.pie_walk.specs.Marks.{mark_of, IsSettled}
use Rattle.pie_walk.specs.States.{WalkState}
use Rattle.pie_walk.specs.Standing.{Stands}
use Rattle.pie_walk.proofs.TurnSteps.{settled_reach}
use Rattle.pie_model.specs.Paths.{among}
use Rattle.pie_model.specs.Seen.{first_write}
use Rattle.pie_model.specs.Trees.{trace_of, writes_of}
use Rattle.pie_model.specs.Evaluation.{evaluation}
use Rattle.pie_model.specs.Records.{Record}
use Rattle.pie_model.specs.Built.{bytes_at}
use Rattle.pie_model.proofs.Basics.{same_bytes, bytes_same, clash}
use Rattle.pie_model.proofs.LooksLemmas.{first_write-hashed}
use Rattle.pie_model_pipeline.specs.World.{world}
use Rattle.pie_earlier_laws.specs.Left.{AreThere}
use Rattle.pie_core_laws.specs.Update.{Update, present}
use Rattle.pie_core_laws.specs.Exact.{runs, is_busy}
use Rattle.pie_core_laws.specs.Keeping.{Separates}
use Rattle.pie_core_laws.specs.Seeing.{written_now}
use Rattle.pie_core_laws.proofs.Exactly.{settled_not_runs, settled_not_busy}
use Rattle.pie_core_laws.proofs.Seen.{record_now, files_written}
use Rattle.pie_bottomup.specs.declared.state.Core.{Core}
use Rattle.pie_bottomup.specs.inner.Exact.{AreWritten, IsExactCore, MayStage, Lacks}
use Rattle.pie_bottomup.proofs.Exactly.{nothing_staged}

-- ---- what is staged for the task in hand

-- of all other tasks the same is staged
abbrev pub SameBeside : Staged → Staged → ℕ → Type 0
SameBeside old new n = (k : ℕ) (p : List ℕ) → (k ≡ n → ⊥) → content new k p ≡ content old k p

pub staged_exact : (u : Update) (c : Core) (later : Staged) (n : ℕ) → runs (mark_of c.frames.walk.marks n) ≡ true → SameBeside c.stage later n
    → IsExactCore u c → IsExactCore u (record c { stage = later })
staged_exact u c later n run same e = record {
  tested = e.tested;
  counted = e.counted;
  tried = e.tried;
  are = record {
    tables = e.are.tables;
    known = e.are.known;
    written = record {
      there = w.there;
      ran = λ k rec path is flag kept. same k path (settled_other k is) ∙ w.ran k rec path is flag kept;
      fetched = λ k rec path bytes is rested kept full.
          w.fetched k rec path bytes is rested kept (sym (same k path (settled_other k is)) ∙ full);
      idle = λ k rests un.
          let was = w.idle k rests un in
          record { rested = was.rested; unstaged = λ path. same k path (resting_other k rests) ∙ was.unstaged path };
    };
    unchanged = e.are.unchanged;
  };
  parked = e.parked;
  hand = e.hand;
}
  where
    w : AreWritten u c.tables c.frames.walk c.stage
    w = e.are.written

    resting_other : (k : ℕ) → runs (mark_of c.frames.walk.marks k) ≡ false → k ≡ n → ⊥
    resting_other k rests e = clash (runs (mark_of c.frames.walk.marks n)) run (ap (λ m. runs (mark_of c.frames.walk.marks m)) (sym e) ∙ rests)

    settled_other : (k : ℕ) → IsSettled c.frames.walk.marks k → k ≡ n → ⊥
    settled_other k is = resting_other k (settled_not_runs (mark_of c.frames.walk.marks k) is)

-- a settled task isn't busy
not_busy : (s : WalkState) → Stands s → (n : ℕ) → IsSettled s.marks n → is_busy s n ≡ false
not_busy s w n h = by (is_busy s n) refl
  where
    by : (b : Bool) → is_busy s n ≡ b → b ≡ false
    by true i = absurd (settled_not_busy s w n h i)
    by false i = refl

-- ---- one content more

nat_same : (a b : ℕ) → is_eq (nat_cmp a b) ≡ true → a ≡ b
nat_same a b is = (elim (nat_cmp a b) as (λ o. MatchOrdering o (a < b) (a ≡ b) (b < a) → is_eq o ≡ true → a ≡ b) [
  | Less ↦ λ lt e. absurd (let no : false ≡ true = e in cc)
  | Equal ↦ λ e f. e
  | Greater ↦ λ gt e. absurd (let no : false ≡ true = e in cc)
]) (ranks a b) is

left_true : (a b : Bool) → a && b ≡ true → a ≡ true
left_true true b h = refl
left_true false b h = absurd (let no : false ≡ true = h in cc)

right_true : (a b : Bool) → a && b ≡ true → b ≡ true
right_true true b h = h
right_true false b h = absurd (let no : false ≡ true = h in cc)

-- it is the one that was put, or as before
record IsPut (later : Staged) (task : ℕ) (path bytes : List ℕ) (k : ℕ) (p : List ℕ) : Type 0 where
  same_task : k ≡ task
  same_path : p ≡ path
  full : content later k p ≡ Some bytes

put_cases : (old later : Staged) (task : ℕ) (path bytes : List ℕ) → Puts old later task path bytes → (k : ℕ) (p : List ℕ)
    → (content later k p ≡ content old k p) ⊎ IsPut later task path bytes k p
put_cases old later task path bytes puts k p = by (is_pair task path k p) refl
  where
    by : (b : Bool) → is_pair task path k p ≡ b → (content later k p ≡ content old k p) ⊎ IsPut later task path bytes k p
    by true is = inr (record {
      same_task = sym (nat_same task k (left_true (is_eq (nat_cmp task k)) (is_eq (slice_cmp nat_cmp path p)) is));
      same_path = sym (same_bytes path p
          (sym (is_eq-slice_cmp path p) ∙ right_true (is_eq (nat_cmp task k)) (is_eq (slice_cmp nat_cmp path p)) is));
      full = puts k p ∙ ap (λ b. cond b (Some bytes) (content old k p)) is;
    })
    by false is = inl (puts k p ∙ ap (λ b. cond b (Some bytes) (content old k p)) is)

pub puts_beside : (old later : Staged) (task : ℕ) (path bytes : List ℕ) → Puts old later task path bytes → SameBeside old later task
puts_beside old later task path bytes puts k p apart = elim (put_cases old later task path bytes puts k p) [
  | inl same ↦ same
  | inr put ↦ absurd (apart put.same_task)
]

-- ---- the file of a task that didn't run

-- a path that was written was first written with some hash
first_there : (ws : List (List ℕ × List ℕ)) (p : List ℕ) → Contains (map (λ (w : List ℕ × List ℕ). w.0) ws) p
    → (hash : List ℕ) × (first_write p ws ≡ Some hash)
first_there [] p h = absurd (omega (arith, h.1))
first_there (w ∷ ws) p h = by (bytes_eq p w.0) refl (first_there ws p)
  where
    by : (b : Bool) → bytes_eq p w.0 ≡ b
        → (Contains (map (λ (x : List ℕ × List ℕ). x.0) ws) p → (hash : List ℕ) × (first_write p ws ≡ Some hash))
        → (hash : List ℕ) × (first_write p (w ∷ ws) ≡ Some hash)
    by true is below = (w.1, ap (λ b. cond b (Some w.1) (first_write p ws)) is)
    by false is below =
        elim (contains_cases w.0 p (map (λ (x : List ℕ × List ℕ). x.0) ws) h) [
          | inl same ↦ clash (bytes_eq p w.0) (ap (bytes_eq p) same ∙ bytes_same p) is
          | inr later ↦ let q = below later in (q.0, ap (λ b. cond b (Some w.1) (first_write p ws)) is ∙ q.1)
        ]

-- what was written is there
written_at : (d : Directory) (ws : List (List ℕ × List ℕ)) (p : List ℕ) → Contains (map (λ (w : List ℕ × List ℕ). w.0) ws) p → AreThere world d ws
    → (bytes : List ℕ) × (bytes_at d p ≡ Some bytes)
written_at d [] p h a = absurd (omega (arith, h.1))
written_at d (w ∷ ws) p h a = elim (contains_cases w.0 p (map (λ (x : List ℕ × List ℕ). x.0) ws) h) [
  | inl same ↦ (a.0.0, ap (bytes_at d) (sym same) ∙ a.0.1)
  | inr later ↦ written_at d ws p later a.1
]

module _ (u : Update) (c : Core) (writer : ℕ) (path : List ℕ) (e : IsExactCore u c) (may : MayStage c writer path) (apart : Separates u) where
  wrote_there : (rec : TaskRecord) → kept_of c.tables.records writer ≡ Some rec → Contains (map (λ (w : List ℕ × List ℕ). w.0) rec.writes) path
  wrote_there rec kept =
      let row = e.are.tables.rows writer rec kept (settled_not_runs (mark_of c.frames.walk.marks writer) may.settled) in
      subst (λ (ps : List (List ℕ)). Contains ps path) row.1 may.wrote

  pub wrote_first : (rec : TaskRecord) → kept_of c.tables.records writer ≡ Some rec → (hash : List ℕ) × (first_write path rec.writes ≡ Some hash)
  wrote_first rec kept = first_there rec.writes path (wrote_there rec kept)

  -- a task that ran has staged it
  pub rested : (rec : TaskRecord) → kept_of c.tables.records writer ≡ Some rec → IsMarked c.tables.ran.items writer → ⊥
  rested rec kept flag =
      let q = wrote_first rec kept in
      let none : written_now u rec.task path ≡ None =
      sym (e.are.written.ran writer rec path may.settled flag kept) ∙ may.unstaged in
      let same =
      ap (λ (z : Record). z.writes) (record_now u c.tables.names c.tables.records c.frames.walk e.are.tables may.stands apart writer rec may.settled kept) in
      nothing_staged (first_write path rec.writes) q.0
      (ap (first_write path) same ∙ first_write-hashed world path (writes_of (trace_of (evaluation world (present u) (enc_task rec.task))))
      ∙ ap (option_map world.hash) none) q.1

  -- one that didn't has it there
  pub is_there : (bytes : List ℕ) × (bytes_at u.directory path ≡ Some bytes)
  is_there = by (slice_index_or c.tables.ran.items writer false) refl
    where
      by : (b : Bool) → slice_index_or c.tables.ran.items writer false ≡ b → (bytes : List ℕ) × (bytes_at u.directory path ≡ Some bytes)
      by true flag =
          let kept = e.are.tables.ended writer may.settled in
          absurd (rested kept.0 kept.1 flag)
      by false flag =
          let kept = e.are.tables.ended writer may.settled in
          written_at u.directory kept.0.writes path (wrote_there kept.0 kept.1)
          (e.are.written.there writer kept.0 (not_busy c.frames.walk may.stands writer may.settled) flag kept.1)

module _ (u : Update) (c : Core) (later : Staged) (writer : ℕ) (path bytes : List ℕ) (e : IsExactCore u c) (may : MayStage c writer path)
    (apart : Separates u) (puts : Puts c.stage later writer path bytes) (at : bytes_at u.directory path ≡ Some bytes)
    (met : among bytes u.besides ≡ true) where
  written_there : (rec : TaskRecord) → kept_of c.tables.records writer ≡ Some rec → slice_index_or c.tables.ran.items writer false ≡ false
      → written_now u rec.task path ≡ Some bytes
  written_there rec kept rests =
      let q = wrote_first u c writer path e may apart rec kept in
      files_written u c.tables.names c.tables.records c.frames.walk e.are.tables may.stands apart writer rec path bytes q.0 may.settled kept
      (e.are.written.there writer rec (not_busy c.frames.walk may.stands writer may.settled) rests kept) q.1 at met

  ran_now : (n : ℕ) (rec : TaskRecord) (p : List ℕ) → IsSettled c.frames.walk.marks n → IsMarked c.tables.ran.items n
      → kept_of c.tables.records n ≡ Some rec → content later n p ≡ written_now u rec.task p
  ran_now n rec p is flag kept = elim (put_cases c.stage later writer path bytes puts n p) [
    | inl same ↦ same ∙ e.are.written.ran n rec p is flag kept
    | inr put ↦ absurd (rested u c writer path e may apart rec (subst (λ (m : ℕ). kept_of c.tables.records m ≡ Some rec) put.same_task kept)
        (subst (IsMarked c.tables.ran.items) put.same_task flag))
  ]

  fetched_now : (n : ℕ) (rec : TaskRecord) (p b : List ℕ) → IsSettled c.frames.walk.marks n → slice_index_or c.tables.ran.items n false ≡ false
      → kept_of c.tables.records n ≡ Some rec → content later n p ≡ Some b → written_now u rec.task p ≡ Some b
  fetched_now n rec p b is rests kept full = elim (put_cases c.stage later writer path bytes puts n p) [
    | inl same ↦ e.are.written.fetched n rec p b is rests kept (sym same ∙ full)
    | inr put ↦
        ap (written_now u rec.task) put.same_path
        ∙ written_there rec (subst (λ (m : ℕ). kept_of c.tables.records m ≡ Some rec) put.same_task kept)
        (subst (λ (m : ℕ). slice_index_or c.tables.ran.items m false ≡ false) put.same_task rests)
        ∙ sym put.full ∙ full
  ]

  idle_now : (n : ℕ) → (IsSettled c.frames.walk.marks n → ⊥) → (p : List ℕ) → content c.stage n p ≡ None → content later n p ≡ None
  idle_now n un p none = elim (put_cases c.stage later writer path bytes puts n p) [
    | inl same ↦ same ∙ none
    | inr put ↦ absurd (un (subst (IsSettled c.frames.walk.marks) (sym put.same_task) may.settled))
  ]

  pub file_exact : IsExactCore u (record c { stage = later })
  file_exact = record {
    tested = e.tested;
    counted = e.counted;
    tried = e.tried;
    are = record {
      tables = e.are.tables;
      known = e.are.known;
      written = record {
        there = e.are.written.there;
        ran = ran_now;
        fetched = fetched_now;
        idle = λ n rests un.
            let was = e.are.written.idle n rests un in
            record { rested = was.rested; unstaged = λ p. idle_now n un p (was.unstaged p) };
      };
      unchanged = e.are.unchanged;
    };
    parked = e.parked;
    hand = e.hand;
  }

-- a task that is seen there is settled
pub lacking_may : (c : Core) (n from : ℕ) (path : List ℕ) (writer : ℕ) → Stands c.frames.walk
    → ((k : ℕ) → Contains (drop from (row_at c.frames.walk.rows n).needs) k → IsSettled c.frames.walk.marks k)
    → Lacks c.frames.walk.rows c.stage n from path writer → MayStage c writer path
lacking_may c n from path writer w settled lacks = record {
  stands = w;
  settled = settled_reach c.frames.walk.rows c.frames.walk.marks w.holds.closed lacks.0.0.0 writer lacks.0.0.2 (settled lacks.0.0.0 lacks.0.0.1);
  wrote = lacks.0.1;
  unstaged = lacks.1;
}

-- ---- what is seen

-- what a row has from a place on
pub since_is : (from : ℕ) (nos : List TaskNo) (m : ℕ) (needs : List ℕ) → m ≡ min from (length nos) → numbers nos ≡ needs
    → numbers (take (length nos - m) (drop m nos)) ≡ drop from needs
since_is from nos m needs least e =
    ap numbers (take_all (length nos - m) (drop m nos) (omega (arith, length-drop m nos))) ∙ sym (drop-map (λ (t : TaskNo). t.0) m nos)
    ∙ ap (drop m) e ∙ by (cases_lt from (length nos))
  where
    sized : length needs ≡ length nos
    sized = sym (ap length e) ∙ length-map nos (λ (t : TaskNo). t.0)

    by : (from < length nos) ⊎ (length nos ≤ from) → drop m needs ≡ drop from needs
    by (inl l) = ap (λ (k : ℕ). drop k needs) (omega (arith, least, l))
    by (inr l) = drop_all m needs (omega (arith, least, l, sized)) ∙ sym (drop_all from needs (omega (arith, l, sized)))

-- nothing was written by nobody
pub none_own : (path : List ℕ) → IsOwn [] path → ⊥
none_own path own = omega (arith, own.1.1)
