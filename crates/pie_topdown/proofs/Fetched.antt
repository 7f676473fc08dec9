-- The file that a task is about to look at is staged, and what tasks staged that run stays.
use Rattle.std.proofs.Common.{◌≡◌, ◌⊎◌, ℕ, ◌<◌, ◌&&◌, Bool, true, false, cond, List, [], ◌∷◌, Option, None, Some, Result, Ok, Err, map, refl, sym, ap, subst, ◌∙◌, inl, inr, arith, bytes_eq}
use Rattle.std.specs.Prelude.{slice_get, slice_index_or, option_map, is_some, IfSome, OnOk, All}
use Rattle.std.specs.List.{Contains}
use Rattle.std.specs.declared.cmp.Ordering.TheVariants.{Less, Equal, Greater}
use Rattle.std.specs.Ordering.{nat_cmp, is_eq, MatchOrdering}
use Rattle.std.specs.Cmp.{ranks}
use Rattle.std.specs.Cmp.Lexicographic.{slice_cmp}
use Rattle.std.proofs.lemmas.List.Elements.{All-contains}
use Rattle.std.proofs.lemmas.Map.Text.{is_eq-slice_cmp}
use Rattle.std.proofs.lemmas.Option.{slice_get_within}
use Rattle.pie_base.specs.Path.{is_out}
use Rattle.pie_value.specs.Canonical.{enc_task}
use Rattle.pie_files.specs.Directory.{Directory, file_at}
use Rattle.pie_files.specs.declared.files.Found.{Found}
use Rattle.pie_graph.specs.declared.edges.TaskNo.{TaskNo}
use Rattle.pie_graph.specs.Numbers.{IsMarked}
use Rattle.pie_graph.specs.Rows.{Row}
use Rattle.pie_graph.proofs.Among.{contains_cases}
use Rattle.pie_record.specs.declared.task_record.TaskRecord.{TaskRecord}
use Rattle.pie_record.specs.inner.Records.{record_of as kept_of}
use Rattle.pie_view.specs.Content.{Staged, content, is_pair, Puts}
use Rattle.pie_view.specs.Seen.{Visible, IsOnly}
use Rattle.pie_view.specs.declared.seen.Seen.{Seen}
use Rattle.pie_view.specs.declared.seen.Seen.TheVariants.{Absent, By, Clash}
use Rattle.pie_walk.specs.Marks.{IsSettled}
use Rattle.pie_walk.proofs.TurnSteps.{settled_reach}
use Rattle.pie_running.specs.inner.Noted.{Noted}
use Rattle.pie_running.proofs.Firsts.{same_number}
use Rattle.pie_model.specs.Seen.{first_write}
use Rattle.pie_model.specs.Trees.{trace_of, writes_of}
use Rattle.pie_model.specs.Evaluation.{evaluation}
use Rattle.pie_model.specs.Records.{Record}
use Rattle.pie_model.specs.Built.{bytes_at}
use Rattle.pie_model.proofs.Basics.{same_bytes, bytes_same, clash}
use Rattle.pie_model.proofs.LooksLemmas.{first_write-hashed}
use Rattle.pie_model_pipeline.specs.World.{world}
use Rattle.pie_earlier_laws.specs.Left.{AreThere}
use Rattle.pie_core_laws.specs.Update.{Update, present}
use Rattle.pie_core_laws.specs.Seeing.{written_now}
use Rattle.pie_core_laws.proofs.Seen.{record_now, files_written}
use Rattle.pie_topdown_laws.specs.Ledgers.{walk_of, IsAsExact}
use Rattle.pie_topdown_laws.proofs.Exactness.{as_exact, kept_settled, settled_kept}
use Rattle.pie_topdown.specs.declared.builder.Builder.{Builder}
use Rattle.pie_topdown.specs.inner.Asking.{MayStage, HasStaged, StagesFile, FetchesSo}
use Rattle.pie_topdown.specs.inner.Ledgers.{HasOutput}
use Rattle.pie_topdown.specs.inner.Right.{AreWritten, IsPlanNow, IsRightSite}
use Rattle.pie_topdown.specs.inner.Sights.{IsStaged, SeenIsStaged, Lacks}
use Rattle.pie_topdown.proofs.Touched.{IsSameBut, touched_site}
use Rattle.pie_topdown.proofs.Lasting.{due_lasts}

-- ---- one content more

nat_same : (a b : ℕ) → is_eq (nat_cmp a b) ≡ true → a ≡ b
nat_same a b is = (elim (nat_cmp a b) as (λ o. MatchOrdering o (a < b) (a ≡ b) (b < a) → is_eq o ≡ true → a ≡ b) [
  | Less ↦ λ lt e. absurd (let no : false ≡ true = e in cc)
  | Equal ↦ λ e f. e
  | Greater ↦ λ gt e. absurd (let no : false ≡ true = e in cc)
]) (ranks a b) is

left_true : (a b : Bool) → a && b ≡ true → a ≡ true
left_true true b h = refl
left_true false b h = absurd (let no : false ≡ true = h in cc)

right_true : (a b : Bool) → a && b ≡ true → b ≡ true
right_true true b h = h
right_true false b h = absurd (let no : false ≡ true = h in cc)

-- it is the one that was put, or as before
pub record IsPut (later : Staged) (task : ℕ) (path bytes : List ℕ) (k : ℕ) (p : List ℕ) : Type 0 where
  pub same_task : k ≡ task
  pub same_path : p ≡ path
  pub full : content later k p ≡ Some bytes

pub put_cases : (old later : Staged) (task : ℕ) (path bytes : List ℕ) → Puts old later task path bytes → (k : ℕ) (p : List ℕ)
    → (content later k p ≡ content old k p) ⊎ IsPut later task path bytes k p
put_cases old later task path bytes puts k p = by (is_pair task path k p) refl
  where
    by : (b : Bool) → is_pair task path k p ≡ b → (content later k p ≡ content old k p) ⊎ IsPut later task path bytes k p
    by true is = inr (record {
      same_task = sym (nat_same task k (left_true (is_eq (nat_cmp task k)) (is_eq (slice_cmp nat_cmp path p)) is));
      same_path = sym (same_bytes path p
          (sym (is_eq-slice_cmp path p) ∙ right_true (is_eq (nat_cmp task k)) (is_eq (slice_cmp nat_cmp path p)) is));
      full = puts k p ∙ ap (λ b. cond b (Some bytes) (content old k p)) is;
    })
    by false is = inl (puts k p ∙ ap (λ b. cond b (Some bytes) (content old k p)) is)

pub puts_beside : (old later : Staged) (task : ℕ) (path bytes : List ℕ) → Puts old later task path bytes → (k : ℕ) → (k ≡ task → ⊥) → (p : List ℕ)
    → content later k p ≡ content old k p
puts_beside old later task path bytes puts k apart p = elim (put_cases old later task path bytes puts k p) [
  | inl same ↦ same
  | inr put ↦ absurd (apart put.same_task)
]

pair_same : (n : ℕ) (p : List ℕ) → is_pair n p n p ≡ true
pair_same n p = ap (λ b. b && is_eq (slice_cmp nat_cmp p p)) (same_number n) ∙ is_eq-slice_cmp p p ∙ bytes_same p

put_here : (old later : Staged) (task : ℕ) (path bytes : List ℕ) → Puts old later task path bytes → content later task path ≡ Some bytes
put_here old later task path bytes puts = puts task path ∙ ap (λ b. cond b (Some bytes) (content old task path)) (pair_same task path)

-- ---- the file of a task that didn't run

-- a path that was written was first written with some hash
first_there : (ws : List (List ℕ × List ℕ)) (p : List ℕ) → Contains (map (λ (w : List ℕ × List ℕ). w.0) ws) p
    → (hash : List ℕ) × (first_write p ws ≡ Some hash)
first_there [] p h = absurd (omega (arith, h.1))
first_there (w ∷ ws) p h = by (bytes_eq p w.0) refl (first_there ws p)
  where
    by : (b : Bool) → bytes_eq p w.0 ≡ b
        → (Contains (map (λ (x : List ℕ × List ℕ). x.0) ws) p → (hash : List ℕ) × (first_write p ws ≡ Some hash))
        → (hash : List ℕ) × (first_write p (w ∷ ws) ≡ Some hash)
    by true is below = (w.1, ap (λ b. cond b (Some w.1) (first_write p ws)) is)
    by false is below =
        elim (contains_cases w.0 p (map (λ (x : List ℕ × List ℕ). x.0) ws) h) [
          | inl same ↦ clash (bytes_eq p w.0) (ap (bytes_eq p) same ∙ bytes_same p) is
          | inr later ↦ let q = below later in (q.0, ap (λ b. cond b (Some w.1) (first_write p ws)) is ∙ q.1)
        ]

-- what was written is there
written_at : (d : Directory) (ws : List (List ℕ × List ℕ)) (p : List ℕ) → Contains (map (λ (w : List ℕ × List ℕ). w.0) ws) p → AreThere world d ws
    → (bytes : List ℕ) × (bytes_at d p ≡ Some bytes)
written_at d [] p h a = absurd (omega (arith, h.1))
written_at d (w ∷ ws) p h a = elim (contains_cases w.0 p (map (λ (x : List ℕ × List ℕ). x.0) ws) h) [
  | inl same ↦ (a.0.0, ap (bytes_at d) (sym same) ∙ a.0.1)
  | inr later ↦ written_at d ws p later a.1
]

none_full : {X : Type 0} (o : Option X) (x : X) → o ≡ None → o ≡ Some x → ⊥
none_full o x none full = let no : None ≡ Some x = sym none ∙ full in cc

module _ (u : Update) (done : List (List ℕ)) (root : List ℕ) (b : Builder) (s : IsRightSite u done root b) where
  -- the ledger is that of an exact build
  pub exact_now : IsAsExact u b.ledger.tables.names b.ledger.tables.records b.ledger.rows b.ledger.places.items
  exact_now = as_exact u b.ledger.tables.names b.ledger.tables.records b.ledger.rows b.ledger.places.items s.ledger

  pub settled_now : (n : ℕ) (rec : TaskRecord) → kept_of b.ledger.tables.records n ≡ Some rec
      → IsSettled (walk_of b.ledger.tables.names b.ledger.tables.records b.ledger.rows b.ledger.places.items).marks n
  settled_now n rec kept = kept_settled u b.ledger.tables.names b.ledger.tables.records b.ledger.rows b.ledger.places.items s.ledger n rec kept

  -- a task that recorded ones reach is recorded
  pub reached_kept : (ns : List ℕ) (path : List ℕ) (k : ℕ) → All (HasOutput b.ledger.tables.records) ns → Visible b.ledger.rows ns path k
      → (rec : TaskRecord) × (kept_of b.ledger.tables.records k ≡ Some rec)
  reached_kept ns path k ended v =
      let out = All-contains (HasOutput b.ledger.tables.records) ns v.0.0 ended v.0.1 in
      settled_kept u b.ledger.tables.names b.ledger.tables.records b.ledger.rows b.ledger.places.items s.ledger k
      (settled_reach b.ledger.rows (walk_of b.ledger.tables.names b.ledger.tables.records b.ledger.rows b.ledger.places.items).marks
      exact_now.stands.holds.closed v.0.0 k v.0.2 (settled_now v.0.0 out.rec out.kept))

module _ (u : Update) (done : List (List ℕ)) (root : List ℕ) (b : Builder) (s : IsRightSite u done root b) (plan : IsPlanNow u b.plan) (writer : ℕ)
    (path : List ℕ) (may : MayStage b writer path) where
  names_kept : slice_get b.ledger.tables.names writer ≡ Some may.rec.task
  names_kept = s.ledger.named writer may.rec may.kept

  wrote_there : Contains (map (λ (w : List ℕ × List ℕ). w.0) may.rec.writes) path
  wrote_there = subst (λ (ps : List (List ℕ)). Contains ps path) (s.ledger.each_row writer may.rec may.kept).1 may.wrote

  first : (hash : List ℕ) × (first_write path may.rec.writes ≡ Some hash)
  first = first_there may.rec.writes path wrote_there

  -- a task that ran has staged it
  ran_not : IsMarked b.ledger.tables.ran.items writer → ⊥
  ran_not flag =
      let none : written_now u may.rec.task path ≡ None = sym (s.written.ran writer may.rec path flag may.kept) ∙ may.unstaged in
      let same =
      ap (λ (z : Record). z.writes)
      (record_now u b.ledger.tables.names b.ledger.tables.records
      (walk_of b.ledger.tables.names b.ledger.tables.records b.ledger.rows b.ledger.places.items) (exact_now u done root b s).exact
      (exact_now u done root b s).stands plan.apart writer may.rec (settled_now u done root b s writer may.rec may.kept) may.kept) in
      none_full (first_write path may.rec.writes) first.0
      (ap (first_write path) same ∙ first_write-hashed world path (writes_of (trace_of (evaluation world (present u) (enc_task may.rec.task))))
      ∙ ap (option_map world.hash) none) first.1

  -- one that didn't has it there
  rested : slice_index_or b.ledger.tables.ran.items writer false ≡ false
  rested = by (slice_index_or b.ledger.tables.ran.items writer false) refl
    where
      by : (z : Bool) → slice_index_or b.ledger.tables.ran.items writer false ≡ z → slice_index_or b.ledger.tables.ran.items writer false ≡ false
      by true flag = absurd (ran_not flag)
      by false off = off

  pub is_there : (bytes : List ℕ) × (bytes_at u.directory path ≡ Some bytes)
  is_there = written_at u.directory may.rec.writes path wrote_there (s.written.there writer may.rec rested may.kept)

  module _ (later : Staged) (bytes : List ℕ) (puts : Puts b.stage later writer path bytes) (at : bytes_at u.directory path ≡ Some bytes) where
    same_but : IsSameBut b (record b { stage = later })
    same_but = record { plan = refl; names = refl; records = refl; rows = refl; places = refl; stack = refl; known = refl; failure = refl }

    written_there : written_now u may.rec.task path ≡ Some bytes
    written_there =
        files_written u b.ledger.tables.names b.ledger.tables.records
        (walk_of b.ledger.tables.names b.ledger.tables.records b.ledger.rows b.ledger.places.items) (exact_now u done root b s).exact
        (exact_now u done root b s).stands plan.apart writer may.rec path bytes first.0 (settled_now u done root b s writer may.rec may.kept) may.kept
        (s.written.there writer may.rec rested may.kept) first.1 at (plan.met path bytes may.out at)

    one_record : (n : ℕ) (rec : TaskRecord) → n ≡ writer → kept_of b.ledger.tables.records n ≡ Some rec → rec ≡ may.rec
    one_record n rec e kept = one rec may.rec (sym kept ∙ ap (kept_of b.ledger.tables.records) e ∙ may.kept)
      where
        one : (x y : TaskRecord) → Some x ≡ Some y → x ≡ y
        one x y q = cc

    written : AreWritten u (record b { stage = later })
    written = record {
      there = s.written.there;
      fetched = λ n rec p z off kept staged. elim (put_cases b.stage later writer path bytes puts n p) [
        | inl same ↦ s.written.fetched n rec p z off kept (sym same ∙ staged)
        | inr put ↦
            ap (λ (x : TaskRecord). written_now u x.task p) (one_record n rec put.same_task kept)
            ∙ ap (written_now u may.rec.task) put.same_path ∙ written_there ∙ sym put.full ∙ staged
      ];
      ran = λ n rec p flag kept. elim (put_cases b.stage later writer path bytes puts n p) [
        | inl same ↦ same ∙ s.written.ran n rec p flag kept
        | inr put ↦ absurd (ran_not (subst (IsMarked b.ledger.tables.ran.items) put.same_task flag))
      ];
      own = s.written.own;
      due = λ n marked. due_lasts u b (record b { stage = later }) n (λ t at. at) refl (s.written.due n marked);
      beyond = λ n p past. elim (put_cases b.stage later writer path bytes puts n p) [
        | inl same ↦ same ∙ s.written.beyond n p past
        | inr put ↦ absurd (let within = slice_get_within b.ledger.tables.names writer may.rec.task names_kept in let same = put.same_task in omega (arith, past, within, same))
      ];
    }

    pub staged_right : HasStaged u done root b writer path (record b { stage = later })
    staged_right = record {
      site = touched_site b (record b { stage = later }) same_but u done root written s;
      beside = λ k apart p. puts_beside b.stage later writer path bytes puts k apart p;
      staged = (bytes, put_here b.stage later writer path bytes puts);
    }

-- what was read
read_at : (held : Option Directory) (d : Directory) (path : List ℕ) (found : Option Found) → held ≡ Some d
    → IfSome held (λ (x : Directory). option_map (λ (f : Found). (f.bytes.items, f.mark)) found ≡ file_at x path)
    → bytes_at d path ≡ option_map (λ (f : Found). f.bytes.items) found
read_at held d path found is at =
    by found (subst (λ (o : Option Directory). IfSome o (λ (x : Directory). option_map (λ (f : Found). (f.bytes.items, f.mark)) found ≡ file_at x path)) is at)
  where
    by : (o : Option Found) → option_map (λ (f : Found). (f.bytes.items, f.mark)) o ≡ file_at d path
        → bytes_at d path ≡ option_map (λ (f : Found). f.bytes.items) o
    by None same = ap (option_map (λ (f : List ℕ × ℕ). f.0)) (sym same)
    by (Some f) same = ap (option_map (λ (f : List ℕ × ℕ). f.0)) (sym same)

-- the file that was read is staged
pub put_stages : (held : Option Directory) (old : Builder) (later : Staged) (writer : ℕ) (path : List ℕ) (found : Option Found) (f : Found)
    → IfSome held (λ (d : Directory). option_map (λ (x : Found). (x.bytes.items, x.mark)) found ≡ file_at d path) → found ≡ Some f
    → Puts old.stage later writer path f.bytes.items → StagesFile held old writer path (record old { stage = later })
put_stages held old later writer path found f at is puts = λ u done root holds plan s may.
    staged_right u done root old s plan writer path may later f.bytes.items puts
    (read_at held u.directory path found holds at ∙ ap (option_map (λ (x : Found). x.bytes.items)) is)

-- no file is there that could lack
pub none_stages : (held : Option Directory) (old : Builder) (writer : ℕ) (path : List ℕ) (found : Option Found)
    → IfSome held (λ (d : Directory). option_map (λ (f : Found). (f.bytes.items, f.mark)) found ≡ file_at d path) → found ≡ None
    → StagesFile held old writer path old
none_stages held old writer path found at none = λ u done root holds plan s may.
    let there = is_there u done root old s plan writer path may in
    absurd (none_full (bytes_at u.directory path) there.0
    (read_at held u.directory path found holds at ∙ ap (option_map (λ (f : Found). f.bytes.items)) none) there.1)

-- ---- whose file is seen

-- a content that was found
pub found_staged : {B : Type 0} (bytes : B → List ℕ) (o : Option B) (staged : Staged) (n : ℕ) (path : List ℕ) → option_map bytes o ≡ content staged n path
    → is_some o ≡ true → IsStaged staged n path
found_staged bytes (Some b) staged n path same is = (bytes b, sym same)
found_staged bytes None staged n path same is = absurd (let no : false ≡ true = is in cc)

-- and one that wasn't
pub none_staged : {B : Type 0} (bytes : B → List ℕ) (o : Option B) (staged : Staged) (n : ℕ) (path : List ℕ) → option_map bytes o ≡ content staged n path
    → is_some o ≡ false → content staged n path ≡ None
none_staged bytes (Some b) staged n path same is = absurd (let no : true ≡ false = is in cc)
none_staged bytes None staged n path same is = sym same

-- the task wrote it itself
pub own_seen : (rows : List Row) (staged : Staged) (n : ℕ) (needs path : List ℕ) → IsStaged staged n path → SeenIsStaged rows staged n needs path
own_seen rows staged n needs path has none one only = absurd (let no : Some has.0 ≡ None = sym has.1 ∙ none in cc)

-- the one that is seen
pub one_writer : (a b : TaskNo) → By a ≡ By b → a.0 ≡ b.0
one_writer a b same = cc

-- it is of the one that is seen, if one is
pub others_seen : (rows : List Row) (staged : Staged) (n : ℕ) (needs path : List ℕ) (seen : Seen) → IsOnly (Visible rows needs path) seen
    → ((one : TaskNo) → seen ≡ By one → IsStaged staged one.0 path) → SeenIsStaged rows staged n needs path
others_seen rows staged n needs path Absent none has own one only = absurd (none one.0 only.0)
others_seen rows staged n needs path (By writer) is has own one only =
    subst (λ (k : ℕ). IsStaged staged k path) (only.1 writer.0 is.0) (has writer refl)
others_seen rows staged n needs path Clash two has own one only = absurd (two.4 (only.1 two.0 two.2 ∙ sym (only.1 two.1 two.3)))

-- ---- a task is about to look

-- the file of the one that is seen was lacking
pub fetches_file : {E : Type 0} (held : Option Directory) (c new : Builder) (n : Noted) (path : List ℕ) (writer : ℕ) (r : Result (Unit {0}) E) → is_out path ≡ true
    → Lacks c.ledger.rows c.stage n.needs path writer → OnOk r (StagesFile held c writer path new) → OnOk r (FetchesSo held c n path new)
fetches_file held c new n path writer (Err x) out lacks is = tt
fetches_file held c new n path writer (Ok x) out lacks is = λ u done root holds plan s ended.
    let kept = reached_kept u done root c s n.needs path writer ended lacks.0 in
    let has = is u done root holds plan s (record { rec = kept.0; kept = kept.1; wrote = lacks.0.1; out = out; unstaged = lacks.1 }) in
    record {
      site = has.site;
      beside = λ k none p. has.beside k (λ same. none_full (kept_of c.ledger.tables.records k) kept.0 none (ap (kept_of c.ledger.tables.records) same ∙ kept.1)) p;
      seen = λ _ own one only. subst (λ (k : ℕ). IsStaged new.stage k path) (only.1 writer lacks.0) has.staged;
    }

-- none was
pub fetches_none : (held : Option Directory) (c : Builder) (n : Noted) (path : List ℕ)
    → (is_out path ≡ true → SeenIsStaged c.ledger.rows c.stage n.number n.needs path) → FetchesSo held c n path c
fetches_none held c n path seen = λ u done root holds plan s ended. record { site = s; beside = λ k none p. refl; seen = seen }
