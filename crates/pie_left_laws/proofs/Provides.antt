-- What the records of an accepted build wrote is what its live tasks provide.
use Rattle.std.proofs.Common.{ℕ, ◌≡◌, Bool, true, false, cond, Option, Some, None, option_map, List, [], ◌∷◌, ◌++◌, map, ◌⊎◌, inl, inr, sym, ◌∙◌, ap, subst, refl}
use Rattle.std.proofs.Common.{bytes_eq}
use Rattle.std.specs.Prelude.{Contains}
use Rattle.std.specs.List.{flat_map}
use Rattle.std.proofs.lemmas.List.{map-append}
use Rattle.sha2.specs.Sha256.{sha256}
use Rattle.pie_record.specs.declared.task_record.TaskRecord.{TaskRecord}
use Rattle.pie_diff.specs.Known.{writes_of as kept_writes}
use Rattle.pie_diff.specs.Removals.{writes_paths, written_by}
use Rattle.pie_model.specs.Paths.{Path, among, kind_of}
use Rattle.pie_model.specs.declared.words.Kind.TheVariants.{Out}
use Rattle.pie_model.specs.Tasks.{Task}
use Rattle.pie_model.specs.Trees.{Trace, ends, looks, lists, writes, needs, trace_of, writes_of}
use Rattle.pie_model.specs.Seen.{first_write}
use Rattle.pie_model.specs.Evaluation.{World, Project, evaluation}
use Rattle.pie_model.specs.Records.{Record, hashed, record_of}
use Rattle.pie_model.specs.Running.{IsDistinct}
use Rattle.pie_model.specs.Forest.{entered_tasks, live_evaluations}
use Rattle.pie_model.specs.Verdict.{verdict}
use Rattle.pie_model.specs.declared.words.Verdict.TheVariants.{Accepted}
use Rattle.pie_model.specs.Built.{store_rows, provided_at}
use Rattle.pie_model.specs.Separate.{AllMet}
use Rattle.pie_model.proofs.Basics.{clash, same_bytes, bytes_same, among_here, among_there}
use Rattle.pie_model.proofs.LooksLemmas.{first_write-hashed}
use Rattle.pie_step_laws.specs.Files.{KeptAt}
use Rattle.pie_step_laws.proofs.FileLemmas.{provided_written, written_provided}
use Rattle.pie_check_laws.proofs.Members.{none_in, here, there, here_or_there}
use Rattle.pie_model_pipeline.specs.Rows.{record_of as model_record}
use Rattle.pie_model_pipeline.specs.World.{world}
use Rattle.pie_builder_laws.proofs.Shown.{wrote_path, path_wrote}
use Rattle.pie_earlier_laws.specs.Rows.{record_among}
use Rattle.pie_earlier_laws.specs.Left.{WritesUnderOut}
use Rattle.pie_earlier_laws.proofs.Accepting.{all_between, live_record}
use Rattle.pie_earlier_laws.proofs.OldRows.{row_entered, entered_row, rows_distinct}
use Rattle.pie_earlier_laws.proofs.Writing.{AreOut, evaluation_out}

pub one_some : {X : Type 0} (x y : X) → Some x ≡ Some y → x ≡ y
one_some x y h = cc

pub no_some : {X A : Type 0} {x : X} → None ≡ Some x → A
no_some {X} {A} {x} h = absurd (never h)
  where
    never : None ≡ Some x → ⊥
    never k = cc

-- ---- the first write

-- the first of two
abbrev either : Option (List ℕ) → Option (List ℕ) → Option (List ℕ)
either (Some b) o = Some b
either None o = o

first_of_both : (p : Path) (xs ys : List (Path × List ℕ)) → first_write p (xs ++ ys) ≡ either (first_write p xs) (first_write p ys)
first_of_both p [] ys = refl
first_of_both p (x ∷ xs) ys = by (bytes_eq p x.0) (first_of_both p xs ys)
  where
    by : (b : Bool) → first_write p (xs ++ ys) ≡ either (first_write p xs) (first_write p ys)
        → cond b (Some x.1) (first_write p (xs ++ ys)) ≡ either (cond b (Some x.1) (first_write p xs)) (first_write p ys)
    by true r = refl
    by false r = r

-- the bytes of a hash that was written
pub contents_of : (w : World) (p : Path) (ws : List (Path × List ℕ)) (h : List ℕ) → first_write p (hashed w ws) ≡ Some h
    → (b : List ℕ) × (first_write p ws ≡ Some b) × (w.hash b ≡ h)
contents_of w p ws h e = go (first_write p ws) refl
  where
    go : (o : Option (List ℕ)) → first_write p ws ≡ o → (b : List ℕ) × (first_write p ws ≡ Some b) × (w.hash b ≡ h)
    go None q = no_some (sym (first_write-hashed w p ws ∙ ap (option_map w.hash) q) ∙ e)
    go (Some b) q = (b, q, one_some (w.hash b) h (sym (first_write-hashed w p ws ∙ ap (option_map w.hash) q) ∙ e))

-- what is written first under `out` alone is a path under `out`
out_first : (ws : List (Path × List ℕ)) (p : Path) (h : List ℕ) → AreOut ws → first_write p ws ≡ Some h → kind_of p ≡ Out
out_first [] p h a e = no_some e
out_first (x ∷ ws) p h a e = by (bytes_eq p x.0) refl e (out_first ws p h a.1)
  where
    by : (b : Bool) → bytes_eq p x.0 ≡ b → cond b (Some x.1) (first_write p ws) ≡ Some h → (first_write p ws ≡ Some h → kind_of p ≡ Out) → kind_of p ≡ Out
    by true q k f = ap kind_of (same_bytes p x.0 q) ∙ a.0
    by false q k f = f k

pub written_out : (w : World) (P : Project) (t : Task) (p : Path) (b : List ℕ) → WritesUnderOut (P.next t)
    → first_write p (writes_of (trace_of (evaluation w P t))) ≡ Some b → kind_of p ≡ Out
written_out w P t p b out e =
    out_first (hashed w (writes_of (trace_of (evaluation w P t)))) p (w.hash b) (evaluation_out w P t out)
    (first_write-hashed w p (writes_of (trace_of (evaluation w P t))) ∙ ap (option_map w.hash) e)

-- what a trace writes is met
pub met_write : (w : World) (Met : List ℕ → Type 0) (k : Trace) (p : Path) (b : List ℕ) → AllMet w Met k → first_write p (writes_of k) ≡ Some b → Met b
met_write w Met (ends x) p b h i = no_some i
met_write w Met (looks l q x k) p b h i = met_write w Met k p b h.1 i
met_write w Met (lists d x k) p b h i = met_write w Met k p b h.1 i
met_write w Met (writes q c k) p b h i = by (bytes_eq p q) i (met_write w Met k p b h.1)
  where
    by : (t : Bool) → cond t (Some c) (first_write p (writes_of k)) ≡ Some b → (first_write p (writes_of k) ≡ Some b → Met b) → Met b
    by true j f = subst Met (one_some c b j) h.0
    by false j f = f j
met_write w Met (needs r x n k) p b h i = met_write w Met k p b h.1 i

-- ---- records

-- the writes of records, one after another
abbrev all_writes : List Record → List (Path × List ℕ)
all_writes rs = flat_map (λ (r : Record). r.writes) rs

-- one of the records wrote this first
record WroteIn (rs : List Record) (p : Path) (h : List ℕ) : Type 0 where
  row : Record
  listed : Contains rs row
  first : first_write p row.writes ≡ Some h

first_from : (p : Path) (rs : List Record) (h : List ℕ) → first_write p (all_writes rs) ≡ Some h → WroteIn rs p h
first_from p [] h e = no_some e
first_from p (r ∷ rs) h e = by (first_write p r.writes) refl (sym (first_of_both p r.writes (all_writes rs)) ∙ e) (first_from p rs h)
  where
    by : (o : Option (List ℕ)) → first_write p r.writes ≡ o → either (first_write p r.writes) (first_write p (all_writes rs)) ≡ Some h
        → (first_write p (all_writes rs) ≡ Some h → WroteIn rs p h) → WroteIn (r ∷ rs) p h
    by None q k f =
        let m = f (ap (λ z. either z (first_write p (all_writes rs))) (sym q) ∙ k) in
        record { row = m.row; listed = there r m.row rs m.listed; first = m.first }
    by (Some c) q k f =
        record { row = r; listed = here r rs; first = q ∙ ap (λ z. either z (first_write p (all_writes rs))) (sym q) ∙ k }

first_there : (p : Path) (rs : List Record) (r : Record) (h : List ℕ) → Contains rs r → first_write p r.writes ≡ Some h
    → (c : List ℕ) × (first_write p (all_writes rs) ≡ Some c)
first_there p [] r h i e = absurd (none_in r i)
first_there p (x ∷ rs) r h i e = by (first_write p x.writes) refl (here_or_there x r rs i) (λ j. first_there p rs r h j e)
  where
    Found : Type 0
    Found = (c : List ℕ) × (first_write p (x.writes ++ all_writes rs) ≡ Some c)

    by : (o : Option (List ℕ)) → first_write p x.writes ≡ o → (x ≡ r) ⊎ Contains rs r
        → (Contains rs r → (c : List ℕ) × (first_write p (all_writes rs) ≡ Some c)) → Found
    by (Some c) q k f = (c, first_of_both p x.writes (all_writes rs) ∙ ap (λ z. either z (first_write p (all_writes rs))) q)
    by None q (inl k) f = no_some (sym q ∙ ap (λ (z : Record). first_write p z.writes) k ∙ e)
    by None q (inr j) f =
        let m = f j in (m.0, first_of_both p x.writes (all_writes rs) ∙ ap (λ z. either z (first_write p (all_writes rs))) q ∙ m.1)

among_listed : (rs : List Record) (t : Task) (r : Record) → record_among rs t ≡ Some r → Contains rs r
among_listed [] t r e = no_some e
among_listed (x ∷ rs) t r e = by (bytes_eq t x.task) e (among_listed rs t r)
  where
    by : (b : Bool) → cond b (Some x) (record_among rs t) ≡ Some r → (record_among rs t ≡ Some r → Contains rs r) → Contains (x ∷ rs) r
    by true k f = subst (λ z. Contains (x ∷ rs) z) (one_some x r k) (here x rs)
    by false k f = there x r rs (f k)

listed_task : (rs : List Record) (r : Record) → Contains rs r → among r.task (map (λ (z : Record). z.task) rs) ≡ true
listed_task [] r i = absurd (none_in r i)
listed_task (x ∷ rs) r i = by (here_or_there x r rs i) (listed_task rs r)
  where
    by : (x ≡ r) ⊎ Contains rs r → (Contains rs r → among r.task (map (λ (z : Record). z.task) rs) ≡ true)
        → among r.task (x.task ∷ map (λ (z : Record). z.task) rs) ≡ true
    by (inl k) f = subst (λ (z : Record). among z.task (x.task ∷ map (λ (y : Record). y.task) rs) ≡ true) k (among_here x.task (map (λ (y : Record). y.task) rs))
    by (inr j) f = among_there r.task x.task (map (λ (y : Record). y.task) rs) (f j)

listed_among : (rs : List Record) (r : Record) → IsDistinct (map (λ (z : Record). z.task) rs) → Contains rs r → record_among rs r.task ≡ Some r
listed_among [] r d i = absurd (none_in r i)
listed_among (x ∷ rs) r d i = by (bytes_eq r.task x.task) refl (here_or_there x r rs i) (listed_among rs r d.1)
  where
    by : (b : Bool) → bytes_eq r.task x.task ≡ b → (x ≡ r) ⊎ Contains rs r → (Contains rs r → record_among rs r.task ≡ Some r)
        → cond b (Some x) (record_among rs r.task) ≡ Some r
    by b q (inl k) f = ap (λ c. cond c (Some x) (record_among rs r.task))
        (sym q ∙ ap (λ (z : Record). bytes_eq r.task z.task) k ∙ bytes_same r.task) ∙ ap Some k
    by true q (inr j) f =
        clash (among x.task (map (λ (z : Record). z.task) rs))
        (subst (λ z. among z (map (λ (y : Record). y.task) rs) ≡ true) (same_bytes r.task x.task q) (listed_task rs r j)) d.0
    by false q (inr j) f = f j

-- ---- the rows of an accepted build

module _ (w : World) (P : Project) (roots : List Task) (accepted : verdict w P roots ≡ Accepted) (p : Path) where
  abbrev given : Option (List ℕ)
  given = provided_at (live_evaluations w P roots) p

  abbrev its_writes : Task → List (Path × List ℕ)
  its_writes t = writes_of (trace_of (evaluation w P t))

  -- what is provided a live task wrote
  pub writer_of : (b : List ℕ) → given ≡ Some b → KeptAt its_writes (entered_tasks w P roots) p b
  writer_of b e =
      provided_written w P roots (live_record w P (entered_tasks w P roots)) (entered_tasks w P roots) its_writes (all_between w P roots accepted)
      (λ y r. refl) p b e

  rows_give : (h : List ℕ) → first_write p (all_writes (store_rows w P roots)) ≡ Some h → (b : List ℕ) × (given ≡ Some b) × (w.hash b ≡ h)
  rows_give h e =
      let m = first_from p (store_rows w P roots) h e in
      let q = row_entered w P roots m.row.task m.row (listed_among (store_rows w P roots) m.row (rows_distinct w P roots accepted) m.listed) in
      let c = contents_of w p (its_writes m.row.task) h (subst (λ (z : Record). first_write p z.writes ≡ Some h) q.1 m.first) in (
        c.0,
        written_provided w P roots (live_record w P (entered_tasks w P roots)) (entered_tasks w P roots) its_writes (all_between w P roots accepted)
            (λ y r. refl) accepted m.row.task p c.0 q.0 c.1,
        c.2,
      )

  given_row : (b : List ℕ) → given ≡ Some b → (h : List ℕ) × (first_write p (all_writes (store_rows w P roots)) ≡ Some h)
  given_row b e =
      let k = writer_of b e in
      first_there p (store_rows w P roots) (record_of w (evaluation w P k.writer)) (w.hash b)
      (among_listed (store_rows w P roots) k.writer (record_of w (evaluation w P k.writer)) (entered_row w P roots k.writer k.entered))
      (first_write-hashed w p (its_writes k.writer) ∙ ap (option_map w.hash) k.wrote)

  -- the first write of the rows has the hash of what is provided
  pub rows_provide : first_write p (all_writes (store_rows w P roots)) ≡ option_map w.hash given
  rows_provide = by (first_write p (all_writes (store_rows w P roots))) refl given refl
    where
      by : (o : Option (List ℕ)) → first_write p (all_writes (store_rows w P roots)) ≡ o → (q : Option (List ℕ)) → given ≡ q → o ≡ option_map w.hash q
      by (Some h) e q f = let m = rows_give h e in ap Some (sym m.2) ∙ ap (option_map w.hash) (sym m.1 ∙ f)
      by None e None f = refl
      by None e (Some b) f = let m = given_row b f in no_some (sym e ∙ m.1)

-- ---- records as the store has them

same_writes : (rows : List TaskRecord) → kept_writes rows ≡ all_writes (map model_record rows)
same_writes [] = refl
same_writes (r ∷ rows) = ap (λ z. r.writes ++ z) (same_writes rows)

same_paths : (rows : List TaskRecord) → writes_paths (kept_writes rows) ≡ written_by rows
same_paths [] = refl
same_paths (r ∷ rows) =
    map-append (λ (x : Path × List ℕ). x.0) r.writes (kept_writes rows) ∙ ap (λ z. writes_paths r.writes ++ z) (same_paths rows)

module _ (P : Project) (roots : List Task) (accepted : verdict world P roots ≡ Accepted) (rows : List TaskRecord)
    (stored : map model_record rows ≡ store_rows world P roots) (p : Path) where
  pub kept_provide : first_write p (kept_writes rows) ≡ option_map world.hash (provided_at (live_evaluations world P roots) p)
  kept_provide = ap (first_write p) (same_writes rows ∙ ap all_writes stored) ∙ rows_provide world P roots accepted p

  pub provided_path : (b : List ℕ) → provided_at (live_evaluations world P roots) p ≡ Some b → Contains (written_by rows) p
  provided_path b e =
      subst (λ ps. Contains ps p) (same_paths rows)
      (wrote_path (kept_writes rows) p (world.hash b) (kept_provide ∙ ap (option_map world.hash) e))

  pub path_provided : Contains (written_by rows) p → (b : List ℕ) × (provided_at (live_evaluations world P roots) p ≡ Some b)
  path_provided h =
      let m = path_wrote (kept_writes rows) p (subst (λ ps. Contains ps p) (sym (same_paths rows)) h) in
      by m.0 (sym kept_provide ∙ m.1) (provided_at (live_evaluations world P roots) p) refl
    where
      by : (c : List ℕ) → option_map world.hash (provided_at (live_evaluations world P roots) p) ≡ Some c → (o : Option (List ℕ))
          → provided_at (live_evaluations world P roots) p ≡ o → (b : List ℕ) × (provided_at (live_evaluations world P roots) p ≡ Some b)
      by c e None f = no_some (sym (ap (option_map world.hash) f) ∙ e)
      by c e (Some b) f = (b, f)

-- the hash of the world
pub hash_is : (b : List ℕ) → world.hash b ≡ sha256 b
unfolding world
hash_is b = refl
