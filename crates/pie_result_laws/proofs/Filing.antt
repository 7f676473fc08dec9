-- The files of an accepted build have what a clean build provides.
use Rattle.std.proofs.Common.{◌≡◌, ◌⊎◌, inl, inr, ℕ, Bool, true, false, cond, Option, Some, None, List, [], ◌∷◌, ◌++◌, map, bytes_eq, refl, sym, ap, subst, ◌∙◌}
use Rattle.std.specs.Prelude.{slice_get, slice_index_or, Contains, IsSome}
use Rattle.std.specs.List.{flat_map}
use Rattle.std.proofs.lemmas.Bool.{cases_eq}
use Rattle.pie_value.specs.declared.task.Task.{Task}
use Rattle.pie_value.specs.declared.verdict.Refusal.{Refusal}
use Rattle.pie_value.specs.declared.verdict.Verdict.TheVariants.{Accepted, Refused}
use Rattle.pie_value.specs.Canonical.{enc_task}
use Rattle.pie_record.specs.declared.task_record.TaskRecord.{TaskRecord}
use Rattle.pie_record.specs.inner.Records.{record_of as kept_of}
use Rattle.pie_tables.specs.declared.tables.Tables.{Tables}
use Rattle.pie_view.specs.Content.{Staged, content}
use Rattle.pie_checks.specs.declared.built.Built.{Built}
use Rattle.pie_checks.specs.Records.{Wrote, Missed}
use Rattle.pie_checks.specs.Refusals.{NoPlace, Overlaps, FindsFirst}
use Rattle.pie_results.specs.inner.Failures.{is_done as ended_well, FailsFirst}
use Rattle.pie_results.specs.inner.Files.{AreFiles, contents_in}
use Rattle.pie_results.specs.inner.Live.{AreLive}
use Rattle.pie_results.specs.inner.Made.{EndsAs, GoesOn, Makes}
use Rattle.pie_walk.specs.Marks.{IsSettled}
use Rattle.pie_walk.specs.States.{WalkState}
use Rattle.pie_walk.specs.Standing.{Stands}
use Rattle.pie_model.specs.Paths.{Path, among}
use Rattle.pie_model.specs.Trees.{Node, trace_of, writes_of}
use Rattle.pie_model.specs.Seen.{first_write}
use Rattle.pie_model.specs.Evaluation.{World, Project, evaluation}
use Rattle.pie_model.specs.Records.{Record}
use Rattle.pie_model.proofs.Basics.{among_here, among_there, among_split, clash}
use Rattle.pie_check_laws.proofs.Members.{into_map, from_map}
use Rattle.pie_model_pipeline.specs.World.{world}
use Rattle.pie_builder_laws.proofs.Filed.{wrote_in}
use Rattle.pie_builder_laws.proofs.Naming.{one_place}
use Rattle.pie_builder_laws.proofs.Provided.{hashed_paths}
use Rattle.pie_builder_laws.proofs.Shown.{wrote_path, path_wrote}
use Rattle.pie_compare_laws.proofs.Ways.{one_some}
use Rattle.pie_core_laws.specs.Update.{Update, present}
use Rattle.pie_core_laws.specs.Exact.{IsExact}
use Rattle.pie_core_laws.specs.Keeping.{Separates}
use Rattle.pie_core_laws.specs.Seeing.{written_now}
use Rattle.pie_core_laws.specs.Ends.{IsDoneRoot, entered_by}
use Rattle.pie_core_laws.proofs.Kept.{done_settled}
use Rattle.pie_core_laws.proofs.Seen.{record_now}
use Rattle.pie_result_laws.specs.Verdicts.{RootsSettle}
use Rattle.pie_result_laws.specs.Accepted.{AreStagedNow, IsKeptAt, HasProvided}
use Rattle.pie_result_laws.proofs.Living as living
use Rattle.pie_result_laws.proofs.Failing.{all_done}
use Rattle.pie_result_laws.proofs.Storing as storing

cases : (b : Bool) → (b ≡ true) ⊎ (b ≡ false)
cases true = inl refl
cases false = inr refl

-- ---- the first write of several tasks

abbrev all_wrote : World → Project → List (List ℕ) → List (Path × List ℕ)
all_wrote w P xs = flat_map (λ (n : Node). writes_of (trace_of n)) (map (evaluation w P) xs)

-- the first of two
abbrev either : Option (List ℕ) → Option (List ℕ) → Option (List ℕ)
either (Some b) o = Some b
either None o = o

first_of_both : (p : Path) (xs ys : List (Path × List ℕ)) → first_write p (xs ++ ys) ≡ either (first_write p xs) (first_write p ys)
first_of_both p [] ys = refl
first_of_both p (x ∷ xs) ys = by (bytes_eq p x.0) (first_of_both p xs ys)
  where
    by : (b : Bool) → first_write p (xs ++ ys) ≡ either (first_write p xs) (first_write p ys)
        → cond b (Some x.1) (first_write p (xs ++ ys)) ≡ either (cond b (Some x.1) (first_write p xs)) (first_write p ys)
    by true r = refl
    by false r = r

-- some task wrote it first
record IsFrom (w : World) (P : Project) (p : Path) (xs : List (List ℕ)) (b : List ℕ) : Type 0 where
  task : List ℕ
  listed : among task xs ≡ true
  first : first_write p (wrote_in w P task) ≡ Some b

first_from : (w : World) (P : Project) (p : Path) (xs : List (List ℕ)) (b : List ℕ) → first_write p (all_wrote w P xs) ≡ Some b → IsFrom w P p xs b
first_from w P p [] b h = cc
first_from w P p (x ∷ xs) b h =
    by (first_write p (wrote_in w P x)) refl (sym (first_of_both p (wrote_in w P x) (all_wrote w P xs)) ∙ h) (first_from w P p xs b)
  where
    by : (o : Option (List ℕ)) → first_write p (wrote_in w P x) ≡ o → either o (first_write p (all_wrote w P xs)) ≡ Some b
        → (first_write p (all_wrote w P xs) ≡ Some b → IsFrom w P p xs b) → IsFrom w P p (x ∷ xs) b
    by None e k r = let m = r k in record { task = m.task; listed = among_there m.task x xs m.listed; first = m.first }
    by (Some c) e k r = record { task = x; listed = among_here x xs; first = e ∙ k }

first_there : (w : World) (P : Project) (p : Path) (xs : List (List ℕ)) (x b : List ℕ) → among x xs ≡ true → first_write p (wrote_in w P x) ≡ Some b
    → (c : List ℕ) × (first_write p (all_wrote w P xs) ≡ Some c)
first_there w P p [] x b i h = clash false i refl
first_there w P p (y ∷ ys) x b i h =
    let r = by (first_write p (wrote_in w P y)) refl (among_split x y ys i) (λ k. first_there w P p ys x b k h) in
    (r.0, first_of_both p (wrote_in w P y) (all_wrote w P ys) ∙ r.1)
  where
    by : (o : Option (List ℕ)) → first_write p (wrote_in w P y) ≡ o → (x ≡ y) ⊎ (among x ys ≡ true)
        → (among x ys ≡ true → (c : List ℕ) × (first_write p (all_wrote w P ys) ≡ Some c))
        → (c : List ℕ) × (either (first_write p (wrote_in w P y)) (first_write p (all_wrote w P ys)) ≡ Some c)
    by (Some c) e s r = (c, ap (λ z. either z (first_write p (all_wrote w P ys))) e)
    by None e (inl s) r = absurd (none (sym h ∙ ap (λ z. first_write p (wrote_in w P z)) s ∙ e))
      where
        none : Some b ≡ None → ⊥
        none k = cc
    by None e (inr k) r = let m = r k in (m.0, ap (λ z. either z (first_write p (all_wrote w P ys))) e ∙ m.1)

-- ---- files

module _ (u : Update) (t : Tables) (s : WalkState) (roots : List Task) (e : IsExact u t.names t.records s) (w : Stands s) (apart : Separates u)
    (all : (r : Task) → Contains roots r → IsDoneRoot t.names t.records s r) (live : List ℕ) (alive : AreLive t.names roots s.rows live) (staged : Staged)
    (st : AreStagedNow u t staged) (alone : NoPlace (Overlaps (Wrote t.names t.records live))) where
  -- a live task wrote this at the path first
  record IsWritten (p c : List ℕ) : Type 0 where
    number : ℕ
    is_live : Contains live number
    rec : TaskRecord
    kept : kept_of t.records number ≡ Some rec
    done : ended_well rec.outcome ≡ true
    hash : List ℕ
    wrote : Contains rec.writes (p, hash)
    first : written_now u rec.task p ≡ Some c

  its_paths : (n : ℕ) (rec : TaskRecord) → IsSettled s.marks n → kept_of t.records n ≡ Some rec
      → map (λ (x : Path × List ℕ). x.0) rec.writes ≡ map (λ (x : Path × List ℕ). x.0) (wrote_in world (present u) (enc_task rec.task))
  its_paths n rec h k =
      ap (λ (r : Record). map (λ (x : Path × List ℕ). x.0) r.writes) (record_now u t.names t.records s e w apart n rec h k)
      ∙ hashed_paths world (wrote_in world (present u) (enc_task rec.task))

  written : (n : ℕ) (rec : TaskRecord) (p c : List ℕ) → Contains live n → kept_of t.records n ≡ Some rec → written_now u rec.task p ≡ Some c → IsWritten p c
  written n rec p c h k f =
      let m = storing.lives u t.names t.records s roots e w apart all live alive n h in
      let same : m.rec ≡ rec = one_some m.rec rec (sym m.kept ∙ k) in
      let q = from_map (λ (x : Path × List ℕ). x.0) rec.writes p
      (subst (λ ps. Contains ps p) (sym (its_paths n rec (done_settled s n m.settled) k)) (wrote_path (wrote_in world (present u) (enc_task rec.task)) p c f)) in
      record {
        number = n;
        is_live = h;
        rec = rec;
        kept = k;
        done = subst (λ (z : TaskRecord). ended_well z.outcome ≡ true) same (storing.well_done m.rec.outcome m.done);
        hash = q.0.1;
        wrote = subst (λ (z : Path). Contains rec.writes (z, q.0.1)) q.2 q.1;
        first = f;
      }

  -- one path, one writer
  same_first : (p c d : List ℕ) → IsWritten p c → IsWritten p d → c ≡ d
  same_first p c d x y = from (by (cases_eq x.number y.number))
    where
      nx : slice_get t.names x.number ≡ Some x.rec.task
      nx = e.named x.number x.rec x.kept

      ny : slice_get t.names y.number ≡ Some y.rec.task
      ny = e.named y.number y.rec y.kept

      by : (x.number ≡ y.number) ⊎ (x.number ≡ y.number → ⊥) → x.number ≡ y.number
      by (inl i) = i
      by (inr d) = absurd (alone p x.rec.task y.rec.task (
        (x.number, nx, (x.is_live, x.rec, x.hash, x.kept, x.wrote)),
        (y.number, ny, (y.is_live, y.rec, y.hash, y.kept, y.wrote)),
        λ i. d (one_place t.names e.tasks x.number y.number x.rec.task nx (ny ∙ ap Some (sym i))),
      ))

      from : x.number ≡ y.number → c ≡ d
      from i =
          let same : x.rec ≡ y.rec = one_some x.rec y.rec (sym x.kept ∙ ap (kept_of t.records) i ∙ y.kept) in
          one_some c d (sym x.first ∙ ap (λ (z : TaskRecord). written_now u z.task p) same ∙ y.first)

  module _ (files : List (Path × List ℕ)) (F : AreFiles t staged live files) (p b : List ℕ) where
    abbrev given : Option (List ℕ)
    given = first_write p (all_wrote world (present u) (entered_by u roots))

    of_file : (c : List ℕ) → Contains files (p, c) → IsWritten p c
    of_file c h =
        let m = F.only p c h in
        record {
          number = m.number;
          is_live = m.is_live;
          rec = m.wrote.rec;
          kept = m.wrote.kept;
          done = m.wrote.done;
          hash = m.wrote.hash;
          wrote = m.wrote.wrote;
          first = sym (st m.number m.wrote.rec p m.wrote.ran m.wrote.kept) ∙ m.staged_is;
        }

    of_given : (c : List ℕ) → given ≡ Some c → IsWritten p c
    of_given c h =
        let f = first_from world (present u) p (entered_by u roots) c h in
        let a = living.entered_alive u t.names t.records s roots e w apart all live alive f.task f.listed in
        let same : a.rec.task ≡ a.task = one_some a.rec.task a.task (sym (e.named a.number a.rec a.kept) ∙ a.named) in
        written a.number a.rec p c a.lives a.kept
        (ap (λ z. first_write p (wrote_in world (present u) z)) (sym (a.bytes ∙ ap enc_task (sym same))) ∙ f.first)

    given_there : IsWritten p b → (c : List ℕ) × (given ≡ Some c)
    given_there x =
        let m = storing.lives u t.names t.records s roots e w apart all live alive x.number x.is_live in
        let same : m.task ≡ x.rec.task = one_some m.task x.rec.task (sym m.named ∙ e.named x.number x.rec x.kept) in
        first_there world (present u) p (entered_by u roots) (enc_task x.rec.task) b
        (subst (λ (z : Task). among (enc_task z) (entered_by u roots) ≡ true) same m.listed) x.first

    pub file_given : Contains files (p, b) → given ≡ Some b
    file_given h = let c = given_there (of_file b h) in c.1 ∙ ap Some (same_first p c.0 b (of_given c.0 c.1) (of_file b h))

    pub given_file : given ≡ Some b → Contains files (p, b) ⊎ IsKeptAt u t s p b
    given_file h = by (of_given b h) (cases (slice_index_or t.ran.items (of_given b h).number false))
      where
        by : (x : IsWritten p b) → (slice_index_or t.ran.items x.number false ≡ true) ⊎ (slice_index_or t.ran.items x.number false ≡ false)
            → Contains files (p, b) ⊎ IsKeptAt u t s p b
        by x (inl ran) =
            let is : content staged x.number p ≡ Some b = st x.number x.rec p ran x.kept ∙ x.first in
            let f = F.each x.number p x.is_live
            (record { ran = ran; rec = x.rec; kept = x.kept; done = x.done; hash = x.hash; wrote = x.wrote }) (subst (λ o. IsSome o) (sym is) refl) in
            inl (subst (λ z. Contains files (p, z)) (same_first p f.0 b (of_file f.0 f.1) x) f.1)
        by x (inr rested) =
            let m = storing.lives u t.names t.records s roots e w apart all live alive x.number x.is_live in
            let q = path_wrote x.rec.writes p (into_map (λ (z : Path × List ℕ). z.0) x.rec.writes (p, x.hash) x.wrote) in
            inr (record {
              number = x.number;
              settled = done_settled s x.number m.settled;
              rested = rested;
              rec = x.rec;
              kept = x.kept;
              hash = q.0;
              first = q.1;
              wrote = x.first;
            })

-- ---- what is made of the tables

no_refusal : {r : Refusal} → Refused r ≡ Accepted → ⊥
no_refusal h = cc

pub files_provided : (u : Update) (t : Tables) (s : WalkState) (staged : Staged) (roots : List Task) (b : Built) → IsExact u t.names t.records s → Stands s
    → Separates u → RootsSettle t.names t.records s roots → Makes t s.rows staged roots b → AreStagedNow u t staged → b.verdict ≡ Accepted
    → HasProvided u t s roots b
files_provided u t s staged roots b e w apart h m st accepted = by m.why m.first m.goes
  where
    checked : (live : List ℕ) → AreLive t.names roots s.rows live → FailsFirst t.names t.records roots None → (answer : Option Refusal)
        → FindsFirst (Wrote t.names t.records live) (Missed t.names t.records live) answer → EndsAs answer t s.rows staged roots live b
        → HasProvided u t s roots b
    checked live alive f None found g =
        let all = all_done u t.names t.records s e w apart roots h f in
        record {
          only = λ p c i. file_given u t s roots e w apart all live alive staged st found.0 (contents_in b.files.items) g.wrote p c i;
          each = λ p c i. given_file u t s roots e w apart all live alive staged st found.0 (contents_in b.files.items) g.wrote p c i;
        }
    checked live alive f (Some refusal) found g = absurd (no_refusal (sym g ∙ accepted))

    by : (why : Option Refusal) → FailsFirst t.names t.records roots why → GoesOn why t s.rows staged roots b → HasProvided u t s roots b
    by None f c = checked c.live c.are f c.answer c.found c.ends
    by (Some refusal) f g = absurd (no_refusal (sym g ∙ accepted))
