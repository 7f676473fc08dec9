-- The files that tasks wrote are those that live tasks provide, where no two tasks wrote one path.
use Rattle.std.proofs.Common.{◌≡◌, ◌⊎◌, inl, inr, ℕ, Bool, true, false, cond, Option, Some, None, List, [], ◌∷◌, ◌++◌, map, bytes_eq, refl, sym, ap, subst, ◌∙◌}
use Rattle.std.specs.Prelude.{slice_get, option_map, Contains}
use Rattle.std.specs.List.{flat_map}
use Rattle.std.proofs.lemmas.Option.{slice_get_within}
use Rattle.std.proofs.lemmas.Bool.{cases_eq}
use Rattle.pie_value.specs.declared.task.Task.{Task}
use Rattle.pie_value.specs.Canonical.{enc_task}
use Rattle.pie_record.specs.declared.records.Records.{Records}
use Rattle.pie_record.specs.declared.task_record.TaskRecord.{TaskRecord}
use Rattle.pie_record.specs.inner.Records.{record_of as kept_of}
use Rattle.pie_checks.specs.Records.{Wrote}
use Rattle.pie_checks.specs.Refusals.{NoPlace, Overlaps}
use Rattle.pie_model.specs.Paths.{Path, among}
use Rattle.pie_model.specs.Trees.{Node, trace_of, writes_of}
use Rattle.pie_model.specs.Seen.{first_write}
use Rattle.pie_model.specs.Evaluation.{World, Project, evaluation}
use Rattle.pie_model.specs.Records.{Record}
use Rattle.pie_model.proofs.Basics.{among_here, among_there, among_split, clash}
use Rattle.pie_step_laws.specs.Table.{Rests}
use Rattle.pie_check_laws.proofs.Members.{into_map, from_map}
use Rattle.pie_model_pipeline.specs.Rows.{record_of}
use Rattle.pie_builder_laws.specs.Names.{AreTasks}
use Rattle.pie_builder_laws.specs.Tables.{recorded}
use Rattle.pie_builder_laws.specs.Views.{Staged, IsStaged}
use Rattle.pie_builder_laws.specs.Builds.{WroteAt, IsFile, AreFiles, AreLive}
use Rattle.pie_builder_laws.proofs.Naming.{IsAt, among_at, among_from, one_place}
use Rattle.pie_builder_laws.proofs.Tabled.{record_by_number}
use Rattle.pie_builder_laws.proofs.Shown.{wrote_path, path_wrote}
use Rattle.pie_builder_laws.proofs.Provided.{hashed_paths}

some_one : {X : Type 0} (x y : X) → Some x ≡ Some y → x ≡ y
some_one x y h = cc

-- ---- the first write of several tasks

-- what a task wrote
abbrev pub wrote_in : World → Project → List ℕ → List (Path × List ℕ)
wrote_in w P x = writes_of (trace_of (evaluation w P x))

-- and all of these in turn
abbrev all_wrote : World → Project → List (List ℕ) → List (Path × List ℕ)
all_wrote w P xs = flat_map (λ (n : Node). writes_of (trace_of n)) (map (evaluation w P) xs)

-- the first of two
abbrev either : Option (List ℕ) → Option (List ℕ) → Option (List ℕ)
either (Some b) o = Some b
either None o = o

first_of_both : (p : Path) (xs ys : List (Path × List ℕ)) → first_write p (xs ++ ys) ≡ either (first_write p xs) (first_write p ys)
first_of_both p [] ys = refl
first_of_both p (x ∷ xs) ys = by (bytes_eq p x.0) (first_of_both p xs ys)
  where
    by : (b : Bool) → first_write p (xs ++ ys) ≡ either (first_write p xs) (first_write p ys)
        → cond b (Some x.1) (first_write p (xs ++ ys)) ≡ either (cond b (Some x.1) (first_write p xs)) (first_write p ys)
    by true r = refl
    by false r = r

-- some task wrote it first
record IsFrom (w : World) (P : Project) (p : Path) (xs : List (List ℕ)) (b : List ℕ) : Type 0 where
  task : List ℕ
  listed : among task xs ≡ true
  first : first_write p (wrote_in w P task) ≡ Some b

first_from : (w : World) (P : Project) (p : Path) (xs : List (List ℕ)) (b : List ℕ) → first_write p (all_wrote w P xs) ≡ Some b → IsFrom w P p xs b
first_from w P p [] b h = cc
first_from w P p (x ∷ xs) b h =
    by (first_write p (wrote_in w P x)) refl (sym (first_of_both p (wrote_in w P x) (all_wrote w P xs)) ∙ h) (first_from w P p xs b)
  where
    by : (o : Option (List ℕ)) → first_write p (wrote_in w P x) ≡ o → either o (first_write p (all_wrote w P xs)) ≡ Some b
        → (first_write p (all_wrote w P xs) ≡ Some b → IsFrom w P p xs b) → IsFrom w P p (x ∷ xs) b
    by None e k r = let m = r k in record { task = m.task; listed = among_there m.task x xs m.listed; first = m.first }
    by (Some c) e k r = record { task = x; listed = among_here x xs; first = e ∙ k }

first_there : (w : World) (P : Project) (p : Path) (xs : List (List ℕ)) (x b : List ℕ) → among x xs ≡ true → first_write p (wrote_in w P x) ≡ Some b
    → (c : List ℕ) × (first_write p (all_wrote w P xs) ≡ Some c)
first_there w P p [] x b i h = clash false i refl
first_there w P p (y ∷ ys) x b i h =
    let r = by (first_write p (wrote_in w P y)) refl (among_split x y ys i) (λ k. first_there w P p ys x b k h) in
    (r.0, first_of_both p (wrote_in w P y) (all_wrote w P ys) ∙ r.1)
  where
    by : (o : Option (List ℕ)) → first_write p (wrote_in w P y) ≡ o → (x ≡ y) ⊎ (among x ys ≡ true)
        → (among x ys ≡ true → (c : List ℕ) × (first_write p (all_wrote w P ys) ≡ Some c))
        → (c : List ℕ) × (either (first_write p (wrote_in w P y)) (first_write p (all_wrote w P ys)) ≡ Some c)
    by (Some c) e s r = (c, ap (λ z. either z (first_write p (all_wrote w P ys))) e)
    by None e (inl s) r = absurd (none (sym h ∙ ap (λ z. first_write p (wrote_in w P z)) s ∙ e))
      where
        none : Some b ≡ None → ⊥
        none k = cc
    by None e (inr k) r = let m = r k in (m.0, ap (λ z. either z (first_write p (all_wrote w P ys))) e ∙ m.1)

-- ---- files

module _ (w : World) (P : Project) (names : List Task) (records : Records) (a : AreTasks names)
    (Q : Rests w P (recorded names records) (map enc_task names)) (staged : Staged) (s : IsStaged w P names records staged) where
  -- a named task with its record
  record HasRecord (n : ℕ) (t : Task) : Type 0 where
    rec : TaskRecord
    kept : kept_of records n ≡ Some rec
    paths : map (λ (x : Path × List ℕ). x.0) rec.writes ≡ map (λ (x : Path × List ℕ). x.0) (wrote_in w P (enc_task t))

  its_paths : (n : ℕ) (t : Task) (rec : TaskRecord) → slice_get names n ≡ Some t → kept_of records n ≡ Some rec
      → map (λ (x : Path × List ℕ). x.0) rec.writes ≡ map (λ (x : Path × List ℕ). x.0) (wrote_in w P (enc_task t))
  its_paths n t rec e k =
      ap (λ (r : Record). map (λ (x : Path × List ℕ). x.0) r.writes)
      (Q.table.right (enc_task t) (record_of rec) (record_by_number names records n t a e ∙ ap (λ o. option_map record_of o) k))
      ∙ hashed_paths w (wrote_in w P (enc_task t))

  its_record : (n : ℕ) (t : Task) → slice_get names n ≡ Some t → HasRecord n t
  its_record n t e = by (kept_of records n) refl
    where
      by : (o : Option TaskRecord) → kept_of records n ≡ o → HasRecord n t
      by (Some rec) k = record { rec = rec; kept = k; paths = its_paths n t rec e k }
      by None k = absurd (none (Q.all (enc_task t) (among_at names n t e)).kept
          (sym (Q.all (enc_task t) (among_at names n t e)).is ∙ record_by_number names records n t a e ∙ ap (λ o. option_map record_of o) k))
        where
          none : (r : Record) → Some r ≡ None → ⊥
          none r h = cc

  -- what was written at a path is the first write of the task
  write_first : (n : ℕ) (t : Task) (p : Path) → slice_get names n ≡ Some t → WroteAt records n p
      → (b : List ℕ) × (first_write p (wrote_in w P (enc_task t)) ≡ Some b)
  write_first n t p e h =
      path_wrote (wrote_in w P (enc_task t)) p
      (subst (λ ps. Contains ps p) (its_paths n t h.rec e h.kept) (into_map (λ (x : Path × List ℕ). x.0) h.rec.writes (p, h.hash) h.wrote))

  first_written : (n : ℕ) (t : Task) (p : Path) (b : List ℕ) → slice_get names n ≡ Some t → first_write p (wrote_in w P (enc_task t)) ≡ Some b
      → WroteAt records n p
  first_written n t p b e h =
      let m = its_record n t e in
      let c = from_map (λ (x : Path × List ℕ). x.0) m.rec.writes p (subst (λ ps. Contains ps p) (sym m.paths) (wrote_path (wrote_in w P (enc_task t)) p b h)) in
      let i : c.0.0 ≡ p = c.2 in
      record { rec = m.rec; kept = m.kept; hash = c.0.1; wrote = subst (λ (x : Path × List ℕ). Contains m.rec.writes x) (λ k. (i k, c.0.1)) c.1 }

  staged_first : (n : ℕ) (t : Task) (p : Path) → slice_get names n ≡ Some t → staged n p ≡ first_write p (wrote_in w P (enc_task t))
  staged_first n t p e = let m = its_record n t e in s n t m.rec e m.kept p

  module _ (live : List ℕ) (alive : AreLive names live) (apart : NoPlace (Overlaps (Wrote names records live))) where
    -- one path, one writer
    one_writer : (m n : ℕ) (t u : Task) (p : Path) → slice_get names m ≡ Some t → slice_get names n ≡ Some u → WroteAt records m p → WroteAt records n p → m ≡ n
    one_writer m n t u p e f h k = by (cases_eq m n)
      where
        wrote : (i : ℕ) (x : Task) → slice_get names i ≡ Some x → WroteAt records i p → Wrote names records live p x
        wrote i x g v = (i, g, (alive i (slice_get_within names i x g), v.rec, v.hash, v.kept, v.wrote))

        by : (m ≡ n) ⊎ (m ≡ n → ⊥) → m ≡ n
        by (inl i) = i
        by (inr d) = absurd (apart p t u (wrote m t e h, wrote n u f k, λ i. d (one_place names a m n t e (f ∙ ap Some (sym i)))))

    module _ (named_row : (n : ℕ) (rec : TaskRecord) → kept_of records n ≡ Some rec → slice_get names n ≡ Some rec.task)
        (files : List (Path × List ℕ)) (F : AreFiles records staged files) (p b : List ℕ) where
      abbrev given : Option (List ℕ)
      given = first_write p (all_wrote w P (map enc_task names))

      -- a task wrote this at the path first
      record IsWritten (c : List ℕ) : Type 0 where
        number : ℕ
        task : Task
        named : slice_get names number ≡ Some task
        first : first_write p (wrote_in w P (enc_task task)) ≡ Some c

      same_first : (c e : List ℕ) → IsWritten c → IsWritten e → c ≡ e
      same_first c e x y =
          let i = one_writer x.number y.number x.task y.task p x.named y.named (first_written x.number x.task p c x.named x.first)
          (first_written y.number y.task p e y.named y.first) in
          let same : x.task ≡ y.task = some_one x.task y.task (sym x.named ∙ ap (slice_get names) i ∙ y.named) in
          some_one c e (sym x.first ∙ ap (λ z. first_write p (wrote_in w P (enc_task z))) same ∙ y.first)

      of_file : (c : List ℕ) → Contains files (p, c) → IsWritten c
      of_file c h = from (F.only p c h)
        where
          from : IsFile records staged p c → IsWritten c
          from m = record {
            number = m.number;
            task = m.wrote.rec.task;
            named = named_row m.number m.wrote.rec m.wrote.kept;
            first = sym (staged_first m.number m.wrote.rec.task p (named_row m.number m.wrote.rec m.wrote.kept)) ∙ m.staged_is;
          }

      of_given : (c : List ℕ) → given ≡ Some c → IsWritten c
      of_given c h = by (first_from w P p (map enc_task names) c h)
        where
          with_place : (f : IsFrom w P p (map enc_task names) c) → IsAt names f.task → IsWritten c
          with_place f n = record {
            number = n.number;
            task = n.task;
            named = n.named;
            first = ap (λ z. first_write p (wrote_in w P z)) (sym n.bytes) ∙ f.first;
          }

          by : IsFrom w P p (map enc_task names) c → IsWritten c
          by f = with_place f (among_from names f.task f.listed)

      given_there : IsWritten b → (c : List ℕ) × (given ≡ Some c)
      given_there x = first_there w P p (map enc_task names) (enc_task x.task) b (among_at names x.number x.task x.named) x.first

      file_there : IsWritten b → (c : List ℕ) × Contains files (p, c)
      file_there x = F.each x.number p (first_written x.number x.task p b x.named x.first)

      pub file_given : Contains files (p, b) → given ≡ Some b
      file_given h = by (given_there (of_file b h))
        where
          by : (c : List ℕ) × (given ≡ Some c) → given ≡ Some b
          by c = c.1 ∙ ap Some (same_first c.0 b (of_given c.0 c.1) (of_file b h))

      pub given_file : given ≡ Some b → Contains files (p, b)
      given_file h = by (file_there (of_given b h))
        where
          by : (c : List ℕ) × Contains files (p, c) → Contains files (p, b)
          by c = subst (λ z. Contains files (p, z)) (same_first c.0 b (of_file c.0 c.1) (of_given b h)) c.1
