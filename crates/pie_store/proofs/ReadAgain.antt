-- The text of a store is read again, as the store.
use Rattle.std.proofs.Common.{◌≡◌, ℕ, zero, suc, ◌+◌, ◌-◌, ◌^◌, ◌<◌, Bool, true, false, cond, List, [], ◌∷◌, ◌++◌, length, get_or, take, map}
use Rattle.std.proofs.Common.{Ok, refl, sym, ap, subst, ◌∙◌, append_assoc, append-nil, arith, inl, inr}
use Rattle.std.specs.Prelude.{All, Contains, Option, Some, None, ◌⊎◌, max}
use Rattle.std.specs.List.{flat_map}
use Rattle.std.proofs.lemmas.List.{get_or-take, length-take, length-append}
use Rattle.std.proofs.Math.Seq.{take-append_seam, get_or-append_seam}
use Rattle.std.proofs.lemmas.List.Elements.{All-head, All-tail}
use Rattle.pie_value.specs.declared.task.Task.{Task}
use Rattle.pie_value.specs.Canonical.{be32, enc_task}
use Rattle.pie_record.specs.declared.dep.Dep.{Dep}
use Rattle.pie_record.specs.declared.dep.DepOn.{DepOn}
use Rattle.pie_record.specs.declared.dep.DepOn.TheVariants.{File, Called}
use Rattle.pie_record.specs.declared.task_record.TaskRecord.{TaskRecord}
use Rattle.pie_record.specs.Canonical.{listed}
use Rattle.pie_record.specs.Reading.{Parsed as Part, then_on as then_part, bytes_at, number_at, task_at}
use Rattle.pie_record.proofs.Steps.{Codec, step, last}
use Rattle.pie_record.proofs.Codecs.{number_codec, bytes_codec, text_codec, task_codec}
use Rattle.pie_store.specs.Canonical.{enc_func, name_before, tasks_in, required_on, over, AreFuncs}
use Rattle.pie_store.specs.Ranks.{Ranked, same_task, rank_in, on_some, above_one, above, IsStored}
use Rattle.pie_store.specs.Texts.{IsFunc}
use Rattle.pie_store.specs.inner.Reading.{Parsed, then_on, placed, part_at, ordered, some_at, list_at, func_at, name_follows, name_last, next_func, next_root}
use Rattle.pie_store.specs.inner.Reading.{tasks_of, rows_of}
use Rattle.pie_store.proofs.Turns.{pair}
use Rattle.pie_store.proofs.Ranking.{same_refl, same_is}
use Rattle.pie_store.proofs.Pairs.{last_is}
use Rattle.pie_store.proofs.Admitted.{rank_contains}

-- ---- steps

pub part_again : {A : Type 0} {one : List ℕ → Part A} {bytes : A → List ℕ} {Fits : A → Type 0} → Codec one bytes Fits
    → (end : ℕ) (a : A) (tail : List ℕ) → Fits a → part_at end one (bytes a ++ tail) ≡ Ok (a, tail)
part_again {A} {one} {bytes} {Fits} c end a tail fits = ap (λ (p : Part A). placed (end - length (bytes a ++ tail)) p) (c.again a tail fits)

-- each of some things is read after those before it
abbrev pub AreRead : {A : Type 0} → (List A → List ℕ → Parsed A) → (A → List ℕ) → List A → Type 0
AreRead {A} one bytes all =
    (i : ℕ) (d : A) (tail : List ℕ) → i < length all → one (take i all) (bytes (get_or all i d) ++ tail) ≡ Ok (get_or all i d, tail)

pub some_again : {A : Type 0} (one : List A → List ℕ → Parsed A) (bytes : A → List ℕ) (all : List A) → AreRead one bytes all
    → (more xs : List A) (rest : List ℕ) → xs ++ more ≡ all → some_at one (length more) xs (flat_map bytes more ++ rest) ≡ Ok (all, rest)
some_again {A} one bytes all h [] xs rest e = ap (λ (ys : List A). pair ys rest) (sym (append-nil xs) ∙ e)
some_again {A} one bytes all h (x ∷ more) xs rest e =
    let tail = flat_map bytes more ++ rest in
    let n = length xs in
    let front : take n all ≡ xs = ap (take n) (sym e) ∙ take-append_seam xs (x ∷ more) in
    let at : get_or all n x ≡ x = ap (λ (l : List A). get_or l n x) (sym e) ∙ get_or-append_seam xs x more x in
    let within : n < length all = omega (arith, ap length e, length-append xs (x ∷ more)) in
    let first : one xs (bytes x ++ tail) ≡ pair x tail =
    subst (λ (l : List A). one l (bytes x ++ tail) ≡ pair x tail) front
    (subst (λ (y : A). one (take n all) (bytes y ++ tail) ≡ pair y tail) at (h n x tail within)) in
    ap (λ (bs : List ℕ). then_on (one xs bs) (λ y after. some_at one (length more) (xs ++ y ∷ []) after)) (append_assoc (bytes x) (flat_map bytes more) rest)
    ∙ ap (λ (p : Parsed A). then_on p (λ y after. some_at one (length more) (xs ++ y ∷ []) after)) first
    ∙ some_again one bytes all h more (xs ++ x ∷ []) rest (append_assoc xs (x ∷ []) more ∙ e)

pub list_again : {A : Type 0} (end : ℕ) (one : List A → List ℕ → Parsed A) (bytes : A → List ℕ) (all : List A) (rest : List ℕ) → AreRead one bytes all
    → length all < 2 ^ 32 → list_at end one (listed bytes all ++ rest) ≡ Ok (all, rest)
list_again {A} end one bytes all rest h few =
    ap (λ (bs : List ℕ). then_on (part_at end number_at bs) (λ n after. some_at one n [] after)) (append_assoc (be32 (length all)) (flat_map bytes all) rest)
    ∙ ap (λ (p : Parsed ℕ). then_on p (λ n after. some_at one n [] after)) (part_again number_codec end (length all) (flat_map bytes all ++ rest) few)
    ∙ some_again one bytes all h all [] rest refl

-- ---- functions

pub func_again : (f : List ℕ × List ℕ) (rest : List ℕ) → IsFunc f → func_at (enc_func f ++ rest) ≡ Ok (f, rest)
unfolding func_at enc_func
func_again f rest h =
    step text_codec (λ name after. then_part (bytes_at 32 after) (λ digest left. Ok ((name, digest), left))) f.0 f.1 rest f (h.0, h.1)
    (last (bytes_codec 32) (λ (x : List ℕ). (f.0, x)) f.1 rest h.2)

name_is_last : (funcs : List (List ℕ × List ℕ)) (i : ℕ) (d : List ℕ × List ℕ) → AreFuncs funcs → i < length funcs
    → name_last (take i funcs) (get_or funcs i d).0 ≡ true
name_is_last funcs zero d h lt = refl
name_is_last funcs (suc k) d h lt =
    let front = take (suc k) funcs in
    let name = (get_or funcs (suc k) d).0 in
    let long : suc k ≡ length front = omega (arith, lt, length-take (suc k) funcs) in
    ap (λ (o : Option (List ℕ × List ℕ)). name_follows o name) (last_is front k d long)
    ∙ ap (λ (f : List ℕ × List ℕ). name_before f.0 name) (get_or-take (suc k) funcs k d (omega arith))
    ∙ h.ascending k (suc k) d (omega arith) lt

pub funcs_read : (end : ℕ) (funcs : List (List ℕ × List ℕ)) → AreFuncs funcs → All IsFunc funcs → AreRead (next_func end) enc_func funcs
unfolding next_func
funcs_read end funcs h fit i d tail lt =
    let f = get_or funcs i d in
    let at = end - length (enc_func f ++ tail) in
    ap (λ (p : Part (List ℕ × List ℕ)). then_on (placed at p) (λ g rest. ordered at (name_last (take i funcs) g.0) g rest)) (func_again f tail (fit i d lt))
    ∙ ap (λ (b : Bool). ordered at b f tail) (name_is_last funcs i d h lt)

-- ---- roots

-- the number beside each root is its offset
abbrev pub ArePlaced : ℕ → List ℕ → List (Task × ℕ) → Type 0
ArePlaced end rest roots =
    (before : List (Task × ℕ)) (r : Task × ℕ) (after : List (Task × ℕ)) → roots ≡ before ++ r ∷ after
    → r.1 ≡ end - length (flat_map enc_task (tasks_of (r ∷ after)) ++ rest)

pub record RootsRead (end : ℕ) (tasks : List Task) (xs : List (Task × ℕ)) (rest : List ℕ) : Type 0 where
  pub roots : List (Task × ℕ)
  pub tasks_are : tasks_of roots ≡ tasks
  pub placed_at : ArePlaced end rest roots
  pub read : some_at (next_root end) (length tasks) xs (flat_map enc_task tasks ++ rest) ≡ Ok (xs ++ roots, rest)

root_read : (end : ℕ) (xs : List (Task × ℕ)) (t : Task) (bs tail : List ℕ) → IsStored t → bs ≡ enc_task t ++ tail
    → next_root end xs bs ≡ Ok ((t, end - length bs), tail)
unfolding next_root
root_read end xs t bs tail s e =
    ap (λ (p : Parsed Task). then_on p (λ task rest. Ok ((task, end - length bs), rest)))
    (ap (part_at end task_at) e ∙ part_again task_codec end t tail (s.encodable, (s.name, s.leaves)))

none_placed : (end : ℕ) (rest : List ℕ) → ArePlaced end rest []
none_placed end rest [] r after e = absurd (cc (e))
none_placed end rest (x ∷ before) r after e = absurd (cc (e))

one_placed : (end : ℕ) (t : Task) (tasks : List Task) (rest : List ℕ) (roots : List (Task × ℕ)) → tasks_of roots ≡ tasks → ArePlaced end rest roots
    → ArePlaced end rest ((t, end - length ((enc_task t ++ flat_map enc_task tasks) ++ rest)) ∷ roots)
one_placed end t tasks rest roots is h [] r after e =
    let first : (t, end - length ((enc_task t ++ flat_map enc_task tasks) ++ rest)) ≡ r = cc in
    let others : roots ≡ after = cc in
    sym (ap (λ (x : Task × ℕ). x.1) first)
    ∙ ap (λ (ts : List Task). end - length ((enc_task t ++ flat_map enc_task ts) ++ rest)) (sym is ∙ ap (λ (l : List (Task × ℕ)). tasks_of l) others)
    ∙ ap (λ (x : Task × ℕ). end - length ((enc_task x.0 ++ flat_map enc_task (tasks_of after)) ++ rest)) first
one_placed end t tasks rest roots is h (x ∷ before) r after e = h before r after (cc)

pub roots_read : (end : ℕ) (tasks : List Task) (xs : List (Task × ℕ)) (rest : List ℕ) → All IsStored tasks → RootsRead end tasks xs rest
roots_read end [] xs rest h =
    record { roots = []; tasks_are = refl; placed_at = none_placed end rest; read = ap (λ (ys : List (Task × ℕ)). pair ys rest) (sym (append-nil xs)) }
roots_read end (t ∷ tasks) xs rest h =
    let bs = (enc_task t ++ flat_map enc_task tasks) ++ rest in
    let tail = flat_map enc_task tasks ++ rest in
    let r : Task × ℕ = (t, end - length bs) in
    let q = roots_read end tasks (xs ++ r ∷ []) rest (All-tail IsStored t tasks h) in
    record {
      roots = r ∷ q.roots;
      tasks_are = ap (λ (l : List Task). t ∷ l) q.tasks_are;
      placed_at = one_placed end t tasks rest q.roots q.tasks_are q.placed_at;
      read =
          ap (λ (p : Parsed (Task × ℕ)). then_on p (λ x after. some_at (next_root end) (length tasks) (xs ++ x ∷ []) after))
          (root_read end xs t bs tail (All-head IsStored t tasks h) (append_assoc (enc_task t) (flat_map enc_task tasks) rest))
          ∙ q.read ∙ ap (λ (ys : List (Task × ℕ)). pair ys rest) (append_assoc xs (r ∷ []) q.roots);
    }

pub record RootListRead (end : ℕ) (tasks : List Task) (rest : List ℕ) : Type 0 where
  pub roots : List (Task × ℕ)
  pub tasks_are : tasks_of roots ≡ tasks
  pub placed_at : ArePlaced end rest roots
  pub read : list_at end (next_root end) (listed enc_task tasks ++ rest) ≡ Ok (roots, rest)

pub root_list_read : (end : ℕ) (tasks : List Task) (rest : List ℕ) → All IsStored tasks → length tasks < 2 ^ 32 → RootListRead end tasks rest
root_list_read end tasks rest h few =
    let q = roots_read end tasks [] rest h in
    record {
      roots = q.roots;
      tasks_are = q.tasks_are;
      placed_at = q.placed_at;
      read =
          ap (λ (bs : List ℕ). then_on (part_at end number_at bs) (λ n after. some_at (next_root end) n [] after))
          (append_assoc (be32 (length tasks)) (flat_map enc_task tasks) rest)
          ∙ ap (λ (p : Parsed ℕ). then_on p (λ n after. some_at (next_root end) n [] after))
          (part_again number_codec end (length tasks) (flat_map enc_task tasks ++ rest) few)
          ∙ q.read;
    }

-- ---- records with their heights

abbrev pub ranked : (Task → ℕ) → List TaskRecord → Ranked
ranked height rows = map (λ (r : TaskRecord). (r, height r.task)) rows

pub rows_ranked : (height : Task → ℕ) (rows : List TaskRecord) → rows_of (ranked height rows) ≡ rows
rows_ranked height [] = refl
rows_ranked height (r ∷ rows) = ap (λ (l : List TaskRecord). r ∷ l) (rows_ranked height rows)

-- a task with a record has the record's height
pub rank_found : (height : Task → ℕ) (rows : List TaskRecord) (t : Task) → All IsStored (tasks_in rows) → IsStored t → Contains (tasks_in rows) t
    → rank_in (ranked height rows) t ≡ Some (height t)
rank_found height [] t a s c = absurd (omega (arith, c.1))
rank_found height (r ∷ rows) t a s c = by (same_task r.task t) refl (at c) (λ m. rank_found height rows t (All-tail IsStored r.task (tasks_in rows) a) s m)
  where
    at : Contains (r.task ∷ tasks_in rows) t → (r.task ≡ t) ⊎ Contains (tasks_in rows) t
    at (zero, lt, is) = inl is
    at (suc k, lt, is) = inr (k, omega (arith, lt), is)

    by : (b : Bool) → same_task r.task t ≡ b → (r.task ≡ t) ⊎ Contains (tasks_in rows) t
        → (Contains (tasks_in rows) t → rank_in (ranked height rows) t ≡ Some (height t))
        → cond b (Some (height r.task)) (rank_in (ranked height rows) t) ≡ Some (height t)
    by true e c more = ap (λ (u : Task). Some (height u)) (same_is r.task t (All-head IsStored r.task (tasks_in rows) a) s e)
    by false e (inl is) more = let y : same_task r.task t ≡ true = subst (λ (u : Task). same_task r.task u ≡ true) is (same_refl r.task) in absurd (cc)
    by false e (inr m) more = more m

-- a task without a record has no height
pub rank_missing : (height : Task → ℕ) (rows : List TaskRecord) (t : Task) → All IsStored (tasks_in rows) → IsStored t → ¬ (Contains (tasks_in rows) t)
    → rank_in (ranked height rows) t ≡ None
rank_missing height rows t a s n = by (rank_in (ranked height rows) t) refl
  where
    by : (o : Option ℕ) → rank_in (ranked height rows) t ≡ o → o ≡ None
    by None e = refl
    by (Some h) e =
        absurd (n (subst (λ (l : List TaskRecord). Contains (tasks_in l) t) (rows_ranked height rows)
        (rank_contains (ranked height rows) t h (subst (λ (l : List TaskRecord). All IsStored (tasks_in l)) (sym (rows_ranked height rows)) a) s e)))

-- the height above what is required
pub above_again : (height : Task → ℕ) (rows : List TaskRecord) (deps : List Dep) (n : ℕ) → All IsStored (tasks_in rows)
    → All (λ (t : Task). Contains (tasks_in rows) t) (flat_map (λ (d : Dep). required_on d.what) deps)
    → above (ranked height rows) deps n ≡ Some (over height (flat_map (λ (d : Dep). required_on d.what) deps) n)
above_again height rows [] n a h = refl
above_again height rows (d ∷ deps) n a h = by d.what h (λ m g. above_again height rows deps m a g)
  where
    Rest : List Task
    Rest = flat_map (λ (x : Dep). required_on x.what) deps

    Has : Task → Type 0
    Has t = Contains (tasks_in rows) t

    stored : (t : Task) → Has t → IsStored t
    stored t c = subst IsStored c.2 (a c.0 t c.1)

    by : (w : DepOn) → All Has (required_on w ++ Rest) → ((m : ℕ) → All Has Rest → above (ranked height rows) deps m ≡ Some (over height Rest m))
        → on_some (above_one (ranked height rows) w n) (above (ranked height rows) deps) ≡ Some (over height (required_on w ++ Rest) n)
    by (File p) g more = more n g
    by (Called t) g more =
        let c = All-head Has t Rest g in
        ap (λ (o : Option ℕ). on_some (on_some o (λ k. Some (max n (k + 1)))) (above (ranked height rows) deps)) (rank_found height rows t a (stored t c) c)
        ∙ more (max n (height t + 1)) (All-tail Has t Rest g)
