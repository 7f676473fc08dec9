-- What the records of tasks say, gathered in lists.
use Rattle.std.proofs.Common.{◌≡◌, ℕ, ◌<◌, ◌+◌, Bool, true, false, cond, List, [], ◌∷◌, ◌++◌, length, get_or, map, drop, refl, sym, ap, ◌∙◌, subst, inl}
use Rattle.std.proofs.Common.{inr, eqb, arith}
use Rattle.std.specs.Prelude.{Option, Some, None}
use Rattle.std.specs.List.{Contains}
use Rattle.std.proofs.lemmas.List.{drop_more, append_assoc}
use Rattle.std.proofs.lemmas.List.Elements.{Contains-append_left, Contains-append_right, Contains-append_cases}
use Rattle.std.proofs.lemmas.Slice.Eq.{slice_eq-Decides}
use Rattle.std.proofs.lemmas.Bool.Decides.{Decides-eqb}
use Rattle.pie_base.specs.Path.{same_text}
use Rattle.pie_graph.specs.declared.edges.TaskNo.{TaskNo}
use Rattle.pie_graph.specs.Numbers.{numbers}
use Rattle.pie_graph.proofs.Among.{contains_here, contains_later, contains_cases}
use Rattle.pie_record.specs.declared.dep.Dep.{Dep}
use Rattle.pie_record.specs.declared.records.Records.{Records}
use Rattle.pie_record.specs.declared.task_record.TaskRecord.{TaskRecord}
use Rattle.pie_record.specs.inner.Records.{record_of}
use Rattle.pie_checks.specs.Records.{missing_in, WritesAt, MissesAt}
use Rattle.pie_checks.specs.Listings.{Entry, entry_of, writes_in, missing_among, misses_in, all_writes, all_misses, numbers_beside}

-- ---- one record more

split_tasks : (live : List TaskNo) (i : ℕ) (d : TaskNo) → i < length live → numbers (drop i live) ≡ (get_or live i d).0 ∷ numbers (drop (i + 1) live)
split_tasks live i d l = ap numbers (drop_more live i d l)

pub write_turn : (records : Records) (live : List TaskNo) (i : ℕ) (d : TaskNo) (found now all : List Entry) → i < length live
    → now ≡ found ++ writes_in (record_of records (get_or live i d).0) (get_or live i d).0
    → found ++ all_writes records (numbers (drop i live)) ≡ all → now ++ all_writes records (numbers (drop (i + 1) live)) ≡ all
write_turn records live i d found now all l e h =
    let rest = all_writes records (numbers (drop (i + 1) live)) in
    ap (λ (es : List Entry). es ++ rest) e ∙ append_assoc found (writes_in (record_of records (get_or live i d).0) (get_or live i d).0) rest
    ∙ ap (λ (ns : List ℕ). found ++ all_writes records ns) (sym (split_tasks live i d l)) ∙ h

pub miss_turn : (records : Records) (live : List TaskNo) (i : ℕ) (d : TaskNo) (found now all : List Entry) → i < length live
    → now ≡ found ++ misses_in (record_of records (get_or live i d).0) (get_or live i d).0
    → found ++ all_misses records (numbers (drop i live)) ≡ all → now ++ all_misses records (numbers (drop (i + 1) live)) ≡ all
miss_turn records live i d found now all l e h =
    let rest = all_misses records (numbers (drop (i + 1) live)) in
    ap (λ (es : List Entry). es ++ rest) e ∙ append_assoc found (misses_in (record_of records (get_or live i d).0) (get_or live i d).0) rest
    ∙ ap (λ (ns : List ℕ). found ++ all_misses records ns) (sym (split_tasks live i d l)) ∙ h

-- ---- writes

abbrev path_with : ℕ → List ℕ × List ℕ → Entry
path_with n w = (w.0, n)

wrote_here : (n : ℕ) (ws : List (List ℕ × List ℕ)) (path hash : List ℕ) → Contains ws (path, hash) → Contains (map (path_with n) ws) (path, n)
wrote_here n [] path hash h = absurd (omega (arith, h.1))
wrote_here n (w ∷ ws) path hash h =
    elim (contains_cases w (path, hash) ws h) [
      | inl e ↦ subst (λ (x : Entry). Contains (map (path_with n) (w ∷ ws)) x) (ap (path_with n) e) (contains_here (path_with n w) (map (path_with n) ws))
      | inr later ↦ contains_later (path_with n w) (path, n) (map (path_with n) ws) (wrote_here n ws path hash later)
    ]

here_wrote : (n : ℕ) (ws : List (List ℕ × List ℕ)) (path : List ℕ) (m : ℕ) → Contains (map (path_with n) ws) (path, m)
    → (hash : List ℕ) × Contains ws (path, hash) × (m ≡ n)
here_wrote n [] path m h = absurd (omega (arith, h.1))
here_wrote n (w ∷ ws) path m h =
    elim (contains_cases (path_with n w) (path, m) (map (path_with n) ws) h) [
      | inl e ↦ (w.1, subst (λ (p : List ℕ). Contains (w ∷ ws) (p, w.1)) (ap (λ (x : Entry). x.0) e) (contains_here w ws), sym (ap (λ (x : Entry). x.1) e))
      | inr later ↦ let found = here_wrote n ws path m later in (found.0, contains_later w (path, found.0) ws found.1, found.2)
    ]

writes_listed : (o : Option TaskRecord) (n : ℕ) (rec : TaskRecord) (path hash : List ℕ) → o ≡ Some rec → Contains rec.writes (path, hash)
    → Contains (writes_in o n) (path, n)
writes_listed None n rec path hash e h = absurd (cc)
writes_listed (Some r) n rec path hash e h = let same : r ≡ rec = cc in subst (λ (x : TaskRecord). Contains (writes_in (Some x) n) (path, n)) (sym same)
    (wrote_here n rec.writes path hash h)

listed_writes : (o : Option TaskRecord) (n : ℕ) (path : List ℕ) (m : ℕ) → Contains (writes_in o n) (path, m)
    → (rec : TaskRecord) × (hash : List ℕ) × (o ≡ Some rec) × Contains rec.writes (path, hash) × (m ≡ n)
listed_writes None n path m h = absurd (omega (arith, h.1))
listed_writes (Some rec) n path m h = let found = here_wrote n rec.writes path m h in (rec, found.0, refl, found.1, found.2)

pub writes_only : (records : Records) (live : List ℕ) (path : List ℕ) (m : ℕ) → Contains (all_writes records live) (path, m) → WritesAt records live path m
writes_only records [] path m h = absurd (omega (arith, h.1))
writes_only records (n ∷ live) path m h =
    elim (Contains-append_cases (writes_in (record_of records n) n) (all_writes records live) (path, m) h) [
      | inl first ↦
          let found = listed_writes (record_of records n) n path m first in
          let there : WritesAt records (n ∷ live) path n = (contains_here n live, found.0, found.1, found.2, found.3) in
          subst (WritesAt records (n ∷ live) path) (sym found.4) there
      | inr later ↦ let found = writes_only records live path m later in (contains_later n m live found.0, found.1, found.2, found.3, found.4)
    ]

pub writes_each : (records : Records) (live : List ℕ) (path : List ℕ) (m : ℕ) → WritesAt records live path m → Contains (all_writes records live) (path, m)
writes_each records [] path m h = absurd (omega (arith, h.0.1))
writes_each records (n ∷ live) path m h =
    elim (contains_cases n m live h.0) [
      | inl e ↦
          let o : record_of records n ≡ Some h.1 = ap (record_of records) e ∙ h.3 in
          Contains-append_left (writes_in (record_of records n) n) (all_writes records live) (path, m)
          (subst (λ (k : ℕ). Contains (writes_in (record_of records n) n) (path, k)) e (writes_listed (record_of records n) n h.1 path h.2 o h.4))
      | inr later ↦ Contains-append_right (writes_in (record_of records n) n) (all_writes records live) (path, m)
          (writes_each records live path m (later, h.1, h.2, h.3, h.4))
    ]

-- ---- what was found absent

missed_here : (o : Option (List ℕ)) (n : ℕ) (path : List ℕ) → o ≡ Some path → Contains (entry_of o n) (path, n)
missed_here None n path e = absurd (cc)
missed_here (Some p) n path e = let same : p ≡ path = cc in subst (λ (q : List ℕ). Contains (entry_of (Some q) n) (path, n)) (sym same)
    (contains_here (path, n) [])

here_missed : (o : Option (List ℕ)) (n : ℕ) (path : List ℕ) (m : ℕ) → Contains (entry_of o n) (path, m) → (o ≡ Some path) × (m ≡ n)
here_missed None n path m h = absurd (omega (arith, h.1))
here_missed (Some p) n path m h =
    elim (contains_cases (p, n) (path, m) [] h) [
      | inl e ↦ (ap (λ (x : Entry). Some x.0) e, sym (ap (λ (x : Entry). x.1) e))
      | inr none ↦ absurd (omega (arith, none.1))
    ]

missing_each : (deps : List Dep) (n : ℕ) (dep : Dep) (path : List ℕ) → Contains deps dep → missing_in dep ≡ Some path
    → Contains (missing_among deps n) (path, n)
missing_each [] n dep path h e = absurd (omega (arith, h.1))
missing_each (first ∷ deps) n dep path h e =
    elim (contains_cases first dep deps h) [
      | inl same ↦ Contains-append_left (entry_of (missing_in first) n) (missing_among deps n) (path, n)
          (missed_here (missing_in first) n path (ap missing_in same ∙ e))
      | inr later ↦ Contains-append_right (entry_of (missing_in first) n) (missing_among deps n) (path, n) (missing_each deps n dep path later e)
    ]

missing_only : (deps : List Dep) (n : ℕ) (path : List ℕ) (m : ℕ) → Contains (missing_among deps n) (path, m)
    → (dep : Dep) × Contains deps dep × (missing_in dep ≡ Some path) × (m ≡ n)
missing_only [] n path m h = absurd (omega (arith, h.1))
missing_only (first ∷ deps) n path m h =
    elim (Contains-append_cases (entry_of (missing_in first) n) (missing_among deps n) (path, m) h) [
      | inl here ↦ let found = here_missed (missing_in first) n path m here in (first, contains_here first deps, found.0, found.1)
      | inr later ↦ let found = missing_only deps n path m later in (found.0, contains_later first found.0 deps found.1, found.2, found.3)
    ]

misses_listed : (o : Option TaskRecord) (n : ℕ) (rec : TaskRecord) (dep : Dep) (path : List ℕ) → o ≡ Some rec → Contains rec.deps dep
    → missing_in dep ≡ Some path → Contains (misses_in o n) (path, n)
misses_listed None n rec dep path e h m = absurd (cc)
misses_listed (Some r) n rec dep path e h m = let same : r ≡ rec = cc in subst (λ (x : TaskRecord). Contains (misses_in (Some x) n) (path, n)) (sym same)
    (missing_each rec.deps n dep path h m)

listed_misses : (o : Option TaskRecord) (n : ℕ) (path : List ℕ) (m : ℕ) → Contains (misses_in o n) (path, m)
    → (rec : TaskRecord) × (dep : Dep) × (o ≡ Some rec) × Contains rec.deps dep × (missing_in dep ≡ Some path) × (m ≡ n)
listed_misses None n path m h = absurd (omega (arith, h.1))
listed_misses (Some rec) n path m h = let found = missing_only rec.deps n path m h in (rec, found.0, refl, found.1, found.2, found.3)

pub misses_only : (records : Records) (live : List ℕ) (path : List ℕ) (m : ℕ) → Contains (all_misses records live) (path, m) → MissesAt records live path m
misses_only records [] path m h = absurd (omega (arith, h.1))
misses_only records (n ∷ live) path m h =
    elim (Contains-append_cases (misses_in (record_of records n) n) (all_misses records live) (path, m) h) [
      | inl first ↦
          let found = listed_misses (record_of records n) n path m first in
          let there : MissesAt records (n ∷ live) path n = (contains_here n live, found.0, found.1, found.2, found.3, found.4) in
          subst (MissesAt records (n ∷ live) path) (sym found.5) there
      | inr later ↦ let found = misses_only records live path m later in (contains_later n m live found.0, found.1, found.2, found.3, found.4, found.5)
    ]

pub misses_each : (records : Records) (live : List ℕ) (path : List ℕ) (m : ℕ) → MissesAt records live path m → Contains (all_misses records live) (path, m)
misses_each records [] path m h = absurd (omega (arith, h.0.1))
misses_each records (n ∷ live) path m h =
    elim (contains_cases n m live h.0) [
      | inl e ↦
          let o : record_of records n ≡ Some h.1 = ap (record_of records) e ∙ h.3 in
          Contains-append_left (misses_in (record_of records n) n) (all_misses records live) (path, m)
          (subst (λ (k : ℕ). Contains (misses_in (record_of records n) n) (path, k)) e (misses_listed (record_of records n) n h.1 h.2 path o h.4 h.5))
      | inr later ↦ Contains-append_right (misses_in (record_of records n) n) (all_misses records live) (path, m)
          (misses_each records live path m (later, h.1, h.2, h.3, h.4, h.5))
    ]

-- ---- numbers beside a path

pub same_is : (a b : List ℕ) → same_text a b ≡ true → a ≡ b
same_is a b h = (slice_eq-Decides {E = eqb} Decides-eqb a b (same_text a b) refl).0 h

pub same_refl : (a : List ℕ) → same_text a a ≡ true
same_refl a = (slice_eq-Decides {E = eqb} Decides-eqb a a (same_text a a) refl).1 refl

beside_by : (e : Entry) (es : List Entry) (path : List ℕ) (n : ℕ) (b : Bool) → same_text e.0 path ≡ b
    → (Contains (numbers_beside es path) n → Contains es (path, n))
    → Contains (cond b (e.1 ∷ numbers_beside es path) (numbers_beside es path)) n → Contains (e ∷ es) (path, n)
beside_by e es path n true same more h =
    elim (contains_cases e.1 n (numbers_beside es path) h) [
      | inl eq ↦
          let p : e.0 ≡ path = same_is e.0 path same in
          subst (λ (x : Entry). Contains (e ∷ es) x) (λ i. (p i, eq i)) (contains_here e es)
      | inr later ↦ contains_later e (path, n) es (more later)
    ]
beside_by e es path n false same more h = contains_later e (path, n) es (more h)

pub beside_only : (es : List Entry) (path : List ℕ) (n : ℕ) → Contains (numbers_beside es path) n → Contains es (path, n)
beside_only [] path n h = absurd (omega (arith, h.1))
beside_only (e ∷ es) path n h = beside_by e es path n (same_text e.0 path) refl (beside_only es path n) h

later_beside : (e : Entry) (es : List Entry) (path : List ℕ) (n : ℕ) (b : Bool) → Contains (numbers_beside es path) n
    → Contains (cond b (e.1 ∷ numbers_beside es path) (numbers_beside es path)) n
later_beside e es path n true h = contains_later e.1 n (numbers_beside es path) h
later_beside e es path n false h = h

first_beside : (e : Entry) (es : List Entry) (path : List ℕ) (b : Bool) → b ≡ true → Contains
    (cond b (e.1 ∷ numbers_beside es path) (numbers_beside es path)) e.1
first_beside e es path true h = contains_here e.1 (numbers_beside es path)
first_beside e es path false h = absurd (cc)

pub beside_each : (es : List Entry) (path : List ℕ) (n : ℕ) → Contains es (path, n) → Contains (numbers_beside es path) n
beside_each [] path n h = absurd (omega (arith, h.1))
beside_each (e ∷ es) path n h =
    elim (contains_cases e (path, n) es h) [
      | inl same ↦
          let hit : same_text e.0 path ≡ true = ap (λ (x : Entry). same_text x.0 path) same ∙ same_refl path in
          subst (λ (m : ℕ). Contains (numbers_beside (e ∷ es) path) m) (ap (λ (x : Entry). x.1) same) (first_beside e es path (same_text e.0 path) hit)
      | inr later ↦ later_beside e es path n (same_text e.0 path) (beside_each es path n later)
    ]
