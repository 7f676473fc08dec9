-- The joins to the calls that load an earlier build.
use Rattle.std.proofs.Common.{◌≡◌, ℕ, zero, suc, ◌+◌, ◌||◌, Bool, true, false, cond, Option, Some, None, List, [], ◌∷◌, ◌++◌, map, length}
use Rattle.std.proofs.Common.{refl, sym, ap, subst, ◌∙◌, arith, bytes_eq}
use Rattle.std.specs.Prelude.{slice_get, slice_index_or, option_map, IfSome}
use Rattle.std.specs.List.{list_any, flat_map}
use Rattle.std.specs.Ordering.{nat_cmp, is_eq}
use Rattle.std.specs.Cmp.Lexicographic.{slice_cmp}
use Rattle.std.proofs.lemmas.List.{length-map}
use Rattle.std.proofs.lemmas.List.Elements.{All-contains}
use Rattle.std.proofs.lemmas.Map.Text.{is_eq-slice_cmp}
use Rattle.pie_base.specs.Path.{is_out, is_below}
use Rattle.pie_value.specs.declared.task.Task.{Task}
use Rattle.pie_value.specs.Canonical.{enc_task}
use Rattle.pie_graph.specs.Rows.{Row, row_at}
use Rattle.pie_record.specs.declared.dep.Dep.{Dep}
use Rattle.pie_record.specs.declared.dep.DepKind.{DepKind}
use Rattle.pie_record.specs.declared.dep.DepKind.TheVariants as kinds
use Rattle.pie_record.specs.declared.dep.DepOn.{DepOn}
use Rattle.pie_record.specs.declared.dep.DepOn.TheVariants.{File, Called}
use Rattle.pie_record.specs.declared.records.Records.{Records}
use Rattle.pie_record.specs.declared.task_record.TaskRecord.{TaskRecord}
use Rattle.pie_record.specs.Canonical.{IsStorable}
use Rattle.pie_record.specs.inner.Records.{record_of as kept_of}
use Rattle.pie_store.specs.Canonical.{tasks_in, required_on}
use Rattle.pie_tables.specs.declared.tables.Tables.{Tables}
use Rattle.pie_tables.specs.Tabled.{IsRecordAt}
use Rattle.pie_named.specs.declared.named.Named.{Named}
use Rattle.pie_named.specs.inner.Names.{is_named, is_above}
use Rattle.pie_walk.specs.States.{WalkState}
use Rattle.pie_old.specs.inner.Code.{kept as first_of, digest_in, same_digest, is_same_code}
use Rattle.pie_old.specs.inner.Looking.{asks_at_out, looks_at_out, looks_out}
use Rattle.pie_old.specs.inner.Rows.{IsRowOf}
use Rattle.pie_model.specs.Paths.{Path, among}
use Rattle.pie_model.specs.Records.{Stamp}
use Rattle.pie_model.specs.Reasons.{SameCode}
use Rattle.pie_model.specs.inner.Steps.{Each, LooksElsewhere, SameShape}
use Rattle.pie_model.proofs.Basics.{same_bytes, bytes_same, clash}
use Rattle.pie_model_pipeline.specs.Rows.{stamp_of, query_of, observation_of, record_of}
use Rattle.pie_builder_laws.specs.Names.{under_name, called_on, called_in}
use Rattle.pie_builder_laws.specs.Tables.{record_at, recorded}
use Rattle.pie_builder_laws.specs.Views.{AreNumbersOf, RowIs}
use Rattle.pie_builder_laws.proofs.Naming.{placed}
use Rattle.pie_builder_laws.proofs.Tabled.{needs_called}
use Rattle.pie_earlier_laws.specs.Rows.{record_among}
use Rattle.pie_earlier_laws.specs.Functions.{digest_under}
use Rattle.pie_earlier_laws.proofs.Pipelines.{kind_out}
use Rattle.pie_compare_laws.proofs.Ways.{one_some}
use Rattle.pie_core_laws.specs.Update.{Update}
use Rattle.pie_core_laws.specs.Beginning.{IsLoaded}
use Rattle.pie_core_laws.specs.Joins.{AreLoaded, HasNames}

-- ---- rows by their places

-- under the name of a row stands its record
under_rows : (records : Records) (rs : List TaskRecord) (m : ℕ) (x : List ℕ) → ((n : ℕ) → kept_of records (m + n) ≡ slice_get rs n)
    → under_name None (record_at records) m (tasks_in rs) x ≡ record_among (map record_of rs) x
under_rows records [] m x h = refl
under_rows records (r ∷ rs) m x h =
    by (bytes_eq x (enc_task r.task)) (under_rows records rs (m + 1) x (λ n. ap (kept_of records) (shift m n) ∙ h (suc n)))
  where
    shift : (a b : ℕ) → a + 1 + b ≡ a + suc b
    shift a b = omega arith

    first : record_at records m ≡ Some (record_of r)
    first = ap (λ (k : ℕ). option_map record_of (kept_of records k)) (plus m) ∙ ap (option_map record_of) (h 0)
      where
        plus : (a : ℕ) → a ≡ a + 0
        plus a = omega arith

    by : (b : Bool) → under_name None (record_at records) (m + 1) (tasks_in rs) x ≡ record_among (map record_of rs) x
        → cond b (record_at records m) (under_name None (record_at records) (m + 1) (tasks_in rs) x)
        ≡ cond b (Some (record_of r)) (record_among (map record_of rs) x)
    by true e = first
    by false e = e

named_row : (rs : List TaskRecord) (n : ℕ) (t : Task) → slice_get (tasks_in rs) n ≡ Some t → (r : TaskRecord) × (slice_get rs n ≡ Some r)
named_row [] n t e = cc
named_row (r ∷ rs) zero t e = (r, refl)
named_row (r ∷ rs) (suc n) t e = named_row rs n t e

flag_at : (rs : List TaskRecord) (n : ℕ) (r : TaskRecord) → slice_get rs n ≡ Some r → slice_index_or (map looks_out rs) n false ≡ looks_out r
flag_at [] n r e = cc
flag_at (x ∷ rs) zero r e = ap looks_out (one_some x r e)
flag_at (x ∷ rs) (suc n) r e = flag_at rs n r e

-- ---- what a record requires, and where it looks

needs_same : (deps : List Dep) → flat_map (λ (d : Dep). required_on d.what) deps ≡ called_in deps
needs_same [] = refl
needs_same (d ∷ ds) = by d.what (needs_same ds)
  where
    by : (w : DepOn) → flat_map (λ (x : Dep). required_on x.what) ds ≡ called_in ds
        → required_on w ++ flat_map (λ (x : Dep). required_on x.what) ds ≡ called_on w ++ called_in ds
    by (File p) e = e
    by (Called t) e = ap (λ xs. t ∷ xs) e

row_is : (names : List Task) (rec : TaskRecord) (row : Row) → IsRowOf names rec row → RowIs names row (Some rec)
row_is names rec row h = (h.needs ∙ ap (map Some) (needs_same rec.deps), h.writes)

either_false : (a b : Bool) → a || b ≡ false → (a ≡ false) × (b ≡ false)
either_false true b e = cc
either_false false b e = (refl, e)

on_elsewhere : (k : DepKind) (w : DepOn) (s : Stamp) → asks_at_out k w ≡ false → LooksElsewhere (query_of k w) s
on_elsewhere kinds.Exists (File p) s h = λ o. clash (is_out p) (kind_out p o) h
on_elsewhere kinds.ReadHash (File p) s h = λ o. clash (is_out p) (kind_out p o) h
on_elsewhere kinds.ReadMark (File p) s h = λ o. clash (is_out p) (kind_out p o) h
on_elsewhere kinds.Digest (File p) s h = λ o. clash (is_out p) (kind_out p o) h
on_elsewhere kinds.List (File p) s h = tt
on_elsewhere kinds.Require (File p) s h = tt
on_elsewhere kinds.RequireHash (File p) s h = tt
on_elsewhere kinds.Run (File p) s h = tt
on_elsewhere k (Called t) s h = tt

all_elsewhere : (deps : List Dep) → list_any looks_at_out deps ≡ false → Each LooksElsewhere (map observation_of deps)
all_elsewhere [] h = tt
all_elsewhere (d ∷ ds) h =
    let q = either_false (looks_at_out d) (list_any looks_at_out ds) h in (on_elsewhere d.kind d.what (stamp_of d.stamp) q.0, all_elsewhere ds q.1)

-- ---- what was loaded

none_more : (n : ℕ) → 0 + n ≡ n
none_more n = omega arith

pub loaded_begin : (u : Update) (kept : List TaskRecord) (t : Tables) (s : WalkState) → AreLoaded u kept t s → IsLoaded u t.names t.records s
loaded_begin u kept t s l = record {
  tasks = l.tasks;
  few = l.tables.tables.few;
  as_many = l.rows.as_many ∙ sym (length-map kept (λ (r : TaskRecord). r.task)) ∙ ap length (sym l.tables.names);
  named = λ n rec h. (subst (λ o. IfSome o (IsRecordAt t.names n)) h (l.tables.tables.records n)).named;
  whole = λ n x h.
      let m = named_row kept n x (ap (λ ns. slice_get ns n) (sym l.tables.names) ∙ h) in (m.0, l.tables.records n ∙ m.1);
  old = λ x.
      ap (λ ns. recorded ns t.records x) l.tables.names ∙ under_rows t.records kept 0 x (λ n. ap (kept_of t.records) (none_more n) ∙ l.tables.records n)
      ∙ ap (λ rs. record_among rs x) l.stored;
  storable = λ n rec h. All-contains IsStorable kept rec l.storable (placed kept n rec (sym (l.tables.records n) ∙ h));
  rows = λ n rec h.
      subst (λ ns. RowIs ns (row_at s.rows n) (Some rec)) (sym l.tables.names)
      (row_is (tasks_in kept) rec (row_at s.rows n) (l.rows.each n rec (sym (l.tables.records n) ∙ h)));
  looks = λ n rec h f.
      all_elsewhere rec.deps
      (sym (flag_at kept n rec (sym (l.tables.records n) ∙ h)) ∙ ap (λ xs. slice_index_or xs n false) (sym l.looks) ∙ f);
  unmet = l.unmet;
}

-- ---- names

either_turned : (a b : Bool) → cond a true b ≡ (b || a)
either_turned true true = refl
either_turned true false = refl
either_turned false true = refl
either_turned false false = refl

among_more : (xs : List Path) (path p : Path) → among p (xs ++ path ∷ []) ≡ cond (bytes_eq p path) true (among p xs)
among_more [] path p = refl
among_more (x ∷ xs) path p = by (bytes_eq p x) (bytes_eq p path) (among_more xs path p)
  where
    by : (a b : Bool) → among p (xs ++ path ∷ []) ≡ cond b true (among p xs)
        → cond a true (among p (xs ++ path ∷ [])) ≡ cond b true (cond a true (among p xs))
    by true true e = refl
    by true false e = refl
    by false b e = e

any_more : (f : Path → Bool) (xs : List Path) (path : Path) → list_any f (xs ++ path ∷ []) ≡ (f path || list_any f xs)
any_more f [] path = refl
any_more f (x ∷ xs) path = ap (λ b. f x || b) (any_more f xs path) ∙ by (f x) (f path) (list_any f xs)
  where
    by : (a b c : Bool) → (a || (b || c)) ≡ (b || (a || c))
    by true true c = refl
    by true false c = refl
    by false true c = refl
    by false false c = refl

turned : (x y : List ℕ) → bytes_eq x y ≡ bytes_eq y x
turned x y = by (bytes_eq x y) refl (bytes_eq y x) refl
  where
    by : (a : Bool) → bytes_eq x y ≡ a → (b : Bool) → bytes_eq y x ≡ b → a ≡ b
    by true e true f = refl
    by true e false f = clash (bytes_eq y x) (subst (λ z. bytes_eq z x ≡ true) (same_bytes x y e) (bytes_same x)) f
    by false e true f = clash (bytes_eq x y) (subst (λ z. bytes_eq z y ≡ true) (same_bytes y x f) (bytes_same y)) e
    by false e false f = refl

pub names_begin : (n : Named) → ((p : Path) → is_named n p ≡ false) → ((p : Path) → is_above n p ≡ false) → HasNames n []
names_begin n f g = record { names = f; above = g }

pub names_grow : (old new : Named) (names : List Path) (path : Path) → HasNames old names
    → ((p : Path) → is_named new p ≡ cond (is_eq (slice_cmp nat_cmp path p)) true (is_named old p))
    → ((p : Path) → is_above new p ≡ (is_below p path || is_above old p)) → HasNames new (names ++ path ∷ [])
names_grow old new names path h f g = record {
  names = λ p.
      f p ∙ ap (λ b. cond b true (is_named old p)) (is_eq-slice_cmp path p ∙ turned path p) ∙ ap (λ b. cond (bytes_eq p path) true b) (h.names p)
      ∙ sym (among_more names path p);
  above = λ p. g p ∙ ap (λ b. is_below p path || b) (h.above p) ∙ sym (any_more (is_below p) names path);
}

-- ---- functions

digests_same : (rows : List (List ℕ × List ℕ)) (name : List ℕ) → digest_in rows name ≡ digest_under rows name
digests_same [] name = refl
digests_same (r ∷ rows) name = by (bytes_eq name r.0) (digests_same rows name)
  where
    by : (b : Bool) → digest_in rows name ≡ digest_under rows name
        → first_of (cond b (Some r.1) None) (digest_in rows name) ≡ cond b (Some r.1) (digest_under rows name)
    by true e = refl
    by false e = e

one_digest : (a b : Option (List ℕ)) → same_digest a b ≡ true → SameCode a b
one_digest None b h = cc
one_digest (Some x) None h = cc
one_digest (Some x) (Some y) h = (x, refl, ap Some (sym (same_bytes x y h)))

two_digests : (a b : Option (List ℕ)) → same_digest a b ≡ false → SameCode a b → ⊥
two_digests a b h s =
    clash (same_digest a b)
    (subst (λ o. same_digest o b ≡ true) (sym s.1) (subst (λ o. same_digest (Some s.0) o ≡ true) (sym s.2) (bytes_same s.0))) h

pub same_codes : (old now : List (List ℕ × List ℕ)) (name : List ℕ) → is_same_code old now name ≡ true
    → SameCode (digest_under old name) (digest_under now name)
same_codes old now name h =
    subst (λ o. SameCode o (digest_under now name)) (digests_same old name)
    (subst (SameCode (digest_in old name)) (digests_same now name) (one_digest (digest_in old name) (digest_in now name) h))

pub other_codes : (old now : List (List ℕ × List ℕ)) (name : List ℕ) → is_same_code old now name ≡ false
    → SameCode (digest_under old name) (digest_under now name) → ⊥
other_codes old now name h s =
    two_digests (digest_in old name) (digest_in now name) h
    (subst (λ o. SameCode o (digest_in now name)) (sym (digests_same old name))
    (subst (SameCode (digest_under old name)) (sym (digests_same now name)) s))

-- ---- shapes

same_somes : (xs ys : List Task) → map Some xs ≡ map Some ys → xs ≡ ys
same_somes [] [] e = refl
same_somes [] (y ∷ ys) e = cc
same_somes (x ∷ xs) [] e = cc
same_somes (x ∷ xs) (y ∷ ys) e = both (head e) (same_somes xs ys (tail e))
  where
    head : Some x ∷ map Some xs ≡ Some y ∷ map Some ys → x ≡ y
    head h = cc

    tail : Some x ∷ map Some xs ≡ Some y ∷ map Some ys → map Some xs ≡ map Some ys
    tail h = cc

    both : x ≡ y → xs ≡ ys → x ∷ xs ≡ y ∷ ys
    both h k = λ i. h i ∷ k i

pub one_shape : (names : List Task) (ns : List ℕ) (old new : TaskRecord) → AreNumbersOf names ns (called_in old.deps)
    → AreNumbersOf names ns (called_in new.deps) → old.writes ≡ new.writes → SameShape (record_of old) (record_of new)
one_shape names ns old new a b w = record {
  needs = needs_called old.deps ∙ ap (map enc_task) (same_somes (called_in old.deps) (called_in new.deps) (sym a ∙ b)) ∙ sym (needs_called new.deps);
  writes = w;
}
