-- One live task more, where it comes after those before it.
use Rattle.std.proofs.Common.{◌≡◌, ℕ, Bool, true, false, cond, List, [], ◌∷◌, ◌++◌, get_or, Some, None, sym, ap, subst, refl, ◌∙◌, arith, inl, inr}
use Rattle.std.specs.Prelude.{Contains, Option, IfSome, option_copied, option_map}
use Rattle.std.specs.Borrow.{Bor}
use Rattle.std.specs.List.{AllByRecursion}
use Rattle.std.specs.List.Sorted.{IsStrictlySortedBy}
use Rattle.std.specs.declared.cmp.Ordering.{Ordering}
use Rattle.std.specs.declared.cmp.Ordering.TheVariants.{Less, Equal, Greater}
use Rattle.std.specs.Ordering.{is_lt}
use Rattle.std.specs.Cmp.{IsTotalOrder}
use Rattle.std.proofs.lemmas.Cmp.{nat_cmp_total, nat_list_cmp_total, on_total, then_total}
use Rattle.std.proofs.lemmas.List.{length_push}
use Rattle.std.proofs.lemmas.List.Elements.{Contains-append_cases, Contains-append_left, Contains-append_right}
use Rattle.pie_value.specs.declared.task.Task.{Task}
use Rattle.pie_value.specs.Canonical.{enc_task, IsEncodableTask}
use Rattle.pie_record.specs.declared.records.Records.{Records}
use Rattle.pie_record.specs.declared.task_record.TaskRecord.{TaskRecord}
use Rattle.pie_record.specs.inner.Records.{record_of}
use Rattle.pie_tables.specs.declared.tables.Tables.{Tables}
use Rattle.pie_tables.specs.Tabled.{IsTables}
use Rattle.pie_results.specs.inner.Failures.{is_done}
use Rattle.pie_results.specs.inner.Ordered.{follows, done_in, bytes_in, key_cmp, key_of, number_cmp, IsDoneAt, IsAmong, AreOrdered}
use Rattle.pie_results.proofs.Ordering.{done_storable, record_there, some_same}
use Rattle.pie_results.proofs.Starting.{the_one}

key_total : IsTotalOrder key_cmp
key_total =
    then_total (on_total (λ (x : ℕ × List ℕ). x.0) nat_cmp_total) (on_total (λ (x : ℕ × List ℕ). x.1) nat_list_cmp_total)

is_less : (o : Ordering) → is_lt o ≡ true → o ≡ Less
is_less Less e = refl
is_less Equal e = absurd (cc)
is_less Greater e = absurd (cc)

-- ---- what a number has

-- a record that is done is that of its number
pub done_is : (o : Option TaskRecord) (r : TaskRecord) → done_in o ≡ Some r → (o ≡ Some r) × (is_done r.outcome ≡ true)
done_is None r e = absurd (cc)
done_is (Some s) r e = by (is_done s.outcome) refl e
  where
    by : (b : Bool) → is_done s.outcome ≡ b → cond b (Some s) None ≡ Some r → (Some s ≡ Some r) × (is_done r.outcome ≡ true)
    by true done same = (same, subst (λ (x : TaskRecord). is_done x.outcome ≡ true) (some_same s r same) done)
    by false done same = absurd (cc)

pub done_encodable : (t : Tables) (n : ℕ) (r : TaskRecord) → IsTables t → done_in (record_of t.records n) ≡ Some r → IsEncodableTask r.task
done_encodable t n r is e =
    let d = done_is (record_of t.records n) r e in (done_storable r (record_there t n r is d.0).kept d.1).task

-- what is not lent is not there
pub none_lent : (o : Option (Bor TaskRecord)) (d : Option TaskRecord) → option_copied o ≡ d → ((x : Bor TaskRecord) → o ≡ Some x → ⊥) → d ≡ None
none_lent None d e none = sym e
none_lent (Some x) d e none = absurd (none x refl)

-- the height of the last task and its canonical bytes
abbrev pub last_key : Option (ℕ × Bor Task) → Option (ℕ × List ℕ)
last_key last = option_map (λ (x : ℕ × Bor Task). (x.0, enc_task x.1.now)) last

-- ---- lists with one element more

all_push : {X : Type 0} (P : X → Type 0) (xs : List X) (x : X) → AllByRecursion P xs → P x → AllByRecursion P (xs ++ x ∷ [])
all_push P [] x all p = (p, tt)
all_push P (y ∷ xs) x all p = (all.0, all_push P xs x all.1 p)

all_turn : {X : Type 0} (P Q : X → Type 0) → ((x : X) → P x → Q x) → (xs : List X) → AllByRecursion P xs → AllByRecursion Q xs
all_turn P Q f [] all = tt
all_turn P Q f (x ∷ xs) all = (f x all.0, all_turn P Q f xs all.1)

push_ascending : {X : Type 0} (c : X → X → Ordering) (xs : List X) (x : X) → IsStrictlySortedBy c xs → AllByRecursion (λ (y : X). c y x ≡ Less) xs
    → IsStrictlySortedBy c (xs ++ x ∷ [])
unfolding IsStrictlySortedBy
push_ascending c [] x asc all = (tt, tt)
push_ascending {X} c (y ∷ xs) x asc all = (all_push (λ (z : X). c y z ≡ Less) xs x asc.0 all.0, push_ascending c xs x asc.1 all.1)

-- ---- the steps

-- what comes after the last key comes after each number
pub record IsLast (records : Records) (heights : List ℕ) (last : Option (ℕ × List ℕ)) (nos : List ℕ) : Type 0 where
  pub before : (key : ℕ × List ℕ) → follows last key ≡ true → AllByRecursion (λ (n : ℕ). key_cmp (key_of records heights n) key ≡ Less) nos

pub last_none : (records : Records) (heights : List ℕ) → IsLast records heights None []
last_none records heights = record { before = λ key after. tt }

module _ (records : Records) (heights live : List ℕ) where
  pub last_more : (last : Option (ℕ × List ℕ)) (nos : List ℕ) (n : ℕ) → follows last (key_of records heights n) ≡ true
      → IsLast records heights last nos → IsLast records heights (Some (key_of records heights n)) (nos ++ n ∷ [])
  last_more last nos n after l = record {
    before = λ key more.
        let less = is_less (key_cmp (key_of records heights n) key) more in
        all_push (λ (m : ℕ). key_cmp (key_of records heights m) key ≡ Less) nos n
        (all_turn (λ (m : ℕ). key_cmp (key_of records heights m) (key_of records heights n) ≡ Less) (λ (m : ℕ). key_cmp (key_of records heights m) key ≡ Less)
        (λ m e. key_total.trans (key_of records heights m) (key_of records heights n) key e less) nos (l.before (key_of records heights n) after))
        less;
  }

  pub ordered_none : AreOrdered records heights live [] []
  unfolding IsStrictlySortedBy
  ordered_none = record { few = omega arith; ascending = tt; only = tt; each = λ n c. absurd (omega (arith, c.1)) }

  among_more : (k n : ℕ) (nos : List ℕ) (o : Option TaskRecord) → IfSome o (IsAmong nos k) → IfSome o (IsAmong (nos ++ n ∷ []) k)
  among_more k n nos None h = tt
  among_more k n nos (Some r) h = λ done. Contains-append_left nos (n ∷ []) k (h done)

  among_new : (n : ℕ) (nos : List ℕ) (o : Option TaskRecord) → IfSome o (IsAmong (nos ++ n ∷ []) n)
  among_new n nos None = tt
  among_new n nos (Some r) = λ done. Contains-append_right nos (n ∷ []) n (0, omega arith, refl)

  -- a task that is done and comes last is taken
  pub ordered_more : (seen nos : List ℕ) (n : ℕ) (r : TaskRecord) (last : Option (ℕ × List ℕ)) → Contains live n → record_of records n ≡ Some r
      → is_done r.outcome ≡ true → follows last (key_of records heights n) ≡ true → IsLast records heights last nos → AreOrdered records heights live seen nos
      → AreOrdered records heights live (seen ++ n ∷ []) (nos ++ n ∷ [])
  ordered_more seen nos n r last is_live found done after l a = record {
    few = let long = length_push seen n in let more = length_push nos n in omega (arith, long, more, a.few);
    ascending = push_ascending (number_cmp records heights) nos n a.ascending (l.before (key_of records heights n) after);
    only = all_push (λ (m : ℕ). (s : TaskRecord) × IsDoneAt records live m s) nos n a.only
        (r, record { is_live = is_live; found = found; done = done });
    each = λ k c. elim (Contains-append_cases seen (n ∷ []) k c) [
      | inl old ↦ among_more k n nos (record_of records k) (a.each k old)
      | inr new ↦ subst (λ j. IfSome (record_of records j) (IsAmong (nos ++ n ∷ []) j)) (the_one n k new) (among_new n nos (record_of records n))
    ];
  }

  unfit : (n : ℕ) (nos : List ℕ) (o : Option TaskRecord) → done_in o ≡ None → IfSome o (IsAmong nos n)
  unfit n nos None e = tt
  unfit n nos (Some r) e = λ done. absurd (let all : Some r ≡ None = sym (ap (λ b. cond b (Some r) None) done) ∙ e in cc)

  -- one without a record that is done is left out
  pub ordered_skip : (seen nos : List ℕ) (n : ℕ) → done_in (record_of records n) ≡ None → AreOrdered records heights live seen nos
      → AreOrdered records heights live (seen ++ n ∷ []) nos
  ordered_skip seen nos n free a = record {
    few = let long = length_push seen n in omega (arith, long, a.few);
    ascending = a.ascending;
    only = a.only;
    each = λ k c. elim (Contains-append_cases seen (n ∷ []) k c) [
      | inl old ↦ a.each k old
      | inr new ↦ subst (λ j. IfSome (record_of records j) (IsAmong nos j)) (the_one n k new) (unfit n nos (record_of records n) free)
    ];
  }

  -- both at once, by what was compared
  pub stand_more : (seen nos new : List ℕ) (n : ℕ) (last next : Option (ℕ × List ℕ)) (r : TaskRecord) → Contains live n
      → done_in (record_of records n) ≡ Some r → follows last (get_or heights n 0, enc_task r.task) ≡ true → new ≡ nos ++ n ∷ []
      → next ≡ Some (get_or heights n 0, enc_task r.task) → AreOrdered records heights live seen nos → IsLast records heights last nos
      → AreOrdered records heights live (seen ++ n ∷ []) new × IsLast records heights next new
  stand_more seen nos new n last next r is_live found after grown put a l =
      let d = done_is (record_of records n) r found in
      let key : key_of records heights n ≡ (get_or heights n 0, enc_task r.task) = λ i. (get_or heights n 0, bytes_in (d.0 i)) in
      let comes : follows last (key_of records heights n) ≡ true = ap (follows last) key ∙ after in (
        subst (AreOrdered records heights live (seen ++ n ∷ [])) (sym grown) (ordered_more seen nos n r last is_live d.0 d.1 comes l a),
        subst (λ (o : Option (ℕ × List ℕ)). IsLast records heights o new) (ap Some key ∙ sym put)
            (subst (IsLast records heights (Some (key_of records heights n))) (sym grown) (last_more last nos n comes l)),
      )
