-- Which tasks are marked, step by step.
use Rattle.std.proofs.Common.{◌≡◌, ◌≢◌, ◌⊎◌, ℕ, zero, suc, Bool, true, false, List, [], ◌∷◌, ◌++◌, Some, Result, Ok, Err, Contains, map, get_or, refl, sym, ap, subst, ◌∙◌, inl, inr, arith}
use Rattle.std.specs.Prelude.{slice_get, slice_index_or, slice_set, OnOk}
use Rattle.std.specs.List.{All, AllPairs}
use Rattle.std.proofs.lemmas.List.{append_assoc}
use Rattle.std.proofs.lemmas.List.Elements.{All-push, All-weaker, All-contains, Contains-append_left, Contains-get_or, Contains-push, Contains-push_cases}
use Rattle.std.proofs.lemmas.List.Quantifiers.{all_pairs_push}
use Rattle.std.proofs.lemmas.Bool.{false≢true}
use Rattle.std.proofs.lemmas.Option.{slice_get_within}
use Rattle.std.proofs.Math.Seq.{get_or-set_same, get_or-set_other}
use Rattle.pie_value.specs.declared.task.Task.{Task}
use Rattle.pie_graph.specs.Numbers.{numbers, IsMarked}
use Rattle.pie_old.specs.inner.Rows.{tasks_at}
use Rattle.pie_tables.specs.Tabled.{IsTables}
use Rattle.pie_builder_laws.specs.Names.{AreTasks}
use Rattle.pie_builder_laws.proofs.Naming.{one_place}
use Rattle.pie_store.specs.inner.Offers.{Offered}
use Rattle.pie_core_laws.specs.Update.{Update}
use Rattle.pie_core_laws.proofs.Exactly.{same_or_not}
use Rattle.pie_topdown.specs.declared.builder.Builder.{Builder}
use Rattle.pie_topdown.specs.inner.Ledgers.{Grows}
use Rattle.pie_topdown.specs.inner.Marks.{flag, StaysMarked, MarksOne, Marks, RunsOne}
use Rattle.pie_topdown.specs.inner.Ran.{HasRunAs, IsOneOf, HasRunSo}
use Rattle.pie_topdown.specs.inner.Trying.{MarksTried, NoneStands, OneStands}
use Rattle.pie_topdown.proofs.Growing.{tasks_push}
use Rattle.pie_topdown.proofs.Keeping.{named_more, all_named_more}

-- ---- single calls

pub stays_none : (b : Builder) → StaysMarked b b
stays_none b = record { flags = λ n. refl; reused = refl }

pub stays_then : (a b c : Builder) → StaysMarked a b → StaysMarked b c → StaysMarked a c
stays_then a b c s t = record { flags = λ n. t.flags n ∙ s.flags n; reused = t.reused ∙ s.reused }

-- a build is as it was but for other things
pub stays_ran : (b c : Builder) → c.ledger.tables.ran.items ≡ b.ledger.tables.ran.items → c.reused.items ≡ b.reused.items → StaysMarked b c
stays_ran b c ran reused = record { flags = λ n. ap (λ (fs : List Bool). slice_index_or fs n false) ran; reused = reused }

pub stays_same : (b c : Builder) → c.ledger ≡ b.ledger → c.reused ≡ b.reused → StaysMarked b c
stays_same b c ledger reused = stays_ran b c (ap (λ l. l.tables.ran.items) ledger) (ap (λ v. v.items) reused)

-- one task more isn't marked
flag_more : (flags : List Bool) (n : ℕ) → slice_index_or (flags ++ false ∷ []) n false ≡ slice_index_or flags n false
flag_more [] zero = refl
flag_more [] (suc n) = refl
flag_more (f ∷ fs) zero = refl
flag_more (f ∷ fs) (suc n) = flag_more fs n

pub stays_added : (b c : Builder) → c.ledger.tables.ran.items ≡ b.ledger.tables.ran.items ++ false ∷ [] → c.reused.items ≡ b.reused.items → StaysMarked b c
stays_added b c ran reused = record {
  flags = λ n. ap (λ (fs : List Bool). slice_index_or fs n false) ran ∙ flag_more b.ledger.tables.ran.items n;
  reused = reused;
}

-- one is marked
pub one_marked : (b c : Builder) (n : ℕ) (t : Task) → IsTables b.ledger.tables → slice_get b.ledger.tables.names n ≡ Some t
    → c.ledger.tables.ran.items ≡ slice_set b.ledger.tables.ran.items n true → MarksOne b n c
one_marked b c n t is named ran = record {
  task = t;
  named = named;
  here =
      ap (λ flags. slice_index_or flags n false) ran
      ∙ get_or-set_same b.ledger.tables.ran.items n true false
      (let within = slice_get_within b.ledger.tables.names n t named in let flags = is.flags in omega (arith, within, flags));
  others = λ k apart. ap (λ flags. slice_index_or flags k false) ran ∙ get_or-set_other b.ledger.tables.ran.items n k true false apart;
}

-- it was started
pub starts_marked : (b c : Builder) (n : ℕ) (t : Task) (before after : List Task) → IsTables b.ledger.tables → slice_get b.ledger.tables.names n ≡ Some t
    → c.ledger.tables.ran.items ≡ slice_set b.ledger.tables.ran.items n true → after ≡ before ++ t ∷ [] → c.reused.items ≡ b.reused.items
    → RunsOne b n c before after
unfolding one_marked
starts_marked b c n t before after is named ran added reused = record { marks = one_marked b c n t is named ran; added = added; reused = reused }

pub one_marks : {A E : Type 0} (b c : Builder) (n : ℕ) (before after : List Task) (r : Result A E) → OnOk r (RunsOne b n c before after)
    → OnOk r (Marks b n c before after)
one_marks b c n before after (Ok x) one = inr one
one_marks b c n before after (Err e) one = tt

-- ---- after calls that mark none

marks_after : (a b c : Builder) (n : ℕ) → StaysMarked a b → b.ledger.tables.names ≡ a.ledger.tables.names → MarksOne b n c → MarksOne a n c
marks_after a b c n s names m = record {
  task = m.task;
  named = subst (λ (ts : List Task). slice_get ts n ≡ Some m.task) names m.named;
  here = m.here;
  others = λ k apart. m.others k apart ∙ s.flags k;
}

pub marks_then : (a b c : Builder) (n : ℕ) (before after : List Task) → StaysMarked a b → b.ledger.tables.names ≡ a.ledger.tables.names
    → Marks b n c before after → Marks a n c before after
unfolding marks_after
marks_then a b c n before after s names (inl (same, inl t)) = inl (same, inl (stays_then a b c s t))
marks_then a b c n before after s names (inl (same, inr r)) =
    inl (same, inr (record { marks = marks_after a b c n s names r.marks; numbers_are = r.numbers_are ∙ ap (λ v. numbers v ++ n ∷ []) s.reused }))
marks_then a b c n before after s names (inr r) =
    inr (record { marks = marks_after a b c n s names r.marks; added = r.added; reused = r.reused ∙ s.reused })

pub tried_after : (u : Update) (offers : Task → List Offered) (a b c : Builder) (n : ℕ) (before after : List Task) → StaysMarked a b
    → b.ledger.tables.names ≡ a.ledger.tables.names → MarksTried u offers b n c before after → MarksTried u offers a n c before after
unfolding marks_after
tried_after u offers a b c n before after s names (inl (same, inl more)) = inl (same, inl (stays_then a b c s more))
tried_after u offers a b c n before after s names (inl (same, inr r)) =
    inl (
      same,
      inr (record {
        one = record {
          marks = marks_after a b c n s names r.one.marks;
          numbers_are = r.one.numbers_are ∙ ap (λ v. numbers v ++ n ∷ []) s.reused;
        };
        stands = r.stands;
      }),
    )
tried_after u offers a b c n before after s names (inr r) =
    inr (record {
      one = record { marks = marks_after a b c n s names r.one.marks; added = r.one.added; reused = r.one.reused ∙ s.reused };
      none = r.none;
    })

pub marks_with : {A E : Type 0} (r : Result A E) (a b c : Builder) (n : ℕ) (before after : List Task) → StaysMarked a b
    → b.ledger.tables.names ≡ a.ledger.tables.names → OnOk r (Marks b n c before after) → OnOk r (Marks a n c before after)
marks_with (Ok x) a b c n before after s names m = marks_then a b c n before after s names m
marks_with (Err e) a b c n before after s names m = tt

-- ---- since the beginning

-- what ran has run while tasks are entered and end
module _ (b c : Builder) (g : Grows b.ledger c.ledger) (still : (n : ℕ) → IsMarked b.ledger.tables.ran.items n → IsMarked c.ledger.tables.ran.items n) where
  pub names_stay : (n : ℕ) (t : Task) → slice_get b.ledger.tables.names n ≡ Some t → slice_get c.ledger.tables.names n ≡ Some t
  names_stay n t at =
      subst (λ (ts : List Task). slice_get ts n ≡ Some t) (sym g.names) (named_more b.ledger.tables.names g.rest t n at)

  run_stays : (t : Task) → HasRunAs b t → HasRunAs c t
  run_stays t r = record { number = r.number; named = names_stay r.number t r.named; marked = still r.number r.marked }

  one_stays : (ts more : List Task) → ((t : Task) → Contains ts t → Contains more t) → (n : ℕ) → IsOneOf b ts n → IsOneOf c more n
  one_stays ts more into n o = record { task = o.task; named = names_stay n o.task o.named; listed = into o.task o.listed }

  tasks_stay : (ns : List ℕ) (ts : List Task) → tasks_at b.ledger.tables.names ns ≡ map Some ts → tasks_at c.ledger.tables.names ns ≡ map Some ts
  tasks_stay ns ts e =
      subst (λ (xs : List Task). tasks_at xs ns ≡ map Some ts) (sym g.names) (all_named_more b.ledger.tables.names g.rest ns ts e)

-- none more is marked
pub ran_stays : (u : Update) (offers : Task → List Offered) (b c : Builder) (first now : List Task) → Grows b.ledger c.ledger → StaysMarked b c
    → HasRunSo u offers b first now → HasRunSo u offers c first now
ran_stays u offers b c first now g s h = record {
  gained = h.gained;
  is = h.is;
  once = h.once;
  marked = All-weaker (HasRunAs b) (HasRunAs c) (run_stays b c g still) h.gained h.marked;
  reused = h.reused;
  reused_are = ap (λ v. tasks_at c.ledger.tables.names (numbers v)) s.reused ∙ tasks_stay b c g still (numbers b.reused.items) h.reused h.reused_are;
  reused_once = h.reused_once;
  reused_marked = All-weaker (HasRunAs b) (HasRunAs c) (run_stays b c g still) h.reused h.reused_marked;
  apart = h.apart;
  only = λ n is. by n (h.only n (sym (s.flags n) ∙ is));
  without = h.without;
  standing = h.standing;
}
  where
    still : (n : ℕ) → IsMarked b.ledger.tables.ran.items n → IsMarked c.ledger.tables.ran.items n
    still n was = s.flags n ∙ was

    by : (n : ℕ) → IsOneOf b h.gained n ⊎ IsOneOf b h.reused n → IsOneOf c h.gained n ⊎ IsOneOf c h.reused n
    by n (inl o) = inl (one_stays b c g still h.gained h.gained (λ t i. i) n o)
    by n (inr o) = inr (one_stays b c g still h.reused h.reused (λ t i. i) n o)

-- each of some and one more
pairs_push : (ts : List Task) (t : Task) → AllPairs (λ x y. x ≢ y) ts → ((x : Task) → Contains ts x → x ≢ t) → AllPairs (λ x y. x ≢ y) (ts ++ t ∷ [])
pairs_push ts t all new = all_pairs_push (λ (x y : Task). x ≢ y) ts t all (λ i d within. new (get_or ts i d) (Contains-get_or ts i d within))

-- ---- one more

module _ (u : Update) (offers : Task → List Offered) (b c : Builder) (n : ℕ) (g : Grows b.ledger c.ledger) (are : AreTasks b.ledger.tables.names)
    (rested : flag b n ≡ false) (m : MarksOne b n c) where
  still : (k : ℕ) → IsMarked b.ledger.tables.ran.items k → IsMarked c.ledger.tables.ran.items k
  still k was = by (same_or_not n k)
    where
      by : (k ≡ n) ⊎ (k ≡ n → ⊥) → IsMarked c.ledger.tables.ran.items k
      by (inl e) = subst (IsMarked c.ledger.tables.ran.items) (sym e) m.here
      by (inr apart) = m.others k apart ∙ was

  -- it hadn't run
  other : (t : Task) → HasRunAs b t → t ≢ m.task
  other t r is =
      let at : r.number ≡ n = one_place b.ledger.tables.names are r.number n t r.named (m.named ∙ ap Some (sym is)) in
      false≢true (sym rested ∙ subst (IsMarked b.ledger.tables.ran.items) at r.marked)

  others_of : (ts : List Task) → All (HasRunAs b) ts → (t : Task) → Contains ts t → t ≢ m.task
  others_of ts all t i = other t (All-contains (HasRunAs b) ts t all i)

  has_run : HasRunAs c m.task
  has_run = record { number = n; named = names_stay b c g still n m.task m.named; marked = m.here }

  all_run : (ts : List Task) → All (HasRunAs b) ts → All (HasRunAs c) ts
  all_run ts all = All-weaker (HasRunAs b) (HasRunAs c) (run_stays b c g still) ts all

  pushed : (ts : List Task) → IsOneOf c (ts ++ m.task ∷ []) n
  pushed ts = record { task = m.task; named = names_stay b c g still n m.task m.named; listed = Contains-push ts m.task }

  -- it was started
  pub ran_one : (first before after : List Task) → after ≡ before ++ m.task ∷ [] → c.reused.items ≡ b.reused.items → NoneStands u offers m.task
      → HasRunSo u offers b first before → HasRunSo u offers c first after
  ran_one first before after added reused none h = record {
    gained = h.gained ++ m.task ∷ [];
    is = added ∙ ap (λ (ts : List Task). ts ++ m.task ∷ []) h.is ∙ append_assoc first h.gained (m.task ∷ []);
    once = pairs_push h.gained m.task h.once (others_of h.gained h.marked);
    marked = All-push (HasRunAs c) h.gained m.task (all_run h.gained h.marked) has_run;
    reused = h.reused;
    reused_are = ap (λ v. tasks_at c.ledger.tables.names (numbers v)) reused ∙ tasks_stay b c g still (numbers b.reused.items) h.reused h.reused_are;
    reused_once = h.reused_once;
    reused_marked = all_run h.reused h.reused_marked;
    apart = λ t i j. by t j (Contains-push_cases h.gained m.task t i);
    only = λ k is. which k is (same_or_not n k);
    without = All-push (NoneStands u offers) h.gained m.task h.without none;
    standing = h.standing;
  }
    where
      by : (t : Task) → Contains h.reused t → Contains h.gained t ⊎ (m.task ≡ t) → ⊥
      by t j (inl i) = h.apart t i j
      by t j (inr e) = others_of h.reused h.reused_marked t j (sym e)

      more : (k : ℕ) → IsOneOf b h.gained k ⊎ IsOneOf b h.reused k → IsOneOf c (h.gained ++ m.task ∷ []) k ⊎ IsOneOf c h.reused k
      more k (inl o) = inl (one_stays b c g still h.gained (h.gained ++ m.task ∷ []) (λ t i. Contains-append_left h.gained (m.task ∷ []) t i) k o)
      more k (inr o) = inr (one_stays b c g still h.reused h.reused (λ t i. i) k o)

      which : (k : ℕ) → IsMarked c.ledger.tables.ran.items k → (k ≡ n) ⊎ (k ≡ n → ⊥)
          → IsOneOf c (h.gained ++ m.task ∷ []) k ⊎ IsOneOf c h.reused k
      which k is (inl e) = inl (subst (IsOneOf c (h.gained ++ m.task ∷ [])) (sym e) (pushed h.gained))
      which k is (inr apart) = more k (h.only k (sym (m.others k apart) ∙ is))

  -- it was reused
  pub reused_one : (first now : List Task) → numbers c.reused.items ≡ numbers b.reused.items ++ n ∷ [] → OneStands u offers m.task
      → HasRunSo u offers b first now → HasRunSo u offers c first now
  reused_one first now numbers_are stands h = record {
    gained = h.gained;
    is = h.is;
    once = h.once;
    marked = all_run h.gained h.marked;
    reused = h.reused ++ m.task ∷ [];
    reused_are = ap (tasks_at c.ledger.tables.names) numbers_are
        ∙ tasks_push c.ledger.tables.names (numbers b.reused.items) h.reused n m.task
        (tasks_stay b c g still (numbers b.reused.items) h.reused h.reused_are) (names_stay b c g still n m.task m.named);
    reused_once = pairs_push h.reused m.task h.reused_once (others_of h.reused h.reused_marked);
    reused_marked = All-push (HasRunAs c) h.reused m.task (all_run h.reused h.reused_marked) has_run;
    apart = λ t i j. by t i (Contains-push_cases h.reused m.task t j);
    only = λ k is. which k is (same_or_not n k);
    without = h.without;
    standing = All-push (OneStands u offers) h.reused m.task h.standing stands;
  }
    where
      by : (t : Task) → Contains h.gained t → Contains h.reused t ⊎ (m.task ≡ t) → ⊥
      by t i (inl j) = h.apart t i j
      by t i (inr e) = others_of h.gained h.marked t i (sym e)

      more : (k : ℕ) → IsOneOf b h.gained k ⊎ IsOneOf b h.reused k → IsOneOf c h.gained k ⊎ IsOneOf c (h.reused ++ m.task ∷ []) k
      more k (inl o) = inl (one_stays b c g still h.gained h.gained (λ t i. i) k o)
      more k (inr o) = inr (one_stays b c g still h.reused (h.reused ++ m.task ∷ []) (λ t i. Contains-append_left h.reused (m.task ∷ []) t i) k o)

      which : (k : ℕ) → IsMarked c.ledger.tables.ran.items k → (k ≡ n) ⊎ (k ≡ n → ⊥)
          → IsOneOf c h.gained k ⊎ IsOneOf c (h.reused ++ m.task ∷ []) k
      which k is (inl e) = inr (subst (IsOneOf c (h.reused ++ m.task ∷ [])) (sym e) (pushed h.reused))
      which k is (inr apart) = more k (h.only k (sym (m.others k apart) ∙ is))

-- at most this one
pub marks_one : (u : Update) (offers : Task → List Offered) (b c : Builder) (n : ℕ) (first before after : List Task) → Grows b.ledger c.ledger
    → AreTasks b.ledger.tables.names → flag b n ≡ false → MarksTried u offers b n c before after → HasRunSo u offers b first before
    → HasRunSo u offers c first after
marks_one u offers b c n first before after g are rested (inl (same, inl s)) h =
    subst (HasRunSo u offers c first) (sym same) (ran_stays u offers b c first before g s h)
marks_one u offers b c n first before after g are rested (inl (same, inr r)) h =
    subst (HasRunSo u offers c first) (sym same) (reused_one u offers b c n g are rested r.one.marks first before r.one.numbers_are r.stands h)
marks_one u offers b c n first before after g are rested (inr r) h =
    ran_one u offers b c n g are rested r.one.marks first before after r.one.added r.one.reused r.none h
