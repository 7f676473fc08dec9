-- A finish that schedules enough keeps the records consistent, and what is settled stays settled.
use Rattle.std.proofs.Common.{ℕ, ◌≤◌, ◌<◌, ◌≡◌, Bool, true, false, Option, Some, List, [], ◌∷◌, length, ◌⊎◌, inl, inr, sym, ◌∙◌, ap, subst, refl, bytes_eq}
use Rattle.pie_model.specs.Paths.{Path, Kind, Out, Kept, Source, kind_of, among}
use Rattle.pie_model.specs.Tasks.{Task, Look}
use Rattle.pie_model.specs.Trees.{is_plain, trace_of}
use Rattle.pie_model.specs.Seen.{first_write}
use Rattle.pie_model.specs.Evaluation.{World, Project, evaluation}
use Rattle.pie_model.specs.Records.{Record, record_of, Stamp, Observation, Query, Looked, Listed, Required, task_asked, needs_of}
use Rattle.pie_model.specs.StampNow.{Told, by_records, recorded_outcome, told_stamp, own_told, look_now, outcome_now, stamp_now, StampsAgree, asked_before}
use Rattle.pie_model.specs.Separate.{AllMet}
use Rattle.pie_model.specs.inner.Present.{Reaches, WroteByRecords, IsTold}
use Rattle.pie_model.specs.inner.Present.Way.{here, along}
use Rattle.pie_model.specs.inner.Consistent.{IsRecorded, IsUpToDate, IsConsistent, IsSettled}
use Rattle.pie_model.specs.inner.Steps.{Each, StampStill, LooksElsewhere, SameShape, ChangesAt, IsUntouched}
use Rattle.pie_model.proofs.Basics.{clash, same_bytes, bytes_same, among_here, among_left, among_right}
use Rattle.pie_model.proofs.LooksLemmas.{some_same}
use Rattle.pie_model.proofs.Ways.{further}
use Rattle.pie_model.proofs.Views.{told_once}
use Rattle.pie_model.proofs.AgreesLemmas.{asked_either}

-- two tasks are one, or not
pub one_or_not : (x t : Task) → (x ≡ t) ⊎ (x ≡ t → ⊥)
one_or_not x t = go (bytes_eq x t) refl
  where
    go : (b : Bool) → bytes_eq x t ≡ b → (x ≡ t) ⊎ (x ≡ t → ⊥)
    go true e = inl (same_bytes x t e)
    go false e = inr (λ q. clash true refl (sym (subst (λ z. bytes_eq x z ≡ true) q (bytes_same x)) ∙ e))

module _ (R S : Task → Option Record) (t : Task) (new : Record) (change : ChangesAt R S t new) where
  -- what does not reach the task reaches the same
  far_forth : {x u : Task} → Reaches R u x → (Reaches R u t → ⊥) → Reaches S u x
  far_forth here f = here
  far_forth {x} {u} (along {b = v} {r = r} e i q) f =
      along (change.others u (λ z. f (subst (λ y. Reaches R u y) z here)) ∙ e) i (far_forth q (λ w. f (along e i w)))

  far_back : {x u : Task} → Reaches S u x → (Reaches R u t → ⊥) → Reaches R u x
  far_back here f = here
  far_back {x} {u} (along {b = v} {r = r} e i q) f =
      let k : R u ≡ Some r = sym (change.others u (λ z. f (subst (λ y. Reaches R u y) z here))) ∙ e in
      along k i (far_back q (λ w. f (along k i w)))

  far_not : {u x : Task} → (Reaches R u t → ⊥) → Reaches R u x → x ≡ t → ⊥
  far_not {u} f q e = f (subst (λ y. Reaches R u y) e q)

  far_writes_forth : (us : List Task) (p : Path) → ((u : Task) → among u us ≡ true → Reaches R u t → ⊥) → (x : Task) (h : List ℕ)
      → WroteByRecords R us p x h → WroteByRecords S us p x h
  far_writes_forth us p f x h s = record {
    from = s.from;
    listed = s.listed;
    reaches = far_forth s.reaches (f s.from s.listed);
    found = s.found;
    recorded = change.others x (far_not (f s.from s.listed) s.reaches) ∙ s.recorded;
    wrote = s.wrote;
  }

  far_writes_back : (us : List Task) (p : Path) → ((u : Task) → among u us ≡ true → Reaches R u t → ⊥) → (x : Task) (h : List ℕ)
      → WroteByRecords S us p x h → WroteByRecords R us p x h
  far_writes_back us p f x h s =
      let q : Reaches R s.from x = far_back s.reaches (f s.from s.listed) in
      record {
        from = s.from;
        listed = s.listed;
        reaches = q;
        found = s.found;
        recorded = sym (change.others x (far_not (f s.from s.listed) q)) ∙ s.recorded;
        wrote = s.wrote;
      }

  module _ (before : Record) (was : R t ≡ Some before) (shape : SameShape before new) where
    -- with the same requires everything reaches the same
    shape_forth : {x u : Task} → Reaches R u x → Reaches S u x
    shape_forth here = here
    shape_forth {x} {u} (along {b = v} {r = r} e i q) = by (one_or_not u t) (shape_forth q)
      where
        by : (u ≡ t) ⊎ (u ≡ t → ⊥) → Reaches S v x → Reaches S u x
        by (inl z) more = along (ap S z ∙ change.now)
            (subst (λ ns. among v ns ≡ true) (ap (λ y. needs_of y.observations) (some_same r before (sym e ∙ ap R z ∙ was)) ∙ shape.needs) i) more
        by (inr z) more = along (change.others u z ∙ e) i more

    shape_back : {x u : Task} → Reaches S u x → Reaches R u x
    shape_back here = here
    shape_back {x} {u} (along {b = v} {r = r} e i q) = by (one_or_not u t) (shape_back q)
      where
        by : (u ≡ t) ⊎ (u ≡ t → ⊥) → Reaches R v x → Reaches R u x
        by (inl z) more = along (ap R z ∙ was)
            (subst (λ ns. among v ns ≡ true) (ap (λ y. needs_of y.observations) (some_same r new (sym e ∙ ap S z ∙ change.now))
            ∙ sym shape.needs) i) more
        by (inr z) more = along (sym (change.others u z) ∙ e) i more

    shape_writes_forth : (us : List Task) (p : Path) (x : Task) (h : List ℕ) → WroteByRecords R us p x h → WroteByRecords S us p x h
    shape_writes_forth us p x h s = by (one_or_not x t)
      where
        by : (x ≡ t) ⊎ (x ≡ t → ⊥) → WroteByRecords S us p x h
        by (inl z) = record {
          from = s.from;
          listed = s.listed;
          reaches = shape_forth s.reaches;
          found = new;
          recorded = ap S z ∙ change.now;
          wrote = ap (first_write p) (sym shape.writes
              ∙ ap (λ y. y.writes) (some_same before s.found (sym was ∙ sym (ap R z) ∙ s.recorded))) ∙ s.wrote;
        }
        by (inr z) = record {
          from = s.from;
          listed = s.listed;
          reaches = shape_forth s.reaches;
          found = s.found;
          recorded = change.others x z ∙ s.recorded;
          wrote = s.wrote;
        }

    shape_writes_back : (us : List Task) (p : Path) (x : Task) (h : List ℕ) → WroteByRecords S us p x h → WroteByRecords R us p x h
    shape_writes_back us p x h s = by (one_or_not x t)
      where
        by : (x ≡ t) ⊎ (x ≡ t → ⊥) → WroteByRecords R us p x h
        by (inl z) = record {
          from = s.from;
          listed = s.listed;
          reaches = shape_back s.reaches;
          found = before;
          recorded = ap R z ∙ was;
          wrote = ap (first_write p) (shape.writes ∙ ap (λ y. y.writes)
              (some_same new s.found (sym change.now ∙ sym (ap S z) ∙ s.recorded))) ∙ s.wrote;
        }
        by (inr z) = record {
          from = s.from;
          listed = s.listed;
          reaches = shape_back s.reaches;
          found = s.found;
          recorded = sym (change.others x z) ∙ s.recorded;
          wrote = s.wrote;
        }

  -- ---- stamps after the finish

  module _ (w : World) (now : Project) (told retold : List Task → Path → Told)
      (telling : (us : List Task) (p : Path) → ((u : Task) → among u us ≡ true → IsRecorded R u) → IsTold (WroteByRecords R us p) (told us p))
      (retelling : (us : List Task) (p : Path) → ((u : Task) → among u us ≡ true → IsRecorded S u)
      → IsTold (WroteByRecords S us p) (retold us p)) where
    still_recorded : (u : Task) → IsRecorded R u → IsRecorded S u
    still_recorded u h = by (one_or_not u t)
      where
        by : (u ≡ t) ⊎ (u ≡ t → ⊥) → IsRecorded S u
        by (inl z) = record { kept = new; is = ap S z ∙ change.now }
        by (inr z) = record { kept = h.kept; is = change.others u z ∙ h.is }

    told_far : (us : List Task) (p : Path) → ((u : Task) → among u us ≡ true → IsRecorded R u) → ((u : Task) → among u us ≡ true → Reaches R u t → ⊥)
        → told us p ≡ retold us p
    told_far us p h f =
        told_once (WroteByRecords R us p) (WroteByRecords S us p) (far_writes_forth us p f) (far_writes_back us p f) (told us p) (retold us p)
        (telling us p h) (retelling us p (λ u i. still_recorded u (h u i)))

    told_shape : (before : Record) → R t ≡ Some before → SameShape before new → (us : List Task) (p : Path)
        → ((u : Task) → among u us ≡ true → IsRecorded R u) → told us p ≡ retold us p
    told_shape before was shape us p h =
        told_once (WroteByRecords R us p) (WroteByRecords S us p) (shape_writes_forth before was shape us p) (shape_writes_back before was shape us p)
        (told us p) (retold us p) (telling us p h) (retelling us p (λ u i. still_recorded u (h u i)))

    module _ (own : List (Path × List ℕ)) where
      look_again : (us : List Task) (l : Look) (p : Path) (k : Kind) (s : Stamp) → (k ≡ Out → told us p ≡ retold us p)
          → look_now w now (by_records R told) own us l p k ≡ Some s → look_now w now (by_records S retold) own us l p k ≡ Some s
      look_again us l p Out s f h = ap (λ x. told_stamp l (own_told (first_write p own) x)) (sym (f refl)) ∙ h
      look_again us l p Kept s f h = h
      look_again us l p Source s f h = h

      -- the first kind: nothing that is required reaches the task
      far_agrees : (os : List Observation) (us : List Task) → ((u : Task) → among u us ≡ true → IsRecorded R u × (Reaches R u t → ⊥))
          → ((u : Task) → among u (needs_of os) ≡ true → IsRecorded R u × (Reaches R u t → ⊥))
          → StampsAgree w now (by_records R told) own us os → StampsAgree w now (by_records S retold) own us os
      far_agrees [] us b n h = tt
      far_agrees (o ∷ os) us b n h = (
        by_query o.query o.stamp (λ u i. n u (among_left u (task_asked o.query) (needs_of os) i)) h.0,
        far_agrees os (asked_before us o.query) more (λ u i. n u (among_right u (task_asked o.query) (needs_of os) i)) h.1,
      )
        where
          more : (u : Task) → among u (asked_before us o.query) ≡ true → IsRecorded R u × (Reaches R u t → ⊥)
          more u i = by (asked_either u us o.query i)
            where
              by : (among u us ≡ true) ⊎ (among u (task_asked o.query) ≡ true) → IsRecorded R u × (Reaches R u t → ⊥)
              by (inl j) = b u j
              by (inr j) = n u (among_left u (task_asked o.query) (needs_of os) j)

          by_query : (q : Query) (s : Stamp) → ((u : Task) → among u (task_asked q) ≡ true → IsRecorded R u × (Reaches R u t → ⊥))
              → stamp_now w now (by_records R told) own us q ≡ Some s → stamp_now w now (by_records S retold) own us q ≡ Some s
          by_query (Looked l p) s m k = look_again us l p (kind_of p) s (λ e. told_far us p (λ u i. (b u i).0) (λ u i. (b u i).1)) k
          by_query (Listed d) s m k = k
          by_query (Required r u) s m k =
              ap (λ x. outcome_now w r (recorded_outcome x))
              (change.others u (λ z. (m u (among_here u [])).1 (subst (λ y. Reaches R u y) z here))) ∙ k

      -- the second kind: its stamps of the task are the new ones
      called_agrees : (os : List Observation) (us : List Task) → ((u : Task) → among u us ≡ true → IsRecorded R u)
          → ((u : Task) → among u (needs_of os) ≡ true → IsRecorded R u)
          → Each (StampStill w S t) os → ((before : Record) × (R t ≡ Some before) × SameShape before new) ⊎ Each LooksElsewhere os
          → StampsAgree w now (by_records R told) own us os → StampsAgree w now (by_records S retold) own us os
      called_agrees [] us b n c f h = tt
      called_agrees (o ∷ os) us b n c f h = (
        by_query o.query o.stamp c.0 (front f) h.0,
        called_agrees os (asked_before us o.query) more (λ u i. n u (among_right u (task_asked o.query) (needs_of os) i)) c.1 (rest f) h.1,
      )
        where
          more : (u : Task) → among u (asked_before us o.query) ≡ true → IsRecorded R u
          more u i = by (asked_either u us o.query i)
            where
              by : (among u us ≡ true) ⊎ (among u (task_asked o.query) ≡ true) → IsRecorded R u
              by (inl j) = b u j
              by (inr j) = n u (among_left u (task_asked o.query) (needs_of os) j)

          front : ((before : Record) × (R t ≡ Some before) × SameShape before new) ⊎ Each LooksElsewhere (o ∷ os)
              → ((before : Record) × (R t ≡ Some before) × SameShape before new) ⊎ LooksElsewhere o.query o.stamp
          front (inl x) = inl x
          front (inr x) = inr x.0

          rest : ((before : Record) × (R t ≡ Some before) × SameShape before new) ⊎ Each LooksElsewhere (o ∷ os)
              → ((before : Record) × (R t ≡ Some before) × SameShape before new) ⊎ Each LooksElsewhere os
          rest (inl x) = inl x
          rest (inr x) = inr x.1

          told_again : (p : Path) (l : Look) (s : Stamp) → ((before : Record) × (R t ≡ Some before) × SameShape before new)
              ⊎ LooksElsewhere (Looked l p) s
              → kind_of p ≡ Out → told us p ≡ retold us p
          told_again p l s (inl x) e = told_shape x.0 x.1 x.2 us p b
          told_again p l s (inr x) e = absurd (x e)

          by_query : (q : Query) (s : Stamp) → StampStill w S t q s → ((before : Record) × (R t ≡ Some before) × SameShape before new)
              ⊎ LooksElsewhere q s
              → stamp_now w now (by_records R told) own us q ≡ Some s → stamp_now w now (by_records S retold) own us q ≡ Some s
          by_query (Looked l p) s m x k = look_again us l p (kind_of p) s (told_again p l s x) k
          by_query (Listed d) s m x k = k
          by_query (Required r u) s m x k = by (one_or_not u t)
            where
              by : (u ≡ t) ⊎ (u ≡ t → ⊥) → outcome_now w r (recorded_outcome (S u)) ≡ Some s
              by (inl z) = ap (λ y. outcome_now w r (recorded_outcome (S y))) z ∙ m z
              by (inr z) = ap (λ y. outcome_now w r (recorded_outcome y)) (change.others u z) ∙ k

    -- an untouched record agrees after the finish as it did before
    untouched_agrees : (r : Record) → ((u : Task) → among u (needs_of r.observations) ≡ true → IsRecorded R u) → IsUntouched w R S t new r
        → StampsAgree w now (by_records R told) r.writes [] r.observations → StampsAgree w now (by_records S retold) r.writes [] r.observations
    untouched_agrees r n (inl f) h = far_agrees r.writes r.observations [] (λ u i. clash false i refl) (λ u i. (n u i, f u i)) h
    untouched_agrees r n (inr f) h = called_agrees r.writes r.observations [] (λ u i. clash false i refl) n f.0 f.1 h

-- what does not reach the task that finished stays settled
pub stays_settled : (R S : Task → Option Record) (t : Task) (new : Record) → ChangesAt R S t new → (busy busy_after : Task → Type 0) → busy t
    → ((x : Task) → busy_after x → busy x ⊎ Reaches R x t) → (u : Task) → IsSettled R busy u → IsSettled S busy_after u
stays_settled R S t new change busy after b f u s = record {
  recorded = record { kept = s.recorded.kept; is = change.others u (λ z. apart (subst (λ y. Reaches R u y) z here)) ∙ s.recorded.is };
  free = λ x q i. by x (far_back R S t new change q apart) (f x i);
}
  where
    apart : Reaches R u t → ⊥
    apart q = s.free t q b

    by : (x : Task) → Reaches R u x → busy x ⊎ Reaches R x t → ⊥
    by x q (inl i) = s.free x q i
    by x q (inr i) = apart (further q i)

-- a finish keeps the records consistent
pub finish_consistent : (w : World) (old now : Project) (Met : List ℕ → Type 0) (R S : Task → Option Record) (told retold : List Task → Path → Told)
    (held : List Task) (rank new_rank : Task → ℕ) (busy busy_after : Task → Type 0) (t : Task) (new : Record)
    → IsConsistent w old now Met R told held rank busy → ChangesAt R S t new → new ≡ record_of w (evaluation w now t)
    → among t held ≡ true → is_plain new.outcome ≡ true → AllMet w Met (trace_of (evaluation w now t))
    → ((u : Task) → among u (needs_of new.observations) ≡ true → IsRecorded R u)
    → ((x : Task) (r : Record) (u : Task) → S x ≡ Some r → among u (needs_of r.observations) ≡ true → new_rank u < new_rank x)
    → ((us : List Task) (p : Path) → ((u : Task) → among u us ≡ true → IsRecorded S u) → IsTold (WroteByRecords S us p) (retold us p))
    → ((x : Task) → (x ≡ t → ⊥) → (busy_after x → ⊥) → busy x → ⊥)
    → ((x : Task) (r : Record) → (x ≡ t → ⊥) → (busy_after x → ⊥) → R x ≡ Some r → IsUntouched w R S t new r)
    → IsConsistent w old now Met S retold held new_rank busy_after
finish_consistent w old now Met R S told retold held rank new_rank busy after t new c change right in_held plain met needs lower retelling
    others untouched = record {
      few = c.few;
      counted = λ x r e. by_one x (λ x. among x held ≡ true) in_held (λ z. c.counted x r (sym (change.others x z) ∙ e));
      closed = λ x r u e i. still u (by_one_record x r e (λ r. among u (needs_of r.observations) ≡ true → IsRecorded R u) (needs u)
          (λ k. c.closed x r u k) i);
      lower = lower;
      plain = λ x r e. by_one_record x r e (λ r. is_plain r.outcome ≡ true) plain (λ k. c.plain x r k);
      met = λ x r e. by_one x (λ x. AllMet w Met (trace_of (evaluation w now x))) met (λ z. c.met x r (sym (change.others x z) ∙ e));
      telling = retelling;
      current = λ x r e b. by_current x r e b (one_or_not x t);
    }
  where
    still : (u : Task) → IsRecorded R u → IsRecorded S u
    still = still_recorded R S t new change w now told retold c.telling retelling

    by_one : (x : Task) (Q : Task → Type 0) → Q t → ((x ≡ t → ⊥) → Q x) → Q x
    by_one x Q q f = go (one_or_not x t)
      where
        go : (x ≡ t) ⊎ (x ≡ t → ⊥) → Q x
        go (inl z) = subst Q (sym z) q
        go (inr z) = f z

    by_one_record : (x : Task) (r : Record) → S x ≡ Some r → (Q : Record → Type 0) → Q new → (R x ≡ Some r → Q r) → Q r
    by_one_record x r e Q q f = go (one_or_not x t)
      where
        go : (x ≡ t) ⊎ (x ≡ t → ⊥) → Q r
        go (inl z) = subst Q (some_same new r (sym change.now ∙ sym (ap S z) ∙ e)) q
        go (inr z) = f (sym (change.others x z) ∙ e)

    again : (x : Task) (r : Record) → R x ≡ Some r → IsUntouched w R S t new r → IsUpToDate w old now Met R told x r
        → IsUpToDate w old now Met S retold x r
    again x r e f (inl h) = inl h
    again x r e f (inr s) = inr (record {
      was = s.was;
      done = s.done;
      met = s.met;
      meaning = s.meaning;
      agrees = untouched_agrees R S t new change w now told retold c.telling retelling r (λ u i. c.closed x r u e i) f s.agrees;
    })

    by_current : (x : Task) (r : Record) → S x ≡ Some r → (after x → ⊥) → (x ≡ t) ⊎ (x ≡ t → ⊥) → IsUpToDate w old now Met S retold x r
    by_current x r e b (inl z) = inl (some_same r new (sym e ∙ ap S z ∙ change.now) ∙ right ∙ ap (λ y. record_of w (evaluation w now y)) (sym z))
    by_current x r e b (inr z) =
        let k : R x ≡ Some r = sym (change.others x z) ∙ e in
        again x r k (untouched x r z b k) (c.current x r k (others x z b))

-- a start, or any other task that becomes busy, keeps the records consistent
pub more_busy : (w : World) (old now : Project) (Met : List ℕ → Type 0) (R : Task → Option Record) (told : List Task → Path → Told)
    (held held_after : List Task)
    (rank : Task → ℕ) (busy busy_after : Task → Type 0) → IsConsistent w old now Met R told held rank busy
    → length held_after ≤ w.most_tasks → ((x : Task) → among x held ≡ true → among x held_after ≡ true) → ((x : Task) → busy x → busy_after x)
    → IsConsistent w old now Met R told held_after rank busy_after
more_busy w old now Met R told held held_after rank busy after c few more f = record {
  few = few;
  counted = λ t r e. more t (c.counted t r e);
  closed = c.closed;
  lower = c.lower;
  plain = c.plain;
  met = c.met;
  telling = c.telling;
  current = λ t r e b. c.current t r e (λ i. b (f t i));
}

-- a scheduled task whose record stands is taken
pub take_consistent : (w : World) (old now : Project) (Met : List ℕ → Type 0) (R : Task → Option Record) (told : List Task → Path → Told)
    (held : List Task)
    (rank : Task → ℕ) (busy busy_after : Task → Type 0) (t : Task) → IsConsistent w old now Met R told held rank busy
    → ((r : Record) → R t ≡ Some r → IsUpToDate w old now Met R told t r) → ((x : Task) → (x ≡ t → ⊥) → busy x → busy_after x)
    → IsConsistent w old now Met R told held rank busy_after
take_consistent w old now Met R told held rank busy after t c up f = record {
  few = c.few;
  counted = c.counted;
  closed = c.closed;
  lower = c.lower;
  plain = c.plain;
  met = c.met;
  telling = c.telling;
  current = λ x r e b. by x r e b (one_or_not x t);
}
  where
    by : (x : Task) (r : Record) → R x ≡ Some r → (after x → ⊥) → (x ≡ t) ⊎ (x ≡ t → ⊥) → IsUpToDate w old now Met R told x r
    by x r e b (inl z) = subst (λ y. IsUpToDate w old now Met R told y r) (sym z) (up r (ap R (sym z) ∙ e))
    by x r e b (inr z) = c.current x r e (λ i. b (f x z i))

-- and what was settled stays settled
pub take_settled : (R : Task → Option Record) (busy busy_after : Task → Type 0) → ((x : Task) → busy_after x → busy x) → (u : Task)
    → IsSettled R busy u → IsSettled R busy_after u
take_settled R busy after f u s = record { recorded = s.recorded; free = λ x q i. s.free x q (f x i) }
