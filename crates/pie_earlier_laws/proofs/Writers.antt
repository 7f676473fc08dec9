-- What is told by ranked records is so.
use Rattle.std.proofs.Common.{ℕ, zero, suc, max, ◌<◌, ◌≡◌, Bool, true, false, cond, Option, Some, None, List, [], ◌∷◌, ◌++◌, ◌⊎◌, inl, inr, sym, ◌∙◌, ap}
use Rattle.std.proofs.Common.{subst, refl, arith, bytes_eq}
use Rattle.std.specs.List.{flat_map}
use Rattle.pie_model.specs.Paths.{Path, among}
use Rattle.pie_model.specs.Tasks.{Task}
use Rattle.pie_model.specs.Seen.{first_write, writer, all_by}
use Rattle.pie_model.specs.Records.{Record, needs_of}
use Rattle.pie_model.specs.StampNow.{ToldHash, ToldClash}
use Rattle.pie_model.specs.inner.Present.{Reaches, WroteByRecords, IsTold}
use Rattle.pie_model.specs.inner.Present.Way.{here, along}
use Rattle.pie_model.specs.inner.Ranks.{required_in, above_all}
use Rattle.pie_model.proofs.Basics.{clash, among_here, among_there, among_split, among_left, among_right, among_either, same_bytes, bytes_same}
use Rattle.pie_model.proofs.LooksLemmas.{some_same}
use Rattle.pie_earlier_laws.specs.Telling.{reached_within, written_in, writers_among, told_of_writers, told_by, GoLower}

-- ---- writers as members of a list

abbrev Lists : Task → List ℕ → List (Task × List ℕ) → Type 0
Lists x h [] = ⊥
Lists x h (y ∷ ys) = ((x ≡ y.0) × (h ≡ y.1)) ⊎ Lists x h ys

lists_left : (x : Task) (h : List ℕ) (ys zs : List (Task × List ℕ)) → Lists x h ys → Lists x h (ys ++ zs)
lists_left x h [] zs i = absurd i
lists_left x h (y ∷ ys) zs (inl e) = inl e
lists_left x h (y ∷ ys) zs (inr i) = inr (lists_left x h ys zs i)

lists_right : (x : Task) (h : List ℕ) (ys zs : List (Task × List ℕ)) → Lists x h zs → Lists x h (ys ++ zs)
lists_right x h [] zs i = i
lists_right x h (y ∷ ys) zs i = inr (lists_right x h ys zs i)

lists_either : (x : Task) (h : List ℕ) (ys zs : List (Task × List ℕ)) → Lists x h (ys ++ zs) → Lists x h ys ⊎ Lists x h zs
lists_either x h [] zs i = inr i
lists_either x h (y ∷ ys) zs (inl e) = inl (inl e)
lists_either x h (y ∷ ys) zs (inr i) = later (lists_either x h ys zs i)
  where
    later : Lists x h ys ⊎ Lists x h zs → Lists x h (y ∷ ys) ⊎ Lists x h zs
    later (inl k) = inl (inr k)
    later (inr k) = inr k

writer_lists : (t : Task) (o : Option (List ℕ)) (h : List ℕ) → o ≡ Some h → Lists t h (writer t o)
writer_lists t None h e = cc
writer_lists t (Some c) h e = inl (refl, sym (some_same c h e))

lists_writer : (x t : Task) (o : Option (List ℕ)) (h : List ℕ) → Lists x h (writer t o) → (x ≡ t) × (o ≡ Some h)
lists_writer x t None h i = absurd i
lists_writer x t (Some c) h (inl e) = (e.0, ap Some (sym e.1))
lists_writer x t (Some c) h (inr i) = absurd i

all_by_is : (t : Task) (xs : List (Task × List ℕ)) → all_by t xs ≡ true → (y : Task) (h : List ℕ) → Lists y h xs → y ≡ t
all_by_is t [] k y h i = absurd i
all_by_is t (x ∷ xs) k y h i = go (bytes_eq t x.0) refl k i (λ q j. all_by_is t xs q y h j)
  where
    go : (e : Bool) → bytes_eq t x.0 ≡ e → cond e (all_by t xs) false ≡ true → ((y ≡ x.0) × (h ≡ x.1)) ⊎ Lists y h xs
        → (all_by t xs ≡ true → Lists y h xs → y ≡ t) → y ≡ t
    go true e q (inl j) f = j.0 ∙ sym (same_bytes t x.0 e)
    go true e q (inr j) f = f q j
    go false e q j f = clash false q refl

not_all_by : (t : Task) (xs : List (Task × List ℕ)) → all_by t xs ≡ false → (y : Task) × (h : List ℕ) × Lists y h xs × (t ≡ y → ⊥)
not_all_by t [] k = clash true refl k
not_all_by t (x ∷ xs) k = go (bytes_eq t x.0) refl k (not_all_by t xs)
  where
    go : (e : Bool) → bytes_eq t x.0 ≡ e → cond e (all_by t xs) false ≡ false
        → (all_by t xs ≡ false → (y : Task) × (h : List ℕ) × Lists y h xs × (t ≡ y → ⊥))
        → (y : Task) × (h : List ℕ) × Lists y h (x ∷ xs) × (t ≡ y → ⊥)
    go true e q f = let r : (y : Task) × (h : List ℕ) × Lists y h xs × (t ≡ y → ⊥) = f q in (r.0, r.1, inr r.2, r.3)
    go false e q f = (x.0, x.1, inl (refl, refl), λ j. clash true refl (sym (ap (λ z. bytes_eq t z) (sym j) ∙ bytes_same t) ∙ e))

-- ---- what is reached

above_each : (rank : Task → ℕ) (us : List Task) (u : Task) → among u us ≡ true → rank u < above_all rank us
above_each rank [] u i = clash false i refl
above_each rank (v ∷ us) u i = go (among_split u v us i) (above_each rank us u)
  where
    go : (u ≡ v) ⊎ (among u us ≡ true) → (among u us ≡ true → rank u < above_all rank us) → rank u < max (suc (rank v)) (above_all rank us)
    go (inl e) f = let q : rank u ≡ rank v = ap rank e in omega arith
    go (inr j) f = let q : rank u < above_all rank us = f j in omega arith

module _ (R : Task → Option Record) where
  -- one of these requires the task
  record Requires (us : List Task) (v : Task) : Type 0 where
    by : Task
    listed : among by us ≡ true
    found : Record
    recorded : R by ≡ Some found
    needs : among v (needs_of found.observations) ≡ true

  required_by_record : (u v : Task) (o : Option Record) → R u ≡ o → among v (required_in o) ≡ true → Requires (u ∷ []) v
  required_by_record u v None e i = clash false i refl
  required_by_record u v (Some r) e i = record { by = u; listed = among_here u []; found = r; recorded = e; needs = i }

  wider : (us vs : List Task) (v : Task) → ((u : Task) → among u us ≡ true → among u vs ≡ true) → Requires us v → Requires vs v
  wider us vs v f q = record { by = q.by; listed = f q.by q.listed; found = q.found; recorded = q.recorded; needs = q.needs }

  first_only : (u : Task) (us : List Task) (x : Task) → among x (u ∷ []) ≡ true → among x (u ∷ us) ≡ true
  first_only u us x i = among_left x (u ∷ []) us i

  requires_some : (us : List Task) (v : Task) → among v (flat_map (λ u. required_in (R u)) us) ≡ true → Requires us v
  requires_some [] v i = clash false i refl
  requires_some (u ∷ us) v i =
      go (among_either v (required_in (R u)) (flat_map (λ x. required_in (R x)) us) i) (requires_some us v)
    where
      go : (among v (required_in (R u)) ≡ true) ⊎ (among v (flat_map (λ x. required_in (R x)) us) ≡ true)
          → (among v (flat_map (λ x. required_in (R x)) us) ≡ true → Requires us v) → Requires (u ∷ us) v
      go (inl j) f = wider (u ∷ []) (u ∷ us) v (first_only u us) (required_by_record u v (R u) refl j)
      go (inr j) f = wider us (u ∷ us) v (λ x k. among_there x u us k) (f j)

  some_required : (us : List Task) (u v : Task) (r : Record) → among u us ≡ true → R u ≡ Some r → among v (needs_of r.observations) ≡ true
      → among v (flat_map (λ x. required_in (R x)) us) ≡ true
  some_required [] u v r i e j = clash false i refl
  some_required (x ∷ xs) u v r i e j = go (among_split u x xs i) (λ k. some_required xs u v r k e j)
    where
      go : (u ≡ x) ⊎ (among u xs ≡ true) → (among u xs ≡ true → among v (flat_map (λ y. required_in (R y)) xs) ≡ true)
          → among v (required_in (R x) ++ flat_map (λ y. required_in (R y)) xs) ≡ true
      go (inl q) f =
          among_left v (required_in (R x)) (flat_map (λ y. required_in (R y)) xs)
          (subst (λ o. among v (required_in o) ≡ true) (sym e ∙ ap R q) j)
      go (inr k) f = among_right v (required_in (R x)) (flat_map (λ y. required_in (R y)) xs) (f k)

  -- a task is reached from one of these
  record From (us : List Task) (x : Task) : Type 0 where
    start : Task
    listed : among start us ≡ true
    reaches : Reaches R start x

  sooner : (us : List Task) (x : Task) (q : From (flat_map (λ u. required_in (R u)) us) x) → Requires us q.start → From us x
  sooner us x q s = record { start = s.by; listed = s.listed; reaches = along s.recorded s.needs q.reaches }

  within_from : (n : ℕ) (us : List Task) (x : Task) → among x (reached_within R n us) ≡ true → From us x
  within_from zero us x i = record { start = x; listed = i; reaches = here }
  within_from (suc n) us x i =
      go (among_either x us (reached_within R n (flat_map (λ u. required_in (R u)) us)) i)
      (within_from n (flat_map (λ u. required_in (R u)) us) x)
    where
      go : (among x us ≡ true) ⊎ (among x (reached_within R n (flat_map (λ u. required_in (R u)) us)) ≡ true)
          → (among x (reached_within R n (flat_map (λ u. required_in (R u)) us)) ≡ true → From (flat_map (λ u. required_in (R u)) us) x) → From us x
      go (inl j) f = record { start = x; listed = j; reaches = here }
      go (inr j) f = let q = f j in sooner us x q (requires_some us q.start q.listed)

  among_within : (n : ℕ) (us : List Task) (x : Task) → among x us ≡ true → among x (reached_within R n us) ≡ true
  among_within zero us x i = i
  among_within (suc n) us x i = among_left x us (reached_within R n (flat_map (λ u. required_in (R u)) us)) i

  module _ (rank : Task → ℕ) (lower : GoLower R rank) where
    from_within : {x u : Task} → Reaches R u x → (n : ℕ) (us : List Task) → among u us ≡ true → rank u < n → among x (reached_within R n us) ≡ true
    from_within {x} here n us i k = among_within n us x i
    from_within {x} {u} (along {b = v} {r = r} e j q) zero us i k = absurd (omega arith)
    from_within {x} {u} (along {b = v} {r = r} e j q) (suc n) us i k =
        among_right x us (reached_within R n (flat_map (λ y. required_in (R y)) us))
        (from_within q n (flat_map (λ y. required_in (R y)) us) (some_required us u v r i e j)
        (down (rank v) (rank u) n (lower u r v e j) k))
      where
        down : (a b n : ℕ) → a < b → b < suc n → a < n
        down a b n p q = omega arith

  -- ---- the writers

  module _ (p : Path) where
    written_of : (o : Option Record) (r : Record) (h : List ℕ) → o ≡ Some r → first_write p r.writes ≡ Some h → written_in p o ≡ Some h
    written_of None r h e i = cc
    written_of (Some s) r h e i = ap (λ z. first_write p z.writes) (some_same s r e) ∙ i

    lists_among : (ts : List Task) (x : Task) (h : List ℕ) → among x ts ≡ true → written_in p (R x) ≡ Some h → Lists x h (writers_among R p ts)
    lists_among [] x h i e = clash false i refl
    lists_among (t ∷ ts) x h i e = go (among_split x t ts i) (λ j. lists_among ts x h j e)
      where
        go : (x ≡ t) ⊎ (among x ts ≡ true) → (among x ts ≡ true → Lists x h (writers_among R p ts))
            → Lists x h (writer t (written_in p (R t)) ++ writers_among R p ts)
        go (inl q) f =
            lists_left x h (writer t (written_in p (R t))) (writers_among R p ts)
            (subst (λ z. Lists x h (writer z (written_in p (R z)))) q (writer_lists x (written_in p (R x)) h e))
        go (inr j) f = lists_right x h (writer t (written_in p (R t))) (writers_among R p ts) (f j)

    among_lists : (ts : List Task) (x : Task) (h : List ℕ) → Lists x h (writers_among R p ts)
        → (among x ts ≡ true) × (written_in p (R x) ≡ Some h)
    among_lists [] x h i = absurd i
    among_lists (t ∷ ts) x h i = go (lists_either x h (writer t (written_in p (R t))) (writers_among R p ts) i) (among_lists ts x h)
      where
        later : (among x ts ≡ true) × (written_in p (R x) ≡ Some h) → (among x (t ∷ ts) ≡ true) × (written_in p (R x) ≡ Some h)
        later q = (among_there x t ts q.0, q.1)

        go : Lists x h (writer t (written_in p (R t))) ⊎ Lists x h (writers_among R p ts)
            → (Lists x h (writers_among R p ts) → (among x ts ≡ true) × (written_in p (R x) ≡ Some h))
            → (among x (t ∷ ts) ≡ true) × (written_in p (R x) ≡ Some h)
        go (inl j) f =
            let q = lists_writer x t (written_in p (R t)) h j in (
              subst (λ z. among z (t ∷ ts) ≡ true) (sym q.0) (among_here t ts),
              ap (λ z. written_in p (R z)) q.0 ∙ q.1,
            )
        go (inr j) f = later (f j)

    record Recorded (x : Task) (h : List ℕ) : Type 0 where
      found : Record
      is : R x ≡ Some found
      wrote : first_write p found.writes ≡ Some h

    recorded_write : (x : Task) (h : List ℕ) (o : Option Record) → R x ≡ o → written_in p o ≡ Some h → Recorded x h
    recorded_write x h None e i = cc
    recorded_write x h (Some r) e i = record { found = r; is = e; wrote = i }

    module _ (rank : Task → ℕ) (lower : GoLower R rank) (us : List Task) where
      abbrev Wrote : Task → List ℕ → Type 0
      Wrote = WroteByRecords R us p

      abbrev all : List (Task × List ℕ)
      all = writers_among R p (reached_within R (above_all rank us) us)

      wrote : (x : Task) (h : List ℕ) → Lists x h (writers_among R p (reached_within R (above_all rank us) us)) → WroteByRecords R us p x h
      wrote x h i =
          let q = among_lists (reached_within R (above_all rank us) us) x h i in
          let f = within_from (above_all rank us) us x q.0 in
          let s = recorded_write x h (R x) refl q.1 in
          record { from = f.start; listed = f.listed; reaches = f.reaches; found = s.found; recorded = s.is; wrote = s.wrote }

      listed : (x : Task) (h : List ℕ) → WroteByRecords R us p x h → Lists x h (writers_among R p (reached_within R (above_all rank us) us))
      listed x h s =
          lists_among (reached_within R (above_all rank us) us) x h
          (from_within rank lower s.reaches (above_all rank us) us s.listed (above_each rank us s.from s.listed))
          (written_of (R x) s.found h s.recorded s.wrote)

      one_hash : (x : Task) (h k : List ℕ) → WroteByRecords R us p x h → WroteByRecords R us p x k → h ≡ k
      one_hash x h k s r =
          some_same h k (sym (written_of (R x) s.found h s.recorded s.wrote) ∙ written_of (R x) r.found k r.recorded r.wrote)

      told : (xs : List (Task × List ℕ)) → ((x : Task) (h : List ℕ) → Lists x h xs → WroteByRecords R us p x h)
          → ((x : Task) (h : List ℕ) → WroteByRecords R us p x h → Lists x h xs) → IsTold (WroteByRecords R us p) (told_of_writers xs)
      told [] f g = g
      told (x ∷ xs) f g = by (all_by x.0 xs) refl
        where
          owner : all_by x.0 xs ≡ true → (y : Task) (h : List ℕ) → ((y ≡ x.0) × (h ≡ x.1)) ⊎ Lists y h xs → y ≡ x.0
          owner q y h (inl i) = i.0
          owner q y h (inr i) = all_by_is x.0 xs q y h i

          by : (b : Bool) → all_by x.0 xs ≡ b → IsTold (WroteByRecords R us p) (cond b (ToldHash x.1) ToldClash)
          by true q = record {
            writer = x.0;
            wrote = f x.0 x.1 (inl (refl, refl));
            only = λ y k s.
                let same : y ≡ x.0 = owner q y k (g y k s) in (
                  same,
                  one_hash x.0 k x.1 (subst (λ z. WroteByRecords R us p z k) same s) (f x.0 x.1 (inl (refl, refl))),
                );
          }
          by false q =
              let r : (y : Task) × (h : List ℕ) × Lists y h xs × (x.0 ≡ y → ⊥) = not_all_by x.0 xs q in
              record {
                first = x.0;
                second = r.0;
                first_hash = x.1;
                second_hash = r.1;
                first_wrote = f x.0 x.1 (inl (refl, refl));
                second_wrote = f r.0 r.1 (inr r.2);
                distinct = r.3;
              }

      pub told_right : IsTold (WroteByRecords R us p) (told_by R rank us p)
      told_right = told (writers_among R p (reached_within R (above_all rank us) us)) wrote listed
