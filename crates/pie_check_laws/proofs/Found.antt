-- The least of findings, what the checks find, and the verdict by the first that holds.
use Rattle.std.proofs.Common.{◌≡◌, ◌≢◌, ℕ, Bool, true, false, cond, not, ◌⊎◌, inl, inr, Option, Some, None, List, [], ◌∷◌, bytes_eq, refl, sym, ap, subst, ◌∙◌}
use Rattle.std.specs.List.{Contains, flat_map}
use Rattle.std.specs.Cmp.Lexicographic.{slice_cmp}
use Rattle.std.specs.Ordering.{nat_cmp, is_lt}
use Rattle.pie_model.specs.Paths.{Path}
use Rattle.pie_model.specs.Tasks.{Task}
use Rattle.pie_model.specs.declared.words.Check.{Check}
use Rattle.pie_model.specs.declared.words.Check.TheVariants.{Overlapping, Nesting, Hiding}
use Rattle.pie_model.specs.declared.words.Finding.{Finding}
use Rattle.pie_model.specs.declared.words.Verdict.{Verdict}
use Rattle.pie_model.specs.declared.words.Verdict.TheVariants.{Accepted, Many, Fault, Cycle, Overlap, Nested, Hidden}
use Rattle.pie_model.specs.Verdict.{comes_before, lesser, least, is_found, finding_of, found_by, findings, by_findings, checked}
use Rattle.pie_model.proofs.Basics.{same_bytes, bytes_same, clash}
use Rattle.pie_check_laws.specs.Findings.{IsLeast, BothWrote, StandBelow, SawAbsent, Places, NoPlace, IsFirstPlace, IsJudged, listed}
use Rattle.pie_check_laws.proofs.Members.{none_in, here, there, only_one, here_or_there, into_flat, from_flat}
use Rattle.pie_check_laws.proofs.Order.{not_before_itself, before_one_way, not_before_through, same_finding}

-- ---- the least finding

-- the lesser of a finding and the least of some is the least of all
lesser_least : (x m : Finding) (rest : List Finding) → IsLeast rest m → (b : Bool) → comes_before m x ≡ b → IsLeast (x ∷ rest) (cond b m x)
lesser_least x m rest h true e = record {
  among = there x m rest h.among;
  first = λ b k. by b (here_or_there x b rest k);
}
  where
    by : (b : Finding) → (x ≡ b) ⊎ Contains rest b → comes_before b m ≡ false
    by b (inl s) = subst (λ z. comes_before z m ≡ false) s (before_one_way m x e)
    by b (inr k) = h.first b k
lesser_least x m rest h false e = record {
  among = here x rest;
  first = λ b k. by b (here_or_there x b rest k);
}
  where
    by : (b : Finding) → (x ≡ b) ⊎ Contains rest b → comes_before b x ≡ false
    by b (inl s) = subst (λ z. comes_before z x ≡ false) s (not_before_itself x)
    by b (inr k) = not_before_through x m b e (h.first b k)

-- what is told is the least, if there is any
abbrev IsTold : List Finding → Option Finding → Type 0
IsTold found None = found ≡ []
IsTold found (Some a) = IsLeast found a

alone_least : (x : Finding) (rest : List Finding) → rest ≡ [] → IsLeast (x ∷ rest) x
alone_least x rest e = subst (λ r. IsLeast (x ∷ r) x) (sym e) (record { among = here x []; first = λ b k. by b (only_one x b k) })
  where
    by : (b : Finding) → x ≡ b → comes_before b x ≡ false
    by b s = subst (λ z. comes_before z x ≡ false) s (not_before_itself x)

told_more : (x : Finding) (rest : List Finding) (o : Option Finding) → IsTold rest o → IsLeast (x ∷ rest) (lesser x o)
told_more x rest None h = alone_least x rest h
told_more x rest (Some m) h = lesser_least x m rest h (comes_before m x) refl

least_told : (found : List Finding) → IsTold found (least found)
least_told [] = refl
least_told (x ∷ rest) = told_more x rest (least rest) (least_told rest)

one_least : (found : List Finding) (a b : Finding) → IsLeast found a → IsLeast found b → a ≡ b
one_least found a b h k = same_finding a b (k.first a h.among) (h.first b k.among)

pub least_to : (found : List Finding) (a : Finding) → least found ≡ Some a → IsLeast found a
least_to found a e = subst (IsTold found) e (least_told found)

pub least_back : (found : List Finding) (a : Finding) → IsLeast found a → least found ≡ Some a
least_back found a h = by (least found) (least_told found)
  where
    by : (o : Option Finding) → IsTold found o → o ≡ Some a
    by None e = absurd (none_in a (subst (λ z. Contains z a) e h.among))
    by (Some b) k = ap Some (one_least found b a k h)

pub nothing_to : (found : List Finding) → least found ≡ None → (a : Finding) → Contains found a → ⊥
nothing_to found e a h = none_in a (subst (λ z. Contains z a) (subst (IsTold found) e (least_told found)) h)

pub nothing_back : (found : List Finding) → ((a : Finding) → Contains found a → ⊥) → least found ≡ None
nothing_back found h = by (least found) (least_told found)
  where
    by : (o : Option Finding) → IsTold found o → o ≡ None
    by None e = refl
    by (Some b) k = absurd (h b k.among)

-- ---- what a check finds

-- the check finds this in a pair of these
record IsIn (check : Check) (xs ys : List (Path × Task)) (a : Finding) : Type 0 where
  one : Path × Task
  two : Path × Task
  in_one : Contains xs one
  in_two : Contains ys two
  is_one : is_found check one two ≡ true
  same : finding_of check one two ≡ a

found_here : (check : Check) (x y : Path × Task) (b : Bool) (a : Finding) → is_found check x y ≡ b → Contains (cond b (finding_of check x y ∷ []) []) a
    → (is_found check x y ≡ true) × (finding_of check x y ≡ a)
found_here check x y true a e h = (e, only_one (finding_of check x y) a h)
found_here check x y false a e h = absurd (none_in a h)

is_in : (check : Check) (xs ys : List (Path × Task)) (a : Finding) → Contains (findings check xs ys) a → IsIn check xs ys a
is_in check xs ys a h =
    let m = from_flat (λ x. flat_map (found_by check x) ys) xs a h in
    let n = from_flat (found_by check m.0) ys a m.2 in
    let f = found_here check m.0 n.0 (is_found check m.0 n.0) a refl n.2 in
    record { one = m.0; two = n.0; in_one = m.1; in_two = n.1; is_one = f.0; same = f.1 }

found_in : (check : Check) (xs ys : List (Path × Task)) (x y : Path × Task) → Contains xs x → Contains ys y → is_found check x y ≡ true
    → Contains (findings check xs ys) (finding_of check x y)
found_in check xs ys x y h k e =
    into_flat (λ z. flat_map (found_by check z) ys) xs x (finding_of check x y) h (into_flat (found_by check x) ys y (finding_of check x y) k
    (subst (λ b. Contains (cond b (finding_of check x y ∷ []) []) (finding_of check x y)) (sym e) (here (finding_of check x y) [])))

-- a relation says what some findings are
record Says (found : List Finding) (R : Places) : Type 0 where
  to : (a : Finding) → Contains found a → R a.path a.first a.second
  back : (a : Finding) → R a.path a.first a.second → Contains found a

none_said : (found : List Finding) (R : Places) → Says found R → NoPlace R → least found ≡ None
none_said found R s h = nothing_back found (λ a k. h a.path a.first a.second (s.to a k))

first_said : (found : List Finding) (R : Places) → Says found R → (p : Path) (t u : List ℕ) → IsFirstPlace R p t u
    → least found ≡ Some (record { path = p; first = t; second = u })
first_said found R s p t u h =
    least_back found (record { path = p; first = t; second = u }) (record {
      among = s.back (record { path = p; first = t; second = u }) h.holds;
      first = λ b k. h.first b (s.to b k);
    })

-- ---- the three checks

both : (x y : Bool) → cond x y false ≡ true → (x ≡ true) × (y ≡ true)
both true y h = (refl, h)
both false y h = cc

both_from : (x y : Bool) → x ≡ true → y ≡ true → cond x y false ≡ true
both_from x y h k = ap (λ b. cond b y false) h ∙ k

differ_to : (t u : Task) → not (bytes_eq t u) ≡ true → t ≢ u
differ_to t u h e = clash (bytes_eq t u) (subst (λ z. bytes_eq t z ≡ true) e (bytes_same t)) (by (bytes_eq t u) h)
  where
    by : (b : Bool) → not b ≡ true → b ≡ false
    by true k = sym k
    by false k = refl

differ_back : (t u : Task) → t ≢ u → not (bytes_eq t u) ≡ true
differ_back t u h = by (bytes_eq t u) refl
  where
    by : (b : Bool) → bytes_eq t u ≡ b → not b ≡ true
    by true e = absurd (h (same_bytes t u e))
    by false e = refl

module _ (written : List (Path × Task)) where
  overlapping : Says (findings Overlapping written written) (BothWrote (listed written))
  overlapping = record {
    to = λ a k. by a (is_in Overlapping written written a k);
    back = λ a r. found_in Overlapping written written (a.path, a.first) (a.path, a.second) r.0 r.1 (both_from _ _ (bytes_same a.path) r.2);
  }
    where
      by : (a : Finding) → IsIn Overlapping written written a → BothWrote (listed written) a.path a.first a.second
      by a m =
          let f : (bytes_eq m.one.0 m.two.0 ≡ true) × (is_lt (slice_cmp nat_cmp m.one.1 m.two.1) ≡ true) = both _ _ m.is_one in
          let e : m.one.0 ≡ m.two.0 = same_bytes m.one.0 m.two.0 f.0 in
          subst (λ (z : Finding). BothWrote (listed written) z.path z.first z.second) m.same
          (m.in_one, subst (λ z. Contains written (z, m.two.1)) (sym e) m.in_two, f.1)

  nesting : Says (findings Nesting written written) (StandBelow (listed written))
  nesting = record {
    to = λ a k. by a (is_in Nesting written written a k);
    back = λ a r. subst (λ z. Contains (findings Nesting written written) (record { path = a.path; first = a.first; second = z })) (sym r.3)
        (found_in Nesting written written (a.path, r.0.0) (a.first, r.1.0) r.0.1 r.1.1 r.2);
  }
    where
      by : (a : Finding) → IsIn Nesting written written a → StandBelow (listed written) a.path a.first a.second
      by a m = subst (λ (z : Finding). StandBelow (listed written) z.path z.first z.second) m.same
          ((m.one.1, m.in_one), (m.two.1, m.in_two), m.is_one, refl)

  module _ (missed : List (Path × Task)) where
    hiding : Says (findings Hiding missed written) (SawAbsent (listed written) (listed missed))
    hiding = record {
      to = λ a k. by a (is_in Hiding missed written a k);
      back = λ a r. found_in Hiding missed written (a.path, a.first) (a.path, a.second) r.0 r.1
          (both_from _ _ (bytes_same a.path) (differ_back a.first a.second r.2));
    }
      where
        by : (a : Finding) → IsIn Hiding missed written a → SawAbsent (listed written) (listed missed) a.path a.first a.second
        by a m =
            let f : (bytes_eq m.one.0 m.two.0 ≡ true) × (not (bytes_eq m.one.1 m.two.1) ≡ true) = both _ _ m.is_one in
            let e : m.one.0 ≡ m.two.0 = same_bytes m.one.0 m.two.0 f.0 in
            subst (λ (z : Finding). SawAbsent (listed written) (listed missed) z.path z.first z.second) m.same
            (m.in_one, subst (λ z. Contains written (z, m.two.1)) (sym e) m.in_two, differ_to m.one.1 m.two.1 f.1)

    by_three : (a b c x y z : Option Finding) → a ≡ x → b ≡ y → c ≡ z → by_findings a b c ≡ by_findings x y z
    by_three a b c x y z p q r = λ i. by_findings (p i) (q i) (r i)

    pub judged : (v : Verdict) → IsJudged (listed written) (listed missed) v → checked written missed ≡ v
    judged Accepted h = by_three _ _ _ None None None
        (none_said _ _ overlapping h.0) (none_said _ _ nesting h.1) (none_said _ _ hiding h.2)
    judged (Overlap p t u) h = by_three _ _ _ (Some (record { path = p; first = t; second = u })) _ _ (first_said _ _ overlapping p t u h) refl refl
    judged (Nested p q) h = by_three _ _ _ None (Some (record { path = p; first = q; second = [] })) _
        (none_said _ _ overlapping h.0) (first_said _ _ nesting p q [] h.1) refl
    judged (Hidden p t u) h = by_three _ _ _ None None (Some (record { path = p; first = t; second = u }))
        (none_said _ _ overlapping h.0) (none_said _ _ nesting h.1) (first_said _ _ hiding p t u h.2)
    judged Many h = absurd h
    judged (Fault t k) h = absurd h
    judged (Cycle ts) h = absurd h
