-- In an accepted build the files are what the entered tasks wrote.
use Rattle.std.proofs.Common.{ℕ, ◌≡◌, Bool, true, false, cond, Option, Some, None, List, [], ◌∷◌, ◌++◌, map, ◌⊎◌, inl, inr, sym, ◌∙◌, ap, subst, refl, bytes_eq}
use Rattle.std.specs.List.{flat_map}
use Rattle.std.specs.Ordering.{nat_cmp, is_lt}
use Rattle.std.specs.Cmp.Lexicographic.{slice_cmp}
use Rattle.pie_model.specs.Paths.{Path, among}
use Rattle.pie_model.specs.Tasks.{Task}
use Rattle.pie_model.specs.Trees.{task_of, trace_of, writes_of}
use Rattle.pie_model.specs.Seen.{first_write}
use Rattle.pie_model.specs.Evaluation.{World, Project, evaluation}
use Rattle.pie_model.specs.Records.{Record}
use Rattle.pie_model.specs.Forest.{live_evaluations}
use Rattle.pie_model.specs.Verdict.{least, written_by, missed_by, is_found, finding_of, found_by, findings, by_findings, checked, final_checks, verdict}
use Rattle.pie_model.specs.declared.words.Verdict.TheVariants.{Accepted}
use Rattle.pie_model.specs.Built.{provided_at}
use Rattle.pie_model.specs.declared.words.Check.TheVariants.{Overlapping}
use Rattle.pie_model.specs.declared.words.Finding.{Finding}
use Rattle.pie_model.proofs.Basics.{clash, among_here, among_there, among_split, same_bytes, bytes_same}
use Rattle.pie_model.proofs.LooksLemmas.{some_same}
use Rattle.pie_model.proofs.Ways.{task_of-evaluation}
use Rattle.pie_step_laws.specs.Roots.{Between}
use Rattle.pie_step_laws.specs.Contents.{KeepsContents}
use Rattle.pie_step_laws.specs.Files.{KeptAt}
use Rattle.pie_step_laws.proofs.RootLemmas.{all_entered, all_done}
use Rattle.pie_step_laws.proofs.CheckLemmas.{kept_provided}
use Rattle.pie_step_laws.proofs.RowLemmas.{not_before}

-- ---- members of lists

abbrev In : {A : Type 0} → A → List A → Type 0
In x [] = ⊥
In x (y ∷ ys) = (x ≡ y) ⊎ In x ys

in_left : {A : Type 0} (x : A) (xs ys : List A) → In x xs → In x (xs ++ ys)
in_left x [] ys h = absurd h
in_left x (y ∷ xs) ys (inl e) = inl e
in_left x (y ∷ xs) ys (inr h) = inr (in_left x xs ys h)

in_right : {A : Type 0} (x : A) (xs ys : List A) → In x ys → In x (xs ++ ys)
in_right x [] ys h = h
in_right x (y ∷ xs) ys h = inr (in_right x xs ys h)

in_map : {A : Type 0} {B : Type 0} (f : A → B) (x : A) (xs : List A) → In x xs → In (f x) (map f xs)
in_map f x [] h = absurd h
in_map f x (y ∷ ys) (inl e) = inl (ap f e)
in_map f x (y ∷ ys) (inr h) = inr (in_map f x ys h)

-- where a list of lists is empty, so is each of them
nothing_left : {A : Type 0} (xs ys : List A) → xs ++ ys ≡ [] → xs ≡ []
nothing_left [] ys e = refl
nothing_left (x ∷ xs) ys e = cc

nothing_right : {A : Type 0} (xs ys : List A) → xs ++ ys ≡ [] → ys ≡ []
nothing_right [] ys e = e
nothing_right (x ∷ xs) ys e = cc

each_nothing : {A : Type 0} {B : Type 0} (f : A → List B) (x : A) (xs : List A) → In x xs → flat_map f xs ≡ [] → f x ≡ []
each_nothing f x [] h e = absurd h
each_nothing f x (y ∷ ys) (inl q) e = ap f q ∙ nothing_left (f y) (flat_map f ys) e
each_nothing f x (y ∷ ys) (inr h) e = each_nothing f x ys h (nothing_right (f y) (flat_map f ys) e)

-- ---- no two tasks wrote a path

none_least : (xs : List Finding) → least xs ≡ None → xs ≡ []
none_least [] e = refl
none_least (x ∷ xs) e = cc

accepted_finds : (a b c : Option Finding) → by_findings a b c ≡ Accepted → a ≡ None
accepted_finds None b c e = refl
accepted_finds (Some a) b c e = cc

not_found : (x y : Path × Task) → found_by Overlapping x y ≡ [] → is_found Overlapping x y ≡ false
not_found x y e = go (is_found Overlapping x y) refl e
  where
    go : (b : Bool) → is_found Overlapping x y ≡ b → cond b (finding_of Overlapping x y ∷ []) [] ≡ [] → is_found Overlapping x y ≡ false
    go true q k = cc
    go false q k = q

module _ (written missed : List (Path × Task)) (accepted : checked written missed ≡ Accepted) where
  no_overlap : findings Overlapping written written ≡ []
  no_overlap = none_least (findings Overlapping written written) (accepted_finds (least (findings Overlapping written written)) _ _ accepted)

  pair_clear : (x y : Path × Task) → In x written → In y written → is_found Overlapping x y ≡ false
  pair_clear x y i j =
      not_found x y (each_nothing (found_by Overlapping x) y written j
      (each_nothing (λ (z : Path × Task). flat_map (found_by Overlapping z) written) x written i no_overlap))

  -- so of two tasks that wrote one path none comes before the other
  unordered : (p : Path) (s t : Task) → In (p, s) written → In (p, t) written → is_lt (slice_cmp nat_cmp s t) ≡ false
  unordered p s t i j =
      sym (ap (λ b. cond b (is_lt (slice_cmp nat_cmp s t)) false) (bytes_same p)) ∙ pair_clear (p, s) (p, t) i j

  one_writer : (p : Path) (s t : Task) → In (p, s) written → In (p, t) written → s ≡ t
  one_writer p s t i j = not_before s t (unordered p s t i j) (unordered p t s j i)

-- ---- what a task wrote is among the written paths

in_writes : (p : Path) (t : Task) (ws : List (Path × List ℕ)) (b : List ℕ) → first_write p ws ≡ Some b
    → In (p, t) (map {A = Path × List ℕ} {B = Path × Task} (λ x. (x.0, t)) ws)
in_writes p t [] b e = cc
in_writes p t (x ∷ xs) b e = go (bytes_eq p x.0) refl e (in_writes p t xs b)
  where
    go : (c : Bool) → bytes_eq p x.0 ≡ c → cond c (Some x.1) (first_write p xs) ≡ Some b
        → (first_write p xs ≡ Some b → In (p, t) (map {A = Path × List ℕ} {B = Path × Task} (λ z. (z.0, t)) xs))
        → In (p, t) (map {A = Path × List ℕ} {B = Path × Task} (λ z. (z.0, t)) (x ∷ xs))
    go true q k f = inl (ap {B = Path × Task} (λ z. (z, t)) (same_bytes p x.0 q))
    go false q k f = inr (f k)

first_write-append : (p : Path) (xs ys : List (Path × List ℕ)) (b : List ℕ) → first_write p xs ≡ Some b → first_write p (xs ++ ys) ≡ Some b
first_write-append p [] ys b e = cc
first_write-append p (x ∷ xs) ys b e = go (bytes_eq p x.0) e (first_write-append p xs ys b)
  where
    go : (c : Bool) → cond c (Some x.1) (first_write p xs) ≡ Some b → (first_write p xs ≡ Some b → first_write p (xs ++ ys) ≡ Some b)
        → cond c (Some x.1) (first_write p (xs ++ ys)) ≡ Some b
    go true k f = k
    go false k f = f k

first_write-later : (p : Path) (xs ys : List (Path × List ℕ)) → first_write p xs ≡ None → first_write p (xs ++ ys) ≡ first_write p ys
first_write-later p [] ys e = refl
first_write-later p (x ∷ xs) ys e = go (bytes_eq p x.0) e (first_write-later p xs ys)
  where
    go : (c : Bool) → cond c (Some x.1) (first_write p xs) ≡ None → (first_write p xs ≡ None → first_write p (xs ++ ys) ≡ first_write p ys)
        → cond c (Some x.1) (first_write p (xs ++ ys)) ≡ first_write p ys
    go true k f = cc
    go false k f = f k

module _ (kept : Task → List (Path × List ℕ)) (p : Path) where
  -- the first of several tasks that wrote
  first_of : (names : List Task) (b : List ℕ) → first_write p (flat_map kept names) ≡ Some b → KeptAt kept names p b
  first_of [] b e = cc
  first_of (t ∷ ts) b e = go (first_write p (kept t)) refl (first_of ts b)
    where
      more : KeptAt kept ts p b → KeptAt kept (t ∷ ts) p b
      more k = record { writer = k.writer; entered = among_there k.writer t ts k.entered; wrote = k.wrote }

      go : (o : Option (List ℕ)) → first_write p (kept t) ≡ o → (first_write p (flat_map kept ts) ≡ Some b → KeptAt kept ts p b) → KeptAt kept (t ∷ ts) p b
      go None q r = more (r (sym (first_write-later p (kept t) (flat_map kept ts) q) ∙ e))
      go (Some c) q r = record {
        writer = t;
        entered = among_here t ts;
        wrote = q ∙ sym (first_write-append p (kept t) (flat_map kept ts) c q) ∙ e;
      }

  -- some task wrote, so one is the first
  some_first : (names : List Task) (t : Task) (b : List ℕ) → among t names ≡ true → first_write p (kept t) ≡ Some b
      → (c : List ℕ) × (first_write p (flat_map kept names) ≡ Some c)
  some_first [] t b i e = clash false i refl
  some_first (x ∷ xs) t b i e = go (first_write p (kept x)) refl (among_split t x xs i) (λ j. some_first xs t b j e)
    where
      later : first_write p (kept x) ≡ None → (c : List ℕ) × (first_write p (flat_map kept xs) ≡ Some c)
          → (c : List ℕ) × (first_write p (flat_map kept (x ∷ xs)) ≡ Some c)
      later q r = (r.0, first_write-later p (kept x) (flat_map kept xs) q ∙ r.1)

      none : {A : Type 0} → first_write p (kept x) ≡ None → t ≡ x → A
      none q k = absurd (never (sym q ∙ ap (λ z. first_write p (kept z)) (sym k) ∙ e))
        where
          never : None ≡ Some b → ⊥
          never z = cc

      go : (o : Option (List ℕ)) → first_write p (kept x) ≡ o → (t ≡ x) ⊎ (among t xs ≡ true)
          → (among t xs ≡ true → (c : List ℕ) × (first_write p (flat_map kept xs) ≡ Some c))
          → (c : List ℕ) × (first_write p (flat_map kept (x ∷ xs)) ≡ Some c)
      go (Some c) q k r = (c, first_write-append p (kept x) (flat_map kept xs) c q)
      go None q (inl k) r = none q k
      go None q (inr j) r = later q (r j)

module _ (w : World) (P : Project) (roots : List Task) (R : Task → Option Record) (names : List Task) (kept : Task → List (Path × List ℕ))
    (B : Between w P roots R names) (K : KeepsContents w P R kept) where
  in_written : (ts : List Task) → ((t : Task) → among t ts ≡ true → among t names ≡ true) → (t : Task) (p : Path) (b : List ℕ) → among t ts ≡ true
      → first_write p (kept t) ≡ Some b → In (p, t) (flat_map written_by (map (evaluation w P) ts))
  in_written [] f t p b i e = clash false i refl
  in_written (x ∷ xs) f t p b i e =
      go (among_split t x xs i) (λ j. in_written xs (λ y k. f y (among_there y x xs k)) t p b j e)
    where
      own : t ≡ x → In (p, t) (written_by (evaluation w P x))
      own k =
          subst (λ z. In (p, z) (written_by (evaluation w P x))) (task_of-evaluation w P x ∙ sym k)
          (in_writes p (task_of (evaluation w P x)) (writes_of (trace_of (evaluation w P x))) b
          (ap (first_write p) (sym (K x (B.rests.all x (f x (among_here x xs))))) ∙ ap (λ z. first_write p (kept z)) (sym k) ∙ e))

      go : (t ≡ x) ⊎ (among t xs ≡ true) → (among t xs ≡ true → In (p, t) (flat_map written_by (map (evaluation w P) xs)))
          → In (p, t) (written_by (evaluation w P x) ++ flat_map written_by (map (evaluation w P) xs))
      go (inl k) r = in_left (p, t) (written_by (evaluation w P x)) (flat_map written_by (map (evaluation w P) xs)) (own k)
      go (inr j) r = in_right (p, t) (written_by (evaluation w P x)) (flat_map written_by (map (evaluation w P) xs)) (r j)

  pub provided_written : (p : Path) (b : List ℕ) → provided_at (live_evaluations w P roots) p ≡ Some b → KeptAt kept names p b
  provided_written p b e = first_of kept p names b (sym (kept_provided w P roots R names B kept p K) ∙ e)

  module _ (accepted : verdict w P roots ≡ Accepted) where
    passed : checked (flat_map written_by (map (evaluation w P) names)) (flat_map missed_by (map (evaluation w P) names)) ≡ Accepted
    passed =
        ap (λ z. final_checks (map (evaluation w P) z)) (sym (all_entered w P roots R names B))
        ∙ sym (all_done w P roots R names B).is
        ∙ accepted

    pub path_writer : (s t : Task) (p : Path) (b c : List ℕ) → among s names ≡ true → among t names ≡ true → first_write p (kept s) ≡ Some b
        → first_write p (kept t) ≡ Some c → s ≡ t
    path_writer s t p b c i j e k =
        one_writer (flat_map written_by (map (evaluation w P) names)) (flat_map missed_by (map (evaluation w P) names)) passed p s t
        (in_written names (λ x h. h) s p b i e) (in_written names (λ x h. h) t p c j k)

    pub written_provided : (t : Task) (p : Path) (b : List ℕ) → among t names ≡ true → first_write p (kept t) ≡ Some b
        → provided_at (live_evaluations w P roots) p ≡ Some b
    written_provided t p b i e =
        kept_provided w P roots R names B kept p K ∙ first.1 ∙ ap Some (same (first_of kept p names first.0 first.1))
      where
        first : (c : List ℕ) × (first_write p (flat_map kept names) ≡ Some c)
        first = some_first kept p names t b i e

        same : KeptAt kept names p first.0 → first.0 ≡ b
        same k =
            some_same first.0 b
            (sym k.wrote ∙ ap (λ z. first_write p (kept z)) (path_writer k.writer t p first.0 b k.entered i k.wrote e) ∙ e)
