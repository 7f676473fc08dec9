-- What is told by records is what the trees show.
use Rattle.std.proofs.Common.{ℕ, ◌-◌, ◌≡◌, Bool, true, false, cond, Option, Some, None, option_map, List, [], ◌∷◌, ◌++◌, map, length, ◌⊎◌, inl, inr, sym, ◌∙◌}
use Rattle.std.proofs.Common.{ap, subst, refl, arith, bytes_eq}
use Rattle.pie_model.specs.Paths.{Path, among}
use Rattle.pie_model.specs.Tasks.{Task, How}
use Rattle.pie_model.specs.Trees.{Node, node, Trace, ends, looks, lists, writes, needs, Holds, Clashing, outcome_of, task_of, trace_of, writes_of, is_plain}
use Rattle.pie_model.specs.Trees.{StandsIn, StandsBelow}
use Rattle.pie_model.specs.Seen.{first_write, writer, writers, writers_below, writers_in, all_by, by_writers, provided}
use Rattle.pie_model.specs.Evaluation.{World, Project, evaluation}
use Rattle.pie_model.specs.Records.{Record, record_of, hashed}
use Rattle.pie_model.specs.StampNow.{Told, Untold, ToldHash, ToldClash, told_of}
use Rattle.pie_model.specs.inner.Present.{Way, Reaches, WroteByRecords, WroteInTrees, IsTold}
use Rattle.pie_model.proofs.Basics.{clash, among_here, among_there, among_split, same_bytes, bytes_same}
use Rattle.pie_model.proofs.Rooms.{node_alone, all_plain}
use Rattle.pie_model.proofs.LooksLemmas.{first_write-hashed, some_same}
use Rattle.pie_model.specs.inner.RecordLaws.{HasItsRecord}
use Rattle.pie_model.proofs.Ways.{record_right, reached_stands, Reached, stands_reached, task_of-evaluation}

-- ---- one meaning is told in one way

pub told_once : (V W : Task → List ℕ → Type 0) → ((x : Task) (h : List ℕ) → V x h → W x h) → ((x : Task) (h : List ℕ) → W x h → V x h)
    → (a b : Told) → IsTold V a → IsTold W b → a ≡ b
told_once V W f g Untold Untold i j = refl
told_once V W f g Untold (ToldHash h) i j = absurd (i j.writer h (g j.writer h j.wrote))
told_once V W f g Untold ToldClash i j = absurd (i j.first j.first_hash (g j.first j.first_hash j.first_wrote))
told_once V W f g (ToldHash h) Untold i j = absurd (j i.writer h (f i.writer h i.wrote))
told_once V W f g (ToldHash h) (ToldHash k) i j = ap ToldHash (j.only i.writer h (f i.writer h i.wrote)).1
told_once V W f g (ToldHash h) ToldClash i j =
    absurd (j.distinct ((i.only j.first j.first_hash (g j.first j.first_hash j.first_wrote)).0
    ∙ sym (i.only j.second j.second_hash (g j.second j.second_hash j.second_wrote)).0))
told_once V W f g ToldClash Untold i j = absurd (j i.first i.first_hash (f i.first i.first_hash i.first_wrote))
told_once V W f g ToldClash (ToldHash h) i j =
    absurd (i.distinct ((j.only i.first i.first_hash (f i.first i.first_hash i.first_wrote)).0
    ∙ sym (j.only i.second i.second_hash (f i.second i.second_hash i.second_wrote)).0))
told_once V W f g ToldClash ToldClash i j = refl

-- ---- the writers in trees, as members of the list of writers

abbrev Lists : Task → List ℕ → List (Task × List ℕ) → Type 0
Lists x b [] = ⊥
Lists x b (y ∷ ys) = ((x ≡ y.0) × (b ≡ y.1)) ⊎ Lists x b ys

lists_left : (x : Task) (b : List ℕ) (ys zs : List (Task × List ℕ)) → Lists x b ys → Lists x b (ys ++ zs)
lists_left x b [] zs h = absurd h
lists_left x b (y ∷ ys) zs (inl e) = inl e
lists_left x b (y ∷ ys) zs (inr h) = inr (lists_left x b ys zs h)

lists_right : (x : Task) (b : List ℕ) (ys zs : List (Task × List ℕ)) → Lists x b zs → Lists x b (ys ++ zs)
lists_right x b [] zs h = h
lists_right x b (y ∷ ys) zs h = inr (lists_right x b ys zs h)

lists_either : (x : Task) (b : List ℕ) (ys zs : List (Task × List ℕ)) → Lists x b (ys ++ zs) → Lists x b ys ⊎ Lists x b zs
lists_either x b [] zs h = inr h
lists_either x b (y ∷ ys) zs (inl e) = inl (inl e)
lists_either x b (y ∷ ys) zs (inr h) = later (lists_either x b ys zs h)
  where
    later : Lists x b ys ⊎ Lists x b zs → Lists x b (y ∷ ys) ⊎ Lists x b zs
    later (inl k) = inl (inr k)
    later (inr k) = inr k

writer_lists : (t : Task) (o : Option (List ℕ)) (b : List ℕ) → o ≡ Some b → Lists t b (writer t o)
writer_lists t None b e = cc
writer_lists t (Some c) b e = inl (refl, sym (some_same c b e))

lists_writer : (x t : Task) (o : Option (List ℕ)) (b : List ℕ) → Lists x b (writer t o) → (x ≡ t) × (o ≡ Some b)
lists_writer x t None b h = absurd h
lists_writer x t (Some c) b (inl e) = (e.0, ap Some (sym e.1))
lists_writer x t (Some c) b (inr h) = absurd h

-- an evaluation in the tree wrote
record Wrote (p : Path) (x : Task) (b : List ℕ) (n : Node) : Type 0 where
  found : Node
  stands : StandsIn found n
  is : task_of found ≡ x
  wrote : first_write p (writes_of (trace_of found)) ≡ Some b

record WroteBelow (p : Path) (x : Task) (b : List ℕ) (k : Trace) : Type 0 where
  found : Node
  stands : StandsBelow found k
  is : task_of found ≡ x
  wrote : first_write p (writes_of (trace_of found)) ≡ Some b

into : (p : Path) (x : Task) (b : List ℕ) (k0 k : Trace) → ((m : Node) → StandsBelow m k0 → StandsBelow m k) → WroteBelow p x b k0
    → WroteBelow p x b k
into p x b k0 k f s = record { found = s.found; stands = f s.found s.stands; is = s.is; wrote = s.wrote }

into_node : (p : Path) (x : Task) (b : List ℕ) (n : Node) (k : Trace) → ((m : Node) → StandsIn m n → StandsBelow m k) → Wrote p x b n
    → WroteBelow p x b k
into_node p x b n k f s = record { found = s.found; stands = f s.found s.stands; is = s.is; wrote = s.wrote }

at_top : (p : Path) (x : Task) (b : List ℕ) (t : Task) (k : Trace) → Lists x b (writer t (first_write p (writes_of k)))
    ⊎ Lists x b (writers_below p k)
    → (Lists x b (writers_below p k) → WroteBelow p x b k) → Wrote p x b (node t k)
at_top p x b t k (inl h) f =
    let q : (x ≡ t) × (first_write p (writes_of k) ≡ Some b) = lists_writer x t (first_write p (writes_of k)) b h in
    record { found = node t k; stands = inl refl; is = sym q.0; wrote = q.1 }
at_top p x b t k (inr h) f =
    let s : WroteBelow p x b k = f h in record { found = s.found; stands = inr s.stands; is = s.is; wrote = s.wrote }

at_need : (p : Path) (x : Task) (b : List ℕ) (r : How) (u : Task) (n : Node) (k : Trace) → Lists x b (writers p n) ⊎ Lists x b (writers_below p k)
    → (Lists x b (writers p n) → Wrote p x b n) → (Lists x b (writers_below p k) → WroteBelow p x b k) → WroteBelow p x b (needs r u n k)
at_need p x b r u n k (inl h) f g = into_node p x b n (needs r u n k) (λ m i. inl i) (f h)
at_need p x b r u n k (inr h) f g = into p x b k (needs r u n k) (λ m i. inr i) (g h)

mutual
  listed_wrote : (p : Path) (x : Task) (b : List ℕ) (n : Node) → Lists x b (writers p n) → Wrote p x b n
  listed_wrote p x b (node t k) h =
      at_top p x b t k (lists_either x b (writer t (first_write p (writes_of k))) (writers_below p k) h) (λ i. listed_below p x b k i)

  listed_below : (p : Path) (x : Task) (b : List ℕ) (k : Trace) → Lists x b (writers_below p k) → WroteBelow p x b k
  listed_below p x b (ends e) h = absurd h
  listed_below p x b (looks l q s k) h = into p x b k (looks l q s k) (λ m i. i) (listed_below p x b k h)
  listed_below p x b (lists d es k) h = into p x b k (lists d es k) (λ m i. i) (listed_below p x b k h)
  listed_below p x b (writes q c k) h = into p x b k (writes q c k) (λ m i. i) (listed_below p x b k h)
  listed_below p x b (needs r u n k) h =
      at_need p x b r u n k (lists_either x b (writers p n) (writers_below p k) h) (λ i. listed_wrote p x b n i) (λ i. listed_below p x b k i)

mutual
  wrote_listed : (p : Path) (b : List ℕ) (m n : Node) → StandsIn m n → first_write p (writes_of (trace_of m)) ≡ Some b
      → Lists (task_of m) b (writers p n)
  wrote_listed p b m (node t k) (inl e) h =
      lists_left (task_of m) b (writer t (first_write p (writes_of k))) (writers_below p k)
      (subst (λ z. Lists (task_of z) b (writer t (first_write p (writes_of k)))) (sym e)
      (writer_lists t (first_write p (writes_of k)) b (subst (λ z. first_write p (writes_of (trace_of z)) ≡ Some b) e h)))
  wrote_listed p b m (node t k) (inr s) h =
      lists_right (task_of m) b (writer t (first_write p (writes_of k))) (writers_below p k) (wrote_below p b m k s h)

  wrote_below : (p : Path) (b : List ℕ) (m : Node) (k : Trace) → StandsBelow m k → first_write p (writes_of (trace_of m)) ≡ Some b
      → Lists (task_of m) b (writers_below p k)
  wrote_below p b m (ends e) s h = absurd s
  wrote_below p b m (looks l q x k) s h = wrote_below p b m k s h
  wrote_below p b m (lists d es k) s h = wrote_below p b m k s h
  wrote_below p b m (writes q c k) s h = wrote_below p b m k s h
  wrote_below p b m (needs r u n k) (inl s) h = lists_left (task_of m) b (writers p n) (writers_below p k) (wrote_listed p b m n s h)
  wrote_below p b m (needs r u n k) (inr s) h = lists_right (task_of m) b (writers p n) (writers_below p k) (wrote_below p b m k s h)

-- ---- the trees of several tasks

record WroteAmong (w : World) (P : Project) (us : List Task) (p : Path) (x : Task) (b : List ℕ) : Type 0 where
  from : Task
  listed : among from us ≡ true
  found : Node
  stands : StandsIn found (evaluation w P from)
  is : task_of found ≡ x
  wrote : first_write p (writes_of (trace_of found)) ≡ Some b

module _ (w : World) (P : Project) (p : Path) where
  among_first : (x : Task) (b : List ℕ) (u : Task) (us : List Task) → Wrote p x b (evaluation w P u) → WroteAmong w P (u ∷ us) p x b
  among_first x b u us s = record { from = u; listed = among_here u us; found = s.found; stands = s.stands; is = s.is; wrote = s.wrote }

  among_later : (x : Task) (b : List ℕ) (u : Task) (us : List Task) → WroteAmong w P us p x b → WroteAmong w P (u ∷ us) p x b
  among_later x b u us s =
      record { from = s.from; listed = among_there s.from u us s.listed; found = s.found; stands = s.stands; is = s.is; wrote = s.wrote }

  listed_among : (x : Task) (b : List ℕ) (us : List Task) → Lists x b (writers_in p (map (evaluation w P) us)) → WroteAmong w P us p x b
  listed_among x b [] h = absurd h
  listed_among x b (u ∷ us) h =
      go (lists_either x b (writers p (evaluation w P u)) (writers_in p (map (evaluation w P) us)) h) (listed_among x b us)
    where
      go : Lists x b (writers p (evaluation w P u)) ⊎ Lists x b (writers_in p (map (evaluation w P) us))
          → (Lists x b (writers_in p (map (evaluation w P) us)) → WroteAmong w P us p x b) → WroteAmong w P (u ∷ us) p x b
      go (inl i) f = among_first x b u us (listed_wrote p x b (evaluation w P u) i)
      go (inr i) f = among_later x b u us (f i)

  among_listed : (b : List ℕ) (u : Task) (us : List Task) (m : Node) → among u us ≡ true → StandsIn m (evaluation w P u)
      → first_write p (writes_of (trace_of m)) ≡ Some b → Lists (task_of m) b (writers_in p (map (evaluation w P) us))
  among_listed b u [] m i s h = clash false i refl
  among_listed b u (v ∷ us) m i s h =
      go (among_split u v us i) (λ j. among_listed b u us m j s h)
    where
      go : (u ≡ v) ⊎ (among u us ≡ true) → (among u us ≡ true → Lists (task_of m) b (writers_in p (map (evaluation w P) us)))
          → Lists (task_of m) b (writers p (evaluation w P v) ++ writers_in p (map (evaluation w P) us))
      go (inl e) f =
          lists_left (task_of m) b (writers p (evaluation w P v)) (writers_in p (map (evaluation w P) us))
          (wrote_listed p b m (evaluation w P v) (subst (λ z. StandsIn m (evaluation w P z)) e s) h)
      go (inr j) f = lists_right (task_of m) b (writers p (evaluation w P v)) (writers_in p (map (evaluation w P) us)) (f j)

  -- by hashes
  hash_of_write : (ws : List (Path × List ℕ)) (b : List ℕ) → first_write p ws ≡ Some b → first_write p (hashed w ws) ≡ Some (w.hash b)
  hash_of_write ws b h = first_write-hashed w p ws ∙ ap (option_map w.hash) h

  write_of_hash : (ws : List (Path × List ℕ)) (h : List ℕ) → first_write p (hashed w ws) ≡ Some h
      → (b : List ℕ) × (first_write p ws ≡ Some b) × (w.hash b ≡ h)
  write_of_hash ws h e = go (first_write p ws) refl
    where
      go : (o : Option (List ℕ)) → first_write p ws ≡ o → (b : List ℕ) × (first_write p ws ≡ Some b) × (w.hash b ≡ h)
      go None q = absurd (never (sym (first_write-hashed w p ws ∙ ap (option_map w.hash) q) ∙ e))
        where
          never : None ≡ Some h → ⊥
          never x = cc
      go (Some b) q = (b, q, some_same _ _ (sym (first_write-hashed w p ws ∙ ap (option_map w.hash) q) ∙ e))

  in_trees : (us : List Task) (x : Task) (b : List ℕ) → WroteAmong w P us p x b → WroteInTrees w P us p x (w.hash b)
  in_trees us x b s =
      record {
        from = s.from;
        listed = s.listed;
        found = s.found;
        stands = s.stands;
        is = s.is;
        wrote = hash_of_write
            (writes_of (trace_of s.found)) b s.wrote;
      }

  tree_listed : (us : List Task) (x : Task) (h : List ℕ) → WroteInTrees w P us p x h
      → (b : List ℕ) × Lists x b (writers_in p (map (evaluation w P) us)) × (w.hash b ≡ h)
  tree_listed us x h s =
      let q : (b : List ℕ) × (first_write p (writes_of (trace_of s.found)) ≡ Some b)
      × (w.hash b ≡ h) = write_of_hash (writes_of (trace_of s.found)) h s.wrote in
      (q.0, subst (λ z. Lists z q.0 (writers_in p (map (evaluation w P) us))) s.is (among_listed q.0 s.from us s.found s.listed s.stands q.1), q.2)

  -- one task writes one content in plain trees
  one_content : (us : List Task) → ((u : Task) → among u us ≡ true → is_plain (outcome_of (evaluation w P u)) ≡ true) → (x : Task) (a b : List ℕ)
      → WroteAmong w P us p x a → WroteAmong w P us p x b → a ≡ b
  one_content us plain x a b s r =
      some_same _ _ (sym s.wrote ∙ ap (λ z. first_write p (writes_of (trace_of z)))
      (alone s ∙ ap (evaluation w P) (s.is ∙ sym r.is) ∙ sym (alone r)) ∙ r.wrote)
    where
      alone : {c : List ℕ} (q : WroteAmong w P us p x c) → q.found ≡ evaluation w P (task_of q.found)
      alone q = node_alone (w.most_tasks - length {A = Task} []) w P [] q.from q.found (omega arith) q.stands
          (all_plain (w.most_tasks - length {A = Task} []) w P [] q.from q.found (plain q.from q.listed) q.stands)

  all_by_is : (t : Task) (xs : List (Task × List ℕ)) → all_by t xs ≡ true → (y : Task) (b : List ℕ) → Lists y b xs → y ≡ t
  all_by_is t [] h y b i = absurd i
  all_by_is t (x ∷ xs) h y b i = go (bytes_eq t x.0) refl h i (λ k j. all_by_is t xs k y b j)
    where
      go : (e : Bool) → bytes_eq t x.0 ≡ e → cond e (all_by t xs) false ≡ true → ((y ≡ x.0) × (b ≡ x.1)) ⊎ Lists y b xs
          → (all_by t xs ≡ true → Lists y b xs → y ≡ t) → y ≡ t
      go true e k (inl q) f = q.0 ∙ sym (same_bytes t x.0 e)
      go true e k (inr j) f = f k j
      go false e k j f = clash false k refl

  not_all_by : (t : Task) (xs : List (Task × List ℕ)) → all_by t xs ≡ false → (y : Task) × (b : List ℕ) × Lists y b xs × (t ≡ y → ⊥)
  not_all_by t [] h = clash true refl h
  not_all_by t (x ∷ xs) h = go (bytes_eq t x.0) refl h (not_all_by t xs)
    where
      go : (e : Bool) → bytes_eq t x.0 ≡ e → cond e (all_by t xs) false ≡ false
          → (all_by t xs ≡ false → (y : Task) × (b : List ℕ) × Lists y b xs × (t ≡ y → ⊥))
          → (y : Task) × (b : List ℕ) × Lists y b (x ∷ xs) × (t ≡ y → ⊥)
      go true e k f = let r : (y : Task) × (b : List ℕ) × Lists y b xs × (t ≡ y → ⊥) = f k in (r.0, r.1, inr r.2, r.3)
      go false e k f = (x.0, x.1, inl (refl, refl), λ q. clash true refl (sym (ap (λ z. bytes_eq t z) (sym q) ∙ bytes_same t) ∙ e))

  -- what is seen in plain trees is told of their writers
  pub provided_told : (us : List Task) → ((u : Task) → among u us ≡ true → is_plain (outcome_of (evaluation w P u)) ≡ true)
      → IsTold (WroteInTrees w P us p) (told_of w (by_writers (writers_in p (map (evaluation w P) us))))
  provided_told us plain = go (writers_in p (map (evaluation w P) us)) refl
    where
      back : (xs : List (Task × List ℕ)) → writers_in p (map (evaluation w P) us) ≡ xs → (x : Task) (b : List ℕ) → Lists x b xs
          → WroteAmong w P us p x b
      back xs e x b i = listed_among x b us (subst (Lists x b) (sym e) i)

      forth : (xs : List (Task × List ℕ)) → writers_in p (map (evaluation w P) us) ≡ xs → (x : Task) (h : List ℕ) → WroteInTrees w P us p x h
          → (b : List ℕ) × Lists x b xs × (w.hash b ≡ h)
      forth xs e x h s =
          let q : (b : List ℕ) × Lists x b (writers_in p (map (evaluation w P) us))
          × (w.hash b ≡ h) = tree_listed us x h s in (q.0, subst (Lists x q.0) e q.1, q.2)

      by : (x : Task × List ℕ) (xs : List (Task × List ℕ)) → writers_in p (map (evaluation w P) us) ≡ x ∷ xs → (b : Bool) → all_by x.0 xs ≡ b
          → IsTold (WroteInTrees w P us p) (told_of w (cond b (Holds x.1 0) Clashing))
      by x xs e true q = record {
        writer = x.0;
        wrote = in_trees us x.0 x.1 (back (x ∷ xs) e x.0 x.1 (inl (refl, refl)));
        only = λ y k s.
            let r : (b : List ℕ) × Lists y b (x ∷ xs) × (w.hash b ≡ k) = forth (x ∷ xs) e y k s in
            let same : y ≡ x.0 = owner y r.0 r.1 in (
              same,
              sym r.2 ∙ ap w.hash (one_content us plain x.0 r.0 x.1
                  (subst (λ z. WroteAmong w P us p z r.0) same (back (x ∷ xs) e y r.0 r.1)) (back (x ∷ xs) e x.0 x.1 (inl (refl, refl)))),
            );
      }
        where
          owner : (y : Task) (b : List ℕ) → ((y ≡ x.0) × (b ≡ x.1)) ⊎ Lists y b xs → y ≡ x.0
          owner y b (inl i) = i.0
          owner y b (inr i) = all_by_is x.0 xs q y b i
      by x xs e false q =
          let r : (y : Task) × (b : List ℕ) × Lists y b xs × (x.0 ≡ y → ⊥) = not_all_by x.0 xs q in
          record {
            first = x.0;
            second = r.0;
            first_hash = w.hash x.1;
            second_hash = w.hash r.1;
            first_wrote = in_trees us x.0 x.1 (back (x ∷ xs) e x.0 x.1 (inl (refl, refl)));
            second_wrote = in_trees us r.0 r.1 (back (x ∷ xs) e r.0 r.1 (inr r.2));
            distinct = r.3;
          }

      go : (xs : List (Task × List ℕ)) → writers_in p (map (evaluation w P) us) ≡ xs → IsTold (WroteInTrees w P us p) (told_of w (by_writers xs))
      go [] e = λ x h s. (forth [] e x h s).1
      go (x ∷ xs) e = by x xs e (all_by x.0 xs) refl

-- ---- the records' writers are the trees' writers

module _ (w : World) (P : Project) (R : Task → Option Record) (us : List Task)
    (right : (u : Task) → among u us ≡ true → (x : Task) → Reaches R u x → HasItsRecord w P R x) (p : Path) where
  records_trees : (x : Task) (h : List ℕ) → WroteByRecords R us p x h → WroteInTrees w P us p x h
  records_trees x h s =
      let r : HasItsRecord w P R x = right s.from s.listed x s.reaches in
      record {
        from = s.from;
        listed = s.listed;
        found = evaluation w P x;
        stands = reached_stands w P R s.reaches (right s.from s.listed);
        is = task_of-evaluation w P x;
        wrote = subst (λ z. first_write p z.writes ≡ Some h) (record_right w P R x s.found r s.recorded) s.wrote;
      }

  trees_records : (x : Task) (h : List ℕ) → WroteInTrees w P us p x h → WroteByRecords R us p x h
  trees_records x h s =
      let q : Reached w P R s.from s.found = stands_reached w P R (evaluation w P s.from) s.from s.found refl (right s.from s.listed) s.stands in
      let way : Reaches R s.from x = subst (λ z. Reaches R s.from z) s.is q.way in
      let own : s.found ≡ evaluation w P x = q.own ∙ ap (evaluation w P) s.is in
      record {
        from = s.from;
        listed = s.listed;
        reaches = way;
        found = record_of w (evaluation w P x);
        recorded = (right s.from s.listed x way).is;
        wrote = subst (λ z. first_write p (hashed w (writes_of (trace_of z))) ≡ Some h) own s.wrote;
      }

  -- what the records tell is what the trees show
  pub told_is_seen : (t : Told) → IsTold (WroteByRecords R us p) t → t ≡ told_of w (provided (map (evaluation w P) us) p)
  unfolding provided
  told_is_seen t h =
      told_once (WroteByRecords R us p) (WroteInTrees w P us p) records_trees trees_records t _ h
      (provided_told w P p us (λ u i. (right u i u Way.here).plain))
