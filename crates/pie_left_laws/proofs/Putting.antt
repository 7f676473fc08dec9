-- The directory of an accepted build that was put into place is that of a clean build.
use Rattle.std.proofs.Common.{ℕ, ◌≡◌, Bool, true, false, cond, Option, Some, None, option_map, List, [], ◌∷◌, ◌⊎◌, inl, inr, sym, ◌∙◌, ap, subst, refl}
use Rattle.std.proofs.Common.{bytes_eq, codes}
use Rattle.std.specs.Prelude.{◌||◌, Contains}
use Rattle.sha2.specs.Sha256.{sha256}
use Rattle.pie_base.specs.Path.{is_out, same_text}
use Rattle.pie_files.specs.Directory.{Directory, file_at}
use Rattle.pie_record.specs.declared.task_record.TaskRecord.{TaskRecord}
use Rattle.pie_diff.specs.Hashes.{hash_in}
use Rattle.pie_model.specs.Paths.{Path, among, kind_of, first_segment}
use Rattle.pie_model.specs.declared.words.Kind.{Kind}
use Rattle.pie_model.specs.declared.words.Kind.TheVariants.{Out, Kept, Source}
use Rattle.pie_model.specs.Trees.{trace_of}
use Rattle.pie_model.specs.Evaluation.{evaluation}
use Rattle.pie_model.specs.Built.{bytes_at, provided_at, store_path, open_path, pending_path, built_by, IsBuilt}
use Rattle.pie_model.specs.Changes.IsMet.{named}
use Rattle.pie_model.proofs.Basics.{clash, same_bytes, bytes_same, among_split}
use Rattle.pie_check_laws.proofs.Members.{none_in, here_or_there, here, there}
use Rattle.pie_model_pipeline.specs.World.{world}
use Rattle.pie_earlier_laws.proofs.Accepting.{live}
use Rattle.pie_earlier_laws.proofs.Meeting.{tried_met}
use Rattle.pie_earlier_laws.proofs.Pipelines.{out_kind, kind_out, write_once}
use Rattle.pie_core_laws.specs.Update.{Update, MetIn, earlier, present}
use Rattle.pie_core_laws.specs.Keeping.{Separates}
use Rattle.pie_left_laws.specs.Accepted.{OutIsMet, IsAccepted, live_now}
use Rattle.pie_left_laws.specs.Placed.{is_builders, IsPlaced}
use Rattle.pie_left_laws.proofs.Provides.{one_some, no_some, written_out, met_write, writer_of, provided_path, path_provided, hash_is}

-- ---- paths

or_left : (a b : Bool) → (a || b) ≡ false → a ≡ false
or_left true b h = h
or_left false b h = refl

or_right : (a b : Bool) → (a || b) ≡ false → b ≡ false
or_right true b h = clash true refl h
or_right false b h = h

either_true : (a b : Bool) → (a || b) ≡ true → (a ≡ true) ⊎ (b ≡ true)
either_true true b h = inl refl
either_true false b h = inr h

pub is_false : (b : Bool) → (b ≡ true → ⊥) → b ≡ false
is_false true f = absurd (f refl)
is_false false f = refl

both_false : (a b : Bool) → a ≡ false → b ≡ false → (a || b) ≡ false
both_false true b h k = h
both_false false b h k = k

-- what holds of the builder's own paths holds of each of them
own_by : (X : List ℕ → Type 0) → X open_path → X store_path → X pending_path → (p : List ℕ) → is_builders p ≡ true → X p
own_by X o s n p h = by (either_true (same_text p open_path || same_text p store_path) (same_text p pending_path) h)
  where
    sooner : (same_text p open_path ≡ true) ⊎ (same_text p store_path ≡ true) → X p
    sooner (inl e) = subst X (sym (same_bytes p open_path e)) o
    sooner (inr e) = subst X (sym (same_bytes p store_path e)) s

    by : ((same_text p open_path || same_text p store_path) ≡ true) ⊎ (same_text p pending_path ≡ true) → X p
    by (inl k) = sooner (either_true (same_text p open_path) (same_text p store_path) k)
    by (inr e) = subst X (sym (same_bytes p pending_path e)) n

pub kept_open : kind_of open_path ≡ Kept
unfolding kind_of
kept_open = refl

kept_store : kind_of store_path ≡ Kept
unfolding kind_of
kept_store = refl

pub kept_pending : kind_of pending_path ≡ Kept
unfolding kind_of
kept_pending = refl

own_kept : (p : Path) → is_builders p ≡ true → kind_of p ≡ Kept
own_kept = own_by (λ p. kind_of p ≡ Kept) kept_open kept_store kept_pending

own_first : (p : Path) → is_builders p ≡ true → bytes_eq (first_segment p) (codes ".pie") ≡ true
own_first = own_by (λ p. bytes_eq (first_segment p) (codes ".pie") ≡ true) refl refl refl

kept_source : Kept ≡ Source → ⊥
kept_source e = cc

out_kept : Out ≡ Kept → ⊥
out_kept e = cc

out_source : Out ≡ Source → ⊥
out_source e = cc

not_out : (p : Path) → (kind_of p ≡ Out → ⊥) → is_out p ≡ false
not_out p f = is_false (is_out p) (λ e. f (out_kind p e))

-- ---- files

-- some file has this path, or none has
file_of : (files : List (Path × List ℕ)) (p : Path) → ((b : List ℕ) × Contains files (p, b)) ⊎ ((b : List ℕ) → Contains files (p, b) → ⊥)
file_of [] p = inr (λ b. none_in (p, b))
file_of (f ∷ files) p = by (bytes_eq p f.0) refl (file_of files p)
  where
    by : (t : Bool) → bytes_eq p f.0 ≡ t → ((b : List ℕ) × Contains files (p, b)) ⊎ ((b : List ℕ) → Contains files (p, b) → ⊥)
        → ((b : List ℕ) × Contains (f ∷ files) (p, b)) ⊎ ((b : List ℕ) → Contains (f ∷ files) (p, b) → ⊥)
    by true e r = inl (f.1, subst (λ (z : Path). Contains (f ∷ files) (z, f.1)) (sym (same_bytes p f.0 e)) (here f files))
    by false e (inl m) = inl (m.0, there f (p, m.0) files m.1)
    by false e (inr none) = inr (λ b i. from b (here_or_there f (p, b) files i))
      where
        from : (b : List ℕ) → (f ≡ (p, b)) ⊎ Contains files (p, b) → ⊥
        from b (inl k) = clash (bytes_eq p f.0) (subst (λ (z : Path × List ℕ). bytes_eq p z.0 ≡ true) (sym k) (bytes_same p)) e
        from b (inr j) = none b j

module _ (u : Update) (kept : List TaskRecord) (files : List (Path × List ℕ)) (apart : Separates u) (met : OutIsMet u) (A : IsAccepted u kept files) where
  abbrev given : Path → Option (List ℕ)
  given p = provided_at (live_now u) p

  pub given_out : (p : Path) (b : List ℕ) → given p ≡ Some b → is_out p ≡ true
  given_out p b e =
      let k = writer_of world (present u) u.roots A.accepted p b e in
      kind_out p (written_out world (present u) k.writer p b ((write_once u.functions u.directory).out k.writer) k.wrote)

  -- what a clean build provides is met
  given_met : (p : Path) (b : List ℕ) → given p ≡ Some b → MetIn u b
  given_met p b e =
      let k = writer_of world (present u) u.roots A.accepted p b e in
      let l = live world (present u) u.roots A.accepted k.writer k.entered in
      met_write world (MetIn u) (trace_of (evaluation world (present u) k.writer)) p b
      (tried_met world (earlier u) (present u) u.old_roots u.roots u.besides l.from (evaluation world (present u) k.writer) (inr l.listed) l.stands) k.wrote

  -- a file with the hash of what a clean build provides has its bytes
  pub same_content : (p : Path) (b : List ℕ) → given p ≡ Some b → hash_in u.directory p ≡ Some (sha256 b) → bytes_at u.directory p ≡ Some b
  same_content p b e h = by (file_at u.directory p) refl h
    where
      by : (o : Option (List ℕ × ℕ)) → file_at u.directory p ≡ o → option_map (λ (f : List ℕ × ℕ). sha256 f.0) o ≡ Some (sha256 b)
          → bytes_at u.directory p ≡ Some b
      by None q k = no_some k
      by (Some f) q k =
          let there : bytes_at u.directory p ≡ Some f.0 = ap (option_map (λ (g : List ℕ × ℕ). g.0)) q in
          there ∙ ap Some (apart.hashes f.0 b (named (met p f.0 (given_out p b e) there)) (given_met p b e)
          (hash_is f.0 ∙ one_some (sha256 f.0) (sha256 b) k ∙ sym (hash_is b)))

  module _ (text : List ℕ) (left : Directory) (put : IsPlaced kept files text u.directory left) where
    stays : (p : Path) → file_at left p ≡ file_at u.directory p → bytes_at left p ≡ bytes_at u.directory p
    stays p e = ap (option_map (λ (f : List ℕ × ℕ). f.0)) e

    file_there : (p : Path) (b : List ℕ) → Contains files (p, b) → bytes_at left p ≡ Some b
    file_there p b i = by (put.put p b i)
      where
        by : (bytes_at left p ≡ Some b) ⊎ ((hash_in u.directory p ≡ Some (sha256 b)) × (file_at left p ≡ file_at u.directory p)) → bytes_at left p ≡ Some b
        by (inl e) = e
        by (inr e) = stays p e.1 ∙ same_content p b (A.only p b i) e.0

    given_there : (p : Path) (b : List ℕ) → given p ≡ Some b → bytes_at left p ≡ Some b
    given_there p b e = by (A.each p b e)
      where
        resting : bytes_at u.directory p ≡ Some b → ((c : List ℕ) × Contains files (p, c)) ⊎ ((c : List ℕ) → Contains files (p, c) → ⊥)
            → bytes_at left p ≡ Some b
        resting k (inl m) = file_there p m.0 m.1 ∙ sym (A.only p m.0 m.1) ∙ e
        resting k (inr none) =
            stays p (put.same p (given_out p b e) (provided_path (present u) u.roots A.accepted kept A.rows p b e) none) ∙ k

        by : Contains files (p, b) ⊎ (bytes_at u.directory p ≡ Some b) → bytes_at left p ≡ Some b
        by (inl i) = file_there p b i
        by (inr k) = resting k (file_of files p)

    out_bytes : (p : Path) → is_out p ≡ true → (o : Option (List ℕ)) → given p ≡ o → bytes_at left p ≡ o
    out_bytes p on (Some b) e = given_there p b e
    out_bytes p on None e =
        ap (option_map (λ (f : List ℕ × ℕ). f.0))
        (put.gone p on (λ h. let m = path_provided (present u) u.roots A.accepted kept A.rows p h in no_some (sym e ∙ m.1)))

    rest_bytes : (p : Path) → (kind_of p ≡ Out → ⊥) → is_builders p ≡ false → bytes_at left p ≡ bytes_at u.directory p
    rest_bytes p off own = stays p (put.rest p (both_false (is_out p) (is_builders p) (not_out p off) own))

    -- a kept path
    kept_bytes : (p : Path) → kind_of p ≡ Kept → (a : Bool) → bytes_eq p store_path ≡ a → (b : Bool) → among p (open_path ∷ pending_path ∷ []) ≡ b
        → bytes_at left p ≡ cond a (Some text) (cond b None (bytes_at u.directory p))
    kept_bytes p k true e b f = ap (bytes_at left) (same_bytes p store_path e) ∙ put.store
    kept_bytes p k false e true f = by (among_split p open_path (pending_path ∷ []) f)
      where
        later : (p ≡ pending_path) ⊎ (among p [] ≡ true) → bytes_at left p ≡ None
        later (inl q) = ap (bytes_at left) q ∙ put.no_names
        later (inr q) = clash false q refl

        by : (p ≡ open_path) ⊎ (among p (pending_path ∷ []) ≡ true) → bytes_at left p ≡ None
        by (inl q) = ap (bytes_at left) q ∙ put.closed
        by (inr q) = later (among_split p pending_path [] q)
    kept_bytes p k false e false f =
        rest_bytes p (λ o. out_kept (sym o ∙ k))
        (is_false (is_builders p) (λ h. others e f h))
      where
        alone : (a b : Bool) → cond a true (cond b true false) ≡ false → (a ≡ false) × (b ≡ false)
        alone true b h = clash true refl h
        alone false true h = clash true refl h
        alone false false h = (refl, refl)

        others : bytes_eq p store_path ≡ false → among p (open_path ∷ pending_path ∷ []) ≡ false → is_builders p ≡ true → ⊥
        others s n h =
            let m = alone (bytes_eq p open_path) (bytes_eq p pending_path) n in
            clash (is_builders p) h
            (both_false (same_text p open_path || same_text p store_path) (same_text p pending_path)
            (both_false (same_text p open_path) (same_text p store_path) m.0 s) m.1)

    source_bytes : (p : Path) → kind_of p ≡ Source → bytes_at left p ≡ bytes_at u.directory p
    source_bytes p k =
        rest_bytes p (λ o. out_source (sym o ∙ k)) (is_false (is_builders p) (λ h. kept_source (sym (own_kept p h) ∙ k)))

    pub is_built : IsBuilt text u.directory left (live_now u)
    is_built = record { bytes = λ p. by p (kind_of p) refl; marks = marks }
      where
        by : (p : Path) (k : Kind) → kind_of p ≡ k → bytes_at left p ≡ built_by text u.directory (live_now u) p k
        by p Out e = out_bytes p (kind_out p e) (given p) refl
        by p Kept e = kept_bytes p e (bytes_eq p store_path) refl (among p (open_path ∷ pending_path ∷ [])) refl
        by p Source e = source_bytes p e

        marks : (p : Path) → (kind_of p ≡ Out → ⊥) → bytes_eq (first_segment p) (codes ".pie") ≡ false → file_at left p ≡ file_at u.directory p
        marks p off other =
            put.rest p (both_false (is_out p) (is_builders p) (not_out p off)
            (is_false (is_builders p) (λ h. clash (bytes_eq (first_segment p) (codes ".pie")) (own_first p h) other)))
