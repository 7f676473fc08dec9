-- What is written and removed is what the directory hasn't or has beside a clean build.
use Rattle.std.proofs.Common.{ℕ, ◌≡◌, Bool, true, false, cond, not, Option, Some, None, option_map, List, [], ◌∷◌, ◌⊎◌, inl, inr, sym, ◌∙◌, ap, subst, refl}
use Rattle.std.proofs.Common.{Vec, Global}
use Rattle.std.specs.Prelude.{Contains, IsSome}
use Rattle.std.specs.List.{filter}
use Rattle.sha2.specs.Sha256.{sha256}
use Rattle.pie_base.specs.Path.{is_out}
use Rattle.pie_record.specs.declared.task_record.TaskRecord.{TaskRecord}
use Rattle.pie_files.specs.Directory.{file_at}
use Rattle.pie_diff.specs.Hashes.{files_paths, hash_in, held_at, is_hash, is_new}
use Rattle.pie_diff.specs.Removals.{written_by, AreRemovals}
use Rattle.pie_results.specs.inner.Files.{contents_in}
use Rattle.pie_model.specs.Paths.{Path}
use Rattle.pie_model.specs.Built.{bytes_at, provided_at}
use Rattle.pie_model.proofs.Basics.{clash, same_bytes, bytes_same}
use Rattle.pie_check_laws.proofs.Members.{none_in, here_or_there, here, there, into_map, from_map}
use Rattle.pie_core_laws.specs.Update.{Update, present}
use Rattle.pie_core_laws.specs.Keeping.{Separates}
use Rattle.pie_left_laws.specs.Accepted.{OutIsMet, IsAccepted, live_now}
use Rattle.pie_left_laws.specs.Held.{HoldsRightly}
use Rattle.pie_left_laws.specs.Reported.{IsOther, IsStray}
use Rattle.pie_left_laws.proofs.Provides.{no_some, path_provided, provided_path}
use Rattle.pie_left_laws.proofs.Putting.{given_out, same_content}

abbrev File : Type 0
File = List ℕ × Vec ℕ Global

-- what is kept of a list passes
filter_from : (test : File → Bool) (fs : List File) (f : File) → Contains (filter test fs) f → Contains fs f × (test f ≡ true)
filter_from test [] f i = absurd (none_in f i)
filter_from test (x ∷ fs) f i = by (test x) refl i (filter_from test fs f)
  where
    by : (b : Bool) → test x ≡ b → Contains (cond b (x ∷ filter test fs) (filter test fs)) f → (Contains (filter test fs) f → Contains fs f × (test f ≡ true))
        → Contains (x ∷ fs) f × (test f ≡ true)
    by true e k r = head (here_or_there x f (filter test fs) k)
      where
        head : (x ≡ f) ⊎ Contains (filter test fs) f → Contains (x ∷ fs) f × (test f ≡ true)
        head (inl q) = (subst (λ z. Contains (x ∷ fs) z) q (here x fs), ap test (sym q) ∙ e)
        head (inr j) = let m = r j in (there x f fs m.0, m.1)
    by false e k r = let m = r k in (there x f fs m.0, m.1)

filter_into : (test : File → Bool) (fs : List File) (f : File) → Contains fs f → test f ≡ true → Contains (filter test fs) f
filter_into test [] f i h = absurd (none_in f i)
filter_into test (x ∷ fs) f i h = by (test x) refl (here_or_there x f fs i) (λ j. filter_into test fs f j h)
  where
    by : (b : Bool) → test x ≡ b → (x ≡ f) ⊎ Contains fs f → (Contains fs f → Contains (filter test fs) f)
        → Contains (cond b (x ∷ filter test fs) (filter test fs)) f
    by true e (inl q) r = subst (λ z. Contains (x ∷ filter test fs) z) q (here x (filter test fs))
    by true e (inr j) r = there x f (filter test fs) (r j)
    by false e (inl q) r = clash (test f) h (ap test (sym q) ∙ e)
    by false e (inr j) r = r j

-- whether a content is new at a path
new_if : (o : Option (List ℕ)) (h : List ℕ) → not (is_hash o h) ≡ true → o ≡ Some h → ⊥
new_if None h e k = no_some k
new_if (Some x) h e k =
    clash (not (is_hash (Some x) h)) e (ap not (subst (λ z. is_hash z h ≡ true) (sym k) (bytes_same h)))

hash_if : (o : Option (List ℕ)) (h : List ℕ) → not (is_hash o h) ≡ false → o ≡ Some h
hash_if None h e = clash true refl e
hash_if (Some x) h e = by (is_hash (Some x) h) refl e
  where
    by : (b : Bool) → is_hash (Some x) h ≡ b → not b ≡ false → Some x ≡ Some h
    by true q k = ap Some (same_bytes x h q)
    by false q k = clash true refl k

module _ (u : Update) (kept : List TaskRecord) (files : List File) (held : List (List ℕ × List ℕ)) (apart : Separates u) (met : OutIsMet u)
    (A : IsAccepted u kept (contents_in files)) (right : HoldsRightly held u.directory) (path : List ℕ) where
  abbrev of_file : File → Path × List ℕ
  of_file f = (f.0, f.1.items)

  other_of : (f : File) → Contains files f → is_new held f ≡ true → IsOther u f.0
  other_of f i new =
      let given = A.only f.0 f.1.items (into_map of_file files f i) in
      record {
        bytes = f.1.items;
        provided = given;
        other = λ e. new_if (held_at held f.0) (sha256 f.1.items) new
            (right f.0 (given_out u kept (contents_in files) apart met A f.0 f.1.items given) ∙ hash_of f.1.items e);
      }
    where
      hash_of : (b : List ℕ) → bytes_at u.directory f.0 ≡ Some b → hash_in u.directory f.0 ≡ Some (sha256 b)
      hash_of b e = by (file_at u.directory f.0) e
        where
          by : (o : Option (List ℕ × ℕ)) → option_map (λ (g : List ℕ × ℕ). g.0) o ≡ Some b → option_map (λ (g : List ℕ × ℕ). sha256 g.0) o ≡ Some (sha256 b)
          by None k = no_some k
          by (Some g) k = ap (option_map sha256) k

  pub new_other : Contains (files_paths (filter (is_new held) files)) path → IsOther u path
  new_other h =
      let m = from_map (λ (f : File). f.0) (filter (is_new held) files) path h in
      let k = filter_from (is_new held) files m.0 m.1 in
      subst (IsOther u) m.2 (other_of m.0 k.0 k.1)

  new_of : (b : List ℕ) → provided_at (live_now u) path ≡ Some b → (bytes_at u.directory path ≡ Some b → ⊥) → (f : File) → Contains files f
      → of_file f ≡ (path, b) → Contains (files_paths (filter (is_new held) files)) path
  new_of b given other f i e = by (is_new held f) refl
    where
      at : f.0 ≡ path
      at = ap (λ (x : Path × List ℕ). x.0) e

      has : f.1.items ≡ b
      has = ap (λ (x : Path × List ℕ). x.1) e

      by : (t : Bool) → is_new held f ≡ t → Contains (files_paths (filter (is_new held) files)) path
      by true q =
          subst (λ z. Contains (files_paths (filter (is_new held) files)) z) at
          (into_map (λ (x : File). x.0) (filter (is_new held) files) f (filter_into (is_new held) files f i q))
      by false q =
          absurd (other (same_content u kept (contents_in files) apart met A path b given
          (sym (right path (given_out u kept (contents_in files) apart met A path b given)) ∙ ap (held_at held) (sym at)
          ∙ hash_if (held_at held f.0) (sha256 f.1.items) q ∙ ap (λ z. Some (sha256 z)) has)))

  pub other_new : IsOther u path → Contains (files_paths (filter (is_new held) files)) path
  other_new o = by (A.each path o.bytes o.provided)
    where
      by : Contains (contents_in files) (path, o.bytes) ⊎ (bytes_at u.directory path ≡ Some o.bytes) → Contains (files_paths (filter (is_new held) files)) path
      by (inl i) = let m = from_map of_file files (path, o.bytes) i in new_of o.bytes o.provided o.other m.0 m.1 m.2
      by (inr k) = absurd (o.other k)

-- ---- files that go

is_some : {X : Type 0} (o : Option X) (x : X) → o ≡ Some x → IsSome o
is_some None x e = no_some e
is_some (Some y) x e = refl

bytes_if : (o : Option (List ℕ × ℕ)) → IsSome (option_map (λ (f : List ℕ × ℕ). sha256 f.0) o) → IsSome (option_map (λ (f : List ℕ × ℕ). f.0) o)
bytes_if None h = cc
bytes_if (Some f) h = refl

hash_some : (o : Option (List ℕ × ℕ)) → IsSome (option_map (λ (f : List ℕ × ℕ). f.0) o) → IsSome (option_map (λ (f : List ℕ × ℕ). sha256 f.0) o)
hash_some None h = cc
hash_some (Some f) h = refl

module _ (u : Update) (kept : List TaskRecord) (files : List (Path × List ℕ)) (held : List (List ℕ × List ℕ)) (found : List (List ℕ)) (path : List ℕ)
    (A : IsAccepted u kept files) (right : HoldsRightly held u.directory) (R : AreRemovals held kept found) where
  pub removed_stray : (Contains found path → is_out path ≡ true) → Contains found path → IsStray u path
  removed_stray out i =
      let q = R.only path i in
      record {
        out = out i;
        there = bytes_if (file_at u.directory path) (subst (λ o. IsSome o) (right path (out i)) q.0);
        absent = by q.1 (provided_at (live_now u) path) refl;
      }
    where
      by : (Contains (written_by kept) path → ⊥) → (o : Option (List ℕ)) → provided_at (live_now u) path ≡ o → provided_at (live_now u) path ≡ None
      by none None e = e
      by none (Some b) e = absurd (none (provided_path (present u) u.roots A.accepted kept A.rows path b e))

  pub stray_removed : IsStray u path → Contains found path
  stray_removed s =
      R.each path (subst (λ o. IsSome o) (sym (right path s.out)) (hash_some (file_at u.directory path) s.there))
      (λ w. let m = path_provided (present u) u.roots A.accepted kept A.rows path w in no_some (sym s.absent ∙ m.1))
