-- Observations of sources that don't differ have the stamps of now, and what is written at named paths is there.
use Rattle.std.proofs.Common.{◌≡◌, ℕ, ◌&&◌, Bool, true, false, cond, Option, Some, None, List, [], ◌∷◌, map, All, IsTrue, refl, sym, ap, ◌∙◌}
use Rattle.std.specs.Prelude.{Contains, option_map}
use Rattle.std.specs.List.{list_any}
use Rattle.std.proofs.lemmas.Bool.Decides.{Decides-eqb}
use Rattle.std.proofs.lemmas.List.Elements.{All-head, All-tail}
use Rattle.sha2.specs.Sha256.{sha256}
use Rattle.pie_base.specs.Path.{is_source, is_below}
use Rattle.pie_value.specs.declared.stamp.Stamp.{Stamp}
use Rattle.pie_value.specs.declared.stamp.Stamp.TheVariants as stamps
use Rattle.pie_value.specs.Canonical.{enc}
use Rattle.pie_value.specs.Limits.{is_small}
use Rattle.pie_record.specs.declared.dep.Dep.{Dep}
use Rattle.pie_record.specs.declared.dep.DepKind.{DepKind}
use Rattle.pie_record.specs.declared.dep.DepKind.TheVariants as kinds
use Rattle.pie_record.specs.declared.dep.DepOn.{DepOn}
use Rattle.pie_record.specs.declared.dep.DepOn.TheVariants.{File, Called}
use Rattle.pie_record.specs.Kinds.{tag_of, allows}
use Rattle.pie_record.specs.Canonical.{IsStorableDep}
use Rattle.pie_parser.specs.FunctionTrees.{FunctionTree}
use Rattle.pie_files.specs.Directory.{Directory, file_at, entries_of}
use Rattle.pie_named.specs.declared.named.Named.{Named}
use Rattle.pie_named.specs.declared.stamps.FileStamp.{FileStamp}
use Rattle.pie_named.specs.declared.stamps.FileStamp.TheVariants.{Absent, Present, Hash, Mark}
use Rattle.pie_named.specs.inner.Names.{is_named, is_above}
use Rattle.pie_named.specs.inner.Stamped.{is_stamp, presence_of, hash_of, mark_of, listing_of, paths_list, stamp_in, differs_from}
use Rattle.pie_compare.specs.inner.Touching.{on_differs, dep_differs, write_differs}
use Rattle.pie_model.specs.declared.words.Kind.TheVariants.{Source}
use Rattle.pie_model.specs.declared.words.Look.TheVariants as looks
use Rattle.pie_model.specs.Paths.{Path, among, kind_of}
use Rattle.pie_model.specs.Seen.{seen_file}
use Rattle.pie_model.specs.Evaluation.{listing}
use Rattle.pie_model.specs.Records.{Listed, look_stamp, mark_stamp}
use Rattle.pie_model.specs.StampNow.{listing_now}
use Rattle.pie_model.proofs.Basics.{same_bytes}
use Rattle.pie_check_laws.proofs.Members.{here, there}
use Rattle.pie_model_pipeline.specs.Rows.{stamp_of, query_of, observation_of}
use Rattle.pie_model_pipeline.specs.World.{world, project}
use Rattle.pie_builder_laws.proofs.Lookings.{limit_is}
use Rattle.pie_earlier_laws.specs.Sources.{IsTested, AreTested}
use Rattle.pie_earlier_laws.specs.Left.{NamedAreThere}
use Rattle.pie_earlier_laws.proofs.Unnamed.{ListSources}
use Rattle.pie_earlier_laws.proofs.Pipelines.{kind_source}

-- ---- stamps that are the ones of now

is_it : (now : FileStamp) (s : Stamp) → differs_from (Some now) s ≡ false → is_stamp now s ≡ true
is_it now s h = by (is_stamp now s) refl h
  where
    by : (b : Bool) → is_stamp now s ≡ b → cond b false true ≡ false → is_stamp now s ≡ true
    by true e i = e
    by false e i = cc

absent_is : (s : Stamp) → is_stamp Absent s ≡ true → s ≡ stamps.Absent
absent_is stamps.Absent h = refl
absent_is stamps.Present h = cc
absent_is (stamps.Hash x) h = cc
absent_is (stamps.Mark x) h = cc
absent_is (stamps.Whole x) h = cc
absent_is stamps.Done h = cc

present_is : (s : Stamp) → is_stamp Present s ≡ true → s ≡ stamps.Present
present_is stamps.Absent h = cc
present_is stamps.Present h = refl
present_is (stamps.Hash x) h = cc
present_is (stamps.Mark x) h = cc
present_is (stamps.Whole x) h = cc
present_is stamps.Done h = cc

hash_is : (x : List ℕ) (s : Stamp) → is_stamp (Hash x) s ≡ true → s ≡ stamps.Hash x
hash_is x stamps.Absent h = cc
hash_is x stamps.Present h = cc
hash_is x (stamps.Hash y) h = ap stamps.Hash (sym (same_bytes x y h))
hash_is x (stamps.Mark y) h = cc
hash_is x (stamps.Whole y) h = cc
hash_is x stamps.Done h = cc

mark_is : (m : ℕ) (s : Stamp) → is_stamp (Mark m) s ≡ true → s ≡ stamps.Mark m
mark_is m stamps.Absent h = cc
mark_is m stamps.Present h = cc
mark_is m (stamps.Hash y) h = cc
mark_is m (stamps.Mark y) h = ap stamps.Mark (sym ((Decides-eqb m y).0 h))
mark_is m (stamps.Whole y) h = cc
mark_is m stamps.Done h = cc

absent_now : (s : Stamp) → differs_from (Some Absent) s ≡ false → s ≡ stamps.Absent
absent_now s h = absent_is s (is_it Absent s h)

-- by its presence, by its hash and by its mark
there_is : (p : Path) (o : Option (List ℕ × ℕ)) (s : Stamp) → differs_from (presence_of o) s ≡ false
    → look_stamp world looks.Exists p (seen_file o) ≡ stamp_of s
there_is p None s h = ap stamp_of (sym (absent_now s h))
there_is p (Some f) s h = ap stamp_of (sym (present_is s (is_it Present s h)))

read_is : (p : Path) (o : Option (List ℕ × ℕ)) (s : Stamp) → differs_from (hash_of o) s ≡ false
    → look_stamp world looks.ByHash p (seen_file o) ≡ stamp_of s
unfolding world
read_is p None s h = ap stamp_of (sym (absent_now s h))
read_is p (Some f) s h = ap stamp_of (sym (hash_is (sha256 f.0) s (is_it (Hash (sha256 f.0)) s h)))

digest_is : (p : Path) (o : Option (List ℕ × ℕ)) (s : Stamp) → differs_from (hash_of o) s ≡ false
    → look_stamp world looks.Digest p (seen_file o) ≡ stamp_of s
unfolding world
digest_is p None s h = ap stamp_of (sym (absent_now s h))
digest_is p (Some f) s h = ap stamp_of (sym (hash_is (sha256 f.0) s (is_it (Hash (sha256 f.0)) s h)))

marked_is : (p : Path) (o : Option (List ℕ × ℕ)) (s : Stamp) → kind_of p ≡ Source → differs_from (mark_of o) s ≡ false
    → look_stamp world looks.ByMark p (seen_file o) ≡ stamp_of s
marked_is p None s k h = ap stamp_of (sym (absent_now s h))
marked_is p (Some f) s k h = ap (λ z. mark_stamp world z f.0 f.1) k ∙ ap stamp_of (sym (mark_is f.1 s (is_it (Mark f.1) s h)))

listed_is : (fs : List FunctionTree) (d : Directory) (p : Path) (s : Stamp) → differs_from (listing_of (entries_of d p)) s ≡ false
    → listing_now world (listing world (project fs d) p) ≡ Some (stamp_of s)
unfolding world
listed_is fs d p s h = ap (listing_now world) (limit_is fs d p) ∙ by (is_small (paths_list (entries_of d p))) h
  where
    by : (b : Bool) → differs_from (cond b (Some (Hash (sha256 (enc (paths_list (entries_of d p)))))) None) s ≡ false
        → listing_now world (cond b (Some (entries_of d p)) None) ≡ Some (stamp_of s)
    by true i =
        ap (λ z. Some (stamp_of z))
        (sym (hash_is (sha256 (enc (paths_list (entries_of d p)))) s (is_it (Hash (sha256 (enc (paths_list (entries_of d p))))) s i)))
    by false i = cc

-- ---- what is asked and doesn't differ

both_false : (a b c : Bool) → a ≡ true → b ≡ true → (a && b) && c ≡ false → c ≡ false
both_false true true c e f h = h
both_false true false c e f h = cc
both_false false b c e f h = cc

one_false : (a b : Bool) → a ≡ true → a && b ≡ false → b ≡ false
one_false true b e h = h
one_false false b e h = cc

module _ (fs : List FunctionTree) (d : Directory) (names : List Path) (n : Named) (named : (p : Path) → is_named n p ≡ among p names)
    (above : (p : Path) → is_above n p ≡ list_any (is_below p) names) where
  on_tested : (kind : DepKind) (what : DepOn) (s : Stamp) → IsTrue (allows kind what (tag_of s)) → on_differs d n kind what s ≡ false
      → ((e : Path) → query_of kind what ≡ Listed e → kind_of e ≡ Source) → IsTested world (project fs d) names (query_of kind what) (stamp_of s)
  on_tested kinds.Exists (File p) s a h l = λ k i.
      there_is p (file_at d p) s
      (both_false (is_source p) (is_named n p) (differs_from (stamp_in d kinds.Exists p) s) (kind_source p k) (named p ∙ i) h)
  on_tested kinds.ReadHash (File p) s a h l = λ k i.
      read_is p (file_at d p) s
      (both_false (is_source p) (is_named n p) (differs_from (stamp_in d kinds.ReadHash p) s) (kind_source p k) (named p ∙ i) h)
  on_tested kinds.ReadMark (File p) s a h l = λ k i.
      marked_is p (file_at d p) s k
      (both_false (is_source p) (is_named n p) (differs_from (stamp_in d kinds.ReadMark p) s) (kind_source p k) (named p ∙ i) h)
  on_tested kinds.Digest (File p) s a h l = λ k i.
      digest_is p (file_at d p) s
      (both_false (is_source p) (is_named n p) (differs_from (stamp_in d kinds.Digest p) s) (kind_source p k) (named p ∙ i) h)
  on_tested kinds.List (File p) s a h l = λ i.
      listed_is fs d p s
      (both_false (is_source p) (is_above n p) (differs_from (stamp_in d kinds.List p) s) (kind_source p (l p refl)) (above p ∙ i) h)
  on_tested kinds.Require (File p) s a h l = cc
  on_tested kinds.RequireHash (File p) s a h l = cc
  on_tested kinds.Run (File p) s a h l = cc
  on_tested k (Called t) s a h l = tt

  pub all_tested : (deps : List Dep) → All IsStorableDep deps → ((dep : Dep) → Contains deps dep → dep_differs d n dep ≡ false)
      → ListSources (map observation_of deps) → AreTested world (project fs d) names (map observation_of deps)
  all_tested [] a h l = tt
  all_tested (dep ∷ deps) a h l = (
    on_tested dep.kind dep.what dep.stamp (All-head IsStorableDep dep deps a).allowed (h dep (here dep deps)) l.0,
    all_tested deps (All-tail IsStorableDep dep deps a) (λ x i. h x (there dep x deps i)) l.1,
  )

  is_there : (o : Option (List ℕ × ℕ)) (h : List ℕ) → differs_from (hash_of o) (stamps.Hash h) ≡ false
      → (b : List ℕ) × (option_map (λ (f : List ℕ × ℕ). f.0) o ≡ Some b) × (world.hash b ≡ h)
  unfolding world
  is_there None h i = cc
  is_there (Some f) h i =
      let e : stamps.Hash h ≡ stamps.Hash (sha256 f.0) = hash_is (sha256 f.0) (stamps.Hash h) (is_it (Hash (sha256 f.0)) (stamps.Hash h) i) in
      (f.0, refl, sym (one_hash h (sha256 f.0) e))
    where
      one_hash : (x y : List ℕ) → stamps.Hash x ≡ stamps.Hash y → x ≡ y
      one_hash x y e = cc

  pub named_there : (writes : List (Path × List ℕ)) → ((w : Path × List ℕ) → Contains writes w → write_differs d n w.0 w.1 ≡ false)
      → NamedAreThere world d names writes
  named_there [] h = tt
  named_there (w ∷ ws) h = (
    λ i. is_there (file_at d w.0) w.1
        (one_false (is_named n w.0) (differs_from (stamp_in d kinds.ReadHash w.0) (stamps.Hash w.1)) (named w.0 ∙ i) (h w (here w ws))),
    named_there ws (λ x i. h x (there w x ws i)),
  )
