-- Observations of sources that don't differ have the stamps of now.
use Rattle.std.proofs.Common.{◌≡◌, ℕ, Bool, true, false, cond, Some, None, Option, List, IsTrue, refl, sym, ap, ◌∙◌}
use Rattle.std.proofs.lemmas.Bool.Decides.{Decides-eqb}
use Rattle.sha2.specs.Sha256.{sha256}
use Rattle.pie_base.specs.Path.{is_source}
use Rattle.pie_value.specs.declared.stamp.Stamp.{Stamp}
use Rattle.pie_value.specs.declared.stamp.Stamp.TheVariants as stamps
use Rattle.pie_value.specs.Canonical.{enc}
use Rattle.pie_value.specs.Limits.{is_small}
use Rattle.pie_record.specs.declared.dep.DepKind.{DepKind}
use Rattle.pie_record.specs.declared.dep.DepKind.TheVariants as kinds
use Rattle.pie_record.specs.declared.dep.DepOn.TheVariants.{File}
use Rattle.pie_record.specs.Kinds.{tag_of, allows}
use Rattle.pie_files.specs.Directory.{file_at, entries_of}
use Rattle.pie_named.specs.declared.stamps.FileStamp.{FileStamp}
use Rattle.pie_named.specs.declared.stamps.FileStamp.TheVariants.{Absent, Present, Hash, Mark}
use Rattle.pie_named.specs.inner.Stamped.{is_stamp, presence_of, hash_of, mark_of, listing_of, paths_list, stamp_in, differs_from}
use Rattle.pie_model.specs.declared.words.Kind.TheVariants.{Source}
use Rattle.pie_model.specs.declared.words.Look.TheVariants as looks
use Rattle.pie_model.specs.Paths.{Path, kind_of}
use Rattle.pie_model.specs.Seen.{seen_file}
use Rattle.pie_model.specs.Evaluation.{listing}
use Rattle.pie_model.specs.Records.{look_stamp, mark_stamp}
use Rattle.pie_model.specs.StampNow.{listing_now}
use Rattle.pie_model.specs.inner.Still.{SourceStampStill}
use Rattle.pie_model.proofs.Basics.{same_bytes}
use Rattle.pie_model_pipeline.specs.Rows.{stamp_of, query_of}
use Rattle.pie_model_pipeline.specs.World.{world}
use Rattle.pie_builder_laws.proofs.Lookings.{limit_is}
use Rattle.pie_earlier_laws.proofs.Pipelines.{kind_source}
use Rattle.pie_core_laws.specs.Update.{Update, present}

is_it : (now : FileStamp) (s : Stamp) → differs_from (Some now) s ≡ false → is_stamp now s ≡ true
is_it now s h = by (is_stamp now s) refl h
  where
    by : (b : Bool) → is_stamp now s ≡ b → cond b false true ≡ false → is_stamp now s ≡ true
    by true e i = e
    by false e i = cc

absent_is : (s : Stamp) → is_stamp Absent s ≡ true → s ≡ stamps.Absent
absent_is stamps.Absent h = refl
absent_is stamps.Present h = cc
absent_is (stamps.Hash x) h = cc
absent_is (stamps.Mark x) h = cc
absent_is (stamps.Whole x) h = cc
absent_is stamps.Done h = cc

present_is : (s : Stamp) → is_stamp Present s ≡ true → s ≡ stamps.Present
present_is stamps.Absent h = cc
present_is stamps.Present h = refl
present_is (stamps.Hash x) h = cc
present_is (stamps.Mark x) h = cc
present_is (stamps.Whole x) h = cc
present_is stamps.Done h = cc

hash_is : (x : List ℕ) (s : Stamp) → is_stamp (Hash x) s ≡ true → s ≡ stamps.Hash x
hash_is x stamps.Absent h = cc
hash_is x stamps.Present h = cc
hash_is x (stamps.Hash y) h = ap stamps.Hash (sym (same_bytes x y h))
hash_is x (stamps.Mark y) h = cc
hash_is x (stamps.Whole y) h = cc
hash_is x stamps.Done h = cc

mark_is : (m : ℕ) (s : Stamp) → is_stamp (Mark m) s ≡ true → s ≡ stamps.Mark m
mark_is m stamps.Absent h = cc
mark_is m stamps.Present h = cc
mark_is m (stamps.Hash y) h = cc
mark_is m (stamps.Mark y) h = ap stamps.Mark (sym ((Decides-eqb m y).0 h))
mark_is m (stamps.Whole y) h = cc
mark_is m stamps.Done h = cc

absent_now : (s : Stamp) → differs_from (Some Absent) s ≡ false → s ≡ stamps.Absent
absent_now s h = absent_is s (is_it Absent s h)

-- by its presence, by its hash and by its mark
there_is : (p : Path) (o : Option (List ℕ × ℕ)) (s : Stamp) → differs_from (presence_of o) s ≡ false
    → look_stamp world looks.Exists p (seen_file o) ≡ stamp_of s
there_is p None s h = ap stamp_of (sym (absent_now s h))
there_is p (Some f) s h = ap stamp_of (sym (present_is s (is_it Present s h)))

read_is : (p : Path) (o : Option (List ℕ × ℕ)) (s : Stamp) → differs_from (hash_of o) s ≡ false
    → look_stamp world looks.ByHash p (seen_file o) ≡ stamp_of s
unfolding world
read_is p None s h = ap stamp_of (sym (absent_now s h))
read_is p (Some f) s h = ap stamp_of (sym (hash_is (sha256 f.0) s (is_it (Hash (sha256 f.0)) s h)))

digest_is : (p : Path) (o : Option (List ℕ × ℕ)) (s : Stamp) → differs_from (hash_of o) s ≡ false
    → look_stamp world looks.Digest p (seen_file o) ≡ stamp_of s
unfolding world
digest_is p None s h = ap stamp_of (sym (absent_now s h))
digest_is p (Some f) s h = ap stamp_of (sym (hash_is (sha256 f.0) s (is_it (Hash (sha256 f.0)) s h)))

marked_is : (p : Path) (o : Option (List ℕ × ℕ)) (s : Stamp) → kind_of p ≡ Source → differs_from (mark_of o) s ≡ false
    → look_stamp world looks.ByMark p (seen_file o) ≡ stamp_of s
marked_is p None s k h = ap stamp_of (sym (absent_now s h))
marked_is p (Some f) s k h = ap (λ z. mark_stamp world z f.0 f.1) k ∙ ap stamp_of (sym (mark_is f.1 s (is_it (Mark f.1) s h)))

listed_is : (u : Update) (p : Path) (s : Stamp) → differs_from (listing_of (entries_of u.directory p)) s ≡ false
    → listing_now world (listing world (present u) p) ≡ Some (stamp_of s)
unfolding world
listed_is u p s h = ap (listing_now world) (limit_is u.functions u.directory p) ∙ by (is_small (paths_list (entries_of u.directory p))) h
  where
    by : (b : Bool) → differs_from (cond b (Some (Hash (sha256 (enc (paths_list (entries_of u.directory p)))))) None) s ≡ false
        → listing_now world (cond b (Some (entries_of u.directory p)) None) ≡ Some (stamp_of s)
    by true i =
        ap (λ z. Some (stamp_of z))
        (sym (hash_is (sha256 (enc (paths_list (entries_of u.directory p)))) s (is_it (Hash (sha256 (enc (paths_list (entries_of u.directory p))))) s i)))
    by false i = cc

pub still : (u : Update) (kind : DepKind) (path : List ℕ) (s : Stamp) → IsTrue (allows kind (File path) (tag_of s))
    → (kind ≡ kinds.List → is_source path ≡ true) → (is_source path ≡ true → differs_from (stamp_in u.directory kind path) s ≡ false)
    → SourceStampStill world (present u) (query_of kind (File path)) (stamp_of s)
still u kinds.Exists p s a l h = λ k. there_is p (file_at u.directory p) s (h (kind_source p k))
still u kinds.ReadHash p s a l h = λ k. read_is p (file_at u.directory p) s (h (kind_source p k))
still u kinds.ReadMark p s a l h = λ k. marked_is p (file_at u.directory p) s k (h (kind_source p k))
still u kinds.Digest p s a l h = λ k. digest_is p (file_at u.directory p) s (h (kind_source p k))
still u kinds.List p s a l h = listed_is u p s (h (l refl))
still u kinds.Require p s a l h = cc
still u kinds.RequireHash p s a l h = cc
still u kinds.Run p s a l h = cc
