-- Stamps of the program from those of the model: where an observation would get the stamp that was recorded, what is known doesn't differ from that.
use Rattle.std.proofs.Common.{◌≡◌, ℕ, Bool, true, false, cond, Option, Some, None, List, refl, sym, ap, subst, ◌∙◌}
use Rattle.std.proofs.lemmas.Bool.Decides.{Decides-eqb}
use Rattle.sha2.specs.Sha256.{sha256}
use Rattle.pie_value.specs.declared.stamp.Stamp.{Stamp}
use Rattle.pie_value.specs.declared.stamp.Stamp.TheVariants as stamps
use Rattle.pie_value.specs.declared.value.Value.{Value}
use Rattle.pie_value.specs.Values.{tree_of}
use Rattle.pie_value.specs.Canonical.{enc, IsCanonical}
use Rattle.pie_value.specs.Limits.{is_small}
use Rattle.pie_record.specs.declared.dep.DepKind.{DepKind}
use Rattle.pie_record.specs.declared.dep.DepKind.TheVariants as kinds
use Rattle.pie_parser.specs.FunctionTrees.{FunctionTree}
use Rattle.pie_files.specs.Directory.{Directory, entries_of}
use Rattle.pie_named.specs.declared.named.Named.{Named}
use Rattle.pie_named.specs.declared.stamps.FileStamp.{FileStamp}
use Rattle.pie_named.specs.declared.stamps.FileStamp.TheVariants as files
use Rattle.pie_named.specs.inner.Stamped.{is_stamp, presence_of, hash_of, mark_of, listing_of, paths_list, stamp_in, differs_from}
use Rattle.pie_named.specs.inner.Known.{IsTrueOf, known_stamp, known_differs}
use Rattle.pie_compare.specs.inner.Standing.{out_stamp}
use Rattle.pie_model.specs.declared.words.Kind.TheVariants.{Source}
use Rattle.pie_model.specs.declared.words.Look.TheVariants as looks
use Rattle.pie_model.specs.Paths.{Path, kind_of}
use Rattle.pie_model.specs.Seen.{seen_file}
use Rattle.pie_model.specs.Evaluation.{listing}
use Rattle.pie_model.specs.Records as records
use Rattle.pie_model.specs.Records.{look_stamp, mark_stamp}
use Rattle.pie_model.specs.StampNow.{listing_now}
use Rattle.pie_model.proofs.Basics.{bytes_same}
use Rattle.pie_model_pipeline.specs.Rows.{stamp_of}
use Rattle.pie_model_pipeline.specs.Answers.{value_with}
use Rattle.pie_model_pipeline.specs.World.{world, project}
use Rattle.pie_model_pipeline.proofs.Joining.{values_told}
use Rattle.pie_builder_laws.proofs.Lookings.{limit_is}
use Rattle.pie_compare_laws.proofs.Ways.{one_some}

pub no_some : {X : Type 0} {x : X} → None ≡ Some x → ⊥
no_some h = cc

-- ---- stamps of the program from those of the model

pub absent_back : (s : Stamp) → records.Absent ≡ stamp_of s → s ≡ stamps.Absent
absent_back stamps.Absent h = refl
absent_back stamps.Present h = cc
absent_back (stamps.Hash x) h = cc
absent_back (stamps.Mark x) h = cc
absent_back (stamps.Whole x) h = cc
absent_back stamps.Done h = cc

pub present_back : (s : Stamp) → records.Present ≡ stamp_of s → s ≡ stamps.Present
present_back stamps.Absent h = cc
present_back stamps.Present h = refl
present_back (stamps.Hash x) h = cc
present_back (stamps.Mark x) h = cc
present_back (stamps.Whole x) h = cc
present_back stamps.Done h = cc

pub hash_back : (x : List ℕ) (s : Stamp) → records.Hash x ≡ stamp_of s → s ≡ stamps.Hash x
hash_back x stamps.Absent h = cc
hash_back x stamps.Present h = cc
hash_back x (stamps.Hash y) h = by h
  where
    by : records.Hash x ≡ records.Hash y → stamps.Hash y ≡ stamps.Hash x
    by e = cc
hash_back x (stamps.Mark y) h = cc
hash_back x (stamps.Whole y) h = cc
hash_back x stamps.Done h = cc

pub mark_back : (m : ℕ) (s : Stamp) → records.Mark m ≡ stamp_of s → s ≡ stamps.Mark m
mark_back m stamps.Absent h = cc
mark_back m stamps.Present h = cc
mark_back m (stamps.Hash y) h = cc
mark_back m (stamps.Mark y) h = by h
  where
    by : records.Mark m ≡ records.Mark y → stamps.Mark y ≡ stamps.Mark m
    by e = cc
mark_back m (stamps.Whole y) h = cc
mark_back m stamps.Done h = cc

pub success_back : (s : Stamp) → records.Success ≡ stamp_of s → s ≡ stamps.Done
success_back stamps.Absent h = cc
success_back stamps.Present h = cc
success_back (stamps.Hash x) h = cc
success_back (stamps.Mark x) h = cc
success_back (stamps.Whole x) h = cc
success_back stamps.Done h = refl

pub whole_back : (v : Value) (s : Stamp) → IsCanonical (tree_of v) (enc (tree_of v))
    → ((u : Value) → s ≡ stamps.Whole u → IsCanonical (tree_of u) (enc (tree_of u))) → records.WholeValue (enc (tree_of v)) ≡ stamp_of s
    → s ≡ stamps.Whole v
whole_back v stamps.Absent k l h = cc
whole_back v stamps.Present k l h = cc
whole_back v (stamps.Hash x) k l h = cc
whole_back v (stamps.Mark x) k l h = cc
whole_back v (stamps.Whole u) k l h = ap stamps.Whole (sym (values_told u (l u refl)) ∙ ap value_with (sym (by h)) ∙ values_told v k)
  where
    by : records.WholeValue (enc (tree_of v)) ≡ records.WholeValue (enc (tree_of u)) → enc (tree_of v) ≡ enc (tree_of u)
    by e = cc
whole_back v stamps.Done k l h = cc

-- the stamp of a file under `out`
pub out_back : (kind : DepKind) (o : Option (List ℕ)) (s : Stamp) → stamp_of (out_stamp kind o) ≡ stamp_of s → s ≡ out_stamp kind o
out_back kind None s h = by kind h
  where
    by : (k : DepKind) → stamp_of (out_stamp k None) ≡ stamp_of s → s ≡ out_stamp k None
    by kinds.Exists i = absent_back s i
    by kinds.ReadHash i = absent_back s i
    by kinds.ReadMark i = absent_back s i
    by kinds.Digest i = absent_back s i
    by kinds.List i = absent_back s i
    by kinds.Require i = absent_back s i
    by kinds.RequireHash i = absent_back s i
    by kinds.Run i = absent_back s i
out_back kinds.Exists (Some x) s h = present_back s h
out_back kinds.ReadHash (Some x) s h = hash_back x s h
out_back kinds.ReadMark (Some x) s h = hash_back x s h
out_back kinds.Digest (Some x) s h = hash_back x s h
out_back kinds.List (Some x) s h = hash_back x s h
out_back kinds.Require (Some x) s h = hash_back x s h
out_back kinds.RequireHash (Some x) s h = hash_back x s h
out_back kinds.Run (Some x) s h = hash_back x s h

-- ---- stamps that are known of sources

same_is : (now : FileStamp) (s : Stamp) → is_stamp now s ≡ true → differs_from (Some now) s ≡ false
same_is now s h = ap (λ b. cond b false true) h

pub there_same : (p : Path) (o : Option (List ℕ × ℕ)) (s : Stamp) → look_stamp world looks.Exists p (seen_file o) ≡ stamp_of s
    → differs_from (presence_of o) s ≡ false
there_same p None s h = subst (λ z. differs_from (Some files.Absent) z ≡ false) (sym (absent_back s h)) refl
there_same p (Some f) s h = subst (λ z. differs_from (Some files.Present) z ≡ false) (sym (present_back s h)) refl

hash_same : (x : List ℕ) (s : Stamp) → records.Hash x ≡ stamp_of s → differs_from (Some (files.Hash x)) s ≡ false
hash_same x s h =
    subst (λ z. differs_from (Some (files.Hash x)) z ≡ false) (sym (hash_back x s h)) (same_is (files.Hash x) (stamps.Hash x) (bytes_same x))

pub read_same : (p : Path) (o : Option (List ℕ × ℕ)) (s : Stamp) → look_stamp world looks.ByHash p (seen_file o) ≡ stamp_of s
    → differs_from (hash_of o) s ≡ false
unfolding world
read_same p None s h = subst (λ z. differs_from (Some files.Absent) z ≡ false) (sym (absent_back s h)) refl
read_same p (Some f) s h = hash_same (sha256 f.0) s h

pub digest_same : (p : Path) (o : Option (List ℕ × ℕ)) (s : Stamp) → look_stamp world looks.Digest p (seen_file o) ≡ stamp_of s
    → differs_from (hash_of o) s ≡ false
unfolding world
digest_same p None s h = subst (λ z. differs_from (Some files.Absent) z ≡ false) (sym (absent_back s h)) refl
digest_same p (Some f) s h = hash_same (sha256 f.0) s h

pub marked_same : (p : Path) (o : Option (List ℕ × ℕ)) (s : Stamp) → kind_of p ≡ Source
    → look_stamp world looks.ByMark p (seen_file o) ≡ stamp_of s → differs_from (mark_of o) s ≡ false
marked_same p None s k h = subst (λ z. differs_from (Some files.Absent) z ≡ false) (sym (absent_back s h)) refl
marked_same p (Some f) s k h =
    let e : s ≡ stamps.Mark f.1 = mark_back f.1 s (sym (ap (λ z. mark_stamp world z f.0 f.1) k) ∙ h) in
    subst (λ z. differs_from (Some (files.Mark f.1)) z ≡ false) (sym e)
    (same_is (files.Mark f.1) (stamps.Mark f.1) ((Decides-eqb f.1 f.1).1 refl))

pub listed_same : (fs : List FunctionTree) (d : Directory) (p : Path) (s : Stamp) → listing_now world (listing world (project fs d) p) ≡ Some (stamp_of s)
    → differs_from (listing_of (entries_of d p)) s ≡ false
unfolding world
listed_same fs d p s h = by (is_small (paths_list (entries_of d p))) (sym (ap (listing_now world) (limit_is fs d p)) ∙ h)
  where
    by : (b : Bool) → listing_now world (cond b (Some (entries_of d p)) None) ≡ Some (stamp_of s)
        → differs_from (cond b (Some (files.Hash (sha256 (enc (paths_list (entries_of d p)))))) None) s ≡ false
    by true i = hash_same (sha256 (enc (paths_list (entries_of d p)))) s (one_some (records.Hash (sha256 (enc (paths_list (entries_of d p))))) (stamp_of s) i)
    by false i = absurd (no_some i)

-- what is known doesn't differ where the stamp of now doesn't
pub known_same : (d : Directory) (n : Named) (kind : DepKind) (p : Path) (s : Stamp) → IsTrueOf d n → differs_from (stamp_in d kind p) s ≡ false
    → known_differs (known_stamp n kind p) s ≡ false
known_same d n kind p s t h = by (known_stamp n kind p) refl
  where
    is_now : (k : DepKind) (o : Option FileStamp) → known_stamp n k p ≡ Some o → o ≡ stamp_in d k p
    is_now kinds.Exists o e = t.there p o e
    is_now kinds.ReadHash o e = t.hashes p o e
    is_now kinds.ReadMark o e = t.marks p o e
    is_now kinds.Digest o e = t.hashes p o e
    is_now kinds.List o e = t.lists p o e
    is_now kinds.Require o e = t.hashes p o e
    is_now kinds.RequireHash o e = t.hashes p o e
    is_now kinds.Run o e = t.hashes p o e

    by : (o : Option (Option FileStamp)) → known_stamp n kind p ≡ o → known_differs o s ≡ false
    by None e = refl
    by (Some o) e = ap (λ z. differs_from z s) (is_now kind o e) ∙ h
