-- What is noted and told of looks and listings.
use Rattle.std.proofs.Common.{◌≡◌, ℕ, ◌≤◌, Bool, true, false, cond, not, ◌&&◌, Some, None, List, [], ◌∷◌, map, length, refl, sym, ap, ◌∙◌, arith}
use Rattle.std.specs.Prelude.{nat_le, leb}
use Rattle.std.proofs.lemmas.Bool.{le-leb}
use Rattle.sha2.specs.Sha256.{sha256}
use Rattle.pie_base.specs.Path.{is_out, is_source}
use Rattle.pie_value.specs.declared.event.Answer.TheVariants as answers
use Rattle.pie_value.specs.declared.event.By.{By}
use Rattle.pie_value.specs.declared.event.By.TheVariants as stamped
use Rattle.pie_value.specs.declared.stamp.Stamp.{Stamp}
use Rattle.pie_value.specs.declared.stamp.Stamp.TheVariants as stamps
use Rattle.pie_value.specs.declared.value.Value.{Value}
use Rattle.pie_value.specs.Tree.{Tree, TPath, TList, items_of}
use Rattle.pie_value.specs.Values.{tree_of}
use Rattle.pie_value.specs.Size.{size_of, depth_of, deepest_of}
use Rattle.pie_value.specs.Canonical.{enc}
use Rattle.pie_value.specs.Limits.{is_small}
use Rattle.pie_value.proofs.Lengths.{length_enc}
use Rattle.pie_stamp.specs.declared.observed.Observed.TheVariants.{Output as SeenOutput}
use Rattle.pie_stamp.specs.Stamps.{StampsHash}
use Rattle.pie_record.specs.declared.dep.DepKind.TheVariants as kinds
use Rattle.pie_parser.specs.FunctionTrees.{FunctionTree}
use Rattle.pie_files.specs.Directory.{Directory, entries_of}
use Rattle.pie_model.specs.declared.words.Kind.TheVariants.{Out, Kept, Source}
use Rattle.pie_model.specs.declared.words.Look.TheVariants as looks
use Rattle.pie_model.specs.Evaluation.{listing, within_limit}
use Rattle.pie_model.specs.Records.{Looked, observed, mark_stamp, Stamp as ModelStamp}
use Rattle.pie_model_pipeline.specs.Words.{look_by}
use Rattle.pie_model_pipeline.specs.Rows.{stamp_of}
use Rattle.pie_model_pipeline.specs.World.{world, project}
use Rattle.pie_builder_laws.specs.Visible.{kind_in}
use Rattle.pie_builder_laws.specs.Looks.{Sight, IsSightAt, IsLook, IsListing, of_path, presence_stamp, presence_answer, reading_kind}
use Rattle.pie_builder_laws.specs.Looks.{reading_stamp, reading_answer, digest_stamp, digest_answer}
use Rattle.pie_builder_laws.proofs.KindLemmas.{kinds_same}

-- ---- looks

pub presence_is : (path : List ℕ) (seen : Sight)
    → IsLook looks.Exists path seen (of_path kinds.Exists path (presence_stamp seen)) (presence_answer seen)
presence_is path None = record { observation = refl; answer = refl }
presence_is path (Some f) = record { observation = refl; answer = refl }

pub digest_is : (path : List ℕ) (seen : Sight) → IsLook looks.Digest path seen (of_path kinds.Digest path (digest_stamp seen)) (digest_answer seen)
unfolding world
digest_is path None = record { observation = refl; answer = refl }
digest_is path (Some f) = record { observation = refl; answer = refl }

-- the stamp of a look by mark
marked : (path : List ℕ) (b : List ℕ) (m : ℕ) → IsSightAt path (Some (b, m))
    → stamp_of (cond (not (is_out path)) (stamps.Mark m) (stamps.Hash (sha256 b))) ≡ mark_stamp world (kind_in path) b m
unfolding world
marked path b m seen = by (is_out path) refl (is_source path) refl
  where
    by : (s : Bool) → is_out path ≡ s → (t : Bool) → is_source path ≡ t
        → stamp_of (cond (not s) (stamps.Mark m) (stamps.Hash (sha256 b))) ≡ mark_stamp world (cond s Out (cond t Source Kept)) b m
    by true e t f = refl
    by false e true f = refl
    by false e false f = absurd (there (seen e f))
      where
        there : {X : Type 0} {x : X} → Some x ≡ None → ⊥
        there h = cc

pub reading_is : (by : By) (path : List ℕ) (seen : Sight) → IsSightAt path seen
    → IsLook (look_by by) path seen (of_path (reading_kind by) path (reading_stamp by path seen)) (reading_answer seen)
unfolding world
reading_is stamped.Hash path None s = record { observation = refl; answer = refl }
reading_is stamped.Raw path None s = record { observation = refl; answer = refl }
reading_is stamped.Mark path None s = record { observation = refl; answer = refl }
reading_is stamped.Hash path (Some f) s = record { observation = refl; answer = refl }
reading_is stamped.Raw path (Some f) s = record { observation = refl; answer = refl }
reading_is stamped.Mark path (Some f) s = record {
  observation = ap (λ (z : ModelStamp). observed (Looked looks.ByMark path) z)
      (marked path f.0 f.1 s ∙ ap (λ k. mark_stamp world k f.0 f.1) (sym (kinds_same path)));
  answer = refl;
}

-- ---- listings

pub hash_is : (v : Value) (stamp : Stamp) → StampsHash (SeenOutput v) stamp → stamp ≡ stamps.Hash (sha256 (enc (tree_of v)))
hash_is v stamp h = h.2 ∙ ap (λ bs. stamps.Hash (sha256 bs)) h.1.bytes

pub listing_is : (dir : List ℕ) (entries : List (List ℕ))
    → IsListing dir entries (of_path kinds.List dir (stamps.Hash (sha256 (enc (TList (items_of (map TPath entries))))))) (answers.Entries (map TPath entries))
unfolding world
listing_is dir entries = record { observation = refl; answer = refl }

flat : (ps : List (List ℕ)) → deepest_of (items_of (map TPath ps)) ≤ 1
flat [] = omega arith
flat (p ∷ ps) = omega (arith, flat ps)

limit_same : (t : Tree) (es : List (List ℕ)) → depth_of t ≤ 64 → within_limit (leb (length (enc t)) 1048576) es ≡ cond (is_small t) (Some es) None
limit_same t es d = ap (λ n. within_limit (leb n 1048576) es) (length_enc t) ∙ by (leb (size_of t) 1048576) (nat_le (depth_of t) 64) (le-leb (depth_of t) 64 d)
  where
    by : (b c : Bool) → c ≡ true → within_limit b es ≡ cond (b && c) (Some es) None
    by true true e = refl
    by false true e = refl
    by true false e = cc
    by false false e = refl

pub limit_is : (fs : List FunctionTree) (d : Directory) (dir : List ℕ) → listing world (project fs d) dir
    ≡ cond (is_small (TList (items_of (map TPath (entries_of d dir))))) (Some (entries_of d dir)) None
unfolding world
limit_is fs d dir = limit_same (TList (items_of (map TPath (entries_of d dir)))) (entries_of d dir) (omega (arith, flat (entries_of d dir)))
