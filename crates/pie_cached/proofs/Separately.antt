-- A cache of true entries is honest, where what was met is told apart.
use Rattle.std.proofs.Common.{◌≡◌, ◌∙◌, ℕ, List, ◌++◌, Option, None, Some, refl, sym, ap, subst, inl, inr}
use Rattle.std.specs.Prelude.{Contains}
use Rattle.std.proofs.lemmas.List.Elements.{All-contains, Contains-get_or}
use Rattle.sha2.specs.Sha256.{sha256}
use Rattle.pie_build.specs.Left.{IsProjectOf}
use Rattle.pie_check_laws.proofs.Members.{here, there}
use Rattle.pie_files.specs.Directory.{Directory, file_at}
use Rattle.pie_manner_laws.proofs.Whole.{has_manners}
use Rattle.pie_model.specs.Evaluation.{Project}
use Rattle.pie_model.specs.Separate.{StampsSeparate}
use Rattle.pie_model_pipeline.specs.World.{project, world}
use Rattle.pie_parser.specs.FunctionTrees.{FunctionTree}
use Rattle.pie_topdown_build.proofs.Alike.{one_meaning}
use Rattle.pie_value.specs.Canonical.{enc_task, IsCanonicalTask}
use Rattle.pie_value.specs.declared.task.Task.{Task}
use Rattle.pie_cached.specs.Honest.{AreHonestIn, EntriesSeparate, Entry, IsApart, IsEntryIn, IsHonestCache, IsHonestEntry, IsHonestFor, IsKeyIn}
use Rattle.pie_cached.specs.Honest.{IsTrueCache, IsTrueEntry, IsWholeEntry}
use Rattle.pie_cached.specs.Kept.{cache_file}
use Rattle.pie_cached.proofs.Hashing.{one_front, one_hash}

-- no two byte strings that are met have one SHA-256
apart_met : (Met : List ℕ → Type 0) (old now : Project) → StampsSeparate world old now Met → (a b : List ℕ) → Met a → Met b → sha256 a ≡ sha256 b → a ≡ b
unfolding world
apart_met Met old now s a b i j e = s.hashes a b i j e

module _ (Met : List FunctionTree → List Task → List ℕ → Type 0) (seen : List Directory) (d : Directory) (separate : EntriesSeparate Met seen d)
    (funcs : List (List ℕ × List ℕ)) (roots : List Task) (now : IsProjectOf d funcs roots) (t : Task) (digest : List ℕ)
    (listed : Contains funcs (t.func, digest)) where
  -- an entry of the task's file that is of the task
  module _ (entry : Entry) (kept : IsEntryIn d entry) (whole : IsWholeEntry entry) (is : IsTrueEntry seen (cache_file t digest) entry)
      (same : entry.0.task ≡ t) where
    listed_now : Contains funcs (entry.0.task.func, digest)
    listed_now = subst (λ (x : Task). Contains funcs (x.func, digest)) (sym same) listed

    key_now : IsKeyIn d d (digest ++ enc_task t)
    key_now = record {
      entry = entry;
      kept = kept;
      funcs = funcs;
      roots = roots;
      found = now;
      digest = digest;
      listed = listed_now;
      is = ap (λ (x : Task). digest ++ enc_task x) (sym same);
    }

    key_then : IsKeyIn d is.built (is.digest ++ enc_task entry.0.task)
    key_then = record {
      entry = entry;
      kept = kept;
      funcs = is.funcs;
      roots = is.roots;
      found = is.found;
      digest = is.digest;
      listed = is.listed;
      is = refl;
    }

    -- the path gives the digest back
    one_digest : digest ≡ is.digest
    one_digest =
        let one = separate.keys d is.built (digest ++ enc_task t) (is.digest ++ enc_task entry.0.task) (here d seen) (there d is.built seen is.among) key_now
        key_then (one_hash (digest ++ enc_task t) (is.digest ++ enc_task entry.0.task) is.is) in
        one_front digest is.digest (enc_task t) (one ∙ ap (λ (x : Task). is.digest ++ enc_task x) same)

    canonical : IsCanonicalTask entry.0.task (enc_task entry.0.task)
    canonical = record { encodable = whole.0.storable.task; name = whole.0.parts.task.0; leaves = whole.0.parts.task.1; bytes = refl }

    apart : IsApart (Met now.functions roots) d now.functions is.built is.found.functions entry
    apart = separate.each funcs is.funcs roots is.roots now is.built is.among is.found entry kept is.evaluated

    honest_entry : IsHonestEntry (Met now.functions roots) d now.functions entry
    honest_entry = record {
      before = project is.found.functions is.built;
      was = is.evaluated.was;
      done = is.evaluated.done;
      meaning =
          one_meaning (Met now.functions roots)
          (apart_met (Met now.functions roots) (project is.found.functions is.built) (project now.functions d) apart.stamps) is.built d is.funcs funcs
          is.roots roots is.found now apart.spelled_then apart.spelled entry.0.task digest canonical
          (subst (λ (x : List ℕ). Contains is.funcs (entry.0.task.func, x)) (sym one_digest) is.listed) listed_now;
      polite = has_manners is.found.functions (enc_task entry.0.task);
      met = apart.met;
      apart = apart.stamps;
      wrote = is.evaluated.wrote;
    }

  -- the task's file
  honest_file : (o : Option (List ℕ × ℕ)) → file_at d (cache_file t digest) ≡ o → AreHonestIn (IsTrueEntry seen (cache_file t digest)) o
      → AreHonestIn (IsHonestFor (Met now.functions roots) d now.functions t) o
  honest_file None found h = tt
  honest_file (Some f) found (inl over) = inl over
  honest_file (Some f) found (inr (inl other)) = inr (inl other)
  honest_file (Some f) found (inr (inr x)) = inr (inr (x.0, x.1, λ k e low. each (Contains-get_or x.0 k e low) (x.2 k e low)))
    where
      each : {entry : Entry} → Contains x.0 entry → IsTrueEntry seen (cache_file t digest) entry
          → IsHonestFor (Met now.functions roots) d now.functions t entry
      each {entry} among is same =
          honest_entry entry (record { task = t; digest = digest; file = f; there = found; entries = x.0; is = x.1; listed = among })
          (All-contains IsWholeEntry x.0 entry x.1.each among) is same

pub honest_if_true : (Met : List FunctionTree → List Task → List ℕ → Type 0) (seen : List Directory) (d : Directory) → EntriesSeparate Met seen d
    → IsTrueCache seen d → IsHonestCache Met d
honest_if_true Met seen d separate entries = record {
  each = λ funcs roots now t digest listed.
      honest_file Met seen d separate funcs roots now t digest listed (file_at d (cache_file t digest)) refl (entries t digest);
}
