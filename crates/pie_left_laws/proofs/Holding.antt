-- What is held by old records and named paths is what the directory has.
use Rattle.std.proofs.Common.{ℕ, ◌≡◌, Bool, true, false, cond, Option, Some, None, option_map, List, [], ◌∷◌, map, sym, ◌∙◌, ap, refl}
use Rattle.std.specs.Prelude.{◌||◌}
use Rattle.std.specs.List.{list_any}
use Rattle.sha2.specs.Sha256.{sha256}
use Rattle.pie_base.specs.Path.{same_text}
use Rattle.pie_files.specs.Directory.{file_at}
use Rattle.pie_graph.proofs.EdgeOrder.{text_tie}
use Rattle.pie_record.specs.declared.task_record.TaskRecord.{TaskRecord}
use Rattle.pie_diff.specs.Hashes.{hash_in, held_at}
use Rattle.pie_diff.specs.Known.{writes_of, known_at}
use Rattle.pie_model.specs.Paths.{Path, among}
use Rattle.pie_model.specs.Seen.{first_write}
use Rattle.pie_model.specs.Forest.{live_evaluations}
use Rattle.pie_model.specs.Built.{store_rows, provided_at}
use Rattle.pie_model_pipeline.specs.Rows.{record_of}
use Rattle.pie_model_pipeline.specs.World.{world}
use Rattle.pie_earlier_laws.proofs.Pipelines.{out_kind}
use Rattle.pie_core_laws.specs.Update.{Update, IsUpdate, earlier}
use Rattle.pie_left_laws.specs.Held.{HoldsRightly}
use Rattle.pie_left_laws.proofs.Provides.{kept_provide, hash_is}

-- the first hash that is held is the first that was written
held_first : (ws : List (Path × List ℕ)) (q : Path) → held_at ws q ≡ first_write q ws
held_first [] q = refl
held_first (x ∷ ws) q = ap (λ b. cond b (Some x.1) (held_at ws q)) (text_tie q x.0) ∙ ap (λ o. cond (same_text q x.0) (Some x.1) o) (held_first ws q)

any_among : (q : Path) (names : List Path) → list_any (same_text q) names ≡ among q names
any_among q [] = refl
any_among q (n ∷ names) = by (same_text q n) (any_among q names)
  where
    by : (b : Bool) → list_any (same_text q) names ≡ among q names → (b || list_any (same_text q) names) ≡ cond b true (among q names)
    by true e = refl
    by false e = e

hash_bytes : (o : Option (List ℕ × ℕ)) → option_map sha256 (option_map (λ (f : List ℕ × ℕ). f.0) o) ≡ option_map (λ (f : List ℕ × ℕ). sha256 f.0) o
hash_bytes None = refl
hash_bytes (Some f) = refl

world_hash : (o : Option (List ℕ)) → option_map world.hash o ≡ option_map sha256 o
world_hash None = refl
world_hash (Some b) = ap Some (hash_is b)

pub holds_rightly : (u : Update) (kept : List TaskRecord) (held : List (List ℕ × List ℕ)) → IsUpdate u
    → map record_of kept ≡ store_rows world (earlier u) u.old_roots → ((q : List ℕ) → held_at held q ≡ known_at u.directory kept u.names q)
    → HoldsRightly held u.directory
holds_rightly u kept held h stored known q on =
    known q ∙ ap (λ b. cond b (cond (list_any (same_text q) u.names) (hash_in u.directory q) (held_at (writes_of kept) q)) None) on
    ∙ by (list_any (same_text q) u.names) refl
  where
    by : (b : Bool) → list_any (same_text q) u.names ≡ b → cond b (hash_in u.directory q) (held_at (writes_of kept) q) ≡ hash_in u.directory q
    by true e = refl
    by false e =
        held_first (writes_of kept) q
        ∙ kept_provide (earlier u) u.old_roots h.build.accepted kept stored q
        ∙ world_hash (provided_at (live_evaluations world (earlier u) u.old_roots) q)
        ∙ ap (option_map sha256) (sym (h.build.provided q (out_kind q on)) ∙ h.changes.provided q (out_kind q on) (sym (any_among q u.names) ∙ e))
        ∙ hash_bytes (file_at u.directory q)
