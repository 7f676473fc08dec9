-- What a plan knows of the tasks of the earlier build.
use Rattle.std.proofs.Common.{◌≡◌, ℕ, suc, ◌≤◌, Bool, true, false, cond, List, [], ◌∷◌, Option, Some, length, map, refl, sym, ap, subst, ◌∙◌, inl, inr, arith, bytes_eq}
use Rattle.std.specs.Prelude.{IsSome, slice_get, slice_index_or}
use Rattle.std.proofs.lemmas.List.{length-map, get_or-map}
use Rattle.std.proofs.lemmas.Option.{slice_get_within, get_or_from_slice_get}
use Rattle.pie_value.specs.declared.task.Task.{Task}
use Rattle.pie_value.specs.Canonical.{enc_task}
use Rattle.pie_code.specs.declared.code.Code.{Code}
use Rattle.pie_parser.specs.FunctionTrees.{FunctionTree}
use Rattle.pie_files.specs.Directory.{Directory}
use Rattle.pie_record.specs.declared.task_record.TaskRecord.{TaskRecord}
use Rattle.pie_old.specs.inner.Code.{is_same_code}
use Rattle.pie_model.proofs.Basics.{same_bytes}
use Rattle.pie_model_pipeline.specs.Rows.{record_of}
use Rattle.pie_model_pipeline.specs.World.{world}
use Rattle.pie_earlier_laws.specs.Rows.{record_among}
use Rattle.pie_earlier_laws.proofs.OldRows.{rows_few}
use Rattle.pie_core_laws.specs.Update.{Update, earlier, old_record}
use Rattle.pie_topdown_result_laws.specs.Builds.{IsFromStore, IsNowHere}
use Rattle.pie_topdown.specs.declared.plan.Plan.{Plan}
use Rattle.pie_topdown.specs.inner.Due.{IsKnownAs, KnowsCode}
use Rattle.pie_topdown.specs.inner.Rooted.{AreOldTables, IsPlanOf}
use Rattle.pie_topdown.proofs.Planning.{task_at}

-- the first of these records that is of a task
record RowOf (rows : List TaskRecord) (bytes : List ℕ) : Type 0 where
  number : ℕ
  rec : TaskRecord
  at : slice_get rows number ≡ Some rec
  is : enc_task rec.task ≡ bytes

row_of : (rows : List TaskRecord) (bytes : List ℕ) → IsSome (record_among (map record_of rows) bytes) → RowOf rows bytes
row_of [] bytes some = absurd (let e : false ≡ true = some in cc)
row_of (r ∷ rs) bytes some = by (bytes_eq bytes (enc_task r.task)) refl some (λ later. row_of rs bytes later)
  where
    by : (b : Bool) → bytes_eq bytes (enc_task r.task) ≡ b → IsSome (cond b (Some (record_of r)) (record_among (map record_of rs) bytes))
        → (IsSome (record_among (map record_of rs) bytes) → RowOf rs bytes) → RowOf (r ∷ rs) bytes
    by true e so later = record { number = 0; rec = r; at = refl; is = sym (same_bytes bytes (enc_task r.task) e) }
    by false e so later =
        let q = later so in
        record { number = suc q.number; rec = q.rec; at = q.at; is = q.is }

module _ (fs : List FunctionTree) (codes : List Code) (funcs digests : List (List ℕ × List ℕ)) (rows : List TaskRecord) (p : Plan)
    (is : IsPlanOf fs codes funcs digests rows p) (u : Update) (held : Option Directory) (roots : List Task) (here : IsNowHere u held fs roots)
    (stored : IsFromStore u funcs digests rows) where
  -- a store hasn't more records than a build may have tasks
  few : length rows ≤ 50000
  unfolding world
  few =
      subst (λ n. n ≤ 50000) (length-map rows record_of)
      (subst (λ rs. length rs ≤ 50000) (sym stored.rows_are) (rows_few world (earlier u) u.old_roots here.build.accepted))

  known : (bytes : List ℕ) → IsSome (old_record u bytes) → AreOldTables rows p.earlier → IsKnownAs p bytes
  known bytes some (inr many) = absurd (let more = many.0 in let size = few in omega (arith, more, size))
  known bytes some (inl t) =
      let q = row_of rows bytes (subst (λ rs. IsSome (record_among rs bytes)) (sym stored.rows_are) some) in
      record {
        number = q.number;
        rec = q.rec;
        kept = t.records q.number ∙ q.at;
        named = subst (λ (ts : List Task). slice_get ts q.number ≡ Some q.rec.task) (sym t.names) (task_at rows q.number q.rec q.at);
        is = q.is;
      }

  pub knows_code : KnowsCode u funcs digests p
  knows_code =
      let f : Task → Bool = λ (t : Task). is_same_code funcs digests t.func in
      record {
        tasks = is.tasks;
        each = λ n t named.
            ap (λ (flags : List Bool). slice_index_or flags n false) is.same
            ∙ get_or-map f p.earlier.names n t false
            (omega (arith, slice_get_within p.earlier.names n t named, length-map p.earlier.names f))
            ∙ ap f (get_or_from_slice_get p.earlier.names n t t named);
        olds = λ bytes some. known bytes some is.old;
      }
