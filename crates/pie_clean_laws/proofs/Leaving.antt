-- What an accepted clean build leaves, at each path.
use Rattle.std.proofs.Common.{ℕ, ◌≡◌, Bool, true, false, cond, List, map, Some, None, refl, sym, ap, subst, ◌∙◌, bytes_eq}
use Rattle.std.specs.Prelude.{option_map}
use Rattle.pie_base.specs.Path.{is_out, same_text}
use Rattle.pie_build.specs.Left.{Leaves, LeavesBuilt, LeavesBy, IsProjectOf}
use Rattle.pie_earlier_laws.proofs.Pipelines.{kind_out, out_kind}
use Rattle.pie_files.specs.Directory.{Directory}
use Rattle.pie_left_laws.proofs.Putting.{is_false}
use Rattle.pie_model.specs.Built.{built_by}
use Rattle.pie_model.specs.Paths.{kind_of}
use Rattle.pie_model.specs.declared.words.Kind.{Kind}
use Rattle.pie_model.specs.declared.words.Kind.TheVariants.{Out, Kept, Source}
use Rattle.pie_model.proofs.Basics.{same_bytes}
use Rattle.pie_model_pipeline.specs.Rows.{verdict_of}
use Rattle.pie_report.specs.declared.report.Report.{Report}
use Rattle.pie_value.specs.Canonical.{enc_task}
use Rattle.pie_value.specs.declared.task.Task.{Task}
use Rattle.pie_value.specs.declared.verdict.Verdict.{Verdict}
use Rattle.pie_value.specs.declared.verdict.Verdict.TheVariants.{Accepted}
use Rattle.pie_incremental.specs.Clean.{IsAfresh, IsAsClean, LeavesClean}
use Rattle.pie_incremental.specs.Earlier.{live_of}
use Rattle.pie_incremental.specs.Own.{bytes_at, open_path, pending_path, store_path}
use Rattle.pie_clean_laws.specs.Left.{IsLeftOf}
use Rattle.pie_clean_laws.proofs.Cleaning.{provided_content, rests, source_rests}

some_same : {A : Type 0} {x y : A} → Some x ≡ Some y → x ≡ y
some_same e = cc

out_kept : Out ≡ Kept → ⊥
out_kept e = cc

-- ---- one that is not refused

module _ (d left : Directory) (r : Report) (funcs : List (List ℕ × List ℕ)) (roots : List Task) (found : IsProjectOf d funcs roots)
    (l : LeavesBuilt found.functions funcs roots d r (Some left)) where
  bytes_by : (q : List ℕ) (k : Kind) → kind_of q ≡ k → bytes_at l.left q ≡ built_by l.text d (live_of found.functions d roots) q k
  bytes_by q Out k = l.place.provided q (kind_out q k) ∙ provided_content found.functions d (map enc_task roots) l.files l.clean.built.1 q
  bytes_by q Source k = ap (option_map (λ (f : List ℕ × ℕ). f.0)) (l.place.rest q (source_rests q k))
  bytes_by q Kept k = kept (bytes_eq q store_path) refl (bytes_eq q open_path) refl (bytes_eq q pending_path) refl
    where
      kept : (s : Bool) → bytes_eq q store_path ≡ s → (o : Bool) → bytes_eq q open_path ≡ o → (n : Bool) → bytes_eq q pending_path ≡ n
          → bytes_at l.left q ≡ cond s (Some l.text) (cond (cond o true (cond n true false)) None (bytes_at d q))
      kept true e o f n g = ap (bytes_at l.left) (same_bytes q store_path e) ∙ l.place.store
      kept false e true f n g =
          ap (bytes_at l.left) (same_bytes q open_path f) ∙ ap (option_map (λ (f : List ℕ × ℕ). f.0)) l.place.no_marker
      kept false e false f true g =
          ap (bytes_at l.left) (same_bytes q pending_path g) ∙ ap (option_map (λ (f : List ℕ × ℕ). f.0)) l.place.no_pending
      kept false e false f false g =
          ap (option_map (λ (f : List ℕ × ℕ). f.0))
          (l.place.rest q (rests (is_out q) (same_text q open_path) (same_text q store_path) (same_text q pending_path)
          (is_false (is_out q) (λ o. out_kept (sym (out_kind q o) ∙ k))) f e g))

  built_left : IsLeftOf d left
  built_left = record {
    project = record { functions = found.functions; roots = roots; says = found.says; accepted = l.clean.verdict };
    has = record {
      funcs = funcs;
      digests = found.digests;
      text = l.text;
      rows = l.rows;
      records = l.clean.built.0;
      store = l.store;
      bytes = λ q. ap (λ x. bytes_at x q) (some_same l.told) ∙ bytes_by q (kind_of q) refl;
    };
  }

pub clean_left : (d left : Directory) (r : Report) → Leaves d r (Some left) → r.verdict ≡ Accepted → IsLeftOf d left
clean_left d left r leaves accepted =
    built_left d left r leaves.0 leaves.1 leaves.2 (by_verdict r.verdict accepted leaves.3.1)
  where
    by_verdict : (v : Verdict) → v ≡ Accepted → LeavesBy leaves.2.functions leaves.0 leaves.1 v d r (Some left)
        → LeavesBuilt leaves.2.functions leaves.0 leaves.1 d r (Some left)
    by_verdict v is l = subst (λ w. LeavesBy leaves.2.functions leaves.0 leaves.1 w d r (Some left)) is l

pub afresh_left : (d left : Directory) (r : Report) → IsAfresh d r (Some left) → r.verdict ≡ Accepted → IsLeftOf d left
afresh_left d left r a accepted =
    clean_left d left a.clean (subst (Leaves d a.clean) (sym (a.after_is accepted)) a.leaves) (sym (ap (λ (x : Report). x.verdict) a.is) ∙ accepted)

pub same_left : (d left : Directory) (r : Report) → IsAsClean d r (Some left) → r.verdict ≡ Accepted → IsLeftOf d left
same_left d left r c accepted =
    let l : LeavesClean c.found.functions c.funcs c.roots d r (Some left) = c.left accepted in
    record {
      project = record {
        functions = c.found.functions;
        roots = c.roots;
        says = c.found.says;
        accepted = ap verdict_of (sym accepted) ∙ c.verdict;
      };
      has = record {
        funcs = c.funcs;
        digests = c.found.digests;
        text = l.text;
        rows = l.rows;
        records = l.records;
        store = l.store;
        bytes = λ q. ap (λ x. bytes_at x q) (some_same l.told) ∙ l.built.bytes q;
      };
    }
