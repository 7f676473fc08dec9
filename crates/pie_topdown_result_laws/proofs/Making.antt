-- What is made of settled tables is what a clean build makes.
use Rattle.std.proofs.Common.{◌≡◌, ℕ, suc, true, Some, List, [], ◌∷◌, map, refl, sym, ap, ◌∙◌, arith}
use Rattle.std.specs.Prelude.{Contains, option_map}
use Rattle.pie_value.specs.declared.task.Task.{Task}
use Rattle.pie_value.specs.declared.verdict.Refusal.{Refusal}
use Rattle.pie_value.specs.declared.verdict.Verdict.TheVariants.{Accepted, Refused}
use Rattle.pie_value.specs.Canonical.{enc_task}
use Rattle.pie_graph.specs.Rows.{Row}
use Rattle.pie_record.specs.declared.records.Records.{Records}
use Rattle.pie_record.specs.declared.task_record.TaskRecord.{TaskRecord}
use Rattle.pie_record.specs.inner.Records.{record_of as kept_of}
use Rattle.pie_tables.specs.declared.tables.Tables.{Tables}
use Rattle.pie_view.specs.Content.{Staged}
use Rattle.pie_checks.specs.declared.built.Built.{Built}
use Rattle.pie_results.specs.inner.Made.{Makes}
use Rattle.pie_results.specs.inner.Stored.{HaveEnded, StoredWhere}
use Rattle.pie_walk.specs.Standing.{Stands}
use Rattle.pie_model.specs.Trees.{is_done as ends_well}
use Rattle.pie_model.specs.Records.{Record}
use Rattle.pie_model.specs.Verdict.{verdict}
use Rattle.pie_model_pipeline.specs.Clean.{with_output}
use Rattle.pie_model_pipeline.specs.Rows.{record_of, refusal_of, verdict_of}
use Rattle.pie_model_pipeline.specs.World.{world}
use Rattle.pie_builder_laws.proofs.Tabled.{record_by_number}
use Rattle.pie_core_laws.specs.Update.{Update, present}
use Rattle.pie_core_laws.specs.Ends.{IsDoneRoot}
use Rattle.pie_core_laws.specs.Exact.{IsExact}
use Rattle.pie_core_laws.specs.Keeping.{Separates}
use Rattle.pie_result_laws.specs.Accepted.{AreStagedNow, HasClean, HasProvided}
use Rattle.pie_result_laws.specs.Verdicts.{IsSettledRoot, RootsSettle}
use Rattle.pie_result_laws.proofs.Failing.{made_verdict}
use Rattle.pie_result_laws.proofs.Storing.{have_ended, accepted_clean}
use Rattle.pie_result_laws.proofs.Filing.{files_provided}
use Rattle.pie_left_laws.specs.Accepted.{OutIsMet}
use Rattle.pie_left_laws.proofs.Settling.{is_accepted}
use Rattle.pie_topdown_result_laws.specs.Settled.{all_settled, AreSettledTables}
use Rattle.pie_topdown_result_laws.specs.Results.{IsResultOf, KeptWritesAreThere}
use Rattle.pie_topdown_result_laws.proofs.Settling.{settled_exact, inside, kept_inside}

module _ (u : Update) (names : List Task) (records : Records) (rows : List Row) (places : List ℕ) (roots : List Task)
    (a : AreSettledTables u names records rows places roots) where
  -- each root is settled, and ended with a value
  settled_root : (r : Task) → Contains roots r → IsSettledRoot names records (all_settled rows places) r
  settled_root r i =
      let e = a.ended r i in
      record {
        number = e.number;
        named = e.named;
        settled = inside u names records rows places roots a e.number (kept_inside u names records rows places roots a e.number e.rec e.kept);
        rec = e.rec;
        kept = e.kept;
      }

  gave : (n : ℕ) (rec : TaskRecord) → kept_of records n ≡ Some rec → ends_well (record_of rec).outcome ≡ true
  gave n rec k =
      let is = record_by_number names records n rec.task a.tasks (a.named n rec k) ∙ ap (λ o. option_map record_of o) k in
      ap (λ (z : Record). ends_well z.outcome) (a.table.right (enc_task rec.task) (record_of rec) is)
      ∙ a.table.done (enc_task rec.task) (record_of rec) is

  pub done_root : (r : Task) → Contains roots r → IsDoneRoot names records (all_settled rows places) r
  done_root r i =
      let m = settled_root r i in
      record {
        number = m.number;
        named = m.named;
        output = record { settled = m.settled; rec = m.rec; kept = m.kept; gave = gave m.number m.rec m.kept };
      }

  settle : (rs : List Task) → ((r : Task) → Contains rs r → IsSettledRoot names records (all_settled rows places) r)
      → RootsSettle names records (all_settled rows places) rs
  settle [] h = tt
  settle (r ∷ rs) h = (h r (0, omega arith, refl), λ on. settle rs (λ x i. h x (suc i.0, omega (arith, i.1), i.2)))

  pub roots_settle : RootsSettle names records (all_settled rows places) roots
  roots_settle = settle roots settled_root

  pub settled_ended : Separates u → HaveEnded names records rows roots
  settled_ended apart =
      let e = settled_exact u names records rows places roots a in
      have_ended u names records (all_settled rows places) roots e.0 e.1 apart done_root

module _ (u : Update) (t : Tables) (rows : List Row) (places : List ℕ) (staged : Staged) (roots : List Task) (b : Built)
    (a : AreSettledTables u t.names t.records rows places roots) (apart : Separates u) (met : OutIsMet u) (now : AreStagedNow u t staged)
    (there : KeptWritesAreThere u t) (makes : Makes t rows staged roots b)
    (stored : HaveEnded t.names t.records rows roots → StoredWhere b.verdict t.names roots b) where
  exact : IsExact u t.names t.records (all_settled rows places) × Stands (all_settled rows places)
  exact = settled_exact u t.names t.records rows places roots a

  settles : RootsSettle t.names t.records (all_settled rows places) roots
  settles = roots_settle u t.names t.records rows places roots a

  now_verdict : verdict_of b.verdict ≡ verdict world (present u) u.roots
  now_verdict =
      made_verdict u t (all_settled rows places) staged roots b exact.0 exact.1 apart settles makes ∙ ap (verdict world (present u)) a.are_roots

  clean : b.verdict ≡ Accepted → HasClean u roots b
  clean accepted = accepted_clean u t (all_settled rows places) staged roots b exact.0 exact.1 apart settles makes stored accepted

  provided : b.verdict ≡ Accepted → HasProvided u t (all_settled rows places) roots b
  provided accepted = files_provided u t (all_settled rows places) staged roots b exact.0 exact.1 apart settles makes now accepted

  pub makes_clean : IsResultOf u b
  makes_clean = record {
    verdict = now_verdict;
    made = λ accepted.
        is_accepted u t (all_settled rows places) exact.0 exact.1 apart met (λ n rec h rested k. there n rec rested k) roots b a.are_roots
        (sym now_verdict ∙ ap verdict_of accepted) (clean accepted) (provided accepted);
    outputs = λ accepted. (clean accepted).outputs ∙ ap (map (with_output u.functions u.directory)) a.are_roots;
  }

-- a refused build needs the verdict alone
pub refused_clean : (u : Update) (b : Built) (r : Refusal) → b.verdict ≡ Refused r → refusal_of r ≡ verdict world (present u) u.roots → IsResultOf u b
refused_clean u b r is says = record {
  verdict = ap verdict_of is ∙ says;
  made = λ accepted. absurd (apart (sym is ∙ accepted));
  outputs = λ accepted. absurd (apart (sym is ∙ accepted));
}
  where
    apart : Refused r ≡ Accepted → ⊥
    apart e = cc
