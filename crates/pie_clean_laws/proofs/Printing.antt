-- Reports that tell the same have one text and one line of JSON.
use Rattle.std.proofs.Common.{◌≡◌, ℕ, List, ◌++◌, map, sym, ap, subst, ◌∙◌}
use Rattle.std.specs.Prelude.{codes}
use Rattle.std.specs.List.{All}
use Rattle.serde_json.specs.Data.{member, no_members, number, object, string, unsigned}
use Rattle.serde_json.specs.Written.{compact_text}
use Rattle.pie_value.specs.declared.task.Task.{Task}
use Rattle.pie_value.specs.Shown.{shown_task}
use Rattle.pie_report.specs.declared.report.Report.{Report}
use Rattle.pie_report.specs.Objects.{fresh_data, outputs_data, texts_data, report_data, IsJson}
use Rattle.pie_report.specs.Order.{InTaskOrder}
use Rattle.pie_report.specs.Texts.{accepted_lines, fresh_line, lines, run_lines, text_with_runs, IsText}
use Rattle.pie_report.specs.Verdicts.{verdict_text}
use Rattle.pie_fresh.specs.Told.{IsTrueTask}
use Rattle.pie_clean_laws.specs.inner.Told.{TellTheSame}
use Rattle.pie_clean_laws.proofs.InOrder.{in_order_one}

module _ (r s : Report) (same : TellTheSame r s) (all : All IsTrueTask r.ran.items) where
  runs_one : (runs others : List Task) → InTaskOrder r.ran.items runs → InTaskOrder s.ran.items others → runs ≡ others
  runs_one runs others is also = in_order_one r.ran.items runs others all is (subst (λ (ts : List Task). InTaskOrder ts others) (sym same.ran) also)

  pub text_one : (text other : List ℕ) → IsText r text → IsText s other → text ≡ other
  text_one text other a b = a.2 ∙ by (runs_one a.0 b.0 a.1 b.1) ∙ sym b.2
    where
      by : a.0 ≡ b.0 → text_with_runs r a.0 ≡ text_with_runs s b.0
      by e =
          ap (text_with_runs r) e
          ∙ (λ i. verdict_text (same.verdict i) ++ (codes "\n" ++ (fresh_line (same.fresh i) ++ (run_lines b.0
          ++ (lines (codes "wrote ") (same.wrote i) ++ (lines (codes "removed ") (same.removed i)
          ++ accepted_lines (same.verdict i) (same.live i) (same.outputs i)))))))

  pub json_one : (text other : List ℕ) → IsJson r text → IsJson s other → text ≡ other
  json_one text other a b = a.2 ∙ by (runs_one a.0 b.0 a.1 b.1) ∙ sym b.2
    where
      data_same : report_data r b.0 ≡ report_data s b.0
      data_same = λ i.
          object (member (codes "fresh") (fresh_data (same.fresh i)) (member (codes "live") (number (unsigned (same.live i)))
          (member (codes "outputs") (outputs_data (same.outputs i)) (member (codes "ran") (texts_data (map shown_task b.0))
          (member (codes "removed") (texts_data (same.removed i)) (member (codes "verdict") (string (verdict_text (same.verdict i)))
          (member (codes "wrote") (texts_data (same.wrote i)) no_members)))))))

      by : a.0 ≡ b.0 → compact_text (report_data r a.0) ++ codes "\n" ≡ compact_text (report_data s b.0) ++ codes "\n"
      by e = ap (λ runs. compact_text (report_data r runs) ++ codes "\n") e ∙ ap (λ x. compact_text x ++ codes "\n") data_same
