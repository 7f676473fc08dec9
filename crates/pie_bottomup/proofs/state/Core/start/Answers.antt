use Rattle.std.proofs.Common.{◌≡◌, ◌∙◌, List, Some, length, refl, sym, ap, subst, arith}
use Rattle.std.specs.Prelude.{IfSome}
use Rattle.std.proofs.lemmas.List.{length-map, length_push}
use Rattle.pie_graph.specs.declared.edges.TaskNo.{TaskNo}
use Rattle.pie_graph.specs.Numbers.{numbers}
use Rattle.pie_graph.specs.Rows.{Row, row_at}
use Rattle.pie_running.specs.inner.Noted.{Noted}
use Rattle.pie_bottomup.specs.declared.state.InHand.{InHand}
use Rattle.pie_bottomup.specs.inner.Running.{IsKnown}
use Rattle.pie_bottomup.proofs.Owning.{started_own, own_tables}
use Rattle.pie_bottomup.proofs.Sites.{site_tables}
use Rattle.std.proofs.lemmas.Option.{slice_get_within}
use Rattle.pie_parser.specs.FunctionTrees.{FunctionTree}
use Rattle.pie_value.specs.declared.task.Task.{Task}
use Rattle.pie_code.specs.declared.code.Code.{Code}
use Rattle.pie_running.specs.inner.Coded.{HasFunction}
use Rattle.pie_running.specs.inner.Frames.{IsStarted}
use Rattle.pie_compare_laws.proofs.Ways.{one_some}
use Rattle.pie_bottomup.proofs.GoingEnds.{started_whole}
use Rattle.pie_bottomup.proofs.Keeping.{tasks_run, run_marked, ran_alone}
use Rattle.pie_bottomup.proofs.state.Core.start.Goals as goal

pub returns-clause-turns : goal.returns-clause-turns
returns-clause-turns c =
    let self = c.args.self.now in
    let needs : numbers c.callees-from.result.now ≡ (row_at self.frames.walk.rows c.args.no.0).needs =
    c.callees-from.ensures.callees ∙ ap (λ (rows : List Row). (row_at rows c.args.no.0).needs) (c.rows.ensures ∙ ap (λ w. w.rows) c.walk.ensures) in
    let hand : InHand = record { no = c.args.no; from = length c.callees-from.result.now; task = c.in_ok-task.task } in
    record {
      site = site_tables self c.runs.new.self c.requires.taken.site c.runs.ensures.tables c.runs.ensures.names c.runs.ensures.records
          (Some hand);
      state = record {
        holds = c.requires.taken.holds;
        ready = c.in_ok-task.ensures.started.ready;
        own = own_tables self c.runs.new.self c.args.no (length c.callees-from.result.now) c.in_ok-task.task.notes c.runs.ensures.names c.runs.ensures.records
            (Some hand) (started_own self c.args.no (length c.callees-from.result.now) c.task.result.now c.in_ok-task.task.notes c.task.ensures
            (subst (λ o. IfSome o (IsKnown self.plan)) c.task.ensures c.requires.known.known)
            (sym (length-map c.callees-from.result.now (λ (t : TaskNo). t.0)) ∙ ap length needs)
            c.in_ok-task.ensures.started.notes);
      };
    }

pub returns-clause-nearer : goal.returns-clause-nearer
returns-clause-nearer c = omega (arith, ap (λ (n : Noted). n.left) c.in_ok-task.ensures.started.notes)

pub returns-clause-spends : goal.returns-clause-spends
returns-clause-spends c = record {
  plan = refl;
  room = omega arith;
  one = omega (arith, ap length c.in_ok-task.ensures.runs, length_push c.args.runs.now c.task.result.now);
  tasks = tasks_run c.args.self.now.tables c.runs.new.self c.args.no.0 c.runs.ensures.names c.runs.ensures.records c.runs.ensures.ran
      (omega (arith, slice_get_within c.args.self.now.tables.names c.args.no.0 c.task.result.now c.task.ensures, c.requires.taken.site.tables.flags));
}

pub returns-clause-started : goal.returns-clause-started
returns-clause-started c = record {
  task = c.task.result.now;
  named = c.task.ensures;
  ran = run_marked c.args.self.now.tables c.runs.new.self c.args.no.0 c.runs.ensures.ran
      (omega (arith, slice_get_within c.args.self.now.tables.names c.args.no.0 c.task.result.now c.task.ensures, c.requires.taken.site.tables.flags));
  added = c.in_ok-task.ensures.runs;
  alone = ran_alone c.args.self.now.tables c.runs.new.self c.args.no.0 c.runs.ensures.ran;
}

pub returns-clause-whole : goal.returns-clause-whole
returns-clause-whole c = λ code_is u before now from.
    let self = c.args.self.now in
    let task = c.in_ok-task.task in
    let started = c.in_ok-task.ensures.started in
    let its : from.task ≡ c.task.result.now = one_some from.task c.task.result.now (sym from.takes.named ∙ c.task.ensures) in
    let needs : numbers c.callees-from.result.now ≡ (row_at self.frames.walk.rows c.args.no.0).needs =
    c.callees-from.ensures.callees ∙ ap (λ (rows : List Row). (row_at rows c.args.no.0).needs) (c.rows.ensures ∙ ap (λ w. w.rows) c.walk.ensures) in
    let hand : InHand = record { no = c.args.no; from = length c.callees-from.result.now; task = task } in
    started_whole u self c.runs.new.self c.args.no hand before from c.requires.taken.holds c.runs.ensures.names c.runs.ensures.records c.runs.ensures.ran
    (omega (arith, slice_get_within self.tables.names c.args.no.0 from.task from.takes.named, c.requires.taken.site.tables.flags)) refl
    (sym (length-map c.callees-from.result.now (λ (t : TaskNo). t.0)) ∙ ap length needs)
    (subst (HasFunction u.functions self.plan.code.now from.task) (sym started.coded)
    (subst (λ (fs : List FunctionTree). HasFunction fs self.plan.code.now from.task c.args.code.now) now.plan.functions (code_is from.task from.takes.named)))
    (subst (λ (code : Code). IsStarted code from.task c.args.no.0 task) (sym started.coded)
    (subst (λ (x : Task). IsStarted c.args.code.now x c.args.no.0 task) (sym its) started))
