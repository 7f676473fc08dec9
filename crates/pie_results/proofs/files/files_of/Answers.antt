use Rattle.std.proofs.Common.{List, ℕ, ◌<◌, ◌≤◌, sym, subst, length}
use Rattle.std.proofs.lemmas.List.{length-map}
use Rattle.std.proofs.lemmas.List.Elements.{All-contains}
use Rattle.pie_graph.specs.declared.edges.TaskNo.{TaskNo}
use Rattle.pie_graph.specs.Numbers.{numbers}
use Rattle.pie_results.proofs.FileLemmas.{HaveWritten, files_are, have_more}
use Rattle.pie_results.proofs.Starting.{item, item_is, number_at, number_in, seen_all}
use Rattle.pie_results.proofs.files.files_of.Goals as goal

pub put_files-requires-clause-number : goal.put_files-requires-clause-number
put_files-requires-clause-number c =
    All-contains (λ (k : ℕ). k < length c.args.tables.now.names) (numbers c.args.live.now) (item c.args.live.now c.loop-no.no-index).0 c.requires.live
    (number_in c.args.live.now c.loop-no.no-index (item c.args.live.now c.loop-no.no-index) c.loop-no-test.true
    (item_is c.args.live.now c.loop-no.no-index c.loop-no-test.true))

pub loop-no-preserved : goal.loop-no-preserved
loop-no-preserved c =
    let this = item c.args.live.now c.loop-no.no-index in
    let is = item_is c.args.live.now c.loop-no.no-index c.loop-no-test.true in
    let at = number_at c.args.live.now c.loop-no.no-index this c.loop-no-test.true is in
    record {
      out = c.in_ok-put_files.ensures.out;
      of_tasks = c.in_ok-put_files.ensures.of_tasks (numbers c.args.live.now) (number_in c.args.live.now c.loop-no.no-index this c.loop-no-test.true is)
          c.loop-no.invariant.of_tasks;
      written = have_more c.args.tables.now c.args.stage.now (numbers c.args.live.now) c.loop-no.no-index this.0 c.loop-no.files c.put_files.new.files
          at.0 at.1 c.in_ok-put_files.ensures.keeps c.in_ok-put_files.ensures.written c.loop-no.invariant.written;
    }

pub returns-clause-files : goal.returns-clause-files
returns-clause-files c =
    let live = numbers c.args.live.now in
    files_are c.args.tables.now c.args.stage.now live c.loop-no.files c.in_ok-list.list.items c.listed.ensures.ordered c.in_ok-list.ensures.entries
    c.loop-no.invariant.of_tasks
    (seen_all (λ (seen : List ℕ). HaveWritten c.args.tables.now c.args.stage.now seen c.loop-no.files) live c.loop-no.no-index
    (subst (λ (n : ℕ). n ≤ c.loop-no.no-index) (sym (length-map c.args.live.now (λ (t : TaskNo). t.0))) c.loop-no-test.false) c.loop-no.invariant.written)
