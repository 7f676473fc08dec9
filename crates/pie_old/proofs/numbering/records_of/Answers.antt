use Rattle.std.proofs.Common.{◌≡◌, ◌∷◌, [], List, rules, sym, subst, ◌∙◌}
use Rattle.pie_record.specs.declared.task_record.TaskRecord.{TaskRecord}
use Rattle.pie_old.proofs.Placing.{AreNumbered, is_empty, numbered_more, numbered_all}
use Rattle.pie_old.proofs.numbering.records_of.Goals as goal

pub loop-rec-preserved : goal.loop-rec-preserved
loop-rec-preserved c =
    let next : c.loop-rec.rec-iterator.rest.items ≡ c.in-Some.rec ∷ c.next.new.self.rest.items = search rules in
    numbered_more c.args.rows.items c.next.new.self.rest.items c.in-Some.rec c.loop-rec.records c.put.new.self c.loop-rec.no
    (subst (λ (rest : List TaskRecord). AreNumbered c.args.rows.items rest c.loop-rec.records c.loop-rec.no) next c.loop-rec.invariant)
    c.in_ok-put.ensures.puts

pub returns : goal.returns
returns c =
    let none : c.loop-rec.rec-iterator.rest.items ≡ [] =
    is_empty c.loop-rec.rec-iterator.rest.items (sym c.loop-rec.rec-iterator.rest.ok.0 ∙ c.in-None.ensures.steps.0) in
    numbered_all c.args.rows.items c.loop-rec.records c.loop-rec.no
    (subst (λ (rest : List TaskRecord). AreNumbered c.args.rows.items rest c.loop-rec.records c.loop-rec.no) none c.loop-rec.invariant)
