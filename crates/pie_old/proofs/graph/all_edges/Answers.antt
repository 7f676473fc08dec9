use Rattle.std.proofs.Common.{◌≡◌, ◌∷◌, [], List, Global, map, rules, sym, subst, ◌∙◌}
use Rattle.std.specs.Prelude.{Vec}
use Rattle.pie_graph.specs.declared.edges.TaskNo.{TaskNo}
use Rattle.pie_graph.specs.Rows.{row_of}
use Rattle.pie_old.proofs.Moving.{AreRowsUpTo, up_to_more, up_to_all}
use Rattle.pie_old.proofs.Placing.{is_empty}
use Rattle.pie_old.proofs.graph.all_edges.Goals as goal

pub loop-nos-preserved : goal.loop-nos-preserved
loop-nos-preserved c =
    let next : c.loop-nos.nos-iterator.rest.items ≡ c.in-Some.nos ∷ c.next.new.self.rest.items = search rules in
    up_to_more c.args.rows.now c.in-Some.nos c.next.new.self.rest.items c.loop-nos.all.items c.push.new.self.items c.in_ok-edges.edges c.loop-nos.at
    c.index-rows-at.result c.index-rows-at.is c.in_ok-push.ensures.items c.in_ok-edges.ensures
    (subst (λ (rest : List (Vec TaskNo Global)). AreRowsUpTo c.args.rows.now rest (map row_of c.loop-nos.all.items) c.loop-nos.at)
    next c.loop-nos.invariant)

pub returns : goal.returns
returns c =
    let none : c.loop-nos.nos-iterator.rest.items ≡ [] =
    is_empty c.loop-nos.nos-iterator.rest.items (sym c.loop-nos.nos-iterator.rest.ok.0 ∙ c.in-None.ensures.steps.0) in
    up_to_all c.args.rows.now c.loop-nos.nos-iterator.rest.items (map row_of c.loop-nos.all.items) c.loop-nos.at none c.loop-nos.invariant
