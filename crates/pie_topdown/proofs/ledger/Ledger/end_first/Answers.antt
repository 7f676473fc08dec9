use Rattle.std.proofs.Common.{◌+◌, length, set, ap, ◌∙◌, subst}
use Rattle.std.specs.Vec.{vec_len}
use Rattle.std.proofs.lemmas.List.{length_push}
use Rattle.std.proofs.lemmas.Option.{slice_get_within}
use Rattle.pie_graph.specs.Numbers.{numbers}
use Rattle.pie_topdown.specs.inner.Ledgers.{row_with}
use Rattle.pie_old.specs.inner.Rows.{paths_in}
use Rattle.pie_record.specs.inner.Records.{Puts}
use Rattle.pie_topdown.proofs.Keeping.{ended_ledger, ended_grows}
use Rattle.pie_topdown.proofs.ledger.Ledger.end_first.Goals as goal

pub returns-clause-ledger : goal.returns-clause-ledger
returns-clause-ledger c =
    ended_ledger c.args.self.now _ c.args.no.0 c.args.rec (numbers c.args.needs.items) (paths_in c.args.rec.writes) c.requires.ledger c.in_ok-put.ensures.tables
    (c.put.ensures.names ∙ ap (λ t. t.names) c.set_row.ensures.tables)
    (subst (λ t. Puts t.records c.put.new.self.records c.args.no.0 c.args.rec) c.set_row.ensures.tables c.in_ok-put.ensures.puts)
    c.requires.unended (slice_get_within c.args.self.now.tables.names c.args.no.0 c.args.rec.task c.requires.may.named) c.requires.may.needs c.requires.may.ended
    (c.in_ok-set_row.ensures.set ∙ ap (λ ws. set c.args.self.now.rows c.args.no.0 (row_with (numbers c.args.needs.items) (paths_in ws))) c.as_slice.ensures)
    (ap (λ v. set v.items c.args.no.0 c.len.result) c.set_row.ensures.places
    ∙ ap (set c.args.self.now.places.items c.args.no.0) (c.len.ensures ∙ ap vec_len c.set_row.ensures.order ∙ c.args.self.now.order.ok.0))
    (ap length c.in_ok-push.ensures.items ∙ length_push c.set_row.new.self.order.items c.args.no
    ∙ ap (λ v. length v.items + 1) c.set_row.ensures.order)

pub returns-clause-grows : goal.returns-clause-grows
returns-clause-grows c =
    ended_grows c.args.self.now _ c.args.no.0 c.args.rec (c.put.ensures.names ∙ ap (λ t. t.names) c.set_row.ensures.tables)
    (subst (λ t. Puts t.records c.put.new.self.records c.args.no.0 c.args.rec) c.set_row.ensures.tables c.in_ok-put.ensures.puts) c.requires.unended
