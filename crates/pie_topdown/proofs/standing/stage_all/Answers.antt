use Rattle.std.proofs.Common.{◌≡◌, ℕ, List, Some, length, sym, ap, subst, ◌∙◌, arith}
use Rattle.std.specs.Prelude.{slice_get}
use Rattle.std.proofs.lemmas.Option.{slice_get-get_or}
use Rattle.pie_view.specs.Content.{Puts}
use Rattle.pie_topdown.proofs.Staging.{staged_first, staged_more}
use Rattle.pie_topdown.proofs.standing.stage_all.Goals as goal

pub contents-init : goal.contents-init
contents-init c = staged_first c.args.stage.now c.args.no.0 c.args.writes.now c.args.contents.items

pub contents-preserved-in_ok-put : goal.contents-preserved-in_ok-put
contents-preserved-in_ok-put c =
    let w = c.in-Some-get.field-0.now in
    let found = c.in-Some-get.ensures.lookup in
    let size = c.len.ensures in
    let same : c.len.result ≡ length c.pop.new.self.items = omega (arith, size) in
    staged_more c.args.stage.now c.contents.stage c.put.new.self c.args.no.0 c.args.writes.now c.args.contents.items c.contents.contents.items
    c.pop.new.self.items c.in-Some.content w c.contents.invariant c.in-Some.ensures.items
    (subst (λ (n : ℕ). slice_get c.args.writes.now n ≡ Some w) same
    (slice_get-get_or c.args.writes.now c.len.result w found.3.0 ∙ ap Some (sym (found.3.1 w))))
    (subst (λ (p : List ℕ). Puts c.contents.stage c.put.new.self c.args.no.0 p c.in-Some.content.items) c.in_ok-copy.ensures c.in_ok-put.ensures.puts)
