use Rattle.std.proofs.Common.{◌≡◌, ◌∷◌, ◌+◌, ◌∙◌, ap, sym, subst, drop, cond, ◌≤◌, refl, arith, List}
use Rattle.std.proofs.lemmas.List.{drop_more}
use Rattle.pie_files.specs.declared.sure_files.Logged.{Logged}
use Rattle.pie_files.specs.inner.Story.{has_sync, synced, is_sync}
use Rattle.pie_files.proofs.Picking.{end_at_first, end_goes_on, no_later}
use Rattle.pie_files.proofs.crashed.synced_end.Goals as goal

pub loop-i-init : goal.loop-i-init
loop-i-init c = (end_at_first (has_sync c.args.log.now) c.args.log.now refl, omega arith)

pub loop-i-preserved : goal.loop-i-preserved
loop-i-preserved c =
    let log = c.args.log.now in
    let i = c.loop-i.i in
    let rest = drop (i + 1) log in
    let x = c.index-log-i.result in
    let next : drop i log ≡ x ∷ rest = drop_more log i x c.loop-i-test.true ∙ ap (λ y. y ∷ rest) (sym c.index-log-i.is) in
    let after = c.end_after-end.ensures in (
      c.loop-i.invariant.0 ∙ ap (λ (l : List Logged). cond (has_sync l) (i + synced l) c.loop-i.end) next
          ∙ end_goes_on i c.loop-i.end x rest ∙ ap (λ e. cond (has_sync rest) (i + 1 + synced rest) e) (sym after),
      subst (λ e. e ≤ i + 1) (sym after) (no_later i c.loop-i.end (is_sync x) c.loop-i.invariant.1),
    )
