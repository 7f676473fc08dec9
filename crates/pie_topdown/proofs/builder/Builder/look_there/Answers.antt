use Rattle.std.proofs.Common.{◌≡◌, Some, length, get_or, sym, ap, subst, ◌∙◌}
use Rattle.std.specs.Prelude.{slice_get}
use Rattle.std.proofs.lemmas.Option.{slice_get-get_or}
use Rattle.pie_graph.specs.Numbers.{numbers, AllBelow}
use Rattle.pie_topdown.specs.declared.builder.Builder.{Builder}
use Rattle.pie_compare.specs.inner.Standing.{DepStands, Tells}
use Rattle.pie_topdown.specs.inner.Places.{beside, AsksSource, IsUnentered}
use Rattle.pie_topdown.proofs.Growing.{check_below}
use Rattle.pie_topdown.proofs.Passing.{passes_by, finds_standing, finds_other}
use Rattle.pie_topdown.proofs.Stacking.{same_site}
use Rattle.pie_topdown.proofs.builder.Builder.look_there.Goals as goal

pub stands-requires-clause-site : goal.stands-requires-clause-site
stands-requires-clause-site g c =
    let e = c.source_differs.ensures.same in
    same_site c.args.self.now c.source_differs.new.self (ap (λ b. b.plan) e) (ap (λ b. b.ledger) e) (ap (λ b. b.stack) e) c.requires.site

pub stands-requires-clause-required : goal.stands-requires-clause-required
stands-requires-clause-required g c =
    subst (λ (b : Builder). AllBelow (length b.ledger.rows) (numbers c.args.check.now.required.items)) (sym c.source_differs.ensures.same)
    (check_below c.args.self.now.ledger c.args.check.now c.requires.site.ledger c.requires.check)

pub returns-then-branch-2-clause-place : goal.returns-then-branch-2-clause-place
returns-then-branch-2-clause-place g c =
    let k = c.args.check.now in
    let d = c.index-as_slice-check.result in
    let at : slice_get k.rec.deps k.at ≡ Some d = slice_get-get_or k.rec.deps k.at d c.requires.next.inside ∙ ap Some (sym (c.index-as_slice-check.is ∙ ap (λ ds. get_or ds k.at d) c.as_slice.ensures)) in
    let tells : Tells (DepStands (beside c.source_differs.new.self k.rec.writes) (numbers k.required.items) d) c.in_ok-stands.field-0
    (numbers c.stands.new.required.items) =
    subst (λ w. Tells (DepStands (beside c.source_differs.new.self w) (numbers k.required.items) d) c.in_ok-stands.field-0
    (numbers c.stands.new.required.items)) c.as_slice-own.ensures c.in_ok-stands.ensures in
    passes_by c.args.self.now.ledger c.source_differs.new.self k c.stands.new.required d (ap (λ b. b.ledger) c.source_differs.ensures.same) c.requires.check
    c.requires.next.inside c.requires.next.few at (tells.only c.if-branch-2.true)

pub returns-then-branch-2-clause-finds : goal.returns-then-branch-2-clause-finds
returns-then-branch-2-clause-finds g c =
    let k = c.args.check.now in
    let d = c.index-as_slice-check.result in
    let at : slice_get k.rec.deps k.at ≡ Some d = slice_get-get_or k.rec.deps k.at d c.requires.next.inside ∙ ap Some (sym (c.index-as_slice-check.is ∙ ap (λ ds. get_or ds k.at d) c.as_slice.ensures)) in
    let tells : Tells (DepStands (beside c.source_differs.new.self k.rec.writes) (numbers k.required.items) d) c.in_ok-stands.field-0
    (numbers c.stands.new.required.items) =
    subst (λ w. Tells (DepStands (beside c.source_differs.new.self w) (numbers k.required.items) d) c.in_ok-stands.field-0
    (numbers c.stands.new.required.items)) c.as_slice-own.ensures c.in_ok-stands.ensures in
    finds_standing (g.F.Files.holds c.args.files.now) c.args.self.now c.source_differs.new.self k c.stands.new.required d c.in_ok-stands.field-0 at
    (subst (AsksSource (g.F.Files.holds c.args.files.now) c.args.self.now.named c.source_differs.new.self.named d) c.if-branch.false
    c.in_ok-source_differs.ensures.asks)
    tells c.if-branch-2.true

pub returns-clause-finds : goal.returns-clause-finds
returns-clause-finds g c =
    let k = c.args.check.now in
    let d = c.index-as_slice-check.result in
    let at : slice_get k.rec.deps k.at ≡ Some d = slice_get-get_or k.rec.deps k.at d c.requires.next.inside ∙ ap Some (sym (c.index-as_slice-check.is ∙ ap (λ ds. get_or ds k.at d) c.as_slice.ensures)) in
    let tells : Tells (DepStands (beside c.source_differs.new.self k.rec.writes) (numbers k.required.items) d) c.in_ok-stands.field-0
    (numbers c.stands.new.required.items) =
    subst (λ w. Tells (DepStands (beside c.source_differs.new.self w) (numbers k.required.items) d) c.in_ok-stands.field-0
    (numbers c.stands.new.required.items)) c.as_slice-own.ensures c.in_ok-stands.ensures in
    finds_other (g.F.Files.holds c.args.files.now) c.args.self.now c.source_differs.new.self k _ c.stands.new.required d c.in_ok-stands.field-0 at
    c.requires.next.inside (ap (λ b. b.ledger) c.source_differs.ensures.same)
    (subst (IsUnentered c.args.self.now.ledger d.what) c.in_default.is c.in_ok-task.ensures)
    (subst (AsksSource (g.F.Files.holds c.args.files.now) c.args.self.now.named c.source_differs.new.self.named d) c.if-branch.false
    c.in_ok-source_differs.ensures.asks)
    tells c.if-branch-2.false
