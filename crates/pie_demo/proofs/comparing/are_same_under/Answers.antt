use Rattle.std.proofs.Common.{◌≡◌, ◌∙◌, sym, ap, Bool}
use Rattle.std.specs.Prelude.{◌↔◌, IsTrue}
use Rattle.std.specs.List.{list_all}
use Rattle.pie_base.specs.Path.{is_below}
use Rattle.pie_files.specs.inner.SureFiles.{held_by}
use Rattle.pie_demo.specs.Copies.{same_at, AreSameAt}
use Rattle.pie_demo.proofs.Setting.{if_ok}
use Rattle.pie_demo.proofs.Listing.{other_lists, alike_lists}
use Rattle.pie_demo.proofs.comparing.are_same_under.Goals as goal

pub returns-then-ne-clause-same : goal.returns-then-ne-clause-same
returns-then-ne-clause-same c =
    other_lists (held_by c.args.one.now) (held_by c.args.other.now) c.args.top.now c.as_slice.result.now c.as_slice-2.result.now
    (c.as_slice.ensures.value ∙ c.in_ok-paths.ensures.listed) (c.as_slice-2.ensures.value ∙ c.in_ok-others.ensures.listed) c.if-ne.ensures

pub returns-clause-same : goal.returns-clause-same
returns-clause-same c =
    let d = held_by c.args.one.now in
    let e = held_by c.args.other.now in
    let told = λ (b : Bool) (is : b ≡ list_all (same_at (held_by c.under.new.files) (held_by c.under-2.new.files)) c.as_slice-3.result.now).
    alike_lists d e c.args.top.now c.as_slice.result.now c.as_slice-2.result.now b
    (c.as_slice.ensures.value ∙ c.in_ok-paths.ensures.listed) (c.as_slice-2.ensures.value ∙ c.in_ok-others.ensures.listed) c.if-ne.ensures
    (is ∙ ap (λ x. list_all (same_at x (held_by c.under-2.new.files)) c.as_slice-3.result.now) c.in_ok-paths.ensures.same
    ∙ ap (λ x. list_all (same_at d x) c.as_slice-3.result.now) c.in_ok-others.ensures.same
    ∙ ap (list_all (same_at d e)) (c.as_slice-3.ensures.value ∙ sym c.as_slice.ensures.value)) in
    if_ok c.have_same.result _ (λ b. IsTrue b ↔ AreSameAt (is_below c.args.top.now) d e) told c.have_same.ensures.same
