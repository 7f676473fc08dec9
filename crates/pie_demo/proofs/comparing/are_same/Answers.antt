use Rattle.std.proofs.Common.{◌≡◌, codes, ◌∙◌, sym, refl}
use Rattle.pie_files.specs.inner.SureFiles.{held_by}
use Rattle.pie_demo.proofs.Listing.{file_told, below_told, all_compared}
use Rattle.pie_demo.proofs.comparing.are_same.Goals as goal

pub returns-clause-same : goal.returns-clause-same
returns-clause-same c =
    let d = held_by c.args.one.now in
    let e = held_by c.args.other.now in
    let d1 : held_by c.is_same.new.one ≡ d = c.in_ok-same_pipeline.ensures.one in
    let e1 : held_by c.is_same.new.other ≡ e = c.in_ok-same_pipeline.ensures.other in
    let d2 : held_by c.is_same-2.new.one ≡ d = c.in_ok-same_roots.ensures.one ∙ d1 in
    let e2 : held_by c.is_same-2.new.other ≡ e = c.in_ok-same_roots.ensures.other ∙ e1 in
    let d3 : held_by c.are_same_under.new.one ≡ d = c.in_ok-same_sources.ensures.one ∙ d2 in
    let e3 : held_by c.are_same_under.new.other ≡ e = c.in_ok-same_sources.ensures.other ∙ e2 in
    let d4 : held_by c.are_same_under-2.new.one ≡ d = c.in_ok-same_outputs.ensures.one ∙ d3 in
    let e4 : held_by c.are_same_under-2.new.other ≡ e = c.in_ok-same_outputs.ensures.other ∙ e3 in
    let told = all_compared d e c.in_ok-same_pipeline.same_pipeline c.in_ok-same_roots.same_roots c.in_ok-same_sources.same_sources
    c.in_ok-same_outputs.same_outputs c.in_ok-same_own.same_own
    (file_told d d e e _ c.in_ok-pipeline.pipeline (codes "pie.pipeline") refl refl c.in_ok-pipeline.ensures c.in_ok-same_pipeline.ensures.same)
    (file_told d _ e _ _ c.in_ok-roots.roots (codes "pie.roots") d1 e1 c.in_ok-roots.ensures c.in_ok-same_roots.ensures.same)
    (below_told d _ e _ _ c.in_ok-src.src (codes "src") d2 e2 c.in_ok-src.ensures c.in_ok-same_sources.ensures.same)
    (below_told d _ e _ _ c.in_ok-out.out (codes "out") d3 e3 c.in_ok-out.ensures c.in_ok-same_outputs.ensures.same)
    (below_told d _ e _ _ c.in_ok-own.own (codes ".pie") d4 e4 c.in_ok-own.ensures c.in_ok-same_own.ensures.same) in
    let is = c.are_all.ensures in
    (λ h. told.0 (sym is ∙ h), λ same. is ∙ told.1 same)
