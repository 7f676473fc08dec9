use Rattle.std.proofs.Common.{◌≡◌, ◌∙◌, ℕ, List, ap, subst, sym}
use Rattle.std.proofs.lemmas.Result.{IfOk-weaker}
use Rattle.pie_record.specs.declared.task_record.TaskRecord.{TaskRecord}
use Rattle.pie_results.specs.inner.Files.{contents_in}
use Rattle.pie_topdown_build.specs.inner.News.{bytes_by, bytes_in, news_in}
use Rattle.pie_topdown_build.proofs.Finding.{Files, told_so}
use Rattle.pie_topdown_build.proofs.news.news_of.Goals as goal

pub returns-clause-told : goal.returns-clause-told
returns-clause-told c =
    let funcs = c.args.funcs.now in
    let ran = c.args.ran.now in
    let places = c.in_ok-places_of.field-0 in
    let files = c.as_slice.result.now in
    let rows = c.as_slice-3.result.now in
    let bytes : (q : List ℕ) → bytes_by files places q ≡ bytes_in (contents_in files) q =
    subst (λ (fs : Files). (q : List ℕ) → bytes_by fs places q ≡ bytes_in (contents_in fs) q) (c.as_slice-2.ensures.value ∙ sym c.as_slice.ensures.value)
    c.in_ok-places_of.ensures in
    IfOk-weaker c.all_of.result _ _
    (λ found told. told
    ∙ told_so funcs rows files ran c.in_ok-bytes_of.field-0.keys c.in_ok-digests_of.field-0 places c.in_ok-bytes_of.ensures c.in_ok-digests_of.ensures bytes
    ∙ ap (λ (fs : Files). news_in funcs rows (contents_in fs) ran) c.as_slice.ensures.value
    ∙ ap (λ (rs : List TaskRecord). news_in funcs rs (contents_in c.args.built.now.files.items) ran) c.as_slice-3.ensures.value) c.all_of.ensures.told
