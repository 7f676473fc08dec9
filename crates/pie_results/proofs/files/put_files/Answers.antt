use Rattle.std.proofs.Common.{ℕ, List, sym, subst, ◌∙◌, arith}
use Rattle.std.specs.Prelude.{All}
use Rattle.pie_results.specs.inner.Files.{HasStaged, Wrote}
use Rattle.pie_results.proofs.FileLemmas.{ran_at, written_at, wrote_all}
use Rattle.pie_results.proofs.files.put_files.Goals as goal

pub returns-in_ok-put_all-in-Some-clause-of_tasks : goal.returns-in_ok-put_all-in-Some-clause-of_tasks
returns-in_ok-put_all-in-Some-clause-of_tasks c = λ live is_live all.
    c.in_ok-put_all-in-Some.ensures.of_tasks c.args.tables.now live is_live
    (subst (λ ws. All (λ (w : List ℕ × List ℕ). Wrote c.args.tables.now c.args.no.0 w.0) ws) (sym c.as_slice.ensures)
    (wrote_all c.args.tables.now c.args.no.0 c.in-Some.rec.now
    (ran_at c.args.tables.now.ran.items c.args.no.0 c.index.result.now (omega (arith, c.requires.number, c.requires.tables.flags)) c.index.ensures
    c.if-not-index.false)
    (sym c.in-Some.ensures) (sym c.is_done.ensures ∙ c.if-is_done.true)))
    all

pub returns-in_ok-put_all-in-Some-clause-written : goal.returns-in_ok-put_all-in-Some-clause-written
returns-in_ok-put_all-in-Some-clause-written c =
    written_at c.args.tables.now c.args.stage.now c.args.no.0 c.in-Some.rec.now c.put_all.new.files (sym c.in-Some.ensures)
    (subst (λ ws. All (λ (w : List ℕ × List ℕ). HasStaged c.args.stage.now c.args.no.0 c.put_all.new.files w.0) ws) c.as_slice.ensures
    c.in_ok-put_all-in-Some.ensures.each)
