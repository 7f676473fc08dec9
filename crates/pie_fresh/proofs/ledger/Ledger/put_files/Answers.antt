use Rattle.std.proofs.Common.{ℕ, List, sym, subst}
use Rattle.std.specs.Prelude.{All}
use Rattle.pie_fresh.specs.inner.Collected.{HasStaged}
use Rattle.pie_fresh.proofs.FileLemmas.{written_at}
use Rattle.pie_fresh.proofs.ledger.Ledger.put_files.Goals as goal

pub returns-in_ok-put_all-in-Some-clause-written : goal.returns-in_ok-put_all-in-Some-clause-written
returns-in_ok-put_all-in-Some-clause-written c =
    written_at c.args.self.now c.args.no.0 c.in-Some.rec.now c.put_all.new.files (sym c.in-Some.ensures)
    (subst (λ ws. All (λ (w : List ℕ × List ℕ). HasStaged c.args.self.now c.args.no.0 c.put_all.new.files w.0) ws) c.as_slice.ensures
    c.in_ok-put_all-in-Some.ensures.each)
