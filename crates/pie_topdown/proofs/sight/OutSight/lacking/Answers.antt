use Rattle.std.proofs.Common.{ℕ, sym, ◌∙◌, subst}
use Rattle.pie_topdown.specs.inner.Sights.{IsStaged}
use Rattle.pie_topdown.proofs.Fetched.{found_staged, others_seen, one_writer}
use Rattle.pie_topdown.proofs.sight.OutSight.lacking.Goals as goal

pub returns-then-is_some-2-clause-has : goal.returns-then-is_some-2-clause-has
returns-then-is_some-2-clause-has c = λ none.
    let here = found_staged (λ bytes. bytes.now) c.get-in-By.result c.args.self.now.stage.now c.in-By.no.0 c.args.path.now c.get-in-By.ensures
    (sym c.is_some-in-By.ensures ∙ c.if-is_some-2.true) in
    others_seen c.args.self.now.rows.now c.args.self.now.stage.now c.args.notes.now.number c.args.notes.now.needs c.args.path.now c.in_ok-no.field-0
    c.in_ok-no.ensures (λ one same. subst (λ (k : ℕ). IsStaged c.args.self.now.stage.now k c.args.path.now) (one_writer c.in-By.no one (sym c.in-By.is ∙ same)) here)

pub returns-in_default : goal.returns-in_default
returns-in_default c = record {
  lacks = tt;
  has = λ none.
      others_seen c.args.self.now.rows.now c.args.self.now.stage.now c.args.notes.now.number c.args.notes.now.needs c.args.path.now c.in_ok-no.field-0
      c.in_ok-no.ensures (λ one same. absurd (c.in_default.not-By one same));
}
