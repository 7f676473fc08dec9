-- An entered task starts to run: it is marked, and all else is as it was.
use Rattle.std.proofs.Common.{◌≡◌, ℕ, true, false, Some, ap, ◌∙◌, arith}
use Rattle.std.specs.Prelude.{slice_get, slice_index_or}
use Rattle.std.proofs.lemmas.List.{get_or-set_same, get_or-set_other}
use Rattle.std.proofs.lemmas.Option.{slice_get_within}
use Rattle.pie_value.specs.declared.task.Task.{Task}
use Rattle.pie_graph.specs.Numbers.{IsMarked}
use Rattle.pie_view.specs.Content.{content}
use Rattle.pie_topdown.specs.declared.builder.Builder.{Builder}
use Rattle.pie_topdown.specs.inner.Effects.{HasStarted}
use Rattle.pie_topdown.specs.inner.Frames.{IsSite}
use Rattle.pie_topdown.proofs.Touched.{IsSameBut, StaysOf}

module _ (b c : Builder) (n : ℕ) (t : Task) (ledger : HasStarted b.ledger n c.ledger) (rest : c ≡ record b { ledger = c.ledger })
    (named : slice_get b.ledger.tables.names n ≡ Some t) (is : IsSite b) where
  pub start_same : IsSameBut b c
  start_same = record {
    plan = ap (λ x. x.plan) rest;
    names = ledger.names;
    records = ledger.records;
    rows = ledger.rows;
    places = ap (λ v. v.items) ledger.places;
    stack = ap (λ x. x.stack) rest;
    known = ap (λ x. x.named) rest;
    failure = ap (λ x. x.failure) rest;
  }

  pub same_stage : c.stage ≡ b.stage
  same_stage = ap (λ x. x.stage) rest

  pub others_stay : (k : ℕ) → (k ≡ n → ⊥) → StaysOf b c k
  others_stay k apart = record {
    content = λ p. ap (λ st. content st k p) same_stage;
    flag = ap (λ flags. slice_index_or flags k false) ledger.ran ∙ get_or-set_other b.ledger.tables.ran.items n k true false apart;
  }

  pub is_started : IsMarked c.ledger.tables.ran.items n
  is_started =
      ap (λ flags. slice_index_or flags n false) ledger.ran
      ∙ get_or-set_same b.ledger.tables.ran.items n true false
      (let within = slice_get_within b.ledger.tables.names n t named in let flags = is.ledger.tables.flags in omega (arith, within, flags))
