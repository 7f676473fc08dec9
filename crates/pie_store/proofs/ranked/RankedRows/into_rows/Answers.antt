use Rattle.std.proofs.Common.{sym, ap, ◌∙◌}
use Rattle.pie_store.specs.inner.Reading.{rows_of}
use Rattle.pie_store.proofs.Ranking.{zip_firsts}
use Rattle.pie_store.proofs.ranked.RankedRows.into_rows.Goals as goal

pub tied-requires : goal.tied-requires
tied-requires c = record { names = c.self.invariant.ranked.names; needs = c.self.invariant.needs }

pub returns : goal.returns
returns c = c.tied.ensures ∙ sym (zip_firsts c.self.inside.rows.items c.self.inside.heights.items c.self.invariant.ranked.same) ∙ ap rows_of c.self.view_is
