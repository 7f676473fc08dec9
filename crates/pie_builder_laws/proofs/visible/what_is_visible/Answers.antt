use Rattle.pie_builder_laws.proofs.KindLemmas.{source_is_file, kept_is_empty, own_is_visible, others_are_visible}
use Rattle.pie_builder_laws.proofs.visible.what_is_visible.Goals as goal

pub returns-clause-sources : goal.returns-clause-sources
returns-clause-sources c = λ file own kids p h. source_is_file file own kids p h

pub returns-clause-kept : goal.returns-clause-kept
returns-clause-kept c = λ file own kids p h k. kept_is_empty file own kids p h k

pub returns-clause-own : goal.returns-clause-own
returns-clause-own c = λ file own kids p b h e. own_is_visible file own kids p b h e

pub returns-clause-others : goal.returns-clause-others
returns-clause-others c = λ file own kids p h e. others_are_visible file own kids p h e
