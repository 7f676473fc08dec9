use Rattle.pie_clean_laws.proofs.Going.{edits_go_on}
use Rattle.pie_clean_laws.proofs.Cleaning.{clean_base, afresh_base}
use Rattle.pie_clean_laws.proofs.Refusing.{refused_base}
use Rattle.pie_clean_laws.proofs.basing.builds_are_bases.Goals as goal

pub returns-clause-edits : goal.returns-clause-edits
returns-clause-edits c = λ e left now list based edit apart. edits_go_on e left now list based edit apart

pub returns-clause-clean : goal.returns-clause-clean
returns-clause-clean c = λ d left r clean accepted. clean_base d left r clean accepted

pub returns-clause-afresh : goal.returns-clause-afresh
returns-clause-afresh c = λ d left r afresh accepted. afresh_base d left r afresh accepted

pub returns-clause-refused : goal.returns-clause-refused
returns-clause-refused c = λ e d left list b goes is paths kept. refused_base e d left list b goes is paths kept
