use Rattle.pie_step_laws.proofs.FileLemmas.{path_writer, provided_written, written_provided}
use Rattle.pie_step_laws.proofs.files.files_are_provided.Goals as goal

pub returns-clause-one : goal.returns-clause-one
returns-clause-one c = λ w P roots R names kept B K accepted s t p b c i j e k. path_writer w P roots R names kept B K accepted s t p b c i j e k

pub returns-clause-written : goal.returns-clause-written
returns-clause-written c = λ w P roots R names kept B K accepted t p b i e. written_provided w P roots R names kept B K accepted t p b i e

pub returns-clause-provided : goal.returns-clause-provided
returns-clause-provided c = λ w P roots R names kept B K p b e. provided_written w P roots R names kept B K p b e
