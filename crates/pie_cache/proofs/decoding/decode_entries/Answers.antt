use Rattle.std.proofs.Common.{arith}
use Rattle.pie_cache.proofs.Coming.{refuses_with}
use Rattle.pie_cache.proofs.Faulting.{tells_fault}
use Rattle.pie_cache.proofs.Wholes.{decoded_text, decoded_count, decoded_kept, only_one, refused_none}
use Rattle.pie_cache.proofs.decoding.decode_entries.Goals as goal

pub returns-clause-text : goal.returns-clause-text
returns-clause-text c = decoded_text _ _ (λ i. omega (arith, c.type_inv.bytes i)) c.said.ensures

pub returns-clause-only : goal.returns-clause-only
returns-clause-only c = only_one _ _ c.said.ensures

pub returns-clause-refused : goal.returns-clause-refused
returns-clause-refused c = refused_none _ _ c.said.ensures

pub returns-clause-fault : goal.returns-clause-fault
returns-clause-fault c = tells_fault _ _ (λ i. omega (arith, c.type_inv.bytes i)) c.said.ensures

pub returns-clause-first : goal.returns-clause-first
returns-clause-first c = refuses_with _ _ (λ i. omega (arith, c.type_inv.bytes i)) c.said.ensures

pub returns-clause-count : goal.returns-clause-count
returns-clause-count c = decoded_count c.said.result c.args.bytes.now (λ i. omega (arith, c.type_inv.bytes i)) c.said.ensures

pub returns-clause-kept : goal.returns-clause-kept
returns-clause-kept c = decoded_kept c.said.result c.args.bytes.now (λ i. omega (arith, c.type_inv.bytes i)) c.said.ensures
