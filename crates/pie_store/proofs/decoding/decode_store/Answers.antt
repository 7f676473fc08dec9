use Rattle.std.proofs.Common.{arith}
use Rattle.pie_store.proofs.StoreTexts.{decoded_text}
use Rattle.pie_store.proofs.WholeAgain.{only_one, refused_none, all_writable}
use Rattle.pie_store.proofs.Faulting.{tells_fault}
use Rattle.pie_store.proofs.FaultWhole.{refuses_with}
use Rattle.pie_store.proofs.decoding.decode_store.Goals as goal

pub returns-clause-text : goal.returns-clause-text
returns-clause-text c = decoded_text _ _ (λ i. omega (arith, c.type_inv.bytes i)) c.image_of.ensures

pub returns-clause-only : goal.returns-clause-only
returns-clause-only c = only_one _ _ c.image_of.ensures

pub returns-clause-refused : goal.returns-clause-refused
returns-clause-refused c = refused_none _ _ c.image_of.ensures

pub returns-clause-fault : goal.returns-clause-fault
returns-clause-fault c = tells_fault _ _ (λ i. omega (arith, c.type_inv.bytes i)) c.image_of.ensures

pub returns-clause-first : goal.returns-clause-first
returns-clause-first c = refuses_with _ _ (λ i. omega (arith, c.type_inv.bytes i)) c.image_of.ensures

pub returns-clause-writable : goal.returns-clause-writable
returns-clause-writable c =
    all_writable _ c.args.bytes.now (decoded_text _ _ (λ i. omega (arith, c.type_inv.bytes i)) c.image_of.ensures)
