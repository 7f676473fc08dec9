use Rattle.pie_earlier_laws.proofs.SameFunctions.{one_next, met_spellings, one_table}
use Rattle.pie_earlier_laws.proofs.functions.one_digest_is_one_next.Goals as goal

pub returns-clause-next : goal.returns-clause-next
returns-clause-next c =
    λ text other ts us fs gs rows others t P Q D E apart canonical same.
    one_next text other ts us fs gs rows others t P Q D E apart canonical same

pub returns-clause-separate : goal.returns-clause-separate
returns-clause-separate c =
    λ text other ts us fs gs old now old_roots roots besides A B S f g i j e.
    met_spellings text other ts us fs gs old now old_roots roots besides A B S f g i j e

pub returns-clause-text : goal.returns-clause-text
returns-clause-text c = λ text ts fs gs rows others D E. one_table text ts fs gs rows others D E
