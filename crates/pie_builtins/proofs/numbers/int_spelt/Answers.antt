-- What std reads is what the text spells, where no plus sign stands first.
use Rattle.std.proofs.Common.{◌≡◌, ◌∙◌, sym, true, false, nat_eq, [], ◌∷◌}
use Rattle.std.specs.List.{starts_with}
use Rattle.pie_builtins.proofs.Spelling.{plus_read, no_plus, text_read}
use Rattle.pie_builtins.proofs.numbers.int_spelt.Goals as goal

pub returns-then-starts_with : goal.returns-then-starts_with
returns-then-starts_with c =
    let plus : starts_with nat_eq c.args.text.now (43 ∷ []) ≡ true = rw (sym c.as_bytes.ensures.value)
    (sym c.starts_with.ensures.value ∙ c.if-starts_with.true) in
    sym (plus_read c.args.text.now plus)

pub returns : goal.returns
returns c =
    let plain : starts_with nat_eq c.args.text.now (43 ∷ []) ≡ false = rw (sym c.as_bytes.ensures.value)
    (sym c.starts_with.ensures.value ∙ c.if-starts_with.false) in
    c.ok.ensures.value ∙ text_read c.parse.result c.args.text.now (no_plus c.args.text.now plain) c.parse.ensures.value.0
