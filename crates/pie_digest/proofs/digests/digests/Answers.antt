use Rattle.std.proofs.Common.{◌+◌, ◌++◌, List, ap, sym, ◌∙◌, drop, ℕ}
use Rattle.std.proofs.lemmas.List.{take_rest}
use Rattle.pie_lexer.specs.declared.token.Token.{Token}
use Rattle.pie_digest.specs.Digests.{digest_here, digests_of}
use Rattle.pie_digest.proofs.Digesting.{digests_turn}
use Rattle.pie_digest.proofs.digests.digests.Goals as goal

pub loop-i-preserved : goal.loop-i-preserved
loop-i-preserved c =
    let text = c.args.text.now in
    let tokens = c.args.tokens.now in
    let done = c.loop-i.rows.items in
    let rest = digests_of text (drop (c.loop-i.i + 1) tokens) in
    ap (λ (rows : List (List ℕ × List ℕ)). rows ++ rest) c.in_ok-note.ensures
    ∙ ap (λ (here : List Token). (done ++ digest_here text here) ++ rest) (take_rest tokens c.loop-i.i)
    ∙ sym (digests_turn done text tokens c.loop-i.i c.loop-i-test.true)
    ∙ c.loop-i.invariant
