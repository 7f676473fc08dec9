use Rattle.std.proofs.Common.{◌≡◌, drop, sym, ap, ◌∙◌, arith, length-drop}
use Rattle.std.proofs.lemmas.Result.{err_from_is_err_and}
use Rattle.pie_lexer.specs.Bytes.{gap_len}
use Rattle.pie_lexer.proofs.Passing.{gap_within, gap_carries, token_carries, token_within, refused_passes}
use Rattle.pie_lexer.proofs.lexing.pass.Goals as goal

pub overflow_add-result : goal.overflow_add-result
overflow_add-result c =
    let e : c.gap_at-gap.result ≡ gap_len (drop c.args.at c.args.text.now) = c.gap_at-gap.ensures ∙ ap gap_len c.behind.ensures in
    let l = gap_within (drop c.args.at c.args.text.now) in omega (arith, length-drop c.args.at c.args.text.now)

pub returns-then-gap-gt0 : goal.returns-then-gap-gt0
returns-then-gap-gt0 c =
    let e : c.gap_at-gap.result ≡ gap_len (drop c.args.at c.args.text.now) = c.gap_at-gap.ensures ∙ ap gap_len c.behind.ensures in
    let l = gap_within (drop c.args.at c.args.text.now) in (
      omega arith,
      omega (arith, length-drop c.args.at c.args.text.now),
      gap_carries c.args.text.now c.args.at c.gap_at-gap.result c.args.tokens.now.items c.if-gap-gt0.true e,
    )

pub returns-in_err-token : goal.returns-in_err-token
returns-in_err-token c =
    let e : c.gap_at-gap.result ≡ gap_len (drop c.args.at c.args.text.now) = c.gap_at-gap.ensures ∙ ap gap_len c.behind.ensures in
    let p = err_from_is_err_and c.from_residual.result c.from_residual.ensures.1 in
    rw (p.1, p.2) (refused_passes c.args.text.now c.args.at c.args.tokens.now.items c.args.tokens.now.items c.in_err-token.field-0.0
    (sym e ∙ omega arith) c.in_err-token.ensures)

pub returns : goal.returns
returns c =
    let e : c.gap_at-gap.result ≡ gap_len (drop c.args.at c.args.text.now) = c.gap_at-gap.ensures ∙ ap gap_len c.behind.ensures in
    let w = token_within c.args.text.now c.args.at c.in_ok-token.token (omega arith) c.in_ok-token.ensures in (
      w.0,
      w.1,
      token_carries c.args.text.now c.args.at c.in_ok-token.token c.args.tokens.now.items c.push.new.self.items
          (sym e ∙ omega arith) c.in_ok-token.ensures c.in_ok-push.ensures.items,
    )
