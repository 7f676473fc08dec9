use Rattle.std.proofs.Common.{drop, ap, arith, length-drop}
use Rattle.pie_lexer.specs.inner.Scanning.{Closes, Opens, Fails, end_of}
use Rattle.pie_lexer.proofs.Takes.{text_taken, open_refused, escape_refused, quote_first, closes_within, fails_within, ends_as}
use Rattle.pie_lexer.proofs.Utf8.{quoted_is_utf8}
use Rattle.pie_lexer.proofs.taking.text_at.Goals as goal

pub as_text-requires : goal.as_text-requires
as_text-requires c =
    let text = c.args.text.now in
    let at = c.args.at in
    let e = ends_as c.in_ok-said.field-0 (Closes c.in-Closed.said.items c.in-Closed.len) c.behind-rest.result.now text at c.in_ok-said.ensures
    (ap end_of c.in-Closed.is) c.behind-rest.ensures in
    rw c.as_slice.ensures.value (quoted_is_utf8 text at c.in-Closed.said.items c.in-Closed.len c.utf8.text c.requires.within c.requires.quote e)

pub overflow_add-end : goal.overflow_add-end
overflow_add-end c =
    let text = c.args.text.now in
    let at = c.args.at in
    let e = ends_as c.in_ok-said.field-0 (Closes c.in-Closed.said.items c.in-Closed.len) c.behind-rest.result.now text at c.in_ok-said.ensures
    (ap end_of c.in-Closed.is) c.behind-rest.ensures in
    let l = closes_within (drop 1 (drop at text)) c.in-Closed.said.items c.in-Closed.len e in
    omega (arith, length-drop 1 (drop at text), length-drop at text)

pub overflow_add-result : goal.overflow_add-result
overflow_add-result c =
    let text = c.args.text.now in
    let at = c.args.at in
    let e = ends_as c.in_ok-said.field-0 (Fails c.in-BadEscape.after) c.behind-rest.result.now text at c.in_ok-said.ensures
    (ap end_of c.in-BadEscape.is) c.behind-rest.ensures in
    let l = fails_within (drop 1 (drop at text)) c.in-BadEscape.after e in
    omega (arith, length-drop 1 (drop at text), length-drop at text)

pub returns-in_ok-said-in-Closed : goal.returns-in_ok-said-in-Closed
returns-in_ok-said-in-Closed c =
    let text = c.args.text.now in
    let at = c.args.at in
    let e = ends_as c.in_ok-said.field-0 (Closes c.in-Closed.said.items c.in-Closed.len) c.behind-rest.result.now text at c.in_ok-said.ensures
    (ap end_of c.in-Closed.is) c.behind-rest.ensures in
    rw (c.in_ok-said-in-Closed.ensures, c.as_text.ensures, c.as_slice.ensures.value)
    (text_taken (drop at text) (drop 1 (drop at text)) c.in-Closed.said.items c.in-Closed.len at (quote_first text at c.requires.within c.requires.quote) e)

pub returns-in-Open : goal.returns-in-Open
returns-in-Open c =
    let text = c.args.text.now in
    let at = c.args.at in
    let e = ends_as c.in_ok-said.field-0 (Opens) c.behind-rest.result.now text at c.in_ok-said.ensures (ap end_of c.in-Open.is) c.behind-rest.ensures in
    open_refused (drop at text) (drop 1 (drop at text)) at (quote_first text at c.requires.within c.requires.quote) e

pub returns-in-BadEscape : goal.returns-in-BadEscape
returns-in-BadEscape c =
    let text = c.args.text.now in
    let at = c.args.at in
    let e = ends_as c.in_ok-said.field-0 (Fails c.in-BadEscape.after) c.behind-rest.result.now text at c.in_ok-said.ensures
    (ap end_of c.in-BadEscape.is) c.behind-rest.ensures in
    escape_refused (drop at text) (drop 1 (drop at text)) c.in-BadEscape.after at (quote_first text at c.requires.within c.requires.quote) e
