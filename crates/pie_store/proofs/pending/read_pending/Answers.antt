use Rattle.std.proofs.Common.{◌≡◌, ◌+◌, ℕ, List, length, take, drop, sym, ap, ◌∙◌}
use Rattle.std.specs.Prelude.{Some, None}
use Rattle.std.proofs.lemmas.Bool.{eqb-true}
use Rattle.pie_store.proofs.PendingLemmas.{line_is, one_read, all_read, bad_line, open_line, no_names, too_long, picked, not_zero, same_names}
use Rattle.pie_store.proofs.pending.read_pending.Goals as goal

pub returns-then-is_empty-clause-refused : goal.returns-then-is_empty-clause-refused
returns-then-is_empty-clause-refused c = no_names _ (eqb-true (length c.args.bytes.now) 0 (sym c.is_empty.ensures ∙ c.if-is_empty.true))

pub returns-then-bytes-gt-MAX_PENDING_BYTES-clause-refused : goal.returns-then-bytes-gt-MAX_PENDING_BYTES-clause-refused
returns-then-bytes-gt-MAX_PENDING_BYTES-clause-refused c = too_long _ c.if-bytes-gt-MAX_PENDING_BYTES.true

pub returns-in-None-clause-refused : goal.returns-in-None-clause-refused
returns-in-None-clause-refused c =
    let rest = c.loop-end.rest.now in
    let end = c.in-Some.end in
    let e : picked c.loop-end.paths.items (take end rest) ≡ None =
    sym (c.in_ok-next.ensures ∙ ap (λ (t : List ℕ). picked c.as_slice.result.now t) c.before-text.ensures
    ∙ ap (λ (ps : List (List ℕ)). picked ps (take end rest)) c.as_slice.ensures.value)
    ∙ c.in-None.is in
    bad_line _ _ rest (take end rest) (drop (end + 1) rest) c.loop-end.invariant (line_is rest end (sym c.in-Some.ensures.first)) e

pub returns-then-is_empty-2-clause-only : goal.returns-then-is_empty-2-clause-only
returns-then-is_empty-2-clause-only c =
    λ names p.
    same_names names c.loop-end.paths.items c.args.bytes.now p
    (all_read _ _ _ c.loop-end.invariant (eqb-true (length c.loop-end.rest.now) 0 (sym c.is_empty-2.ensures ∙ c.if-is_empty-2.true))
    (not_zero (length c.args.bytes.now) (sym c.is_empty.ensures ∙ c.if-is_empty.false)) p.few)

pub loop-end-preserved : goal.loop-end-preserved
loop-end-preserved c =
    let rest = c.loop-end.rest.now in
    let end = c.in-Some.end in
    let path = c.in-Some-next.path in
    let e : picked c.loop-end.paths.items (take end rest) ≡ Some path =
    sym (c.in_ok-next.ensures ∙ ap (λ (t : List ℕ). picked c.as_slice.result.now t) c.before-text.ensures
    ∙ ap (λ (ps : List (List ℕ)). picked ps (take end rest)) c.as_slice.ensures.value)
    ∙ c.in-Some-next.is in
    rw (c.in_ok-push-in-Some-next.ensures.items, c.behind-after.ensures)
    (one_read _ _ rest (take end rest) (drop (end + 1) rest) path c.loop-end.invariant (line_is rest end (sym c.in-Some.ensures.first)) e)

pub returns-else-is_empty-2-clause-refused : goal.returns-else-is_empty-2-clause-refused
returns-else-is_empty-2-clause-refused c =
    open_line _ _ _ c.loop-end.invariant (sym c.newline_in.ensures.first ∙ c.in_default.is)
    (not_zero (length c.loop-end.rest.now) (sym c.is_empty-2.ensures ∙ c.if-is_empty-2.false))
