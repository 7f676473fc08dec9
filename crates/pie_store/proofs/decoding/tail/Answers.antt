use Rattle.std.proofs.Common.{rules, ◌≡◌, Err, subst, ap, ◌∙◌}
use Rattle.pie_store.specs.declared.decoding.Head.{Head}
use Rattle.pie_store.specs.inner.Agreement.{AgreesWhole}
use Rattle.pie_store.specs.inner.Known.{known_in}
use Rattle.pie_store.specs.inner.Reading.{tail_of}
use Rattle.pie_store.proofs.Closing.{tail_faults, tail_made}
use Rattle.pie_store.proofs.decoding.tail.Goals as goal

pub returns-in_err-tasks : goal.returns-in_err-tasks
returns-in_err-tasks c =
    let e = c.in_err-tasks.field-0.0 in
    let head = c.args.head in
    let says = tail_of c.args.end (known_in c.args.known) head.version head.pipeline head.funcs.items c.args.reader.now in
    let failed : Err e ≡ c.from_residual-in_err-tasks.result = search rules in
    subst (λ r. AgreesWhole r says) failed
    (tail_faults c.args.end (known_in c.args.known) head.version head.pipeline head.funcs.items c.args.reader.now c.in_ok-roots.roots.items
    c.as_slice.result.now c.roots.new.reader c.in_ok-rows.rows c.rows.new.reader (Err e) c.in_ok-roots.ensures.roots c.in_ok-rows.ensures
    c.as_slice.ensures.value c.in_err-tasks.ensures.fault)

pub returns : goal.returns
returns c =
    let head = c.into_inner-head.result in
    let same : c.args.head ≡ head = search rules in
    ap (λ (h : Head). tail_of c.args.end (known_in c.args.known) h.version h.pipeline h.funcs.items c.args.reader.now) same
    ∙ tail_made c.args.end (known_in c.args.known) head c.args.reader.now c.in_ok-roots.roots.items
    c.as_slice.result.now c.roots.new.reader c.in_ok-rows.rows c.rows.new.reader c.new-3.result c.into_rows.result c.new-2.result
    c.in_ok-roots.ensures.roots c.in_ok-rows.ensures c.as_slice.ensures.value c.in_ok-tasks.ensures.whole
    (c.new-3.ensures ∙ c.in_ok-tasks.ensures.tasks) c.into_rows.ensures c.new-2.ensures
