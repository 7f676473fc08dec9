use Rattle.std.proofs.Common.{Some, sym, ap, ◌∙◌}
use Rattle.pie_results.proofs.FileLemmas.{puts_at, put_out, put_of_tasks}
use Rattle.pie_results.proofs.files.put_file.Goals as goal

pub returns-in_ok-insert-in-Some-clause-out : goal.returns-in_ok-insert-in-Some-clause-out
returns-in_ok-insert-in-Some-clause-out c =
    put_out c.args.path.now c.in_ok-content-in-Some.content c.args.files.now c.insert.new.self c.requires.path
    (puts_at c.args.path.now c.in_ok-copy-in-Some.field-0 c.in_ok-content-in-Some.content c.args.files.now c.insert.new.self c.in_ok-copy-in-Some.ensures
    c.in_ok-insert-in-Some.ensures.updates.0) c.requires.out

pub returns-in_ok-insert-in-Some-clause-of_tasks : goal.returns-in_ok-insert-in-Some-clause-of_tasks
returns-in_ok-insert-in-Some-clause-of_tasks c = λ t live is_live wrote all.
    put_of_tasks t c.args.stage.now live c.args.no.0 c.args.path.now c.in_ok-content-in-Some.content c.args.files.now c.insert.new.self is_live wrote
    (sym c.in-Some.ensures ∙ ap Some (sym (c.in_ok-content-in-Some.ensures.items_if_clones_equal (λ x y e. e))))
    (puts_at c.args.path.now c.in_ok-copy-in-Some.field-0 c.in_ok-content-in-Some.content c.args.files.now c.insert.new.self c.in_ok-copy-in-Some.ensures
    c.in_ok-insert-in-Some.ensures.updates.0) all
