use Rattle.std.proofs.Common.{◌∙◌, Some, IsSome, Result, Ok, Err, cond, ap, sym, subst, refl}
use Rattle.std.specs.Ordering.{nat_cmp, is_eq}
use Rattle.std.specs.Cmp.Lexicographic.{slice_cmp}
use Rattle.std.specs.BTreeMap.{get}
use Rattle.std.specs.Result.{OnErr}
use Rattle.pie_view.specs.Content.{Staged, content, is_pair}
use Rattle.pie_view.proofs.Contents.{at_files, puts, file_put, none_found, same_staged}
use Rattle.pie_view.proofs.stage.Stage.put.Goals as goal

on_err : {T E Q : Type 0} (r : Result T E) → Q → OnErr r Q
on_err (Ok v) q = tt
on_err (Err e) q = q

pub returns-in-Some-clause-puts : goal.returns-in-Some-clause-puts
returns-in-Some-clause-puts c =
    let files = c.insert.new.self in
    let path = c.args.path in
    let found = c.in-Some.ensures.value in
    λ n p.
    puts c.self.inside.tasks (c.get_mut.follows.lender files) c.args.no.0 path c.args.bytes.items files
    (λ q. ((c.get_mut.follows.holds files).3 (subst IsSome found refl)).0 q)
    (λ p'. file_put c.in-Some.files.now files path c.args.bytes (λ q. c.in_ok-insert.ensures.updates.0 q) p'
    ∙ ap (λ o. cond (is_eq (slice_cmp nat_cmp path p')) (Some c.args.bytes.items) (at_files o p')) found)
    n p
    ∙ ap (λ (s : Staged). cond (is_pair c.args.no.0 path n p) (Some c.args.bytes.items) (content s n p)) c.self.view_is

pub returns-clause-puts : goal.returns-clause-puts
returns-clause-puts c =
    let files = c.insert-2.new.self in
    let path = c.args.path in
    λ n p.
    puts c.self.inside.tasks c.insert-3.new.self c.args.no.0 path c.args.bytes.items files
    (λ q. c.in_ok-insert-3.ensures.updates.0 q ∙ ap (λ m. cond (is_eq (nat_cmp c.args.no.0 q)) (Some files) (get nat_cmp m q)) c.get_mut.follows.holds-at-none)
    (λ p'. file_put c.new-files.result files path c.args.bytes (λ q. c.in_ok-insert-2.ensures.updates.0 q) p'
    ∙ ap (λ o. cond (is_eq (slice_cmp nat_cmp path p')) (Some c.args.bytes.items) o)
    (none_found c.new-files.result p' c.new-files.ensures.empty ∙ ap (λ o. at_files o p') c.in_default.ensures.value))
    n p
    ∙ ap (λ (s : Staged). cond (is_pair c.args.no.0 path n p) (Some c.args.bytes.items) (content s n p)) c.self.view_is

pub returns-in_err-insert-clause-unchanged : goal.returns-in_err-insert-clause-unchanged
returns-in_err-insert-clause-unchanged c =
    let files = c.insert.new.self in
    on_err c.from_residual.result (same_staged c.self.inside.tasks (c.get_mut.follows.lender files) c.args.no.0 files c.in-Some.files.now
    (c.get_mut.follows.holds files).0 c.in_err-insert.ensures.err (sym c.in-Some.ensures.value) ∙ c.self.view_is)
