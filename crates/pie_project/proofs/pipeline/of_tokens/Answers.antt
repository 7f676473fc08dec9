use Rattle.std.proofs.Common.{◌≡◌, List, Ok, ◌∙◌}
use Rattle.pie_parser.specs.FunctionTrees.{FunctionTree}
use Rattle.pie_project.specs.declared.pipeline.Digested.{Digested}
use Rattle.pie_project.specs.Fronts.{Checked, TokensSay, tree_says}
use Rattle.pie_project.specs.inner.Only.{IsOnly}
use Rattle.pie_project.proofs.Finding.{says_more, other_view, tree_so, parser_refuses}
use Rattle.pie_project.proofs.pipeline.of_tokens.Goals as goal

pub returns-in-Ok-of_tree-clause-found : goal.returns-in-Ok-of_tree-clause-found
returns-in-Ok-of_tree-clause-found c =
    says_more (λ (p : Digested). p.typed) (λ (r : Checked). r ≡ Ok c.in-Ok-of_tree.typed) (IsOnly (TokensSay c.args.tokens.now)) c.with_digests.result
    (λ r e. tree_so c.args.tokens.now c.in-Ok.pipeline.functions.items c.in-Ok.ensures.tree c.in-Ok.ensures.all c.in-Ok.ensures.read r
    (e ∙ c.in-Ok-of_tree.ensures.found)) c.with_digests.ensures.typed

pub returns-in-Err-of_tree-clause-found : goal.returns-in-Err-of_tree-clause-found
returns-in-Err-of_tree-clause-found c =
    other_view {A = List FunctionTree} (λ t. t) (λ (p : Digested). p.typed) (λ (r : Checked). r ≡ tree_says c.in-Ok.pipeline.functions.items)
    (IsOnly (TokensSay c.args.tokens.now)) c.in-Err-of_tree.error
    (tree_so c.args.tokens.now c.in-Ok.pipeline.functions.items c.in-Ok.ensures.tree c.in-Ok.ensures.all c.in-Ok.ensures.read) c.in-Err-of_tree.ensures.found

pub returns-in-Err-clause-found : goal.returns-in-Err-clause-found
returns-in-Err-clause-found c = rw c.parse_error.ensures (parser_refuses (λ (p : Digested). p.typed) c.args.tokens.now c.in-Err.error c.in-Err.ensures.read)
