-- A block by the names that its lines bring into scope, and arguments in their order.
use Rattle.std.proofs.Common.{◌≡◌, ℕ, ◌+◌, ◌<◌, true, false, nat_lt, cond, List, ◌∷◌, length, get_or, drop, reverse, Result, Err, refl, sym, ap, subst, ◌∙◌}
use Rattle.std.proofs.lemmas.List.{reverse-reverse}
use Rattle.pie_base.specs.declared.fault.FaultKind.TheVariants.{Budget}
use Rattle.pie_value.specs.Tree.{TBool, TList, Nil as NoVal, Trees as Vals}
use Rattle.pie_value.specs.Tree.{Tree as Val}
use Rattle.pie_operators.specs.Domain.{Outcome, done, fails, wants, State, Act, give, pass, then_do}
use Rattle.pie_parser.specs.declared.tree.Name.{Name}
use Rattle.pie_parser.specs.Plain.{Tree, TEach, LineTrees, NoLine, ValLine, ExprLine}
use Rattle.pie_semantics.specs.Words.{Env, branch, over}
use Rattle.pie_semantics.specs.Meaning.{value_of, turns, either_value, both_value, lines_value}
use Rattle.pie_parser.specs.declared.tree.Step.{Step}
use Rattle.pie_parser.specs.TreeView.{steps_of}
use Rattle.pie_semantics_program.specs.declared.stop.Stop.{Stop}
use Rattle.pie_semantics_program.specs.declared.stop.Stop.TheVariants as stops
use Rattle.pie_semantics_program.specs.Coming.{Comes, IsTruth}
use Rattle.pie_semantics_program.specs.Lines.{behind_lines}
use Rattle.pie_types.proofs.Left.{steps_left}

pass_pass : {A B C : Type 0} (m : Outcome A × State) (go : A → Act B) (more : B → Act C) → pass (pass m go) more ≡ pass m (λ a. then_do (go a) more)
pass_pass (done a, s) go more = refl
pass_pass (fails k, s) go more = refl
pass_pass (wants e, s) go more = refl

-- what is no truth value has no branch
no_truth : {A : Type 0} (f : A → Val) (v : Val) (e : Stop) (s : State) (first other : Act Val) → IsTruth (Err e) v → Comes f (Err e) s (branch v first other s)
no_truth f v (stops.Fault k) s first other h = h first other s
no_truth f v (stops.Wants e) s first other h = absurd h
no_truth f v stops.OutOfMemory s first other h = tt

-- the lines of a block, and then what follows where their names are in scope
pub block_is : (ls : LineTrees) (env : Env) (go : Env → Act Val) (s : State) → lines_value ls env go s ≡ pass (behind_lines ls env s) go
block_is NoLine env go s = refl
block_is (ValLine i j n e ls) env go s =
    ap (pass (value_of e env s)) (λ k v t. block_is ls ((n.text, v) ∷ env) go t k)
    ∙ sym (pass_pass (value_of e env s) (λ v. behind_lines ls ((n.text, v) ∷ env)) go)
block_is (ExprLine e ls) env go s =
    ap (pass (value_of e env s)) (λ k v t. block_is ls env go t k)
    ∙ sym (pass_pass (value_of e env s) (λ v. behind_lines ls env) go)

-- a list turned round twice
pub reverse_twice : {A : Type 0} (xs : List A) → reverse (reverse xs) ≡ xs
reverse_twice xs = reverse-reverse xs

-- an operand that is no truth value stops a chain
pub either_stops : {A : Type 0} (f : A → Val) (ss : List Step) (i : ℕ) (x : Step) (env : Env) (v : Val) (e : Stop) (s : State)
    → i < length ss → x ≡ get_or ss i x → IsTruth (Err e) v → Comes f (Err e) s (either_value (steps_of (drop i ss)) env v s)
either_stops f ss i x env v e s h p bad = subst (λ rest. Comes f (Err e) s (either_value rest env v s)) (sym (steps_left ss i x h p))
    (no_truth f v e s (give (TBool true)) (then_do (value_of x.operand env) (either_value (steps_of (drop (i + 1) ss)) env)) bad)

pub both_stops : {A : Type 0} (f : A → Val) (ss : List Step) (i : ℕ) (x : Step) (env : Env) (v : Val) (e : Stop) (s : State)
    → i < length ss → x ≡ get_or ss i x → IsTruth (Err e) v → Comes f (Err e) s (both_value (steps_of (drop i ss)) env v s)
both_stops f ss i x env v e s h p bad = subst (λ rest. Comes f (Err e) s (both_value rest env v s)) (sym (steps_left ss i x h p))
    (no_truth f v e s (then_do (value_of x.operand env) (both_value (steps_of (drop (i + 1) ss)) env)) (give (TBool false)) bad)

-- a comprehension over a list: one tick, the list, and a turn for each item
pub each_list : {A : Type 0} (f : A → Val) (r : Result A Stop) (a b : Tree) (n : Name) (env : Env) (vs : Vals) (old begun s new : State)
    → nat_lt old.ticks 1000000 ≡ true → begun ≡ record old { ticks = old.ticks + 1 } → value_of b env begun ≡ (done (TList vs), s)
    → Comes f r new (turns (λ w. value_of a ((n.text, w) ∷ env)) vs (TList NoVal) s) → Comes f r new (value_of (TEach 0 0 a n b) env old)
each_list {A} f r a b n env vs old begun s new h e v k =
    let go : Val → Act Val = λ (v : Val). over v (λ us. turns (λ w. value_of a ((n.text, w) ∷ env)) us (TList NoVal)) in
    let p : value_of (TEach 0 0 a n b) env old ≡ go (TList vs) s =
    ap (λ t. cond t (pass (value_of b env (record old { ticks = old.ticks + 1 })) go) (fails Budget, old)) h
    ∙ ap (λ (m : State). pass (value_of b env m) go) (sym e)
    ∙ ap (λ (m : Outcome Val × State). pass m go) v in
    subst (λ (m : Outcome Val × State). Comes f r new m) (sym p) k
