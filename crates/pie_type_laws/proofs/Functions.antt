-- A function runs well on arguments of its parameters' types.
use Rattle.std.proofs.Common.{◌≡◌, List, [], subst}
use Rattle.pie_base.specs.declared.fault.FaultKind.TheVariants.{Unknown}
use Rattle.pie_value.specs.declared.event.Event.TheVariants.{Require}
use Rattle.pie_value.specs.Tree.{Tree as Val, items_of}
use Rattle.pie_value.specs.Types.{TyTree, parts_of}
use Rattle.pie_operators.specs.Domain.{Outcome, done, fails, wants, at_start}
use Rattle.pie_parser.specs.FunctionTrees.{FunctionTree}
use Rattle.pie_types.specs.Headings.{Heading}
use Rattle.pie_types.specs.inner.Rules.{BlockHas}
use Rattle.pie_types.specs.inner.WholeRules.{ParamsBring}
use Rattle.pie_semantics.specs.Meaning.{bound, block_value}
use Rattle.pie_type_laws.specs.Fitting.{IsOf}
use Rattle.pie_type_laws.specs.NeverStuck.{Takes, RunsWell, IsNeverStuck}
use Rattle.pie_type_laws.proofs.Safe.{IsSafe, EventIsTyped}
use Rattle.pie_type_laws.proofs.Acts.{is_safe}
use Rattle.pie_type_laws.proofs.Inhabitants.{EachOf}
use Rattle.pie_type_laws.proofs.Names.{nothing_scoped, params_scoped}
use Rattle.pie_type_laws.proofs.Trees.{block_sound}

runs_well : (hs : List Heading) (t : TyTree) (o : Outcome Val) → IsSafe hs (IsOf t) o → RunsWell hs t o
runs_well hs t (done v) h = record {
  known = λ e. (let f : ⊥ = cc in f);
  result = λ w e. (let s : v ≡ w = cc in subst (IsOf t) s h);
  required = λ u how e. (let f : ⊥ = cc in absurd f);
}
runs_well hs t (fails k) h = record {
  known = λ e. (let s : k ≡ Unknown = cc in h s);
  result = λ w e. (let f : ⊥ = cc in absurd f);
  required = λ u how e. (let f : ⊥ = cc in absurd f);
}
runs_well hs t (wants d) h = record {
  known = λ e. (let f : ⊥ = cc in f);
  result = λ w e. (let f : ⊥ = cc in absurd f);
  required = λ u how e. (let s : d ≡ Require u how = cc in subst (EventIsTyped hs) s h);
}

-- a function with a typed body
pub function_runs : (hs : List Heading) (f : FunctionTree) (h : Heading) → ParamsBring [] f.params h.params → BlockHas hs h.params f.body h.result
    → (args : List Val) → Takes h args → IsNeverStuck hs f h.result args
function_runs hs f h d b args takes answers fit =
    let p = params_scoped [] f.params h.params d in
    let typed : EachOf (parts_of p.0) (items_of args) = subst (λ (ts : List TyTree). EachOf (parts_of ts) (items_of args)) p.1 takes in
    let run = block_value f.body (bound f.params args []) in
    let s = block_sound hs h.params f.body h.result b (bound f.params args []) (p.2 [] nothing_scoped args typed) in
    runs_well hs h.result (run (at_start answers)).0 (is_safe hs (IsOf h.result) run (at_start answers) s fit)
