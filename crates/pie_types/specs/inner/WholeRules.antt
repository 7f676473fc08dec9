-- The rules of typing for functions and for a whole pipeline.
use Rattle.std.specs.Prelude.{◌≡◌, false, List, [], ◌∷◌, ◌++◌, None}
use Rattle.pie_value.specs.Types.{TyTree}
use Rattle.pie_parser.specs.FunctionTrees.{FunctionTree}
use Rattle.pie_parser.specs.declared.tree.Param.{Param}
use Rattle.pie_types.specs.inner.WrittenRules.{Denotes}
use Rattle.pie_types.specs.Scope.{Entry, with_name}
use Rattle.pie_types.specs.Headings.{Heading, is_builtin, function_in}
use Rattle.pie_types.specs.inner.Rules.{IsFresh, BlockHas}

-- parameters bring their names into scope, behind others
pub data ParamsBring : List Entry → List Param → List Entry → Type 0 where
  no_param : {es : List Entry} → ParamsBring es [] es
  a_param : {es fs : List Entry} {p : Param} {ps : List Param} {t : TyTree}
      → IsFresh p.name.text es → Denotes p.kind t → ParamsBring (with_name es p.name.text t) ps fs → ParamsBring es (p ∷ ps) fs

-- a function has a heading
pub record Declares (f : FunctionTree) (h : Heading) : Type 0 where
  pub name : h.name ≡ f.name.text
  pub params : ParamsBring [] f.params h.params
  pub result : Denotes f.result h.result

-- functions have headings behind those of others: no name is a built-in function's, or that of a function before
pub data AreDeclared : List Heading → List FunctionTree → List Heading → Type 0 where
  no_function : {hs : List Heading} → AreDeclared hs [] hs
  a_function : {hs gs : List Heading} {f : FunctionTree} {fs : List FunctionTree} {h : Heading}
      → is_builtin f.name.text ≡ false → function_in f.name.text hs ≡ None → Declares f h → AreDeclared (hs ++ h ∷ []) fs gs → AreDeclared hs (f ∷ fs) gs

-- the body of a function has the type of the function's answer, where its parameters are in scope
pub data IsTypedFunction : List Heading → FunctionTree → Type 0 where
  typed_function : {hs : List Heading} {f : FunctionTree} {h : Heading} → Declares f h → BlockHas hs h.params f.body h.result → IsTypedFunction hs f

-- each function is typed
pub data AreTyped : List Heading → List FunctionTree → Type 0 where
  nothing : {hs : List Heading} → AreTyped hs []
  one_more : {hs : List Heading} {f : FunctionTree} {fs : List FunctionTree} → IsTypedFunction hs f → AreTyped hs fs → AreTyped hs (f ∷ fs)

-- a pipeline is typed: its functions have headings, and each is typed with all of them
pub data IsTyped : List FunctionTree → Type 0 where
  typed : {fs : List FunctionTree} {hs : List Heading} → AreDeclared [] fs hs → AreTyped hs fs → IsTyped fs
