-- From a function to a whole pipeline.
use Rattle.std.proofs.Common.{◌≡◌, ℕ, zero, suc, ◌+◌, ◌<◌, List, [], ◌∷◌, length, get_or, slice_get, Option, Some, None, refl, sym, subst, ap, ◌∙◌, arith}
use Rattle.pie_value.specs.declared.event.Answer.{Answer}
use Rattle.pie_value.specs.declared.task.Task.{Task}
use Rattle.pie_value.specs.Tree.{Tree as Val}
use Rattle.pie_operators.specs.Domain.{Outcome, State}
use Rattle.pie_code.specs.declared.code.Code.{Code}
use Rattle.pie_code.specs.declared.error.CodeError.{CodeError}
use Rattle.pie_code.specs.declared.error.CodeError.TheVariants.{OutOfMemory}
use Rattle.pie_code.specs.Checked.{IsRefusal}
use Rattle.pie_code.specs.Running.{start}
use Rattle.pie_code.proofs.Exact.{only_memory}
use Rattle.pie_parser.specs.FunctionTrees.{FunctionTree}
use Rattle.pie_types.specs.Headings.{Heading}
use Rattle.pie_types.specs.Whole.{number_from}
use Rattle.pie_types.specs.inner.WholeRules.{AreDeclared, AreTyped, IsTyped, nothing, one_more, typed}
use Rattle.pie_semantics.specs.Meaning.{next_of}
use Rattle.pie_type_laws.specs.NeverStuck.{RunsWell}
use Rattle.pie_type_laws.proofs.Whole.{never_stuck}
use Rattle.pie_codegen.specs.Functions.{IsCodeOf, Means}
use Rattle.pie_codegen.specs.Formed.{BlockFormed}
use Rattle.pie_codegen.specs.Names.{names_of}
use Rattle.pie_codegen.specs.Pipelines.{AreCodesOf, AllMean, NoTaskIsStuck, AreNeverStuck, AllFormed}
use Rattle.pie_codegen.proofs.Typed.{function_formed}
use Rattle.pie_codegen.proofs.Verified.{verified}
use Rattle.pie_codegen.proofs.Whole.{compiled, one_event}

bodies_formed : (hs : List Heading) (fs : List FunctionTree) → AreTyped hs fs → AllFormed fs
bodies_formed hs _ nothing = tt
bodies_formed hs _ (one_more {f = f} {fs = fs} d k) = (function_formed hs f d, bodies_formed hs fs k)

-- the bodies of a typed pipeline are formed
pub all_formed : (fs : List FunctionTree) → IsTyped fs → AllFormed fs
all_formed _ (typed {fs = fs} {hs = hs} d k) = bodies_formed hs fs k

pub formed_at : (fs : List FunctionTree) (i : ℕ) (f : FunctionTree) → AllFormed fs → i < length fs → f ≡ get_or fs i f → BlockFormed (names_of f.params) f.body
formed_at [] i f a l e = absurd (omega arith)
formed_at (g ∷ fs) zero f a l e = subst (λ (x : FunctionTree). BlockFormed (names_of x.params) x.body) (sym e) a.0
formed_at (g ∷ fs) (suc i) f a l e = formed_at fs i f a.1 (omega arith) e

-- the code of a function whose body is formed is refused only when out of memory
pub no_refusal : (f : FunctionTree) (code : Code) (e : CodeError) → IsCodeOf f code → BlockFormed (names_of f.params) f.body → IsRefusal code e
    → e ≡ OutOfMemory
no_refusal f code e is b r = only_memory code e (verified f code is b) r

-- each code means what its function means
pub all_mean : (fs : List FunctionTree) (cs : List Code) → AreCodesOf fs cs → AllMean fs cs
all_mean [] [] h = tt
all_mean (f ∷ fs) (c ∷ cs) h = (compiled f c h.0, all_mean fs cs h.1)
all_mean [] (c ∷ cs) h = absurd h
all_mean (f ∷ fs) [] h = absurd h

code_at : (fs : List FunctionTree) (cs : List Code) (i : ℕ) (f : FunctionTree) → AllMean fs cs → slice_get fs i ≡ Some f → (c : Code)
    × (slice_get cs i ≡ Some c) × Means f c
code_at [] [] i f a e = absurd cc
code_at (g ∷ fs) (c ∷ cs) zero f a e = let same : g ≡ f = cc in (c, refl, subst (λ (x : FunctionTree). Means x c) same a.0)
code_at (g ∷ fs) (c ∷ cs) (suc i) f a e = code_at fs cs i f a.1 e
code_at [] (c ∷ cs) i f a e = absurd a
code_at (g ∷ fs) [] i f a e = absurd a

-- no task of a typed pipeline is stuck
pub no_task_stuck : (fs : List FunctionTree) (cs : List Code) → IsTyped fs → AllMean fs cs → AreNeverStuck fs cs
no_task_stuck fs cs types means hs declared t i e =
    let r = (never_stuck fs hs types declared).runs t i e in
    let c = code_at fs cs i r.0 means r.2 in (
      r.0,
      r.1,
      c.0,
      r.2,
      c.1,
      record {
        heading = r.3;
        runs = λ many answers fit o comes.
            subst (λ (p : Outcome Val × State). RunsWell hs r.1.result p.0)
            (one_event c.0 (start c.0 t.args answers) (next_of r.0 t.args answers) o (c.2.comes t.args answers many) comes)
            (r.4 answers fit);
      },
    )
