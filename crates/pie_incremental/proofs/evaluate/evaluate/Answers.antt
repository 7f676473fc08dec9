use Rattle.std.proofs.Common.{rules, ◌≡◌, sym, subst}
use Rattle.pie_bottomup.specs.declared.state.Core.{Core}
use Rattle.pie_bottomup.specs.declared.state.First.TheVariants.{Done}
use Rattle.pie_bottomup.specs.inner.Ran.{BeginsKnowing}
use Rattle.pie_builder_laws.specs.Events.{AreCompiled}
use Rattle.pie_incremental.specs.inner.Evaluated.{BeginsNow, EndsStanding, ResultsExact, SettlesExact, StopsFor}
use Rattle.pie_incremental.specs.inner.Ran.{RunsBefore, RunsWhole, SettlesRuns}
use Rattle.pie_incremental.proofs.Evaluating.{evaluated, evaluated_stops}
use Rattle.pie_incremental.proofs.Running.{begins_each, runs_each}
use Rattle.pie_incremental.specs.inner.Asked.{SettledAsking, SettlesAsking}
use Rattle.pie_incremental.proofs.Asking.{asks_each}
use Rattle.pie_incremental.proofs.evaluate.evaluate.Goals as goal

pub returns-clause-exact : goal.returns-clause-exact
returns-clause-exact g c =
    let held = g.F.Files.holds c.args.files.now in
    let p = c.args.project.now in
    let s = c.args.image.value in
    let old = c.deref_mut.result.now in
    let codes = c.as_slice.result.now in
    let first : old ≡ c.in_ok-core.core.value = search rules in
    let begins : BeginsNow p.typed codes p.roots.items s.funcs p.digests.items s.rows c.args.names.now old =
    subst (λ (x : Core). BeginsNow p.typed codes p.roots.items s.funcs p.digests.items s.rows c.args.names.now x) (sym first) c.in_ok-core.ensures.exact in
    let ends : EndsStanding held old c.settle.new.core = subst (SettlesExact held old c.settle.new.core) c.in-None.is c.in_ok-cause.ensures.exact in
    let makes : ResultsExact c.settle.new.core p.roots.items c.in_ok-built-in-None.built.value = search rules in
    let compiled : AreCompiled p.typed codes =
    subst (AreCompiled p.typed) (sym c.as_slice.ensures.value) (record { compiled = c.in_ok-code.ensures.codes; means = c.in_ok-code.ensures.means }) in
    evaluated held p.typed codes p.digests.items p.roots.items s c.args.names.now old c.settle.new.core c.in_ok-built-in-None.built.value compiled begins ends
    makes

pub returns-in-Some-clause-exact : goal.returns-in-Some-clause-exact
returns-in-Some-clause-exact g c =
    let held = g.F.Files.holds c.args.files.now in
    let p = c.args.project.now in
    let s = c.args.image.value in
    let old = c.deref_mut.result.now in
    let codes = c.as_slice.result.now in
    let first : old ≡ c.in_ok-core.core.value = search rules in
    let begins : BeginsNow p.typed codes p.roots.items s.funcs p.digests.items s.rows c.args.names.now old =
    subst (λ (x : Core). BeginsNow p.typed codes p.roots.items s.funcs p.digests.items s.rows c.args.names.now x) (sym first) c.in_ok-core.ensures.exact in
    let stops : StopsFor held old c.in-Some.cause = subst (SettlesExact held old c.settle.new.core) c.in-Some.is c.in_ok-cause.ensures.exact in
    let compiled : AreCompiled p.typed codes =
    subst (AreCompiled p.typed) (sym c.as_slice.ensures.value) (record { compiled = c.in_ok-code.ensures.codes; means = c.in_ok-code.ensures.means }) in
    evaluated_stops held p.typed codes p.digests.items p.roots.items s c.args.names.now old c.in-Some.cause compiled begins stops

pub returns-clause-ran : goal.returns-clause-ran
returns-clause-ran g c =
    let held = g.F.Files.holds c.args.files.now in
    let p = c.args.project.now in
    let s = c.args.image.value in
    let old = c.deref_mut.result.now in
    let codes = c.as_slice.result.now in
    let first : old ≡ c.in_ok-core.core.value = search rules in
    let begins : BeginsNow p.typed codes p.roots.items s.funcs p.digests.items s.rows c.args.names.now old =
    subst (λ (x : Core). BeginsNow p.typed codes p.roots.items s.funcs p.digests.items s.rows c.args.names.now x) (sym first) c.in_ok-core.ensures.exact in
    let knows : BeginsKnowing s.funcs p.digests.items s.rows c.args.names.now old =
    subst (BeginsKnowing s.funcs p.digests.items s.rows c.args.names.now) (sym first) c.in_ok-core.ensures.knows in
    let fresh : old.first ≡ Done → ⊥ = subst (λ (x : Core). x.first ≡ Done → ⊥) (sym first) c.in_ok-core.ensures.first in
    let runs : RunsWhole held old c.args.runs.now c.settle.new.runs =
    subst (SettlesRuns held old c.args.runs.now c.settle.new.runs) c.in-None.is c.in_ok-cause.ensures.ran in
    let compiled : AreCompiled p.typed codes =
    subst (AreCompiled p.typed) (sym c.as_slice.ensures.value) (record { compiled = c.in_ok-code.ensures.codes; means = c.in_ok-code.ensures.means }) in
    runs_each held p.typed codes p.digests.items p.roots.items s c.args.names.now old c.args.runs.now c.settle.new.runs compiled begins fresh knows runs

pub returns-in-Some-clause-ran : goal.returns-in-Some-clause-ran
returns-in-Some-clause-ran g c =
    let held = g.F.Files.holds c.args.files.now in
    let p = c.args.project.now in
    let s = c.args.image.value in
    let old = c.deref_mut.result.now in
    let codes = c.as_slice.result.now in
    let first : old ≡ c.in_ok-core.core.value = search rules in
    let begins : BeginsNow p.typed codes p.roots.items s.funcs p.digests.items s.rows c.args.names.now old =
    subst (λ (x : Core). BeginsNow p.typed codes p.roots.items s.funcs p.digests.items s.rows c.args.names.now x) (sym first) c.in_ok-core.ensures.exact in
    let knows : BeginsKnowing s.funcs p.digests.items s.rows c.args.names.now old =
    subst (BeginsKnowing s.funcs p.digests.items s.rows c.args.names.now) (sym first) c.in_ok-core.ensures.knows in
    let fresh : old.first ≡ Done → ⊥ = subst (λ (x : Core). x.first ≡ Done → ⊥) (sym first) c.in_ok-core.ensures.first in
    let runs : RunsBefore held old c.in-Some.cause c.args.runs.now c.settle.new.runs =
    subst (SettlesRuns held old c.args.runs.now c.settle.new.runs) c.in-Some.is c.in_ok-cause.ensures.ran in
    let compiled : AreCompiled p.typed codes =
    subst (AreCompiled p.typed) (sym c.as_slice.ensures.value) (record { compiled = c.in_ok-code.ensures.codes; means = c.in_ok-code.ensures.means }) in
    begins_each held p.typed codes p.digests.items p.roots.items s c.args.names.now old c.in-Some.cause c.args.runs.now c.settle.new.runs compiled begins fresh knows runs

pub returns-clause-asks : goal.returns-clause-asks
returns-clause-asks g c =
    let held = g.F.Files.holds c.args.files.now in
    let p = c.args.project.now in
    let s = c.args.image.value in
    let old = c.deref_mut.result.now in
    let codes = c.as_slice.result.now in
    let first : old ≡ c.in_ok-core.core.value = search rules in
    let begins : BeginsNow p.typed codes p.roots.items s.funcs p.digests.items s.rows c.args.names.now old =
    subst (λ (x : Core). BeginsNow p.typed codes p.roots.items s.funcs p.digests.items s.rows c.args.names.now x) (sym first) c.in_ok-core.ensures.exact in
    let knows : BeginsKnowing s.funcs p.digests.items s.rows c.args.names.now old =
    subst (BeginsKnowing s.funcs p.digests.items s.rows c.args.names.now) (sym first) c.in_ok-core.ensures.knows in
    let fresh : old.first ≡ Done → ⊥ = subst (λ (x : Core). x.first ≡ Done → ⊥) (sym first) c.in_ok-core.ensures.first in
    let runs : RunsWhole held old c.args.runs.now c.settle.new.runs =
    subst (SettlesRuns held old c.args.runs.now c.settle.new.runs) c.in-None.is c.in_ok-cause.ensures.ran in
    let compiled : AreCompiled p.typed codes =
    subst (AreCompiled p.typed) (sym c.as_slice.ensures.value) (record { compiled = c.in_ok-code.ensures.codes; means = c.in_ok-code.ensures.means }) in
    let asks : SettlesAsking held old c.args.runs.now c.settle.new.runs (g.F.Files.asked c.args.files.now) (g.F.Files.asked c.settle.new.files) =
    subst (SettledAsking held old c.args.runs.now c.settle.new.runs (g.F.Files.asked c.args.files.now) (g.F.Files.asked c.settle.new.files)) c.in-None.is
    c.in_ok-cause.ensures.asks in
    asks_each held p.typed codes p.digests.items p.roots.items s c.args.names.now old c.args.runs.now c.settle.new.runs (g.F.Files.asked c.args.files.now)
    (g.F.Files.asked c.settle.new.files) compiled begins fresh knows runs asks
