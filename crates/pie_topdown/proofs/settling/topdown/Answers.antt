use Rattle.std.proofs.Common.{◌≡◌, ◌∙◌, List, ap, sym, subst, rules}
use Rattle.pie_graph.specs.Numbers.{numbers}
use Rattle.pie_parser.specs.FunctionTrees.{FunctionTree}
use Rattle.pie_value.specs.declared.verdict.Verdict.{Verdict}
use Rattle.pie_topdown.specs.declared.builder.Builder.{Builder}
use Rattle.pie_topdown.specs.declared.plan.Plan.{Plan}
use Rattle.pie_topdown.specs.inner.Ended.{StoredIf}
use Rattle.pie_topdown.specs.inner.Filed.{MakesFiles}
use Rattle.pie_topdown.specs.inner.Frames.{IsSite}
use Rattle.pie_topdown.specs.inner.Ran.{AddsNamed}
use Rattle.pie_topdown.specs.inner.Rooted.{IsPlanOf, IsUnbegun, MakesSettled}
use Rattle.pie_topdown.proofs.Concluding.{build_ran, refused_ran}
use Rattle.pie_topdown.proofs.Filing.{build_filed, refused_filed}
use Rattle.pie_topdown.proofs.Going.{started_none, starts_and_reuses, starts_none_reuses_none}
use Rattle.pie_topdown.proofs.Resulting.{built_clean, refused_so}
use Rattle.pie_topdown.proofs.Owning.{nothing_reused}
use Rattle.pie_topdown.proofs.settling.topdown.Goals as goal

pub begun-requires-clause-storable : goal.begun-requires-clause-storable
begun-requires-clause-storable g c = c.requires.storable

pub begun-requires-clause-order : goal.begun-requires-clause-order
begun-requires-clause-order g c = c.requires.order

pub settle_all-requires : goal.settle_all-requires
settle_all-requires g c =
    let first : c.deref_mut.result.now ≡ c.in_ok-builder.builder.value = search rules in
    record { site = subst IsSite (sym first) c.in_ok-builder.ensures.site; roots = c.requires.roots }

pub built-requires-clause-roots : goal.built-requires-clause-roots
built-requires-clause-roots g c = c.requires.roots

pub returns-in-Some-clause-made : goal.returns-in-Some-clause-made
returns-in-Some-clause-made g c = record {
  refused_empty = c.refused.ensures.refused_empty;
  kept = c.refused.ensures.kept;
  stored = subst (λ (v : Verdict). StoredIf v c.args.typed.now c.args.roots.now c.refused.result) (sym c.refused.ensures.verdict) tt;
}

pub returns-clause-made : goal.returns-clause-made
returns-clause-made g c =
    let b = c.in_ok-built-in-None.built in
    let first : c.deref_mut.result.now ≡ c.in_ok-builder.builder.value = search rules in
    let own : c.deref_mut-in-None.result.now ≡ c.settle_all.new.self = search rules in
    let typed : c.deref_mut-in-None.result.now.plan.typed.now ≡ c.args.typed.now =
    ap (λ (x : Builder). x.plan.typed.now) own ∙ ap (λ (p : Plan). p.typed.now) c.in_ok-why.ensures.plan
    ∙ ap (λ (x : Builder). x.plan.typed.now) first ∙ c.in_ok-builder.ensures.typed in
    record {
      refused_empty = c.in_ok-built-in-None.ensures.refused_empty;
      kept = c.in_ok-built-in-None.ensures.kept;
      stored = subst (λ (fs : List FunctionTree). StoredIf b.verdict fs c.args.roots.now b) typed c.in_ok-built-in-None.ensures.stored;
    }

pub returns-in_err-builder-clause-tasks : goal.returns-in_err-builder-clause-tasks
returns-in_err-builder-clause-tasks g c = starts_none_reuses_none c.args.runs.now c.args.reused.now.items

pub returns-in_err-why-clause-tasks : goal.returns-in_err-why-clause-tasks
returns-in_err-why-clause-tasks g c =
    let first : c.deref_mut.result.now ≡ c.in_ok-builder.builder.value = search rules in
    starts_and_reuses c.deref_mut.result.now c.in_ok-builder.builder.value c.args.runs.now c.settle_all.new.runs c.args.reused.now.items
    c.args.reused.now.items first c.in_ok-builder.ensures.room c.settle_all.ensures.started c.settle_all.ensures.few (started_none c.args.reused.now.items)

pub returns-in_err-tell_reused-clause-tasks : goal.returns-in_err-tell_reused-clause-tasks
returns-in_err-tell_reused-clause-tasks g c =
    let first : c.deref_mut.result.now ≡ c.in_ok-builder.builder.value = search rules in
    starts_and_reuses c.deref_mut.result.now c.in_ok-builder.builder.value c.args.runs.now c.settle_all.new.runs c.args.reused.now.items
    c.tell_reused.new.reused.items first c.in_ok-builder.ensures.room c.settle_all.ensures.started c.settle_all.ensures.few c.tell_reused.ensures.started

pub returns-in-Some-clause-tasks : goal.returns-in-Some-clause-tasks
returns-in-Some-clause-tasks g c =
    let first : c.deref_mut.result.now ≡ c.in_ok-builder.builder.value = search rules in
    starts_and_reuses c.deref_mut.result.now c.in_ok-builder.builder.value c.args.runs.now c.settle_all.new.runs c.args.reused.now.items
    c.tell_reused.new.reused.items first c.in_ok-builder.ensures.room c.settle_all.ensures.started c.settle_all.ensures.few c.tell_reused.ensures.started

pub returns-in_err-built-in-None-clause-tasks : goal.returns-in_err-built-in-None-clause-tasks
returns-in_err-built-in-None-clause-tasks g c =
    let first : c.deref_mut.result.now ≡ c.in_ok-builder.builder.value = search rules in
    starts_and_reuses c.deref_mut.result.now c.in_ok-builder.builder.value c.args.runs.now c.settle_all.new.runs c.args.reused.now.items
    c.tell_reused.new.reused.items first c.in_ok-builder.ensures.room c.settle_all.ensures.started c.settle_all.ensures.few c.tell_reused.ensures.started

pub returns-clause-tasks : goal.returns-clause-tasks
returns-clause-tasks g c =
    let first : c.deref_mut.result.now ≡ c.in_ok-builder.builder.value = search rules in
    starts_and_reuses c.deref_mut.result.now c.in_ok-builder.builder.value c.args.runs.now c.settle_all.new.runs c.args.reused.now.items
    c.tell_reused.new.reused.items first c.in_ok-builder.ensures.room c.settle_all.ensures.started c.settle_all.ensures.few c.tell_reused.ensures.started

pub returns-in-Some-clause-clean : goal.returns-in-Some-clause-clean
returns-in-Some-clause-clean g c = λ program.
    let old = c.deref_mut.result.now in
    let first : old ≡ c.in_ok-builder.builder.value = search rules in
    refused_so (g.F.Files.holds c.args.files.now) c.args.typed.now c.args.code.now c.args.image.funcs c.args.digests.now c.args.image.rows
    (g.O.Offers.told c.args.offers.now) c.args.roots.now old c.settle_all.new.self c.refused.result program c.requires.storable
    (subst IsSite (sym first) c.in_ok-builder.ensures.site)
    (subst (λ (b : Builder). IsPlanOf c.args.typed.now c.args.code.now c.args.image.funcs c.args.digests.now c.args.image.rows b.plan) (sym first)
    c.in_ok-builder.ensures.plan) (subst IsUnbegun (sym first) c.in_ok-builder.ensures.unbegun) c.in_ok-why.why c.in-Some.refusal c.in-Some.is
    c.refused.ensures.verdict c.in_ok-why.ensures.ends.right

pub returns-clause-clean : goal.returns-clause-clean
returns-clause-clean g c = λ program.
    let old = c.deref_mut.result.now in
    let first : old ≡ c.in_ok-builder.builder.value = search rules in
    let makes : MakesSettled c.settle_all.new.self c.args.roots.now c.in_ok-built-in-None.built = search rules in
    built_clean (g.F.Files.holds c.args.files.now) c.args.typed.now c.args.code.now c.args.image.funcs c.args.digests.now c.args.image.rows
    (g.O.Offers.told c.args.offers.now) c.args.roots.now old c.settle_all.new.self c.in_ok-built-in-None.built program c.requires.storable
    (subst IsSite (sym first) c.in_ok-builder.ensures.site)
    (subst (λ (b : Builder). IsPlanOf c.args.typed.now c.args.code.now c.args.image.funcs c.args.digests.now c.args.image.rows b.plan) (sym first)
    c.in_ok-builder.ensures.plan) (subst IsUnbegun (sym first) c.in_ok-builder.ensures.unbegun) c.in_ok-why.why c.in-None.is c.in_ok-why.ensures.ends.right makes

pub returns-in-Some-clause-ran : goal.returns-in-Some-clause-ran
returns-in-Some-clause-ran g c = λ program.
    let old = c.deref_mut.result.now in
    let first : old ≡ c.in_ok-builder.builder.value = search rules in
    let there : c.deref.result.now ≡ c.settle_all.new.self = search rules in
    let adds : AddsNamed c.settle_all.new.self (numbers c.settle_all.new.self.reused.items) c.args.reused.now.items c.tell_reused.new.reused.items =
    subst (λ (b : Builder). AddsNamed b (numbers b.reused.items) c.args.reused.now.items c.tell_reused.new.reused.items) there c.in_ok-tell_reused.ensures.named in
    refused_ran (g.F.Files.holds c.args.files.now) c.args.typed.now c.args.code.now c.args.image.funcs c.args.digests.now c.args.image.rows
    (g.O.Offers.told c.args.offers.now) c.args.roots.now old c.settle_all.new.self c.refused.result c.args.runs.now c.settle_all.new.runs c.args.reused.now.items
    c.tell_reused.new.reused.items program c.requires.storable (subst IsSite (sym first) c.in_ok-builder.ensures.site)
    (subst (λ (b : Builder). IsPlanOf c.args.typed.now c.args.code.now c.args.image.funcs c.args.digests.now c.args.image.rows b.plan) (sym first)
    c.in_ok-builder.ensures.plan) (subst IsUnbegun (sym first) c.in_ok-builder.ensures.unbegun) c.in_ok-why.why c.in-Some.refusal c.in-Some.is
    c.refused.ensures.verdict c.in_ok-why.ensures.plan c.in_ok-why.ensures.ends.full adds

pub returns-clause-ran : goal.returns-clause-ran
returns-clause-ran g c = λ program.
    let old = c.deref_mut.result.now in
    let first : old ≡ c.in_ok-builder.builder.value = search rules in
    let there : c.deref.result.now ≡ c.settle_all.new.self = search rules in
    let adds : AddsNamed c.settle_all.new.self (numbers c.settle_all.new.self.reused.items) c.args.reused.now.items c.tell_reused.new.reused.items =
    subst (λ (b : Builder). AddsNamed b (numbers b.reused.items) c.args.reused.now.items c.tell_reused.new.reused.items) there c.in_ok-tell_reused.ensures.named in
    build_ran (g.F.Files.holds c.args.files.now) c.args.typed.now c.args.code.now c.args.image.funcs c.args.digests.now c.args.image.rows
    (g.O.Offers.told c.args.offers.now) c.args.roots.now old c.settle_all.new.self c.in_ok-built-in-None.built c.args.runs.now c.settle_all.new.runs c.args.reused.now.items
    c.tell_reused.new.reused.items program c.requires.storable (subst IsSite (sym first) c.in_ok-builder.ensures.site)
    (subst (λ (b : Builder). IsPlanOf c.args.typed.now c.args.code.now c.args.image.funcs c.args.digests.now c.args.image.rows b.plan) (sym first)
    c.in_ok-builder.ensures.plan) (subst IsUnbegun (sym first) c.in_ok-builder.ensures.unbegun) c.in_ok-why.why c.in-None.is
    (c.in_ok-why.ensures.site c.in-None.is) c.in_ok-why.ensures.plan c.in_ok-why.ensures.ends.right c.in_ok-why.ensures.ends.ran adds

pub returns-in-Some-clause-none : goal.returns-in-Some-clause-none
returns-in-Some-clause-none g c =
    let old = c.deref_mut.result.now in
    let first : old ≡ c.in_ok-builder.builder.value = search rules in
    let there : c.deref.result.now ≡ c.settle_all.new.self = search rules in
    let adds : AddsNamed c.settle_all.new.self (numbers c.settle_all.new.self.reused.items) c.args.reused.now.items c.tell_reused.new.reused.items =
    subst (λ (b : Builder). AddsNamed b (numbers b.reused.items) c.args.reused.now.items c.tell_reused.new.reused.items) there c.in_ok-tell_reused.ensures.named in
    nothing_reused (g.F.Files.holds c.args.files.now) (g.O.Offers.told c.args.offers.now) old c.settle_all.new.self c.args.reused.now.items c.tell_reused.new.reused.items
    (subst IsUnbegun (sym first) c.in_ok-builder.ensures.unbegun) c.in_ok-why.ensures.ends.own adds

pub returns-clause-none : goal.returns-clause-none
returns-clause-none g c =
    let old = c.deref_mut.result.now in
    let first : old ≡ c.in_ok-builder.builder.value = search rules in
    let there : c.deref.result.now ≡ c.settle_all.new.self = search rules in
    let adds : AddsNamed c.settle_all.new.self (numbers c.settle_all.new.self.reused.items) c.args.reused.now.items c.tell_reused.new.reused.items =
    subst (λ (b : Builder). AddsNamed b (numbers b.reused.items) c.args.reused.now.items c.tell_reused.new.reused.items) there c.in_ok-tell_reused.ensures.named in
    nothing_reused (g.F.Files.holds c.args.files.now) (g.O.Offers.told c.args.offers.now) old c.settle_all.new.self c.args.reused.now.items c.tell_reused.new.reused.items
    (subst IsUnbegun (sym first) c.in_ok-builder.ensures.unbegun) c.in_ok-why.ensures.ends.own adds

pub returns-in-Some-clause-files : goal.returns-in-Some-clause-files
returns-in-Some-clause-files g c = λ program.
    refused_filed (g.F.Files.holds c.args.files.now) c.args.typed.now c.args.code.now c.args.image.funcs c.args.digests.now c.args.image.rows
    (g.O.Offers.told c.args.offers.now) c.args.roots.now c.deref_mut.result.now c.settle_all.new.self c.refused.result c.args.runs.now c.settle_all.new.runs
    c.args.reused.now.items c.tell_reused.new.reused.items c.in-Some.refusal c.refused.ensures.verdict

pub returns-clause-files : goal.returns-clause-files
returns-clause-files g c = λ program.
    let old = c.deref_mut.result.now in
    let first : old ≡ c.in_ok-builder.builder.value = search rules in
    let there : c.deref.result.now ≡ c.settle_all.new.self = search rules in
    let adds : AddsNamed c.settle_all.new.self (numbers c.settle_all.new.self.reused.items) c.args.reused.now.items c.tell_reused.new.reused.items =
    subst (λ (b : Builder). AddsNamed b (numbers b.reused.items) c.args.reused.now.items c.tell_reused.new.reused.items) there c.in_ok-tell_reused.ensures.named in
    let own : c.deref_mut-in-None.result.now ≡ c.settle_all.new.self = search rules in
    let makes : MakesFiles c.settle_all.new.self c.in_ok-built-in-None.built =
    subst (λ (b : Builder). MakesFiles b c.in_ok-built-in-None.built) own c.in_ok-built-in-None.ensures.files in
    build_filed (g.F.Files.holds c.args.files.now) c.args.typed.now c.args.code.now c.args.image.funcs c.args.digests.now c.args.image.rows
    (g.O.Offers.told c.args.offers.now) c.args.roots.now old c.settle_all.new.self c.in_ok-built-in-None.built c.args.runs.now c.settle_all.new.runs
    c.args.reused.now.items c.tell_reused.new.reused.items program c.requires.storable (subst IsSite (sym first) c.in_ok-builder.ensures.site)
    (subst (λ (b : Builder). IsPlanOf c.args.typed.now c.args.code.now c.args.image.funcs c.args.digests.now c.args.image.rows b.plan) (sym first)
    c.in_ok-builder.ensures.plan) (subst IsUnbegun (sym first) c.in_ok-builder.ensures.unbegun) c.in_ok-why.why c.in-None.is c.in_ok-why.ensures.plan
    c.in_ok-why.ensures.ends.right c.in_ok-why.ensures.ends.ran adds makes
