use Rattle.std.proofs.Common.{rules, ◌≡◌, refl, ap, sym, subst, ◌∙◌}
use Rattle.pie_builder_laws.specs.Events.{AreCompiled}
use Rattle.pie_incremental.proofs.Updating.{begun_digested}
use Rattle.pie_store.specs.declared.image.StoreImage.{StoreImage}
use Rattle.pie_topdown_build.proofs.Filing.{evaluates_filed}
use Rattle.pie_topdown_build.proofs.Making.{image_kept}
use Rattle.pie_topdown_build.proofs.Running.{evaluates}
use Rattle.pie_topdown_build.proofs.Reasons.{evaluates_ran}
use Rattle.pie_topdown_build.proofs.evaluating.evaluate.Goals as goal

pub settled-requires : goal.settled-requires
settled-requires g c =
    let begun : c.deref_mut.result.now ≡ c.args.image = search rules in
    record {
      image = image_kept c.args.image c.put_digests.new.image (c.in_ok-put_digests.ensures.rows ∙ ap (λ (s : StoreImage). s.rows) begun) c.requires.image;
      names = c.requires.names;
      funcs = c.requires.funcs;
      roots = c.requires.roots;
    }

pub returns-clause-clean : goal.returns-clause-clean
returns-clause-clean g c =
    let held = g.F.Files.holds c.args.files.now in
    let mid = g.F.Files.holds c.put_digests.new.files in
    let p = c.args.project.now in
    let codes = c.as_slice-2.result.now in
    let put = c.in_ok-put_digests.ensures in
    let begun : c.deref_mut.result.now ≡ c.args.image = search rules in
    let compiled : AreCompiled p.typed codes =
    subst (AreCompiled p.typed) (sym c.as_slice-2.ensures.value) (record { compiled = c.in_ok-code.ensures.codes; means = c.in_ok-code.ensures.means }) in
    evaluates held mid p codes c.args.image c.put_digests.new.image (g.O.Offers.told c.args.offers.now) c.settled.result put.reads.same compiled
    c.requires.image (put.rows ∙ ap (λ (s : StoreImage). s.rows) begun)
    (begun_digested held held p.digests.items c.as_slice.result.now c.deref_mut.result.now c.args.image c.put_digests.new.image refl c.as_slice.ensures.value
    begun put.put) c.settled.ensures.clean

pub returns-clause-runs : goal.returns-clause-runs
returns-clause-runs g c =
    let held = g.F.Files.holds c.args.files.now in
    let mid = g.F.Files.holds c.put_digests.new.files in
    let p = c.args.project.now in
    let codes = c.as_slice-2.result.now in
    let put = c.in_ok-put_digests.ensures in
    let begun : c.deref_mut.result.now ≡ c.args.image = search rules in
    let compiled : AreCompiled p.typed codes =
    subst (AreCompiled p.typed) (sym c.as_slice-2.ensures.value) (record { compiled = c.in_ok-code.ensures.codes; means = c.in_ok-code.ensures.means }) in
    evaluates_ran held mid p codes c.args.image c.put_digests.new.image (g.O.Offers.told c.args.offers.now) c.args.runs.now c.settled.new.runs c.settled.result
    put.reads.same compiled c.requires.image (put.rows ∙ ap (λ (s : StoreImage). s.rows) begun)
    (begun_digested held held p.digests.items c.as_slice.result.now c.deref_mut.result.now c.args.image c.put_digests.new.image refl c.as_slice.ensures.value
    begun put.put) c.settled.ensures.runs c.settled.ensures.reuses.none

pub returns-clause-files : goal.returns-clause-files
returns-clause-files g c =
    let held = g.F.Files.holds c.args.files.now in
    let mid = g.F.Files.holds c.put_digests.new.files in
    let p = c.args.project.now in
    let codes = c.as_slice-2.result.now in
    let put = c.in_ok-put_digests.ensures in
    let begun : c.deref_mut.result.now ≡ c.args.image = search rules in
    let compiled : AreCompiled p.typed codes =
    subst (AreCompiled p.typed) (sym c.as_slice-2.ensures.value) (record { compiled = c.in_ok-code.ensures.codes; means = c.in_ok-code.ensures.means }) in
    evaluates_filed held mid p codes c.args.image c.put_digests.new.image (g.O.Offers.told c.args.offers.now) c.args.runs.now c.settled.new.runs c.settled.result
    put.reads.same compiled c.requires.image (put.rows ∙ ap (λ (s : StoreImage). s.rows) begun)
    (begun_digested held held p.digests.items c.as_slice.result.now c.deref_mut.result.now c.args.image c.put_digests.new.image refl c.as_slice.ensures.value
    begun put.put) c.settled.ensures.files
