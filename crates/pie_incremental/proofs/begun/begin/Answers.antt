use Rattle.std.proofs.Common.{rules, ◌≡◌, ◌++◌}
use Rattle.pie_incremental.proofs.Leaving.{begun_knows}
use Rattle.pie_incremental.proofs.Updating.{begun_digested}
use Rattle.pie_store.specs.Pending.{in_order}
use Rattle.pie_incremental.specs.inner.Asked.{IsAtFirst}
use Rattle.pie_incremental.proofs.Asking.{first_files, first_names, looks_then}
use Rattle.pie_incremental.proofs.begun.begin.Goals as goal

pub returns-clause-known : goal.returns-clause-known
returns-clause-known g c =
    let b = c.args.base.value in
    let e = c.in_ok-ending.ending.value in
    let own : e.own ≡ b.own = search rules in
    let rows : c.as_slice-2.result.now ≡ b.image.rows = search rules in
    let names : c.as_slice-3.result.now ≡ e.names.items = search rules in
    let held : c.in_ok-held.held ≡ e.held = search rules in
    begun_knows (g.F.Files.holds c.args.files.now) b c.as_slice-2.result.now c.as_slice-3.result.now c.in_ok-held.held e own rows names held
    c.in_ok-held.ensures.known

pub returns-clause-digested : goal.returns-clause-digested
returns-clause-digested g c =
    let b = c.args.base.value in
    let image : c.deref_mut.result.now ≡ b.image = search rules in
    begun_digested (g.F.Files.holds c.args.files.now) (g.F.Files.holds c.held_by.new.files) c.args.project.now.digests.items c.as_slice-4.result.now
    c.deref_mut.result.now b.image c.put_digests.new.image c.in_ok-held.ensures.reads.same c.as_slice-4.ensures.value image c.in_ok-put_digests.ensures.put

pub returns-in_err-held-clause-asks : goal.returns-in_err-held-clause-asks
returns-in_err-held-clause-asks g c =
    let names : c.as_slice-3.result.now ≡ in_order (c.args.changes.now ++ c.args.base.value.names.items) = search rules in
    first_names c.args.changes.now c.args.base.value.names.items c.as_slice-3.result.now (g.F.Files.asked c.args.files.now)
    (g.F.Files.asked c.held_by.new.files) names c.held_by.ensures.asks

pub returns-in_err-ending-clause-asks : goal.returns-in_err-ending-clause-asks
returns-in_err-ending-clause-asks g c =
    let names : c.as_slice-3.result.now ≡ in_order (c.args.changes.now ++ c.args.base.value.names.items) = search rules in
    first_names c.args.changes.now c.args.base.value.names.items c.as_slice-3.result.now (g.F.Files.asked c.args.files.now)
    (g.F.Files.asked c.held_by.new.files) names c.held_by.ensures.asks

pub returns-in_err-put_digests-clause-asks : goal.returns-in_err-put_digests-clause-asks
returns-in_err-put_digests-clause-asks g c =
    let names : c.as_slice-3.result.now ≡ in_order (c.args.changes.now ++ c.args.base.value.names.items) = search rules in
    let list = c.args.changes.now in
    let pending = c.args.base.value.names.items in
    let before = g.F.Files.asked c.args.files.now in
    let mid = g.F.Files.asked c.held_by.new.files in
    let after = g.F.Files.asked c.put_digests.new.files in
    looks_then (IsAtFirst list pending) before mid after (first_names list pending c.as_slice-3.result.now before mid names c.held_by.ensures.asks)
    (first_files list pending mid after c.put_digests.ensures.asks)

pub returns-clause-asks : goal.returns-clause-asks
returns-clause-asks g c =
    let names : c.as_slice-3.result.now ≡ in_order (c.args.changes.now ++ c.args.base.value.names.items) = search rules in
    let list = c.args.changes.now in
    let pending = c.args.base.value.names.items in
    let before = g.F.Files.asked c.args.files.now in
    let mid = g.F.Files.asked c.held_by.new.files in
    let after = g.F.Files.asked c.put_digests.new.files in
    looks_then (IsAtFirst list pending) before mid after (first_names list pending c.as_slice-3.result.now before mid names c.held_by.ensures.asks)
    (first_files list pending mid after c.put_digests.ensures.asks)
