use Rattle.pie_build.proofs.Cleaning.{cleaned}
use Rattle.pie_build.proofs.AskingClean.{seen_none, seen_now}
use Rattle.pie_build.proofs.building.evaluate.Goals as goal

pub returns-clause-clean : goal.returns-clause-clean
returns-clause-clean g c =
    cleaned (g.F.Files.holds c.args.files.now) c.args.project.now.typed c.in_ok-code.code.items c.as_slice.result.now c.args.project.now.roots.items
    c.as_slice-2.result.now c.args.runs.now c.fresh.new.runs c.in_ok-built.built c.as_slice.ensures.value c.as_slice-2.ensures.value c.requires.ready
    c.in_ok-code.ensures.codes c.in_ok-code.ensures.means c.in_ok-built.ensures.clean

pub returns-in_err-code-clause-asks : goal.returns-in_err-code-clause-asks
returns-in_err-code-clause-asks g c =
    seen_none (g.F.Files.holds c.args.files.now) c.args.project.now.typed c.args.runs.now (g.F.Files.asked c.args.files.now)

pub returns-in_err-built-clause-asks : goal.returns-in_err-built-clause-asks
returns-in_err-built-clause-asks g c =
    seen_now (g.F.Files.holds c.args.files.now) c.args.project.now.typed c.in_ok-code.code.items c.as_slice.result.now c.args.project.now.roots.items
    c.as_slice-2.result.now c.args.runs.now c.fresh.new.runs (g.F.Files.asked c.args.files.now) (g.F.Files.asked c.fresh.new.files) c.as_slice.ensures.value c.as_slice-2.ensures.value c.requires.ready
    c.in_ok-code.ensures.codes c.in_ok-code.ensures.means c.fresh.ensures.asks

pub returns-clause-asks : goal.returns-clause-asks
returns-clause-asks g c =
    seen_now (g.F.Files.holds c.args.files.now) c.args.project.now.typed c.in_ok-code.code.items c.as_slice.result.now c.args.project.now.roots.items
    c.as_slice-2.result.now c.args.runs.now c.fresh.new.runs (g.F.Files.asked c.args.files.now) (g.F.Files.asked c.fresh.new.files) c.as_slice.ensures.value c.as_slice-2.ensures.value c.requires.ready
    c.in_ok-code.ensures.codes c.in_ok-code.ensures.means c.fresh.ensures.asks
