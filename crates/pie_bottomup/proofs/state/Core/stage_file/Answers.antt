use Rattle.std.proofs.Common.{ℕ, List, subst, ap, ◌∙◌}
use Rattle.std.specs.Prelude.{option_map}
use Rattle.pie_files.specs.declared.files.Found.{Found}
use Rattle.pie_view.specs.Content.{Puts}
use Rattle.pie_bottomup.proofs.ExactEvents.{file_exact}
use Rattle.pie_bottomup.proofs.Fetching.{read_at, put_stages, none_stages}
use Rattle.pie_bottomup.proofs.state.Core.stage_file.Goals as goal

pub returns-in_ok-put-in-Some-clause-exact : goal.returns-in_ok-put-in-Some-clause-exact
returns-in_ok-put-in-Some-clause-exact g c =
    λ u site may e.
    let bytes = c.in-Some.found.bytes.items in
    let at = read_at (g.F.Files.holds c.args.files.now) u.directory c.args.path.now c.in_ok-found.field-0 site.holds c.in_ok-found.ensures.found
    ∙ ap (option_map (λ (f : Found). f.bytes.items)) c.in-Some.is in
    file_exact u c.args.self.now c.put.new.self c.args.writer.0 c.args.path.now bytes e may site.apart
    (subst (λ (p : List ℕ). Puts c.args.self.now.stage c.put.new.self c.args.writer.0 p bytes) c.in_ok-copy-in-Some.ensures
    c.in_ok-put-in-Some.ensures.puts) at (site.besides c.args.path.now bytes c.requires at)

pub returns-in_ok-put-in-Some-clause-stages : goal.returns-in_ok-put-in-Some-clause-stages
returns-in_ok-put-in-Some-clause-stages g c =
    put_stages (g.F.Files.holds c.args.files.now) c.args.self.now c.put.new.self c.args.writer.0 c.args.path.now c.in-Some.found.bytes.items
    (subst (λ (p : List ℕ). Puts c.args.self.now.stage c.put.new.self c.args.writer.0 p c.in-Some.found.bytes.items) c.in_ok-copy-in-Some.ensures
    c.in_ok-put-in-Some.ensures.puts)

pub returns-in-None-clause-stages : goal.returns-in-None-clause-stages
returns-in-None-clause-stages g c =
    none_stages (g.F.Files.holds c.args.files.now) c.args.self.now c.args.writer.0 c.args.path.now c.in_ok-found.field-0 c.in_ok-found.ensures.found c.in-None.is
