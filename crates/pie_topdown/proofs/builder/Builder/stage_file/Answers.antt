use Rattle.std.proofs.Common.{ℕ, List, subst}
use Rattle.pie_view.specs.Content.{Puts}
use Rattle.pie_topdown.proofs.Fetched.{put_stages, none_stages}
use Rattle.pie_topdown.proofs.builder.Builder.stage_file.Goals as goal

pub returns-in_ok-put-in-Some-clause-stages : goal.returns-in_ok-put-in-Some-clause-stages
returns-in_ok-put-in-Some-clause-stages g c =
    put_stages (g.F.Files.holds c.args.files.now) c.args.self.now c.put.new.self c.args.writer.0 c.args.path.now c.in_ok-found.field-0 c.in-Some.found
    c.in_ok-found.ensures.found c.in-Some.is
    (subst (λ (p : List ℕ). Puts c.args.self.now.stage c.put.new.self c.args.writer.0 p c.in-Some.found.bytes.items) c.in_ok-copy-in-Some.ensures
    c.in_ok-put-in-Some.ensures.puts)

pub returns-in-None-clause-stages : goal.returns-in-None-clause-stages
returns-in-None-clause-stages g c =
    none_stages (g.F.Files.holds c.args.files.now) c.args.self.now c.args.writer.0 c.args.path.now c.in_ok-found.field-0 c.in_ok-found.ensures.found c.in-None.is
