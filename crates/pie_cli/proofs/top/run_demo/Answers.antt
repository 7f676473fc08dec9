use Rattle.std.proofs.Common.{rules}
use Rattle.std.specs.Prelude.{string_bytes}
use Rattle.pie_cli.proofs.Demos.{says_memory, says_shown}
use Rattle.pie_cli.proofs.top.run_demo.Goals as goal

pub returns-in-Ok-clause-says : goal.returns-in-Ok-clause-says
returns-in-Ok-clause-says g c = says_shown c.args.seed c.args.size (g.K.Sink.held c.args.out.now) (g.K.Sink.held c.show_told.new.out) (string_bytes c.in-Ok.told.text) c.show_told.result
    c.in-Ok.ensures.told (search rules) c.show_told.ensures.prefix

pub returns-in-Err-clause-says : goal.returns-in-Err-clause-says
returns-in-Err-clause-says g c = says_memory c.args.seed c.args.size (g.K.Sink.held c.args.out.now)
