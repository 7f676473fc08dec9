use Rattle.std.proofs.Common.{Ok}
use Rattle.pie_files.specs.declared.files.FilesError.{FilesError}
use Rattle.pie_topdown.proofs.Trying.{ask_tried}
use Rattle.pie_topdown.proofs.Tried.{asks_begins}
use Rattle.pie_topdown.proofs.builder.Builder.ask.Goals as goal

pub returns-clause-right : goal.returns-clause-right
returns-clause-right g c =
    asks_begins {E = FilesError} (g.F.Files.holds c.args.files.now) (g.O.Offers.told c.args.offers.now) c.args.self.now c.try_next.new.self c.args.no.0
    c.args.code.now c.in_ok-rest.rest.items (Ok c.in_ok-try_next.field-0) c.in_ok-rest.ensures.right c.in_ok-try_next.ensures.right

pub returns-clause-own : goal.returns-clause-own
returns-clause-own g c = λ o own. c.in_ok-try_next.ensures.own (c.in_ok-rest.ensures.none o) own

pub returns-clause-tried : goal.returns-clause-tried
returns-clause-tried g c =
    ask_tried {E = FilesError} (g.F.Files.holds c.args.files.now) (g.O.Offers.told c.args.offers.now) c.args.self.now c.try_next.new.self c.args.no.0
    c.in_ok-rest.rest.items c.args.runs.now c.try_next.new.runs (Ok c.in_ok-try_next.field-0) c.requires.hand.inside c.in_ok-rest.ensures.asks
    c.in_ok-try_next.ensures.tried
