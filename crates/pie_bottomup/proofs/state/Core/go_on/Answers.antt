use Rattle.std.specs.Prelude.{Ok}
use Rattle.pie_files.specs.declared.files.FilesError.{FilesError}
use Rattle.pie_bottomup.specs.inner.Going.{TestsWhole}
use Rattle.pie_bottomup.specs.inner.States.{rest}
use Rattle.pie_bottomup.specs.inner.Stepping.{TestsAll}
use Rattle.pie_bottomup.specs.inner.Tested.{HasTested}
use Rattle.pie_bottomup.proofs.GoingFirst.{test_whole, walk_whole}
use Rattle.pie_bottomup.proofs.Reasoning.{steps_for}
use Rattle.pie_bottomup.proofs.Many.{done_many, done_none, tests_many}
use Rattle.pie_bottomup.proofs.Asking.{tests_first}
use Rattle.pie_bottomup.proofs.Overflowing.{many_whole}
use Rattle.pie_bottomup.proofs.Stepping.{done_free, tests_untested, on_ok_more, leaves_whole, goes_steps, many_stops, keeps_starts, starts_none}
use Rattle.pie_bottomup.proofs.state.Core.go_on.Goals as goal

pub walk_on-requires : goal.walk_on-requires
walk_on-requires g c = done_free c.args.self.now c.requires c.in-Done.is

pub begin_tested-requires-clause-untested : goal.begin_tested-requires-clause-untested
begin_tested-requires-clause-untested g c = tests_untested c.args.self.now c.requires c.in-Tests.is

pub returns-in_ok-walk_on-in-Done-clause-steps : goal.returns-in_ok-walk_on-in-Done-clause-steps
returns-in_ok-walk_on-in-Done-clause-steps g c =
    let ok = c.in_ok-walk_on-in-Done.ensures in
    goes_steps (rest c.args.self.now) c.walk_on.new.self c.in_ok-walk_on-in-Done.field-0 ok.turns ok.nearer

pub returns-in_ok-walk_on-in-Done-clause-starts : goal.returns-in_ok-walk_on-in-Done-clause-starts
returns-in_ok-walk_on-in-Done-clause-starts g c = record {
  spends = c.in_ok-walk_on-in-Done.ensures.spends;
  none = done_none {E = FilesError} c.args.self.now c.args.runs.now c.walk_on.new.runs (Ok c.in_ok-walk_on-in-Done.field-0) c.in-Done.is;
  reasons = steps_for (g.F.Files.holds c.args.files.now) c.args.self.now c.walk_on.new.self c.args.runs.now c.walk_on.new.runs c.in-Done.is
      c.requires.free c.in_ok-walk_on-in-Done.ensures.reasons;
}

pub returns-in_ok-walk_on-in-Done-clause-whole : goal.returns-in_ok-walk_on-in-Done-clause-whole
returns-in_ok-walk_on-in-Done-clause-whole g c = record {
  many = done_many {E = FilesError} c.args.self.now (Ok c.in_ok-walk_on-in-Done.field-0) c.in-Done.is;
  whole = walk_whole {E = FilesError} (g.F.Files.holds c.args.files.now) c.args.self.now c.walk_on.new.self (Ok c.in_ok-walk_on-in-Done.field-0)
      c.requires.free c.in-Done.is c.in_ok-walk_on-in-Done.ensures.whole;
}

pub returns-in-Tests-clause-starts : goal.returns-in-Tests-clause-starts
returns-in-Tests-clause-starts g c =
    keeps_starts (g.F.Files.holds c.args.files.now) c.args.self.now c.begin_tested.new.self c.args.runs.now c.begin_tested.result c.begin_tested.ensures.kept

pub returns-in-Tests-clause-tested : goal.returns-in-Tests-clause-tested
returns-in-Tests-clause-tested g c =
    let held = g.F.Files.holds c.args.files.now in
    λ first.
    on_ok_more (TestsAll held c.args.self.now c.begin_tested.new.self) (HasTested held c.args.self.now c.begin_tested.new.self) (λ is. is.tested)
    c.begin_tested.result c.begin_tested.ensures.tests

pub returns-in-Tests-clause-whole : goal.returns-in-Tests-clause-whole
returns-in-Tests-clause-whole g c =
    let held = g.F.Files.holds c.args.files.now in
    let old = c.args.self.now in
    let new = c.begin_tested.new.self in
    leaves_whole held old new c.begin_tested.result (tests_many old c.begin_tested.result c.in-Tests.is)
    (test_whole held old new c.begin_tested.result c.in-Tests.is
    (on_ok_more (TestsAll held old new) (TestsWhole held old new) (λ is. is.whole) c.begin_tested.result c.begin_tested.ensures.tests)
    c.begin_tested.ensures.went)

pub returns-in-Tests-clause-asks : goal.returns-in-Tests-clause-asks
returns-in-Tests-clause-asks g c =
    tests_first c.args.self.now (g.F.Files.asked c.args.files.now) (g.F.Files.asked c.begin_tested.new.files) c.in-Tests.is c.begin_tested.ensures.asks

pub returns-in_ok-copy-in-TooMany-clause-starts : goal.returns-in_ok-copy-in-TooMany-clause-starts
returns-in_ok-copy-in-TooMany-clause-starts g c = starts_none (g.F.Files.holds c.args.files.now) c.args.self.now c.args.runs.now

pub returns-in_ok-copy-in-TooMany-clause-whole : goal.returns-in_ok-copy-in-TooMany-clause-whole
returns-in_ok-copy-in-TooMany-clause-whole g c = record {
  many = many_stops c.args.self.now c.in-TooMany.task c.in_ok-copy-in-TooMany.field-0 c.in-TooMany.is c.in_ok-copy-in-TooMany.ensures;
  whole = many_whole (g.F.Files.holds c.args.files.now) c.args.self.now c.in-TooMany.task c.in_ok-copy-in-TooMany.field-0 c.in-TooMany.is
      c.in_ok-copy-in-TooMany.ensures;
}
