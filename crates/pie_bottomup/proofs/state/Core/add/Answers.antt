use Rattle.std.proofs.Common.{◌≡◌, ◌∙◌, ◌<◌, List, Some, length, refl, sym, ap, subst, arith}
use Rattle.std.specs.Prelude.{slice_get}
use Rattle.std.proofs.lemmas.List.{length_push}
use Rattle.pie_value.specs.declared.task.Task.{Task}
use Rattle.pie_graph.specs.Rows.{no_edges}
use Rattle.pie_walk.specs.States.{WalkState}
use Rattle.pie_bottomup.proofs.Sites.{site_grown, own_grown, last_named}
use Rattle.pie_bottomup.proofs.ExactGrowing.{grown_exact, begins_still}
use Rattle.pie_bottomup.proofs.Keeping.{tasks_added, none_ran_more}
use Rattle.pie_bottomup.proofs.state.Core.add.Goals as goal

pub returns-clause-stands : goal.returns-clause-stands
returns-clause-stands c = record {
  site = site_grown c.args.self.now c.add.new.self c.add-2.new.self c.args.task c.requires.site c.requires.stands.holds c.in_ok-_same.ensures.tables
      c.in_ok-no.ensures.added c.add.ensures.parked c.in_ok-_same.ensures.added.names c.add-2.ensures.records;
  rests = c.in_ok-no.ensures.rests;
  holds = c.in_ok-no.ensures.holds;
  stack = ap (λ (s : WalkState). s.stack) c.in_ok-no.ensures.added;
  own = own_grown c.args.self.now c.add.new.self c.add-2.new.self c.args.task c.in_ok-no.ensures.added c.in_ok-_same.ensures.added.names c.add-2.ensures.records;
  begins = λ n from.
      begins_still c.args.self.now c.add.new.self c.add-2.new.self c.args.task c.in_ok-no.ensures.added c.in_ok-_same.ensures.added.names c.add-2.ensures.records n
      from;
}

pub returns-clause-number : goal.returns-clause-number
returns-clause-number c = record {
  number = c.in_ok-no.ensures.number;
  inside = subst (λ (s : WalkState). c.in_ok-no.no.0 < length s.rows) (sym c.in_ok-no.ensures.added)
      (omega (arith, c.in_ok-no.ensures.number, length_push c.args.self.now.frames.walk.rows no_edges));
  named = subst (λ (names : List Task). slice_get names c.in_ok-no.no.0 ≡ Some c.args.task) (sym c.in_ok-_same.ensures.added.names)
      (last_named c.args.self.now.tables.names c.args.task c.in_ok-no.no.0 (c.in_ok-no.ensures.number ∙ sym c.requires.site.sized));
}

pub returns-clause-added : goal.returns-clause-added
returns-clause-added c = record {
  kept = record {
    plan = refl;
    room = c.in_ok-no.ensures.room.room;
    tasks = tasks_added c.args.self.now.tables c.add-2.new.self c.args.task c.in_ok-_same.ensures.added.names c.add-2.ensures.records c.in_ok-_same.ensures.added.ran;
    ran = none_ran_more c.args.self.now.tables c.add-2.new.self c.in_ok-_same.ensures.added.ran;
  };
  weight = omega (arith, c.in_ok-no.ensures.room.weight);
  exact = λ stands u tried e.
      grown_exact u c.args.self.now c.add.new.self c.add-2.new.self c.args.task e c.requires.stands c.in_ok-no.ensures.added c.in_ok-_same.ensures.added.names
      c.add-2.ensures.records c.in_ok-_same.ensures.added.ran tried c.requires.site.tables stands
      (record { distinct = c.as_slice-names.ensures.distinct; canonical = c.as_slice-names.ensures.canonical }) c.requires.site.sized c.requires.few
      c.add.ensures.parked;
  grown = record {
    names = c.in_ok-_same.ensures.added.names;
    records = c.add-2.ensures.records;
    walk = c.in_ok-no.ensures.added;
    stage = refl;
    parked = c.add.ensures.parked;
    ran = c.in_ok-_same.ensures.added.ran;
    tasks = record { distinct = c.as_slice-names.ensures.distinct; canonical = c.as_slice-names.ensures.canonical };
    few = c.requires.few;
  };
}
