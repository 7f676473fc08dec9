use Rattle.std.proofs.Common.{◌≡◌, ◌+◌, ◌∙◌, set, ap, refl, sym, subst}
use Rattle.std.specs.Prelude.{slice_set}
use Rattle.pie_graph.specs.Numbers.{numbers}
use Rattle.pie_record.specs.declared.task_record.TaskRecord.{TaskRecord}
use Rattle.pie_record.specs.inner.Records.{Puts}
use Rattle.pie_record.specs.declared.task_record.Outcome.TheVariants.{Done}
use Rattle.std.specs.Vec.{with_item}
use Rattle.pie_running.specs.inner.Noted.{Noted, noted_in}
use Rattle.pie_fresh.specs.declared.ledger.Ledger.{Ledger}
use Rattle.pie_fresh.specs.inner.Kept.{ended_with, row_ended, row_with}
use Rattle.pie_fresh.proofs.Ending.{EndsAs, ends_ledger, ends_grows, ends_high}
use Rattle.pie_fresh.proofs.ledger.Ledger.end.Goals as goal

-- the record of the task that ends
abbrev rec : goal.In_ok-put → TaskRecord
rec c = record { task = c.into_parts-task.result.task; deps = c.new.result; writes = c.new-2.result; outcome = Done c.args.output }

-- its notes
abbrev seen : goal.In_ok-put → Noted
seen c = noted_in c.into_parts-task.result c.args.notes.left

-- the ledger after its end
abbrev after : goal.In_ok-put → Ledger
after c = record {
  alloc = c.set_row.new.self.alloc;
  names = c.set_row.new.self.names;
  rows = c.set_row.new.self.rows;
  records = c.put.new.self;
  heights = with_item c.set_row.new.self.heights c.into_parts-task.result.no.0 c.into_parts-task.result.height;
  stage = c.set_row.new.self.stage;
  ended = c.set_row.new.self.ended + 1;
}

ends : (c : goal.In_ok-put) → EndsAs c.args.self.now (after c) (seen c) (rec c)
ends c = record {
  names = c.in_ok-set_row.ensures.names;
  rows = c.in_ok-set_row.ensures.rows;
  heights = ap (λ hs. set hs.items c.into_parts-task.result.no.0 c.into_parts-task.result.height) c.in_ok-set_row.ensures.heights;
  puts = subst (λ rs. Puts rs c.put.new.self c.into_parts-task.result.no.0 (rec c)) c.in_ok-set_row.ensures.ended.records c.in_ok-put.ensures.puts;
  ended = ap (λ n. n + 1) c.in_ok-set_row.ensures.ended.ended;
  task = refl;
  deps = c.new.ensures;
  writes = c.new-2.ensures;
  outcome = c.requires.small;
}

-- its record is the one that is kept of it
kept : (c : goal.In_ok-put) → rec c ≡ ended_with (seen c) c.args.output
kept c =
    ap (λ ds. record { task = c.into_parts-task.result.task; deps = ds; writes = c.new-2.result; outcome = Done c.args.output }) c.new.ensures
    ∙ ap (λ ws. record { task = c.into_parts-task.result.task; deps = c.into_parts-task.result.deps.items; writes = ws; outcome = Done c.args.output })
    c.new-2.ensures

pub returns-clause-ends : goal.returns-clause-ends
returns-clause-ends c = record {
  ledger = ends_ledger c.args.self.now (after c) (seen c) c.args.notes (rec c) (sym c.into_parts-task.ensures) (ends c) c.requires.ledger c.requires.placed
      c.requires.sound c.requires.unfinished.unrecorded;
  grows = ends_grows c.args.self.now (after c) (seen c) c.args.notes (rec c) (sym c.into_parts-task.ensures) (ends c) c.requires.unfinished.unrecorded;
  high = ends_high c.args.self.now (after c) (seen c) c.args.notes (rec c) (sym c.into_parts-task.ensures) (ends c) c.requires.ledger c.requires.placed;
  ended = (ends c).ended;
  puts = subst (λ (n : Noted). Puts c.args.self.now.records c.put.new.self n.number (ended_with n c.args.output)) (sym c.into_parts-task.ensures)
      (subst (λ r. Puts c.args.self.now.records c.put.new.self (seen c).number r) (kept c) (ends c).puts);
  rows = subst (λ (n : Noted). c.set_row.new.self.rows ≡ slice_set c.args.self.now.rows n.number (row_ended n)) (sym c.into_parts-task.ensures)
      (c.in_ok-set_row.ensures.set ∙ ap (λ ws. slice_set c.args.self.now.rows c.into_parts-task.result.no.0
      (row_with (numbers c.into_parts-task.result.needs.items) ws)) c.as_slice.ensures.value);
}
