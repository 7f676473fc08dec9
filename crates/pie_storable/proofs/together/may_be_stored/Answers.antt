use Rattle.std.proofs.Common.{◌≡◌, Bool, true, false, Option, IfSome, All, Contains, subst}
use Rattle.pie_value.specs.declared.task.Task.{Task}
use Rattle.pie_record.specs.declared.task_record.TaskRecord.{TaskRecord}
use Rattle.pie_store.specs.Canonical.{names_of, tasks_in}
use Rattle.pie_store.specs.inner.Known.{set_has}
use Rattle.pie_storable.specs.declared.heights.Heights.{Heights}
use Rattle.pie_storable.specs.inner.Heights.{AreWalked, HaveRecords, LackRecords}
use Rattle.pie_storable.specs.inner.Together.{MayStandTogether}
use Rattle.pie_storable.proofs.Closing.{if_ok, all_known, all_closed, all_ranked, may_follow}
use Rattle.pie_storable.proofs.together.may_be_stored.Goals as goal

pub returns-in-Some-clause-known : goal.returns-in-Some-clause-known
returns-in-Some-clause-known c =
    let test = set_has c.in_ok-known.known in
    let rows = c.args.rows.now in
    let w : AreWalked test rows c.in-Some.heights =
    subst (λ (o : Option Heights). IfSome o (AreWalked test rows)) c.in-Some.is c.in_ok-heights.ensures.walked in
    if_ok c.have_records.result
    (λ (all : Bool). all ≡ true → HaveRecords c.in-Some.heights c.args.roots.now)
    (λ (may : Bool). may ≡ true → All (λ (r : TaskRecord). Contains (names_of c.args.funcs.now) r.task.func) rows)
    (λ may h yes. all_known test c.args.funcs.now rows c.in_ok-known.ensures w.follow.known) c.have_records.ensures.all

pub returns-in-Some-clause-closed : goal.returns-in-Some-clause-closed
returns-in-Some-clause-closed c =
    let test = set_has c.in_ok-known.known in
    let rows = c.args.rows.now in
    let w : AreWalked test rows c.in-Some.heights =
    subst (λ (o : Option Heights). IfSome o (AreWalked test rows)) c.in-Some.is c.in_ok-heights.ensures.walked in
    if_ok c.have_records.result
    (λ (all : Bool). all ≡ true → HaveRecords c.in-Some.heights c.args.roots.now)
    (λ (may : Bool). may ≡ true → All (λ (t : Task). Contains (tasks_in rows) t) c.args.roots.now)
    (λ may h yes. all_closed test rows c.in-Some.heights w c.args.roots.now (h yes w.ranked w.heights)) c.have_records.ensures.all

pub returns-in-Some-clause-refused : goal.returns-in-Some-clause-refused
returns-in-Some-clause-refused c =
    let test = set_has c.in_ok-known.known in
    let rows = c.args.rows.now in
    let w : AreWalked test rows c.in-Some.heights =
    subst (λ (o : Option Heights). IfSome o (AreWalked test rows)) c.in-Some.is c.in_ok-heights.ensures.walked in
    if_ok c.have_records.result
    (λ (all : Bool). all ≡ false → LackRecords c.in-Some.heights c.args.roots.now)
    (λ (may : Bool). may ≡ false → ¬ (MayStandTogether c.args.funcs.now c.args.roots.now rows))
    (λ may h no m. h no w.ranked w.heights (all_ranked test rows c.in-Some.heights w c.args.roots.now m.closed)) c.have_records.ensures.lacking

pub returns-clause-refused : goal.returns-clause-refused
returns-clause-refused c = λ no m.
    c.in_ok-heights.ensures.refused c.in-None.is
    (may_follow (set_has c.in_ok-known.known) c.args.funcs.now c.args.roots.now c.args.rows.now c.in_ok-known.ensures m)
