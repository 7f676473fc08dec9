use Rattle.std.proofs.Common.{ℕ, List, rules, ◌≡◌, [], ◌∷◌, ◌++◌, subst}
use Rattle.pie_commit.specs.inner.Plans.{changes, removed, written, at, pended, stored, later}
use Rattle.pie_commit.proofs.Bringing.{brought_both, brought_still, in_any_case}
use Rattle.pie_commit.proofs.Standing.{both_marked, sync_marked, told_by, told_both, rests}
use Rattle.pie_commit.proofs.Others.{keeps_both, keeps_same}
use Rattle.std.specs.Prelude.{Err}
use Rattle.pie_commit.specs.inner.Steps.{Syncs, Makes, changing, removing, writing, pending_steps, store_steps}
use Rattle.pie_commit.proofs.Stepping.{makes_then, makes_stops}
use Rattle.pie_commit.proofs.sequence.change.Goals as goal

pub returns-clause-done : goal.returns-clause-done
returns-clause-done g c =
    let p = c.args.plan.now in
    let a = g.F.Files.holds c.args.files.now in
    let first = removed p.removals.items in
    let second = λ (q : List ℕ). later (written p.writes.items q) (first q) in
    let third = λ (q : List ℕ). later (at p.names_place (pended p.pending) q) (second q) in
    let two = brought_both first (written p.writes.items) a (g.F.Files.holds c.remove_all.new.files) (g.F.Files.holds c.write_all.new.files)
    c.in_ok-remove_all.ensures.done c.in_ok-write_all.ensures.done in
    let three = brought_both second (at p.names_place (pended p.pending)) a (g.F.Files.holds c.write_all.new.files) (g.F.Files.holds c.put_pending.new.files)
    two c.in_ok-put_pending.ensures.done in
    let four = brought_both third (at p.place (stored p.store)) a (g.F.Files.holds c.put_pending.new.files) (g.F.Files.holds c.put_store.new.files)
    three c.in_ok-put_store.ensures.done in
    in_any_case c.make_last.result (brought_still (changes p) a (g.F.Files.holds c.put_store.new.files) (g.F.Files.holds c.make_last.new.files)
    c.make_last.ensures.same four)

pub returns-in_err-write_all-clause-crash : goal.returns-in_err-write_all-clause-crash
returns-in_err-write_all-clause-crash g c =
    let p = c.args.plan.now in
    let told1 = told_by (removed p.removals.items) (g.F.Files.holds c.args.files.now) (g.F.Files.holds c.remove_all.new.files)
    c.in_ok-remove_all.ensures.done in
    let two = both_marked g.F.Files.holds g.F.Files.moment g.F.Files.left_since g.F.Files.images p c.args.files.now c.remove_all.new.files
    c.write_all.new.files told1 c.in_ok-remove_all.ensures.crash c.write_all.ensures.crash in
    two

pub returns-in_err-put_pending-clause-crash : goal.returns-in_err-put_pending-clause-crash
returns-in_err-put_pending-clause-crash g c =
    let p = c.args.plan.now in
    let told1 = told_by (removed p.removals.items) (g.F.Files.holds c.args.files.now) (g.F.Files.holds c.remove_all.new.files)
    c.in_ok-remove_all.ensures.done in
    let two = both_marked g.F.Files.holds g.F.Files.moment g.F.Files.left_since g.F.Files.images p c.args.files.now c.remove_all.new.files
    c.write_all.new.files told1 c.in_ok-remove_all.ensures.crash c.write_all.ensures.crash in
    let told2 = told_both (g.F.Files.holds c.args.files.now) (g.F.Files.holds c.remove_all.new.files) (g.F.Files.holds c.write_all.new.files) told1
    (told_by (written p.writes.items) (g.F.Files.holds c.remove_all.new.files) (g.F.Files.holds c.write_all.new.files) c.in_ok-write_all.ensures.done) in
    let three = both_marked g.F.Files.holds g.F.Files.moment g.F.Files.left_since g.F.Files.images p c.args.files.now c.write_all.new.files
    c.put_pending.new.files told2 two c.put_pending.ensures.crash in
    three

pub returns-in_err-put_store-clause-crash : goal.returns-in_err-put_store-clause-crash
returns-in_err-put_store-clause-crash g c =
    let p = c.args.plan.now in
    let told1 = told_by (removed p.removals.items) (g.F.Files.holds c.args.files.now) (g.F.Files.holds c.remove_all.new.files)
    c.in_ok-remove_all.ensures.done in
    let two = both_marked g.F.Files.holds g.F.Files.moment g.F.Files.left_since g.F.Files.images p c.args.files.now c.remove_all.new.files
    c.write_all.new.files told1 c.in_ok-remove_all.ensures.crash c.write_all.ensures.crash in
    let told2 = told_both (g.F.Files.holds c.args.files.now) (g.F.Files.holds c.remove_all.new.files) (g.F.Files.holds c.write_all.new.files) told1
    (told_by (written p.writes.items) (g.F.Files.holds c.remove_all.new.files) (g.F.Files.holds c.write_all.new.files) c.in_ok-write_all.ensures.done) in
    let three = both_marked g.F.Files.holds g.F.Files.moment g.F.Files.left_since g.F.Files.images p c.args.files.now c.write_all.new.files
    c.put_pending.new.files told2 two c.put_pending.ensures.crash in
    let told3 = told_both (g.F.Files.holds c.args.files.now) (g.F.Files.holds c.write_all.new.files) (g.F.Files.holds c.put_pending.new.files) told2
    (told_by (at p.names_place (pended p.pending)) (g.F.Files.holds c.write_all.new.files) (g.F.Files.holds c.put_pending.new.files)
    c.in_ok-put_pending.ensures.done) in
    let four = both_marked g.F.Files.holds g.F.Files.moment g.F.Files.left_since g.F.Files.images p c.args.files.now c.put_pending.new.files
    c.put_store.new.files told3 three c.put_store.ensures.crash in
    four

pub returns-clause-crash : goal.returns-clause-crash
returns-clause-crash g c =
    let p = c.args.plan.now in
    let told1 = told_by (removed p.removals.items) (g.F.Files.holds c.args.files.now) (g.F.Files.holds c.remove_all.new.files)
    c.in_ok-remove_all.ensures.done in
    let two = both_marked g.F.Files.holds g.F.Files.moment g.F.Files.left_since g.F.Files.images p c.args.files.now c.remove_all.new.files
    c.write_all.new.files told1 c.in_ok-remove_all.ensures.crash c.write_all.ensures.crash in
    let told2 = told_both (g.F.Files.holds c.args.files.now) (g.F.Files.holds c.remove_all.new.files) (g.F.Files.holds c.write_all.new.files) told1
    (told_by (written p.writes.items) (g.F.Files.holds c.remove_all.new.files) (g.F.Files.holds c.write_all.new.files) c.in_ok-write_all.ensures.done) in
    let three = both_marked g.F.Files.holds g.F.Files.moment g.F.Files.left_since g.F.Files.images p c.args.files.now c.write_all.new.files
    c.put_pending.new.files told2 two c.put_pending.ensures.crash in
    let told3 = told_both (g.F.Files.holds c.args.files.now) (g.F.Files.holds c.write_all.new.files) (g.F.Files.holds c.put_pending.new.files) told2
    (told_by (at p.names_place (pended p.pending)) (g.F.Files.holds c.write_all.new.files) (g.F.Files.holds c.put_pending.new.files)
    c.in_ok-put_pending.ensures.done) in
    let four = both_marked g.F.Files.holds g.F.Files.moment g.F.Files.left_since g.F.Files.images p c.args.files.now c.put_pending.new.files
    c.put_store.new.files told3 three c.put_store.ensures.crash in
    let told4 = told_both (g.F.Files.holds c.args.files.now) (g.F.Files.holds c.put_pending.new.files) (g.F.Files.holds c.put_store.new.files) told3
    (told_by (at p.place (stored p.store)) (g.F.Files.holds c.put_pending.new.files) (g.F.Files.holds c.put_store.new.files)
    c.in_ok-put_store.ensures.done) in
    both_marked g.F.Files.holds g.F.Files.moment g.F.Files.left_since g.F.Files.images p c.args.files.now c.put_store.new.files c.make_last.new.files
    told4 four
    (sync_marked g.F.Files.holds g.F.Files.moment g.F.Files.left_since g.F.Files.images p c.put_store.new.files c.make_last.new.files
    c.make_last.ensures.crash)

pub returns-clause-durable : goal.returns-clause-durable
returns-clause-durable g c =
    let p = c.args.plan.now in
    let told1 = told_by (removed p.removals.items) (g.F.Files.holds c.args.files.now) (g.F.Files.holds c.remove_all.new.files)
    c.in_ok-remove_all.ensures.done in
    let told2 = told_both (g.F.Files.holds c.args.files.now) (g.F.Files.holds c.remove_all.new.files) (g.F.Files.holds c.write_all.new.files) told1
    (told_by (written p.writes.items) (g.F.Files.holds c.remove_all.new.files) (g.F.Files.holds c.write_all.new.files) c.in_ok-write_all.ensures.done) in
    let told3 = told_both (g.F.Files.holds c.args.files.now) (g.F.Files.holds c.write_all.new.files) (g.F.Files.holds c.put_pending.new.files) told2
    (told_by (at p.names_place (pended p.pending)) (g.F.Files.holds c.write_all.new.files) (g.F.Files.holds c.put_pending.new.files)
    c.in_ok-put_pending.ensures.done) in
    let told4 = told_both (g.F.Files.holds c.args.files.now) (g.F.Files.holds c.put_pending.new.files) (g.F.Files.holds c.put_store.new.files) told3
    (told_by (at p.place (stored p.store)) (g.F.Files.holds c.put_pending.new.files) (g.F.Files.holds c.put_store.new.files)
    c.in_ok-put_store.ensures.done) in
    rests (g.F.Files.images c.make_last.new.files) (g.F.Files.holds c.args.files.now) (g.F.Files.holds c.put_store.new.files) (g.F.Files.holds
    c.make_last.new.files) c.make_last.result told4
    c.make_last.ensures.same c.make_last.ensures.durable

pub returns-in_err-write_all-clause-outside : goal.returns-in_err-write_all-clause-outside
returns-in_err-write_all-clause-outside g c =
    let p = c.args.plan.now in
    let a = g.F.Files.holds c.args.files.now in
    let k1 = keeps_both p a (g.F.Files.holds c.remove_all.new.files) (g.F.Files.holds c.write_all.new.files)
    c.in_ok-remove_all.ensures.outside c.write_all.ensures.outside in
    k1

pub returns-in_err-put_pending-clause-outside : goal.returns-in_err-put_pending-clause-outside
returns-in_err-put_pending-clause-outside g c =
    let p = c.args.plan.now in
    let a = g.F.Files.holds c.args.files.now in
    let k1 = keeps_both p a (g.F.Files.holds c.remove_all.new.files) (g.F.Files.holds c.write_all.new.files)
    c.in_ok-remove_all.ensures.outside c.in_ok-write_all.ensures.outside in
    let k2 = keeps_both p a (g.F.Files.holds c.write_all.new.files) (g.F.Files.holds c.put_pending.new.files)
    k1 c.put_pending.ensures.outside in
    k2

pub returns-in_err-put_store-clause-outside : goal.returns-in_err-put_store-clause-outside
returns-in_err-put_store-clause-outside g c =
    let p = c.args.plan.now in
    let a = g.F.Files.holds c.args.files.now in
    let k1 = keeps_both p a (g.F.Files.holds c.remove_all.new.files) (g.F.Files.holds c.write_all.new.files)
    c.in_ok-remove_all.ensures.outside c.in_ok-write_all.ensures.outside in
    let k2 = keeps_both p a (g.F.Files.holds c.write_all.new.files) (g.F.Files.holds c.put_pending.new.files)
    k1 c.in_ok-put_pending.ensures.outside in
    let k3 = keeps_both p a (g.F.Files.holds c.put_pending.new.files) (g.F.Files.holds c.put_store.new.files)
    k2 c.put_store.ensures.outside in
    k3

pub returns-clause-outside : goal.returns-clause-outside
returns-clause-outside g c =
    let p = c.args.plan.now in
    let a = g.F.Files.holds c.args.files.now in
    let k1 = keeps_both p a (g.F.Files.holds c.remove_all.new.files) (g.F.Files.holds c.write_all.new.files)
    c.in_ok-remove_all.ensures.outside c.in_ok-write_all.ensures.outside in
    let k2 = keeps_both p a (g.F.Files.holds c.write_all.new.files) (g.F.Files.holds c.put_pending.new.files)
    k1 c.in_ok-put_pending.ensures.outside in
    let k3 = keeps_both p a (g.F.Files.holds c.put_pending.new.files) (g.F.Files.holds c.put_store.new.files)
    k2 c.in_ok-put_store.ensures.outside in
    let k4 = keeps_both p a (g.F.Files.holds c.put_store.new.files) (g.F.Files.holds c.make_last.new.files)
    k3 (keeps_same p (g.F.Files.holds c.put_store.new.files) (g.F.Files.holds c.make_last.new.files) c.make_last.ensures.same) in
    k4

pub returns-in_err-remove_all-clause-makes : goal.returns-in_err-remove_all-clause-makes
returns-in_err-remove_all-clause-makes g c =
    let p = c.args.plan.now in
    let e = c.in_err-remove_all.field-0.0 in
    let failed : Err e ≡ c.from_residual.result = search rules in
    subst (λ r. Makes g.F.Files.asked (changing p) c.args.files.now c.remove_all.new.files r) failed
    (makes_stops g.F.Files.asked e (removing p.removals.items) ((writing p.writes.items) ++ ((pending_steps p.names_place p.pending) ++ ((store_steps p.place p.store) ++ (Syncs ∷ [])))) c.args.files.now c.remove_all.new.files c.in_err-remove_all.ensures.makes)

pub returns-in_err-write_all-clause-makes : goal.returns-in_err-write_all-clause-makes
returns-in_err-write_all-clause-makes g c =
    let p = c.args.plan.now in
    let e = c.in_err-write_all.field-0.0 in
    let failed : Err e ≡ c.from_residual-in_err-write_all.result = search rules in
    subst (λ r. Makes g.F.Files.asked (changing p) c.args.files.now c.write_all.new.files r) failed
    (makes_then g.F.Files.asked (Err e) c.in_ok-remove_all.field-0 (removing p.removals.items) ((writing p.writes.items) ++ ((pending_steps p.names_place p.pending) ++ ((store_steps p.place p.store) ++ (Syncs ∷ [])))) c.args.files.now c.remove_all.new.files c.write_all.new.files c.in_ok-remove_all.ensures.makes
    (makes_stops g.F.Files.asked e (writing p.writes.items) ((pending_steps p.names_place p.pending) ++ ((store_steps p.place p.store) ++ (Syncs ∷ []))) c.remove_all.new.files c.write_all.new.files c.in_err-write_all.ensures.makes))

pub returns-in_err-put_pending-clause-makes : goal.returns-in_err-put_pending-clause-makes
returns-in_err-put_pending-clause-makes g c =
    let p = c.args.plan.now in
    let e = c.in_err-put_pending.field-0.0 in
    let failed : Err e ≡ c.from_residual-in_err-put_pending.result = search rules in
    subst (λ r. Makes g.F.Files.asked (changing p) c.args.files.now c.put_pending.new.files r) failed
    (makes_then g.F.Files.asked (Err e) c.in_ok-remove_all.field-0 (removing p.removals.items) ((writing p.writes.items) ++ ((pending_steps p.names_place p.pending) ++ ((store_steps p.place p.store) ++ (Syncs ∷ [])))) c.args.files.now c.remove_all.new.files c.put_pending.new.files c.in_ok-remove_all.ensures.makes
    (makes_then g.F.Files.asked (Err e) c.in_ok-write_all.field-0 (writing p.writes.items) ((pending_steps p.names_place p.pending) ++ ((store_steps p.place p.store) ++ (Syncs ∷ []))) c.remove_all.new.files c.write_all.new.files c.put_pending.new.files c.in_ok-write_all.ensures.makes
    (makes_stops g.F.Files.asked e (pending_steps p.names_place p.pending) ((store_steps p.place p.store) ++ (Syncs ∷ [])) c.write_all.new.files c.put_pending.new.files c.in_err-put_pending.ensures.makes)))

pub returns-in_err-put_store-clause-makes : goal.returns-in_err-put_store-clause-makes
returns-in_err-put_store-clause-makes g c =
    let p = c.args.plan.now in
    let e = c.in_err-put_store.field-0.0 in
    let failed : Err e ≡ c.from_residual-in_err-put_store.result = search rules in
    subst (λ r. Makes g.F.Files.asked (changing p) c.args.files.now c.put_store.new.files r) failed
    (makes_then g.F.Files.asked (Err e) c.in_ok-remove_all.field-0 (removing p.removals.items) ((writing p.writes.items) ++ ((pending_steps p.names_place p.pending) ++ ((store_steps p.place p.store) ++ (Syncs ∷ [])))) c.args.files.now c.remove_all.new.files c.put_store.new.files c.in_ok-remove_all.ensures.makes
    (makes_then g.F.Files.asked (Err e) c.in_ok-write_all.field-0 (writing p.writes.items) ((pending_steps p.names_place p.pending) ++ ((store_steps p.place p.store) ++ (Syncs ∷ []))) c.remove_all.new.files c.write_all.new.files c.put_store.new.files c.in_ok-write_all.ensures.makes
    (makes_then g.F.Files.asked (Err e) c.in_ok-put_pending.field-0 (pending_steps p.names_place p.pending) ((store_steps p.place p.store) ++ (Syncs ∷ [])) c.write_all.new.files c.put_pending.new.files c.put_store.new.files c.in_ok-put_pending.ensures.makes
    (makes_stops g.F.Files.asked e (store_steps p.place p.store) (Syncs ∷ []) c.put_pending.new.files c.put_store.new.files c.in_err-put_store.ensures.makes))))

pub returns-clause-makes : goal.returns-clause-makes
returns-clause-makes g c =
    let p = c.args.plan.now in
    (makes_then g.F.Files.asked c.make_last.result c.in_ok-remove_all.field-0 (removing p.removals.items) ((writing p.writes.items) ++ ((pending_steps p.names_place p.pending) ++ ((store_steps p.place p.store) ++ (Syncs ∷ [])))) c.args.files.now c.remove_all.new.files c.make_last.new.files c.in_ok-remove_all.ensures.makes
    (makes_then g.F.Files.asked c.make_last.result c.in_ok-write_all.field-0 (writing p.writes.items) ((pending_steps p.names_place p.pending) ++ ((store_steps p.place p.store) ++ (Syncs ∷ []))) c.remove_all.new.files c.write_all.new.files c.make_last.new.files c.in_ok-write_all.ensures.makes
    (makes_then g.F.Files.asked c.make_last.result c.in_ok-put_pending.field-0 (pending_steps p.names_place p.pending) ((store_steps p.place p.store) ++ (Syncs ∷ [])) c.write_all.new.files c.put_pending.new.files c.make_last.new.files c.in_ok-put_pending.ensures.makes
    (makes_then g.F.Files.asked c.make_last.result c.in_ok-put_store.field-0 (store_steps p.place p.store) (Syncs ∷ []) c.put_pending.new.files c.put_store.new.files c.make_last.new.files c.in_ok-put_store.ensures.makes
    c.make_last.ensures.makes))))
