use Rattle.std.proofs.Common.{ℕ, List, Vec, Global, subst, ◌∙◌}
use Rattle.std.specs.Prelude.{IfSome, IsOk}
use Rattle.pie_topdown_build.specs.inner.Cleaned.{HoldsBy}
use Rattle.pie_topdown_build.proofs.Leaving.{looked_leaves, looked_endures}
use Rattle.pie_incremental.proofs.Joining.{rest_then}
use Rattle.pie_topdown_build.proofs.Making.{own_sealed}
use Rattle.pie_topdown_build.proofs.Saying.{stays_both, stays_still}
use Rattle.pie_topdown_build.proofs.Storing.{rows_from}
use Rattle.pie_topdown_build.proofs.accepting.accept.Goals as goal

pub put_into_place-requires-clause-sealed : goal.put_into_place-requires-clause-sealed
put_into_place-requires-clause-sealed g c =
    own_sealed c.args.store c.in_ok-own.own c.requires.sealed c.in_ok-own.ensures.some c.in_ok-own.ensures.none

pub returns-clause-left : goal.returns-clause-left
returns-clause-left g c =
    looked_leaves c.args.store c.in_ok-own.own c.in_ok-held.held c.args.project.now.digests.items c.args.project.now.roots.items c.args.made.rows.items
    c.args.made.contents.items c.args.made.outputs.items (g.F.Files.holds c.args.files.now) (g.F.Files.holds c.held_now.new.files)
    (g.F.Files.holds c.own_files.new.files) (g.F.Files.holds c.put_into_place.new.files) c.put_into_place.result c.in_ok-held.ensures.reads.same
    c.in_ok-own.ensures.reads.same
    (subst (λ (cs : List (List ℕ × Vec ℕ Global)). IfSome (g.F.Files.holds c.args.files.now) (HoldsBy c.args.store cs c.in_ok-held.held))
    c.as_slice.ensures.value c.in_ok-held.ensures.held)
    c.in_ok-own.ensures.own c.in_ok-own.ensures.none c.put_into_place.ensures.left
    c.put_into_place.ensures.anew

pub returns-clause-stores : goal.returns-clause-stores
returns-clause-stores g c = record {
  stored = rows_from c.args.store c.in_ok-own.own c.args.project.now.digests.items c.args.made.rows.items (g.F.Files.holds c.args.files.now)
      (g.F.Files.holds c.held_now.new.files) (g.F.Files.holds c.own_files.new.files) (g.F.Files.holds c.put_into_place.new.files) c.put_into_place.result
      c.in_ok-held.ensures.reads.same c.in_ok-own.ensures.reads.same c.in_ok-own.ensures.some c.in_ok-own.ensures.none c.put_into_place.ensures.stores.stored;
  rows_are = c.put_into_place.ensures.stores.rows_are;
}

pub returns-clause-stays : goal.returns-clause-stays
returns-clause-stays g c = record {
  rest = rest_then (g.F.Files.holds c.args.files.now) (g.F.Files.holds c.own_files.new.files) (g.F.Files.holds c.put_into_place.new.files)
      (c.in_ok-own.ensures.reads.same ∙ c.in_ok-held.ensures.reads.same) c.put_into_place.ensures.stays.rest;
  crash = looked_endures c.args.store c.in_ok-own.own c.in_ok-held.held c.args.project.now.digests.items c.args.project.now.roots.items
      c.args.made.rows.items c.args.made.contents.items c.args.made.outputs.items g.F.Files.holds g.F.Files.moment g.F.Files.left_since g.F.Files.images
      (IsOk c.put_into_place.result) c.args.files.now c.held_now.new.files c.own_files.new.files c.put_into_place.new.files c.in_ok-held.ensures.reads.same
      c.in_ok-held.ensures.reads.crash c.in_ok-own.ensures.reads.same c.in_ok-own.ensures.reads.crash
      (subst (λ (cs : List (List ℕ × Vec ℕ Global)). IfSome (g.F.Files.holds c.args.files.now) (HoldsBy c.args.store cs c.in_ok-held.held))
      c.as_slice.ensures.value c.in_ok-held.ensures.held) c.in_ok-own.ensures.own c.in_ok-own.ensures.none c.put_into_place.ensures.stays.crash;
}

pub returns-in_err-own-clause-stays : goal.returns-in_err-own-clause-stays
returns-in_err-own-clause-stays g c =
    stays_both g.F.Files.holds g.F.Files.moment g.F.Files.left_since g.F.Files.images _ _ c.args.files.now c.held_now.new.files c.own_files.new.files
    c.in_ok-held.ensures.reads.same c.in_ok-held.ensures.reads.crash c.in_err-own.ensures.reads.same c.in_err-own.ensures.reads.crash

pub returns-in_err-held-clause-stays : goal.returns-in_err-held-clause-stays
returns-in_err-held-clause-stays g c =
    stays_still g.F.Files.holds g.F.Files.moment g.F.Files.left_since g.F.Files.images _ _ c.args.files.now c.held_now.new.files
    c.in_err-held.ensures.reads.same c.in_err-held.ensures.reads.crash
