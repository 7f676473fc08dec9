use Rattle.std.proofs.Common.{◌≡◌, ℕ, List, None, Some, sym, subst}
use Rattle.std.specs.BTreeMap.{get_by_text}
use Rattle.pie_topdown.proofs.Trying.{none_asked, some_asked}
use Rattle.pie_topdown.proofs.Tried.{some_offered, none_offered}
use Rattle.pie_topdown.proofs.Owning.{none_cut}
use Rattle.pie_topdown.proofs.builder.Builder.offered.Goals as goal

pub returns-clause-right : goal.returns-clause-right
returns-clause-right g c =
    some_offered (g.F.Files.holds c.args.files.now) (g.O.Offers.told c.args.offers.now) c.args.self.now c.args.no.0 c.task-task.result.now
    c.in-Some.digest.now 4 c.in_ok-found.found.items c.truncate.new.self.items c.task-task.ensures
    (subst (λ (q : List ℕ). get_by_text c.args.self.now.plan.digests q ≡ Some c.in-Some.digest.now) c.as_str.ensures (sym c.in-Some.ensures.value))
    c.in_ok-found.ensures.offers c.truncate.ensures.items

pub returns-in_default-clause-right : goal.returns-in_default-clause-right
returns-in_default-clause-right g c =
    none_offered (g.F.Files.holds c.args.files.now) (g.O.Offers.told c.args.offers.now) c.args.self.now c.args.no.0 c.new.result.items c.new.ensures.items

pub returns-clause-told : goal.returns-clause-told
returns-clause-told g c = c.in_ok-found.ensures.keeps.0

pub returns-in_err-found-clause-told : goal.returns-in_err-found-clause-told
returns-in_err-found-clause-told g c = c.in_err-found.ensures.keeps.0

pub returns-clause-none : goal.returns-clause-none
returns-clause-none g c =
    none_cut (g.F.Files.holds c.args.files.now) (g.O.Offers.told c.args.offers.now) c.task-task.result.now _ 4 c.in_ok-found.found.items
    c.truncate.new.self.items c.in_ok-found.ensures.offers c.truncate.ensures.items

pub returns-in_default-clause-none : goal.returns-in_default-clause-none
returns-in_default-clause-none g c = λ o. c.new.ensures.items

pub returns-clause-asks : goal.returns-clause-asks
returns-clause-asks g c =
    some_asked (g.F.Files.holds c.args.files.now) (g.O.Offers.told c.args.offers.now) c.args.self.now c.args.no.0 c.task-task.result.now c.in-Some.digest.now
    c.in_ok-found.found.items c.truncate.new.self.items c.task-task.ensures
    (subst (λ (q : List ℕ). get_by_text c.args.self.now.plan.digests q ≡ Some c.in-Some.digest.now) c.as_str.ensures (sym c.in-Some.ensures.value))
    c.in_ok-found.ensures.offers c.truncate.ensures.items

pub returns-in_default-clause-asks : goal.returns-in_default-clause-asks
returns-in_default-clause-asks g c =
    none_asked (g.F.Files.holds c.args.files.now) (g.O.Offers.told c.args.offers.now) c.args.self.now c.args.no.0 c.task-task.result.now c.new.result.items
    c.task-task.ensures
    (subst (λ (q : List ℕ). get_by_text c.args.self.now.plan.digests q ≡ None) c.as_str.ensures (sym c.in_default.ensures.value)) c.new.ensures.items
