use Rattle.std.proofs.Common.{sym, ap, subst, ◌∙◌}
use Rattle.pie_value.specs.Canonical.{enc_task, IsCanonicalTask}
use Rattle.pie_value.specs.declared.verdict.Refusal.TheVariants.{Many}
use Rattle.pie_topdown.specs.inner.Entries.{MayEnter}
use Rattle.pie_topdown.specs.inner.Right.{lost, IsRefused}
use Rattle.pie_topdown.proofs.Rooting.{full_refused, lost_refused}
use Rattle.pie_topdown.proofs.Totals.{ran_refused, root_lost, root_over}
use Rattle.pie_topdown.proofs.Owning.{own_none}
use Rattle.pie_topdown.proofs.builder.Builder.settle_new.Goals as goal

pub returns-in-Unknown-clause-ends : goal.returns-in-Unknown-clause-ends
returns-in-Unknown-clause-ends g c = record {
  own = own_none (g.F.Files.holds c.args.files.now) (g.O.Offers.told c.args.offers.now) c.args.self.now;
  right = λ u done of listed s.
      let t = c.args.root.now in
      let may = subst (MayEnter c.args.self.now t) c.in-Unknown.is c.entry.ensures in
      subst (IsRefused u done (enc_task t)) (sym (c.unknown.ensures ∙ ap lost c.in_ok-copy-in-Unknown.ensures))
      (lost_refused c.args.self.now t (subst (IsCanonicalTask t) c.in_ok-_bytes.ensures.bytes c.in_ok-_bytes.ensures.canonical) c.requires.root.absent u done s of.plan
      may.0 may.1);
  ran = ran_refused (g.F.Files.holds c.args.files.now) (g.O.Offers.told c.args.offers.now) c.args.self.now c.args.root.now c.args.self.now c.args.runs.now c.args.runs.now c.unknown.result;
  full = let t = c.args.root.now in
      root_lost (g.F.Files.holds c.args.files.now) (g.O.Offers.told c.args.offers.now) c.args.self.now t c.args.runs.now c.unknown.result
      (c.unknown.ensures ∙ ap lost c.in_ok-copy-in-Unknown.ensures) (subst (IsCanonicalTask t) c.in_ok-_bytes.ensures.bytes c.in_ok-_bytes.ensures.canonical) c.requires.root.absent
      (subst (MayEnter c.args.self.now t) c.in-Unknown.is c.entry.ensures);
}

pub returns-clause-ends : goal.returns-clause-ends
returns-clause-ends g c = record {
  own = own_none (g.F.Files.holds c.args.files.now) (g.O.Offers.told c.args.offers.now) c.args.self.now;
  right = λ u done of listed s.
      let t = c.args.root.now in
      full_refused c.args.self.now t (subst (IsCanonicalTask t) c.in_ok-_bytes.ensures.bytes c.in_ok-_bytes.ensures.canonical) c.requires.root.absent u done s
      (subst (MayEnter c.args.self.now t) c.in-Full.is c.entry.ensures);
  ran = ran_refused (g.F.Files.holds c.args.files.now) (g.O.Offers.told c.args.offers.now) c.args.self.now c.args.root.now c.args.self.now c.args.runs.now c.args.runs.now Many;
  full = root_over (g.F.Files.holds c.args.files.now) (g.O.Offers.told c.args.offers.now) c.args.self.now c.args.root.now c.args.runs.now;
}
