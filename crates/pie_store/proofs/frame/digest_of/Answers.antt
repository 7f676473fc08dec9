use Rattle.std.proofs.Common.{rules, ◌≡◌, ◌≤◌, ◌∙◌, length, sym, ap}
use Rattle.sha2.specs.Sha256.{sha256}
use Rattle.pie_store.proofs.frame.digest_of.Goals as goal

pub returns-in-Some : goal.returns-in-Some
returns-in-Some c =
    let front : c.in-Some.same.now ≡ c.args.body.now = search rules in
    let long : 32 ≤ length c.args.before.now = search rules in
    let parts = c.in-Some.ensures.cases in
    parts.1 ∙ sym (c.requires long) ∙ ap sha256 (sym parts.0 ∙ front)
