use Rattle.std.proofs.Common.{◌≡◌, true, not, sym, ap, subst, ◌∙◌, bytes_eq}
use Rattle.sha2.specs.Sha256.{sha256}
use Rattle.pie_model.proofs.Basics.{bytes_same}
use Rattle.pie_topdown.proofs.Honest.{hash_at}
use Rattle.pie_topdown.proofs.offering.are_contents.Goals as goal

pub returns-then-ne : goal.returns-then-ne
returns-then-ne c = λ have.
    let test = c.loop-i-test.true in
    let is : c.hash_of.result ≡ c.index-writes-i.result.1 =
    c.hash_of.ensures ∙ ap sha256 c.as_slice.ensures.value
    ∙ hash_at c.args.contents.now c.args.writes.now c.loop-i.i c.index-contents-i.result c.index-writes-i.result have test
    c.index-contents-i.is c.index-writes-i.is in
    sym (c.ne.ensures ∙ ap not (subst (λ h. bytes_eq c.hash_of.result h ≡ true) is (bytes_same c.hash_of.result))) ∙ c.if-ne.true
