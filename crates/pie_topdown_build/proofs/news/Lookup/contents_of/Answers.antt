use Rattle.std.proofs.Common.{◌≡◌, ◌<◌, ◌^◌, ℕ, List, Option, Some, Vec, Global, length, ap, subst, ◌∙◌, sym}
use Rattle.std.specs.Prelude.{IfSome}
use Rattle.std.specs.Option.{option_and_then, option_map}
use Rattle.sha2.specs.Sha256.{sha256}
use Rattle.pie_topdown_build.specs.inner.News.{bytes_by, with_hash}
use Rattle.pie_topdown_build.proofs.Contents.{first_more}
use Rattle.pie_topdown_build.proofs.Telling.{told_more}
use Rattle.pie_topdown_build.proofs.news.Lookup.contents_of.Goals as goal

pub loop-path-preserved : goal.loop-path-preserved
loop-path-preserved c =
    let l = c.args.self.now in
    let ws = c.args.writes.now in
    let i = c.loop-path.path-index in
    let w = c.loop-path-item.result in
    let content = c.in-Some.content in
    let cs = c.loop-path.contents.items in
    let ds = c.push.new.self.items in
    let lt = c.loop-path-test.true in
    let here = c.loop-path-item.is in
    let more = c.in_ok-push-in-Some.ensures.items in
    let is : (sha256 content.items ≡ w.1) × (length content.items < 2 ^ 32) =
    subst (λ (o : Option (Vec ℕ Global)). IfSome o (λ x. (sha256 x.items ≡ w.1) × (length x.items < 2 ^ 32))) c.in-Some.is c.in_ok-content.ensures.is in
    let told : Some content.items ≡ option_and_then (with_hash w.1) (bytes_by l.files.now l.places w.0) =
    sym (ap (option_map (λ (x : Vec ℕ Global). x.items)) c.in-Some.is) ∙ c.in_ok-content.ensures.told in (
      first_more ws i cs ds w content lt c.loop-path.invariant.0 (is.0 ∙ ap (λ (x : List ℕ × List ℕ). x.1) here) is.1 more,
      told_more (bytes_by l.files.now l.places) ws i cs ds w content lt here told more c.loop-path.invariant.1,
    )
