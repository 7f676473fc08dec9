use Rattle.std.proofs.Common.{◌≡◌, ◌∙◌, ℕ, List, ap, rules}
use Rattle.std.specs.BTreeSet.{insert_key}
use Rattle.pie_value.specs.Canonical.{enc_task}
use Rattle.pie_value.specs.Order.{byte_order}
use Rattle.pie_topdown_build.specs.inner.News.{keys_in}
use Rattle.pie_topdown_build.proofs.Finding.{key_there}
use Rattle.pie_topdown_build.proofs.news.put_bytes.Goals as goal

pub returns : goal.returns
returns c =
    let bytes : c.in_ok-bytes.bytes.items ≡ enc_task c.args.task.now = search rules in
    ap keys_in c.in_ok-_new.ensures.keys ∙ key_there c.args.found.now.keys c.in_ok-bytes.bytes
    ∙ ap (λ (k : List ℕ). insert_key byte_order (keys_in c.args.found.now.keys) k) bytes
