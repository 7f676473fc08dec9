use Rattle.std.proofs.Common.{◌≡◌, ◌∙◌, ℕ, List, ap, map, rules}
use Rattle.std.specs.BTreeMap.{insert_entry}
use Rattle.pie_value.specs.Canonical.{enc_task}
use Rattle.pie_value.specs.Order.{byte_order}
use Rattle.pie_value.specs.declared.task.Task.{Task}
use Rattle.pie_topdown_build.specs.inner.Reused.{by_key}
use Rattle.pie_topdown_build.proofs.ByBytes.{put_there}
use Rattle.pie_topdown_build.proofs.reusing.put.Goals as goal

pub returns : goal.returns
returns c =
    let es = map by_key c.args.keyed.now.entries in
    let bytes : c.in_ok-bytes.bytes.items ≡ enc_task c.args.task.now = search rules in
    let copy : c.in_ok-copy.field-0 ≡ c.args.task.now = search rules in
    ap (map by_key) c.in_ok-_old.ensures.entries ∙ put_there c.args.keyed.now.entries c.in_ok-bytes.bytes c.in_ok-copy.field-0
    ∙ ap (λ (k : List ℕ). insert_entry byte_order es k c.in_ok-copy.field-0) bytes
    ∙ ap (λ (t : Task). insert_entry byte_order es (enc_task c.args.task.now) t) copy
