use Rattle.std.proofs.Common.{◌++◌, rules}
use Rattle.sha2.specs.Sha256.{sha256}
use Rattle.sha2.proofs.Facts256.{length-sha256}
use Rattle.pie_value.specs.Canonical.{enc_task}
use Rattle.pie_cache.proofs.places.cache_path.Goals as goal

pub returns-clause-place : goal.returns-clause-place
returns-clause-place c =
    let bytes = c.args.digest.now ++ enc_task c.args.task.now in
    (sha256 bytes, length-sha256 bytes, search rules)
