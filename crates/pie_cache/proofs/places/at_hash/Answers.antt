use Rattle.std.proofs.Common.{◌≡◌, subst, sym, rules}
use Rattle.std.specs.Prelude.{IsTrue}
use Rattle.pie_base.specs.Path.{is_path}
use Rattle.pie_cache.specs.inner.Places.{path_of_hash}
use Rattle.pie_cache.proofs.Naming.{hash_path}
use Rattle.pie_cache.proofs.places.at_hash.Goals as goal

pub known-requires : goal.known-requires
known-requires c =
    let same : c.as_str.result.now ≡ path_of_hash c.args.hash.now = search rules in
    subst (λ t. IsTrue (is_path t)) (sym same) (hash_path c.args.hash.now c.fits-hash c.told-hash)
