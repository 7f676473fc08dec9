-- The digests that a store stands for.
use Rattle.std.specs.Prelude.{ℕ, cond, List, codes, Option, Some, None}
use Rattle.pie_files.specs.Directory.{Directory}
use Rattle.pie_store.specs.declared.image.StoreImage.{StoreImage}
use Rattle.pie_diff.specs.Hashes.{hash_in, is_hash}

-- a store of version 1 with the present digests, where its pipeline is the one that is there
abbrev pub with_digests : Directory → List (List ℕ × List ℕ) → StoreImage → Option (List ℕ) → StoreImage
with_digests d digests s None = s
with_digests d digests s (Some hash) = cond (is_hash (hash_in d (codes "pie.pipeline")) hash) (record s { funcs = digests }) s

abbrev pub digested : Directory → List (List ℕ × List ℕ) → StoreImage → StoreImage
digested d digests s = with_digests d digests s s.pipeline
