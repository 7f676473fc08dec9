use Rattle.std.proofs.Common.{◌≡◌, ◌∙◌}
use Rattle.std.specs.Prelude.{map}
use Rattle.pie_files.specs.Directory.{file_at}
use Rattle.pie_files.specs.inner.Within.{IsWithin}
use Rattle.pie_files.proofs.Reading.{if_each}
use Rattle.pie_store.specs.inner.Offers.{offered}
use Rattle.pie_store.proofs.Looked.{read_looked}
use Rattle.pie_cache.specs.inner.Stored.{entries_of}
use Rattle.pie_cache.proofs.Fetching.{within_entries}
use Rattle.pie_cache.proofs.Looking.{looks_read}
use Rattle.pie_cache.proofs.stored.stored.Goals as goal

pub returns-clause-entries : goal.returns-clause-entries
returns-clause-entries g c =
    if_each (λ d. IsWithin 16777216 c.in_ok-found.found (file_at d c.args.path.now))
    (λ d. map offered c.in_ok-entries.entries.items ≡ entries_of (file_at d c.args.path.now)) (g.F.Files.holds c.args.files.now)
    (λ d h. c.in_ok-entries.ensures.entries ∙ within_entries c.in_ok-found.found (file_at d c.args.path.now) h) c.in_ok-found.ensures.found

pub returns-clause-looks : goal.returns-clause-looks
returns-clause-looks g c = looks_read g.F.Files.asked c.args.files.now c.read_within.new.self c.in_ok-found.found g.F.Files.faults c.args.path.now c.in_ok-found.ensures.called

pub returns-clause-place : goal.returns-clause-place
returns-clause-place g c =
    read_looked c.args.path.now c.read_within.result (g.F.Files.asked c.args.files.now) (g.F.Files.asked c.read_within.new.self) c.read_within.ensures.called.noted
