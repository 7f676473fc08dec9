use Rattle.std.proofs.Common.{sym, subst, rules}
use Rattle.std.specs.Prelude.{map}
use Rattle.std.proofs.lemmas.List.{length-map}
use Rattle.pie_store.specs.inner.Offers.{offered}
use Rattle.pie_cache.specs.inner.Texts.{IsCount, IsCacheText}
use Rattle.pie_cache.proofs.Wholes.{read_again}
use Rattle.pie_cache.proofs.Writing.{all_entries}
use Rattle.pie_cache.proofs.writer.encode_entries.Goals as goal

pub returns-clause-text : goal.returns-clause-text
returns-clause-text c = record {
  count = subst IsCount (sym (length-map c.args.entries.now offered)) c.requires.count;
  each = all_entries c.args.entries.now c.requires.kept c.in_ok-put_body.ensures.parts;
  bytes = search rules;
}

pub returns-clause-read_back : goal.returns-clause-read_back
returns-clause-read_back c =
    let text : IsCacheText (map offered c.args.entries.now) c.put_bytes.new.out.items = record {
      count = subst IsCount (sym (length-map c.args.entries.now offered)) c.requires.count;
      each = all_entries c.args.entries.now c.requires.kept c.in_ok-put_body.ensures.parts;
      bytes = search rules;
    } in
    read_again (map offered c.args.entries.now) c.put_bytes.new.out.items text
