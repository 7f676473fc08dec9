use Rattle.std.proofs.Common.{◌≡◌, ◌∙◌, None, Some, Box, Global, ap, append-nil, map, sym, subst}
use Rattle.std.specs.Prelude.{IfSome}
use Rattle.std.specs.BTreeMap.{get_by_text}
use Rattle.std.specs.List.{All}
use Rattle.std.specs.Option.{option_map}
use Rattle.std.proofs.lemmas.List.Elements.{All-push}
use Rattle.pie_files.specs.inner.Held.{is_among}
use Rattle.pie_value.specs.Canonical.{enc_task}
use Rattle.pie_topdown_build.specs.declared.offered.NewOffer.{NewOffer}
use Rattle.pie_topdown_build.specs.inner.News.{as_told, bytes_by, contents_of, keys_in, told_with}
use Rattle.pie_topdown_build.specs.inner.Offered.{IsNew}
use Rattle.pie_topdown_build.proofs.Finding.{asked}
use Rattle.pie_topdown_build.proofs.Telling.{is_told, not_told, one_pushed}
use Rattle.pie_topdown_build.proofs.news.Lookup.add.Goals as goal

pub returns-in-Some-clause-new : goal.returns-in-Some-clause-new
returns-in-Some-clause-new c =
    let new = subst (λ o. IfSome o (λ n. IsNew n.value)) c.in-Some.is c.in_ok-new.ensures.new in
    subst (All IsNew) (sym c.in_ok-push-in-Some.ensures.items)
    (All-push IsNew c.args.found.now.items c.into_inner.result c.requires.found (subst IsNew (sym c.into_inner.ensures) new))

pub returns-in-Some-clause-told : goal.returns-in-Some-clause-told
returns-in-Some-clause-told c =
    let l = c.args.self.now in
    let row = c.args.row.now in
    let old = c.args.found.now.items in
    let ran = asked c.in_ok-bytes.bytes.items (enc_task row.task) l.ran.keys c.contains.result c.in_ok-bytes.ensures.bytes c.contains.ensures in
    let told : Some (as_told c.in-Some.new.value)
    ≡ told_with row (get_by_text l.digests row.task.func) (contents_of (bytes_by l.files.now l.places) row.writes) =
    sym (ap (option_map (λ (n : Box NewOffer Global). as_told n.value)) c.in-Some.is) ∙ c.in_ok-new.ensures.told in
    is_told (λ bytes. is_among bytes (keys_in l.ran.keys)) (get_by_text l.digests) (bytes_by l.files.now l.places) row (map as_told old)
    (map as_told c.push.new.self.items) (Some (as_told c.in-Some.new.value)) (ran ∙ c.if-not-contains.false) told
    (one_pushed as_told old c.push.new.self.items c.into_inner.result c.in-Some.new.value c.into_inner.ensures c.in_ok-push-in-Some.ensures.items)

pub returns-then-not-contains-clause-told : goal.returns-then-not-contains-clause-told
returns-then-not-contains-clause-told c =
    let l = c.args.self.now in
    let row = c.args.row.now in
    let ran = asked c.in_ok-bytes.bytes.items (enc_task row.task) l.ran.keys c.contains.result c.in_ok-bytes.ensures.bytes c.contains.ensures in
    not_told (λ bytes. is_among bytes (keys_in l.ran.keys)) (get_by_text l.digests) (bytes_by l.files.now l.places) row (map as_told c.args.found.now.items)
    (ran ∙ c.if-not-contains.true)

pub returns-clause-told : goal.returns-clause-told
returns-clause-told c =
    let l = c.args.self.now in
    let row = c.args.row.now in
    let old = map as_told c.args.found.now.items in
    let ran = asked c.in_ok-bytes.bytes.items (enc_task row.task) l.ran.keys c.contains.result c.in_ok-bytes.ensures.bytes c.contains.ensures in
    let told : None ≡ told_with row (get_by_text l.digests row.task.func) (contents_of (bytes_by l.files.now l.places) row.writes) =
    sym (ap (option_map (λ (n : Box NewOffer Global). as_told n.value)) c.in-None.is) ∙ c.in_ok-new.ensures.told in
    is_told (λ bytes. is_among bytes (keys_in l.ran.keys)) (get_by_text l.digests) (bytes_by l.files.now l.places) row old old None
    (ran ∙ c.if-not-contains.false) told (sym (append-nil old))
