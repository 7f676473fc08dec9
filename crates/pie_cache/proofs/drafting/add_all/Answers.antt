use Rattle.std.proofs.Common.{◌≡◌, ◌∷◌, ◌∙◌, ℕ, List, [], cond, refl, subst, rules}
use Rattle.std.specs.Prelude.{All, IfSome, None, Some}
use Rattle.std.specs.BTreeMap.{get}
use Rattle.std.specs.Cmp.Lexicographic.{slice_cmp}
use Rattle.std.specs.Ordering.{nat_cmp}
use Rattle.std.proofs.lemmas.Bool.{false≢true}
use Rattle.std.proofs.lemmas.List.Elements.{All-head, All-tail}
use Rattle.pie_commit.specs.inner.Plans.{at, later, written}
use Rattle.pie_files.proofs.Reading.{both_before, if_each, if_two, none_before}
use Rattle.pie_files.specs.Directory.{Directory, file_at}
use Rattle.pie_store.specs.inner.Offers.{offered}
use Rattle.pie_cache.specs.inner.Contents.{IsNewsIn}
use Rattle.pie_cache.specs.inner.Keeping.{held_for, is_at, kept}
use Rattle.pie_cache.proofs.Apart.{done_more, out_itself, own_more}
use Rattle.pie_cache.proofs.Kept.{all_so_far, emptied, made_all, made_more}
use Rattle.pie_cache.proofs.Looking.{changes_none, looks_then}
use Rattle.pie_cache.proofs.drafting.add_all.Goals as goal

pub add-requires-clause-news : goal.add-requires-clause-news
add-requires-clause-news g c =
    let rest = c.pop_first.new.self.entries in
    let next : c.files.latest.entries ≡ (c.in-Some.path, c.in-Some.offer) ∷ rest = search rules in
    All-head IsNewsIn (c.in-Some.path, c.in-Some.offer) rest (subst (All IsNewsIn) next c.files.invariant.0)

pub files-preserved : goal.files-preserved
files-preserved g c =
    let F = g.F.Files in
    let rest = c.pop_first.new.self.entries in
    let next : c.files.latest.entries ≡ (c.in-Some.path, c.in-Some.offer) ∷ rest = search rules in
    let has : get (slice_cmp nat_cmp) c.files.latest c.in-Some.path ≡ Some c.in-Some.offer = search rules in
    let out : (q : List ℕ) → get (slice_cmp nat_cmp) c.pop_first.new.self q ≡ cond (is_at c.in-Some.path q) None (get (slice_cmp nat_cmp) c.files.latest q) =
    c.in-Some.ensures.updates.0 in
    let gone : get (slice_cmp nat_cmp) c.pop_first.new.self c.in-Some.path ≡ None = out_itself c.files.latest c.pop_first.new.self c.in-Some.path out in
    let before = c.files.invariant in
    let e = c.in_ok-add-in-Some.ensures in
    let Added : Directory → Type 0 = λ d. (q : List ℕ) → written c.add.new.drafts.items q
    ≡ later (at c.in-Some.path (kept (Some (offered c.in-Some.offer.value)) (file_at d c.in-Some.path)) q) (written c.files.drafts.items q) in
    let SoFar : Directory → Type 0 = λ d. (q : List ℕ) → later (kept (held_for c.files.latest q) (file_at d q)) (written c.files.drafts.items q)
    ≡ later (kept (held_for c.args.latest q) (file_at d q)) (written c.args.drafts.now.items q) in
    let Next : Directory → Type 0 = λ d. (q : List ℕ) → later (kept (held_for c.pop_first.new.self q) (file_at d q)) (written c.add.new.drafts.items q)
    ≡ later (kept (held_for c.args.latest q) (file_at d q)) (written c.args.drafts.now.items q) in
    let added : IfSome (F.holds c.args.files.now) Added = subst (λ o. IfSome o Added) before.2 e.added in (
      All-tail IsNewsIn (c.in-Some.path, c.in-Some.offer) rest (subst (All IsNewsIn) next before.0),
      e.drafts,
      e.reads.same ∙ before.2,
      both_before F.holds F.moment F.left_since F.images c.args.files.now c.files.files c.add.new.files before.2 before.3 e.reads.crash,
      e.reads.counted.steady ∙ before.4,
      looks_then [] (F.asked c.args.files.now) (F.asked c.files.files) (F.asked c.add.new.files) before.5 e.looks,
      if_two SoFar Added Next (F.holds c.args.files.now)
          (λ d so_far adds. made_more (file_at d) c.files.latest c.pop_first.new.self c.in-Some.path c.in-Some.offer c.files.drafts.items c.add.new.drafts.items
          (λ q. later (kept (held_for c.args.latest q) (file_at d q)) (written c.args.drafts.now.items q)) has out adds so_far) before.6 added,
      own_more c.files.latest c.pop_first.new.self c.in-Some.path c.in-Some.offer has out gone c.files.drafts.items c.add.new.drafts.items before.7 before.8 e.adds,
      done_more c.files.latest c.pop_first.new.self c.in-Some.path c.in-Some.offer has out gone c.files.drafts.items c.add.new.drafts.items before.8 e.adds,
    )

pub returns-in-None-clause-made : goal.returns-in-None-clause-made
returns-in-None-clause-made g c =
    if_each
    (λ d. (q : List ℕ) → later (kept (held_for c.files.latest q) (file_at d q)) (written c.files.drafts.items q)
    ≡ later (kept (held_for c.args.latest q) (file_at d q)) (written c.args.drafts.now.items q))
    (λ d. (q : List ℕ) → written c.files.drafts.items q ≡ later (kept (held_for c.args.latest q) (file_at d q)) (written c.args.drafts.now.items q))
    (g.F.Files.holds c.args.files.now)
    (λ d so_far. made_all (file_at d) c.files.latest c.files.drafts.items
    (λ q. later (kept (held_for c.args.latest q) (file_at d q)) (written c.args.drafts.now.items q)) (emptied c.files.latest.entries (λ some. false≢true (c.in-None.ensures.variant.1 some)))
    so_far) c.files.invariant.6

pub returns-in-None-clause-drafts : goal.returns-in-None-clause-drafts
returns-in-None-clause-drafts g c = record { each = c.files.invariant.1; own = c.files.invariant.7 }

pub files-init : goal.files-init
files-init g c = (
  c.requires.news,
  c.requires.drafts.each,
  refl,
  none_before g.F.Files.holds g.F.Files.moment g.F.Files.left_since g.F.Files.images c.args.files.now,
  refl,
  changes_none (g.F.Files.asked c.args.files.now) (g.F.Files.asked c.args.files.now) refl,
  all_so_far (g.F.Files.holds c.args.files.now)
      (λ d q. later (kept (held_for c.args.latest q) (file_at d q)) (written c.args.drafts.now.items q)),
  c.requires.drafts.own,
  c.requires.done,
)
