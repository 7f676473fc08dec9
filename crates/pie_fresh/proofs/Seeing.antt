-- What a task sees is what is visible to it in the model.
use Rattle.std.proofs.Common.{◌≡◌, ℕ, Bool, true, false, Option, Some, None, List, refl, sym, ap, ◌∙◌}
use Rattle.pie_base.specs.Path.{is_out, is_source}
use Rattle.pie_view.specs.Content.{Staged, content}
use Rattle.pie_files.specs.Directory.{file_at}
use Rattle.pie_code.specs.declared.code.Code.{Code}
use Rattle.pie_vm.specs.Machines.{Standing}
use Rattle.pie_view.specs.declared.seen.Seen.{Seen}
use Rattle.pie_view.specs.declared.seen.Seen.TheVariants.{Absent, By, Clash}
use Rattle.pie_model.specs.declared.words.Seen.{Seen as ModelSeen}
use Rattle.pie_model.specs.declared.words.Seen.TheVariants.{Clashing}
use Rattle.pie_model.specs.Seen.{first_write, provided, seen_file, visible_at}
use Rattle.pie_model.specs.Records.{needs_of}
use Rattle.pie_model_pipeline.specs.World.{world}
use Rattle.pie_builder_laws.specs.Names.{called_in}
use Rattle.pie_builder_laws.specs.Views.{found}
use Rattle.pie_builder_laws.proofs.Tabled.{needs_called}
use Rattle.pie_builder_laws.proofs.KindLemmas.{source_is_file, kept_is_empty, own_is_visible, others_are_visible}
use Rattle.pie_builder_laws.proofs.Provided.{provided_is}
use Rattle.pie_fresh.specs.declared.builder.Builder.{Builder}
use Rattle.pie_running.specs.inner.Noted.{Noted}
use Rattle.pie_running.specs.inner.Sights.{Sighted, Sees}
use Rattle.pie_fresh.specs.inner.Sights.{sight_by, SeesOthers, OwnFirst, SeesOut}
use Rattle.pie_fresh.specs.inner.Means.{Site, project_of, Means}

-- what is seen, in the words of the model
abbrev pub seen_by : Sighted → ModelSeen
seen_by None = Clashing
seen_by (Some sight) = seen_file sight

found_same : (staged : Staged) (path : List ℕ) (seen : Seen) → seen_by (sight_by (λ n. content staged n path) seen) ≡ found (content staged) path seen
found_same staged path Absent = refl
found_same staged path (By one) = refl
found_same staged path Clash = refl

module _ (s : Site) (b : Builder) (code : Code) (m : Standing) (n : Noted) (M : Means s b code m n) where
  others_see : (path : List ℕ) (sight : Sighted) → SeesOthers b.ledger.stage b.ledger.rows n.needs path sight
      → provided M.running.progress.kids path ≡ seen_by sight
  others_see path sight h =
      provided_is world (project_of s) s.root s.base b.ledger.names b.ledger.records M.waiting M.running b.ledger.rows (content b.ledger.stage) n.needs
      (called_in n.deps) path h.seen M.table.tasks M.under M.table.graph M.table.staged M.top.needs (ap needs_of (sym M.top.seen) ∙ needs_called n.deps) h.only
      ∙ sym (found_same b.ledger.stage path h.seen) ∙ ap seen_by (sym h.is)

  out_seen : (path : List ℕ) (sight : Sighted) → is_out path ≡ true → SeesOut b.ledger.stage b.ledger.rows n path sight
      → visible_at (file_at s.directory) M.running.progress.own M.running.progress.kids path ≡ seen_by sight
  out_seen path sight e h = by (content b.ledger.stage n.number path) (M.top.staged path) h
    where
      by : (o : Option (List ℕ)) → o ≡ first_write path M.running.progress.own
          → OwnFirst o (SeesOthers b.ledger.stage b.ledger.rows n.needs path sight) sight
          → visible_at (file_at s.directory) M.running.progress.own M.running.progress.kids path ≡ seen_by sight
      by (Some bytes) f g =
          own_is_visible (file_at s.directory) M.running.progress.own M.running.progress.kids path bytes e (sym f) ∙ ap seen_by (sym g)
      by None f g = others_are_visible (file_at s.directory) M.running.progress.own M.running.progress.kids path e (sym f) ∙ others_see path sight g

  -- a task sees what is visible to it
  pub seen_visible : (path : List ℕ) (sight : Sighted) → Sees s.directory path (SeesOut b.ledger.stage b.ledger.rows n path) sight
      → visible_at (file_at s.directory) M.running.progress.own M.running.progress.kids path ≡ seen_by sight
  seen_visible path sight h = by (is_out path) refl (is_source path) refl
    where
      by : (o : Bool) → is_out path ≡ o → (f : Bool) → is_source path ≡ f
          → visible_at (file_at s.directory) M.running.progress.own M.running.progress.kids path ≡ seen_by sight
      by true e f g = out_seen path sight e (h.out e)
      by false e true g = source_is_file (file_at s.directory) M.running.progress.own M.running.progress.kids path g ∙ ap seen_by (sym (h.source e g))
      by false e false g = kept_is_empty (file_at s.directory) M.running.progress.own M.running.progress.kids path e g ∙ ap seen_by (sym (h.kept e g))
