use Rattle.std.proofs.Common.{◌∙◌, All, subst, sym}
use Rattle.pie_incremental.specs.inner.Joined.{IsImage, IsMade}
use Rattle.pie_store.specs.declared.image.StoreImage.{StoreImage}
use Rattle.pie_topdown.specs.inner.Ended.{StoredIf}
use Rattle.pie_value.specs.Canonical.{IsEncodableTask}
use Rattle.pie_topdown_build.proofs.Making.{added_encodable, made}
use Rattle.pie_topdown_build.proofs.evaluating.settled.Goals as goal

pub topdown-requires : goal.topdown-requires
topdown-requires g c =
    let image : IsImage c.into_inner.result = subst IsImage (sym c.into_inner.ensures) c.requires.image in
    record {
      storable = image.storable;
      order = image.order;
      roots = subst (All IsEncodableTask) (sym c.as_slice-2.ensures.value) c.requires.roots;
    }

pub returns-clause-made : goal.returns-clause-made
returns-clause-made g c =
    let p = c.args.project.now in
    let b = c.in_ok-built.built in
    subst (IsMade p.digests.items p.roots.items) (sym c.in_ok-built-2.ensures.ok)
    (made p.typed p.digests.items p.roots.items b c.requires.names c.requires.funcs c.requires.roots c.in_ok-built.ensures.made.kept
    (subst (λ ts. StoredIf b.verdict p.typed ts b) c.as_slice-2.ensures.value c.in_ok-built.ensures.made.stored))

pub returns-clause-reuses : goal.returns-clause-reuses
returns-clause-reuses g c = record {
  none = λ offers. c.in_ok-built.ensures.none offers ∙ c.new-reused.ensures.items;
  reused = added_encodable c.new-reused.result.items c.topdown.new.reused.items c.new-reused.ensures.items c.topdown.ensures.tasks.reused;
}

pub returns-in_err-built-clause-starts : goal.returns-in_err-built-clause-starts
returns-in_err-built-clause-starts g c = record { started = c.topdown.ensures.tasks.started; few = c.topdown.ensures.tasks.few }

pub returns-in_err-built-2-clause-starts : goal.returns-in_err-built-2-clause-starts
returns-in_err-built-2-clause-starts g c = record { started = c.topdown.ensures.tasks.started; few = c.topdown.ensures.tasks.few }

pub returns-clause-starts : goal.returns-clause-starts
returns-clause-starts g c = record { started = c.topdown.ensures.tasks.started; few = c.topdown.ensures.tasks.few }
