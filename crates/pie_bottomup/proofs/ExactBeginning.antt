-- A build begins with the old tasks of an update, and is exact once these were tested.
use Rattle.std.proofs.Common.{◌≡◌, ◌⊎◌, ℕ, ◌<◌, ◌≤◌, ◌+◌, ◌||◌, Bool, true, false, cond, List, [], ◌∷◌, ◌++◌, None, Some, length, map, get_or, refl, sym, ap, ◌∙◌, subst, inl, inr, arith}
use Rattle.std.specs.Prelude.{slice_get, slice_index_or, take}
use Rattle.std.specs.Ordering.{nat_cmp, is_eq}
use Rattle.std.specs.Cmp.Lexicographic.{slice_cmp}
use Rattle.std.specs.List.{All, list_any}
use Rattle.std.proofs.lemmas.List.{length-map, get_or-map, take_more}
use Rattle.std.proofs.lemmas.List.Elements.{All-nil, All-contains}
use Rattle.std.proofs.lemmas.Option.{slice_get_within, get_or_from_slice_get}
use Rattle.pie_base.specs.Path.{is_below}
use Rattle.pie_value.specs.declared.task.Task.{Task}
use Rattle.pie_value.specs.declared.stamp.Stamp.{Stamp}
use Rattle.pie_value.specs.Canonical.{enc_task}
use Rattle.pie_graph.specs.Numbers.{IsMarked}
use Rattle.pie_graph.specs.Rows.{row_at}
use Rattle.pie_record.specs.Canonical.{IsStorable, IsTrueRecord}
use Rattle.pie_record.specs.declared.dep.DepKind.{DepKind}
use Rattle.pie_record.specs.declared.dep.DepOn.{DepOn}
use Rattle.pie_record.specs.declared.dep.DepOn.TheVariants.{File, Called}
use Rattle.pie_record.specs.declared.task_record.TaskRecord.{TaskRecord}
use Rattle.pie_record.specs.inner.Records.{record_of as kept_of}
use Rattle.pie_tables.specs.declared.tables.Tables.{Tables}
use Rattle.pie_named.specs.declared.named.Named.{Named}
use Rattle.pie_named.specs.inner.Names.{is_named, is_above}
use Rattle.pie_named.specs.inner.Known.{IsTrueOf}
use Rattle.pie_view.specs.Content.{content}
use Rattle.pie_old.specs.inner.Code.{is_same_code}
use Rattle.pie_compare.specs.inner.Touching as compare
use Rattle.pie_walk.specs.declared.marks.Mark.TheVariants.{New, Settled}
use Rattle.pie_walk.specs.Marks.{mark_of, IsSettled}
use Rattle.pie_walk.specs.States.{WalkState}
use Rattle.pie_walk.specs.Standing.{Stands}
use Rattle.pie_model.specs.Paths.{among}
use Rattle.pie_model_pipeline.specs.Rows.{record_of as model_record}
use Rattle.pie_model_pipeline.specs.World.{world}
use Rattle.pie_builder_laws.specs.Views.{RowIs}
use Rattle.pie_builder_laws.proofs.Naming.{canonical_at, placed}
use Rattle.pie_earlier_laws.specs.Left.{AreThere}
use Rattle.pie_earlier_laws.proofs.Leaving.{old_writes_there}
use Rattle.pie_earlier_laws.proofs.Pipelines.{write_once}
use Rattle.pie_core_laws.specs.Update.{Update, IsInformed, earlier}
use Rattle.pie_core_laws.specs.Exact.{is_busy, IsExact}
use Rattle.pie_core_laws.specs.Beginning.{IsLoaded, IsTestedTask}
use Rattle.pie_core_laws.specs.Comparing as core
use Rattle.pie_core_laws.specs.Comparing.{IsOld}
use Rattle.pie_core_laws.proofs.Begun.{begins_exact}
use Rattle.pie_core_laws.proofs.Compared.{untouched_tested}
use Rattle.pie_core_laws.proofs.Exactly.{not_busy_scheduled}
use Rattle.pie_core_laws.specs.Joins.{HasNames}
use Rattle.pie_core_laws.proofs.Joined.{loaded_begin, names_grow, same_codes}
use Rattle.pie_bottomup.specs.declared.plan.Plan.{Plan}
use Rattle.pie_bottomup.specs.declared.state.Core.{Core}
use Rattle.pie_bottomup.specs.declared.state.First.TheVariants.{Tests, Done}
use Rattle.pie_bottomup.specs.inner.Causes.{AreTried}
use Rattle.pie_bottomup.specs.inner.Tested.{AreHeld, AreAsBefore, Learns}
use Rattle.pie_bottomup.specs.inner.Exact.{IsPlanNow, KnowsTouched, AreWritten, AreUnchanged, WaitsAsOld, HoldsAsOld, AreExact}
use Rattle.pie_bottomup.specs.inner.Exact.{IsExactCore, IsLoadedCore}
use Rattle.pie_bottomup.specs.inner.Loaded.{IsLoadedFrom, IsUnmet, IsInformedOf, BeginsExact}
use Rattle.pie_bottomup.proofs.Beginning.{unflagged}
use Rattle.pie_bottomup.proofs.Trying.{tried_loaded}

-- ---- what was loaded

-- a task whose flag is set is of a function with one digest
code_marked : (funcs digests : List (List ℕ × List ℕ)) (names : List Task) (same : List Bool)
    → same ≡ map (λ (t : Task). is_same_code funcs digests t.func) names → (n : ℕ) (t : Task) → IsMarked same n → slice_get names n ≡ Some t
    → is_same_code funcs digests t.func ≡ true
code_marked funcs digests names same e n t flag named =
    let f : Task → Bool = λ (x : Task). is_same_code funcs digests x.func in
    let l : n < length names = slice_get_within names n t named in
    let here : get_or (map f names) n false ≡ true = subst (λ (flags : List Bool). IsMarked flags n) e flag in
    let at : f (get_or names n t) ≡ get_or (map f names) n false = sym (get_or-map f names n t false (omega (arith, l, length-map names f))) in
    ap f (sym (get_or_from_slice_get names n t t named)) ∙ at ∙ here

pub loaded_core : (funcs digests : List (List ℕ × List ℕ)) (kept : List TaskRecord) (changes : List (List ℕ)) (c : Core) → All IsStorable kept
    → All IsTrueRecord kept → (c.first ≡ Tests → IsLoadedFrom kept c) → IsUnmet c → IsInformedOf funcs digests changes c → BeginsExact funcs digests kept changes c
loaded_core funcs digests kept changes c storable parts loaded unmet informed = λ u stored first.
    let from = loaded first in
    let is : IsLoaded u c.tables.names c.tables.records c.frames.walk = loaded_begin u kept c.tables c.frames.walk (record {
      stored = stored.rows;
      storable = storable;
      tables = from.tables;
      tasks = unmet.tasks;
      rows = from.rows;
      looks = from.looks;
      unmet = unmet.unmet;
    }) in
    record {
      loaded = is;
      informed = record {
        names = λ p. informed.names.names p ∙ ap (among p) (sym stored.names);
        above = λ p. informed.names.above p ∙ ap (list_any (is_below p)) (sym stored.names);
        known = informed.known u.directory;
      };
      meaning = record {
        few = omega (arith, ap length informed.same, length-map c.tables.names (λ (t : Task). is_same_code funcs digests t.func));
        means = λ n t flag at.
            stored.meaning t (canonical_at c.tables.names unmet.tasks n t at)
            (same_codes funcs digests t.func (code_marked funcs digests c.tables.names c.plan.same.items informed.same n t flag at));
      };
      parts = λ n rec is. All-contains IsTrueRecord kept rec parts (placed kept n rec (sym (from.tables.records n) ∙ is));
      unstarted = λ n. record {
        rested = ap (λ (flags : List Bool). slice_index_or flags n false) from.tables.ran ∙ unflagged (length kept) n;
        unstaged = λ path. ap (λ staged. content staged n path) unmet.stage;
      };
      counted = from.counted ∙ from.rows.as_many ∙ sym (length-map kept model_record) ∙ ap length stored.rows;
      sized = from.counted ∙ is.as_many;
    }

-- one name more
pub names_next : (old new : Named) (changes : List (List ℕ)) (i : ℕ) (path : List ℕ) → i < length changes → path ≡ get_or changes i path
    → HasNames old (take i changes) → ((p : List ℕ) → is_named new p ≡ cond (is_eq (slice_cmp nat_cmp path p)) true (is_named old p))
    → ((p : List ℕ) → is_above new p ≡ (is_below p path || is_above old p)) → HasNames new (take (i + 1) changes)
names_next old new changes i path l e h f g =
    subst (HasNames new) (sym (take_more changes i path l ∙ ap (λ (x : List ℕ). take i changes ++ x ∷ []) (sym e)))
    (names_grow old new (take i changes) path h f g)

-- ---- what is known

on_same : (n : Named) (kind : DepKind) (what : DepOn) (s : Stamp) → compare.on_known n kind what s ≡ core.on_known n kind what s
on_same n kind (File path) s = refl
on_same n kind (Called t) s = refl

known_same : (n : Named) (rec : TaskRecord) → compare.IsKnownTouched n rec → core.IsKnownTouched n rec
known_same n rec (inl k) = inl (k.0, k.1, sym (on_same n k.0.kind k.0.what k.0.stamp) ∙ k.2)
known_same n rec (inr k) = inr (k.0, k.1, k.2)

-- ---- the old tasks were tested

module _ (u : Update) (old new : Core) (plan : IsPlanNow u old.plan) (l : IsLoadedCore u old) (known : IsTrueOf u.directory new.named)
    (held : AreHeld u.directory new (length old.frames.walk.rows)) (before : AreAsBefore u.directory new (length old.frames.walk.rows))
    (learns : Learns old new) (walk : new.frames.walk ≡ record old.frames.walk { scheduled = new.frames.walk.scheduled })
    (stage : new.stage ≡ old.stage) (w : Stands new.frames.walk) where
  marks_same : (n : ℕ) → mark_of new.frames.walk.marks n ≡ New
  marks_same n = ap (λ (z : WalkState). mark_of z.marks n) walk ∙ l.loaded.unmet n

  none_settled : (n : ℕ) → IsSettled new.frames.walk.marks n → ⊥
  none_settled n is = let clash : New ≡ Settled = sym (marks_same n) ∙ is in cc

  loaded_now : IsLoaded u old.tables.names old.tables.records new.frames.walk
  loaded_now = record {
    tasks = l.loaded.tasks;
    few = l.loaded.few;
    as_many = ap (λ (z : WalkState). length z.rows) walk ∙ l.loaded.as_many;
    named = l.loaded.named;
    whole = l.loaded.whole;
    old = l.loaded.old;
    storable = l.loaded.storable;
    rows = λ n rec kept.
        subst (λ (z : WalkState). RowIs old.tables.names (row_at z.rows n) (Some rec)) (sym walk) (l.loaded.rows n rec kept);
    looks = λ n rec kept off. l.loaded.looks n rec kept (sym (ap (λ (z : WalkState). slice_index_or z.looks_out n false) walk) ∙ off);
    unmet = marks_same;
  }

  informed_now : IsInformed u new.named
  informed_now = record {
    names = λ p. learns.names.named p ∙ l.informed.names p;
    above = λ p. learns.names.above p ∙ l.informed.above p;
    known = known;
  }

  inside : (n : ℕ) (rec : TaskRecord) → kept_of old.tables.records n ≡ Some rec → n < length old.frames.walk.rows
  inside n rec kept = omega (arith, slice_get_within old.tables.names n rec.task (l.loaded.named n rec kept), l.loaded.as_many)

  kept_now : (n : ℕ) (rec : TaskRecord) → kept_of old.tables.records n ≡ Some rec → kept_of new.tables.records n ≡ Some rec
  kept_now n rec kept = ap (λ (t : Tables). kept_of t.records n) learns.tables ∙ kept

  tested_now : (n : ℕ) (rec : TaskRecord) → kept_of old.tables.records n ≡ Some rec → slice_index_or new.frames.walk.scheduled n false ≡ false
      → IsTestedTask u new.named rec
  tested_now n rec kept off =
      let is = before n rec (inside n rec kept) (kept_now n rec kept) off in
      record {
        meaning = l.meaning.means n rec.task (subst (λ p. IsMarked p.same.items n) learns.plan is.same) (l.loaded.named n rec kept);
        untouched = is.untouched;
      }

  exact_now : IsExact u old.tables.names old.tables.records new.frames.walk
  exact_now =
      begins_exact u old.tables.names old.tables.records new.frames.walk new.named plan.update informed_now loaded_now w.holds.agrees tested_now

  known_now : KnowsTouched u new.named old.plan.same.items old.tables new.frames.walk.marks
  known_now = record {
    informed = informed_now;
    meaning = l.meaning;
    searched = λ n rec kept un flag touched.
        known_same new.named rec
        ((held n (inside n rec kept) rec (kept_now n rec kept) (subst (λ p. IsMarked p.same.items n) (sym learns.plan) flag)).searched touched);
    parts = λ n rec kept un. l.parts n rec kept;
  }

  there_now : (n : ℕ) (rec : TaskRecord) → is_busy new.frames.walk n ≡ false → kept_of old.tables.records n ≡ Some rec
      → AreThere world u.directory rec.writes
  there_now n rec calm kept =
      let is_old : IsOld u rec = exact_now.old n rec kept (none_settled n) in
      let tested = tested_now n rec kept (not_busy_scheduled new.frames.walk n calm) in
      old_writes_there world (earlier u) u.old_roots u.left u.directory u.names (enc_task rec.task) (model_record rec)
      (write_once u.old_functions u.built) plan.update.build plan.update.changes is_old.left
      (untouched_tested u new.named rec plan.update informed_now is_old tested.untouched).1

  written_now : AreWritten u old.tables new.frames.walk old.stage
  written_now = record {
    there = λ n rec calm rested kept. there_now n rec calm kept;
    ran = λ n rec path is flag kept. absurd (none_settled n is);
    fetched = λ n rec path bytes is rested kept full. absurd (none_settled n is);
    idle = λ n rests un. l.unstarted n;
  }

  unchanged_now : AreUnchanged u old.plan.same.items old.tables new.frames.walk
  unchanged_now n rec calm rested kept = inl (record {
    code = subst (λ p. IsMarked p.same.items n) learns.plan
        (before n rec (inside n rec kept) (kept_now n rec kept) (not_busy_scheduled new.frames.walk n calm)).same;
    old = exact_now.old n rec kept (none_settled n);
  })

  are_now : AreExact u new.named new.plan.same.items new.tables new.frames.walk new.stage
  are_now =
      subst (λ (p : Plan). AreExact u new.named p.same.items new.tables new.frames.walk new.stage) (sym learns.plan)
      (subst (λ (t : Tables). AreExact u new.named old.plan.same.items t new.frames.walk new.stage) (sym learns.tables)
      (subst (AreExact u new.named old.plan.same.items old.tables new.frames.walk) (sym stage)
      (record { tables = exact_now; known = known_now; written = written_now; unchanged = unchanged_now })))

  pub tested_exact : new.frames.parked.items ≡ [] → new.hand ≡ None → IsExactCore u (record new { first = Done })
  tested_exact parked free = record {
    tested = refl;
    counted = learns.earlier ∙ l.counted;
    tried = subst (λ k. AreTried u k new.tables.names) (sym learns.earlier)
        (subst (λ (t : Tables). AreTried u old.earlier t.names) (sym learns.tables) (tried_loaded u old l));
    are = are_now;
    parked = subst (All (WaitsAsOld new.tables new.frames.walk.rows)) (sym parked) (All-nil (WaitsAsOld new.tables new.frames.walk.rows));
    hand = subst (HoldsAsOld new.tables new.frames.walk.rows) (sym free) tt;
  }
