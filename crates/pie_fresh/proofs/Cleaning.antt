-- From root to root a build is the clean build of the model.
use Rattle.std.proofs.Common.{get_or, ◌≡◌, ℕ, ◌+◌, ◌<◌, ◌≤◌, Option, Some, None, List, [], ◌∷◌, ◌++◌, take, drop, length, refl, sym, ap, subst, ◌∙◌}
use Rattle.std.specs.Prelude.{All, IfSome}
use Rattle.std.proofs.lemmas.List.{take-append-drop, take_all, take_more, drop_more}
use Rattle.pie_value.specs.declared.task.Task.{Task}
use Rattle.pie_value.specs.declared.verdict.Refusal.{Refusal}
use Rattle.pie_value.specs.declared.verdict.Refusal.TheVariants as refusals
use Rattle.pie_value.specs.declared.verdict.Verdict.TheVariants.{Refused}
use Rattle.pie_value.specs.Canonical.{enc_task}
use Rattle.pie_graph.specs.Rows.{Row, row_at}
use Rattle.pie_view.specs.Content.{content}
use Rattle.pie_record.specs.declared.task_record.TaskRecord.{TaskRecord}
use Rattle.pie_record.specs.inner.Records.{record_of as kept_of}
use Rattle.pie_checks.specs.declared.built.Built.{Built}
use Rattle.pie_files.specs.Directory.{Directory}
use Rattle.pie_code.specs.declared.code.Code.{Code}
use Rattle.pie_parser.specs.FunctionTrees.{FunctionTree}
use Rattle.pie_types.specs.Headings.{Heading}
use Rattle.pie_model_pipeline.specs.Clean.{IsCleanBuild}
use Rattle.pie_builder_laws.specs.Views.{RowIs}
use Rattle.pie_builder_laws.specs.Builds.{AreDone}
use Rattle.pie_builder_laws.proofs.Ended.{none_done, ended_done, failed_is, cycle_is, full_is}
use Rattle.pie_builder_laws.proofs.Fitted.{headings_of}
use Rattle.pie_fresh.specs.declared.ledger.Ledger.{Ledger}
use Rattle.pie_fresh.specs.declared.builder.Builder.{Builder}
use Rattle.pie_fresh.specs.inner.Ledgers.{Starts}
use Rattle.pie_fresh.specs.inner.Builds.{MakesNothing, NothingWhere, IsEmptyWhereRefused}
use Rattle.pie_fresh.specs.inner.Means.{Site, names_of, IsKeptOutput, MeansTable, IsResting, RestsAs, RefusesAs, RootMeans}
use Rattle.pie_fresh.specs.inner.Collected.{IsClean, CleansDone}
use Rattle.pie_fresh.specs.Cleans.{contents_in, IsRootOf, RootsDone, NoRootsDone, EvaluatesRoot, DoesRoots, EvaluatesAs, IsCleanOf, CleansAs}
use Rattle.pie_fresh.specs.Told.{IsTrueRefusal, IsTrueTask, TellsTrue}
use Rattle.pie_fresh.proofs.CleanLemmas.{refused_true}

-- ---- the root of a site, and what was entered before it, are nothing to a build that rests

abbrev pub with_root : Site → List ℕ → List (List ℕ) → Site
with_root s root base =
    record { functions = s.functions; headings = s.headings; codes = s.codes; directory = s.directory; root = root; base = base }

module _ (s : Site) (root : List ℕ) (base : List (List ℕ)) (b : Builder) where
  pub rests_there : IsResting s b → IsResting (with_root s root base) b
  rests_there R = record {
    there = record { functions = R.there.functions; codes = R.there.codes; compiled = R.there.compiled; headings = R.there.headings };
    table = record {
      tasks = R.table.tasks;
      graph = R.table.graph;
      staged = R.table.staged;
      unused = R.table.unused;
      outputs = R.table.outputs;
      fits = R.table.fits;
    };
    rests = R.rests;
    alone = R.alone;
  }

  rests_here : IsResting (with_root s root base) b → IsResting s b
  rests_here R = record {
    there = record { functions = R.there.functions; codes = R.there.codes; compiled = R.there.compiled; headings = R.there.headings };
    table = record {
      tasks = R.table.tasks;
      graph = R.table.graph;
      staged = R.table.staged;
      unused = R.table.unused;
      outputs = R.table.outputs;
      fits = R.table.fits;
    };
    rests = R.rests;
    alone = R.alone;
  }

-- a root is refused for tasks that the program has
refuses_true : (s : Site) (l : Ledger) (r : Refusal) → RefusesAs s l r → IsTrueRefusal r
refuses_true s l (refusals.Fault f) E = E.1
refuses_true s l (refusals.Cycle ts) E = E.1
refuses_true s l refusals.Many E = tt
refuses_true s l (refusals.Overlap p t u) E = absurd E
refuses_true s l (refusals.Nested p q) E = absurd E
refuses_true s l (refusals.Hidden p t u) E = absurd E

-- ---- one root after those that are done

module _ (held : Option Directory) (s : Site) (b c : Builder) (done : List Task) (root : Task) (h : held ≡ Some s.directory) (D : RootsDone s b done)
    (is : IsRootOf s.functions root) where
  abbrev here : Site
  here = with_root s (enc_task root) (names_of b.ledger)

  comes : (why : Option Refusal) → EvaluatesRoot held b c root why → RootMeans here c why
  comes why e = e is.small here is.number h (rests_there s (enc_task root) (names_of b.ledger) b D.resting) is.found refl refl

  root_done : EvaluatesRoot held b c root None → RootsDone s c (done ++ root ∷ [])
  root_done e =
      let E : RestsAs here c = comes None e in
      record {
        resting = rests_here s (enc_task root) (names_of b.ledger) c E.resting;
        done = ended_done s.functions s.directory done b.ledger.names c.ledger.names b.ledger.records c.ledger.records root E.value D.done
            E.resting.table.tasks E.resting.rests E.ended;
      }

  module _ (roots rest : List Task) (all : roots ≡ done ++ root ∷ rest) where
    stops_for : (r : Refusal) → RefusesAs here c.ledger r → IsCleanBuild s.functions s.directory roots c.ledger.names (Refused r) [] [] []
    stops_for (refusals.Fault f) E =
        failed_is s.functions s.directory roots done rest c.ledger.names b.ledger.names b.ledger.records root f.task f.kind D.done all E.0
    stops_for (refusals.Cycle ts) E =
        cycle_is s.functions s.directory roots done rest c.ledger.names b.ledger.names b.ledger.records root ts D.done all E.0
    stops_for refusals.Many E =
        full_is s.functions s.directory roots done rest c.ledger.names b.ledger.names b.ledger.records root E.one D.done all E.full E.begins
    stops_for (refusals.Overlap p t u) E = absurd E
    stops_for (refusals.Nested p q) E = absurd E
    stops_for (refusals.Hidden p t u) E = absurd E

    root_stops : (r : Refusal) → EvaluatesRoot held b c root (Some r)
        → IsCleanBuild s.functions s.directory roots c.ledger.names (Refused r) [] [] [] × IsTrueRefusal r
    root_stops r e = (stops_for r (comes (Some r) e), refuses_true here c.ledger r (comes (Some r) e))

-- ---- the roots in order

parts : (roots : List Task) (i : ℕ) (root : Task) → i < length roots → root ≡ get_or roots i root → roots ≡ take i roots ++ root ∷ drop (i + 1) roots
parts roots i root lt is =
    sym (take-append-drop i roots) ∙ ap (λ ts. take i roots ++ ts) (drop_more roots i root lt ∙ ap (λ t. t ∷ drop (i + 1) roots) (sym is))

pub is_root : (s : Site) (roots : List Task) (i : ℕ) (root : Task) → i < length roots → root ≡ get_or roots i root → All (IsRootOf s.functions) roots
    → IsRootOf s.functions root
is_root s roots i root lt is all = subst (λ t. IsRootOf s.functions t) (sym is) (all i root lt)

-- no roots are done at first
pub does_none : (held : Option Directory) (b : Builder) (roots : List Task) → DoesRoots held b b roots []
does_none held b roots s h D all = D

module _ (first held : Option Directory) (a b c : Builder) (roots : List Task) (i : ℕ) (root : Task) (same : held ≡ first) (lt : i < length roots)
    (is : root ≡ get_or roots i root) (so_far : DoesRoots first a b roots (take i roots)) where
  -- one more is done
  pub does_more : EvaluatesRoot held b c root None → DoesRoots first a c roots (take (i + 1) roots)
  does_more e s h D all =
      subst (λ ts. RootsDone s c ts) (sym (take_more roots i root lt ∙ ap (λ t. take i roots ++ t ∷ []) (sym is)))
      (root_done held s b c (take i roots) root (same ∙ h) (so_far s h D all) (is_root s roots i root lt is all) e)

  -- or it ends the build
  pub ends_build : (r : Refusal) → EvaluatesRoot held b c root (Some r) → EvaluatesAs first a c roots (Some r)
  ends_build r e s h D all =
      root_stops held s b c (take i roots) root (same ∙ h) (so_far s h D all) (is_root s roots i root lt is all) roots (drop (i + 1) roots)
      (parts roots i root lt is) r e

-- all are done
pub does_all : (held : Option Directory) (a b : Builder) (roots : List Task) (i : ℕ) → length roots ≤ i → DoesRoots held a b roots (take i roots)
    → EvaluatesAs held a b roots None
does_all held a b roots i le so_far = subst (λ ts. DoesRoots held a b roots ts) (take_all i roots le) so_far

-- ---- a build that begins

not_some : {A : Type 0} {X : Type 0} {x : X} → None ≡ Some x → A
not_some h = absurd (apart h)
  where
    apart : {Y : Type 0} {y : Y} → None ≡ Some y → ⊥
    apart e = cc

-- without a record nothing is asked of an output
no_output : (o : Option TaskRecord) → o ≡ None → IfSome o (λ rec. IsKeptOutput rec.outcome)
no_output o e = subst (λ z. IfSome z (λ rec. IsKeptOutput rec.outcome)) (sym e) tt

-- a task without a row and a record
no_row : (rows : List Row) (o : Option TaskRecord) (n : ℕ) → rows ≡ [] → o ≡ None → RowIs [] (row_at rows n) o
no_row rows o n none unrecorded =
    subst (λ rs. RowIs [] (row_at rs n) o) (sym none) (subst (λ z. RowIs [] (row_at [] n) z) (sym unrecorded) (refl, refl))

module _ (s : Site) (l : Ledger) (names : l.names ≡ []) (rows : l.rows ≡ []) (records : (n : ℕ) → kept_of l.records n ≡ None) (stage : l.stage ≡ []) where
  none_entered : AreDone s.functions s.directory [] l.names l.records
  none_entered = subst (λ ts. AreDone s.functions s.directory [] ts l.records) (sym names) (none_done s.functions s.directory l.records records)

  empty_table : MeansTable s l
  empty_table = record {
    tasks = none_entered.tasks;
    graph = record {
      as_many = ap length rows ∙ sym (ap length names);
      each = λ n. subst (λ ts. RowIs ts (row_at l.rows n) (kept_of l.records n)) (sym names) (no_row l.rows (kept_of l.records n) n rows (records n));
    };
    staged = λ n u r e k p. not_some (sym (records n) ∙ k);
    unused = λ n h. record { unrecorded = records n; unstaged = λ p. ap (λ z. content z n p) stage };
    outputs = λ n. no_output (kept_of l.records n) (records n);
    fits = λ n t r e k. not_some (sym (records n) ∙ k);
  }

-- with nothing entered no root is done
pub begins_empty : (fs : List FunctionTree) (codes : List Code) (b : Builder) → b.typed.now ≡ fs → b.code.now ≡ codes → b.ledger.names ≡ []
    → b.ledger.rows ≡ [] → ((n : ℕ) → kept_of b.ledger.records n ≡ None) → b.ledger.stage ≡ [] → b.stack.items ≡ [] → NoRootsDone fs codes b
begins_empty fs codes b typed code names rows records stage stack s functions coded compiled headings =
    let D = none_entered s b.ledger names rows records stage in
    record {
      resting = record {
        there = record { functions = typed ∙ sym functions; codes = code ∙ sym coded; compiled = compiled; headings = headings };
        table = empty_table s b.ledger names rows records stage;
        rests = D.between.rests;
        alone = stack;
      };
      done = D;
    }

-- ---- the whole

-- the roots are those of a site
abbrev pub site_of : List FunctionTree → List Heading → List Code → Directory → Site
site_of fs hs codes d = record { functions = fs; headings = hs; codes = codes; directory = d; root = []; base = [] }

module _ (held : Option Directory) (fs : List FunctionTree) (codes : List Code) (roots before after : List Task) (a b : Builder)
    (begins : NoRootsDone fs codes a) (starts : Starts a.ledger.names b.ledger.names before after) (first : a.ledger.names ≡ []) (m : Built) where
  all_started : b.ledger.names ≡ starts.gained
  all_started = starts.entered ∙ ap (λ ts. ts ++ starts.gained) first

  clean_after : (d : Directory) → IsClean fs d roots b.ledger m → IsCleanOf fs d roots before after m
  clean_after d C = record {
    started = starts.gained;
    gained = starts.started;
    clean = subst (λ ts. IsCleanBuild fs d roots ts m.verdict m.rows.items (contents_in m.files.items) m.outputs.items) all_started C.0;
    told = subst (λ ts. TellsTrue ts m.verdict m.outputs.items) all_started C.1;
  }

  -- a root ended the build
  pub cleans_refused : (r : Refusal) → EvaluatesAs held a b roots (Some r) → m.verdict ≡ Refused r → IsEmptyWhereRefused m → All IsTrueTask b.ledger.names
      → CleansAs held fs codes roots before after m
  cleans_refused r means verdict empty entered d h well compiled all =
      let hs = headings_of fs well in
      let s : Site = site_of fs hs.0 codes d in
      let nothing : MakesNothing m = subst (λ v. NothingWhere v m) verdict empty in
      let meant = means s h (begins s refl refl compiled hs.1) all in
      clean_after d (
        subst (λ v. IsCleanBuild fs d roots b.ledger.names v m.rows.items (contents_in m.files.items) m.outputs.items) (sym verdict)
            (subst (λ rows. IsCleanBuild fs d roots b.ledger.names (Refused r) rows (contents_in m.files.items) m.outputs.items) (sym nothing.rows)
            (subst (λ files. IsCleanBuild fs d roots b.ledger.names (Refused r) [] files m.outputs.items) (sym (ap contents_in nothing.files))
            (subst (λ outputs. IsCleanBuild fs d roots b.ledger.names (Refused r) [] [] outputs) (sym nothing.outputs) meant.0))),
        refused_true m r b.ledger.names verdict nothing entered meant.1,
      )

  -- or all were done, and the last checks decided
  pub cleans_checked : EvaluatesAs held a b roots None → CleansDone roots b.ledger m → CleansAs held fs codes roots before after m
  cleans_checked means judged d h well compiled all =
      let hs = headings_of fs well in
      let s : Site = site_of fs hs.0 codes d in
      let D : RootsDone s b roots = means s h (begins s refl refl compiled hs.1) all in
      clean_after d (judged fs d (record { done = D.done; staged = D.resting.table.staged; outputs = D.resting.table.outputs }))
