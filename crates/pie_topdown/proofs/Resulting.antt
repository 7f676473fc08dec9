-- What a build without a list makes, in the words of the model.
use Rattle.std.proofs.Common.{◌≡◌, ℕ, true, List, [], ◌∷◌, Option, None, Some, length, map, refl, sym, ap, subst, ◌∙◌, inl, inr, arith, Bool, false}
use Rattle.std.specs.Prelude.{IfSome}
use Rattle.std.specs.List.{All}
use Rattle.std.proofs.lemmas.List.Elements.{All-nil, All-contains}
use Rattle.std.proofs.lemmas.Option.{slice_get_cases, slice_get_within}
use Rattle.pie_value.specs.declared.task.Task.{Task}
use Rattle.pie_value.specs.declared.verdict.Refusal.{Refusal}
use Rattle.pie_value.specs.declared.verdict.Verdict.TheVariants.{Refused}
use Rattle.pie_value.specs.Canonical.{enc_task, IsCanonicalTask}
use Rattle.pie_code.specs.declared.code.Code.{Code}
use Rattle.pie_parser.specs.FunctionTrees.{FunctionTree}
use Rattle.pie_files.specs.Directory.{Directory}
use Rattle.pie_graph.specs.Numbers.{IsMarked}
use Rattle.pie_record.specs.Canonical.{IsStorable}
use Rattle.pie_record.specs.declared.task_record.TaskRecord.{TaskRecord}
use Rattle.pie_record.specs.inner.Records.{record_of as kept_of}
use Rattle.pie_store.specs.inner.Offers.{Offered}
use Rattle.pie_tables.specs.Tabled.{IsRecordAt}
use Rattle.pie_view.specs.Content.{content}
use Rattle.pie_checks.specs.declared.built.Built.{Built}
use Rattle.pie_results.specs.inner.Made.{Makes}
use Rattle.pie_results.specs.inner.Stored.{HaveEnded, StoredWhere}
use Rattle.pie_model.specs.Paths.{among}
use Rattle.pie_model.proofs.Basics.{clash}
use Rattle.pie_builder_laws.specs.Names.{AreTasks}
use Rattle.pie_core_laws.specs.Update.{Update}
use Rattle.pie_topdown_laws.specs.Ledgers.{IsRightLedger}
use Rattle.pie_topdown_laws.proofs.Changing.{ledger_begins}
use Rattle.pie_topdown_result_laws.specs.Builds.{AreHonest, IsFromStore, IsNowHere, MakesClean}
use Rattle.pie_topdown_result_laws.specs.Settled.{AreSettledTables}
use Rattle.pie_topdown_result_laws.proofs.Making.{makes_clean, refused_clean}
use Rattle.pie_topdown.specs.declared.builder.Builder.{Builder}
use Rattle.pie_topdown.specs.inner.Frames.{IsSite}
use Rattle.pie_topdown.specs.inner.Right.{names_of}
use Rattle.pie_topdown.specs.inner.Rooted.{IsPlanOf, IsProgram, IsSettledSoFar, IsUnbegun, MakesSettled, RootsEndRight, SettlesAllRight}
use Rattle.pie_topdown.specs.inner.Roots.{AreSettled, IsSettledRoot}
use Rattle.pie_topdown.proofs.Planning.{build_now}
use Rattle.pie_topdown.proofs.Rooting.{has_ended}
use Rattle.pie_topdown.proofs.Topmost.{never}

-- ---- nothing was entered

no_rows : {X : Type 0} (xs : List X) → length xs ≡ 0 → xs ≡ []
no_rows [] e = refl
no_rows (x ∷ xs) e = absurd (omega (arith, e))

no_tasks : AreTasks []
no_tasks = record { distinct = λ i j d l m same. absurd (omega (arith, m)); canonical = All-nil (λ (t : Task). IsCanonicalTask t (enc_task t)) }

-- no flag is set of none
pub unmarked : (flags : List Bool) (n : ℕ) → length flags ≡ 0 → IsMarked flags n → ⊥
unmarked [] n none marked = clash {A = ⊥} false marked refl
unmarked (f ∷ fs) n none marked = omega (arith, none)

module _ (b : Builder) (site : IsSite b) (is : IsUnbegun b) where
  none_kept : (n : ℕ) → kept_of b.ledger.tables.records n ≡ None
  none_kept n = by (kept_of b.ledger.tables.records n) refl (site.ledger.tables.records n)
    where
      by : (o : Option TaskRecord) → kept_of b.ledger.tables.records n ≡ o → IfSome o (IsRecordAt b.ledger.tables.names n)
          → kept_of b.ledger.tables.records n ≡ None
      by None e at = e
      by (Some rec) e at =
          absurd (let inside = slice_get_within b.ledger.tables.names n rec.task at.named in omega (arith, inside, ap length is.names))

  no_record : {A : Type 0} (n : ℕ) (rec : TaskRecord) → kept_of b.ledger.tables.records n ≡ Some rec → A
  no_record n rec kept = absurd (never rec (sym (none_kept n) ∙ kept))

  no_name : {A : Type 0} (t : List ℕ) → among t (names_of b) ≡ true → A
  no_name t on = absurd (clash {A = ⊥} (among t []) (subst (λ (ts : List Task). among t (map enc_task ts) ≡ true) is.names on) refl)

  ledger_right : (u : Update) → IsRightLedger u b.ledger.tables.names b.ledger.tables.records b.ledger.rows b.ledger.places.items
  ledger_right u =
      subst (λ (ts : List Task). IsRightLedger u ts b.ledger.tables.records b.ledger.rows b.ledger.places.items) (sym is.names)
      (subst (λ rs. IsRightLedger u [] b.ledger.tables.records rs b.ledger.places.items)
      (sym (no_rows b.ledger.rows (site.ledger.rows ∙ ap length is.names)))
      (subst (λ ps. IsRightLedger u [] b.ledger.tables.records [] ps) (sym (no_rows b.ledger.places.items (site.ledger.places ∙ ap length is.names)))
      (ledger_begins u b.ledger.tables.records no_tasks none_kept)))

  -- no root is settled so far
  pub unbegun_settled : (u : Update) → IsSettledSoFar u [] b
  unbegun_settled u = record {
    ledger = ledger_right u;
    written = record {
      there = λ n rec rested kept. no_record n rec kept;
      fetched = λ n rec path bytes rested kept staged. no_record n rec kept;
      ran = λ n rec path marked kept. no_record n rec kept;
      own = λ n rec rested kept. no_record n rec kept;
      due = λ n marked. absurd (unmarked b.ledger.tables.ran.items n (site.ledger.tables.flags ∙ ap length is.names) marked);
      beyond = λ n path past. ap (λ s. content s n path) is.stage;
    };
    outputs = λ n rec kept. no_record n rec kept;
    known = is.known u.directory;
    calm = is.calm;
    free = is.stack;
    recorded = λ t on. absurd (clash {A = ⊥} (among t []) on refl);
    all = λ t on none. no_name t on;
    stand = λ t on. no_name t on;
  }

-- ---- all roots are settled

module _ (b : Builder) (roots : List Task) (settled : AreSettled b.ledger roots) (u : Update) (are : map enc_task roots ≡ u.roots)
    (s : IsSettledSoFar u u.roots b) where
  -- the tables are those of settled roots
  pub settled_tables : AreSettledTables u b.ledger.tables.names b.ledger.tables.records b.ledger.rows b.ledger.places.items roots
  settled_tables = record {
    tasks = s.ledger.tasks;
    named = s.ledger.named;
    whole = λ n inside.
        elim (slice_get_cases b.ledger.tables.names n).1 [
          | inl here ↦ let o = has_ended u u.roots b s n here.0 here.2 in (o.rec, o.kept)
          | inr past ↦ absurd (omega (arith, inside, past.0))
        ];
    as_many = s.ledger.as_many;
    rows_are = s.ledger.each_row;
    agree = s.ledger.agrees;
    table = s.ledger.table;
    are_roots = are;
    ended = λ r listed.
        let root = All-contains (IsSettledRoot b.ledger) roots r settled listed in
        record { number = root.number; named = root.named; rec = root.output.rec; kept = root.output.kept };
    stand = λ x on. let from = s.stand x on in record { from = from.from; listed = from.listed; stands = from.stands };
  }

-- what is made of them is what a clean build makes
pub made_settled : (b : Builder) (roots : List Task) (made : Built) → AreSettled b.ledger roots
    → Makes b.ledger.tables b.ledger.rows b.stage roots made
    → (HaveEnded b.ledger.tables.names b.ledger.tables.records b.ledger.rows roots → StoredWhere made.verdict b.ledger.tables.names roots made)
    → MakesSettled b roots made
made_settled b roots made settled makes stored u apart met are s =
    makes_clean u b.ledger.tables b.ledger.rows b.ledger.places.items b.stage roots made (settled_tables b roots settled u are s) apart met
    (λ n rec path flag kept. s.written.ran n rec path flag kept) (λ n rec rested kept. s.written.there n rec rested kept) makes stored

-- ---- the whole build

module _ (held : Option Directory) (fs : List FunctionTree) (codes : List Code) (funcs digests : List (List ℕ × List ℕ)) (rows : List TaskRecord)
    (told : Directory → Task → List ℕ → List Offered) (roots : List Task) (a b : Builder) (made : Built) (program : IsProgram fs codes rows)
    (storable : All IsStorable rows) (site : IsSite a) (plan : IsPlanOf fs codes funcs digests rows a.plan) (unbegun : IsUnbegun a) where
  pub ends_so : (u : Update) (why : Option Refusal) → SettlesAllRight held told a roots b why → IsNowHere u held fs roots → IsFromStore u funcs digests rows
      → AreHonest u digests told → RootsEndRight u b why
  ends_so u why settles here stored honest =
      settles u (build_now fs codes funcs digests rows a.plan plan u held roots program storable here stored told honest) here.roots_are
      (unbegun_settled a site unbegun u)

  -- all roots have outputs
  pub built_clean : (why : Option Refusal) → why ≡ None → SettlesAllRight held told a roots b why → MakesSettled b roots made
      → MakesClean held fs funcs digests rows told roots made
  built_clean why none settles makes = record {
    each = λ u here stored honest.
        makes u here.separates here.met here.roots_are (subst (RootsEndRight u b) none (ends_so u why settles here stored honest));
  }

  -- or one of them fails
  pub refused_so : (why : Option Refusal) (r : Refusal) → why ≡ Some r → made.verdict ≡ Refused r → SettlesAllRight held told a roots b why
      → MakesClean held fs funcs digests rows told roots made
  refused_so why r some verdict_is settles = record {
    each = λ u here stored honest.
        refused_clean u made r verdict_is (sym (subst (RootsEndRight u b) some (ends_so u why settles here stored honest)));
  }
