-- A check that goes on by one observation.
use Rattle.std.proofs.Common.{Contains, ◌≡◌, ℕ, ◌+◌, ◌<◌, ◌≤◌, Bool, true, false, not, ◌&&◌, List, [], ◌∷◌, ◌++◌, Option, Some, None, Vec, Result, Ok, Err, length, map, take, get_or, refl, sym, ap, subst, ◌∙◌, arith}
use Rattle.std.specs.declared.alloc.Global.{Global}
use Rattle.std.specs.Prelude.{slice_get, IfOk}
use Rattle.std.specs.List.{All}
use Rattle.std.proofs.lemmas.List.{append-nil, take_more, take_all}
use Rattle.std.proofs.lemmas.List.Elements.{All-push}
use Rattle.std.proofs.lemmas.Grind.{flat_map-append}
use Rattle.std.proofs.lemmas.Option.{get_or_from_slice_get}
use Rattle.pie_base.specs.Path.{is_source, is_out, is_kept}
use Rattle.pie_value.specs.declared.task.Task.{Task}
use Rattle.pie_value.specs.declared.stamp.Stamp.{Stamp}
use Rattle.pie_graph.specs.declared.edges.TaskNo.{TaskNo}
use Rattle.pie_graph.specs.Numbers.{numbers}
use Rattle.pie_record.specs.declared.dep.Dep.{Dep}
use Rattle.pie_record.specs.declared.dep.DepKind.{DepKind}
use Rattle.pie_record.specs.declared.dep.DepOn.{DepOn}
use Rattle.pie_record.specs.declared.dep.DepOn.TheVariants.{File, Called}
use Rattle.pie_record.specs.declared.records.Records.{Records}
use Rattle.pie_record.specs.declared.task_record.Outcome.{Outcome}
use Rattle.pie_record.specs.declared.task_record.Outcome.TheVariants.{Done, Failed, Cycled}
use Rattle.pie_record.specs.declared.task_record.TaskRecord.{TaskRecord}
use Rattle.pie_record.specs.inner.Records.{record_of}
use Rattle.pie_results.specs.inner.Failures.{is_done}
use Rattle.pie_named.specs.declared.named.Named.{Named}
use Rattle.pie_named.specs.inner.Stamped.{stamp_in, differs_from}
use Rattle.pie_named.specs.inner.Known.{known_stamp, known_differs, Compares, Tells as TellsKnown}
use Rattle.pie_compare.specs.inner.Standing.{Around, called_stamp, output_in, output_of, OnStands, DepStands, Tells}
use Rattle.pie_store.specs.Canonical.{needs, required_on}
use Rattle.pie_old.specs.inner.Rows.{needs_in, tasks_at}
use Rattle.pie_topdown.specs.declared.ledger.Ledger.{Ledger}
use Rattle.pie_topdown.specs.declared.hand.Check.{Check}
use Rattle.pie_topdown.specs.inner.Ledgers.{HasOutput}
use Rattle.pie_topdown.specs.inner.Frames.{IsCheck}
use Rattle.pie_files.specs.Directory.{Directory}
use Rattle.pie_topdown.specs.declared.builder.Builder.{Builder}
use Rattle.pie_topdown.specs.declared.checking.Place.TheVariants.{Stands, Differs}
use Rattle.pie_topdown.specs.inner.Places.{beside, AsksSource, Finds, IsKnownOther, IsPassed, IsUnentered}
use Rattle.pie_topdown.proofs.Growing.{tasks_push}

file_path : (p q : List ℕ) → File p ≡ File q → p ≡ q
file_path p q e = cc

source_not_out : (p : List ℕ) → is_source p ≡ true → is_out p ≡ false
source_not_out p source = by (is_out p) refl
  where
    by : (b : Bool) → is_out p ≡ b → is_out p ≡ false
    by false e = e
    by true e = let no : is_source p ≡ false = ap (λ b. not b && not (is_kept p)) e in absurd (cc)

-- the tasks that one observation more requires
needs_more : (deps : List Dep) (at : ℕ) (d : Dep) → at < length deps
    → needs_in (take (at + 1) deps) ≡ needs_in (take at deps) ++ required_on (get_or deps at d).what
needs_more deps at d l =
    ap needs_in (take_more deps at d l) ∙ flat_map-append (λ (x : Dep). required_on x.what) (take at deps) (get_or deps at d ∷ [])
    ∙ ap (λ (us : List Task). needs_in (take at deps) ++ us) (append-nil (required_on (get_or deps at d).what))

-- a required task that has a recorded stamp has an output
stamped_output : (records : Records) (k : ℕ) (kind : DepKind) (stamp : Stamp) → called_stamp kind (output_in (record_of records k)) ≡ Some stamp
    → HasOutput records k
stamped_output records k kind stamp = by (record_of records k) refl
  where
    ended : (rec : TaskRecord) (o : Outcome) → record_of records k ≡ Some rec → rec.outcome ≡ o → called_stamp kind (output_of o) ≡ Some stamp
        → HasOutput records k
    ended rec (Done v) kept is h = record { rec = rec; kept = kept; done = ap is_done is }
    ended rec (Failed f) kept is h = absurd (cc)
    ended rec (Cycled ts) kept is h = absurd (cc)

    by : (o : Option TaskRecord) → record_of records k ≡ o → called_stamp kind (output_in o) ≡ Some stamp → HasOutput records k
    by None is h = absurd (cc)
    by (Some rec) is h = ended rec rec.outcome is refl h

-- so are those that an observation which stands requires
with_stands : (l : Ledger) (n : Named) (own : List (List ℕ × List ℕ)) (required after : List ℕ) (us : List Task) (kind : DepKind) (what : DepOn) (stamp : Stamp)
    → tasks_at l.tables.names required ≡ map Some us → All (HasOutput l.tables.records) required
    → OnStands (record { tables = l.tables; rows = l.rows; known = n; own = own }) required kind what stamp after
    → (tasks_at l.tables.names after ≡ map Some (us ++ required_on what)) × All (HasOutput l.tables.records) after
with_stands l n own required after us kind (File path) stamp e all h = (
  ap (tasks_at l.tables.names) h.1 ∙ e ∙ ap (map Some) (sym (append-nil us)),
  subst (All (HasOutput l.tables.records)) (sym h.1) all,
)
with_stands l n own required after us kind (Called t) stamp e all h = (
  ap (tasks_at l.tables.names) h.3 ∙ tasks_push l.tables.names required us h.0 t e h.1,
  subst (All (HasOutput l.tables.records)) (sym h.3)
      (All-push (HasOutput l.tables.records) required h.0 all (stamped_output l.tables.records h.0 kind stamp h.2.stamped)),
)

-- a check of which an observation stands may go on by it, with what it requires then
pub passes : (l : Ledger) (n : Named) (c : Check) (r : Vec TaskNo Global) (d : Dep) → IsCheck l c → c.at < length c.rec.deps → c.at ≤ 1000000
    → slice_get c.rec.deps c.at ≡ Some d
    → DepStands (record { tables = l.tables; rows = l.rows; known = n; own = c.rec.writes }) (numbers c.required.items) d (numbers r.items)
    → IsPassed l (record c { required = r })
passes l n c r d is inside few at stands =
    let both = with_stands l n c.rec.writes (numbers c.required.items) (numbers r.items) (needs_in (take c.at c.rec.deps)) d.kind d.what d.stamp is.needs is.ended
    stands in
    record {
      inside = inside;
      few = few;
      next = record {
        named = is.named;
        takes = is.takes;
        storable = is.storable;
        needs = both.0 ∙ ap (λ (x : Dep). map Some (needs_in (take c.at c.rec.deps) ++ required_on x.what)) (sym (get_or_from_slice_get c.rec.deps c.at d d at))
            ∙ ap (map Some) (sym (needs_more c.rec.deps c.at d inside));
        ended = both.1;
        rest = is.rest;
      };
    }

-- an observation of a source that is known to have another stamp can't stand, whatever is required after it
pub other_fails : (n : Named) (a : Around) (required after : List ℕ) (d : Dep) → a.known ≡ n → IsKnownOther n d → DepStands a required d after → ⊥
other_fails n a required after d known other = by d.what refl
  where
    by : (what : DepOn) → d.what ≡ what → OnStands a required d.kind what d.stamp after → ⊥
    by (File path) is h =
        let same : path ≡ other.path = file_path path other.path (sym is ∙ other.is) in
        let source : is_source path ≡ true = subst (λ p. is_source p ≡ true) (sym same) other.source in
        let differs : known_differs (known_stamp a.known d.kind path) d.stamp ≡ true =
        ap (λ m. known_differs (known_stamp m d.kind path) d.stamp) known ∙ ap (λ p. known_differs (known_stamp n d.kind p) d.stamp) same ∙ other.differs in
        let none : known_differs (known_stamp a.known d.kind path) d.stamp ≡ false = (h.0.other (source_not_out path source)).source source in
        absurd (cc)
    by (Called t) is h = let e = sym is ∙ other.is in absurd (cc)

-- what all observations of a record require
pub over_needs : (l : Ledger) (c : Check) → IsCheck l c → length c.rec.deps ≤ c.at
    → tasks_at l.tables.names (numbers c.required.items) ≡ map Some (needs c.rec)
over_needs l c is over = is.needs ∙ ap (λ (ds : List Dep). map Some (needs_in ds)) (take_all c.at c.rec.deps over)

-- a source is asked for
pub asked_source : {E : Type 0} (held : Option Directory) (old new : Named) (d : Dep) (path : List ℕ) (r : Result Bool E) → d.what ≡ File path
    → is_source path ≡ true → IfOk r (Compares held old new d.kind path d.stamp) → IfOk r (TellsKnown old new d.kind path d.stamp)
    → IfOk r (AsksSource held old new d)
asked_source held old new d path (Ok differs) is source compares tells = record {
  known = λ dir holds so. (compares dir holds so).known;
  still = λ dir holds so same q file of_source.
      let e : path ≡ q = file_path path q (sym is ∙ file) in
      subst (λ p. differs_from (stamp_in dir d.kind p) d.stamp ≡ false) e (sym (compares dir holds so).is ∙ same);
  other = λ h. record { path = path; is = is; source = source; differs = sym tells.is ∙ h };
}
asked_source held old new d path (Err e) is source compares tells = tt

-- ---- what is found

-- the same beside a build in which more is known
pub passes_by : (l : Ledger) (b : Builder) (c : Check) (r : Vec TaskNo Global) (d : Dep) → b.ledger ≡ l → IsCheck l c → c.at < length c.rec.deps → c.at ≤ 1000000
    → slice_get c.rec.deps c.at ≡ Some d → DepStands (beside b c.rec.writes) (numbers c.required.items) d (numbers r.items) → IsPassed l (record c { required = r })
passes_by l b c r d same is inside few at stands =
    passes l b.named c r d is inside few at
    (subst (λ (m : Ledger). DepStands (record { tables = m.tables; rows = m.rows; known = b.named; own = c.rec.writes }) (numbers c.required.items) d
    (numbers r.items)) same stands)

pub finds_standing : (held : Option Directory) (old new : Builder) (c : Check) (r : Vec TaskNo Global) (d : Dep) (stands : Bool) → slice_get c.rec.deps c.at ≡ Some d
    → AsksSource held old.named new.named d false → Tells (DepStands (beside new c.rec.writes) (numbers c.required.items) d) stands (numbers r.items)
    → stands ≡ true → Finds held old new c (record c { required = r }) Stands
finds_standing held old new c r d stands at asked tells so = record {
  known = asked.known;
  here = record { dep = d; next = at; stands = tells.only so; still = λ dir holds knew. asked.still dir holds knew refl };
}

one_dep : (x y : Dep) → Some x ≡ Some y → x ≡ y
one_dep x y q = cc

-- the task that the next observation is of was entered
entered_next : (old new : Builder) (c : Check) (d : Dep) → new.ledger ≡ old.ledger → slice_get c.rec.deps c.at ≡ Some d → IsUnentered old.ledger d.what None
    → (dep : Dep) (t : Task) → slice_get c.rec.deps c.at ≡ Some dep → c.at ≤ 1000000 → dep.what ≡ Called t → Contains new.ledger.tables.names t
entered_next old new c d same at entered dep t next few what =
    subst (λ (l : Ledger). Contains l.tables.names t) (sym same)
    (entered t (ap (λ (x : Dep). x.what) (one_dep d dep (sym at ∙ next)) ∙ what))

pub finds_other : (held : Option Directory) (old new : Builder) (c after : Check) (r : Vec TaskNo Global) (d : Dep) (stands : Bool)
    → slice_get c.rec.deps c.at ≡ Some d → c.at < length c.rec.deps → new.ledger ≡ old.ledger → IsUnentered old.ledger d.what None
    → AsksSource held old.named new.named d false
    → Tells (DepStands (beside new c.rec.writes) (numbers c.required.items) d) stands (numbers r.items) → stands ≡ false → Finds held old new c after Differs
finds_other held old new c after r d stands at inside same entered asked tells no_more = record {
  known = asked.known;
  here = record {
    inside = inside;
    cant = λ e more next few h.
        let one : e ≡ d = one_dep e d (sym next ∙ at) in
        let told : stands ≡ true = (tells.each more (subst (λ (x : Dep). DepStands (beside new c.rec.writes) (numbers c.required.items) x more) one h)).0 in
        absurd (cc);
    entered = entered_next old new c d same at entered;
  };
}

-- a source has another stamp
pub finds_source : (held : Option Directory) (old new : Builder) (c after : Check) (d : Dep) → slice_get c.rec.deps c.at ≡ Some d → c.at < length c.rec.deps
    → new.ledger ≡ old.ledger → IsUnentered old.ledger d.what None → AsksSource held old.named new.named d true → Finds held old new c after Differs
finds_source held old new c after d at inside same entered asked = record {
  known = asked.known;
  here = record {
    inside = inside;
    cant = λ e more next few h.
        other_fails new.named (beside new c.rec.writes) (numbers c.required.items) more d refl (asked.other refl)
        (subst (λ (x : Dep). DepStands (beside new c.rec.writes) (numbers c.required.items) x more) (one_dep e d (sym next ∙ at)) h);
    entered = entered_next old new c d same at entered;
  };
}

-- a record has more observations than a task can make
pub finds_past : (held : Option Directory) (b : Builder) (c after : Check) → c.at < length c.rec.deps → 1000000 < c.at → Finds held b b c after Differs
finds_past held b c after inside past = record {
  known = λ d holds known. known;
  here = record {
    inside = inside;
    cant = λ dep more next few h. absurd (omega (arith, few, past));
    entered = λ dep t next few what. absurd (omega (arith, few, past));
  };
}
