-- Which writes of an accepted build have their files among those that it makes.
use Rattle.std.proofs.Common.{◌≡◌, ◌⊎◌, ℕ, Bool, true, false, List, [], ◌∷◌, ◌++◌, Option, None, Some, get_or, refl, sym, ap, subst, ◌∙◌, inl, inr}
use Rattle.std.specs.Prelude.{All, Contains, IsSome, option_map, slice_get, slice_index_or}
use Rattle.std.proofs.lemmas.Bool.{cases_eq}
use Rattle.std.proofs.lemmas.List.Elements.{All-contains, Contains-get_or}
use Rattle.sha2.specs.Sha256.{sha256}
use Rattle.pie_value.specs.declared.task.Task.{Task}
use Rattle.pie_value.specs.declared.verdict.Refusal.{Refusal}
use Rattle.pie_value.specs.declared.verdict.Verdict.TheVariants.{Accepted, Refused}
use Rattle.pie_value.specs.Canonical.{enc_task}
use Rattle.pie_code.specs.declared.code.Code.{Code}
use Rattle.pie_parser.specs.FunctionTrees.{FunctionTree}
use Rattle.pie_files.specs.Directory.{Directory}
use Rattle.pie_graph.specs.Numbers.{numbers, IsMarked}
use Rattle.pie_graph.specs.Rows.{Row}
use Rattle.pie_record.specs.Canonical.{IsStorable}
use Rattle.pie_record.specs.declared.task_record.TaskRecord.{TaskRecord}
use Rattle.pie_record.specs.inner.Records.{record_of as kept_of}
use Rattle.pie_store.specs.inner.Offers.{Offered}
use Rattle.pie_tables.specs.declared.tables.Tables.{Tables}
use Rattle.pie_view.specs.Content.{Staged, content}
use Rattle.pie_checks.specs.declared.built.Built.{Built}
use Rattle.pie_checks.specs.Records.{Wrote, Missed}
use Rattle.pie_checks.specs.Refusals.{FindsFirst, NoPlace, Overlaps}
use Rattle.pie_results.specs.inner.Failures.{is_done}
use Rattle.pie_results.specs.inner.Files.{IsFile, contents_in}
use Rattle.pie_results.specs.inner.Made.{Collects, EndsAs, GoesOn, Makes}
use Rattle.pie_results.specs.inner.Ordered.{IsOfLive}
use Rattle.pie_model.specs.Evaluation.{evaluation}
use Rattle.pie_model.specs.Records.{hashed, record_of as model_record, Record}
use Rattle.pie_model.specs.Seen.{first_write}
use Rattle.pie_model.specs.Trees.{trace_of, writes_of}
use Rattle.pie_model_pipeline.specs.Rows.{record_of}
use Rattle.pie_model_pipeline.specs.World.{world}
use Rattle.pie_model_pipeline.proofs.Joining.{tasks_told}
use Rattle.pie_check_laws.proofs.Members.{here_or_there, none_in}
use Rattle.pie_builder_laws.proofs.Naming.{canonical_at, one_place, placed}
use Rattle.pie_builder_laws.proofs.Tabled.{record_by_number}
use Rattle.pie_earlier_laws.proofs.Pipelines.{write_once}
use Rattle.pie_earlier_laws.proofs.Writing.{evaluation_once, once_first, AreFirst}
use Rattle.pie_core_laws.specs.Update.{Update, present}
use Rattle.pie_topdown.specs.declared.builder.Builder.{Builder}
use Rattle.pie_topdown.specs.declared.plan.Plan.{Plan}
use Rattle.pie_topdown.specs.inner.Filed.{HasFile, HasFiles, HasFilesOf, IsOfOne, MakesFiles, MakesFilesOf}
use Rattle.pie_topdown.specs.inner.Frames.{IsSite}
use Rattle.pie_topdown.specs.inner.Ran.{AddsNamed, HasRunAs, HasRunSo, SettlesAllRan}
use Rattle.pie_topdown.specs.inner.Rooted.{IsPlanOf, IsProgram, IsSettledSoFar, IsUnbegun, RootsEndRight, SettlesAllRight}
use Rattle.pie_topdown.specs.inner.Trying.{offers_to}
use Rattle.pie_topdown.proofs.Concluding.{begun_ran}
use Rattle.pie_topdown.proofs.Planning.{build_now, old_row}
use Rattle.pie_topdown.proofs.Resulting.{ends_so, unbegun_settled}
use Rattle.pie_topdown.proofs.Topmost.{one_some}

-- ---- what a record says of its writes

hash_is : (bytes : List ℕ) → world.hash bytes ≡ sha256 bytes
unfolding world
hash_is bytes = refl

-- a write was written first at its path, with these bytes
record IsFirst (all : List (List ℕ × List ℕ)) (w : List ℕ × List ℕ) : Type 0 where
  bytes : List ℕ
  first : first_write w.0 all ≡ Some bytes
  hash : sha256 bytes ≡ w.1

in_hashed : (all ws : List (List ℕ × List ℕ)) → AreFirst all ws → (w : List ℕ × List ℕ) → Contains (hashed world ws) w → IsFirst all w
in_hashed all [] first w i = absurd (none_in w i)
in_hashed all (x ∷ xs) first w i =
    by (here_or_there (x.0, world.hash x.1) w (hashed world xs) i) (λ k. in_hashed all xs first.1 w k)
  where
    by : ((x.0, world.hash x.1) ≡ w) ⊎ Contains (hashed world xs) w → (Contains (hashed world xs) w → IsFirst all w) → IsFirst all w
    by (inl e) more = record {
      bytes = x.1;
      first = ap (λ (y : List ℕ × List ℕ). first_write y.0 all) (sym e) ∙ first.0;
      hash = sym (hash_is x.1) ∙ ap (λ (y : List ℕ × List ℕ). y.1) e;
    }
    by (inr k) more = more k

module _ (u : Update) (done : List (List ℕ)) (b : Builder) (s : IsSettledSoFar u done b) where
  abbrev wrote_now : TaskRecord → List (List ℕ × List ℕ)
  wrote_now rec = writes_of (trace_of (evaluation world (present u) (enc_task rec.task)))

  first_of : (n : ℕ) (rec : TaskRecord) → kept_of b.ledger.tables.records n ≡ Some rec → (w : List ℕ × List ℕ) → Contains rec.writes w
      → IsFirst (wrote_now rec) w
  first_of n rec kept w i =
      in_hashed (wrote_now rec) (wrote_now rec)
      (once_first (wrote_now rec)
      (evaluation_once world (present u) (enc_task rec.task) ((write_once u.functions u.directory).once (enc_task rec.task)))) w
      (subst (λ (r : Record). Contains r.writes w) is i)
    where
      is : record_of rec ≡ model_record world (evaluation world (present u) (enc_task rec.task))
      is =
          s.ledger.table.right (enc_task rec.task) (record_of rec)
          (record_by_number b.ledger.tables.names b.ledger.tables.records n rec.task s.ledger.tasks (s.ledger.named n rec kept) ∙ ap (option_map record_of) kept)

-- ---- what is made of the tables

no_refusal : {r : Refusal} → Refused r ≡ Accepted → ⊥
no_refusal h = cc

-- an accepted build collects what its live tasks made, no two of which wrote one path
record HasCollected (t : Tables) (rows : List Row) (staged : Staged) (roots : List Task) (made : Built) : Type 0 where
  live : List ℕ
  alone : NoPlace (Overlaps (Wrote t.names t.records live))
  collects : Collects t rows staged roots live made

collected : (t : Tables) (rows : List Row) (staged : Staged) (roots : List Task) (made : Built) → Makes t rows staged roots made → made.verdict ≡ Accepted
    → HasCollected t rows staged roots made
collected t rows staged roots made m accepted = by m.why m.goes
  where
    checked : (live : List ℕ) (answer : Option Refusal) → FindsFirst (Wrote t.names t.records live) (Missed t.names t.records live) answer
        → EndsAs answer t rows staged roots live made → HasCollected t rows staged roots made
    checked live None found ends = record { live = live; alone = found.0; collects = ends }
    checked live (Some r) found ends = absurd (no_refusal (sym ends ∙ accepted))

    by : (why : Option Refusal) → GoesOn why t rows staged roots made → HasCollected t rows staged roots made
    by None c = checked c.live c.answer c.found c.ends
    by (Some r) g = absurd (no_refusal (sym g ∙ accepted))

module _ (u : Update) (done : List (List ℕ)) (b : Builder) (s : IsSettledSoFar u done b) (roots : List Task) (made : Built)
    (h : HasCollected b.ledger.tables b.ledger.rows b.stage roots made) (n : ℕ) (rec : TaskRecord) (is_live : Contains h.live n)
    (kept : kept_of b.ledger.tables.records n ≡ Some rec) (well : is_done rec.outcome ≡ true) (marked : IsMarked b.ledger.tables.ran.items n) where
  -- the file at the path of a write is that of this task
  is_own : (path hash bytes : List ℕ) → Contains rec.writes (path, hash) → (f : IsFile b.ledger.tables b.stage h.live path bytes) → f.number ≡ n
  is_own path hash bytes i f = by (cases_eq f.number n)
    where
      its : slice_get b.ledger.tables.names n ≡ Some rec.task
      its = s.ledger.named n rec kept

      other : slice_get b.ledger.tables.names f.number ≡ Some f.wrote.rec.task
      other = s.ledger.named f.number f.wrote.rec f.wrote.kept

      by : (f.number ≡ n) ⊎ (f.number ≡ n → ⊥) → f.number ≡ n
      by (inl e) = e
      by (inr apart) = absurd (h.alone path f.wrote.rec.task rec.task (
        (f.number, other, (f.is_live, f.wrote.rec, f.wrote.hash, f.wrote.kept, f.wrote.wrote)),
        (n, its, (is_live, rec, hash, kept, i)),
        λ e. apart (one_place b.ledger.tables.names s.ledger.tasks f.number n rec.task (other ∙ ap Some e) its),
      ))

  file_of : (w : List ℕ × List ℕ) → Contains rec.writes w → HasFile (contents_in made.files.items) w
  file_of w i =
      let f = first_of u done b s n rec kept w i in
      let there : content b.stage n w.0 ≡ Some f.bytes = s.written.ran n rec w.0 marked kept ∙ f.first in
      let m = h.collects.wrote.each n w.0 is_live
      (record { ran = marked; rec = rec; kept = kept; done = well; hash = w.1; wrote = i }) (subst (λ o. IsSome o) (sym there) refl) in
      let file = h.collects.wrote.only w.0 m.0 m.1 in
      let at : content b.stage n w.0 ≡ Some m.0 = ap (λ k. content b.stage k w.0) (sym (is_own w.0 w.1 m.0 i file)) ∙ file.staged_is in
      (m.0, m.1, ap sha256 (one_some m.0 f.bytes (sym at ∙ there)) ∙ f.hash)

  files_of : HasFiles (contents_in made.files.items) rec
  files_of = λ k d within. file_of (get_or rec.writes k d) (Contains-get_or rec.writes k d within)

-- what is made of settled roots has the files of what was marked
pub made_filed : (b : Builder) (roots : List Task) (made : Built) → Makes b.ledger.tables b.ledger.rows b.stage roots made → MakesFiles b made
made_filed b roots made makes u done s accepted row i =
    let h = collected b.ledger.tables b.ledger.rows b.stage roots made makes accepted in
    let l = All-contains (IsOfLive b.ledger.tables.records h.live) made.rows.items row h.collects.kept.only i in
    record { number = l.number; kept = l.found; made = λ marked. files_of u done b s roots made h l.number row l.is_live l.found l.done marked }

-- ---- what was started or reused

-- what is behind a list is one
one_behind : (xs ys zs : List Task) → xs ++ ys ≡ xs ++ zs → ys ≡ zs
one_behind [] ys zs e = e
one_behind (x ∷ xs) ys zs e = one_behind xs ys zs (let f : xs ++ ys ≡ xs ++ zs = cc in f)

module _ (u : Update) (done : List (List ℕ)) (b : Builder) (s : IsSettledSoFar u done b) (made : Built) (accepted : made.verdict ≡ Accepted)
    (makes : MakesFiles b made) where
  -- a task has one number
  is_marked : (row : TaskRecord) (n : ℕ) → kept_of b.ledger.tables.records n ≡ Some row → (t : Task) → HasRunAs b t → enc_task t ≡ enc_task row.task
      → IsMarked b.ledger.tables.ran.items n
  is_marked row n kept t r bytes =
      let names = b.ledger.tables.names in
      let named : slice_get names n ≡ Some row.task = s.ledger.named n row kept in
      let its : t ≡ row.task =
      tasks_told t row.task (canonical_at names s.ledger.tasks r.number t r.named) (canonical_at names s.ledger.tasks n row.task named) bytes in
      subst (IsMarked b.ledger.tables.ran.items) (one_place names s.ledger.tasks r.number n t r.named (named ∙ ap Some (sym its))) r.marked

  of_one : (ts : List Task) → All (HasRunAs b) ts → (row : TaskRecord) → Contains made.rows.items row → IsOfOne ts row
      → HasFiles (contents_in made.files.items) row
  of_one ts all row i one =
      let h = makes u done s accepted row i in
      h.made (is_marked row h.number h.kept one.0 (All-contains (HasRunAs b) ts one.0 all one.1) one.2)

  -- a record that isn't one of the store is of a marked task
  other_of : (rows : List TaskRecord) → ((n : ℕ) (rec : TaskRecord) → kept_of b.plan.earlier.records n ≡ Some rec → Contains rows rec)
      → (row : TaskRecord) → Contains made.rows.items row → (Contains rows row → ⊥) → HasFiles (contents_in made.files.items) row
  other_of rows olds row i other =
      let h = makes u done s accepted row i in
      h.made (by h.number h.kept (slice_index_or b.ledger.tables.ran.items h.number false) refl)
    where
      by : (n : ℕ) → kept_of b.ledger.tables.records n ≡ Some row → (f : Bool) → slice_index_or b.ledger.tables.ran.items n false ≡ f
          → slice_index_or b.ledger.tables.ran.items n false ≡ true
      by n kept true e = e
      by n kept false e = let own = s.written.own n row e kept in absurd (other (olds own.number row own.kept))

  settled_filed : (rows : List TaskRecord) → ((n : ℕ) (rec : TaskRecord) → kept_of b.plan.earlier.records n ≡ Some rec → Contains rows rec)
      → (offers : Task → List Offered) (before after old new : List Task) → HasRunSo u offers b before after → AddsNamed b (numbers b.reused.items) old new
      → HasFilesOf rows before after old new made
  settled_filed rows olds offers before after old new h adds = record {
    others = λ row i other. other_of rows olds row i other;
    ran = λ gained is row i one.
        of_one gained (subst (All (HasRunAs b)) (one_behind before h.gained gained (sym h.is ∙ is)) h.marked) row i one;
    reused = λ gained is row i one.
        of_one gained (subst (All (HasRunAs b)) (one_behind old h.reused gained (sym (adds h.reused h.reused_are) ∙ is)) h.reused_marked) row i one;
  }

-- ---- the whole build

module _ (held : Option Directory) (fs : List FunctionTree) (codes : List Code) (funcs digests : List (List ℕ × List ℕ)) (rows : List TaskRecord)
    (told : Directory → Task → List ℕ → List Offered) (roots : List Task) (a b : Builder) (made : Built) (before after old new : List Task) where
  -- all roots have outputs
  pub build_filed : IsProgram fs codes rows → All IsStorable rows → IsSite a → IsPlanOf fs codes funcs digests rows a.plan → IsUnbegun a
      → (why : Option Refusal) → why ≡ None → b.plan ≡ a.plan → SettlesAllRight held told a roots b why → SettlesAllRan held told a roots b before after why
      → AddsNamed b (numbers b.reused.items) old new → MakesFiles b made → MakesFilesOf held fs funcs digests rows told roots before after old new made
  build_filed program storable site plan unbegun why none same settles ran adds makes = record {
    each = λ u here stored honest accepted.
        let s : IsSettledSoFar u u.roots b =
        subst (RootsEndRight u b) none
        (ends_so held fs codes funcs digests rows told roots a b made program storable site plan unbegun u why settles here stored honest) in
        settled_filed u u.roots b s made accepted makes rows
        (λ n rec kept. placed rows n rec
        (old_row fs codes funcs digests rows a.plan plan n rec (subst (λ (p : Plan). kept_of p.earlier.records n ≡ Some rec) same kept)).0) (offers_to a.plan told u.directory) before
        after old new
        (ran none u (build_now fs codes funcs digests rows a.plan plan u held roots program storable here stored told honest) here.roots_are
        (unbegun_settled a site unbegun u) before (begun_ran u (offers_to a.plan told u.directory) a site unbegun before)) adds;
  }

  -- or one of them fails
  pub refused_filed : (r : Refusal) → made.verdict ≡ Refused r → MakesFilesOf held fs funcs digests rows told roots before after old new made
  refused_filed r is = record { each = λ u here stored honest accepted. absurd (no_refusal (sym is ∙ accepted)) }
