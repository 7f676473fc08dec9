-- What settled tasks show is what they provide, and a file that is there is what its task wrote.
use Rattle.std.proofs.Common.{◌≡◌, ℕ, Bool, true, false, cond, Some, None, List, [], ◌∷◌, map, refl, sym, ap, subst, ◌∙◌, bytes_eq}
use Rattle.std.specs.Prelude.{slice_get, option_map, Contains}
use Rattle.pie_value.specs.declared.task.Task.{Task}
use Rattle.pie_value.specs.Canonical.{enc_task}
use Rattle.pie_record.specs.declared.records.Records.{Records}
use Rattle.pie_record.specs.declared.task_record.TaskRecord.{TaskRecord}
use Rattle.pie_record.specs.inner.Records.{record_of as kept_of}
use Rattle.pie_view.specs.declared.seen.Seen.{Seen as RowsSeen}
use Rattle.pie_view.specs.declared.seen.Seen.TheVariants.{Absent, By, Clash}
use Rattle.pie_view.specs.Seen.{Visible, IsOnly}
use Rattle.pie_walk.specs.Marks.{IsSettled}
use Rattle.pie_walk.specs.States.{WalkState}
use Rattle.pie_walk.specs.Standing.{Stands}
use Rattle.pie_model.specs.Paths.{Path, among}
use Rattle.pie_model.specs.Trees.{Trace, ends, looks, lists, writes, needs, outcome_of, trace_of, writes_of, is_done as ends_well}
use Rattle.pie_model.specs.Seen.{first_write, provided, seen_file}
use Rattle.pie_model.specs.Evaluation.{evaluation}
use Rattle.pie_model.specs.Records.{Record, record_of as model_record}
use Rattle.pie_model.specs.Built.{bytes_at}
use Rattle.pie_model.specs.Changes.IsMet.{named}
use Rattle.pie_model.specs.Separate.{AllMet}
use Rattle.pie_model.specs.inner.Present.{Way, Reaches, WroteByRecords}
use Rattle.pie_model.specs.inner.RecordLaws.{HasItsRecord}
use Rattle.pie_model.proofs.Basics.{same_bytes}
use Rattle.pie_model.proofs.Ways.{record_right}
use Rattle.pie_model.proofs.LooksLemmas.{first_write-hashed}
use Rattle.pie_step_laws.specs.Contents.{WroteContents, IsShown}
use Rattle.pie_settle_laws.specs.Known.{IsKnown, AreDone, AreCounted}
use Rattle.pie_settle_laws.proofs.Showing.{known_provide, has_contents}
use Rattle.pie_model_pipeline.specs.Rows.{record_of}
use Rattle.pie_model_pipeline.specs.World.{world}
use Rattle.pie_builder_laws.specs.Tables.{recorded}
use Rattle.pie_builder_laws.specs.Views.{AreNumbersOf, Staged, unmarked, found}
use Rattle.pie_builder_laws.proofs.Naming.{among_from, placed, one_place}
use Rattle.pie_builder_laws.proofs.Tabled.{record_by_number}
use Rattle.pie_earlier_laws.specs.Left.{IsThere, AreThere}
use Rattle.pie_earlier_laws.specs.Telling.{told_by}
use Rattle.pie_compare_laws.specs.Settled.{AreSettled}
use Rattle.pie_compare_laws.proofs.Ways.{one_some, number_of, wrote_by, seen_of}
use Rattle.pie_core_laws.specs.Update.{Update, MetIn, present}
use Rattle.pie_core_laws.specs.Exact.{rank_by, is_done, IsExact}
use Rattle.pie_core_laws.specs.Keeping.{Separates}
use Rattle.pie_core_laws.specs.Seeing.{HasOutput, written_now, IsStagedFor}
use Rattle.pie_core_laws.proofs.Kept.{settled_done, settled_rests, settled_known}
use Rattle.pie_core_laws.proofs.Exactly as exactly

module _ (u : Update) (names : List Task) (records : Records) (s : WalkState) (e : IsExact u names records s) (w : Stands s) (apart : Separates u) where
  -- ---- records of settled tasks are right

  -- the record of a settled task is that of its evaluation
  pub record_now : (n : ℕ) (rec : TaskRecord) → IsSettled s.marks n → kept_of records n ≡ Some rec
      → record_of rec ≡ model_record world (evaluation world (present u) (enc_task rec.task))
  record_now n rec h k =
      let known = (settled_known u names records s n rec.task e w apart (e.named n rec k) h).known in
      record_right world (present u) (recorded names records) (enc_task rec.task) (record_of rec) (known.right (enc_task rec.task) Way.here)
      (record_by_number names records n rec.task e.tasks (e.named n rec k) ∙ ap (option_map record_of) k)

  pub counted : AreCounted world (recorded names records) (map enc_task names)
  counted =
      let c = e.consistent (told_by (recorded names records) (rank_by names s.places)) (exactly.tells u names records s e w.holds.agrees) in
      record { few = c.few; each = c.counted }

  -- tasks with these numbers are known, and ended with values
  pub are_done : (required : List ℕ) (us : List Task) → AreNumbersOf names required us → ((k : ℕ) → Contains required k → HasOutput records s k)
      → AreDone world (present u) (recorded names records) (map enc_task us)
  are_done required us a all = record { known = each_known; done = each_done }
    where
      each_known : (x : List ℕ) → among x (map enc_task us) ≡ true → IsKnown world (present u) (recorded names records) x
      each_known x i =
          let m = among_from us x i in
          let k = number_of names required us m.task a (placed us m.number m.task m.named) in
          subst (IsKnown world (present u) (recorded names records)) (sym m.bytes)
          (settled_known u names records s k.number m.task e w apart k.named (all k.number k.listed).settled).known

      each_done : (x : List ℕ) → among x (map enc_task us) ≡ true → ends_well (outcome_of (evaluation world (present u) x)) ≡ true
      each_done x i =
          let m = among_from us x i in
          let k = number_of names required us m.task a (placed us m.number m.task m.named) in
          let h = all k.number k.listed in
          let same : h.rec.task ≡ m.task = one_some h.rec.task m.task (sym (e.named k.number h.rec h.kept) ∙ k.named) in
          ap (λ z. ends_well (outcome_of (evaluation world (present u) z))) (m.bytes ∙ ap enc_task (sym same))
          ∙ sym (ap (λ (z : Record). ends_well z.outcome) (record_now k.number h.rec h.settled h.kept)) ∙ h.gave

  -- ---- what is shown

  module _ (required : List ℕ) (us : List Task) (a : AreNumbersOf names required us) (all : (k : ℕ) → Contains required k → HasOutput records s k)
      (p : Path) where
    settled_all : (k : ℕ) → Contains required k → is_done s k ≡ true
    settled_all k i = settled_done s k (all k i).settled

    abbrev contents : List ℕ → List (Path × List ℕ)
    contents x = writes_of (trace_of (evaluation world (present u) x))

    right_from : (from x : List ℕ) → among from (map enc_task us) ≡ true → Reaches (recorded names records) from x
        → HasItsRecord world (present u) (recorded names records) x
    right_from from x i q = ((are_done required us a all).known from i).right x q

    -- by the records and by the contents the same tasks wrote
    record Wrote (x h : List ℕ) : Type 0 where
      bytes : List ℕ
      first : first_write p (writes_of (trace_of (evaluation world (present u) x))) ≡ Some bytes
      wrote : WroteContents (recorded names records) contents (map enc_task us) p x bytes

    forth : (x h : List ℕ) → WroteByRecords (recorded names records) (map enc_task us) p x h → Wrote x h
    forth x h i =
        let c = has_contents world (present u) (recorded names records) x i.found p (right_from i.from x i.listed i.reaches) i.recorded h i.wrote in
        record {
          bytes = c.contents;
          first = c.wrote;
          wrote = record { from = i.from; listed = i.listed; reaches = i.reaches; wrote = c.wrote };
        }

    back : (x b : List ℕ) → WroteContents (recorded names records) contents (map enc_task us) p x b
        → WroteByRecords (recorded names records) (map enc_task us) p x (world.hash b)
    back x b i =
        let r = right_from i.from x i.listed i.reaches in
        record {
          from = i.from;
          listed = i.listed;
          reaches = i.reaches;
          found = model_record world (evaluation world (present u) x);
          recorded = r.is;
          wrote = first_write-hashed world p (writes_of (trace_of (evaluation world (present u) x))) ∙ ap (option_map world.hash) i.wrote;
        }

    rests : AreSettled names records s.rows (is_done s)
    rests = settled_rests u names records s e w

    is_shown : (staged : Staged) (seen : RowsSeen) → IsOnly (Visible s.rows required p) seen → IsStagedFor u names staged p seen
        → IsShown (WroteContents (recorded names records) contents (map enc_task us) p) (found staged p seen)
    is_shown staged Absent none f = λ x b h.
        let v = seen_of names records s.rows (is_done s) e.tasks rests required us a settled_all p x (world.hash b) (back x b h) in
        none v.number v.visible
    is_shown staged (By one) only f =
        let v = wrote_by names records s.rows (is_done s) e.tasks rests required us a settled_all p one.0 only.0 in
        let c = forth (enc_task v.task) v.hash v.wrote in
        subst (λ o. IsShown (WroteContents (recorded names records) contents (map enc_task us) p) (seen_file (unmarked o)))
        (sym (f v.task v.named ∙ c.first)) (
          record {
            writer = enc_task v.task;
            wrote = c.wrote;
            only = λ y k h.
                let z = seen_of names records s.rows (is_done s) e.tasks rests required us a settled_all p y (world.hash k) (back y k h) in
                let i = only.1 z.number z.visible in
                let same : z.task ≡ v.task = one_some z.task v.task (sym z.named ∙ ap (slice_get names) i ∙ v.named) in
                let at : y ≡ enc_task v.task = z.bytes ∙ ap enc_task same in
                (at, one_some k c.bytes (sym h.wrote ∙ ap (λ x. first_write p (writes_of (trace_of (evaluation world (present u) x)))) at ∙ c.first));
          },
          refl,
        )
    is_shown staged Clash two f =
        let x = wrote_by names records s.rows (is_done s) e.tasks rests required us a settled_all p two.0 two.2 in
        let y = wrote_by names records s.rows (is_done s) e.tasks rests required us a settled_all p two.1 two.3 in
        let b = forth (enc_task x.task) x.hash x.wrote in
        let c = forth (enc_task y.task) y.hash y.wrote in
        record {
          first = enc_task x.task;
          second = enc_task y.task;
          first_hash = b.bytes;
          second_hash = c.bytes;
          first_wrote = b.wrote;
          second_wrote = c.wrote;
          distinct = λ h.
              let same : x.task ≡ y.task = exactly.one_task names e.tasks two.0 two.1 x.task y.task x.named y.named h in
              two.4 (one_place names e.tasks two.0 two.1 x.task x.named (y.named ∙ ap Some (sym same)));
        }

    pub provides : (staged : Staged) (seen : RowsSeen) → IsOnly (Visible s.rows required p) seen → IsStagedFor u names staged p seen
        → provided (map (evaluation world (present u)) (map enc_task us)) p ≡ found staged p seen
    provides staged seen only f =
        known_provide world (present u) (recorded names records) (map enc_task us) (are_done required us a all) (map enc_task names) contents p
        (found staged p seen) counted (λ x q. refl) (is_shown staged seen only f)

  -- ---- files

  -- what a trace writes is met
  met_write : (k : Trace) (p : Path) (b : List ℕ) → AllMet world (MetIn u) k → first_write p (writes_of k) ≡ Some b → MetIn u b
  met_write (ends x) p b h i = absurd (none_here i)
    where
      none_here : None ≡ Some b → ⊥
      none_here j = cc
  met_write (looks l q x k) p b h i = met_write k p b h.1 i
  met_write (lists d x k) p b h i = met_write k p b h.1 i
  met_write (writes q c k) p b h i = by (bytes_eq p q) i (met_write k p b h.1)
    where
      by : (t : Bool) → cond t (Some c) (first_write p (writes_of k)) ≡ Some b → (first_write p (writes_of k) ≡ Some b → MetIn u b) → MetIn u b
      by true j f = subst (MetIn u) (one_some c b j) h.0
      by false j f = f j
  met_write (needs r x n k) p b h i = met_write k p b h.1 i

  -- a write among those that are there
  there_at : (ws : List (Path × List ℕ)) (p : Path) (h : List ℕ) → AreThere world u.directory ws → first_write p ws ≡ Some h
      → IsThere world u.directory (p, h)
  there_at [] p h a i = absurd (none_here i)
    where
      none_here : None ≡ Some h → ⊥
      none_here j = cc
  there_at (x ∷ ws) p h a i = by (bytes_eq p x.0) refl i (there_at ws p h a.1)
    where
      by : (t : Bool) → bytes_eq p x.0 ≡ t → cond t (Some x.1) (first_write p ws) ≡ Some h
          → (first_write p ws ≡ Some h → IsThere world u.directory (p, h)) → IsThere world u.directory (p, h)
      by true q j f =
          (a.0.0, ap (bytes_at u.directory) (same_bytes p x.0 q) ∙ a.0.1, a.0.2 ∙ one_some x.1 h j)
      by false q j f = f j

  pub files_written : (n : ℕ) (rec : TaskRecord) (path bytes hash : List ℕ) → IsSettled s.marks n → kept_of records n ≡ Some rec
      → AreThere world u.directory rec.writes → first_write path rec.writes ≡ Some hash → bytes_at u.directory path ≡ Some bytes
      → among bytes u.besides ≡ true → written_now u rec.task path ≡ Some bytes
  files_written n rec path bytes hash h k there i at met =
      let known = (settled_known u names records s n rec.task e w apart (e.named n rec k) h).known in
      let now : recorded names records (enc_task rec.task) ≡ Some (record_of rec) =
      record_by_number names records n rec.task e.tasks (e.named n rec k) ∙ ap (option_map record_of) k in
      let c = has_contents world (present u) (recorded names records) (enc_task rec.task) (record_of rec) path (known.right (enc_task rec.task) Way.here)
      now hash i in
      let f = there_at rec.writes path hash there i in
      let same : bytes ≡ f.0 = one_some bytes f.0 (sym at ∙ f.1) in
      let consistent = e.consistent (told_by (recorded names records) (rank_by names s.places)) (exactly.tells u names records s e w.holds.agrees) in
      let met_contents = met_write (trace_of (evaluation world (present u) (enc_task rec.task))) path c.contents
      (consistent.met (enc_task rec.task) (record_of rec) now) c.wrote in
      c.wrote ∙ ap Some (apart.hashes c.contents bytes met_contents (named met) (c.hash ∙ sym f.2 ∙ ap world.hash (sym same)))
