-- Old records are held against what is there now, one after another.
use Rattle.std.proofs.Common.{◌≡◌, ℕ, ◌<◌, ◌+◌, Bool, true, false, Option, None, Some, length, refl, sym, ap, ◌∙◌, subst, arith, inl, inr}
use Rattle.std.specs.Prelude.{slice_index_or}
use Rattle.std.proofs.lemmas.Bool.{cases_lt}
use Rattle.pie_files.specs.Directory.{Directory}
use Rattle.pie_record.specs.declared.task_record.TaskRecord.{TaskRecord}
use Rattle.pie_record.specs.inner.Records.{record_of}
use Rattle.pie_named.specs.declared.named.Named.{Named}
use Rattle.pie_named.specs.inner.Names.{SameNames}
use Rattle.pie_named.specs.inner.Known.{StaysKnown}
use Rattle.pie_tables.specs.declared.tables.Tables.{Tables}
use Rattle.pie_compare.specs.inner.Touching.{IsTouched, IsKnownTouched, FindsBy, Shows}
use Rattle.pie_compare.proofs.Shown.{touched_same, known_still, stays_on}
use Rattle.pie_compare.proofs.Touches.{names_stay}
use Rattle.pie_walk.specs.States.{WalkState, with_scheduled}
use Rattle.pie_walk.proofs.FlagSteps.{flag_kept, flag_here}
use Rattle.pie_frames.specs.declared.frames.Frames.{Frames}
use Rattle.pie_graph.specs.Numbers.{IsMarked}
use Rattle.pie_bottomup.specs.declared.plan.Plan.{Plan}
use Rattle.pie_bottomup.specs.declared.state.Core.{Core}
use Rattle.pie_bottomup.specs.declared.state.First.TheVariants.{Tests, Done}
use Rattle.pie_bottomup.specs.inner.States.{IsCore, IsUntested, IsDue}
use Rattle.pie_bottomup.specs.inner.Tested.{WasHeld, TaskWasHeld, IsHeld, AreHeld, IsAsBefore, AreAsBefore, HoldsBy, Learns, OnlySchedules}

-- ---- one record

abbrev the : TaskRecord → Option TaskRecord → TaskRecord
the d None = d
the d (Some x) = x

-- it was asked for
pub held_asked : (held : Option Directory) (c : Core) (m : Named) (n : ℕ) (rec : TaskRecord) (touched : Bool) → record_of c.tables.records n ≡ Some rec
    → SameNames c.named m → FindsBy held c.named m (λ d x. IsTouched d x rec) touched → Shows c.named m (IsKnownTouched m rec) touched
    → HoldsBy held c (record c { named = m }) (λ d. TaskWasHeld d (record c { named = m }) n touched)
held_asked held c m n rec touched kept names found shows = λ d is known.
    let told = found d is known in (
      told.known,
      λ other at same.
          subst (λ r. WasHeld d m r touched) (ap (the rec) (sym kept ∙ at)) (record {
            untouched = λ off is_touched. apart (sym (told.is.1 (touched_same d c.named m rec names is_touched)) ∙ off);
            searched = λ is_touched. shows.known (told.is.1 (touched_same d c.named m rec names is_touched));
          }),
    )
  where
    apart : true ≡ false → ⊥
    apart e = cc

-- a task whose function hasn't kept its digest, and one without a record
pub held_changed : (held : Option Directory) (c : Core) (n : ℕ) (due : Bool) → slice_index_or c.plan.same.items n false ≡ false
    → HoldsBy held c c (λ d. TaskWasHeld d c n due)
held_changed held c n due off = λ d is known. (known, λ rec at same. absurd (apart (sym same ∙ off)))
  where
    apart : true ≡ false → ⊥
    apart e = cc

pub held_none : (held : Option Directory) (c : Core) (n : ℕ) (due : Bool) → record_of c.tables.records n ≡ None
    → HoldsBy held c c (λ d. TaskWasHeld d c n due)
held_none held c n due none = λ d is known. (known, λ rec at same. absurd (apart rec (sym none ∙ at)))
  where
    apart : (rec : TaskRecord) → None ≡ Some rec → ⊥
    apart rec e = cc

-- it stays held where more is known, and where no fewer are due
pub held_on : (d : Directory) (old new : Core) (n : ℕ) (was due : Bool) → Learns old new → (due ≡ false → was ≡ false) → TaskWasHeld d old n was
    → TaskWasHeld d new n due
held_on d old new n was due learns fewer held rec at same =
    let before = held rec (ap (λ (t : Tables). record_of t.records n) (sym learns.tables) ∙ at)
    (ap (λ (p : Plan). slice_index_or p.same.items n false) (sym learns.plan) ∙ same) in
    record {
      untouched = λ off touched. before.untouched (fewer off) (touched_same d old.named new.named rec learns.names touched);
      searched = λ touched. known_still old.named new.named rec learns.stays (before.searched (touched_same d old.named new.named rec learns.names touched));
    }

pub learns_on : (a b c : Core) → Learns a b → Learns b c → Learns a c
learns_on a b c one two = record {
  plan = two.plan ∙ one.plan;
  tables = two.tables ∙ one.tables;
  earlier = two.earlier ∙ one.earlier;
  scheduled = λ n flag. two.scheduled n (one.scheduled n flag);
  names = names_stay a.named b.named c.named one.names two.names;
  stays = stays_on a.named b.named c.named one.stays two.stays;
}

unflagged : (old new : Core) (n : ℕ) → Learns old new → slice_index_or new.frames.walk.scheduled n false ≡ false
    → slice_index_or old.frames.walk.scheduled n false ≡ false
unflagged old new n learns off = by (slice_index_or old.frames.walk.scheduled n false) refl
  where
    apart : true ≡ false → ⊥
    apart e = cc

    by : (b : Bool) → slice_index_or old.frames.walk.scheduled n false ≡ b → b ≡ false
    by true on = absurd (apart (sym (learns.scheduled n on) ∙ off))
    by false e = refl

-- ---- all

-- one more was held
pub held_more : (held now : Option Directory) (first old new : Core) (count : ℕ) → now ≡ held → Learns old new
    → HoldsBy held first old (λ d. AreHeld d old count) → HoldsBy now old new (λ d. IsHeld d new count)
    → HoldsBy held first new (λ d. AreHeld d new (count + 1))
held_more held now first old new count same learns before one = λ d is known.
    let was = before d is known in
    let last = one d (same ∙ is) was.0 in (
      last.0,
      λ n l. elim (cases_lt n count) [
        | inl less ↦ held_on d old new n (slice_index_or old.frames.walk.scheduled n false) (slice_index_or new.frames.walk.scheduled n false) learns
            (unflagged old new n learns) (was.1 n less)
        | inr past ↦ let at : n ≡ count = omega (arith, l, past) in subst (IsHeld d new) (sym at) last.1
      ],
    )

-- a task that isn't scheduled isn't due, and was held
pub as_before : (d : Directory) (c : Core) (count : ℕ) → ((n : ℕ) → n < count → IsDue c n) → AreHeld d c count → AreAsBefore d c count
as_before d c count due held n rec l at off = by (slice_index_or c.plan.same.items n false) refl
  where
    apart : true ≡ false → ⊥
    apart e = cc

    by : (b : Bool) → slice_index_or c.plan.same.items n false ≡ b → IsAsBefore d c n rec
    by true on = record { same = on; untouched = (held n l rec at on).untouched off }
    by false e = absurd (apart (sym (due n l e) ∙ off))

-- ---- a task after it was asked

-- the walk alone has more scheduled tasks
pub only_on : (a b c : Core) → OnlySchedules a b → OnlySchedules b c → OnlySchedules a c
only_on a b c one two = record {
  walk = two.walk ∙ ap (λ (w : WalkState). record w { scheduled = c.frames.walk.scheduled }) one.walk;
  stage = two.stage ∙ one.stage;
}

pub learns_named : (c : Core) (m : Named) → SameNames c.named m → StaysKnown c.named m → Learns c (record c { named = m })
learns_named c m names stays = record { plan = refl; tables = refl; earlier = refl; scheduled = λ n flag. flag; names = names; stays = stays }

pub learns_none : (c : Core) → Learns c c
learns_none c = learns_named c c.named (record { named = λ q. refl; above = λ q. refl }) (λ kind p stamp found. found)

-- it isn't due
pub held_idle : (held : Option Directory) (c mid : Core) (n : ℕ) (due : Bool) → due ≡ false → HoldsBy held c mid (λ d. TaskWasHeld d mid n due)
    → HoldsBy held c mid (λ d. IsHeld d mid n)
held_idle held c mid n due off before = λ d is known.
    let was = before d is known in
    (was.0, held_on d mid mid n due (slice_index_or mid.frames.walk.scheduled n false) (learns_none mid) (λ _. off) was.1)

inside : (old mid : Core) (n : ℕ) → IsUntested old → mid ≡ record old { named = mid.named } → n < length old.frames.walk.rows
    → n < length mid.frames.walk.scheduled
inside old mid n is e l =
    subst (λ (c : Core). n < length c.frames.walk.scheduled) (sym e) (omega (arith, l, is.rests.stands.holds.scheduled_sized))

-- it is due, and is scheduled
learns_flag : (c : Core) (f : Frames) (n : ℕ) → n < length c.frames.walk.scheduled → f.walk ≡ with_scheduled c.frames.walk n
    → Learns c (record c { frames = f })
learns_flag c f n l e = record {
  plan = refl;
  tables = refl;
  earlier = refl;
  scheduled = λ k flag. subst (λ (s : WalkState). IsMarked s.scheduled k) (sym e) (flag_kept c.frames.walk.scheduled n k l flag);
  names = record { named = λ q. refl; above = λ q. refl };
  stays = λ kind p stamp found. found;
}

pub learns_scheduled : (old mid : Core) (f : Frames) (n : ℕ) → IsUntested old → Learns old mid → mid ≡ record old { named = mid.named }
    → n < length old.frames.walk.rows → f.walk ≡ with_scheduled mid.frames.walk n → Learns old (record mid { frames = f })
learns_scheduled old mid f n is learns e l walk =
    learns_on old mid (record mid { frames = f }) learns (learns_flag mid f n (inside old mid n is e l) walk)

pub held_scheduled : (held : Option Directory) (old mid : Core) (f : Frames) (n : ℕ) (due : Bool) → IsUntested old → mid ≡ record old { named = mid.named }
    → n < length old.frames.walk.rows → f.walk ≡ with_scheduled mid.frames.walk n → HoldsBy held old mid (λ d. TaskWasHeld d mid n due)
    → HoldsBy held old (record mid { frames = f }) (λ d. IsHeld d (record mid { frames = f }) n)
held_scheduled held old mid f n due is e l walk before = λ d tells known.
    let was = before d tells known in
    let within = inside old mid n is e l in
    let on : slice_index_or f.walk.scheduled n false ≡ true =
    subst (λ (s : WalkState). IsMarked s.scheduled n) (sym walk) (flag_here mid.frames.walk.scheduled n within) in (
      was.0,
      held_on d mid (record mid { frames = f }) n due (slice_index_or f.walk.scheduled n false) (learns_flag mid f n within walk)
          (λ off. absurd (apart (sym on ∙ off))) was.1,
    )
  where
    apart : true ≡ false → ⊥
    apart e = cc

-- before the first step no task is in hand
pub tests_free : (c : Core) → IsCore c → c.first ≡ Tests → c.hand ≡ None
tests_free c (inl untested) first = untested.start.hand
tests_free c (inr going) first = absurd (apart (sym first ∙ going.site.tested))
  where
    apart : Tests ≡ Done → ⊥
    apart e = cc
