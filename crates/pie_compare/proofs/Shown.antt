-- What is known afterwards of something that isn't as it was recorded.
use Rattle.std.proofs.Common.{◌≡◌, inl, inr, ℕ, ◌<◌, Bool, true, false, ◌&&◌, List, Option, None, Some, length, get_or, refl, sym, ap, subst, ◌∙◌}
use Rattle.pie_base.specs.Path.{is_source}
use Rattle.pie_files.specs.Directory.{Directory}
use Rattle.pie_value.specs.declared.stamp.Stamp.{Stamp}
use Rattle.pie_value.specs.declared.stamp.Stamp.TheVariants as stamps
use Rattle.pie_record.specs.declared.dep.Dep.{Dep}
use Rattle.pie_record.specs.declared.dep.DepKind.{DepKind}
use Rattle.pie_record.specs.declared.dep.DepKind.TheVariants as kinds
use Rattle.pie_record.specs.declared.dep.DepOn.{DepOn}
use Rattle.pie_record.specs.declared.dep.DepOn.TheVariants.{File, Called}
use Rattle.pie_record.specs.declared.task_record.TaskRecord.{TaskRecord}
use Rattle.pie_named.specs.declared.named.Named.{Named}
use Rattle.pie_named.specs.declared.stamps.FileStamp.{FileStamp}
use Rattle.pie_named.specs.inner.Names.{SameNames}
use Rattle.pie_named.specs.inner.Known.{StaysKnown, known_stamp, known_differs}
use Rattle.pie_compare.specs.inner.Touching.{SomeOf, on_known, IsTouched, SomeSightKnown, SomeWriteKnown, IsKnownTouched, Shows}
use Rattle.pie_compare.proofs.Touches.{dep_same, write_same}

-- where one is asked, and the answer is what is known
pub shown : (old new : Named) (asks known answer : Bool) → StaysKnown old new → asks ≡ true → answer ≡ known → Shows old new (asks && known ≡ true) answer
shown old new asks known answer stays on is = record { stays = stays; known = λ yes. ap (λ b. b && known) on ∙ sym is ∙ yes }

pub stays_on : (first old new : Named) → StaysKnown first old → StaysKnown old new → StaysKnown first new
stays_on first old new before then kind p stamp found = then kind p stamp (before kind p stamp found)

module _ {A : Type 0} (is : Named → A → Bool) (first old new : Named) (xs : List A) (i : ℕ) (x : A) where
  -- one of some things is so, as is known then
  pub shows_one : (answer : Bool) → i < length xs → x ≡ get_or xs i x → answer ≡ true → StaysKnown first old → Shows old new (is new x ≡ true) answer
      → Shows first new (SomeOf (λ y. is new y ≡ true) xs) true
  shows_one answer inside at on before shows =
      record { stays = stays_on first old new before shows.stays; known = λ _. (x, (i, inside, sym at), shows.known on) }

pub shows_none : (old new : Named) (P : Type 0) → StaysKnown old new → Shows old new P false
shows_none old new P stays = record { stays = stays; known = λ yes. absurd (cc) }

pub shows_sight : (old new : Named) (rec : TaskRecord) (deps : List Dep) (found : Bool) → deps ≡ rec.deps → found ≡ true
    → Shows old new (SomeSightKnown new deps) found → Shows old new (IsKnownTouched new rec) true
shows_sight old new rec deps found is on shows = record { stays = shows.stays; known = λ _. inl (subst (SomeSightKnown new) is (shows.known on)) }

pub shows_write : (old mid new : Named) (rec : TaskRecord) (writes : List (List ℕ × List ℕ)) (answer : Bool) → writes ≡ rec.writes → StaysKnown old mid
    → Shows mid new (SomeWriteKnown new writes) answer → Shows old new (IsKnownTouched new rec) answer
shows_write old mid new rec writes answer is before shows = record {
  stays = stays_on old mid new before shows.stays;
  known = λ yes. inr (subst (SomeWriteKnown new) is (shows.known yes));
}

-- ---- with the same names, where more is known

-- what is touched by some names is so by the same ones
pub touched_same : (d : Directory) (m n : Named) (rec : TaskRecord) → SameNames m n → IsTouched d n rec → IsTouched d m rec
touched_same d m n rec same touched = elim touched [
  | inl some ↦ inl (some.0, some.1, sym (dep_same d m n some.0 same) ∙ some.2)
  | inr some ↦ inr (some.0, some.1, sym (write_same d m n some.0 same) ∙ some.2)
]

-- what is known to differ stays so
differs_still : (m n : Named) (kind : DepKind) (path : List ℕ) (stamp : Stamp) → StaysKnown m n → known_differs (known_stamp m kind path) stamp ≡ true
    → known_differs (known_stamp n kind path) stamp ≡ true
differs_still m n kind path stamp stays is = by (known_stamp m kind path) refl is
  where
    by : (o : Option (Option FileStamp)) → known_stamp m kind path ≡ o → known_differs o stamp ≡ true → known_differs (known_stamp n kind path) stamp ≡ true
    by None e is = absurd (cc)
    by (Some now) e is = ap (λ o. known_differs o stamp) (stays kind path now e) ∙ is

on_still : (m n : Named) (kind : DepKind) (what : DepOn) (stamp : Stamp) → StaysKnown m n → on_known m kind what stamp ≡ true
    → on_known n kind what stamp ≡ true
on_still m n kind (File path) stamp stays is = by (is_source path) is
  where
    by : (b : Bool) → b && known_differs (known_stamp m kind path) stamp ≡ true → b && known_differs (known_stamp n kind path) stamp ≡ true
    by true is = differs_still m n kind path stamp stays is
    by false is = is
on_still m n kind (Called task) stamp stays is = is

pub known_still : (m n : Named) (rec : TaskRecord) → StaysKnown m n → IsKnownTouched m rec → IsKnownTouched n rec
known_still m n rec stays known = elim known [
  | inl some ↦ inl (some.0, some.1, on_still m n some.0.kind some.0.what some.0.stamp stays some.2)
  | inr some ↦ inr (some.0, some.1, differs_still m n kinds.ReadHash some.0.0 (stamps.Hash some.0.1) stays some.2)
]
