-- The answers on what was observed and written, one after another.
use Rattle.std.proofs.Common.{◌≡◌, inl, inr, ℕ, ◌+◌, ◌<◌, ◌≤◌, Bool, true, false, ◌&&◌, List, [], ◌∷◌, ◌++◌, length, take, get_or, Option}
use Rattle.std.proofs.Common.{refl, sym, ap, subst, ◌∙◌}
use Rattle.std.specs.Prelude.{All}
use Rattle.std.proofs.lemmas.List.{take_all, take_more}
use Rattle.std.proofs.lemmas.List.Elements.{All-push, All-contains}
use Rattle.pie_base.specs.Path.{is_source}
use Rattle.pie_files.specs.Directory.{Directory}
use Rattle.pie_value.specs.declared.stamp.Stamp.{Stamp}
use Rattle.pie_value.specs.declared.stamp.Stamp.TheVariants as stamps
use Rattle.pie_record.specs.declared.dep.Dep.{Dep}
use Rattle.pie_record.specs.declared.dep.DepKind.{DepKind}
use Rattle.pie_record.specs.declared.dep.DepKind.TheVariants as kinds
use Rattle.pie_record.specs.declared.dep.DepOn.{DepOn}
use Rattle.pie_record.specs.declared.dep.DepOn.TheVariants.{File, Called}
use Rattle.pie_record.specs.declared.task_record.TaskRecord.{TaskRecord}
use Rattle.pie_named.specs.declared.named.Named.{Named}
use Rattle.pie_named.specs.inner.Names.{SameNames}
use Rattle.pie_named.specs.inner.Stamped.{stamp_in, differs_from}
use Rattle.pie_named.specs.inner.Known.{IsTrueOf}
use Rattle.pie_compare.specs.inner.Touching.{may_differ, on_differs, dep_differs, write_differs, Answers, AnswersBy}
use Rattle.pie_compare.specs.inner.Touching.{SomeOf, SomeSightDiffers, SomeWriteDiffers, IsTouched, FindsBy, Passes}

-- where one is asked, the answer is whether it differs
pub asked : (d : Directory) (new : Named) (asks differs answer : Bool) → asks ≡ true → answer ≡ differs → IsTrueOf d new
    → Answers d new (asks && differs) answer
asked d new asks differs answer on is known = record { known = known; same = is ∙ ap (λ b. b && differs) (sym on) }

-- ---- the same names

pub names_stay : (first old new : Named) → SameNames first old → SameNames old new → SameNames first new
names_stay first old new before then = record {
  named = λ q. then.named q ∙ before.named q;
  above = λ q. then.above q ∙ before.above q;
}

may_same : (m n : Named) (kind : DepKind) (path : List ℕ) → SameNames m n → may_differ n kind path ≡ may_differ m kind path
may_same m n kinds.Exists path same = same.named path
may_same m n kinds.ReadHash path same = same.named path
may_same m n kinds.ReadMark path same = same.named path
may_same m n kinds.Digest path same = same.named path
may_same m n kinds.List path same = same.above path
may_same m n kinds.Require path same = refl
may_same m n kinds.RequireHash path same = refl
may_same m n kinds.Run path same = refl

on_same : (d : Directory) (m n : Named) (kind : DepKind) (what : DepOn) (stamp : Stamp) → SameNames m n
    → on_differs d n kind what stamp ≡ on_differs d m kind what stamp
on_same d m n kind (File path) stamp same =
    ap (λ b. (is_source path && b) && differs_from (stamp_in d kind path) stamp) (may_same m n kind path same)
on_same d m n kind (Called task) stamp same = refl

pub dep_same : (d : Directory) (m n : Named) (dep : Dep) → SameNames m n → dep_differs d n dep ≡ dep_differs d m dep
dep_same d m n dep same = on_same d m n dep.kind dep.what dep.stamp same

pub write_same : (d : Directory) (m n : Named) (w : List ℕ × List ℕ) → SameNames m n → write_differs d n w.0 w.1 ≡ write_differs d m w.0 w.1
write_same d m n w same = ap (λ b. b && differs_from (stamp_in d kinds.ReadHash w.0) (stamps.Hash w.1)) (same.named w.0)

-- ---- one after another

module _ {A : Type 0} (is : Directory → Named → A → Bool) (steady : (d : Directory) (m n : Named) (x : A) → SameNames m n → is d n x ≡ is d m x)
    (held : Option Directory) (first : Named) (xs : List A) where
  pub passes_on : (now : Option Directory) (old new : Named) (i : ℕ) (x : A) (answer : Bool) → now ≡ held → SameNames first old → i < length xs
      → x ≡ get_or xs i x → answer ≡ false → Passes held first old is (take i xs) → AnswersBy now old new (λ d n. is d n x) answer
      → Passes held first new is (take (i + 1) xs)
  passes_on now old new i x answer same names inside at off before answers = λ d e known.
      let passed = before d e known in
      let told = answers d (same ∙ e) passed.known in
      record {
        known = told.known;
        none = subst (All (λ y. is d first y ≡ false)) (sym (take_more xs i x inside ∙ ap (λ (y : A). take i xs ++ y ∷ []) (sym at)))
            (All-push (λ y. is d first y ≡ false) (take i xs) x passed.none (sym (steady d first old x names) ∙ sym told.same ∙ off));
      }

  pub finds : (now : Option Directory) (old new : Named) (i : ℕ) (x : A) (answer : Bool) → now ≡ held → SameNames first old → i < length xs
      → x ≡ get_or xs i x → answer ≡ true → Passes held first old is (take i xs) → AnswersBy now old new (λ d n. is d n x) answer
      → FindsBy held first new (λ d n. SomeOf (λ y. is d n y ≡ true) xs) true
  finds now old new i x answer same names inside at on before answers = λ d e known.
      let told = answers d (same ∙ e) (before d e known).known in
      record {
        known = told.known;
        is = (λ _. (x, (i, inside, sym at), sym (steady d first old x names) ∙ sym told.same ∙ on), λ _. refl);
      }

  pub finds_none : (new : Named) (i : ℕ) → length xs ≤ i → Passes held first new is (take i xs)
      → FindsBy held first new (λ d n. SomeOf (λ y. is d n y ≡ true) xs) false
  finds_none new i past before = λ d e known.
      let passed = before d e known in
      let none : All (λ y. is d first y ≡ false) xs = subst (All (λ y. is d first y ≡ false)) (take_all i xs past) passed.none in
      record {
        known = passed.known;
        is = (
          λ yes. absurd (cc),
          λ some. absurd (let off : is d first some.0 ≡ false = All-contains (λ y. is d first y ≡ false) xs some.0 none some.1 in
              let on = some.2 in cc),
        );
      }

-- ---- both

some_same : (d : Directory) (m n : Named) (writes : List (List ℕ × List ℕ)) → SameNames m n → SomeWriteDiffers d n writes → SomeWriteDiffers d m writes
some_same d m n writes same some = (some.0, some.1, sym (write_same d m n some.0 same) ∙ some.2)

turned : (m n : Named) → SameNames m n → SameNames n m
turned m n same = record { named = λ q. sym (same.named q); above = λ q. sym (same.above q) }

pub touched_by_sight : (held : Option Directory) (old mid : Named) (rec : TaskRecord) (deps : List Dep) (found : Bool) → deps ≡ rec.deps → found ≡ true
    → FindsBy held old mid (λ d n. SomeSightDiffers d n deps) found → FindsBy held old mid (λ d n. IsTouched d n rec) true
touched_by_sight held old mid rec deps found is on sights = λ d e known.
    let told = sights d e known in
    record { known = told.known; is = (λ _. inl (subst (SomeSightDiffers d old) is (told.is.0 on)), λ _. refl) }

pub touched_by_write : (held now : Option Directory) (old mid new : Named) (rec : TaskRecord) (deps : List Dep) (writes : List (List ℕ × List ℕ))
    (found answer : Bool) → deps ≡ rec.deps → writes ≡ rec.writes → now ≡ held → found ≡ false → SameNames old mid
    → FindsBy held old mid (λ d n. SomeSightDiffers d n deps) found → FindsBy now mid new (λ d n. SomeWriteDiffers d n writes) answer
    → FindsBy held old new (λ d n. IsTouched d n rec) answer
touched_by_write held now old mid new rec deps writes found answer is_deps is_writes same off names sights written = λ d e known.
    let seen = sights d e known in
    let told = written d (same ∙ e) seen.known in
    record {
      known = told.known;
      is = (
        λ yes. inr (subst (SomeWriteDiffers d old) is_writes (some_same d old mid writes names (told.is.0 yes))),
        λ touched. elim touched [
          | inl some ↦ absurd (let on : found ≡ true = seen.is.1 (subst (SomeSightDiffers d old) (sym is_deps) some) in cc)
          | inr some ↦ told.is.1 (some_same d mid old writes (turned old mid names) (subst (SomeWriteDiffers d old) (sym is_writes) some))
        ],
      );
    }
