-- Which paths are asked for: of one observation or write, and of all.
use Rattle.std.proofs.Common.{◌≡◌, inl, inr, ℕ, ◌<◌, Bool, true, false, ◌&&◌, List, Option, length, get_or, refl, sym, subst, ◌∙◌}
use Rattle.pie_base.specs.Path.{is_source}
use Rattle.pie_files.specs.declared.files.Call.{Call}
use Rattle.pie_record.specs.declared.dep.Dep.{Dep}
use Rattle.pie_record.specs.declared.dep.DepKind.{DepKind}
use Rattle.pie_record.specs.declared.dep.DepKind.TheVariants as kinds
use Rattle.pie_record.specs.declared.dep.DepOn.TheVariants.{File}
use Rattle.pie_record.specs.declared.task_record.TaskRecord.{TaskRecord}
use Rattle.pie_named.specs.declared.named.Named.{Named}
use Rattle.pie_named.specs.declared.stamps.FileStamp.{FileStamp}
use Rattle.pie_named.specs.inner.Names.{SameNames, is_named, is_above}
use Rattle.pie_named.specs.Asking.{IsNamedOrAbove, LooksAt, AsksFor, AsksOnce, call_for}
use Rattle.pie_named.proofs.Calls.{no_calls, made_once, calls_then, asks_as}
use Rattle.pie_compare.specs.inner.Touching.{SomeOf, is_asked}
use Rattle.pie_compare.specs.inner.Asked.{IsObservedIn, IsWrittenIn, IsOfRecord, MayAskOf}

-- ---- one path

and_right : (a b : Bool) → a && b ≡ true → b ≡ true
and_right true b h = h
and_right false b h = absurd (cc)

false_is_not_true : false ≡ true → ⊥
false_is_not_true h = cc

-- what is asked of an observation is of a name, or of a directory above one
sight_looks : (n : Named) (kind : DepKind) (path : List ℕ) → is_asked n kind path ≡ true → LooksAt (MayAskOf n (λ p. p ≡ path)) (call_for kind path)
sight_looks n kinds.Exists path may = record { named = inl (and_right (is_source path) (is_named n path) may); of = refl }
sight_looks n kinds.ReadHash path may = record { named = inl (and_right (is_source path) (is_named n path) may); of = refl }
sight_looks n kinds.ReadMark path may = record { named = inl (and_right (is_source path) (is_named n path) may); of = refl }
sight_looks n kinds.Digest path may = record { named = inl (and_right (is_source path) (is_named n path) may); of = refl }
sight_looks n kinds.List path may = record { named = inr (and_right (is_source path) (is_above n path) may); of = refl }
sight_looks n kinds.Require path may = absurd (false_is_not_true (and_right (is_source path) false may))
sight_looks n kinds.RequireHash path may = absurd (false_is_not_true (and_right (is_source path) false may))
sight_looks n kinds.Run path may = absurd (false_is_not_true (and_right (is_source path) false may))

pub sight_asks : (n : Named) (kind : DepKind) (path : List ℕ) (known : Option (Option FileStamp)) (before after : Option (List Call))
    → is_asked n kind path ≡ true → AsksOnce known (call_for kind path) before after → AsksFor (MayAskOf n (λ p. p ≡ path)) before after
sight_asks n kind path known before after may asks =
    made_once (LooksAt (MayAskOf n (λ p. p ≡ path))) known (call_for kind path) before after (sight_looks n kind path may) asks

pub write_asks : (n : Named) (path : List ℕ) (known : Option (Option FileStamp)) (before after : Option (List Call))
    → is_named n path ≡ true → AsksOnce known (call_for kinds.ReadHash path) before after → AsksFor (MayAskOf n (λ p. p ≡ path)) before after
write_asks n path known before after may asks =
    made_once (LooksAt (MayAskOf n (λ p. p ≡ path))) known (call_for kinds.ReadHash path) before after (record { named = inl may; of = refl }) asks

pub asks_none : (n : Named) (Of : List ℕ → Type 0) (before after : Option (List Call)) → after ≡ before → AsksFor (MayAskOf n Of) before after
asks_none n Of before after same = no_calls (LooksAt (MayAskOf n Of)) before after same

-- ---- one of several

same_named : (m n : Named) (p : List ℕ) → SameNames m n → IsNamedOrAbove n p → IsNamedOrAbove m p
same_named m n p same (inl is) = inl (sym (same.named p) ∙ is)
same_named m n p same (inr is) = inr (sym (same.above p) ∙ is)

-- the same names, and more paths
pub asks_wider : (m n : Named) (Of More : List ℕ → Type 0) (before after : Option (List Call)) → SameNames m n → ((p : List ℕ) → Of p → More p)
    → AsksFor (MayAskOf n Of) before after → AsksFor (MayAskOf m More) before after
asks_wider m n Of More before after same implies asks =
    asks_as (MayAskOf n Of) (MayAskOf m More) before after (λ p may. record { named = same_named m n p same may.named; of = implies p may.of }) asks

itself : (n : Named) → SameNames n n
itself n = record { named = λ q. refl; above = λ q. refl }

pub dep_asks : (n : Named) (dep : Dep) (path : List ℕ) (before after : Option (List Call)) → dep.what ≡ File path
    → AsksFor (MayAskOf n (λ p. p ≡ path)) before after → AsksFor (MayAskOf n (λ p. dep.what ≡ File p)) before after
dep_asks n dep path before after is asks =
    asks_wider n n (λ p. p ≡ path) (λ p. dep.what ≡ File p) before after (itself n) (λ p same. subst (λ q. dep.what ≡ File q) (sym same) is) asks

-- one more of some things
pub asks_more : {A : Type 0} (is : A → List ℕ → Type 0) (first old : Named) (xs : List A) (i : ℕ) (x : A) (before mid after : Option (List Call))
    → i < length xs → x ≡ get_or xs i x → SameNames first old → AsksFor (MayAskOf first (λ p. SomeOf (λ y. is y p) xs)) before mid
    → AsksFor (MayAskOf old (is x)) mid after → AsksFor (MayAskOf first (λ p. SomeOf (λ y. is y p) xs)) before after
asks_more {A} is first old xs i x before mid after inside at names so_far asks =
    calls_then (LooksAt (MayAskOf first (λ p. SomeOf (λ y. is y p) xs))) before mid after so_far
    (asks_wider first old (is x) (λ p. SomeOf (λ y. is y p) xs) mid after names (λ p h. (x, (i, inside, sym at), h)) asks)

-- ---- both

pub asks_sights : (n : Named) (rec : TaskRecord) (deps : List Dep) (before after : Option (List Call)) → deps ≡ rec.deps
    → AsksFor (MayAskOf n (IsObservedIn deps)) before after → AsksFor (MayAskOf n (IsOfRecord rec)) before after
asks_sights n rec deps before after is asks =
    asks_wider n n (IsObservedIn deps) (IsOfRecord rec) before after (itself n) (λ p h. inl (subst (λ ds. IsObservedIn ds p) is h)) asks

pub asks_writes : (m n : Named) (rec : TaskRecord) (writes : List (List ℕ × List ℕ)) (before mid after : Option (List Call)) → writes ≡ rec.writes
    → SameNames m n → AsksFor (MayAskOf m (IsOfRecord rec)) before mid → AsksFor (MayAskOf n (IsWrittenIn writes)) mid after
    → AsksFor (MayAskOf m (IsOfRecord rec)) before after
asks_writes m n rec writes before mid after is names first asks =
    calls_then (LooksAt (MayAskOf m (IsOfRecord rec))) before mid after first
    (asks_wider m n (IsWrittenIn writes) (IsOfRecord rec) mid after names (λ p h. inr (subst (λ ws. IsWrittenIn ws p) is h)) asks)
