-- What records wrote, one write after another.
use Rattle.std.proofs.Common.{◌≡◌, ℕ, zero, suc, ◌+◌, ◌<◌, ◌≤◌, Bool, true, false, not, List, [], ◌∷◌, ◌++◌, Option, Some, length, take, get_or, refl, sym, ap, subst, ◌∙◌, inl, inr, arith}
use Rattle.std.specs.List.{All}
use Rattle.std.proofs.lemmas.List.{take_more, take_all}
use Rattle.std.proofs.lemmas.List.Elements.{All-push}
use Rattle.pie_files.specs.Directory.{Directory}
use Rattle.pie_named.specs.declared.named.Named.{Named}
use Rattle.pie_named.specs.inner.Stamped.{stamp_in, differs_from}
use Rattle.pie_value.specs.declared.stamp.Stamp.TheVariants.{Hash}
use Rattle.pie_record.specs.declared.dep.DepKind.TheVariants.{ReadHash}
use Rattle.pie_named.specs.inner.Known.{Compares, IsTrueOf}
use Rattle.pie_topdown.specs.inner.Written.{IsThereIn, IsOneGone, FindsThere, FindsGone}

-- so many of these writes are there, over files that hold a directory
abbrev FoundSoFar : Option Directory → Named → Named → List (List ℕ × List ℕ) → ℕ → Type 0
FoundSoFar held old now writes i =
    (d : Directory) → held ≡ Some d → IsTrueOf d old → IsTrueOf d now × All (IsThereIn d) (take i writes)

pub found_more : (held mid : Option Directory) (old now new : Named) (writes : List (List ℕ × List ℕ)) (i : ℕ) (w : List ℕ × List ℕ) (stands : Bool) → mid ≡ held
    → FoundSoFar held old now writes i → i < length writes → w ≡ get_or writes i w → stands ≡ true → FindsThere mid now new (λ d. IsThereIn d w) stands
    → FoundSoFar held old new writes (i + 1)
found_more held mid old now new writes i w stands same before inside at so one = λ d holds so_far.
    let known = before d holds so_far in
    let here = one d (same ∙ holds) known.0 in (
      here.known,
      subst (All (IsThereIn d)) (sym (take_more writes i w inside ∙ ap (λ (x : List ℕ × List ℕ). take i writes ++ x ∷ []) (sym at)))
          (All-push (IsThereIn d) (take i writes) w known.1 (here.there so)),
    )

-- one isn't
pub found_other : (held mid : Option Directory) (old now new : Named) (writes : List (List ℕ × List ℕ)) (i : ℕ) (w : List ℕ × List ℕ) (stands : Bool)
    → mid ≡ held → FoundSoFar held old now writes i → FindsThere mid now new (λ d. IsThereIn d w) stands
    → FindsThere held old new (λ d. All (IsThereIn d) writes) false
found_other held mid old now new writes i w stands same before one = λ d holds so_far. record {
  known = (one d (same ∙ holds) (before d holds so_far).0).known;
  there = λ h. absurd (cc);
}

-- all are
pub found_all : (held : Option Directory) (old now : Named) (writes : List (List ℕ × List ℕ)) (i : ℕ) → length writes ≤ i → FoundSoFar held old now writes i
    → FindsThere held old now (λ d. All (IsThereIn d) writes) true
found_all held old now writes i past before = λ d holds so_far. record {
  known = (before d holds so_far).0;
  there = λ h. subst (All (IsThereIn d)) (take_all i writes past) (before d holds so_far).1;
}

-- ---- one write

-- whether it differs was asked
pub wrote_there : (held : Option Directory) (old new : Named) (w : List ℕ × List ℕ) (differs : Bool) → Compares held old new ReadHash w.0 (Hash w.1) differs
    → FindsThere held old new (λ d. IsThereIn d w) (not differs)
wrote_there held old new w differs told = λ d holds so_far. record {
  known = (told d holds so_far).known;
  there = λ h. sym (told d holds so_far).is ∙ no_more differs h;
}
  where
    no_more : (b : Bool) → not b ≡ true → b ≡ false
    no_more true e = absurd (cc)
    no_more false e = refl

pub gone_here : (held : Option Directory) (old new : Named) (w : List ℕ × List ℕ) (differs : Bool) → Compares held old new ReadHash w.0 (Hash w.1) differs
    → FindsGone held old (λ d. IsOneGone d (w ∷ [])) (not differs)
gone_here held old new w differs told = λ d holds so_far lost. inl (sym (told d holds so_far).is ∙ so differs lost)
  where
    so : (b : Bool) → not b ≡ false → b ≡ true
    so true e = refl
    so false e = absurd (cc)

-- ---- one of them is gone

one_gone : (d : Directory) (ws : List (List ℕ × List ℕ)) (i : ℕ) (w : List ℕ × List ℕ) → i < length ws → w ≡ get_or ws i w → IsOneGone d (w ∷ []) → IsOneGone d ws
one_gone d [] i w l e h = absurd (omega (arith, l))
one_gone d (x ∷ xs) zero w l e h = by h
  where
    by : IsOneGone d (w ∷ []) → IsOneGone d (x ∷ xs)
    by (inl so) = inl (subst (λ (z : List ℕ × List ℕ). differs_from (stamp_in d ReadHash z.0) (Hash z.1) ≡ true) e so)
    by (inr none) = absurd none
one_gone d (x ∷ xs) (suc i) w l e h = inr (one_gone d xs i w (omega (arith, l)) e h)

pub found_gone : (held mid : Option Directory) (old now : Named) (writes : List (List ℕ × List ℕ)) (i : ℕ) (w : List ℕ × List ℕ) (stands : Bool) → mid ≡ held
    → FoundSoFar held old now writes i → i < length writes → w ≡ get_or writes i w → stands ≡ false → FindsGone mid now (λ d. IsOneGone d (w ∷ [])) stands
    → FindsGone held old (λ d. IsOneGone d writes) false
found_gone held mid old now writes i w stands same before inside at lost one = λ d holds so_far lost_here.
    one_gone d writes i w inside at (one d (same ∙ holds) (before d holds so_far).0 lost)

pub none_gone : (held : Option Directory) (old : Named) (writes : List (List ℕ × List ℕ)) → FindsGone held old (λ d. IsOneGone d writes) true
none_gone held old writes = λ d holds so_far lost_here. absurd (cc)
