-- Equal paths, and the order of paths.
use Rattle.std.proofs.Common.{◌≡◌, ℕ, Bool, true, false, List, refl, sym, ap, ◌∙◌, eqb}
use Rattle.std.specs.declared.cmp.Ordering.{Ordering}
use Rattle.std.specs.declared.cmp.Ordering.TheVariants.{Less, Equal, Greater}
use Rattle.std.specs.Ordering.{nat_cmp, is_eq, is_lt, eq_by_cmp, ordering_reverse}
use Rattle.std.specs.Cmp.Lexicographic.{slice_cmp, nat_list_cmp_total}
use Rattle.std.proofs.lemmas.Slice.Eq.{slice_eq-Decides}
use Rattle.std.proofs.lemmas.Bool.Decides.{Decides-eqb}
use Rattle.pie_base.specs.Path.{same_text}
use Rattle.pie_graph.proofs.EdgeOrder.{text_tie}
use Rattle.pie_scan.specs.Entries.{path_cmp}

pub same_is : (a b : List ℕ) → same_text a b ≡ true → a ≡ b
same_is a b h = (slice_eq-Decides {E = eqb} Decides-eqb a b (same_text a b) refl).0 h

pub same_on : (a b : List ℕ) → a ≡ b → same_text a b ≡ true
same_on a b h = (slice_eq-Decides {E = eqb} Decides-eqb a b (same_text a b) refl).1 h

by_true : (b c : Bool) → (b ≡ true → c ≡ true) → (c ≡ true → b ≡ true) → b ≡ c
by_true true true f g = refl
by_true true false f g = sym (f refl)
by_true false true f g = g refl
by_true false false f g = refl

pub same_swap : (a b : List ℕ) → same_text a b ≡ same_text b a
same_swap a b = by_true (same_text a b) (same_text b a) (λ e. same_on b a (sym (same_is a b e))) (λ e. same_on a b (sym (same_is b a e)))

pub tie_is : (a b : List ℕ) → eq_by_cmp (slice_cmp nat_cmp) a b ≡ same_text a b
tie_is a b = text_tie a b

-- one path that comes before another is another
pub less_apart : (a b : List ℕ) → path_cmp a b ≡ Less → same_text a b ≡ false
less_apart a b h = sym (text_tie a b) ∙ ap is_eq h

pub less_other : (a b : List ℕ) → path_cmp a b ≡ Less → same_text b a ≡ false
less_other a b h = same_swap b a ∙ less_apart a b h

pub is_less : (o : Ordering) → is_lt o ≡ true → o ≡ Less
is_less Less e = refl
is_less Equal e = absurd (cc)
is_less Greater e = absurd (cc)

-- a path that neither comes after another nor is it comes before it
pub comes_before : (a b : List ℕ) → is_lt (path_cmp b a) ≡ false → same_text a b ≡ false → path_cmp a b ≡ Less
comes_before a b late apart = by (path_cmp b a) refl late
  where
    by : (o : Ordering) → path_cmp b a ≡ o → is_lt o ≡ false → path_cmp a b ≡ Less
    by Less e l = absurd (cc)
    by Equal e l =
        let same : same_text b a ≡ true = sym (text_tie b a) ∙ ap is_eq e in
        absurd (cc (same_swap a b, same, apart))
    by Greater e l = nat_list_cmp_total.antisymm a b ∙ ap ordering_reverse e

pub before_trans : (a b c : List ℕ) → path_cmp a b ≡ Less → path_cmp b c ≡ Less → path_cmp a c ≡ Less
before_trans a b c p q = nat_list_cmp_total.trans a b c p q
