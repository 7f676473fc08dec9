-- The integers between two, one by one.
use Rattle.std.proofs.Common.{◌≡◌, ℕ, zero, suc, ◌+◌, ◌-◌, ◌*◌, ◌/◌, ◌<◌, ◌≤◌, List, [], ◌∷◌, ◌++◌, refl, ap, sym, ◌∙◌, arith, ℤ, pos, negsuc, ◌+ℤ◌, ◌-ℤ◌, ◌<ℤ◌}
use Rattle.std.proofs.Common.{◌≤ℤ◌, Err, append_assoc}
use Rattle.std.specs.Prelude.{unsigned_abs}
use Rattle.std.specs.Int.{int_gap}
use Rattle.std.proofs.lemmas.Int.{ints}
use Rattle.std.proofs.lemmas.List.{append-nil}
use Rattle.pie_base.specs.declared.fault.FaultKind.TheVariants.{Big}
use Rattle.pie_value.specs.Tree.{Tree, TInt, TList, Cons, items_of}
use Rattle.pie_value.specs.Size.{sizes_of}
use Rattle.pie_value.specs.BuiltinItems.{ints_from}
use Rattle.pie_value.specs.BuiltinForms.{made}
use Rattle.pie_builtins.proofs.Joining.{large}

-- so many integers from one on, as a plain list
abbrev pub ints_on : ℤ → ℕ → List Tree
ints_on n zero = []
ints_on n (suc k) = TInt n ∷ ints_on (n +ℤ pos 1) k

pub ints_on_is : (n : ℤ) (k : ℕ) → items_of (ints_on n k) ≡ ints_from n k
ints_on_is n zero = refl
ints_on_is n (suc k) = ap (λ rest. Cons (TInt n) rest) (ints_on_is (n +ℤ pos 1) k)

pub gap_above : (n m : ℤ) → n <ℤ m → unsigned_abs (m -ℤ n) ≡ int_gap n m
gap_above (pos a) (pos b) h = omega (arith, ints)
gap_above (pos a) (negsuc b) h = absurd (omega (arith, ints))
gap_above (negsuc a) (pos b) h = omega (arith, ints)
gap_above (negsuc a) (negsuc b) h = omega (arith, ints)

pub gap_ends : (n m : ℤ) → m ≤ℤ n → int_gap n m ≡ 0
gap_ends (pos a) (pos b) h = omega (arith, ints)
gap_ends (pos a) (negsuc b) h = refl
gap_ends (negsuc a) (pos b) h = absurd (omega (arith, ints))
gap_ends (negsuc a) (negsuc b) h = omega (arith, ints)

pub gap_reaches : (n m : ℤ) → n <ℤ m → n +ℤ pos (unsigned_abs (m -ℤ n)) ≡ m
gap_reaches n m h = omega (arith, ints)

next_int : (n : ℤ) (k : ℕ) → (n +ℤ pos k) +ℤ pos 1 ≡ n +ℤ pos (k + 1)
next_int n k = omega (arith, ints)

ints_step : (n : ℤ) (k : ℕ) → 0 < k → ints_on n k ≡ TInt n ∷ ints_on (n +ℤ pos 1) (k - 1)
ints_step n zero h = absurd (omega arith)
ints_step n (suc k) h = let e : suc k - 1 ≡ k = omega arith in rw e refl

-- one more integer
pub one_more : (ts : List Tree) (n : ℤ) (k c : ℕ) → k < c
    → (ts ++ TInt (n +ℤ pos k) ∷ []) ++ ints_on (n +ℤ pos (k + 1)) (c - (k + 1)) ≡ ts ++ ints_on (n +ℤ pos k) (c - k)
one_more ts n k c h =
    let e : c - k - 1 ≡ c - (k + 1) = omega arith in
    append_assoc ts (TInt (n +ℤ pos k) ∷ []) (ints_on (n +ℤ pos (k + 1)) (c - (k + 1)))
    ∙ sym (ap (λ rest. ts ++ rest) (ints_step (n +ℤ pos k) (c - k) (omega arith) ∙ rw (next_int n k, e) refl))

-- no more integers
pub all_there : (ts : List Tree) (n : ℤ) (k c : ℕ) → c ≤ k → ts ++ ints_on (n +ℤ pos k) (c - k) ≡ ts
all_there ts n k c h = let e : c - k ≡ 0 = omega arith in rw e (append-nil ts)

sizes_of_ints : (n : ℤ) (k : ℕ) → sizes_of (ints_from n k) ≡ 9 * k
sizes_of_ints n zero = refl
sizes_of_ints n (suc k) = omega (arith, sizes_of_ints (n +ℤ pos 1) k)

pub too_many_ints : (n : ℤ) (c : ℕ) → 1048576 / 9 < c → made (TList (ints_from n c)) ≡ Err Big
too_many_ints n c h = large (TList (ints_from n c)) (omega (arith, sizes_of_ints n c))
