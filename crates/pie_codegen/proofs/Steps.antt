-- What single instructions of compiled code do, said backwards: if what follows evaluates to the event, so does this.
use Rattle.std.proofs.Common.{◌≡◌, ℕ, zero, suc, ◌+◌, ◌-◌, ◌<◌, ◌≤◌, Bool, true, false, cond, nat_lt, nat_le, List, [], ◌∷◌, ◌++◌, length, take, drop, reverse}
use Rattle.std.proofs.Common.{slice_get, slice_set, Option, Some, None, Result, Ok, Err, refl, sym, subst, ap, ◌∙◌, arith, append_assoc, ℤ, pos, negsuc}
use Rattle.std.proofs.lemmas.List.{length-append}
use Rattle.std.proofs.lemmas.Bool.{lt-ltb, le-leb}
use Rattle.pie_base.specs.declared.fault.FaultKind.TheVariants.{Unknown}
use Rattle.pie_value.specs.Tree.{TUnit, TBool, TInt, TText, TPath, TList, TTuple, TNull, TBytes}
use Rattle.pie_value.specs.Tree.{Tree as Val}
use Rattle.pie_operators.specs.declared.operator.Unary.TheVariants.{Not}
use Rattle.pie_operators.specs.Domain.{Outcome, done, fails, wants, State, Act, give, fault}
use Rattle.pie_code.specs.declared.instr.Instr.{Instr}
use Rattle.pie_code.specs.declared.instr.Instr.TheVariants.{Store, Jump, JumpIfNot, Unary, Push, Drop}
use Rattle.pie_code.specs.declared.code.Code.{Code}
use Rattle.pie_code.specs.Running.{Config, Turn, pop_many, onward, misfit, goes}
use Rattle.pie_semantics.specs.Words.{branch}
use Rattle.pie_codegen.proofs.Base.{at, Comes, Then, Leads, one, mono, slot_behind}

-- what stands behind the first ones
pub at_low : (low ys : List Val) (i : ℕ) → slice_get (low ++ ys) (length low + i) ≡ slice_get ys i
at_low [] ys i = ap (slice_get ys) (omega arith)
at_low (x ∷ low) ys i =
    let e : length (x ∷ low) + i ≡ suc (length low + i) = omega arith in ap (slice_get (x ∷ (low ++ ys))) e ∙ at_low low ys i

pub set_low : (low ys : List Val) (i : ℕ) (v : Val) → slice_set (low ++ ys) (length low + i) v ≡ low ++ slice_set ys i v
set_low [] ys i v = ap (λ k. slice_set ys k v) (omega arith)
set_low (x ∷ low) ys i v =
    let e : length (x ∷ low) + i ≡ suc (length low + i) = omega arith in
    ap (λ k. slice_set (x ∷ (low ++ ys)) k v) e ∙ ap (λ l. x ∷ l) (set_low low ys i v)

pub take_all : (vs k : List Val) (n : ℕ) → length vs ≡ n → take n (vs ++ k) ≡ vs
take_all [] k zero e = refl
take_all [] k (suc n) e = absurd (omega arith)
take_all (v ∷ vs) k zero e = absurd (omega arith)
take_all (v ∷ vs) k (suc n) e = ap (λ xs. v ∷ xs) (take_all vs k n (omega arith))

pub drop_all : (vs k : List Val) (n : ℕ) → length vs ≡ n → drop n (vs ++ k) ≡ k
drop_all [] k zero e = refl
drop_all [] k (suc n) e = absurd (omega arith)
drop_all (v ∷ vs) k zero e = absurd (omega arith)
drop_all (v ∷ vs) k (suc n) e = drop_all vs k n (omega arith)

module _ (code : Code) (ev : Outcome Val × State) where
  -- a list of values is taken from the stack
  pub pop_run : (vs k : List Val) (n a : ℕ) (l : List Val) (s : State) (go : List Val → Config → Turn) → length vs ≡ n
      → Leads code ev (go (reverse vs) (at a k l s)) → Leads code ev (pop_many n (at a (vs ++ k) l s) go)
  pop_run vs k n a l s go e h =
      subst (λ b. Leads code ev (cond b (go (reverse (take n (vs ++ k))) (at a (drop n (vs ++ k)) l s)) (misfit (at a (vs ++ k) l s))))
      (sym (le-leb n (length (vs ++ k)) (omega (arith, length-append vs k))))
      (subst (λ xs. Leads code ev (go (reverse xs) (at a (drop n (vs ++ k)) l s))) (sym (take_all vs k n e))
      (subst (λ xs. Leads code ev (go (reverse vs) (at a xs l s))) (sym (drop_all vs k n e)) h))

  -- a value goes into the slot behind the first ones
  pub store_run : (m : ℕ) (low junk : List Val) (x v : Val) (a : ℕ) (k : List Val) (s : State) → length low ≡ m
      → slice_get code.instrs.items a ≡ Some (Store m) → Comes code ev (a + 1) k ((low ++ v ∷ []) ++ junk) s → Comes code ev a (v ∷ k) (low ++ x ∷ junk) s
  store_run m low junk x v a k s z e h =
      one code ev (Store m) a (v ∷ k) (low ++ x ∷ junk) s e
      (subst (λ b. Leads code ev (cond b (onward (at a k (slice_set (low ++ x ∷ junk) m v) s)) (misfit (at a k (low ++ x ∷ junk) s))))
      (sym (lt-ltb m (length (low ++ x ∷ junk)) (omega (arith, length-append low (x ∷ junk)))))
      (subst (λ l. Comes code ev (a + 1) k l s) (sym (ap (λ n. slice_set (low ++ x ∷ junk) n v) (sym z) ∙ slot_behind low junk x v)) h))

  -- a jump where a value is false
  pub branch_run : (v : Val) (first other : Act Val) (K : Val → State → Type 0) (b a : ℕ) (k l : List Val) (s : State)
      → slice_get code.instrs.items a ≡ Some (JumpIfNot b) → Then code ev K (branch v first other s)
      → (Then code ev K (first s) → Comes code ev (a + 1) k l s) → (Then code ev K (other s) → Comes code ev b k l s) → Comes code ev a (v ∷ k) l s
  branch_run (TBool true) first other K b a k l s e h f g = one code ev (JumpIfNot b) a (TBool true ∷ k) l s e (f h)
  branch_run (TBool false) first other K b a k l s e h f g = one code ev (JumpIfNot b) a (TBool false ∷ k) l s e (g h)
  branch_run TUnit first other K b a k l s e h f g = one code ev (JumpIfNot b) a (TUnit ∷ k) l s e h
  branch_run (TInt n) first other K b a k l s e h f g = one code ev (JumpIfNot b) a (TInt n ∷ k) l s e h
  branch_run (TText t) first other K b a k l s e h f g = one code ev (JumpIfNot b) a (TText t ∷ k) l s e h
  branch_run (TPath p) first other K b a k l s e h f g = one code ev (JumpIfNot b) a (TPath p ∷ k) l s e h
  branch_run (TList ts) first other K b a k l s e h f g = one code ev (JumpIfNot b) a (TList ts ∷ k) l s e h
  branch_run (TTuple ts) first other K b a k l s e h f g = one code ev (JumpIfNot b) a (TTuple ts ∷ k) l s e h
  branch_run TNull first other K b a k l s e h f g = one code ev (JumpIfNot b) a (TNull ∷ k) l s e h
  branch_run (TBytes t) first other K b a k l s e h f g = one code ev (JumpIfNot b) a (TBytes t ∷ k) l s e h

  -- a jump where a value is true
  pub not_run : (v : Val) (first other : Act Val) (K : Val → State → Type 0) (b a : ℕ) (k l : List Val) (s : State)
      → slice_get code.instrs.items a ≡ Some (Unary Not) → slice_get code.instrs.items (a + 1) ≡ Some (JumpIfNot b)
      → Then code ev K (branch v first other s)
      → (Then code ev K (first s) → Comes code ev b k l s) → (Then code ev K (other s) → Comes code ev (a + 1 + 1) k l s) → Comes code ev a (v ∷ k) l s
  not_run (TBool true) first other K b a k l s e j h f g =
      one code ev (Unary Not) a (TBool true ∷ k) l s e (one code ev (JumpIfNot b) (a + 1) (TBool false ∷ k) l s j (f h))
  not_run (TBool false) first other K b a k l s e j h f g =
      one code ev (Unary Not) a (TBool false ∷ k) l s e (one code ev (JumpIfNot b) (a + 1) (TBool true ∷ k) l s j (g h))
  not_run TUnit first other K b a k l s e j h f g = one code ev (Unary Not) a (TUnit ∷ k) l s e h
  not_run (TInt n) first other K b a k l s e j h f g = one code ev (Unary Not) a (TInt n ∷ k) l s e h
  not_run (TText t) first other K b a k l s e j h f g = one code ev (Unary Not) a (TText t ∷ k) l s e h
  not_run (TPath p) first other K b a k l s e j h f g = one code ev (Unary Not) a (TPath p ∷ k) l s e h
  not_run (TList ts) first other K b a k l s e j h f g = one code ev (Unary Not) a (TList ts ∷ k) l s e h
  not_run (TTuple ts) first other K b a k l s e j h f g = one code ev (Unary Not) a (TTuple ts ∷ k) l s e h
  not_run TNull first other K b a k l s e j h f g = one code ev (Unary Not) a (TNull ∷ k) l s e h
  not_run (TBytes t) first other K b a k l s e j h f g = one code ev (Unary Not) a (TBytes t ∷ k) l s e h
