-- The forms of the built-in functions' answers: how arguments are taken, and what a new value has to keep.
use Rattle.std.specs.Prelude.{ℕ, Bool, cond, ◌&&◌, nat_le, List, [], ◌∷◌, length, take, drop, Option, Some, None, Result, Ok, Err, ℤ, pos, negsuc}
use Rattle.pie_base.specs.declared.fault.FaultKind.{FaultKind}
use Rattle.pie_base.specs.declared.fault.FaultKind.TheVariants.{Big, Range as RangeFault, Unknown}
use Rattle.pie_value.specs.Tree.{Tree, Trees, TInt, TNull}
use Rattle.pie_value.specs.Limits.{is_small}
use Rattle.pie_value.specs.BuiltinItems.{as_text, as_path, as_list}

-- a value or a fault
abbrev pub Answered : Type 0
Answered = Result Tree FaultKind

-- a new value, which has to keep the limits
abbrev pub made : Tree → Answered
made t = cond (is_small t) (Ok t) (Err Big)

-- a number as a new value
abbrev pub made_number : ℕ → Answered
made_number n = made (TInt (pos n))

-- an optional value, null where there is none
abbrev pub made_or_null : Option Tree → Answered
made_or_null None = made TNull
made_or_null (Some t) = made t

-- what is asked of an argument, which is of no such kind otherwise
abbrev pub given : {A : Type 0} → Option A → (A → Answered) → Answered
given None answer = Err Unknown
given (Some a) answer = answer a

-- one argument
abbrev pub of_one : (Tree → Answered) → List Tree → Answered
of_one answer (t ∷ []) = answer t
of_one answer ts = Err Unknown

-- two arguments
abbrev pub of_two : (Tree → Tree → Answered) → List Tree → Answered
of_two answer (t ∷ u ∷ []) = answer t u
of_two answer ts = Err Unknown

-- three arguments
abbrev pub of_three : (Tree → Tree → Tree → Answered) → List Tree → Answered
of_three answer (t ∷ u ∷ v ∷ []) = answer t u v
of_three answer ts = Err Unknown

-- one text
abbrev pub of_text : (List ℕ → Answered) → List Tree → Answered
of_text answer = of_one (λ t. given (as_text t) answer)

-- two texts
abbrev pub of_two_texts : (List ℕ → List ℕ → Answered) → List Tree → Answered
of_two_texts answer = of_two (λ t u. given (as_text t) (λ s. given (as_text u) (answer s)))

-- one path
abbrev pub of_path : (List ℕ → Answered) → List Tree → Answered
of_path answer = of_one (λ t. given (as_path t) answer)

-- one list
abbrev pub of_list : (Trees → Answered) → List Tree → Answered
of_list answer = of_one (λ t. given (as_list t) answer)

-- a place, which a number below 0 is not
abbrev pub at_place : ℤ → (ℕ → Answered) → Answered
at_place (pos n) answer = answer n
at_place (negsuc n) answer = Err RangeFault

-- the bytes from one place up to before another, where the places are in order and pass a test
abbrev pub cut_out : (List ℕ → Tree) → (ℕ → Bool) → List ℕ → ℤ → ℤ → Answered
cut_out value may_cut s from to = at_place from (λ i. at_place to (λ j.
    cond (nat_le i j && nat_le j (length s) && may_cut i && may_cut j) (made (value (drop i (take j s)))) (Err RangeFault)))
