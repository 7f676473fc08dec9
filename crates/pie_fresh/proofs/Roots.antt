-- The roots that were entered so far.
use Rattle.std.proofs.Common.{◌≡◌, ℕ, zero, suc, ◌+◌, ◌<◌, ◌≤◌, List, [], ◌∷◌, ◌++◌, length, take, get_or, ap, subst, refl, arith}
use Rattle.std.specs.Prelude.{All, Contains}
use Rattle.std.proofs.lemmas.List.Elements.{All-more, All-nil, All-weaker}
use Rattle.pie_value.specs.declared.task.Task.{Task}
use Rattle.pie_value.specs.Canonical.{IsEncodableTask}
use Rattle.pie_parser.specs.FunctionTrees.{FunctionTree}
use Rattle.pie_digest.specs.Digests.{function_names}
use Rattle.pie_fresh.specs.declared.builder.Builder.{Builder}
use Rattle.pie_fresh.specs.inner.Ledgers.{AreOpen}
use Rattle.pie_fresh.specs.inner.Frames.{AreEntered, IsIdle, numbers_of}

pub entered_more : (names after roots : List Task) (i : ℕ) (t : Task) → ((u : Task) → Contains names u → Contains after u) → i < length roots
    → t ≡ get_or roots i t → IsEncodableTask t → Contains after t → AreEntered names (take i roots) → AreEntered after (take (i + 1) roots)
entered_more names after roots i t kept lt is small named e = record {
  small = All-more IsEncodableTask roots i t lt e.small (subst IsEncodableTask is small);
  named = All-more (λ (u : Task). Contains after u) roots i t lt
      (All-weaker (λ (u : Task). Contains names u) (λ (u : Task). Contains after u) kept (take i roots) e.named)
      (subst (λ (u : Task). Contains after u) is named);
}

take_whole : {X : Type 0} (xs : List X) (n : ℕ) → length xs ≤ n → take n xs ≡ xs
take_whole [] zero le = refl
take_whole [] (suc n) le = refl
take_whole (x ∷ xs) zero le = absurd (omega (arith, le))
take_whole (x ∷ xs) (suc n) le = ap (λ ys. x ∷ ys) (take_whole xs n (omega (arith, le)))

pub entered_all : (names roots : List Task) (i : ℕ) → length roots ≤ i → AreEntered names (take i roots) → AreEntered names roots
entered_all names roots i le e = subst (λ ts. AreEntered names ts) (take_whole roots i le) e

pub entered_none : (names : List Task) → AreEntered names []
entered_none names = record { small = All-nil IsEncodableTask; named = All-nil (λ (u : Task). Contains names u) }

-- between two roots each task has ended
pub idle_finished : (b : Builder) → IsIdle b → AreOpen b.ledger []
idle_finished b idle = subst (λ cs. AreOpen b.ledger (numbers_of cs ++ [])) idle.alone idle.stands.unfinished

-- and each is of a function of the pipeline
pub idle_known : (b : Builder) (fs : List FunctionTree) → IsIdle b → b.typed.now ≡ fs → All (λ (t : Task). Contains (function_names fs) t.func) b.ledger.names
idle_known b fs idle typed = subst (λ gs. All (λ (t : Task). Contains (function_names gs) t.func) b.ledger.names) typed idle.stands.known
