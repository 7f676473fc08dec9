-- Tasks and their numbers.
use Rattle.std.proofs.Common.{◌≡◌, ◌≢◌, ℕ, zero, suc, ◌<◌, ◌==◌, true, false, List, [], ◌∷◌, length, get_or, sym, ap, ◌∙◌, inl, inr, arith}
use Rattle.std.specs.Prelude.{Some, slice_get}
use Rattle.std.proofs.lemmas.Bool.{cases_lt}
use Rattle.std.proofs.lemmas.Bool.Decides.{Decides-eqb}
use Rattle.std.proofs.lemmas.Option.{slice_get-get_or}
use Rattle.std.proofs.lemmas.List.Elements.{All-contains, Contains-get_or}
use Rattle.pie_graph.specs.Numbers.{AllBelow}
use Rattle.pie_value.specs.declared.task.Task.{Task}
use Rattle.pie_record.specs.inner.Names.{AreDistinct}
use Rattle.pie_checks.specs.Listings.{Entry, AreNumbered, Stands, numbers_beside}
use Rattle.pie_checks.specs.Searches.{task_at, is_but}
use Rattle.pie_checks.proofs.Gathering.{beside_only}

pub task_of : (tasks : List Task) (n : ℕ) → n < length tasks → slice_get tasks n ≡ Some (task_at tasks n)
task_of tasks n l = slice_get-get_or tasks n (record { func = []; args = [] }) l

pub number_of : (tasks : List Task) (n : ℕ) (t : Task) → slice_get tasks n ≡ Some t → (n < length tasks) × (task_at tasks n ≡ t)
number_of [] n t e = cc
number_of (x ∷ xs) zero t e = (omega arith, cc)
number_of (x ∷ xs) (suc n) t e = let rest = number_of xs n t e in (omega (arith, rest.0), rest.1)

pub same_task : (tasks : List Task) (m n : ℕ) (t u : Task) → slice_get tasks m ≡ Some t → slice_get tasks n ≡ Some u → m ≡ n → t ≡ u
same_task tasks m n t u e f same = sym (number_of tasks m t e).1 ∙ ap (task_at tasks) same ∙ (number_of tasks n u f).1

pub apart : (tasks : List Task) (m n : ℕ) → AreDistinct tasks → m < length tasks → n < length tasks → m ≢ n → task_at tasks m ≢ task_at tasks n
apart tasks m n distinct lm ln other e =
    elim (cases_lt m n) [
      | inl low ↦ distinct m n (record { func = []; args = [] }) low ln e
      | inr high ↦ elim (cases_lt n m) [ inl low ↦ distinct n m (record { func = []; args = [] }) low lm (sym e) | inr le ↦ other (omega arith) ]
    ]

pub not_but : (out n : ℕ) → is_but (Some out) n ≡ false → out ≢ n
not_but out n h e = let on : (out == n) ≡ true = (Decides-eqb out n).1 e in absurd (cc)

pub below_count : (count : ℕ) (es : List Entry) (path : List ℕ) (n : ℕ) → AreNumbered count es → Stands es path n → n < count
below_count count es path n all h = All-contains (λ e. e.1 < count) es (path, n) all h

pub beside_below : (count : ℕ) (es : List Entry) (path : List ℕ) → AreNumbered count es → AllBelow count (numbers_beside es path)
beside_below count es path all k d l =
    let n = get_or (numbers_beside es path) k d in
    below_count count es path n all (beside_only es path n (Contains-get_or (numbers_beside es path) k d l))
