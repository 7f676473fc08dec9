-- Tasks sorted by their canonical bytes are in task order.
use Rattle.std.proofs.Common.{◌≡◌, ℕ, ◌<◌, ◌+◌, false, List, [], ◌∷◌, length, get_or, map, All, Vec, Global, IsPermutation, IsSortedBy}
use Rattle.std.proofs.Common.{refl, sym, ap, ◌∙◌, subst, arith}
use Rattle.std.proofs.lemmas.List.{get_or-map, length-map}
use Rattle.std.proofs.lemmas.List.Elements.{All-nil, All-cons, All-get_or}
use Rattle.std.proofs.lemmas.List.Sorted.{All-permutation, IsPermutation-map}
use Rattle.std.specs.Ordering.{is_lt}
use Rattle.pie_value.specs.declared.task.Task.{Task}
use Rattle.pie_value.specs.Canonical.{enc_task}
use Rattle.pie_value.specs.Order.{byte_order}
use Rattle.pie_report.specs.inner.Keys.{key_of, plain_key, InKeyOrder}
use Rattle.pie_report.specs.Order.{InTaskOrder}

abbrev Keyed : Type 0
Keyed = Vec ℕ Global × Task

-- the bytes are those of the task
abbrev HasKey : Keyed → Type 0
HasKey k = k.0.items ≡ enc_task k.1

abbrev task_of : Keyed → Task
task_of k = k.1

all_have_keys : (ks : List Keyed) (ts : List Task) → map plain_key ks ≡ map key_of ts → All HasKey ks
all_have_keys [] ts e = All-nil HasKey
all_have_keys (k ∷ ks) [] e = cc
all_have_keys (k ∷ ks) (t ∷ ts) e =
    let first : plain_key k ≡ key_of t = cc in
    let bytes : k.0.items ≡ enc_task t = ap (λ (p : List ℕ × Task). p.0) first in
    let task : k.1 ≡ t = ap (λ (p : List ℕ × Task). p.1) first in
    let rest : map plain_key ks ≡ map key_of ts = cc in
    All-cons HasKey k ks (bytes ∙ ap enc_task (sym task)) (all_have_keys ks ts rest)

tasks_are : (ks : List Keyed) (ts : List Task) → map plain_key ks ≡ map key_of ts → map task_of ks ≡ ts
tasks_are [] [] e = refl
tasks_are [] (t ∷ ts) e = cc
tasks_are (k ∷ ks) [] e = cc
tasks_are (k ∷ ks) (t ∷ ts) e =
    let first : plain_key k ≡ key_of t = cc in
    let task : k.1 ≡ t = ap (λ (p : List ℕ × Task). p.1) first in
    let rest : map plain_key ks ≡ map key_of ts = cc in
    let more : map task_of ks ≡ ts = tasks_are ks ts rest in cc

ascending : (ks : List Keyed) → All HasKey ks → IsSortedBy (λ a b. is_lt (byte_order a.0.items b.0.items)) ks
    → IsSortedBy (λ t u. is_lt (byte_order (enc_task t) (enc_task u))) (map task_of ks)
ascending [] keys up k d low high = absurd (omega arith)
ascending (first ∷ rest) keys up k d low high =
    let ks : List Keyed = first ∷ rest in
    let within : k + 1 < length ks = subst (λ n. k + 1 < n) (length-map ks task_of) high in
    let at : get_or (map task_of ks) k d ≡ task_of (get_or ks k first) = get_or-map task_of ks k first d (omega arith) in
    let next : get_or (map task_of ks) (k + 1) d ≡ task_of (get_or ks (k + 1) first) = get_or-map task_of ks (k + 1) first d within in
    let key : (get_or ks k first).0.items ≡ enc_task (get_or ks k first).1 = All-get_or HasKey ks k first (omega arith) keys in
    let next_key : (get_or ks (k + 1) first).0.items ≡ enc_task (get_or ks (k + 1) first).1 = All-get_or HasKey ks (k + 1) first within keys in
    let sorted : is_lt (byte_order (get_or ks (k + 1) first).0.items (get_or ks k first).0.items) ≡ false = up k first low within in
    rw (at, next, ← key, ← next_key) sorted

pub in_order : (ts : List Task) (before after : List Keyed) (tasks : List Task) → map plain_key before ≡ map key_of ts
    → InKeyOrder before after → tasks ≡ map (λ k. k.1) after → InTaskOrder ts tasks
in_order ts before after tasks made sorted are =
    let same : IsPermutation ts (map task_of after) =
    subst (λ (us : List Task). IsPermutation us (map task_of after)) (tasks_are before ts made) (IsPermutation-map task_of before after sorted.same) in
    let keys : All HasKey after = All-permutation HasKey before after sorted.same (all_have_keys before ts made) in
    let is : map task_of after ≡ tasks = sym are in
    subst (λ us. InTaskOrder ts us) is (record { same = same; ascending = ascending after keys sorted.ascending })
