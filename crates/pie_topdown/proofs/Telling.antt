-- The tasks that were reused are told, one after another.
use Rattle.std.proofs.Common.{◌≡◌, ℕ, ◌+◌, ◌<◌, ◌≤◌, List, [], ◌∷◌, ◌++◌, Some, length, map, take, get_or, refl, sym, ap, subst, ◌∙◌, arith}
use Rattle.std.specs.Prelude.{slice_get}
use Rattle.std.proofs.lemmas.List.{append_assoc, append-nil, get_or_default, take_more, take_all}
use Rattle.std.proofs.lemmas.Option.{slice_get_within}
use Rattle.pie_value.specs.declared.task.Task.{Task}
use Rattle.pie_graph.specs.declared.edges.TaskNo.{TaskNo}
use Rattle.pie_graph.specs.Numbers.{numbers}
use Rattle.pie_old.specs.inner.Rows.{tasks_at}
use Rattle.pie_topdown.specs.declared.builder.Builder.{Builder}
use Rattle.pie_topdown.specs.inner.Ran.{AddsNamed, AddsOne}

one_some : {A : Type 0} (x y : A) → Some x ≡ Some y → x ≡ y
one_some x y e = cc

-- ---- one

pub one_told : (b : Builder) (n : ℕ) (t copy : Task) (old new : List Task) → slice_get b.ledger.tables.names n ≡ Some t → copy ≡ t → new ≡ old ++ copy ∷ []
    → AddsOne b n old new
one_told b n t copy old new named same added u at =
    added ∙ ap (λ (x : Task). old ++ x ∷ []) (same ∙ one_some t u (sym named ∙ at))

pub past_told : (b : Builder) (n : ℕ) (old new : List Task) → length b.ledger.tables.names ≤ n → AddsOne b n old new
past_told b n old new past t at = absurd (let within = slice_get_within b.ledger.tables.names n t at in omega (arith, within, past))

-- ---- all

-- the numbers of some and one more have the tasks of the some and one more
last_at : (names : List Task) (ns : List ℕ) (n : ℕ) (ts : List Task) → tasks_at names (ns ++ n ∷ []) ≡ map Some ts
    → (us : List Task) × (t : Task) × (ts ≡ us ++ t ∷ []) × (tasks_at names ns ≡ map Some us) × (slice_get names n ≡ Some t)
last_at names [] n [] e = absurd (cc)
last_at names [] n (t ∷ []) e = ([], t, refl, refl, here e)
  where
    here : slice_get names n ∷ [] ≡ Some t ∷ [] → slice_get names n ≡ Some t
    here q = cc
last_at names [] n (t ∷ u ∷ ts) e = absurd (cc)
last_at names (m ∷ ns) n [] e = absurd (cc)
last_at names (m ∷ ns) n (t ∷ ts) e =
    let q = last_at names ns n ts (rest e) in
    (t ∷ q.0, q.1, ap (λ xs. t ∷ xs) q.2, both q.0 (first e) q.3, q.4)
  where
    first : slice_get names m ∷ tasks_at names (ns ++ n ∷ []) ≡ Some t ∷ map Some ts → slice_get names m ≡ Some t
    first z = cc

    rest : slice_get names m ∷ tasks_at names (ns ++ n ∷ []) ≡ Some t ∷ map Some ts → tasks_at names (ns ++ n ∷ []) ≡ map Some ts
    rest z = cc

    both : (us : List Task) → slice_get names m ≡ Some t → tasks_at names ns ≡ map Some us → slice_get names m ∷ tasks_at names ns ≡ Some t ∷ map Some us
    both us a b = cc

pub none_told : (b : Builder) (nos : List TaskNo) (old : List Task) → AddsNamed b (numbers (take 0 nos)) old old
none_told b nos old [] e = sym (append-nil old)
none_told b nos old (t ∷ ts) e = absurd (cc)

numbers_push : (nos : List TaskNo) (k : TaskNo) → numbers (nos ++ k ∷ []) ≡ numbers nos ++ k.0 ∷ []
numbers_push [] k = refl
numbers_push (x ∷ nos) k = ap (λ ns. x.0 ∷ ns) (numbers_push nos k)

pub more_told : (b : Builder) (nos : List TaskNo) (i : ℕ) (k : TaskNo) (old mid new : List Task) → i < length nos → k ≡ get_or nos i k
    → AddsNamed b (numbers (take i nos)) old mid → AddsOne b k.0 mid new → AddsNamed b (numbers (take (i + 1) nos)) old new
more_told b nos i k old mid new inside at before one ts e =
    let is : numbers (take (i + 1) nos) ≡ numbers (take i nos) ++ k.0 ∷ [] =
    ap numbers (take_more nos i k inside ∙ ap (λ (x : TaskNo). take i nos ++ x ∷ []) (sym at)) ∙ numbers_push (take i nos) k in
    let q = last_at b.ledger.tables.names (numbers (take i nos)) k.0 ts (sym (ap (tasks_at b.ledger.tables.names) is) ∙ e) in
    one q.1 q.4 ∙ ap (λ (xs : List Task). xs ++ q.1 ∷ []) (before q.0 q.3) ∙ append_assoc old q.0 (q.1 ∷ []) ∙ ap (λ (xs : List Task). old ++ xs) (sym q.2)

pub all_told : (b : Builder) (nos : List TaskNo) (i : ℕ) (old new : List Task) → length nos ≤ i → AddsNamed b (numbers (take i nos)) old new
    → AddsNamed b (numbers nos) old new
all_told b nos i old new past adds = subst (λ (xs : List TaskNo). AddsNamed b (numbers xs) old new) (take_all i nos past) adds

-- an item inside equal lists
pub same_item : {A : Type 0} (xs ys : List A) (i : ℕ) (d : A) → xs ≡ ys → i < length xs → get_or xs i d ≡ get_or ys i (get_or xs i d)
same_item xs ys i d same inside = subst (λ zs. get_or xs i d ≡ get_or zs i (get_or xs i d)) same (get_or_default xs i d (get_or xs i d) inside)
