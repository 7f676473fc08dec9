-- Tasks that were put to their canonical bytes stand in the order of these, each once.
use Rattle.std.proofs.Common.{◌≡◌, ℕ, suc, ◌+◌, ◌<◌, true, List, [], ◌∷◌, length, get_or, map, Vec, Global, refl, sym, ap, subst, ◌∙◌, arith}
use Rattle.std.specs.Prelude.{All, Contains}
use Rattle.std.specs.BTreeMap.{insert_entry}
use Rattle.std.specs.BTreeSet.{insert_key}
use Rattle.std.specs.List.{fold}
use Rattle.std.specs.List.Sorted.{IsStrictlySortedBy}
use Rattle.std.specs.Ordering.{is_lt, match_ordering}
use Rattle.std.specs.declared.cmp.Ordering.{Ordering}
use Rattle.std.specs.declared.cmp.Ordering.TheVariants.{Less, Equal, Greater}
use Rattle.std.proofs.lemmas.Cmp.{nat_list_cmp_total}
use Rattle.std.proofs.lemmas.List.Elements.{All-nil, All-cons, All-head, All-tail, All-contains, All-contains_itself}
use Rattle.std.proofs.lemmas.Map.Keys.{sorted_from_all_adjacent}
use Rattle.std.proofs.lemmas.Map.Lookups.{exact_bytes}
use Rattle.pie_store.specs.Pending.{in_order, AreAscending}
use Rattle.pie_store.proofs.InOrder.{in_path_order}
use Rattle.pie_value.specs.Canonical.{enc_task, IsEncodableTask}
use Rattle.pie_value.specs.Order.{byte_order}
use Rattle.pie_value.specs.declared.task.Task.{Task}
use Rattle.pie_topdown_build.specs.inner.Reused.{by_key, put_task, InByteOrder}

-- ---- one more in a map

-- an entry of a map goes to where it goes by its bytes
pub put_there : (es : List (Vec ℕ Global × Task)) (k : Vec ℕ Global) (t : Task)
    → map by_key (insert_entry (λ (a b : Vec ℕ Global). byte_order a.items b.items) es k t) ≡ insert_entry byte_order (map by_key es) k.items t
put_there [] k t = refl
put_there (e ∷ es) k t = by (byte_order k.items e.0.items) (put_there es k t)
  where
    by : (o : Ordering)
        → map by_key (insert_entry (λ (a b : Vec ℕ Global). byte_order a.items b.items) es k t) ≡ insert_entry byte_order (map by_key es) k.items t
        → map by_key (match_ordering o ((k, t) ∷ e ∷ es) ((e.0, t) ∷ es) (e ∷ insert_entry (λ (a b : Vec ℕ Global). byte_order a.items b.items) es k t))
        ≡ match_ordering o ((k.items, t) ∷ by_key e ∷ map by_key es) ((e.0.items, t) ∷ map by_key es)
        (by_key e ∷ insert_entry byte_order (map by_key es) k.items t)
    by Less more = refl
    by Equal more = refl
    by Greater more = ap (λ (xs : List (List ℕ × Task)). by_key e ∷ xs) more

-- ---- the tasks that are held

abbrev Held : Type 0
Held = List (List ℕ × Task)

abbrev keys : Held → List (List ℕ)
keys held = map (λ (e : List ℕ × Task). e.0) held

abbrev tasks_in : Held → List Task
tasks_in held = map (λ (e : List ℕ × Task). e.1) held

-- each task is held at its bytes
abbrev AtBytes : Held → Type 0
AtBytes held = All (λ (e : List ℕ × Task). e.0 ≡ enc_task e.1) held

one_put : (held : Held) (t : Task) → keys (put_task held t) ≡ insert_key byte_order (keys held) (enc_task t)
one_put [] t = refl
one_put (e ∷ held) t = by (byte_order (enc_task t) e.0) (one_put held t)
  where
    by : (o : Ordering) → keys (put_task held t) ≡ insert_key byte_order (keys held) (enc_task t)
        → keys (match_ordering o ((enc_task t, t) ∷ e ∷ held) ((e.0, t) ∷ held) (e ∷ put_task held t))
        ≡ match_ordering o (enc_task t ∷ e.0 ∷ keys held) (e.0 ∷ keys held) (e.0 ∷ insert_key byte_order (keys held) (enc_task t))
    by Less more = refl
    by Equal more = refl
    by Greater more = ap (λ (ks : List (List ℕ)). e.0 ∷ ks) more

one_at : (held : Held) (t : Task) → AtBytes held → AtBytes (put_task held t)
one_at [] t at = All-cons (λ (e : List ℕ × Task). e.0 ≡ enc_task e.1) (enc_task t, t) [] refl at
one_at (e ∷ held) t at =
    by (byte_order (enc_task t) e.0) refl (one_at held t (All-tail (λ (x : List ℕ × Task). x.0 ≡ enc_task x.1) e held at))
  where
    by : (o : Ordering) → byte_order (enc_task t) e.0 ≡ o → AtBytes (put_task held t)
        → AtBytes (match_ordering o ((enc_task t, t) ∷ e ∷ held) ((e.0, t) ∷ held) (e ∷ put_task held t))
    by Less is more = All-cons (λ (x : List ℕ × Task). x.0 ≡ enc_task x.1) (enc_task t, t) (e ∷ held) refl at
    by Equal is more =
        All-cons (λ (x : List ℕ × Task). x.0 ≡ enc_task x.1) (e.0, t) held (sym (exact_bytes (enc_task t) e.0 is))
        (All-tail (λ (x : List ℕ × Task). x.0 ≡ enc_task x.1) e held at)
    by Greater is more =
        All-cons (λ (x : List ℕ × Task). x.0 ≡ enc_task x.1) e (put_task held t) (All-head (λ (x : List ℕ × Task). x.0 ≡ enc_task x.1) e held at) more

one_of : (P : Task → Type 0) (held : Held) (t : Task) → All P (tasks_in held) → P t → All P (tasks_in (put_task held t))
one_of P [] t all p = All-cons P t [] p all
one_of P (e ∷ held) t all p = by (byte_order (enc_task t) e.0) (one_of P held t (All-tail P e.1 (tasks_in held) all) p)
  where
    by : (o : Ordering) → All P (tasks_in (put_task held t))
        → All P (tasks_in (match_ordering o ((enc_task t, t) ∷ e ∷ held) ((e.0, t) ∷ held) (e ∷ put_task held t)))
    by Less more = All-cons P t (e.1 ∷ tasks_in held) p all
    by Equal more = All-cons P t (tasks_in held) p (All-tail P e.1 (tasks_in held) all)
    by Greater more = All-cons P e.1 (tasks_in (put_task held t)) (All-head P e.1 (tasks_in held) all) more

all_put : (held : Held) (tasks : List Task) → keys (fold put_task held tasks) ≡ fold (insert_key byte_order) (keys held) (map enc_task tasks)
all_put held [] = refl
all_put held (t ∷ tasks) =
    all_put (put_task held t) tasks ∙ ap (λ (ks : List (List ℕ)). fold (insert_key byte_order) ks (map enc_task tasks)) (one_put held t)

all_at : (held : Held) (tasks : List Task) → AtBytes held → AtBytes (fold put_task held tasks)
all_at held [] at = at
all_at held (t ∷ tasks) at = all_at (put_task held t) tasks (one_at held t at)

all_of : (P : Task → Type 0) (held : Held) (tasks : List Task) → All P (tasks_in held) → All P tasks → All P (tasks_in (fold put_task held tasks))
all_of P held [] all ps = all
all_of P held (t ∷ tasks) all ps = all_of P (put_task held t) tasks (one_of P held t all (All-head P t tasks ps)) (All-tail P t tasks ps)

bytes_are : (held : Held) → AtBytes held → map enc_task (tasks_in held) ≡ keys held
bytes_are [] at = refl
bytes_are (e ∷ held) at =
    ap (λ (ks : List (List ℕ)). enc_task e.1 ∷ ks) (bytes_are held (All-tail (λ (x : List ℕ × Task). x.0 ≡ enc_task x.1) e held at))
    ∙ ap (λ (b : List ℕ). b ∷ keys held) (sym (All-head (λ (x : List ℕ × Task). x.0 ≡ enc_task x.1) e held at))

-- ---- the end

tasks_same : (es : List (Vec ℕ Global × Task)) → tasks_in (map by_key es) ≡ map (λ (e : Vec ℕ Global × Task). e.1) es
tasks_same [] = refl
tasks_same (e ∷ es) = ap (λ (ts : List Task). e.1 ∷ ts) (tasks_same es)

below_is : (o : Ordering) → is_lt o ≡ true → o ≡ Less
below_is Less h = refl
below_is Equal h = absurd (cc)
below_is Greater h = absurd (cc)

rises : (bs : List (List ℕ)) → AreAscending bs → (k : ℕ) → k + 1 < length bs → byte_order (get_or bs k []) (get_or bs (k + 1) []) ≡ Less
rises bs h k lt =
    let next : suc k ≡ k + 1 = omega arith in
    subst (λ (n : ℕ). byte_order (get_or bs k []) (get_or bs n []) ≡ Less) next
    (below_is (byte_order (get_or bs k []) (get_or bs (suc k) [])) (h k [] (omega (arith, lt))))

module _ (tasks found : List Task) (es : List (Vec ℕ Global × Task)) (held : map by_key es ≡ fold put_task [] tasks)
    (is : found ≡ map (λ (e : Vec ℕ Global × Task). e.1) es) where
  found_is : found ≡ tasks_in (fold put_task [] tasks)
  found_is = is ∙ sym (tasks_same es) ∙ ap tasks_in held

  bytes_of : map enc_task found ≡ in_order (map enc_task tasks)
  bytes_of =
      ap (map enc_task) found_is
      ∙ bytes_are (fold put_task [] tasks) (all_at [] tasks (All-nil (λ (e : List ℕ × Task). e.0 ≡ enc_task e.1)))
      ∙ all_put [] tasks

  -- they are in the order of their bytes
  pub in_byte_order : InByteOrder tasks found
  in_byte_order =
      let order = in_path_order (map enc_task tasks) in
      record {
        ascending = subst (IsStrictlySortedBy byte_order) (sym bytes_of)
            (sorted_from_all_adjacent nat_list_cmp_total (in_order (map enc_task tasks)) []
            (λ k lt. rises (in_order (map enc_task tasks)) order.ascending k lt));
        same = λ b. (
          λ i. All-contains (λ (p : List ℕ). Contains (map enc_task tasks) p) (in_order (map enc_task tasks)) b order.named
              (subst (λ (bs : List (List ℕ)). Contains bs b) bytes_of i),
          λ i. subst (λ (bs : List (List ℕ)). Contains bs b) (sym bytes_of)
              (All-contains (λ (p : List ℕ). Contains (in_order (map enc_task tasks)) p) (map enc_task tasks) b order.all i),
        );
        from = λ t i.
            All-contains (Contains tasks) found t
            (subst (All (Contains tasks)) (sym found_is) (all_of (Contains tasks) [] tasks (All-nil (Contains tasks)) (All-contains_itself tasks))) i;
      }

  -- each has canonical bytes
  pub still_encodable : All IsEncodableTask tasks → All IsEncodableTask found
  still_encodable all = subst (All IsEncodableTask) (sym found_is) (all_of IsEncodableTask [] tasks (All-nil IsEncodableTask) all)
