-- What stands at the end of a store, and before its roots.
use Rattle.std.proofs.Common.{◌≡◌, ℕ, ◌-◌, ◌<◌, Bool, List, [], ◌∷◌, length, Ok, Err, refl, sym, ap, subst, ◌∙◌, arith}
use Rattle.std.specs.Prelude.{Option, Some, None, Result}
use Rattle.pie_value.specs.declared.task.Task.{Task}
use Rattle.pie_record.specs.Reading.{Parsed as Part, bytes_at}
use Rattle.pie_record.specs.declared.task_record.TaskRecord.{TaskRecord}
use Rattle.pie_store.specs.declared.decoding.Head.{Head}
use Rattle.pie_store.specs.declared.image.StoreImage.{StoreImage}
use Rattle.pie_store.specs.declared.store_fault.StoreFault.{StoreFault}
use Rattle.pie_store.specs.declared.store_fault.StoreFault.TheVariants.{Rest as More}
use Rattle.pie_store.specs.Ranks.{Ranked, knows}
use Rattle.pie_store.specs.inner.Reading.{Parsed, placed, list_at, next_func, next_root, next_row, first_missing, closed, then_image, image_of, tail_of}
use Rattle.pie_store.specs.inner.Agreement.{AgreesWhole}
use Rattle.pie_store.specs.inner.Reading.{contents_1, contents_2, rows_of, tasks_of}

pub left_over : (rest : List ℕ) (image : StoreImage) → 0 < length rest → closed None rest image ≡ Err More
left_over [] image h = absurd (omega (arith, h))
left_over (b ∷ rest) image h = refl

-- each root has a record, and something is left
pub tail_more : (end : ℕ) (known : List ℕ → Bool) (version : ℕ) (pipeline : Option (List ℕ)) (funcs : List (List ℕ × List ℕ))
    (bs : List ℕ) (roots : List (Task × ℕ)) (mid : List ℕ) (rows : Ranked) (rest : List ℕ)
    → list_at end (next_root end) bs ≡ Ok (roots, mid) → list_at end (next_row known end) mid ≡ Ok (rows, rest)
    → first_missing rows roots ≡ None → 0 < length rest → tail_of end known version pipeline funcs bs ≡ Err More
tail_more end known version pipeline funcs bs roots mid rows rest e f m h =
    ap (λ (p : Parsed (List (Task × ℕ))). then_image p (λ rs after.
    then_image (list_at end (next_row known end) after) (λ ws left. closed (first_missing ws rs) left (image_of version pipeline funcs rs ws)))) e
    ∙ ap (λ (p : Parsed Ranked). then_image p (λ ws left. closed (first_missing ws roots) left (image_of version pipeline funcs roots ws))) f
    ∙ ap (λ (o : Option ℕ). closed o rest (image_of version pipeline funcs roots rows)) m
    ∙ left_over rest (image_of version pipeline funcs roots rows) h

-- what follows roots and records
pub tail_closes : (end : ℕ) (known : List ℕ → Bool) (version : ℕ) (pipeline : Option (List ℕ)) (funcs : List (List ℕ × List ℕ))
    (bs : List ℕ) (roots : List (Task × ℕ)) (mid : List ℕ) (rows : Ranked) (rest : List ℕ)
    → list_at end (next_root end) bs ≡ Ok (roots, mid) → list_at end (next_row known end) mid ≡ Ok (rows, rest)
    → tail_of end known version pipeline funcs bs ≡ closed (first_missing rows roots) rest (image_of version pipeline funcs roots rows)
tail_closes end known version pipeline funcs bs roots mid rows rest e f =
    ap (λ (p : Parsed (List (Task × ℕ))). then_image p (λ rs after.
    then_image (list_at end (next_row known end) after) (λ ws left. closed (first_missing ws rs) left (image_of version pipeline funcs rs ws)))) e
    ∙ ap (λ (p : Parsed Ranked). then_image p (λ ws left. closed (first_missing ws roots) left (image_of version pipeline funcs roots ws))) f

-- the fault that is met behind them, by a slice of the roots
pub tail_faults : (end : ℕ) (known : List ℕ → Bool) (version : ℕ) (pipeline : Option (List ℕ)) (funcs : List (List ℕ × List ℕ))
    (bs : List ℕ) (roots slice : List (Task × ℕ)) (mid : List ℕ) (rows : Ranked) (rest : List ℕ) (r : Result StoreImage StoreFault)
    → list_at end (next_root end) bs ≡ Ok (roots, mid) → list_at end (next_row known end) mid ≡ Ok (rows, rest) → slice ≡ roots
    → ((image : StoreImage) → AgreesWhole r (closed (first_missing rows slice) rest image))
    → AgreesWhole r (tail_of end known version pipeline funcs bs)
tail_faults end known version pipeline funcs bs roots slice mid rows rest r e f s h =
    let image = image_of version pipeline funcs roots rows in
    subst (AgreesWhole r) (sym (tail_closes end known version pipeline funcs bs roots mid rows rest e f))
    (subst (λ (l : List (Task × ℕ)). AgreesWhole r (closed (first_missing rows l) rest image)) s (h image))

-- and the image that is made where there is none
pub tail_made : (end : ℕ) (known : List ℕ → Bool) (head : Head) (bs : List ℕ) (roots slice : List (Task × ℕ)) (mid : List ℕ)
    (rows : Ranked) (rest : List ℕ) (tasks : List Task) (kept : List TaskRecord) (funcs : List (List ℕ × List ℕ))
    → list_at end (next_root end) bs ≡ Ok (roots, mid) → list_at end (next_row known end) mid ≡ Ok (rows, rest) → slice ≡ roots
    → ((image : StoreImage) → closed (first_missing rows slice) rest image ≡ Ok image)
    → tasks ≡ tasks_of slice → kept ≡ rows_of rows → funcs ≡ head.funcs.items
    → tail_of end known head.version head.pipeline head.funcs.items bs
    ≡ Ok (record { version = head.version; pipeline = head.pipeline; funcs = funcs; roots = tasks; rows = kept })
tail_made end known head bs roots slice mid rows rest tasks kept funcs e f s h t k g =
    let v = head.version in
    let p = head.pipeline in
    let image = image_of v p head.funcs.items roots rows in
    tail_closes end known v p head.funcs.items bs roots mid rows rest e f
    ∙ ap (λ (l : List (Task × ℕ)). closed (first_missing rows l) rest image) (sym s)
    ∙ h image
    ∙ ap (λ (fs : List (List ℕ × List ℕ)). Ok (record { version = v; pipeline = p; funcs = fs; roots = tasks_of roots; rows = rows_of rows })) (sym g)
    ∙ ap (λ (ts : List Task). Ok (record { version = v; pipeline = p; funcs = funcs; roots = ts; rows = rows_of rows })) (sym (t ∙ ap tasks_of s))
    ∙ ap (λ (rs : List TaskRecord). Ok (record { version = v; pipeline = p; funcs = funcs; roots = tasks; rows = rs })) (sym k)

-- no root lacks a record, and nothing is left, or something
pub closes_whole : (o : Option ℕ) (rest : List ℕ) (image : StoreImage) → o ≡ None → length rest ≡ 0 → closed o rest image ≡ Ok image
closes_whole None [] image h e = refl
closes_whole None (b ∷ rest) image h e = absurd (omega (arith, e))
closes_whole (Some at) rest image h e = absurd (cc)

pub closes_more : (o : Option ℕ) (rest : List ℕ) (image : StoreImage) → o ≡ None → 0 < length rest → closed o rest image ≡ Err More
closes_more None rest image h e = left_over rest image e
closes_more (Some at) rest image h e = absurd (cc)

-- two tests that answer alike
same_test : (f g : List ℕ → Bool) → ((name : List ℕ) → f name ≡ g name) → f ≡ g
same_test f g h = λ i name. h name i

pub contents_1_is : (end : ℕ) (bs digest rest : List ℕ) (known : List ℕ → Bool) (funcs : List (List ℕ × List ℕ))
    → ((name : List ℕ) → known name ≡ knows None name) → bytes_at 32 bs ≡ Ok (digest, rest) → funcs ≡ []
    → contents_1 end bs ≡ tail_of end known 1 (Some digest) funcs rest
contents_1_is end bs digest rest known funcs h e none =
    ap (λ (p : Part (List ℕ)). then_image (placed (end - length bs) p) (λ d left. tail_of end (knows None) 1 (Some d) [] left)) e
    ∙ ap (λ (k : List ℕ → Bool). tail_of end k 1 (Some digest) [] rest) (sym (same_test known (knows None) h))
    ∙ ap (λ (fs : List (List ℕ × List ℕ)). tail_of end known 1 (Some digest) fs rest) (sym none)

pub contents_2_is : (end : ℕ) (bs rest : List ℕ) (known : List ℕ → Bool) (funcs : List (List ℕ × List ℕ))
    → ((name : List ℕ) → known name ≡ knows (Some funcs) name) → list_at end (next_func end) bs ≡ Ok (funcs, rest)
    → contents_2 end bs ≡ tail_of end known 2 None funcs rest
contents_2_is end bs rest known funcs h e =
    ap (λ (p : Parsed (List (List ℕ × List ℕ))). then_image p (λ fs left. tail_of end (knows (Some fs)) 2 None fs left)) e
    ∙ ap (λ (k : List ℕ → Bool). tail_of end k 2 None funcs rest) (sym (same_test known (knows (Some funcs)) h))
