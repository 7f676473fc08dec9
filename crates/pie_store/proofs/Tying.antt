-- The numbers of the tasks that records require: what is kept of them by one record more.
use Rattle.std.proofs.Common.{◌≡◌, ℕ, List, [], ◌∷◌, ◌++◌, length, map, refl, sym, ap, subst, ◌∙◌, arith}
use Rattle.std.specs.Prelude.{Option, Some, Vec, slice_get}
use Rattle.std.specs.List.{zip}
use Rattle.std.specs.Option.{option_map}
use Rattle.std.proofs.lemmas.List.{get_or_append_left, length-append, map-append}
use Rattle.std.proofs.lemmas.Option.{slice_get-map, slice_get-get_or, slice_get_within}
use Rattle.pie_value.specs.declared.task.Task.{Task}
use Rattle.pie_graph.specs.declared.edges.TaskNo.{TaskNo}
use Rattle.pie_record.specs.declared.task_record.TaskRecord.{TaskRecord}
use Rattle.pie_store.specs.Canonical.{needs}
use Rattle.pie_record.specs.inner.Names.{Numbers}
use Rattle.pie_store.specs.Ranks.{Ranked, AreRanked}
use Rattle.pie_store.specs.inner.Ties.{tasks_at, named_by, AreNeeds, tasks_among}
use Rattle.pie_store.proofs.Ranking.{task_of}

-- ---- the tasks of records side by side with heights

zip_tasks : (rows : List TaskRecord) (heights : List ℕ) → length heights ≡ length rows → tasks_among (zip rows heights) ≡ map task_of rows
zip_tasks [] heights e = refl
zip_tasks (r ∷ rows) [] e = absurd (omega (arith, e))
zip_tasks (r ∷ rows) (h ∷ heights) e = ap (λ (l : List Task). r.task ∷ l) (zip_tasks rows heights (omega (arith, e)))

pub tasks_are : (tasks : List Task) (heights : List ℕ) (rows : List TaskRecord) → AreRanked tasks heights rows → tasks ≡ tasks_among (zip rows heights)
tasks_are tasks heights rows a = a.names ∙ sym (zip_tasks rows heights a.same)

-- a number of a task among records is its number among the names, and the other way
pub number_inside : (tasks : List Task) (heights : List ℕ) (rows : List TaskRecord) (s : Ranked) (t : Task) (o : Option TaskNo) → AreRanked tasks heights rows
    → zip rows heights ≡ s → Numbers (tasks_among s) t o → Numbers tasks t o
number_inside tasks heights rows s t o a is = subst (λ (ts : List Task). Numbers ts t o) (sym (tasks_are tasks heights rows a ∙ ap tasks_among is))

pub number_outside : (tasks : List Task) (heights : List ℕ) (rows : List TaskRecord) (s : Ranked) (t : Task) (o : Option TaskNo) → AreRanked tasks heights rows
    → zip rows heights ≡ s → Numbers tasks t o → Numbers (tasks_among s) t o
number_outside tasks heights rows s t o a is = subst (λ (ts : List Task). Numbers ts t o) (tasks_are tasks heights rows a ∙ ap tasks_among is)

-- the task of the record at a place
pub task_there : (rows : List TaskRecord) (heights : List ℕ) (i : ℕ) (r : TaskRecord) → length heights ≡ length rows → slice_get rows i ≡ Some r
    → slice_get (tasks_among (zip rows heights)) i ≡ Some r.task
task_there rows heights i r same e =
    ap (λ (ts : List Task). slice_get ts i) (zip_tasks rows heights same) ∙ slice_get-map task_of rows i ∙ ap (option_map task_of) e

-- ---- one record more

same_head : {X : Type 0} (x y : X) (xs ys : List X) → x ∷ xs ≡ y ∷ ys → x ≡ y
same_head x y xs ys e = cc

same_tail : {X : Type 0} (x y : X) (xs ys : List X) → x ∷ xs ≡ y ∷ ys → xs ≡ ys
same_tail x y xs ys e = cc

-- a task keeps its number where more tasks follow
number_stays : (tasks more : List Task) (n : ℕ) (t : Task) → slice_get tasks n ≡ Some t → slice_get (tasks ++ more) n ≡ slice_get tasks n
number_stays tasks more n t e =
    let lt = slice_get_within tasks n t e in
    slice_get-get_or (tasks ++ more) n t (omega (arith, lt, length-append tasks more))
    ∙ ap Some (get_or_append_left tasks more t n lt)
    ∙ sym (slice_get-get_or tasks n t lt)

numbers_stay : (tasks more : List Task) (ns : List ℕ) (ts : List Task)
    → tasks_at tasks ns ≡ map Some ts → tasks_at (tasks ++ more) ns ≡ tasks_at tasks ns
numbers_stay tasks more [] ts e = refl
numbers_stay tasks more (n ∷ ns) [] e = absurd (cc)
numbers_stay tasks more (n ∷ ns) (t ∷ ts) e =
    let here : slice_get tasks n ≡ Some t = same_head (slice_get tasks n) (Some t) (tasks_at tasks ns) (map Some ts) e in
    let rest : tasks_at tasks ns ≡ map Some ts = same_tail (slice_get tasks n) (Some t) (tasks_at tasks ns) (map Some ts) e in
    ap (λ (o : Option Task). o ∷ tasks_at (tasks ++ more) ns) (number_stays tasks more n t here)
    ∙ ap (λ (os : List (Option Task)). slice_get tasks n ∷ os) (numbers_stay tasks more ns ts rest)

abbrev named : {Z : Type 0} → List Task → Vec TaskNo Z → List (Option Task)
named tasks nos = named_by tasks nos.items

abbrev wanted : TaskRecord → List (Option Task)
wanted r = map Some (needs r)

needs_stay : {Z : Type 0} (tasks more : List Task) (each : List (Vec TaskNo Z)) (rows : List TaskRecord)
    → AreNeeds tasks each rows → AreNeeds (tasks ++ more) each rows
needs_stay tasks more [] rows e = e
needs_stay tasks more (nos ∷ each) [] e = absurd (cc)
needs_stay {Z} tasks more (nos ∷ each) (r ∷ rows) e =
    let here : named tasks nos ≡ wanted r = same_head (named tasks nos) (wanted r) (map (named tasks) each) (map wanted rows) e in
    let rest : AreNeeds tasks each rows = same_tail (named tasks nos) (wanted r) (map (named tasks) each) (map wanted rows) e in
    ap (λ (os : List (Option Task)). os ∷ map (named (tasks ++ more)) each)
    (numbers_stay tasks more (map (λ (t : TaskNo). t.0) nos.items) (needs r) here ∙ here)
    ∙ ap (λ (oss : List (List (Option Task))). wanted r ∷ oss) (needs_stay tasks more each rows rest)

pub needs_push : {Z : Type 0} (tasks more : List Task) (each : List (Vec TaskNo Z)) (nos : Vec TaskNo Z) (rows : List TaskRecord) (r : TaskRecord)
    → AreNeeds tasks each rows → named_by tasks nos.items ≡ map Some (needs r) → AreNeeds (tasks ++ more) (each ++ nos ∷ []) (rows ++ r ∷ [])
needs_push {Z} tasks more each nos rows r all e =
    let here : named (tasks ++ more) nos ≡ wanted r = numbers_stay tasks more (map (λ (t : TaskNo). t.0) nos.items) (needs r) e ∙ e in
    map-append (named (tasks ++ more)) each (nos ∷ [])
    ∙ ap (λ (oss : List (List (Option Task))). oss ++ named (tasks ++ more) nos ∷ []) (needs_stay tasks more each rows all)
    ∙ ap (λ (os : List (Option Task)). map wanted rows ++ os ∷ []) here
    ∙ sym (map-append wanted rows (r ∷ []))
