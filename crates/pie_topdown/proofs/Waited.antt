-- The tasks of what waits are those of its frames of the model.
use Rattle.std.proofs.Common.{◌≡◌, ℕ, zero, suc, ◌<◌, true, List, [], ◌∷◌, ◌++◌, map, reverse, length, refl, sym, ap, subst, ◌∙◌, arith}
use Rattle.std.specs.Prelude.{slice_index_or, All}
use Rattle.std.proofs.lemmas.List.{map-append, reverse-append}
use Rattle.pie_value.specs.Canonical.{enc_task}
use Rattle.pie_model.specs.Paths.{among}
use Rattle.pie_model.specs.inner.Stack.{Frame as ModelFrame, tasks_of}
use Rattle.pie_model.proofs.Basics.{among_here, among_there}
use Rattle.pie_task_laws.specs.Sites.{Site, Build}
use Rattle.pie_topdown_laws.specs.Whole.{Entry, checks, waits, AreEntries, IsEntry}
use Rattle.pie_topdown.specs.declared.hand.Frame.{Frame}
use Rattle.pie_topdown.specs.inner.Right.{entry_of, entries_up}

-- the task of what waits
abbrev pub task_up : Entry → List ℕ
task_up (checks rec at required) = enc_task rec.task
task_up (waits c) = enc_task c.waiting.notes.task

-- this holds of each
abbrev pub EachUp : (Entry → Type 0) → List Entry → Type 0
EachUp P [] = Unit {0}
EachUp P (e ∷ es) = P e × EachUp P es

each_more : (P Q : Entry → Type 0) → ((e : Entry) → P e → Q e) → (es : List Entry) → EachUp P es → EachUp Q es
each_more P Q f [] h = tt
each_more P Q f (e ∷ es) h = (f e h.0, each_more P Q f es h.1)

each_front : (P : Entry → Type 0) (xs ys : List Entry) → EachUp P (xs ++ ys) → EachUp P xs × EachUp P ys
each_front P [] ys h = (tt, h)
each_front P (x ∷ xs) ys h = let q = each_front P xs ys h.1 in ((h.0, q.0), q.1)

each_turned : (P : Entry → Type 0) (es : List Entry) → EachUp P (reverse es) → EachUp P es
each_turned P [] h = tt
each_turned P (e ∷ es) h =
    let q = each_front P (reverse es) (e ∷ []) (subst (EachUp P) (reverse-append (e ∷ []) es) h) in
    (q.1.0, each_turned P es q.0)

one_up : (x : Site) (b : Build) (root : List ℕ) (gs : List ModelFrame) (e : Entry) (g : ModelFrame) → IsEntry x b root gs e g → g.task ≡ task_up e
one_up x b root gs (checks rec at required) g W = ap (λ (z : ModelFrame). z.task) W.is ∙ W.of_record.check.checked.task
one_up x b root gs (waits c) g C = C.frame.task

all_up : (x : Site) (b : Build) (root : List ℕ) (es : List Entry) (fs : List ModelFrame) → AreEntries x b root es fs
    → EachUp (λ e. among (task_up e) (tasks_of fs) ≡ true) es
all_up x b root [] [] h = tt
all_up x b root [] (g ∷ gs) h = absurd h
all_up x b root (e ∷ es) [] h = absurd h
all_up x b root (e ∷ es) (g ∷ gs) h = (
  subst (λ t. among t (g.task ∷ tasks_of gs) ≡ true) (one_up x b root gs e g h.0) (among_here g.task (tasks_of gs)),
  each_more (λ d. among (task_up d) (tasks_of gs) ≡ true) (λ d. among (task_up d) (g.task ∷ tasks_of gs) ≡ true)
      (λ d on. among_there (task_up d) g.task (tasks_of gs) on) es (all_up x b root es gs h.1),
)

from_each : (P : Entry → Type 0) (es : List Frame) → EachUp P (map entry_of es) → (i : ℕ) (d : Frame) → i < length es → P (entry_of (slice_index_or es i d))
from_each P [] h i d l = absurd (omega (arith, l))
from_each P (f ∷ fs) h zero d l = h.0
from_each P (f ∷ fs) h (suc i) d l = from_each P fs h.1 i d (omega (arith, l))

-- the task of each that waits is among those
pub waits_among : (x : Site) (b : Build) (root : List ℕ) (es : List Frame) (fs : List ModelFrame) → AreEntries x b root (entries_up es) fs
    → All (λ f. among (task_up (entry_of f)) (tasks_of fs) ≡ true) es
waits_among x b root es fs h =
    from_each (λ e. among (task_up e) (tasks_of fs) ≡ true) es
    (each_turned (λ e. among (task_up e) (tasks_of fs) ≡ true) (map entry_of es) (all_up x b root (entries_up es) fs h))

-- one more that waits is the newest
pub entries_push : (es : List Frame) (e : Frame) → entries_up (es ++ e ∷ []) ≡ entry_of e ∷ entries_up es
entries_push es e = ap reverse (map-append entry_of es (e ∷ [])) ∙ reverse-append (map entry_of es) (entry_of e ∷ [])

-- they are the same tasks
pub up_same : (x : Site) (b : Build) (root : List ℕ) (es : List Entry) (fs : List ModelFrame) → AreEntries x b root es fs → map task_up es ≡ tasks_of fs
up_same x b root [] [] h = refl
up_same x b root [] (g ∷ gs) h = absurd h
up_same x b root (e ∷ es) [] h = absurd h
up_same x b root (e ∷ es) (g ∷ gs) h =
    ap (λ t. t ∷ map task_up es) (sym (one_up x b root gs e g h.0)) ∙ ap (λ ts. g.task ∷ ts) (up_same x b root es gs h.1)
