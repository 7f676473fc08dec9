-- One turn of a walk down, in the words of its code.
use Rattle.std.proofs.Common.{◌≡◌, ℕ, zero, suc, ◌<◌, ◌≤◌, ◌+◌, List, [], ◌∷◌, ◌++◌, length, get_or, set, map, refl, sym, ap, ◌∙◌, subst, arith}
use Rattle.std.specs.Prelude.{slice_index, reverse}
use Rattle.std.proofs.lemmas.List.{reverse-append, get_or-set_same, get_or-map, get_or_default, length-map}
use Rattle.pie_graph.specs.declared.edges.TaskNo.{TaskNo}
use Rattle.pie_graph.specs.Numbers.{numbers}
use Rattle.pie_graph.specs.Rows.{Row, row_at}
use Rattle.pie_reach.specs.declared.descent.State.{State}
use Rattle.pie_reach.specs.declared.descent.State.TheVariants.{New, Open, Done}
use Rattle.pie_reach.specs.declared.descent.Visit.{Visit}
use Rattle.pie_reach.specs.inner.Reaches.{height_over}
use Rattle.pie_reach.specs.inner.Descents.{state_of, height_at, needs_of, Holds, HasCycle, KeepsMet, left_new, left_open}
use Rattle.pie_reach.proofs.DescentSteps.{finish, advance, enter, cycle, met_stays}

-- the work that is left, of states and of a stack with its top last
abbrev pub left_at : List Row → List State → List Visit → ℕ
left_at rows states items = left_new rows states + left_open rows (reverse items)

left_new_done : (rows : List Row) (states : List State) (n h : ℕ) → state_of states n ≡ Open → left_new rows (set states n (Done h)) ≡ left_new rows states
left_new_done [] states n h e = refl
left_new_done (r ∷ rs) [] n h e = refl
left_new_done (r ∷ rs) (New ∷ ss) zero h e = cc
left_new_done (r ∷ rs) (Open ∷ ss) zero h e = refl
left_new_done (r ∷ rs) (Done k ∷ ss) zero h e = refl
left_new_done (r ∷ rs) (New ∷ ss) (suc n) h e = ap (λ m. length r.needs + 2 + m) (left_new_done rs ss n h e)
left_new_done (r ∷ rs) (Open ∷ ss) (suc n) h e = left_new_done rs ss n h e
left_new_done (r ∷ rs) (Done k ∷ ss) (suc n) h e = left_new_done rs ss n h e

left_new_open : (rows : List Row) (states : List State) (n : ℕ) → n < length rows → n < length states → state_of states n ≡ New
    → left_new rows (set states n Open) + (length (row_at rows n).needs + 2) ≡ left_new rows states
left_new_open [] states n l m e = absurd (omega arith)
left_new_open (r ∷ rs) [] n l m e = absurd (omega arith)
left_new_open (r ∷ rs) (New ∷ ss) zero l m e = omega arith
left_new_open (r ∷ rs) (Open ∷ ss) zero l m e = cc
left_new_open (r ∷ rs) (Done k ∷ ss) zero l m e = cc
left_new_open (r ∷ rs) (New ∷ ss) (suc n) l m e = omega (arith, left_new_open rs ss n (omega arith) (omega arith) e)
left_new_open (r ∷ rs) (Open ∷ ss) (suc n) l m e = left_new_open rs ss n (omega arith) (omega arith) e
left_new_open (r ∷ rs) (Done k ∷ ss) (suc n) l m e = left_new_open rs ss n (omega arith) (omega arith) e

top_first : (items rest : List Visit) (f : Visit) → items ≡ rest ++ f ∷ [] → reverse items ≡ f ∷ reverse rest
top_first items rest f split = ap reverse split ∙ reverse-append rest (f ∷ [])

popped : (rows : List Row) (states : List State) (items rest : List Visit) (f : Visit) → items ≡ rest ++ f ∷ [] → Holds rows states (reverse items)
    → Holds rows states (f ∷ reverse rest)
popped rows states items rest f split holds = subst (Holds rows states) (top_first items rest f split) holds

callee_is : (callees : List TaskNo) (needs : List ℕ) (i : ℕ) (d : TaskNo) → numbers callees ≡ needs → i < length callees
    → slice_index needs i ≡ (get_or callees i d).0
callee_is callees needs i d e l = ap (λ (ns : List ℕ). get_or ns i 0) (sym e) ∙ get_or-map (λ (t : TaskNo). t.0) callees i d 0 l

as_many : (callees : List TaskNo) (needs : List ℕ) → numbers callees ≡ needs → length callees ≡ length needs
as_many callees needs e = sym (length-map callees (λ (t : TaskNo). t.0)) ∙ ap length e

pub frame_number : (rows : List Row) (states : List State) (items rest : List Visit) (f : Visit) → items ≡ rest ++ f ∷ [] → Holds rows states (reverse items)
    → f.no.0 < length rows
frame_number rows states items rest f split holds = (popped rows states items rest f split holds).frames.0.inside

pub turn_finish : (rows : List Row) (states : List State) (items rest : List Visit) (f : Visit) (callees : List TaskNo) (h : ℕ)
    → Holds rows states (reverse items) → items ≡ rest ++ f ∷ [] → numbers callees ≡ needs_of rows f → length callees ≤ f.next
    → h ≡ height_over (map (height_at states) (numbers callees))
    → Holds rows (set states f.no.0 (Done h)) (reverse rest) × (left_at rows (set states f.no.0 (Done h)) rest < left_at rows states items)
    × KeepsMet states (set states f.no.0 (Done h))
turn_finish rows states items rest f callees h holds split needs all over =
    let at = popped rows states items rest f split holds in
    let many = as_many callees (needs_of rows f) needs in (
      finish rows states f (reverse rest) h at (omega arith) (over ∙ ap (λ (ns : List ℕ). height_over (map (height_at states) ns)) needs),
      omega (arith, left_new_done rows states f.no.0 h at.frames.0.stacked, ap (left_open rows) (top_first items rest f split), at.frames.0.within),
      met_stays states f.no.0 (Done h) (λ e. absurd (cc)) (omega (arith, at.sized, at.frames.0.inside)),
    )

pub turn_advance : (rows : List Row) (states : List State) (items rest now : List Visit) (f g : Visit) (callees : List TaskNo) (d : TaskNo) (h : ℕ)
    → Holds rows states (reverse items) → items ≡ rest ++ f ∷ [] → now ≡ rest ++ g ∷ [] → g.no.0 ≡ f.no.0 → g.next ≡ f.next + 1
    → numbers callees ≡ needs_of rows f → f.next < length callees → state_of states (get_or callees f.next d).0 ≡ Done h
    → Holds rows states (reverse now) × (left_at rows states now < left_at rows states items) × KeepsMet states states
turn_advance rows states items rest now f g callees d h holds split pushed same next needs l done =
    let at = popped rows states items rest f split holds in
    let many = as_many callees (needs_of rows f) needs in
    let less : f.next < length (needs_of rows f) = omega arith in
    let same_needs : needs_of rows g ≡ needs_of rows f = ap (λ (n : ℕ). (row_at rows n).needs) same in (
      subst (Holds rows states) (sym (top_first now rest g pushed))
          (advance rows states f g (reverse rest) same next at less (h, ap (state_of states) (callee_is callees (needs_of rows f) f.next d needs l) ∙ done)),
      omega (arith, ap (left_open rows) (top_first items rest f split), ap (left_open rows) (top_first now rest g pushed), ap length same_needs, next, less),
      λ n e. e,
    )

pub turn_enter : (rows : List Row) (states after : List State) (items rest between now : List Visit) (f g : Visit) (callees : List TaskNo) (d : TaskNo)
    → Holds rows states (reverse items) → items ≡ rest ++ f ∷ [] → between ≡ rest ++ f ∷ [] → now ≡ between ++ g ∷ [] → g.no ≡ get_or callees f.next d
    → g.next ≡ 0 → after ≡ set states g.no.0 Open → numbers callees ≡ needs_of rows f → f.next < length callees → g.no.0 < length rows
    → state_of states g.no.0 ≡ New
    → Holds rows after (reverse now) × (left_at rows after now < left_at rows states items) × KeepsMet states after
turn_enter rows states after items rest between now f g callees d holds split back pushed same start set_now needs l inside new =
    let at = popped rows states items rest f split holds in
    let many = as_many callees (needs_of rows f) needs in
    let less : f.next < length (needs_of rows f) = omega arith in
    let stack : reverse now ≡ g ∷ (f ∷ reverse rest) = top_first now between g pushed ∙ ap (λ (fs : List Visit). g ∷ fs) (top_first between rest f back) in
    let within : g.no.0 < length states = omega (arith, at.sized, inside) in (
      subst (λ (ss : List State). Holds rows ss (reverse now)) (sym set_now) (subst (Holds rows (set states g.no.0 Open)) (sym stack)
          (enter rows states g (f ∷ reverse rest) start inside new
          (less, callee_is callees (needs_of rows f) f.next d needs l ∙ ap (λ (t : TaskNo). t.0) (sym same)) at)),
      omega (
        arith,
        ap (left_new rows) set_now,
        left_new_open rows states g.no.0 inside within new,
        ap (left_open rows) stack,
        ap (left_open rows) (top_first items rest f split),
        start,
      ),
      subst (KeepsMet states) (sym set_now) (met_stays states g.no.0 Open (λ e. absurd (cc)) within),
    )

pub turn_cycle : (rows : List Row) (states : List State) (items rest : List Visit) (f : Visit) (callees : List TaskNo) (d : TaskNo)
    → Holds rows states (reverse items) → items ≡ rest ++ f ∷ [] → numbers callees ≡ needs_of rows f → f.next < length callees
    → state_of states (get_or callees f.next d).0 ≡ Open → HasCycle rows
turn_cycle rows states items rest f callees d holds split needs l o =
    let many = as_many callees (needs_of rows f) needs in
    cycle rows states f (reverse rest) (popped rows states items rest f split holds) (omega arith)
    (ap (state_of states) (callee_is callees (needs_of rows f) f.next d needs l) ∙ o)

pub ended : (rows : List Row) (states : List State) (items : List Visit) → items ≡ [] → Holds rows states (reverse items) → Holds rows states []
ended rows states items e holds = subst (λ (fs : List Visit). Holds rows states (reverse fs)) e holds

pub state_read : (states : List State) (n : ℕ) (s : State) → n < length states → s ≡ get_or states n s → state_of states n ≡ s
state_read states n s l e = get_or_default states n New s l ∙ sym e

pub visit_starts : (rows : List Row) (states after : List State) (items now : List Visit) (f : Visit) → Holds rows states (reverse items) → items ≡ []
    → now ≡ items ++ f ∷ [] → f.next ≡ 0 → after ≡ set states f.no.0 Open → f.no.0 < length rows → state_of states f.no.0 ≡ New → Holds rows after (reverse now)
visit_starts rows states after items now f holds none pushed start set_now inside new =
    let empty = ended rows states items none holds in
    let stack : reverse now ≡ f ∷ [] = top_first now items f pushed ∙ ap (λ (fs : List Visit). f ∷ reverse fs) none in
    subst (λ (ss : List State). Holds rows ss (reverse now)) (sym set_now)
    (subst (Holds rows (set states f.no.0 Open)) (sym stack) (enter rows states f [] start inside new tt empty))

pub visit_keeps : (states after last : List State) (n : ℕ) → n < length states → after ≡ set states n Open → KeepsMet after last → KeepsMet states last
    × (state_of last n ≡ New → ⊥)
visit_keeps states after last n l e kept =
    let open_not : Open ≡ New → ⊥ = λ clash. absurd (cc) in (
      (λ k new. met_stays states n Open open_not l k (ap (λ (ss : List State). state_of ss k) (sym e) ∙ kept k new)),
      (λ new. open_not (sym (get_or-set_same states n Open New l) ∙ ap (λ (ss : List State). state_of ss n) (sym e) ∙ kept n new)),
    )
