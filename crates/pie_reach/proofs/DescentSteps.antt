-- The turns of a walk down keep what holds between them.
use Rattle.std.proofs.Common.{◌≡◌, ◌≢◌, ℕ, ◌<◌, ◌≤◌, ◌+◌, List, [], ◌∷◌, length, get_or, set, map, refl, sym, ap, ◌∙◌, subst, inl, inr, arith, length-set}
use Rattle.std.specs.Prelude.{slice_index}
use Rattle.std.specs.List.{Contains}
use Rattle.std.proofs.lemmas.Bool.Decides.{eqb_tells}
use Rattle.std.proofs.lemmas.Bool.{cases_lt}
use Rattle.std.proofs.lemmas.List.{get_or-set_same, get_or-set_other, get_or_default, get_or-map, ext_get_or, length-map}
use Rattle.pie_graph.specs.Rows.{Row, row_at, Calls}
use Rattle.pie_graph.proofs.Among.{contains_here, contains_later, contains_cases}
use Rattle.pie_reach.specs.declared.descent.State.{State}
use Rattle.pie_reach.specs.declared.descent.State.TheVariants.{New, Open, Done}
use Rattle.pie_reach.specs.declared.descent.Visit.{Visit}
use Rattle.pie_reach.specs.inner.Reaches.{Reaches, height_over}
use Rattle.pie_reach.specs.inner.Reaches.Leads.{itself}
use Rattle.pie_reach.specs.inner.Descents.{state_of, height_of, height_at, IsDone, needs_of, IsFrame, IsAwaited, AreFrames, Holds, HasCycle, KeepsMet}
use Rattle.pie_reach.proofs.WalkSteps.{leads_on}

-- a task that isn't done
abbrev pub IsNotDone : List State → ℕ → Type 0
IsNotDone states n = (h : ℕ) → state_of states n ≡ Done h → ⊥

other_state : (states : List State) (n k : ℕ) (s : State) → k ≢ n → state_of (set states n s) k ≡ state_of states k
other_state states n k s ne = get_or-set_other states n k s New ne

still_done : (states : List State) (n k : ℕ) (s : State) → IsNotDone states n → IsDone states k → IsDone (set states n s) k
still_done states n k s fresh is =
    elim (eqb_tells k n) [
      | inl e ↦ absurd (fresh is.0 (ap (state_of states) (sym e.1) ∙ is.1))
      | inr e ↦ (is.0, other_state states n k s e.1 ∙ is.1)
    ]

same_height : (states : List State) (n k : ℕ) (s : State) → IsNotDone states n → IsDone states k → height_at (set states n s) k ≡ height_at states k
same_height states n k s fresh is =
    elim (eqb_tells k n) [
      | inl e ↦ absurd (fresh is.0 (ap (state_of states) (sym e.1) ∙ is.1))
      | inr e ↦ ap height_of (other_state states n k s e.1)
    ]

same_heights : (states : List State) (n : ℕ) (s : State) (needs : List ℕ) → IsNotDone states n
    → ((i : ℕ) → i < length needs → IsDone states (slice_index needs i)) → map (height_at (set states n s)) needs ≡ map (height_at states) needs
same_heights states n s needs fresh done =
    ext_get_or 0 (map (height_at (set states n s)) needs) (map (height_at states) needs)
    (length-map needs (height_at (set states n s)) ∙ sym (length-map needs (height_at states)))
    (λ i l. let within : i < length needs = omega (arith, length-map needs (height_at (set states n s))) in
    get_or-map (height_at (set states n s)) needs i 0 0 within ∙ same_height states n (get_or needs i 0) s fresh (done i within)
    ∙ sym (get_or-map (height_at states) needs i 0 0 within))

frame_kept : (rows : List Row) (states : List State) (n : ℕ) (s : State) (f : Visit) → f.no.0 ≢ n → IsNotDone states n → IsFrame rows states f
    → IsFrame rows (set states n s) f
frame_kept rows states n s f apart fresh is = record {
  inside = is.inside;
  stacked = other_state states n f.no.0 s apart ∙ is.stacked;
  within = is.within;
  before = λ i l. still_done states n (slice_index (needs_of rows f) i) s fresh (is.before i l);
}

frames_kept : (rows : List Row) (states : List State) (n : ℕ) (s : State) (fs : List Visit) → ((g : Visit) → Contains fs g → g.no.0 ≢ n) → IsNotDone states n
    → AreFrames rows states fs → AreFrames rows (set states n s) fs
frames_kept rows states n s [] apart fresh are = tt
frames_kept rows states n s (f ∷ fs) apart fresh are = (
  frame_kept rows states n s f (apart f (contains_here f fs)) fresh are.0,
  are.1,
  are.2,
  frames_kept rows states n s fs (λ g h. apart g (contains_later f g fs h)) fresh are.3,
)

frame_in : (rows : List Row) (states : List State) (fs : List Visit) (g : Visit) → AreFrames rows states fs → Contains fs g → IsFrame rows states g
frame_in rows states [] g are h = absurd (omega (arith, h.1))
frame_in rows states (f ∷ fs) g are h =
    elim (contains_cases f g fs h) [ inl e ↦ subst (IsFrame rows states) e are.0 | inr later ↦ frame_in rows states fs g are.3 later ]

awaited_same : (rows : List Row) (f g : Visit) (fs : List Visit) → f.no.0 ≡ g.no.0 → IsAwaited rows f fs → IsAwaited rows g fs
awaited_same rows f g [] e h = tt
awaited_same rows f g (x ∷ fs) e h = (h.0, h.1 ∙ e)

open_is_not_done : (states : List State) (n : ℕ) → state_of states n ≡ Open → IsNotDone states n
open_is_not_done states n e = λ h d. let clash : Open ≡ Done h = sym e ∙ d in absurd (cc)

new_is_not_done : (states : List State) (n : ℕ) → state_of states n ≡ New → IsNotDone states n
new_is_not_done states n e = λ h d. let clash : New ≡ Done h = sym e ∙ d in absurd (cc)

-- the top of the stack is done
pub finish : (rows : List Row) (states : List State) (f : Visit) (fs : List Visit) (h : ℕ) → Holds rows states (f ∷ fs) → length (needs_of rows f) ≤ f.next
    → h ≡ height_over (map (height_at states) (needs_of rows f)) → Holds rows (set states f.no.0 (Done h)) fs
finish rows states f fs h holds all over =
    let n = f.no.0 in
    let top = holds.frames.0 in
    let fresh = open_is_not_done states n top.stacked in
    let inside : n < length states = omega (arith, holds.sized, top.inside) in
    let now : state_of (set states n (Done h)) n ≡ Done h = get_or-set_same states n (Done h) New inside in
    record {
      sized = length-set states n (Done h) ∙ holds.sized;
      frames = frames_kept rows states n (Done h) fs holds.frames.2 fresh holds.frames.3;
      stands = λ k is. elim (eqb_tells k n) [
        | inl e ↦ absurd (open_is_not_done (set states n (Done h)) k is h (ap (state_of (set states n (Done h))) e.1 ∙ now))
        | inr e ↦
            let g = holds.stands k (sym (other_state states n k (Done h) e.1) ∙ is) in
            elim (contains_cases f g.0 fs g.1) [ inl same ↦ absurd (e.1 (sym (ap (λ (x : Visit). x.no.0) same ∙ g.2))) | inr later ↦ (g.0, later, g.2) ]
      ];
      height = λ k high is. elim (eqb_tells k n) [
        | inl e ↦
            let same : Done h ≡ Done high = sym (ap (state_of (set states n (Done h))) e.1 ∙ now) ∙ is in
            let equal : high ≡ h = cc in
            equal ∙ over ∙ ap height_over (sym (same_heights states n (Done h) (needs_of rows f) fresh (λ i l. top.before i (omega arith))))
            ∙ ap (λ (m : ℕ). height_over (map (height_at (set states n (Done h))) (row_at rows m).needs)) (sym e.1)
        | inr e ↦
            let old : state_of states k ≡ Done high = sym (other_state states n k (Done h) e.1) ∙ is in
            holds.height k high old ∙ ap height_over (sym (same_heights states n (Done h) (row_at rows k).needs fresh (holds.done k (high, old))))
      ];
      done = λ k is i l. elim (eqb_tells k n) [
        | inl e ↦
            subst (λ (m : ℕ). IsDone (set states n (Done h)) (slice_index (row_at rows m).needs i)) (sym e.1)
            (still_done states n (slice_index (needs_of rows f) i) (Done h) fresh
            (top.before i (omega (arith, subst (λ (m : ℕ). i < length (row_at rows m).needs) e.1 l))))
        | inr e ↦ still_done states n (slice_index (row_at rows k).needs i) (Done h) fresh
            (holds.done k (is.0, sym (other_state states n k (Done h) e.1) ∙ is.1) i l)
      ];
    }

-- the top of the stack goes on to its next required task
pub advance : (rows : List Row) (states : List State) (f g : Visit) (fs : List Visit) → g.no.0 ≡ f.no.0 → g.next ≡ f.next + 1 → Holds rows states (f ∷ fs)
    → f.next < length (needs_of rows f) → IsDone states (slice_index (needs_of rows f) f.next) → Holds rows states (g ∷ fs)
advance rows states f g fs same next holds l is =
    let top = holds.frames.0 in
    let there : (i : ℕ) → i < f.next + 1 → IsDone states (slice_index (needs_of rows f) i) =
    λ i m. elim (cases_lt i f.next) [
      | inl below ↦ top.before i below
      | inr above ↦ subst (λ (j : ℕ). IsDone states (slice_index (needs_of rows f) j))
          (omega arith) is
    ] in
    record {
      sized = holds.sized;
      frames = (
        record {
          inside = subst (λ (n : ℕ). n < length rows) (sym same) top.inside;
          stacked = ap (state_of states) same ∙ top.stacked;
          within = subst (λ (n : ℕ). g.next ≤ length (row_at rows n).needs) (sym same) (omega (arith, next, l));
          before = λ i m. subst (λ (n : ℕ). IsDone states (slice_index (row_at rows n).needs i)) (sym same) (there i (omega (arith, next, m)));
        },
        awaited_same rows f g fs (sym same) holds.frames.1,
        (λ x h e. holds.frames.2 x h (e ∙ same)),
        holds.frames.3,
      );
      stands = λ k o.
          let x = holds.stands k o in
          elim (contains_cases f x.0 fs x.1) [
            | inl e ↦ (g, contains_here g fs, same ∙ ap (λ (y : Visit). y.no.0) e ∙ x.2)
            | inr later ↦
                (x.0, contains_later g x.0 fs later, x.2)
          ];
      height = holds.height;
      done = holds.done;
    }

-- a new task goes on top
pub enter : (rows : List Row) (states : List State) (f : Visit) (fs : List Visit) → f.next ≡ 0 → f.no.0 < length rows → state_of states f.no.0 ≡ New
    → IsAwaited rows f fs → Holds rows states fs → Holds rows (set states f.no.0 Open) (f ∷ fs)
enter rows states f fs start l new awaited holds =
    let n = f.no.0 in
    let fresh = new_is_not_done states n new in
    let inside : n < length states = omega (arith, holds.sized) in
    let now : state_of (set states n Open) n ≡ Open = get_or-set_same states n Open New inside in
    let apart : (g : Visit) → Contains fs g → g.no.0 ≢ n =
    λ g h e. let clash : New ≡ Open = sym new ∙ ap (state_of states) (sym e) ∙ (frame_in rows states fs g holds.frames h).stacked in cc in
    record {
      sized = length-set states n Open ∙ holds.sized;
      frames = (
        record { inside = l; stacked = now; within = omega (arith, start); before = λ i m. absurd (omega (arith, start, m)) },
        awaited,
        apart,
        frames_kept rows states n Open fs apart fresh holds.frames,
      );
      stands = λ k o. elim (eqb_tells k n) [
        | inl e ↦ (f, contains_here f fs, sym e.1)
        | inr e ↦ let g = holds.stands k (sym (other_state states n k Open e.1) ∙ o) in (g.0, contains_later f g.0 fs g.1, g.2)
      ];
      height = λ k high is. elim (eqb_tells k n) [
        | inl e ↦ absurd (open_is_not_done (set states n Open) k (ap (state_of (set states n Open)) e.1 ∙ now) high is)
        | inr e ↦
            let old : state_of states k ≡ Done high = sym (other_state states n k Open e.1) ∙ is in
            holds.height k high old ∙ ap height_over (sym (same_heights states n Open (row_at rows k).needs fresh (holds.done k (high, old))))
      ];
      done = λ k is i m. elim (eqb_tells k n) [
        | inl e ↦ absurd (open_is_not_done (set states n Open) k (ap (state_of (set states n Open)) e.1 ∙ now) is.0 is.1)
        | inr e ↦ still_done states n (slice_index (row_at rows k).needs i) Open fresh (holds.done k (is.0, sym (other_state states n k Open e.1) ∙ is.1) i m)
      ];
    }

pub calls_at : (rows : List Row) (caller callee i : ℕ) → i < length (row_at rows caller).needs → slice_index (row_at rows caller).needs i ≡ callee
    → Calls rows caller callee
calls_at rows caller callee i l e = (i, l, get_or_default (row_at rows caller).needs i callee 0 l ∙ e)

chain : (rows : List Row) (states : List State) (f : Visit) (fs : List Visit) (g : Visit) → AreFrames rows states (f ∷ fs) → Contains (f ∷ fs) g
    → Reaches rows g.no.0 f.no.0
chain rows states f [] g are h =
    elim (contains_cases f g [] h) [ inl e ↦ subst (λ (x : Visit). Reaches rows x.no.0 f.no.0) e itself | inr later ↦ absurd (omega (arith, later.1)) ]
chain rows states f (x ∷ fs) g are h =
    elim (contains_cases f g (x ∷ fs) h) [
      | inl e ↦ subst (λ (y : Visit). Reaches rows y.no.0 f.no.0) e itself
      | inr later ↦ leads_on (Calls rows) g.no.0 x.no.0 f.no.0 (chain rows states x fs g are.3 later) (calls_at rows x.no.0 f.no.0 x.next are.1.0 are.1.1)
    ]

-- the next required task stands on the stack
pub cycle : (rows : List Row) (states : List State) (f : Visit) (fs : List Visit) → Holds rows states (f ∷ fs) → f.next < length (needs_of rows f)
    → state_of states (slice_index (needs_of rows f) f.next) ≡ Open → HasCycle rows
cycle rows states f fs holds l o =
    let callee = slice_index (needs_of rows f) f.next in
    let g = holds.stands callee o in
    (f.no.0, callee, calls_at rows f.no.0 callee f.next l refl, subst (λ (n : ℕ). Reaches rows n f.no.0) g.2 (chain rows states f fs g.0 holds.frames g.1))

pub met_stays : (states : List State) (n : ℕ) (s : State) → (s ≡ New → ⊥) → n < length states → KeepsMet states (set states n s)
met_stays states n s is l = λ k new.
    elim (eqb_tells k n) [
      | inl e ↦ absurd (is (sym (get_or-set_same states n s New l) ∙ ap (state_of (set states n s)) (sym e.1) ∙ new))
      | inr e ↦ sym (other_state states n k s e.1) ∙ new
    ]
