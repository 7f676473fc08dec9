-- What heights say of cycles and of lowest tasks.
use Rattle.std.proofs.Common.{◌≡◌, ◌⊎◌, ℕ, ◌<◌, ◌≤◌, ◌+◌, Bool, List, [], ◌∷◌, Option, Some, None, length, map, refl, sym, ap, ◌∙◌, subst, inl, inr, arith}
use Rattle.std.specs.Prelude.{slice_index, MatchOption}
use Rattle.std.specs.List.{Contains}
use Rattle.std.proofs.Math.ListN as at
use Rattle.std.proofs.lemmas.List.{length-map}
use Rattle.pie_graph.specs.declared.edges.TaskNo.{TaskNo}
use Rattle.pie_graph.specs.Rows.{Row, row_at, Calls}
use Rattle.pie_graph.proofs.Among.{contains_here, contains_cases}
use Rattle.pie_reach.specs.declared.descent.State.{State}
use Rattle.pie_reach.specs.declared.descent.State.TheVariants.{New, Open, Done}
use Rattle.pie_reach.specs.inner.Reaches.{Leads, Reaches, IsAcyclic, height_over, AreHeights, IsLowest, ReachesNone}
use Rattle.pie_reach.specs.inner.Reaches.Leads.{itself, step}
use Rattle.pie_reach.specs.inner.Walks.{IsClosure}
use Rattle.pie_reach.specs.inner.LeastKey.{IsBest}
use Rattle.pie_reach.specs.inner.Descents.{state_of, height_of, height_at, Holds, AllDone, HasCycle}
use Rattle.pie_reach.proofs.Meets.{alone}
use Rattle.pie_reach.proofs.WalkSteps.{caller_below}

pub leads_trans : (goes : ℕ → ℕ → Type 0) (a b c : ℕ) → Leads goes a b → Leads goes b c → Leads goes a c
leads_trans goes a b c (itself {a = d}) h = h
leads_trans goes a b c (step {a = x} {b = y} {c = z} first rest) h = step first (leads_trans goes y b c rest h)

over_above : (f : ℕ → ℕ) (ns : List ℕ) (n : ℕ) → Contains ns n → f n + 1 ≤ height_over (map f ns)
over_above f [] n h = absurd (omega (arith, h.1))
over_above f (m ∷ ns) n h =
    elim (contains_cases m n ns h) [ inl e ↦ omega (arith, ap f e) | inr later ↦ omega (arith, over_above f ns n later) ]

-- a required task is lower
calls_falls : (rows : List Row) (hs : List ℕ) → AreHeights rows hs → (a b : ℕ) → Calls rows a b → slice_index hs b < slice_index hs a
calls_falls rows hs are a b h = omega (arith, are.each a (caller_below rows a b h), over_above (slice_index hs) (row_at rows a).needs b h)

reach_le : (rows : List Row) (hs : List ℕ) → AreHeights rows hs → (a b : ℕ) → Reaches rows a b → slice_index hs b ≤ slice_index hs a
reach_le rows hs are a b (itself {a = c}) = omega arith
reach_le rows hs are a b (step {a = x} {b = y} {c = z} first rest) = omega (arith, calls_falls rows hs are a y first, reach_le rows hs are y b rest)

reach_falls : (rows : List Row) (hs : List ℕ) → AreHeights rows hs → (a b : ℕ) → Reaches rows a b → (b ≡ a) ⊎ (slice_index hs b < slice_index hs a)
reach_falls rows hs are a b (itself {a = c}) = inl refl
reach_falls rows hs are a b (step {a = x} {b = y} {c = z} first rest) = inr (omega (arith, calls_falls rows hs are a y first, reach_le rows hs are y b rest))

acyclic_by_heights : (rows : List Row) (hs : List ℕ) → AreHeights rows hs → IsAcyclic rows
acyclic_by_heights rows hs are = λ a b calls back. absurd (omega (arith, calls_falls rows hs are a b calls, reach_le rows hs are b a back))

no_open : (rows : List Row) (states : List State) → Holds rows states [] → (n : ℕ) → state_of states n ≡ Open → ⊥
no_open rows states holds n e = let f = holds.stands n e in absurd (omega (arith, f.1.1))

map_agree : (f g : ℕ → ℕ) → ((n : ℕ) → f n ≡ g n) → (ns : List ℕ) → map f ns ≡ map g ns
map_agree f g same [] = refl
map_agree f g same (n ∷ ns) = ap (λ m. m ∷ map f ns) (same n) ∙ ap (λ ms. g n ∷ ms) (map_agree f g same ns)

height_read : (states : List State) (n : ℕ) → slice_index (map height_of states) n ≡ height_at states n
height_read states n = at.get_or-map height_of states n New

done_height : (rows : List Row) (states : List State) → AllDone rows states → (n : ℕ) → n < length rows → (s : State) → state_of states n ≡ s
    → height_of s ≡ height_over (map (height_at states) (row_at rows n).needs)
done_height rows states all n l New e = absurd (all.met n l e)
done_height rows states all n l Open e = absurd (no_open rows states all.holds n e)
done_height rows states all n l (Done h) e = all.holds.height n h e

pub heights_are : (rows : List Row) (states : List State) (heights : List ℕ) → AllDone rows states → heights ≡ map height_of states → AreHeights rows heights
heights_are rows states heights all e =
    subst (AreHeights rows) (sym e) (record {
      as_many = length-map states height_of ∙ all.holds.sized;
      each = λ n l. height_read states n ∙ done_height rows states all n l (state_of states n) refl
          ∙ ap height_over (map_agree (height_at states) (slice_index (map height_of states)) (λ k. sym (height_read states k)) (row_at rows n).needs);
    })

pub done_acyclic : (rows : List Row) (states : List State) → AllDone rows states → IsAcyclic rows
done_acyclic rows states all = acyclic_by_heights rows (map height_of states) (heights_are rows states (map height_of states) all refl)

pub cycle_refutes : (rows : List Row) → HasCycle rows → IsAcyclic rows → ⊥
cycle_refutes rows c acyclic = acyclic c.0 c.1 c.2 c.3

pub lowest_found : (rows : List Row) (members : List ℕ) (under : ℕ) (marks : List Bool) (hs : List ℕ) (found : Option TaskNo)
    → IsClosure (length rows) (Calls rows) (under ∷ []) marks → AreHeights rows hs → IsBest members marks hs found
    → MatchOption found (ReachesNone rows members under) (λ lowest. IsLowest rows members under lowest.0)
lowest_found rows members under marks hs None closed are none = λ n member reached. none n member (closed.each n (under, contains_here under [], reached))
lowest_found rows members under marks hs (Some low) closed are best =
    let led = closed.only low.0 best.1 in
    let reached : Reaches rows under low.0 = subst (λ (s : ℕ). Reaches rows s low.0) (sym (alone under led.0 led.1)) led.2 in
    record {
      member = best.0;
      reached = reached;
      alone = λ other member down. elim (reach_falls rows hs are low.0 other down) [
        | inl e ↦ e
        | inr falls ↦ absurd (omega (
          arith,
          falls,
          best.2 other member
              (closed.each other (under, contains_here under [], leads_trans (Calls rows) under low.0 other reached down)),
        ))
      ];
    }
