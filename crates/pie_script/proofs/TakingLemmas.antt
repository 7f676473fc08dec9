-- What taking line after line gives.
use Rattle.std.proofs.Common.{◌≡◌, ℕ, ◌+◌, Bool, true, false, List, [], ◌∷◌, ◌++◌, Option, Some, None, refl, sym, ap, ◌∙◌}
use Rattle.std.specs.Prelude.{is_some}
use Rattle.std.proofs.lemmas.List.{append-nil, append_assoc}
use Rattle.pie_script.specs.declared.fault.InputFault.{InputFault}
use Rattle.pie_script.specs.Line.{Line, Blank, Content, Put, Del, Change, Build, Wrong}
use Rattle.pie_script.specs.Steps.{Plain, PutFile, DelFile, Name, BuildNow, first_wrong, names, placed, gathered, steps}
use Rattle.pie_script.specs.inner.Taking.{Taken, nothing, put_with, closed, taken, taken_all, placed_one}

closed_prefix : (ls : List Line) → (gathered (placed false ls)).0 ≡ []
closed_prefix [] = refl
closed_prefix (Blank ∷ ls) = closed_prefix ls
closed_prefix (Content b ∷ ls) = closed_prefix ls
closed_prefix (Put p ∷ ls) = refl
closed_prefix (Del p ∷ ls) = refl
closed_prefix (Change p ∷ ls) = refl
closed_prefix (Build ∷ ls) = refl
closed_prefix (Wrong k ∷ ls) = closed_prefix ls

-- what is done, then the put that goes on with its content, then the steps that follow
abbrev all_of : List Plain → Option (List ℕ × List ℕ) → List ℕ × List Plain → List Plain
all_of done under g = done ++ (put_with under g.0 ++ g.1)

all_is : (ls : List Line) (done : List Plain) (under : Option (List ℕ × List ℕ))
    → closed (taken_all ls (record { done = done; under = under })) ≡ all_of done under (gathered (placed (is_some under) ls))
all_is [] done None = ap (λ (x : List Plain). done ++ x) (sym (append-nil []))
all_is [] done (Some p) = ap (λ (x : List Plain). done ++ x) (sym (append-nil (put_with (Some p) [])))
all_is (Blank ∷ ls) done None = all_is ls done None
all_is (Blank ∷ ls) done (Some p) = all_is ls done (Some p)
all_is (Content b ∷ ls) done None = all_is ls done None
all_is (Content b ∷ ls) done (Some p) =
    let g = gathered (placed true ls) in
    all_is ls done (Some (p.0, p.1 ++ b)) ∙ ap (λ (c : List ℕ). done ++ (PutFile p.0 c ∷ g.1)) (append_assoc p.1 b g.0)
all_is (Put q ∷ ls) done None =
    let g = gathered (placed true ls) in
    all_is ls (done ++ []) (Some (q, [])) ∙ append_assoc done [] (PutFile q g.0 ∷ g.1)
all_is (Put q ∷ ls) done (Some p) =
    let g = gathered (placed true ls) in
    all_is ls (done ++ put_with (Some p) []) (Some (q, [])) ∙ append_assoc done (put_with (Some p) []) (PutFile q g.0 ∷ g.1)
all_is (Del q ∷ ls) done None =
    let g = gathered (placed false ls) in
    all_is ls ((done ++ []) ++ DelFile q ∷ []) None ∙ append_assoc (done ++ []) (DelFile q ∷ []) g.1 ∙ append_assoc done [] (DelFile q ∷ g.1)
all_is (Del q ∷ ls) done (Some p) =
    let g = gathered (placed false ls) in
    all_is ls ((done ++ put_with (Some p) []) ++ DelFile q ∷ []) None ∙ append_assoc (done ++ put_with (Some p) []) (DelFile q ∷ []) g.1
    ∙ append_assoc done (put_with (Some p) []) (DelFile q ∷ g.1)
all_is (Change q ∷ ls) done None =
    let g = gathered (placed false ls) in
    all_is ls ((done ++ []) ++ Name q ∷ []) None ∙ append_assoc (done ++ []) (Name q ∷ []) g.1 ∙ append_assoc done [] (Name q ∷ g.1)
all_is (Change q ∷ ls) done (Some p) =
    let g = gathered (placed false ls) in
    all_is ls ((done ++ put_with (Some p) []) ++ Name q ∷ []) None ∙ append_assoc (done ++ put_with (Some p) []) (Name q ∷ []) g.1
    ∙ append_assoc done (put_with (Some p) []) (Name q ∷ g.1)
all_is (Build ∷ ls) done None =
    let g = gathered (placed false ls) in
    all_is ls ((done ++ []) ++ BuildNow ∷ []) None ∙ append_assoc (done ++ []) (BuildNow ∷ []) g.1 ∙ append_assoc done [] (BuildNow ∷ g.1)
all_is (Build ∷ ls) done (Some p) =
    let g = gathered (placed false ls) in
    all_is ls ((done ++ put_with (Some p) []) ++ BuildNow ∷ []) None ∙ append_assoc (done ++ put_with (Some p) []) (BuildNow ∷ []) g.1
    ∙ append_assoc done (put_with (Some p) []) (BuildNow ∷ g.1)
all_is (Wrong k ∷ ls) done None =
    let g = gathered (placed false ls) in
    all_is ls (done ++ []) None ∙ append_assoc done [] g.1
all_is (Wrong k ∷ ls) done (Some p) =
    let g = gathered (placed false ls) in
    all_is ls (done ++ put_with (Some p) []) None ∙ append_assoc done (put_with (Some p) []) g.1
    ∙ ap (λ (c : List ℕ). done ++ (put_with (Some p) c ++ g.1)) (sym (closed_prefix ls))

pub steps_are : (lines : List Line) → closed (taken_all lines nothing) ≡ steps (placed false lines)
steps_are lines = all_is lines [] None

-- a wrong line at its place is the first wrong one
pub wrong_here : (n : ℕ) (after_put : Bool) (l : Line) (ls : List Line) (e : InputFault) → first_wrong n (placed_one after_put l ∷ []) ≡ Some e
    → first_wrong n (placed after_put (l ∷ ls)) ≡ Some e
wrong_here n true Blank ls e h = cc
wrong_here n false Blank ls e h = cc
wrong_here n true (Content b) ls e h = cc
wrong_here n false (Content b) ls e h = h
wrong_here n true (Put p) ls e h = cc
wrong_here n false (Put p) ls e h = cc
wrong_here n true (Del p) ls e h = cc
wrong_here n false (Del p) ls e h = cc
wrong_here n true (Change p) ls e h = cc
wrong_here n false (Change p) ls e h = cc
wrong_here n true Build ls e h = cc
wrong_here n false Build ls e h = cc
wrong_here n true (Wrong k) ls e h = h
wrong_here n false (Wrong k) ls e h = h

-- after a good line the first wrong one is sought among the rest
fine_at : (n : ℕ) (l : Line) (ls : List Line) (done : List Plain) (under : Option (List ℕ × List ℕ))
    → first_wrong n (placed_one (is_some under) l ∷ []) ≡ None
    → first_wrong n (placed (is_some under) (l ∷ ls)) ≡ first_wrong (n + 1) (placed (is_some (taken l (record { done = done; under = under })).under) ls)
fine_at n Blank ls done None h = refl
fine_at n Blank ls done (Some p) h = refl
fine_at n (Content b) ls done None h = cc
fine_at n (Content b) ls done (Some p) h = refl
fine_at n (Put q) ls done None h = refl
fine_at n (Put q) ls done (Some p) h = refl
fine_at n (Del q) ls done None h = refl
fine_at n (Del q) ls done (Some p) h = refl
fine_at n (Change q) ls done None h = refl
fine_at n (Change q) ls done (Some p) h = refl
fine_at n Build ls done None h = refl
fine_at n Build ls done (Some p) h = refl
fine_at n (Wrong k) ls done None h = cc
fine_at n (Wrong k) ls done (Some p) h = cc

pub fine_here : (n : ℕ) (l : Line) (ls : List Line) (s : Taken) → first_wrong n (placed_one (is_some s.under) l ∷ []) ≡ None
    → first_wrong n (placed (is_some s.under) (l ∷ ls)) ≡ first_wrong (n + 1) (placed (is_some (taken l s).under) ls)
fine_here n l ls s h = fine_at n l ls s.done s.under h

pub wrong_change : (n : ℕ) (l : Line) (ls : List Line) (e : InputFault) → first_wrong n (l ∷ []) ≡ Some e → first_wrong n (l ∷ ls) ≡ Some e
wrong_change n Blank ls e h = cc
wrong_change n (Content b) ls e h = cc
wrong_change n (Put p) ls e h = cc
wrong_change n (Del p) ls e h = cc
wrong_change n (Change p) ls e h = cc
wrong_change n Build ls e h = cc
wrong_change n (Wrong k) ls e h = h

pub fine_change : (n : ℕ) (l : Line) (ls : List Line) → first_wrong n (l ∷ []) ≡ None → first_wrong n (l ∷ ls) ≡ first_wrong (n + 1) ls
fine_change n Blank ls h = refl
fine_change n (Content b) ls h = refl
fine_change n (Put p) ls h = refl
fine_change n (Del p) ls h = refl
fine_change n (Change p) ls h = refl
fine_change n Build ls h = refl
fine_change n (Wrong k) ls h = cc

pub names_more : (l : Line) (ls : List Line) → names (l ∷ ls) ≡ names (l ∷ []) ++ names ls
names_more Blank ls = refl
names_more (Content b) ls = refl
names_more (Put p) ls = refl
names_more (Del p) ls = refl
names_more (Change p) ls = refl
names_more Build ls = refl
names_more (Wrong k) ls = refl
