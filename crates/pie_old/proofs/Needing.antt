-- The tasks that observations require, one observation after another.
use Rattle.std.proofs.Common.{◌≡◌, ℕ, ◌+◌, ◌<◌, List, [], ◌∷◌, ◌++◌, length, get_or, drop, map, Option, Some, sym, ap, subst, ◌∙◌, append_assoc}
use Rattle.std.specs.Prelude.{All, Contains}
use Rattle.std.proofs.lemmas.List.{drop_more, map-append}
use Rattle.std.proofs.lemmas.List.Elements.{All-nil, All-cons, All-head, All-tail}
use Rattle.pie_value.specs.declared.task.Task.{Task}
use Rattle.pie_record.specs.declared.dep.Dep.{Dep}
use Rattle.pie_store.specs.Canonical.{required_on}
use Rattle.pie_store.specs.inner.Ties.{needs_in}

pub all_front : {X : Type 0} (P : X → Type 0) (xs ys : List X) → All P (xs ++ ys) → All P xs
all_front P [] ys h = All-nil P
all_front P (x ∷ xs) ys h = All-cons P x xs (All-head P x (xs ++ ys) h) (all_front P xs ys (All-tail P x (xs ++ ys) h))

pub all_back : {X : Type 0} (P : X → Type 0) (xs ys : List X) → All P (xs ++ ys) → All P ys
all_back P [] ys h = h
all_back P (x ∷ xs) ys h = all_back P xs ys (All-tail P x (xs ++ ys) h)

-- what the observations from one on require
needs_from : (deps : List Dep) (i : ℕ) (d : Dep) → i < length deps → d ≡ get_or deps i d
    → needs_in (drop i deps) ≡ required_on d.what ++ needs_in (drop (i + 1) deps)
needs_from deps i d l e =
    ap needs_in (drop_more deps i d l) ∙ ap (λ (x : Dep). required_on x.what ++ needs_in (drop (i + 1) deps)) (sym e)

pub named_here : (tasks : List Task) (deps : List Dep) (i : ℕ) (d : Dep) → i < length deps → d ≡ get_or deps i d
    → All (Contains tasks) (needs_in (drop i deps)) → All (Contains tasks) (required_on d.what)
named_here tasks deps i d l e all =
    all_front (Contains tasks) (required_on d.what) (needs_in (drop (i + 1) deps)) (subst (All (Contains tasks)) (needs_from deps i d l e) all)

pub named_on : (tasks : List Task) (deps : List Dep) (i : ℕ) (d : Dep) → i < length deps → d ≡ get_or deps i d
    → All (Contains tasks) (needs_in (drop i deps)) → All (Contains tasks) (needs_in (drop (i + 1) deps))
named_on tasks deps i d l e all =
    all_back (Contains tasks) (required_on d.what) (needs_in (drop (i + 1) deps)) (subst (All (Contains tasks)) (needs_from deps i d l e) all)

abbrev somes : List Task → List (Option Task)
somes ts = map Some ts

pub needs_more : (deps : List Dep) (i : ℕ) (d : Dep) (old new all : List (Option Task)) → i < length deps → d ≡ get_or deps i d
    → new ≡ old ++ map Some (required_on d.what) → old ++ map Some (needs_in (drop i deps)) ≡ all
    → new ++ map Some (needs_in (drop (i + 1) deps)) ≡ all
needs_more deps i d old new all l e w inv =
    let rest = needs_in (drop (i + 1) deps) in
    let here = required_on d.what in
    ap (λ (os : List (Option Task)). os ++ somes rest) w
    ∙ append_assoc old (somes here) (somes rest)
    ∙ ap (λ (os : List (Option Task)). old ++ os) (sym (map-append Some here rest))
    ∙ ap (λ (ts : List Task). old ++ somes ts) (sym (needs_from deps i d l e))
    ∙ inv
