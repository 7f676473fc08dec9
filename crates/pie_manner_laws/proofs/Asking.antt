-- Effects: a question that is answered notes what it looks at or writes, and a write is asked for only where its path was not touched.
use Rattle.std.proofs.Common.{◌≡◌, ℕ, Bool, true, false, cond, ◌||◌, List, [], ◌∷◌, ◌++◌, refl, ap, sym, ◌∙◌, subst}
use Rattle.std.specs.Prelude.{Ok, Err}
use Rattle.std.specs.List.{list_any}
use Rattle.std.proofs.lemmas.Slice.Eq.{bytes_eq-Decides}
use Rattle.pie_base.specs.declared.fault.FaultKind.TheVariants.{Big, BadList, BadWrite, WroteTwice, ReadThenWrite, Said, Unknown}
use Rattle.pie_base.specs.Path.{is_out}
use Rattle.pie_value.specs.declared.event.Answer.{Answer}
use Rattle.pie_value.specs.declared.event.By.TheVariants.{Hash, Mark, Raw}
use Rattle.pie_value.specs.declared.event.How.{How}
use Rattle.pie_value.specs.declared.task.Task.{Task}
use Rattle.pie_value.specs.Tree.{Tree as Val, TUnit, TBool, TInt, TText, TPath, TList, TTuple, TNull, TBytes}
use Rattle.pie_value.specs.Limits.{is_small_task}
use Rattle.pie_value.specs.BuiltinForms.{Answered}
use Rattle.pie_value.specs.BuiltinTexts.{same_bytes}
use Rattle.pie_operators.specs.declared.asking.Observation.{Observation}
use Rattle.pie_operators.specs.declared.asking.Observation.TheVariants.{Exists, Read, Digest, List as Listing}
use Rattle.pie_operators.specs.declared.asking.Question.{Question}
use Rattle.pie_operators.specs.declared.asking.Question.TheVariants.{Observe, Write, Require}
use Rattle.pie_operators.specs.Domain.{done, fails, State, Act, fault, by_answer, holds, with_path}
use Rattle.pie_operators.specs.Effects.{event_of, taken, is_content, noted, asked, may_observe, observe, write_bytes, write, require, fail}
use Rattle.pie_manner_laws.proofs.Forms.{with_more, Touches, touched, Untouched, Did, Keeps, Stays, Polite, moved, fault_polite, cond_polite}

-- a state with other answers left
abbrev with_answers : State → List Answer → State
with_answers s xs = record s { answers = xs }

-- ---- what has been touched

either_more : (b c d : Bool) → (c ≡ true → d ≡ true) → (b || c) ≡ true → (b || d) ≡ true
either_more true c d f h = refl
either_more false c d f h = f h

any_front : (f : List ℕ → Bool) (xs ys : List (List ℕ)) → list_any f xs ≡ true → list_any f (xs ++ ys) ≡ true
any_front f [] ys h = let x : ⊥ = cc in absurd x
any_front f (x ∷ xs) ys h = either_more (f x) (list_any f xs) (list_any f (xs ++ ys)) (any_front f xs ys) h

either_right : (b c : Bool) → c ≡ true → (b || c) ≡ true
either_right true c h = refl
either_right false c h = h

either_left : (b c : Bool) → b ≡ true → (b || c) ≡ true
either_left true c h = refl
either_left false c h = let x : ⊥ = cc in absurd x

front_more : (b c d : Bool) → (b ≡ true → c ≡ true) → (b || d) ≡ true → (c || d) ≡ true
front_more true c d f h = either_left c d (f refl)
front_more false c d f h = either_right c d h

neither : (b c : Bool) → b ≡ false → c ≡ false → (b || c) ≡ false
neither true c e f = let x : ⊥ = cc in absurd x
neither false c e f = f

any_last : (f : List ℕ → Bool) (xs : List (List ℕ)) (x : List ℕ) → f x ≡ true → list_any f (xs ++ x ∷ []) ≡ true
any_last f [] x h = ap (λ (b : Bool). b || false) h
any_last f (y ∷ ys) x h = either_right (f y) (list_any f (ys ++ x ∷ [])) (any_last f ys x h)

same_itself : (p : List ℕ) → same_bytes p p ≡ true
same_itself p = (bytes_eq-Decides p p).1 refl

with_by : (paths : List (List ℕ)) (p q : List ℕ) (b : Bool) → holds paths p ≡ b → holds paths q ≡ true → holds (cond b paths (paths ++ p ∷ [])) q ≡ true
with_by paths p q true e h = h
with_by paths p q false e h = any_front (same_bytes q) paths (p ∷ []) h

with_keeps : (paths : List (List ℕ)) (p q : List ℕ) → holds paths q ≡ true → holds (with_path paths p) q ≡ true
with_keeps paths p q h = with_by paths p q (holds paths p) refl h

new_by : (paths : List (List ℕ)) (p : List ℕ) (b : Bool) → holds paths p ≡ b → holds (cond b paths (paths ++ p ∷ [])) p ≡ true
new_by paths p true e = e
new_by paths p false e = any_last (same_bytes p) paths p (same_itself p)

with_new : (paths : List (List ℕ)) (p : List ℕ) → holds (with_path paths p) p ≡ true
with_new paths p = new_by paths p (holds paths p) refl

-- ---- noting

noted_content : (b : Bool) (p : List ℕ) (s : State) (xs : List Answer)
    → cond b (record s { seen = with_path s.seen p; answers = xs }) (with_answers s xs) ≡ with_answers (cond b (record s { seen = with_path s.seen p }) s) xs
noted_content true p s xs = refl
noted_content false p s xs = refl

noted_with : (q : Question) (s : State) (xs : List Answer) → noted q (with_answers s xs) ≡ with_answers (noted q s) xs
noted_with (Observe o p) s xs = noted_content (is_content o) p s xs
noted_with (Write p bs) s xs = refl
noted_with (Require t how) s xs = refl

content_keeps : (b : Bool) (p : List ℕ) (s : State) → Keeps s (cond b (record s { seen = with_path s.seen p }) s)
content_keeps true p s q h = front_more (holds s.seen q) (holds (with_path s.seen p) q) (holds s.wrote q) (with_keeps s.seen p q) h
content_keeps false p s q h = h

noted_keeps : (q : Question) (s : State) → Keeps s (noted q s)
noted_keeps (Observe o p) s = content_keeps (is_content o) p s
noted_keeps (Write p bs) s = λ q h. either_more (holds s.seen q) (holds s.wrote q) (holds (with_path s.wrote p) q) (with_keeps s.wrote p q) h
noted_keeps (Require t how) s = λ q h. h

by_did : (p : List ℕ) (o : Answered) (t : State) → touched t p ≡ true → Did p (by_answer o t)
by_did p (Ok v) t h = h
by_did p (Err k) t h = tt

path_new : (paths : List (List ℕ)) (p q : List ℕ) → p ≡ q → holds (with_path paths p) q ≡ true
path_new paths p q e = subst (λ (x : List ℕ). holds (with_path paths p) x ≡ true) e (with_new paths p)

seen_new : (p q : List ℕ) (s : State) → p ≡ q → (holds (with_path s.seen p) q || holds s.wrote q) ≡ true
seen_new p q s e = either_left (holds (with_path s.seen p) q) (holds s.wrote q) (path_new s.seen p q e)

-- what a question looks at or writes is noted
did_touch : (q : Question) (s : State) (p : List ℕ) → Touches p (event_of q) → touched (noted q s) p ≡ true
did_touch (Observe Exists r) s p l = seen_new r p s l
did_touch (Observe (Read Hash) r) s p l = seen_new r p s l
did_touch (Observe (Read Mark) r) s p l = seen_new r p s l
did_touch (Observe (Read Raw) r) s p l = seen_new r p s l
did_touch (Observe Digest r) s p l = seen_new r p s l
did_touch (Observe Listing r) s p l = absurd l
did_touch (Write r bs) s p l = either_right (holds s.seen p) (holds (with_path s.wrote r) p) (path_new s.wrote r p l)
did_touch (Require t how) s p l = absurd l

-- ---- questions

answered_stays : (q : Question) (s : State) (a : Answer) (rest : List Answer) (o : Answered) → taken q a ≡ o
    → Stays (asked q) (with_answers s (a ∷ rest)) (by_answer o (noted q (with_answers s rest)))
answered_stays q s a rest (Ok v) e = (
  noted_keeps q (with_answers s rest),
  λ more.
      ap (λ (o : Answered). by_answer o (noted q (with_answers s (rest ++ more)))) e
      ∙ ap (λ (u : State). (done v, u)) (noted_with q s (rest ++ more) ∙ ap (λ (u : State). with_more u more) (sym (noted_with q s rest))),
)
answered_stays q s a rest (Err k) e = tt

asked_stays : (q : Question) (s : State) → Untouched (event_of q) s → (xs : List Answer)
    → Stays (asked q) (with_answers s xs) (asked q (with_answers s xs))
asked_stays q s un [] = (
  untouched_with q s un,
  λ p h. h,
  λ p a rest l. by_did p (taken q a) (noted q (with_answers s rest)) (did_touch q (with_answers s rest) p l),
)
  where
    untouched_with : (q : Question) (s : State) → Untouched (event_of q) s → Untouched (event_of q) (with_answers s [])
    untouched_with (Observe Exists r) s h = tt
    untouched_with (Observe (Read Hash) r) s h = tt
    untouched_with (Observe (Read Mark) r) s h = tt
    untouched_with (Observe (Read Raw) r) s h = tt
    untouched_with (Observe Digest r) s h = tt
    untouched_with (Observe Listing r) s h = tt
    untouched_with (Write r bs) s h = h
    untouched_with (Require t how) s h = tt
asked_stays q s un (a ∷ rest) = answered_stays q s a rest (taken q a) refl

-- a question whose event writes nothing that was touched
pub asked_from : (q : Question) (s : State) → Untouched (event_of q) s → Stays (asked q) s (asked q s)
asked_from q s un = asked_stays q s un s.answers

observe_asks : (o : Observation) (p : List ℕ) → Polite (asked (Observe o p))
observe_asks Exists p s = asked_from (Observe Exists p) s tt
observe_asks (Read Hash) p s = asked_from (Observe (Read Hash) p) s tt
observe_asks (Read Mark) p s = asked_from (Observe (Read Mark) p) s tt
observe_asks (Read Raw) p s = asked_from (Observe (Read Raw) p) s tt
observe_asks Digest p s = asked_from (Observe Digest p) s tt
observe_asks Listing p s = asked_from (Observe Listing p) s tt

-- an observation
pub observe_polite : (o : Observation) (t : Val) → Polite (observe o t)
observe_polite o (TPath p) = cond_polite (may_observe o p) (asked (Observe o p)) (fault BadList) (observe_asks o p) (fault_polite BadList)
observe_polite o TUnit = fault_polite Unknown
observe_polite o (TBool b) = fault_polite Unknown
observe_polite o (TInt n) = fault_polite Unknown
observe_polite o (TText x) = fault_polite Unknown
observe_polite o (TList ts) = fault_polite Unknown
observe_polite o (TTuple ts) = fault_polite Unknown
observe_polite o TNull = fault_polite Unknown
observe_polite o (TBytes bs) = fault_polite Unknown

-- a required task
pub require_polite : (how : How) (f : List ℕ) (ts : List Val) → Polite (require how f ts)
require_polite how f ts =
    let t : Task = record { func = f; args = ts } in
    cond_polite (is_small_task t) (asked (Require t how)) (fault Big) (λ s. asked_from (Require t how) s tt) (fault_polite Big)

-- ---- writes

-- a write by the tests that stand before it
abbrev tested : List ℕ → List ℕ → Bool → Bool → Bool → Act Val
tested p bs out wrote seen s = cond out (cond wrote (fails WroteTwice, s) (cond seen (fails ReadThenWrite, s) (asked (Write p bs) s))) (fails BadWrite, s)

write_by : (p bs : List ℕ) (s : State) (out wrote seen : Bool) → is_out p ≡ out → holds s.wrote p ≡ wrote → holds s.seen p ≡ seen
    → Stays (write_bytes p bs) s (tested p bs out wrote seen s)
write_by p bs s false wrote seen e f g = tt
write_by p bs s true true seen e f g = tt
write_by p bs s true false true e f g = tt
write_by p bs s true false false e f g =
    moved (write_bytes p bs) (asked (Write p bs)) s s (λ q h. h)
    (λ rest. ap (λ (b : Bool). tested p bs b (holds s.wrote p) (holds s.seen p) (with_more s rest)) e
    ∙ ap (λ (b : Bool). tested p bs true b (holds s.seen p) (with_more s rest)) f
    ∙ ap (λ (b : Bool). tested p bs true false b (with_more s rest)) g)
    (asked (Write p bs) s) (asked_from (Write p bs) s (neither (holds s.seen p) (holds s.wrote p) g f))

bytes_polite : (p bs : List ℕ) → Polite (write_bytes p bs)
bytes_polite p bs s = write_by p bs s (is_out p) (holds s.wrote p) (holds s.seen p) refl refl refl

-- a write of a text or of bytes
pub write_polite : (t u : Val) → Polite (write t u)
write_polite (TPath p) (TText s) = bytes_polite p s
write_polite (TPath p) (TBytes bs) = bytes_polite p bs
write_polite t u = fault_polite Unknown

-- the task says that it fails
pub fail_polite : (t : Val) → Polite (fail t)
fail_polite (TText s) = fault_polite (Said s)
fail_polite t = fault_polite Unknown
