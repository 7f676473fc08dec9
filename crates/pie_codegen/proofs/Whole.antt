-- The code of a whole function means what the function means.
use Rattle.std.proofs.Common.{◌≡◌, ℕ, zero, suc, ◌+◌, ◌-◌, ◌<◌, ◌≤◌, List, [], ◌∷◌, ◌++◌, length, slice_get, Option, Some, None, refl, sym, subst, ap, ◌∙◌}
use Rattle.std.proofs.Common.{arith, append_assoc}
use Rattle.std.proofs.lemmas.List.{length-append, append-nil}
use Rattle.pie_value.specs.declared.event.Answer.{Answer}
use Rattle.pie_value.specs.Tree.{Tree as Val}
use Rattle.pie_operators.specs.Domain.{Outcome, done, fails, wants, State, at_start}
use Rattle.pie_code.specs.declared.instr.Instr.TheVariants.{Return}
use Rattle.pie_code.specs.declared.code.Code.{Code}
use Rattle.pie_code.specs.Running.{Config, Turn, goes, ends, run, run_on, step, units}
use Rattle.pie_code.specs.Coming.{Ends, CodeNext}
use Rattle.pie_parser.specs.declared.tree.Param.{Param}
use Rattle.pie_parser.specs.FunctionTrees.{FunctionTree}
use Rattle.pie_semantics.specs.Words.{Env}
use Rattle.pie_semantics.specs.Meaning.{bound, block_value, next_of}
use Rattle.pie_codegen.specs.Spots.{after_block}
use Rattle.pie_codegen.specs.Rooms.{block_room}
use Rattle.pie_codegen.specs.Texts.{block_texts}
use Rattle.pie_codegen.specs.Compiled.{Scope, block_code}
use Rattle.pie_codegen.specs.Functions.{scope_onto, scope_of, origin, IsCodeOf, Means}
use Rattle.pie_codegen.proofs.Base.{HasAt, has_prefix, Agree, agree_front, Fits, Comes, Then, mono, one}
use Rattle.pie_codegen.proofs.Places.{behind, block_end}
use Rattle.pie_codegen.proofs.Steps.{at_low}
use Rattle.pie_codegen.proofs.Forms.{Lands}
use Rattle.pie_codegen.proofs.Runs.{block_run}

pub units_length : (n : ℕ) → length (units n) ≡ n
units_length zero = refl
units_length (suc n) = omega (arith, units_length n)

-- parameters have their arguments
params_agree : (ps : List Param) (vs front : List Val) (n : ℕ) (sc : Scope) (env : Env) → length vs ≡ length ps → length front ≡ n
    → Agree sc env (front ++ vs) → Agree (scope_onto n ps sc) (bound ps vs env) (front ++ vs)
params_agree [] vs front n sc env e z h = h
params_agree (p ∷ ps) [] front n sc env e z h = absurd (omega arith)
params_agree (p ∷ ps) (v ∷ vs) front n sc env e z h =
    subst (Agree (scope_onto (n + 1) ps ((p.name.text, n) ∷ sc)) (bound ps vs ((p.name.text, v) ∷ env))) (append_assoc front (v ∷ []) vs)
    (params_agree ps vs (front ++ v ∷ []) (n + 1) ((p.name.text, n) ∷ sc) ((p.name.text, v) ∷ env) (omega arith) (omega (arith, length-append front (v ∷ [])))
    (subst (Agree ((p.name.text, n) ∷ sc) ((p.name.text, v) ∷ env)) (sym (append_assoc front (v ∷ []) vs))
    (refl, ap (slice_get (front ++ v ∷ vs)) (sym z ∙ omega arith) ∙ at_low front (v ∷ vs) 0, h)))

-- what ends with itself
itself : (code : Code) (ev o : Outcome Val × State) → o ≡ ev → Then code ev (λ v s. (done v, s) ≡ ev) o
itself code ev (done v, s) e = e
itself code ev (fails k, s) e = e
itself code ev (wants w, s) e = e

has_all : {X : Type 0} (xs ys : List X) (a : ℕ) (zs : List X) → length xs ≡ a → zs ≡ xs ++ ys → HasAt zs a ys
has_all xs [] a zs e h = tt
has_all xs (y ∷ ys) a zs e h = (
  ap (λ l. slice_get l a) h ∙ ap (slice_get (xs ++ y ∷ ys)) (sym e ∙ omega arith) ∙ front xs y ys,
  has_all (xs ++ y ∷ []) ys (a + 1) zs (length-append xs (y ∷ []) ∙ omega arith) (h ∙ sym (append_assoc xs (y ∷ []) ys)),
)
  where
    front : {X : Type 0} (xs : List X) (y : X) (ys : List X) → slice_get (xs ++ y ∷ ys) (length xs + 0) ≡ Some y
    front [] y ys = refl
    front (x ∷ xs) y ys = let e : length (x ∷ xs) + 0 ≡ suc (length xs + 0) = omega arith in ap (slice_get (x ∷ (xs ++ y ∷ ys))) e ∙ front xs y ys

pub has_whole : {X : Type 0} (xs : List X) → HasAt xs 0 xs
has_whole xs = has_all [] xs 0 xs refl refl

-- the code of a function means what the function means
pub compiled : (f : FunctionTree) (code : Code) → IsCodeOf f code → Means f code
compiled f code is = record {
  comes = λ args answers e.
      let ev = next_of f args answers in
      let h : HasAt code.instrs.items 0 (block_code f.body origin (length f.params) (scope_of f.params) ++ Return ∷ []) =
      subst (HasAt code.instrs.items 0) is.instrs (has_whole code.instrs.items) in
      block_run code ev f.body (length f.params) (scope_of f.params) args (bound f.params args []) (code.slots - code.params)
      (record {
        size = e;
        agree = params_agree f.params args [] 0 [] [] e refl tt;
        small = omega (arith, is.slots, is.params, is.few);
      })
      origin [] (units (code.slots - code.params)) (at_start answers) (omega (arith, is.slots, is.params)) (units_length (code.slots - code.params)) (
        has_prefix _ _ (block_code f.body origin (length f.params) (scope_of f.params)) _ h,
        subst (HasAt code.texts.items 0) is.texts (has_whole code.texts.items),
      )
      (mono code ev (λ v s. (done v, s) ≡ ev) (Lands code ev (after_block f.body origin).at [] args (code.slots - code.params))
      (λ v s q junk d. one code ev Return (after_block f.body origin).at (v ∷ []) (args ++ junk) s
      (behind _ _ h (block_end f.body origin (length f.params) (scope_of f.params))).0 q)
      (block_value f.body (bound f.params args []) (at_start answers))
      (itself code ev ev refl));
}

-- code evaluates to one event alone
one_run : (code : Code) (n m : ℕ) (c : Config) (o p : Outcome Val × State) → run code n c ≡ Some o → run code m c ≡ Some p → o ≡ p
one_run code zero m c o p h k = absurd cc
one_run code (suc n) zero c o p h k = absurd cc
one_run code (suc n) (suc m) c o p h k = by_turn (step code c) (λ d. one_run code n m d o p) h k
  where
    by_turn : (t : Turn) → ((d : Config) → run code n d ≡ Some o → run code m d ≡ Some p → o ≡ p) → run_on t (run code n) ≡ Some o
        → run_on t (run code m) ≡ Some p → o ≡ p
    by_turn (goes d) again h k = again d h k
    by_turn (ends x s) again h k = cc

pub one_event : (code : Code) (c : Config) (o p : Outcome Val × State) → Ends code c o → Ends code c p → o ≡ p
one_event code c o p h k = one_run code h.0 k.0 c o p h.1 k.1
