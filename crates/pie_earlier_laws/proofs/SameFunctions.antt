-- Functions with one digest take the same arguments and mean the same.
use Rattle.std.proofs.Common.{ℕ, zero, suc, ◌+◌, ◌<◌, ◌≡◌, Bool, true, false, cond, Option, Some, None, Ok, Err, List, [], ◌∷◌, ◌++◌, map, length, sym, ◌∙◌, ap}
use Rattle.std.proofs.Common.{subst, refl, arith, bytes_eq, Contains, IsTrue, slice_get, nat_lt, codes, ltb-true, ◌&&◌, ◌||◌, ◌==◌, ◌⊎◌}
use Rattle.std.proofs.Common.{inl, inr}
use Rattle.std.specs.Prelude.{slice_index_or, is_some}
use Rattle.std.specs.Ordering.{nat_cmp, is_lt}
use Rattle.std.specs.Cmp.Lexicographic.{slice_cmp}
use Rattle.std.proofs.lemmas.Cmp.{tied_itself, nat_list_cmp_total}
use Rattle.std.proofs.lemmas.List.Sorted.{IsPermutation-trans, IsPermutation-sym, IsPermutation-map, Contains-permutation}
use Rattle.pie_lexer.specs.declared.token.Token.{Token}
use Rattle.pie_parser.specs.declared.tree.Name.{Name}
use Rattle.pie_parser.specs.declared.tree.Param.{Param}
use Rattle.pie_parser.specs.PlainTypes.{TypeTree, PlainT, NamedT, ListT, TupleT, NullableT, TypeTrees, NilT, ConsT}
use Rattle.pie_parser.specs.FunctionTrees.{FunctionTree}
use Rattle.pie_parser.specs.FunctionGrammar.{IsPipeline}
use Rattle.pie_value.specs.declared.event.Answer.{Answer}
use Rattle.pie_value.specs.declared.task.Task.{Task}
use Rattle.pie_value.specs.Types.{TyTree, BytesTy, ListTy, TupleTy, NullableTy, parts_of}
use Rattle.pie_value.specs.Tree.{items_of}
use Rattle.pie_value.specs.HasType.{have_types}
use Rattle.pie_value.specs.Canonical.{enc_task, IsCanonicalTask}
use Rattle.pie_types.specs.Faults.{TypingResult, refuse, then_on, UnknownName, Duplicate, TooManyNames}
use Rattle.pie_types.specs.Written.{written, written_each}
use Rattle.pie_types.specs.Scope.{Entry, type_in, may_enter, with_name}
use Rattle.pie_types.specs.Headings.{Heading, with_param, params_from, signature_of}
use Rattle.pie_types.specs.Whole.{types_in, takes, number_from}
use Rattle.pie_digest.specs.Digests.{digests_of, row_names, function_names}
use Rattle.pie_spelling_laws.specs.Spans.{bare_name, bare_type, bare_types, bare_param, bare_params, bare_function}
use Rattle.pie_spelling_laws.specs.Spelling.{tokens_within, function_spelling}
use Rattle.pie_spelling_laws.specs.Standing.{IsFunctionOf}
use Rattle.pie_spelling_laws.specs.Same.{MeanTheSame}
use Rattle.pie_spelling_laws.proofs.Stretches.{each_stands}
use Rattle.pie_spelling_laws.proofs.Equal.{one_tree, equal_spellings}
use Rattle.pie_digest_laws.specs.Digests.{digest_in}
use Rattle.pie_digest_laws.proofs.Stretch.{each_has_its_digest}
use Rattle.pie_store.specs.Canonical.{name_before, AreFuncs}
use Rattle.pie_model.specs.Evaluation.{Project}
use Rattle.pie_model.specs.Changes.{BuildsSeparate}
use Rattle.pie_model.specs.Changes.IsMet.{named}
use Rattle.pie_model.specs.Reasons.{SameCode}
use Rattle.pie_model.proofs.Basics.{same_bytes, bytes_same, clash}
use Rattle.pie_model.proofs.LooksLemmas.{some_same}
use Rattle.pie_model_pipeline.specs.Words.{event_of}
use Rattle.pie_model_pipeline.specs.Answers.{answer_of}
use Rattle.pie_model_pipeline.specs.World.{world, function_at, outcome_by, task_evaluates_to, next}
use Rattle.pie_model_pipeline.proofs.Joining.{means_itself}
use Rattle.pie_earlier_laws.specs.Functions.{digest_under, IsPipelineOf, AreItsDigests, SpellingsSeparate, SpellingsAmong}

-- ---- typing sees no spans

-- an answer, if it is no refusal
abbrev answer_in : {A : Type 0} → TypingResult A → Option A
answer_in (Ok a) = Some a
answer_in (Err e) = None

then_same : {A B : Type 0} (x y : TypingResult A) (k l : A → TypingResult B) → answer_in x ≡ answer_in y
    → ((a : A) → answer_in (k a) ≡ answer_in (l a)) → answer_in (then_on x k) ≡ answer_in (then_on y l)
then_same (Ok a) (Ok b) k l e f = f a ∙ ap (λ z. answer_in (l z)) (some_same a b e)
then_same (Ok a) (Err b) k l e f = cc
then_same (Err a) (Ok b) k l e f = cc
then_same (Err a) (Err b) k l e f = refl

named_same : (i j k l : ℕ) (n : List ℕ) (b : Bool)
    → answer_in (cond b (Ok BytesTy) (refuse {A = TyTree} UnknownName i j)) ≡ answer_in (cond b (Ok BytesTy) (refuse {A = TyTree} UnknownName k l))
named_same i j k l n true = refl
named_same i j k l n false = refl

mutual
  written_same : (t : TypeTree) → answer_in (written (bare_type t)) ≡ answer_in (written t)
  written_same (PlainT i j p) = refl
  written_same (NamedT i j n) = named_same 0 0 i j n (bytes_eq n (codes "bytes"))
  written_same (ListT i j t) = then_same (written (bare_type t)) (written t) (λ u. Ok (ListTy u)) (λ u. Ok (ListTy u)) (written_same t) (λ u. refl)
  written_same (TupleT i j ts) =
      then_same (written_each (bare_types ts)) (written_each ts) (λ us. Ok (TupleTy (parts_of us))) (λ us. Ok (TupleTy (parts_of us))) (each_same ts)
      (λ us. refl)
  written_same (NullableT i j t) =
      then_same (written (bare_type t)) (written t) (λ u. Ok (NullableTy u)) (λ u. Ok (NullableTy u)) (written_same t) (λ u. refl)

  each_same : (ts : TypeTrees) → answer_in (written_each (bare_types ts)) ≡ answer_in (written_each ts)
  each_same NilT = refl
  each_same (ConsT t ts) =
      then_same (written (bare_type t)) (written t) (λ u. then_on (written_each (bare_types ts)) (λ us. Ok (u ∷ us)))
      (λ u. then_on (written_each ts) (λ us. Ok (u ∷ us))) (written_same t)
      (λ u. then_same (written_each (bare_types ts)) (written_each ts) (λ us. Ok (u ∷ us)) (λ us. Ok (u ∷ us)) (each_same ts) (λ us. refl))

enter_by : (i j k l : ℕ) (sc : List Entry) (a b : Bool)
    → answer_in (cond a (refuse Duplicate i j) (cond b (Ok sc) (refuse TooManyNames i j)))
    ≡ answer_in (cond a (refuse Duplicate k l) (cond b (Ok sc) (refuse TooManyNames k l)))
enter_by i j k l sc true b = refl
enter_by i j k l sc false true = refl
enter_by i j k l sc false false = refl

enter_same : (n : Name) (sc : List Entry) → answer_in (may_enter (bare_name n) sc) ≡ answer_in (may_enter n sc)
enter_same n sc = enter_by 0 0 n.at n.end sc (is_some (type_in n.text sc)) (nat_lt (length sc) 255)

param_same : (done : List Entry) (p : Param) → answer_in (with_param done (bare_param p)) ≡ answer_in (with_param done p)
param_same done p =
    then_same (may_enter (bare_name p.name) done) (may_enter p.name done)
    (λ _. then_on (written (bare_type p.kind)) (λ t. Ok (with_name done p.name.text t)))
    (λ _. then_on (written p.kind) (λ t. Ok (with_name done p.name.text t))) (enter_same p.name done)
    (λ a. then_same (written (bare_type p.kind)) (written p.kind) (λ t. Ok (with_name done p.name.text t))
    (λ t. Ok (with_name done p.name.text t)) (written_same p.kind) (λ t. refl))

params_same : (done : List Entry) (ps : List Param) → answer_in (params_from done (bare_params ps)) ≡ answer_in (params_from done ps)
params_same done [] = refl
params_same done (p ∷ ps) =
    then_same (with_param done (bare_param p)) (with_param done p) (λ es. params_from es (bare_params ps)) (λ es. params_from es ps) (param_same done p)
    (λ es. params_same es ps)

abbrev headed_by : FunctionTree → List Entry → TyTree → TypingResult Heading
headed_by f ps t = Ok (record { name = f.name.text; params = ps; result = t })

signature_same : (f : FunctionTree) → answer_in (signature_of (bare_function f)) ≡ answer_in (signature_of f)
signature_same f =
    then_same (params_from [] (bare_params f.params)) (params_from [] f.params)
    (λ ps. then_on (written (bare_type f.result)) (headed_by f ps)) (λ ps. then_on (written f.result) (headed_by f ps)) (params_same [] f.params)
    (λ ps. then_same (written (bare_type f.result)) (written f.result) (headed_by f ps) (headed_by f ps) (written_same f.result) (λ t. refl))

-- whether a task has the arguments of a heading, if there is one
abbrev takes_if : Option Heading → Task → Bool
takes_if None t = false
takes_if (Some h) t = have_types (parts_of (types_in h.params)) (items_of t.args)

takes_by : (r : TypingResult Heading) (t : Task) → takes r t ≡ takes_if (answer_in r) t
takes_by (Ok h) t = refl
takes_by (Err e) t = refl

take_alike : (f g : FunctionTree) → bare_function f ≡ bare_function g → (t : Task) → takes (signature_of f) t ≡ takes (signature_of g) t
take_alike f g e t =
    takes_by (signature_of f) t
    ∙ ap (λ o. takes_if o t) (sym (signature_same f) ∙ ap (λ z. answer_in (signature_of z)) e ∙ signature_same g)
    ∙ sym (takes_by (signature_of g) t)

-- ---- the function of a task

-- the first function with a name
abbrev function_named : List FunctionTree → List ℕ → Option FunctionTree
function_named [] n = None
function_named (f ∷ fs) n = cond (bytes_eq n f.name.text) (Some f) (function_named fs n)

-- that function, if it takes the task's arguments
abbrev if_takes : Option FunctionTree → Task → Option FunctionTree
if_takes None t = None
if_takes (Some f) t = cond (takes (signature_of f) t) (Some f) None

abbrev at_number : (ℕ → Option FunctionTree) → Option ℕ → Option FunctionTree
at_number get None = None
at_number get (Some n) = get n

found_named : (get : ℕ → Option FunctionTree) (n : ℕ) (fs : List FunctionTree) (t : Task) → ((k : ℕ) → get (n + k) ≡ slice_get fs k)
    → at_number get (number_from n fs t) ≡ if_takes (function_named fs t.func) t
found_named get n [] t h = refl
found_named get n (f ∷ fs) t h = go (bytes_eq t.func f.name.text) (found_named get (n + 1) fs t (λ k. next_place k ∙ h (suc k)))
  where
    next_place : (k : ℕ) → get (n + 1 + k) ≡ get (n + suc k)
    next_place k = ap get (let e : n + 1 + k ≡ n + suc k = omega arith in e)

    first : get n ≡ Some f
    first = ap get (let e : n ≡ n + 0 = omega arith in e) ∙ h 0

    takes_it : (b : Bool) → at_number get (cond b (Some n) None) ≡ cond b (Some f) None
    takes_it true = first
    takes_it false = refl

    go : (b : Bool) → at_number get (number_from (n + 1) fs t) ≡ if_takes (function_named fs t.func) t
        → at_number get (cond b (cond (takes (signature_of f) t) (Some n) None) (number_from (n + 1) fs t))
        ≡ if_takes (cond b (Some f) (function_named fs t.func)) t
    go true q = takes_it (takes (signature_of f) t)
    go false q = q

function_is : (fs : List FunctionTree) (o : Option ℕ) → function_at fs o ≡ at_number (slice_get fs) o
function_is fs None = refl
function_is fs (Some n) = refl

function_found : (fs : List FunctionTree) (t : Task) → function_at fs (number_from 0 fs t) ≡ if_takes (function_named fs t.func) t
function_found fs t = function_is fs (number_from 0 fs t) ∙ found_named (slice_get fs) 0 fs t (λ k. ap (slice_get fs) (let e : 0 + k ≡ k = omega arith in e))

-- functions that take the same and mean the same
outcome_alike : (f g : FunctionTree) (t : Task) (answers : List Answer) → MeanTheSame f g → (a b : Bool) → a ≡ b
    → outcome_by (cond a (Some f) None) t answers ≡ outcome_by (cond b (Some g) None) t answers
outcome_alike f g t answers m true true e = λ i. (m t.args answers i).0
outcome_alike f g t answers m true false e = cc
outcome_alike f g t answers m false true e = cc
outcome_alike f g t answers m false false e = refl

evaluate_alike : (fs gs : List FunctionTree) (f g : FunctionTree) (t : Task) (answers : List Answer) → function_named fs t.func ≡ Some f
    → function_named gs t.func ≡ Some g → bare_function f ≡ bare_function g → MeanTheSame f g
    → task_evaluates_to fs t answers ≡ task_evaluates_to gs t answers
evaluate_alike fs gs f g t answers i j e m =
    ap (λ o. outcome_by o t answers) (function_found fs t ∙ ap (λ o. if_takes o t) i)
    ∙ outcome_alike f g t answers m (takes (signature_of f) t) (takes (signature_of g) t) (take_alike f g e t)
    ∙ sym (ap (λ o. outcome_by o t answers) (function_found gs t ∙ ap (λ o. if_takes o t) j))

-- ---- where a function stands

-- the first function with a name, between others
record Standing (fs : List FunctionTree) (n : List ℕ) : Type 0 where
  found : FunctionTree
  is : function_named fs n ≡ Some found
  name : found.name.text ≡ n
  before : List FunctionTree
  behind : List FunctionTree
  splits : fs ≡ before ++ found ∷ behind

stands_next : (f : FunctionTree) (fs : List FunctionTree) (n : List ℕ) → bytes_eq n f.name.text ≡ false → Standing fs n → Standing (f ∷ fs) n
stands_next f fs n e s = record {
  found = s.found;
  is = ap (λ b. cond b (Some f) (function_named fs n)) e ∙ s.is;
  name = s.name;
  before = f ∷ s.before;
  behind = s.behind;
  splits = ap (λ z. f ∷ z) s.splits;
}

stands_named : (fs : List FunctionTree) (n : List ℕ) (k : ℕ) (d : List ℕ) → k < length (function_names fs) → slice_index_or (function_names fs) k d ≡ n
    → Standing fs n
stands_named [] n k d h e = absurd (omega arith)
stands_named (f ∷ fs) n zero d h e = record {
  found = f;
  is = ap (λ b. cond b (Some f) (function_named fs n)) (subst (λ z. bytes_eq n z ≡ true) (sym e) (bytes_same n));
  name = e;
  before = [];
  behind = fs;
  splits = refl;
}
stands_named (f ∷ fs) n (suc k) d h e = go (bytes_eq n f.name.text) refl (stands_named fs n k d (omega arith) e)
  where
    go : (b : Bool) → bytes_eq n f.name.text ≡ b → Standing fs n → Standing (f ∷ fs) n
    go true q s = record {
      found = f;
      is = ap (λ b. cond b (Some f) (function_named fs n)) q;
      name = sym (same_bytes n f.name.text q);
      before = [];
      behind = fs;
      splits = refl;
    }
    go false q s = stands_next f fs n q s

contains_middle : {A : Type 0} (xs ys : List A) (x : A) → Contains (xs ++ x ∷ ys) x
contains_middle [] ys x = (0, omega arith, refl)
contains_middle (y ∷ xs) ys x = let c = contains_middle xs ys x in (suc c.0, next c.0 (length (xs ++ x ∷ ys)) c.1, c.2)
  where
    next : (a b : ℕ) → a < b → suc a < suc b
    next a b h = omega arith

-- ---- rows

under_contains : (rows : List (List ℕ × List ℕ)) (n d : List ℕ) → digest_under rows n ≡ Some d → Contains rows (n, d)
under_contains [] n d h = cc
under_contains (row ∷ rows) n d h = go (bytes_eq n row.0) refl h (under_contains rows n d)
  where
    next : (a b : ℕ) → a < b → suc a < suc b
    next a b h = omega arith

    go : (b : Bool) → bytes_eq n row.0 ≡ b → cond b (Some row.1) (digest_under rows n) ≡ Some d → (digest_under rows n ≡ Some d → Contains rows (n, d))
        → Contains (row ∷ rows) (n, d)
    go true e k f =
        let i : n ≡ row.0 = same_bytes n row.0 e in
        let j : row.1 ≡ d = some_same row.1 d k in
        (0, omega arith, (λ z. (sym i z, j z)))
    go false e k f = let c = f k in (suc c.0, next c.0 (length rows) c.1, c.2)

-- no name comes before itself
not_less : (n : ℕ) (b : Bool) → nat_lt n n ≡ b → nat_lt n n ≡ false
not_less n true e = absurd (let h : n < n = ltb-true n n e in omega arith)
not_less n false e = e

neither : (a b : Bool) → a ≡ false → b ≡ false → (a || b) ≡ true → ⊥
neither true b e f h = cc
neither false b e f h = clash b h f

and_not : (a b : Bool) → b ≡ false → (a && b) ≡ false
and_not true b e = e
and_not false b e = refl

never_before : (n : List ℕ) → IsTrue (name_before n n) → ⊥
never_before n h =
    neither (nat_lt (length n) (length n)) (length n == length n && is_lt (slice_cmp nat_cmp n n)) (not_less (length n) (nat_lt (length n) (length n)) refl)
    (and_not (length n == length n) (is_lt (slice_cmp nat_cmp n n)) (ap is_lt (tied_itself nat_list_cmp_total n))) h

same_place : {A : Type 0} (xs : List A) (k : ℕ) (d e : A) → k < length xs → slice_index_or xs k d ≡ slice_index_or xs k e
same_place [] k d e h = absurd (omega arith)
same_place (x ∷ xs) zero d e h = refl
same_place (x ∷ xs) (suc k) d e h = same_place xs k d e (omega arith)

three_ways : (k l : ℕ) → (k < l) ⊎ ((l < k) ⊎ (k ≡ l))
three_ways zero zero = inr (inr refl)
three_ways zero (suc l) = inl (omega arith)
three_ways (suc k) zero = inr (inl (omega arith))
three_ways (suc k) (suc l) = go (three_ways k l)
  where
    go : (k < l) ⊎ ((l < k) ⊎ (k ≡ l)) → (suc k < suc l) ⊎ ((suc l < suc k) ⊎ (suc k ≡ suc l))
    go (inl h) = inl (omega arith)
    go (inr (inl h)) = inr (inl (omega arith))
    go (inr (inr h)) = inr (inr (ap suc h))

-- in rows with each name once a name has one digest
one_digest : (rows : List (List ℕ × List ℕ)) (n d e : List ℕ) → AreFuncs rows → Contains rows (n, d) → Contains rows (n, e) → d ≡ e
one_digest rows n d e F c b = go (three_ways c.0 b.0)
  where
    b_is : slice_index_or rows b.0 (n, d) ≡ (n, e)
    b_is = same_place rows b.0 (n, d) (n, e) b.1 ∙ b.2

    apart : {A : Type 0} → IsTrue (name_before n n) → A
    apart h = absurd (never_before n h)

    go : (c.0 < b.0) ⊎ ((b.0 < c.0) ⊎ (c.0 ≡ b.0)) → d ≡ e
    go (inl h) =
        apart (subst (λ (z : List ℕ × List ℕ). IsTrue (name_before n z.0)) b_is
        (subst (λ (z : List ℕ × List ℕ). IsTrue (name_before z.0 (slice_index_or rows b.0 (n, d)).0)) c.2 (F.ascending c.0 b.0 (n, d) h b.1)))
    go (inr (inl h)) =
        apart (subst (λ (z : List ℕ × List ℕ). IsTrue (name_before n z.0)) c.2
        (subst (λ (z : List ℕ × List ℕ). IsTrue (name_before z.0 (slice_index_or rows c.0 (n, d)).0)) b_is (F.ascending b.0 c.0 (n, d) h c.1)))
    go (inr (inr h)) = ap (λ (z : List ℕ × List ℕ). z.1) (sym c.2 ∙ ap (λ k. slice_index_or rows k (n, d)) h ∙ b_is)

-- the names of rows
contains_name : (rows : List (List ℕ × List ℕ)) (n d : List ℕ) → Contains rows (n, d) → Contains (row_names rows) n
contains_name rows n d c = named_at rows c.0 c.1 c.2
  where
    named_at : (rows : List (List ℕ × List ℕ)) (k : ℕ) → k < length rows → slice_index_or rows k (n, d) ≡ (n, d) → Contains (row_names rows) n
    named_at [] k h e = absurd (omega arith)
    named_at (row ∷ rows) zero h e = (0, omega arith, ap (λ (z : List ℕ × List ℕ). z.0) e)
    named_at (row ∷ rows) (suc k) h e = let r = named_at rows k (omega arith) e in (suc r.0, next r.0 (length (row_names rows)) r.1, r.2)
      where
        next : (a b : ℕ) → a < b → suc a < suc b
        next a b h = omega arith

-- ---- functions with a digest

module _ (text : List ℕ) (ts : List Token) (fs : List FunctionTree) (rows : List (List ℕ × List ℕ)) (P : IsPipelineOf text ts fs)
    (D : AreItsDigests text ts fs rows) where
  -- the function of a name that has a digest, which is its own
  record Digested (n d : List ℕ) : Type 0 where
    found : FunctionTree
    is : function_named fs n ≡ Some found
    listed : Contains fs found
    stands : IsFunctionOf text ts found
    digest : digest_in text ts found ≡ d

  digested : (n d : List ℕ) → digest_under rows n ≡ Some d → Digested n d
  digested n d h =
      let c = under_contains rows n d h in
      let i = Contains-permutation (row_names rows) (function_names fs) n (IsPermutation-sym (function_names fs) (row_names rows) D.names)
      (contains_name rows n d c) in
      by c (stands_named fs n i.0 n i.1 i.2)
    where
      by : Contains rows (n, d) → Standing fs n → Digested n d
      by c s =
          let stands : IsFunctionOf text ts s.found =
          record { lexed = P.lexed; before = s.before; behind = s.behind; pipeline = subst (IsPipeline ts) s.splits P.pipeline } in
          let own : Contains rows (n, digest_in text ts s.found) =
          subst (λ z. Contains rows (z, digest_in text ts s.found)) s.name
          (Contains-permutation (digests_of text ts) rows (s.found.name.text, digest_in text ts s.found) D.digests
          (each_has_its_digest text ts s.found stands)) in
          record {
            found = s.found;
            is = s.is;
            listed = subst (λ z. Contains z s.found) (sym s.splits) (contains_middle s.before s.behind s.found);
            stands = stands;
            digest = one_digest rows n (digest_in text ts s.found) d D.funcs own c;
          }

pub one_next : (text other : List ℕ) (ts us : List Token) (fs gs : List FunctionTree) (rows others : List (List ℕ × List ℕ)) (t : Task)
    → IsPipelineOf text ts fs → IsPipelineOf other us gs → AreItsDigests text ts fs rows → AreItsDigests other us gs others
    → SpellingsSeparate text ts fs other us gs → IsCanonicalTask t (enc_task t)
    → SameCode (digest_under rows t.func) (digest_under others t.func) → next fs (enc_task t) ≡ next gs (enc_task t)
one_next text other ts us fs gs rows others t P Q D E apart canonical same =
    let a = digested text ts fs rows P D t.func same.0 same.1 in
    let b = digested other us gs others Q E t.func same.0 same.2 in
    let spelled : function_spelling text ts a.found ≡ function_spelling other us b.found =
    apart a.found b.found a.listed b.listed (a.digest ∙ sym b.digest) in
    let tree : bare_function a.found ≡ bare_function b.found =
    one_tree text other (tokens_within a.found.at a.found.end ts) (tokens_within b.found.at b.found.end us) a.found b.found
    (each_stands text ts a.found a.stands) (each_stands other us b.found b.stands) spelled in
    let mean : MeanTheSame a.found b.found = equal_spellings text other ts us a.found b.found a.stands b.stands spelled in
    λ i given.
    (means_itself fs t canonical given
    ∙ ap event_of (evaluate_alike fs gs a.found b.found t (map answer_of given) a.is b.is tree mean)
    ∙ sym (means_itself gs t canonical given)) i

pub met_spellings : (text other : List ℕ) (ts us : List Token) (fs gs : List FunctionTree) (old now : Project) (old_roots roots besides : List (List ℕ))
    → SpellingsAmong text ts fs besides → SpellingsAmong other us gs besides → BuildsSeparate world old now old_roots roots besides
    → SpellingsSeparate text ts fs other us gs
unfolding world
met_spellings text other ts us fs gs old now old_roots roots besides A B S f g i j e =
    S.hashes (function_spelling text ts f) (function_spelling other us g) (named (A f i)) (named (B g j)) e

pub one_table : (text : List ℕ) (ts : List Token) (fs gs : List FunctionTree) (rows others : List (List ℕ × List ℕ)) → AreItsDigests text ts fs rows
    → AreItsDigests text ts gs others → AreItsDigests text ts fs others
one_table text ts fs gs rows others D E = record {
  digests = E.digests;
  names = IsPermutation-trans (function_names fs) (row_names rows) (row_names others) D.names
      (IsPermutation-map (λ (row : List ℕ × List ℕ). row.0) rows others
      (IsPermutation-trans rows (digests_of text ts) others (IsPermutation-sym (digests_of text ts) rows D.digests) E.digests));
  funcs = E.funcs;
}
