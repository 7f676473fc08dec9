-- Effects on typed operands, with answers that fit, give values of their types.
use Rattle.std.proofs.Common.{◌≡◌, ℕ, ◌+◌, Bool, true, false, cond, List, [], ◌∷◌, ◌++◌, refl, ap, sym, ◌∙◌, subst}
use Rattle.std.specs.Prelude.{Option, Some, None, Ok, Err, nat_lt, length}
use Rattle.std.specs.Str.{is_utf8}
use Rattle.pie_base.specs.declared.fault.FaultKind.TheVariants.{Big, NotText, Clash as ClashFault, BadList, BadWrite, WroteTwice, ReadThenWrite, Said}
use Rattle.pie_base.specs.Path.{is_out}
use Rattle.pie_value.specs.declared.event.Answer.{Answer}
use Rattle.pie_value.specs.declared.event.Answer.TheVariants as answers
use Rattle.pie_value.specs.declared.event.By.{By}
use Rattle.pie_value.specs.declared.event.By.TheVariants.{Hash, Mark, Raw}
use Rattle.pie_value.specs.declared.event.How.{How}
use Rattle.pie_value.specs.declared.event.How.TheVariants.{Whole, Hashed, Ran}
use Rattle.pie_value.specs.declared.task.Task.{Task}
use Rattle.pie_value.specs.Tree.{Tree as Val, TText, TPath, TList, TBytes, items_of}
use Rattle.pie_value.specs.Values.{tree_of}
use Rattle.pie_value.specs.Types.{TyTree, UnitTy, BoolTy, TextTy, PathTy, ListTy, NullableTy, BytesTy}
use Rattle.pie_value.specs.Limits.{is_small_task}
use Rattle.pie_value.specs.BuiltinForms.{Answered}
use Rattle.pie_operators.specs.declared.asking.Observation.{Observation}
use Rattle.pie_operators.specs.declared.asking.Observation.TheVariants.{Exists, Read, Digest, List as Listing}
use Rattle.pie_operators.specs.declared.asking.Question.{Question}
use Rattle.pie_operators.specs.declared.asking.Question.TheVariants.{Observe, Write, Require}
use Rattle.pie_operators.specs.Domain.{Outcome, done, fails, wants, State, Act, fault, by_answer, holds, with_path}
use Rattle.pie_operators.specs.Effects.{event_of, text_read, content_or_null, digits_or_null, observed, written, required, taken, is_content, noted}
use Rattle.pie_operators.specs.Effects.{asked, may_observe, observe, write_bytes, write, require, fail}
use Rattle.pie_types.specs.Headings.{Heading, function_in}
use Rattle.pie_types.specs.Operators.{is_writable}
use Rattle.pie_type_laws.specs.Fitting.{IsOf, AnswerFits, OutputFits}
use Rattle.pie_type_laws.specs.NeverStuck.{Takes}
use Rattle.pie_type_laws.proofs.Safe.{IsKnown, AnswersFit, EventIsTyped}
use Rattle.pie_type_laws.proofs.Acts.{Comes, Sound, Good, fault_sound}
use Rattle.pie_type_laws.proofs.Inhabitants.{of_text, of_path, of_bytes}
use Rattle.pie_type_laws.proofs.Operators.{big_known, either_good, made_good}

-- a state with other answers left
abbrev with_answers : State → List Answer → State
with_answers s xs = record s { answers = xs }

noted_content : (b : Bool) (p : List ℕ) (s : State) (xs : List Answer)
    → cond b (record s { seen = with_path s.seen p; answers = xs }) (with_answers s xs) ≡ with_answers (cond b (record s { seen = with_path s.seen p }) s) xs
noted_content true p s xs = refl
noted_content false p s xs = refl

noted_with : (q : Question) (s : State) (xs : List Answer) → noted q (with_answers s xs) ≡ with_answers (noted q s) xs
noted_with (Observe o p) s xs = noted_content (is_content o) p s xs
noted_with (Write p bs) s xs = refl
noted_with (Require t how) s xs = refl

answered_comes : (hs : List Heading) (t : TyTree) (q : Question) (s : State) (a : Answer) (rest : List Answer) (o : Answered) → taken q a ≡ o → Good t o
    → Comes hs (IsOf t) (asked q) (with_answers s (a ∷ rest)) (by_answer o (noted q (with_answers s rest)))
answered_comes hs t q s a rest (Ok v) e g = (
  g,
  record {
    used = a ∷ [];
    split = ap (λ (u : State). a ∷ u.answers) (sym (noted_with q s rest));
    any = λ xs.
        ap (λ (o : Answered). by_answer o (noted q (with_answers s xs))) e
        ∙ ap (λ (u : State). (done v, u)) (noted_with q s xs ∙ ap (λ (u : State). with_answers u xs) (sym (noted_with q s rest)));
  },
)
answered_comes hs t q s a rest (Err k) e g = g

asked_comes : (hs : List Heading) (t : TyTree) (q : Question) → EventIsTyped hs (event_of q)
    → ((a : Answer) → AnswerFits hs (event_of q) a → Good t (taken q a)) → (s : State) (xs : List Answer)
    → AnswersFit hs (asked q) (with_answers s xs) → Comes hs (IsOf t) (asked q) (with_answers s xs) (asked q (with_answers s xs))
asked_comes hs t q typed good s [] fit = typed
asked_comes hs t q typed good s (a ∷ rest) fit =
    answered_comes hs t q s a rest (taken q a) refl (good a (fit [] rest a (event_of q) refl refl))

-- a question of which each answer that fits gives a value of the type
pub asked_sound : (hs : List Heading) (t : TyTree) (q : Question) → EventIsTyped hs (event_of q)
    → ((a : Answer) → AnswerFits hs (event_of q) a → Good t (taken q a)) → Sound hs (IsOf t) (asked q)
asked_sound hs t q typed good s fit = asked_comes hs t q typed good s s.answers fit

choice_comes : {A : Type 0} (hs : List Heading) (P : A → Type 0) (m : Act A) (n : Act A) (s : State)
    → ((xs : List Answer) → n (with_answers s xs) ≡ m (with_answers s xs)) → Sound hs P m → AnswersFit hs n s → Comes hs P n s (m s)
choice_comes {A} hs P m n s same sound fit = go (m s)
    (sound s (λ before after a e h w. fit before after a e h (ap (λ (o : Outcome A × State). o.0) (same before) ∙ w)))
  where
    go : (o : Outcome A × State) → Comes hs P m s o → Comes hs P n s o
    go (done v, t) (p, k) = (p, record { used = k.used; split = k.split; any = λ rest. same (k.used ++ rest) ∙ k.any rest })
    go (fails k, t) p = p
    go (wants e, t) p = p

-- one of two, by what doesn't depend on the answers that are left
abbrev choice : {A : Type 0} → (State → Bool) → Act A → Act A → Act A
choice test x y s = cond (test s) (x s) (y s)

choice_by : {A : Type 0} (hs : List Heading) (P : A → Type 0) (test : State → Bool) (x y : Act A) (s : State)
    → ((xs : List Answer) → test (with_answers s xs) ≡ test s) → Sound hs P x → Sound hs P y → AnswersFit hs (choice test x y) s
    → (b : Bool) → test s ≡ b → Comes hs P (choice test x y) s (cond b (x s) (y s))
choice_by hs P test x y s steady f g fit true e = choice_comes hs P x (choice test x y) s
    (λ xs. ap (λ (b : Bool). cond b (x (with_answers s xs)) (y (with_answers s xs))) (steady xs ∙ e)) f fit
choice_by hs P test x y s steady f g fit false e = choice_comes hs P y (choice test x y) s
    (λ xs. ap (λ (b : Bool). cond b (x (with_answers s xs)) (y (with_answers s xs))) (steady xs ∙ e)) g fit

choice_sound : {A : Type 0} (hs : List Heading) (P : A → Type 0) (test : State → Bool) (x y : Act A)
    → ((s : State) (xs : List Answer) → test (with_answers s xs) ≡ test s) → Sound hs P x → Sound hs P y → Sound hs P (choice test x y)
choice_sound hs P test x y steady f g s fit = choice_by hs P test x y s (steady s) f g fit (test s) refl

pub cond_sound : {A : Type 0} (hs : List Heading) (P : A → Type 0) (b : Bool) (x y : Act A) → Sound hs P x → Sound hs P y → Sound hs P (cond b x y)
cond_sound hs P true x y f g = f
cond_sound hs P false x y f g = g

clash_known : IsKnown ClashFault
clash_known h = cc

not_text_known : IsKnown NotText
not_text_known h = cc

bad_list_known : IsKnown BadList
bad_list_known h = cc

bad_write_known : IsKnown BadWrite
bad_write_known h = cc

wrote_known : IsKnown WroteTwice
wrote_known h = cc

read_known : IsKnown ReadThenWrite
read_known h = cc

said_known : (s : List ℕ) → IsKnown (Said s)
said_known s h = cc

-- the type of what an observation gives
abbrev pub gives : Observation → TyTree
gives Exists = BoolTy
gives (Read Raw) = NullableTy BytesTy
gives (Read Hash) = NullableTy TextTy
gives (Read Mark) = NullableTy TextTy
gives Digest = NullableTy TextTy
gives Listing = ListTy PathTy

text_good : (bs : List ℕ) → Good (NullableTy TextTy) (text_read bs)
text_good bs = either_good (NullableTy TextTy) (nat_lt 1048576 (5 + length bs)) (Err Big) (cond (is_utf8 bs) (Ok (TText bs)) (Err NotText)) big_known
    (either_good (NullableTy TextTy) (is_utf8 bs) (Ok (TText bs)) (Err NotText) refl not_text_known)

content_good : (by : By) (bs : Option (List ℕ)) → Good (gives (Read by)) (content_or_null by bs)
content_good Raw None = refl
content_good Hash None = refl
content_good Mark None = refl
content_good Raw (Some bs) = made_good (NullableTy BytesTy) (TBytes bs) refl
content_good Hash (Some bs) = text_good bs
content_good Mark (Some bs) = text_good bs

digits_good : (hash : Option (List ℕ)) → Good (NullableTy TextTy) (digits_or_null hash)
digits_good None = refl
digits_good (Some hash) = refl

observed_good : (hs : List Heading) (o : Observation) (p : List ℕ) (a : Answer) → AnswerFits hs (event_of (Observe o p)) a → Good (gives o) (observed o a)
observed_good hs Exists p (answers.Flag b) f = refl
observed_good hs Exists p answers.Clash f = clash_known
observed_good hs (Read Raw) p (answers.Bytes bs) f = content_good Raw bs
observed_good hs (Read Raw) p answers.Clash f = clash_known
observed_good hs (Read Hash) p (answers.Bytes bs) f = content_good Hash bs
observed_good hs (Read Hash) p answers.Clash f = clash_known
observed_good hs (Read Mark) p (answers.Bytes bs) f = content_good Mark bs
observed_good hs (Read Mark) p answers.Clash f = clash_known
observed_good hs Digest p (answers.Digest hash) f = digits_good hash
observed_good hs Digest p answers.Clash f = clash_known
observed_good hs Listing p (answers.Entries ts) f = made_good (ListTy PathTy) (TList (items_of ts)) f
observed_good hs o p a f = absurd f

event_typed : (hs : List Heading) (o : Observation) (p : List ℕ) → EventIsTyped hs (event_of (Observe o p))
event_typed hs Exists p = tt
event_typed hs (Read Raw) p = tt
event_typed hs (Read Hash) p = tt
event_typed hs (Read Mark) p = tt
event_typed hs Digest p = tt
event_typed hs Listing p = tt

-- an observation of a path
pub observe_sound : (hs : List Heading) (o : Observation) (v : Val) → IsOf PathTy v → Sound hs (IsOf (gives o)) (observe o v)
observe_sound hs o v h = of_path (λ v. Sound hs (IsOf (gives o)) (observe o v))
    (λ p. cond_sound hs (IsOf (gives o)) (may_observe o p) (asked (Observe o p)) (fault BadList)
    (asked_sound hs (gives o) (Observe o p) (event_typed hs o p) (observed_good hs o p))
    (fault_sound hs (IsOf (gives o)) BadList bad_list_known)) v h

written_good : (hs : List Heading) (p bs : List ℕ) (a : Answer) → AnswerFits hs (event_of (Write p bs)) a → Good UnitTy (written a)
written_good hs p bs answers.Wrote f = refl
written_good hs p bs a f = absurd f

bytes_sound : (hs : List Heading) (p bs : List ℕ) → Sound hs (IsOf UnitTy) (write_bytes p bs)
bytes_sound hs p bs =
    let ask = asked_sound hs UnitTy (Write p bs) tt (written_good hs p bs) in
    let seen = choice_sound hs (IsOf UnitTy) (λ s. holds s.seen p) (fault ReadThenWrite) (asked (Write p bs)) (λ s xs. refl)
    (fault_sound hs (IsOf UnitTy) ReadThenWrite read_known) ask in
    let wrote = choice_sound hs (IsOf UnitTy) (λ s. holds s.wrote p) (fault WroteTwice)
    (choice (λ s. holds s.seen p) (fault ReadThenWrite) (asked (Write p bs))) (λ s xs. refl)
    (fault_sound hs (IsOf UnitTy) WroteTwice wrote_known) seen in
    choice_sound hs (IsOf UnitTy) (λ s. is_out p)
    (choice (λ s. holds s.wrote p) (fault WroteTwice) (choice (λ s. holds s.seen p) (fault ReadThenWrite) (asked (Write p bs)))) (fault BadWrite) (λ s xs. refl)
    wrote (fault_sound hs (IsOf UnitTy) BadWrite bad_write_known)

-- a write of a text or of bytes
pub write_sound : (hs : List Heading) (t : TyTree) → is_writable t ≡ true → (v w : Val) → IsOf PathTy v → IsOf t w → Sound hs (IsOf UnitTy) (write v w)
write_sound hs TextTy a v w p q =
    of_path (λ v. Sound hs (IsOf UnitTy) (write v w)) (λ x. of_text (λ w. Sound hs (IsOf UnitTy) (write (TPath x) w)) (λ s. bytes_sound hs x s) w q) v p
write_sound hs BytesTy a v w p q =
    of_path (λ v. Sound hs (IsOf UnitTy) (write v w)) (λ x. of_bytes (λ w. Sound hs (IsOf UnitTy) (write (TPath x) w)) (λ s. bytes_sound hs x s) w q) v p
write_sound hs t a v w p q = let f : ⊥ = cc in absurd f

-- the type of what a required task gives
abbrev pub output_type : How → Heading → TyTree
output_type Whole h = h.result
output_type Hashed h = h.result
output_type Ran h = UnitTy

output_good : (o : Option Heading) (h : Heading) (v : Val) → o ≡ Some h → OutputFits o v → IsOf h.result v
output_good None h v e f = absurd f
output_good (Some g) h v e f = let p : g ≡ h = cc in subst (λ (x : Heading). IsOf x.result v) p f

required_good : (hs : List Heading) (t : Task) (h : Heading) → function_in t.func hs ≡ Some h → (how : How) (a : Answer)
    → AnswerFits hs (event_of (Require t how)) a → Good (output_type how h) (required how a)
required_good hs t h e Whole (answers.Output v) f = output_good (function_in t.func hs) h (tree_of v) e f
required_good hs t h e Hashed (answers.Output v) f = output_good (function_in t.func hs) h (tree_of v) e f
required_good hs t h e Ran answers.Ran f = refl
required_good hs t h e how a f = absurd f

-- a required task
pub require_sound : (hs : List Heading) (how : How) (n : List ℕ) (h : Heading) (vs : List Val) → function_in n hs ≡ Some h → Takes h vs
    → Sound hs (IsOf (output_type how h)) (require how n vs)
require_sound hs how n h vs e takes =
    let t : Task = record { func = n; args = vs } in
    cond_sound hs (IsOf (output_type how h)) (is_small_task t) (asked (Require t how)) (fault Big)
    (asked_sound hs (output_type how h) (Require t how) (h, e, takes) (required_good hs t h e how))
    (fault_sound hs (IsOf (output_type how h)) Big big_known)

-- the task says that it fails
pub fail_sound : (hs : List Heading) (t : TyTree) (v : Val) → IsOf TextTy v → Sound hs (IsOf t) (fail v)
fail_sound hs t v h = of_text (λ v. Sound hs (IsOf t) (fail v)) (λ s. fault_sound hs (IsOf t) (Said s) (said_known s)) v h
