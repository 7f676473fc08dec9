-- Built-in functions answer arguments that fit by a value of the answer's type, or by a fault that isn't Unknown.
use Rattle.std.proofs.Common.{◌≡◌, ℕ, Bool, true, cond, ◌&&◌, List, [], ◌∷◌, length, refl}
use Rattle.std.specs.Prelude.{ℤ, pos, negsuc, Option, Some, None, option_map, Err, codes, take, drop, nat_le}
use Rattle.std.specs.Fmt.{signed_decimal}
use Rattle.pie_base.specs.declared.fault.FaultKind.TheVariants.{BadPath, Null as NullFault, Range as RangeFault}
use Rattle.pie_base.specs.Path.{is_path}
use Rattle.pie_value.specs.declared.builtin.Builtin.TheVariants as builtins
use Rattle.pie_value.specs.Tree.{Tree as Val, TUnit, TBool, TInt, TText, TPath, TList, TTuple, TNull, TBytes, count_of}
use Rattle.pie_value.specs.Types.{TyTree, BoolTy, IntTy, TextTy, PathTy, ListTy, NullableTy, BytesTy}
use Rattle.pie_value.specs.BuiltinForms.{Answered, made, made_or_null, given, at_place, cut_out}
use Rattle.pie_value.specs.BuiltinTexts.{pieces}
use Rattle.pie_value.specs.BuiltinItems.{as_int, as_text, as_path, text_list}
use Rattle.pie_value.specs.Builtins.{path_or_fault, text_answer, length_answer, split_answer, some_answer, get_answer}
use Rattle.pie_signature.specs.declared.wanted.Wanted.TheVariants as wants
use Rattle.pie_signature.specs.Wanted.{fits}
use Rattle.pie_signature.specs.Signatures.{answer_type_of}
use Rattle.pie_type_laws.specs.Fitting.{IsOf}
use Rattle.pie_type_laws.proofs.Safe.{IsKnown}
use Rattle.pie_type_laws.proofs.Acts.{Good}
use Rattle.pie_type_laws.proofs.Inhabitants.{nullable, null_has, of_nullable, of_bool, of_int, of_text, of_path, of_bytes, of_list}
use Rattle.pie_type_laws.proofs.Operators.{either_good, made_good}
use Rattle.pie_type_laws.proofs.Items as items
use Rattle.pie_type_laws.proofs.Wishes.{want_text, want_int, want_path}
use Rattle.pie_type_laws.proofs.Wishes.{want_nullable, not_nullable}

pub bad_path_known : IsKnown BadPath
bad_path_known h = cc

pub null_known : IsKnown NullFault
null_known h = cc

pub path_good : (s : List ℕ) → Good PathTy (path_or_fault s)
path_good s = either_good PathTy (is_path s) (made (TPath s)) (Err BadPath) (made_good PathTy (TPath s) refl) bad_path_known

-- one made from something, or null
pub mapped_or_null : {A : Type 0} (t : TyTree) (f : A → Val) → ((a : A) → IsOf t (f a)) → (o : Option A) → Good (NullableTy t) (made_or_null (option_map f o))
mapped_or_null t f h None = made_good (NullableTy t) TNull refl
mapped_or_null t f h (Some a) = made_good (NullableTy t) (f a) (nullable t (f a) (h a))

pub texts_good : (texts : List (List ℕ)) → Good (ListTy TextTy) (made (text_list texts))
texts_good texts = made_good (ListTy TextTy) (text_list texts) (items.mapped_all TextTy TText (λ s. refl) texts)

pub split_good : (s p : List ℕ) → Good (ListTy TextTy) (split_answer s p)
split_good s [] = items.range_known
split_good s (b ∷ p) = texts_good (pieces s (b ∷ p))

-- a function of one text
pub text_good : (R : TyTree → TyTree) (answer : List ℕ → Answered) → ((t : TyTree) (s : List ℕ) → Good (R t) (answer s)) → (t : TyTree) (v : Val)
    → fits wants.Text t ≡ true → IsOf t v → Good (R t) (given (as_text v) answer)
text_good R answer h t v a p = want_text (λ v. Good (R t) (given (as_text v) answer)) (λ s. h t s) t v a p

-- a function of one path
pub of_path_good : (R : TyTree → TyTree) (answer : List ℕ → Answered) → ((t : TyTree) (s : List ℕ) → Good (R t) (answer s)) → (t : TyTree) (v : Val)
    → fits wants.Path t ≡ true → IsOf t v → Good (R t) (given (as_path v) answer)
of_path_good R answer h t v a p = want_path (λ v. Good (R t) (given (as_path v) answer)) (λ s. h t s) t v a p

-- an argument that has to be an integer
pub int_good : (r : TyTree) (answer : ℤ → Answered) → ((n : ℤ) → Good r (answer n)) → (t : TyTree) (v : Val) → fits wants.Int t ≡ true → IsOf t v
    → Good r (given (as_int v) answer)
int_good r answer h t v a p = want_int (λ v. Good r (given (as_int v) answer)) h t v a p

-- a function of two texts
pub two_texts_good : (r : TyTree) (answer : List ℕ → List ℕ → Answered) → ((s p : List ℕ) → Good r (answer s p)) → (t u : TyTree) (v y : Val)
    → fits wants.Text t ≡ true → fits wants.Text u ≡ true → IsOf t v → IsOf u y → Good r (given (as_text v) (λ s. given (as_text y) (answer s)))
two_texts_good r answer h t u v y a b p q =
    text_good (λ _. r) (λ s. given (as_text y) (answer s)) (λ _ s. text_good (λ _. r) (answer s) (λ _ x. h s x) u y b q) t v a p

pub place_good : (r : TyTree) (answer : ℕ → Answered) → ((i : ℕ) → Good r (answer i)) → (n : ℤ) → Good r (at_place n answer)
place_good r answer h (pos n) = h n
place_good r answer h (negsuc n) = items.range_known

pub cut_good : (r : TyTree) (value : List ℕ → Val) → ((s : List ℕ) → IsOf r (value s)) → (may : ℕ → Bool) (s : List ℕ) (from to : ℤ)
    → Good r (cut_out value may s from to)
cut_good r value h may s from to =
    place_good r (λ i. at_place to (λ j. cond (nat_le i j && nat_le j (length s) && may i && may j) (made (value (drop i (take j s)))) (Err RangeFault)))
    (λ i. place_good r (λ j. cond (nat_le i j && nat_le j (length s) && may i && may j) (made (value (drop i (take j s)))) (Err RangeFault))
    (λ j. either_good r (nat_le i j && nat_le j (length s) && may i && may j) (made (value (drop i (take j s)))) (Err RangeFault)
    (made_good r (value (drop i (take j s))) (h (drop i (take j s)))) items.range_known) to) from

pub printed_good : (t : TyTree) (v : Val) → fits wants.Printable t ≡ true → IsOf t v → Good TextTy (text_answer v)
printed_good IntTy v a p = of_int (λ v. Good TextTy (text_answer v)) (λ n. made_good TextTy (TText (signed_decimal n)) refl) v p
printed_good BoolTy v a p =
    of_bool (λ v. Good TextTy (text_answer v)) (λ b. made_good TextTy (TText (cond b (codes "true") (codes "false"))) refl) v p
printed_good PathTy v a p = of_path (λ v. Good TextTy (text_answer v)) (λ s. made_good TextTy (TText s) refl) v p
printed_good t v a p = let f : ⊥ = cc in absurd f

pub measured_good : (t : TyTree) (v : Val) → fits wants.Measurable t ≡ true → IsOf t v → Good IntTy (length_answer v)
measured_good TextTy v a p = of_text (λ v. Good IntTy (length_answer v)) (λ s. made_good IntTy (TInt (pos (length s))) refl) v p
measured_good BytesTy v a p = of_bytes (λ v. Good IntTy (length_answer v)) (λ s. made_good IntTy (TInt (pos (length s))) refl) v p
measured_good (ListTy t) v a p = of_list t (λ v. Good IntTy (length_answer v)) (λ vs h. made_good IntTy (TInt (pos (count_of vs))) refl) v p
measured_good t v a p = let f : ⊥ = cc in absurd f

pub some_good : (t : TyTree) (v : Val) → fits wants.Present t ≡ true → IsOf t v → Good (NullableTy t) (some_answer v)
some_good t TNull a p = absurd (null_has t (not_nullable t a) p)
some_good t TUnit a p = nullable t TUnit p
some_good t (TBool b) a p = nullable t (TBool b) p
some_good t (TInt n) a p = nullable t (TInt n) p
some_good t (TText s) a p = nullable t (TText s) p
some_good t (TPath s) a p = nullable t (TPath s) p
some_good t (TList vs) a p = nullable t (TList vs) p
some_good t (TTuple vs) a p = nullable t (TTuple vs) p
some_good t (TBytes s) a p = nullable t (TBytes s) p

pub present_good : (u : TyTree) (v : Val) → IsOf u v → Good u (get_answer v)
present_good u TNull p = null_known
present_good u TUnit p = p
present_good u (TBool b) p = p
present_good u (TInt n) p = p
present_good u (TText s) p = p
present_good u (TPath s) p = p
present_good u (TList vs) p = p
present_good u (TTuple vs) p = p
present_good u (TBytes s) p = p

pub get_good : (t : TyTree) (v : Val) → fits wants.Nullable t ≡ true → IsOf t v → Good (answer_type_of builtins.Get t) (get_answer v)
get_good t v a p = want_nullable (λ t v. Good (answer_type_of builtins.Get t) (get_answer v))
    (λ u v h. of_nullable u (λ v. Good u (get_answer v)) null_known (present_good u) v h) t v a p
