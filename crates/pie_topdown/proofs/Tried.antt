-- Offers are asked for, and the next of them is checked, in the words of the model.
use Rattle.std.proofs.Common.{◌≡◌, ℕ, ◌<◌, false, List, [], ◌∷◌, ◌++◌, Option, None, Some, Box, Result, Ok, Err, Vec, length, map, take, sym, ap, subst, ◌∙◌, arith, append_assoc}
use Rattle.std.specs.declared.alloc.Global.{Global}
use Rattle.std.specs.Prelude.{slice_get, slice_index_or, IfOk, IfSome}
use Rattle.std.specs.List.{All, remove}
use Rattle.std.specs.BTreeMap.{get_by_text}
use Rattle.std.proofs.lemmas.List.{append-nil}
use Rattle.std.proofs.lemmas.List.Elements.{All-cons, All-push, All-head, All-tail, All-take}
use Rattle.pie_value.specs.declared.task.Task.{Task}
use Rattle.pie_value.specs.Canonical.{enc_task}
use Rattle.pie_code.specs.declared.code.Code.{Code}
use Rattle.pie_files.specs.Directory.{Directory}
use Rattle.pie_store.specs.declared.offers.Offer.{Offer}
use Rattle.pie_store.specs.inner.Offers.{Offered, offered, IsOffer}
use Rattle.pie_model.specs.Records.{Record}
use Rattle.pie_model.specs.Trees.{is_done}
use Rattle.pie_manner_laws.proofs.Listings.{listings_tell}
use Rattle.pie_model_pipeline.specs.Rows.{record_of}
use Rattle.pie_core_laws.specs.Update.{Update}
use Rattle.pie_topdown_laws.specs.Checks.{IsOldRecord}
use Rattle.pie_topdown_laws.specs.CheckLaws.{TellsApart}
use Rattle.pie_topdown_laws.specs.Ledgers.{setting}
use Rattle.pie_topdown_result_laws.specs.Builds.{IsHonest, IsHonestTo}
use Rattle.pie_topdown.specs.declared.builder.Builder.{Builder}
use Rattle.pie_topdown.specs.declared.hand.Check.{Check}
use Rattle.pie_topdown.specs.declared.hand.Hand.TheVariants as hands
use Rattle.pie_topdown.specs.declared.hand.Rest.TheVariants as rests
use Rattle.pie_topdown.specs.declared.hand.Turn.{Turn}
use Rattle.pie_topdown.specs.declared.hand.Turn.TheVariants.{Goes}
use Rattle.pie_topdown.specs.inner.Calling.{StartsSo}
use Rattle.pie_topdown.specs.inner.Due.{IsDue}
use Rattle.pie_topdown.specs.inner.Offering.{FitsSo, OffersOrRuns, OffersSo, Takes, TriesSo, ChecksOffer}
use Rattle.pie_topdown.specs.inner.Right.{BeginsCheck}

one_some : (x y : Task) → Some x ≡ Some y → x ≡ y
one_some x y e = cc

-- ---- what is offered

-- an honest offer is an old record
honest_old : (u : Update) (o : Offered) → (h : IsHonest u o) → IsOldRecord (setting u) h.before (enc_task o.0.task) (record_of o.0)
honest_old u o h = record {
  was = h.was;
  done = ap (λ (z : Record). is_done z.outcome) h.was ∙ h.done;
  meaning = h.meaning;
  polite = h.polite;
  met = h.met;
}

honest_apart : (u : Update) (o : Offered) → (h : IsHonest u o) → TellsApart (setting u) h.before
honest_apart u o h = record { stamps = h.apart; listings = listings_tell }

pub each_mapped : {A B : Type 0} (P : B → Type 0) (f : A → B) (xs : List A) → All P (map f xs) → All (λ x. P (f x)) xs
each_mapped P f [] h = λ i d l. absurd (omega (arith, l))
each_mapped P f (x ∷ xs) h =
    All-cons (λ y. P (f y)) x xs (All-head P (f x) (map f xs) h) (each_mapped P f xs (All-tail P (f x) (map f xs) h))

-- so are the first of those that a task is offered by the digest of its function
pub some_offered : (held : Option Directory) (told : Directory → Task → List ℕ → List Offered) (b : Builder) (at : ℕ) (t : Task) (digest : List ℕ) (n : ℕ)
    (all found : List Offer) → slice_get b.ledger.tables.names at ≡ Some t → get_by_text b.plan.digests t.func ≡ Some digest
    → IfSome held (λ d. map offered all ≡ told d t digest) → found ≡ take n all → OffersSo held told b at found
some_offered held told b at t digest n all found named has is some = λ u task here holds honest.
    subst (λ x. All (λ o. IsHonestTo u x (offered o)) found) (one_some t task (sym named ∙ here))
    (subst (All (λ o. IsHonestTo u t (offered o))) (sym some)
    (All-take (λ o. IsHonestTo u t (offered o)) n all
    (each_mapped (IsHonestTo u t) offered all
    (subst (All (IsHonestTo u t)) (sym (subst (λ h. IfSome h (λ d. map offered all ≡ told d t digest)) holds is)) (honest t digest has)))))

-- and where it has none, nothing is offered
pub none_offered : (held : Option Directory) (told : Directory → Task → List ℕ → List Offered) (b : Builder) (at : ℕ) (found : List Offer) → found ≡ []
    → OffersSo held told b at found
none_offered held told b at found none = λ u task here holds honest.
    subst (All (λ o. IsHonestTo u task (offered o))) (sym none) (λ i d l. absurd (omega (arith, l)))

-- ---- the next of them

-- the first is taken out
pub first_out : (rest after : List Offer) (o : Offer) → 0 < length rest → o ≡ slice_index_or rest 0 o → after ≡ remove rest 0 → rest ≡ o ∷ after
first_out [] after o l e f = absurd (omega (arith, l))
first_out (x ∷ xs) after o l e f = ap (λ z. z ∷ xs) (sym e) ∙ ap (λ zs. o ∷ zs) (sym f)

-- one more was passed over
pub over_more : (b : Builder) (n : ℕ) (old rest after : List Offer) (o : Offer)
    → (over : List Offer) × (old ≡ over ++ rest) × All (λ x. FitsSo b n x false) over → rest ≡ o ∷ after → FitsSo b n o false
    → (over : List Offer) × (old ≡ over ++ after) × All (λ x. FitsSo b n x false) over
over_more b n old rest after o h e fits = (
  h.0 ++ o ∷ [],
  h.1 ∙ ap (λ xs. h.0 ++ xs) e ∙ sym (append_assoc h.0 (o ∷ []) after),
  All-push (λ x. FitsSo b n x false) h.0 o h.2 fits,
)

-- all were
pub over_all : (b : Builder) (n : ℕ) (old rest after : List Offer) → (over : List Offer) × (old ≡ over ++ rest) × All (λ x. FitsSo b n x false) over → rest ≡ []
    → Takes b n old after None
over_all b n old rest after h none =
    subst (All (λ x. FitsSo b n x false)) (sym (h.1 ∙ ap (λ xs. h.0 ++ xs) none ∙ append-nil h.0)) h.2

pub behind : {A : Type 0} (P : A → Type 0) (xs ys : List A) → All P (xs ++ ys) → All P ys
behind P [] ys h = h
behind P (x ∷ xs) ys h = behind P xs ys (All-tail P x (xs ++ ys) h)

-- the task is checked against the one that was taken
pub check_tries : {E : Type 0} (b new : Builder) (n : ℕ) (code : Code) (old after : List Offer) (o : Box Offer Global) (r : Result Turn E) → All IsOffer old
    → Takes b n old after (Some o) → IfOk r (ChecksOffer b n code o.value after new) → IfOk r (TriesSo b n code old new)
check_tries b new n code old after o (Err x) all takes checks = tt
check_tries b new n code old after o (Ok t) all takes checks =
    let taken : All IsOffer (o.value ∷ after) = behind IsOffer takes.0 (o.value ∷ after) (subst (All IsOffer) takes.1 all) in
    λ u done root fs s waiting e honest due.
    checks (All-head IsOffer o.value after taken).parts u done root fs s waiting e
    (behind (λ x. IsHonestTo u e.task (offered x)) takes.0 (o.value ∷ after) (subst (All (λ x. IsHonestTo u e.task (offered x))) takes.1 honest)) due

-- or it runs, where none is left
pub start_tries : {E : Type 0} (b new : Builder) (n : ℕ) (code : Code) (old : List Offer) (r : Result Turn E) → IfOk r (StartsSo b n code new)
    → IfOk r (TriesSo b n code old new)
start_tries b new n code old (Err x) starts = tt
start_tries b new n code old (Ok t) starts = λ u done root fs s waiting e honest due. starts u done root fs s waiting e due

-- its check begins
pub offer_checks : (b : Builder) (n : ℕ) (code : Code) (offer : Offer) (rest : Vec Offer Global) (c : Box Check Global)
    → slice_get b.ledger.tables.names n ≡ Some offer.row.task
    → BeginsCheck b n code offer.row (Some offer.contents) (rests.Asked rest) c.value → ChecksOffer b n code offer rest.items b (Goes (hands.Checks c))
offer_checks b n code offer rest c named begins parts = λ u done root fs s waiting e honest due.
    let its : e.task ≡ offer.row.task = one_some e.task offer.row.task (sym e.named ∙ named) in
    let h : IsHonest u (offered offer) = All-head (λ x. IsHonestTo u e.task (offered x)) offer rest.items honest (sym its) in
    record {
      site = s;
      fs = fs;
      waiting = waiting;
      hand = begins u done root fs h.before s e (honest_old u (offered offer) h) (honest_apart u (offered offer) h) parts h
          (subst (IsDue u b.plan) (one_some due.task offer.row.task (sym due.named ∙ named)) due.due)
          (subst (λ x. All (λ o. IsHonestTo u x (offered o)) rest.items) its (All-tail (λ x. IsHonestTo u e.task (offered x)) offer rest.items honest));
    }

-- they are asked for
pub asks_begins : {E : Type 0} (held : Option Directory) (told : Directory → Task → List ℕ → List Offered) (b new : Builder) (n : ℕ) (code : Code)
    (found : List Offer) (r : Result Turn E) → OffersSo held told b n found → IfOk r (TriesSo b n code found new)
    → IfOk r (OffersOrRuns held told b n code new)
asks_begins held told b new n code found (Err x) offers tries = tt
asks_begins held told b new n code found (Ok t) offers tries = λ u done root fs holds plan honest s waiting e due.
    tries u done root fs s waiting e (offers u e.task e.named holds honest) due
