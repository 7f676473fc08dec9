-- Offers that stand, as the model of building knows them.
use Rattle.std.proofs.Common.{◌≡◌, ℕ, zero, suc, ◌<◌, true, false, List, [], ◌∷◌, Option, None, Some, Vec, length, map, take, get_or, refl, sym, ap, subst, ◌∙◌}
use Rattle.std.specs.declared.alloc.Global.{Global}
use Rattle.std.specs.Prelude.{slice_get}
use Rattle.std.specs.Option.{option_map_or}
use Rattle.std.specs.BTreeMap.{get_by_text}
use Rattle.std.specs.List.{All}
use Rattle.std.proofs.lemmas.List.{get_or_default, length-map}
use Rattle.std.proofs.lemmas.List.Elements.{All-nil, All-take, All-weaker}
use Rattle.sha2.specs.Sha256.{sha256}
use Rattle.pie_value.specs.declared.task.Task.{Task}
use Rattle.pie_value.specs.Canonical.{enc_task}
use Rattle.pie_files.specs.Directory.{Directory}
use Rattle.pie_record.specs.declared.task_record.Outcome.{Outcome}
use Rattle.pie_record.specs.declared.task_record.Outcome.TheVariants as outcomes
use Rattle.pie_results.specs.inner.Failures.{is_done as has_output}
use Rattle.pie_store.specs.declared.offers.Offer.{Offer}
use Rattle.pie_store.specs.inner.Offers.{Offered, offered}
use Rattle.pie_model.specs.Trees.{is_done, outcome_of as model_outcome, trace_of, writes_of}
use Rattle.pie_model.specs.Evaluation.{evaluation}
use Rattle.pie_model.specs.Records.{Record, hashed}
use Rattle.pie_model.proofs.Basics.{clash}
use Rattle.pie_model_pipeline.specs.Rows.{outcome_of}
use Rattle.pie_model_pipeline.specs.World.{world}
use Rattle.pie_builder_laws.specs.Names.{AreTasks}
use Rattle.pie_core_laws.specs.Update.{Update, present}
use Rattle.pie_topdown_result_laws.specs.Builds.{IsHonestTo, IsStanding}
use Rattle.pie_topdown.specs.declared.builder.Builder.{Builder}
use Rattle.pie_topdown.specs.declared.plan.Plan.{Plan}
use Rattle.pie_topdown.specs.inner.Offering.{FitsSo, HaveHashes}
use Rattle.pie_topdown.specs.inner.Right.{AreOffersHonest}
use Rattle.pie_topdown.specs.inner.Trying.{offers_to, AreHonestTo, NoneStands}

-- what is told is honest: so are the first four of it
pub honest_offers : (u : Update) (p : Plan) (told : Directory → Task → List ℕ → List Offered) → AreOffersHonest u p told
    → AreHonestTo u (offers_to p told u.directory)
honest_offers u p told honest t = by (get_by_text p.digests t.func) refl
  where
    by : (o : Option (List ℕ)) → get_by_text p.digests t.func ≡ o → All (IsHonestTo u t) (option_map_or (λ digest. take 4 (told u.directory t digest)) o [])
    by None e = All-nil (IsHonestTo u t)
    by (Some d) e = All-take (IsHonestTo u t) 4 (told u.directory t d) (honest t d e)

-- ---- a task with an offer that stands ends with a value

stands_done : (u : Update) (t : Task) (o : Offered) → IsHonestTo u t o → IsStanding u t o
    → is_done (model_outcome (evaluation world (present u) (enc_task t))) ≡ true
stands_done u t o honest s =
    let h = honest s.of in
    ap (λ (r : Record). is_done r.outcome) (sym s.is) ∙ ap (λ (r : Record). is_done r.outcome) h.was ∙ h.done

-- so one that doesn't has none
pub undone_none : (u : Update) (offers : Task → List Offered) (t : Task) → AreHonestTo u offers
    → is_done (model_outcome (evaluation world (present u) (enc_task t))) ≡ false → NoneStands u offers t
undone_none u offers t honest undone =
    All-weaker (IsHonestTo u t) (λ o. IsStanding u t o → ⊥)
    (λ o h s. clash (is_done (model_outcome (evaluation world (present u) (enc_task t)))) (stands_done u t o h s) undone) (offers t) (honest t)

-- ---- an offer that is passed over doesn't stand

with_output : (o : Outcome) → is_done (outcome_of o) ≡ true → has_output o ≡ true
with_output (outcomes.Done v) is = refl
with_output (outcomes.Failed f) is = is
with_output (outcomes.Cycled ts) is = is

-- contents that were written have the hashes of the writes
hashes_first : (contents : List (Vec ℕ Global)) → map (λ (v : Vec ℕ Global). sha256 v.items) contents ≡ map sha256 (map (λ (v : Vec ℕ Global). v.items) contents)
hashes_first [] = refl
hashes_first (v ∷ vs) = ap (λ hs. sha256 v.items ∷ hs) (hashes_first vs)

hashes_then : (ws : List (List ℕ × List ℕ)) → map sha256 (map (λ (w : List ℕ × List ℕ). w.1) ws) ≡ map (λ (w : List ℕ × List ℕ). w.1) (hashed world ws)
unfolding world
hashes_then [] = refl
hashes_then (w ∷ ws) = ap (λ hs. sha256 w.1 ∷ hs) (hashes_then ws)

have_hashes : (contents : List (Vec ℕ Global)) (ws : List (List ℕ × List ℕ))
    → map (λ (w : List ℕ × List ℕ). w.1) ws ≡ map (λ (v : Vec ℕ Global). v.items) contents → HaveHashes contents (hashed world ws)
have_hashes contents ws wrote = hashes_first contents ∙ ap (map sha256) (sym wrote) ∙ hashes_then ws

pub passed_over : (u : Update) (b : Builder) (n : ℕ) (t : Task) (o : Offer) → AreTasks b.ledger.tables.names → slice_get b.ledger.tables.names n ≡ Some t
    → IsHonestTo u t (offered o) → FitsSo b n o false → IsStanding u t (offered o) → ⊥
passed_over u b n t o are named honest fits s =
    let h = honest s.of in
    fits are (named ∙ ap Some (sym s.of)) (with_output o.row.outcome (ap (λ (r : Record). is_done r.outcome) h.was ∙ h.done))
    (subst (HaveHashes o.contents.items) (sym (ap (λ (r : Record). r.writes) h.was))
    (have_hashes o.contents.items (writes_of (trace_of (evaluation world h.before (enc_task o.row.task)))) h.wrote))
    s.once

-- ---- contents with the hashes of writes, one by one

mapped_at : {A B : Type 0} (f : A → B) (xs : List A) (i : ℕ) (d : A) → get_or (map f xs) i (f d) ≡ f (get_or xs i d)
mapped_at f [] i d = refl
mapped_at f (x ∷ xs) zero d = refl
mapped_at f (x ∷ xs) (suc i) d = mapped_at f xs i d

pub hash_at : (contents : List (Vec ℕ Global)) (writes : List (List ℕ × List ℕ)) (i : ℕ) (v : Vec ℕ Global) (w : List ℕ × List ℕ) → HaveHashes contents writes
    → i < length writes → v ≡ get_or contents i v → w ≡ get_or writes i w → sha256 v.items ≡ w.1
hash_at contents writes i v w have inside at_v at_w =
    let hash : Vec ℕ Global → List ℕ = λ v. sha256 v.items in
    let second : List ℕ × List ℕ → List ℕ = λ w. w.1 in
    ap hash at_v ∙ sym (mapped_at hash contents i v) ∙ ap (λ hs. get_or hs i (hash v)) have
    ∙ get_or_default (map second writes) i (hash v) (second w) (subst (λ n. i < n) (sym (length-map writes second)) inside)
    ∙ mapped_at second writes i w ∙ ap second (sym at_w)
