-- An old record all of whose stamps are the stamps now is the record of the evaluation now: the two traces side by side.
use Rattle.std.proofs.Common.{ℕ, zero, suc, ◌≤◌, ◌≡◌, true, false, Option, Some, None, option_map, List, [], ◌∷◌, ◌++◌, map, sym, ◌∙◌, ap, ap₂, subst, refl}
use Rattle.std.proofs.Common.{append_assoc}
use Rattle.pie_model.specs.Paths.{Path, Source, kind_of, among}
use Rattle.pie_model.specs.Tasks.{Task, Value, Look, How, Answer, Entries, Wrote, Event, Done, Fail, LookAt, ListOf, Write, Require}
use Rattle.pie_model.specs.Trees.{Node, Trace, looks, writes, needs, Seen, Nothing, Holds, Clashing, Outcome, Ended, Failed, Cycled, Many, outcome_of, end_of}
use Rattle.pie_model.specs.Trees.{writes_of, is_done, levels}
use Rattle.pie_model.specs.Seen.{first_write, provided, seen_file, visible_by, visible_at}
use Rattle.pie_model.specs.Evaluation.{World, Project, Progress, answered, wrote, required, output_answer, listing, on_seen, on_listing, on_outcome, on_event}
use Rattle.pie_model.specs.Evaluation.{follow, evaluation}
use Rattle.pie_model.specs.Records.{Stamp, Looked, Listed, Required, observed, observations_of, look_stamp, value_stamp, outcome_stamp, hashed, needs_of}
use Rattle.pie_model.specs.StampNow.{by_evaluation, told_of, look_now, listing_now, outcome_now, StampsAgree}
use Rattle.pie_model.specs.Separate.{StampsSeparate, ListingsDiffer, AllMet, MetOutcome, NeverWritesWhatItSaw, looked_paths}
use Rattle.pie_model.proofs.Basics.{clash, among_here, among_there}
use Rattle.pie_model.proofs.LooksLemmas.{first_write_prefix, first_write-hashed, hashed-append, looked_now, unwritten_later, seen_stamp, look_now_is, some_same}
use Rattle.pie_model.proofs.LooksLemmas.{seen_answer, looks_alike, listings_alike, outputs_alike}

pub map-end : {A B : Type 0} (f : A → B) (xs : List A) (x : A) → map f (xs ++ x ∷ []) ≡ map f xs ++ f x ∷ []
map-end f [] x = refl
map-end f (y ∷ ys) x = ap (λ z. f y ∷ z) (map-end f ys x)

-- two traces with one record
pub record SameTrace (w : World) (T T0 : Trace) : Type 0 where
  pub observations : observations_of w T ≡ observations_of w T0
  pub written : writes_of T ≡ writes_of T0
  pub end : end_of T ≡ end_of T0

-- the two runs stand at one place
pub record Beside (w : World) (now : Project) (before : List Task) (g g0 : Progress) : Type 0 where
  pub answers : g.answers ≡ g0.answers
  pub own : g.own ≡ g0.own
  pub kids : g.kids ≡ map (evaluation w now) before

-- what is known of the rest of the two traces
pub record Rest (w : World) (now : Project) (Met : List ℕ → Type 0) (room : ℕ) (own_all : List (Path × List ℕ)) (E : Outcome) (g : Progress)
    (before : List Task)
    (T T0 : Trace) : Type 0 where
  pub done : is_done (end_of T0) ≡ true
  pub met : AllMet w Met T
  pub met0 : AllMet w Met T0
  pub own : own_all ≡ hashed w g.own ++ hashed w (writes_of T0)
  pub agrees : StampsAgree w now (by_evaluation w now) own_all before (observations_of w T0)
  pub shallow : (u : Task) → among u (needs_of (observations_of w T0)) ≡ true → is_done (outcome_of (evaluation w now u)) ≡ true
      → (levels (evaluation w now u) ≤ room → ⊥) → E ≡ Many → ⊥
  pub ends : end_of T ≡ E

module _ (w : World) (old now : Project) (Met : List ℕ → Type 0) (sep : StampsSeparate w old now Met) (differ : ListingsDiffer w) (t : Task)
    (child0 child : Task → Node) (meaning : old.next t ≡ now.next t) (polite : NeverWritesWhatItSaw (old.next t))
    (own_all : List (Path × List ℕ)) (E : Outcome) (room : ℕ)
    (kid : (h : How) (u : Task) (g : Progress) (go : Progress → Trace) → is_done (outcome_of (evaluation w now u)) ≡ true
    → ((levels (evaluation w now u) ≤ room → ⊥) → E ≡ Many → ⊥) → end_of (on_outcome h g (child u) go (outcome_of (child u))) ≡ E
    → child u ≡ evaluation w now u) where
  abbrev Premises : Progress → List Task → Trace → Trace → Type 0
  Premises = Rest w now Met room own_all E

  module _ (go go0 : Progress → Trace)
      (G : (g g0 : Progress) (before : List Task) → Beside w now before g g0 → Premises g before (go g) (go0 g0) → SameTrace w (go g) (go0 g0))
      (unwritten : (p : Path) (g : Progress) → among p (looked_paths (old.next t) [] g.answers) ≡ true → first_write p (writes_of (go0 g))
      ≡ None) where
    beside_answer : (before : List Task) (g g0 : Progress) (a a0 : Answer) → a ≡ a0 → Beside w now before g g0
        → Beside w now before (answered g a) (answered g0 a0)
    beside_answer before g g0 a a0 e b = record { answers = ap₂ (λ x y. x ++ y ∷ []) b.answers e; own = b.own; kids = b.kids }

    look_goes : (l : Look) (p : Path) (g g0 : Progress) (before : List Task) (s s0 : Seen) → Beside w now before g g0
        → look_stamp w l p s ≡ look_stamp w l p s0 → seen_stamp w l p s ≡ seen_stamp w l p s0
        → (kind_of p ≡ Source → seen_file (now.file p) ≡ s) → (kind_of p ≡ Source → seen_file (old.file p) ≡ s0)
        → Premises g before (looks l p s (go (answered g (seen_answer w old now Met sep p l s))))
        (looks l p s0 (go0 (answered g0 (seen_answer w old now Met sep p l s0))))
        → SameTrace w (looks l p s (go (answered g (seen_answer w old now Met sep p l s))))
        (looks l p s0 (go0 (answered g0 (seen_answer w old now Met sep p l s0))))
    look_goes l p g g0 before s s0 b e f src src0 r =
        let a = looks_alike w old now Met sep p l s s0 r.met.0 r.met0.0 src src0 f in
        let same = G (answered g (seen_answer w old now Met sep p l s)) (answered g0 (seen_answer w old now Met sep p l s0)) before
        (beside_answer before g g0 _ _ a b)
        (record { done = r.done; met = r.met.1; met0 = r.met0.1; own = r.own; agrees = r.agrees.1; shallow = r.shallow; ends = r.ends }) in
        record {
          observations = ap₂ (λ x y. observed (Looked l p) x ∷ y) e same.observations;
          written = same.written;
          end = same.end;
        }

    -- what is written first in the whole record is what was written so far
    own_so_far : (l : Look) (p : Path) (g g0 : Progress) (a0 : Answer) → old.next t g0.answers ≡ LookAt l p
        → own_all ≡ hashed w g.own ++ hashed w (writes_of (go0 (answered g0 a0)))
        → first_write p own_all ≡ option_map w.hash (first_write p g.own)
    own_so_far l p g g0 a0 i own =
        ap (first_write p) own
        ∙ first_write_prefix p (hashed w g.own) (hashed w (writes_of (go0 (answered g0 a0))))
        (first_write-hashed w p (writes_of (go0 (answered g0 a0)))
        ∙ ap (option_map w.hash) (unwritten p (answered g0 a0) (looked_now (old.next t) l p g0.answers a0 i)))
        ∙ first_write-hashed w p g.own

    abbrev Stamped : Look → Path → Progress → List Task → Seen → Type 0
    Stamped l p g before s = first_write p own_all ≡ option_map w.hash (first_write p g.own)
        → look_now w now (by_evaluation w now) own_all before l p (kind_of p) ≡ seen_stamp w l p s

    -- by what is seen now
    seen_now : (l : Look) (p : Path) (g g0 : Progress) (before : List Task) (s s0 : Seen) → old.next t g0.answers ≡ LookAt l p
        → Beside w now before g g0
        → Stamped l p g before s → Some (look_stamp w l p s0) ≡ seen_stamp w l p s0
        → (kind_of p ≡ Source → seen_file (now.file p) ≡ s) → (kind_of p ≡ Source → seen_file (old.file p) ≡ s0)
        → Premises g before (on_seen w t l p g go s) (looks l p s0 (go0 (answered g0 (seen_answer w old now Met sep p l s0))))
        → SameTrace w (on_seen w t l p g go s) (looks l p s0 (go0 (answered g0 (seen_answer w old now Met sep p l s0))))
    seen_now l p g g0 before Nothing s0 i b st e0 src src0 r =
        let f = sym (st (own_so_far l p g g0 _ i r.own)) ∙ r.agrees.0 in
        look_goes l p g g0 before Nothing s0 b (some_same _ _ f) (f ∙ e0) src src0 r
    seen_now l p g g0 before (Holds x m) s0 i b st e0 src src0 r =
        let f = sym (st (own_so_far l p g g0 _ i r.own)) ∙ r.agrees.0 in
        look_goes l p g g0 before (Holds x m) s0 b (some_same _ _ f) (f ∙ e0) src src0 r
    seen_now l p g g0 before Clashing s0 i b st e0 src src0 r =
        let f = sym (st (own_so_far l p g g0 _ i r.own)) ∙ r.agrees.0 in absurd (never _ f)
      where
        never : (x : Stamp) → None ≡ Some x → ⊥
        never x q = cc

    -- by what was seen then
    seen_then : (l : Look) (p : Path) (g g0 : Progress) (before : List Task) (s s0 : Seen) → old.next t g0.answers ≡ LookAt l p
        → Beside w now before g g0
        → Stamped l p g before s → (kind_of p ≡ Source → seen_file (now.file p) ≡ s) → (kind_of p ≡ Source → seen_file (old.file p) ≡ s0)
        → Premises g before (on_seen w t l p g go s) (on_seen w t l p g0 go0 s0)
        → SameTrace w (on_seen w t l p g go s) (on_seen w t l p g0 go0 s0)
    seen_then l p g g0 before s Nothing i b st src src0 r = seen_now l p g g0 before s Nothing i b st refl src src0 r
    seen_then l p g g0 before s (Holds x m) i b st src src0 r = seen_now l p g g0 before s (Holds x m) i b st refl src src0 r
    seen_then l p g g0 before s Clashing i b st src src0 r = clash false r.done refl

    listing_goes : (d : Path) (g g0 : Progress) (before : List Task) (es es0 : Option (List Path)) → Beside w now before g g0
        → listing w now d ≡ es → listing w old d ≡ es0
        → Premises g before (on_listing t d g go es) (on_listing t d g0 go0 es0)
        → SameTrace w (on_listing t d g go es) (on_listing t d g0 go0 es0)
    listing_goes d g g0 before es None b e e0 r = clash false r.done refl
    listing_goes d g g0 before None (Some es0) b e e0 r = absurd (never _ (sym (ap (listing_now w) e) ∙ r.agrees.0))
      where
        never : (x : Stamp) → None ≡ Some x → ⊥
        never x q = cc
    listing_goes d g g0 before (Some es) (Some es0) b e e0 r =
        let f = some_same _ _ (sym (ap (listing_now w) e) ∙ r.agrees.0) in
        let q = listings_alike w old now Met sep differ d es es0 e e0 r.met.0 r.met0.0 f in
        let same = G (answered g (Entries es)) (answered g0 (Entries es0)) before (beside_answer before g g0 _ _ (ap Entries q) b)
        (record { done = r.done; met = r.met.1; met0 = r.met0.1; own = r.own; agrees = r.agrees.1; shallow = r.shallow; ends = r.ends }) in
        record { observations = ap₂ (λ x y. observed (Listed d) x ∷ y) f same.observations; written = same.written; end = same.end }

    write_goes : (p : Path) (x : List ℕ) (g g0 : Progress) (before : List Task) → Beside w now before g g0
        → Premises g before (writes p x (go (wrote g p x))) (writes p x (go0 (wrote g0 p x)))
        → SameTrace w (writes p x (go (wrote g p x))) (writes p x (go0 (wrote g0 p x)))
    write_goes p x g g0 before b r =
        let same = G (wrote g p x) (wrote g0 p x) before
        (record { answers = ap (λ z. z ++ Wrote ∷ []) b.answers; own = ap (λ z. z ++ (p, x) ∷ []) b.own; kids = b.kids })
        (record {
          done = r.done;
          met = r.met.1;
          met0 = r.met0.1;
          own = r.own ∙ sym (ap (λ z. z ++ hashed w (writes_of (go0 (wrote g0 p x)))) (hashed-append w g.own ((p, x) ∷ []))
              ∙ append_assoc (hashed w g.own) ((p, w.hash x) ∷ []) (hashed w (writes_of (go0 (wrote g0 p x)))));
          agrees = r.agrees;
          shallow = r.shallow;
          ends = r.ends;
        }) in
        record { observations = same.observations; written = ap (λ z. (p, x) ∷ z) same.written; end = same.end }

    -- a require that ended with values, both times
    need_ended : (h : How) (u : Task) (g g0 : Progress) (before : List Task) (n n0 : Node) (v v0 : Value) → Beside w now before g g0
        → n ≡ evaluation w now u → outcome_of n ≡ Ended v → outcome_of n0 ≡ Ended v0 → value_stamp w v h ≡ value_stamp w v0 h
        → Premises g before (needs h u n (go (required g n (output_answer v h)))) (needs h u n0 (go0 (required g0 n0 (output_answer v0 h))))
        → SameTrace w (needs h u n (go (required g n (output_answer v h)))) (needs h u n0 (go0 (required g0 n0 (output_answer v0 h))))
    need_ended h u g g0 before n n0 v v0 b is e e0 f r =
        let met_v : Met v = subst (MetOutcome Met) e r.met.0 in
        let met_v0 : Met v0 = subst (MetOutcome Met) e0 r.met0.0 in
        let a = outputs_alike w old now Met sep v v0 h met_v met_v0 f in
        let same = G (required g n (output_answer v h)) (required g0 n0 (output_answer v0 h)) (before ++ u ∷ [])
        (record {
          answers = ap₂ (λ x y. x ++ y ∷ []) b.answers a;
          own = b.own;
          kids = ap₂ (λ x y. x ++ y ∷ []) b.kids is ∙ sym (map-end (evaluation w now) before u);
        })
        (record {
          done = r.done;
          met = r.met.1;
          met0 = r.met0.1;
          own = r.own;
          agrees = r.agrees.1;
          shallow = λ x i. r.shallow x (among_there x u (needs_of (observations_of w (go0 (required g0 n0 (output_answer v0 h))))) i);
          ends = r.ends;
        }) in
        record {
          observations = ap₂ (λ x y. observed (Required h u) x ∷ y)
              (ap (outcome_stamp w h) e ∙ f ∙ sym (ap (outcome_stamp w h) e0)) same.observations;
          written = same.written;
          end = same.end;
        }

    need_now : (h : How) (u : Task) (g g0 : Progress) (before : List Task) (n0 : Node) (v0 : Value) (e : Outcome) → Beside w now before g g0
        → outcome_of (evaluation w now u) ≡ e → outcome_of n0 ≡ Ended v0
        → Premises g before (needs h u (child u) (on_outcome h g (child u) go (outcome_of (child u))))
        (needs h u n0 (go0 (required g0 n0 (output_answer v0 h))))
        → SameTrace w (needs h u (child u) (on_outcome h g (child u) go (outcome_of (child u))))
        (needs h u n0 (go0 (required g0 n0 (output_answer v0 h))))
    need_now h u g g0 before n0 v0 (Ended v) b e e0 r =
        let f = some_same _ _ (sym (ap (outcome_now w h) e) ∙ r.agrees.0) ∙ ap (outcome_stamp w h) e0 in
        let is = kid h u g go (ap is_done e)
        (r.shallow u (among_here u (needs_of (observations_of w (go0 (required g0 n0 (output_answer v0 h)))))) (ap is_done e)) r.ends in
        let o = ap outcome_of is ∙ e in
        subst (λ x. Premises g before (needs h u (child u) (on_outcome h g (child u) go x)) (needs h u n0 (go0 (required g0 n0 (output_answer v0 h))))
        → SameTrace w (needs h u (child u) (on_outcome h g (child u) go x)) (needs h u n0 (go0 (required g0 n0 (output_answer v0 h))))) (sym o)
        (need_ended h u g g0 before (child u) n0 v v0 b is o e0 f) r
    need_now h u g g0 before n0 v0 (Failed x k) b e e0 r = absurd (never _ (sym (ap (outcome_now w h) e) ∙ r.agrees.0))
      where
        never : (x : Stamp) → None ≡ Some x → ⊥
        never x q = cc
    need_now h u g g0 before n0 v0 (Cycled ts) b e e0 r = absurd (never _ (sym (ap (outcome_now w h) e) ∙ r.agrees.0))
      where
        never : (x : Stamp) → None ≡ Some x → ⊥
        never x q = cc
    need_now h u g g0 before n0 v0 Many b e e0 r = absurd (never _ (sym (ap (outcome_now w h) e) ∙ r.agrees.0))
      where
        never : (x : Stamp) → None ≡ Some x → ⊥
        never x q = cc

    need_then : (h : How) (u : Task) (g g0 : Progress) (before : List Task) (n0 : Node) (e0 : Outcome) → Beside w now before g g0 → outcome_of n0 ≡ e0
        → Premises g before (needs h u (child u) (on_outcome h g (child u) go (outcome_of (child u)))) (needs h u n0 (on_outcome h g0 n0 go0 e0))
        → SameTrace w (needs h u (child u) (on_outcome h g (child u) go (outcome_of (child u)))) (needs h u n0 (on_outcome h g0 n0 go0 e0))
    need_then h u g g0 before n0 (Ended v0) b e0 r = need_now h u g g0 before n0 v0 (outcome_of (evaluation w now u)) b refl e0 r
    need_then h u g g0 before n0 (Failed x k) b e0 r = clash false r.done refl
    need_then h u g g0 before n0 (Cycled ts) b e0 r = clash false r.done refl
    need_then h u g g0 before n0 Many b e0 r = clash false r.done refl

    event_goes : (g g0 : Progress) (before : List Task) (e : Event) → old.next t g0.answers ≡ e → Beside w now before g g0
        → Premises g before (on_event w now child t g go e) (on_event w old child0 t g0 go0 e)
        → SameTrace w (on_event w now child t g go e) (on_event w old child0 t g0 go0 e)
    event_goes g g0 before (Done v) i b r = record { observations = refl; written = refl; end = refl }
    event_goes g g0 before (Fail f) i b r = record { observations = refl; written = refl; end = refl }
    event_goes g g0 before (LookAt l p) i b r =
        seen_then l p g g0 before (visible_at now.file g.own g.kids p) (visible_at old.file g0.own g0.kids p) i b
        (λ f. look_now_is w now (by_evaluation w now) own_all g.own before g.kids l p (kind_of p) refl f
        (ap (λ ks. told_of w (provided ks p)) (sym b.kids)))
        (λ k. sym (ap (visible_by now.file g.own g.kids p) k))
        (λ k. sym (ap (visible_by old.file g0.own g0.kids p) k)) r
    event_goes g g0 before (ListOf d) i b r = listing_goes d g g0 before (listing w now d) (listing w old d) b refl refl r
    event_goes g g0 before (Write p x) i b r = write_goes p x g g0 before b r
    event_goes g g0 before (Require h u) i b r = need_then h u g g0 before (child0 u) (outcome_of (child0 u)) b refl r

  pub goes : (n : ℕ) (g g0 : Progress) (before : List Task) → Beside w now before g g0
      → Premises g before (follow w now child t n g) (follow w old child0 t n g0)
      → SameTrace w (follow w now child t n g) (follow w old child0 t n g0)
  goes zero g g0 before b r = record { observations = refl; written = refl; end = refl }
  goes (suc n) g g0 before b r =
      subst (λ e. Premises g before (on_event w now child t g (follow w now child t n) e) (follow w old child0 t (suc n) g0)
      → SameTrace w (on_event w now child t g (follow w now child t n) e) (follow w old child0 t (suc n) g0))
      (ap₂ (λ f a. f a) meaning (sym b.answers))
      (event_goes (follow w now child t n) (follow w old child0 t n) (goes n) (λ p. unwritten_later w old child0 t polite p n) g g0 before
      (old.next t g0.answers) refl b) r
