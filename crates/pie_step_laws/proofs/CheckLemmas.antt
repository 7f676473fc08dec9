-- The last checks and the commit go by what is kept.
use Rattle.std.proofs.Common.{ℕ, zero, suc, ◌≡◌, true, false, cond, Option, Some, None, List, [], ◌∷◌, ◌++◌, map, length, ◌-◌, ◌⊎◌, inl, inr, sym, ◌∙◌, ap}
use Rattle.std.proofs.Common.{subst, refl}
use Rattle.std.specs.List.{flat_map}
use Rattle.pie_model.specs.Paths.{Path, kind_of, among}
use Rattle.pie_model.specs.declared.words.Kind.{Kind}
use Rattle.pie_model.specs.declared.words.Kind.TheVariants.{Out, Kept, Source}
use Rattle.pie_model.specs.Tasks.{Task}
use Rattle.pie_model.specs.declared.words.Look.{Look}
use Rattle.pie_model.specs.declared.words.Look.TheVariants.{Exists, ByHash, ByMark, Digest}
use Rattle.pie_model.specs.declared.words.How.{How}
use Rattle.pie_model.specs.declared.words.Event.{Event}
use Rattle.pie_model.specs.declared.words.Event.TheVariants.{Done, Fail, LookAt, ListOf, Write, Require}
use Rattle.pie_model.specs.Trees.{Node, Trace, ends, looks, lists, writes, needs, outcome_of, end_of, task_of, trace_of, writes_of, is_done}
use Rattle.pie_model.specs.declared.words.Seen.{Seen}
use Rattle.pie_model.specs.declared.words.Seen.TheVariants.{Nothing, Holds, Clashing}
use Rattle.pie_model.specs.declared.words.Outcome.{Outcome}
use Rattle.pie_model.specs.declared.words.Outcome.TheVariants.{Ended, Failed, Cycled, Many}
use Rattle.pie_model.specs.Seen.{visible_at, first_write}
use Rattle.pie_model.specs.Evaluation.{World, Project, Progress, start, listing, on_seen, on_listing, on_outcome, on_event, follow, evaluation_with, evaluation}
use Rattle.pie_model.specs.Records.{Record, record_of, observations_of, hashed, mark_stamp, contents_stamp, look_stamp}
use Rattle.pie_model.specs.inner.Consistent.{IsRecorded}
use Rattle.pie_model.specs.Forest.{live_evaluations}
use Rattle.pie_model.specs.Verdict.{absent_here, found_absent, written_by, missed_by, final_checks, checked}
use Rattle.pie_model.specs.Built.{provided_at}
use Rattle.pie_model.proofs.Basics.{clash, cases, among_here, among_there}
use Rattle.pie_model.proofs.MovedLemmas.{opened_apart, opened_among}
use Rattle.pie_step_laws.specs.Roots.{Between, EvaluatesTo}
use Rattle.pie_step_laws.specs.Contents.{KeepsContents}
use Rattle.pie_step_laws.specs.Checks.{is_absent, absent_at, absent_in, written_in, missed_in}
use Rattle.pie_step_laws.proofs.RootLemmas.{all_entered, all_done, records_in_order}

-- ---- no look of a task that ended with a value clashed

abbrev NoClash : Trace → Type 0
NoClash (ends e) = Unit {0}
NoClash (looks l p s k) = (s ≡ Clashing → ⊥) × NoClash k
NoClash (lists d es k) = NoClash k
NoClash (writes p b k) = NoClash k
NoClash (needs h u n k) = NoClash k

nothing_clear : Nothing ≡ Clashing → ⊥
nothing_clear e = cc

contents_clear : (b : List ℕ) (m : ℕ) → Holds b m ≡ Clashing → ⊥
contents_clear b m e = cc

module _ (w : World) (P : Project) (t : Task) (child : Task → Node) where
  module _ (go : Progress → Trace) (G : (g : Progress) → is_done (end_of (go g)) ≡ true → NoClash (go g)) where
    seen_clear : (l : Look) (p : Path) (g : Progress) (s : Seen) → is_done (end_of (on_seen w t l p g go s)) ≡ true → NoClash (on_seen w t l p g go s)
    seen_clear l p g Nothing h = (nothing_clear, G _ h)
    seen_clear l p g (Holds b m) h = (contents_clear b m, G _ h)
    seen_clear l p g Clashing h = clash false h refl

    listing_clear : (d : Path) (g : Progress) (es : Option (List Path)) → is_done (end_of (on_listing t d g go es)) ≡ true
        → NoClash (on_listing t d g go es)
    listing_clear d g None h = tt
    listing_clear d g (Some es) h = G _ h

    outcome_clear : (h : How) (g : Progress) (n : Node) (e : Outcome) → is_done (end_of (on_outcome h g n go e)) ≡ true → NoClash (on_outcome h g n go e)
    outcome_clear h g n (Ended v) k = G _ k
    outcome_clear h g n (Failed x f) k = tt
    outcome_clear h g n (Cycled ts) k = tt
    outcome_clear h g n Many k = tt

    event_clear : (g : Progress) (e : Event) → is_done (end_of (on_event w P child t g go e)) ≡ true → NoClash (on_event w P child t g go e)
    event_clear g (Done v) h = tt
    event_clear g (Fail f) h = tt
    event_clear g (LookAt l p) h = seen_clear l p g (visible_at P.file g.own g.kids p) h
    event_clear g (ListOf d) h = listing_clear d g (listing w P d) h
    event_clear g (Write p b) h = G _ h
    event_clear g (Require r u) h = outcome_clear r g (child u) (outcome_of (child u)) h

  follow_clear : (n : ℕ) (g : Progress) → is_done (end_of (follow w P child t n g)) ≡ true → NoClash (follow w P child t n g)
  follow_clear zero g h = tt
  follow_clear (suc n) g h = event_clear (follow w P child t n) (follow_clear n) g (P.next t g.answers) h

evaluation_clear : (n : ℕ) (w : World) (P : Project) (above : List Task) (t : Task) → is_done (outcome_of (evaluation_with n w P above t)) ≡ true
    → NoClash (trace_of (evaluation_with n w P above t))
evaluation_clear zero w P above t h = tt
evaluation_clear (suc n) w P above t h = go (cases (among t above))
  where
    go : (among t above ≡ true) ⊎ (among t above ≡ false) → NoClash (trace_of (evaluation_with (suc n) w P above t))
    go (inl i) = subst (λ x. NoClash (trace_of x)) (sym (opened_among (suc n) w P above t i)) tt
    go (inr o) = subst (λ x. NoClash (trace_of x)) (sym (opened_apart (suc n) w P above t o))
        (follow_clear w P t (evaluation_with n w P (t ∷ above)) w.most_events start
        (sym (ap (λ x. is_done (outcome_of x)) (opened_apart (suc n) w P above t o)) ∙ h))

-- ---- so what the trace found absent is what the observations tell

mark_there : (w : World) (k : Kind) (b : List ℕ) (m : ℕ) → is_absent (mark_stamp w k b m) ≡ false
mark_there w Source b m = refl
mark_there w Out b m = refl
mark_there w Kept b m = refl

contents_there : (w : World) (p : Path) (b : List ℕ) (m : ℕ) (l : Look) → is_absent (contents_stamp w p b m l) ≡ false
contents_there w p b m Exists = refl
contents_there w p b m ByHash = refl
contents_there w p b m ByMark = mark_there w (kind_of p) b m
contents_there w p b m Digest = refl

look_told : (w : World) (l : Look) (p : Path) (s : Seen) (k : Kind) → (s ≡ Clashing → ⊥) → absent_here p k s ≡ absent_at p (look_stamp w l p s) k
look_told w l p Nothing Out h = refl
look_told w l p Nothing Kept h = refl
look_told w l p Nothing Source h = refl
look_told w l p (Holds b m) Out h = ap (λ c. cond c (p ∷ []) []) (sym (contents_there w p b m l))
look_told w l p (Holds b m) Kept h = refl
look_told w l p (Holds b m) Source h = refl
look_told w l p Clashing k h = absurd (h refl)

absent_told : (w : World) (k : Trace) → NoClash k → found_absent k ≡ absent_in (observations_of w k)
absent_told w (ends e) h = refl
absent_told w (looks l p s k) h =
    ap (λ z. z ++ found_absent k) (look_told w l p s (kind_of p) h.0) ∙ ap (λ z. absent_at p (look_stamp w l p s) (kind_of p) ++ z) (absent_told w k h.1)
absent_told w (lists d es k) h = absent_told w k h
absent_told w (writes p b k) h = absent_told w k h
absent_told w (needs r u n k) h = absent_told w k h

written_told : (w : World) (t : Task) (ws : List (Path × List ℕ))
    → map {A = Path × List ℕ} {B = Path × Task} (λ x. (x.0, t)) ws ≡ map {A = Path × List ℕ} {B = Path × Task} (λ x. (x.0, t)) (hashed w ws)
written_told w t [] = refl
written_told w t (x ∷ xs) = ap (λ z. (x.0, t) ∷ z) (written_told w t xs)

module _ (w : World) (P : Project) where
  -- what holds of each of these evaluations and its record holds of all together
  flat_records : {C : Type 0} (f : Node → List C) (g : Record → List C) (ts : List Task)
      → ((t : Task) → among t ts ≡ true → f (evaluation w P t) ≡ g (record_of w (evaluation w P t)))
      → flat_map f (map (evaluation w P) ts) ≡ flat_map g (map (record_of w) (map (evaluation w P) ts))
  flat_records f g [] e = refl
  flat_records f g (t ∷ ts) e =
      ap (λ z. z ++ flat_map f (map (evaluation w P) ts)) (e t (among_here t ts))
      ∙ ap (λ z. g (record_of w (evaluation w P t)) ++ z) (flat_records f g ts (λ x i. e x (among_there x t ts i)))

  flat_kept : (kept : Task → List (Path × List ℕ)) (ts : List Task)
      → ((t : Task) → among t ts ≡ true → kept t ≡ writes_of (trace_of (evaluation w P t)))
      → flat_map {X = Node} (λ n. writes_of (trace_of n)) (map (evaluation w P) ts) ≡ flat_map kept ts
  flat_kept kept [] e = refl
  flat_kept kept (t ∷ ts) e =
      ap (λ z. z ++ flat_map {X = Node} (λ n. writes_of (trace_of n)) (map (evaluation w P) ts)) (sym (e t (among_here t ts)))
      ∙ ap (λ z. kept t ++ z) (flat_kept kept ts (λ x i. e x (among_there x t ts i)))

  written_same : (n : Node) → written_by n ≡ written_in (record_of w n)
  written_same n = written_told w (task_of n) (writes_of (trace_of n))

  missed_same : (n : Node) → NoClash (trace_of n) → missed_by n ≡ missed_in (record_of w n)
  missed_same n h = ap (map {A = Path} {B = Path × Task} (λ p. (p, task_of n))) (absent_told w (trace_of n) h)

  module _ (roots : List Task) (R : Task → Option Record) (names : List Task) (B : Between w P roots R names) where
    recorded : (t : Task) → among t names ≡ true → IsRecorded R t
    recorded = B.rests.all

    clear : (t : Task) → among t names ≡ true → NoClash (trace_of (evaluation w P t))
    clear t i = go (recorded t i)
      where
        go : IsRecorded R t → NoClash (trace_of (evaluation w P t))
        go k = evaluation_clear (w.most_tasks - length {A = Task} []) w P [] t (B.rests.table.done t k.kept k.is)

    pub checks_by_records : (kept : List Record) → map R names ≡ map Some kept
        → EvaluatesTo w P roots names (checked (flat_map written_in kept) (flat_map missed_in kept))
    checks_by_records kept e = record {
      enters = all_entered w P roots R names B;
      is = (all_done w P roots R names B).is
          ∙ ap (λ z. final_checks (map (evaluation w P) z)) (all_entered w P roots R names B)
          ∙ ap (λ z. checked z (flat_map missed_by (map (evaluation w P) names)))
          (flat_records written_by written_in names (λ t i. written_same (evaluation w P t)))
          ∙ ap (checked (flat_map written_in (map (record_of w) (map (evaluation w P) names))))
          (flat_records missed_by missed_in names (λ t i. missed_same (evaluation w P t) (clear t i)))
          ∙ ap (λ z. checked (flat_map written_in z) (flat_map missed_in z)) (sym kept_is);
    }
      where
        kept_is : kept ≡ map (record_of w) (map (evaluation w P) names)
        kept_is =
            records_in_order w P roots R names kept B e
            ∙ ap (λ z. map (record_of w) (map (evaluation w P) z)) (all_entered w P roots R names B)

    pub kept_provided : (kept : Task → List (Path × List ℕ)) (p : Path) → KeepsContents w P R kept
        → provided_at (live_evaluations w P roots) p ≡ first_write p (flat_map kept names)
    kept_provided kept p K =
        ap (λ z. provided_at (map (evaluation w P) z) p) (all_entered w P roots R names B)
        ∙ ap (first_write p) (flat_kept kept names (λ t i. K t (recorded t i)))
