-- The record of a task that ended with a value agrees with the stamps on its own sources.
use Rattle.std.proofs.Common.{ℕ, zero, suc, ◌≤◌, ◌-◌, ◌≡◌, true, false, Option, Some, None, option_map, List, [], ◌∷◌, ◌++◌, map, length, sym, ◌∙◌, ap, ap₂}
use Rattle.std.proofs.Common.{refl, arith, append_assoc}
use Rattle.pie_model.specs.Paths.{Path, kind_of, among}
use Rattle.pie_model.specs.Tasks.{Task, Look, How, Answer, Entries, Event, Done, Fail, LookAt, ListOf, Write, Require}
use Rattle.pie_model.specs.Trees.{Node, Trace, writes, needs, Seen, Nothing, Holds, Clashing, Outcome, Ended, Failed, Cycled, Many, outcome_of, end_of}
use Rattle.pie_model.specs.Trees.{trace_of, writes_of, is_done, is_plain}
use Rattle.pie_model.specs.Seen.{first_write, provided, visible_at}
use Rattle.pie_model.specs.Evaluation.{World, Project, Progress, start, answered, wrote, required, absent_answer, present_answer, output_answer, listing}
use Rattle.pie_model.specs.Evaluation.{on_seen, on_listing, on_outcome, on_event, follow, evaluation_with, evaluation}
use Rattle.pie_model.specs.Records.{observations_of, outcome_stamp, hashed, record_of}
use Rattle.pie_model.specs.StampNow.{by_evaluation, told_of, look_now, listing_now, outcome_now, StampsAgree, RecordAgrees}
use Rattle.pie_model.specs.Separate.{NeverWritesWhatItSaw, looked_paths}
use Rattle.pie_model.proofs.Basics.{clash}
use Rattle.pie_model.proofs.LooksLemmas.{first_write_prefix, first_write-hashed, hashed-append, looked_now, unwritten_later, seen_stamp, look_now_is}
use Rattle.pie_model.proofs.SecondLemmas.{map-end}
use Rattle.pie_model.proofs.Rooms.{alone}

module _ (w : World) (P : Project) (t : Task) (child : Task → Node) (polite : NeverWritesWhatItSaw (P.next t)) (own_all : List (Path × List ℕ))
    (own_kid : (u : Task) → is_plain (outcome_of (child u)) ≡ true → child u ≡ evaluation w P u) where
  abbrev Itself : Progress → List Task → Trace → Type 0
  Itself g before T = is_done (end_of T) ≡ true → own_all ≡ hashed w g.own ++ hashed w (writes_of T) → g.kids ≡ map (evaluation w P) before
      → StampsAgree w P (by_evaluation w P) own_all before (observations_of w T)

  module _ (go : Progress → Trace) (G : (g : Progress) (before : List Task) → Itself g before (go g))
      (unwritten : (p : Path) (g : Progress) → among p (looked_paths (P.next t) [] g.answers) ≡ true → first_write p (writes_of (go g)) ≡ None) where
    own_so_far : (l : Look) (p : Path) (g : Progress) (a : Answer) → P.next t g.answers ≡ LookAt l p
        → own_all ≡ hashed w g.own ++ hashed w (writes_of (go (answered g a)))
        → first_write p own_all ≡ option_map w.hash (first_write p g.own)
    own_so_far l p g a i own =
        ap (first_write p) own
        ∙ first_write_prefix p (hashed w g.own) (hashed w (writes_of (go (answered g a))))
        (first_write-hashed w p (writes_of (go (answered g a)))
        ∙ ap (option_map w.hash) (unwritten p (answered g a) (looked_now (P.next t) l p g.answers a i)))
        ∙ first_write-hashed w p g.own

    seen_itself : (l : Look) (p : Path) (g : Progress) (before : List Task) (s : Seen) → P.next t g.answers ≡ LookAt l p
        → (first_write p own_all ≡ option_map w.hash (first_write p g.own) → g.kids ≡ map (evaluation w P) before
        → look_now w P (by_evaluation w P) own_all before l p (kind_of p) ≡ seen_stamp w l p s)
        → Itself g before (on_seen w t l p g go s)
    seen_itself l p g before Nothing i st done own kids =
        (st (own_so_far l p g (absent_answer l) i own) kids, G (answered g (absent_answer l)) before done own kids)
    seen_itself l p g before (Holds b m) i st done own kids =
        (st (own_so_far l p g (present_answer w b l) i own) kids, G (answered g (present_answer w b l)) before done own kids)
    seen_itself l p g before Clashing i st done own kids = clash false done refl

    listing_itself : (d : Path) (g : Progress) (before : List Task) (es : Option (List Path)) → listing w P d ≡ es
        → Itself g before (on_listing t d g go es)
    listing_itself d g before None e done own kids = clash false done refl
    listing_itself d g before (Some es) e done own kids = (ap (listing_now w) e, G (answered g (Entries es)) before done own kids)

    write_itself : (p : Path) (x : List ℕ) (g : Progress) (before : List Task) → Itself g before (writes p x (go (wrote g p x)))
    write_itself p x g before done own kids =
        G (wrote g p x) before done
        (own ∙ sym (ap (λ z. z ++ hashed w (writes_of (go (wrote g p x)))) (hashed-append w g.own ((p, x) ∷ []))
        ∙ append_assoc (hashed w g.own) ((p, w.hash x) ∷ []) (hashed w (writes_of (go (wrote g p x)))))) kids

    need_itself : (h : How) (u : Task) (g : Progress) (before : List Task) (n : Node) (e : Outcome) → outcome_of n ≡ e
        → (is_plain (outcome_of n) ≡ true → n ≡ evaluation w P u) → Itself g before (needs h u n (on_outcome h g n go e))
    need_itself h u g before n (Ended v) e own_n done own kids =
        let is : n ≡ evaluation w P u = own_n (ap is_plain e) in (
          ap (outcome_now w h) (sym (ap outcome_of is) ∙ e) ∙ ap (λ o. Some (outcome_stamp w h o)) (sym e),
          G (required g n (output_answer v h)) (before ++ u ∷ []) done own
              (ap₂ (λ x y. x ++ y ∷ []) kids is ∙ sym (map-end (evaluation w P) before u)),
        )
    need_itself h u g before n (Failed x k) e own_n done own kids = clash false done refl
    need_itself h u g before n (Cycled ts) e own_n done own kids = clash false done refl
    need_itself h u g before n Many e own_n done own kids = clash false done refl

    event_itself : (g : Progress) (before : List Task) (e : Event) → P.next t g.answers ≡ e → Itself g before (on_event w P child t g go e)
    event_itself g before (Done v) i done own kids = tt
    event_itself g before (Fail f) i done own kids = tt
    event_itself g before (LookAt l p) i done own kids =
        seen_itself l p g before (visible_at P.file g.own g.kids p) i
        (λ f k. look_now_is w P (by_evaluation w P) own_all g.own before g.kids l p (kind_of p) refl f (ap (λ ks. told_of w (provided ks p)) (sym k)))
        done own kids
    event_itself g before (ListOf d) i done own kids = listing_itself d g before (listing w P d) refl done own kids
    event_itself g before (Write p x) i done own kids = write_itself p x g before done own kids
    event_itself g before (Require h u) i done own kids = need_itself h u g before (child u) (outcome_of (child u)) refl (own_kid u) done own kids

  pub follow_itself : (n : ℕ) (g : Progress) (before : List Task) → Itself g before (follow w P child t n g)
  follow_itself zero g before done own kids = tt
  follow_itself (suc n) g before done own kids =
      event_itself (follow w P child t n) (follow_itself n) (λ p. unwritten_later w P child t polite p n) g before (P.next t g.answers) refl
      done own kids

pub agrees_itself_with : (n : ℕ) (w : World) (P : Project) (t : Task) → n ≤ w.most_tasks → NeverWritesWhatItSaw (P.next t)
    → is_done (outcome_of (evaluation_with n w P [] t)) ≡ true
    → RecordAgrees w P (by_evaluation w P) (record_of w (evaluation_with n w P [] t))
agrees_itself_with zero w P t le polite done = tt
agrees_itself_with (suc n) w P t le polite done =
    follow_itself w P t (evaluation_with n w P (t ∷ [])) polite (hashed w (writes_of (trace_of (evaluation_with (suc n) w P [] t))))
    (λ u h. sym (alone n w P (t ∷ []) u (down n w.most_tasks le) h)) w.most_events start [] done refl refl
  where
    down : (a b : ℕ) → suc a ≤ b → a ≤ b
    down a b q = omega arith

pub agrees_itself : (w : World) (P : Project) (t : Task) → NeverWritesWhatItSaw (P.next t) → is_done (outcome_of (evaluation w P t)) ≡ true
    → RecordAgrees w P (by_evaluation w P) (record_of w (evaluation w P t))
agrees_itself w P t polite done = agrees_itself_with (w.most_tasks - length {A = Task} []) w P t (omega arith) polite done
