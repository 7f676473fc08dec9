-- No path is written twice in the evaluation of a task that never does so.
use Rattle.std.proofs.Common.{ℕ, zero, suc, ◌-◌, ◌≡◌, Bool, true, false, cond, Option, Some, None, option_map, List, [], ◌∷◌, ◌++◌, length, sym, ◌∙◌, ap, subst}
use Rattle.std.proofs.Common.{refl, bytes_eq, append-nil, append_assoc}
use Rattle.pie_model.specs.Paths.{Path, among, kind_of}
use Rattle.pie_model.specs.declared.words.Kind.TheVariants.{Out}
use Rattle.pie_model.specs.Tasks.{Task}
use Rattle.pie_model.specs.declared.words.Answer.{Answer}
use Rattle.pie_model.specs.declared.words.Look.{Look}
use Rattle.pie_model.specs.declared.words.How.{How}
use Rattle.pie_model.specs.declared.words.Event.{Event}
use Rattle.pie_model.specs.declared.words.Event.TheVariants.{Done, Fail, LookAt, ListOf, Write, Require}
use Rattle.pie_model.specs.declared.words.Seen.{Seen}
use Rattle.pie_model.specs.declared.words.Seen.TheVariants.{Nothing, Holds, Clashing}
use Rattle.pie_model.specs.declared.words.Outcome.{Outcome}
use Rattle.pie_model.specs.declared.words.Outcome.TheVariants.{Ended, Failed, Cycled, Many}
use Rattle.pie_model.specs.Trees.{Node, Trace, ends, looks, lists, writes, needs, trace_of, outcome_of, writes_of}
use Rattle.pie_model.specs.Seen.{first_write, visible_at}
use Rattle.pie_model.specs.Evaluation.{World, Project, Progress, start, wrote, absent_answer, present_answer, output_answer, listing}
use Rattle.pie_model.specs.Evaluation.{on_seen, on_listing, on_outcome, on_event, follow, round, evaluation_with, evaluation}
use Rattle.pie_model.specs.Records.{hashed}
use Rattle.pie_model.proofs.Basics.{among_here, among_left, among_right, same_bytes, bytes_same}
use Rattle.pie_model.proofs.LooksLemmas.{first_write-hashed}
use Rattle.pie_step_laws.proofs.Tables.{none_some}
use Rattle.pie_manner_laws.specs.Writes.{path_written, written_paths, NeverWritesTwice}
use Rattle.pie_earlier_laws.specs.Left.{WritesUnderOut}
use Rattle.pie_earlier_laws.proofs.Events.{EachEvent, events_of}

-- ---- the paths that were written

written_more : (next : List Answer → Event) (fed rest : List Answer) (a : Answer)
    → written_paths next fed (rest ++ a ∷ []) ≡ written_paths next fed rest ++ path_written (next (fed ++ rest))
written_more next fed [] a = append-nil (path_written (next fed)) ∙ ap (λ z. path_written (next z)) (sym (append-nil fed))
written_more next fed (x ∷ rest) a =
    ap (λ z. path_written (next fed) ++ z)
    (written_more next (fed ++ x ∷ []) rest a ∙ ap (λ z. written_paths next (fed ++ x ∷ []) rest ++ path_written (next z))
    (append_assoc fed (x ∷ []) rest))
    ∙ sym (append_assoc (path_written (next fed)) (written_paths next (fed ++ x ∷ []) rest) (path_written (next (fed ++ x ∷ rest))))

written_keeps : (next : List Answer → Event) (p : Path) (answers : List Answer) (a : Answer) → among p (written_paths next [] answers) ≡ true
    → among p (written_paths next [] (answers ++ a ∷ [])) ≡ true
written_keeps next p answers a h =
    subst (λ z. among p z ≡ true) (sym (written_more next [] answers a)) (among_left p (written_paths next [] answers) (path_written (next answers)) h)

written_now : (next : List Answer → Event) (p : Path) (b : List ℕ) (answers : List Answer) (a : Answer) → next answers ≡ Write p b
    → among p (written_paths next [] (answers ++ a ∷ [])) ≡ true
written_now next p b answers a h =
    subst (λ z. among p z ≡ true) (sym (written_more next [] answers a))
    (among_right p (written_paths next [] answers) (path_written (next answers))
    (subst (λ e. among p (path_written e) ≡ true) (sym h) (among_here p [])))

-- a path that was written is not written later
module _ (w : World) (P : Project) (child : Task → Node) (t : Task) (once : NeverWritesTwice (P.next t)) (p : Path) where
  abbrev Written : Progress → Type 0
  Written g = among p (written_paths (P.next t) [] g.answers) ≡ true

  module _ (go : Progress → Trace) (G : (g : Progress) → Written g → first_write p (writes_of (go g)) ≡ None) where
    seen_later : (l : Look) (q : Path) (g : Progress) (s : Seen) → Written g → first_write p (writes_of (on_seen w t l q g go s)) ≡ None
    seen_later l q g Nothing h = G _ (written_keeps (P.next t) p g.answers (absent_answer l) h)
    seen_later l q g (Holds b m) h = G _ (written_keeps (P.next t) p g.answers (present_answer w b l) h)
    seen_later l q g Clashing h = refl

    listing_later : (d : Path) (g : Progress) (es : Option (List Path)) → Written g → first_write p (writes_of (on_listing t d g go es)) ≡ None
    listing_later d g None h = refl
    listing_later d g (Some es) h = G _ (written_keeps (P.next t) p g.answers _ h)

    outcome_later : (r : How) (g : Progress) (n : Node) (e : Outcome) → Written g → first_write p (writes_of (on_outcome r g n go e)) ≡ None
    outcome_later r g n (Ended v) h = G _ (written_keeps (P.next t) p g.answers (output_answer v r) h)
    outcome_later r g n (Failed x f) h = refl
    outcome_later r g n (Cycled ts) h = refl
    outcome_later r g n Many h = refl

    write_later : (g : Progress) (q : Path) (b : List ℕ) → P.next t g.answers ≡ Write q b → Written g
        → first_write p ((q, b) ∷ writes_of (go (wrote g q b))) ≡ None
    write_later g q b e h = by (bytes_eq p q) refl
      where
        rest : first_write p (writes_of (go (wrote g q b))) ≡ None
        rest = G _ (written_keeps (P.next t) p g.answers _ h)

        by : (x : Bool) → bytes_eq p q ≡ x → cond x (Some b) (first_write p (writes_of (go (wrote g q b)))) ≡ None
        by true i = absurd (once g.answers p b (e ∙ ap (λ z. Write z b) (sym (same_bytes p q i))) h)
        by false i = rest

    event_later : (g : Progress) (e : Event) → P.next t g.answers ≡ e → Written g → first_write p (writes_of (on_event w P child t g go e)) ≡ None
    event_later g (Done v) i h = refl
    event_later g (Fail f) i h = refl
    event_later g (LookAt l q) i h = seen_later l q g (visible_at P.file g.own g.kids q) h
    event_later g (ListOf d) i h = listing_later d g (listing w P d) h
    event_later g (Write q b) i h = write_later g q b i h
    event_later g (Require r u) i h = outcome_later r g (child u) (outcome_of (child u)) h

  follow_later : (n : ℕ) (g : Progress) → Written g → first_write p (writes_of (follow w P child t n g)) ≡ None
  follow_later zero g h = refl
  follow_later (suc n) g h = event_later (follow w P child t n) (follow_later n) g (P.next t g.answers) refl h

-- each path is written once
abbrev pub Once : List (Path × List ℕ) → Type 0
Once [] = Unit {0}
Once (x ∷ xs) = (first_write x.0 xs ≡ None) × Once xs

module _ (w : World) (P : Project) (child : Task → Node) (t : Task) (once : NeverWritesTwice (P.next t)) where
  module _ (go : Progress → Trace) (G : (g : Progress) → Once (writes_of (go g)))
      (later : (p : Path) (g : Progress) → among p (written_paths (P.next t) [] g.answers) ≡ true → first_write p (writes_of (go g)) ≡ None) where
    seen_once : (l : Look) (q : Path) (g : Progress) (s : Seen) → Once (writes_of (on_seen w t l q g go s))
    seen_once l q g Nothing = G _
    seen_once l q g (Holds b m) = G _
    seen_once l q g Clashing = tt

    listing_once : (d : Path) (g : Progress) (es : Option (List Path)) → Once (writes_of (on_listing t d g go es))
    listing_once d g None = tt
    listing_once d g (Some es) = G _

    outcome_once : (r : How) (g : Progress) (n : Node) (e : Outcome) → Once (writes_of (on_outcome r g n go e))
    outcome_once r g n (Ended v) = G _
    outcome_once r g n (Failed x f) = tt
    outcome_once r g n (Cycled ts) = tt
    outcome_once r g n Many = tt

    event_once : (g : Progress) (e : Event) → P.next t g.answers ≡ e → Once (writes_of (on_event w P child t g go e))
    event_once g (Done v) i = tt
    event_once g (Fail f) i = tt
    event_once g (LookAt l q) i = seen_once l q g (visible_at P.file g.own g.kids q)
    event_once g (ListOf d) i = listing_once d g (listing w P d)
    event_once g (Write q b) i = (later q (wrote g q b) (written_now (P.next t) q b g.answers _ i), G _)
    event_once g (Require r u) i = outcome_once r g (child u) (outcome_of (child u))

  follow_once : (n : ℕ) (g : Progress) → Once (writes_of (follow w P child t n g))
  follow_once zero g = tt
  follow_once (suc n) g = event_once (follow w P child t n) (follow_once n) (λ p. follow_later w P child t once p n) g (P.next t g.answers) refl

once_with : (n : ℕ) (w : World) (P : Project) (above : List Task) (t : Task) → NeverWritesTwice (P.next t)
    → Once (writes_of (trace_of (evaluation_with n w P above t)))
once_with zero w P above t once = tt
once_with (suc n) w P above t once = go (among t above)
  where
    go : (b : Bool) → Once (writes_of (cond b (ends (Cycled (round t above []))) (follow w P (evaluation_with n w P (t ∷ above)) t w.most_events start)))
    go true = tt
    go false = follow_once w P (evaluation_with n w P (t ∷ above)) t once w.most_events start

pub evaluation_once : (w : World) (P : Project) (t : Task) → NeverWritesTwice (P.next t) → Once (writes_of (trace_of (evaluation w P t)))
evaluation_once w P t once = once_with (w.most_tasks - length {A = Task} []) w P [] t once

pub hashed_once : (w : World) (xs : List (Path × List ℕ)) → Once xs → Once (hashed w xs)
hashed_once w [] h = tt
hashed_once w (x ∷ xs) h = (first_write-hashed w x.0 xs ∙ ap (option_map w.hash) h.0, hashed_once w xs h.1)

-- each of these writes is the first at its path
abbrev pub AreFirst : List (Path × List ℕ) → List (Path × List ℕ) → Type 0
AreFirst all [] = Unit {0}
AreFirst all (x ∷ xs) = (first_write x.0 all ≡ Some x.1) × AreFirst all xs

first_behind : (x : Path × List ℕ) (all : List (Path × List ℕ)) → first_write x.0 all ≡ None → (ys : List (Path × List ℕ)) → AreFirst all ys
    → AreFirst (x ∷ all) ys
first_behind x all n [] h = tt
first_behind x all n (y ∷ ys) h = (go (bytes_eq y.0 x.0) refl, first_behind x all n ys h.1)
  where
    go : (b : Bool) → bytes_eq y.0 x.0 ≡ b → cond b (Some x.1) (first_write y.0 all) ≡ Some y.1
    go true e = none_some (first_write x.0 all) y.1 n (ap (λ z. first_write z all) (sym (same_bytes y.0 x.0 e)) ∙ h.0)
    go false e = h.0

pub once_first : (xs : List (Path × List ℕ)) → Once xs → AreFirst xs xs
once_first [] h = tt
once_first (x ∷ xs) h = (ap (λ b. cond b (Some x.1) (first_write x.0 xs)) (bytes_same x.0), first_behind x xs h.0 xs (once_first xs h.1))

-- ---- under `out`

abbrev IsOutWrite : Event → Type 0
IsOutWrite (Done v) = Unit {0}
IsOutWrite (Fail k) = Unit {0}
IsOutWrite (LookAt l p) = Unit {0}
IsOutWrite (ListOf d) = Unit {0}
IsOutWrite (Write p b) = kind_of p ≡ Out
IsOutWrite (Require h u) = Unit {0}

out_by : (e : Event) → ((p : Path) (b : List ℕ) → e ≡ Write p b → kind_of p ≡ Out) → IsOutWrite e
out_by (Done v) f = tt
out_by (Fail k) f = tt
out_by (LookAt l p) f = tt
out_by (ListOf d) f = tt
out_by (Write p b) f = f p b refl
out_by (Require h u) f = tt

abbrev pub AreOut : List (Path × List ℕ) → Type 0
AreOut [] = Unit {0}
AreOut (x ∷ xs) = (kind_of x.0 ≡ Out) × AreOut xs

out_writes : (w : World) (k : Trace) → EachEvent IsOutWrite k → AreOut (hashed w (writes_of k))
out_writes w (ends e) h = tt
out_writes w (looks l p s k) h = out_writes w k h.1
out_writes w (lists d es k) h = out_writes w k h.1
out_writes w (writes p b k) h = (h.0, out_writes w k h.1)
out_writes w (needs r u n k) h = out_writes w k h.1

pub evaluation_out : (w : World) (P : Project) (t : Task) → WritesUnderOut (P.next t) → AreOut (hashed w (writes_of (trace_of (evaluation w P t))))
evaluation_out w P t out = out_writes w (trace_of (evaluation w P t)) (events_of w P t IsOutWrite (λ answers. out_by (P.next t answers) (out answers)))
