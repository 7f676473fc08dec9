-- What is kept of the tasks that known ones reach shows what these provide.
use Rattle.std.proofs.Common.{ℕ, ◌≡◌, true, Option, Some, None, option_map, List, [], map, sym, ◌∙◌, ap, refl}
use Rattle.pie_model.specs.Paths.{Path, among}
use Rattle.pie_model.specs.Tasks.{Task}
use Rattle.pie_model.specs.Trees.{trace_of, writes_of}
use Rattle.pie_model.specs.declared.words.Seen.{Seen}
use Rattle.pie_model.specs.declared.words.Seen.TheVariants.{Nothing, Holds, Clashing}
use Rattle.pie_model.specs.Seen.{first_write, provided}
use Rattle.pie_model.specs.Evaluation.{World, Project, evaluation}
use Rattle.pie_model.specs.Records.{Record}
use Rattle.pie_model.specs.inner.RecordLaws.{HasItsRecord}
use Rattle.pie_model.specs.Running.{entered_all}
use Rattle.pie_model.specs.inner.Present.{Reaches}
use Rattle.pie_model.specs.inner.Present.Way.{here, along}
use Rattle.pie_model.proofs.Ways.{further, record_right}
use Rattle.pie_model.proofs.LooksLemmas.{first_write-hashed, some_same}
use Rattle.pie_step_laws.specs.Contents.{KeepsContents, WroteContents, IsShown}
use Rattle.pie_step_laws.proofs.Tables.{none_some}
use Rattle.pie_step_laws.proofs.ContentLemmas.{kept_visible}
use Rattle.pie_settle_laws.specs.Known.{AreDone, AreCounted, ReachedFrom}
use Rattle.pie_settle_laws.specs.Ends.{recorded_among}
use Rattle.pie_settle_laws.specs.Shown.{KeepsReached, WroteFirst}
use Rattle.pie_settle_laws.proofs.Ending.{listed_record, record_listed, entered_reached, reached_entered, kept_recorded, kept_table}

-- of writers that are the same by two relations the same is seen
shown_alike : (V W : Task → List ℕ → Type 0) → ((x : Task) (b : List ℕ) → V x b → W x b) → ((x : Task) (b : List ℕ) → W x b → V x b)
    → (s : Seen) → IsShown V s → IsShown W s
shown_alike V W f g Nothing h = λ x b k. h x b (g x b k)
shown_alike V W f g (Holds b m) h = (
  record { writer = h.0.writer; wrote = f h.0.writer b h.0.wrote; only = λ y k i. h.0.only y k (g y k i) },
  h.1,
)
shown_alike V W f g Clashing h = record {
  first = h.first;
  second = h.second;
  first_hash = h.first_hash;
  second_hash = h.second_hash;
  first_wrote = f h.first h.first_hash h.first_wrote;
  second_wrote = f h.second h.second_hash h.second_wrote;
  distinct = h.distinct;
}

module _ (w : World) (P : Project) (R : Task → Option Record) (us : List Task) (D : AreDone w P R us) where
  abbrev names : List Task
  names = entered_all (map (evaluation w P) us) []

  abbrev alone : Task → Option Record
  alone = recorded_among names R

  -- by the records of the entered tasks alone the same is reached
  reach_forth : {x u : Task} → Reaches R u x → ReachedFrom R us u → Reaches alone u x
  reach_forth here s = here
  reach_forth {x} {u} (along {b = v} {r = r} e i q) s =
      along (record_listed names R u (reached_entered w P R us D u s) ∙ e) i
      (reach_forth q (record { from = s.from; listed = s.listed; reaches = further s.reaches (along e i here) }))

  reach_back : {x u : Task} → Reaches alone u x → Reaches R u x
  reach_back here = here
  reach_back {x} {u} (along {b = v} {r = r} e i q) = along (listed_record names R u r e).is i (reach_back q)

  from_itself : (u : Task) → among u us ≡ true → ReachedFrom R us u
  from_itself u i = record { from = u; listed = i; reaches = here }

  pub known_provide : (held : List Task) (kept : Task → List (Path × List ℕ)) (p : Path) (s : Seen) → AreCounted w R held → KeepsReached w P R kept us
      → IsShown (WroteContents R kept us p) s → provided (map (evaluation w P) us) p ≡ s
  known_provide held kept p s C K h =
      kept_visible w P alone names kept us p (kept_table w P R us D held C) keeps (λ u i. kept_recorded w P R us D u (from_itself u i)) s
      (shown_alike (WroteContents R kept us p) (WroteContents alone kept us p)
      (λ x b c. record { from = c.from; listed = c.listed; reaches = reach_forth c.reaches (from_itself c.from c.listed); wrote = c.wrote })
      (λ x b c. record { from = c.from; listed = c.listed; reaches = reach_back c.reaches; wrote = c.wrote }) s h)
    where
      keeps : KeepsContents w P alone kept
      keeps t k = K t (entered_reached w P R us D t (listed_record names R t k.kept k.is).listed)

-- ---- hashes and contents

module _ (w : World) (P : Project) (R : Task → Option Record) (x : Task) (r : Record) (p : Path) (H : HasItsRecord w P R x) (is : R x ≡ Some r) where
  hash_is : first_write p r.writes ≡ option_map w.hash (first_write p (writes_of (trace_of (evaluation w P x))))
  hash_is = ap (λ z. first_write p z.writes) (record_right w P R x r H is) ∙ first_write-hashed w p (writes_of (trace_of (evaluation w P x)))

  pub has_contents : (h : List ℕ) → first_write p r.writes ≡ Some h → WroteFirst w P x p h
  has_contents h e = go (first_write p (writes_of (trace_of (evaluation w P x)))) refl
    where
      go : (o : Option (List ℕ)) → first_write p (writes_of (trace_of (evaluation w P x))) ≡ o → WroteFirst w P x p h
      go None q = none_some None h refl (sym (ap (option_map w.hash) q) ∙ sym hash_is ∙ e)
      go (Some b) q = record { contents = b; wrote = q; hash = some_same (w.hash b) h (sym (ap (option_map w.hash) q) ∙ sym hash_is ∙ e) }

  pub has_none : first_write p r.writes ≡ None → first_write p (writes_of (trace_of (evaluation w P x))) ≡ None
  has_none e = go (first_write p (writes_of (trace_of (evaluation w P x)))) refl
    where
      go : (o : Option (List ℕ)) → first_write p (writes_of (trace_of (evaluation w P x))) ≡ o
          → first_write p (writes_of (trace_of (evaluation w P x))) ≡ None
      go None q = q
      go (Some b) q = none_some None (w.hash b) refl (sym e ∙ hash_is ∙ ap (option_map w.hash) q)
