-- What an accepted build wrote stands where it was left, and what is not named is as it was left.
use Rattle.std.proofs.Common.{ℕ, ◌≡◌, inl, inr, Bool, true, false, cond, Option, Some, None, option_map, List, [], ◌∷◌, ◌++◌, sym, ◌∙◌, ap, subst, refl}
use Rattle.std.proofs.Common.{bytes_eq, codes, eqb}
use Rattle.std.specs.FinMap as fin
use Rattle.pie_model.specs.Paths.{Path, among, kind_of, kind_by, below_out, kept_names, segments, longer_first, first_segment}
use Rattle.pie_model.specs.declared.words.Kind.TheVariants.{Out, Kept, Source}
use Rattle.pie_model.specs.Tasks.{Task}
use Rattle.pie_model.specs.Trees.{trace_of, writes_of}
use Rattle.pie_model.specs.Seen.{first_write}
use Rattle.pie_model.specs.Evaluation.{World, Project, evaluation}
use Rattle.pie_model.specs.Records.{Record, hashed}
use Rattle.pie_model.specs.Forest.{entered_tasks, live_evaluations}
use Rattle.pie_model.specs.Verdict.{verdict}
use Rattle.pie_model.specs.declared.words.Verdict.TheVariants.{Accepted}
use Rattle.pie_model.specs.Built.{Directory, store_rows, built_by, IsBuilt}
use Rattle.pie_model.specs.Changes.{NamesAllChanges}
use Rattle.pie_model.specs.Reasons.{WriteIsMissing}
use Rattle.pie_model.proofs.Basics.{clash, among_left, among_right}
use Rattle.pie_model.proofs.LooksLemmas.{first_write-hashed, some_same}
use Rattle.pie_step_laws.proofs.Tables.{none_some}
use Rattle.pie_step_laws.proofs.FileLemmas.{written_provided}
use Rattle.pie_earlier_laws.specs.Rows.{record_among}
use Rattle.pie_earlier_laws.specs.Left.{IsEarlierBuild, WriteOnce, IsThere, AreThere, NamedAreThere, AgreeButKept}
use Rattle.pie_earlier_laws.proofs.Accepting.{all_between, live_record}
use Rattle.pie_earlier_laws.proofs.OldRows.{old_row}
use Rattle.pie_earlier_laws.proofs.Writing.{AreFirst, AreOut, evaluation_once, hashed_once, once_first, evaluation_out}

-- ---- what was written

contents_of : (w : World) (p : Path) (ws : List (Path × List ℕ)) (h : List ℕ) → first_write p (hashed w ws) ≡ Some h
    → (b : List ℕ) × (first_write p ws ≡ Some b) × (w.hash b ≡ h)
contents_of w p ws h e = go (first_write p ws) refl
  where
    go : (o : Option (List ℕ)) → first_write p ws ≡ o → (b : List ℕ) × (first_write p ws ≡ Some b) × (w.hash b ≡ h)
    go None q = none_some (first_write p (hashed w ws)) h (first_write-hashed w p ws ∙ ap (option_map w.hash) q) e
    go (Some b) q = (b, q, some_same (w.hash b) h (sym (first_write-hashed w p ws ∙ ap (option_map w.hash) q) ∙ e))

module _ (w : World) (old : Project) (old_roots : List Task) (left now : Directory) (changes : List Path) (E : IsEarlierBuild w old old_roots left)
    (N : NamesAllChanges left now changes) (t : Task) (live : among t (entered_tasks w old old_roots) ≡ true) where
  -- a write of a live task is there, if its path is not named
  write_there : (x : Path × List ℕ) → kind_of x.0 ≡ Out → first_write x.0 (hashed w (writes_of (trace_of (evaluation w old t)))) ≡ Some x.1
      → among x.0 changes ≡ false → IsThere w now x
  write_there x k e a =
      let c = contents_of w x.0 (writes_of (trace_of (evaluation w old t))) x.1 e in (
        c.0,
        sym (N.provided x.0 k a) ∙ E.provided x.0 k
            ∙ written_provided w old old_roots (live_record w old (entered_tasks w old old_roots)) (entered_tasks w old old_roots)
            (λ y. writes_of (trace_of (evaluation w old y))) (all_between w old old_roots E.accepted) (λ y r. refl) E.accepted t x.0 c.0 live c.1,
        c.2,
      )

  writes_there : (xs : List (Path × List ℕ)) → AreOut xs → AreFirst (hashed w (writes_of (trace_of (evaluation w old t)))) xs
      → NamedAreThere w now changes xs → AreThere w now xs
  writes_there [] k f n = tt
  writes_there (x ∷ xs) k f n = (go (among x.0 changes) refl, writes_there xs k.1 f.1 n.1)
    where
      go : (b : Bool) → among x.0 changes ≡ b → IsThere w now x
      go true e = n.0 e
      go false e = write_there x k.0 f.0 e

pub old_writes_there : (w : World) (old : Project) (old_roots : List Task) (left now : Directory) (changes : List Path) (t : Task) (r : Record)
    → WriteOnce old → IsEarlierBuild w old old_roots left → NamesAllChanges left now changes
    → record_among (store_rows w old old_roots) t ≡ Some r → NamedAreThere w now changes r.writes → AreThere w now r.writes
old_writes_there w old old_roots left now changes t r O E N h n =
    let q = old_row w old old_roots E.accepted t r h in
    subst (λ z. AreThere w now z.writes) (sym q.was)
    (writes_there w old old_roots left now changes E N t q.live (hashed w (writes_of (trace_of (evaluation w old t))))
    (evaluation_out w old t (O.out t))
    (once_first (hashed w (writes_of (trace_of (evaluation w old t))))
    (hashed_once w (writes_of (trace_of (evaluation w old t))) (evaluation_once w old t (O.once t))))
    (subst (λ z. NamedAreThere w now changes z.writes) q.was n))

pub not_missing : (w : World) (now : Directory) (xs : List (Path × List ℕ)) → AreThere w now xs → WriteIsMissing w now xs → ⊥
not_missing w now [] h m = m
not_missing w now (x ∷ xs) h (inl f) = f h.0.0 h.0.1 h.0.2
not_missing w now (x ∷ xs) h (inr m) = not_missing w now xs h.1 m

-- ---- the kinds of paths

-- the first segment stands first among the segments
pub record Headed (p : Path) : Type 0 where
  pub rest : List (List ℕ)
  pub is : segments p ≡ first_segment p ∷ rest

pub headed : (p : Path) → Headed p
headed [] = record { rest = []; is = refl }
headed (c ∷ p) = let q = go (eqb c 47) (headed p) in record { rest = q.0; is = q.1 }
  where
    go : (b : Bool) → Headed p → (rest : List (List ℕ)) × (cond b ([] ∷ segments p) (longer_first c (segments p)) ≡ cond b [] (c ∷ first_segment p) ∷ rest)
    go true h = (segments p, refl)
    go false h = (h.rest, ap (longer_first c) h.is)

-- a source does not stand under `.pie`
not_kept : (s : List ℕ) (b : Bool) → cond b Kept Source ≡ Source → b ≡ false
not_kept s true h = cc
not_kept s false h = refl

source_by : (s : List ℕ) (rest : List (List ℕ)) (b : Bool) → cond b (below_out rest) (cond (among s kept_names) Kept Source) ≡ Source
    → among s kept_names ≡ false
source_by s [] true h = cc
source_by s (x ∷ rest) true h = cc
source_by s rest false h = not_kept s (among s kept_names) h

pub source_apart : (p : Path) → kind_of p ≡ Source → among (first_segment p) kept_names ≡ false
unfolding kind_of
source_apart p h =
    let d = headed p in
    source_by (first_segment p) d.rest (bytes_eq (first_segment p) (codes "out")) (ap kind_by (sym d.is) ∙ h)

first_apart : (x y : List ℕ) (ys : List (List ℕ)) → among x (y ∷ ys) ≡ false → bytes_eq x y ≡ false
first_apart x y ys h = go (bytes_eq x y) refl h
  where
    go : (b : Bool) → bytes_eq x y ≡ b → cond b true (among x ys) ≡ false → bytes_eq x y ≡ false
    go true e k = clash true refl k
    go false e k = e

not_both : Out ≡ Source → ⊥
not_both e = cc

-- ---- the base of the next build

pub accepted_is_earlier : (w : World) (P : Project) (roots : List Task) (text : List ℕ) (before left : Directory) → verdict w P roots ≡ Accepted
    → ((p : Path) → kind_of p ≡ Source → fin.get before p ≡ P.file p) → IsBuilt text before left (live_evaluations w P roots)
    → IsEarlierBuild w P roots left
accepted_is_earlier w P roots text before left accepted same B = record {
  accepted = accepted;
  sources = λ p k.
      B.marks p (λ e. not_both (sym e ∙ k))
      (first_apart (first_segment p) (codes ".pie") (codes "pie.pipeline" ∷ codes "pie.roots" ∷ []) (source_apart p k))
      ∙ same p k;
  provided = λ p k. B.bytes p ∙ ap (built_by text before (live_evaluations w P roots) p) k;
}

pub agreeing : (before now : Directory) → AgreeButKept before now → NamesAllChanges before now []
agreeing before now A = record { sources = λ p k e. A.sources p k; provided = λ p k e. A.provided p k }

among_neither : (p : Path) (xs ys : List Path) → among p (xs ++ ys) ≡ false → (among p xs ≡ false) × (among p ys ≡ false)
among_neither p xs ys h = (go xs (among_left p xs ys) (among p xs) refl, go ys (among_right p xs ys) (among p ys) refl)
  where
    go : (zs : List Path) → (among p zs ≡ true → among p (xs ++ ys) ≡ true) → (b : Bool) → among p zs ≡ b → among p zs ≡ false
    go zs f true e = clash (among p (xs ++ ys)) (f e) h
    go zs f false e = e

pub names_join : (before between now : Directory) (first second : List Path) → NamesAllChanges before between first
    → NamesAllChanges between now second → NamesAllChanges before now (first ++ second)
names_join before between now first second N M = record {
  sources = λ p k e. let a = among_neither p first second e in N.sources p k a.0 ∙ M.sources p k a.1;
  provided = λ p k e. let a = among_neither p first second e in N.provided p k a.0 ∙ M.provided p k a.1;
}

pub more_names : (before now : Directory) (few more : List Path) → ((p : Path) → among p few ≡ true → among p more ≡ true)
    → NamesAllChanges before now few → NamesAllChanges before now more
more_names before now few more f N = record {
  sources = λ p k e. N.sources p k (apart p e (among p few) refl);
  provided = λ p k e. N.provided p k (apart p e (among p few) refl);
}
  where
    apart : (p : Path) → among p more ≡ false → (b : Bool) → among p few ≡ b → among p few ≡ false
    apart p e true q = clash (among p more) (f p q) e
    apart p e false q = q
