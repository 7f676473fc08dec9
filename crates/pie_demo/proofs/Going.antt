-- A round goes on from the build before, and then it answers yes.
use Rattle.std.proofs.Common.{◌≡◌, ◌==◌, ℕ, Bool, true, false, cond, not, List, [], ◌∷◌, ◌++◌, codes, Option, None, Some, refl, sym, ap, ◌∙◌, subst}
use Rattle.std.specs.Prelude.{◌&&◌, ◌||◌, is_some, IsSome}
use Rattle.std.specs.Option.{option_map}
use Rattle.std.proofs.lemmas.Bool.{false≢true, eqb-true}
use Rattle.pie_base.specs.Path.{is_below, is_out, rest_below, same_text}
use Rattle.pie_build.specs.Left.{KeepsRest, Leaves}
use Rattle.pie_clean_laws.proofs.Leaving.{afresh_left, same_left}
use Rattle.pie_clean_laws.proofs.Same.{afresh_accepted, files_accepted, left_same, same_accepted}
use Rattle.pie_clean_laws.specs.Left.{HaveSameFiles, IsAccepted, IsLeftOf}
use Rattle.pie_earlier_laws.proofs.Pipelines.{out_kind}
use Rattle.pie_files.specs.Directory.{Directory, file_at}
use Rattle.pie_model.specs.Paths.{among, kind_of}
use Rattle.pie_model.specs.declared.words.Kind.TheVariants.{Out, Kept, Source}
use Rattle.pie_report.specs.declared.report.Report.{Report}
use Rattle.pie_clean_laws.proofs.Cleaning.{afresh_base, clean_base}
use Rattle.pie_clean_laws.proofs.Going.{edits_go_on}
use Rattle.pie_clean_laws.specs.Basing.{IsApart, IsBaseOfNext, IsBasedOn, IsEdit}
use Rattle.pie_store.specs.declared.cause.Cause.{Cause}
use Rattle.pie_value.specs.declared.task.Task.{Task}
use Rattle.pie_incremental.specs.Clean.{IsAfresh, IsAsClean}
use Rattle.pie_incremental.specs.Earlier.{Earlier, GoesOnFrom}
use Rattle.pie_incremental.specs.Kept.{is_builders}
use Rattle.pie_incremental.specs.Own.{bytes_at}
use Rattle.pie_demo.specs.Going.{HasOwnAlone, IsEqualRound}
use Rattle.pie_demo.specs.Rounds.{BuildsAfresh, BuildsByNames, HaveSame, IsCopy}
use Rattle.pie_demo.specs.Sources.{changed_path, changed_text, is_own, or_nothing, ChangesFile, SetsFile}
use Rattle.pie_demo.proofs.Owned.{apart, both_off, keeps_file, neither}
use Rattle.pie_demo.proofs.Setting.{file_set, same_path}

-- ---- paths below `out` and `.pie`

below_is : (dir q : List ℕ) → is_below dir q ≡ true → (rest : List ℕ) × (q ≡ dir ++ 47 ∷ rest)
below_is [] [] h = absurd (false≢true h)
below_is [] (b ∷ q) h = by (b == 47) refl
  where
    by : (t : Bool) → (b == 47) ≡ t → (rest : List ℕ) × (b ∷ q ≡ 47 ∷ rest)
    by true e = (q, ap (λ y. y ∷ q) (eqb-true b 47 e))
    by false e = absurd (false≢true (sym (ap (λ t. is_some (cond t (Some q) None)) e) ∙ h))
below_is (x ∷ dir) [] h = absurd (false≢true h)
below_is (x ∷ dir) (b ∷ q) h = by (x == b) refl (below_is dir q)
  where
    by : (t : Bool) → (x == b) ≡ t → (is_below dir q ≡ true → (rest : List ℕ) × (q ≡ dir ++ 47 ∷ rest))
        → (rest : List ℕ) × (b ∷ q ≡ x ∷ (dir ++ 47 ∷ rest))
    by true e behind =
        let r = behind (sym (ap (λ t. is_some (cond t (rest_below dir q) None)) e) ∙ h) in
        (r.0, ap (λ y. y ∷ q) (sym (eqb-true x b e)) ∙ ap (λ (z : List ℕ). x ∷ z) r.1)
    by false e behind = absurd (false≢true (sym (ap (λ t. is_some (cond t (rest_below dir q) None)) e) ∙ h))

kept_there : (rest : List ℕ) → kind_of (codes ".pie" ++ 47 ∷ rest) ≡ Kept
unfolding kind_of
kept_there rest = refl

kept_below : (q : List ℕ) → is_below (codes ".pie") q ≡ true → kind_of q ≡ Kept
kept_below q h = let r = below_is (codes ".pie") q h in ap kind_of r.1 ∙ kept_there r.0

not_out_there : (rest : List ℕ) → is_out (codes ".pie" ++ 47 ∷ rest) ≡ false
not_out_there rest = refl

not_out : (q : List ℕ) → is_below (codes ".pie") q ≡ true → is_out q ≡ false
not_out q h = let r = below_is (codes ".pie") q h in ap is_out r.1 ∙ not_out_there r.0

out_source : Out ≡ Source → ⊥
out_source e = cc

out_kept : Out ≡ Kept → ⊥
out_kept e = cc

kept_source : Kept ≡ Source → ⊥
kept_source e = cc

-- ---- no files below `.pie` but the builder's own

-- a build leaves it so
pub alone_kept : (d e : Directory) → KeepsRest (Some d) (Some e) → HasOwnAlone d → HasOwnAlone e
alone_kept d e keeps alone q below others =
    let one = neither _ _ others in
    let two = neither _ _ one.0 in
    ap (option_map (λ (f : List ℕ × ℕ). f.0))
    (keeps_file d e keeps q (both_off _ _ (both_off _ _ (both_off _ _ (not_out q below) two.0) two.1) one.1))
    ∙ alone q below others

-- and a file that is set below `src`
pub alone_changed : (path bytes : List ℕ) (d e : Directory) → is_below (codes "src") path ≡ true → SetsFile path bytes d e → HasOwnAlone d → HasOwnAlone e
alone_changed path bytes d e source set alone q below others =
    ap (λ (x : Directory). bytes_at x q) set.1
    ∙ ap (option_map (λ (f : List ℕ × ℕ). f.0)) (file_set d path bytes set.0 q
    ∙ ap (λ b. cond b (Some (bytes, set.0)) (file_at d q)) (apart (is_below (codes "src")) q path (off q below) source))
    ∙ alone q below others
  where
    off : (q : List ℕ) → is_below (codes ".pie") q ≡ true → is_below (codes "src") q ≡ false
    off q below = let r = below_is (codes ".pie") q below in ap (is_below (codes "src")) r.1

-- ---- the copy has the same files

pub copy_alike : (d copy : Directory) → IsCopy d copy → HasOwnAlone d → HaveSameFiles d copy
copy_alike d copy copied alone = record { sources = sources; kept = kept }
  where
    own_by : (q : List ℕ) (o w : Bool) → is_below (codes "out") q ≡ o → is_below (codes ".pie") q ≡ w → is_own q ≡ (not o && not w)
    own_by q o w e f = ap (λ b. not b && not (is_below (codes ".pie") q)) e ∙ ap (λ b. not o && not b) f

    file_by : (q : List ℕ) (b : Bool) → is_own q ≡ b → file_at copy q ≡ cond b (file_at d q) None
    file_by q b e = copied q ∙ ap (λ t. cond t (file_at d q) None) e

    sources : (p : List ℕ) → kind_of p ≡ Source → file_at d p ≡ file_at copy p
    sources p k = by (is_below (codes "out") p) (is_below (codes ".pie") p) refl refl
      where
        by : (o w : Bool) → is_below (codes "out") p ≡ o → is_below (codes ".pie") p ≡ w → file_at d p ≡ file_at copy p
        by true w e f = absurd (out_source (sym (out_kind p e) ∙ k))
        by false true e f = absurd (kept_source (sym (kept_below p f) ∙ k))
        by false false e f = sym (file_by p true (own_by p false false e f))

    kept : (p : List ℕ) → kind_of p ≡ Kept → is_builders p ≡ false → bytes_at d p ≡ bytes_at copy p
    kept p k others = by (is_below (codes "out") p) (is_below (codes ".pie") p) refl refl
      where
        by : (o w : Bool) → is_below (codes "out") p ≡ o → is_below (codes ".pie") p ≡ w → bytes_at d p ≡ bytes_at copy p
        by true w e f = absurd (out_kept (sym (out_kind p e) ∙ k))
        by false true e f =
            alone p f others ∙ sym (ap (option_map (λ (x : List ℕ × ℕ). x.0)) (file_by p false (own_by p false true e f)))
        by false false e f = sym (ap (option_map (λ (x : List ℕ × ℕ). x.0)) (file_by p true (own_by p false false e f)))

-- ---- a round goes on from the build before

-- one file that is set is named
set_named : (path bytes : List ℕ) (d e : Directory) → is_below (codes "src") path ≡ true → SetsFile path bytes d e → IsEdit d e (path ∷ [])
set_named path bytes d e source set = record {
  named = record {
    sources = λ p k away. sym (stays p (other p away));
    provided = λ p k away. sym (ap (option_map (λ (f : List ℕ × ℕ). f.0)) (stays p (other p away)));
  };
  own = λ q own. ap (option_map (λ (f : List ℕ × ℕ). f.0)) (stays q (apart (is_below (codes "src")) q path (builders q own) source));
}
  where
    stays : (q : List ℕ) → same_text q path ≡ false → file_at e q ≡ file_at d q
    stays q away =
        ap (λ (x : Directory). file_at x q) set.1
        ∙ file_set d path bytes set.0 q
        ∙ ap (λ b. cond b (Some (bytes, set.0)) (file_at d q)) away

    other : (p : List ℕ) → among p (path ∷ []) ≡ false → same_text p path ≡ false
    other p away = by (same_text p path) refl
      where
        by : (b : Bool) → same_text p path ≡ b → b ≡ false
        by true h = absurd (false≢true (sym away ∙ ap (λ t. cond t true false) h))
        by false h = refl

    builders : (q : List ℕ) → is_builders q ≡ true → is_below (codes "src") q ≡ false
    builders q own =
        by (same_text q (codes ".pie/open")) (same_text q (codes ".pie/store")) (same_text q (codes ".pie/pending")) refl refl refl own
      where
        by : (o s n : Bool) → same_text q (codes ".pie/open") ≡ o → same_text q (codes ".pie/store") ≡ s → same_text q (codes ".pie/pending") ≡ n
            → (o || s || n) ≡ true → is_below (codes "src") q ≡ false
        by true s n e f g h = ap (is_below (codes "src")) (same_path q (codes ".pie/open") e)
        by false true n e f g h = ap (is_below (codes "src")) (same_path q (codes ".pie/store") f)
        by false false true e f g h = ap (is_below (codes "src")) (same_path q (codes ".pie/pending") g)
        by false false false e f g h = absurd (false≢true h)

item_source : (seed size k : ℕ) → is_below (codes "src") (changed_path seed size k) ≡ true
item_source seed size k = refl

module _ (seed size k : ℕ) (before changed : Directory) (changes : ChangesFile seed size k before changed) where
  pub round_goes_on : (e : Earlier) → IsBasedOn e before → IsApart e changed → GoesOnFrom e (changed_path seed size k ∷ []) changed
  round_goes_on e based apart =
      edits_go_on e before changed (changed_path seed size k ∷ []) based
      (set_named (changed_path seed size k) (changed_text k (or_nothing (bytes_at before (changed_path seed size k)))) before changed
      (item_source seed size k) changes) apart

  pub round_alone : HasOwnAlone before → HasOwnAlone changed
  round_alone =
      alone_changed (changed_path seed size k) (changed_text k (or_nothing (bytes_at before (changed_path seed size k)))) before changed
      (item_source seed size k) changes

-- ---- what an accepted build left

-- it is what the clean build leaves, and the next build can be based on it
pub record IsWell (d left : Directory) : Type 0 where
  pub left_is : IsLeftOf d left
  pub base : IsBaseOfNext d left

module _ (d left : Directory) (a : IsAccepted d) where
  well_same : (r : Report) → IsAsClean d r (Some left) → IsWell d left
  well_same r c =
      let accepted = same_accepted d a r (Some left) c in
      record { left_is = same_left d left r c accepted; base = clean_base d left r c accepted }

  well_afresh : (r : Report) → IsAfresh d r (Some left) → IsWell d left
  well_afresh r c =
      let accepted = afresh_accepted d a r (Some left) c in
      record { left_is = afresh_left d left r c accepted; base = afresh_base d left r c accepted }

  pub well_clean : (r : Report) → Leaves d r (Some left) → IsWell d left
  well_clean r leaves = well_afresh r (record {
    clean = r;
    left = Some left;
    leaves = leaves;
    is = refl;
    before = [];
    ran = refl;
    after_is = λ accepted. refl;
  })

  well_named : (names : List (List ℕ)) (started : List Task) (b : BuildsByNames names d left started) (e : Earlier) → GoesOnFrom e names d → IsWell d left
  well_named names started b e goes = by b.report.fresh refl
    where
      by : (o : Option Cause) → b.report.fresh ≡ o → IsWell d left
      by None none = well_same b.report (b.builds.goes_on none e goes)
      by (Some cause) some = well_afresh b.report (b.builds.afresh (subst IsSome (sym some) refl))

-- ---- a round answers yes

module _ (name : List ℕ) (changed after copy left : Directory) (started cleaned : List Task) (live : ℕ) (same : Bool)
    (builds : BuildsByNames (name ∷ []) changed after started) (copied : IsCopy changed copy) (afresh : BuildsAfresh copy left cleaned live)
    (told : HaveSame after left → same ≡ true) where
  pub round_equal : (e : Earlier) → GoesOnFrom e (name ∷ []) changed → IsAccepted changed → HasOwnAlone changed → IsEqualRound changed after same
  round_equal e goes accepted alone =
      let alike : HaveSameFiles changed copy = copy_alike changed copy copied alone in
      let one : IsWell changed after = well_named changed after accepted (name ∷ []) started builds e goes in
      let two : IsWell copy left = well_clean copy left (files_accepted changed copy alike accepted) afresh.report afresh.leaves in
      record {
        told = told (λ q. left_same changed copy alike after left one.left_is two.left_is q);
        left = one.left_is;
        base = one.base;
        own = alone_kept changed after builds.keeps alone;
      }
