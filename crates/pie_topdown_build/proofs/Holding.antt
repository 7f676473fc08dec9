-- What is looked at under `out/` is what a directory has there.
use Rattle.std.proofs.Common.{◌≡◌, Vec, Global, ℕ, Bool, true, false, cond, List, [], ◌∷◌, Option, Some, None, refl, sym, ap, subst, ◌∙◌, codes}
use Rattle.std.proofs.lemmas.Bool.{false≢true}
use Rattle.std.specs.FinMap as fin
use Rattle.std.specs.Prelude.{◌&&◌, ◌||◌, Contains, IfSome, IfOk, Result, is_some}
use Rattle.std.specs.List.{filter, list_any}
use Rattle.std.specs.Option.{option_map}
use Rattle.std.specs.Ordering.{nat_cmp, eq_by_cmp}
use Rattle.std.specs.Cmp.Lexicographic.{slice_cmp}
use Rattle.sha2.specs.Sha256.{sha256}
use Rattle.pie_base.specs.Path.{is_below, is_out, same_text}
use Rattle.pie_build.proofs.InPlace.{is_any}
use Rattle.pie_commit.proofs.Standing.{same_path}
use Rattle.pie_diff.specs.Hashes.{files_paths, hash_in, held_at}
use Rattle.pie_diff.specs.inner.Held.{Looks}
use Rattle.pie_files.specs.Directory.{Directory, file_at, files_under, paths_of}
use Rattle.pie_files.specs.declared.files.FilesError.{FilesError}
use Rattle.pie_graph.proofs.EdgeOrder.{text_tie}
use Rattle.pie_incremental.specs.declared.base.OwnFiles.{OwnFiles}
use Rattle.pie_incremental.specs.Own.{bytes_at, pending_path}
use Rattle.pie_left_laws.specs.Held.{HoldsRightly}
use Rattle.pie_reach.specs.Plan.{IsPlan}
use Rattle.pie_topdown_build.specs.inner.Anew.{HoldsBeside}
use Rattle.pie_topdown_build.specs.inner.Cleaned.{HoldsBy, IsOwnOf}
use Rattle.pie_topdown_build.proofs.Ran.{among_in}

-- a path below `out` is among those below it where it is among all
any_under : (q : List ℕ) (paths : List (List ℕ)) → is_out q ≡ true
    → list_any (same_text q) (filter (is_below (codes "out")) paths) ≡ list_any (eq_by_cmp (slice_cmp nat_cmp) q) paths
any_under q [] on = refl
any_under q (path ∷ paths) on = by (any_under q paths on) (same_text q path) refl
  where
    rest : Bool
    rest = list_any (same_text q) (filter (is_below (codes "out")) paths)

    by : rest ≡ list_any (eq_by_cmp (slice_cmp nat_cmp) q) paths → (b : Bool) → same_text q path ≡ b
        → list_any (same_text q) (filter (is_below (codes "out")) (path ∷ paths)) ≡ list_any (eq_by_cmp (slice_cmp nat_cmp) q) (path ∷ paths)
    by below_is true e =
        let below : is_below (codes "out") path ≡ true = ap (is_below (codes "out")) (sym (same_path q path e)) ∙ on in
        ap (λ t. list_any (same_text q) (cond t (path ∷ filter (is_below (codes "out")) paths) (filter (is_below (codes "out")) paths))) below
        ∙ ap (λ t. t || rest) e
        ∙ sym (ap (λ t. t || list_any (eq_by_cmp (slice_cmp nat_cmp) q) paths) (text_tie q path ∙ e))
    by below_is false e =
        skipped (is_below (codes "out") path) ∙ below_is
        ∙ sym (ap (λ t. t || list_any (eq_by_cmp (slice_cmp nat_cmp) q) paths) (text_tie q path ∙ e))
      where
        skipped : (t : Bool) → list_any (same_text q) (cond t (path ∷ filter (is_below (codes "out")) paths) (filter (is_below (codes "out")) paths)) ≡ rest
        skipped true = ap (λ t. t || rest) e
        skipped false = refl

-- a file below `out` is listed
listed : (d : Directory) (q : List ℕ) → is_out q ≡ true → list_any (same_text q) (files_under d (codes "out")) ≡ is_some (file_at d q)
listed d q on = any_under q (paths_of d) on ∙ sym (fin.contains_key-keys d q)

no_hash : (d : Directory) (q : List ℕ) → is_some (file_at d q) ≡ false → None ≡ hash_in d q
no_hash d q absent = by (file_at d q) refl
  where
    by : (o : Option (List ℕ × ℕ)) → file_at d q ≡ o → None ≡ hash_in d q
    by None e = sym (ap (λ x. option_map (λ (f : List ℕ × ℕ). sha256 f.0) x) e)
    by (Some f) e = absurd (false≢true (sym absent ∙ ap is_some e))

-- so where all of them are looked at, what is held is what the directory has
all_looked : (d : Directory) (held : List (List ℕ × List ℕ)) (paths : List (List ℕ)) → paths ≡ files_under d (codes "out") → Looks d [] held paths
    → HoldsRightly held d
all_looked d held paths all looks q on =
    looks q ∙ ap (λ t. cond (t && list_any (same_text q) paths) (hash_in d q) None) on
    ∙ ap (λ (ps : List (List ℕ)). cond (list_any (same_text q) ps) (hash_in d q) None) all
    ∙ by (list_any (same_text q) (files_under d (codes "out"))) refl
  where
    by : (t : Bool) → list_any (same_text q) (files_under d (codes "out")) ≡ t → cond t (hash_in d q) None ≡ hash_in d q
    by true e = refl
    by false e = no_hash d q (sym (listed d q on) ∙ e)

pub holds_all : (before mid : Option Directory) (dir : List ℕ) (none held : List (List ℕ × List ℕ)) (paths : List (List ℕ)) → mid ≡ before
    → dir ≡ codes "out" → none ≡ [] → IfSome before (λ d. paths ≡ files_under d dir) → IfSome mid (λ d. Looks d none held paths)
    → IfSome before (λ d. HoldsRightly held d)
holds_all None mid dir none held paths same at empty listing looks = tt
holds_all (Some d) mid dir none held paths same at empty listing looks =
    all_looked d held paths (listing ∙ ap (files_under d) at)
    (subst (λ h. Looks d h held paths) empty (subst (λ o. IfSome o (λ x. Looks x none held paths)) same looks))

-- ---- beside some files

-- what a list has by its text stands in it
any_in : (q : List ℕ) (paths : List (List ℕ)) → list_any (same_text q) paths ≡ true → Contains paths q
any_in q paths e = among_in q paths (ap (λ test. list_any test paths) tie ∙ e)
  where
    tie : eq_by_cmp (slice_cmp nat_cmp) q ≡ same_text q
    tie = λ i r. text_tie q r i

-- where all of them are looked at but these, what is held is what the directory has beside these
beside_looked : (d : Directory) (held : List (List ℕ × List ℕ)) (paths known others : List (List ℕ)) → paths ≡ files_under d (codes "out")
    → IsPlan paths known others → Looks d [] held others → (q : List ℕ) → is_out q ≡ true
    → held_at held q ≡ cond (list_any (same_text q) known) None (hash_in d q)
beside_looked d held paths known others all plan looks q on =
    looks q ∙ ap (λ t. cond (t && list_any (same_text q) others) (hash_in d q) None) on
    ∙ by (list_any (same_text q) known) refl (list_any (same_text q) others) refl
  where
    absent : list_any (same_text q) known ≡ false → list_any (same_text q) others ≡ false → None ≡ hash_in d q
    absent off skipped = there (list_any (same_text q) (files_under d (codes "out"))) refl
      where
        there : (t : Bool) → list_any (same_text q) (files_under d (codes "out")) ≡ t → None ≡ hash_in d q
        there false e = no_hash d q (sym (listed d q on) ∙ e)
        there true e =
            let i : Contains others q =
            plan.each q (subst (λ ps. Contains ps q) (sym all) (any_in q (files_under d (codes "out")) e)) (λ k. false≢true (sym off ∙ is_any q known k)) in
            absurd (false≢true (sym skipped ∙ is_any q others i))

    by : (k : Bool) → list_any (same_text q) known ≡ k → (o : Bool) → list_any (same_text q) others ≡ o
        → cond o (hash_in d q) None ≡ cond k None (hash_in d q)
    by true e true f = absurd ((plan.only q (any_in q others f)).1 (any_in q known e))
    by true e false f = refl
    by false e true f = refl
    by false e false f = absent e f

pub holds_beside : (before mid : Option Directory) (dir : List ℕ) (none held : List (List ℕ × List ℕ)) (contents : List (List ℕ × Vec ℕ Global))
    (paths others : List (List ℕ)) → mid ≡ before → dir ≡ codes "out" → none ≡ [] → IfSome before (λ d. paths ≡ files_under d dir)
    → IsPlan paths (files_paths contents) others → IfSome mid (λ d. Looks d none held others) → IfSome before (λ d. HoldsBeside contents held d)
holds_beside None mid dir none held contents paths others same at empty listing plan looks = tt
holds_beside (Some d) mid dir none held contents paths others same at empty listing plan looks =
    beside_looked d held paths (files_paths contents) others (listing ∙ ap (files_under d) at) plan
    (subst (λ h. Looks d h held others) empty (subst (λ o. IfSome o (λ x. Looks x none held others)) same looks))

-- ---- by the store that there was to build from

module _ (store : Option (Vec ℕ Global)) (contents : List (List ℕ × Vec ℕ Global)) (before : Option Directory)
    (result : Result (List (List ℕ × List ℕ)) FilesError) where
  pub held_by_store : (text : Vec ℕ Global) → store ≡ Some text → IfSome before (λ d. IfOk result (λ held. HoldsRightly held d))
      → IfSome before (λ d. IfOk result (λ held. HoldsBy store contents held d))
  held_by_store text is h = subst (λ o. IfSome before (λ d. IfOk result (λ held. HoldsBy o contents held d))) (sym is) h

  pub held_by_none : store ≡ None → IfSome before (λ d. IfOk result (λ held. HoldsBeside contents held d))
      → IfSome before (λ d. IfOk result (λ held. HoldsBy store contents held d))
  held_by_none is h = subst (λ o. IfSome before (λ d. IfOk result (λ held. HoldsBy o contents held d))) (sym is) h

pub own_of : (store : Option (Vec ℕ Global)) (own : OwnFiles) (there : Bool) (before : Option Directory) → IfSome store (λ text. own.store ≡ text)
    → is_some own.pending ≡ there → IfSome before (λ d. there ≡ is_some (bytes_at d pending_path)) → IfSome before (λ d. IsOwnOf store d own)
own_of store own there None is pending found = tt
own_of store own there (Some d) is pending found = record { store_is = is; pending = pending ∙ found }
