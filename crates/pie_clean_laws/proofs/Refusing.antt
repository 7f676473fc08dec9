-- A refused build keeps the base, with its names.
use Rattle.std.proofs.Common.{ℕ, ◌≡◌, ◌<◌, ◌≤◌, Bool, true, false, cond, List, [], ◌∷◌, ◌++◌, length, All, Option, Some, None, option_map, refl, sym, ap, subst, ◌∙◌, arith, append-nil}
use Rattle.std.specs.Prelude.{nat_lt}
use Rattle.std.proofs.lemmas.Bool.{ltb-false}
use Rattle.std.proofs.lemmas.List.Elements.{All-append, All-contains, All-nil, All-weaker}
use Rattle.std.specs.List.{Contains}
use Rattle.pie_files.specs.Directory.{Directory}
use Rattle.pie_earlier_laws.proofs.Leaving.{names_join, more_names, agreeing}
use Rattle.pie_left_laws.proofs.Going.{own_files_kept}
use Rattle.pie_model.specs.Paths.{Path, among}
use Rattle.pie_model.specs.Changes.{NamesAllChanges}
use Rattle.pie_store.specs.Pending.{in_order, lines, IsName, IsPending}
use Rattle.pie_store.proofs.InOrder.{in_path_order, pending_is}
use Rattle.pie_store.proofs.PendingLemmas.{no_names, same_names}
use Rattle.pie_incremental.specs.declared.base.Base.{Base}
use Rattle.pie_incremental.specs.Earlier.{Earlier, GoesOnFrom, IsStoreOfEarlier}
use Rattle.pie_incremental.specs.Kept.{KeepsNames}
use Rattle.pie_incremental.specs.Names.{kept_names, kept_text}
use Rattle.pie_incremental.specs.Own.{bytes_at, store_path}
use Rattle.pie_incremental.specs.Starts.{AreNames, IsBase}
use Rattle.pie_clean_laws.specs.Basing.{IsBasedOn}
use Rattle.pie_clean_laws.proofs.Members.{among_ordered}
use Rattle.pie_clean_laws.proofs.Cleaning.{one_store}

-- ---- names that were kept

-- each path of a list in order is one of the list
all_ordered : (P : List ℕ → Type 0) (paths : List (List ℕ)) → All P paths → All P (in_order paths)
all_ordered P paths h =
    All-weaker (λ (p : List ℕ). Contains paths p) P (λ p i. All-contains P paths p h i) (in_order paths) (in_path_order paths).named

-- names that are read of the text that was kept are those that were kept, in order
module _ (kept names : List (List ℕ)) (paths : All IsName kept) (some : 0 < length kept) (is : IsPending names (kept_text (lines (in_order kept)))) where
  read_kept : names ≡ in_order kept
  read_kept = by (nat_lt 16777216 (length (lines (in_order kept)))) refl
    where
      by : (b : Bool) → nat_lt 16777216 (length (lines (in_order kept))) ≡ b → names ≡ in_order kept
      by true e =
          let none : kept_text (lines (in_order kept)) ≡ [] = ap (λ (c : Bool). cond c [] (lines (in_order kept))) e in
          absurd (no_names [] refl names (subst (IsPending names) none is))
      by false e =
          let all : kept_text (lines (in_order kept)) ≡ lines (in_order kept) = ap (λ (c : Bool). cond c [] (lines (in_order kept))) e in
          let few : length (lines (in_order kept)) ≤ 16777216 = ltb-false 16777216 (length (lines (in_order kept))) e in
          same_names names (in_order kept) (lines (in_order kept)) (subst (IsPending names) all is)
          (pending_is kept (lines (in_order kept)) (all_ordered IsName kept paths) refl some few)

-- the names that are pending where some were kept name what these do
pending_names : (kept : List (List ℕ)) (names : List (List ℕ)) (pending : Option (List ℕ)) → All IsName kept → pending ≡ kept_names kept → AreNames names pending
    → (p : Path) → among p kept ≡ true → among p names ≡ true
pending_names [] names pending paths e a p h = cc
pending_names (k ∷ kept) names pending paths e a p h =
    subst (λ ns. among p ns ≡ true)
    (sym (read_kept (k ∷ kept) names paths (omega arith) (subst (AreNames names) e a))) (among_ordered p (k ∷ kept) h)

-- ---- the base

module _ (e : Earlier) (d left : Directory) (list : List (List ℕ)) (b : Base) (goes : GoesOnFrom e list d) (is : IsBase d b) (paths : All IsName list)
    (kept : KeepsNames (in_order (list ++ b.names.items)) d (Some left)) where
  left_is : kept.left ≡ left
  left_is = some_same (sym kept.told)
    where
      some_same : {x y : Directory} → Some x ≡ Some y → x ≡ y
      some_same e = cc

  names_are : (ns : List (List ℕ)) (pending : Option (List ℕ)) → AreNames ns pending → All IsName ns
  names_are ns None a = subst (All IsName) (sym a) (All-nil IsName)
  names_are ns (Some bytes) a = a.paths

  all_names : All IsName (in_order (list ++ b.names.items))
  all_names =
      all_ordered IsName (list ++ b.names.items)
      (All-append IsName list b.names.items paths (names_are b.names.items (option_map (λ v. v.items) b.own.pending) is.named))

  -- nothing but the names and the marker changed
  same_store : bytes_at kept.left store_path ≡ bytes_at d store_path
  same_store = ap (option_map (λ f. f.0)) (kept.has.rest store_path refl refl)

  all_changes : NamesAllChanges e.left kept.left (in_order (list ++ b.names.items))
  all_changes =
      more_names e.left kept.left (in_order (list ++ b.names.items) ++ []) (in_order (list ++ b.names.items)) (λ p h. without p h)
      (names_join e.left d kept.left (in_order (list ++ b.names.items)) [] (goes.changes b is) (agreeing d kept.left (own_files_kept d kept.left kept.has.rest)))
    where
      without : (p : Path) → among p (in_order (list ++ b.names.items) ++ []) ≡ true → among p (in_order (list ++ b.names.items)) ≡ true
      without p h = subst (λ ns. among p ns ≡ true) (append-nil (in_order (list ++ b.names.items))) h

  on_left : IsBasedOn e kept.left
  on_left = record {
    stored = λ c at.
        let same : b.own.store.items ≡ c.own.store.items = some_bytes (sym is.readable.stored.text_is ∙ sym same_store ∙ at.readable.stored.text_is) in
        subst (IsStoreOfEarlier e) (one_store b.image c.image b.own.store.items c.own.store.items is.readable.says at.readable.says same) (goes.stored b is);
    pending = λ c at.
        more_names e.left kept.left (in_order (list ++ b.names.items)) c.names.items
        (pending_names (in_order (list ++ b.names.items)) c.names.items (option_map (λ v. v.items) c.own.pending) all_names
        (sym at.pending ∙ kept.has.names) at.named) all_changes;
  }
    where
      some_bytes : {x y : List ℕ} → Some x ≡ Some y → x ≡ y
      some_bytes e = cc

  pub refused_base : IsBasedOn e left
  refused_base = subst (IsBasedOn e) left_is on_left
