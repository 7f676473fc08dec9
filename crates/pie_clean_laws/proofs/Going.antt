-- A directory goes on from its base after an edit.
use Rattle.std.proofs.Common.{ℕ, ◌≡◌, ◌⊎◌, inl, inr, true, List, ◌++◌, refl, sym, ◌∙◌}
use Rattle.pie_files.specs.Directory.{Directory}
use Rattle.pie_model.specs.Paths.{Path, among}
use Rattle.pie_model.specs.Changes.{NamesAllChanges}
use Rattle.pie_model.proofs.Basics.{among_left, among_right, among_either}
use Rattle.pie_earlier_laws.proofs.Leaving.{names_join, more_names}
use Rattle.pie_store.specs.Pending.{in_order}
use Rattle.pie_incremental.specs.declared.base.Base.{Base}
use Rattle.pie_incremental.specs.Earlier.{Earlier, GoesOnFrom}
use Rattle.pie_incremental.specs.Kept.{is_builders}
use Rattle.pie_incremental.specs.Own.{bytes_at, open_path, pending_path, store_path}
use Rattle.pie_incremental.specs.Starts.{IsBase}
use Rattle.pie_clean_laws.specs.Basing.{IsApart, IsBasedOn, IsEdit}
use Rattle.pie_clean_laws.proofs.Members.{among_ordered}

-- what is read of the builder's own files is read of others that have the same
pub same_base : (left now : Directory) (b : Base) → ((q : List ℕ) → is_builders q ≡ true → bytes_at now q ≡ bytes_at left q) → IsBase now b → IsBase left b
same_base left now b same is = record {
  readable = record {
    stored = record {
      closed = sym (same open_path refl) ∙ is.readable.stored.closed;
      text_is = sym (same store_path refl) ∙ is.readable.stored.text_is;
    };
    says = is.readable.says;
    writable = is.readable.writable;
  };
  pending = sym (same pending_path refl) ∙ is.pending;
  named = is.named;
}

-- names of the changes up to a directory, and of those after it, name all of them, in whatever order
pub names_with : (before between now : Directory) (first list : List Path) → NamesAllChanges before between first → NamesAllChanges between now list
    → NamesAllChanges before now (in_order (list ++ first))
names_with before between now first list one two =
    more_names before now (first ++ list) (in_order (list ++ first)) (λ p h. among_ordered p (list ++ first) (other p (among_either p first list h)))
    (names_join before between now first list one two)
  where
    other : (p : Path) → (among p first ≡ true) ⊎ (among p list ≡ true) → among p (list ++ first) ≡ true
    other p (inl h) = among_right p list first h
    other p (inr h) = among_left p list first h

pub edits_go_on : (e : Earlier) (left now : Directory) (list : List (List ℕ)) → IsBasedOn e left → IsEdit left now list → IsApart e now
    → GoesOnFrom e list now
edits_go_on e left now list based edit apart = record {
  stored = λ b is. based.stored b (same_base left now b edit.own is);
  changes = λ b is. names_with e.left left now b.names.items list (based.pending b (same_base left now b edit.own is)) edit.named;
  strings = apart.strings;
  out = apart.out;
  earlier = apart.earlier;
  now = apart.now;
}
