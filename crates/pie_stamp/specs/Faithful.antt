-- Why observations of one kind that are separate and have one stamp have one answer: the laws of the stampers.
use Rattle.std.proofs.Common.{◌≡◌, ℕ, List, [], refl, sym, ap, subst, ◌∙◌}
use Rattle.std.specs.Prelude.{None, Some, false, true}
use Rattle.pie_value.specs.declared.stamp.Stamp.{Stamp}
use Rattle.pie_value.specs.declared.stamp.Stamp.TheVariants.{Absent, Present, Hash, Mark, Whole, Done}
use Rattle.pie_value.specs.Tree.{Tree, TUnit, TBool, TInt, TText, TPath, TList, TTuple, TNull, TBytes, items_of, list_of}
use Rattle.pie_value.specs.Values.{tree_of}
use Rattle.pie_value.specs.Canonical.{IsCanonical}
use Rattle.pie_value.proofs.Decoded.{whole_again}
use Rattle.pie_value.proofs.Taking.{same_value}
use Rattle.pie_value.proofs.Elements.{list_of_items}
use Rattle.sha2.specs.Sha256.{sha256}
use Rattle.pie_stamp.specs.declared.observed.Observed.{Observed}
use Rattle.pie_stamp.specs.declared.observed.Observed.TheVariants.{File, Entries, Output}
use Rattle.pie_stamp.specs.Observations.{OfOneKind, Separate, SeparateByMark}
use Rattle.pie_stamp.specs.Observations.{Answered, Presence, Contents, Listing, Given, Success, told_by, presence_by, success_by}
use Rattle.pie_stamp.specs.Stamps.{StampsPresence, StampsHash, StampsMark, StampsWhole, StampsDone}

-- what a stamp of presence or of the whole tells by itself
abbrev tells : Stamp → Answered
tells Absent = Presence false
tells Present = Presence true
tells (Hash hash) = Success
tells (Mark mark) = Success
tells (Whole value) = Given (tree_of value)
tells Done = Success

-- the hash in a stamp
abbrev hash_in : Stamp → List ℕ
hash_in Absent = []
hash_in Present = []
hash_in (Hash hash) = hash
hash_in (Mark mark) = []
hash_in (Whole value) = []
hash_in Done = []

-- the mark in a stamp
abbrev mark_in : Stamp → ℕ
mark_in Absent = 0
mark_in Present = 0
mark_in (Hash hash) = 0
mark_in (Mark mark) = mark
mark_in (Whole value) = 0
mark_in Done = 0

-- the stamp says that nothing was there
abbrev SaysAbsent : Stamp → Type 0
SaysAbsent Absent = Unit {0}
SaysAbsent Present = ⊥
SaysAbsent (Hash hash) = ⊥
SaysAbsent (Mark mark) = ⊥
SaysAbsent (Whole value) = ⊥
SaysAbsent Done = ⊥

-- the items of a list
abbrev items_in : Tree → List Tree
items_in TUnit = []
items_in (TBool b) = []
items_in (TInt n) = []
items_in (TText bs) = []
items_in (TPath bs) = []
items_in (TList ts) = list_of ts
items_in (TTuple ts) = []
items_in TNull = []
items_in (TBytes bs) = []

-- no stamp says both that nothing was there and something else
absent_is : (p q : Stamp) → p ≡ Absent → p ≡ q → SaysAbsent q
absent_is p q e f = subst SaysAbsent (sym e ∙ f) tt

-- canonical bytes are those of one value
same_tree : (t u : Tree) (x y : List ℕ) → IsCanonical t x → IsCanonical u y → x ≡ y → t ≡ u
same_tree t u x y p q e = same_value t u [] [] (sym (whole_again t x p) ∙ whole_again u x (subst (IsCanonical u) (sym e) q))

pub presence_is_faithful : (a b : Observed) (s : Stamp) → OfOneKind a b → Separate a b → StampsPresence a s → StampsPresence b s
    → presence_by a ≡ presence_by b
presence_is_faithful (File None) (File None) s kind separate p q = refl
presence_is_faithful (File None) (File (Some g)) s kind separate p q = absurd (absent_is s Present p q)
presence_is_faithful (File (Some f)) (File None) s kind separate p q = absurd (absent_is s Present q p)
presence_is_faithful (File (Some f)) (File (Some g)) s kind separate p q = refl
presence_is_faithful (File f) (Entries fs) s kind separate p q = elim kind [ ]
presence_is_faithful (File f) (Output w) s kind separate p q = elim kind [ ]
presence_is_faithful (Entries es) b s kind separate p q = elim p [ ]
presence_is_faithful (Output v) b s kind separate p q = elim p [ ]

pub hash_is_faithful : (a b : Observed) (s : Stamp) → OfOneKind a b → Separate a b → StampsHash a s → StampsHash b s → told_by a ≡ told_by b
hash_is_faithful (File None) (File None) s kind separate p q = refl
hash_is_faithful (File None) (File (Some g)) s kind separate p q = absurd (absent_is s (Hash (sha256 q.0)) p q.2)
hash_is_faithful (File (Some f)) (File None) s kind separate p q = absurd (absent_is s (Hash (sha256 p.0)) q p.2)
hash_is_faithful (File (Some f)) (File (Some g)) s kind separate p q =
    ap (λ bs. Contents (Some bs)) (sym p.1 ∙ separate p.0 q.0 p.1 q.1 (ap hash_in (sym p.2 ∙ q.2)) ∙ q.1)
hash_is_faithful (Entries es) (Entries fs) s kind separate p q =
    ap Listing (sym (list_of_items es)
    ∙ ap items_in (same_tree (TList (items_of es)) (TList (items_of fs)) p.0 q.0 p.1 q.1 (separate p.0 q.0 p.1 q.1 (ap hash_in (sym p.2 ∙ q.2))))
    ∙ list_of_items fs)
hash_is_faithful (Output v) (Output w) s kind separate p q =
    ap Given (same_tree (tree_of v) (tree_of w) p.0 q.0 p.1 q.1 (separate p.0 q.0 p.1 q.1 (ap hash_in (sym p.2 ∙ q.2))))
hash_is_faithful (File f) (Entries fs) s kind separate p q = elim kind [ ]
hash_is_faithful (File f) (Output w) s kind separate p q = elim kind [ ]
hash_is_faithful (Entries es) (File g) s kind separate p q = elim kind [ ]
hash_is_faithful (Entries es) (Output w) s kind separate p q = elim kind [ ]
hash_is_faithful (Output v) (File g) s kind separate p q = elim kind [ ]
hash_is_faithful (Output v) (Entries fs) s kind separate p q = elim kind [ ]

pub mark_is_faithful : (a b : Observed) (s : Stamp) → OfOneKind a b → SeparateByMark a b → StampsMark a s → StampsMark b s → told_by a ≡ told_by b
mark_is_faithful (File None) (File None) s kind separate p q = refl
mark_is_faithful (File None) (File (Some g)) s kind separate p q = absurd (absent_is s (Mark g.mark) p q)
mark_is_faithful (File (Some f)) (File None) s kind separate p q = absurd (absent_is s (Mark f.mark) q p)
mark_is_faithful (File (Some f)) (File (Some g)) s kind separate p q =
    ap (λ bs. Contents (Some bs)) (separate.1 f.bytes.items g.bytes.items f.mark refl refl refl (ap mark_in (sym p ∙ q)))
mark_is_faithful (File f) (Entries fs) s kind separate p q = elim kind [ ]
mark_is_faithful (File f) (Output w) s kind separate p q = elim kind [ ]
mark_is_faithful (Entries es) b s kind separate p q = elim p [ ]
mark_is_faithful (Output v) b s kind separate p q = elim p [ ]

pub whole_is_faithful : (a b : Observed) (s : Stamp) → OfOneKind a b → Separate a b → StampsWhole a s → StampsWhole b s → told_by a ≡ told_by b
whole_is_faithful (Output v) (Output w) s kind separate p q = ap tells (sym p ∙ q)
whole_is_faithful (File f) b s kind separate p q = elim p [ ]
whole_is_faithful (Entries es) b s kind separate p q = elim p [ ]
whole_is_faithful (Output v) (File g) s kind separate p q = elim kind [ ]
whole_is_faithful (Output v) (Entries fs) s kind separate p q = elim kind [ ]

pub done_is_faithful : (a b : Observed) (s : Stamp) → OfOneKind a b → Separate a b → StampsDone a s → StampsDone b s → success_by a ≡ success_by b
done_is_faithful a b s kind separate p q = refl
