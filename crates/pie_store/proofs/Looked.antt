-- Which files a call looked at.
use Rattle.std.proofs.Common.{◌≡◌, ℕ, List, [], ◌∷◌, sym, ap, ◌∙◌, subst, refl, arith, append-nil, inl, inr}
use Rattle.std.proofs.lemmas.List.Elements.{All-nil, All-cons}
use Rattle.std.specs.Prelude.{Option, None, Some, Result, Ok, Err}
use Rattle.pie_files.specs.declared.files.Call.{Call}
use Rattle.pie_files.specs.declared.files.Call.TheVariants.{Read}
use Rattle.pie_files.specs.declared.files.FilesError.{FilesError}
use Rattle.pie_files.specs.declared.files.FilesError.TheVariants.{Failed, OutOfMemory}
use Rattle.pie_files.specs.Calls.{Notes, NotesUnlessMemory}
use Rattle.pie_store.specs.inner.Offers.{IsLookAt, LooksAtOnly}

-- no call came
pub none_looked : (paths : List (List ℕ)) (before after : Option (List Call)) → after ≡ before → LooksAtOnly paths before after
none_looked paths None after is = tt
none_looked paths (Some calls) after is = ([], is ∙ ap Some (sym (append-nil calls)), All-nil (IsLookAt paths))

-- one look came
noted_looked : (path : List ℕ) (before after : Option (List Call)) → Notes (λ c. c ≡ Read path) before after → LooksAtOnly (path ∷ []) before after
noted_looked path None after h = tt
noted_looked path (Some calls) after h =
    let looks = IsLookAt (path ∷ []) in
    (h.0 ∷ [], h.2, All-cons looks h.0 [] (subst looks (sym h.1) (0, omega arith, refl)) (All-nil looks))

-- a look at a file, whatever it answered
pub read_looked : {T : Type 0} (path : List ℕ) (result : Result T FilesError) (before after : Option (List Call))
    → NotesUnlessMemory result (λ c. c ≡ Read path) before after → LooksAtOnly (path ∷ []) before after
read_looked path (Ok value) before after h = noted_looked path before after h
read_looked path (Err Failed) before after h = noted_looked path before after h
read_looked path (Err OutOfMemory) before after (inl same) = none_looked (path ∷ []) before after same
read_looked path (Err OutOfMemory) before after (inr h) = noted_looked path before after h
