-- What a build without a list begins from.
use Rattle.std.proofs.Common.{◌≡◌, ℕ, Bool, true, false, List, Option, Some, None, Vec, Global, refl, sym, ap, subst, ◌∙◌}
use Rattle.std.proofs.lemmas.Bool.{false≢true}
use Rattle.std.specs.Prelude.{IfSome, is_some}
use Rattle.std.specs.Option.{option_map}
use Rattle.pie_files.specs.Directory.{Directory, file_at}
use Rattle.pie_files.specs.declared.files.Found.{Found}
use Rattle.pie_files.proofs.Reading.{if_each, if_two}
use Rattle.pie_store.specs.Texts.{IsStoreText}
use Rattle.pie_store.specs.declared.cause.Cause.{Cause}
use Rattle.pie_store.specs.declared.cause.Cause.TheVariants as causes
use Rattle.pie_incremental.specs.Own.{bytes_at, open_path, store_path, IsClosed}
use Rattle.pie_incremental.specs.Starts.{HasStore, IsReadable}
use Rattle.pie_topdown_build.specs.declared.base.Base.{Base}
use Rattle.pie_topdown_build.specs.declared.base.Start.{Start}
use Rattle.pie_topdown_build.specs.declared.base.Start.TheVariants.{Afresh, From}
use Rattle.pie_topdown_build.specs.Clean.{CanBegin, IsStoreCause}
use Rattle.pie_topdown_build.specs.inner.Bases.{FailsOnly, HasBase, IsFaultOf, IsReadFrom, IsTextOf, StartsAt, StartsBy, StartsOnly}

-- these bytes are the store, and they are none
damaged : (d : Directory) (text : Vec ℕ Global) (c : Cause) → HasStore d text.items → IsFaultOf text c → IsStoreCause d c
damaged d text causes.Interrupted has is = absurd is
damaged d text causes.NoStore has is = absurd is
damaged d text (causes.Damaged fault) has is = (text.items, has, is)
damaged d text causes.BadPending has is = absurd is
damaged d text (causes.UnionCycle tasks) has is = absurd is
damaged d text (causes.UnionMany old entered task) has is = absurd is

-- these bytes are the store, and they say this
based : (d : Directory) (text : Vec ℕ Global) (b : Base) → HasStore d text.items → IsTextOf text b → HasBase d b
based d text b has is =
    let readable : IsReadable d b.image text.items = record { stored = has; says = is.says; writable = is.writable } in
    subst (IsReadFrom d b.image) (sym is.store) readable

starts : (d : Directory) (text : Vec ℕ Global) (s : Start) → HasStore d text.items → StartsBy text s → StartsAt d s
starts d text (Afresh c) has is = damaged d text c has is
starts d text (From b) has is = based d text b.value has is

-- these bytes are the store; where they are none, no store can be read
fails : (d : Directory) (text : Vec ℕ Global) (s : Start) → bytes_at d store_path ≡ Some text.items → FailsOnly text s → StartsOnly d s
fails d text (Afresh c) file only = λ can.
    only can.image (subst (IsStoreText can.image) (one_text can.text text.items (bytes_at d store_path) can.readable.stored.text_is file) can.readable.says)
  where
    one_text : (a b : List ℕ) (o : Option (List ℕ)) → o ≡ Some a → o ≡ Some b → a ≡ b
    one_text a b o first second = cc
fails d text (From b) file only = tt

-- where a marker was found, no build can begin
pub interrupted_only : (held : Option Directory) (marker : List ℕ) (there : Bool) → marker ≡ open_path → there ≡ true
    → IfSome held (λ d. there ≡ is_some (file_at d marker)) → IfSome held (λ d. CanBegin d → ⊥)
interrupted_only held marker there at stands looked =
    if_each (λ d. there ≡ is_some (file_at d marker)) (λ d. CanBegin d → ⊥) held
    (λ d found can. by (file_at d open_path) (sym (found ∙ ap (λ p. is_some (file_at d p)) at) ∙ stands) can.readable.stored.closed) looked
  where
    by : (o : Option (List ℕ × ℕ)) → is_some o ≡ true → option_map (λ (f : List ℕ × ℕ). f.0) o ≡ None → ⊥
    by None e closed = false≢true e
    by (Some f) e closed = let never : ⊥ = cc in never

-- where no marker was found, none stands
closed : (d : Directory) (marker : List ℕ) (there : Bool) → marker ≡ open_path → there ≡ false → there ≡ is_some (file_at d marker) → IsClosed d
closed d marker there at none found = by (file_at d open_path) (sym (found ∙ ap (λ p. is_some (file_at d p)) at) ∙ none)
  where
    by : (o : Option (List ℕ × ℕ)) → is_some o ≡ false → option_map (λ (f : List ℕ × ℕ). f.0) o ≡ None
    by None e = refl
    by (Some f) e = absurd (false≢true (sym e))

-- the bytes of the store
bytes : (d : Directory) (path : List ℕ) (o : Option Found) → path ≡ store_path → option_map (λ f. (f.bytes.items, f.mark)) o ≡ file_at d path
    → bytes_at d store_path ≡ option_map (λ f. f.bytes.items) o
bytes d path o at found = ap (bytes_at d) (sym at) ∙ ap (option_map (λ (f : List ℕ × ℕ). f.0)) (sym found) ∙ by o
  where
    by : (x : Option Found) → option_map (λ (f : List ℕ × ℕ). f.0) (option_map (λ (f : Found). (f.bytes.items, f.mark)) x) ≡ option_map (λ f. f.bytes.items) x
    by None = refl
    by (Some f) = refl

module _ (held mid : Option Directory) (marker path : List ℕ) (there : Bool) (o : Option Found) (at : marker ≡ open_path) (none : there ≡ false)
    (looked : IfSome held (λ d. there ≡ is_some (file_at d marker))) (same : mid ≡ held) (place : path ≡ store_path)
    (read : IfSome mid (λ d. option_map (λ f. (f.bytes.items, f.mark)) o ≡ file_at d path)) where
  each : (B : Directory → Type 0) → ((d : Directory) → IsClosed d → bytes_at d store_path ≡ option_map (λ f. f.bytes.items) o → B d) → IfSome held B
  each B f =
      if_two (λ d. there ≡ is_some (file_at d marker)) (λ d. option_map (λ f. (f.bytes.items, f.mark)) o ≡ file_at d path) B held
      (λ d a b. f d (closed d marker there at none a) (bytes d path o place b)) looked
      (subst (λ x. IfSome x (λ d. option_map (λ f. (f.bytes.items, f.mark)) o ≡ file_at d path)) same read)

  -- the store that was found, where no marker stands
  pub stored_starts : (found : Found) (s : Start) → o ≡ Some found → StartsBy found.bytes s → IfSome held (λ d. StartsAt d s)
  stored_starts found s is by =
      each (λ d. StartsAt d s)
      (λ d no file. starts d found.bytes s (record { closed = no; text_is = file ∙ ap (option_map (λ (f : Found). f.bytes.items)) is }) by)

  -- there is none
  pub none_starts : o ≡ None → IfSome held (λ d. StartsAt d (Afresh causes.NoStore))
  none_starts is = each (λ d. StartsAt d (Afresh causes.NoStore)) (λ d no file. (no, file ∙ ap (option_map (λ (f : Found). f.bytes.items)) is))

  pub stored_only : (found : Found) (s : Start) → o ≡ Some found → FailsOnly found.bytes s → IfSome held (λ d. StartsOnly d s)
  stored_only found s is only =
      each (λ d. StartsOnly d s) (λ d no file. fails d found.bytes s (file ∙ ap (option_map (λ (f : Found). f.bytes.items)) is) only)

  pub none_only : o ≡ None → IfSome held (λ d. CanBegin d → ⊥)
  none_only is =
      each (λ d. CanBegin d → ⊥)
      (λ d no file can. never can.text (bytes_at d store_path) can.readable.stored.text_is (file ∙ ap (option_map (λ (f : Found). f.bytes.items)) is))
    where
      never : (a : List ℕ) (o : Option (List ℕ)) → o ≡ Some a → o ≡ None → ⊥
      never a o some none = let no_such : ⊥ = cc in no_such
