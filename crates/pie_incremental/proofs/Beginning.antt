-- What the marker and the store say of how a build begins.
use Rattle.std.proofs.Common.{◌≡◌, ℕ, Bool, false, List, Option, Some, None, refl, sym, ap, subst, ◌∙◌}
use Rattle.std.proofs.lemmas.Bool.{false≢true}
use Rattle.std.specs.Prelude.{IfSome, is_some}
use Rattle.std.specs.Option.{option_map}
use Rattle.pie_files.specs.Directory.{Directory, file_at}
use Rattle.pie_files.specs.declared.files.Found.{Found}
use Rattle.pie_files.proofs.Reading.{if_two}
use Rattle.pie_store.specs.declared.cause.Cause.TheVariants as causes
use Rattle.pie_incremental.specs.Own.{bytes_at, open_path, store_path, IsClosed}
use Rattle.pie_incremental.specs.Starts.{HasStore, IsCause}

-- where no marker was found, none stands
closed : (d : Directory) (marker : List ℕ) (there : Bool) → marker ≡ open_path → there ≡ false → there ≡ is_some (file_at d marker) → IsClosed d
closed d marker there at none found = by (file_at d open_path) (sym (found ∙ ap (λ p. is_some (file_at d p)) at) ∙ none)
  where
    by : (o : Option (List ℕ × ℕ)) → is_some o ≡ false → option_map (λ (f : List ℕ × ℕ). f.0) o ≡ None
    by None e = refl
    by (Some f) e = absurd (false≢true (sym e))

-- the bytes of the store
bytes : (d : Directory) (path : List ℕ) (o : Option Found) → path ≡ store_path → option_map (λ f. (f.bytes.items, f.mark)) o ≡ file_at d path
    → bytes_at d store_path ≡ option_map (λ f. f.bytes.items) o
bytes d path o at found = ap (bytes_at d) (sym at) ∙ ap (option_map (λ (f : List ℕ × ℕ). f.0)) (sym found) ∙ by o
  where
    by : (x : Option Found) → option_map (λ (f : List ℕ × ℕ). f.0) (option_map (λ (f : Found). (f.bytes.items, f.mark)) x) ≡ option_map (λ f. f.bytes.items) x
    by None = refl
    by (Some f) = refl

module _ (held mid : Option Directory) (marker path : List ℕ) (there : Bool) (o : Option Found) (at : marker ≡ open_path) (none : there ≡ false)
    (looked : IfSome held (λ d. there ≡ is_some (file_at d marker))) (same : mid ≡ held) (place : path ≡ store_path)
    (read : IfSome mid (λ d. option_map (λ f. (f.bytes.items, f.mark)) o ≡ file_at d path)) where
  each : (B : Directory → Type 0) → ((d : Directory) → IsClosed d → bytes_at d store_path ≡ option_map (λ f. f.bytes.items) o → B d) → IfSome held B
  each B f =
      if_two (λ d. there ≡ is_some (file_at d marker)) (λ d. option_map (λ f. (f.bytes.items, f.mark)) o ≡ file_at d path) B held
      (λ d a b. f d (closed d marker there at none a) (bytes d path o place b)) looked
      (subst (λ x. IfSome x (λ d. option_map (λ f. (f.bytes.items, f.mark)) o ≡ file_at d path)) same read)

  -- the store that was found, where no marker stands
  pub has_store : (found : Found) → o ≡ Some found → IfSome held (λ d. HasStore d found.bytes.items)
  has_store found is =
      each (λ d. HasStore d found.bytes.items) (λ d no file. record { closed = no; text_is = file ∙ ap (option_map (λ (f : Found). f.bytes.items)) is })

  -- there is none
  pub no_store : o ≡ None → IfSome held (λ d. IsCause d causes.NoStore)
  no_store is = each (λ d. IsCause d causes.NoStore) (λ d no file. (no, file ∙ ap (option_map (λ (f : Found). f.bytes.items)) is))
