-- What a build begins from, where the store can be read.
use Rattle.std.proofs.Common.{◌≡◌, ℕ, List, [], Option, Some, None, Vec, Global, sym, ap, subst, ◌∙◌, arith}
use Rattle.std.specs.Prelude.{IfSome}
use Rattle.std.specs.Option.{option_map}
use Rattle.pie_files.specs.Directory.{Directory, file_at}
use Rattle.pie_files.specs.declared.files.Within.{Within}
use Rattle.pie_files.specs.declared.files.Within.TheVariants.{Absent, Long, Whole}
use Rattle.pie_files.specs.declared.files.Found.{Found}
use Rattle.pie_files.specs.inner.Within.{IsWithin}
use Rattle.pie_files.proofs.Reading.{if_two}
use Rattle.pie_store.specs.declared.cause.Cause.TheVariants as causes
use Rattle.pie_store.specs.declared.image.StoreImage.{StoreImage}
use Rattle.pie_incremental.specs.declared.base.Start.{Start}
use Rattle.pie_incremental.specs.declared.base.Start.TheVariants.{Afresh, From}
use Rattle.pie_incremental.specs.Own.{pending_path}
use Rattle.pie_incremental.specs.Starts.{AreNames, IsCause, IsReadable, StartsFrom}
use Rattle.pie_incremental.specs.inner.Bases.{IsAfterPending, IsFrom}

long_cause : (d : Directory) (s : StoreImage) (text path : List ℕ) (w : Within) → path ≡ pending_path → w ≡ Long → IsReadable d s text
    → IsWithin 16777216 w (file_at d path) → IsCause d causes.BadPending
long_cause d s text path w at is readable within =
    let long : IsWithin 16777216 Long (file_at d pending_path) =
    subst (λ p. IsWithin 16777216 Long (file_at d p)) at (subst (λ v. IsWithin 16777216 v (file_at d path)) is within) in
    let file = long.0 in
    (s, text, readable, file.0, ap (option_map (λ f. f.0)) long.1, λ names named. omega (arith, named.few, long.2))

pub long_starts : (held : Option Directory) (s : StoreImage) (text path : List ℕ) (w : Within) → path ≡ pending_path → w ≡ Long
    → IfSome held (λ d. IsReadable d s text) → IfSome held (λ d. IsWithin 16777216 w (file_at d path)) → IfSome held (λ d. StartsFrom d (Afresh causes.BadPending))
long_starts held s text path w at is =
    if_two (λ d. IsReadable d s text) (λ d. IsWithin 16777216 w (file_at d path)) (λ d. StartsFrom d (Afresh causes.BadPending)) held
    (λ d readable within. long_cause d s text path w at is readable within)

whole_start : (d : Directory) (s : StoreImage) (text : Vec ℕ Global) (found : Found) → IsReadable d s text.items
    → file_at d pending_path ≡ Some (found.bytes.items, found.mark) → (start : Start) → IsAfterPending s text found.bytes start → StartsFrom d start
whole_start d s text found readable there (Afresh causes.BadPending) bad =
    (s, text.items, readable, found.bytes.items, ap (option_map (λ f. f.0)) there, bad)
whole_start d s text found readable there (Afresh causes.Interrupted) bad = absurd bad
whole_start d s text found readable there (Afresh causes.NoStore) bad = absurd bad
whole_start d s text found readable there (Afresh (causes.Damaged fault)) bad = absurd bad
whole_start d s text found readable there (Afresh (causes.UnionCycle tasks)) bad = absurd bad
whole_start d s text found readable there (Afresh (causes.UnionMany old entered task)) bad = absurd bad
whole_start d s text found readable there (From b) from =
    let base = from.0 in
    record {
      readable = subst (λ (t : Vec ℕ Global). IsReadable d b.value.image t.items) (sym base.store) (subst (λ i. IsReadable d i text.items) (sym base.image) readable);
      pending = ap (option_map (λ f. f.0)) there ∙ ap (option_map (λ (v : Vec ℕ Global). v.items)) (sym base.pending);
      named = subst (λ (o : Option (Vec ℕ Global)). AreNames b.value.names.items (option_map (λ v. v.items) o)) (sym base.pending) from.1;
    }

pub whole_starts : (held : Option Directory) (s : StoreImage) (text : Vec ℕ Global) (path : List ℕ) (w : Within) (found : Found) (start : Start)
    → path ≡ pending_path → w ≡ Whole found → IfSome held (λ d. IsReadable d s text.items)
    → IfSome held (λ d. IsWithin 16777216 w (file_at d path)) → IsAfterPending s text found.bytes start → IfSome held (λ d. StartsFrom d start)
whole_starts held s text path w found start at is readable within after =
    if_two (λ d. IsReadable d s text.items) (λ d. IsWithin 16777216 w (file_at d path)) (λ d. StartsFrom d start) held
    (λ d r i.
    let there : IsWithin 16777216 (Whole found) (file_at d pending_path) =
    subst (λ p. IsWithin 16777216 (Whole found) (file_at d p)) at (subst (λ v. IsWithin 16777216 v (file_at d path)) is i) in
    whole_start d s text found r there.0 start after) readable within

without_start : (d : Directory) (s : StoreImage) (paths : Vec (List ℕ) Global) (text : Vec ℕ Global) → IsReadable d s text.items → paths.items ≡ []
    → file_at d pending_path ≡ None → (start : Start) → IsFrom s paths text None start → StartsFrom d start
without_start d s paths text readable empty there (Afresh cause) from = absurd from
without_start d s paths text readable empty there (From b) is = record {
  readable = subst (λ (t : Vec ℕ Global). IsReadable d b.value.image t.items) (sym is.store) (subst (λ i. IsReadable d i text.items) (sym is.image) readable);
  pending = ap (option_map (λ f. f.0)) there ∙ ap (option_map (λ (v : Vec ℕ Global). v.items)) (sym is.pending);
  named = subst (λ (o : Option (Vec ℕ Global)). AreNames b.value.names.items (option_map (λ v. v.items) o)) (sym is.pending)
      (ap (λ (v : Vec (List ℕ) Global). v.items) is.names ∙ empty);
}

pub without_starts : (held : Option Directory) (s : StoreImage) (paths : Vec (List ℕ) Global) (text : Vec ℕ Global) (path : List ℕ) (w : Within) (start : Start)
    → path ≡ pending_path → w ≡ Absent → IfSome held (λ d. IsReadable d s text.items) → paths.items ≡ []
    → IfSome held (λ d. IsWithin 16777216 w (file_at d path)) → IsFrom s paths text None start → IfSome held (λ d. StartsFrom d start)
without_starts held s paths text path w start at is readable empty within from =
    if_two (λ d. IsReadable d s text.items) (λ d. IsWithin 16777216 w (file_at d path)) (λ d. StartsFrom d start) held
    (λ d r i.
    let there : IsWithin 16777216 Absent (file_at d pending_path) =
    subst (λ p. IsWithin 16777216 Absent (file_at d p)) at (subst (λ v. IsWithin 16777216 v (file_at d path)) is i) in
    without_start d s paths text r empty there start from) readable within
