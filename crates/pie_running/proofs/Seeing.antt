-- What a task sees, by the kind of the path.
use Rattle.std.proofs.Common.{◌≡◌, ℕ, Bool, true, false, cond, Option, Some, None, List, refl, sym, ap, subst, ◌∙◌}
use Rattle.std.specs.Prelude.{is_some, IfSome, ◌&&◌, not}
use Rattle.std.specs.Option.{option_map}
use Rattle.sha2.specs.Sha256.{sha256}
use Rattle.pie_base.specs.Path.{is_out, is_source}
use Rattle.pie_files.specs.Directory.{Directory, file_at, entries_of}
use Rattle.pie_files.specs.inner.Within.{IsWithin}
use Rattle.pie_files.specs.declared.files.Found.{Found}
use Rattle.pie_files.specs.declared.files.Within.TheVariants as within
use Rattle.pie_value.specs.declared.event.By.{By}
use Rattle.pie_value.specs.declared.event.By.TheVariants as stamped
use Rattle.pie_value.specs.declared.stamp.Stamp.{Stamp}
use Rattle.pie_value.specs.declared.stamp.Stamp.TheVariants as stamps
use Rattle.pie_builder_laws.specs.Looks.{reading_stamp, is_by_mark}
use Rattle.pie_model.proofs.Basics.{clash}
use Rattle.pie_running.specs.declared.looking.Sight.{Sight}
use Rattle.pie_running.specs.declared.looking.Sight.TheVariants.{File, Long, Clash as Clashes}
use Rattle.pie_running.specs.inner.Sights.{Sighted, found_in, hash_in, mark_stamp, most_content, IsLong, SightSays, Sees, SeesDigest, SeesPresence}
use Rattle.pie_running.specs.inner.Sights.{SeesHeldSource, StampsHeld, listing_in}
use Rattle.pie_running.specs.inner.Told.{hash_stamp}

-- a fact on the directory that is held
pub of_held : (held : Option Directory) (d : Directory) (P : Directory → Type 0) → held ≡ Some d → IfSome held P → P d
of_held held d P e h = subst (λ o. IfSome o P) e h

-- what is said of what is seen, by what more is said
pub sight_more : (by : By) (path : List ℕ) (sight : Sight) (P Q : Sighted → Type 0) → ((o : Sighted) → P o → Q o) → SightSays by path sight P
    → SightSays by path sight Q
sight_more by path (File found) P Q f h = f (Some (found_in found)) h
sight_more by path (Long stamp) P Q f h = (h.0, f (Some (Some h.0)) h.1, h.2)
sight_more by path Clashes P Q f h = f None h

-- a source that was looked for within the greatest length: it is absent, too long, or whole
pub absent_says : (held : Option Directory) (by : By) (path : List ℕ) → IfSome held (λ d. IsWithin most_content within.Absent (file_at d path))
    → SeesHeldSource held by path (File None)
absent_says held by path h d e = ap Some (sym (of_held held d (λ x. IsWithin most_content within.Absent (file_at x path)) e h))

pub whole_says : (held : Option Directory) (by : By) (path : List ℕ) (found : Found)
    → IfSome held (λ d. IsWithin most_content (within.Whole found) (file_at d path)) → SeesHeldSource held by path (File (Some found))
whole_says held by path found h d e =
    ap Some (sym (of_held held d (λ x. IsWithin most_content (within.Whole found) (file_at x path)) e h).0)

pub long_says : (held : Option Directory) (by : By) (path : List ℕ) (stamp : Stamp)
    → IfSome held (λ d. IsWithin most_content within.Long (file_at d path)) → StampsHeld held by path stamp → SeesHeldSource held by path (Long stamp)
long_says held by path stamp h stamped d e =
    let many = of_held held d (λ x. IsWithin most_content within.Long (file_at x path)) e h in
    (many.0, ap Some (sym many.1), record { long = many.2; stamp_is = stamped d e ∙ ap (reading_stamp by path) many.1 })

-- the stamp of a source, by its mark and by its hash
mark_read : (path : List ℕ) (file : Option (List ℕ × ℕ)) → is_out path ≡ false
    → mark_stamp (option_map (λ (f : List ℕ × ℕ). f.1) file) ≡ reading_stamp stamped.Mark path file
mark_read path None e = refl
mark_read path (Some f) e = sym (ap (λ b. cond (true && not b) (stamps.Mark f.1) (stamps.Hash (sha256 f.0))) e)

hash_read : (by : By) (path : List ℕ) (file : Option (List ℕ × ℕ)) → is_by_mark by ≡ false
    → hash_stamp (option_map (λ (f : List ℕ × ℕ). sha256 f.0) file) ≡ reading_stamp by path file
hash_read by path None e = refl
hash_read by path (Some f) e = sym (ap (λ b. cond (b && not (is_out path)) (stamps.Mark f.1) (stamps.Hash (sha256 f.0))) e)

pub marks_held : (held : Option Directory) (path : List ℕ) (mark : Option ℕ) → is_out path ≡ false
    → IfSome held (λ d. mark ≡ option_map (λ (f : List ℕ × ℕ). f.1) (file_at d path)) → StampsHeld held stamped.Mark path (mark_stamp mark)
marks_held held path mark e h d same =
    ap mark_stamp (of_held held d (λ x. mark ≡ option_map (λ (f : List ℕ × ℕ). f.1) (file_at x path)) same h) ∙ mark_read path (file_at d path) e

pub hashes_held : (held : Option Directory) (by : By) (path : List ℕ) (hash : Option (List ℕ)) → is_by_mark by ≡ false
    → IfSome held (λ d. hash ≡ option_map (λ (f : List ℕ × ℕ). sha256 f.0) (file_at d path)) → StampsHeld held by path (hash_stamp hash)
hashes_held held by path hash e h d same =
    ap hash_stamp (of_held held d (λ x. hash ≡ option_map (λ (f : List ℕ × ℕ). sha256 f.0) (file_at x path)) same h) ∙ hash_read by path (file_at d path) e

module _ (d : Directory) (path : List ℕ) (shown : Sighted → Type 0) where
  pub sees_out : (sight : Sighted) → is_out path ≡ true → shown sight → Sees d path shown sight
  sees_out sight e h = record {
    out = λ _. h;
    source = λ f _. clash (is_out path) e f;
    kept = λ f _. clash (is_out path) e f;
  }

  pub sees_source : (sight : Sighted) → is_out path ≡ false → is_source path ≡ true → sight ≡ Some (file_at d path) → Sees d path shown sight
  sees_source sight e f h = record {
    out = λ g. clash (is_out path) g e;
    source = λ _ _. h;
    kept = λ _ g. clash (is_source path) f g;
  }

  pub sees_kept : (sight : Sighted) → is_out path ≡ false → is_source path ≡ false → sight ≡ Some None → Sees d path shown sight
  sees_kept sight e f h = record {
    out = λ g. clash (is_out path) g e;
    source = λ _ g. clash (is_source path) g f;
    kept = λ _ _. h;
  }

  -- what a task sees that reads so, under `out/` and at a source path
  pub reading_out : (by : By) (sight : Sight) → is_out path ≡ true → SightSays by path sight shown → SightSays by path sight (Sees d path shown)
  reading_out by sight e h = sight_more by path sight shown (Sees d path shown) (λ o. sees_out o e) h

  pub reading_source : (by : By) (sight : Sight) → is_out path ≡ false → is_source path ≡ true → SightSays by path sight (λ o. o ≡ Some (file_at d path))
      → SightSays by path sight (Sees d path shown)
  reading_source by sight e f h = sight_more by path sight (λ o. o ≡ Some (file_at d path)) (Sees d path shown) (λ o. sees_source o e f) h

  pub reading_kept : (by : By) → is_out path ≡ false → is_source path ≡ false → SightSays by path (File None) (Sees d path shown)
  reading_kept by e f = sees_kept (Some None) e f refl

  -- whether a file is there
  pub presence_out : (sight : Sighted) (presence : Option Bool) → is_out path ≡ true → shown sight → presence ≡ option_map is_some sight
      → SeesPresence d path shown presence
  presence_out sight presence e h is = record { sight = sight; sees = sees_out sight e h; is = is }

  pub presence_kept : is_out path ≡ false → is_source path ≡ false → SeesPresence d path shown (Some false)
  presence_kept e f = record { sight = Some None; sees = sees_kept (Some None) e f refl; is = refl }

  pub presence_found : (held : Option Directory) (there : Bool) → is_out path ≡ false → is_source path ≡ true → held ≡ Some d
      → IfSome held (λ e. there ≡ is_some (file_at e path)) → SeesPresence d path shown (Some there)
  presence_found held there e f same read = record {
    sight = Some (file_at d path);
    sees = sees_source (Some (file_at d path)) e f refl;
    is = ap Some (of_held held d (λ x. there ≡ is_some (file_at x path)) same read);
  }

  -- the hash
  pub digest_out : (sight : Sighted) (hash : Option (Option (List ℕ))) → is_out path ≡ true → shown sight → hash ≡ option_map hash_in sight
      → SeesDigest d path shown hash
  digest_out sight hash e h is = record { sight = sight; sees = sees_out sight e h; is = is }

  pub digest_kept : is_out path ≡ false → is_source path ≡ false → SeesDigest d path shown (Some None)
  digest_kept e f = record { sight = Some None; sees = sees_kept (Some None) e f refl; is = refl }

  pub digest_found : (held : Option Directory) (hash : Option (List ℕ)) → is_out path ≡ false → is_source path ≡ true → held ≡ Some d
      → IfSome held (λ e. hash ≡ hash_in (file_at e path)) → SeesDigest d path shown (Some hash)
  digest_found held hash e f same read = record {
    sight = Some (file_at d path);
    sees = sees_source (Some (file_at d path)) e f refl;
    is = ap Some (of_held held d (λ x. hash ≡ hash_in (file_at x path)) same read);
  }

pub lists_source : (d : Directory) (dir : List ℕ) → is_source dir ≡ true → Some (entries_of d dir) ≡ listing_in d dir
lists_source d dir e = ap (λ b. cond b (Some (entries_of d dir)) None) (sym e)

pub lists_other : (d : Directory) (dir : List ℕ) → is_source dir ≡ false → None ≡ listing_in d dir
lists_other d dir e = ap (λ b. cond b (Some (entries_of d dir)) None) (sym e)
