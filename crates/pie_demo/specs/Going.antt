-- Rounds that go on from the build before, and answer yes.
use Rattle.std.specs.Prelude.{◌≡◌, ℕ, Bool, true, false, List, [], ◌∷◌, codes, None}
use Rattle.pie_base.specs.Path.{is_below}
use Rattle.pie_clean_laws.specs.Left.{IsAccepted, IsLeftOf}
use Rattle.pie_files.specs.Directory.{Directory}
use Rattle.pie_incremental.specs.Earlier.{Earlier}
use Rattle.pie_incremental.specs.Kept.{is_builders}
use Rattle.pie_incremental.specs.Own.{bytes_at}
use Rattle.pie_clean_laws.specs.Basing.{IsApart, IsBaseOfNext}

-- below `.pie` there are no files but the builder's own
abbrev pub HasOwnAlone : Directory → Type 0
HasOwnAlone d = (q : List ℕ) → is_below (codes ".pie") q ≡ true → is_builders q ≡ false → bytes_at d q ≡ None

-- a round answered yes: it left what the clean build leaves, byte for byte, and the next build can be based on its own
pub record IsEqualRound (changed after : Directory) (same : Bool) : Type 0 where
  pub told : same ≡ true
  pub left : IsLeftOf changed after
  pub base : IsBaseOfNext changed after
  pub own : HasOwnAlone after

-- a build of a demo: the directory that it found, and the one that it left
pub record Turn : Type 0 where
  pub now : Directory
  pub left : Directory

-- the last of these builds, which stand with the newest first, or the one before them
abbrev pub latest : Turn → List Turn → Turn
latest first [] = first
latest first (t ∷ turns) = t

-- the model accepts what a build found, and no two different byte strings that it and the build before meet have one hash, nor has a source one mark and
-- two contents
pub record IsApartTurn (before t : Turn) : Type 0 where
  pub accepted : IsAccepted t.now
  pub apart : (e : Earlier) → e.built ≡ before.now → e.left ≡ before.left → IsApart e t.now

-- the model accepts what the first build found, and each later build, of which the newest stands first, is so apart from the one before it
abbrev pub AreApart : Turn → List Turn → Type 0
AreApart first [] = IsAccepted first.now
AreApart first (t ∷ turns) = IsApartTurn (latest first turns) t × AreApart first turns
