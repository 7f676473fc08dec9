-- When what is known is true of a directory.
use Rattle.std.specs.Prelude.{◌≡◌, ℕ, Bool, false, List, Option, Some, None}
use Rattle.pie_files.specs.Directory.{Directory}
use Rattle.pie_value.specs.declared.stamp.Stamp.{Stamp}
use Rattle.pie_record.specs.declared.dep.DepKind.{DepKind}
use Rattle.pie_record.specs.declared.dep.DepKind.TheVariants as kinds
use Rattle.pie_named.specs.declared.stamps.FileStamp.{FileStamp}
use Rattle.pie_named.specs.declared.stamps.Stamps.{Stamps}
use Rattle.pie_named.specs.declared.named.Named.{Named}
use Rattle.pie_named.specs.inner.Stamped.{stamp_in, differs_from}
use Rattle.pie_named.specs.inner.Stamps.{stamp_at}

-- each stamp is that of an observation of this kind
abbrev pub AreOf : Directory → DepKind → Stamps → Type 0
AreOf d kind s = (p : List ℕ) (stamp : Option FileStamp) → stamp_at s p ≡ Some stamp → stamp ≡ stamp_in d kind p

-- what is known is true of a directory
pub record IsTrueOf (d : Directory) (n : Named) : Type 0 where
  pub there : AreOf d kinds.Exists n.there
  pub hashes : AreOf d kinds.ReadHash n.hashes
  pub marks : AreOf d kinds.ReadMark n.marks
  pub lists : AreOf d kinds.List n.lists

-- this is the stamp now
abbrev pub IsNow : Option Directory → DepKind → List ℕ → Option FileStamp → Type 0
IsNow held kind path stamp = (d : Directory) → held ≡ Some d → stamp ≡ stamp_in d kind path

-- what is known stays true, and this is the stamp at a path
pub record Learned (d : Directory) (new : Named) (kind : DepKind) (path : List ℕ) (stamp : Option FileStamp) : Type 0 where
  pub known : IsTrueOf d new
  pub is : stamp ≡ stamp_in d kind path

abbrev pub Learns : Option Directory → Named → Named → DepKind → List ℕ → Option FileStamp → Type 0
Learns held old new kind path stamp = (d : Directory) → held ≡ Some d → IsTrueOf d old → Learned d new kind path stamp

-- what is known stays true, and the answer is whether a recorded stamp isn't the one of now
pub record Compared (d : Directory) (new : Named) (kind : DepKind) (path : List ℕ) (recorded : Stamp) (differs : Bool) : Type 0 where
  pub known : IsTrueOf d new
  pub is : differs ≡ differs_from (stamp_in d kind path) recorded

abbrev pub Compares : Option Directory → Named → Named → DepKind → List ℕ → Stamp → Bool → Type 0
Compares held old new kind path recorded differs = (d : Directory) → held ≡ Some d → IsTrueOf d old → Compared d new kind path recorded differs

-- the stamp that is known for observations of a kind
abbrev pub known_stamp : Named → DepKind → List ℕ → Option (Option FileStamp)
known_stamp n kinds.Exists p = stamp_at n.there p
known_stamp n kinds.ReadMark p = stamp_at n.marks p
known_stamp n kinds.List p = stamp_at n.lists p
known_stamp n kind p = stamp_at n.hashes p

-- a known stamp isn't the recorded one
abbrev pub known_differs : Option (Option FileStamp) → Stamp → Bool
known_differs None recorded = false
known_differs (Some now) recorded = differs_from now recorded

-- what is known of files stays known
abbrev pub StaysKnown : Named → Named → Type 0
StaysKnown old new =
    (kind : DepKind) (p : List ℕ) (stamp : Option FileStamp) → known_stamp old kind p ≡ Some stamp → known_stamp new kind p ≡ Some stamp

-- what is known stays known, and at a path this is
pub record Asked (old new : Named) (kind : DepKind) (path : List ℕ) (stamp : Option FileStamp) : Type 0 where
  pub stays : StaysKnown old new
  pub known : known_stamp new kind path ≡ Some stamp

-- what is known stays known, and says whether a recorded stamp isn't the one of now
pub record Tells (old new : Named) (kind : DepKind) (path : List ℕ) (recorded : Stamp) (differs : Bool) : Type 0 where
  pub stays : StaysKnown old new
  pub is : differs ≡ known_differs (known_stamp new kind path) recorded
