-- What is known, with one stamp more.
use Rattle.std.proofs.Common.{◌≡◌, ℕ, Bool, true, false, cond, List, Option, Some, None, ap, sym, refl, ◌∙◌}
use Rattle.std.specs.Ordering.{nat_cmp, is_eq}
use Rattle.std.specs.Cmp.Lexicographic.{slice_cmp}
use Rattle.std.proofs.lemmas.Map.Lookups.{exact_bytes}
use Rattle.std.proofs.lemmas.Map.Views.{tells_apart}
use Rattle.pie_files.specs.Directory.{Directory}
use Rattle.pie_record.specs.declared.dep.DepKind.{DepKind}
use Rattle.pie_record.specs.declared.dep.DepKind.TheVariants as kinds
use Rattle.pie_named.specs.declared.stamps.FileStamp.{FileStamp}
use Rattle.pie_named.specs.declared.stamps.Stamps.{Stamps}
use Rattle.pie_named.specs.declared.named.Named.{Named}
use Rattle.pie_named.specs.inner.Stamped.{stamp_in}
use Rattle.pie_named.specs.inner.Stamps.{stamp_at, Puts}
use Rattle.pie_named.specs.inner.Known.{AreOf, IsTrueOf, Learned}

abbrev the : Option (Option FileStamp) → Option FileStamp
the None = None
the (Some s) = s

put_of : (d : Directory) (kind : DepKind) (old new : Stamps) (key path : List ℕ) (stamp : Option FileStamp) → key ≡ path → Puts old new key stamp
    → stamp ≡ stamp_in d kind path → AreOf d kind old → AreOf d kind new
put_of d kind old new key path stamp same puts is before p s found = by (is_eq (slice_cmp nat_cmp key p)) refl (sym (puts p) ∙ found)
  where
    by : (t : Bool) → is_eq (slice_cmp nat_cmp key p) ≡ t → cond t (Some stamp) (stamp_at old p) ≡ Some s → s ≡ stamp_in d kind p
    by true e h = sym (ap the h) ∙ is ∙ ap (stamp_in d kind) (sym same ∙ tells_apart exact_bytes key p e)
    by false e h = before p s h

pub knows_there : (d : Directory) (n : Named) (new : Stamps) (key path : List ℕ) (stamp : Option FileStamp) → key ≡ path → Puts n.there new key stamp
    → stamp ≡ stamp_in d kinds.Exists path → IsTrueOf d n → Learned d (record n { there = new }) kinds.Exists path stamp
knows_there d n new key path stamp same puts is known = record {
  known = record {
    there = put_of d kinds.Exists n.there new key path stamp same puts is known.there;
    hashes = known.hashes;
    marks = known.marks;
    lists = known.lists;
  };
  is = is;
}

pub knows_hash : (d : Directory) (n : Named) (new : Stamps) (key path : List ℕ) (stamp : Option FileStamp) → key ≡ path → Puts n.hashes new key stamp
    → stamp ≡ stamp_in d kinds.ReadHash path → IsTrueOf d n → Learned d (record n { hashes = new }) kinds.ReadHash path stamp
knows_hash d n new key path stamp same puts is known = record {
  known = record {
    there = known.there;
    hashes = put_of d kinds.ReadHash n.hashes new key path stamp same puts is known.hashes;
    marks = known.marks;
    lists = known.lists;
  };
  is = is;
}

pub knows_mark : (d : Directory) (n : Named) (new : Stamps) (key path : List ℕ) (stamp : Option FileStamp) → key ≡ path → Puts n.marks new key stamp
    → stamp ≡ stamp_in d kinds.ReadMark path → IsTrueOf d n → Learned d (record n { marks = new }) kinds.ReadMark path stamp
knows_mark d n new key path stamp same puts is known = record {
  known = record {
    there = known.there;
    hashes = known.hashes;
    marks = put_of d kinds.ReadMark n.marks new key path stamp same puts is known.marks;
    lists = known.lists;
  };
  is = is;
}

pub knows_list : (d : Directory) (n : Named) (new : Stamps) (key path : List ℕ) (stamp : Option FileStamp) → key ≡ path → Puts n.lists new key stamp
    → stamp ≡ stamp_in d kinds.List path → IsTrueOf d n → Learned d (record n { lists = new }) kinds.List path stamp
knows_list d n new key path stamp same puts is known = record {
  known = record {
    there = known.there;
    hashes = known.hashes;
    marks = known.marks;
    lists = put_of d kinds.List n.lists new key path stamp same puts is known.lists;
  };
  is = is;
}
