-- What is known stays known, with one stamp more where none was.
use Rattle.std.proofs.Common.{◌≡◌, ℕ, Bool, true, false, cond, List, Option, Some, None, ap, sym, subst, refl, ◌∙◌}
use Rattle.std.specs.Ordering.{nat_cmp, is_eq}
use Rattle.std.specs.Cmp.Lexicographic.{slice_cmp}
use Rattle.std.proofs.lemmas.Cmp.{nat_list_cmp_total, eq_by_cmp_equiv}
use Rattle.std.proofs.lemmas.Map.Lookups.{exact_bytes}
use Rattle.std.proofs.lemmas.Map.Views.{tells_apart}
use Rattle.pie_record.specs.declared.dep.DepKind.TheVariants as kinds
use Rattle.pie_named.specs.declared.stamps.FileStamp.{FileStamp}
use Rattle.pie_named.specs.declared.stamps.Stamps.{Stamps}
use Rattle.pie_named.specs.declared.named.Named.{Named}
use Rattle.pie_named.specs.inner.Stamps.{stamp_at, Puts}
use Rattle.pie_named.specs.inner.Known.{StaysKnown, Asked}

none_is_not_some : {A : Type 0} (o : Option A) (a : A) → o ≡ None → o ≡ Some a → ⊥
none_is_not_some o a none some = cc

stays_at : (old new : Stamps) (key path : List ℕ) (stamp : Option FileStamp) → key ≡ path → stamp_at old path ≡ None → Puts old new key stamp
    → (p : List ℕ) (s : Option FileStamp) → stamp_at old p ≡ Some s → stamp_at new p ≡ Some s
stays_at old new key path stamp same none puts p s found = by (is_eq (slice_cmp nat_cmp key p)) refl
  where
    by : (t : Bool) → is_eq (slice_cmp nat_cmp key p) ≡ t → stamp_at new p ≡ Some s
    by true e = absurd (none_is_not_some (stamp_at old p) s (subst (λ q. stamp_at old q ≡ None) (sym same ∙ tells_apart exact_bytes key p e) none) found)
    by false e = puts p ∙ ap (λ t. cond t (Some stamp) (stamp_at old p)) e ∙ found

put_there : (old new : Stamps) (key path : List ℕ) (stamp : Option FileStamp) → key ≡ path → Puts old new key stamp → stamp_at new path ≡ Some stamp
put_there old new key path stamp same puts =
    puts path
    ∙ ap (λ t. cond t (Some stamp) (stamp_at old path))
    (subst (λ q. is_eq (slice_cmp nat_cmp key q) ≡ true) same ((eq_by_cmp_equiv nat_list_cmp_total).refl key))

pub asks_there : (n : Named) (new : Stamps) (key path : List ℕ) (stamp : Option FileStamp) → key ≡ path → stamp_at n.there path ≡ None
    → Puts n.there new key stamp → Asked n (record n { there = new }) kinds.Exists path stamp
asks_there n new key path stamp same none puts = record { stays = stays; known = put_there n.there new key path stamp same puts }
  where
    stays : StaysKnown n (record n { there = new })
    stays kinds.Exists p s found = stays_at n.there new key path stamp same none puts p s found
    stays kinds.ReadHash p s found = found
    stays kinds.ReadMark p s found = found
    stays kinds.Digest p s found = found
    stays kinds.List p s found = found
    stays kinds.Require p s found = found
    stays kinds.RequireHash p s found = found
    stays kinds.Run p s found = found

pub asks_hash : (n : Named) (new : Stamps) (key path : List ℕ) (stamp : Option FileStamp) → key ≡ path → stamp_at n.hashes path ≡ None
    → Puts n.hashes new key stamp → Asked n (record n { hashes = new }) kinds.ReadHash path stamp
asks_hash n new key path stamp same none puts = record { stays = stays; known = put_there n.hashes new key path stamp same puts }
  where
    stays : StaysKnown n (record n { hashes = new })
    stays kinds.Exists p s found = found
    stays kinds.ReadHash p s found = stays_at n.hashes new key path stamp same none puts p s found
    stays kinds.ReadMark p s found = found
    stays kinds.Digest p s found = stays_at n.hashes new key path stamp same none puts p s found
    stays kinds.List p s found = found
    stays kinds.Require p s found = stays_at n.hashes new key path stamp same none puts p s found
    stays kinds.RequireHash p s found = stays_at n.hashes new key path stamp same none puts p s found
    stays kinds.Run p s found = stays_at n.hashes new key path stamp same none puts p s found

pub asks_mark : (n : Named) (new : Stamps) (key path : List ℕ) (stamp : Option FileStamp) → key ≡ path → stamp_at n.marks path ≡ None
    → Puts n.marks new key stamp → Asked n (record n { marks = new }) kinds.ReadMark path stamp
asks_mark n new key path stamp same none puts = record { stays = stays; known = put_there n.marks new key path stamp same puts }
  where
    stays : StaysKnown n (record n { marks = new })
    stays kinds.Exists p s found = found
    stays kinds.ReadHash p s found = found
    stays kinds.ReadMark p s found = stays_at n.marks new key path stamp same none puts p s found
    stays kinds.Digest p s found = found
    stays kinds.List p s found = found
    stays kinds.Require p s found = found
    stays kinds.RequireHash p s found = found
    stays kinds.Run p s found = found

pub asks_list : (n : Named) (new : Stamps) (key path : List ℕ) (stamp : Option FileStamp) → key ≡ path → stamp_at n.lists path ≡ None
    → Puts n.lists new key stamp → Asked n (record n { lists = new }) kinds.List path stamp
asks_list n new key path stamp same none puts = record { stays = stays; known = put_there n.lists new key path stamp same puts }
  where
    stays : StaysKnown n (record n { lists = new })
    stays kinds.Exists p s found = found
    stays kinds.ReadHash p s found = found
    stays kinds.ReadMark p s found = found
    stays kinds.Digest p s found = found
    stays kinds.List p s found = stays_at n.lists new key path stamp same none puts p s found
    stays kinds.Require p s found = found
    stays kinds.RequireHash p s found = found
    stays kinds.Run p s found = found
