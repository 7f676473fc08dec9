-- Paths that cover what differs name all changes of the model.
use Rattle.std.proofs.Common.{◌≡◌, ℕ, Bool, true, false, cond, List, [], ◌∷◌, refl, sym, ap, ◌∙◌}
use Rattle.std.specs.Prelude.{◌||◌, Option, None, Some}
use Rattle.std.specs.Option.{option_map}
use Rattle.std.specs.List.{list_any}
use Rattle.std.specs.Str.{bytes_eq}
use Rattle.std.proofs.lemmas.Slice.Eq.{bytes_eq-Decides}
use Rattle.pie_base.specs.Path.{same_text}
use Rattle.pie_files.specs.Directory.{Directory, file_at}
use Rattle.pie_model.specs.Built.{bytes_at}
use Rattle.pie_model.specs.Paths.{among}
use Rattle.pie_model.specs.Changes.{NamesAllChanges}
use Rattle.pie_scan.proofs.Naming.{same_is, same_on}
use Rattle.pie_scan.proofs.Separating.{changed_covers}
use Rattle.pie_scan.specs.Covering.{Covers}
use Rattle.pie_earlier_laws.proofs.Pipelines.{kind_out, kind_source}
use Rattle.pie_scan_laws.specs.Naming.{CoveringNamesAllChanges, ScansNameAllChanges}

same_test : (p q : List ℕ) → bytes_eq p q ≡ same_text p q
same_test p q = by (bytes_eq p q) (same_text p q) refl refl
  where
    by : (a b : Bool) → bytes_eq p q ≡ a → same_text p q ≡ b → a ≡ b
    by true true e f = refl
    by false false e f = refl
    by true false e f = sym (same_on p q ((bytes_eq-Decides p q).0 e)) ∙ f
    by false true e f = sym e ∙ (bytes_eq-Decides p q).1 (same_is p q f)

-- a path that isn't among these isn't named
unnamed : (p : List ℕ) (found : List (List ℕ)) → among p found ≡ list_any (same_text p) found
unnamed p [] = refl
unnamed p (q ∷ found) = by (same_text p q) (same_test p q) (unnamed p found)
  where
    by : (b : Bool) → bytes_eq p q ≡ b → among p found ≡ list_any (same_text p) found → cond (bytes_eq p q) true (among p found) ≡ (b || list_any (same_text p) found)
    by true e more = ap (λ (c : Bool). cond c true (among p found)) e
    by false e more = ap (λ (c : Bool). cond c true (among p found)) e ∙ more

bytes_are : (d : Directory) (p : List ℕ) → bytes_at d p ≡ option_map (λ (f : List ℕ × ℕ). f.0) (file_at d p)
bytes_are d p = refl

pub covering : CoveringNamesAllChanges
covering before now found covers = record {
  sources = λ p source free. covers.sources p (kind_source p source) (sym (unnamed p found) ∙ free);
  provided = λ p out free.
      bytes_are before p ∙ covers.outputs p (kind_out p out) (sym (unnamed p found) ∙ free) ∙ sym (bytes_are now p);
}

pub scans : ScansNameAllChanges
scans before now tops old new found was is changed separate below =
    covering before now found (changed_covers old new found changed before now tops was is separate below)
