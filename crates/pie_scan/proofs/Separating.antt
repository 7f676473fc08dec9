-- The paths at which two scans differ cover what differs, where contents separate.
use Rattle.std.proofs.Common.{◌≡◌, ℕ, Bool, true, false, not, ◌&&◌, cond, List, refl, sym, ap, ◌∙◌}
use Rattle.std.specs.Prelude.{◌||◌, ◌==◌, Option, None, Some}
use Rattle.std.specs.Option.{option_map}
use Rattle.std.specs.List.{list_any}
use Rattle.std.proofs.lemmas.Bool.{eqb-true}
use Rattle.sha2.specs.Sha256.{sha256}
use Rattle.pie_base.specs.Path.{same_text, is_out, is_source, is_kept}
use Rattle.pie_record.proofs.Steps.{both_true}
use Rattle.pie_files.specs.Directory.{Directory, file_at}
use Rattle.pie_scan.specs.declared.entry.Entry.{Entry}
use Rattle.pie_scan.specs.Entries.{entry_at, same_entry, alike}
use Rattle.pie_scan.specs.Changes.{AreChanged}
use Rattle.pie_scan.specs.Scanned.{is_within, is_scanned, entry_of, entry_in, AreScanned}
use Rattle.pie_scan.specs.Covering.{IsSeparate, DiffersBelow, Covers}
use Rattle.pie_scan.proofs.Naming.{same_is}

File : Type 0
File = List ℕ × ℕ

same_file : (a b : List ℕ × ℕ) → a.0 ≡ b.0 → a.1 ≡ b.1 → a ≡ b
same_file a b p q i = (p i, q i)

not_false : (b : Bool) → not b ≡ false → b ≡ true
not_false true e = refl
not_false false e = absurd (cc)

-- entries of one path that are alike come from the same bytes and, of a source, the same mark
alike_bytes : (path : List ℕ) (a b : List ℕ × ℕ) → (sha256 a.0 ≡ sha256 b.0 → a.0 ≡ b.0) → same_entry (entry_of path a) (entry_of path b) ≡ true
    → a.0 ≡ b.0
alike_bytes path a b separate e =
    separate (same_is (sha256 a.0) (sha256 b.0) (both_true (cond (is_out path) 0 a.1 == cond (is_out path) 0 b.1) (same_text (sha256 a.0) (sha256 b.0)) e).1)

alike_mark : (path : List ℕ) (a b : List ℕ × ℕ) → is_out path ≡ false → same_entry (entry_of path a) (entry_of path b) ≡ true → a.1 ≡ b.1
alike_mark path a b source e =
    let m = eqb-true (cond (is_out path) 0 a.1) (cond (is_out path) 0 b.1)
    (both_true (cond (is_out path) 0 a.1 == cond (is_out path) 0 b.1) (same_text (sha256 a.0) (sha256 b.0)) e).0 in
    sym (ap (λ (c : Bool). cond c 0 a.1) source) ∙ m ∙ ap (λ (c : Bool). cond c 0 b.1) source

same_source : (path : List ℕ) (o n : Option (List ℕ × ℕ))
    → ((a b : List ℕ × ℕ) → o ≡ Some a → n ≡ Some b → sha256 a.0 ≡ sha256 b.0 → a.0 ≡ b.0) → is_out path ≡ false
    → alike (option_map (entry_of path) o) (option_map (entry_of path) n) ≡ true → o ≡ n
same_source path None None separate source e = refl
same_source path None (Some b) separate source e = absurd (cc)
same_source path (Some a) None separate source e = absurd (cc)
same_source path (Some a) (Some b) separate source e =
    ap (λ (f : List ℕ × ℕ). Some f) (same_file a b (alike_bytes path a b (separate a b refl refl) e) (alike_mark path a b source e))

same_output : (path : List ℕ) (o n : Option (List ℕ × ℕ))
    → ((a b : List ℕ × ℕ) → o ≡ Some a → n ≡ Some b → sha256 a.0 ≡ sha256 b.0 → a.0 ≡ b.0)
    → alike (option_map (entry_of path) o) (option_map (entry_of path) n) ≡ true
    → option_map (λ (f : List ℕ × ℕ). f.0) o ≡ option_map (λ (f : List ℕ × ℕ). f.0) n
same_output path None None separate e = refl
same_output path None (Some b) separate e = absurd (cc)
same_output path (Some a) None separate e = absurd (cc)
same_output path (Some a) (Some b) separate e = ap (λ (l : List ℕ). Some l) (alike_bytes path a b (separate a b refl refl) e)

module _ (old now : List Entry) (found : List (List ℕ)) (changed : AreChanged old now found) (before d : Directory) (tops : List (List ℕ))
    (was : AreScanned before tops old) (is : AreScanned d tops now) where
  -- at a scanned path that isn't named the entries are alike
  unnamed : (path : List ℕ) → is_scanned tops path ≡ true → list_any (same_text path) found ≡ false
      → alike (entry_in before path) (entry_in d path) ≡ true
  unnamed path scanned free =
      let here : (e : Directory) → cond (is_scanned tops path) (entry_in e path) None ≡ entry_in e path =
      λ e. ap (λ (b : Bool). cond b (entry_in e path) None) scanned in
      let all : alike (entry_at old path) (entry_at now path) ≡ true =
      not_false (alike (entry_at old path) (entry_at now path)) (sym (changed.exactly path) ∙ free) in
      ap (λ (o : Option Entry). alike o (entry_in d path)) (sym (was.each path ∙ here before))
      ∙ ap (λ (n : Option Entry). alike (entry_at old path) n) (sym (is.each path ∙ here d)) ∙ all

  pub covers : IsSeparate before d → DiffersBelow tops before d → Covers before d found
  covers separate below = record {
    sources = λ path source free. by path source free (is_within tops path) refl;
    outputs = λ path out free.
        same_output path (file_at before path) (file_at d path) (separate path)
        (unnamed path (ap (λ (b : Bool). b || (is_source path && is_within tops path)) out) free);
  }
    where
      or_true : (b : Bool) → (b || true) ≡ true
      or_true true = refl
      or_true false = refl

      no_out : (o k : Bool) → (not o && not k) ≡ true → o ≡ false
      no_out true k e = absurd (cc)
      no_out false k e = refl

      by : (path : List ℕ) → is_source path ≡ true → list_any (same_text path) found ≡ false → (b : Bool) → is_within tops path ≡ b
          → file_at before path ≡ file_at d path
      by path source free false e = below path source e
      by path source free true e =
          let scanned : is_scanned tops path ≡ true =
          ap (λ (s : Bool). is_out path || (s && is_within tops path)) source ∙ ap (λ (w : Bool). is_out path || w) e ∙ or_true (is_out path) in
          same_source path (file_at before path) (file_at d path) (separate path) (no_out (is_out path) (is_kept path) source)
          (unnamed path scanned free)

pub changed_covers : (old now : List Entry) (found : List (List ℕ)) → AreChanged old now found → (before d : Directory) (tops : List (List ℕ))
    → AreScanned before tops old → AreScanned d tops now → IsSeparate before d → DiffersBelow tops before d → Covers before d found
changed_covers old now found changed before d tops was is separate below = covers old now found changed before d tops was is separate below
