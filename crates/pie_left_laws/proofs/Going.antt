-- What a build leaves is what the next one begins from.
use Rattle.std.proofs.Common.{ℕ, ◌≡◌, true, false, option_map, List, sym, ◌∙◌, ap, refl}
use Rattle.pie_base.specs.Path.{same_text}
use Rattle.pie_files.specs.Directory.{Directory, file_at}
use Rattle.pie_record.specs.declared.task_record.TaskRecord.{TaskRecord}
use Rattle.pie_model.specs.Paths.{Path, among, kind_of}
use Rattle.pie_model.specs.declared.words.Kind.TheVariants.{Out, Kept, Source}
use Rattle.pie_model.specs.Built.{open_path, pending_path}
use Rattle.pie_model.specs.Changes.{NamesAllChanges}
use Rattle.pie_model.proofs.Basics.{clash, same_bytes}
use Rattle.pie_model_pipeline.specs.World.{world}
use Rattle.pie_earlier_laws.specs.Left.{AgreeButKept}
use Rattle.pie_earlier_laws.proofs.Leaving.{accepted_is_earlier}
use Rattle.pie_core_laws.specs.Update.{Update, IsUpdate, present}
use Rattle.pie_core_laws.specs.Keeping.{Separates}
use Rattle.pie_left_laws.specs.Accepted.{OutIsMet, IsAccepted}
use Rattle.pie_left_laws.specs.Placed.{IsPlaced}
use Rattle.pie_left_laws.specs.Bases.{Turn, after_accepted, after_refused}
use Rattle.pie_left_laws.proofs.Putting.{is_built, is_false, kept_open, kept_pending}

pub accepted_goes_on : (u : Update) (kept : List TaskRecord) (files : List (Path × List ℕ)) (text : List ℕ) (left : Directory) (t : Turn) → Separates u
    → OutIsMet u → IsAccepted u kept files → IsPlaced kept files text u.directory left → NamesAllChanges left t.directory t.names
    → IsUpdate (after_accepted u left t)
accepted_goes_on u kept files text left t apart met A put names = record {
  build = accepted_is_earlier world (present u) u.roots text u.directory left A.accepted (λ p k. refl) (is_built u kept files apart met A text left put);
  changes = names;
}

-- a path that more names don't name, fewer don't
unnamed : (p : Path) (few more : List Path) → (among p few ≡ true → among p more ≡ true) → among p more ≡ false → among p few ≡ false
unnamed p few more f e = is_false (among p few) (λ h. clash (among p more) (f h) e)

pub refused_goes_on : (u : Update) (refused : Directory) (list : List Path) (t : Turn) → IsUpdate u → AgreeButKept u.directory refused
    → NamesAllChanges refused t.directory list → ((p : Path) → among p u.names ≡ true → among p t.names ≡ true)
    → ((p : Path) → among p list ≡ true → among p t.names ≡ true) → IsUpdate (after_refused u t)
refused_goes_on u refused list t h same names old new = record {
  build = h.build;
  changes = record {
    sources = λ p k e.
        h.changes.sources p k (unnamed p u.names t.names (old p) e) ∙ same.sources p k ∙ names.sources p k (unnamed p list t.names (new p) e);
    provided = λ p k e.
        h.changes.provided p k (unnamed p u.names t.names (old p) e) ∙ same.provided p k ∙ names.provided p k (unnamed p list t.names (new p) e);
  };
}

-- a path of another kind than the kept ones is none of these
other_path : (p q : Path) → kind_of q ≡ Kept → (kind_of p ≡ Kept → ⊥) → same_text p q ≡ false
other_path p q k off = is_false (same_text p q) (λ e. off (ap kind_of (same_bytes p q e) ∙ k))

source_kept : Source ≡ Kept → ⊥
source_kept e = cc

out_kept : Out ≡ Kept → ⊥
out_kept e = cc

pub own_files_kept : (d e : Directory) → ((q : List ℕ) → same_text q open_path ≡ false → same_text q pending_path ≡ false → file_at e q ≡ file_at d q)
    → AgreeButKept d e
own_files_kept d e f = record {
  sources = λ p k. sym (same p (λ q. source_kept (sym k ∙ q)));
  provided = λ p k. ap (option_map (λ (x : List ℕ × ℕ). x.0)) (sym (same p (λ q. out_kept (sym k ∙ q))));
}
  where
    same : (p : Path) → (kind_of p ≡ Kept → ⊥) → file_at e p ≡ file_at d p
    same p off = f p (other_path p open_path kept_open off) (other_path p pending_path kept_pending off)
