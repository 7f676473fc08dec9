-- The file that a task is about to look at is staged, and what tasks staged that run stays.
use Rattle.std.proofs.Common.{◌≡◌, ℕ, true, false, cond, List, Option, None, Some, Result, Ok, Err, refl, sym, ap, ◌∙◌, subst}
use Rattle.std.specs.Prelude.{◌&&◌, is_some, option_map, drop, IfSome, OnOk}
use Rattle.std.specs.Ordering.{nat_cmp, is_eq}
use Rattle.std.specs.Cmp.Lexicographic.{slice_cmp}
use Rattle.std.proofs.lemmas.Map.Text.{is_eq-slice_cmp}
use Rattle.pie_base.specs.Path.{is_out}
use Rattle.pie_files.specs.Directory.{Directory, file_at}
use Rattle.pie_files.specs.declared.files.Found.{Found}
use Rattle.pie_graph.specs.declared.edges.TaskNo.{TaskNo}
use Rattle.pie_graph.specs.Rows.{Row, row_at}
use Rattle.pie_view.specs.Content.{Staged, content, is_pair, Puts}
use Rattle.pie_view.specs.Seen.{Visible, IsOnly}
use Rattle.pie_view.specs.declared.seen.Seen.{Seen}
use Rattle.pie_view.specs.declared.seen.Seen.TheVariants.{Absent, By, Clash}
use Rattle.pie_walk.specs.Marks.{mark_of}
use Rattle.pie_model.specs.Built.{bytes_at}
use Rattle.pie_model.proofs.Basics.{bytes_same, clash}
use Rattle.pie_running.proofs.Firsts.{same_number}
use Rattle.pie_core_laws.specs.Exact.{runs}
use Rattle.pie_core_laws.proofs.Exactly.{settled_not_runs}
use Rattle.pie_bottomup.specs.declared.state.Core.{Core}
use Rattle.pie_bottomup.specs.inner.Exact.{Lacks}
use Rattle.pie_bottomup.specs.inner.Fetched.{StagesFile, Fetches}
use Rattle.pie_bottomup.specs.inner.Sights.{IsStaged, SeenIsStaged}
use Rattle.pie_bottomup.proofs.ExactEvents.{puts_beside, is_there, lacking_may}

-- ---- whose file is seen

-- a content that was found
pub found_staged : {B : Type 0} (bytes : B → List ℕ) (o : Option B) (staged : Staged) (n : ℕ) (path : List ℕ) → option_map bytes o ≡ content staged n path
    → is_some o ≡ true → IsStaged staged n path
found_staged bytes (Some b) staged n path same is = (bytes b, sym same)
found_staged bytes None staged n path same is = absurd (let no : false ≡ true = is in cc)

-- and one that wasn't
pub none_staged : {B : Type 0} (bytes : B → List ℕ) (o : Option B) (staged : Staged) (n : ℕ) (path : List ℕ) → option_map bytes o ≡ content staged n path
    → is_some o ≡ false → content staged n path ≡ None
none_staged bytes (Some b) staged n path same is = absurd (let no : true ≡ false = is in cc)
none_staged bytes None staged n path same is = sym same

-- the task wrote it itself
pub own_seen : (rows : List Row) (staged : Staged) (n from : ℕ) (path : List ℕ) → IsStaged staged n path → SeenIsStaged rows staged n from path
own_seen rows staged n from path has none one only = absurd (let no : Some has.0 ≡ None = sym has.1 ∙ none in cc)

-- the one that is seen
pub one_writer : (a b : TaskNo) → By a ≡ By b → a.0 ≡ b.0
one_writer a b same = cc

-- it is of the one that is seen, if one is
pub others_seen : (rows : List Row) (staged : Staged) (n from : ℕ) (path : List ℕ) (seen : Seen)
    → IsOnly (Visible rows (drop from (row_at rows n).needs) path) seen → ((one : TaskNo) → seen ≡ By one → IsStaged staged one.0 path)
    → SeenIsStaged rows staged n from path
others_seen rows staged n from path Absent none has own one only = absurd (none one.0 only.0)
others_seen rows staged n from path (By writer) is has own one only =
    subst (λ (k : ℕ). IsStaged staged k path) (only.1 writer.0 is.0) (has writer refl)
others_seen rows staged n from path Clash two has own one only = absurd (two.4 (only.1 two.0 two.2 ∙ sym (only.1 two.1 two.3)))

-- ---- one file

pair_same : (n : ℕ) (p : List ℕ) → is_pair n p n p ≡ true
pair_same n p = ap (λ b. b && is_eq (slice_cmp nat_cmp p p)) (same_number n) ∙ is_eq-slice_cmp p p ∙ bytes_same p

pub put_stages : (held : Option Directory) (old : Core) (later : Staged) (writer : ℕ) (path bytes : List ℕ) → Puts old.stage later writer path bytes
    → StagesFile held old writer path (record old { stage = later })
put_stages held old later writer path bytes puts = record {
  beside = puts_beside old.stage later writer path bytes puts;
  staged = λ u site may e.
      (bytes, puts writer path ∙ ap (λ b. cond b (Some bytes) (content old.stage writer path)) (pair_same writer path));
}

-- what was read
pub read_at : (held : Option Directory) (d : Directory) (path : List ℕ) (found : Option Found) → held ≡ Some d
    → IfSome held (λ (x : Directory). option_map (λ (f : Found). (f.bytes.items, f.mark)) found ≡ file_at x path)
    → bytes_at d path ≡ option_map (λ (f : Found). f.bytes.items) found
read_at held d path found is at =
    by found (subst (λ (o : Option Directory). IfSome o (λ (x : Directory). option_map (λ (f : Found). (f.bytes.items, f.mark)) found ≡ file_at x path)) is at)
  where
    by : (o : Option Found) → option_map (λ (f : Found). (f.bytes.items, f.mark)) o ≡ file_at d path
        → bytes_at d path ≡ option_map (λ (f : Found). f.bytes.items) o
    by None same = ap (option_map (λ (f : List ℕ × ℕ). f.0)) (sym same)
    by (Some f) same = ap (option_map (λ (f : List ℕ × ℕ). f.0)) (sym same)

-- no file is there that could lack
pub none_stages : (held : Option Directory) (old : Core) (writer : ℕ) (path : List ℕ) (found : Option Found)
    → IfSome held (λ (d : Directory). option_map (λ (f : Found). (f.bytes.items, f.mark)) found ≡ file_at d path) → found ≡ None
    → StagesFile held old writer path old
none_stages held old writer path found at none = record {
  beside = λ k p apart. refl;
  staged = λ u site may e.
      let there = is_there u old writer path e may site.apart in
      absurd (none_some there.0
      (sym (read_at held u.directory path found site.holds at ∙ ap (option_map (λ (f : Found). f.bytes.items)) none) ∙ there.1));
}
  where
    none_some : (b : List ℕ) → None ≡ Some b → ⊥
    none_some b e = cc

-- ---- a task is about to look

-- what holds by the rows and contents of a sight holds by those of the build
pub sight_here : (P : List Row → Staged → ℕ → ℕ → Type 0) (c : Core) (task : TaskNo) (from : ℕ) (rows : List Row) (staged : Staged) (number : TaskNo) (at : ℕ)
    → rows ≡ c.frames.walk.rows → staged ≡ c.stage → number ≡ task → at ≡ from → P rows staged number.0 at → P c.frames.walk.rows c.stage task.0 from
sight_here P c task from rows staged number at rs st n f is =
    subst (λ (x : List Row). P x c.stage task.0 from) rs
    (subst (λ (x : Staged). P rows x task.0 from) st
    (subst (λ (x : TaskNo). P rows staged x.0 from) n
    (subst (λ (x : ℕ). P rows staged number.0 x) f is)))

-- the file of the one that is seen was lacking
pub fetches_file : {E : Type 0} (held : Option Directory) (c new : Core) (n from : ℕ) (path : List ℕ) (writer : ℕ) (r : Result (Unit {0}) E)
    → Lacks c.frames.walk.rows c.stage n from path writer → OnOk r (StagesFile held c writer path new) → OnOk r (Fetches held c n from path new)
fetches_file {E} held c new n from path writer r lacks = by r
  where
    by : (s : Result (Unit {0}) E) → OnOk s (StagesFile held c writer path new) → OnOk s (Fetches held c n from path new)
    by (Err x) is = tt
    by (Ok x) is = λ u site w settled e.
        let may = lacking_may c n from path writer w settled lacks in
        record {
          beside = λ k run p.
              is.beside k p
              (λ same. clash (runs (mark_of c.frames.walk.marks k)) run
              (ap (λ (m : ℕ). runs (mark_of c.frames.walk.marks m)) same ∙ settled_not_runs (mark_of c.frames.walk.marks writer) may.settled));
          seen = λ out own one only. subst (λ (k : ℕ). IsStaged new.stage k path) (only.1 writer lacks.0) (is.staged u site may e);
        }

-- none was
pub fetches_none : (held : Option Directory) (c : Core) (n from : ℕ) (path : List ℕ)
    → (is_out path ≡ true → SeenIsStaged c.frames.walk.rows c.stage n from path) → Fetches held c n from path c
fetches_none held c n from path seen = λ u site w settled e. record { beside = λ k run p. refl; seen = seen }
