-- What two projects with the same sources have alike.
use Rattle.std.specs.Prelude.{◌≡◌, List}
use Rattle.pie_model.specs.Paths.{Path, kind_of}
use Rattle.pie_model.specs.declared.words.Kind.TheVariants.{Source}
use Rattle.pie_model.specs.declared.words.Answer.{Answer}
use Rattle.pie_model.specs.declared.words.Event.TheVariants.{ListOf}
use Rattle.pie_model.specs.Tasks.{Task}
use Rattle.pie_model.specs.Evaluation.{World, Project}
use Rattle.pie_model.specs.Forest.{live_evaluations}
use Rattle.pie_model.specs.Verdict.{verdict}
use Rattle.pie_model.specs.Built.{store_rows}

-- two projects have the same sources, and their tasks do the same and list source directories alone
pub record HaveSameSources (P Q : Project) : Type 0 where
  pub next : (t : Task) (answers : List Answer) → P.next t answers ≡ Q.next t answers
  pub files : (p : Path) → kind_of p ≡ Source → P.file p ≡ Q.file p
  pub entries : (d : Path) → kind_of d ≡ Source → P.entries d ≡ Q.entries d
  pub lists : (t : Task) (answers : List Answer) (d : Path) → P.next t answers ≡ ListOf d → kind_of d ≡ Source

-- their builds have the same verdict, the same evaluations of live tasks, and the same records
pub record BuildAlike (w : World) (P Q : Project) (roots : List Task) : Type 0 where
  pub verdict : verdict w P roots ≡ verdict w Q roots
  pub live : live_evaluations w P roots ≡ live_evaluations w Q roots
  pub rows : store_rows w P roots ≡ store_rows w Q roots

-- sources decide what a build comes to
abbrev pub SourcesDecide : Type 0
SourcesDecide = (w : World) (P Q : Project) (roots : List Task) → HaveSameSources P Q → BuildAlike w P Q roots
