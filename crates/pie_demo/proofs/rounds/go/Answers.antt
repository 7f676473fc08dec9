use Rattle.std.proofs.Common.{◌≡◌, [], ◌∷◌, sym, ap, ◌∙◌, subst}
use Rattle.pie_files.specs.Directory.{Directory}
use Rattle.pie_files.specs.inner.SureFiles.{held_by}
use Rattle.pie_demo.specs.Sources.{changed_path, HasSources}
use Rattle.pie_demo.specs.Rounds.{DoesRound}
use Rattle.pie_demo.specs.inner.Steps.{BuildsNamed, Answers}
use Rattle.pie_demo.proofs.Owned.{sources_kept}
use Rattle.pie_demo.proofs.Answering.{round_done, named_keeps}
use Rattle.pie_demo.proofs.rounds.go.Goals as goal

pub returns-clause-sources : goal.returns-clause-sources
returns-clause-sources c = λ has.
    let changed : Directory = held_by c.change.new.files in
    let built : Directory = held_by c.build_named.new.files in
    let kept : HasSources c.args.seed c.args.size c.args.k built = sources_kept c.args.seed c.args.size c.args.k changed built
    (named_keeps c.from_ref.result.now changed built c.args.runs.now c.build_named.new.runs c.in_ok-was_built.was_built c.in_ok-was_built.ensures)
    (c.in_ok-path.ensures.sources has) in
    subst (HasSources c.args.seed c.args.size c.args.k) (sym (c.in_ok-is_same.ensures.same ∙ c.in_ok-copy.ensures.same)) kept

pub returns-clause-round : goal.returns-clause-round
returns-clause-round c = λ has.
    let seed = c.args.seed in
    let size = c.args.size in
    let k = c.args.k in
    let before : Directory = held_by c.args.files.now in
    let changed : Directory = held_by c.change.new.files in
    let built : Directory = held_by c.build_named.new.files in
    let copy : Directory = held_by c.in_ok-copy.copy in
    let left : Directory = held_by c.rebuilt.new.files in
    let names : c.from_ref.result.now ≡ changed_path seed size k ∷ [] = c.from_ref.ensures.value ∙ ap (λ p. p ∷ []) c.in_ok-path.ensures.path in
    let named = subst (λ ps. BuildsNamed ps changed built c.args.runs.now c.build_named.new.runs c.in_ok-was_built.was_built) names c.in_ok-was_built.ensures in
    let answer = subst (λ d. Answers c.in_ok-was_built.was_built d left c.in_ok-is_same.is_same) c.in_ok-copy.ensures.same c.in_ok-is_same.ensures.told in
    subst (λ d. DoesRound seed size k before d c.args.runs.now c.build_named.new.runs c.args.clean.now c.rebuilt.new.runs c.in_ok-live.live
    c.in_ok-is_same.is_same) (sym (c.in_ok-is_same.ensures.same ∙ c.in_ok-copy.ensures.same))
    (round_done seed size k before changed built copy left c.args.runs.now c.build_named.new.runs c.args.clean.now c.rebuilt.new.runs c.in_ok-live.live
    c.in_ok-was_built.was_built c.in_ok-is_same.is_same (c.in_ok-path.ensures.sources has) c.in_ok-path.ensures.changed named
    c.in_ok-copy.ensures.part c.in_ok-live.ensures answer)
