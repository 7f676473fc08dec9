use Rattle.std.proofs.Common.{◌≡◌, ap, ap₂, ◌∙◌}
use Rattle.std.proofs.lemmas.Result.{IfOk-weaker}
use Rattle.clap.specs.Words.{App, app_of, with_subcommand}
use Rattle.clap.specs.Simple.{app_of_fields}
use Rattle.pie_words.specs.inner.Grammar as spec
use Rattle.pie_words.proofs.grammar.commands.Goals as goal

pub returns : goal.returns
returns c =
    let unnamed_is : app_of c.no_binary_name-commands.result ≡ spec.unnamed (app_of c.new.result) = ap app_of_fields c.no_binary_name-commands.ensures in
    let first_is = c.in_ok-checks.ensures.shape c.new-2.ensures.local
    ∙ ap₂ with_subcommand (unnamed_is ∙ ap spec.unnamed c.new.ensures.app) (ap (λ (a : App). a.top) c.new-2.ensures.app) in
    let second_is = c.in_ok-builds.ensures.shape c.in_ok-with_json.ensures.local
    ∙ ap₂ with_subcommand first_is (ap (λ (a : App). a.top) c.in_ok-with_json.ensures.app) in
    let third_is = c.in_ok-replays.ensures.shape c.in_ok-with_json-2.ensures.local
    ∙ ap₂ with_subcommand second_is (ap (λ (a : App). a.top) c.in_ok-with_json-2.ensures.app) in
    let fourth_is = c.in_ok-topdowns.ensures.shape c.in_ok-with_json-3.ensures.local
    ∙ ap₂ with_subcommand third_is (ap (λ (a : App). a.top) c.in_ok-with_json-3.ensures.app) in
    let fifth_is = c.in_ok-scans.ensures.shape c.in_ok-with_json-4.ensures.local
    ∙ ap₂ with_subcommand fourth_is (ap (λ (a : App). a.top) c.in_ok-with_json-4.ensures.app) in
    let sixth_is = c.in_ok-autos.ensures.shape c.new-3.ensures.local
    ∙ ap₂ with_subcommand fifth_is (ap (λ (a : App). a.top) c.new-3.ensures.app) in
    let seventh_is = c.in_ok-cacheds.ensures.shape c.new-4.ensures.local
    ∙ ap₂ with_subcommand sixth_is (ap (λ (a : App). a.top) c.new-4.ensures.app) in
    IfOk-weaker c.subcommand-8.result _ _ (λ made h. h.shape c.new-5.ensures.local
    ∙ ap₂ with_subcommand seventh_is (ap (λ (a : App). a.top) c.new-5.ensures.app)) c.subcommand-8.ensures
