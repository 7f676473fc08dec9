-- The commands as `clap` knows them.
use Rattle.std.specs.Prelude.{ℕ, true, List, Some, codes}
use Rattle.clap.specs.Walk.{Rule}
use Rattle.clap.specs.Simple.{App, new_app, new_rule, on_top, with_rule, with_subcommand}
use Rattle.clap.specs.declared.builder.action.ArgAction.TheVariants.{SetTrue}

-- the flag `--json`
abbrev pub json : Rule
json = record (new_rule (codes "json")) { long = Some (codes "json"); action = Some SetTrue }

-- a command of this name with the flag `--json`
abbrev pub with_json : List ℕ → App
with_json name = with_rule (new_app name) json

-- a program whose words don't begin with its own name
abbrev pub unnamed : App → App
unnamed = on_top (λ s. record s { no_binary_name = true })

-- each command is a subcommand of the program
abbrev pub commands : App
commands = with_subcommand
    (with_subcommand
    (with_subcommand
    (with_subcommand
    (with_subcommand
    (with_subcommand
    (with_subcommand
    (with_subcommand (unnamed (new_app (codes "pie"))) (new_app (codes "check")).top)
    (with_json (codes "fresh")).top)
    (with_json (codes "build")).top)
    (with_json (codes "replay")).top)
    (with_json (codes "topdown")).top)
    (new_app (codes "scan")).top)
    (new_app (codes "auto")).top)
    (new_app (codes "cached")).top
