-- What stays where nothing was changed, asked or printed.
use Rattle.std.proofs.Common.{◌≡◌, ℕ, List, append-nil, ap, refl, sym}
use Rattle.std.specs.Prelude.{Option, None, Some}
use Rattle.pie_files.specs.declared.files.Call.{Call}
use Rattle.pie_files.specs.Directory.{Directory}
use Rattle.pie_build.specs.Left.{KeepsRest}
use Rattle.pie_project.specs.Looking.{Asks}
use Rattle.pie_cli.specs.Run.{GainsPrefix}

pub keeps_same : (before after : Option Directory) → after ≡ before → KeepsRest before after
keeps_same None after is = record { kept = tt }
keeps_same (Some d) after is = record { kept = (d, is, λ q off. refl) }

pub gains_none : (held : Option (List ℕ)) (text : List ℕ) → GainsPrefix held held text
gains_none None text = tt
gains_none (Some bytes) text = (0, ap Some (sym (append-nil bytes)))

pub asks_none : (calls : List Call) (asked : Option (List Call)) → Asks calls asked asked
asks_none calls None = tt
asks_none calls (Some asked) = (0, ap Some (sym (append-nil asked)))
