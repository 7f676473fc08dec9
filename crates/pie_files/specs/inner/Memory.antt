-- What the files in memory hold and list.
use Rattle.std.specs.Prelude.{List, [], ◌∷◌, Some}
use Rattle.pie_files.specs.declared.files.Call.{Call}
use Rattle.pie_files.specs.declared.files.Call.TheVariants.{Write, Remove, Sync}
use Rattle.pie_files.specs.declared.sure_files.Logged.{Logged}
use Rattle.pie_files.specs.declared.sure_files.Logged.TheVariants.{Put, FailsAt, Asked, Failed, Wrote, Removed, Synced}

-- the calls in a log, oldest first; to put a file is no call, nor to say which calls are to fail
abbrev pub asked_of : List Logged → List Call
asked_of [] = []
asked_of (Put path bytes mark ∷ log) = asked_of log
asked_of (FailsAt numbers ∷ log) = asked_of log
asked_of (Asked call ∷ log) = call ∷ asked_of log
asked_of (Failed call ∷ log) = call ∷ asked_of log
asked_of (Wrote path bytes mark ∷ log) = Write path (Some mark) ∷ asked_of log
asked_of (Removed path ∷ log) = Remove path ∷ asked_of log
asked_of (Synced ∷ log) = Sync ∷ asked_of log
