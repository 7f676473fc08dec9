-- What the program's callees mean.
use Rattle.pie_types.specs.declared.callee.Callee.{Callee as DCallee}
use Rattle.pie_types.specs.declared.callee.Callee.TheVariants as callees
use Rattle.pie_types.specs.Calls.{Callee, ReadBytes, OfBuiltin, OfFunction}
use Rattle.pie_types.specs.inner.Shown.{heading_tree}

-- a callee
abbrev pub callee_tree : DCallee → Callee
callee_tree callees.ReadBytes = ReadBytes
callee_tree (callees.OfBuiltin b) = OfBuiltin b
callee_tree (callees.OfFunction h) = OfFunction (heading_tree h.now)
