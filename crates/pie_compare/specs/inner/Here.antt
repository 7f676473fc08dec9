-- What a record is compared with, in the words of the program.
use Rattle.std.specs.Prelude.{List}
use Rattle.pie_graph.specs.Rows.{Row}
use Rattle.pie_compare.specs.declared.present.Present.{Present}
use Rattle.pie_compare.specs.inner.Standing.{Around}

-- what a record is compared with, where the graph has these rows
abbrev pub around : {R : Type 0} → List Row → Present R → Around
around rows p = record { tables = p.tables.now; rows = rows; known = p.named.now; own = p.own.now }
