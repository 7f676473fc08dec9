-- What the program's names, headings and callees mean.
use Rattle.std.specs.Prelude.{List, map}
use Rattle.pie_value.specs.TypeTrees.{ty_tree}
use Rattle.pie_types.specs.declared.scope.Bound.{Bound}
use Rattle.pie_types.specs.declared.headings.Heading.{Heading as DHeading}
use Rattle.pie_types.specs.Scope.{Entry}
use Rattle.pie_types.specs.Headings.{Heading}

-- a name with its type
abbrev pub entry_of : Bound → Entry
entry_of b = record { name = b.name; ty = ty_tree b.ty }

-- names with their types
abbrev pub entries_of : List Bound → List Entry
entries_of bs = map entry_of bs

-- a heading
abbrev pub heading_tree : DHeading → Heading
heading_tree h = record { name = h.name; params = h.params; result = ty_tree h.result }

-- headings
abbrev pub heading_trees : List DHeading → List Heading
heading_trees hs = map heading_tree hs
