-- How the logic stores names with their values.
use Rattle.std.specs.Coded.{Coded, coded×, coded_ℕ, coded_list}
use Rattle.pie_value.specs.inner.Codes.{coded_tree}
use Rattle.pie_semantics.specs.Words.{Env}

-- names with their values
abbrev pub coded_env : Coded Env
coded_env = coded_list (coded× (coded_list coded_ℕ) coded_tree)
