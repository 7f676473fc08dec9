-- The bytes of a text, wherever it keeps them.
use Rattle.std.specs.Prelude.{ℕ, List, string_bytes}
use Rattle.pie_base.specs.declared.text.Kept.{Kept}
use Rattle.pie_base.specs.declared.text.Kept.TheVariants.{Short, Long}

-- the bytes of a text that is kept in place, or behind a pointer
abbrev pub bytes_of : Kept → List ℕ
bytes_of (Short text) = text.bytes
bytes_of (Long text) = string_bytes text.value
