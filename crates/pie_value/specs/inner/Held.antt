-- What the two ways of holding bytes mean.
use Rattle.std.specs.Prelude.{ℕ, List}
use Rattle.pie_value.specs.declared.blob.Held.{Held}
use Rattle.pie_value.specs.declared.blob.Held.TheVariants.{Alone, Shared}

-- the bytes, held by one owner or by several
abbrev pub held_bytes : Held → List ℕ
held_bytes (Alone bytes) = bytes.items
held_bytes (Shared pointer) = pointer.value.items
