-- The canonical bytes of values and tasks: a tag, and then what the value holds.
use Rattle.std.specs.Prelude.{◌≡◌, ℕ, ◌≤◌, ◌<◌, ◌^◌, List, [], ◌∷◌, ◌++◌, length, cond, IsTrue, FitsSigned}
use Rattle.std.specs.Int.{w32, w64, to_be_bytes, cast_unsigned}
use Rattle.std.specs.Str.{IsUtf8}
use Rattle.pie_base.specs.Path.{is_path}
use Rattle.pie_value.specs.declared.task.Task.{Task}
use Rattle.pie_value.specs.Tree.{Tree, Trees, TUnit, TBool, TInt, TText, TPath, TList, TTuple, TNull, TBytes, Nil, Cons, items_of, count_of}
use Rattle.pie_value.specs.Size.{depth_of, deepest_of}

-- a number in four bytes, the highest first
unfoldable pub be32 : ℕ → List ℕ
be32 n = to_be_bytes w32 n

-- bytes behind their length
abbrev pub counted : List ℕ → List ℕ
counted bs = be32 (length bs) ++ bs

abbrev mutual
  -- the canonical bytes of a value
  pub enc : Tree → List ℕ
  enc TUnit = 0 ∷ []
  enc (TBool b) = 1 ∷ cond b 1 0 ∷ []
  enc (TInt n) = 2 ∷ to_be_bytes w64 (cast_unsigned w64 n)
  enc (TText bs) = 3 ∷ counted bs
  enc (TPath bs) = 4 ∷ counted bs
  enc (TList ts) = 5 ∷ (be32 (count_of ts) ++ encs ts)
  enc (TTuple ts) = 6 ∷ (be32 (count_of ts) ++ encs ts)
  enc TNull = 7 ∷ []
  enc (TBytes bs) = 8 ∷ counted bs

  -- the canonical bytes of items, one after another
  pub encs : Trees → List ℕ
  encs Nil = []
  encs (Cons t ts) = enc t ++ encs ts

-- the canonical bytes of items behind their number
abbrev pub enc_items : Trees → List ℕ
enc_items ts = be32 (count_of ts) ++ encs ts

-- the canonical bytes of a task: its name and its arguments
abbrev pub enc_task : Task → List ℕ
enc_task t = counted t.func ++ enc_items (items_of t.args)

abbrev mutual
  -- each text, path, blob, list and tuple in a value is short enough for its length to fit
  pub HasShortParts : Tree → Type 0
  HasShortParts TUnit = Unit {0}
  HasShortParts (TBool b) = Unit {0}
  HasShortParts (TInt n) = Unit {0}
  HasShortParts (TText bs) = length bs < 2 ^ 32
  HasShortParts (TPath bs) = length bs < 2 ^ 32
  HasShortParts (TList ts) = (count_of ts < 2 ^ 32) × HaveShortParts ts
  HasShortParts (TTuple ts) = (count_of ts < 2 ^ 32) × HaveShortParts ts
  HasShortParts TNull = Unit {0}
  HasShortParts (TBytes bs) = length bs < 2 ^ 32

  -- the same of each item
  pub HaveShortParts : Trees → Type 0
  HaveShortParts Nil = Unit {0}
  HaveShortParts (Cons t ts) = HasShortParts t × HaveShortParts ts

abbrev mutual
  -- each integer in a value has 64 bits, each text is UTF-8, and each path is a path in UTF-8
  pub HasTrueLeaves : Tree → Type 0
  HasTrueLeaves TUnit = Unit {0}
  HasTrueLeaves (TBool b) = Unit {0}
  HasTrueLeaves (TInt n) = FitsSigned w64 n
  HasTrueLeaves (TText bs) = IsUtf8 bs
  HasTrueLeaves (TPath bs) = IsUtf8 bs × IsTrue (is_path bs)
  HasTrueLeaves (TList ts) = HaveTrueLeaves ts
  HasTrueLeaves (TTuple ts) = HaveTrueLeaves ts
  HasTrueLeaves TNull = Unit {0}
  HasTrueLeaves (TBytes bs) = Unit {0}

  -- the same of each item
  pub HaveTrueLeaves : Trees → Type 0
  HaveTrueLeaves Nil = Unit {0}
  HaveTrueLeaves (Cons t ts) = HasTrueLeaves t × HaveTrueLeaves ts

-- a value that has canonical bytes: it nests at most 64 deep, and no part of it is too long
pub record IsEncodable (t : Tree) : Type 0 where
  pub shallow : depth_of t ≤ 64
  pub short : HasShortParts t

-- a task that has canonical bytes
pub record IsEncodableTask (t : Task) : Type 0 where
  pub short_name : length t.func < 2 ^ 32
  pub few : length t.args < 2 ^ 32
  pub shallow : deepest_of (items_of t.args) ≤ 64
  pub short : HaveShortParts (items_of t.args)

-- these bytes are the canonical bytes of this value
pub record IsCanonical (t : Tree) (bs : List ℕ) : Type 0 where
  pub encodable : IsEncodable t
  pub leaves : HasTrueLeaves t
  pub bytes : bs ≡ enc t

-- these bytes are the canonical bytes of this task
pub record IsCanonicalTask (t : Task) (bs : List ℕ) : Type 0 where
  pub encodable : IsEncodableTask t
  pub name : IsUtf8 t.func
  pub leaves : HaveTrueLeaves (items_of t.args)
  pub bytes : bs ≡ enc_task t
