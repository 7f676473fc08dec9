-- The order of canonical bytes.
use Rattle.std.specs.Prelude.{◌≡◌, ℕ, ◌<◌, ◌^◌, length, List, [], ◌∷◌, ◌++◌, cond}
use Rattle.std.specs.Int.{w64, to_be_bytes, cast_unsigned}
use Rattle.std.specs.declared.cmp.Ordering.{Ordering}
use Rattle.std.specs.Ordering.{nat_cmp, ordering_then}
use Rattle.std.specs.Cmp.Lexicographic.{slice_cmp}
use Rattle.pie_value.specs.Tree.{Tree, Trees, TUnit, TBool, TInt, TText, TPath, TList, TTuple, TNull, TBytes, count_of}
use Rattle.pie_value.specs.Canonical.{counted, enc, encs, enc_items, HasShortParts, HaveShortParts}

-- byte by byte; what ends first comes first
abbrev pub byte_order : List ℕ → List ℕ → Ordering
byte_order = slice_cmp nat_cmp

-- the first bytes decide, and where they are equal what follows them does
pub record Decides (p q : List ℕ) (o : Ordering) : Type 0 where
  pub holds : (r s : List ℕ) → byte_order (p ++ r) (q ++ s) ≡ ordering_then o (byte_order r s)

-- the byte that a value begins with
abbrev pub tag_number : Tree → ℕ
tag_number TUnit = 0
tag_number (TBool b) = 1
tag_number (TInt n) = 2
tag_number (TText bs) = 3
tag_number (TPath bs) = 4
tag_number (TList ts) = 5
tag_number (TTuple ts) = 6
tag_number TNull = 7
tag_number (TBytes bs) = 8

-- the canonical bytes after that
abbrev pub contents : Tree → List ℕ
contents TUnit = []
contents (TBool b) = cond b 1 0 ∷ []
contents (TInt n) = to_be_bytes w64 (cast_unsigned w64 n)
contents (TText bs) = counted bs
contents (TPath bs) = counted bs
contents (TList ts) = enc_items ts
contents (TTuple ts) = enc_items ts
contents TNull = []
contents (TBytes bs) = counted bs

-- an answer is the order of what two values hold, where no part is too long
abbrev pub OrdersContents : Tree → Tree → Ordering → Type 0
OrdersContents t u o = HasShortParts t → HasShortParts u → Decides (contents t) (contents u) o

-- an answer is the order of two values, where no part is too long
abbrev pub Orders : Tree → Tree → Ordering → Type 0
Orders t u o = HasShortParts t → HasShortParts u → Decides (enc t) (enc u) o

-- an answer is the order of items, where no part is too long
abbrev pub OrdersItems : Trees → Trees → Ordering → Type 0
OrdersItems ts us o = HaveShortParts ts → HaveShortParts us → Decides (encs ts) (encs us) o

-- an answer is the order of two texts behind their lengths, where neither is too long
abbrev pub OrdersTexts : List ℕ → List ℕ → Ordering → Type 0
OrdersTexts s t o = length s < 2 ^ 32 → length t < 2 ^ 32 → Decides (counted s) (counted t) o

-- an answer is the order of items behind their number, where no part is too long
abbrev pub OrdersLists : Trees → Trees → Ordering → Type 0
OrdersLists ts us o =
    count_of ts < 2 ^ 32 → count_of us < 2 ^ 32 → HaveShortParts ts → HaveShortParts us → Decides (enc_items ts) (enc_items us) o
