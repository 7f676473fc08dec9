-- A type of the language as a plain tree.
use Rattle.std.specs.Prelude.{ℕ, List, [], ◌∷◌, ◌+◌}

mutual
  -- a type; the parts of a list, of a tuple and of what can be null are types
  pub data TyTree : Type 0 where
    UnitTy : TyTree
    BoolTy : TyTree
    IntTy : TyTree
    TextTy : TyTree
    PathTy : TyTree
    ListTy : TyTree → TyTree
    TupleTy : TyTrees → TyTree
    NullableTy : TyTree → TyTree
    BytesTy : TyTree

  -- the parts of a tuple
  pub data TyTrees : Type 0 where
    NoTy : TyTrees
    MoreTy : TyTree → TyTrees → TyTrees

-- a plain list of types as parts
abbrev pub parts_of : List TyTree → TyTrees
parts_of [] = NoTy
parts_of (t ∷ ts) = MoreTy t (parts_of ts)

abbrev mutual
  -- how many types stand in a type, itself included
  pub ty_mass : TyTree → ℕ
  ty_mass UnitTy = 1
  ty_mass BoolTy = 1
  ty_mass IntTy = 1
  ty_mass TextTy = 1
  ty_mass PathTy = 1
  ty_mass (ListTy t) = ty_mass t + 2
  ty_mass (TupleTy ts) = ty_masses ts + 2
  ty_mass (NullableTy t) = ty_mass t + 2
  ty_mass BytesTy = 1

  pub ty_masses : TyTrees → ℕ
  ty_masses NoTy = 0
  ty_masses (MoreTy t ts) = ty_mass t + ty_masses ts

-- how many types stand in a part, and one more
abbrev pub part_weight : TyTree → ℕ
part_weight t = ty_mass t + 1

-- how many types stand in some parts, and one more
abbrev pub parts_weight : List TyTree → ℕ
parts_weight ts = ty_masses (parts_of ts) + 1
