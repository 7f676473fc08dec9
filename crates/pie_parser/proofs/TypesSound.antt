-- A type that is read is one of the grammar.
use Rattle.std.proofs.Common.{◌≡◌, ◌⊎◌, inl, inr, ℕ, zero, suc, Bool, true, cond, List, [], ◌∷◌, ◌++◌, Option, Some, None, refl, sym, subst, ap, ◌∙◌}
use Rattle.pie_parser.specs.declared.kind.Kind.{Kind}
use Rattle.pie_parser.specs.declared.kind.Kind.TheVariants as kinds
use Rattle.pie_parser.specs.declared.error.ParseFault.TheVariants.{OutOfMemory}
use Rattle.pie_parser.specs.declared.type_tree.PlainType.{PlainType}
use Rattle.pie_parser.specs.declared.tree.Name.{Name}
use Rattle.pie_parser.specs.Kinds.{is}
use Rattle.pie_parser.specs.PlainTypes.{TypeTree, PlainT, NamedT, ListT, TupleT, NullableT}
use Rattle.pie_parser.specs.TypeView.{types_of}
use Rattle.pie_parser.specs.At.{At}
use Rattle.pie_parser.specs.Places.{Parsed, Got, Miss, Parser, then_on, next, start, passed, want, open_bracket, name}
use Rattle.pie_parser.specs.inner.Turns.{Turn, Stop, Part, all_behind}
use Rattle.pie_parser.specs.TypeReading.{plain_at, keyword_by, keyword_type, named_type, list_type, another_type, tuple_type, plain_by, plain_type}
use Rattle.pie_parser.specs.TypeReading.{written_type, type_at, inner_type}
use Rattle.pie_parser.specs.TypeGrammar.{Eats, IsName, IsType, plain, nullable, IsPlain, keyword, named, listed, tuple, MoreTypes, no_more, one_more}
use Rattle.pie_parser.proofs.Readings.{is_same, chosen, got_same, as_got, missed, bound, eaten, opened, part_same, stopped, folded_behind}

-- what is read inside a bracket is a type
abbrev Inner : Parser TypeTree → Type 0
Inner inner = (s m : At) (t : TypeTree) → inner s ≡ Got t m → IsType s m t

module _ (room : ℕ) (inner : Parser TypeTree) (good : (s m : At) (t : TypeTree) → inner s ≡ Got t m → IsType s m t) where
  more_types : (xs zs : List TypeTree) (s m : At) → all_behind xs (another_type room inner) s ≡ Got zs m → (ys : List TypeTree) × MoreTypes s m ys
      × (zs ≡ xs ++ ys)
  more_types xs zs s m h = folded_behind (another_type room inner) MoreTypes (λ s. no_more) one xs zs s m h
    where
      one : (s a m : At) (x : TypeTree) (ys : List TypeTree) → another_type room inner s ≡ Part (Got x a) → MoreTypes a m ys → MoreTypes s m (x ∷ ys)
      one s a m x ys e q = elim (chosen (is (next s) kinds.Comma) (Part (inner (passed s))) Stop (Part (Got x a)) e) [
        | inl c ↦ one_more (is_same (next s) kinds.Comma c.0, refl) (good (passed s) a x (part_same c.1)) q
        | inr c ↦ stopped c.1
      ]

  list_sound : (s m : At) (t : TypeTree) → list_type room inner s ≡ Got t m → IsPlain s m t
  list_sound s m t h =
      let b = bound (open_bracket kinds.OpenSquare room s) _ t m h in
      let c = bound (inner b.1) _ t m b.3 in
      let d = bound (want kinds.CloseSquare c.1) _ t m c.3 in
      as_got (IsPlain s) d.3 (listed (opened kinds.OpenSquare room s b.1 b.0 b.2) (good b.1 c.1 c.0 c.2) (eaten kinds.CloseSquare c.1 d.1 d.0 d.2))

  tuple_sound : (s m : At) (t : TypeTree) → tuple_type room inner s ≡ Got t m → IsPlain s m t
  tuple_sound s m t h =
      let b = bound (open_bracket kinds.OpenRound room s) _ t m h in
      let c = bound (inner b.1) _ t m b.3 in
      let d = bound (want kinds.Comma c.1) _ t m c.3 in
      let f = bound (inner d.1) _ t m d.3 in
      let i = bound (all_behind (c.0 ∷ f.0 ∷ []) (another_type room inner) f.1) _ t m f.3 in
      let j = bound (want kinds.CloseRound i.1) _ t m i.3 in
      let z = more_types (c.0 ∷ f.0 ∷ []) i.0 f.1 i.1 i.2 in
      as_got (IsPlain s) (ap (λ ts. Got (TupleT (start s) j.1.past (types_of ts)) j.1) (sym z.2) ∙ j.3)
      (tuple (opened kinds.OpenRound room s b.1 b.0 b.2) (good b.1 c.1 c.0 c.2) (eaten kinds.Comma c.1 d.1 d.0 d.2) (good d.1 f.1 f.0 f.2) z.1
      (eaten kinds.CloseRound i.1 j.1 j.0 j.2))

  keyword_sound : (s m : At) (t : TypeTree) → keyword_type s ≡ Got t m → IsPlain s m t
  keyword_sound s m t h = by_plain (plain_at (next s)) refl h
    where
      by_plain : (o : Option PlainType) → plain_at (next s) ≡ o → keyword_by s o ≡ Got t m → IsPlain s m t
      by_plain (Some p) e h = as_got (IsPlain s) h (keyword e refl)
      by_plain None e h = missed h

  named_sound : (s m : At) (t : TypeTree) → named_type s ≡ Got t m → IsPlain s m t
  named_sound s m t h = let b = bound (name s) _ t m h in as_got (IsPlain s) b.3 (named b.2)

  plain_sound : (s m : At) (t : TypeTree) → plain_type room inner s ≡ Got t m → IsPlain s m t
  plain_sound s m t h = by_kind (next s) h
    where
      by_kind : (k : Kind) → plain_by room inner s k ≡ Got t m → IsPlain s m t
      by_kind kinds.OpenSquare h = list_sound s m t h
      by_kind kinds.OpenRound h = tuple_sound s m t h
      by_kind kinds.Name h = named_sound s m t h
      by_kind k h = keyword_sound s m t h

  written_sound : (s m : At) (t : TypeTree) → written_type room inner s ≡ Got t m → IsType s m t
  written_sound s m t h =
      let b = bound (plain_type room inner s) _ t m h in
      elim (chosen (is (next b.1) kinds.Question) (Got (NullableT (start s) (passed b.1).past b.0) (passed b.1)) (Got b.0 b.1) (Got t m) b.3) [
        | inl c ↦ as_got (IsType s) c.1 (nullable (plain_sound s b.1 b.0 b.2) (is_same (next b.1) kinds.Question c.0, refl))
        | inr c ↦ as_got (IsType s) c.1 (plain (plain_sound s b.1 b.0 b.2))
      ]

type_sound : (d : ℕ) (s m : At) (t : TypeTree) → type_at d s ≡ Got t m → IsType s m t
type_sound zero s m t h = written_sound zero (λ s. Miss OutOfMemory s) (λ s m t h. missed h) s m t h
type_sound (suc d) s m t h = written_sound (suc d) (type_at d) (type_sound d) s m t h

inner_sound : (d : ℕ) (s m : At) (t : TypeTree) → inner_type d s ≡ Got t m → IsType s m t
inner_sound zero s m t h = missed h
inner_sound (suc d) s m t h = type_sound d s m t h

pub type_is_written : (d : ℕ) (s m : At) (t : TypeTree) → written_type d (inner_type d) s ≡ Got t m → IsType s m t
type_is_written d s m t h = written_sound d (inner_type d) (inner_sound d) s m t h

pub plain_is_written : (d : ℕ) (s m : At) (t : TypeTree) → plain_type d (inner_type d) s ≡ Got t m → IsPlain s m t
plain_is_written d s m t h = plain_sound d (inner_type d) (inner_sound d) s m t h
