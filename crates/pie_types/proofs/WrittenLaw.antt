-- The type that is written is the one that is denoted.
use Rattle.std.proofs.Common.{◌≡◌, List, [], ◌∷◌, refl, subst}
use Rattle.std.specs.Prelude.{Ok, codes, bytes_eq}
use Rattle.std.proofs.lemmas.Slice.Eq.{bytes_eq-Decides}
use Rattle.pie_value.specs.Types.{TyTree, ListTy, TupleTy, NullableTy, BytesTy, parts_of}
use Rattle.pie_parser.specs.PlainTypes.{TypeTree, PlainT, NamedT, ListT, TupleT, NullableT, TypeTrees, NilT, ConsT}
use Rattle.pie_types.specs.Faults.{then_on}
use Rattle.pie_types.specs.Written.{plain_type, written, written_each}
use Rattle.pie_types.specs.inner.WrittenRules.{Denotes, plain, bytes, list, tuple, nullable, DenoteEach, none, one_more}
use Rattle.pie_types.proofs.Steps.{then_inv}
use Rattle.pie_types.proofs.Inversions.{ok_inj, cond_ok}

mutual
  pub written_sound : (w : TypeTree) (t : TyTree) → written w ≡ Ok t → Denotes w t
  written_sound (PlainT i j p) t h = subst (Denotes (PlainT i j p)) (ok_inj (plain_type p) t h) plain
  written_sound (NamedT i j n) t h =
      let p = cond_ok (bytes_eq n (codes "bytes")) (Ok BytesTy) _ t h in
      subst (Denotes (NamedT i j n)) (ok_inj BytesTy t p.1) (bytes ((bytes_eq-Decides n (codes "bytes")).0 p.0))
  written_sound (ListT i j w) t h =
      let p = then_inv (written w) (λ u. Ok (ListTy u)) t h in
      subst (Denotes (ListT i j w)) (ok_inj (ListTy p.0) t p.2) (list (written_sound w p.0 p.1))
  written_sound (TupleT i j ws) t h =
      let p = then_inv (written_each ws) (λ us. Ok (TupleTy (parts_of us))) t h in
      subst (Denotes (TupleT i j ws)) (ok_inj (TupleTy (parts_of p.0)) t p.2) (tuple (each_sound ws p.0 p.1))
  written_sound (NullableT i j w) t h =
      let p = then_inv (written w) (λ u. Ok (NullableTy u)) t h in
      subst (Denotes (NullableT i j w)) (ok_inj (NullableTy p.0) t p.2) (nullable (written_sound w p.0 p.1))

  each_sound : (ws : TypeTrees) (ts : List TyTree) → written_each ws ≡ Ok ts → DenoteEach ws ts
  each_sound NilT ts h = subst (DenoteEach NilT) (ok_inj [] ts h) none
  each_sound (ConsT w ws) ts h =
      let p = then_inv (written w) (λ u. then_on (written_each ws) (λ us. Ok (u ∷ us))) ts h in
      let q = then_inv (written_each ws) (λ us. Ok (p.0 ∷ us)) ts p.2 in
      subst (DenoteEach (ConsT w ws)) (ok_inj (p.0 ∷ q.0) ts q.2) (one_more (written_sound w p.0 p.1) (each_sound ws q.0 q.1))

mutual
  pub written_complete : (w : TypeTree) (t : TyTree) → Denotes w t → written w ≡ Ok t
  written_complete _ _ plain = refl
  written_complete _ _ (bytes {n = n} e) = rw ((bytes_eq-Decides n (codes "bytes")).1 e) refl
  written_complete _ _ (list {w = w} {t = t} h) = rw (written_complete w t h) refl
  written_complete _ _ (tuple {ws = ws} {ts = ts} h) = rw (each_complete ws ts h) refl
  written_complete _ _ (nullable {w = w} {t = t} h) = rw (written_complete w t h) refl

  each_complete : (ws : TypeTrees) (ts : List TyTree) → DenoteEach ws ts → written_each ws ≡ Ok ts
  each_complete _ _ none = refl
  each_complete _ _ (one_more {w = w} {ws = ws} {t = t} {ts = ts} h k) = rw (written_complete w t h, each_complete ws ts k) refl
