-- Tasks of the tests have canonical bytes.
use Rattle.std.proofs.Common.{◌≡◌, ℤ, ◌<◌, ◌≤◌, ◌^◌, List, [], ◌∷◌, ◌++◌, length, All, sym, subst, arith}
use Rattle.std.proofs.lemmas.List.Elements.{All-nil, All-push}
use Rattle.pie_value.specs.declared.task.Task.{Task}
use Rattle.pie_value.specs.Tree.{Tree, TInt, items_of}
use Rattle.pie_value.specs.Canonical.{IsEncodableTask, HaveShortParts}
use Rattle.pie_value.specs.Size.{deepest_of}

pub no_tasks : (ts : List Task) → ts ≡ [] → All IsEncodableTask ts
no_tasks ts is = subst (λ us. All IsEncodableTask us) (sym is) (All-nil IsEncodableTask)

pub one_more : (ts us : List Task) (t : Task) → us ≡ ts ++ t ∷ [] → All IsEncodableTask ts → IsEncodableTask t → All IsEncodableTask us
one_more ts us t is all one = subst (λ vs. All IsEncodableTask vs) (sym is) (All-push IsEncodableTask ts t all one)

pub one_number : (t : Task) (n : ℤ) → length t.func < 2 ^ 32 → t.args ≡ TInt n ∷ [] → IsEncodableTask t
one_number t n short is = record {
  short_name = short;
  few = subst (λ (ts : List Tree). length ts < 2 ^ 32) (sym is) (omega arith);
  shallow = subst (λ (ts : List Tree). deepest_of (items_of ts) ≤ 64) (sym is) (omega arith);
  short = subst (λ (ts : List Tree). HaveShortParts (items_of ts)) (sym is) (tt, tt);
}
