-- Steps and roots, one after another.
use Rattle.std.proofs.Common.{◌≡◌, ℕ, ◌+◌, ◌<◌, ◌≤◌, List, [], ◌∷◌, ◌++◌, Some, length, take, get_or, refl, sym, ap, subst, ◌∙◌, inl, inr, arith}
use Rattle.std.specs.Prelude.{slice_get}
use Rattle.std.proofs.lemmas.List.{append_assoc, append-nil, length-append, take_more, take_all}
use Rattle.std.proofs.lemmas.List.Elements.{All-append, All-push, All-weaker}
use Rattle.pie_value.specs.declared.task.Task.{Task}
use Rattle.pie_value.specs.Canonical.{IsEncodableTask}
use Rattle.pie_topdown.specs.declared.ledger.Ledger.{Ledger}
use Rattle.pie_topdown.specs.declared.builder.Builder.{Builder}
use Rattle.pie_topdown.specs.inner.Ledgers.{Grows}
use Rattle.pie_topdown.specs.inner.Roots.{AreSettled, Continues, IsSettledRoot, Started, StartsAndReuses}
use Rattle.pie_topdown.specs.inner.Turns.{Keeps, StartsOne, room}
use Rattle.pie_topdown.proofs.Keeping.{named_more, same_grows}

-- ---- the ledger

pub grows_then : (k l m : Ledger) → Grows k l → Grows l m → Grows k m
grows_then k l m g h = record {
  rest = g.rest ++ h.rest;
  names = h.names ∙ ap (λ (ts : List Task). ts ++ h.rest) g.names ∙ append_assoc k.tables.names g.rest h.rest;
  outputs = λ n o. h.outputs n (g.outputs n o);
}

pub keeps_none : (b : Builder) → Keeps b b
keeps_none b = record { plan = refl; grows = same_grows b.ledger b.ledger refl refl }

pub keeps_then : (a b c : Builder) → Keeps a b → Keeps b c → Keeps a c
keeps_then a b c f g = record {
  plan = g.plan ∙ f.plan;
  grows = grows_then a.ledger b.ledger c.ledger f.grows g.grows;
}

-- ---- the tasks that were started

pub started_none : (old : List Task) → Started old old
started_none old = record { gained = []; is = sym (append-nil old); encodable = λ i d l. absurd (omega (arith, l)) }

pub started_more : (old mid new : List Task) → Started old mid → StartsOne mid new → Started old new
started_more old mid new s (inl same) = record { gained = s.gained; is = same ∙ s.is; encodable = s.encodable }
started_more old mid new s (inr one) = record {
  gained = s.gained ++ one.0 ∷ [];
  is = one.1 ∙ ap (λ (ts : List Task). ts ++ one.0 ∷ []) s.is ∙ append_assoc old s.gained (one.0 ∷ []);
  encodable = All-push IsEncodableTask s.gained one.0 s.encodable one.2;
}

pub started_then : (old mid new : List Task) → Started old mid → Started mid new → Started old new
started_then old mid new s t = record {
  gained = s.gained ++ t.gained;
  is = t.is ∙ ap (λ (ts : List Task). ts ++ t.gained) s.is ∙ append_assoc old s.gained t.gained;
  encodable = All-append IsEncodableTask s.gained t.gained s.encodable t.encodable;
}

pub starts_none : (old : List Task) → StartsOne old old
starts_none old = inl refl

pub starts_one : (old new : List Task) (t : Task) → new ≡ old ++ t ∷ [] → IsEncodableTask t → StartsOne old new
starts_one old new t is small = inr (t, is, small)

pub one_longer : (old new : List Task) → StartsOne old new → length new ≤ length old + 1
one_longer old new (inl same) = let l = ap length same in omega (arith, l)
one_longer old new (inr one) = let l = ap length one.1 ∙ length-append old (one.0 ∷ []) in omega (arith, l)

pub starts_none_reuses_none : (runs reused : List Task) → StartsAndReuses runs runs reused reused
starts_none_reuses_none runs reused = record { started = started_none runs; few = omega arith; reused = started_none reused }

-- as many may be started as a build has room for
pub starts_and_reuses : (b c : Builder) (before after old new : List Task) → b ≡ c → room c ≤ 50000 → Started before after
    → length after ≤ length before + room b → Started old new → StartsAndReuses before after old new
starts_and_reuses b c before after old new same few started within reused = record {
  started = started;
  few =
      let places : room b ≤ 50000 = subst (λ (x : Builder). room x ≤ 50000) (sym same) few in
      omega (arith, places, within);
  reused = reused;
}

-- ---- roots

pub continues_none : (b : Builder) (runs : List Task) → Continues b b runs runs
continues_none b runs = record { plan = refl; grows = same_grows b.ledger b.ledger refl refl; spends = omega arith }

pub continues_then : (a b c : Builder) (r s t : List Task) → Continues a b r s → Continues b c s t → Continues a c r t
continues_then a b c r s t f g = record {
  plan = g.plan ∙ f.plan;
  grows = grows_then a.ledger b.ledger c.ledger f.grows g.grows;
  spends = omega (arith, f.spends, g.spends);
}

pub root_grows : (l m : Ledger) → Grows l m → (t : Task) → IsSettledRoot l t → IsSettledRoot m t
root_grows l m g t is = record {
  number = is.number;
  named = subst (λ (ts : List Task). slice_get ts is.number ≡ Some t) (sym g.names) (named_more l.tables.names g.rest t is.number is.named);
  output = g.outputs is.number is.output;
}

pub settled_none : (l : Ledger) (roots : List Task) → AreSettled l (take 0 roots)
settled_none l roots = λ i d h. absurd (omega (arith, h))

pub settled_more : (l m : Ledger) (roots : List Task) (i : ℕ) (t : Task) → Grows l m → i < length roots → t ≡ get_or roots i t → AreSettled l (take i roots)
    → IsSettledRoot m t → AreSettled m (take (i + 1) roots)
settled_more l m roots i t g inside at before one =
    subst (AreSettled m) (sym (take_more roots i t inside ∙ ap (λ (x : Task). take i roots ++ x ∷ []) (sym at)))
    (All-push (IsSettledRoot m) (take i roots) t (All-weaker (IsSettledRoot l) (IsSettledRoot m) (root_grows l m g) (take i roots) before) one)

pub settled_all : (l : Ledger) (roots : List Task) (i : ℕ) → length roots ≤ i → AreSettled l (take i roots) → AreSettled l roots
settled_all l roots i past all = subst (AreSettled l) (take_all i roots past) all
